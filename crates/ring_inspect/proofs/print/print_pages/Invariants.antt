use Rattle.std.proofs.Common.{take}
use Rattle.std.specs.List.{flat_map}
use Rattle.blk_io.specs.Outside.{TakesBytes}
use Rattle.ring_inspect.specs.Text.{page_text}
use Rattle.ring_inspect.proofs.print.print_pages.Given as goal

-- the pages so far are written
abbrev pub invariant-loop-page : goal.invariant-loop-page
invariant-loop-page g l = TakesBytes (flat_map page_text (take l.page-index l.pages)) (g.O.Sink.seen l.fn.sink) (g.O.Sink.seen l.sink)
