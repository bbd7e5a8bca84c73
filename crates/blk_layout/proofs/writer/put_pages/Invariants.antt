use Rattle.std.proofs.Common.{◌≡◌, ◌++◌, take}
use Rattle.blk_layout.proofs.writer.put_pages.Given as goal

-- the pages so far
abbrev pub invariant-loop-page : goal.invariant-loop-page
invariant-loop-page l = l.words.items ≡ l.fn.words.items ++ take l.page-index l.pages
