-- When the back reads which layout of entries it is to serve (`io/blkif.h`, XEN_IO_PROTO_ABI_*): never once a page of the ring is mapped, so that the layout stays while entries are read.
use Rattle.std.specs.Prelude.{◌≡◌, Bool, true, false, List, []}
use Rattle.blk_base.specs.declared.moves.Mover.TheVariants as mover
use Rattle.blk_base.specs.declared.moves.Move.TheVariants as moves
use Rattle.schedule_text.specs.declared.line.Line.{Line}
use Rattle.schedule_text.specs.declared.line.Line.TheVariants as lines
use Rattle.report_rules.specs.Obeys.{Obeys}
use Rattle.report_rules.specs.Ring.{is_protocol, ring_pages}

-- the back reads the front's key `protocol`
abbrev pub reads_protocol : Line → Bool
reads_protocol (lines.Move (moves.GetKey mover.Back path text)) = is_protocol path
reads_protocol line = false

-- it does so only before it maps a page of the ring in this epoch
abbrev pub IsNamedFirstAt : List Line → Line → Type 0
IsNamedFirstAt before line = reads_protocol line ≡ true → ring_pages before ≡ []

abbrev pub IsNamedFirst : List Line → Type 0
IsNamedFirst report = Obeys IsNamedFirstAt report
