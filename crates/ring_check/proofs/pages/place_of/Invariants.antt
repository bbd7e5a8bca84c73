use Rattle.std.proofs.Common.{◌≡◌, drop}
use Rattle.report_rules.specs.Ring.{page_from}
use Rattle.ring_check.proofs.pages.place_of.Given as goal

-- none of the pages so far is that mapping
abbrev pub invariant-loop-i : goal.invariant-loop-i
invariant-loop-i l = page_from 0 l.number l.pages ≡ page_from l.i l.number (drop l.i l.pages)
