use Rattle.std.proofs.Common.{◌≡◌, take}
use Rattle.request_check.specs.Words.{after_ranges}
use Rattle.request_check.proofs.words.after_ranges.Given as goal

-- what the sector holds after the ranges so far
abbrev pub invariant-loop-range : goal.invariant-loop-range
invariant-loop-range l = l.words ≡ after_ranges l.fn.before (take l.range-index l.ranges) l.sector
