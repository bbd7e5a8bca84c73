use Rattle.std.proofs.Common.{◌≡◌, ◌*◌, ◌-◌, ◌++◌}
use Rattle.blk_layout.specs.Entry.{segments_at}
use Rattle.report_rules.proofs.work.copied.Given as goal

-- the segments so far are read
abbrev pub invariant-loop-k : goal.invariant-loop-k
invariant-loop-k l = l.segments.items ++ segments_at l.indirect (2 * l.k) (l.count - l.k) ≡ segments_at l.indirect 0 l.count
