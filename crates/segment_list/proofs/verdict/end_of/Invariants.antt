use Rattle.std.proofs.Common.{◌≡◌, ◌+◌, ◌*◌, ◌^◌, ◌≤◌, drop}
use Rattle.segment_list.proofs.Ends.{end_over}
use Rattle.segment_list.proofs.verdict.end_of.Given as goal

-- the rest from here on ends where all end
abbrev pub invariant-loop-segment : goal.invariant-loop-segment
invariant-loop-segment l = record {
  ends : end_over l.end (drop l.segment-index l.segments) ≡ end_over l.sector l.segments;
  small : l.end ≤ 2 ^ 64 + 8 * l.segment-index;
}
