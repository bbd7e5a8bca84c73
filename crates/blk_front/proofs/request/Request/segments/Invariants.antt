use Rattle.std.proofs.Common.{◌≡◌, take, length, map}
use Rattle.std.specs.List.{range_with_len}
use Rattle.blk_front.specs.Request.{segment_at}
use Rattle.blk_front.proofs.request.Request.segments.Given as goal

-- the segments of the places so far
abbrev pub invariant-loop-place : goal.invariant-loop-place
invariant-loop-place l = record {
  eleven : length l.segments ≡ 11;
  made : take l.place l.segments ≡ map (segment_at l.self) (range_with_len 0 l.place);
}
