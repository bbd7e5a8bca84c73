-- The segments of a request (struct blkif_request_segment, `io/blkif.h`): sectors first_sect to last_sect of a frame of eight.
use Rattle.std.specs.Prelude.{ℕ, ◌+◌, ◌-◌, ◌≤◌, Bool, ◌||◌, nat_lt, List, sum_by}
use Rattle.blk_layout.specs.declared.segment.Segment.{Segment}

-- last_sect is above 7, or first_sect above last_sect
abbrev pub fails_test : Segment → Bool
fails_test segment = nat_lt 7 segment.last || nat_lt segment.last segment.first

-- a segment that passes the test: it has a sector, and none beyond its frame
pub record IsSound (segment : Segment) : Type 0 where
  pub nonempty : segment.first ≤ segment.last
  pub inside : segment.last ≤ 7

-- how many sectors a segment has
abbrev pub length_of : Segment → ℕ
length_of segment = segment.last - segment.first + 1

-- how many sectors segments have together
abbrev pub sectors_of : List Segment → ℕ
sectors_of segments = sum_by length_of segments
