-- How a front packs sectors: eight to a frame, from sector 0 of the frame on, so that the last frame alone may be filled in part.
use Rattle.std.specs.Prelude.{ℕ, ◌+◌, ◌-◌, ◌*◌, ◌/◌, ◌%◌, min, List, map}
use Rattle.std.specs.List.{range_with_len}
use Rattle.blk_layout.specs.declared.segment.Segment.{Segment}
use Rattle.segment_list.specs.declared.place.Place.{Place}

-- the segment of index k of so many sectors, which has no frame yet
abbrev pub packed_segment : ℕ → ℕ → Segment
packed_segment count k = record { gref = 0; first = 0; last = min 7 (count - 1 - 8 * k) }

-- the segments of so many sectors
abbrev pub cut_of : ℕ → List Segment
cut_of count = map (packed_segment count) (range_with_len 0 ((count + 7) / 8))

-- where so many sectors from `sector` on lie once they are packed: sector i in frame i / 8, as its sector i % 8
abbrev pub packed_places : ℕ → ℕ → List Place
packed_places sector count = map (λ i. record { disk = sector + i; segment = i / 8; within = i % 8 }) (range_with_len 0 count)
