-- Where the sectors of a request lie: sector i is the i-th of its segments' sectors, in order, and disk sector `sector + i`.
use Rattle.std.specs.Prelude.{ℕ, ◌+◌, List, [], ◌∷◌, ◌++◌, map}
use Rattle.std.specs.List.{range_with_len, enumerate_from}
use Rattle.blk_layout.specs.declared.segment.Segment.{Segment}
use Rattle.segment_list.specs.declared.place.Place.{Place}
use Rattle.segment_list.specs.Segments.{length_of}

-- of each sector of these segments, in order: its segment, counted from k on, and its place in the frame
abbrev pub spots_from : ℕ → List Segment → List (ℕ × ℕ)
spots_from k [] = []
spots_from k (segment ∷ segments) =
    map (λ within. (k, within)) (range_with_len segment.first (length_of segment)) ++ spots_from (k + 1) segments

-- a disk sector with its spot
abbrev pub place_at : ℕ × (ℕ × ℕ) → Place
place_at p = record { disk = p.0; segment = p.1.0; within = p.1.1 }

-- spots of which the first lies at this disk sector, and each other one sector after the one before
abbrev pub placed_from : ℕ → List (ℕ × ℕ) → List Place
placed_from disk spots = map place_at (enumerate_from disk spots)

-- the sectors of a request from `sector` on, in order
abbrev pub places_of : ℕ → List Segment → List Place
places_of sector segments = placed_from sector (spots_from 0 segments)
