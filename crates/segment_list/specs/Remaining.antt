-- What is left to come of an extent.
use Rattle.std.specs.Prelude.{ℕ, ◌+◌, ◌-◌, ◌^◌, ◌<◌, ◌≤◌, List, [], ◌∷◌, ◌++◌, map, length}
use Rattle.std.specs.List.{range_with_len, AllByRecursion}
use Rattle.blk_layout.specs.declared.segment.Segment.{Segment}
use Rattle.segment_list.specs.declared.place.Place.{Place}
use Rattle.segment_list.specs.declared.place.Extent.TheInside.{Inside}
use Rattle.segment_list.specs.Segments.{IsSound}
use Rattle.segment_list.specs.Places.{spots_from, placed_from}

-- the first sector of the first segment, if there is one
abbrev pub first_sector : List Segment → ℕ
first_sector [] = 0
first_sector (segment ∷ segments) = segment.first

-- the spots of segments of which the first, of index k, has come as far as `within`
abbrev pub spots_left : ℕ → ℕ → List Segment → List (ℕ × ℕ)
spots_left k within [] = []
spots_left k within (segment ∷ segments) =
    map (λ w. (k, w)) (range_with_len within (segment.last + 1 - within)) ++ spots_from (k + 1) segments

-- a sector is left of the first segment
abbrev pub IsInFirstSegment : ℕ → List Segment → Type 0
IsInFirstSegment within [] = Unit {0}
IsInFirstSegment within (segment ∷ segments) = within ≤ segment.last

abbrev pub places_left : Inside → List Place
places_left e = placed_from e.disk (spots_left e.segment e.within e.rest.now)

pub record IsUnderWay (e : Inside) : Type 0 where
  pub sound : AllByRecursion IsSound e.rest.now
  pub within : IsInFirstSegment e.within e.rest.now
  pub fits : e.disk + length (spots_left e.segment e.within e.rest.now) < 2 ^ 64
  pub few : e.segment + length e.rest.now < 2 ^ 32
