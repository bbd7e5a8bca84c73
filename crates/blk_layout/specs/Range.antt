-- The ranges of a request's fields, which their types keep.
use Rattle.std.specs.Prelude.{◌≡◌, ◌≢◌, ℕ, ◌^◌, ◌<◌, List, [], ◌∷◌, length}
use Rattle.blk_layout.specs.declared.segment.Segment.{Segment}
use Rattle.blk_layout.specs.declared.request.RawRequest.{RawRequest}
use Rattle.blk_layout.specs.declared.request.RawRequest.TheVariants.{Direct, Discard, Indirect}

abbrev pub AreSegments : List Segment → Type 0
AreSegments [] = Unit {0}
AreSegments (s ∷ segments) = (s.gref < 2 ^ 32) × (s.first < 2 ^ 8) × (s.last < 2 ^ 8) × AreSegments segments

abbrev pub AreWords : List ℕ → Type 0
AreWords [] = Unit {0}
AreWords (word ∷ words) = (word < 2 ^ 32) × AreWords words

-- each field is in its range, and the operation of the direct form is none of the other two
abbrev pub IsInRange : RawRequest → Type 0
IsInRange (Direct op count device id sector segments) =
    (op < 2 ^ 8) × (op ≢ 5) × (op ≢ 6) × (count < 2 ^ 8) × (device < 2 ^ 16) × (id < 2 ^ 64) × (sector < 2 ^ 64) × (length segments ≡ 11) × AreSegments segments
IsInRange (Discard flag device id sector count) =
    (flag < 2 ^ 8) × (device < 2 ^ 16) × (id < 2 ^ 64) × (sector < 2 ^ 64) × (count < 2 ^ 64)
IsInRange (Indirect op count device id sector pages) =
    (op < 2 ^ 8) × (count < 2 ^ 16) × (device < 2 ^ 16) × (id < 2 ^ 64) × (sector < 2 ^ 64) × (length pages ≡ 8) × AreWords pages
