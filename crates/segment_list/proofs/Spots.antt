-- The spots of segments, one after another.
use Rattle.std.proofs.Common.{◌≡◌, ℕ, suc, ◌+◌, ◌-◌, ◌<◌, ◌≤◌, List, [], ◌∷◌, ◌++◌, map, length, refl, ap, sym, ◌∙◌, arith, length-append}
use Rattle.std.specs.List.{range_with_len, AllByRecursion}
use Rattle.std.proofs.lemmas.List.FromFn.{length-map-range_with_len}
use Rattle.std.proofs.lemmas.List.Sums.{sum_by-cons}
use Rattle.blk_layout.specs.declared.segment.Segment.{Segment}
use Rattle.segment_list.specs.Segments.{IsSound, length_of, sectors_of}
use Rattle.segment_list.specs.Places.{spots_from}
use Rattle.segment_list.specs.Remaining.{first_sector, spots_left, IsInFirstSegment}

-- all is left of segments at the first sector of the first
pub spots_left-first : (k : ℕ) (segments : List Segment) → AllByRecursion IsSound segments → spots_left k (first_sector segments) segments ≡ spots_from k segments
spots_left-first k [] sound = refl
spots_left-first k (segment ∷ segments) sound =
    let nonempty = sound.0.nonempty in
    let many : segment.last + 1 - segment.first ≡ length_of segment = omega arith in
    ap (λ n. map (λ w. (k, w)) (range_with_len segment.first n) ++ spots_from (k + 1) segments) many

pub is_within-first : (segments : List Segment) → AllByRecursion IsSound segments → IsInFirstSegment (first_sector segments) segments
is_within-first [] sound = tt
is_within-first (segment ∷ segments) sound = sound.0.nonempty

-- the next sector is of the same segment
pub spots_left-on : (k within : ℕ) (segment : Segment) (segments : List Segment) → within < segment.last → spots_left k within (segment ∷ segments) ≡ (k, within) ∷ spots_left k (within + 1) (segment ∷ segments)
spots_left-on k within segment segments lt =
    let many : segment.last + 1 - within ≡ suc (segment.last + 1 - (within + 1)) = omega arith in
    rw many refl

-- the next sector is of the next segment
pub spots_left-over : (k within : ℕ) (segment : Segment) (segments : List Segment) → within ≤ segment.last → segment.last ≤ within → AllByRecursion IsSound segments → spots_left k within (segment ∷ segments) ≡ (k, within) ∷ spots_left (k + 1) (first_sector segments) segments
spots_left-over k within segment segments le ge sound =
    let one : segment.last + 1 - within ≡ suc 0 = omega arith in
    rw one (ap (λ l. (k, within) ∷ l) (sym (spots_left-first (k + 1) segments sound)))

pub length-spots_from : (k : ℕ) (segments : List Segment) → length (spots_from k segments) ≡ sectors_of segments
length-spots_from k [] = refl
length-spots_from k (segment ∷ segments) =
    let spot : ℕ → ℕ × ℕ = λ w. (k, w) in
    length-append (map spot (range_with_len segment.first (length_of segment))) (spots_from (k + 1) segments)
    ∙ (ap (λ n. n + length (spots_from (k + 1) segments)) (length-map-range_with_len spot segment.first (length_of segment))
    ∙ (ap (λ n. length_of segment + n) (length-spots_from (k + 1) segments)
    ∙ sym (sum_by-cons length_of segment segments)))

-- one sector on within the first segment
pub left-on : (k within : ℕ) (rest : List Segment) (segment : Segment) (later : List Segment) → rest ≡ segment ∷ later → within < segment.last → spots_left k within rest ≡ (k, within) ∷ spots_left k (within + 1) rest
left-on k within rest segment later split lt = rw split (spots_left-on k within segment later lt)

pub is_within-on : (within : ℕ) (rest : List Segment) (segment : Segment) (later : List Segment) → rest ≡ segment ∷ later → within < segment.last → IsInFirstSegment (within + 1) rest
is_within-on within rest segment later split lt = rw split (omega arith)

-- over to the next segment
pub left-over : (k within : ℕ) (rest : List Segment) (segment : Segment) (later : List Segment) → rest ≡ segment ∷ later → AllByRecursion IsSound rest → IsInFirstSegment within rest → segment.last ≤ within → spots_left k within rest ≡ (k, within) ∷ spots_left (k + 1) (first_sector later) later
left-over k within rest segment later split sound at ge =
    let all = rw split at sound in
    let here = rw split at at in
    rw split (spots_left-over k within segment later here ge all.1)
