-- The segments of a request's entry: one for each of its frames, and no sector more than it has.
use Rattle.std.proofs.Common.{◌≡◌, ℕ, zero, suc, ◌+◌, ◌-◌, ◌*◌, ◌/◌, ◌%◌, ◌^◌, ◌<◌, ◌≤◌, Bool, true, false, List, [], ◌∷◌, length, drop, refl, ap, ◌∙◌, arith, inl, inr, add-one}
use Rattle.std.specs.Prelude.{All, Option, Some, None, map, min, sum_by, take, slice_get, nat_lt, if◌then◌else◌}
use Rattle.std.specs.List.{range_with_len, list_any}
use Rattle.std.proofs.lemmas.Bool.Decides.{nat_tests}
use Rattle.std.proofs.lemmas.Option.{slice_get-get_or}
use Rattle.std.proofs.lemmas.List.FromFn.{length-map-range_with_len, take-map-range_with_len, sum_by-map-range_with_len_more, get_or-map-range_with_len}
use Rattle.blk_layout.specs.declared.segment.Segment.{Segment}
use Rattle.blk_layout.specs.Range.{AreSegments}
use Rattle.segment_list.specs.Segments.{fails_test, length_of, sectors_of}
use Rattle.blk_front.specs.declared.request.Request.{Request}
use Rattle.blk_front.specs.Request.{is_moving, is_indirect, pages_for, frame_at, frames_for, segment_in, segment_at, segments_of, page_reference, page_references, IsShaped}
use Rattle.xen_pages.specs.Pages.{word_of}
use Rattle.machine_pipeline.proofs.Flow.{frames_of, own_segments, data_word}
use Rattle.machine_pipeline.proofs.Holds.{IsPooled}
use Rattle.machine_pipeline.proofs.HoldsWorks.{last_in}
use Rattle.machine_pipeline.proofs.Lists.{all_at}
use Rattle.std.proofs.lemmas.Bool.{cases_Bool}
use Rattle.std.proofs.Math.Seq.{drop-cons}
use Rattle.std.proofs.Math.ListN.{drop_of_length-le}

-- a list made of a function, from this place on
drop-here : {X : Type 0} (f : ℕ → X) (n i : ℕ) → i < n → drop i (map f (range_with_len 0 n)) ≡ f i ∷ drop (i + 1) (map f (range_with_len 0 n))
drop-here {X} f n i lt =
    let long = length-map-range_with_len f 0 n in
    rw (add-one, drop-cons (map f (range_with_len 0 n)) i (f i) (omega arith))
    (ap (λ (x : X). x ∷ drop (suc i) (map f (range_with_len 0 n))) (get_or-map-range_with_len f 0 n i i (f i) lt (omega arith)))

none_passes : {X : Type 0} (p : X → Bool) (f : ℕ → X) (a n : ℕ)
    → ((i : ℕ) → a ≤ i → i < a + n → p (f i) ≡ false)
    → list_any p (map f (range_with_len a n)) ≡ false
none_passes p f a zero none = refl
none_passes p f a (suc n) none = rw (none a (omega arith) (omega arith)) (none_passes p f (a + 1) n (λ i low high. none i (omega arith) (omega arith)))

all_segments : (f : ℕ → Segment) (a n : ℕ)
    → ((i : ℕ) → (let s : Segment = f i in (s.gref < 2 ^ 32) × (s.first < 2 ^ 8) × (s.last < 2 ^ 8)))
    → AreSegments (map f (range_with_len a n))
all_segments f a zero each = tt
all_segments f a (suc n) each = let its = each a in (its.0, its.1, its.2, all_segments f (a + 1) n each)

-- the segment of its frame of this place
abbrev pub frame_segment : Request → ℕ → Segment
frame_segment r place = record { gref = frame_at r place + 6; first = 0; last = last_in r place }

pub segment_is : (r : Request) (place : ℕ) → place < frames_of r → segment_at r place ≡ frame_segment r place
segment_is r place lt = ap (segment_in r.count place) (slice_get-get_or r.frames.items place 18 lt)

-- the frames of its data are the first of its frames
pub data_frames : (r : Request) (place : ℕ) → IsShaped r → place < frames_for r.count → place < frames_of r
data_frames r place shaped lt = let frames = shaped.frames in omega arith

-- a request that has a frame moves sectors
pub moves_sectors : (r : Request) (place : ℕ) → IsShaped r → place < frames_for r.count → is_moving r.transfer ≡ true
moves_sectors r place shaped within = elim (cases_Bool (is_moving r.transfer)) [ inl e ↦ e | inr e ↦ (let none = shaped.counted.none e in absurd (omega arith)) ]

-- it has no more frames than 960 segments take, and two indirect pages
pub few_pages_for : (count : ℕ) → count ≤ 7680 → pages_for count ≤ 2
few_pages_for count few = elim (is_indirect count) as (λ b. (if b then (frames_for count + 511) / 512 else 0) ≤ 2) [ true ↦ omega arith | false ↦ omega arith ]

pub few_frames : (r : Request) → IsShaped r → frames_of r ≤ 962
few_frames r shaped = omega (arith, shaped.frames, few_pages_for r.count shaped.counted.few)

-- those of a request that isn't indirect are the first that its entry has
pub own_direct : (r : Request) → frames_for r.count ≤ 11 → take (frames_for r.count) (segments_of r) ≡ own_segments r
own_direct r few = take-map-range_with_len (segment_at r) 0 11 (frames_for r.count) few

-- its segments from this place on
pub own_here : (r : Request) (place : ℕ)
    → IsShaped r
    → place < frames_for r.count
    → drop place (own_segments r) ≡ frame_segment r place ∷ drop (place + 1) (own_segments r)
own_here r place shaped lt =
    drop-here (segment_at r) (frames_for r.count) place lt ∙ ap (λ (x : Segment). x ∷ drop (place + 1) (own_segments r)) (segment_is r place (data_frames r place shaped lt))

pub own_end : (r : Request) (place : ℕ) → place ≡ frames_for r.count → drop place (own_segments r) ≡ []
own_end r place at = let long = length-map-range_with_len (segment_at r) 0 (frames_for r.count) in drop_of_length-le (own_segments r) (omega arith)

-- each is sound
pub own_sound : (r : Request) → IsShaped r → list_any fails_test (own_segments r) ≡ false
own_sound r shaped =
    none_passes fails_test (segment_at r) 0 (frames_for r.count) (λ i low lt. ap fails_test (segment_is r i (data_frames r i shaped (omega arith))) ∙ passes i)
  where
    passes : (i : ℕ) → fails_test (frame_segment r i) ≡ false
    passes i =
        let inside : nat_lt 7 (last_in r i) ≡ false = grind (arith, nat_tests) in
        let nonempty : nat_lt (last_in r i) 0 ≡ false = grind (arith, nat_tests) in
        rw (inside, nonempty) refl

-- together they have its sectors
first_sectors : (r : Request) (n : ℕ) → IsShaped r → n ≤ frames_for r.count → sum_by length_of (map (segment_at r) (range_with_len 0 n)) ≡ min (8 * n) r.count
first_sectors r zero shaped le = omega arith
first_sectors r (suc n) shaped le =
    let before = first_sectors r n shaped (omega arith) in
    let more : sum_by length_of (map (segment_at r) (range_with_len 0 (n + 1))) ≡ sum_by length_of (map (segment_at r) (range_with_len 0 n)) + length_of (segment_at r n) =
    sum_by-map-range_with_len_more length_of (segment_at r) 0 n n (omega arith) in
    let last : length_of (segment_at r n) ≡ last_in r n - 0 + 1 = ap length_of (segment_is r n (data_frames r n shaped (omega arith))) in
    let next : suc n ≡ n + 1 = omega arith in
    ap (λ (k : ℕ). sum_by length_of (map (segment_at r) (range_with_len 0 k))) next ∙ (more ∙ omega arith)

pub own_sectors : (r : Request) → IsShaped r → sectors_of (own_segments r) ≡ r.count
own_sectors r shaped = first_sectors r (frames_for r.count) shaped (omega arith) ∙ omega arith

pub own_count : (r : Request) → length (own_segments r) ≡ frames_for r.count
own_count r = length-map-range_with_len (segment_at r) 0 (frames_for r.count)

-- the references of its indirect pages from this one on
pub page_here : (r : Request) (page : ℕ) → page < 8 → drop page (page_references r) ≡ page_reference r page ∷ drop (page + 1) (page_references r)
page_here r page lt = drop-here (page_reference r) 8 page lt

-- its entry's segments have the ranges of their words
pub ranged : (r : Request) → All IsPooled r.frames.items → AreSegments (segments_of r)
ranged r pooled = all_segments (segment_at r) 0 11 (λ i. by_frame i (slice_get r.frames.items i) refl)
  where
    by_frame : (i : ℕ) (frame : Option ℕ)
        → slice_get r.frames.items i ≡ frame
        → (let s : Segment = segment_in r.count i frame in (s.gref < 2 ^ 32) × (s.first < 2 ^ 8) × (s.last < 2 ^ 8))
    by_frame i None e = (omega arith, omega arith, omega arith)
    by_frame i (Some frame) e = let its = all_at IsPooled r.frames.items i frame pooled e in (omega (arith, its.1), omega arith, omega arith)

pub eleven : (r : Request) → length (segments_of r) ≡ 11
eleven r = length-map-range_with_len (segment_at r) 0 11

-- word k of a sector of its data, by the sector's place
pub word_place : (place within moved k : ℕ)
    → within ≤ 7
    → moved ≡ 8 * place + within
    → k < 128
    → ((128 * moved + k) / 1024 ≡ place) × ((128 * moved + k) % 1024 ≡ within * 128 + k) × ((128 * moved + k) / 128 ≡ moved)
word_place place within moved k few at lt = (omega arith, omega arith, omega arith)

pub data_place : (pages : List ℕ) (r : Request) (place within moved k : ℕ)
    → within ≤ 7
    → moved ≡ 8 * place + within
    → k < 128
    → data_word pages r (128 * moved + k) ≡ word_of pages (frame_at r place) (within * 128 + k)
data_place pages r place within moved k few at lt =
    let its = word_place place within moved k few at lt in
    ap (λ (f : ℕ). word_of pages (frame_at r f) ((128 * moved + k) % 1024)) its.0 ∙ ap (λ (i : ℕ). word_of pages (frame_at r place) i) its.1
