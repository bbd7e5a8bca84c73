-- Sectors that are packed eight to a frame.
use Rattle.std.proofs.Common.{◌≡◌, ℕ, zero, suc, ◌+◌, ◌-◌, ◌*◌, ◌/◌, ◌%◌, ◌<◌, ◌≤◌, min, ◌∷◌, ◌++◌, map, refl, ap, sym, ◌∙◌, arith}
use Rattle.std.specs.List.{range_with_len, AllByRecursion, All}
use Rattle.std.proofs.lemmas.List.{map-append}
use Rattle.std.proofs.lemmas.List.Elements.{All-from_recursion}
use Rattle.blk_layout.specs.declared.segment.Segment.{Segment}
use Rattle.segment_list.specs.Segments.{IsSound}
use Rattle.segment_list.specs.Places.{spots_from, place_at, placed_from, places_of}
use Rattle.segment_list.specs.Cut.{packed_segment, cut_of, packed_places}
use Rattle.segment_list.proofs.Ranges.{range_with_len-add, map-ranges}

-- the sectors from 0 to last of a frame that is still to come
abbrev up_to : ℕ → Segment
up_to last = record { gref = 0; first = 0; last = last }

-- the first segment, and those of the sectors that are left
pub cut_of-step : (count n : ℕ) → 0 < count → n ≡ min count 8 → cut_of count ≡ up_to (n - 1) ∷ cut_of (count - n)
cut_of-step count n positive least =
    let many : (count + 7) / 8 ≡ suc ((count - n + 7) / 8) = omega arith in
    let here : min 7 (count - 1 - 8 * 0) ≡ n - 1 = omega arith in
    let later = map-ranges (packed_segment count) (packed_segment (count - n)) 1 0 ((count - n + 7) / 8) (λ i lt.
    let same : min 7 (count - 1 - 8 * (1 + i)) ≡ min 7 (count - n - 1 - 8 * (0 + i)) = omega arith in
    ap up_to same) in
    ap (λ m. map (packed_segment count) (range_with_len 0 m)) many
    ∙ (ap (λ last. up_to last ∷ map (packed_segment count) (range_with_len 1 ((count - n + 7) / 8))) here
    ∙ ap (λ l. up_to (n - 1) ∷ l) later)

-- the spot of sector i, where the segments' indices begin at k
abbrev packed_spot : ℕ → ℕ → ℕ × ℕ
packed_spot k i = (k + i / 8, i % 8)

same_pair : (a b c d : ℕ) → a ≡ c → b ≡ d → let p : ℕ × ℕ = (a, b) in let q : ℕ × ℕ = (c, d) in p ≡ q
same_pair a b c d e f = ap (λ x. (x, b)) e ∙ ap (λ y. (c, y)) f

spots-cut : (fuel k count : ℕ) → count ≤ fuel → spots_from k (cut_of count) ≡ map (packed_spot k) (range_with_len 0 count)
spots-cut fuel k zero le = refl
spots-cut zero k (suc c) le = absurd (omega arith)
spots-cut (suc fuel) k (suc c) le =
    let count : ℕ = suc c in
    let n : ℕ = min count 8 in
    let rest : ℕ = count - n in
    let step = cut_of-step count n (omega arith) refl in
    let size : n - 1 - 0 + 1 ≡ n = omega arith in
    let total : count ≡ n + rest = omega arith in
    let later = spots-cut fuel (k + 1) rest (omega arith) in
    let first = map-ranges (λ w. (k, w)) (packed_spot k) 0 0 n (λ i lt. same_pair k (0 + i) (k + (0 + i) / 8) ((0 + i) % 8) (omega arith) (omega arith)) in
    let second = map-ranges (packed_spot (k + 1)) (packed_spot k) 0 (0 + n) rest (λ i lt.
    same_pair (k + 1 + (0 + i) / 8) ((0 + i) % 8) (k + (0 + n + i) / 8) ((0 + n + i) % 8) (omega arith) (omega arith)) in
    ap (spots_from k) step
    ∙ (ap (λ m. map (λ w. (k, w)) (range_with_len 0 m) ++ spots_from (k + 1) (cut_of rest)) size
    ∙ (ap (λ l. map (λ w. (k, w)) (range_with_len 0 n) ++ l) (later ∙ second)
    ∙ (ap (λ l. l ++ map (packed_spot k) (range_with_len (0 + n) rest)) first
    ∙ (sym (map-append (packed_spot k) (range_with_len 0 n) (range_with_len (0 + n) rest))
    ∙ (ap (map (packed_spot k)) (sym (range_with_len-add 0 n rest))
    ∙ ap (λ m. map (packed_spot k) (range_with_len 0 m)) (sym total))))))

-- spots by number, on the disk from d on
placed-map : (h : ℕ → ℕ × ℕ) (d a n : ℕ) → placed_from d (map h (range_with_len a n)) ≡ map (λ i. place_at (d + i, h (a + i))) (range_with_len 0 n)
placed-map h d a zero = refl
placed-map h d a (suc n) =
    let disk : d ≡ d + 0 = omega arith in
    let at : a ≡ a + 0 = omega arith in
    let here : place_at (d, h a) ≡ place_at (d + 0, h (a + 0)) = ap (λ x. place_at (x, h a)) disk ∙ ap (λ x. place_at (d + 0, h x)) at in
    let later = placed-map h (d + 1) (a + 1) n ∙ map-ranges (λ i. place_at (d + 1 + i, h (a + 1 + i))) (λ i. place_at (d + i, h (a + i))) 0 1 n (λ i lt.
    let disk_on : d + 1 + (0 + i) ≡ d + (1 + i) = omega arith in
    let at_on : a + 1 + (0 + i) ≡ a + (1 + i) = omega arith in
    ap (λ x. place_at (x, h (a + 1 + (0 + i)))) disk_on ∙ ap (λ x. place_at (d + (1 + i), h x)) at_on) in
    ap (λ p. p ∷ placed_from (d + 1) (map h (range_with_len (a + 1) n))) here ∙ ap (λ l. place_at (d + 0, h (a + 0)) ∷ l) later

-- sector i lies in frame i / 8, as its sector i % 8
pub places_of-cut_of : (sector count : ℕ) → places_of sector (cut_of count) ≡ packed_places sector count
places_of-cut_of sector count =
    ap (placed_from sector) (spots-cut count 0 count (omega arith))
    ∙ (placed-map (packed_spot 0) sector 0 count
    ∙ map-ranges (λ i. place_at (sector + i, packed_spot 0 (0 + i))) (λ i. place_at (sector + i, (i / 8, i % 8))) 0 0 count (λ i lt.
    let frame : 0 + (0 + (0 + i)) / 8 ≡ (0 + i) / 8 = omega arith in
    let within : (0 + (0 + i)) % 8 ≡ (0 + i) % 8 = omega arith in
    ap (λ p. place_at (sector + (0 + i), p)) (same_pair _ _ _ _ frame within)))

sound_along : (count a n : ℕ) → AllByRecursion IsSound (map (packed_segment count) (range_with_len a n))
sound_along count a zero = tt
sound_along count a (suc n) = (record { nonempty = omega arith; inside = omega arith }, sound_along count (a + 1) n)

-- no segment is empty or goes beyond its frame
pub cut_of-sound : (count : ℕ) → All IsSound (cut_of count)
cut_of-sound count = All-from_recursion IsSound (cut_of count) (sound_along count 0 ((count + 7) / 8))
