-- Segments that were copied from the words of indirect pages, two words each.
use Rattle.std.proofs.Common.{◌≡◌, ℕ, zero, suc, ◌+◌, ◌*◌, ◌≤◌, true, List, [], ◌∷◌, ◌++◌, length, refl, sym, ap, ◌∙◌, length-append, arith}
use Rattle.std.specs.Prelude.{slice_index, nat_le}
use Rattle.std.proofs.lemmas.Bool.Decides.{nat_tests}
use Rattle.std.proofs.lemmas.List.{get_or_append_left, get_or-append-add}
use Rattle.blk_layout.specs.declared.segment.Segment.{Segment}
use Rattle.blk_layout.specs.Entry.{segment_of, segments_at}
use Rattle.report_rules.proofs.Copied.{no_segments, one_segment}

pub record WordsOf (segments : List Segment) (words : List ℕ) : Type 0 where
  pub long : length words ≡ 2 * length segments
  pub are : segments ≡ segments_at words 0 (length segments)

-- two more words are one more segment
push : (words : List ℕ) (n at gref sectors : ℕ) → length words ≡ at + 2 * n → segments_at (words ++ gref ∷ sectors ∷ []) at (n + 1) ≡ segments_at words at n ++ segment_of gref sectors ∷ []
push words zero at gref sectors long =
    let last : at ≡ length words + 0 = omega arith in
    let past : at + 1 ≡ length words + 1 = omega arith in
    let one : slice_index (words ++ gref ∷ sectors ∷ []) at ≡ gref = ap (λ (i : ℕ). slice_index (words ++ gref ∷ sectors ∷ []) i) last ∙ get_or-append-add words (gref ∷ sectors ∷ []) 0 0 in
    let two : slice_index (words ++ gref ∷ sectors ∷ []) (at + 1) ≡ sectors = ap (λ (i : ℕ). slice_index (words ++ gref ∷ sectors ∷ []) i) past ∙ get_or-append-add words (gref ∷ sectors ∷ []) 1 0 in
    one_segment (words ++ gref ∷ sectors ∷ []) at 0 ∙ (rw (one, two, no_segments (words ++ gref ∷ sectors ∷ []) (at + 2), no_segments words at) refl)
push words (suc n) at gref sectors long =
    let one : slice_index (words ++ gref ∷ sectors ∷ []) at ≡ slice_index words at = get_or_append_left words (gref ∷ sectors ∷ []) 0 at (omega arith) in
    let two : slice_index (words ++ gref ∷ sectors ∷ []) (at + 1) ≡ slice_index words (at + 1) = get_or_append_left words (gref ∷ sectors ∷ []) 0 (at + 1) (omega arith) in
    let next : suc n + 1 ≡ suc (n + 1) = omega arith in
    ap (λ (i : ℕ). segments_at (words ++ gref ∷ sectors ∷ []) at i) next
    ∙ (one_segment (words ++ gref ∷ sectors ∷ []) at (n + 1)
    ∙ rw (one, two, push words n (at + 2) gref sectors (omega arith), one_segment words at n) refl)

pub copied_words : (segments : List Segment) (words : List ℕ) (gref sectors : ℕ) → WordsOf segments words → WordsOf (segments ++ segment_of gref sectors ∷ []) (words ++ gref ∷ sectors ∷ [])
copied_words segments words gref sectors of =
    let one : length (segments ++ segment_of gref sectors ∷ []) ≡ length segments + 1 = length-append segments (segment_of gref sectors ∷ []) in
    let two : length (words ++ gref ∷ sectors ∷ []) ≡ length words + 2 = length-append words (gref ∷ sectors ∷ []) in
    let long = of.long in
    record {
      long = omega arith;
      are = ap (λ (l : List Segment). l ++ segment_of gref sectors ∷ []) of.are
          ∙ (sym (push words (length segments) 0 gref sectors (omega arith)) ∙ ap (λ (n : ℕ). segments_at (words ++ gref ∷ sectors ∷ []) 0 n) (sym one));
    }

-- words read later leave them
more : (words later : List ℕ) (n at : ℕ) → at + 2 * n ≤ length words → segments_at (words ++ later) at n ≡ segments_at words at n
more words later zero at le = no_segments (words ++ later) at ∙ sym (no_segments words at)
more words later (suc n) at le =
    let one : slice_index (words ++ later) at ≡ slice_index words at = get_or_append_left words later 0 at (omega arith) in
    let two : slice_index (words ++ later) (at + 1) ≡ slice_index words (at + 1) = get_or_append_left words later 0 (at + 1) (omega arith) in
    one_segment (words ++ later) at n ∙ (rw (one, two, more words later n (at + 2) (omega arith)) refl ∙ sym (one_segment words at n))

-- all were read
pub record AreRead (segments : List Segment) (count : ℕ) (all : List ℕ) : Type 0 where
  pub enough : nat_le (2 * count) (length all) ≡ true
  pub are : segments_at all 0 count ≡ segments

pub all_read : (segments : List Segment) (words later all : List ℕ) (count : ℕ) → WordsOf segments words → length segments ≡ count → all ≡ words ++ later → AreRead segments count all
all_read segments words later all count of long is = record {
  enough = enough (length segments) count (length all) (length words) (length later) of.long long (ap (λ (l : List ℕ). length l) is ∙ length-append words later);
  are = ap (λ (l : List ℕ). segments_at l 0 count) is ∙ (more words later count 0 (fits (length segments) count (length words) of.long long) ∙ sym (of.are ∙ ap (λ (n : ℕ). segments_at words 0 n) long));
}
  where
    fits : (n count words : ℕ) → words ≡ 2 * n → n ≡ count → 0 + 2 * count ≤ words
    fits n count words two same = omega arith

    enough : (n count all words later : ℕ) → words ≡ 2 * n → n ≡ count → all ≡ words + later → nat_le (2 * count) all ≡ true
    enough n count all words later two same sum = grind (arith, nat_tests)
