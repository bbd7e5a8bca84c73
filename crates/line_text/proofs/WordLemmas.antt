-- Words and the single spaces between them.
use Rattle.std.proofs.Common.{◌≡◌, ℕ, ◌+◌, ◌≤◌, true, false, List, [], ◌∷◌, ◌++◌, length, sym, ap, ◌∙◌, inl, inr, arith, refl, cond}
use Rattle.std.specs.List.{position_or_len, before_first, after_first, slice_split, join_with_byte, AllByRecursion, onto_first}
use Rattle.std.proofs.lemmas.Bool.{cases_lt}
use Rattle.std.proofs.lemmas.List.{take_all, drop_all, append-nil}
use Rattle.std.proofs.lemmas.List.Sums.{fails_before_first}
use Rattle.std.proofs.lemmas.List.Splits.{slice_split_first, slice_split_none, slice_split_at}
use Rattle.line_text.specs.Words.{is_space, words_in, first_of, later, joined, HasNoSpace}

-- there is always a first word
split_some : (bytes : List ℕ) → (w : List ℕ) × (ws : List (List ℕ)) × (slice_split is_space bytes ≡ w ∷ ws)
split_some [] = ([], [], refl)
split_some (b ∷ bs) =
    elim (is_space b) as (λ t. (w : List ℕ) × (ws : List (List ℕ)) × (cond t ([] ∷ slice_split is_space bs) (onto_first b (slice_split is_space bs)) ≡ w ∷ ws)) [
      | true ↦ ([], slice_split is_space bs, refl)
      | false ↦ let s = split_some bs in (b ∷ s.0, s.1, ap (onto_first b) s.2)
    ]

no_space_at_all : (bytes : List ℕ) → length bytes ≤ position_or_len is_space bytes → slice_split is_space bytes ≡ bytes ∷ []
no_space_at_all bytes le = slice_split_none is_space bytes (λ k d lt. fails_before_first is_space bytes k d (omega arith))

pub first_of_words : (bytes : List ℕ) → first_of (words_in bytes) ≡ before_first is_space bytes
unfolding words_in
first_of_words bytes =
    elim (cases_lt (position_or_len is_space bytes) (length bytes)) [
      | inl lt ↦ ap first_of (slice_split_first is_space bytes 0 lt)
      | inr le ↦ ap first_of (no_space_at_all bytes le) ∙ sym (take_all _ bytes le)
    ]

later_of : (w : List ℕ) (bytes : List ℕ) → later (w ∷ slice_split is_space bytes) ≡ slice_split is_space bytes
later_of w bytes = let s = split_some bytes in rw s.2 refl

pub later_words : (bytes : List ℕ) → later (words_in bytes) ≡ words_in (after_first is_space bytes)
unfolding words_in
later_words bytes =
    elim (cases_lt (position_or_len is_space bytes) (length bytes)) [
      | inl lt ↦ ap later (slice_split_first is_space bytes 0 lt) ∙ later_of (before_first is_space bytes) (after_first is_space bytes)
      | inr le ↦ ap later (no_space_at_all bytes le) ∙ ap (slice_split is_space) (sym (drop_all (position_or_len is_space bytes + 1) bytes (omega arith)))
    ]

joined-is : (w : List ℕ) (ws : List (List ℕ)) → joined (w ∷ ws) ≡ join_with_byte 32 (w ∷ ws)
joined-is w [] = append-nil w
joined-is w (v ∷ ws) = ap (λ (x : List ℕ). w ++ 32 ∷ x) (joined-is v ws)

words_in-join : (w : List ℕ) (ws : List (List ℕ)) → HasNoSpace w → AllByRecursion HasNoSpace ws → words_in (join_with_byte 32 (w ∷ ws)) ≡ w ∷ ws
unfolding words_in
words_in-join w [] h hs = slice_split_none is_space w h
words_in-join w (v ∷ ws) h hs = slice_split_at is_space w 32 (join_with_byte 32 (v ∷ ws)) h refl ∙ ap (λ (x : List (List ℕ)). w ∷ x) (words_in-join v ws hs.0 hs.1)

-- words without spaces, with single spaces between them, are read again
pub words_in-joined : (w : List ℕ) (ws : List (List ℕ)) → HasNoSpace w → AllByRecursion HasNoSpace ws → words_in (joined (w ∷ ws)) ≡ w ∷ ws
words_in-joined w ws h hs = ap words_in (joined-is w ws) ∙ words_in-join w ws h hs
