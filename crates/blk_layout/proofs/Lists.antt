-- What the loops of the reader and the writer make.
use Rattle.std.proofs.Common.{◌≡◌, ℕ, zero, suc, ◌+◌, ◌*◌, ◌^◌, ◌<◌, ◌≤◌, List, [], ◌∷◌, ◌++◌, length, take, get_or, slice_index_or, slice_set, ◌≢◌, inl, inr, refl, sym, ap, ◌∙◌, arith, length-append, append_assoc}
use Rattle.std.proofs.lemmas.List.{take_more, length-take-le, get_or-set_same, get_or-set_other}
use Rattle.std.proofs.Math.Nat.{eq-or-lt_of_le}
use Rattle.blk_layout.specs.declared.segment.Segment.{Segment}
use Rattle.blk_layout.specs.Entry.{segment_of, segments_at, pages_at}
use Rattle.blk_layout.specs.Written.{segments_words, segment_words_of}

cons_eq : {A : Type 0} (x y : A) (xs ys : List A) → x ≡ y → xs ≡ ys → x ∷ xs ≡ y ∷ ys
cons_eq x y xs ys e f = cc

-- words copied one by one are those from the place on
pub copied : (n : ℕ) (xs words : List ℕ) (at : ℕ) → length xs ≡ n → ((k : ℕ) → k < n → get_or xs k 0 ≡ get_or words (at + k) 0) → xs ≡ pages_at words at n
unfolding pages_at
copied zero [] words at e h = refl
copied zero (x ∷ xs) words at e h = absurd (omega arith)
copied (suc n) [] words at e h = absurd (omega arith)
copied (suc n) (x ∷ xs) words at e h =
    let first : x ≡ get_or words at 0 = h 0 (omega arith) ∙ ap (λ k. get_or words k 0) (omega arith) in
    let rest : xs ≡ pages_at words (at + 1) n = copied n xs words (at + 1) (omega arith) (λ k lt. h (suc k) (omega arith) ∙ ap (λ i. get_or words i 0) (omega arith)) in
    cons_eq _ _ _ _ first rest

-- segments read one by one are those from the place on
pub read_in_turn : (n : ℕ) (xs : List Segment) (words : List ℕ) (at : ℕ) → length xs ≡ n → ((k : ℕ) (d : Segment) → k < n → slice_index_or xs k d ≡ segment_of (get_or words (at + 2 * k) 0) (get_or words (at + 2 * k + 1) 0)) → xs ≡ segments_at words at n
unfolding segments_at
read_in_turn zero [] words at e h = refl
read_in_turn zero (x ∷ xs) words at e h = absurd (omega arith)
read_in_turn (suc n) [] words at e h = absurd (omega arith)
read_in_turn (suc n) (x ∷ xs) words at e h =
    let first : x ≡ segment_of (get_or words at 0) (get_or words (at + 1) 0) = h 0 x (omega arith) ∙ ap (λ k. segment_of (get_or words k 0) (get_or words (k + 1) 0)) (omega arith) in
    let rest : xs ≡ segments_at words (at + 2) n = read_in_turn n xs words (at + 2) (omega arith) (λ k d lt. h (suc k) d (omega arith) ∙ ap (λ i. segment_of (get_or words i 0) (get_or words (i + 1) 0)) (omega arith)) in
    cons_eq _ _ _ _ first rest

segments_words-append : (xs ys : List Segment) → segments_words (xs ++ ys) ≡ segments_words xs ++ segments_words ys
segments_words-append [] ys = refl
segments_words-append (x ∷ xs) ys = ap (λ ws. x.gref ∷ (x.first + x.last * 2 ^ 8) ∷ ws) (segments_words-append xs ys)

length-segments_words : (xs : List Segment) → length (segments_words xs) ≡ 2 * length xs
length-segments_words [] = refl
length-segments_words (x ∷ xs) = let h = length-segments_words xs in omega arith

-- the words of the first segments are few
pub length_so_far : (old items : List ℕ) (ss : List Segment) (i : ℕ) → i ≤ length ss → items ≡ old ++ segments_words (take i ss) → length items ≡ length old + 2 * i
length_so_far old items ss i le e =
    ap length e ∙ (length-append old (segments_words (take i ss)) ∙ ap (λ n. length old + n) (length-segments_words (take i ss) ∙ ap (λ n. 2 * n) (length-take-le i ss le)))

-- and those of one segment more
pub one_more : (old items first second words : List ℕ) (ss : List Segment) (i : ℕ) (d : Segment) → i < length ss → items ≡ old ++ segments_words (take i ss) → words ≡ segment_words_of (slice_index_or ss i d) → first ≡ items ++ get_or words 0 0 ∷ [] → second ≡ first ++ get_or words 1 0 ∷ [] → second ≡ old ++ segments_words (take (i + 1) ss)
one_more old items first second words ss i d lt e w f s =
    let x = slice_index_or ss i d in
    let two : second ≡ (items ++ x.gref ∷ []) ++ (x.first + x.last * 2 ^ 8) ∷ [] = rw (s, f, w) refl in
    let more : segments_words (take (i + 1) ss) ≡ segments_words (take i ss) ++ segments_words (x ∷ []) = ap segments_words (take_more ss i d lt) ∙ segments_words-append (take i ss) (x ∷ []) in
    two ∙ (append_assoc items (x.gref ∷ []) ((x.first + x.last * 2 ^ 8) ∷ []) ∙ (ap (λ ws. ws ++ segments_words (x ∷ [])) e ∙ (append_assoc old (segments_words (take i ss)) (segments_words (x ∷ [])) ∙ ap (λ ws. old ++ ws) (sym more))))

-- one element more that is as it should be
pub set_more : (xs : List Segment) (i : ℕ) (x : Segment) (f : ℕ → Segment) → i < length xs → ((k : ℕ) (d : Segment) → k < i → slice_index_or xs k d ≡ f k) → x ≡ f i → (k : ℕ) (d : Segment) → k < i + 1 → slice_index_or (slice_set xs i x) k d ≡ f k
set_more xs i x f lt h e k d below =
    elim (eq-or-lt_of_le {n = k} {m = i} (omega arith)) [
      | inl q ↦ rw q (get_or-set_same xs i x d lt ∙ e)
      | inr less ↦ let other : k ≢ i = omega arith in get_or-set_other xs i k x d other ∙ h k d less
    ]
