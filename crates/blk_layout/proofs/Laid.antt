-- The words that the writer lays one after another are those of the table.
use Rattle.std.proofs.Common.{◌≡◌, ℕ, ◌+◌, ◌-◌, ◌*◌, ◌^◌, ◌≤◌, List, [], ◌∷◌, ◌++◌, length, replicate, refl, arith, length-append}
use Rattle.blk_base.specs.declared.operation.Abi.{Abi}
use Rattle.blk_base.specs.declared.operation.Abi.TheVariants.{X64, X32}
use Rattle.blk_layout.specs.declared.segment.Segment.{Segment}
use Rattle.blk_layout.specs.declared.request.RawRequest.TheVariants.{Direct, Discard, Indirect}
use Rattle.blk_layout.specs.Places.{places_of}
use Rattle.blk_layout.specs.Entry.{words_of}
use Rattle.blk_layout.specs.Written.{head_of, double_of, begun_of, segments_words}

-- a list of eleven is its elements
pub eleven : {A : Type 0} (P : List A → Type 0) → ((a b c d e f g h i j k : A) → P (a ∷ b ∷ c ∷ d ∷ e ∷ f ∷ g ∷ h ∷ i ∷ j ∷ k ∷ [])) → (xs : List A) → length xs ≡ 11 → P xs
eleven P each (a ∷ b ∷ c ∷ d ∷ e ∷ f ∷ g ∷ h ∷ i ∷ j ∷ k ∷ []) long = each a b c d e f g h i j k
eleven P each xs long = absurd (omega arith)

pub eight : {A : Type 0} (P : List A → Type 0) → ((a b c d e f g h : A) → P (a ∷ b ∷ c ∷ d ∷ e ∷ f ∷ g ∷ h ∷ [])) → (xs : List A) → length xs ≡ 8 → P xs
eight P each (a ∷ b ∷ c ∷ d ∷ e ∷ f ∷ g ∷ h ∷ []) long = each a b c d e f g h
eight P each xs long = absurd (omega arith)

next : {x y : ℕ} {xs ys : List ℕ} → x ≡ y → xs ≡ ys → x ∷ xs ≡ y ∷ ys
next e f = cc

-- a word of one field
one : (n : ℕ) {xs ys : List ℕ} → xs ≡ ys → n ∷ xs ≡ (n * 1 + 0) ∷ ys
one n f = next (omega arith) f

segment : (s : Segment) {xs ys : List ℕ} → xs ≡ ys → s.gref ∷ (s.first + s.last * 2 ^ 8) ∷ xs ≡ (s.gref * 1 + 0) ∷ (s.first * 1 + (s.last * 2 ^ 8 + 0)) ∷ ys
segment s f = next (omega arith) (next (omega arith) f)

head : (op second third : ℕ) {xs ys : List ℕ} → xs ≡ ys → head_of op second third ∷ xs ≡ (op * 1 + (second * 2 ^ 8 + (third * 2 ^ 16 + 0))) ∷ ys
head op second third f = next (omega arith) f

pub direct_laid : (abi : Abi) (op count device id sector : ℕ) (segments : List Segment) → length segments ≡ 11 → begun_of (places_of abi) (head_of op count device) id sector ++ segments_words segments ≡ words_of abi (Direct op count device id sector segments)
unfolding words_of
direct_laid X64 op count device id sector segments long =
    eleven (λ xs. begun_of (places_of X64) (head_of op count device) id sector ++ segments_words xs ≡ words_of X64 (Direct op count device id sector xs))
    (λ a b c d e f g h i j k. head op count device (next refl (one _ (one _ (one _ (one _ (segment a (segment b (segment c (segment d (segment e (segment f (segment g (segment h (segment i (segment j (segment k refl)))))))))))))))))
    segments long
direct_laid X32 op count device id sector segments long =
    eleven (λ xs. begun_of (places_of X32) (head_of op count device) id sector ++ segments_words xs ≡ words_of X32 (Direct op count device id sector xs))
    (λ a b c d e f g h i j k. head op count device (one _ (one _ (one _ (one _ (segment a (segment b (segment c (segment d (segment e (segment f (segment g (segment h (segment i (segment j (segment k refl))))))))))))))))
    segments long

abbrev padded : Abi → List ℕ → List ℕ
padded abi words = words ++ replicate ((places_of abi).end - length words) 0

pub discard_laid : (abi : Abi) (flag device id sector count : ℕ) → padded abi (begun_of (places_of abi) (head_of 5 flag device) id sector ++ double_of count) ≡ words_of abi (Discard flag device id sector count)
unfolding words_of
discard_laid X64 flag device id sector count = head 5 flag device (next refl (one _ (one _ (one _ (one _ (one _ (one _ refl)))))))
discard_laid X32 flag device id sector count = head 5 flag device (one _ (one _ (one _ (one _ (one _ (one _ refl))))))

pub indirect_laid : (abi : Abi) (op count device id sector : ℕ) (pages : List ℕ) → length pages ≡ 8 → padded abi ((begun_of (places_of abi) (head_of 6 op count) id sector ++ device ∷ []) ++ pages) ≡ words_of abi (Indirect op count device id sector pages)
unfolding words_of
indirect_laid X64 op count device id sector pages long =
    eight (λ xs. padded X64 ((begun_of (places_of X64) (head_of 6 op count) id sector ++ device ∷ []) ++ xs) ≡ words_of X64 (Indirect op count device id sector xs))
    (λ a b c d e f g h. head 6 op count (next refl (one _ (one _ (one _ (one _ (one _ (one _ (one _ (one _ (one _ (one _ (one _ (one _ (one _ refl)))))))))))))))
    pages long
indirect_laid X32 op count device id sector pages long =
    eight (λ xs. padded X32 ((begun_of (places_of X32) (head_of 6 op count) id sector ++ device ∷ []) ++ xs) ≡ words_of X32 (Indirect op count device id sector xs))
    (λ a b c d e f g h. head 6 op count (one _ (one _ (one _ (one _ (one _ (one _ (one _ (one _ (one _ (one _ (one _ (one _ (one _ refl))))))))))))))
    pages long

pub indirect_room : (abi : Abi) (head id sector device : ℕ) (pages : List ℕ) → length pages ≡ 8 → length ((begun_of (places_of abi) head id sector ++ device ∷ []) ++ pages) ≤ (places_of abi).end
indirect_room X64 head id sector device pages long = omega (arith, length-append (begun_of (places_of X64) head id sector ++ device ∷ []) pages)
indirect_room X32 head id sector device pages long = omega (arith, length-append (begun_of (places_of X32) head id sector ++ device ∷ []) pages)
