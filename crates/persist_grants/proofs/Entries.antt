-- Entries without one of them, or without the last.
use Rattle.std.proofs.Common.{◌≡◌, ℕ, zero, suc, ◌+◌, ◌<◌, ◌≤◌, Bool, true, false, nat_eq, List, [], ◌∷◌, ◌++◌, length, take, get_or, Option, Some, None, IsPermutation, refl, ap, ◌∙◌, subst, arith, length-take}
use Rattle.std.specs.Prelude.{remove, ◌==◌}
use Rattle.std.specs.List.{IsDistinct, AllByRecursion}
use Rattle.std.specs.Cmp.{nat_eq_equiv}
use Rattle.std.specs.Option.{option_to_list}
use Rattle.std.specs.Map.{keys_of, lookup, remove_entry}
use Rattle.blk_base.specs.declared.Mapping.{Mapping}
use Rattle.persist_grants.specs.KeptMappings.{KeptMappings, mapping_for, without, least_recent}
use Rattle.persist_grants.specs.PutBack.{makes_room, answer_of, out_of}
use Rattle.std.proofs.lemmas.List.{get_or-take, get_or_default}
use Rattle.std.proofs.lemmas.List.Sorted.{IsPermutation-remove, IsPermutation-cons, IsPermutation-middle, IsPermutation-sym, IsPermutation-trans, IsPermutation-append_comm}
use Rattle.std.proofs.lemmas.Map.{lookup-remove_entry}
use Rattle.std.proofs.lemmas.Map.Keys.{IsDistinct-tail, IsDistinct-IsPermutation, IsDistinct-from_apart, apart_from_distinct}

-- keys that differ still do without one of them
pub distinct-remove : (ks : List ℕ) (n : ℕ) → n < length ks → IsDistinct nat_eq ks → IsDistinct nat_eq (remove ks n)
distinct-remove ks n within distinct =
    let k : ℕ = get_or ks n 0 in
    let read : k ≡ get_or ks n k = get_or_default ks n 0 k within in
    IsDistinct-tail nat_eq k (remove ks n) (IsDistinct-IsPermutation nat_eq nat_eq_equiv.symm ks (k ∷ remove ks n) (IsPermutation-remove ks n k within read) distinct)

-- and so do the first of them
pub distinct-take : (n : ℕ) (ks : List ℕ) → IsDistinct nat_eq ks → IsDistinct nat_eq (take n ks)
distinct-take n ks distinct = IsDistinct-from_apart nat_eq (take n ks) (λ i j d lt within.
    let fits : length (take n ks) ≤ n = omega (arith, length-take n ks) in
    let inside : length (take n ks) ≤ length ks = omega (arith, length-take n ks) in
    let i_is = get_or-take n ks i d (omega arith) in
    let j_is = get_or-take n ks j d (omega arith) in
    rw (i_is, j_is) (apart_from_distinct nat_eq ks i j d distinct lt (omega arith)))

module _ {X : Type 0} where
  module _ (test : ℕ → Bool) where
    pub remove_entry-absent : (es : List (ℕ × X)) → lookup test es ≡ None → remove_entry test es ≡ es
    remove_entry-absent [] h = refl
    remove_entry-absent (e ∷ es) h = (elim (test e.0) as (λ b. test e.0 ≡ b → remove_entry test (e ∷ es) ≡ e ∷ es) [
      | true ↦ λ t. let h' = rw t at h in cc
      | false ↦ λ t. rw t (ap (λ l. e ∷ l) (remove_entry-absent es (rw t at h)))
    ]) refl

    pub length-remove_entry : (es : List (ℕ × X)) (x : X) → lookup test es ≡ Some x → length (remove_entry test es) + 1 ≡ length es
    length-remove_entry [] x h = cc
    length-remove_entry (e ∷ es) x h = (elim (test e.0) as (λ b. test e.0 ≡ b → length (remove_entry test (e ∷ es)) + 1 ≡ length (e ∷ es)) [
      | true ↦ λ t. rw t (omega arith)
      | false ↦ λ t. let on = length-remove_entry es x (rw t at h) in rw t (omega arith)
    ]) refl

    pub lookup-take_absent : (n : ℕ) (es : List (ℕ × X)) → lookup test es ≡ None → lookup test (take n es) ≡ None
    lookup-take_absent zero es h = refl
    lookup-take_absent (suc n) [] h = refl
    lookup-take_absent (suc n) (e ∷ es) h = (elim (test e.0) as (λ b. test e.0 ≡ b → lookup test (take (suc n) (e ∷ es)) ≡ None) [
      | true ↦ λ t. let h' = rw t at h in cc
      | false ↦ λ t. rw t (lookup-take_absent n es (rw t at h))
    ]) refl

    -- no key passes where the look-up finds none
    pub absent_keys : (es : List (ℕ × X)) → lookup test es ≡ None → AllByRecursion (λ k. test k ≡ false) (keys_of es)
    absent_keys [] h = tt
    absent_keys (e ∷ es) h = (elim (test e.0) as (λ b. test e.0 ≡ b → (test e.0 ≡ false) × AllByRecursion (λ k. test k ≡ false) (keys_of es)) [
      | true ↦ λ t. let h' = rw t at h in cc
      | false ↦ λ t. (t, absent_keys es (rw t at h))
    ]) refl

  -- a key that was removed is not found again
  pub lookup-removed : (key : ℕ) (es : List (ℕ × X)) → IsDistinct nat_eq (keys_of es) → lookup (nat_eq key) (remove_entry (nat_eq key) es) ≡ None
  lookup-removed key es distinct =
      rw (nat_eq_equiv.refl key) at (lookup-remove_entry nat_eq_equiv (nat_eq key) (λ x y t. nat_eq_equiv.congr key x y t) key es distinct)

  -- one that comes to the front
  pub IsPermutation-first : (x : X) (old out rest : List X) → IsPermutation old (out ++ rest) → IsPermutation (x ∷ old) (out ++ x ∷ rest)
  IsPermutation-first x old out rest p =
      IsPermutation-trans (x ∷ old) (x ∷ (out ++ rest)) (out ++ x ∷ rest) (IsPermutation-cons x old (out ++ rest) p)
      (IsPermutation-sym (out ++ x ∷ rest) (x ∷ (out ++ rest)) (IsPermutation-middle out x rest))

  -- what is taken from the end
  pub IsPermutation-last : (old now rest out : List X) → IsPermutation old now → now ≡ rest ++ out → IsPermutation old (out ++ rest)
  IsPermutation-last old now rest out p e =
      IsPermutation-trans old (rest ++ out) (out ++ rest) (subst (IsPermutation old) e p) (IsPermutation-append_comm rest out)

pub IsDistinct-none : IsDistinct nat_eq []
unfolding IsDistinct
IsDistinct-none = tt

-- nothing changes where there is nothing to remove
pub unchanged : (kept new : KeptMappings) (gref : ℕ) → mapping_for kept gref ≡ None → new ≡ without kept gref → new ≡ kept
unchanged kept new gref absent e = e ∙ ap (λ es. record { entries = es; cap = kept.cap }) (remove_entry-absent (nat_eq gref) kept.entries absent)

-- the mapping that makes room is the least recently used where as many are kept as may be
pub makes_room-full : (kept : KeptMappings) (gref : ℕ) → mapping_for kept gref ≡ None → (length kept.entries == kept.cap) ≡ true → makes_room kept (mapping_for kept gref) ≡ least_recent kept
makes_room-full kept gref absent full = rw (absent, full) refl

-- and there is none otherwise
pub makes_room-roomy : (kept : KeptMappings) (gref : ℕ) → mapping_for kept gref ≡ None → (length kept.entries == kept.cap) ≡ false → makes_room kept (mapping_for kept gref) ≡ None
makes_room-roomy kept gref absent roomy = rw (absent, roomy) refl

pub out_of-answer_of : (out : Option Mapping) → out_of (answer_of out) ≡ option_to_list out
out_of-answer_of None = refl
out_of-answer_of (Some mapping) = refl
