-- What is found among the keys after a text was written.
use Rattle.std.proofs.Common.{◌≡◌, ◌≢◌, ℕ, Bool, true, false, cond, List, [], ◌∷◌, Some, refl, sym, ap, ◌∙◌}
use Rattle.std.specs.BTreeMap.{is_at}
use Rattle.std.specs.Ordering.{nat_cmp}
use Rattle.std.specs.declared.cmp.Ordering.{Ordering}
use Rattle.std.specs.declared.cmp.Ordering.TheVariants.{Less, Equal, Greater}
use Rattle.std.specs.Cmp.Lexicographic.{slice_cmp}
use Rattle.std.proofs.lemmas.Map.Text.{is_eq-slice_cmp}
use Rattle.std.proofs.lemmas.Map.Lookups.{exact_bytes}
use Rattle.std.proofs.lemmas.Slice.Eq.{bytes_eq-Decides}
use Rattle.key_directory.specs.Directory.{key_of, with_key, OnlySets}

-- a path is at itself, and at no other
at_itself : (path : List ℕ) → is_at (slice_cmp nat_cmp path) path ≡ true
at_itself path = is_eq-slice_cmp path path ∙ (bytes_eq-Decides path path).1 refl

not_true : (b : Bool) → (b ≡ true → ⊥) → b ≡ false
not_true true h = absurd (h refl)
not_true false h = refl

at_no_other : (path other : List ℕ) → other ≢ path → is_at (slice_cmp nat_cmp other) path ≡ false
at_no_other path other differs = not_true _ (λ e. differs ((bytes_eq-Decides other path).0 (sym (is_eq-slice_cmp other path) ∙ e)))

-- the text last written at a path is found there
pub key_of-with_key_same : (keys : List (List ℕ × List ℕ)) (path text : List ℕ) → key_of (with_key keys path text) path ≡ Some text
key_of-with_key_same [] path text = rw (at_itself path) refl
key_of-with_key_same (e ∷ keys) path text = by_order (slice_cmp nat_cmp path e.0) refl (key_of-with_key_same keys path text)
  where
    by_order : (o : Ordering) → slice_cmp nat_cmp path e.0 ≡ o → key_of (with_key keys path text) path ≡ Some text → key_of (with_key (e ∷ keys) path text) path ≡ Some text
    by_order Less is later = rw (is, at_itself path) refl
    by_order Equal is later = rw (is, is) refl
    by_order Greater is later = rw (is, is) later

-- every other path has the text that it had
pub key_of-with_key_other : (keys : List (List ℕ × List ℕ)) (path text other : List ℕ) → other ≢ path → key_of (with_key keys path text) other ≡ key_of keys other
key_of-with_key_other [] path text other differs = rw (at_no_other path other differs) refl
key_of-with_key_other (e ∷ keys) path text other differs = by_order (slice_cmp nat_cmp path e.0) refl (key_of-with_key_other keys path text other differs)
  where
    by_order : (o : Ordering) → slice_cmp nat_cmp path e.0 ≡ o → key_of (with_key keys path text) other ≡ key_of keys other → key_of (with_key (e ∷ keys) path text) other ≡ key_of (e ∷ keys) other
    by_order Less is later = rw (is, at_no_other path other differs) refl
    by_order Equal is later =
        let same = exact_bytes path e.0 is in
        rw (is, ← same, at_no_other path other differs) refl
    by_order Greater is later = rw is (ap (λ o. cond (is_at (slice_cmp nat_cmp other) e.0) (Some e.1) o) later)

pub OnlySets-with_key : (keys : List (List ℕ × List ℕ)) (path text : List ℕ) → OnlySets keys (with_key keys path text) path text
OnlySets-with_key keys path text = record { last = key_of-with_key_same keys path text; others = λ other differs. key_of-with_key_other keys path text other differs }
