-- What a step took in and took out again is as it was.
use Rattle.std.proofs.Common.{length-append, ◌≡◌, ℕ, ◌-◌, Bool, true, false, List, [], ◌∷◌, ◌++◌, length, refl, ap, ◌∙◌, arith}
use Rattle.std.specs.Prelude.{Option, Some, None, Result, Ok, Err, MatchResult}
use Rattle.std.specs.declared.cmp.Ordering.{Ordering}
use Rattle.std.specs.declared.cmp.Ordering.TheVariants.{Less, Equal, Greater}
use Rattle.std.specs.Map.{lookup, set_value, remove_entry}
use Rattle.std.specs.BTreeMap.{is_at, insert_entry}
use Rattle.std.specs.Ordering.{nat_cmp}
use Rattle.std.proofs.lemmas.Bool.Decides.{nat_tests}
use Rattle.std.proofs.Math.Seq.{take-append_seam}
use Rattle.std.proofs.lemmas.Map.Steps.{set_value_same}
use Rattle.request_check.specs.declared.words.Discarded.{Discarded}
use Rattle.request_check.specs.declared.words.Single.{Single}
use Rattle.request_check.specs.Entries.{entry_at, with_entry, with_entry_by, with_old_entry}
use Rattle.request_check.specs.Words.{Known, with_single, with_old_single, with_range, without_range}
use Rattle.request_check.specs.State.{Open, with_note, with_old_note}

pub at_itself : (k : ℕ) → nat_cmp k k ≡ Equal
at_itself k = grind (arith, nat_tests)

-- an entry that was put in under a new key and taken out
removed_again : {X : Type 0} (k : ℕ) (v : X) (es : List (ℕ × X)) → lookup (is_at (nat_cmp k)) es ≡ None → remove_entry (is_at (nat_cmp k)) (insert_entry nat_cmp es k v) ≡ es
removed_again k v [] none = rw (at_itself k) refl
removed_again {X} k v (e ∷ es) none = by_order (nat_cmp k e.0) refl (removed_again k v es)
  where
    by_order : (o : Ordering) → nat_cmp k e.0 ≡ o → (lookup (is_at (nat_cmp k)) es ≡ None → remove_entry (is_at (nat_cmp k)) (insert_entry nat_cmp es k v) ≡ es) → remove_entry (is_at (nat_cmp k)) (insert_entry nat_cmp (e ∷ es) k v) ≡ e ∷ es
    by_order Less is again = rw (is, at_itself k) refl
    by_order Equal is again = absurd (let h = rw is at none in cc)
    by_order Greater is again =
        let rest : lookup (is_at (nat_cmp k)) es ≡ None = rw is at none in
        rw (is, is) (ap (λ (xs : List (ℕ × X)). e ∷ xs) (again rest))

-- the later of two values set
set_twice : {X : Type 0} (test : ℕ → Bool) (es : List (ℕ × X)) (v w : X) → set_value test (set_value test es v) w ≡ set_value test es w
set_twice test [] v w = refl
set_twice {X} test (e ∷ es) v w = by_test (test e.0) refl (set_twice test es v w)
  where
    by_test : (b : Bool) → test e.0 ≡ b → set_value test (set_value test es v) w ≡ set_value test es w → set_value test (set_value test (e ∷ es) v) w ≡ set_value test (e ∷ es) w
    by_test true is rest = rw (is, is) refl
    by_test false is rest = rw (is, is) (ap (λ (xs : List (ℕ × X)). e ∷ xs) rest)

entry_by : {X : Type 0} (es : List (ℕ × X)) (k : ℕ) (v : X) (o : Option X) → entry_at es k ≡ o → with_old_entry (with_entry_by es k v o) k o ≡ es
entry_by es k v None is = removed_again k v es is
entry_by es k v (Some old) is = set_twice (is_at (nat_cmp k)) es v old ∙ set_value_same (is_at (nat_cmp k)) es old is

pub entry_undone : {X : Type 0} (es : List (ℕ × X)) (k : ℕ) (v : X) → with_old_entry (with_entry es k v) k (entry_at es k) ≡ es
entry_undone es k v = entry_by es k v (entry_at es k) refl

pub single_undone : (known : Known) (sector : ℕ) (words : Option (List ℕ)) → with_old_single (with_single known sector words) sector (entry_at known.singles sector) ≡ known
single_undone known sector words = ap (λ (singles : List (ℕ × Single)). record known { singles = singles }) (entry_undone known.singles sector _)

pub note_undone : (o : Open) (index : ℕ) (words : List ℕ) → with_old_note (with_note o index words) index (entry_at o.noted index) ≡ o
note_undone o index words = ap (λ (noted : List (ℕ × List ℕ)). record o { noted = noted }) (entry_undone o.noted index words)

pub range_undone : (known : Known) (range : Discarded) → without_range (with_range known range) ≡ known
range_undone known range =
    let one : length (known.ranges ++ range ∷ []) - 1 ≡ length known.ranges = simp length-append (omega arith) in
    ap (λ (ranges : List Discarded). record known { ranges = ranges }) (rw one (take-append_seam known.ranges (range ∷ [])))

-- a value set where there is none
pub set_nothing : {X : Type 0} (test : ℕ → Bool) (es : List (ℕ × X)) (w : X) → lookup test es ≡ None → set_value test es w ≡ es
set_nothing test [] w none = refl
set_nothing {X} test (e ∷ es) w none = by_test (test e.0) refl (set_nothing test es w)
  where
    by_test : (b : Bool) → test e.0 ≡ b → (lookup test es ≡ None → set_value test es w ≡ es) → set_value test (e ∷ es) w ≡ e ∷ es
    by_test true is rest = absurd (let h : Some e.1 ≡ None = rw is at none in cc)
    by_test false is rest = rw is (ap (λ (xs : List (ℕ × X)). e ∷ xs) (rest (rw is at none)))

-- what holds of an outcome, from what else holds of it
pub on_either : {T E : Type 0} (r : Result T E) {P P' Q Q' : Type 0} → (P → P') → (Q → Q') → MatchResult r (λ _. P) (λ _. Q) → MatchResult r (λ _. P') (λ _. Q')
on_either (Ok x) f g h = f h
on_either (Err e) f g h = g h

pub on_either_both : {T E : Type 0} (r : Result T E) {P P' Q Q' R R' : Type 0} → (P → Q → R) → (P' → Q' → R') → MatchResult r (λ _. P) (λ _. P') → MatchResult r (λ _. Q) (λ _. Q') → MatchResult r (λ _. R) (λ _. R')
on_either_both (Ok x) f g p q = f p q
on_either_both (Err e) f g p q = g p q

pub on_either_all : {T E : Type 0} (r : Result T E) {P P' Q Q' R R' S S' : Type 0} → (P → Q → R → S) → (P' → Q' → R' → S') → MatchResult r (λ _. P) (λ _. P') → MatchResult r (λ _. Q) (λ _. Q') → MatchResult r (λ _. R) (λ _. R') → MatchResult r (λ _. S) (λ _. S')
on_either_all (Ok x) f g p q r = f p q r
on_either_all (Err e) f g p q r = g p q r
