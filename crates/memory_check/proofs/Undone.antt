-- What a step took in and took out again is as it was.
use Rattle.std.proofs.Common.{◌≡◌, ℕ, Bool, true, false, ◌||◌, List, [], ◌∷◌, refl, ap, arith}
use Rattle.std.specs.Prelude.{is_some, is_err, Result, Ok, Err, MatchResult}
use Rattle.std.specs.declared.cmp.Ordering.{Ordering}
use Rattle.std.specs.declared.cmp.Ordering.TheVariants.{Less, Equal, Greater}
use Rattle.std.specs.List.{list_any}
use Rattle.std.specs.Map.{lookup, remove_entry}
use Rattle.std.specs.Set.{remove_key}
use Rattle.std.specs.BTreeMap.{is_at, insert_entry}
use Rattle.std.specs.BTreeSet.{insert_key}
use Rattle.std.specs.Ordering.{nat_cmp}
use Rattle.std.proofs.lemmas.Bool.Decides.{nat_tests}
use Rattle.report_rules.specs.declared.standing.Standing.{Standing}
use Rattle.memory_check.specs.Words.{WordValues}
use Rattle.memory_check.specs.Numbers.{NumberSet, has, is_in_run, is_apart, wants_no_place, with_apart, without_apart}
use Rattle.memory_check.specs.State.{State, standing_at, with_standing, without_standing}

at_itself : (k : ℕ) → nat_cmp k k ≡ Equal
at_itself k = grind (arith, nat_tests)

-- an entry that was put in under a new key and taken out
pub removed_again : {X : Type 0} (k : ℕ) (v : X) (es : List (ℕ × X)) → is_some (lookup (is_at (nat_cmp k)) es) ≡ false → remove_entry (is_at (nat_cmp k)) (insert_entry nat_cmp es k v) ≡ es
removed_again k v [] none = rw (at_itself k) refl
removed_again {X} k v (e ∷ es) none = by_order (nat_cmp k e.0) refl (removed_again k v es)
  where
    by_order : (o : Ordering) → nat_cmp k e.0 ≡ o → (is_some (lookup (is_at (nat_cmp k)) es) ≡ false → remove_entry (is_at (nat_cmp k)) (insert_entry nat_cmp es k v) ≡ es) → remove_entry (is_at (nat_cmp k)) (insert_entry nat_cmp (e ∷ es) k v) ≡ e ∷ es
    by_order Less is again = rw (is, at_itself k) refl
    by_order Equal is again = absurd (let h = rw is at none in cc)
    by_order Greater is again =
        let rest : is_some (lookup (is_at (nat_cmp k)) es) ≡ false = rw is at none in
        rw (is, is) (ap (λ (xs : List (ℕ × X)). e ∷ xs) (again rest))

-- a number that was put in and taken out
pub removed_number : (k : ℕ) (ks : List ℕ) → list_any (is_at (nat_cmp k)) ks ≡ false → remove_key (is_at (nat_cmp k)) (insert_key nat_cmp ks k) ≡ ks
removed_number k [] none = rw (at_itself k) refl
removed_number k (x ∷ xs) none = by_order (nat_cmp k x) refl (removed_number k xs)
  where
    by_order : (o : Ordering) → nat_cmp k x ≡ o → (list_any (is_at (nat_cmp k)) xs ≡ false → remove_key (is_at (nat_cmp k)) (insert_key nat_cmp xs k) ≡ xs) → remove_key (is_at (nat_cmp k)) (insert_key nat_cmp (x ∷ xs) k) ≡ x ∷ xs
    by_order Less is again = rw (is, at_itself k) refl
    by_order Equal is again = absurd (let h = rw is at none in cc)
    by_order Greater is again =
        let rest : list_any (is_at (nat_cmp k)) xs ≡ false = rw is at none in
        rw (is, is) (ap (λ (ys : List ℕ). x ∷ ys) (again rest))

neither : (a b : Bool) → (a || b) ≡ false → (a ≡ false) × (b ≡ false)
neither true b e = absurd (cc)
neither false b e = (refl, e)

pub apart_undone : (numbers : NumberSet) (k : ℕ) → wants_no_place numbers k ≡ false → without_apart (with_apart numbers k) k ≡ numbers
apart_undone numbers k wants =
    let not_had : has numbers k ≡ false = (neither (has numbers k) _ wants).0 in
    let not_apart : is_apart numbers k ≡ false = (neither (is_in_run numbers k) (is_apart numbers k) not_had).1 in
    ap (λ (ks : List ℕ). record numbers { apart = ks }) (removed_number k numbers.apart not_apart)

standing_by : (standing : List (ℕ × Standing)) (made : Standing) (b : Bool) → is_some (standing_at standing made.number) ≡ b → b ≡ false → without_standing (with_standing standing made) made.number ≡ standing
standing_by standing made true found none = absurd (cc)
standing_by standing made false found none = rw found (removed_again made.number made standing found)

pub standing_undone : (standing : List (ℕ × Standing)) (made : Standing) → is_some (standing_at standing made.number) ≡ false → without_standing (with_standing standing made) made.number ≡ standing
standing_undone standing made none = standing_by standing made (is_some (standing_at standing made.number)) refl none

-- what two equal states have in common
pub fields : {s t : State} → s ≡ t → (s.table ≡ t.table) × (s.pages ≡ t.pages) × (s.standing ≡ t.standing) × (s.numbers ≡ t.numbers)
fields e = (ap (λ (s : State). s.table) e, ap (λ (s : State). s.pages) e, ap (λ (s : State). s.standing) e, ap (λ (s : State). s.numbers) e)

-- a state whose parts are those of another
pub put_back : (now : State) (t p : WordValues) (st : List (ℕ × Standing)) (n : NumberSet) → t ≡ now.table → p ≡ now.pages → st ≡ now.standing → n ≡ now.numbers → ◌≡◌ {A = State} (record { table = t; pages = p; standing = st; numbers = n }) now
put_back now t p st n a b c d = λ i. record { table = a i; pages = b i; standing = c i; numbers = d i }

-- what holds of what failed, from what else holds of it
pub on_err : {T E : Type 0} (r : Result T E) (P P' : Type 0) {Q Q' : Type 0} → is_err r ≡ true → (Q → Q') → MatchResult r (λ _. P) (λ _. Q) → MatchResult r (λ _. P') (λ _. Q')
on_err (Ok x) P P' failed f h = absurd (cc)
on_err (Err e) P P' failed f h = f h
