-- Jobs that are visited by number: where as many are visited as are held they stand in order, and each is visited.
use Rattle.std.proofs.Common.{◌≡◌, ℕ, ◌<◌, ◌≤◌, Bool, true, false, cond, if◌then◌else◌, List, [], ◌∷◌, map, length, refl, sym, ap, ◌∙◌, subst, arith}
use Rattle.std.specs.Prelude.{Some, None, is_some, find, nat_lt, option_map}
use Rattle.std.proofs.lemmas.Bool.Decides.{nat_tests}
use Rattle.std.proofs.lemmas.Option.{none-some, same_Some}
use Rattle.back_jobs.specs.Work.{Work}
use Rattle.back_jobs.specs.Jobs.{HeldJobs, next_in}
use Rattle.back_jobs.proofs.Order.{next_above}
use Rattle.blk_back.specs.View as ring_view
use Rattle.round_laws.specs.Movers.{AreAbove, AreVisited}
use Rattle.round_laws.specs.Laws.{EachIsVisited}
use Rattle.round_laws.proofs.Jobs.{next_past}

-- the numbers of these that come one after another
abbrev Chain : List Work → ℕ → List ℕ → Type 0
Chain works from [] = Unit {0}
Chain works from (k ∷ numbers) = (next_in works from ≡ Some k) × Chain works k numbers

module _ (h : HeldJobs) where
  -- a job that isn't above the first comes nowhere
  dropped : (t : Work) (works : List Work) (from : ℕ) (numbers : List ℕ) → t.number ≤ from → Chain (t ∷ works) from numbers → Chain works from numbers
  dropped t works from [] low chain = tt
  dropped t works from (k ∷ numbers) low chain =
      let next : next_in works from ≡ Some k = sym (next_past (t ∷ []) works from (low, tt)) ∙ chain.0 in
      let above : from < k = next_above (record h { works = works }) from k next in
      (next, dropped t works k numbers (omega arith) chain.1)

  first_next : (t : Work) (works : List Work) (from k : ℕ) → nat_lt from t.number ≡ true → next_in (t ∷ works) from ≡ Some k → t.number ≡ k
  first_next t works from k test next =
      same_Some t.number k (sym (ap (λ (b : Bool). option_map (λ (u : Work). u.number) (cond b (Some t) (find (λ (u : Work). nat_lt from u.number) works))) test) ∙ next)

  few : (works : List Work) (from : ℕ) (numbers : List ℕ) → Chain works from numbers → length numbers ≤ length works
  few works from [] chain = omega arith
  few [] from (k ∷ numbers) chain = absurd (none-some k chain.0)
  few (t ∷ works) from (k ∷ numbers) chain = by_test (nat_lt from t.number) refl (λ later. few works k numbers later) (λ all. few works from (k ∷ numbers) all)
    where
      by_test : (b : Bool) → nat_lt from t.number ≡ b → (Chain works k numbers → length numbers ≤ length works) → (Chain works from (k ∷ numbers) → length (k ∷ numbers) ≤ length works) → length (k ∷ numbers) ≤ length (t ∷ works)
      by_test true test later all =
          let same : t.number ≡ k = first_next t works from k test chain.0 in
          let rest = later (dropped t works k numbers (omega arith) chain.1) in
          omega arith
      by_test false test later all =
          let low : t.number ≤ from = grind (arith, nat_tests) in
          let rest = all (dropped t works from (k ∷ numbers) low chain) in
          omega arith

  in_order : (works : List Work) (from : ℕ) (numbers : List ℕ) → Chain works from numbers → length numbers ≡ length works → AreAbove from works × (map (λ (t : Work). t.number) works ≡ numbers)
  in_order [] from [] chain all = (tt, refl)
  in_order [] from (k ∷ numbers) chain all = absurd (none-some k chain.0)
  in_order (t ∷ works) from [] chain all = absurd (omega arith)
  in_order (t ∷ works) from (k ∷ numbers) chain all = by_test (nat_lt from t.number) refl (λ later. in_order works k numbers later (omega arith))
    where
      by_test : (b : Bool) → nat_lt from t.number ≡ b → (Chain works k numbers → AreAbove k works × (map (λ (u : Work). u.number) works ≡ numbers))
          → AreAbove from (t ∷ works) × (map (λ (u : Work). u.number) (t ∷ works) ≡ k ∷ numbers)
      by_test true test later =
          let same : t.number ≡ k = first_next t works from k test chain.0 in
          let rest = later (dropped t works k numbers (omega arith) chain.1) in
          let above : from < t.number = grind (arith, nat_tests) in
          ((above, subst (λ m. AreAbove m works) (sym same) rest.0), ap (λ m. m ∷ map (λ (u : Work). u.number) works) same ∙ ap (λ (l : List ℕ). k ∷ l) rest.1)
      by_test false test later =
          let low : t.number ≤ from = grind (arith, nat_tests) in
          let fewer = few works from (k ∷ numbers) (dropped t works from (k ∷ numbers) low chain) in
          absurd (omega arith)

-- those that the back visits are such
visited : (v : ring_view.View) (from : ℕ) (numbers : List ℕ) → AreVisited v from numbers → Chain v.jobs.works from numbers
visited v from [] all = tt
visited v from (k ∷ numbers) all = (by_halt (is_some v.halted) all.0, visited v k numbers all.1)
  where
    by_halt : (b : Bool) → (if b then None else next_in v.jobs.works from) ≡ Some k → next_in v.jobs.works from ≡ Some k
    by_halt true next = absurd (none-some k next)
    by_halt false next = next

pub each_is_visited : EachIsVisited
each_is_visited v numbers all many = in_order v.jobs v.jobs.works 0 numbers (visited v 0 numbers all) many
