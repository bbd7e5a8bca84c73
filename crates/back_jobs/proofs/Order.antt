-- The next job's number.
use Rattle.std.proofs.Common.{◌≡◌, ℕ, ◌<◌, Bool, true, false, cond, List, [], ◌∷◌, arith, refl, sym}
use Rattle.std.specs.Prelude.{Option, Some, None, IfSome, nat_lt, find}
use Rattle.std.specs.Option.{option_map}
use Rattle.std.proofs.lemmas.Bool.Decides.{nat_tests}
use Rattle.std.proofs.lemmas.Option.{none-some, same_Some}
use Rattle.back_jobs.specs.Work.{Work}
use Rattle.back_jobs.specs.Jobs.{HeldJobs, next_after}

next_above_at : (b : Bool) (works : List Work) (t : Work) (number k : ℕ) → nat_lt number t.number ≡ b → (option_map (λ (u : Work). u.number) (find (λ (u : Work). nat_lt number u.number) works) ≡ Some k → number < k) → option_map (λ (u : Work). u.number) (cond b (Some t) (find (λ (u : Work). nat_lt number u.number) works)) ≡ Some k → number < k
next_above_at true works t number k test rest h = let e = same_Some t.number k h in grind (arith, nat_tests)
next_above_at false works t number k test rest h = rest h

next_above_in : (works : List Work) (number k : ℕ) → option_map (λ (u : Work). u.number) (find (λ (u : Work). nat_lt number u.number) works) ≡ Some k → number < k
next_above_in [] number k h = absurd (none-some k h)
next_above_in (t ∷ works) number k h = next_above_at (nat_lt number t.number) works t number k refl (next_above_in works number k) h

-- the next job's number is above
pub next_above : (held : HeldJobs) (number k : ℕ) → next_after held number ≡ Some k → number < k
next_above held number k h = next_above_in held.works number k h

-- the same of what is given, whether there is one or not
pub next_is_above : (held : HeldJobs) (number : ℕ) (next : Option ℕ) → next ≡ next_after held number → IfSome next (λ k. number < k)
next_is_above held number None h = tt
next_is_above held number (Some k) h = next_above held number k (sym h)
