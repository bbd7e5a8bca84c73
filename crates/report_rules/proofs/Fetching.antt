-- The jobs of the entries that were read, with one more.
use Rattle.std.proofs.Common.{◌≡◌, ℕ, zero, suc, ◌+◌, ◌-◌, ◌==◌, Bool, true, false, if◌then◌else◌, List, [], ◌∷◌, ◌++◌, length, refl, ap, sym, ◌∙◌, arith}
use Rattle.std.specs.Prelude.{slice_get, Option, Some, None}
use Rattle.std.proofs.lemmas.Bool.Decides.{nat_tests}
use Rattle.std.proofs.lemmas.Option.{none-some}
use Rattle.report_rules.specs.declared.job.Fetched.{Fetched}
use Rattle.report_rules.specs.Job.{job_in}

pub no_job : (k : ℕ) → job_in [] k ≡ None
no_job k = by_zero (k == 0)
  where
    by_zero : (b : Bool) → (if b then None else slice_get {X = Fetched} [] (k - 1)) ≡ None
    by_zero true = refl
    by_zero false = refl

get_other : (jobs : List Fetched) (x : Fetched) (i : ℕ) → (i == length jobs) ≡ false → slice_get (jobs ++ x ∷ []) i ≡ slice_get jobs i
get_other [] x zero e = absurd (cc)
get_other [] x (suc i) e = refl
get_other (j ∷ jobs) x zero e = refl
get_other (j ∷ jobs) x (suc i) e = get_other jobs x i (differs i (length jobs) e)
  where
    differs : (a b : ℕ) → (suc a == suc b) ≡ false → (a == b) ≡ false
    differs a b h = grind (arith, nat_tests)

get_last : (jobs : List Fetched) (x : Fetched) → slice_get (jobs ++ x ∷ []) (length jobs) ≡ Some x
get_last [] x = refl
get_last (j ∷ jobs) x = get_last jobs x

get_kept : (jobs : List Fetched) (x f : Fetched) (i : ℕ) → slice_get jobs i ≡ Some f → slice_get (jobs ++ x ∷ []) i ≡ Some f
get_kept [] x f i e = absurd (none-some f e)
get_kept (j ∷ jobs) x f zero e = e
get_kept (j ∷ jobs) x f (suc i) e = get_kept jobs x f i e

-- another number
pub job_other : (jobs : List Fetched) (x : Fetched) (k : ℕ) → (k == length jobs + 1) ≡ false → job_in (jobs ++ x ∷ []) k ≡ job_in jobs k
job_other jobs x k other = by_zero (k == 0) refl
  where
    by_zero : (b : Bool) → (k == 0) ≡ b → (if b then None else slice_get (jobs ++ x ∷ []) (k - 1)) ≡ (if b then None else slice_get jobs (k - 1))
    by_zero true e = refl
    by_zero false e = get_other jobs x (k - 1) (grind (arith, nat_tests))

-- the new one
pub job_last : (jobs : List Fetched) (x : Fetched) (k : ℕ) → k ≡ length jobs + 1 → job_in (jobs ++ x ∷ []) k ≡ Some x
job_last jobs x k same =
    let some : (k == 0) ≡ false = grind (arith, nat_tests) in
    let last : k - 1 ≡ length jobs = omega arith in
    ap (λ (b : Bool). if b then None else slice_get (jobs ++ x ∷ []) (k - 1)) some ∙ (ap (slice_get (jobs ++ x ∷ [])) last ∙ get_last jobs x)

-- one that was there
pub job_kept : (jobs : List Fetched) (x f : Fetched) (k : ℕ) → job_in jobs k ≡ Some f → job_in (jobs ++ x ∷ []) k ≡ Some f
job_kept jobs x f k = by_zero (k == 0)
  where
    by_zero : (b : Bool) → (if b then None else slice_get jobs (k - 1)) ≡ Some f → (if b then None else slice_get (jobs ++ x ∷ []) (k - 1)) ≡ Some f
    by_zero true e = e
    by_zero false e = get_kept jobs x f (k - 1) e

pub job_before : (jobs : List Fetched) (x : Fetched) (k : ℕ) → job_in (jobs ++ x ∷ []) k ≡ None → job_in jobs k ≡ None
job_before jobs x k none = by_job (job_in jobs k) refl
  where
    by_job : (o : Option Fetched) → job_in jobs k ≡ o → o ≡ None
    by_job None is = refl
    by_job (Some f) is = absurd (none-some f (sym none ∙ job_kept jobs x f k is))
