-- How many requests are unfinished, and whether those before a request let it pass.
use Rattle.std.proofs.Common.{◌≡◌, ℕ, zero, suc, ◌+◌, ◌-◌, ◌≤◌, ◌==◌, ◌||◌, not, Bool, true, false, if◌then◌else◌, List, [], ◌∷◌, take, length, count_by, sum_by, refl, ap, sym, ◌∙◌, subst, arith}
use Rattle.std.specs.Prelude.{Some, slice_get, nat_le}
use Rattle.std.specs.List.{list_all}
use Rattle.std.specs.Map.{values_of}
use Rattle.std.proofs.lemmas.Bool.Decides.{nat_tests}
use Rattle.std.proofs.lemmas.List.Sums.{sum_by-append}
use Rattle.plain_disk.specs.declared.request.DiskRequest.{DiskRequest}
use Rattle.plain_disk.specs.declared.request.Place.{Place}
use Rattle.plain_disk.specs.declared.request.RequestStage.{RequestStage}
use Rattle.plain_disk.specs.declared.request.RequestStage.TheVariants as stages
use Rattle.plain_disk.specs.Request.{is_open, is_finished, is_barrier, is_ordered, is_settled, are_settled}
use Rattle.request_check.specs.Rules.{are_finished}
use Rattle.request_check.specs.Progress.{Progress, progress_of}
use Rattle.request_check.specs.State.{barriers_of}
use Rattle.request_check.specs.Verdicts.{is_settled_now, lets_pass}
use Rattle.request_check.proofs.Opens.{Notes, open_as, opens}
use Rattle.request_check.proofs.Requests.{held, first_held}

count_first : (p : DiskRequest → Bool) (x : DiskRequest) (rs : List DiskRequest) → count_by p (x ∷ rs) ≡ (if p x then 1 else 0) + count_by p rs
count_first p x rs =
    let all : sum_by (λ (y : DiskRequest). if p y then 1 else 0) (x ∷ rs) ≡ sum_by (λ (y : DiskRequest). if p y then 1 else 0) (x ∷ []) + sum_by (λ (y : DiskRequest). if p y then 1 else 0) rs = sum_by-append (λ (y : DiskRequest). if p y then 1 else 0) (x ∷ []) rs in
    let one : sum_by (λ (y : DiskRequest). if p y then 1 else 0) (x ∷ []) ≡ (if p x then 1 else 0) = omega arith in
    all ∙ ap (λ (k : ℕ). k + count_by p rs) one

pub count_opens : (g : Notes) (rs : List DiskRequest) (n : ℕ) → length (opens g n rs) ≡ count_by (λ (r : DiskRequest). not (is_finished r.stage)) rs
count_opens g [] n = refl
count_opens g (r ∷ rs) n = by_stage (is_finished r.stage) refl (count_opens g rs (n + 1)) ∙ sym (count_first (λ (x : DiskRequest). not (is_finished x.stage)) r rs)
  where
    by_stage : (b : Bool) → is_finished r.stage ≡ b → length (opens g (n + 1) rs) ≡ count_by (λ (x : DiskRequest). not (is_finished x.stage)) rs → length (opens g n (r ∷ rs)) ≡ (if not (is_finished r.stage) then 1 else 0) + count_by (λ (x : DiskRequest). not (is_finished x.stage)) rs
    by_stage true is rest = rw is (omega arith)
    by_stage false is rest = rw is (omega arith)

pub idle_opens : (g : Notes) (rs : List DiskRequest) (n : ℕ) → (length (opens g n rs) == 0) ≡ are_finished rs
idle_opens g [] n = refl
idle_opens g (r ∷ rs) n = by_stage (is_finished r.stage) refl (idle_opens g rs (n + 1))
  where
    some : (k : ℕ) → (suc k == 0) ≡ false
    some k = grind (arith, nat_tests)

    by_stage : (b : Bool) → is_finished r.stage ≡ b → (length (opens g (n + 1) rs) == 0) ≡ are_finished rs → (length (opens g n (r ∷ rs)) == 0) ≡ are_finished (r ∷ rs)
    by_stage true is rest = rw is rest
    by_stage false is rest = rw is (some (length (opens g (n + 1) rs)))

-- what is said of each request by its number, from the number n on
abbrev pub From : (ℕ → DiskRequest → Type 0) → ℕ → List DiskRequest → Type 0
From P n rs = (i : ℕ) (r : DiskRequest) → slice_get rs i ≡ Some r → P (n + i) r

from_first : (P : ℕ → DiskRequest → Type 0) (n : ℕ) (r : DiskRequest) (rs : List DiskRequest) → From P n (r ∷ rs) → P n r
from_first P n r rs all =
    let at : n + 0 ≡ n = omega arith in
    subst (λ (k : ℕ). P k r) at (all 0 r refl)

from_rest : (P : ℕ → DiskRequest → Type 0) (n : ℕ) (r : DiskRequest) (rs : List DiskRequest) → From P n (r ∷ rs) → From P (n + 1) rs
from_rest P n r rs all i x found =
    let at : n + suc i ≡ (n + 1) + i = omega arith in
    subst (λ (k : ℕ). P k x) at (all (suc i) x found)

-- a request is settled by the state where it is on the disk
abbrev pub SettledSo : List (ℕ × Progress) → List Place → Notes → ℕ → DiskRequest → Type 0
SettledSo kept done g id r = is_finished r.stage ≡ false → is_settled_now (open_as id r (g id)) (progress_of kept id) ≡ is_settled done id r

late : (kept : List (ℕ × Progress)) (g : Notes) (rs : List DiskRequest) (n id : ℕ) (barrier : Bool) → id ≤ n → list_all (lets_pass kept id barrier) (values_of (opens g n rs)) ≡ true
late kept g [] n id barrier past = refl
late kept g (r ∷ rs) n id barrier past = by_stage (is_finished r.stage) refl (late kept g rs (n + 1) id barrier (omega arith))
  where
    is_past : nat_le id n ≡ true
    is_past = grind (arith, nat_tests)

    by_stage : (b : Bool) → is_finished r.stage ≡ b → list_all (lets_pass kept id barrier) (values_of (opens g (n + 1) rs)) ≡ true → list_all (lets_pass kept id barrier) (values_of (opens g n (r ∷ rs))) ≡ true
    by_stage true is rest = rw is rest
    by_stage false is rest = rw is (rw is_past rest)

pub closed : (s : RequestStage) → is_finished s ≡ true → is_open s ≡ false
closed stages.Open is = absurd (cc)
closed (stages.Telling n) is = absurd (cc)
closed stages.Finished is = refl

or_true : (a b : Bool) → (a || b || true) ≡ true
or_true true b = refl
or_true false true = refl
or_true false false = refl

-- the walk over the unfinished requests is the walk over those before
pub walk : (kept : List (ℕ × Progress)) (done : List Place) (g : Notes) (rs : List DiskRequest) (n m id : ℕ) (barrier : Bool) → m ≡ id - n → From (SettledSo kept done g) n rs
    → list_all (lets_pass kept id barrier) (values_of (opens g n rs)) ≡ are_settled done n (take m rs) barrier
walk kept done g rs n zero id barrier left all = late kept g rs n id barrier (omega arith)
walk kept done g [] n (suc m) id barrier left all = refl
walk kept done g (r ∷ rs) n (suc m) id barrier left all =
    by_stage (is_finished r.stage) refl (from_first (SettledSo kept done g) n r rs all) (walk kept done g rs (n + 1) m id barrier (omega arith) (from_rest (SettledSo kept done g) n r rs all))
  where
    is_before : nat_le id n ≡ false
    is_before = grind (arith, nat_tests)

    by_stage : (b : Bool) → is_finished r.stage ≡ b → SettledSo kept done g n r → list_all (lets_pass kept id barrier) (values_of (opens g (n + 1) rs)) ≡ are_settled done (n + 1) (take m rs) barrier
        → list_all (lets_pass kept id barrier) (values_of (opens g n (r ∷ rs))) ≡ are_settled done n (r ∷ take m rs) barrier
    by_stage true is so rest =
        let shut : is_open r.stage ≡ false = closed r.stage is in
        rw is (rw shut (rw (or_true (not (is_ordered r.submission)) (not (barrier || is_barrier r.submission))) rest))
    by_stage false is so rest =
        let same : is_settled_now (open_as n r (g n)) (progress_of kept n) ≡ is_settled done n r = so is in
        rw is (rw is_before (rw (same, rest) refl))

-- where no unfinished request is a barrier, no other waits
pub no_barriers : (kept : List (ℕ × Progress)) (g : Notes) (rs : List DiskRequest) (n id : ℕ) → sum_by (held barriers_of) rs ≡ 0 → list_all (lets_pass kept id false) (values_of (opens g n rs)) ≡ true
no_barriers kept g [] n id none = refl
no_barriers kept g (r ∷ rs) n id none = by_stage (is_finished r.stage) refl (is_barrier r.submission) refl first (no_barriers kept g rs (n + 1) id rest_none)
  where
    all : held barriers_of r + sum_by (held barriers_of) rs ≡ 0
    all = sym (first_held barriers_of r rs) ∙ none

    first : held barriers_of r ≡ 0
    first = omega (arith, all)

    rest_none : sum_by (held barriers_of) rs ≡ 0
    rest_none = omega (arith, all)

    by_test : (a b c : Bool) → (a || b || true || c) ≡ true
    by_test true b c = refl
    by_test false true c = refl
    by_test false false c = refl

    by_stage : (b : Bool) → is_finished r.stage ≡ b → (barrier : Bool) → is_barrier r.submission ≡ barrier → held barriers_of r ≡ 0 → list_all (lets_pass kept id false) (values_of (opens g (n + 1) rs)) ≡ true → list_all (lets_pass kept id false) (values_of (opens g n (r ∷ rs))) ≡ true
    by_stage true is barrier kind zero_held rest = rw is rest
    by_stage false is true kind zero_held rest = absurd (let h : 1 ≡ 0 = rw (is, kind) at zero_held in omega arith)
    by_stage false is false kind zero_held rest = rw is (rw kind (rw (by_test (nat_le id n) (not (is_ordered r.submission)) (is_settled_now (open_as n r (g n)) (progress_of kept n))) rest))
