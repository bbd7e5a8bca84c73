-- The unfinished ones of some requests, under their numbers, as the state keeps them.
use Rattle.std.proofs.Common.{◌≡◌, ℕ, zero, suc, ◌+◌, ◌<◌, ◌≤◌, Bool, true, false, if◌then◌else◌, List, [], ◌∷◌, ◌++◌, map, length, refl, arith}
use Rattle.std.specs.Prelude.{Option, Some, None, slice_get, slice_set}
use Rattle.std.specs.declared.cmp.Ordering.TheVariants.{Greater}
use Rattle.std.specs.Map.{lookup, set_value, remove_entry}
use Rattle.std.specs.BTreeMap.{is_at, insert_entry}
use Rattle.std.specs.Ordering.{nat_cmp}
use Rattle.std.proofs.lemmas.Bool.Decides.{nat_tests}
use Rattle.plain_disk.specs.declared.request.DiskRequest.{DiskRequest}
use Rattle.plain_disk.specs.Request.{is_open, is_finished}
use Rattle.plain_disk.specs.Step.{reopened}
use Rattle.request_check.specs.State.{Open}
use Rattle.request_check.proofs.Lookups.{at_same, at_other}

-- what the sectors of a request showed, by its number
abbrev pub Notes : Type 0
Notes = ℕ → List (ℕ × List ℕ)

-- a request as the state keeps it
abbrev pub open_as : ℕ → DiskRequest → List (ℕ × List ℕ) → Open
open_as id r noted = record { number = id; submission = r.submission; stage = r.stage; noted = noted }

-- those that aren't finished, from the number n on
abbrev pub opens : Notes → ℕ → List DiskRequest → List (ℕ × Open)
opens g n [] = []
opens g n (r ∷ rs) = if is_finished r.stage then opens g (n + 1) rs else (n, open_as n r (g n)) ∷ opens g (n + 1) rs

-- what is kept of a request, if there is one
abbrev pub open_in : List (ℕ × List ℕ) → ℕ → Option DiskRequest → Option Open
open_in noted id None = None
open_in noted id (Some r) = if is_finished r.stage then None else Some (open_as id r noted)

apart_below : (k n : ℕ) → k < n → k ≡ n → ⊥
apart_below k n below same = absurd (omega arith)

pub none_below : (g : Notes) (rs : List DiskRequest) (k n : ℕ) → k < n → lookup (is_at (nat_cmp k)) (opens g n rs) ≡ None
none_below g [] k n below = refl
none_below g (r ∷ rs) k n below = by_stage (is_finished r.stage) refl (none_below g rs k (n + 1) (omega arith))
  where
    by_stage : (b : Bool) → is_finished r.stage ≡ b → lookup (is_at (nat_cmp k)) (opens g (n + 1) rs) ≡ None → lookup (is_at (nat_cmp k)) (opens g n (r ∷ rs)) ≡ None
    by_stage true is rest = rw is rest
    by_stage false is rest = rw is (rw (at_other k n (apart_below k n below)) rest)

pub lookup_opens : (g : Notes) (rs : List DiskRequest) (n i : ℕ) → lookup (is_at (nat_cmp (n + i))) (opens g n rs) ≡ open_in (g (n + i)) (n + i) (slice_get rs i)
lookup_opens g [] n i = refl
lookup_opens g (r ∷ rs) n zero =
    let same : n + zero ≡ n = omega arith in
    rw same (by_stage (is_finished r.stage) refl)
  where
    by_stage : (b : Bool) → is_finished r.stage ≡ b → lookup (is_at (nat_cmp n)) (opens g n (r ∷ rs)) ≡ open_in (g n) n (Some r)
    by_stage true is = rw is (none_below g rs n (n + 1) (omega arith))
    by_stage false is = rw is (rw (at_same n) refl)
lookup_opens g (r ∷ rs) n (suc i) =
    let same : n + suc i ≡ (n + 1) + i = omega arith in
    rw same (by_stage (is_finished r.stage) refl (lookup_opens g rs (n + 1) i))
  where
    far : (n + 1) + i ≡ n → ⊥
    far e = absurd (omega arith)

    by_stage : (b : Bool) → is_finished r.stage ≡ b → lookup (is_at (nat_cmp ((n + 1) + i))) (opens g (n + 1) rs) ≡ open_in (g ((n + 1) + i)) ((n + 1) + i) (slice_get rs i) → lookup (is_at (nat_cmp ((n + 1) + i))) (opens g n (r ∷ rs)) ≡ open_in (g ((n + 1) + i)) ((n + 1) + i) (slice_get rs i)
    by_stage true is rest = rw is rest
    by_stage false is rest = rw is (rw (at_other ((n + 1) + i) n far) rest)

-- only what the numbers from n on have counts
pub same_notes : (g h : Notes) (rs : List DiskRequest) (n : ℕ) → ((k : ℕ) → n ≤ k → k < n + length rs → h k ≡ g k) → opens h n rs ≡ opens g n rs
same_notes g h [] n same = refl
same_notes g h (r ∷ rs) n same = by_stage (is_finished r.stage) refl (same_notes g h rs (n + 1) (λ k low high. same k (omega arith) (omega arith)))
  where
    by_stage : (b : Bool) → is_finished r.stage ≡ b → opens h (n + 1) rs ≡ opens g (n + 1) rs → opens h n (r ∷ rs) ≡ opens g n (r ∷ rs)
    by_stage true is rest = rw is rest
    by_stage false is rest =
        let here : h n ≡ g n = same n (omega arith) (omega arith) in
        rw is (rw (here, rest) refl)

-- a request that stays unfinished changes
pub set_open : (g h : Notes) (rs : List DiskRequest) (n i : ℕ) (r new : DiskRequest) → slice_get rs i ≡ Some r → is_finished r.stage ≡ false → is_finished new.stage ≡ false
    → ((k : ℕ) → (k ≡ n + i → ⊥) → h k ≡ g k) → opens h n (slice_set rs i new) ≡ set_value (is_at (nat_cmp (n + i))) (opens g n rs) (open_as (n + i) new (h (n + i)))
set_open g h [] n i r new found waits still same = absurd (cc)
set_open g h (x ∷ rs) n zero r new found waits still same =
    let at : n + zero ≡ n = omega arith in
    let is : x ≡ r = cc in
    let tail : opens h (n + 1) rs ≡ opens g (n + 1) rs = same_notes g h rs (n + 1) (λ k low high. same k (λ e. absurd (omega arith))) in
    rw (at, is) (rw (waits, still) (rw (at_same n) (rw tail refl)))
set_open g h (x ∷ rs) n (suc i) r new found waits still same =
    let at : n + suc i ≡ (n + 1) + i = omega arith in
    let here : h n ≡ g n = same n (λ e. absurd (omega arith)) in
    rw at (by_stage (is_finished x.stage) refl here (set_open g h rs (n + 1) i r new found waits still (λ k far. same k (λ e. far (omega arith)))))
  where
    far : (n + 1) + i ≡ n → ⊥
    far e = absurd (omega arith)

    by_stage : (b : Bool) → is_finished x.stage ≡ b → h n ≡ g n → opens h (n + 1) (slice_set rs i new) ≡ set_value (is_at (nat_cmp ((n + 1) + i))) (opens g (n + 1) rs) (open_as ((n + 1) + i) new (h ((n + 1) + i)))
        → opens h n (x ∷ slice_set rs i new) ≡ set_value (is_at (nat_cmp ((n + 1) + i))) (opens g n (x ∷ rs)) (open_as ((n + 1) + i) new (h ((n + 1) + i)))
    by_stage true is here rest = rw is rest
    by_stage false is here rest = rw is (rw (at_other ((n + 1) + i) n far) (rw (here, rest) refl))

-- a request gets finished
pub remove_open : (g : Notes) (rs : List DiskRequest) (n i : ℕ) (r new : DiskRequest) → slice_get rs i ≡ Some r → is_finished r.stage ≡ false → is_finished new.stage ≡ true
    → opens g n (slice_set rs i new) ≡ remove_entry (is_at (nat_cmp (n + i))) (opens g n rs)
remove_open g [] n i r new found waits ends = absurd (cc)
remove_open g (x ∷ rs) n zero r new found waits ends =
    let at : n + zero ≡ n = omega arith in
    let is : x ≡ r = cc in
    rw (at, is) (rw (waits, ends) (rw (at_same n) refl))
remove_open g (x ∷ rs) n (suc i) r new found waits ends =
    let at : n + suc i ≡ (n + 1) + i = omega arith in
    rw at (by_stage (is_finished x.stage) refl (remove_open g rs (n + 1) i r new found waits ends))
  where
    far : (n + 1) + i ≡ n → ⊥
    far e = absurd (omega arith)

    by_stage : (b : Bool) → is_finished x.stage ≡ b → opens g (n + 1) (slice_set rs i new) ≡ remove_entry (is_at (nat_cmp ((n + 1) + i))) (opens g (n + 1) rs)
        → opens g n (x ∷ slice_set rs i new) ≡ remove_entry (is_at (nat_cmp ((n + 1) + i))) (opens g n (x ∷ rs))
    by_stage true is rest = rw is rest
    by_stage false is rest = rw is (rw (at_other ((n + 1) + i) n far) (rw rest refl))

-- a request stays as it was kept
pub stay_open : (g : Notes) (rs : List DiskRequest) (n i : ℕ) (r new : DiskRequest) → slice_get rs i ≡ Some r → new.submission ≡ r.submission → new.stage ≡ r.stage → opens g n (slice_set rs i new) ≡ opens g n rs
stay_open g [] n i r new found submission stage = refl
stay_open g (x ∷ rs) n zero r new found submission stage =
    let is : x ≡ r = cc in
    rw (is, submission, stage) refl
stay_open g (x ∷ rs) n (suc i) r new found submission stage = rw (stay_open g rs (n + 1) i r new found submission stage) refl

pub reopened_job : (r : DiskRequest) → (reopened r).submission ≡ r.submission
reopened_job r = by_stage (is_open r.stage) refl
  where
    by_stage : (b : Bool) → is_open r.stage ≡ b → (reopened r).submission ≡ r.submission
    by_stage true is = rw is refl
    by_stage false is = rw is refl

pub reopened_stage : (r : DiskRequest) → (reopened r).stage ≡ r.stage
reopened_stage r = by_stage (is_open r.stage) refl
  where
    by_stage : (b : Bool) → is_open r.stage ≡ b → (reopened r).stage ≡ r.stage
    by_stage true is = rw is refl
    by_stage false is = rw is refl

pub reopen_opens : (g : Notes) (rs : List DiskRequest) (n : ℕ) → opens g n (map reopened rs) ≡ opens g n rs
reopen_opens g [] n = refl
reopen_opens g (r ∷ rs) n = rw (reopened_stage r, reopened_job r, reopen_opens g rs (n + 1)) refl

-- a request more
pub one_more_open : (g : Notes) (rs : List DiskRequest) (n : ℕ) (r : DiskRequest) → is_finished r.stage ≡ false → opens g n (rs ++ r ∷ []) ≡ insert_entry nat_cmp (opens g n rs) (n + length rs) (open_as (n + length rs) r (g (n + length rs)))
one_more_open g [] n r waits =
    let at : n + 0 ≡ n = omega arith in
    rw (at, waits) refl
one_more_open g (x ∷ rs) n r waits =
    let at : n + length (x ∷ rs) ≡ (n + 1) + length rs = omega arith in
    rw at (by_stage (is_finished x.stage) refl (one_more_open g rs (n + 1) r waits))
  where
    above : nat_cmp ((n + 1) + length rs) n ≡ Greater
    above = grind (arith, nat_tests)

    by_stage : (b : Bool) → is_finished x.stage ≡ b → opens g (n + 1) (rs ++ r ∷ []) ≡ insert_entry nat_cmp (opens g (n + 1) rs) ((n + 1) + length rs) (open_as ((n + 1) + length rs) r (g ((n + 1) + length rs)))
        → opens g n (x ∷ rs ++ r ∷ []) ≡ insert_entry nat_cmp (opens g n (x ∷ rs)) ((n + 1) + length rs) (open_as ((n + 1) + length rs) r (g ((n + 1) + length rs)))
    by_stage true is rest = rw is rest
    by_stage false is rest = rw is (rw above (rw rest refl))
