-- Requests by their numbers, from 1: one changed, one more, and all changed.
use Rattle.std.proofs.Common.{◌≡◌, ℕ, zero, suc, ◌+◌, ◌-◌, ◌==◌, true, false, if◌then◌else◌, List, [], ◌∷◌, ◌++◌, map, length, sum_by, refl, ap, sym, ◌∙◌, subst, arith}
use Rattle.std.specs.Prelude.{Some, None, slice_get, slice_set, option_map}
use Rattle.std.specs.Map.{lookup, set_value, remove_entry}
use Rattle.std.specs.BTreeMap.{is_at, insert_entry}
use Rattle.std.specs.Ordering.{nat_cmp}
use Rattle.std.proofs.lemmas.Bool.Decides.{nat_tests}
use Rattle.std.proofs.lemmas.Option.{slice_get-map}
use Rattle.std.proofs.lemmas.List.Sums.{sum_by-append}
use Rattle.blk_base.specs.declared.config.Submission.{Submission}
use Rattle.plain_disk.specs.declared.request.DiskRequest.{DiskRequest}
use Rattle.plain_disk.specs.Request.{is_finished}
use Rattle.plain_disk.specs.Disk.{request_of}
use Rattle.plain_disk.specs.Step.{with_request, reopened}
use Rattle.request_check.specs.State.{open_of}
use Rattle.request_check.proofs.Opens.{Notes, open_as, opens, open_in, lookup_opens, set_open, remove_open, stay_open, one_more_open, none_below, same_notes, reopened_job, reopened_stage}

pub request_suc : (rs : List DiskRequest) (i : ℕ) → request_of rs (suc i) ≡ slice_get rs i
request_suc rs i =
    let no : (suc i == 0) ≡ false = grind (arith, nat_tests) in
    let one : suc i - 1 ≡ i = omega arith in
    rw (no, one) refl

-- the place of a request
found_at : (rs : List DiskRequest) (id : ℕ) (r : DiskRequest) → request_of rs id ≡ Some r → (i : ℕ) × (id ≡ suc i) × (slice_get rs i ≡ Some r)
found_at rs zero r found = absurd (cc)
found_at rs (suc i) r found = (i, refl, sym (request_suc rs i) ∙ found)

-- ---- one changed
get_same : (rs : List DiskRequest) (i : ℕ) (r new : DiskRequest) → slice_get rs i ≡ Some r → slice_get (slice_set rs i new) i ≡ Some new
get_same [] i r new found = absurd (cc)
get_same (x ∷ rs) zero r new found = refl
get_same (x ∷ rs) (suc i) r new found = get_same rs i r new found

get_other : (rs : List DiskRequest) (i k : ℕ) (new : DiskRequest) → (k ≡ i → ⊥) → slice_get (slice_set rs i new) k ≡ slice_get rs k
get_other [] i k new far = refl
get_other (x ∷ rs) zero zero new far = absurd (far refl)
get_other (x ∷ rs) zero (suc k) new far = refl
get_other (x ∷ rs) (suc i) zero new far = refl
get_other (x ∷ rs) (suc i) (suc k) new far = get_other rs i k new (λ e. far (ap suc e))

set_found : (rs : List DiskRequest) (i : ℕ) (r : DiskRequest) → slice_get rs i ≡ Some r → slice_set rs i r ≡ rs
set_found [] i r found = refl
set_found (x ∷ rs) zero r found = let is : x ≡ r = cc in rw is refl
set_found (x ∷ rs) (suc i) r found = ap (λ (xs : List DiskRequest). x ∷ xs) (set_found rs i r found)

with_suc : (rs : List DiskRequest) (i : ℕ) (new : DiskRequest) → with_request rs (suc i) new ≡ slice_set rs i new
with_suc rs i new = let one : suc i - 1 ≡ i = omega arith in rw one refl

pub request_same : (rs : List DiskRequest) (id : ℕ) (r new : DiskRequest) → request_of rs id ≡ Some r → request_of (with_request rs id new) id ≡ Some new
request_same rs zero r new found = absurd (cc)
request_same rs (suc i) r new found = rw (with_suc rs i new, request_suc (slice_set rs i new) i) (get_same rs i r new (sym (request_suc rs i) ∙ found))

pub request_other : (rs : List DiskRequest) (id k : ℕ) (r new : DiskRequest) → request_of rs id ≡ Some r → (k ≡ id → ⊥) → request_of (with_request rs id new) k ≡ request_of rs k
request_other rs zero k r new found far = absurd (cc)
request_other rs (suc i) zero r new found far = refl
request_other rs (suc i) (suc k) r new found far = rw (with_suc rs i new, request_suc (slice_set rs i new) k, request_suc rs k) (get_other rs i k new (λ e. far (ap suc e)))

pub request_stays : (rs : List DiskRequest) (id : ℕ) (r : DiskRequest) → request_of rs id ≡ Some r → with_request rs id r ≡ rs
request_stays rs zero r found = absurd (cc)
request_stays rs (suc i) r found = with_suc rs i r ∙ set_found rs i r (sym (request_suc rs i) ∙ found)

pub length_with : (rs : List DiskRequest) (i : ℕ) (new : DiskRequest) → length (slice_set rs i new) ≡ length rs
length_with [] i new = refl
length_with (x ∷ rs) zero new = refl
length_with (x ∷ rs) (suc i) new = ap suc (length_with rs i new)

-- ---- one more
get_new : (rs : List DiskRequest) (r : DiskRequest) → slice_get (rs ++ r ∷ []) (length rs) ≡ Some r
get_new [] r = refl
get_new (x ∷ rs) r = get_new rs r

get_old : (rs : List DiskRequest) (r : DiskRequest) (k : ℕ) → (k ≡ length rs → ⊥) → slice_get (rs ++ r ∷ []) k ≡ slice_get rs k
get_old [] r zero far = absurd (far refl)
get_old [] r (suc k) far = refl
get_old (x ∷ rs) r zero far = refl
get_old (x ∷ rs) r (suc k) far = get_old rs r k (λ e. far (ap suc e))

suc_one : (n : ℕ) → n + 1 ≡ suc n
suc_one n = omega arith

pub request_new : (rs : List DiskRequest) (r : DiskRequest) → request_of (rs ++ r ∷ []) (length rs + 1) ≡ Some r
request_new rs r = ap (λ (n : ℕ). request_of (rs ++ r ∷ []) n) (suc_one (length rs)) ∙ request_suc (rs ++ r ∷ []) (length rs) ∙ get_new rs r

pub request_old : (rs : List DiskRequest) (r : DiskRequest) (k : ℕ) → (k ≡ length rs + 1 → ⊥) → request_of (rs ++ r ∷ []) k ≡ request_of rs k
request_old rs r zero far = refl
request_old rs r (suc k) far = rw (request_suc (rs ++ r ∷ []) k, request_suc rs k) (get_old rs r k (λ e. far (ap suc e ∙ sym (suc_one (length rs)))))

get_past : (rs : List DiskRequest) → slice_get rs (length rs) ≡ None
get_past [] = refl
get_past (x ∷ rs) = get_past rs

pub request_past : (rs : List DiskRequest) → request_of rs (length rs + 1) ≡ None
request_past rs = ap (λ (n : ℕ). request_of rs n) (suc_one (length rs)) ∙ request_suc rs (length rs) ∙ get_past rs

-- ---- all changed
pub request_map : (f : DiskRequest → DiskRequest) (rs : List DiskRequest) (k : ℕ) → request_of (map f rs) k ≡ option_map f (request_of rs k)
request_map f rs zero = refl
request_map f rs (suc k) = rw (request_suc (map f rs) k, request_suc rs k) (slice_get-map f rs k)

-- ---- what the state keeps
pub open_request : (g : Notes) (rs : List DiskRequest) (id : ℕ) → open_of (opens g 1 rs) id ≡ open_in (g id) id (request_of rs id)
open_request g rs zero = none_below g rs 0 1 (omega arith)
open_request g rs (suc i) =
    let at : 1 + i ≡ suc i = omega arith in
    rw (request_suc rs i) (subst (λ (k : ℕ). lookup (is_at (nat_cmp k)) (opens g 1 rs) ≡ open_in (g k) k (slice_get rs i)) at (lookup_opens g rs 1 i))

pub opens_set : (g h : Notes) (rs : List DiskRequest) (id : ℕ) (r new : DiskRequest) → request_of rs id ≡ Some r → is_finished r.stage ≡ false → is_finished new.stage ≡ false
    → ((k : ℕ) → (k ≡ id → ⊥) → h k ≡ g k) → opens h 1 (with_request rs id new) ≡ set_value (is_at (nat_cmp id)) (opens g 1 rs) (open_as id new (h id))
opens_set g h rs zero r new found waits still same = absurd (cc)
opens_set g h rs (suc i) r new found waits still same =
    let at : 1 + i ≡ suc i = omega arith in
    rw (with_suc rs i new) (subst (λ (k : ℕ). opens h 1 (slice_set rs i new) ≡ set_value (is_at (nat_cmp k)) (opens g 1 rs) (open_as k new (h k))) at
    (set_open g h rs 1 i r new (sym (request_suc rs i) ∙ found) waits still (λ k far. same k (λ e. far (e ∙ sym at)))))

pub opens_remove : (g : Notes) (rs : List DiskRequest) (id : ℕ) (r new : DiskRequest) → request_of rs id ≡ Some r → is_finished r.stage ≡ false → is_finished new.stage ≡ true
    → opens g 1 (with_request rs id new) ≡ remove_entry (is_at (nat_cmp id)) (opens g 1 rs)
opens_remove g rs zero r new found waits ends = absurd (cc)
opens_remove g rs (suc i) r new found waits ends =
    let at : 1 + i ≡ suc i = omega arith in
    rw (with_suc rs i new) (subst (λ (k : ℕ). opens g 1 (slice_set rs i new) ≡ remove_entry (is_at (nat_cmp k)) (opens g 1 rs)) at
    (remove_open g rs 1 i r new (sym (request_suc rs i) ∙ found) waits ends))

pub opens_stay : (g : Notes) (rs : List DiskRequest) (id : ℕ) (r new : DiskRequest) → request_of rs id ≡ Some r → new.submission ≡ r.submission → new.stage ≡ r.stage → opens g 1 (with_request rs id new) ≡ opens g 1 rs
opens_stay g rs zero r new found submission stage = absurd (cc)
opens_stay g rs (suc i) r new found submission stage = rw (with_suc rs i new) (stay_open g rs 1 i r new (sym (request_suc rs i) ∙ found) submission stage)

pub opens_add : (g h : Notes) (rs : List DiskRequest) (r : DiskRequest) → is_finished r.stage ≡ false → ((k : ℕ) → (k ≡ length rs + 1 → ⊥) → h k ≡ g k)
    → opens h 1 (rs ++ r ∷ []) ≡ insert_entry nat_cmp (opens g 1 rs) (length rs + 1) (open_as (length rs + 1) r (h (length rs + 1)))
opens_add g h rs r waits same =
    let at : 1 + length rs ≡ length rs + 1 = omega arith in
    let before : opens h 1 rs ≡ opens g 1 rs = same_notes g h rs 1 (λ k low high. same k (λ e. absurd (omega arith))) in
    rw (← before) (subst (λ (k : ℕ). opens h 1 (rs ++ r ∷ []) ≡ insert_entry nat_cmp (opens h 1 rs) k (open_as k r (h k))) at (one_more_open h rs 1 r waits))

-- ---- what unfinished requests hold
abbrev pub held : (Submission → ℕ) → DiskRequest → ℕ
held f r = if is_finished r.stage then 0 else f r.submission

pub first_held : (f : Submission → ℕ) (x : DiskRequest) (rs : List DiskRequest) → sum_by (held f) (x ∷ rs) ≡ held f x + sum_by (held f) rs
first_held f x rs =
    let all : sum_by (held f) (x ∷ rs) ≡ sum_by (held f) (x ∷ []) + sum_by (held f) rs = sum_by-append (held f) (x ∷ []) rs in
    omega arith

held_set : (f : Submission → ℕ) (rs : List DiskRequest) (i : ℕ) (r new : DiskRequest) → slice_get rs i ≡ Some r → sum_by (held f) (slice_set rs i new) + held f r ≡ sum_by (held f) rs + held f new
held_set f [] i r new found = absurd (cc)
held_set f (x ∷ rs) zero r new found =
    let is : x ≡ r = cc in
    let one : sum_by (held f) (new ∷ rs) ≡ held f new + sum_by (held f) rs = first_held f new rs in
    let other : sum_by (held f) (r ∷ rs) ≡ held f r + sum_by (held f) rs = first_held f r rs in
    rw (is, one, other) (omega arith)
held_set f (x ∷ rs) (suc i) r new found =
    let rest : sum_by (held f) (slice_set rs i new) + held f r ≡ sum_by (held f) rs + held f new = held_set f rs i r new found in
    let one : sum_by (held f) (x ∷ slice_set rs i new) ≡ held f x + sum_by (held f) (slice_set rs i new) = first_held f x (slice_set rs i new) in
    let other : sum_by (held f) (x ∷ rs) ≡ held f x + sum_by (held f) rs = first_held f x rs in
    rw (one, other) (omega arith)

pub held_with : (f : Submission → ℕ) (rs : List DiskRequest) (id : ℕ) (r new : DiskRequest) → request_of rs id ≡ Some r → sum_by (held f) (with_request rs id new) + held f r ≡ sum_by (held f) rs + held f new
held_with f rs zero r new found = absurd (cc)
held_with f rs (suc i) r new found = rw (with_suc rs i new) (held_set f rs i r new (sym (request_suc rs i) ∙ found))

pub held_more : (f : Submission → ℕ) (rs : List DiskRequest) (r : DiskRequest) → is_finished r.stage ≡ false → sum_by (held f) (rs ++ r ∷ []) ≡ sum_by (held f) rs + f r.submission
held_more f rs r waits =
    let all : sum_by (held f) (rs ++ r ∷ []) ≡ sum_by (held f) rs + sum_by (held f) (r ∷ []) = sum_by-append (held f) rs (r ∷ []) in
    let last : held f r ≡ f r.submission = rw waits refl in
    omega arith

pub held_reopened : (f : Submission → ℕ) (rs : List DiskRequest) → sum_by (held f) (map reopened rs) ≡ sum_by (held f) rs
held_reopened f [] = refl
held_reopened f (r ∷ rs) =
    let here : held f (reopened r) ≡ held f r = rw (reopened_stage r, reopened_job r) refl in
    first_held f (reopened r) (map reopened rs) ∙ (rw (here, held_reopened f rs) (sym (first_held f r rs)))

pub length_request : (rs : List DiskRequest) (id : ℕ) (new : DiskRequest) → length (with_request rs id new) ≡ length rs
length_request rs id new = length_with rs (id - 1) new

pub length_reopened : (rs : List DiskRequest) → length (map reopened rs) ≡ length rs
length_reopened [] = refl
length_reopened (r ∷ rs) = ap suc (length_reopened rs)
