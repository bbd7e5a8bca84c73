-- Sums over requests: of what stands at places, or has keys in order, and of what a sector costs.
use Rattle.std.proofs.Common.{◌≡◌, ℕ, suc, ◌+◌, ◌*◌, ◌<◌, ◌≤◌, ◌==◌, Bool, cond, List, [], ◌∷◌, length, refl, ap, ◌∙◌, arith}
use Rattle.std.specs.Prelude.{AllPairs, Some, slice_get, sum_by, nat_le}
use Rattle.std.proofs.lemmas.Bool.{eq-eqb}
use Rattle.std.proofs.lemmas.Bool.Decides.{nat_tests}
use Rattle.std.proofs.lemmas.List.Sums.{sum_by-cons}
use Rattle.blk_front.specs.declared.request.Request.{Request}
use Rattle.machine_pipeline.proofs.Lists.{all_at, sum_one, pairs_head, pairs_tail}

-- the price of the request of a number, and of all from a number on
abbrev pub at_number : (Request → ℕ) → ℕ → List Request → ℕ
at_number price n requests = sum_by (λ (r : Request). cond (r.number == n) (price r) 0) requests

abbrev from_number : (Request → ℕ) → ℕ → List Request → ℕ
from_number price n requests = sum_by (λ (r : Request). cond (nat_le n r.number) (price r) 0) requests

from_next : (price : Request → ℕ) (n : ℕ) (requests : List Request) → from_number price n requests ≡ at_number price n requests + from_number price (n + 1) requests
from_next price n [] = refl
from_next price n (r ∷ requests) =
    let rest = from_next price n requests in
    let all = sum_by-cons (λ (x : Request). cond (nat_le n x.number) (price x) 0) r requests in
    let here = sum_by-cons (λ (x : Request). cond (x.number == n) (price x) 0) r requests in
    let more = sum_by-cons (λ (x : Request). cond (nat_le (n + 1) x.number) (price x) 0) r requests in
    let one : cond (nat_le n r.number) (price r) 0 ≡ cond (r.number == n) (price r) 0 + cond (nat_le (n + 1) r.number) (price r) 0 = grind (arith, nat_tests) in
    omega (arith, rest, all, here, more, one)

from_later : (price : Request → ℕ) (m n : ℕ) (requests : List Request) → m ≤ n → from_number price n requests ≤ from_number price m requests
from_later price m n [] le = omega arith
from_later price m n (r ∷ requests) le =
    let rest = from_later price m n requests le in
    let all = sum_by-cons (λ (x : Request). cond (nat_le m x.number) (price x) 0) r requests in
    let more = sum_by-cons (λ (x : Request). cond (nat_le n x.number) (price x) 0) r requests in
    let one : cond (nat_le n r.number) (price r) 0 ≤ cond (nat_le m r.number) (price r) 0 = grind (arith, nat_tests) in
    omega (arith, rest, all, more, one)

from_all : (price : Request → ℕ) (n : ℕ) (requests : List Request) → from_number price n requests ≤ sum_by price requests
from_all price n [] = omega arith
from_all price n (r ∷ requests) =
    let rest = from_all price n requests in
    let all = sum_by-cons price r requests in
    let more = sum_by-cons (λ (x : Request). cond (nat_le n x.number) (price x) 0) r requests in
    let one : cond (nat_le n r.number) (price r) 0 ≤ price r = grind (arith, nat_tests) in
    omega (arith, rest, all, more, one)

-- one of them has that number
pub at_one : (price : Request → ℕ) (n i : ℕ) (requests : List Request) (r : Request) → slice_get requests i ≡ Some r → r.number ≡ n → price r ≤ at_number price n requests
at_one price n i requests r at same =
    let one = sum_one (λ (x : Request). cond (x.number == n) (price x) 0) requests i r at in
    let its : cond (r.number == n) (price r) 0 ≡ price r = ap (λ (b : Bool). cond b (price r) 0) (eq-eqb r.number n same) in
    omega (arith, one, its)

-- what stands at each place costs no more than the request of the number that is one more
places_cost : {X : Type 0} (f : X → ℕ) (price : Request → ℕ) (requests : List Request) (n : ℕ) (xs : List X) → ((k : ℕ) (x : X) → slice_get xs k ≡ Some x → f x ≤ at_number price (n + k) requests) → sum_by f xs ≤ from_number price n requests
places_cost f price requests n [] each = omega arith
places_cost f price requests n (x ∷ xs) each =
    let rest = places_cost f price requests (n + 1) xs (λ k y e. let it = each (suc k) y e in let same : n + suc k ≡ n + 1 + k = omega arith in omega (arith, it, ap (λ (m : ℕ). at_number price m requests) same)) in
    let same : n + 0 ≡ n = omega arith in
    omega (arith, rest, each 0 x refl, ap (λ (m : ℕ). at_number price m requests) same, from_next price n requests, sum_by-cons f x xs)

pub at_places : {X : Type 0} (f : X → ℕ) (price : Request → ℕ) (requests : List Request) (xs : List X) → ((k : ℕ) (x : X) → slice_get xs k ≡ Some x → f x ≤ at_number price (k + 1) requests) → sum_by f xs ≤ sum_by price requests
at_places f price requests xs each =
    omega (arith, places_cost f price requests 1 xs (λ k x e. let it = each k x e in let same : 1 + k ≡ k + 1 = omega arith in omega (arith, it, ap (λ (m : ℕ). at_number price m requests) same)), from_all price 1 requests)

-- so does each of what has keys in order
keys_cost : {X : Type 0} (f key : X → ℕ) (price : Request → ℕ) (requests : List Request) (n : ℕ) (xs : List X) → ((k : ℕ) (x : X) → slice_get xs k ≡ Some x → (n ≤ key x) × (f x ≤ at_number price (key x) requests)) → AllPairs (λ (x y : X). key x < key y) xs → sum_by f xs ≤ from_number price n requests
keys_cost f key price requests n [] each up = omega arith
keys_cost {X} f key price requests n (x ∷ xs) each up =
    let head = pairs_head (λ (x y : X). key x < key y) x xs up in
    let rest = keys_cost f key price requests (key x + 1) xs (λ k y e. (omega (arith, all_at (λ (z : X). key x < key z) xs k y head e), (each (suc k) y e).1)) (pairs_tail (λ (x y : X). key x < key y) x xs up) in
    let its = each 0 x refl in
    omega (arith, rest, its.1, from_next price (key x) requests, from_later price n (key x) requests its.0, sum_by-cons f x xs)

pub by_keys : {X : Type 0} (f key : X → ℕ) (price : Request → ℕ) (requests : List Request) (xs : List X) → ((k : ℕ) (x : X) → slice_get xs k ≡ Some x → f x ≤ at_number price (key x) requests) → AllPairs (λ (x y : X). key x < key y) xs → sum_by f xs ≤ sum_by price requests
by_keys f key price requests xs each up = omega (arith, keys_cost f key price requests 0 xs (λ k x e. (omega arith, each k x e)) up, from_all price 0 requests)

-- so much a request, and so much a sector of it
pub of_sectors : (price : Request → ℕ) (one sector : ℕ) (requests : List Request) → ((i : ℕ) (r : Request) → slice_get requests i ≡ Some r → price r ≤ one + sector * r.count)
    → sum_by price requests ≤ one * length requests + sector * sum_by (λ (r : Request). r.count) requests
of_sectors price one sector [] each = omega arith
of_sectors price one sector (r ∷ requests) each =
    let rest = of_sectors price one sector requests (λ i x e. each (suc i) x e) in
    let counts = sum_by-cons (λ (x : Request). x.count) r requests in
    let share : sector * sum_by (λ (x : Request). x.count) (r ∷ requests) ≡ sector * r.count + sector * sum_by (λ (x : Request). x.count) requests = ap (λ (n : ℕ). sector * n) counts ∙ omega arith in
    let ones : one * length (r ∷ requests) ≡ one + one * length requests = omega arith in
    omega (arith, rest, each 0 r refl, sum_by-cons price r requests, share, ones)
