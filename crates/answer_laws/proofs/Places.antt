-- The places of a request that were done, one place further on.
use Rattle.std.proofs.Common.{◌≡◌, ◌≢◌, ℕ, ◌<◌, ◌==◌, ◌&&◌, ◌||◌, Bool, true, false, cond, List, [], ◌∷◌, ◌++◌, refl, ap, sym, ◌∙◌, arith}
use Rattle.std.proofs.lemmas.Bool.Decides.{nat_tests}
use Rattle.std.proofs.lemmas.List.Folds.{list_any-append}
use Rattle.plain_disk.specs.declared.request.Place.{Place}
use Rattle.plain_disk.specs.Request.{is_done, done_count}
use Rattle.plain_disk.specs.Step.{place}
use Rattle.pipeline_laws.proofs.Counts.{count_push}
use Rattle.answer_laws.proofs.Below.{count_below, below_one, below_same}

or_same : (a b : Bool) → b ≡ false → (a || (b || false)) ≡ a
or_same true b e = refl
or_same false b e = rw e refl

or_here : (a b : Bool) → b ≡ true → (a || (b || false)) ≡ true
or_here true b e = refl
or_here false b e = rw e refl

on : (done : List Place) (n index id k : ℕ) → is_done (done ++ place n index ∷ []) id k ≡ (is_done done id k || ((n == id && index == k) || false))
on done n index id k = list_any-append (λ (p : Place). p.id == id && p.index == k) done (place n index ∷ [])

done_still : (done : List Place) (n index id k : ℕ) → (n == id && index == k) ≡ false → is_done (done ++ place n index ∷ []) id k ≡ is_done done id k
done_still done n index id k e = on done n index id k ∙ or_same (is_done done id k) (n == id && index == k) e

done_here : (done : List Place) (n index : ℕ) → is_done (done ++ place n index ∷ []) n index ≡ true
done_here done n index = on done n index n index ∙ or_here (is_done done n index) (n == n && index == index) (grind (arith, nat_tests))

-- as many places are done as there are places below this bound that are
abbrev pub AreBelow : List Place → ℕ → ℕ → Type 0
AreBelow done id n = done_count done id ≡ count_below n (is_done done id)

-- a place of another request
pub other_place : (done : List Place) (n index id : ℕ) → n ≢ id → done_count (done ++ place n index ∷ []) id ≡ done_count done id
other_place done n index id apart =
    let other : (n == id) ≡ false = grind (arith, nat_tests) in
    let more = count_push (λ (p : Place). p.id == id) done (place n index) in
    let one : ◌≡◌ {A = ℕ} (cond (n == id) 1 0) 0 = ap (λ (b : Bool). cond b 1 0) other in
    omega arith

pub below_other : (done : List Place) (n index id bound : ℕ) → n ≢ id → AreBelow done id bound → AreBelow (done ++ place n index ∷ []) id bound
below_other done n index id bound apart h =
    let other : (n == id) ≡ false = grind (arith, nat_tests) in
    other_place done n index id apart
    ∙ (h ∙ sym (below_same bound (is_done done id) (is_done (done ++ place n index ∷ []) id) (λ k. done_still done n index id k (rw other refl))))

-- a place of this one
pub below_here : (done : List Place) (n index bound : ℕ) → index < bound → is_done done n index ≡ false → AreBelow done n bound → AreBelow (done ++ place n index ∷ []) n bound
below_here done n index bound lt new h =
    let same : (n == n) ≡ true = grind (arith, nat_tests) in
    let more = count_push (λ (p : Place). p.id == n) done (place n index) in
    let one : ◌≡◌ {A = ℕ} (cond (n == n) 1 0) 1 = ap (λ (b : Bool). cond b 1 0) same in
    let below = below_one bound (is_done done n) (is_done (done ++ place n index ∷ []) n) index lt new (done_here done n index) (λ j apart. done_still done n index n j (at j apart)) in
    omega arith
  where
    at : (j : ℕ) → j ≢ index → (n == n && index == j) ≡ false
    at j apart = grind (arith, nat_tests)
