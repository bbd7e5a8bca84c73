-- What is left to the back's end of the ring is within what its pages, what it saw and its jobs tell.
use Rattle.std.proofs.Common.{◌≡◌, ◌≢◌, ℕ, zero, suc, ◌+◌, ◌<◌, ◌≤◌, ◌==◌, Bool, true, false, cond, List, [], ◌∷◌, length, refl, ap, sym, ◌∙◌, arith, inl, inr}
use Rattle.std.specs.Prelude.{All, AllPairs, Some, slice_get, sum_by, nat_lt}
use Rattle.std.proofs.lemmas.Bool.{cases_eq, eq-eqb, ne_eqb}
use Rattle.std.proofs.lemmas.Bool.Decides.{nat_tests}
use Rattle.std.proofs.lemmas.List.Sums.{sum_by-cons}
use Rattle.blk_base.specs.declared.operation.Abi.{Abi}
use Rattle.blk_base.specs.declared.operation.Abi.TheVariants.{X64, X32}
use Rattle.blk_base.specs.declared.parts.Mapping.{Mapping}
use Rattle.ring_words.specs.Shape.{entry_words_of}
use Rattle.blk_back.specs.declared.stage.BackStage.{BackStage}
use Rattle.blk_back.specs.declared.stage.BackStage.TheVariants as stage
use Rattle.blk_back.specs.View.{View}
use Rattle.back_laws.specs.BackLeft.{left_at, awake_left, owed, rest}
use Rattle.machine_pipeline.proofs.Lists.{all_at, pairs_head, pairs_tail, sum_none}
use Rattle.ring_settle_laws.specs.Left.{back_sends}
use Rattle.front_laws.proofs.Issued.{few_words}

pub sends_few : (s : BackStage) → back_sends s ≤ 5
sends_few (stage.ProducerFence old) = omega arith
sends_few s = omega arith

rest_few : (v : View) → rest v ≤ 4 + owed v
rest_few v = omega (arith, (elim v.ring.asleep as (λ asleep. awake_left asleep ≤ 4) [ true ↦ omega arith | false ↦ omega arith ]))

-- the stage adds no more than 24 pages take, and an entry
pub left_few : (s : BackStage) (v : View) → (s ≡ stage.MapRing → length v.grefs ≤ 16) → length v.pages ≤ 24 → left_at s v ≤ 41 + owed v
left_few stage.MapRing v terms held = omega (arith, terms refl, rest_few v)
left_few stage.Bind v terms held = omega (arith, rest_few v)
left_few stage.Loop v terms held = omega (arith, rest_few v)
left_few (stage.Fetch k) v terms held = omega (arith, few_words v.shape.abi)
left_few (stage.ReplyHigh r) v terms held = omega (arith, rest_few v)
left_few (stage.ReplyLast r) v terms held = omega (arith, rest_few v)
left_few (stage.Producer r) v terms held = omega (arith, rest_few v)
left_few (stage.ProducerFence old) v terms held = omega (arith, rest_few v)
left_few (stage.ResponseEvent old) v terms held = omega (arith, rest_few v)
left_few stage.Send v terms held = omega (arith, rest_few v)
left_few other v terms held = omega arith

-- Mappings of references of their own, each below a number, are no more than that.
abbrev are_below : ℕ → List Mapping → ℕ
are_below n pages = sum_by (λ (m : Mapping). cond (nat_lt m.gref n) 1 0) pages

abbrev are_at : ℕ → List Mapping → ℕ
are_at n pages = sum_by (λ (m : Mapping). cond (m.gref == n) 1 0) pages

below_next : (n : ℕ) (pages : List Mapping) → are_below (suc n) pages ≡ are_below n pages + are_at n pages
below_next n [] = refl
below_next n (m ∷ pages) =
    let rest = below_next n pages in
    let all = sum_by-cons (λ (x : Mapping). cond (nat_lt x.gref (suc n)) 1 0) m pages in
    let fewer = sum_by-cons (λ (x : Mapping). cond (nat_lt x.gref n) 1 0) m pages in
    let here = sum_by-cons (λ (x : Mapping). cond (x.gref == n) 1 0) m pages in
    let one : ◌≡◌ {A = ℕ} (cond (nat_lt m.gref (suc n)) 1 0) (cond (nat_lt m.gref n) 1 0 + cond (m.gref == n) 1 0) = grind (arith, nat_tests) in
    omega (arith, rest, all, fewer, here, one)

at_most_one : (n : ℕ) (pages : List Mapping) → AllPairs (λ (a b : Mapping). a.gref ≢ b.gref) pages → are_at n pages ≤ 1
at_most_one n [] distinct = omega arith
at_most_one n (m ∷ pages) distinct = elim (cases_eq m.gref n) [
  | inl same ↦
      let head = pairs_head (λ (a b : Mapping). a.gref ≢ b.gref) m pages distinct in
      let none = sum_none (λ (x : Mapping). cond (x.gref == n) 1 0) pages (λ i x e. ap (λ (b : Bool). cond b 1 0) (ne_eqb x.gref n (λ also. all_at (λ (z : Mapping). m.gref ≢ z.gref) pages i x head e (same ∙ sym also)))) in
      let here = sum_by-cons (λ (x : Mapping). cond (x.gref == n) 1 0) m pages in
      let one : ◌≡◌ {A = ℕ} (cond (m.gref == n) 1 0) 1 = ap (λ (b : Bool). cond b 1 0) (eq-eqb m.gref n same) in
      omega (arith, none, here, one)
  | inr other ↦
      let here = sum_by-cons (λ (x : Mapping). cond (x.gref == n) 1 0) m pages in
      let none : ◌≡◌ {A = ℕ} (cond (m.gref == n) 1 0) 0 = ap (λ (b : Bool). cond b 1 0) (ne_eqb m.gref n other) in
      omega (arith, at_most_one n pages (pairs_tail (λ (a b : Mapping). a.gref ≢ b.gref) m pages distinct), here, none)
]

below_few : (n : ℕ) (pages : List Mapping) → AllPairs (λ (a b : Mapping). a.gref ≢ b.gref) pages → are_below n pages ≤ n
below_few zero pages distinct = omega (arith, sum_none (λ (x : Mapping). cond (nat_lt x.gref 0) 1 0) pages (λ i x e. grind (arith, nat_tests)))
below_few (suc n) pages distinct = omega (arith, below_next n pages, at_most_one n pages distinct, below_few n pages distinct)

all_below : (n : ℕ) (pages : List Mapping) → ((i : ℕ) (m : Mapping) → slice_get pages i ≡ Some m → m.gref < n) → length pages ≤ are_below n pages
all_below n [] each = omega arith
all_below n (m ∷ pages) each =
    let here = sum_by-cons (λ (x : Mapping). cond (nat_lt x.gref n) 1 0) m pages in
    let it = each 0 m refl in
    let one : ◌≡◌ {A = ℕ} (cond (nat_lt m.gref n) 1 0) 1 = grind (arith, nat_tests) in
    omega (arith, here, one, all_below n pages (λ i x e. each (suc i) x e))

pub own_few : (pages : List Mapping) → All (λ (m : Mapping). (8 ≤ m.gref) × (m.gref < 24)) pages → AllPairs (λ (a b : Mapping). a.gref ≢ b.gref) pages → length pages ≤ 24
own_few pages grefs distinct =
    omega (arith, all_below 24 pages (λ i m e. (all_at (λ (x : Mapping). (8 ≤ x.gref) × (x.gref < 24)) pages i m grefs e).1), below_few 24 pages distinct)
