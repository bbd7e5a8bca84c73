-- The front's end of the ring with what isn't seen yet, where the back's producer is at `shown` and the back saw the front's at `saw`: how a move lowers it, and that a look lowers it too.
use Rattle.std.proofs.Common.{◌≡◌, ℕ, ◌+◌, ◌*◌, ◌^◌, ◌<◌, ◌≤◌, ◌==◌, ◌⊎◌, inl, inr, Bool, true, false, if◌then◌else◌, refl, ap, arith}
use Rattle.std.specs.Prelude.{nat_lt}
use Rattle.std.proofs.lemmas.Bool.Decides.{nat_tests}
use Rattle.blk_base.specs.Distance.{distance_of}
use Rattle.blk_base.specs.declared.ask.FrontAnswer.{FrontAnswer}
use Rattle.blk_base.specs.declared.ask.FrontAnswer.TheVariants as answer
use Rattle.blk_front.specs.declared.stage.FrontStage.{FrontStage}
use Rattle.blk_front.specs.declared.stage.FrontStage.TheVariants as stage
use Rattle.blk_front.specs.View.{View}
use Rattle.blk_front.specs.Step.{broken, looked, step_at}
use Rattle.front_laws.specs.Left.{awake_left, left_at, left_of}
use Rattle.front_laws.proofs.Lowers.{prices}
use Rattle.ring_settle_laws.specs.Left.{front_sends, front_saw}
use Rattle.ring_settle_laws.proofs.FrontCalm.{Calm}

abbrev pub front_end : (shown saw : ℕ) → FrontStage → View → ℕ
front_end shown saw s v = left_at s v + front_sends s + 7 * distance_of (front_saw s v) shown + 39 * distance_of saw v.ring.indices.prod

abbrev pub front_end_of : (shown saw : ℕ) → View → ℕ
front_end_of shown saw v = front_end shown saw v.stage v

-- a push takes 44 from its request's price, an event 5 from a mark, and a watch costs 1
abbrev pub given : FrontStage → FrontAnswer → ℕ
given s answer.Event = 5
given s (answer.Watched path) = 1
given stage.Producer a = 44
given s a = 0

-- a send gives a mark 5
abbrev pub sent : FrontStage → ℕ
sent stage.Send = 5
sent s = 0

abbrev pub Falls : (shown saw : ℕ) → FrontStage → View → FrontAnswer → Type 0
Falls shown saw s v a = front_end_of shown saw (step_at s v a) + 1 + sent s ≤ front_end shown saw s v + given s a

-- with all else as it was, what falls is the front's own part
sum_falls : (left left' sends sends' near near' far far' n : ℕ) → left' < left + n → sends' ≤ sends → near' ≡ near → far' ≡ far → left' + sends' + 7 * near' + 39 * far' + 1 ≤ left + sends + 7 * near + 39 * far + n
sum_falls left left' sends sends' near near' far far' n lower fewer same too = omega arith

pub calm_falls : (shown saw : ℕ) (s : FrontStage) (v x : View) (n : ℕ) → Calm s v x → left_of x < left_at s v + n → front_end_of shown saw x + 1 ≤ front_end shown saw s v + n
calm_falls shown saw s v x n calm lower =
    sum_falls (left_at s v) (left_of x) (front_sends s) (front_sends x.stage) (distance_of (front_saw s v) shown) (distance_of (front_saw x.stage x) shown) (distance_of saw v.ring.indices.prod) (distance_of saw x.ring.indices.prod) n lower calm.sends
    (ap (λ (i : ℕ). distance_of i shown) calm.saw) (ap (λ (i : ℕ). distance_of saw i) calm.prod)

-- a producer that was read is one between the front's consumer and the back's producer, which isn't further on than the front's own
pub record IsBetween (cons prod shown word : ℕ) : Type 0 where
  pub low : word < 2 ^ 32
  pub honest : distance_of cons word ≤ distance_of cons prod
  pub adds : distance_of cons word + distance_of word shown ≡ distance_of cons shown

ahead : (a b : ℕ) → a < 2 ^ 32 → b < 2 ^ 32 → (b == a) ≡ false → 1 ≤ distance_of a b
ahead a b small low e =
    let other : (b < a) ⊎ (a < b) = grind (arith, nat_tests) in
    elim other [ inl below ↦ omega arith | inr above ↦ omega arith ]

-- what it shows is worth 7 each, of which 3 stay
shown_falls : (awake ahead price near total far n : ℕ) → awake ≤ 4 → 1 ≤ ahead → ahead + near ≡ total → 1 + price + 7 * total + 39 * far ≤ n → awake + 3 * ahead + price + 7 * near + 39 * far + 1 ≤ n
shown_falls awake ahead price near total far n few some adds least = omega arith

module _ (shown saw : ℕ) (v : View) (word : ℕ) (small : v.ring.indices.cons < 2 ^ 32) (is : IsBetween v.ring.indices.cons v.ring.indices.prod shown word) where
  pub looked_falls : (n : ℕ) (otherwise : View) → 1 + prices v + 7 * distance_of v.ring.indices.cons shown + 39 * distance_of saw v.ring.indices.prod ≤ n
      → (word ≡ v.ring.indices.cons → front_end_of shown saw otherwise + 1 ≤ n) → front_end_of shown saw (looked v word otherwise) + 1 ≤ n
  looked_falls n otherwise least none = by_broken (nat_lt (distance_of v.ring.indices.cons v.ring.indices.prod) (distance_of v.ring.indices.cons word)) refl
    where
      by_new : (b : Bool) → (word == v.ring.indices.cons) ≡ b → front_end_of shown saw (if b then otherwise else record v { ring = record v.ring { seen = word }; stage = stage.Loop }) + 1 ≤ n
      by_new true e = none (grind (arith, nat_tests))
      by_new false e =
          let falls = shown_falls (awake_left v.ring.asleep) (distance_of v.ring.indices.cons word) (prices v) (distance_of word shown) (distance_of v.ring.indices.cons shown) (distance_of saw v.ring.indices.prod) n
          (elim v.ring.asleep as (λ b. awake_left b ≤ 4) [ true ↦ omega arith | false ↦ omega arith ]) (ahead v.ring.indices.cons word small is.low e) is.adds least in
          omega (arith, falls)

      by_broken : (b : Bool) → nat_lt (distance_of v.ring.indices.cons v.ring.indices.prod) (distance_of v.ring.indices.cons word) ≡ b
          → front_end_of shown saw (if b then broken word v else (if word == v.ring.indices.cons then otherwise else record v { ring = record v.ring { seen = word }; stage = stage.Loop })) + 1 ≤ n
      by_broken true e = let further : distance_of v.ring.indices.cons v.ring.indices.prod < distance_of v.ring.indices.cons word = grind (arith, nat_tests) in absurd (omega (arith, further, is.honest))
      by_broken false e = by_new (word == v.ring.indices.cons) refl
