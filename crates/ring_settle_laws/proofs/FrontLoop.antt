-- The front's loop, and its last look, lower its end of the ring with what isn't seen yet.
use Rattle.std.proofs.Common.{◌≡◌, ℕ, ◌+◌, ◌-◌, ◌*◌, ◌^◌, ◌<◌, ◌≤◌, ◌==◌, ◌||◌, Bool, true, false, if◌then◌else◌, refl, ap, arith}
use Rattle.std.specs.Prelude.{Option, Some, None}
use Rattle.std.proofs.lemmas.Bool.Decides.{nat_tests}
use Rattle.blk_base.specs.Distance.{distance_of}
use Rattle.blk_base.specs.declared.ask.FrontAsk.TheVariants.{Wait, Read}
use Rattle.blk_base.specs.declared.ask.FrontAnswer.{FrontAnswer}
use Rattle.blk_base.specs.declared.ask.FrontAnswer.TheVariants as answer
use Rattle.ring_words.specs.Ring.{responses_of}
use Rattle.blk_front.specs.declared.request.Request.{Request}
use Rattle.blk_front.specs.declared.stage.FrontStage.TheVariants as stage
use Rattle.blk_front.specs.Request.{is_moving}
use Rattle.blk_front.specs.View.{View, next_request}
use Rattle.blk_front.specs.Ask.{is_through, response_ask, loop_ask, IsAnswer}
use Rattle.blk_front.specs.Step.{at, begun, looked, loop_step}
use Rattle.front_laws.specs.Left.{awake_left}
use Rattle.front_laws.proofs.Issued.{begin_lowers}
use Rattle.front_laws.proofs.Lowers.{prices, no_distance}
use Rattle.ring_settle_laws.proofs.FrontCalm.{still, begun_calm}
use Rattle.ring_settle_laws.proofs.FrontEnd.{front_end, front_end_of, given, calm_falls, IsBetween, looked_falls}

-- a word that was read of the back's producer
abbrev pub IsLooked : (shown : ℕ) → View → FrontAnswer → Type 0
IsLooked shown v (answer.Word word) = IsBetween v.ring.indices.cons v.ring.indices.prod shown word
IsLooked shown v a = Unit {0}

-- the front looks for responses only where it is awake, has none left that it saw, and issues nothing
pub record IsLooping (shown : ℕ) (v : View) (a : FrontAnswer) : Type 0 where
  pub some : (r : Request) → next_request v ≡ Some r → is_moving r.transfer ≡ true → 1 ≤ r.count
  pub cons : v.ring.indices.cons < 2 ^ 32
  pub seen : v.ring.seen < 2 ^ 32
  pub looks : next_request v ≡ None → v.ring.asleep ≡ false → is_through v ≡ false → (responses_of v.ring.indices v.ring.seen == 0) ≡ true → IsLooked shown v a

module _ (shown saw : ℕ) where
  abbrev pub LoopFalls : Option Request → View → FrontAnswer → Type 0
  LoopFalls o v a = front_end_of shown saw (loop_step v o a) + 1 ≤ front_end shown saw stage.Loop v + given stage.Loop a

  -- it takes its event, or its watch
  pub waits_falls : (v : View) (a : FrontAnswer) → v.stage ≡ stage.Loop → IsAnswer Wait a → front_end_of shown saw (loop_step v None a) + 1 ≤ front_end shown saw stage.Loop v + given stage.Loop a
  waits_falls v answer.Event here ok = rw here (omega arith)
  waits_falls v (answer.Watched path) here ok = rw here (omega arith)
  waits_falls v a here ok = absurd ok

  -- it looks
  same_index : (a b : ℕ) → a < 2 ^ 32 → b < 2 ^ 32 → (distance_of a b == 0) ≡ true → b ≡ a
  same_index a b small low e = let none : distance_of a b ≡ 0 = grind (arith, nat_tests) in omega (arith, none)

  look_falls : (v : View) (word : ℕ) → v.ring.asleep ≡ false → v.ring.indices.cons < 2 ^ 32 → v.ring.seen < 2 ^ 32 → (responses_of v.ring.indices v.ring.seen == 0) ≡ true → IsBetween v.ring.indices.cons v.ring.indices.prod shown word
      → front_end_of shown saw (looked v word (record v { ring = record v.ring { seen = word }; stage = stage.StoreEvent })) + 1 ≤ front_end shown saw stage.Loop v
  look_falls v word awake small low e is =
      let up : awake_left v.ring.asleep ≡ 4 = rw awake refl in
      let at_none : v.ring.seen ≡ v.ring.indices.cons = same_index v.ring.indices.cons v.ring.seen small low e in
      let near : distance_of v.ring.seen shown ≡ distance_of v.ring.indices.cons shown = ap (λ (i : ℕ). distance_of i shown) at_none in
      looked_falls shown saw v word small is (front_end shown saw stage.Loop v) (record v { ring = record v.ring { seen = word }; stage = stage.StoreEvent })
      (omega (arith, least_of (awake_left v.ring.asleep) (3 * distance_of v.ring.indices.cons v.ring.seen) (prices v) (distance_of v.ring.seen shown) (distance_of v.ring.indices.cons shown) (39 * distance_of saw v.ring.indices.prod) up near))
      (λ same.
      let none : distance_of v.ring.indices.cons word ≡ 0 = rw same (no_distance v.ring.indices.cons small) in
      omega (arith, stores_of (awake_left v.ring.asleep) (distance_of v.ring.indices.cons word) (distance_of v.ring.indices.cons v.ring.seen) (prices v) (distance_of v.ring.seen shown) (distance_of v.ring.indices.cons shown) (39 * distance_of saw v.ring.indices.prod) up none near))
    where
      least_of : (awake owed price near total far : ℕ) → awake ≡ 4 → near ≡ total → 1 + price + 7 * total + far ≤ awake + owed + price + 0 + 7 * near + far
      least_of awake owed price near total far up same = omega arith

      stores_of : (awake none owed price near total far : ℕ) → awake ≡ 4 → none ≡ 0 → near ≡ total → 3 + 3 * none + price + 0 + 7 * total + far + 1 ≤ awake + 3 * owed + price + 0 + 7 * near + far
      stores_of awake none owed price near total far up is same = omega arith

  reads_left : (awake ahead price : ℕ) → awake ≡ 4 → 1 ≤ ahead → 2 + 3 * (ahead - 1) + 4 + price < awake + 3 * ahead + price
  reads_left awake ahead price up some = omega arith

  -- or reads a response
  read_falls : (v : View) (word n : ℕ) → v.ring.asleep ≡ false → (responses_of v.ring.indices v.ring.seen == 0) ≡ false → front_end_of shown saw (at (stage.ResponseHigh word) v) + 1 ≤ front_end shown saw stage.Loop v + n
  read_falls v word n awake e =
      let up : awake_left v.ring.asleep ≡ 4 = rw awake refl in
      let some : 1 ≤ distance_of v.ring.indices.cons v.ring.seen = grind (arith, nat_tests) in
      calm_falls shown saw stage.Loop v (at (stage.ResponseHigh word) v) n (still refl refl refl)
      (omega (arith, reads_left (awake_left v.ring.asleep) (distance_of v.ring.indices.cons v.ring.seen) (prices v) up some))

  awake_falls : (b : Bool) (v : View) (a : FrontAnswer) → (responses_of v.ring.indices v.ring.seen == 0) ≡ b → next_request v ≡ None → v.ring.asleep ≡ false → is_through v ≡ false → IsLooping shown v a
      → IsAnswer (if b then Read 2 2 else response_ask v 0) a → LoopFalls None v a
  awake_falls true v (answer.Word word) e none awake going ready ok = rw e (omega (arith, look_falls v word awake ready.cons ready.seen e (ready.looks none awake going e)))
  awake_falls false v (answer.Word word) e none awake going ready ok = rw e (read_falls v word 0 awake e)
  awake_falls true v a e none awake going ready ok = absurd ok
  awake_falls false v a e none awake going ready ok = absurd ok

  pub loop_falls : (o : Option Request) (v : View) (a : FrontAnswer) → next_request v ≡ o → v.stage ≡ stage.Loop → IsLooping shown v a → IsAnswer (loop_ask v o) a → LoopFalls o v a
  loop_falls (Some r) v a next here ready ok =
      let lower = begin_lowers r.transfer v r next (ready.some r next) in
      calm_falls shown saw stage.Loop v (begun v r r.transfer) (given stage.Loop a) (begun_calm r.transfer v r) (omega (arith, lower))
  loop_falls None v a next here ready ok = by_asleep v.ring.asleep (is_through v) refl refl ok
    where
      by_asleep : (b c : Bool) → v.ring.asleep ≡ b → is_through v ≡ c → IsAnswer (if b || c then Wait else (if responses_of v.ring.indices v.ring.seen == 0 then Read 2 2 else response_ask v 0)) a → LoopFalls None v a
      by_asleep true c is going ok = waits_falls v a here ok
      by_asleep false true is going ok = waits_falls v a here ok
      by_asleep false false is going ok = awake_falls (responses_of v.ring.indices v.ring.seen == 0) v a refl next is going ready ok

  -- a last look
  again_of : (none owed price near total far : ℕ) → none ≡ 0 → near ≡ total → 0 + 3 * none + price + 0 + 7 * near + far + 1 ≤ 1 + 3 * owed + price + 0 + 7 * total + far
  again_of none owed price near total far is same = omega arith

  pub again_falls : (v : View) (word : ℕ) → v.ring.indices.cons < 2 ^ 32 → IsBetween v.ring.indices.cons v.ring.indices.prod shown word
      → front_end_of shown saw (looked v word (record v { ring = record v.ring { seen = word; asleep = true }; stage = stage.Loop })) + 1 ≤ front_end shown saw stage.LookAgain v
  again_falls v word small is =
      looked_falls shown saw v word small is (front_end shown saw stage.LookAgain v) (record v { ring = record v.ring { seen = word; asleep = true }; stage = stage.Loop })
      (omega arith)
      (λ same.
      let none : distance_of v.ring.indices.cons word ≡ 0 = rw same (no_distance v.ring.indices.cons small) in
      let near : distance_of word shown ≡ distance_of v.ring.indices.cons shown = ap (λ (i : ℕ). distance_of i shown) same in
      omega (arith, again_of (distance_of v.ring.indices.cons word) (distance_of v.ring.indices.cons v.ring.seen) (prices v) (distance_of word shown) (distance_of v.ring.indices.cons shown) (39 * distance_of saw v.ring.indices.prod) none near))
