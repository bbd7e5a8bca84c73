-- At each stage a move of the front lowers its end of the ring with what isn't seen yet; a push by 44 less, and a send by 5 more.
use Rattle.std.proofs.Common.{◌≡◌, ℕ, ◌+◌, ◌*◌, ◌<◌, ◌≤◌, ◌==◌, ◌||◌, inl, inr, Bool, true, false, if◌then◌else◌, length, refl, sym, subst, arith}
use Rattle.std.specs.Prelude.{Option, None}
use Rattle.blk_base.specs.Distance.{distance_of}
use Rattle.blk_base.specs.declared.ask.FrontAnswer.{FrontAnswer}
use Rattle.blk_base.specs.declared.ask.FrontAnswer.TheVariants as answer
use Rattle.blk_base.specs.declared.ask.FrontAsk.TheVariants.{Wait, Read}
use Rattle.ring_words.specs.Ring.{next_of, responses_of}
use Rattle.blk_front.specs.declared.request.Request.{Request}
use Rattle.blk_front.specs.declared.stage.FrontStage.{FrontStage}
use Rattle.blk_front.specs.declared.stage.FrontStage.TheVariants as stage
use Rattle.blk_front.specs.View.{View, next_request}
use Rattle.blk_front.specs.Ask.{ask_at, loop_ask, is_through, response_ask, IsAnswer}
use Rattle.blk_front.specs.Step.{pushed, step_at}
use Rattle.front_laws.specs.Left.{left_at, left_of}
use Rattle.front_laws.proofs.Issued.{push_lowers}
use Rattle.ring_settle_laws.proofs.FrontCalm.{IsCalm, calm_step}
use Rattle.ring_settle_laws.proofs.FrontEnd.{given, sent, Falls, calm_falls}
use Rattle.ring_settle_laws.proofs.FrontLoop.{LoopFalls, waits_falls, loop_falls, again_falls}
use Rattle.ring_settle_laws.proofs.FrontLows.{IsReady, low_step}

module _ (shown saw : ℕ) where
  calm_case : (s : FrontStage) (v : View) (a : FrontAnswer) → v.stage ≡ s → IsCalm s → sent s ≡ 0 → IsReady shown s v a → IsAnswer (ask_at s v) a → Falls shown saw s v a
  calm_case s v a here is none ready ok =
      let falls = calm_falls shown saw s v (step_at s v a) (given s a) (calm_step s v a here is) (low_step shown s v a here is ready ok) in
      omega (arith, falls, none)

  -- it sends: nothing is due any more
  send_falls : (v : View) (a : FrontAnswer) → Falls shown saw stage.Send v a
  send_falls v a = omega arith

  -- it pushes: one request more isn't seen, and an event may be due
  push_of : (left left' near far far' : ℕ) → left' < left → far' ≤ far + 1 → left' + 5 + near + 39 * far' + 1 + 0 ≤ left + 0 + near + 39 * far + 44
  push_of left left' near far far' lower one = omega arith

  further : (a b : ℕ) → distance_of a (next_of b) ≤ distance_of a b + 1
  further a b = omega arith

  push_falls : (v : View) → 0 < v.waiting → v.waiting ≤ length v.requests → Falls shown saw stage.Producer v answer.Done
  push_falls v some few =
      push_of (left_at stage.Producer v) (left_of (pushed v)) (7 * distance_of v.ring.seen shown) (distance_of saw v.ring.indices.prod) (distance_of saw (next_of v.ring.indices.prod))
      (push_lowers v answer.Done some few) (further saw v.ring.indices.prod)

  -- a closing front without requests waits
  through_waits : (v : View) (a : FrontAnswer) (o : Option Request) → o ≡ None → v.stage ≡ stage.Loop → is_through v ≡ true → IsAnswer (loop_ask v o) a → LoopFalls shown saw o v a
  through_waits v a o none here through ok =
      subst (λ (x : Option Request). IsAnswer (loop_ask v x) a → LoopFalls shown saw x v a) (sym none) (λ ok. waits_falls shown saw v a here (by_asleep v.ring.asleep (is_through v) through ok)) ok
    where
      by_asleep : (b c : Bool) → c ≡ true → IsAnswer (if b || c then Wait else (if responses_of v.ring.indices v.ring.seen == 0 then Read 2 2 else response_ask v 0)) a → IsAnswer Wait a
      by_asleep true c t ok = ok
      by_asleep false true t ok = ok
      by_asleep false false t ok = absurd cc

  pub falls_at : (s : FrontStage) (v : View) (a : FrontAnswer) → v.stage ≡ s → IsReady shown s v a → IsAnswer (ask_at s v) a → Falls shown saw s v a
  falls_at stage.Loop v a here (inl through) ok = let falls = through_waits v a (next_request v) through.0 here through.1 ok in omega (arith, falls)
  falls_at stage.Loop v a here (inr ready) ok = let falls = loop_falls shown saw (next_request v) v a refl here ready ok in omega (arith, falls)
  falls_at stage.Producer v answer.Done here ready ok = push_falls v ready.0 ready.1
  falls_at stage.Producer v a here ready ok = absurd ok
  falls_at stage.LookAgain v (answer.Word word) here ready ok = let falls = again_falls shown saw v word ready.0 ready.1 in omega (arith, falls)
  falls_at stage.LookAgain v a here ready ok = absurd ok
  falls_at stage.Send v a here ready ok = send_falls v a
  falls_at s v a here ready ok = calm_case s v a here tt refl ready ok
