-- Each move of the front lowers what the machine of the ring has left to do; a watch that it takes costs one.
use Rattle.std.proofs.Common.{◌≡◌, ℕ, ◌+◌, ◌*◌, ◌≤◌, inl, inr, refl, ap, sym, subst, arith}
use Rattle.std.specs.Prelude.{Option, Some, None}
use Rattle.blk_base.specs.Options.{Options}
use Rattle.blk_base.specs.Distance.{distance_of}
use Rattle.blk_base.specs.declared.ask.FrontAnswer.{FrontAnswer}
use Rattle.blk_base.specs.declared.ask.FrontAnswer.TheVariants as answer
use Rattle.hypervisor.specs.Act.{FrontAct}
use Rattle.pipeline_laws.specs.Pipeline.{Pipeline, after_steps}
use Rattle.blk_front.specs.declared.stage.FrontStage.{FrontStage}
use Rattle.blk_front.specs.declared.stage.FrontStage.TheVariants as stage
use Rattle.blk_front.specs.View.{View}
use Rattle.blk_front.specs.Step.{step_of}
use Rattle.back_laws.specs.JobLeft.{all_left}
use Rattle.blk_back.specs.View as back
use Rattle.front_laws.specs.Left.{left_at}
use Rattle.split_model.specs.World.{World}
use Rattle.split_model.specs.Happening.{FrontMoves, front_turn, front_after}
use Rattle.split_model.proofs.SafeAnswers.{front_answered}
use Rattle.machine_pipeline.specs.Allowed.{IsServed}
use Rattle.machine_pipeline.proofs.Holds.{Holds}
use Rattle.machine_pipeline.proofs.Over.{Over, IsKept}
use Rattle.machine_pipeline.proofs.Turns.{front_next}
use Rattle.ring_settle_laws.specs.Left.{back_part, back_saw, front_sends, front_saw, marks_left, ring_left}
use Rattle.ring_settle_laws.specs.Stations.{requests_left}
use Rattle.ring_settle_laws.proofs.Gone.{Gone, left_after, front_watch}
use Rattle.ring_settle_laws.proofs.Stations.{Lowers, gone_lowers, requests_fall}
use Rattle.ring_settle_laws.proofs.FrontEnd.{front_end_of, given, sent}
use Rattle.ring_settle_laws.proofs.FrontLows.{IsReady}
use Rattle.ring_settle_laws.proofs.FrontFalls.{falls_at}
use Rattle.ring_settle_laws.proofs.FrontMarks.{taken_mark, marks_fall}
use Rattle.ring_settle_laws.proofs.FrontReady.{holds_ready, over_ready}
use Rattle.ring_settle_laws.proofs.FrontPush.{push_price_falls}

-- what is left doesn't depend on what is told
untold_left : (s : FrontStage) (v : View) → left_at s (record v { told = None }) ≡ left_at s v
untold_left stage.Loop v = refl
untold_left s v = refl

untold_saw : (s : FrontStage) (v : View) → front_saw s (record v { told = None }) ≡ front_saw s v
untold_saw stage.StoreEvent v = refl
untold_saw s v = refl

untold_end : (shown saw : ℕ) (v : View) → front_end_of shown saw (record v { told = None }) ≡ front_end_of shown saw v
untold_end shown saw v = same (front_sends v.stage) (39 * distance_of saw v.ring.indices.prod) _ _ _ _ (untold_left v.stage v) (ap (λ (i : ℕ). distance_of i shown) (untold_saw v.stage v))
  where
    same : (sends far left left' near near' : ℕ) → left' ≡ left → near' ≡ near → left' + sends + 7 * near' + far ≡ left + sends + 7 * near + far
    same sends far left left' near near' one two = omega (arith, one, two)

-- a push takes so much from a request's price
abbrev pushes : FrontStage → ℕ
pushes stage.Producer = 44
pushes s = 0

pays : (s : FrontStage) (a : FrontAnswer) → given s a ≤ taken_mark a + front_watch a + pushes s
pays s answer.Event = omega arith
pays s (answer.Watched path) = omega arith
pays stage.Producer a = omega arith
pays s a = omega arith

prices_fall : (config : Options) (w : World) (d p : Pipeline) (a : FrontAct) (s : FrontStage) → w.front.stage ≡ s → IsKept config w d → IsKept config (front_after w (Some a)) p → Lowers d.requests p.requests
    → requests_left p.requests + pushes s ≤ requests_left d.requests
prices_fall config w d p a stage.Producer here (inl held) kept lowers =
    push_price_falls config w held.0 d p a (subst (λ (t : FrontStage). Holds config w held.0 d t w.back.stage) here held.1) (subst (λ (t : FrontStage). IsKept config (front_next t w (Some a)) p) here kept) lowers
prices_fall config w d p a stage.Producer here (inr over) kept lowers = let o : Over config w d stage.Producer w.back.stage = subst (λ (t : FrontStage). Over config w d t w.back.stage) here over in absurd o.front_at
prices_fall config w d p a s here old kept lowers = omega (arith, requests_fall d.requests p.requests lowers)

ready : (config : Options) (w : World) (d : Pipeline) (a : FrontAct) → IsKept config w d → IsServed w FrontMoves → front_turn w ≡ Some a → IsReady w.back.ring.indices.prod w.front.stage w.front a.answer
ready config w d a (inl held) may turn = holds_ready config w held.0 d w.front.stage a refl held.1 turn
ready config w d a (inr over) may turn = over_ready config w d w.front.stage a.answer (may over.halted) over

-- the parts of the sum, one number each
sum_falls : (left sends back jobs near far marks prices left' sends' near' far' marks' prices' watch sent given taken pushed : ℕ)
    → left' + sends' + near' + far' + 1 + sent ≤ left + sends + near + far + given → marks' + taken ≤ marks + sent → prices' + pushed ≤ prices → given ≤ taken + watch + pushed
    → left' + sends' + back + jobs + (near' + far') + marks' + prices' + 1 ≤ left + sends + back + jobs + (near + far) + marks + prices + watch
sum_falls left sends back jobs near far marks prices left' sends' near' far' marks' prices' watch sent given taken pushed one two three four = omega arith

moves_fall : (config : Options) (w : World) (d p : Pipeline) (a : FrontAct) → IsKept config w d → IsServed w FrontMoves → front_turn w ≡ Some a → IsKept config (front_after w (Some a)) p → Lowers d.requests p.requests
    → ring_left (front_after w (Some a)) p + 1 ≤ ring_left w d + front_watch a.answer
moves_fall config w d p a kept may turn then lowers =
    let b : back.View = w.back in
    let shown : ℕ = w.back.ring.indices.prod in
    let saw : ℕ = back_saw w.back.stage w.back in
    let x : View = step_of w.front a.answer in
    let y : View = record x { told = None } in
    let falls = falls_at shown saw w.front.stage w.front a.answer refl (ready config w d a kept may turn) (front_answered w.under w.front a turn) in
    sum_falls (left_at w.front.stage w.front) (front_sends w.front.stage) (back_part w.back) (all_left b.jobs.works)
    (7 * distance_of (front_saw w.front.stage w.front) shown) (39 * distance_of saw w.front.ring.indices.prod) (marks_left w.under.channels) (requests_left d.requests)
    (left_at y.stage y) (front_sends y.stage) (7 * distance_of (front_saw y.stage y) shown) (39 * distance_of saw y.ring.indices.prod) (marks_left a.under.channels) (requests_left p.requests)
    (front_watch a.answer) (sent w.front.stage) (given w.front.stage a.answer) (taken_mark a.answer) (pushes w.front.stage)
    (one_of _ _ _ _ _ (untold_end shown saw x) falls) (marks_fall w.under w.front a turn) (prices_fall config w d p a w.front.stage refl kept then lowers) (pays w.front.stage a.answer)
  where
    one_of : (now then sent before given : ℕ) → now ≡ then → then + 1 + sent ≤ before + given → now + 1 + sent ≤ before + given
    one_of now then sent before given same falls = omega (arith, same, falls)

pub front_falls : (config : Options) (w : World) (d : Pipeline) (a : FrontAct) → IsKept config w d → IsServed w FrontMoves → front_turn w ≡ Some a → (gone : Gone config w d FrontMoves)
    → left_after config w d FrontMoves gone + 1 ≤ ring_left w d + front_watch a.answer
front_falls config w d a kept may turn gone =
    let p : Pipeline = after_steps gone.steps d in
    subst (λ (t : Option FrontAct). ring_left (front_after w t) p + 1 ≤ ring_left w d + front_watch a.answer) (sym turn)
    (moves_fall config w d p a kept may turn (subst (λ (t : Option FrontAct). IsKept config (front_after w t) p) turn gone.kept) (gone_lowers config w d FrontMoves tt gone))
