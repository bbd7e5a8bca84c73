-- Each move of the back lowers what is left to the machine of the ring.
use Rattle.std.proofs.Common.{◌≡◌, ℕ, ◌+◌, ◌*◌, ◌≤◌, ◌==◌, inl, inr, true, false, List, [], ◌∷◌, ◌++◌, length, refl, ap, sym, subst, ◌∙◌, arith, length-append}
use Rattle.std.specs.Prelude.{Option, Some, None, is_some}
use Rattle.std.specs.List.{list_any}
use Rattle.blk_base.specs.Options.{Options}
use Rattle.blk_base.specs.Distance.{distance_of}
use Rattle.hypervisor.specs.Act.{BackAct, Took}
use Rattle.ring_words.specs.Shape.{entry_words_of}
use Rattle.blk_front.specs.Submit.{is_connected}
use Rattle.back_jobs.specs.Work.{Work}
use Rattle.blk_back.specs.declared.stage.Reply.{Reply}
use Rattle.blk_back.specs.declared.stage.BackStage.{BackStage}
use Rattle.blk_back.specs.declared.stage.BackStage.TheVariants as stage
use Rattle.blk_back.specs.View as back
use Rattle.blk_back.specs.Step.{step_at}
use Rattle.back_laws.specs.BackLeft.{left_of, left_at}
use Rattle.back_laws.specs.JobLeft as job
use Rattle.back_laws.specs.JobLeft.{all_left}
use Rattle.pipeline_laws.specs.Pipeline.{Pipeline, after_steps}
use Rattle.split_model.specs.World.{World}
use Rattle.split_model.specs.Safe.{IsSafe}
use Rattle.split_model.specs.Happening.{BackMoves, back_turn, back_after, back_shows, lines_at}
use Rattle.machine_pipeline.specs.Plain.{IsPlain}
use Rattle.machine_pipeline.proofs.BackFetch.{entry_word}
use Rattle.machine_pipeline.proofs.BackStill.{BackStands}
use Rattle.machine_pipeline.proofs.Flow.{Flow}
use Rattle.machine_pipeline.proofs.Over.{IsKept}
use Rattle.machine_pipeline.proofs.Turns.{back_says, back_next, back_turn_at}
use Rattle.ring_settle_laws.specs.Left.{back_sends, front_saw, front_part, back_saw, ring_left, marks_left}
use Rattle.ring_settle_laws.specs.Stations.{requests_left, reply_price}
use Rattle.ring_settle_laws.proofs.Gone.{Gone, left_after, back_watch}
use Rattle.ring_settle_laws.proofs.Stations.{Lowers, is_reply, gone_lowers, requests_fall, reply_lowers}
use Rattle.ring_settle_laws.proofs.BackSums.{unseen_of, Falls}
use Rattle.ring_settle_laws.proofs.BackServing.{served_falls}
use Rattle.ring_settle_laws.proofs.BackEnding.{ending_falls}
use Rattle.ring_settle_laws.proofs.BackPricing.{job_of}
use Rattle.ring_settle_laws.proofs.BackFetches.{works_then, fetch_price}

-- what is to be told costs nothing
untold_left : (b : BackStage) (v : back.View) → left_at b (record v { told = None }) ≡ left_at b v
untold_left stage.InitWait v = refl
untold_left b v = refl

untold_saw : (b : BackStage) (v : back.View) → back_saw b (record v { told = None }) ≡ back_saw b v
untold_saw stage.StoreEvent v = refl
untold_saw b v = refl

-- what falls by parts falls whole
whole : (f l l' s s' j j' u u' m m' r r' k : ℕ) → l' + (s' + j' + u' + m') + r' + 1 ≤ l + (s + j + u + m) + r + k → f + (l' + s') + j' + u' + m' + r' + 1 ≤ f + (l + s) + j + u + m + r + k
whole f l l' s s' j j' u u' m m' r r' k falls = omega arith

module _ (config : Options) (w : World) (d e : Pipeline) (a : BackAct) where
  abbrev before : ℕ
  before = requests_left d.requests

  abbrev after : ℕ
  after = requests_left e.requests

  -- all of it
  all_falls : Falls w w.back.stage (step_at w.back.stage w.back) before after a → ring_left (back_after w (Some a)) e + 1 ≤ ring_left w d + back_watch a.answer
  all_falls falls =
      let v : back.View = step_at w.back.stage w.back a.answer in
      let u : back.View = record v { told = None } in
      let left : left_of u ≡ left_of v = untold_left v.stage v in
      let unseen : unseen_of w.front v.stage u ≡ unseen_of w.front v.stage v = ap (λ (n : ℕ). 7 * distance_of (front_saw w.front.stage w.front) v.ring.indices.prod + 39 * distance_of n w.front.ring.indices.prod) (untold_saw v.stage v) in
      rw (left, unseen) (whole (front_part w.front) (left_of w.back) (left_of v) (back_sends w.back.stage) (back_sends v.stage) (all_left w.back.jobs.works) (all_left v.jobs.works) (unseen_of w.front w.back.stage w.back) (unseen_of w.front v.stage v)
      (marks_left w.under.channels) (marks_left a.under.channels) before after (back_watch a.answer) falls)

  -- the job that a last word makes
  fetched_pays : (g : Flow) (k : ℕ) → (k + 1 == entry_words_of w.back.shape.abi) ≡ true → Lowers d.requests e.requests → BackStands config w g d (stage.Fetch k) → back_turn_at (stage.Fetch k) w ≡ Some a
      → IsKept config (back_next (stage.Fetch k) w (Some a)) e → job.left_of (job_of w (entry_word w k)) + after ≤ before
  fetched_pays g k last lower p act kept =
      let v : back.View = step_at (stage.Fetch k) w.back a.answer in
      let works : v.jobs.works ≡ w.back.jobs.works ++ job_of w (entry_word w k) ∷ [] = works_then config w g d k p last a act in
      elim kept [
        | inl held ↦ fetch_price config w g d k p last v.jobs.works e.requests works held.1.stations.works lower
        | inr over ↦ absurd (omega (arith, ap (λ (l : List Work). length l) works, ap (λ (l : List Work). length l) over.no_job, length-append w.back.jobs.works (job_of w (entry_word w k) ∷ [])))
      ]

  -- while the ends serve
  serving_falls : (g : Flow) (b : BackStage) → Lowers d.requests e.requests → ((r : Reply) → b ≡ stage.Producer r → after + reply_price ≤ before) → BackStands config w g d b → back_turn_at b w ≡ Some a
      → IsKept config (back_next b w (Some a)) e → Falls w b (step_at b w.back) before after a
  serving_falls g b lower replies p act kept =
      served_falls config w g d before after (requests_fall d.requests e.requests lower) a b p act
      (λ k is last. (subst (λ (s : BackStage). BackStands config w g d s → back_turn_at s w ≡ Some a → IsKept config (back_next s w (Some a)) e → job.left_of (job_of w (entry_word w k)) + after ≤ before) (sym is) (fetched_pays g k last lower)) p act kept)
      replies

-- a response that is pushed shows its line
shows_reply : (w : World) (a : BackAct) (r : Reply) → w.back.stage ≡ stage.Producer r → back_turn w Took ≡ Some a → list_any is_reply (lines_at w BackMoves) ≡ true
shows_reply w a r is turn =
    ap (λ (x : Option BackAct). list_any is_reply (back_shows w x)) turn ∙ subst (λ (b : BackStage). list_any is_reply (back_says b w (Some a)) ≡ true) (sym is) refl

pub back_falls : (config : Options) (w : World) (d : Pipeline) (a : BackAct) → IsPlain config → IsSafe w → IsKept config w d → (is_some w.back.halted ≡ false → is_connected w.front.stage ≡ true) → back_turn w Took ≡ Some a → (gone : Gone config w d BackMoves)
    → left_after config w d BackMoves gone + 1 ≤ ring_left w d + back_watch a.answer
back_falls config w d a plain safe kept may turn gone =
    let e : Pipeline = after_steps gone.steps d in
    let lower : Lowers d.requests e.requests = gone_lowers config w d BackMoves tt gone in
    let then : IsKept config (back_after w (Some a)) e = subst (λ (x : Option BackAct). IsKept config (back_after w x) e) turn gone.kept in
    let falls : Falls w w.back.stage (step_at w.back.stage w.back) (requests_left d.requests) (requests_left e.requests) a = elim kept [
      | inl held ↦ serving_falls config w d e a held.0 w.back.stage lower (λ r is. reply_lowers config w d gone (shows_reply w a r is turn))
          (record { plain = plain; at = refl; untold = safe.back_told; held = safe.held; connected = may (ap is_some held.1.unhalted); holds = held.1 }) turn then
      | inr over ↦ ending_falls w (requests_left d.requests) (requests_left e.requests) (requests_fall d.requests e.requests lower) a w.back.stage refl over.back_at turn
    ] in
    subst (λ (x : Option BackAct). ring_left (back_after w x) e + 1 ≤ ring_left w d + back_watch a.answer) (sym turn) (all_falls config w d e a falls)
