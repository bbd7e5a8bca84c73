-- The honest part of a run: the back's moves are refused nothing, and its negotiation goes on as a run.
use Rattle.std.proofs.Common.{inl, inr, ◌≡◌, ◌∙◌, ap, sym, subst, ℕ, ◌==◌, Bool, true, false, true≢false, List, [], ◌∷◌, refl, if◌then◌else◌}
use Rattle.std.specs.Prelude.{Option, Some, None, is_some}
use Rattle.std.proofs.lemmas.Option.{none-some}
use Rattle.blk_base.specs.Options.{Options}
use Rattle.blk_base.specs.declared.parts.Mapping.{Mapping}
use Rattle.blk_base.specs.declared.moves.BackMover.TheVariants as back_mover
use Rattle.blk_base.specs.declared.ask.BackAsk.{BackAsk}
use Rattle.blk_base.specs.declared.ask.BackAsk.TheVariants as back_ask
use Rattle.blk_base.specs.declared.ask.BackAnswer.{BackAnswer}
use Rattle.blk_base.specs.declared.ask.BackAnswer.TheVariants as answer
use Rattle.hypervisor.specs.Act.{BackAct, Took, back_act}
use Rattle.ring_words.specs.Ring.{requests_of}
use Rattle.blk_front.specs.Submit.{is_connected}
use Rattle.blk_back.specs.declared.stage.Reply.{Reply}
use Rattle.blk_back.specs.declared.stage.BackStage.{BackStage}
use Rattle.blk_back.specs.declared.stage.BackStage.TheVariants as ring
use Rattle.blk_back.specs.View as ring_view
use Rattle.blk_back.specs.Ask as ring_ask
use Rattle.blk_back.specs.Step as ring_step
use Rattle.split_model.specs.World as rings
use Rattle.split_model.specs.Happening.{back_after}
use Rattle.split_model.proofs.SafeAnswers.{back_answered}
use Rattle.machine_pipeline.proofs.Over.{IsAborting, IsKept}
use Rattle.machine_pipeline.proofs.BackMoves.{back_moves}
use Rattle.vbd_back.specs.Ask as back
use Rattle.vbd_back.specs.Step as back_step
use Rattle.vbd_model.specs.World.{World, backend_of}
use Rattle.vbd_model.specs.Happening.{BackMoves, back_turn, is_backs_ring, happens}
use Rattle.vbd_laws.proofs.MovesTurns.{back_asks, back_cases}
use Rattle.vbd_laws.proofs.NegotiatedRun.{Reached, Joined}
use Rattle.vbd_laws.proofs.NegotiatedBack.{IsGiven, back_goes}
use Rattle.vbd_laws.proofs.NegotiatedWay.{ring_made_now, key_given, wait_given}
use Rattle.vbd_laws.proofs.NegotiatedBusy.{IsUnrefused}
use Rattle.vbd_laws.proofs.MovesBack.{after_back_move}
use Rattle.vbd_laws.proofs.ServedHonest.{Going, Honest}

-- no map and no bind is refused, and the back finds no overrun
loop_refuses : (v : ring_view.View) (r : Option Reply) (x : BackAnswer) → ring_ask.IsAnswer (ring_ask.loop_ask v r) x → IsGiven x
loop_refuses v (Some r) answer.Done is = tt
loop_refuses v (Some r) x is = absurd is
loop_refuses v None x is = by_sleep v.ring.asleep is
  where
    read : (b : Bool) (m n : Mapping) (i j : ℕ) (y : BackAnswer) → ring_ask.IsAnswer (if b then back_ask.Read m i else back_ask.Read n j) y → IsGiven y
    read true m n i j (answer.Word word) is = tt
    read true m n i j y is = absurd is
    read false m n i j (answer.Word word) is = tt
    read false m n i j y is = absurd is

    wait : (y : BackAnswer) → ring_ask.IsAnswer back_ask.Wait y → IsGiven y
    wait answer.Event is = tt
    wait (answer.Watched path) is = tt
    wait y is = absurd is

    by_sleep : (b : Bool) → ring_ask.IsAnswer (if b then back_ask.Wait else (if requests_of v.ring.indices v.ring.seen == 0 then ring_ask.index_ask v 0 else ring_ask.entry_ask v 0)) x → IsGiven x
    by_sleep true is = wait x is
    by_sleep false is = read (requests_of v.ring.indices v.ring.seen == 0) (ring_view.page_of v 0) (ring_view.slot_page v v.ring.indices.cons 0) 0 (ring_view.slot_word v.shape v.ring.indices.cons 0) x is

unmap_given : (pages : List Mapping) (x : BackAnswer) → ring_ask.IsAnswer (ring_ask.unmap_ask pages) x → IsGiven x
unmap_given [] answer.Event is = tt
unmap_given [] (answer.Watched path) is = tt
unmap_given [] x is = absurd is
unmap_given (page ∷ pages) answer.Done is = tt
unmap_given (page ∷ pages) x is = absurd is

unhalted_given : (s : BackStage) (v : ring_view.View) (x : BackAnswer) → ring_ask.IsAnswer (ring_ask.ask_at s v) x → (ring_step.step_at s v x).halted ≡ None → IsGiven x
unhalted_given ring.MapRing v (answer.MapRefused status) is unhalted = absurd (none-some _ (sym unhalted))
unhalted_given ring.Bind v answer.BindRefused is unhalted = absurd (none-some _ (sym unhalted))
unhalted_given ring.Loop v x is unhalted = loop_refuses v (ring_ask.next_reply v) x is
unhalted_given ring.UnmapRing v x is unhalted = unmap_given v.pages x is
unhalted_given ring.UnmapUnbound v x is unhalted = unmap_given v.pages x is
unhalted_given s v (answer.MapRefused status) is unhalted = absurd is
unhalted_given s v answer.BindRefused is unhalted = absurd is
unhalted_given s v x is unhalted = tt

-- a back that unmaps goes on with it
record Quiet (r : ring_view.View) (x : BackAnswer) : Type 0 where
  given : IsGiven x
  same : (ring_step.step_of r x).halted ≡ r.halted

up_quiet : (s : BackStage) (held : List Mapping) (r : ring_view.View) (x : BackAnswer) → IsAborting held s → ring_ask.IsAnswer (ring_ask.ask_at s r) x → IsGiven x × ((ring_step.step_at s r x).halted ≡ r.halted)
up_quiet ring.UnmapRing held r x up is = (unmap_given r.pages x is, refl)
up_quiet ring.UnmapUnbound held r x up is = (unmap_given r.pages x is, refl)
up_quiet ring.ClosePort held r answer.Done up is = (tt, refl)
up_quiet ring.ClosePort held r x up is = absurd is
up_quiet ring.Halted held r answer.Event up is = (tt, refl)
up_quiet ring.Halted held r (answer.Watched path) up is = (tt, refl)
up_quiet ring.Halted held r x up is = absurd is
up_quiet s held r x up is = absurd up

module _ (config : Options) (w : World) (a : BackAct) (honest : Honest config w) where
  -- where its end of the ring moves
  ring_quiet : back.ring_moves (back_asks w) w.rings.back.stage ≡ true → back_act w.rings.under back_mover.Back (ring_ask.ask_of w.rings.back) Took ≡ Some a → Quiet w.rings.back a.answer
  ring_quiet moves e = by_kept honest.standing.kept
    where
      allowed : ring_ask.IsAnswer (ring_ask.ask_of w.rings.back) a.answer
      allowed = back_answered w.rings.under w.rings.back Took a e

      by_kept : IsKept config w.rings honest.standing.pipeline → Quiet w.rings.back a.answer
      by_kept (inl held) =
          let h = held.1 in
          let made : is_connected w.rings.front.stage ≡ true = ring_made_now w honest.stands.fit honest.way moves (ap is_some h.unhalted) in
          let goes = back_moves config w.rings held.0 honest.standing.pipeline honest.plain made (record { safe = honest.standing.safe; holds = h }) in
          let unhalted : (ring_step.step_of w.rings.back a.answer).halted ≡ None = subst (λ (act : Option BackAct). (let x : rings.World = back_after w.rings act in x.back.halted ≡ None)) e goes.holds.unhalted in
          record { given = unhalted_given w.rings.back.stage w.rings.back a.answer allowed unhalted; same = unhalted ∙ sym h.unhalted }
      by_kept (inr over) = let quiet = up_quiet w.rings.back.stage w.rings.back.pages w.rings.back a.answer over.back_at allowed in record { given = quiet.0; same = quiet.1 }

  abbrev Given : BackAsk → Type 0
  Given asked = back_act w.rings.under back_mover.Back asked Took ≡ Some a → IsGiven a.answer × (is_backs_ring w ≡ true → (ring_step.step_of w.rings.back a.answer).halted ≡ w.rings.back.halted)

  back_given : Given (back.ask_of (backend_of w))
  back_given =
      back_cases (λ does asked step. Given asked) w
      (λ says untaken e. (key_given w.rings.under (back_asks w) a e, λ mine. absurd (true≢false (sym mine ∙ rw says refl))))
      (λ says takes e. (key_given w.rings.under (back_asks w) a e, λ mine. absurd (true≢false (sym mine ∙ rw says refl))))
      (λ quiet moves e. let q = ring_quiet moves e in (q.given, λ mine. q.same))
      (λ quiet still e. (wait_given w.rings.under a e, λ mine. absurd (true≢false (sym mine ∙ rw (quiet, still) refl))))

pub unrefused : (config : Options) (w : World) → Honest config w → IsUnrefused w
unrefused config w honest a e = back_given config w a honest e

back_joined : (config : Options) (w : World) (a : BackAct) → Honest config w → Going w → back_turn w ≡ Some a → Reached (record { front = w.front; back = (back_step.step_of (backend_of w) a.answer).bus; keys = a.under.keys })
back_joined config w a honest going turn = let given = unrefused config w honest a turn in back_goes w a honest.stands.fit going.joined turn given.0 given.1

pub back_joins : (config : Options) (w : World) → Honest config w → Going w → Joined (happens w BackMoves)
back_joins config w honest going = after_back_move (λ act u. Joined u) w honest.stands.fit going.joined (λ a e. back_joined config w a honest going e)
