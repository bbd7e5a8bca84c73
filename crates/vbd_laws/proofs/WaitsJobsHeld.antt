-- Each job that the back holds is supplied, whatever happens; so it waits where it is over, held up or halted alone.
use Rattle.std.proofs.Common.{inl, inr, ◌≡◌, ◌∙◌, ap, sym, subst, refl, ℕ, ◌+◌, Bool, true, false, true≢false, if◌then◌else◌, List, [], ◌∷◌, ◌++◌}
use Rattle.std.specs.Prelude.{◌↔◌, Option, Some, None, is_some, ◌==◌}
use Rattle.std.proofs.lemmas.Option.{none-some, get_or_from_slice_get, slice_get_within}
use Rattle.std.proofs.lemmas.List.Elements.{All-get_or, All-nil}
use Rattle.blk_base.specs.declared.parts.End.TheVariants as end
use Rattle.blk_base.specs.declared.ask.BackAsk.{BackAsk}
use Rattle.blk_base.specs.declared.ask.BackAsk.TheVariants as back_ask
use Rattle.blk_base.specs.declared.ask.BackAnswer.{BackAnswer}
use Rattle.blk_base.specs.declared.ask.BackAnswer.TheVariants as answer
use Rattle.blk_base.specs.declared.moves.BackMover.TheVariants as back_mover
use Rattle.hypervisor.specs.Act.{BackAct, Took, back_act}
use Rattle.ring_words.specs.Ring.{requests_of, overruns}
use Rattle.ring_words.specs.Shape.{entry_words_of}
use Rattle.back_jobs.specs.Work.{Work, ask_of}
use Rattle.back_jobs.specs.Jobs.{is_done, asked, place_of, work_at, work_of, waits}
use Rattle.blk_back.specs.declared.stage.Reply.{Reply}
use Rattle.blk_back.specs.declared.stage.BackStage.{BackStage}
use Rattle.blk_back.specs.declared.stage.BackStage.TheVariants as stage
use Rattle.blk_base.specs.declared.halt.Halt.{Halt}
use Rattle.blk_base.specs.declared.halt.Halt.TheVariants as halt
use Rattle.blk_back.specs.View as ends
use Rattle.blk_back.specs.Ask.{next_reply, is_wait}
use Rattle.blk_back.specs.Step.{overrun, looked, loop_step, next_number, fetched, fetch_step, may_attach, attached, halts, step_at, job_ask_of}
use Rattle.xenbus_state.specs.declared.table.BackHalt.{BackHalt}
use Rattle.xenbus_state.specs.BackView.{BackView}
use Rattle.xenbus_state.specs.BackStep as bus
use Rattle.split_model.specs.World as rings
use Rattle.split_model.specs.Happening as ring
use Rattle.split_model.proofs.States.{halts_cases}
use Rattle.split_model.proofs.Suspending.{suspend_cases, begun_back, back_cases as new_back_cases}
use Rattle.vbd_back.specs.View as back_view
use Rattle.vbd_back.specs.Ask as back
use Rattle.vbd_back.specs.Step as back_step
use Rattle.vbd_model.specs.World.{World, start_of, backend_of}
use Rattle.vbd_model.specs.Happening.{Happening, FrontMoves, BackMoves, JobMoves, Closes, Suspends, back_does, happens, after}
use Rattle.vbd_model.specs.Fit.{IsFit}
use Rattle.negotiation_laws.proofs.Choices.{either}
use Rattle.vbd_laws.specs.Waits.{IsOver, JobMayWait, JobWaits}
use Rattle.vbd_laws.proofs.Fit.{fit_start, fit_happens}
use Rattle.vbd_laws.proofs.MovesTurns.{back_asks, back_cases}
use Rattle.vbd_laws.proofs.WaitsJobs.{IsSupplied, AreSupplied, supplied_started, supplied_told, supplied_without, supplied_after, asks_so, waits_is}
use Rattle.vbd_laws.proofs.MovesFront.{after_front_move}
use Rattle.vbd_laws.proofs.MovesBack.{after_back_move}

abbrev Supplies : ends.View → Type 0
Supplies v = AreSupplied v.jobs.works

looked_supplies : (v : ends.View) (word : ℕ) (otherwise : ends.View) → Supplies v → Supplies otherwise → Supplies (looked v word otherwise)
looked_supplies v word otherwise all h =
    either Supplies (overruns v.ring.indices word) (overrun v word) (if word == v.ring.indices.cons then otherwise else record v { ring = record v.ring { seen = word }; stage = stage.Loop }) (supplied_after v.jobs.works all)
    (either Supplies (word == v.ring.indices.cons) otherwise (record v { ring = record v.ring { seen = word }; stage = stage.Loop }) h all)

loop_supplies : (v : ends.View) (r : Option Reply) (x : BackAnswer) → Supplies v → Supplies (loop_step v r x)
loop_supplies v (Some r) x all = supplied_without v.jobs all
loop_supplies v None (answer.Word word) all =
    either Supplies (requests_of v.ring.indices v.ring.seen == 0) (looked v word (record v { ring = record v.ring { seen = word }; stage = stage.StoreEvent })) (record v { ring = record v.ring { entry = word ∷ [] }; stage = stage.Fetch 1 })
    (looked_supplies v word (record v { ring = record v.ring { seen = word }; stage = stage.StoreEvent }) all all) all
loop_supplies v None answer.Event all = all
loop_supplies v None x all = all

fetch_supplies : (v : ends.View) (k word : ℕ) → Supplies v → Supplies (fetch_step v k word)
fetch_supplies v k word all =
    either Supplies (k + 1 == entry_words_of v.shape.abi) (fetched v (v.ring.entry ++ word ∷ [])) (record v { ring = record v.ring { entry = v.ring.entry ++ word ∷ [] }; stage = stage.Fetch (k + 1) })
    (supplied_started v.jobs (next_number v) v.shape.abi (v.ring.entry ++ word ∷ []) all) all

-- a move of the ring's end
supplies_at : (s : BackStage) (v : ends.View) (x : BackAnswer) → Supplies v → Supplies (step_at s v x)
supplies_at stage.MapRing v (answer.Mapped m) all = all
supplies_at stage.MapRing v (answer.MapRefused status) all = all
supplies_at stage.Bind v answer.Done all = all
supplies_at stage.Bind v answer.BindRefused all = all
supplies_at stage.Loop v x all = loop_supplies v (next_reply v) x all
supplies_at (stage.Fetch k) v (answer.Word word) all = fetch_supplies v k word all
supplies_at (stage.ResponseEvent old) v (answer.Word event) all = all
supplies_at stage.LookAgain v (answer.Word word) all = looked_supplies v word (record v { ring = record v.ring { seen = word; asleep = true }; stage = stage.Loop }) all all
supplies_at (stage.Abort m) v x all = supplied_after v.jobs.works all
supplies_at s v x all = all

-- it halts, or takes the terms of its front
halts_supplies : (why : Halt) (v : ends.View) → Supplies v → Supplies (halts why v)
halts_supplies why v all = halts_cases Supplies why v (λ early. all) (λ here. supplied_after v.jobs.works all) all

led : (why : Option BackHalt) (reads : Bool) (b : BackView) (r : ends.View) → Supplies r → Supplies (back_step.ring_led why reads b r)
led (Some why) reads b r all = halts_supplies (back_step.ring_halt why) r all
led None true b r all = either Supplies (may_attach (back_step.shape_read b) b.grefs r) (attached (back_step.shape_read b) b.grefs b.terms.port r) r all all
led None false b r all = all

abbrev Goes : World → BackAct → List ring.Happening → BackAsk → (BackAnswer → back_view.View) → Type 0
Goes w a does ask step = back_act w.rings.under back_mover.Back ask Took ≡ Some a → (let v : back_view.View = step a.answer in Supplies v.ring)

goes : (w : World) (a : BackAct) → Supplies w.rings.back → Goes w a (back_does w) (back.ask_of (backend_of w)) (λ x. back_step.step_of (backend_of w) x)
goes w a all =
    back_cases (Goes w a) w (λ moves untaken e. spoken) (λ moves takes e. spoken) (λ quiet moves e. supplies_at w.rings.back.stage w.rings.back a.answer all) (λ quiet still e. all)
  where
    spoken : Supplies (back_step.ring_led (back_step.halt_of (backend_of w) a.answer) (back_step.reads_layout (back_asks w)) (bus.step_of w.back a.answer) w.rings.back)
    spoken = led (back_step.halt_of (backend_of w) a.answer) (back_step.reads_layout (back_asks w)) (bus.step_of w.back a.answer) w.rings.back all

-- after something that happens
abbrev SuppliesIn : World → Type 0
SuppliesIn u = Supplies u.rings.back

job_turns : (w : World) (number : ℕ) (act : Option BackAct) → Supplies w.rings.back → (let r : rings.World = ring.job_after w.rings number act in Supplies r.back)
job_turns w number None all = all
job_turns w number (Some a) all = supplied_told w.rings.back.jobs number a.answer all

supplies_on : (w : World) (h : Happening) → IsFit w → Supplies w.rings.back → SuppliesIn (happens w h)
supplies_on w FrontMoves fit all = after_front_move (λ act u. SuppliesIn u) w fit all (λ a e. all)
supplies_on w BackMoves fit all = after_back_move (λ act u. SuppliesIn u) w fit all (λ a e. goes w a all e)
supplies_on w (JobMoves number outcome) fit all = job_turns w number (ring.job_turn w.rings number outcome) all
supplies_on w (Closes end.Front) fit all = all
supplies_on w (Closes end.Back) fit all = all
supplies_on w Suspends fit all =
    suspend_cases (λ (v : rings.World) shown. Supplies v.back) w.rings
    (λ may. new_back_cases Supplies w.rings (All-nil IsSupplied) (halts_supplies (halt.Gone 6) (begun_back w.rings) (All-nil IsSupplied))) all
supplies_on w h fit all = all

supplies_after : (hs : List Happening) (w : World) → IsFit w → Supplies w.rings.back → SuppliesIn (after hs w)
supplies_after [] w fit all = all
supplies_after (h ∷ hs) w fit all = supplies_after hs (happens w h) (fit_happens w h fit) (supplies_on w h fit all)

-- a job that is held is one of them
held_supplied : (works : List Work) (place : Option ℕ) (t : Work) → work_at works place ≡ Some t → AreSupplied works → IsSupplied t
held_supplied works None t e all = absurd (none-some t e)
held_supplied works (Some place) t e all = subst IsSupplied (get_or_from_slice_get works place t t e) (All-get_or IsSupplied works place t (slice_get_within works place t e) all)

job_waits_at : (v : ends.View) (number : ℕ) → Supplies v → (job_ask_of v number ≡ back_ask.Wait) ↔ JobMayWait v number
job_waits_at v number all = (by_halt (is_some v.halted) refl, may (is_some v.halted) refl)
  where
    by_work : (held : Bool) (found : Option Work) → waits v.jobs.works number ≡ held → work_of v.jobs.works number ≡ found → asked held found ≡ back_ask.Wait → JobMayWait v number
    by_work held None h e asks = inl (rw e tt)
    by_work true (Some t) h e asks = inr (inl h)
    by_work false (Some t) h e asks = let done : is_done t ≡ true = sym (asks_so t (held_supplied v.jobs.works (place_of v.jobs.works number) t e all)) ∙ ap is_wait asks in inl (rw e done)

    by_halt : (b : Bool) → is_some v.halted ≡ b → (if b then back_ask.Wait else asked (waits v.jobs.works number) (work_of v.jobs.works number)) ≡ back_ask.Wait → JobMayWait v number
    by_halt true is asks = inr (inr is)
    by_halt false is asks = by_work (waits v.jobs.works number) (work_of v.jobs.works number) refl refl asks

    over : (held : Bool) (found : Option Work) → work_of v.jobs.works number ≡ found → IsOver found → asked held found ≡ back_ask.Wait
    over held None e is = refl
    over true (Some t) e is = refl
    over false (Some t) e is = waits_is (ask_of t) (asks_so t (held_supplied v.jobs.works (place_of v.jobs.works number) t e all) ∙ is)

    held : (h : Bool) (found : Option Work) → h ≡ true → asked h found ≡ back_ask.Wait
    held h None is = refl
    held true (Some t) is = refl
    held false (Some t) is = absurd (true≢false (sym is))

    may : (b : Bool) → is_some v.halted ≡ b → JobMayWait v number → (if b then back_ask.Wait else asked (waits v.jobs.works number) (work_of v.jobs.works number)) ≡ back_ask.Wait
    may true is m = refl
    may false is (inl m) = over (waits v.jobs.works number) (work_of v.jobs.works number) refl m
    may false is (inr (inl m)) = held (waits v.jobs.works number) (work_of v.jobs.works number) m
    may false is (inr (inr m)) = absurd (true≢false (sym m ∙ is))

pub job_waits_alone : JobWaits
job_waits_alone config hs number few =
    let w = after hs (start_of config) in
    job_waits_at w.rings.back number (supplies_after hs (start_of config) (fit_start config few) (All-nil IsSupplied))
