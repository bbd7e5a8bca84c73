-- A front with requests negotiates on until it is connected, in each epoch.
use Rattle.std.proofs.Common.{◌⊎◌, inl, inr, ◌≡◌, ◌≢◌, ◌∙◌, ap, sym, subst, ℕ, ◌+◌, ◌≤◌, ◌==◌, ◌&&◌, not, Bool, true, false, true≢false, List, [], ◌∷◌, length, refl, arith, if◌then◌else◌}
use Rattle.std.specs.Prelude.{Option, Some, None, Result, Err}
use Rattle.std.proofs.lemmas.Bool.Decides.{nat_tests}
use Rattle.blk_base.specs.Options.{Options}
use Rattle.blk_base.specs.declared.config.Submission.{Submission}
use Rattle.blk_base.specs.declared.parts.End.TheVariants as end
use Rattle.blk_base.specs.declared.ask.FrontAnswer.{FrontAnswer}
use Rattle.key_directory.specs.Watches.{Watches}
use Rattle.hypervisor.specs.Act.{FrontAct, BackAct}
use Rattle.blk_front.specs.declared.stage.FrontStage.{FrontStage}
use Rattle.blk_front.specs.declared.stage.FrontStage.TheVariants as ring_stage
use Rattle.blk_front.specs.declared.request.Request.{Request}
use Rattle.blk_front.specs.declared.state.FrontState.{FrontState}
use Rattle.blk_front.specs.declared.state.FrontState.TheVariants as entered
use Rattle.blk_base.specs.declared.refusal.Refusal.{Refusal}
use Rattle.blk_base.specs.declared.refusal.Refusal.TheVariants as refusal
use Rattle.blk_front.specs.State.{in_state, enters, is_open}
use Rattle.blk_front.specs.Submit.{is_ready, ending_of, wish_of, submit_one, submit_of}
use Rattle.blk_front.specs.View as ring
use Rattle.blk_back.specs.Step as back_ring_step
use Rattle.xenbus_state.specs.States.{state_number}
use Rattle.xenbus_state.specs.declared.state.BusState.{BusState}
use Rattle.xenbus_state.specs.declared.state.BusState.TheVariants as state
use Rattle.xenbus_state.specs.declared.stage.FrontBusStage.{FrontBusStage}
use Rattle.xenbus_state.specs.declared.stage.FrontBusStage.TheVariants as stage
use Rattle.xenbus_state.specs.declared.offer.Features.{Features}
use Rattle.xenbus_state.specs.declared.offer.DiskFacts.{DiskFacts}
use Rattle.xenbus_state.specs.declared.front.FrontBusAsk.{FrontBusAsk}
use Rattle.xenbus_state.specs.declared.front.FrontBusAsk.TheVariants as bus_ask
use Rattle.xenbus_state.specs.FrontView.{FrontView, suspended}
use Rattle.xenbus_state.specs.FrontAsk.{ask_of}
use Rattle.xenbus_state.specs.FrontStep.{step_of}
use Rattle.split_model.specs.World as rings
use Rattle.split_model.specs.Happening.{job_after, job_turn}
use Rattle.split_model.proofs.States.{enters_cases}
use Rattle.negotiation_laws.specs.Negotiation.{Negotiation, front_answered, front_done, front_moved}
use Rattle.negotiation_laws.specs.Happening as negotiated
use Rattle.negotiation_laws.specs.Laws.{IsAtRest}
use Rattle.negotiation_laws.proofs.Holds.{Holds, happening_holds}
use Rattle.negotiation_laws.proofs.Found.{run_holds}
use Rattle.negotiation_laws.proofs.Busy.{RestSees, HeardAt, IsHeard, back_heard, heard_happens, heard_rests}
use Rattle.vbd_front.specs.View.{View, heard, is_broken, is_still, is_unoccupied}
use Rattle.vbd_front.specs.Step as frontend_step
use Rattle.vbd_front.specs.Step.{settled_at, all_entered, states_after}
use Rattle.vbd_model.specs.World.{World, start_of, frontend_of}
use Rattle.vbd_model.specs.Happening.{Happening, FrontMoves, BackMoves, JobMoves, Closes, Submits, OverwritesKey, Suspends, front_turn, back_turn, is_backs_ring, renewed_bus, happens}
use Rattle.vbd_model.specs.Fit.{FrontRests, FrontGoesWith, IsFit}
use Rattle.vbd_laws.specs.Served.{KeepsKeys}
use Rattle.vbd_laws.proofs.FitFrontRing.{none_step}
use Rattle.vbd_laws.proofs.FitSuspended.{anew_at}
use Rattle.vbd_laws.proofs.MovesTurns.{front_cases}
use Rattle.vbd_laws.proofs.NegotiatedRun.{negotiation_of, Reached, Joined}
use Rattle.vbd_laws.proofs.NegotiatedFront.{with_front, Goes, HasInHand, front_moves}
use Rattle.vbd_laws.proofs.NegotiatedBack.{IsGiven, back_keeps}
use Rattle.vbd_laws.proofs.NegotiatedRests.{apart_rests}
use Rattle.vbd_laws.proofs.MovesFront.{after_front_move}
use Rattle.vbd_laws.proofs.MovesBack.{after_back_move}

-- while the front has a request, what its negotiation awaits is to come
abbrev pub HasHeard : World → Type 0
HasHeard w = w.rings.front.requests ≢ [] → IsHeard (negotiation_of w)

-- so it is at the start
pub heard_first : (config : Options) → HasHeard (start_of config)
heard_first config some = tt

-- what is true of a negotiation that is a run
pub holds_of : (n : Negotiation) (j : Reached n) → Holds j.run.offer j.run.facts n
holds_of n j = subst (λ (m : Negotiation). Holds j.run.offer j.run.facts m) j.stands (run_holds j.run)

-- a settled move of a front with requests
module _ (f : Features) (d : DiskFacts) (idle : Bool) (busy : idle ≡ false) where
  settles_heard : (b : FrontBusAsk) (n : Negotiation) → ask_of n.front idle ≡ b → Holds f d n → IsHeard n → IsHeard (with_front n (settled_at b idle n.front) n.keys)
  settles_heard bus_ask.EndOtherGrants n asks h known =
      subst IsHeard (ap (λ (b : FrontBusAsk). with_front n (step_of n.front idle (front_answered b 0 n.keys)) (front_done b n.keys)) asks) (heard_happens f d n (negotiated.FrontMoves idle 0) busy h known)
  settles_heard b n asks h known = known

  goes_heard : (n m : Negotiation) → Goes idle n m → Holds f d n → IsHeard n → IsHeard m
  goes_heard n m (inl same) h known = subst IsHeard (sym same) known
  goes_heard n m (inr moved) h known =
      let port : ℕ = moved.0 in
      let next : Negotiation = front_moved idle port n in
      subst IsHeard (sym moved.2)
      (settles_heard (ask_of next.front idle) next refl (happening_holds f d (negotiated.FrontMoves idle port) n moved.1 h) (heard_happens f d n (negotiated.FrontMoves idle port) busy h known))

-- a front with requests is occupied
occupied_by : (requests : List Request) (s : FrontStage) → requests ≢ [] → (length requests + ending_of s == 0 && is_still s) ≡ false
occupied_by [] s some = absurd (some refl)
occupied_by (q ∷ requests) s some = by_test (length (q ∷ requests) + ending_of s == 0) refl
  where
    by_test : (none : Bool) → (length (q ∷ requests) + ending_of s == 0) ≡ none → (none && is_still s) ≡ false
    by_test true e = absurd (grind (arith, nat_tests))
    by_test false e = refl

occupied : (r : ring.View) → r.requests ≢ [] → is_unoccupied r ≡ false
occupied r some = occupied_by r.requests r.stage some

-- a move of it adds none
entered_requests : (s : FrontState) (r : ring.View) → (in_state s r).requests ≡ r.requests
entered_requests (entered.Agreed order) r = refl
entered_requests other r = refl

enters_requests : (s : FrontState) (r : ring.View) → (enters s r).requests ≡ r.requests
enters_requests s r = enters_cases (λ (x : ring.View) shown. x.requests ≡ r.requests) s r (λ may. entered_requests s r) refl

all_requests : (states : List FrontState) (r : ring.View) → (all_entered states r).requests ≡ r.requests
all_requests [] r = refl
all_requests (s ∷ states) r = all_requests states (enters s r) ∙ enters_requests s r

empty : (requests : List Request) → length requests ≡ 0 → requests ≡ []
empty [] none = refl
empty (q ∷ requests) none = absurd (omega arith)

none_moves : (w : World) (x : FrontAnswer) → w.rings.front.requests ≡ [] → (let v : View = frontend_step.step_of (frontend_of w) x in v.ring.requests ≡ [])
none_moves w x none =
    front_cases (λ does asked step. let v : View = step x in v.ring.requests ≡ []) w (λ says. all_requests (states_after (frontend_of w) x) w.rings.front ∙ none)
    (λ quiet moves. empty _ (none_step w.rings.front x (ap length none))) (λ quiet still. none)

-- so it stays as the front moves
front_heard : (w : World) → IsFit w → is_broken w.rings.front.stage ≡ false → HasInHand w.rings.front.stage w.rings.front.ending → Joined w → HasHeard w → HasHeard (happens w FrontMoves)
front_heard w fit whole hand j known = after_front_move (λ act u. HasHeard u) w fit known acts
  where
    acts : (a : FrontAct) → front_turn w ≡ Some a → (let v : View = frontend_step.step_of (frontend_of w) a.answer in HasHeard (record { rings = record { front = (heard v).ring; back = w.rings.back; under = a.under }; front = v.bus; back = w.back }))
    acts a e some =
        let before : w.rings.front.requests ≢ [] = λ none. some (none_moves w a.answer none) in
        goes_heard j.run.offer j.run.facts (is_unoccupied w.rings.front) (occupied w.rings.front before) (negotiation_of w) _ (front_moves w a fit whole hand e) (holds_of (negotiation_of w) j) (known before)

-- no map and no bind is refused the back, and its move of its end of the ring is no halt
abbrev pub IsUnrefused : World → Type 0
IsUnrefused w = (a : BackAct) → back_turn w ≡ Some a → IsGiven a.answer × (is_backs_ring w ≡ true → (back_ring_step.step_of w.rings.back a.answer).halted ≡ w.rings.back.halted)

back_moves_heard : (w : World) → IsFit w → IsUnrefused w → HasHeard w → HasHeard (happens w BackMoves)
back_moves_heard w fit given known =
    after_back_move (λ act u. HasHeard u) w fit known (λ a e. let is = given a e in λ some. back_keeps IsHeard back_heard w a fit (known some) e is.0 is.1)

-- a request is taken by a ready front alone, whose negotiation has written Connected
submit_requests : (v : ring.View) (job : Submission) → (let u : Result ℕ Refusal × ring.View = submit_of v job in u.1.requests ≡ v.requests) ⊎ (is_ready v.stage ≡ true)
submit_requests v job = by_test (v.last == 4294967295) v.closing (is_ready v.stage) refl
  where
    by_test : (spent closing ready : Bool) → is_ready v.stage ≡ ready
        → (let u : Result ℕ Refusal × ring.View = (if spent then (Err refusal.Spent, v) else (if closing then (Err refusal.Closing, v) else (if not ready then (Err refusal.NotReady, v) else submit_one v (wish_of v.offers job)))) in u.1.requests ≡ v.requests)
        ⊎ (is_ready v.stage ≡ true)
    by_test true closing ready e = inl refl
    by_test false true ready e = inl refl
    by_test false false false e = inl refl
    by_test false false true e = inr e

ready_whole : {A : Type 0} (r : FrontStage) → is_ready r ≡ true → is_broken r ≡ true → A
ready_whole (ring_stage.Broken word) ready broken = absurd (true≢false (sym ready))
ready_whole r ready broken = absurd (true≢false (sym broken))

ready_rests : (own : BusState) (gone : Bool) (port : Option ℕ) (r : FrontStage) (b : BusState) (w : Watches) → FrontRests own gone port r → is_ready r ≡ true → RestSees own b w
ready_rests state.Initialising gone port r b w fits ready = absurd (true≢false (sym ready ∙ ap is_ready fits.0))
ready_rests state.Initialised gone port r b w fits ready = absurd (true≢false (sym ready ∙ ap is_ready fits.0))
ready_rests own gone port r b w fits ready = tt

ready_heard : (s : FrontBusStage) (v : FrontView) (r : FrontStage) (b : BusState) (w : Watches) → FrontGoesWith s v r → is_ready r ≡ true → HeardAt s v.state b w
ready_heard stage.Rest v r b w (inl fits) ready = ready_rests v.state v.gone v.port r b w fits ready
ready_heard stage.Rest v r b w (inr broken) ready = ready_whole r ready broken
ready_heard s v r b w fits ready = tt

submits_heard : (w : World) (job : Submission) → IsFit w → HasHeard w → HasHeard (happens w (Submits job))
submits_heard w job fit known some = by_kept (submit_requests w.rings.front job)
  where
    by_kept : (let u : Result ℕ Refusal × ring.View = submit_of w.rings.front job in u.1.requests ≡ w.rings.front.requests) ⊎ (is_ready w.rings.front.stage ≡ true) → IsHeard (negotiation_of w)
    by_kept (inl same) = known (λ none. some (same ∙ none))
    by_kept (inr ready) = ready_heard w.front.stage w.front w.rings.front.stage w.back.state w.rings.under.keys.front fit.front ready

-- nothing else adds a request, or has to do with the negotiation
job_requests : (w : rings.World) (k : ℕ) (act : Option BackAct) → (let x : rings.World = job_after w k act in x.front.requests ≡ w.front.requests)
job_requests w k None = refl
job_requests w k (Some a) = refl

same_heard : (v w : World) → v.rings.front.requests ≡ w.rings.front.requests → negotiation_of v ≡ negotiation_of w → HasHeard w → HasHeard v
same_heard v w requests same known some = subst IsHeard (sym same) (known (λ none. some (requests ∙ none)))

-- the domain isn't suspended
abbrev pub StaysInEpoch : Happening → Type 0
StaysInEpoch Suspends = ⊥
StaysInEpoch h = Unit {0}

-- so it goes on
pub heard_on : (w : World) (h : Happening) → KeepsKeys h → StaysInEpoch h → IsFit w → is_broken w.rings.front.stage ≡ false → HasInHand w.rings.front.stage w.rings.front.ending → Joined w → IsUnrefused w → HasHeard w
    → HasHeard (happens w h)
heard_on w FrontMoves keeps stays fit whole hand j given known = front_heard w fit whole hand j known
heard_on w BackMoves keeps stays fit whole hand j given known = back_moves_heard w fit given known
heard_on w (Closes end.Front) keeps stays fit whole hand j given known =
    λ some. heard_happens j.run.offer j.run.facts (negotiation_of w) negotiated.FrontCloses tt (holds_of (negotiation_of w) j) (known (λ none. some (enters_requests entered.Closing w.rings.front ∙ none)))
heard_on w (Closes end.Back) keeps stays fit whole hand j given known = λ some. heard_happens j.run.offer j.run.facts (negotiation_of w) negotiated.BackCloses tt (holds_of (negotiation_of w) j) (known some)
heard_on w (JobMoves number outcome) keeps stays fit whole hand j given known =
    let rests = apart_rests w (JobMoves number outcome) tt in
    same_heard (happens w (JobMoves number outcome)) w (job_requests w.rings number (job_turn w.rings number outcome)) rests.bus known
heard_on w (Submits job) keeps stays fit whole hand j given known = submits_heard w job fit known
heard_on w (OverwritesKey name text) keeps stays fit whole hand j given known = absurd keeps
heard_on w Suspends keeps stays fit whole hand j given known = absurd stays
heard_on w h keeps stays fit whole hand j given known = let rests = apart_rests w h tt in same_heard (happens w h) w refl rests.bus known

-- after a suspend the negotiation of an open front begins anew
pub heard_begins : (w : World) (n : Negotiation) → IsFit w → is_open w.rings.front.stage ≡ true → n.front ≡ suspended w.front → IsHeard n
heard_begins w n fit opened same =
    subst (λ (v : FrontView). HeardAt v.stage v.state n.back.state n.keys.front) (sym (same ∙ anew_at w.front.stage w.front w.rings.front.stage fit.front opened)) tt

-- both negotiations after it
abbrev begun : World → Negotiation
begun w = let v : World = record { rings = rings.suspended w.rings; front = if is_open w.rings.front.stage then suspended w.front else w.front; back = renewed_bus (is_open w.rings.front.stage) w.back } in negotiation_of v

pub heard_suspends : (w : World) → IsFit w → is_open w.rings.front.stage ≡ true → HasHeard w → HasHeard (happens w Suspends)
heard_suspends w fit opened known = by_may (rings.may_suspend w.rings)
  where
    by_may : (may : Bool) → HasHeard (record {
      rings = if may then rings.suspended w.rings else w.rings;
      front = if may && is_open w.rings.front.stage then suspended w.front else w.front;
      back = if may then renewed_bus (is_open w.rings.front.stage) w.back else w.back;
    })
    by_may true some = heard_begins w (begun w) fit opened (ap (λ (o : Bool). if o then suspended w.front else w.front) opened)
    by_may false some = known some

-- both ends at rest: a front with requests has written Connected, or a later state
pub busy_connected : (w : World) (idle : Bool) → idle ≡ false → Joined w → IsHeard (negotiation_of w) → IsAtRest idle (negotiation_of w) → 4 ≤ state_number w.front.state
busy_connected w idle busy j known rest =
    heard_rests j.run.offer j.run.facts (negotiation_of w) (subst (λ (i : Bool). IsAtRest i (negotiation_of w)) busy rest) (holds_of (negotiation_of w) j) known
