-- Whatever happens to the machine, what the back's keys say of its disk goes with its negotiation, and a back that was connected stays past that in its epoch.
use Rattle.std.proofs.Common.{inl, inr, ◌≡◌, ◌∙◌, ap, sym, subst, ℕ, ◌≤◌, Bool, true, false, true≢false, ◌&&◌, if◌then◌else◌, List, [], ◌∷◌, map, refl, arith, decimal}
use Rattle.std.specs.Prelude.{Option, Some, None, codes}
use Rattle.std.proofs.lemmas.Fmt.{decimal_digit}
use Rattle.std.proofs.Math.Bool.{and-false}
use Rattle.line_text.proofs.Both.{both_true}
use Rattle.blk_base.specs.Options.{Options}
use Rattle.blk_base.specs.declared.parts.End.TheVariants as end
use Rattle.blk_base.specs.declared.ask.FrontAsk.{FrontAsk}
use Rattle.blk_base.specs.declared.ask.FrontAnswer.{FrontAnswer}
use Rattle.blk_base.specs.declared.ask.BackAsk.{BackAsk}
use Rattle.blk_base.specs.declared.ask.BackAsk.TheVariants as back_ask
use Rattle.blk_base.specs.declared.ask.BackAnswer.{BackAnswer}
use Rattle.blk_base.specs.declared.moves.BackMover.TheVariants as back_mover
use Rattle.key_directory.specs.Directory.{Directory, fresh_directory}
use Rattle.hypervisor.specs.Act.{BackAct, Took, back_act}
use Rattle.blk_front.specs.declared.state.FrontState.{FrontState}
use Rattle.blk_front.specs.declared.state.FrontState.TheVariants as enter
use Rattle.blk_front.specs.State.{is_open}
use Rattle.blk_back.specs.Ask as back_ring
use Rattle.blk_back.specs.declared.stage.BackStage.{BackStage}
use Rattle.blk_back.specs.declared.stage.BackStage.TheVariants as ring_stage
use Rattle.xenbus_state.specs.declared.offer.Features.{Features}
use Rattle.xenbus_state.specs.declared.offer.DiskFacts.{DiskFacts}
use Rattle.xenbus_state.specs.declared.state.BusState.{BusState}
use Rattle.xenbus_state.specs.declared.state.BusState.TheVariants as state
use Rattle.xenbus_state.specs.declared.stage.BackBusStage.{BackBusStage}
use Rattle.xenbus_state.specs.declared.stage.BackBusStage.TheVariants as stage
use Rattle.xenbus_state.specs.declared.back.BackBusAsk.{BackBusAsk}
use Rattle.xenbus_state.specs.BackView.{BackView, is_halting, unplugged, start_of as back_start, halted_of}
use Rattle.xenbus_state.specs.BackAsk.{says_closing_at, ask_at}
use Rattle.negotiation_laws.proofs.Shown.{state_shown}
use Rattle.split_model.specs.World as rings
use Rattle.split_model.specs.Happening as ring
use Rattle.split_model.proofs.Keys.{keys_happen}
use Rattle.vbd_front.specs.View as front_view
use Rattle.vbd_back.specs.View as back_view
use Rattle.vbd_back.specs.Ask as back
use Rattle.vbd_back.specs.Step as back_step
use Rattle.vbd_model.specs.World.{World, start_of, backend_of}
use Rattle.vbd_model.specs.Happening.{front_key, back_key, Happening, FrontMoves, BackMoves, JobMoves, Closes, Submits, Notifies, Pokes, OverwritesKey, Suspends, Dumps, Looks, Settles, front_does, back_does, front_turn, back_turn, entered_at, back_bus_after, halted_at, reasons_of, attaches, renewed_bus, happens}
use Rattle.vbd_model.specs.Fit.{BackGoesWith, IsFit}
use Rattle.vbd_laws.proofs.FitBackKept.{Facts, facts_in, facts_stepped, facts_closed}
use Rattle.vbd_laws.proofs.FitFront.{all_enter}
use Rattle.vbd_laws.proofs.MovesAttached.{all_halt, asks_layout, layout_asked, taken}
use Rattle.vbd_laws.proofs.MovesTurns.{front_asks, front_cases, back_asks, back_says, back_learns, back_takes, back_cases, back_speaks, back_told, quiet_back, waits_quiet}
use Rattle.refusal_laws.proofs.DiskKeys.{Same, same_keys, same_then, watched_same, written_same, front_same, IsDiskSaid, FactsAt, IsOwn, facts_same, own_same, said_same}
use Rattle.refusal_laws.proofs.DiskBack.{is_busy, busy_still, Kept, settled_kept, told_kept, moved_kept, kept, not_closing_at, asks_at}
use Rattle.refusal_laws.proofs.DiskSaid.{GoesWith, IsLate, Next, Goes, still_next, takes_same, keys_then}
use Rattle.refusal_laws.proofs.DiskMoves.{says_next}

-- what happens to the ring's machine leaves the keys, but what an end does with them, and a suspend
abbrev IsBeside : ring.Happening → Type 0
IsBeside (ring.Negotiates at move) = ⊥
IsBeside ring.Suspends = ⊥
IsBeside h = Unit {0}

beside_same : (w : rings.World) (h : ring.Happening) → IsBeside h → (let v : rings.World = ring.happens w h in Same w.under.keys v.under.keys)
beside_same w h beside =
    keys_happen (Same w.under.keys) (λ at d is. watched_same w.under.keys d at _ is) w h (λ at move e is. absurd (subst IsBeside e beside))
    (λ name text e allowed is. written_same w.under.keys name text) (λ e may is. absurd (subst IsBeside e beside)) (same_keys w.under.keys)

-- a move of the front
front_moves_same : (w : World) → (let v : rings.World = ring.after (front_does w) w.rings in Same w.rings.under.keys v.under.keys)
front_moves_same w =
    front_cases (λ does asked step. let v : rings.World = ring.after does w.rings in Same w.rings.under.keys v.under.keys) w
    (λ says. entered (entered_at w (front_turn w))) (λ quiet moves. beside_same w.rings ring.FrontMoves tt) (λ quiet still. front_same w.rings.back.stage (front_asks w) w.rings.under.keys)
  where
    entered : (states : List FrontState) → (let v : rings.World = ring.after (map ring.FrontEnters states) (ring.happens w.rings (ring.Negotiates end.Front (front_key (front_asks w)))) in Same w.rings.under.keys v.under.keys)
    entered states =
        subst (λ (r : rings.World). Same w.rings.under.keys r.under.keys) (sym (all_enter states (ring.happens w.rings (ring.Negotiates end.Front (front_key (front_asks w))))))
        (front_same w.rings.back.stage (front_asks w) w.rings.under.keys)

-- its negotiation sets no key where it leaves the move to its end of the ring
quiet_free : (w : World) → IsFit w → back.bus_moves (back_asks w) w.rings.back.stage ≡ false → is_busy w.back.stage ≡ false
quiet_free w fit quiet = by_stage w.back.stage refl
  where
    goes_at : (b : BackBusStage) → w.back.stage ≡ b → BackGoesWith b w.back.state w.rings.back.stage
    goes_at b here = subst (λ (c : BackBusStage). BackGoesWith c w.back.state w.rings.back.stage) here fit.back

    speaks_at : (b : BackBusStage) (r : BackStage) → w.back.stage ≡ b → ((own : BusState) → says_closing_at b own ≡ false) → back.speaks (ask_at b w.back) ≡ true → w.rings.back.stage ≡ r → back.is_between r ≡ true → is_busy b ≡ false
    speaks_at b r here on says at between =
        let asks = asks_at w.back b here (not_closing_at w.back b here on) in
        absurd (true≢false (sym (ap (λ (a : BackBusAsk). back.bus_moves a w.rings.back.stage) asks ∙ (ap (λ (c : Bool). c && back.is_between w.rings.back.stage) says ∙ (ap back.is_between at ∙ between))) ∙ quiet))

    by_stage : (b : BackBusStage) → w.back.stage ≡ b → is_busy b ≡ false
    by_stage (stage.Publish k) here = speaks_at (stage.Publish k) ring_stage.InitWait here (λ own. refl) refl (goes_at (stage.Publish k) here).1 refl
    by_stage (stage.PublishFact k) here = speaks_at (stage.PublishFact k) ring_stage.Loop here (λ own. refl) refl (goes_at (stage.PublishFact k) here).1 refl
    by_stage (stage.WriteState state.InitWait) here = speaks_at (stage.WriteState state.InitWait) ring_stage.InitWait here (λ own. refl) refl (goes_at (stage.WriteState state.InitWait) here).1 refl
    by_stage (stage.WriteState state.Connected) here = speaks_at (stage.WriteState state.Connected) ring_stage.Loop here (λ own. refl) refl (goes_at (stage.WriteState state.Connected) here).1 refl
    by_stage (stage.WriteState state.Closing) here = speaks_at (stage.WriteState state.Closing) ring_stage.Halted here (λ own. refl) refl (goes_at (stage.WriteState state.Closing) here) refl
    by_stage (stage.WriteState state.Closed) here = speaks_at (stage.WriteState state.Closed) ring_stage.Halted here (λ own. refl) refl (goes_at (stage.WriteState state.Closed) here).1 refl
    by_stage (stage.WriteState s) here = absurd (goes_at (stage.WriteState s) here)
    by_stage b here = refl

-- where both wait it takes a watch at most
quiet_same : (w : World) → back.bus_moves (back_asks w) w.rings.back.stage ≡ false → back.ring_moves (back_asks w) w.rings.back.stage ≡ false → Same w.rings.under.keys (keys_then w)
quiet_same w quiet still = takes_same w.rings.back.stage w.rings.under.keys (back_asks w) (quiet_back (back_asks w) (waits_quiet (back_asks w) w.rings.back.stage quiet still))

-- what the back's move makes of its keys and its negotiation
abbrev NextAfter : World → BackAct → List ring.Happening → BackAsk → (BackAnswer → back_view.View) → Type 0
NextAfter w a does ask step = back_act w.rings.under back_mover.Back ask Took ≡ Some a → (let v : rings.World = ring.after does w.rings in let y : back_view.View = step a.answer in Next w v.under.keys y.bus)

module _ (w : World) (a : BackAct) (fit : IsFit w) (g : Goes w) (turn : back_turn w ≡ Some a) where
  says_moves : back.bus_moves (back_asks w) w.rings.back.stage ≡ true → attaches w (back_learns w) ≡ false → NextAfter w a (back_says w (halted_at w (back_turn w))) (back.key_ask (back_asks w)) (λ x. back_step.spoken (backend_of w) x)
  says_moves moves untaken e =
      let keyed : rings.World = ring.happens w.rings (ring.Negotiates end.Back (back_key (back_asks w))) in
      subst (λ (act : Option BackAct). let v : rings.World = ring.after (back_says w (halted_at w act)) w.rings in Next w v.under.keys (back_step.spoken (backend_of w) a.answer).bus) (sym turn)
      (subst (λ (r : rings.World). Next w r.under.keys (back_step.spoken (backend_of w) a.answer).bus) (sym (all_halt (back_step.halt_of (backend_of w) a.answer) keyed))
      (says_next w a _ fit g moves (back_told w.rings.under (back_asks w) a (both_true (back.speaks (back_asks w)) (back.is_between w.rings.back.stage) moves).0 e)))

  takes_moves : back.bus_moves (back_asks w) w.rings.back.stage ≡ true → attaches w (back_learns w) ≡ true → NextAfter w a (back_takes (back_learns w)) (back.key_ask (back_asks w)) (λ x. back_step.spoken (backend_of w) x)
  takes_moves moves takes e =
      let took = taken w a (record { turn = turn; moves = moves }) takes in
      let asks = asks_layout w.back took.reads in
      let free : is_busy w.back.stage ≡ false = ap is_busy asks.1 in
      still_next w _ _ g free (settled_kept _ w.back _ (told_kept w.back a.answer asks.0 free)) (beside_same w.rings (ring.BackAttaches (back_step.shape_read (back_learns w)) (back_learns w).grefs (back_learns w).terms.port) tt)

  ring_moves : back.bus_moves (back_asks w) w.rings.back.stage ≡ false → back.ring_moves (back_asks w) w.rings.back.stage ≡ true → NextAfter w a (ring.BackMoves ∷ []) (back_ring.ask_of w.rings.back) (λ x. back_step.ring_step true (back_asks w) (backend_of w) x)
  ring_moves quiet moves e =
      let free = quiet_free w fit quiet in
      still_next w _ _ g free (moved_kept w.back free true (back_asks w) w.rings.back a.answer refl) (beside_same w.rings ring.BackMoves tt)

  both_wait : back.bus_moves (back_asks w) w.rings.back.stage ≡ false → back.ring_moves (back_asks w) w.rings.back.stage ≡ false → NextAfter w a (back_says w []) back_ask.Wait (λ x. back_step.ring_step false (back_asks w) (backend_of w) x)
  both_wait quiet still e =
      let free = quiet_free w fit quiet in
      still_next w _ _ g free (moved_kept w.back free false (back_asks w) w.rings.back a.answer refl) (quiet_same w quiet still)

  pub back_next : (let v : rings.World = ring.after (back_does w) w.rings in Next w v.under.keys (back_bus_after w (Some a)))
  back_next = back_cases (NextAfter w a) w says_moves takes_moves ring_moves both_wait turn

-- where it has no act
abbrev StillAfter : World → List ring.Happening → BackAsk → (BackAnswer → back_view.View) → Type 0
StillAfter w does ask step = back_act w.rings.under back_mover.Back ask Took ≡ None → (let v : rings.World = ring.after does w.rings in Same w.rings.under.keys v.under.keys)

back_none : (w : World) → back_turn w ≡ None → (let v : rings.World = ring.after (back_does w) w.rings in Same w.rings.under.keys v.under.keys)
back_none w turn =
    back_cases (StillAfter w) w (λ moves untaken e. absurd (back_speaks w.rings.under (back_asks w) (both_true (back.speaks (back_asks w)) (back.is_between w.rings.back.stage) moves).0 e))
    (λ moves takes e. absurd (back_speaks w.rings.under (back_asks w) (both_true (back.speaks (back_asks w)) (back.is_between w.rings.back.stage) moves).0 e))
    (λ quiet moves e. beside_same w.rings ring.BackMoves tt) (λ quiet still e. quiet_same w quiet still) turn

-- the machine after something that isn't a suspend
pub record Then (w v : World) : Type 0 where
  pub goes : Goes v
  pub later : IsLate w.back.state → IsLate v.back.state
  pub said : IsDiskSaid w.back.features w.back.disk w.rings.under.keys → IsDiskSaid v.back.features v.back.disk v.rings.under.keys

goes_same : (f : Features) (e : DiskFacts) (d x : Directory) (v : BackView) → Same d x → GoesWith f e d v → GoesWith f e x v
goes_same f e d x v is g = record { facts = facts_same f e d x is v.stage g.facts; own = own_same d x v.state is g.own }

same_back : (w v : World) → v.back ≡ w.back → Same w.rings.under.keys v.rings.under.keys → Goes w → Then w v
same_back w v back is g = record {
  goes = subst (λ (b : BackView). GoesWith b.features b.disk v.rings.under.keys b) (sym back) (goes_same w.back.features w.back.disk w.rings.under.keys v.rings.under.keys w.back is g);
  later = λ late. subst (λ (b : BackView). IsLate b.state) (sym back) late;
  said = λ said. subst (λ (b : BackView). IsDiskSaid b.features b.disk v.rings.under.keys) (sym back) (said_same w.back.features w.back.disk w.rings.under.keys v.rings.under.keys is said);
}

back_then : (w : World) (act : Option BackAct) → IsFit w → Goes w → back_turn w ≡ act
    → (let r : rings.World = ring.after (back_does w) w.rings in Then w (record { rings = r; front = w.front; back = back_bus_after w act }))
back_then w None fit g turn = same_back w _ refl (back_none w turn) g
back_then w (Some a) fit g turn =
    let next = back_next w a fit g turn in
    let same_facts = facts_stepped (backend_of w) a.answer in
    let keys : Directory = (let r : rings.World = ring.after (back_does w) w.rings in r.under.keys) in
    record {
      goes = subst (λ (t : Facts). GoesWith t.0 t.1 keys (back_bus_after w (Some a))) (sym same_facts) next.goes;
      later = next.later;
      said = λ said. subst (λ (t : Facts). IsDiskSaid t.0 t.1 keys) (sym same_facts) (next.says said);
    }

closes_then : (w : World) → Goes w → Then w (happens w (Closes end.Back))
closes_then w g = by_test (is_halting w.back.stage)
  where
    by_test : (c : Bool) → Then w (record { rings = w.rings; front = w.front; back = if c then w.back else record w.back { unplugged = true } })
    by_test true = same_back w _ refl (same_keys w.rings.under.keys) g
    by_test false = record { goes = record { facts = g.facts; own = g.own }; later = λ late. late; said = λ said. record { sectors = said.sectors; info = said.info } }

abbrev pub IsSuspend : Happening → Type 0
IsSuspend Suspends = Unit {0}
IsSuspend h = ⊥

pub then_on : (w : World) (h : Happening) → (IsSuspend h → ⊥) → IsFit w → Goes w → Then w (happens w h)
then_on w FrontMoves other fit g = same_back w _ refl (front_moves_same w) g
then_on w BackMoves other fit g = back_then w (back_turn w) fit g refl
then_on w (JobMoves number outcome) other fit g = same_back w _ refl (beside_same w.rings (ring.JobMoves number outcome) tt) g
then_on w (Closes end.Front) other fit g = same_back w _ refl (beside_same w.rings (ring.FrontEnters enter.Closing) tt) g
then_on w (Closes end.Back) other fit g = closes_then w g
then_on w (Submits submission) other fit g = same_back w _ refl (beside_same w.rings (ring.Submits submission) tt) g
then_on w (Notifies at) other fit g = same_back w _ refl (beside_same w.rings (ring.Notifies at) tt) g
then_on w (Pokes frame word value) other fit g = same_back w _ refl (beside_same w.rings (ring.Pokes frame word value) tt) g
then_on w (OverwritesKey name text) other fit g = same_back w _ refl (beside_same w.rings (ring.OverwritesKey name text) tt) g
then_on w Suspends other fit g = absurd (other tt)
then_on w Dumps other fit g = same_back w _ refl (beside_same w.rings ring.Dumps tt) g
then_on w (Looks quiet) other fit g = same_back w _ refl (beside_same w.rings (ring.Looks quiet) tt) g
then_on w (Settles quiet) other fit g = same_back w _ refl (beside_same w.rings (ring.Settles quiet) tt) g

-- at the start, and after a suspend, the keys are the states alone
start_goes : (f : Features) (e : DiskFacts) → GoesWith f e (fresh_directory (codes "1")) (back_start f e)
start_goes f e = record {
  facts = (tt, inl refl);
  own = state_shown (Some (codes "1")) state.Initialising (ap (λ (text : List ℕ). Some text) (sym (decimal_digit 1 (omega arith))));
}

halted_goes : (f : Features) (e : DiskFacts) → GoesWith f e (fresh_directory (codes "6")) (halted_of f e)
halted_goes f e = record {
  facts = inl refl;
  own = state_shown (Some (codes "6")) state.Closed (ap (λ (text : List ℕ). Some text) (sym (decimal_digit 6 (omega arith))));
}

pub goes_start : (config : Options) → Goes (start_of config)
goes_start config = let w : World = start_of config in start_goes w.back.features w.back.disk

pub suspends_goes : (w : World) → Goes w → Goes (happens w Suspends)
suspends_goes w g = by_may (rings.may_suspend w.rings)
  where
    by_open : (o : Bool) → (let b : BackView = renewed_bus o w.back in GoesWith b.features b.disk (fresh_directory (rings.state_after o)) b)
    by_open true = start_goes w.back.features w.back.disk
    by_open false = halted_goes w.back.features w.back.disk

    by_may : (may : Bool) → (let r : rings.World = (if may then rings.suspended w.rings else w.rings) in let b : BackView = (if may then renewed_bus (is_open w.rings.front.stage) w.back else w.back) in GoesWith b.features b.disk r.under.keys b)
    by_may true = by_open (is_open w.rings.front.stage)
    by_may false = g
