-- What is known of the back at every moment.
use Rattle.std.proofs.Common.{◌≡◌, sym, subst, refl, ℕ, ◌≤◌, Bool, true, false, if◌then◌else◌, List, [], ◌∷◌}
use Rattle.std.specs.Prelude.{Option, Some, None}
use Rattle.std.proofs.lemmas.Option.{none-some}
use Rattle.blk_base.specs.Options.{Options}
use Rattle.blk_base.specs.declared.parts.End.TheVariants as end
use Rattle.blk_base.specs.declared.parts.Mapping.{Mapping}
use Rattle.blk_base.specs.declared.ask.BackAsk.{BackAsk}
use Rattle.blk_base.specs.declared.ask.BackAsk.TheVariants as back_ask
use Rattle.blk_base.specs.declared.ask.BackAnswer.{BackAnswer}
use Rattle.blk_base.specs.declared.moves.BackMover.TheVariants as back_mover
use Rattle.hypervisor.specs.Act.{BackAct, Took, back_act, back_watched, watch_next}
use Rattle.blk_back.specs.View as ends
use Rattle.blk_back.specs.View.{page_of}
use Rattle.blk_back.specs.Ask as back_ring
use Rattle.xenbus_state.specs.declared.table.BackHalt.{BackHalt}
use Rattle.xenbus_state.specs.declared.back.BackBusAsk.{BackBusAsk}
use Rattle.xenbus_state.specs.BackView.{BackView}
use Rattle.xenbus_state.specs.BackStep.{step_of}
use Rattle.line_text.proofs.Both.{both_true}
use Rattle.split_model.specs.World as rings
use Rattle.split_model.specs.Happening as ring
use Rattle.blk_base.specs.declared.halt.Halt.TheVariants as halt
use Rattle.split_model.proofs.SafeActs.{of_back, back_event}
use Rattle.split_model.proofs.Suspending.{begun_back, back_cases as new_back_cases}
use Rattle.split_model.proofs.SafeAnswers.{back_answered}
use Rattle.vbd_back.specs.View as back_view
use Rattle.vbd_back.specs.Ask as back
use Rattle.vbd_back.specs.Step as back_step
use Rattle.vbd_model.specs.World.{World, start_of, backend_of}
use Rattle.vbd_model.specs.Happening.{Happening, FrontMoves, BackMoves, JobMoves, Closes, Suspends, back_turn, back_does, halted_at, happens, after}
use Rattle.vbd_model.specs.Fit.{IsFit}
use Rattle.vbd_laws.specs.Waits.{Check, Awake, back_checks, back_check_by, back_check_in, back_check}
use Rattle.vbd_laws.proofs.Fit.{fit_start, fit_happens}
use Rattle.vbd_laws.proofs.MovesTurns.{back_asks, back_learns, back_says, back_takes, back_cases, back_spoken}
use Rattle.vbd_laws.proofs.MovesBack.{back_waits, after_back_move}
use Rattle.vbd_laws.proofs.WaitsBackRing.{Stands, sees_step, sees_halts, sees_attaches}
use Rattle.vbd_laws.proofs.MovesFront.{after_front_move}

-- the machine is fit, and the back's end of the ring sleeps where its last look found nothing
pub record Knows (w : World) (c : Check) : Type 0 where
  pub fit : IsFit w
  pub ring : Stands w.rings.back c

-- its keys and its watch leave the check
keys_check : (b : BackBusAsk) (page : Mapping) (consumer : ℕ) (x : BackAnswer) (c : Check) → back.speaks b ≡ true → back_checks page consumer (back.key_ask b) x c ≡ c
keys_check b page consumer x c = back_spoken (λ a. back_checks page consumer (back.key_ask a) x c ≡ c) refl refl (λ key. refl) (λ s. refl) (λ key value. refl) b

-- what an answer to its negotiation makes of its end of the ring
led : (why : Option BackHalt) (reads : Bool) (b : BackView) (r : ends.View) (c : Check) → Stands r c → Stands (back_step.ring_led why reads b r) c
led (Some why) reads b r c is = sees_halts (back_step.ring_halt why) r c is
led None true b r c is = sees_attaches (back_step.shape_read b) b.grefs b.terms.port r c is
led None false b r c is = is

abbrev Goes : World → Check → BackAct → List ring.Happening → BackAsk → (BackAnswer → back_view.View) → Type 0
Goes w c a does ask step =
    back_act w.rings.under back_mover.Back ask Took ≡ Some a → (let v : back_view.View = step a.answer in Stands v.ring (back_checks (page_of w.rings.back 0) w.rings.back.ring.indices.cons ask a.answer c))

says_goes : (w : World) (c : Check) (a : BackAct) (does : List ring.Happening) → Knows w c → back.bus_moves (back_asks w) w.rings.back.stage ≡ true
    → Goes w c a does (back.key_ask (back_asks w)) (λ x. back_step.spoken (backend_of w) x)
says_goes w c a does k moves e =
    let v : back_view.View = back_step.spoken (backend_of w) a.answer in
    let says : back.speaks (back_asks w) ≡ true = (both_true (back.speaks (back_asks w)) (back.is_between w.rings.back.stage) moves).0 in
    subst (λ (d : Check). Stands v.ring d) (sym (keys_check (back_asks w) (page_of w.rings.back 0) w.rings.back.ring.indices.cons a.answer c says))
    (led (back_step.halt_of (backend_of w) a.answer) (back_step.reads_layout (back_asks w)) (step_of w.back a.answer) w.rings.back c k.ring)

moves_goes : (w : World) (c : Check) (a : BackAct) → Knows w c → Goes w c a (ring.BackMoves ∷ []) (back_ring.ask_of w.rings.back) (λ x. back_step.ring_step true (back_asks w) (backend_of w) x)
moves_goes w c a k e = sees_step w.rings.back a.answer c k.ring (back_answered w.rings.under w.rings.back Took a e)

-- where neither its negotiation nor its end of the ring has a move no event comes
waits_goes : (w : World) (c : Check) (a : BackAct) → Knows w c → back.bus_moves (back_asks w) w.rings.back.stage ≡ false → back.ring_moves (back_asks w) w.rings.back.stage ≡ false
    → Goes w c a (back_says w []) back_ask.Wait (λ x. back_step.ring_step false (back_asks w) (backend_of w) x)
waits_goes w c a k quiet still e =
    by_watch (watch_next w.rings.under end.Back)
    (subst (λ (b : Bool). (if b then Some (back_event w.rings.under) else back_watched w.rings.under (watch_next w.rings.under end.Back)) ≡ Some a) (back_waits w k.fit quiet still).0 e)
  where
    by_watch : (next : Option (List ℕ)) → back_watched w.rings.under next ≡ Some a → Stands w.rings.back (back_checks (page_of w.rings.back 0) w.rings.back.ring.indices.cons back_ask.Wait a.answer c)
    by_watch None e = absurd (none-some a e)
    by_watch (Some path) e = of_back (λ (x : BackAct). Stands w.rings.back (back_checks (page_of w.rings.back 0) w.rings.back.ring.indices.cons back_ask.Wait x.answer c)) _ a k.ring e

goes : (w : World) (c : Check) (a : BackAct) → Knows w c → Goes w c a (back_does w) (back.ask_of (backend_of w)) (λ x. back_step.step_of (backend_of w) x)
goes w c a k =
    back_cases (Goes w c a) w (λ moves untaken. says_goes w c a (back_says w (halted_at w (back_turn w))) k moves) (λ moves takes. says_goes w c a (back_takes (back_learns w)) k moves)
    (λ quiet moves. moves_goes w c a k) (waits_goes w c a k)

-- the back after something that happens
abbrev StandsIn : Check → World → Type 0
StandsIn c u = Stands u.rings.back c

job_turns : (w : World) (c : Check) (number : ℕ) (act : Option BackAct) → Stands w.rings.back c → (let r : rings.World = ring.job_after w.rings number act in Stands r.back c)
job_turns w c number None is = is
job_turns w c number (Some a) is = is

-- the domain is suspended: a new back is awake
suspends : (w : World) (c : Check) → Stands w.rings.back c → StandsIn (back_check_in w Suspends c) (happens w Suspends)
suspends w c is = by_may (rings.may_suspend w.rings)
  where
    by_may : (may : Bool) → Stands (let r : rings.World = if may then rings.suspended w.rings else w.rings in r.back) (if may then Awake else c)
    by_may true = new_back_cases (λ (b : ends.View). Stands b Awake) w.rings (refl, refl) (sees_halts (halt.Gone 6) (begun_back w.rings) Awake (refl, refl))
    by_may false = is

stands_on : (w : World) (h : Happening) (c : Check) → Knows w c → StandsIn (back_check_in w h c) (happens w h)
stands_on w FrontMoves c k = after_front_move (λ act u. StandsIn c u) w k.fit k.ring (λ a e. k.ring)
stands_on w BackMoves c k = after_back_move (λ act u. StandsIn (back_check_by w act c) u) w k.fit k.ring (λ a e. goes w c a k e)
stands_on w (JobMoves number outcome) c k = job_turns w c number (ring.job_turn w.rings number outcome) k.ring
stands_on w (Closes end.Front) c k = k.ring
stands_on w (Closes end.Back) c k = k.ring
stands_on w Suspends c k = suspends w c k.ring
stands_on w h c k = k.ring

pub knows_on : (w : World) (h : Happening) (c : Check) → Knows w c → Knows (happens w h) (back_check_in w h c)
knows_on w h c k = record { fit = fit_happens w h k.fit; ring = stands_on w h c k }

pub knows_start : (config : Options) → config.indirect ≤ 960 → Knows (start_of config) Awake
knows_start config few = record { fit = fit_start config few; ring = (refl, refl) }

pub knows_after : (hs : List Happening) (w : World) (c : Check) → Knows w c → Knows (after hs w) (back_check hs w c)
knows_after [] w c k = k
knows_after (h ∷ hs) w c k = knows_after hs (happens w h) (back_check_in w h c) (knows_on w h c k)
