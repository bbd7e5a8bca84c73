-- A move of the back leaves its negotiation no more to do than before, and less where it took a watch, or its negotiation spoke.
use Rattle.std.proofs.Common.{◌⊎◌, inl, inr, ◌≡◌, ◌∙◌, ap, sym, subst, ℕ, ◌+◌, ◌≤◌, true, false, true≢false, length, refl, arith}
use Rattle.std.specs.Prelude.{Some}
use Rattle.blk_base.specs.declared.parts.Mapping.{Mapping}
use Rattle.blk_base.specs.declared.ask.BackAsk.{BackAsk}
use Rattle.blk_base.specs.declared.ask.BackAnswer.{BackAnswer}
use Rattle.blk_base.specs.declared.ask.BackAnswer.TheVariants as answer
use Rattle.blk_base.specs.declared.moves.BackMover.TheVariants as back_mover
use Rattle.key_directory.specs.Watches.{Watches, has_pending}
use Rattle.key_directory.specs.Directory.{Directory}
use Rattle.hypervisor.specs.Hypervisor.{Hypervisor}
use Rattle.hypervisor.specs.Act.{BackAct, Took, back_act}
use Rattle.blk_back.specs.declared.stage.BackStage.{BackStage}
use Rattle.blk_back.specs.declared.stage.BackStage.TheVariants as ring_stage
use Rattle.blk_back.specs.Step as ring_step
use Rattle.xenbus_state.specs.declared.offer.Features.{Features}
use Rattle.xenbus_state.specs.declared.offer.DiskFacts.{DiskFacts}
use Rattle.xenbus_state.specs.declared.stage.BackBusStage.{BackBusStage}
use Rattle.xenbus_state.specs.declared.stage.BackBusStage.TheVariants as stage
use Rattle.xenbus_state.specs.declared.back.BackBusAsk.{BackBusAsk}
use Rattle.xenbus_state.specs.declared.back.BackBusAsk.TheVariants as bus_ask
use Rattle.xenbus_state.specs.BackAsk.{ask_of}
use Rattle.xenbus_state.specs.BackStep.{step_of}
use Rattle.split_model.proofs.Acting.{BackWatched, back_acts}
use Rattle.negotiation_laws.specs.Negotiation.{Negotiation, back_answered, back_done, back_moved}
use Rattle.negotiation_laws.specs.Left.{left, one_if, back_goes}
use Rattle.negotiation_laws.proofs.Holds.{Holds, back_move_holds}
use Rattle.negotiation_laws.proofs.Settling.{back_move_left}
use Rattle.vbd_back.specs.Ask.{speaks, key_ask}
use Rattle.vbd_back.specs.Ask as backend_ask
use Rattle.vbd_back.specs.Step.{settled_at, settled}
use Rattle.vbd_back.specs.Step as backend_step
use Rattle.vbd_model.specs.World.{World, backend_of}
use Rattle.vbd_model.specs.Happening.{back_turn, is_backs_ring}
use Rattle.vbd_model.specs.Fit.{IsFit}
use Rattle.vbd_laws.proofs.MovesTurns.{back_asks}
use Rattle.vbd_laws.proofs.NegotiatedRun.{negotiation_of, Joined}
use Rattle.vbd_laws.proofs.NegotiatedBack.{with_back, a_page, others_asked, keys_heard, IsGiven, back_keeps}
use Rattle.ring_settle_laws.proofs.Gone.{back_watch}
use Rattle.vbd_laws.proofs.NegotiatedBusy.{holds_of}
use Rattle.settle_laws.proofs.NegotiationFront.{no_more, then_no_more, by_one, TakesOne, takes_one}

-- a back that unmaps its other mappings goes on where its end of the ring has none, and that leaves no more
module _ (f : Features) (d : DiskFacts) where
  others_no_more : (n : Negotiation) → n.back.stage ≡ stage.UnmapOthers → Holds f d n → left (with_back n (step_of n.back answer.Done) n.keys) ≤ left n
  others_no_more n here h =
      subst (λ (m : Negotiation). left m ≤ left n) (ap (λ (b : BackBusAsk). with_back n (step_of n.back (back_answered b a_page n.keys)) (back_done b n.keys)) (others_asked n.back here))
      (no_more (one_if (back_goes (ask_of n.back) n.keys.back)) (left (back_moved a_page n)) (left n) (back_move_left f d n a_page h))

  settled_no_more : (b : BackBusStage) (s : BackStage) (n : Negotiation) → n.back.stage ≡ b → Holds f d n → left (with_back n (settled_at b s n.back) n.keys) ≤ left n
  settled_no_more stage.UnmapOthers (ring_stage.Abort m) n here h = omega arith
  settled_no_more stage.UnmapOthers s n here h = others_no_more n here h
  settled_no_more b s n here h = omega arith

-- an ask for a key or a watch doesn't wait, and where a watch is pending none waits in vain
speaks_goes : (b : BackBusAsk) (w : Watches) → speaks b ≡ true → back_goes b w ≡ true
speaks_goes bus_ask.Wait w says = absurd (true≢false (sym says))
speaks_goes b w says = refl

pending_goes : (b : BackBusAsk) (w : Watches) → has_pending w ≡ true → back_goes b w ≡ true
pending_goes bus_ask.Wait w some = some
pending_goes b w some = refl

-- where the negotiation speaks it has less to do, however its end of the ring stands then
pub speaks_lowers : (w : World) (a : BackAct) (s : BackStage) → Joined w → speaks (back_asks w) ≡ true → back_act w.rings.under back_mover.Back (key_ask (back_asks w)) Took ≡ Some a
    → left (with_back (negotiation_of w) (settled s (step_of w.back a.answer)) a.under.keys) + 1 ≤ left (negotiation_of w)
speaks_lowers w a s j says e =
    let n : Negotiation = negotiation_of w in
    let b : BackBusAsk = back_asks w in
    let next : Negotiation = back_moved a_page n in
    let heard = keys_heard b w.rings.under a says e in
    let h = holds_of n j in
    let same : with_back n (settled s (step_of w.back a.answer)) a.under.keys ≡ with_back next (settled s next.back) next.keys =
    ap (λ (x : BackAnswer). with_back n (settled s (step_of w.back x)) a.under.keys) heard.0
    ∙ ap (λ (k : Directory). with_back n (settled s (step_of w.back (back_answered b a_page n.keys))) k) heard.1 in
    subst (λ (m : Negotiation). left m + 1 ≤ left n) (sym same)
    (by_one (back_goes b n.keys.back) (left (with_back next (settled s next.back) next.keys)) (left n) (speaks_goes b n.keys.back says)
    (then_no_more (one_if (back_goes b n.keys.back)) (left (with_back next (settled s next.back) next.keys)) (left next) (left n)
    (back_move_left j.run.offer j.run.facts n a_page h)
    (settled_no_more j.run.offer j.run.facts next.back.stage s next refl (back_move_holds j.run.offer j.run.facts n a_page h))))

-- a watch that is taken
IsTaken : Hypervisor → BackAct → Type 0
IsTaken h a = (back_watch a.answer ≡ 0) ⊎ ((back_watch a.answer ≡ 1) × TakesOne h.keys.back a.under.keys.back)

watch_taken : (h : Hypervisor) (asked : BackAsk) (a : BackAct) → back_act h back_mover.Back asked Took ≡ Some a → IsTaken h a
unfolding IsTaken
watch_taken h asked a e = elim (back_acts h back_mover.Back asked Took a e) as (λ who wish outcome x acts. IsTaken h x) [
  | BackWatched path first ↦ inr (refl, takes_one h.keys.back path first)
  | acts ↦ inl refl
]

-- nothing became of it, or it has no more to do, and less where it didn't wait in vain
record HasLess (f : Features) (d : DiskFacts) (n m : Negotiation) : Type 0 where
  holds : Holds f d m
  less : (m ≡ n) ⊎ (one_if (back_goes (ask_of n.back) n.keys.back) + left m ≤ left n)

less_on : (f : Features) (d : DiskFacts) (n m : Negotiation) (page : Mapping) → HasLess f d n m → HasLess f d n (back_moved page m)
less_on f d n m page is = record { holds = back_move_holds f d m page is.holds; less = by_less is.less }
  where
    by_less : (m ≡ n) ⊎ (one_if (back_goes (ask_of n.back) n.keys.back) + left m ≤ left n) → (back_moved page m ≡ n) ⊎ (one_if (back_goes (ask_of n.back) n.keys.back) + left (back_moved page m) ≤ left n)
    by_less (inl same) = inr (subst (λ (x : Negotiation). one_if (back_goes (ask_of x.back) x.keys.back) + left (back_moved page m) ≤ left x) same (back_move_left f d m page is.holds))
    by_less (inr less) =
        inr (then_no_more (one_if (back_goes (ask_of n.back) n.keys.back)) (left (back_moved page m)) (left m) (left n) less
        (no_more (one_if (back_goes (ask_of m.back) m.keys.back)) (left (back_moved page m)) (left m) (back_move_left f d m page is.holds)))

-- any move of the back that is refused nothing
pub back_lowers : (w : World) (a : BackAct) → IsFit w → Joined w → back_turn w ≡ Some a → IsGiven a.answer
    → (is_backs_ring w ≡ true → (ring_step.step_of w.rings.back a.answer).halted ≡ w.rings.back.halted)
    → left (with_back (negotiation_of w) (backend_step.step_of (backend_of w) a.answer).bus a.under.keys) + back_watch a.answer ≤ left (negotiation_of w)
unfolding IsTaken
back_lowers w a fit j turn given unhalted =
    by_less (back_keeps (HasLess j.run.offer j.run.facts n) (less_on j.run.offer j.run.facts n) w a fit (record { holds = holds_of n j; less = inl refl }) turn given unhalted).less
    (watch_taken w.rings.under (backend_ask.ask_of (backend_of w)) a turn)
  where
    n : Negotiation
    n = negotiation_of w

    m : Negotiation
    m = with_back n (backend_step.step_of (backend_of w) a.answer).bus a.under.keys

    plain : (g now before : ℕ) → g + now ≤ before → now + 0 ≤ before
    plain g now before x = omega arith

    by_less : (m ≡ n) ⊎ (one_if (back_goes (ask_of n.back) n.keys.back) + left m ≤ left n) → (back_watch a.answer ≡ 0) ⊎ ((back_watch a.answer ≡ 1) × TakesOne n.keys.back m.keys.back)
        → left m + back_watch a.answer ≤ left n
    by_less (inl same) (inl none) = subst (λ (k : ℕ). left m + k ≤ left n) (sym none) (subst (λ (x : Negotiation). left x + 0 ≤ left n) (sym same) (omega arith))
    by_less (inl same) (inr one) = absurd (let fewer = one.1.fewer in let kept : length m.keys.back.pending ≡ length n.keys.back.pending = ap (λ (x : Negotiation). length x.keys.back.pending) same in omega arith)
    by_less (inr less) (inl none) = subst (λ (k : ℕ). left m + k ≤ left n) (sym none) (plain (one_if (back_goes (ask_of n.back) n.keys.back)) (left m) (left n) less)
    by_less (inr less) (inr one) =
        subst (λ (k : ℕ). left m + k ≤ left n) (sym one.0)
        (by_one (back_goes (ask_of n.back) n.keys.back) (left m) (left n) (pending_goes (ask_of n.back) n.keys.back one.1.some) less)
