-- A move of the front leaves its negotiation no more to do than before, and less where it took a watch, or its negotiation spoke.
use Rattle.std.proofs.Common.{◌⊎◌, inl, inr, ◌≡◌, ◌∙◌, ap, sym, subst, ℕ, ◌+◌, ◌^◌, ◌<◌, ◌≤◌, Bool, true, false, true≢false, List, [], ◌∷◌, length, refl, arith}
use Rattle.std.specs.Prelude.{Some}
use Rattle.std.proofs.lemmas.Option.{none-some}
use Rattle.blk_base.specs.declared.ask.FrontAsk.{FrontAsk}
use Rattle.blk_base.specs.declared.ask.FrontAnswer.{FrontAnswer}
use Rattle.key_directory.specs.Watches.{Watches, next_watch, first_of, taken, taken_from, has_pending}
use Rattle.key_directory.specs.Directory.{Directory}
use Rattle.hypervisor.specs.Hypervisor.{Hypervisor}
use Rattle.hypervisor.specs.Act.{FrontAct, front_act}
use Rattle.xenbus_state.specs.declared.offer.Features.{Features}
use Rattle.xenbus_state.specs.declared.offer.DiskFacts.{DiskFacts}
use Rattle.xenbus_state.specs.declared.front.FrontBusAsk.{FrontBusAsk}
use Rattle.xenbus_state.specs.declared.front.FrontBusAsk.TheVariants as bus_ask
use Rattle.xenbus_state.specs.FrontAsk.{ask_of}
use Rattle.xenbus_state.specs.FrontStep.{step_of}
use Rattle.split_model.proofs.Acting.{FrontWatched, front_acts}
use Rattle.negotiation_laws.specs.Negotiation.{Negotiation, front_answered, front_done, front_moved}
use Rattle.negotiation_laws.specs.Left.{left, one_if, front_goes}
use Rattle.negotiation_laws.proofs.Holds.{Holds, front_move_holds}
use Rattle.negotiation_laws.proofs.Falling.{front_move_left}
use Rattle.vbd_front.specs.View.{is_broken, is_unoccupied}
use Rattle.vbd_front.specs.Ask.{speaks, key_ask}
use Rattle.vbd_front.specs.Ask as frontend_ask
use Rattle.vbd_front.specs.Step.{settled_at, bus_told, bus_after}
use Rattle.vbd_front.specs.Step as frontend_step
use Rattle.vbd_model.specs.World.{World, frontend_of}
use Rattle.vbd_model.specs.Happening.{front_turn}
use Rattle.vbd_model.specs.Fit.{IsFit}
use Rattle.vbd_laws.proofs.FitFront.{asks_cases}
use Rattle.vbd_laws.proofs.MovesTurns.{front_asks}
use Rattle.vbd_laws.proofs.NegotiatedRun.{negotiation_of, Joined}
use Rattle.vbd_laws.proofs.NegotiatedFront.{with_front, settled_now, Goes, Told, keys_told, HasInHand, front_moves}
use Rattle.ring_settle_laws.proofs.Gone.{front_watch}
use Rattle.vbd_laws.proofs.NegotiatedBusy.{holds_of}

pub no_more : (g now before : ℕ) → g + now ≤ before → now ≤ before
no_more g now before a = omega arith

pub then_no_more : (g last now before : ℕ) → g + now ≤ before → last ≤ now → g + last ≤ before
then_no_more g last now before a b = omega arith

-- a settled move leaves no more
module _ (f : Features) (d : DiskFacts) (idle : Bool) where
  settled_no_more : (b : FrontBusAsk) (n : Negotiation) → ask_of n.front idle ≡ b → Holds f d n → left (with_front n (settled_at b idle n.front) n.keys) ≤ left n
  settled_no_more bus_ask.EndOtherGrants n asks h =
      subst (λ (m : Negotiation). left m ≤ left n) (ap (λ (b : FrontBusAsk). with_front n (step_of n.front idle (front_answered b 0 n.keys)) (front_done b n.keys)) asks)
      (no_more (one_if (front_goes (ask_of n.front idle) n.keys.front)) (left (front_moved idle 0 n)) (left n) (front_move_left f d n idle 0 h))
  settled_no_more b n asks h = omega arith

  settled_lowers : (n : Negotiation) (port : ℕ) → port < 2 ^ 32 → Holds f d n → one_if (front_goes (ask_of n.front idle) n.keys.front) + left (settled_now idle (front_moved idle port n)) ≤ left n
  settled_lowers n port within h =
      let next : Negotiation = front_moved idle port n in
      then_no_more (one_if (front_goes (ask_of n.front idle) n.keys.front)) (left (settled_now idle next)) (left next) (left n)
      (front_move_left f d n idle port h) (settled_no_more (ask_of next.front idle) next refl (front_move_holds f d n idle port within h))

-- an ask for a key or a watch doesn't wait, and where a watch is pending none waits in vain
speaks_goes : (b : FrontBusAsk) (w : Watches) → speaks b ≡ true → front_goes b w ≡ true
speaks_goes bus_ask.Wait w says = absurd (true≢false (sym says))
speaks_goes b w says = refl

pending_goes : (b : FrontBusAsk) (w : Watches) → has_pending w ≡ true → front_goes b w ≡ true
pending_goes bus_ask.Wait w some = some
pending_goes b w some = refl

pub by_one : (g : Bool) (now before : ℕ) → g ≡ true → one_if g + now ≤ before → now + 1 ≤ before
by_one g now before e = subst (λ (x : Bool). one_if x + now ≤ before → now + 1 ≤ before) (sym e) (λ a. omega arith)

-- where the negotiation speaks it has less to do
speaks_at : (w : World) (a : FrontAct) → Joined w → let b : FrontBusAsk = ask_of w.front (is_unoccupied w.rings.front) in
    speaks b ≡ true → front_act w.rings.under (key_ask b) ≡ Some a → left (with_front (negotiation_of w) (bus_after (frontend_of w) a.answer) a.under.keys) + 1 ≤ left (negotiation_of w)
speaks_at w a j says e =
    let idle : Bool = is_unoccupied w.rings.front in
    let b : FrontBusAsk = ask_of w.front idle in
    let n : Negotiation = negotiation_of w in
    let told : Told b 0 w.rings.under.keys a = keys_told b w.rings.under a says e in
    let same : with_front n (bus_after (frontend_of w) a.answer) a.under.keys ≡ settled_now idle (front_moved idle 0 n) =
    ap (λ (x : FrontAnswer). with_front n (bus_told idle w.front x) a.under.keys) told.answer
    ∙ ap (λ (k : Directory). with_front n (bus_told idle w.front (front_answered b 0 n.keys)) k) told.keys_after in
    subst (λ (m : Negotiation). left m + 1 ≤ left n) (sym same)
    (by_one (front_goes b n.keys.front) (left (settled_now idle (front_moved idle 0 n))) (left n) (speaks_goes b n.keys.front says)
    (settled_lowers j.run.offer j.run.facts idle n 0 (omega arith) (holds_of n j)))

pub speaks_lowers : (w : World) (a : FrontAct) → Joined w → speaks (front_asks w) ≡ true → front_act w.rings.under (key_ask (front_asks w)) ≡ Some a
    → left (with_front (negotiation_of w) (bus_after (frontend_of w) a.answer) a.under.keys) + 1 ≤ left (negotiation_of w)
speaks_lowers w a j =
    asks_cases (λ (b : FrontBusAsk). speaks b ≡ true → front_act w.rings.under (key_ask b) ≡ Some a → left (with_front (negotiation_of w) (bus_after (frontend_of w) a.answer) a.under.keys) + 1 ≤ left (negotiation_of w)) w
    (λ gone says. absurd (true≢false (sym says))) (λ none. speaks_at w a j)

-- a watch that is taken was pending, and is no more
pub record TakesOne (before after : Watches) : Type 0 where
  pub some : has_pending before ≡ true
  pub fewer : length after.pending + 1 ≡ length before.pending

pub takes_one : (w : Watches) (path : List ℕ) → next_watch w ≡ Some path → TakesOne w (taken w)
takes_one w path first = by_pending w.pending first
  where
    by_pending : (pending : List (List ℕ)) → first_of pending ≡ Some path → TakesOne (record { pending = pending; idle = w.idle }) (taken_from pending w.idle)
    by_pending [] e = absurd (none-some path e)
    by_pending (x ∷ later) e = record { some = refl; fewer = omega arith }

IsTaken : Hypervisor → FrontAct → Type 0
IsTaken h a = (front_watch a.answer ≡ 0) ⊎ ((front_watch a.answer ≡ 1) × TakesOne h.keys.front a.under.keys.front)

watch_taken : (h : Hypervisor) (asked : FrontAsk) (a : FrontAct) → front_act h asked ≡ Some a → IsTaken h a
unfolding IsTaken
watch_taken h asked a e = elim (front_acts h asked a e) as (λ wish x acts. IsTaken h x) [
  | FrontWatched path first ↦ inr (refl, takes_one h.keys.front path first)
  | acts ↦ inl refl
]

-- any move of the front
pub front_lowers : (w : World) (a : FrontAct) → IsFit w → is_broken w.rings.front.stage ≡ false → HasInHand w.rings.front.stage w.rings.front.ending → Joined w → front_turn w ≡ Some a
    → left (with_front (negotiation_of w) (frontend_step.step_of (frontend_of w) a.answer).bus a.under.keys) + front_watch a.answer ≤ left (negotiation_of w)
unfolding IsTaken
front_lowers w a fit whole hand j turn = by_goes (front_moves w a fit whole hand turn) (watch_taken w.rings.under (frontend_ask.ask_of (frontend_of w)) a turn)
  where
    n : Negotiation
    n = negotiation_of w

    m : Negotiation
    m = with_front n (frontend_step.step_of (frontend_of w) a.answer).bus a.under.keys

    idle : Bool
    idle = is_unoccupied w.rings.front

    by_goes : Goes idle n m → (front_watch a.answer ≡ 0) ⊎ ((front_watch a.answer ≡ 1) × TakesOne n.keys.front m.keys.front) → left m + front_watch a.answer ≤ left n
    by_goes (inl same) (inl none) = subst (λ (k : ℕ). left m + k ≤ left n) (sym none) (subst (λ (x : Negotiation). left x + 0 ≤ left n) (sym same) (omega arith))
    by_goes (inl same) (inr one) = absurd (let fewer = one.1.fewer in let kept : length m.keys.front.pending ≡ length n.keys.front.pending = ap (λ (x : Negotiation). length x.keys.front.pending) same in omega arith)
    by_goes (inr moved) (inl none) =
        subst (λ (k : ℕ). left m + k ≤ left n) (sym none)
        (subst (λ (x : Negotiation). left x + 0 ≤ left n) (sym moved.2)
        (plain (one_if (front_goes (ask_of n.front idle) n.keys.front)) (left (settled_now idle (front_moved idle moved.0 n))) (left n)
        (settled_lowers j.run.offer j.run.facts idle n moved.0 moved.1 (holds_of n j))))
      where
        plain : (g now before : ℕ) → g + now ≤ before → now + 0 ≤ before
        plain g now before a = omega arith
    by_goes (inr moved) (inr one) =
        subst (λ (k : ℕ). left m + k ≤ left n) (sym one.0)
        (subst (λ (x : Negotiation). left x + 1 ≤ left n) (sym moved.2)
        (by_one (front_goes (ask_of n.front idle) n.keys.front) (left (settled_now idle (front_moved idle moved.0 n))) (left n) (pending_goes (ask_of n.front idle) n.keys.front one.1.some)
        (settled_lowers j.run.offer j.run.facts idle n moved.0 moved.1 (holds_of n j))))
