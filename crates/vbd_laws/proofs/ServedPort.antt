-- The front's port is the first that is made in its epoch: as many ports were made before it as were before the epoch.
use Rattle.std.proofs.Common.{◌≡◌, ap, sym, subst, refl, ℕ, ◌+◌, ◌-◌, ◌&&◌, Bool, true, false, if◌then◌else◌, List, [], ◌∷◌, ◌++◌, map, length, length-append, length-set, arith}
use Rattle.std.specs.Prelude.{Option, Some, None, slice_set}
use Rattle.std.proofs.Math.ListN.{length-map}
use Rattle.blk_base.specs.declared.parts.End.TheVariants as end
use Rattle.blk_base.specs.declared.ask.FrontAsk.{FrontAsk}
use Rattle.blk_base.specs.declared.ask.FrontAsk.TheVariants as front_ask
use Rattle.blk_base.specs.declared.ask.BackAsk.{BackAsk}
use Rattle.blk_base.specs.declared.moves.BackMover.{BackMover}
use Rattle.blk_base.specs.declared.moves.BackMover.TheVariants as back_mover
use Rattle.event_channel.specs.declared.channels.PortState.{PortState}
use Rattle.event_channel.specs.declared.channels.PortState.TheVariants as port_state
use Rattle.event_channel.specs.Channels.{ChannelState, made_before, place_of, with_port, closed_port, unbound_port}
use Rattle.hypervisor.specs.Hypervisor.{Hypervisor}
use Rattle.hypervisor.specs.Act.{FrontAct, BackAct, Outcome, Took, front_act, back_act}
use Rattle.blk_front.specs.State.{is_open}
use Rattle.blk_back.specs.Step.{job_ask_of}
use Rattle.xenbus_state.specs.FrontView.{FrontView, suspended}
use Rattle.split_model.specs.World as rings
use Rattle.split_model.specs.Happening as ring
use Rattle.split_model.proofs.Outside.{IsOutside, LeavesEnds, leaves_ends, KeepsPorts, sent_keeps}
use Rattle.split_model.proofs.Acting.{FrontPort, FrontClose, front_acts, BackBind, BackClose, back_acts}
use Rattle.split_model.proofs.SafeAnswers.{IsFronts}
use Rattle.vbd_front.specs.Ask as front
use Rattle.vbd_back.specs.Ask as back
use Rattle.vbd_model.specs.World.{World, frontend_of, backend_of}
use Rattle.vbd_model.specs.Happening.{Happening, FrontMoves, BackMoves, JobMoves, Closes, Submits, Suspends, renewed_bus, does, happens}
use Rattle.vbd_model.specs.Fit.{IsFit}
use Rattle.vbd_laws.proofs.FitSuspended.{anew_at}
use Rattle.vbd_laws.proofs.NegotiatedBusy.{StaysInEpoch}
use Rattle.vbd_laws.proofs.ServedFront.{SpeaksWith, AsksFor, asks_port, move_speaks, closed_speaks}
use Rattle.vbd_laws.proofs.MovesFront.{after_front_move}
use Rattle.vbd_laws.proofs.MovesBack.{after_back_move}

-- the next port after so many
abbrev pub IsNext : (count : ℕ) → (port : ℕ) → Type 0
IsNext count port = port ≡ count + 1

-- so many ports were made before this epoch, and the front has no other than the next one
abbrev pub earlier : World → ℕ
earlier w = made_before w.rings.under.channels

abbrev pub HasFirstPort : World → Type 0
HasFirstPort w = SpeaksWith (IsNext (earlier w)) w.front

-- so many they stay over each act: a port that is made is one of this epoch, and a port that is bound or closed is there still
abbrev Keeps : Hypervisor → Hypervisor → Type 0
Keeps h under = made_before under.channels ≡ made_before h.channels

abbrev FrontKeeps : Hypervisor → FrontAct → Type 0
FrontKeeps h x = Keeps h x.under

abbrev BackKeeps : Hypervisor → BackAct → Type 0
BackKeeps h x = Keeps h x.under

one_more : (c : ChannelState) → made_before (with_port c) ≡ made_before c
one_more c = let more : length (c.ports ++ port_state.Unbound ∷ []) ≡ length c.ports + 1 = length-append c.ports (port_state.Unbound ∷ []) in omega arith

as_many : (c : ChannelState) (ports : List PortState) → length ports ≡ length c.ports → c.made - length ports ≡ made_before c
as_many c ports same = ap (λ (n : ℕ). c.made - n) same

front_keeps : (h : Hypervisor) (a : FrontAsk) (x : FrontAct) → front_act h a ≡ Some x → FrontKeeps h x
front_keeps h a x e =
    let c : ChannelState = h.channels in
    elim (front_acts h a x e) as (λ asked y acts. FrontKeeps h y) [
      | FrontPort ↦ one_more c
      | FrontClose ↦ as_many c (map closed_port c.ports) (length-map c.ports closed_port)
      | acts ↦ refl
    ]

back_keeps : (h : Hypervisor) (who : BackMover) (a : BackAsk) (o : Outcome) (x : BackAct) → back_act h who a o ≡ Some x → BackKeeps h x
back_keeps h who a o x e =
    let c : ChannelState = h.channels in
    elim (back_acts h who a o x e) as (λ by asked outcome y acts. BackKeeps h y) [
      | BackBind p is ↦ as_many c (slice_set c.ports (place_of c p) port_state.Bound) (length-set c.ports (place_of c p) port_state.Bound)
      | BackClose ↦ as_many c (map unbound_port c.ports) (length-map c.ports unbound_port)
      | acts ↦ refl
    ]

-- and so over whatever happens in an epoch
job_earlier : (w : rings.World) (number : ℕ) (o : Outcome) (act : Option BackAct) → ring.job_turn w number o ≡ act → Keeps w.under (let v : rings.World = ring.job_after w number act in v.under)
job_earlier w number o None e = refl
job_earlier w number o (Some a) e = back_keeps w.under (back_mover.Job number) (job_ask_of w.back number) o a e

outside_earlier : (w : rings.World) (x : ring.Happening) → IsOutside x → Keeps w.under (let v : rings.World = ring.happens w x in v.under)
outside_earlier w x outside =
    let left : LeavesEnds w (ring.happens w x) = leaves_ends w x outside in
    let kept : KeepsPorts w.under.channels (let v : rings.World = ring.happens w x in v.under.channels) = sent_keeps _ _ left.channels in
    rw (kept.made, kept.ports) refl

beside_earlier : (w : World) (h : Happening) (x : ring.Happening) → does w h ≡ x ∷ [] → IsOutside x → earlier (happens w h) ≡ earlier w
beside_earlier w h x one outside = rw one (outside_earlier w.rings x outside)

earlier_stays : (w : World) (h : Happening) → StaysInEpoch h → IsFit w → earlier (happens w h) ≡ earlier w
earlier_stays w FrontMoves stays fit = after_front_move (λ act u. earlier u ≡ earlier w) w fit refl (λ a e. front_keeps w.rings.under (front.ask_of (frontend_of w)) a e)
earlier_stays w BackMoves stays fit = after_back_move (λ act u. earlier u ≡ earlier w) w fit refl (λ a e. back_keeps w.rings.under back_mover.Back (back.ask_of (backend_of w)) Took a e)
earlier_stays w (JobMoves number outcome) stays fit = job_earlier w.rings number outcome (ring.job_turn w.rings number outcome) refl
earlier_stays w (Closes end.Front) stays fit = refl
earlier_stays w (Closes end.Back) stays fit = refl
earlier_stays w (Submits job) stays fit = refl
earlier_stays w Suspends stays fit = absurd stays
earlier_stays w h stays fit = beside_earlier w h _ refl tt

-- the front asks for a port where none is made yet
fronts_next : (c : ChannelState) (a : FrontAsk) → IsFronts c a → AsksFor (IsNext (made_before c)) c.made a
fronts_next c front_ask.NewPort is = let none : length c.ports ≡ 0 = ap length is.1 in omega arith
fronts_next c a is = tt

speaks_on : (w : World) (h : Happening) → StaysInEpoch h → IsFit w → HasFirstPort w → (let v : World = happens w h in SpeaksWith (IsNext (earlier w)) v.front)
speaks_on w FrontMoves stays fit has = move_speaks (IsNext (earlier w)) w (asks_port (IsNext (earlier w)) w fit (fronts_next w.rings.under.channels)) has
speaks_on w (Closes end.Front) stays fit has = closed_speaks (IsNext (earlier w)) w.front has
speaks_on w (Closes end.Back) stays fit has = has
speaks_on w Suspends stays fit has = absurd stays
speaks_on w h stays fit has = has

pub first_port_on : (w : World) (h : Happening) → StaysInEpoch h → IsFit w → HasFirstPort w → HasFirstPort (happens w h)
first_port_on w h stays fit has = subst (λ (n : ℕ). let v : World = happens w h in SpeaksWith (IsNext n) v.front) (sym (earlier_stays w h stays fit)) (speaks_on w h stays fit has)

-- after a suspend an open front has no port
pub first_port_begins : (w : World) → IsFit w → is_open w.rings.front.stage ≡ true → HasFirstPort w → HasFirstPort (happens w Suspends)
first_port_begins w fit opened has = by_may (rings.may_suspend w.rings)
  where
    anew : (n : ℕ) → SpeaksWith (IsNext n) (if is_open w.rings.front.stage then suspended w.front else w.front)
    anew n =
        subst (λ (b : Bool). SpeaksWith (IsNext n) (if b then suspended w.front else w.front)) (sym opened)
        (subst (λ (v : FrontView). SpeaksWith (IsNext n) v) (sym (anew_at w.front.stage w.front w.rings.front.stage fit.front opened)) (record { order = has.order; port = tt; stage = tt }))

    by_may : (may : Bool) → HasFirstPort (record {
      rings = if may then rings.suspended w.rings else w.rings;
      front = if may && is_open w.rings.front.stage then suspended w.front else w.front;
      back = if may then renewed_bus (is_open w.rings.front.stage) w.back else w.back;
    })
    by_may true = anew _
    by_may false = has
