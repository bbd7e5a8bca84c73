-- The negotiation of the machine, as a run of it so far.
use Rattle.std.proofs.Common.{◌≡◌, ◌∙◌, ap, sym, subst, ℕ, ◌≤◌, ◌<◌, Bool, true, false, List, [], ◌∷◌, ◌++◌, refl}
use Rattle.std.specs.Prelude.{Some}
use Rattle.blk_base.specs.declared.parts.Mapping.{Mapping}
use Rattle.xenbus_state.specs.States.{state_number}
use Rattle.xenbus_state.specs.declared.state.BusState.TheVariants as state
use Rattle.xenbus_state.specs.declared.table.BackHalt.{BackHalt}
use Rattle.xenbus_state.specs.FrontView.{is_broken}
use Rattle.xenbus_state.specs.FrontAsk as front
use Rattle.xenbus_state.specs.BackView.{is_halting}
use Rattle.xenbus_state.specs.BackAsk as back
use Rattle.xenbus_state.specs.BackStep.{halt_of}
use Rattle.xenbus_state.specs.FrontStep.{news_of}
use Rattle.xenbus_state.specs.declared.front.FrontNews.TheVariants as news
use Rattle.negotiation_laws.specs.Negotiation.{Negotiation, front_answered, back_answered}
use Rattle.negotiation_laws.specs.Happening.{Happening, happened, after, IsServed, AreServed}
use Rattle.negotiation_laws.specs.Within.{HasPort, HavePorts}
use Rattle.negotiation_laws.specs.Run.{NegotiationRun, now, begins, IsServedRun}
use Rattle.negotiation_laws.specs.Laws.{IsLeaving, IsHalted, gone_halt}
use Rattle.negotiation_laws.proofs.Unbroken.{never_broken, halts_as_gone, breaks_only_unserved}
use Rattle.negotiation_laws.proofs.Leaving.{leaves_after}
use Rattle.negotiation_laws.proofs.Holds.{holds}
use Rattle.vbd_model.specs.World.{World}

-- both buses, over the keys under both ends
abbrev pub negotiation_of : World → Negotiation
negotiation_of w = record { front = w.front; back = w.back; keys = w.rings.under.keys }

-- it came from its beginning, and at no moment had a front that wrote Closing a request left
pub record Reached (n : Negotiation) : Type 0 where
  pub run : NegotiationRun
  pub served : IsServedRun run
  pub stands : now run ≡ n

abbrev pub Joined : World → Type 0
Joined w = Reached (negotiation_of w)

-- one happening more
after_one : (hs : List Happening) (h : Happening) (n : Negotiation) → after (hs ++ h ∷ []) n ≡ happened h (after hs n)
after_one [] h n = refl
after_one (x ∷ hs) h n = after_one hs h (happened x n)

ports_one : (hs : List Happening) (h : Happening) → HavePorts hs → HasPort h → HavePorts (hs ++ h ∷ [])
ports_one [] h fit fits = (fits, tt)
ports_one (x ∷ hs) h fit fits = (fit.0, ports_one hs h fit.1 fits)

served_one : (hs : List Happening) (h : Happening) (n : Negotiation) → AreServed hs n → IsServed h (after hs n) → AreServed (hs ++ h ∷ []) n
served_one [] h n are is = (is, tt)
served_one (x ∷ hs) h n are is = (are.0, served_one hs h (happened x n) are.1 is)

pub reached_one : (n : Negotiation) (h : Happening) → HasPort h → IsServed h n → Reached n → Reached (happened h n)
reached_one n h port served j =
    let r = j.run in
    record {
      run = record { front = r.front; offer = r.offer; facts = r.facts; happenings = r.happenings ++ h ∷ []; within = r.within; ports = ports_one r.happenings h r.ports port };
      served = served_one r.happenings h (begins r) j.served (subst (IsServed h) (sym j.stands) served);
      stands = after_one r.happenings h (begins r) ∙ ap (happened h) j.stands;
    }

-- what is the same was reached too
pub reached_as : (n m : Negotiation) → m ≡ n → Reached n → Reached m
reached_as n m same j = subst Reached (sym same) j

-- the front isn't broken, and it reads nothing that breaks it unless a request is left
pub unbroken_at : (n : Negotiation) → Reached n → is_broken n.front.stage ≡ false
unbroken_at n j = subst (λ (m : Negotiation). is_broken m.front.stage ≡ false) j.stands (never_broken j.run j.served)

abbrev BreaksBusy : (idle : Bool) (port word : ℕ) → Negotiation → Type 0
BreaksBusy idle port word m = news_of m.front idle (front_answered (front.ask_of m.front idle) port m.keys) ≡ Some (news.Broken word) → (idle ≡ false) × (m.front.state ≡ state.Closing)

pub breaks_at : (n : Negotiation) (idle : Bool) (port word : ℕ) → Reached n → news_of n.front idle (front_answered (front.ask_of n.front idle) port n.keys) ≡ Some (news.Broken word) → (idle ≡ false) × (n.front.state ≡ state.Closing)
breaks_at n idle port word j = subst (BreaksBusy idle port word) j.stands (λ e. let breaks = breaks_only_unserved j.run idle port word e in (breaks.1, breaks.2))

-- it leaves only a back that has halted and is closed
abbrev LeavesHalted : (idle : Bool) → Negotiation → Type 0
LeavesHalted idle m = IsLeaving (front.ask_of m.front idle) → IsHalted m.back

pub leaves_at : (n : Negotiation) (idle : Bool) → Reached n → IsLeaving (front.ask_of n.front idle) → IsHalted n.back
leaves_at n idle j = subst (LeavesHalted idle) j.stands (leaves_after j.run idle)

-- the back halts only as the front wrote Closing, and after it did
abbrev HaltsGone : Mapping → BackHalt → Negotiation → Type 0
HaltsGone page reason m = halt_of m.back (back_answered (back.ask_of m.back) page m.keys) ≡ Some reason → (m.front.state ≡ state.Closing) × (reason ≡ gone_halt m.back.unplugged state.Closing)

pub halts_at : (n : Negotiation) (page : Mapping) (reason : BackHalt) → Reached n → halt_of n.back (back_answered (back.ask_of n.back) page n.keys) ≡ Some reason
    → (n.front.state ≡ state.Closing) × (reason ≡ gone_halt n.back.unplugged state.Closing)
halts_at n page reason j = subst (HaltsGone page reason) j.stands (halts_as_gone j.run page reason)

abbrev HaltsLate : Negotiation → Type 0
HaltsLate m = is_halting m.back.stage ≡ true → 5 ≤ state_number m.front.state

pub late_at : (n : Negotiation) → Reached n → is_halting n.back.stage ≡ true → 5 ≤ state_number n.front.state
late_at n j =
    let r = j.run in
    let kept = holds r.front r.offer r.facts r.happenings r.within r.ports in
    subst HaltsLate j.stands kept.back.halting_after

-- a front that doesn't close has written no state of one that does
abbrev IsEarly : Negotiation → Type 0
IsEarly m = m.front.closing ≡ false → state_number m.front.state < 5

pub early_at : (n : Negotiation) → Reached n → n.front.closing ≡ false → state_number n.front.state < 5
early_at n j =
    let r = j.run in
    let kept = holds r.front r.offer r.facts r.happenings r.within r.ports in
    subst IsEarly j.stands (λ still. (kept.front.leaves_open still).0)
