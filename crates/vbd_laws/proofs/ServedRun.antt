-- The honest part of a run: what holds goes on holding, and all of it is served.
use Rattle.vbd_laws.specs.Served.{KeepsKeys}
use Rattle.std.proofs.Common.{◌⊎◌, inl, inr, ◌≡◌, sym, ◌||◌, Bool, true, false, true≢false, List, [], ◌∷◌, ◌++◌, refl, arith}
use Rattle.blk_base.specs.Options.{Options}
use Rattle.blk_base.specs.declared.parts.End.TheVariants as end
use Rattle.blk_base.specs.declared.ask.FrontAsk.{FrontAsk}
use Rattle.blk_base.specs.declared.ask.FrontAsk.TheVariants as front_asked
use Rattle.hypervisor.specs.Act.{has_to_take}
use Rattle.schedule_text.specs.Range.{AreOptions}
use Rattle.line_text.proofs.Both.{both_true}
use Rattle.blk_front.specs.Submit as front_submit
use Rattle.blk_front.specs.State.{is_open}
use Rattle.blk_back.specs.Ask as ring_ask
use Rattle.split_model.specs.World as rings
use Rattle.split_model.specs.Honest.{honest_history}
use Rattle.split_model.specs.Happening as ring_happening
use Rattle.machine_pipeline.specs.Plain.{IsPlain}
use Rattle.machine_pipeline.specs.Allowed as ring_allowed
use Rattle.machine_pipeline.proofs.Quiet.{AreQuiet, all_quiet}
use Rattle.machine_pipeline.proofs.Together.{run_kept, always_stands}
use Rattle.vbd_front.specs.Ask as front
use Rattle.vbd_back.specs.Ask as back
use Rattle.vbd_model.specs.World.{World, start_of, frontend_of, backend_of, is_quiet}
use Rattle.vbd_model.specs.Happening.{Happening, FrontMoves, BackMoves, Closes, Pokes, OverwritesKey, Suspends, does, happens, after, all_does}
use Rattle.vbd_model.specs.Possible.{IsPossible, ArePossible}
use Rattle.vbd_model.specs.Kind.{are_carried}
use Rattle.vbd_laws.specs.Quiet.{IsUntouched, AreUntouched}
use Rattle.vbd_laws.proofs.ServedPort.{first_port_on, first_port_begins}
use Rattle.vbd_laws.proofs.ServedGone.{IsGone, gone_begins, gone_on, gone_served, gone_quiet}
use Rattle.vbd_laws.proofs.NegotiatedRun.{Joined, negotiation_of, reached_as}
use Rattle.vbd_laws.proofs.NegotiatedFront.{front_goes}
use Rattle.vbd_laws.proofs.NegotiatedRests.{apart_rests, closes_joined}
use Rattle.vbd_laws.proofs.NegotiatedAnew.{suspends_joined, on_its_way}
use Rattle.vbd_laws.proofs.NegotiatedBusy.{StaysInEpoch, heard_first, heard_on, heard_suspends}
use Rattle.vbd_laws.specs.Waits.{Awake, front_check_in, back_check_in}
use Rattle.vbd_laws.proofs.WaitsFront.{knows_on as front_knows_on, knows_start as front_knows_start}
use Rattle.vbd_laws.proofs.WaitsBack.{knows_on as back_knows_on, knows_start as back_knows_start}
use Rattle.vbd_laws.proofs.AtRest.{AreWaiting, are_unled}
use Rattle.vbd_laws.proofs.ServedPossible.{way_start, served_by, stands_start, stands_on, joined_start}
use Rattle.vbd_laws.proofs.MovesFront.{after_front_move}
use Rattle.vbd_laws.proofs.ServedHonest.{Going, Honest, front_served, hand_now, whole_now}
use Rattle.vbd_laws.proofs.ServedGiven.{back_joins, unrefused}
use Rattle.vbd_laws.proofs.ServedMaps.{back_served}
use Rattle.vbd_laws.proofs.WaitsJobs.{waits_is}

-- where all is quiet both negotiations rest, and so the ring's machine is quiet
pub front_wait : (a : FrontAsk) → front_submit.is_wait a ≡ true → a ≡ front_asked.Wait
front_wait front_asked.Wait is = refl
front_wait a is = absurd (true≢false (sym is))

unled_idle : (led idle : Bool) → (led || idle) ≡ true → led ≡ false → idle ≡ true
unled_idle true idle either unled = absurd (true≢false unled)
unled_idle false idle either unled = either

module _ (config : Options) (w : World) (honest : Honest config w) (going : Going w) (quiet : is_quiet w ≡ true) where
  parts : AreQuiet (front.is_waiting (frontend_of w)) (back.is_idle (backend_of w)) (has_to_take w.rings.under end.Front) (has_to_take w.rings.under end.Back)
  parts = all_quiet _ _ _ _ quiet

  back_parts : (back.is_waiting (backend_of w) ≡ true) × ((ring_ask.is_led w.rings.back.stage || ring_ask.is_idle w.rings.back) ≡ true)
  back_parts = both_true _ _ parts.back

  pub waiting : AreWaiting w
  waiting = record { front = front_wait (front.ask_of (frontend_of w)) parts.front; back = waits_is (back.ask_of (backend_of w)) back_parts.0; front_taken = parts.no_front; back_taken = parts.no_back }

  unled : (front_submit.is_idle w.rings.front ≡ true) × (ring_ask.is_led w.rings.back.stage ≡ false)
  unled = are_unled w honest.front_checks.0 honest.back_checks.0 honest.front_checks.1 honest.back_checks.1 going.joined going.heard (whole_now config w.rings honest.standing) waiting

  pub going_quiet : rings.is_quiet w.rings ≡ true
  going_quiet = let back_idle = unled_idle (ring_ask.is_led w.rings.back.stage) (ring_ask.is_idle w.rings.back) back_parts.1 unled.1 in rw (unled.0, back_idle, parts.no_front, parts.no_back) refl

pub quiet_ring : (config : Options) (w : World) → Honest config w → is_quiet w ≡ true → rings.is_quiet w.rings ≡ true
quiet_ring config w honest quiet = elim honest.going [ inl going ↦ going_quiet config w honest going quiet | inr gone ↦ gone_quiet w honest.stands.fit gone ]

served_at : (config : Options) (w : World) (h : Happening) → IsUntouched h → Honest config w → IsPossible w h → ring_allowed.AreServed (does w h) w.rings
served_at config w h untouched honest is =
    let quiet = going_quiet config w honest in
    elim honest.going [ inl going ↦ served_by w (front_served config w honest going) (back_served config w honest going) (quiet going) h untouched is | inr gone ↦ gone_served w honest.stands.fit gone h untouched is ]

-- the negotiation goes on as a run
front_joins : (config : Options) (w : World) → Honest config w → Going w → Joined (happens w FrontMoves)
front_joins config w honest going =
    after_front_move (λ act u. Joined u) w honest.stands.fit going.joined (λ a e. front_goes w a honest.stands.fit (whole_now config w.rings honest.standing) (hand_now config w honest) going.joined e)

joins : (config : Options) (w : World) (h : Happening) → IsUntouched h → StaysInEpoch h → Honest config w → Going w → Joined (happens w h)
joins config w FrontMoves untouched stays honest going = front_joins config w honest going
joins config w BackMoves untouched stays honest going = back_joins config w honest going
joins config w (Closes at) untouched stays honest going = closes_joined w at going.joined
joins config w (OverwritesKey name text) untouched stays honest going = absurd untouched
joins config w Suspends untouched stays honest going = absurd stays
joins config w h untouched stays honest going = let rests = apart_rests w h tt in reached_as (negotiation_of w) (negotiation_of (happens w h)) rests.bus going.joined

untouched_keeps : (h : Happening) → IsUntouched h → KeepsKeys h
untouched_keeps (OverwritesKey name text) untouched = untouched
untouched_keeps h untouched = tt

-- an epoch goes on, or another begins, unless the front is closed
stays_going : (config : Options) (w : World) (h : Happening) → IsUntouched h → StaysInEpoch h → Honest config w → Going w → Going (happens w h)
stays_going config w h untouched stays honest going = record {
  joined = joins config w h untouched stays honest going;
  heard = heard_on w h (untouched_keeps h untouched) stays honest.stands.fit (whole_now config w.rings honest.standing) (hand_now config w honest) going.joined (unrefused config w honest) going.heard;
  first_port = first_port_on w h stays honest.stands.fit going.first_port;
}

begins : (config : Options) (w : World) → rings.may_suspend w.rings ≡ true → Honest config w → Going w → Going (happens w Suspends) ⊎ IsGone (happens w Suspends)
begins config w may honest going = by_open (is_open w.rings.front.stage) refl
  where
    by_open : (opened : Bool) → is_open w.rings.front.stage ≡ opened → Going (happens w Suspends) ⊎ IsGone (happens w Suspends)
    by_open true e = inl (record {
      joined = suspends_joined w honest.stands.fit honest.stands.front honest.stands.back.sectors may e;
      heard = heard_suspends w honest.stands.fit e going.heard;
      first_port = first_port_begins w honest.stands.fit e going.first_port;
    })
    by_open false e = inr (gone_begins w honest.stands.fit may e (whole_now config w.rings honest.standing))

goes_on : (config : Options) (w : World) (h : Happening) → IsUntouched h → Honest config w → IsPossible w h → Going w → Going (happens w h) ⊎ IsGone (happens w h)
goes_on config w Suspends untouched honest is going = begins config w is honest going
goes_on config w h untouched honest is going = inl (stays_going config w h untouched tt honest going)

-- the machine after one happening more, and after all of them
honest_on : (config : Options) (w : World) (h : Happening) → IsUntouched h → Honest config w → IsPossible w h → Honest config (happens w h)
honest_on config w h untouched honest is = record {
  stands = stands_on w h honest.stands;
  way = on_its_way w h (untouched_keeps h untouched) honest.stands.fit honest.stands.front honest.stands.back.sectors (hand_now config w honest) honest.way;
  plain = honest.plain;
  standing = run_kept config (does w h) w.rings honest.plain honest.standing (served_at config w h untouched honest is);
  front_checks = (front_check_in w h honest.front_checks.0, front_knows_on w h honest.front_checks.0 honest.front_checks.1);
  back_checks = (back_check_in w h honest.back_checks.0, back_knows_on w h honest.back_checks.0 honest.back_checks.1);
  going = elim honest.going [ inl going ↦ goes_on config w h untouched honest is going | inr gone ↦ inr (gone_on w honest.stands.fit gone h untouched) ];
}

pub honest_after : (config : Options) (hs : List Happening) (w : World) → AreUntouched hs → Honest config w → ArePossible hs w → Honest config (after hs w)
honest_after config [] w untouched honest are = honest
honest_after config (h ∷ hs) w untouched honest are = honest_after config hs (happens w h) untouched.1 (honest_on config w h untouched.0 honest are.0) are.1

-- all of it, up to the first word or key that is overwritten
served_then : (hs rest : List ring_happening.Happening) (w : rings.World) → ring_allowed.AreServed hs w → ring_allowed.AreServed (honest_history rest) (ring_happening.after hs w) → ring_allowed.AreServed (honest_history (hs ++ rest)) w
served_then [] rest w are later = later
served_then (ring_happening.Pokes frame word value ∷ hs) rest w are later = absurd are.0
served_then (ring_happening.OverwritesKey name text ∷ hs) rest w are later = absurd are.0
served_then (h ∷ hs) rest w are later = (are.0, served_then hs rest (ring_happening.happens w h) are.1 later)

-- what holds of the rings' happenings of each happening holds of all of them, up to the first word or key that is overwritten
module _ (config : Options) (Are : List ring_happening.Happening → rings.World → Type 0) (none : (w : rings.World) → Are [] w)
    (more : (hs rest : List ring_happening.Happening) (w : rings.World) → Are hs w → Are (honest_history rest) (ring_happening.after hs w) → Are (honest_history (hs ++ rest)) w)
    (each : (w : World) (h : Happening) → IsUntouched h → Honest config w → IsPossible w h → Are (does w h) w.rings) where
  pub all_of : (hs : List Happening) (w : World) → Honest config w → ArePossible hs w → Are (honest_history (all_does hs w)) w.rings
  all_of [] w honest are = none w.rings
  all_of (Pokes frame word value ∷ hs) w honest are = none w.rings
  all_of (OverwritesKey name text ∷ hs) w honest are = none w.rings
  all_of (h ∷ hs) w honest are =
      more (does w h) (all_does hs (happens w h)) w.rings (each w h tt honest are.0) (all_of hs (happens w h) (honest_on config w h tt honest are.0) are.1)

pub all_served : (config : Options) (hs : List Happening) (w : World) → Honest config w → ArePossible hs w → ring_allowed.AreServed (honest_history (all_does hs w)) w.rings
all_served config = all_of config ring_allowed.AreServed (λ w. tt) served_then (served_at config)

-- the numbers of options have their bounds
plain_of : (config : Options) → AreOptions config → IsPlain config
plain_of config are = let sectors = are.4 in record { order = are.0; indirect = are.2; start = are.3; sectors = omega arith }

pub honest_start : (config : Options) → are_carried config ≡ true → AreOptions config → Honest config (start_of config)
honest_start config carried are =
    let plain = plain_of config are in
    record {
      stands = stands_start config are;
      way = way_start config are;
      plain = plain;
      standing = always_stands config [] plain tt;
      front_checks = (Awake, front_knows_start config are.2);
      back_checks = (Awake, back_knows_start config are.2);
      going = inl (record { joined = joined_start config are; heard = heard_first config; first_port = record { order = are.0; port = tt; stage = tt } });
    }
