-- Whatever happens to the machine is possible for the machine of its ring.
use Rattle.std.proofs.Common.{inl, ◌≡◌, ◌∙◌, sym, ℕ, ◌^◌, ◌<◌, ◌&&◌, Bool, true, false, if◌then◌else◌, List, [], ◌∷◌, ◌++◌, map, refl, arith}
use Rattle.std.specs.Prelude.{Option, Some, None}
use Rattle.std.specs.List.{AllByRecursion}
use Rattle.blk_base.specs.Options.{Options}
use Rattle.blk_base.specs.declared.parts.End.{End}
use Rattle.blk_base.specs.declared.parts.End.TheVariants as end
use Rattle.blk_base.specs.declared.moves.BackMover.TheVariants as back_mover
use Rattle.hypervisor.specs.Act.{FrontAct, BackAct, Took, back_act}
use Rattle.schedule_text.specs.Range.{AreOptions}
use Rattle.blk_front.specs.declared.state.FrontState.{FrontState}
use Rattle.blk_front.specs.declared.state.FrontState.TheVariants as enter
use Rattle.blk_front.specs.declared.state.Offers.{Offers}
use Rattle.blk_front.specs.State.{is_open}
use Rattle.xenbus_state.specs.declared.stage.FrontBusStage.{FrontBusStage}
use Rattle.xenbus_state.specs.declared.front.FrontBusAsk.{FrontBusAsk}
use Rattle.xenbus_state.specs.declared.front.FrontBusAsk.TheVariants as front_ask
use Rattle.xenbus_state.specs.declared.front.FrontNews.{FrontNews}
use Rattle.xenbus_state.specs.declared.front.FrontNews.TheVariants as news
use Rattle.xenbus_state.specs.declared.table.BackHalt.{BackHalt}
use Rattle.xenbus_state.specs.FrontView.{ring_order, suspended}
use Rattle.xenbus_state.specs.FrontAsk.{due, ask_of}
use Rattle.split_model.specs.World as rings
use Rattle.split_model.specs.Happening as ring_happening
use Rattle.machine_pipeline.specs.Allowed as ring_allowed
use Rattle.vbd_front.specs.View as front_view
use Rattle.vbd_front.specs.Ask as front
use Rattle.vbd_front.specs.Step as front_step
use Rattle.vbd_back.specs.View as back_view
use Rattle.vbd_back.specs.Ask as back
use Rattle.vbd_back.specs.Step as back_step
use Rattle.vbd_model.specs.World.{World, start_of, frontend_of, backend_of, is_quiet}
use Rattle.vbd_model.specs.Happening.{Happening, FrontMoves, BackMoves, Closes, Pokes, OverwritesKey, Suspends, Looks, Settles, front_turn, back_turn, entered_at, halted_at, reasons_of, closes_does, front_does, back_does, renewed_bus, does, happens, all_does}
use Rattle.vbd_model.specs.Possible.{IsPossible, ArePossible}
use Rattle.vbd_model.specs.Fit.{IsFit}
use Rattle.vbd_laws.specs.Quiet.{IsUntouched}
use Rattle.vbd_laws.proofs.Fit.{fit_start, fit_happens}
use Rattle.vbd_laws.proofs.Offered.{agreed_offered}
use Rattle.vbd_laws.proofs.MovesTurns.{front_asks, back_asks, back_learns, front_cases, back_cases}
use Rattle.vbd_laws.proofs.ServedFront as fronts
use Rattle.vbd_laws.proofs.ServedFront.{IsNewsAt, news_is, front_speaks, front_spelled, closed_speaks, suspended_speaks}
use Rattle.vbd_laws.proofs.ServedBack as backs
use Rattle.vbd_laws.proofs.ServedBack.{IsRead, halt_read, halt_said, back_speaks, back_spelled, terms_said, unplugged_speaks, renewed_speaks}
use Rattle.vbd_laws.proofs.ServedSectors.{IsSized, told_sized, moved_sized, closed_sized, suspended_sized}
use Rattle.vbd_laws.proofs.NegotiatedRun.{Joined}
use Rattle.vbd_laws.proofs.NegotiatedAgreed.{IsSame, begins, keeps_order}
use Rattle.vbd_laws.proofs.NegotiatedEarly.{IsOnItsWay}
use Rattle.vbd_laws.proofs.NegotiatedWay.{key_given}

-- what is true at every moment
pub record Stands (w : World) : Type 0 where
  pub fit : IsFit w
  pub front : fronts.Speaks w.front
  pub sized : IsSized w.front
  pub back : backs.Speaks w.back

-- each of them one after the other
both_possible : (hs rest : List ring_happening.Happening) (w : rings.World) → ring_allowed.ArePossible hs w → ring_allowed.ArePossible rest (ring_happening.after hs w) → ring_allowed.ArePossible (hs ++ rest) w
both_possible [] rest w are later = later
both_possible (h ∷ hs) rest w are later = (are.0, both_possible hs rest (ring_happening.happens w h) are.1 later)

-- a state that breaks the front is a word, an order that is agreed is this one, and the disk's sectors have numbers of 64 bits
abbrev pub IsWord : ℕ → FrontState → Type 0
IsWord n (enter.Agreed order) = order ≡ n
IsWord n (enter.Connected offers) = offers.sectors < 2 ^ 64
IsWord n (enter.Broken word) = word < 2 ^ 32
IsWord n s = Unit {0}

stated_is : (n : ℕ) (s : FrontState) (w : rings.World) → w.front.shape.order ≡ n → IsWord n s → ring_allowed.IsStated w s
stated_is n (enter.Agreed order) w own is = is ∙ sym own
stated_is n (enter.Broken word) w own is = is
stated_is n (enter.Connected offers) w own is = is
stated_is n other w own is = tt

pub same_is : (n m : ℕ) (s : FrontState) → m ≡ n → IsWord n s → IsSame s m
same_is n m (enter.Agreed order) own is = is ∙ sym own
same_is n m s own is = tt

-- so are the states that the front enters
states_possible : (n : ℕ) (states : List FrontState) (w : rings.World) → w.front.shape.order ≡ n → AllByRecursion (IsWord n) states → ring_allowed.ArePossible (map ring_happening.FrontEnters states) w
states_possible n [] w own are = tt
states_possible n (s ∷ states) w own are = (
  stated_is n s w own are.0,
  states_possible n states (ring_happening.happens w (ring_happening.FrontEnters s)) (keeps_order s w.front (same_is n w.front.shape.order s own are.0) ∙ own) are.1,
)

due_words : (n : ℕ) (b : FrontBusAsk) (order : ℕ) → (begins b ≡ true → order ≡ n) → AllByRecursion (IsWord n) (front_step.states_due b order)
due_words n (front_ask.WriteRingWord word) order agrees = (agrees refl, tt)
due_words n (front_ask.EndGrant page) order agrees = (tt, tt)
due_words n b order agrees = tt

news_words : (n : ℕ) (s : FrontBusStage) (offers : Offers) (news_of : Option FrontNews) (b : FrontBusAsk) (order : ℕ) → offers.sectors < 2 ^ 64 → IsNewsAt s news_of → (begins b ≡ true → order ≡ n)
    → AllByRecursion (IsWord n) (front_step.states_entered offers news_of b order)
news_words n s offers None b order sized is agrees = due_words n b order agrees
news_words n s offers (Some news.Ready) b order sized is agrees = (sized, due_words n b order agrees)
news_words n s offers (Some news.Closing) b order sized is agrees = (tt, due_words n b order agrees)
news_words n s offers (Some news.Closed) b order sized is agrees = (tt, due_words n b order agrees)
news_words n s offers (Some (news.Broken word)) b order sized is agrees = (is, due_words n b order agrees)

pub entered_words : (w : World) (act : Option FrontAct) → Stands w → front_turn w ≡ act → front.speaks (front_asks w) ≡ true → AllByRecursion (IsWord w.rings.front.shape.order) (entered_at w act)
entered_words w None stands turn says = tt
entered_words w (Some a) stands turn says =
    let idle : Bool = front_view.is_unoccupied w.rings.front in
    news_words w.rings.front.shape.order (due w.front idle) (front_step.offers_of (front_step.bus_after (frontend_of w) a.answer)) (front_step.news_of (frontend_of w) a.answer) (ask_of (front_step.bus_after (frontend_of w) a.answer) idle)
    (ring_order (front_step.bus_after (frontend_of w) a.answer)) (told_sized w.front idle a.answer stands.sized) (news_is w.front idle a.answer) (agreed_offered w a stands.fit stands.front.order turn says)

front_possible : (w : World) → Stands w → ring_allowed.ArePossible (front_does w) w.rings
front_possible w stands =
    front_cases (λ does asked step. ring_allowed.ArePossible does w.rings) w
    (λ says. (front_spelled w stands.front, states_possible w.rings.front.shape.order (entered_at w (front_turn w)) _ refl (entered_words w (front_turn w) stands refl says)))
    (λ quiet moves. (tt, tt)) (λ quiet still. (front_spelled w stands.front, tt))

-- the reasons for which the back halts are said
reasons_possible : (why : Option BackHalt) (w : rings.World) → IsRead why → ring_allowed.ArePossible (map ring_happening.BackHalts (reasons_of why)) w
reasons_possible None w read = tt
reasons_possible (Some why) w read = (halt_said why read, tt)

halted_possible : (w : World) (v : rings.World) (act : Option BackAct) → backs.Speaks w.back → back_act w.rings.under back_mover.Back (back.key_ask (back_asks w)) Took ≡ act
    → ring_allowed.ArePossible (map ring_happening.BackHalts (halted_at w act)) v
halted_possible w v None speaks e = tt
halted_possible w v (Some a) speaks e = reasons_possible (back_step.halt_of (backend_of w) a.answer) v (halt_read w.back a.answer (key_given w.rings.under (back_asks w) a e) speaks)

back_possible : (w : World) → Stands w → ring_allowed.ArePossible (back_does w) w.rings
back_possible w stands =
    back_cases (λ does asked step. back_act w.rings.under back_mover.Back asked Took ≡ back_turn w → ring_allowed.ArePossible does w.rings) w
    (λ says untaken e. (back_spelled w stands.fit.offers stands.fit.limited stands.back, halted_possible w _ (back_turn w) stands.back e))
    (λ says takes e. (terms_said (back_learns w) (back_speaks w stands.back), tt))
    (λ quiet moves e. (tt, tt))
    (λ quiet still e. (back_spelled w stands.fit.offers stands.fit.limited stands.back, tt)) refl

pub closes_served : (w : rings.World) (at : End) → ring_allowed.AreServed (closes_does at) w
closes_served w end.Front = (tt, tt)
closes_served w end.Back = tt

-- what happens is served where the moves of both ends are, and where the ring rests whenever the machine does
pub served_by : (w : World) → ring_allowed.AreServed (front_does w) w.rings → ring_allowed.AreServed (back_does w) w.rings → (is_quiet w ≡ true → rings.is_quiet w.rings ≡ true)
    → (h : Happening) → IsUntouched h → IsPossible w h → ring_allowed.AreServed (does w h) w.rings
served_by w front back rests FrontMoves untouched is = front
served_by w front back rests BackMoves untouched is = back
served_by w front back rests (Closes at) untouched is = closes_served w.rings at
served_by w front back rests (Pokes frame word value) untouched is = absurd untouched
served_by w front back rests (OverwritesKey name text) untouched is = absurd untouched
served_by w front back rests (Looks quiet) untouched is = (λ e. rests (is e), tt)
served_by w front back rests (Settles quiet) untouched is = (λ e. rests (is e), tt)
served_by w front back rests h untouched is = (is, tt)

closes_possible : (w : rings.World) (at : End) → ring_allowed.ArePossible (closes_does at) w
closes_possible w end.Front = (tt, tt)
closes_possible w end.Back = tt

possible_at : (w : World) (h : Happening) → Stands w → IsPossible w h → ring_allowed.ArePossible (does w h) w.rings
possible_at w FrontMoves stands is = front_possible w stands
possible_at w BackMoves stands is = back_possible w stands
possible_at w (Closes at) stands is = closes_possible w.rings at
possible_at w (Looks quiet) stands is = (tt, tt)
possible_at w (Settles quiet) stands is = (tt, tt)
possible_at w h stands is = (is, tt)

suspended_front : (b : Bool) (w : World) → Stands w → fronts.Speaks (if b then suspended w.front else w.front)
suspended_front true w stands = suspended_speaks fronts.IsNumber w.front stands.front
suspended_front false w stands = stands.front

suspended_back : (b : Bool) (w : World) → Stands w → backs.Speaks (if b then renewed_bus (is_open w.rings.front.stage) w.back else w.back)
suspended_back true w stands = renewed_speaks (is_open w.rings.front.stage) w.back stands.back
suspended_back false w stands = stands.back

front_stands : (w : World) (h : Happening) → Stands w → (let v : World = happens w h in fronts.Speaks v.front)
front_stands w FrontMoves stands = front_speaks w stands.fit stands.front
front_stands w (Closes end.Front) stands = closed_speaks fronts.IsNumber w.front stands.front
front_stands w (Closes end.Back) stands = stands.front
front_stands w Suspends stands = suspended_front (rings.may_suspend w.rings && is_open w.rings.front.stage) w stands
front_stands w h stands = stands.front

sized_suspended : (b : Bool) (w : World) → Stands w → IsSized (if b then suspended w.front else w.front)
sized_suspended true w stands = suspended_sized w.front stands.sized
sized_suspended false w stands = stands.sized

sized_stands : (w : World) (h : Happening) → Stands w → (let v : World = happens w h in IsSized v.front)
sized_stands w FrontMoves stands = moved_sized w (front_turn w) stands.sized
sized_stands w (Closes end.Front) stands = closed_sized w.front stands.sized
sized_stands w (Closes end.Back) stands = stands.sized
sized_stands w Suspends stands = sized_suspended (rings.may_suspend w.rings && is_open w.rings.front.stage) w stands
sized_stands w h stands = stands.sized

back_stands : (w : World) (h : Happening) → Stands w → (let v : World = happens w h in backs.Speaks v.back)
back_stands w BackMoves stands = back_speaks w stands.back
back_stands w (Closes end.Front) stands = stands.back
back_stands w (Closes end.Back) stands = unplugged_speaks w.back stands.back
back_stands w Suspends stands = suspended_back (rings.may_suspend w.rings) w stands
back_stands w h stands = stands.back

pub stands_on : (w : World) (h : Happening) → Stands w → Stands (happens w h)
stands_on w h stands = record { fit = fit_happens w h stands.fit; front = front_stands w h stands; sized = sized_stands w h stands; back = back_stands w h stands }

pub all_possible : (hs : List Happening) (w : World) → Stands w → ArePossible hs w → ring_allowed.ArePossible (all_does hs w) w.rings
all_possible [] w stands are = tt
all_possible (h ∷ hs) w stands are = both_possible (does w h) (all_does hs (happens w h)) w.rings (possible_at w h stands are.0) (all_possible hs (happens w h) (stands_on w h stands) are.1)

pub joined_start : (config : Options) → AreOptions config → Joined (start_of config)
joined_start config are = record {
  run = record {
    front = let w : World = start_of config in w.front;
    offer = back_view.offer config.read_only config.indirect;
    facts = let w : World = start_of config in w.back.disk;
    happenings = [];
    within = record { order = are.0; indirect = let few = are.2 in omega arith; offered = omega arith; sectors = are.4 };
    ports = tt;
  };
  served = tt;
  stands = refl;
}

pub way_start : (config : Options) → AreOptions config → IsOnItsWay (start_of config)
way_start config are = inl (record { joined = joined_start config are; ring = refl; early = refl })

pub stands_start : (config : Options) → AreOptions config → Stands (start_of config)
stands_start config are = record {
  fit = fit_start config are.2;
  front = record { order = are.0; port = tt; stage = tt };
  sized = omega arith;
  back = record { sectors = are.4; order = omega arith; grefs = tt; port = omega arith; stage = tt };
}
