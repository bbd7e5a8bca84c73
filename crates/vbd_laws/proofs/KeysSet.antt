-- Each key that a negotiation sets it may set: it lies under the end's own directory, and no persistent grants are offered.
use Rattle.std.proofs.Common.{◌≡◌, ℕ, Bool, true, false, true≢false, not, ◌||◌, if◌then◌else◌, List, [], ◌∷◌, inl, inr, refl, sym, ap, ◌∙◌, arith, decimal}
use Rattle.std.specs.Prelude.{Option, Some, None, ◌⊎◌}
use Rattle.line_text.proofs.Both.{both_true}
use Rattle.std.proofs.lemmas.Fmt.{decimal_digit}
use Rattle.blk_base.specs.declared.parts.End.TheVariants as end
use Rattle.blk_base.specs.declared.parts.Mapping.{Mapping}
use Rattle.event_channel.specs.Channels.{ChannelState}
use Rattle.blk_front.specs.declared.stage.FrontStage.{FrontStage}
use Rattle.blk_front.specs.declared.stage.FrontStage.TheVariants as front_ring
use Rattle.blk_front.specs.View as ends
use Rattle.blk_front.specs.Submit.{is_connected}
use Rattle.blk_back.specs.declared.stage.BackStage.{BackStage}
use Rattle.blk_back.specs.declared.stage.BackStage.TheVariants as back_ring
use Rattle.xenbus_state.specs.declared.keys.FrontKey.{FrontKey}
use Rattle.xenbus_state.specs.declared.keys.FrontKey.TheVariants as front_key
use Rattle.xenbus_state.specs.declared.keys.BackKey.{BackKey}
use Rattle.xenbus_state.specs.declared.keys.BackKey.TheVariants as back_key
use Rattle.xenbus_state.specs.declared.state.BusState.{BusState}
use Rattle.xenbus_state.specs.declared.state.BusState.TheVariants as state
use Rattle.xenbus_state.specs.declared.stage.FrontBusStage.{FrontBusStage}
use Rattle.xenbus_state.specs.declared.stage.FrontBusStage.TheVariants as front_stage
use Rattle.xenbus_state.specs.declared.stage.BackBusStage.{BackBusStage}
use Rattle.xenbus_state.specs.declared.stage.BackBusStage.TheVariants as back_stage
use Rattle.xenbus_state.specs.declared.front.FrontBusAsk.{FrontBusAsk}
use Rattle.xenbus_state.specs.declared.front.FrontBusAsk.TheVariants as front_ask
use Rattle.xenbus_state.specs.declared.back.BackBusAsk.{BackBusAsk}
use Rattle.xenbus_state.specs.declared.back.BackBusAsk.TheVariants as back_ask
use Rattle.xenbus_state.specs.declared.offer.Features.{Features}
use Rattle.xenbus_state.specs.Keys.{front_name, back_name, path_under}
use Rattle.xenbus_state.specs.Values.{text_of, front_value, back_value}
use Rattle.xenbus_state.specs.FrontView.{FrontView, terms_of}
use Rattle.xenbus_state.specs.BackView.{BackView}
use Rattle.xenbus_state.specs.FrontAsk as front_bus
use Rattle.xenbus_state.specs.BackAsk as back_bus
use Rattle.blk_back.specs.Ask.{is_led}
use Rattle.split_model.specs.Keys.{KeyMove, may_set, is_between, is_early, may_negotiate, is_zero_text}
use Rattle.split_model.specs.Safe.{IsPorted}
use Rattle.vbd_front.specs.Ask as front
use Rattle.vbd_back.specs.Ask as back
use Rattle.vbd_back.specs.View.{offer}
use Rattle.vbd_front.specs.View.{is_unoccupied, is_broken}
use Rattle.vbd_model.specs.Fit.{IsEndingPage, FrontRests, IsGranting, FrontGoesWith, IsAborting, IsUnmapping, is_serving, BackRests, BackGoesWith, IsUnbound}
use Rattle.negotiation_laws.proofs.Choices.{either}
use Rattle.vbd_laws.proofs.FitFrontMoves.{connected_still}
use Rattle.vbd_laws.proofs.FitFrontBus.{FrontFits, unoccupied, due_cases, closing_cases}
use Rattle.vbd_laws.proofs.FitFrontSpoken.{whole_rests}

pub front_may_set : (v : FrontView) (k : FrontKey) → may_set end.Front (path_under end.Front (front_name k)) (text_of (front_value (terms_of v) k)) ≡ true
front_may_set v front_key.RingPageOrder = refl
front_may_set v other = refl

-- a feature that isn't offered says 0
nothing : is_zero_text (decimal 0) ≡ true
nothing = rw (decimal_digit 0 (omega arith)) refl

pub back_may_set : (v : BackView) (k : BackKey) → v.features ≡ offer v.disk.read_only v.features.indirect → may_set end.Back (path_under end.Back (back_name k)) (text_of (back_value v.features v.disk k)) ≡ true
back_may_set v back_key.FeaturePersistent offers = let none : v.features.persistent ≡ false = ap (λ (f : Features). f.persistent) offers in rw none nothing
back_may_set v other offers = refl

pub front_state_set : (text : List ℕ) → may_set end.Front front.own_state text ≡ true
front_state_set text = refl

pub back_state_set : (text : List ℕ) → may_set end.Back back.own_state text ≡ true
back_state_set text = refl

-- what is asked may be set, where it sets a key
abbrev pub FrontMaySet : FrontBusAsk → Type 0
FrontMaySet (front_ask.SetKey key value) = may_set end.Front (path_under end.Front (front_name key)) (text_of value) ≡ true
FrontMaySet a = Unit {0}

abbrev pub BackMaySet : BackBusAsk → Type 0
BackMaySet (back_ask.SetKey key value) = may_set end.Back (path_under end.Back (back_name key)) (text_of value) ≡ true
BackMaySet a = Unit {0}

front_sets_at : (b : FrontBusStage) (v : FrontView) → FrontMaySet (front_bus.ask_at b v)
front_sets_at (front_stage.Publish key) v = front_may_set v key
front_sets_at b v = tt

pub front_sets : (v : FrontView) (idle : Bool) → FrontMaySet (front_bus.ask_of v idle)
front_sets v idle = front_sets_at (front_bus.due v idle) v

unmap_sets : (v : BackView) → BackMaySet (back_bus.unmap_ask v.pages)
unmap_sets v = by_pages v.pages
  where
    by_pages : (pages : List Mapping) → BackMaySet (back_bus.unmap_ask pages)
    by_pages [] = tt
    by_pages (page ∷ pages) = tt

back_sets_at : (b : BackBusStage) (v : BackView) → v.features ≡ offer v.disk.read_only v.features.indirect → BackMaySet (back_bus.ask_at b v)
back_sets_at (back_stage.Publish key) v offers = back_may_set v key offers
back_sets_at (back_stage.PublishFact key) v offers = back_may_set v key offers
back_sets_at back_stage.UnmapPage v offers = unmap_sets v
back_sets_at b v offers = tt

pub back_sets : (v : BackView) → v.features ≡ offer v.disk.read_only v.features.indirect → BackMaySet (back_bus.ask_of v)
back_sets v offers = either BackMaySet (back_bus.says_closing v) (back_ask.SetState state.Closing) (back_bus.ask_at v.stage v) tt (back_sets_at v.stage v offers)

-- where neither the front's negotiation nor its end of the ring has the move, the ring isn't made
granting : (page : ℕ) (r : FrontStage) → IsGranting page r → is_connected r ≡ false
granting page (front_ring.RingFrame k) is = refl
granting page (front_ring.RingFence k) is = refl
granting page (front_ring.RingFlags k) is = refl
granting page r is = absurd is

-- one that ends its grants, or broke as it did, has the move
ending_moves : (page : ℕ) (r : FrontStage) → IsEndingPage page r ⊎ (is_broken r ≡ true) → front.ring_moves (front_ask.EndGrant page) r ≡ true
ending_moves page (front_ring.RingRead k) is = refl
ending_moves page (front_ring.RingEnd k seen) is = refl
ending_moves page (front_ring.Broken word) is = refl
ending_moves page r (inl is) = absurd is
ending_moves page r (inr is) = absurd (true≢false (sym is))

unconnected_at : (b : FrontBusStage) (v : FrontView) (r : FrontStage) → FrontGoesWith b v r → front.speaks (front_bus.ask_at b v) ≡ false → front.ring_moves (front_bus.ask_at b v) r ≡ false → is_connected r ≡ false
unconnected_at front_stage.Rest v r goes quiet still = connected_still r still
unconnected_at front_stage.Closed v r goes quiet still = connected_still r still
unconnected_at (front_stage.Broken word) v r goes quiet still = connected_still r still
unconnected_at (front_stage.RingWord word) v r goes quiet still = ap is_connected goes.2
unconnected_at (front_stage.Grant page) v r goes quiet still = granting page r goes.1
unconnected_at front_stage.NewPort v r goes quiet still = ap is_connected goes.1
unconnected_at (front_stage.EndGrant page) v r goes quiet still = absurd (true≢false (sym (ending_moves page r goes.1) ∙ still))
unconnected_at front_stage.ClosePort v r goes quiet still = absurd (true≢false (sym (ap (front.ring_moves front_ask.ClosePort) goes.1) ∙ still))
unconnected_at front_stage.Start v r goes quiet still = absurd (true≢false quiet)
unconnected_at front_stage.ReadState v r goes quiet still = absurd (true≢false quiet)
unconnected_at (front_stage.ReadFeature key) v r goes quiet still = absurd (true≢false quiet)
unconnected_at (front_stage.Publish key) v r goes quiet still = absurd (true≢false quiet)
unconnected_at (front_stage.ReadFact key) v r goes quiet still = absurd (true≢false quiet)
unconnected_at (front_stage.WriteState own) v r goes quiet still = absurd (true≢false quiet)
unconnected_at b v r goes quiet still = absurd goes

-- one that leaves moves to end its grant
unconnected_leaving : (gone : Bool) (port : Option ℕ) (v : FrontView) (r : FrontStage) → FrontRests state.Closing gone port r → front.speaks (front_bus.ask_at (front_bus.leaving gone port) v) ≡ false
    → front.ring_moves (front_bus.ask_at (front_bus.leaving gone port) v) r ≡ false → is_connected r ≡ false
unconnected_leaving false port v r rests quiet still = connected_still r still
unconnected_leaving true None v r rests quiet still = absurd rests
unconnected_leaving true (Some p) v r rests quiet still = absurd (true≢false (sym (ending_moves 0 r (inl rests)) ∙ still))

unconnected : (v : FrontView) (f : ends.View) → FrontFits v f → front.speaks (front_bus.ask_of v (is_unoccupied f)) ≡ false → front.ring_moves (front_bus.ask_of v (is_unoccupied f)) f.stage ≡ false → is_connected f.stage ≡ false
unconnected v f fits =
    due_cases (λ (d : FrontBusStage). Waits d) v (is_unoccupied f) (unconnected_at v.stage v f.stage fits.goes)
    (λ here closing idle.
    let is = unoccupied f idle in
    closing_cases (λ (d : FrontBusStage). Waits d) v f.stage is.still (whole_rests v f here is.whole fits) (λ first quiet. absurd (true≢false quiet)) (λ own rests. unconnected_leaving v.gone v.port v f.stage rests))
  where
    Waits : FrontBusStage → Type 0
    Waits d = front.speaks (front_bus.ask_at d v) ≡ false → front.ring_moves (front_bus.ask_at d v) f.stage ≡ false → is_connected f.stage ≡ false

unported : (r : FrontStage) (c : ChannelState) → is_connected r ≡ false → IsPorted r c → c.ports ≡ []
unported (front_ring.LeftData n) c unmade ported = ported.1
unported (front_ring.RingWord k) c unmade ported = ported.1
unported (front_ring.RingFrame page) c unmade ported = ported.1
unported (front_ring.RingFence page) c unmade ported = ported.1
unported (front_ring.RingFlags page) c unmade ported = ported.1
unported front_ring.NewPort c unmade ported = ported.1
unported r c unmade ported = absurd (true≢false unmade)

-- so it has no event to take
pub front_unpending : (v : FrontView) (f : ends.View) (c : ChannelState) → FrontFits v f → IsPorted f.stage c → (c.ports ≡ [] → c.front_pending ≡ false)
    → front.speaks (front_bus.ask_of v (is_unoccupied f)) ≡ false → front.ring_moves (front_bus.ask_of v (is_unoccupied f)) f.stage ≡ false → c.front_pending ≡ false
front_unpending v f c fits ported none quiet still = none (unported f.stage c (unconnected v f fits quiet still) ported)

-- an end of the ring that serves has the move where its negotiation waits
serving_moves : (r : BackStage) → is_serving r ≡ true → back.ring_moves back_ask.Wait r ≡ true
serving_moves back_ring.InitWait serves = absurd (true≢false (sym serves))
serving_moves back_ring.MapRing serves = absurd (true≢false (sym serves))
serving_moves back_ring.Bind serves = absurd (true≢false (sym serves))
serving_moves r serves = refl

-- one that has halted moves to unmap what it holds
giving_moves : (r : BackStage) → IsAborting r → back.ring_moves back_ask.UnmapOthers r ≡ true
giving_moves (back_ring.Abort m) gives = refl
giving_moves r gives = absurd gives

unmapping_moves : (r : BackStage) (pages : List Mapping) → IsUnmapping r → back.ring_moves (back_bus.unmap_ask pages) r ≡ true
unmapping_moves back_ring.UnmapRing [] unmaps = refl
unmapping_moves back_ring.UnmapRing (page ∷ pages) unmaps = refl
unmapping_moves back_ring.UnmapUnbound [] unmaps = refl
unmapping_moves back_ring.UnmapUnbound (page ∷ pages) unmaps = refl
unmapping_moves r pages unmaps = absurd unmaps

-- where neither the back's negotiation nor its end of the ring has the move, it waits for the terms of its front
led_at : (b : BackBusStage) (v : BackView) (r : BackStage) → BackGoesWith b v.state r → back.speaks (back_bus.ask_at b v) ≡ false → back.ring_moves (back_bus.ask_at b v) r ≡ false → is_led r ≡ true
led_at back_stage.Rest v r goes quiet still = by_state v.state goes
  where
    by_state : (s : BusState) → BackRests s r → is_led r ≡ true
    by_state state.InitWait rests = ap is_led rests
    by_state state.Connected rests = absurd (true≢false (sym (serving_moves r rests) ∙ still))
    by_state state.Closing rests = absurd (true≢false (sym (serving_moves r rests) ∙ still))
    by_state s rests = absurd rests
led_at back_stage.UnmapOthers v r goes quiet still = absurd (true≢false (sym (giving_moves r goes) ∙ still))
led_at back_stage.UnmapPage v r goes quiet still = absurd (true≢false (sym (unmapping_moves r v.pages goes) ∙ still))
led_at back_stage.ClosePort v r goes quiet still = absurd (true≢false (sym (ap (back.ring_moves back_ask.ClosePort) goes) ∙ still))
led_at back_stage.Halted v r goes quiet still = absurd (true≢false (sym (ap (back.ring_moves back_ask.Wait) goes.1) ∙ still))
led_at back_stage.MapPage v r goes quiet still = absurd (true≢false (sym (ap (back.ring_moves (back_bus.ask_at back_stage.MapPage v)) goes.1) ∙ still))
led_at back_stage.Bind v r goes quiet still = absurd (true≢false (sym (ap (back.ring_moves (back_bus.ask_at back_stage.Bind v)) goes.1) ∙ still))
led_at other v r goes quiet still = absurd (true≢false quiet)

pub led_of : (v : BackView) (r : BackStage) → BackGoesWith v.stage v.state r → back.speaks (back_bus.ask_of v) ≡ false → back.ring_moves (back_bus.ask_of v) r ≡ false → is_led r ≡ true
led_of v r goes = by_test (back_bus.says_closing v)
  where
    by_test : (c : Bool) → let a : BackBusAsk = if c then back_ask.SetState state.Closing else back_bus.ask_at v.stage v in back.speaks a ≡ false → back.ring_moves a r ≡ false → is_led r ≡ true
    by_test true quiet still = absurd (true≢false quiet)
    by_test false quiet still = led_at v.stage v r goes quiet still

led_unpending : (r : BackStage) (c : ChannelState) → is_led r ≡ true → IsUnbound r c → c.back_pending ≡ false
led_unpending back_ring.InitWait c led unbound = unbound.1
led_unpending r c led unbound = absurd (true≢false (sym led))

led_between : (r : BackStage) → is_led r ≡ true → is_between r ≡ true
led_between back_ring.InitWait led = refl
led_between r led = absurd (true≢false (sym led))

-- so it has no event to take, and may turn to its keys
pub back_unpending : (v : BackView) (r : BackStage) (c : ChannelState) → BackGoesWith v.stage v.state r → IsUnbound r c
    → back.speaks (back_bus.ask_of v) ≡ false → back.ring_moves (back_bus.ask_of v) r ≡ false → (c.back_pending ≡ false) × (is_between r ≡ true)
back_unpending v r c goes unbound quiet still = let led = led_of v r goes quiet still in (led_unpending r c led unbound, led_between r led)

-- where it is between two steps it may turn to its keys, early ones as it waits for the terms of its front
pub may_turn : (move : KeyMove) (s : BackStage) → is_between s ≡ true → (is_early move ≡ true → is_led s ≡ true) → may_negotiate s end.Back move ≡ true
may_turn move s between led = rw between (by_early (is_early move) led)
  where
    by_early : (early : Bool) → (early ≡ true → is_led s ≡ true) → (not early || is_led s) ≡ true
    by_early true waits = waits refl
    by_early false waits = refl

-- where its negotiation speaks it may turn to its keys
pub back_turns : (a : BackBusAsk) (r : BackStage) → back.bus_moves a r ≡ true → is_between r ≡ true
back_turns a r moves = (both_true (back.speaks a) (back.is_between r) moves).1
