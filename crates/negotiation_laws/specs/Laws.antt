-- What is true of every run of a negotiation.
use Rattle.std.specs.Prelude.{ℕ, ◌+◌, ◌≡◌, ◌≢◌, ◌⊎◌, ◌<◌, ◌≤◌, Bool, true, false, List, [], ◌∷◌, map, length, Some, None}
use Rattle.key_directory.specs.Directory.{key_of}
use Rattle.key_directory.specs.Watches.{has_pending}
use Rattle.xenbus_state.specs.States.{state_number}
use Rattle.xenbus_state.specs.Values.{ring_gref}
use Rattle.xenbus_state.specs.Orders.{numbers_from}
use Rattle.xenbus_state.specs.declared.keys.FrontKey.{FrontKey}
use Rattle.xenbus_state.specs.declared.keys.BackKey.{BackKey}
use Rattle.blk_base.specs.declared.parts.Mapping.{Mapping}
use Rattle.xenbus_state.specs.declared.state.BusState.{BusState}
use Rattle.xenbus_state.specs.declared.state.BusState.TheVariants as state
use Rattle.xenbus_state.specs.declared.table.BackHalt.{BackHalt}
use Rattle.xenbus_state.specs.declared.table.BackHalt.TheVariants as halt
use Rattle.xenbus_state.specs.declared.front.FrontNews.TheVariants as news
use Rattle.xenbus_state.specs.FrontStep.{news_of}
use Rattle.xenbus_state.specs.BackStep.{halt_of}
use Rattle.xenbus_state.specs.declared.front.FrontBusAsk.TheVariants as front_ask
use Rattle.xenbus_state.specs.declared.back.BackBusAsk.TheVariants as back_ask
use Rattle.xenbus_state.specs.Tables.{is_connected}
use Rattle.blk_base.specs.Options.{Options}
use Rattle.xenbus_state.specs.declared.stage.FrontBusStage.TheVariants as front_stage
use Rattle.xenbus_state.specs.FrontView.{FrontView, pages_of, terms_of, is_broken, suspended, start_of as first_of}
use Rattle.xenbus_state.specs.FrontAsk as front
use Rattle.xenbus_state.specs.BackAsk as back
use Rattle.xenbus_state.specs.BackSound.{IsMapped, HoldsNothing}
use Rattle.xenbus_state.specs.BackView.{BackView}
use Rattle.xenbus_state.specs.declared.stage.BackBusStage.TheVariants as back_stage
use Rattle.xenbus_state.specs.declared.front.FrontBusAsk.{FrontBusAsk}
use Rattle.negotiation_laws.specs.Negotiation.{Negotiation, new_epoch, front_state, back_state, state_text, front_answered, back_answered}
use Rattle.std.specs.List.{list_any}
use Rattle.negotiation_laws.specs.Happening.{Happening, FrontMoves, BackMoves, FrontCloses, BackCloses, happened, after}
use Rattle.negotiation_laws.specs.Left.{left, one_if, goes, moves_in}
use Rattle.negotiation_laws.specs.Within.{HasPort, HavePorts}
use Rattle.negotiation_laws.specs.Said.{front_texts, back_texts, BackSays, AreTermsSaid, AreFeaturesSaid, AreFactsSaid, IsToldBy}
use Rattle.negotiation_laws.specs.Granted.{granted}
use Rattle.negotiation_laws.specs.Heard.{front_listens, back_listens, front_heard, back_heard}
use Rattle.negotiation_laws.specs.Run.{NegotiationRun, now, begins, IsServedRun}

-- the directory has both ends' states
pub record AreStatesSaid (n : Negotiation) : Type 0 where
  pub front : key_of n.keys.keys front_state ≡ Some (state_text n.front.state)
  pub back : key_of n.keys.keys back_state ≡ Some (state_text n.back.state)

-- from its state Initialised on the front's terms are said, with the port that it made
abbrev pub TermsAreSaid : Type 0
TermsAreSaid =
    (r : NegotiationRun) (later : List Happening) → HavePorts later → (now r).front.state ≡ state.Initialised
    → AreTermsSaid (front_texts (after later (now r)).keys.keys) (terms_of (now r).front)

-- from its state InitWait on the back's features are said
abbrev pub FeaturesAreSaid : Type 0
FeaturesAreSaid = (r : NegotiationRun) → 2 ≤ state_number (now r).back.state → AreFeaturesSaid (back_texts (now r).keys.keys) r.offer r.facts

-- from its state Connected on it is said what its disk is
abbrev pub FactsAreSaid : Type 0
FactsAreSaid =
    (r : NegotiationRun) (later : List Happening) → HavePorts later → (now r).back.state ≡ state.Connected
    → AreFactsSaid (back_texts (after later (now r)).keys.keys) r.offer r.facts

-- the references of so many pages
abbrev pub grefs_of : ℕ → List ℕ
grefs_of count = map ring_gref (numbers_from 0 count)

-- at each read of a key the back finds what the front has to say, and the front what the back has
abbrev pub BackReadsTheFront : Type 0
BackReadsTheFront =
    (r : NegotiationRun) (k : FrontKey) → back.ask_of (now r).back ≡ back_ask.GetKey k
    → IsToldBy (front_texts (now r).keys.keys) (terms_of (now r).front) k

-- and the front what the back has
abbrev pub FrontReadsTheBack : Type 0
FrontReadsTheBack =
    (r : NegotiationRun) (idle : Bool) (k : BackKey) → front.ask_of (now r).front idle ≡ front_ask.GetKey k
    → BackSays (back_texts (now r).keys.keys) r.offer r.facts k

-- from its mapping on the back goes by the front's terms
abbrev pub MapsByTheTerms : Type 0
MapsByTheTerms =
    (r : NegotiationRun) (gref : ℕ) → back.ask_of (now r).back ≡ back_ask.Map gref
    → ((now r).back.terms ≡ terms_of (now r).front) × ((now r).back.grefs ≡ grefs_of (pages_of (now r).front))

-- and so it does from its state Connected on, whatever happens later
abbrev pub GoesByTheTerms : Type 0
GoesByTheTerms =
    (r : NegotiationRun) (later : List Happening) → HavePorts later → (now r).back.state ≡ state.Connected
    → let u = after later (now r) in (u.back.terms ≡ terms_of (now r).front) × (u.back.grefs ≡ grefs_of (pages_of (now r).front))

-- from its state Initialised on the front has the back's features, from its state Connected on what its disk is
abbrev pub GoesByTheOffer : Type 0
GoesByTheOffer =
    (r : NegotiationRun) (later : List Happening) → HavePorts later → (now r).front.state ≡ state.Initialised
    → (after later (now r)).front.features ≡ r.offer

-- from its state Connected on it has what the disk is too
abbrev pub GoesByTheDisk : Type 0
GoesByTheDisk =
    (r : NegotiationRun) (later : List Happening) → HavePorts later → (now r).front.state ≡ state.Connected
    → let u = after later (now r) in (u.front.features ≡ r.offer) × (u.front.disk ≡ r.facts)

-- what the back offers and what its disk is never change
abbrev pub KeepsTheOffer : Type 0
KeepsTheOffer = (r : NegotiationRun) → ((now r).back.features ≡ r.offer) × ((now r).back.disk ≡ r.facts)

-- the front writes Connected only to a back that has mapped all pages and bound the port, and has written Connected
abbrev pub ConnectsToAConnectedBack : Type 0
ConnectsToAConnectedBack =
    (r : NegotiationRun) (idle : Bool) → front.ask_of (now r).front idle ≡ front_ask.SetState state.Connected
    → (is_connected (now r).back.state ≡ true) × IsMapped (now r).back × ((now r).back.bound ≡ true)

-- a front that has written Connected has a back that has written Connected, or a later state
abbrev pub IsConnectedAfter : Type 0
IsConnectedAfter = (r : NegotiationRun) → (now r).front.state ≡ state.Connected → 4 ≤ state_number (now r).back.state

-- the back writes Connected only after the front has written Initialised
abbrev pub BackConnectsAfter : Type 0
BackConnectsAfter = (r : NegotiationRun) → (now r).back.state ≡ state.Connected → 3 ≤ state_number (now r).front.state

-- the halt of a back whose front is gone: where it was asked to close it says that it is unplugged
abbrev pub gone_halt : Bool → BusState → BackHalt
gone_halt true s = halt.Unplugged s
gone_halt false s = halt.Gone s

-- the back halts only as the front has written Closing, and for that reason
abbrev pub BackHaltsAsTheFrontIsGone : Type 0
BackHaltsAsTheFrontIsGone =
    (r : NegotiationRun) (page : Mapping) (reason : BackHalt) → let n = now r in
    halt_of n.back (back_answered (back.ask_of n.back) page n.keys) ≡ Some reason
    → (n.front.state ≡ state.Closing) × (reason ≡ gone_halt n.back.unplugged state.Closing)

-- the front is broken only by a closed back, after it has written Closing itself, while it has unfinished requests
abbrev pub FrontBreaksOnlyUnserved : Type 0
FrontBreaksOnlyUnserved =
    (r : NegotiationRun) (idle : Bool) (port : ℕ) (word : ℕ) → let n = now r in
    news_of n.front idle (front_answered (front.ask_of n.front idle) port n.keys) ≡ Some (news.Broken word)
    → (word ≡ 6) × (idle ≡ false) × (n.front.state ≡ state.Closing) × (n.back.state ≡ state.Closed)

-- so never where it has none then
abbrev pub FrontIsUnbroken : Type 0
FrontIsUnbroken = (r : NegotiationRun) → IsServedRun r → is_broken (now r).front.stage ≡ false

-- both ends wait, and no watch is pending
pub record IsAtRest (idle : Bool) (n : Negotiation) : Type 0 where
  pub front_waits : front.ask_of n.front idle ≡ front_ask.Wait
  pub back_waits : back.ask_of n.back ≡ back_ask.Wait
  pub front_taken : has_pending n.keys.front ≡ false
  pub back_taken : has_pending n.keys.back ≡ false

-- both ends have written this state last
abbrev pub AreBoth : Negotiation → BusState → Type 0
AreBoth n s = (n.front.state ≡ s) × (n.back.state ≡ s)

-- a closing front that hasn't written Closing yet has unfinished requests
pub record WaitsForRequests (idle : Bool) (n : Negotiation) : Type 0 where
  pub busy : idle ≡ false
  pub closing : n.front.closing ≡ true
  pub early : state_number n.front.state < 5

-- At rest both ends are connected, or both are closed; or a closing front waits for its requests.
abbrev pub AgreeAtRest : Type 0
AgreeAtRest =
    (r : NegotiationRun) (idle : Bool) → IsServedRun r → let n = now r in
    (n.front.state ≡ state.Closing → idle ≡ true) → IsAtRest idle n
    → AreBoth n state.Connected ⊎ AreBoth n state.Closed ⊎ WaitsForRequests idle n

-- without a close neither end begins to close, where the front wasn't closing before this epoch
abbrev pub closes : Happening → Bool
closes FrontCloses = true
closes BackCloses = true
closes h = false

-- neither end has begun to close
pub record IsOpen (n : Negotiation) : Type 0 where
  pub front : n.front.closing ≡ false
  pub back : n.back.unplugged ≡ false
  pub front_state : state_number n.front.state ≤ 4
  pub back_state : state_number n.back.state ≤ 4

-- so it is where the front was not closing before this epoch, and nobody was asked to close
abbrev pub OnlyACloseCloses : Type 0
OnlyACloseCloses = (r : NegotiationRun) → r.front.closing ≡ false → list_any closes r.happenings ≡ false → IsOpen (now r)

-- the pages of the ring that the front has granted
abbrev pub granted_now : NegotiationRun → List ℕ
granted_now r = granted r.happenings (begins r) []

-- The back maps the pages of the ring in order, by the front's references, and only after the front has written Initialised, granted all of them
-- and made the port that the back then binds.
pub record MapsGranted (r : NegotiationRun) (gref : ℕ) : Type 0 where
  pub after : 3 ≤ state_number (now r).front.state
  pub granted : granted_now r ≡ numbers_from 0 (pages_of (now r).front)
  pub port : (now r).front.port ≡ Some (now r).back.terms.port
  pub next : gref ≡ ring_gref (length (now r).back.pages)
  pub page : length (now r).back.pages < pages_of (now r).front

-- so it is at each map
abbrev pub BackMapsAfterTheGrants : Type 0
BackMapsAfterTheGrants = (r : NegotiationRun) (gref : ℕ) → back.ask_of (now r).back ≡ back_ask.Map gref → MapsGranted r gref

-- and they stay granted as long as the back isn't closed
abbrev pub ConnectedStaysGranted : Type 0
ConnectedStaysGranted =
    (r : NegotiationRun) → (now r).back.state ≡ state.Connected → granted_now r ≡ numbers_from 0 (pages_of (now r).front)

-- Where an end listens, its watch is pending, or what it read last of the other's state is what the other wrote last.
abbrev pub NoFrontWatchIsLost : Type 0
NoFrontWatchIsLost =
    (r : NegotiationRun) → front_listens (now r).front.stage ≡ true
    → (has_pending (now r).keys.front ≡ true) ⊎ (front_heard r.happenings (begins r) None ≡ Some (now r).back.state)

-- so it is with the back
abbrev pub NoBackWatchIsLost : Type 0
NoBackWatchIsLost =
    (r : NegotiationRun) → back_listens (now r).back.stage ≡ true
    → (has_pending (now r).keys.back ≡ true) ⊎ (back_heard r.happenings (begins r) None ≡ Some (now r).front.state)

-- the first epoch begins so, and so does each after a suspend of a front that is neither closed nor broken
pub record EpochsBegin : Type 0 where
  pub first : (config : Options) → new_epoch (first_of config) ≡ first_of config
  pub later : (v : FrontView) → v.stage ≢ front_stage.Closed → is_broken v.stage ≡ false → suspended v ≡ new_epoch v

-- While the back has a page of the ring mapped the front has granted all of them, and while it has bound a port that is the front's.
pub record OutlastsTheBack (r : NegotiationRun) : Type 0 where
  pub mapped : 0 < length (now r).back.pages → granted_now r ≡ numbers_from 0 (pages_of (now r).front)
  pub bound : (now r).back.bound ≡ true → (now r).front.port ≡ Some (now r).back.terms.port

-- so it is at every moment
abbrev pub TheRingOutlastsTheBack : Type 0
TheRingOutlastsTheBack = (r : NegotiationRun) → OutlastsTheBack r

-- what a front does that leaves: it ends its grants, closes its port, and writes Closed
abbrev pub IsLeaving : FrontBusAsk → Type 0
IsLeaving (front_ask.EndGrant page) = Unit {0}
IsLeaving front_ask.EndOtherGrants = Unit {0}
IsLeaving front_ask.ClosePort = Unit {0}
IsLeaving (front_ask.SetState state.Closed) = Unit {0}
IsLeaving a = ⊥

-- it does so only once the back has halted, unmapped all pages, closed its port, and written Closed
pub record IsHalted (v : BackView) : Type 0 where
  pub stage : v.stage ≡ back_stage.Halted
  pub closed : v.state ≡ state.Closed
  pub aborted : HoldsNothing v

-- so it is at each such ask
abbrev pub LeavesAfterTheBack : Type 0
LeavesAfterTheBack = (r : NegotiationRun) (idle : Bool) → IsLeaving (front.ask_of (now r).front idle) → IsHalted (now r).back

-- each move lowers what is left to do, but one that waits in vain, and nothing raises it
abbrev pub MovesLower : Type 0
MovesLower = (r : NegotiationRun) (h : Happening) → HasPort h → one_if (goes h (now r)) + left (happened h (now r)) ≤ left (now r)

-- so in an epoch there are at most 483 moves that don't wait in vain
abbrev pub SettlingIsBounded : Type 0
SettlingIsBounded = (r : NegotiationRun) → moves_in r.happenings (begins r) ≤ 483

-- where neither end has such a move they are at rest
abbrev pub RestsWhereNothingGoes : Type 0
RestsWhereNothingGoes =
    (n : Negotiation) (idle : Bool) (port : ℕ) (page : Mapping)
    → goes (FrontMoves idle port) n ≡ false → goes (BackMoves page) n ≡ false → IsAtRest idle n

-- where nobody was asked to close, both ends are connected at rest
abbrev pub ConnectedAtRest : Type 0
ConnectedAtRest =
    (r : NegotiationRun) (idle : Bool) → r.front.closing ≡ false → list_any closes r.happenings ≡ false
    → IsAtRest idle (now r) → AreBoth (now r) state.Connected

-- each move of the front finds it with unfinished requests
abbrev pub IsBusy : Happening → Type 0
IsBusy (FrontMoves idle port) = idle ≡ false
IsBusy h = Unit {0}

abbrev pub AreBusy : List Happening → Type 0
AreBusy [] = Unit {0}
AreBusy (h ∷ happenings) = IsBusy h × AreBusy happenings

-- then at rest it has written Connected, or a later state
abbrev pub BusyFrontsConnect : Type 0
BusyFrontsConnect = (r : NegotiationRun) → AreBusy r.happenings → IsAtRest false (now r) → 4 ≤ state_number (now r).front.state
