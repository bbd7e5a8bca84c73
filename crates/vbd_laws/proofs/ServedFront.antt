-- What the front's negotiation says is of the grammar: its port is a number, and its ring has at most 16 pages.
use Rattle.std.proofs.Common.{◌≡◌, refl, ℕ, ◌+◌, ◌^◌, ◌<◌, ◌≤◌, ◌==◌, ◌&&◌, Bool, true, false, List, arith, if◌then◌else◌}
use Rattle.std.specs.Prelude.{Option, Some, None, nat_lt, unwrap_or}
use Rattle.std.proofs.Math.Nat.{pow-le-pow_right}
use Rattle.std.proofs.lemmas.Bool.Decides.{nat_tests}
use Rattle.blk_base.specs.declared.ask.FrontAnswer.{FrontAnswer}
use Rattle.blk_base.specs.declared.ask.FrontAnswer.TheVariants as answer
use Rattle.blk_base.specs.declared.ask.FrontAsk.{FrontAsk}
use Rattle.blk_base.specs.declared.ask.FrontAsk.TheVariants as ask
use Rattle.blk_base.specs.declared.parts.End.TheVariants as end
use Rattle.event_channel.specs.Channels.{ChannelState, is_pending}
use Rattle.hypervisor.specs.Hypervisor.{Hypervisor}
use Rattle.hypervisor.specs.Act.{FrontAct, front_act, front_watched, watch_next, is_own_path}
use Rattle.xenbus_state.specs.declared.keys.FrontKey.{FrontKey}
use Rattle.xenbus_state.specs.declared.keys.FrontKey.TheVariants as key
use Rattle.xenbus_state.specs.declared.keys.BackKey.{BackKey}
use Rattle.xenbus_state.specs.declared.state.BusState.{BusState}
use Rattle.xenbus_state.specs.declared.state.BusState.TheVariants as state
use Rattle.xenbus_state.specs.declared.stage.FrontBusStage.{FrontBusStage}
use Rattle.xenbus_state.specs.declared.stage.FrontBusStage.TheVariants as bus
use Rattle.xenbus_state.specs.declared.table.FrontAction.{FrontAction}
use Rattle.xenbus_state.specs.declared.table.FrontAction.TheVariants as action
use Rattle.xenbus_state.specs.declared.front.FrontBusAsk.{FrontBusAsk}
use Rattle.xenbus_state.specs.declared.front.FrontBusAsk.TheVariants as front_ask
use Rattle.xenbus_state.specs.declared.front.FrontNews.{FrontNews}
use Rattle.xenbus_state.specs.declared.front.FrontNews.TheVariants as news
use Rattle.xenbus_state.specs.States.{state_read}
use Rattle.xenbus_state.specs.Tables.{front_action, on_offer, on_connected, on_closing, on_gone}
use Rattle.xenbus_state.specs.Programs.{next_feature, next_fact, first_published, after_page, next_published}
use Rattle.xenbus_state.specs.Reading.{count_read, fact_read}
use Rattle.xenbus_state.specs.FrontView.{FrontView, ring_order, pages_of, closed, suspended_at, suspended}
use Rattle.xenbus_state.specs.FrontAsk.{due, due_at, ask_at, ask_of}
use Rattle.xenbus_state.specs.FrontStep.{at, acted, feature_step, fact_step, after, after_feature, after_fact, after_published, after_grants, after_state, closing_news, action_news, read_news, written_news, news_at, news_of, step_at, step_of}
use Rattle.split_model.proofs.SafeAnswers.{IsFronts, fronts_at}
use Rattle.machine_pipeline.specs.Allowed.{IsSpelled}
use Rattle.vbd_front.specs.View as view
use Rattle.vbd_front.specs.Ask as front
use Rattle.vbd_front.specs.Step as front_step
use Rattle.vbd_model.specs.World.{World, frontend_of}
use Rattle.vbd_model.specs.Happening.{front_key, front_turn, front_bus_after}
use Rattle.vbd_model.specs.Fit.{IsFit}
use Rattle.negotiation_laws.proofs.Choices.{closed_cases, either, due_cases}
use Rattle.vbd_laws.proofs.FitFront.{asks_cases}
use Rattle.vbd_laws.proofs.FitFrontReads.{step_is}
use Rattle.vbd_laws.proofs.ServedTexts.{number_text, front_state_path, back_state_path, back_path, ring_path, order_path, page_path, port_path, layout_path, persistent_path, layout_text, flag_text, state_text}

-- its port fits, and it publishes at most 16 pages
abbrev pub IsPort : (Fits : ℕ → Type 0) → Option ℕ → Type 0
IsPort Fits None = Unit {0}
IsPort Fits (Some port) = Fits port

abbrev pub IsPlain : FrontBusStage → Type 0
IsPlain (bus.Publish (key.RingRefOf page)) = page < 16
IsPlain s = Unit {0}

pub record SpeaksWith (Fits : ℕ → Type 0) (v : FrontView) : Type 0 where
  pub order : v.order ≤ 4
  pub port : IsPort Fits v.port
  pub stage : IsPlain v.stage

-- a port is a number of 32 bits
abbrev pub IsNumber : ℕ → Type 0
IsNumber port = port < 2 ^ 32

abbrev pub Speaks : FrontView → Type 0
Speaks v = SpeaksWith IsNumber v

due_plain : (s : FrontBusStage) (v : FrontView) (idle : Bool) → IsPlain s → IsPlain (due_at s v idle)
due_plain s v idle p = due_cases IsPlain s v idle p tt tt tt

state_plain : (s : BusState) → IsPlain (after_state s)
state_plain state.Closed = tt
state_plain s = tt

first_plain : (order : ℕ) → IsPlain (bus.Publish (first_published order))
first_plain order = either (λ (k : FrontKey). IsPlain (bus.Publish k)) (order == 0) key.RingRef key.RingPageOrder tt tt

-- a ring has at most 16 pages
page_plain : (order page : ℕ) → order ≤ 4 → IsPlain (bus.Publish (after_page order page))
page_plain order page few = by_test (nat_lt (page + 1) (2 ^ order)) refl
  where
    by_test : (b : Bool) → nat_lt (page + 1) (2 ^ order) ≡ b → IsPlain (bus.Publish (if b then key.RingRefOf (page + 1) else key.EventChannel))
    by_test true e =
        let less : page + 1 < 2 ^ order = grind (arith, nat_tests) in
        let most : 2 ^ order ≤ 2 ^ 4 = pow-le-pow_right (omega arith) few in
        omega arith
    by_test false e = tt

published_plain : (k : FrontKey) (order : ℕ) → order ≤ 4 → IsPlain (after_published (next_published order k))
published_plain key.RingPageOrder order few = omega arith
published_plain (key.RingRefOf page) order few = page_plain order page few
published_plain other order few = tt

few_orders : (v : FrontView) → v.order ≤ 4 → ring_order v ≤ 4
few_orders v o = let least : ring_order v ≤ v.order = omega arith in omega arith

after_plain : (s : FrontBusStage) (v : FrontView) → v.order ≤ 4 → IsPlain s → IsPlain (after s v)
after_plain bus.Start v o p = tt
after_plain (bus.RingWord word) v o p = either IsPlain (word == 15) (bus.Grant 0) (bus.RingWord (word + 1)) tt tt
after_plain (bus.Grant page) v o p = either IsPlain (nat_lt (page + 1) (pages_of v)) (bus.Grant (page + 1)) bus.NewPort tt tt
after_plain (bus.Publish k) v o p = published_plain k (ring_order v) (few_orders v o)
after_plain (bus.EndGrant page) v o p = either IsPlain (nat_lt (page + 1) (pages_of v)) (bus.EndGrant (page + 1)) bus.EndOtherGrants tt tt
after_plain bus.EndOtherGrants v o p = elim v.port as (λ port. IsPlain (after_grants port)) [ None ↦ tt | Some port ↦ tt ]
after_plain s v o p = p

module _ (Fits : ℕ → Type 0) where
  -- a port that it is told fits
  abbrev Tells : FrontAnswer → Type 0
  Tells (answer.Port port) = Fits port
  Tells a = Unit {0}

  acted_speaks : (act : FrontAction) (v : FrontView) → v.order ≤ 4 → IsPort Fits v.port → SpeaksWith Fits (acted act v)
  acted_speaks action.Nothing v o p = record { order = o; port = p; stage = tt }
  acted_speaks other v o p = record { order = o; port = p; stage = tt }

  feature_speaks : (k : BackKey) (n : Option ℕ) (v : FrontView) → v.order ≤ 4 → IsPort Fits v.port → SpeaksWith Fits (feature_step k n v)
  feature_speaks k None v o p = record { order = o; port = p; stage = tt }
  feature_speaks k (Some n) v o p = record { order = o; port = p; stage = elim (next_feature k) as (λ next. IsPlain (after_feature next)) [ None ↦ tt | Some key ↦ tt ] }

  fact_speaks : (k : BackKey) (n : Option ℕ) (v : FrontView) → v.order ≤ 4 → IsPort Fits v.port → SpeaksWith Fits (fact_step k n v)
  fact_speaks k None v o p = record { order = o; port = p; stage = tt }
  fact_speaks k (Some n) v o p = record { order = o; port = p; stage = elim (next_fact k) as (λ next. IsPlain (after_fact next)) [ None ↦ tt | Some key ↦ tt ] }

  step_speaks : (s : FrontBusStage) (v : FrontView) (idle : Bool) (a : FrontAnswer) → Tells a → v.order ≤ 4 → IsPort Fits v.port → IsPlain s → SpeaksWith Fits (step_at s (at s v) idle a)
  step_speaks bus.Rest v idle (answer.Watched path) told o p q = record { order = o; port = p; stage = tt }
  step_speaks bus.ReadState v idle (answer.Key text) told o p q = acted_speaks (front_action v.state v.closing idle (state_read text)) (at bus.ReadState v) o p
  step_speaks (bus.ReadFeature k) v idle (answer.Key text) told o p q = feature_speaks k (count_read text) (at (bus.ReadFeature k) v) o p
  step_speaks bus.NewPort v idle (answer.Port port) told o p q = record { order = o; port = told; stage = first_plain (ring_order v) }
  step_speaks (bus.ReadFact k) v idle (answer.Key text) told o p q = fact_speaks k (fact_read k text) (at (bus.ReadFact k) v) o p
  step_speaks (bus.WriteState s) v idle answer.Done told o p q = record { order = o; port = p; stage = state_plain s }
  step_speaks bus.ClosePort v idle answer.Done told o p q = record { order = o; port = tt; stage = tt }
  step_speaks s v idle answer.Done told o p q = record { order = o; port = p; stage = after_plain s (at s v) o q }
  step_speaks s v idle a told o p q = record { order = o; port = p; stage = q }

  one_speaks : (v : FrontView) (idle : Bool) (a : FrontAnswer) → Tells a → SpeaksWith Fits v → SpeaksWith Fits (step_of v idle a)
  one_speaks v idle a told h = step_speaks (due v idle) v idle a told h.order h.port (due_plain v.stage v idle h.stage)

  settled_speaks : (b : FrontBusAsk) (v : FrontView) (idle : Bool) → SpeaksWith Fits v → SpeaksWith Fits (front_step.settled_at b idle v)
  settled_speaks front_ask.EndOtherGrants v idle h = one_speaks v idle answer.Done tt h
  settled_speaks b v idle h = h

  told_speaks : (v : FrontView) (idle : Bool) (a : FrontAnswer) → Tells a → SpeaksWith Fits v → SpeaksWith Fits (front_step.bus_told idle v a)
  told_speaks v idle a told h = let u : FrontView = step_of v idle a in settled_speaks (ask_of u idle) u idle (one_speaks v idle a told h)

  -- and so one that it asks for
  abbrev pub AsksFor : ℕ → FrontAsk → Type 0
  AsksFor made ask.NewPort = Fits (made + 1)
  AsksFor made a = Unit {0}

  abbrev MayTell : Option FrontAct → Type 0
  MayTell None = Unit {0}
  MayTell (Some a) = Tells a.answer

  watched_tells : (h : Hypervisor) (path : Option (List ℕ)) → MayTell (front_watched h path)
  watched_tells h None = tt
  watched_tells h (Some path) = tt

  act_tells : (h : Hypervisor) (a : FrontAsk) → AsksFor h.channels.made a → MayTell (front_act h a)
  act_tells h ask.Wait fits = either MayTell (is_pending h.channels end.Front) _ (front_watched h (watch_next h end.Front)) tt (watched_tells h (watch_next h end.Front))
  act_tells h ask.NewPort fits = fits
  act_tells h (ask.SetKey path text) fits = either MayTell (is_own_path end.Front path) _ None tt tt
  act_tells h a fits = tt

  -- a move of the front
  pub move_speaks : (w : World) → AsksFor w.rings.under.channels.made (front.ask_of (frontend_of w)) → SpeaksWith Fits w.front → SpeaksWith Fits (front_bus_after w (front_turn w))
  move_speaks w fits h = by_act (front_turn w) (act_tells w.rings.under (front.ask_of (frontend_of w)) fits)
    where
      idle : Bool
      idle = view.is_unoccupied w.rings.front

      by_act : (act : Option FrontAct) → MayTell act → SpeaksWith Fits (front_bus_after w act)
      by_act None tells = h
      by_act (Some a) tells = step_is (SpeaksWith Fits) (frontend_of w) a.answer h (told_speaks w.front idle a.answer tells h) (told_speaks w.front idle answer.Done tt h)

  -- a close of it, and a suspend
  pub closed_speaks : (v : FrontView) → SpeaksWith Fits v → SpeaksWith Fits (closed v)
  closed_speaks v h = closed_cases (SpeaksWith Fits) v h (record { order = h.order; port = h.port; stage = h.stage })

  pub suspended_speaks : (v : FrontView) → SpeaksWith Fits v → SpeaksWith Fits (suspended v)
  suspended_speaks v h = by_stage v.stage
    where
      by_stage : (s : FrontBusStage) → SpeaksWith Fits (suspended_at s v)
      by_stage bus.Closed = h
      by_stage (bus.Broken word) = h
      by_stage s = record { order = h.order; port = tt; stage = tt }

-- a port is asked for only where there is a number for one more
fronts_number : (c : ChannelState) (a : FrontAsk) → IsFronts c a → AsksFor IsNumber c.made a
fronts_number c ask.NewPort is = let few = is.0 in omega arith
fronts_number c a is = tt

key_asks : (Fits : ℕ → Type 0) (made : ℕ) (b : FrontBusAsk) → AsksFor Fits made (front.key_ask b)
key_asks Fits made front_ask.Watch = tt
key_asks Fits made b = tt

-- so is what fits wherever its end of the ring asks for one
pub asks_port : (Fits : ℕ → Type 0) (w : World) → IsFit w → ((a : FrontAsk) → IsFronts w.rings.under.channels a → AsksFor Fits w.rings.under.channels.made a)
    → AsksFor Fits w.rings.under.channels.made (front.ask_of (frontend_of w))
asks_port Fits w fit each = by_test (front.speaks b)
  where
    b : FrontBusAsk
    b = front.bus_ask_of (frontend_of w)

    by_ring : (moves : Bool) → AsksFor Fits w.rings.under.channels.made (front.ring_ask moves (frontend_of w))
    by_ring true = each _ (fronts_at w.rings.under.channels w.rings.front.stage w.rings.front fit.safe.ported)
    by_ring false = tt

    by_test : (speaks : Bool) → AsksFor Fits w.rings.under.channels.made (if speaks then front.key_ask b else front.ring_ask (front.ring_moves b w.rings.front.stage) (frontend_of w))
    by_test true = key_asks Fits w.rings.under.channels.made b
    by_test false = by_ring (front.ring_moves b w.rings.front.stage)

pub front_speaks : (w : World) → IsFit w → Speaks w.front → Speaks (front_bus_after w (front_turn w))
front_speaks w fit h = move_speaks IsNumber w (asks_port IsNumber w fit (fronts_number w.rings.under.channels)) h

-- what it does with the keys
small_port : (port : Option ℕ) → IsPort IsNumber port → unwrap_or port 0 < 2 ^ 64
small_port None fits = omega arith
small_port (Some p) fits = omega arith

at_spelled : (s : FrontBusStage) (v : FrontView) → v.order ≤ 4 → IsPort IsNumber v.port → IsPlain s → IsSpelled (front_key (ask_at s v))
at_spelled bus.Start v o p q = back_state_path
at_spelled bus.ReadState v o p q = back_state_path
at_spelled (bus.ReadFeature k) v o p q = back_path k
at_spelled (bus.ReadFact k) v o p q = back_path k
at_spelled (bus.Publish key.RingPageOrder) v o p q = (order_path, number_text (ring_order v) (let few = few_orders v o in omega arith))
at_spelled (bus.Publish (key.RingRefOf page)) v o p q = (page_path page q, number_text (8 + page) (omega arith))
at_spelled (bus.Publish key.RingRef) v o p q = (ring_path, number_text 8 (omega arith))
at_spelled (bus.Publish key.EventChannel) v o p q = (port_path, number_text (unwrap_or v.port 0) (small_port v.port p))
at_spelled (bus.Publish key.Protocol) v o p q = (layout_path, layout_text v.abi)
at_spelled (bus.Publish key.FeaturePersistent) v o p q = (persistent_path, flag_text v.persistent)
at_spelled (bus.WriteState s) v o p q = (front_state_path, state_text s)
at_spelled s v o p q = tt

pub front_spelled : (w : World) → Speaks w.front → IsSpelled (front_key (front.bus_ask_of (frontend_of w)))
front_spelled w h =
    let idle : Bool = view.is_unoccupied w.rings.front in
    asks_cases (λ (b : FrontBusAsk). IsSpelled (front_key b)) w (λ left. tt) (λ none. at_spelled (due w.front idle) w.front h.order h.port (due_plain w.front.stage w.front idle h.stage))

-- it is connected and closed as it writes so, and a word that breaks it is one of 0, 6 and 9
abbrev pub IsNewsAt : FrontBusStage → Option FrontNews → Type 0
IsNewsAt s (Some news.Ready) = s ≡ bus.WriteState state.Connected
IsNewsAt s (Some news.Closed) = s ≡ bus.WriteState state.Closed
IsNewsAt s (Some (news.Broken word)) = word < 2 ^ 32
IsNewsAt s n = Unit {0}

abbrev IsWordAction : FrontAction → Type 0
IsWordAction (action.Break word) = word < 2 ^ 32
IsWordAction act = Unit {0}

offer_word : (own : BusState) → IsWordAction (on_offer own)
offer_word state.Initialising = tt
offer_word own = tt

connected_word : (own : BusState) → IsWordAction (on_connected own)
connected_word state.Initialised = tt
connected_word own = tt

closing_word : (own : BusState) (idle : Bool) → IsWordAction (on_closing own idle)
closing_word state.Initialised false = tt
closing_word own idle = tt

gone_word : (idle : Bool) (word : ℕ) → word < 2 ^ 32 → IsWordAction (on_gone idle word)
gone_word true word few = tt
gone_word false word few = few

action_word : (own : BusState) (closing idle : Bool) (read : Option BusState) → IsWordAction (front_action own closing idle read)
action_word own closing idle None = omega arith
action_word own closing idle (Some state.InitWait) = either IsWordAction (closing && idle) action.Nothing (on_offer own) tt (offer_word own)
action_word own closing idle (Some state.Connected) = either IsWordAction (closing && idle) action.Nothing (on_connected own) tt (connected_word own)
action_word own closing idle (Some state.Closing) = closing_word own idle
action_word own closing idle (Some state.Closed) = gone_word idle 6 (omega arith)
action_word own closing idle (Some state.Unknown) = gone_word idle 0 (omega arith)
action_word own closing idle (Some other) = tt

begun_is : (s : FrontBusStage) (closing : Bool) → IsNewsAt s (closing_news closing)
begun_is s true = tt
begun_is s false = tt

acted_is : (s : FrontBusStage) (act : FrontAction) (closing : Bool) → IsWordAction act → IsNewsAt s (action_news act closing)
acted_is s (action.Break word) closing few = few
acted_is s action.Close closing few = begun_is s closing
acted_is s action.CloseAndConnect closing few = begun_is s closing
acted_is s action.Leave closing few = begun_is s closing
acted_is s act closing few = tt

read_is : (s : FrontBusStage) (n : Option ℕ) → IsNewsAt s (read_news n)
read_is s None = omega arith
read_is s (Some n) = tt

written_is : (s : BusState) → IsNewsAt (bus.WriteState s) (written_news s)
written_is state.Connected = refl
written_is state.Closed = refl
written_is s = tt

news_at_is : (s : FrontBusStage) (v : FrontView) (idle : Bool) (a : FrontAnswer) → IsNewsAt s (news_at s v idle a)
news_at_is bus.ReadState v idle (answer.Key text) = acted_is bus.ReadState (front_action v.state v.closing idle (state_read text)) v.closing (action_word v.state v.closing idle (state_read text))
news_at_is (bus.ReadFeature k) v idle (answer.Key text) = read_is (bus.ReadFeature k) (count_read text)
news_at_is (bus.ReadFact k) v idle (answer.Key text) = read_is (bus.ReadFact k) (fact_read k text)
news_at_is (bus.WriteState s) v idle answer.Done = written_is s
news_at_is s v idle a = tt

pub news_is : (v : FrontView) (idle : Bool) (a : FrontAnswer) → IsNewsAt (due v idle) (news_of v idle a)
news_is v idle a = news_at_is (due v idle) (at (due v idle) v) idle a
