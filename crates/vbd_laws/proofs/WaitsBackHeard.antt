-- What the back's negotiation does goes with what it read last of the front's state, and with its watch.
use Rattle.std.proofs.Common.{inl, inr, ◌≡◌, ◌∙◌, ap, sym, subst, refl, ℕ, ◌+◌, ◌&&◌, Bool, true, false, true≢false, if◌then◌else◌, List, [], ◌∷◌, length}
use Rattle.std.specs.Prelude.{Option, Some, None, nat_lt}
use Rattle.std.specs.Str.{bytes_eq}
use Rattle.std.proofs.Math.Bool.{and-false}
use Rattle.line_text.proofs.Both.{both_true}
use Rattle.blk_base.specs.declared.parts.Mapping.{Mapping}
use Rattle.blk_base.specs.declared.ask.BackAnswer.{BackAnswer}
use Rattle.blk_base.specs.declared.ask.BackAnswer.TheVariants as answer
use Rattle.blk_back.specs.declared.stage.BackStage.{BackStage}
use Rattle.blk_back.specs.declared.stage.BackStage.TheVariants as ring
use Rattle.blk_base.specs.declared.halt.Halt.{Halt}
use Rattle.xenbus_state.specs.declared.keys.FrontKey.{FrontKey}
use Rattle.xenbus_state.specs.declared.keys.FrontKey.TheVariants as front_key
use Rattle.xenbus_state.specs.declared.state.BusState.{BusState}
use Rattle.xenbus_state.specs.declared.state.BusState.TheVariants as state
use Rattle.xenbus_state.specs.declared.stage.BackBusStage.{BackBusStage}
use Rattle.xenbus_state.specs.declared.stage.BackBusStage.TheVariants as stage
use Rattle.xenbus_state.specs.declared.back.BackBusAsk.TheVariants as bus_ask
use Rattle.xenbus_state.specs.declared.table.BackAction.TheVariants as action
use Rattle.blk_base.specs.declared.parts.End.TheVariants.{Front}
use Rattle.xenbus_state.specs.Keys.{front_name, path_under}
use Rattle.xenbus_state.specs.States.{state_read}
use Rattle.xenbus_state.specs.Programs.{next_feature, next_fact}
use Rattle.xenbus_state.specs.Tables.{is_connected, bad_order, front_gone, back_action}
use Rattle.xenbus_state.specs.BackReading.{key_read}
use Rattle.xenbus_state.specs.BackView.{BackView, is_halting, halted, stopped}
use Rattle.xenbus_state.specs.BackAsk.{says_closing, says_closing_at, ask_at, ask_of, unmap_ask, IsAnswer}
use Rattle.xenbus_state.specs.BackStep.{acted, last_state, kept_or_halted, after_feature, after_fact, unmapping_next, other_pages, step_at, step_of}
use Rattle.vbd_back.specs.Ask as back
use Rattle.vbd_back.specs.View.{rests as is_rest}
use Rattle.vbd_laws.proofs.WaitsBackCases.{BusWaits, bus_waits}
use Rattle.vbd_back.specs.Step.{settled_at, settled, bus_halted, woken, followed}
use Rattle.vbd_model.specs.Fit.{BackGoesWith}
use Rattle.vbd_laws.specs.Waits.{Heard, Unwatched, Watching, Fired, Read, back_hears}
use Rattle.vbd_laws.proofs.FitBackBus.{IsEarly, Reads, reads_key}

-- what it read last is dealt with
abbrev pub IsDealt : BusState → Heard → Type 0
IsDealt own Unwatched = ⊥
IsDealt own Fired = ⊥
IsDealt own Watching = Unit {0}
IsDealt own (Read (Some state.Initialising)) = is_connected own ≡ false
IsDealt own (Read (Some state.Initialised)) = is_connected own ≡ true
IsDealt own (Read (Some state.Connected)) = is_connected own ≡ true
IsDealt own (Read last) = ⊥

-- it connects
abbrev pub Connects : Heard → Type 0
Connects (Read (Some state.Initialised)) = Unit {0}
Connects (Read (Some state.Connected)) = Unit {0}
Connects h = ⊥

abbrev pub HearsAt : BackBusStage → BusState → Heard → Type 0
HearsAt (stage.Publish key) own h = h ≡ Unwatched
HearsAt (stage.WriteState state.InitWait) own h = h ≡ Unwatched
HearsAt stage.Watch own h = h ≡ Unwatched
HearsAt stage.Rest own h = IsDealt own h
HearsAt stage.ReadState own h = h ≡ Fired
HearsAt (stage.ReadKey key) own h = Connects h
HearsAt stage.MapPage own h = Connects h
HearsAt stage.Bind own h = Connects h
HearsAt (stage.PublishFact key) own h = Connects h
HearsAt (stage.WriteState state.Connected) own h = Connects h
HearsAt s own h = Unit {0}

abbrev pub Hears : BackView → Heard → Type 0
Hears v h = HearsAt v.stage v.state h

giving_hears : (pages : List Mapping) (bound : Bool) (own now : BusState) (h : Heard) → HearsAt (unmapping_next pages bound own) now h
giving_hears (page ∷ pages) bound own now h = tt
giving_hears [] true own now h = tt
giving_hears [] false state.Closing now h = tt
giving_hears [] false own now h = tt

-- the front's state was read
gone_hears : (unplugged : Bool) (s : BusState) (v : BackView) (h : Heard) → Hears (acted (front_gone unplugged s) v) h
gone_hears true s v h = tt
gone_hears false s v h = tt

begins : (own : BusState) (connected : Bool) (v : BackView) → is_connected own ≡ connected → v.state ≡ own → Hears (acted (if connected then bad_order state.Initialising else action.Nothing) v) (Read (Some state.Initialising))
begins own true v is here = tt
begins own false v is here = ap is_connected here ∙ is

goes_on : (own : BusState) (connected : Bool) (s : BusState) (v : BackView) → is_connected own ≡ connected → v.state ≡ own → Connects (Read (Some s)) → (is_connected v.state ≡ true → IsDealt v.state (Read (Some s))) → Hears (acted (if connected then action.Nothing else action.Connect) v) (Read (Some s))
goes_on own true s v is here connects dealt = dealt (ap is_connected here ∙ is)
goes_on own false s v is here connects dealt = connects

acted_hears : (v : BackView) (read : Option BusState) → Hears (acted (back_action v.state v.unplugged read) v) (Read read)
acted_hears v (Some state.Initialising) = begins v.state (is_connected v.state) v refl refl
acted_hears v (Some state.Initialised) = goes_on v.state (is_connected v.state) state.Initialised v refl refl tt (λ is. is)
acted_hears v (Some state.Connected) = goes_on v.state (is_connected v.state) state.Connected v refl refl tt (λ is. is)
acted_hears v (Some state.InitWait) = tt
acted_hears v (Some state.Closing) = gone_hears v.unplugged state.Closing v (Read (Some state.Closing))
acted_hears v (Some state.Closed) = gone_hears v.unplugged state.Closed v (Read (Some state.Closed))
acted_hears v (Some state.Unknown) = gone_hears v.unplugged state.Unknown v (Read (Some state.Unknown))
acted_hears v (Some state.Reconfiguring) = tt
acted_hears v (Some state.Reconfigured) = tt
acted_hears v None = tt

-- another key is none of a state
unlike_state : (key : FrontKey) → bytes_eq (path_under Front (front_name key)) back.other_state ≡ false
unlike_state front_key.RingPageOrder = refl
unlike_state other = refl

key_heard : (key : FrontKey) (text : Option (List ℕ)) (h : Heard) → back_hears (back.key_ask (bus_ask.GetKey key)) (answer.Key text) h ≡ h
key_heard key text h = ap (λ (b : Bool). if b then Read (state_read text) else h) (unlike_state key)

-- a key of the front was read
abbrev is_reading : BackBusStage → Bool
is_reading (stage.ReadKey key) = true
is_reading stage.MapPage = true
is_reading s = false

early : (s : BackBusStage) → IsEarly s → is_reading s ≡ true
early (stage.ReadKey front_key.FeaturePersistent) is = absurd is
early (stage.ReadKey k) is = refl
early s is = absurd is

connects_at : (s : BackBusStage) (own : BusState) (h : Heard) → is_reading s ≡ true → Connects h → HearsAt s own h
connects_at (stage.ReadKey key) own h is connects = connects
connects_at stage.MapPage own h is connects = connects
connects_at s own h is connects = absurd (true≢false (sym is))

reads_on : (k : FrontKey) (v u : BackView) → Reads k v u → is_reading u.stage ≡ true
reads_on front_key.Protocol v u r = ap is_reading r.next.0
reads_on front_key.FeaturePersistent v u r = ap is_reading r.next.0
reads_on other v u r = early u.stage r.next

key_hears : (k : FrontKey) (text : Option (List ℕ)) (v : BackView) (h : Heard) → Connects h → Hears (kept_or_halted (key_read k text v) v) h
key_hears k text v h connects = reads_key (λ (o : Option BackView). Hears (kept_or_halted o v) h) k text v (λ u r. connects_at u.stage u.state h (reads_on k v u r) connects) tt

-- an answer to what it asked for at a stage
connected_dealt : (h : Heard) → Connects h → IsDealt state.Connected h
connected_dealt (Read (Some state.Initialised)) is = refl
connected_dealt (Read (Some state.Connected)) is = refl
connected_dealt h is = absurd is

stays : (s : BackBusStage) (v : BackView) (h : Heard) → v.stage ≡ s → HearsAt s v.state h → Hears v h
stays s v h here is = subst (λ (t : BackBusStage). HearsAt t v.state h) (sym here) is

-- its negotiation speaks
says_at : (s : BackBusStage) (v : BackView) (r : BackStage) (h : Heard) (a : BackAnswer) → v.stage ≡ s → BackGoesWith s v.state r → HearsAt s v.state h → back.speaks (ask_at s v) ≡ true → IsAnswer (ask_at s v) a
    → Hears (step_at s v a) (back_hears (back.key_ask (ask_at s v)) a h)
says_at (stage.Publish key) v r h answer.Done here goes is says allowed = elim (next_feature key) as (λ next. HearsAt (after_feature next) v.state h) [ None ↦ is | Some k ↦ is ]
says_at (stage.WriteState state.InitWait) v r h answer.Done here goes is says allowed = is
says_at (stage.WriteState state.Connected) v r h answer.Done here goes is says allowed = connected_dealt h is
says_at (stage.WriteState state.Closing) v r h answer.Done here goes is says allowed = tt
says_at (stage.WriteState state.Closed) v r h answer.Done here goes is says allowed = tt
says_at (stage.WriteState s) v r h answer.Done here goes is says allowed = absurd goes
says_at stage.Watch v r h answer.Done here goes is says allowed = tt
says_at stage.ReadState v r h (answer.Key text) here goes is says allowed = acted_hears v (state_read text)
says_at (stage.ReadKey key) v r h (answer.Key text) here goes is says allowed =
    subst (λ (x : Heard). Hears (kept_or_halted (key_read key text v) v) x) (sym (key_heard key text h)) (key_hears key text v h is)
says_at (stage.PublishFact key) v r h answer.Done here goes is says allowed = elim (next_fact key) as (λ next. HearsAt (after_fact next) v.state h) [ None ↦ is | Some k ↦ is ]
says_at (stage.Publish key) v r h a here goes is says allowed = absurd allowed
says_at (stage.WriteState s) v r h a here goes is says allowed = absurd allowed
says_at stage.Watch v r h a here goes is says allowed = absurd allowed
says_at stage.ReadState v r h a here goes is says allowed = absurd allowed
says_at (stage.ReadKey key) v r h a here goes is says allowed = absurd allowed
says_at (stage.PublishFact key) v r h a here goes is says allowed = absurd allowed
says_at stage.UnmapPage v r h a here goes is says allowed = unmaps v.pages says
  where
    unmaps : {A : Type 0} (pages : List Mapping) → back.speaks (unmap_ask pages) ≡ true → A
    unmaps [] says = absurd (true≢false (sym says))
    unmaps (page ∷ pages) says = absurd (true≢false (sym says))
says_at s v r h a here goes is says allowed = absurd (true≢false (sym says))

-- it says that it closes
closing_hears : (s : BackBusStage) (own : BusState) (h : Heard) → says_closing_at s own ≡ true → HearsAt s own h → HearsAt s state.Closing h
closing_hears stage.Rest state.Connected h says is = dealt h is
  where
    dealt : (h : Heard) → IsDealt state.Connected h → IsDealt state.Closing h
    dealt (Read (Some state.Initialising)) is = absurd (true≢false is)
    dealt (Read (Some state.Initialised)) is = is
    dealt (Read (Some state.Connected)) is = is
    dealt (Read last) is = absurd is
    dealt other is = is
closing_hears stage.ReadState state.Connected h says is = is
closing_hears s own h says is = absurd (true≢false (sym says))

pub told_hears : (v : BackView) (r : BackStage) (h : Heard) (a : BackAnswer) → BackGoesWith v.stage v.state r → Hears v h → back.speaks (ask_of v) ≡ true → IsAnswer (ask_of v) a → Hears (step_of v a) (back_hears (back.key_ask (ask_of v)) a h)
told_hears v r h a goes is = by_test (says_closing v) refl
  where
    by_answer : (x : BackAnswer) → IsAnswer (bus_ask.SetState state.Closing) x → says_closing v ≡ true → HearsAt v.stage state.Closing (back_hears (back.key_ask (bus_ask.SetState state.Closing)) x h)
    by_answer answer.Done allowed says = closing_hears v.stage v.state h (both_true v.unplugged (says_closing_at v.stage v.state) says).1 is
    by_answer x allowed says = absurd allowed

    by_test : (b : Bool) → says_closing v ≡ b → back.speaks (if b then bus_ask.SetState state.Closing else ask_at v.stage v) ≡ true → IsAnswer (if b then bus_ask.SetState state.Closing else ask_at v.stage v) a
        → Hears (if b then record v { state = state.Closing } else step_at v.stage v a) (back_hears (back.key_ask (if b then bus_ask.SetState state.Closing else ask_at v.stage v)) a h)
    by_test true e says allowed = by_answer a allowed e
    by_test false e says allowed = says_at v.stage v r h a refl goes is says allowed

last_hears : (own now : BusState) (h : Heard) → HearsAt (stage.WriteState (last_state own)) now h
last_hears state.Closing now h = tt
last_hears own now h = tt

abbrev moves : BackBusStage → Bool
moves stage.MapPage = true
moves stage.Bind = true
moves stage.UnmapOthers = true
moves stage.UnmapPage = true
moves stage.ClosePort = true
moves s = false

-- a move of its end of the ring was answered, and no watch is taken
moved_at : (s : BackBusStage) (v : BackView) (h : Heard) (a : BackAnswer) → v.stage ≡ s → HearsAt s v.state h → moves s ≡ true → Hears (step_at s v a) h
moved_at stage.MapPage v h (answer.Mapped page) here is m = by_test (nat_lt (length v.pages + 1) (length v.grefs))
  where
    by_test : (b : Bool) → HearsAt (if b then stage.MapPage else stage.Bind) v.state h
    by_test true = is
    by_test false = is
moved_at stage.MapPage v h (answer.MapRefused status) here is m = tt
moved_at stage.MapPage v h a here is m = stays stage.MapPage v h here is
moved_at stage.Bind v h answer.Done here is m = is
moved_at stage.Bind v h answer.BindRefused here is m = tt
moved_at stage.Bind v h a here is m = stays stage.Bind v h here is
moved_at stage.UnmapOthers v h answer.Done here is m = giving_hears v.pages v.bound v.state v.state h
moved_at stage.UnmapOthers v h a here is m = stays stage.UnmapOthers v h here is
moved_at stage.UnmapPage v h answer.Done here is m = giving_hears (other_pages v.pages) v.bound v.state v.state h
moved_at stage.UnmapPage v h a here is m = stays stage.UnmapPage v h here is
moved_at stage.ClosePort v h answer.Done here is m = last_hears v.state v.state h
moved_at stage.ClosePort v h a here is m = stays stage.ClosePort v h here is
moved_at s v h a here is m = absurd (true≢false (sym m))

pub moved_hears : (v : BackView) (h : Heard) (a : BackAnswer) → says_closing v ≡ false → moves v.stage ≡ true → Hears v h → Hears (step_of v a) h
moved_hears v h a quiet m is = subst (λ (b : Bool). Hears (if b then record v { state = state.Closing } else step_at v.stage v a) h) (sym quiet) (moved_at v.stage v h a refl is m)

-- the other mappings are unmapped, or its end of the ring halted
step_gives : (v : BackView) (h : Heard) → v.stage ≡ stage.UnmapOthers → Hears (step_of v answer.Done) h
step_gives v h here = by_test (v.unplugged && says_closing_at v.stage v.state) (ap (λ (s : BackBusStage). v.unplugged && says_closing_at s v.state) here ∙ and-false v.unplugged)
  where
    by_test : (b : Bool) → b ≡ false → Hears (if b then record v { state = state.Closing } else step_at v.stage v answer.Done) h
    by_test true e = absurd (true≢false e)
    by_test false e = subst (λ (s : BackBusStage). Hears (step_at s v answer.Done) h) (sym here) (giving_hears v.pages v.bound v.state v.state h)

pub settled_hears : (r : BackStage) (v : BackView) (h : Heard) → Hears v h → Hears (settled r v) h
settled_hears r v h is = by_stage v.stage refl
  where
    by_ring : (r : BackStage) → v.stage ≡ stage.UnmapOthers → Hears (settled_at stage.UnmapOthers r v) h
    by_ring (ring.Abort m) here = is
    by_ring r here = step_gives v h here

    by_stage : (s : BackBusStage) → v.stage ≡ s → Hears (settled_at s r v) h
    by_stage stage.UnmapOthers here = by_ring r here
    by_stage s here = is

pub caught_hears : (r : BackStage) (why : Option Halt) (v : BackView) (h : Heard) → Hears v h → Hears (settled r (bus_halted why v)) h
caught_hears r None v h is = settled_hears r v h is
caught_hears r (Some why) v h is = settled_hears r (stopped v) h (by_test (is_halting v.stage))
  where
    by_test : (b : Bool) → Hears (if b then v else halted v) h
    by_test true = is
    by_test false = tt

-- what its negotiation learns of a move of the ring's end
pub follows_hears : (v : BackView) (h : Heard) (a : BackAnswer) → Hears v h → back.speaks (ask_of v) ≡ false → is_rest (ask_of v) ≡ false → Hears (followed (ask_of v) v a) h
follows_hears v h a is = by_test (says_closing v) refl
  where
    unmapped : (pages : List Mapping) → v.stage ≡ stage.UnmapPage → says_closing v ≡ false → Hears (followed (unmap_ask pages) v a) h
    unmapped [] here quiet = woken_plain a
      where
        woken_plain : (a : BackAnswer) → Hears (woken v a) h
        woken_plain (answer.Watched path) = moved_hears v h (answer.Watched path) quiet (ap moves here) is
        woken_plain answer.Event = is
        woken_plain a = is
    unmapped (page ∷ pages) here quiet = moved_hears v h answer.Done quiet (ap moves here) is

    by_stage : (s : BackBusStage) → v.stage ≡ s → says_closing v ≡ false → back.speaks (ask_at s v) ≡ false → is_rest (ask_at s v) ≡ false → Hears (followed (ask_at s v) v a) h
    by_stage stage.MapPage here quiet says on = moved_hears v h a quiet (ap moves here) is
    by_stage stage.Bind here quiet says on = moved_hears v h a quiet (ap moves here) is
    by_stage stage.UnmapOthers here quiet says on = is
    by_stage stage.UnmapPage here quiet says on = unmapped v.pages here quiet
    by_stage stage.ClosePort here quiet says on = moved_hears v h a quiet (ap moves here) is
    by_stage stage.Rest here quiet says on = absurd (true≢false on)
    by_stage stage.Halted here quiet says on = absurd (true≢false on)
    by_stage s here quiet says on = absurd (true≢false says)

    by_test : (b : Bool) → says_closing v ≡ b → back.speaks (if b then bus_ask.SetState state.Closing else ask_at v.stage v) ≡ false → is_rest (if b then bus_ask.SetState state.Closing else ask_at v.stage v) ≡ false
        → Hears (followed (if b then bus_ask.SetState state.Closing else ask_at v.stage v) v a) h
    by_test true e says on = absurd (true≢false says)
    by_test false e says on = by_stage v.stage refl e says on

-- while it waits it takes its watch
abbrev pub heard_waiting : BackAnswer → Heard → Heard
heard_waiting (answer.Watched path) h = Fired
heard_waiting a h = h

pub woken_hears : (v : BackView) (h : Heard) (a : BackAnswer) → Hears v h → ask_of v ≡ bus_ask.Wait → Hears (woken v a) (heard_waiting a h)
woken_hears v h (answer.Watched path) is e = by_bus (bus_waits v e)
  where
    told : (s : BackBusStage) → v.stage ≡ s → says_closing v ≡ false → Hears (step_at s v (answer.Watched path)) Fired → Hears (step_of v (answer.Watched path)) Fired
    told s here quiet there =
        subst (λ (b : Bool). Hears (if b then record v { state = state.Closing } else step_at v.stage v (answer.Watched path)) Fired) (sym quiet)
        (subst (λ (t : BackBusStage). Hears (step_at t v (answer.Watched path)) Fired) (sym here) there)

    quiet_at : (s : BackBusStage) → v.stage ≡ s → says_closing_at s v.state ≡ false → says_closing v ≡ false
    quiet_at s here none = ap (λ (t : BackBusStage). v.unplugged && says_closing_at t v.state) here ∙ (ap (λ (b : Bool). v.unplugged && b) none ∙ and-false v.unplugged)

    by_bus : BusWaits v → Hears (step_of v (answer.Watched path)) Fired
    by_bus (inl found) = told stage.Rest found.0 found.1 refl
    by_bus (inr (inl here)) = told stage.Halted here (quiet_at stage.Halted here refl) (stays stage.Halted v Fired here tt)
    by_bus (inr (inr found)) = told stage.UnmapPage found.0 (quiet_at stage.UnmapPage found.0 refl) (stays stage.UnmapPage v Fired found.0 tt)
woken_hears v h answer.Event is e = is
woken_hears v h other is e = is
