-- Where both ends wait they agree.
use Rattle.std.proofs.Common.{◌≡◌, ◌∙◌, ap, sym, subst, ℕ, ◌<◌, ◌≤◌, ◌&&◌, ◌⊎◌, Bool, true, false, true≢false, List, [], ◌∷◌, length, refl, arith, if◌then◌else◌, inl, inr}
use Rattle.std.specs.Prelude.{Option, None, Some}
use Rattle.blk_base.specs.declared.parts.Mapping.{Mapping}
use Rattle.key_directory.specs.Watches.{Watches, has_pending}
use Rattle.xenbus_state.specs.States.{state_number}
use Rattle.xenbus_state.specs.declared.offer.Features.{Features}
use Rattle.xenbus_state.specs.declared.offer.DiskFacts.{DiskFacts}
use Rattle.xenbus_state.specs.declared.state.BusState.{BusState}
use Rattle.xenbus_state.specs.declared.state.BusState.TheVariants as state
use Rattle.xenbus_state.specs.declared.stage.FrontBusStage.{FrontBusStage}
use Rattle.xenbus_state.specs.declared.stage.FrontBusStage.TheVariants as front
use Rattle.xenbus_state.specs.declared.stage.BackBusStage.{BackBusStage}
use Rattle.xenbus_state.specs.declared.stage.BackBusStage.TheVariants as back
use Rattle.xenbus_state.specs.declared.front.FrontBusAsk.{FrontBusAsk}
use Rattle.xenbus_state.specs.declared.front.FrontBusAsk.TheVariants as front_ask
use Rattle.xenbus_state.specs.declared.back.BackBusAsk.{BackBusAsk}
use Rattle.xenbus_state.specs.declared.back.BackBusAsk.TheVariants as back_ask
use Rattle.xenbus_state.specs.FrontView.{FrontView, is_broken}
use Rattle.xenbus_state.specs.FrontAsk as front_asks
use Rattle.xenbus_state.specs.FrontAsk.{due, due_at, leaving, closing_stage}
use Rattle.xenbus_state.specs.FrontSound as front_sound
use Rattle.xenbus_state.specs.BackView.{BackView}
use Rattle.xenbus_state.specs.BackAsk as back_asks
use Rattle.xenbus_state.specs.BackSound.{IsPlaced}
use Rattle.negotiation_laws.specs.Negotiation.{Negotiation, front_state, back_state}
use Rattle.negotiation_laws.specs.Run.{now}
use Rattle.negotiation_laws.specs.Laws.{AreBoth, WaitsForRequests, AgreeAtRest}
use Rattle.negotiation_laws.proofs.Holds.{Holds, back_shows}
use Rattle.negotiation_laws.proofs.Found.{run_holds, unlike}
use Rattle.negotiation_laws.proofs.Unbroken.{never_broken, is_closing}
use Rattle.negotiation_laws.proofs.Subjects.{Sees, Settled, RestHeard, FrontSees, IsReady, SettledBack, BackSees}

-- where an end that waits has no watch to take, what it read last still stands
pub heard : (path : List ℕ) (w : Watches) (A : Type 0) → has_pending w ≡ false → Sees path w A → A
heard path w A none (inl e) = absurd (true≢false (sym (ap has_pending e) ∙ none))
heard path w A none (inr (e, a)) = a

-- what a front that waits is
record FrontIs (own : BusState) (closing gone : Bool) (idle : Bool) (b : BusState) : Type 0 where
  open_settled : closing ≡ false → Settled own b
  closing_open : closing ≡ true → idle ≡ true → (own ≡ state.Closing) × (gone ≡ false) × (b ≡ state.Closed → gone ≡ true)

abbrev pub IsWait : FrontBusAsk → Type 0
IsWait front_ask.Wait = Unit {0}
IsWait a = ⊥

abbrev pub IsBackWait : BackBusAsk → Type 0
IsBackWait back_ask.Wait = Unit {0}
IsBackWait a = ⊥

-- a closing front without unfinished requests waits only for the back to be gone
due_waits : (own : BusState) (v : FrontView) → IsWait (front_asks.ask_at (closing_stage own v) v) → (own ≡ state.Closing) × (v.gone ≡ false)
due_waits state.Closing v h = (refl, by_gone v.gone v.port refl h)
  where
    by_gone : (gone : Bool) (port : Option ℕ) → v.gone ≡ gone → IsWait (front_asks.ask_at (leaving gone port) v) → v.gone ≡ false
    by_gone false port e h = e
    by_gone true (Some port) e h = absurd h
    by_gone true None e h = absurd h
due_waits own v h = absurd h

rest_is : (v : FrontView) (idle : Bool) (b : BusState) → RestHeard v.closing v.state v.gone b → IsWait (front_asks.ask_at (due_at front.Rest v idle) v)
    → FrontIs v.state v.closing v.gone idle b
rest_is v idle b read waits = record {
  open_settled = λ e. subst (λ (c : Bool). RestHeard c v.state v.gone b) e read;
  closing_open = λ e f. (let due = due_waits v.state v (begun e f waits) in (due.0, due.1, subst (λ (c : Bool). RestHeard c v.state v.gone b) e read));
}
  where
    begun : v.closing ≡ true → idle ≡ true → IsWait (front_asks.ask_at (if v.closing && idle then closing_stage v.state v else front.Rest) v)
        → IsWait (front_asks.ask_at (closing_stage v.state v) v)
    begun e f w = subst (λ (c : Bool). IsWait (front_asks.ask_at (if c then closing_stage v.state v else front.Rest) v)) (ap (λ (c : Bool). c && idle) e ∙ f) w

-- both ends at rest
record Waits (idle closing : Bool) (own : BusState) : Type 0 where
  busy : idle ≡ false
  closing_yet : closing ≡ true
  early : state_number own < 5

abbrev Agreed : (idle closing : Bool) (own b : BusState) → Type 0
Agreed idle closing own b =
    ((own ≡ state.Connected) × (b ≡ state.Connected)) ⊎ ((own ≡ state.Closed) × (b ≡ state.Closed)) ⊎ Waits idle closing own

ready_low : (own : BusState) → IsReady own → state_number own < 5
ready_low state.Initialised h = omega arith
ready_low state.Connected h = omega arith
ready_low own h = absurd h

seen_low : (b own : BusState) → SettledBack b own → state_number own < 5
seen_low state.InitWait own h = rw h (omega arith)
seen_low state.Connected own h = ready_low own h
seen_low state.Closing own h = ready_low own h
seen_low b own h = absurd h

both_settled : (own b : BusState) → Settled own b → SettledBack b own → (own ≡ state.Connected) × (b ≡ state.Connected)
both_settled state.Connected state.Connected h k = (refl, refl)
both_settled state.Initialised state.InitWait h k = absurd (unlike state.Initialised state.Initialising state.Initialised k refl (omega arith))
both_settled state.Initialising state.Initialising h k = absurd k
both_settled own b h k = absurd h

late_seen : (b own : BusState) → 5 ≤ state_number own → SettledBack b own → ⊥
late_seen b own late h = let low = seen_low b own h in omega arith

-- the back rests and isn't halted
agree_resting : (closing idle gone : Bool) (own b : BusState) → SettledBack b own → FrontIs own closing gone idle b → Agreed idle closing own b
agree_resting false idle gone own b seen h = inl (both_settled own b (h.open_settled refl) seen)
agree_resting true true gone own b seen h = absurd (late_seen b own (rw (h.closing_open refl refl).0 (omega arith)) seen)
agree_resting true false gone own b seen h = inr (inr (record { busy = refl; closing_yet = refl; early = seen_low b own seen }))

-- the back has halted
halted_settled : (own b : BusState) → own ≡ state.Closing → Settled own b → ⊥
halted_settled own b e h = subst (λ (s : BusState). Settled s b) e h

agree_halted : (closing idle gone : Bool) (own b : BusState) → b ≡ state.Closed → own ≡ state.Closing → idle ≡ true → FrontIs own closing gone idle b → Agreed idle closing own b
agree_halted false idle gone own b e closes served h = absurd (halted_settled own b closes (h.open_settled refl))
agree_halted true idle gone own b e closes served h = let last = h.closing_open refl served in absurd (true≢false (sym (last.2 e) ∙ last.1))

-- what a back that waits is
unmap_waits : (pages : List Mapping) → 0 < length pages → IsBackWait (back_asks.unmap_ask pages) → ⊥
unmap_waits [] some h = omega arith
unmap_waits (page ∷ pages) some h = h

back_is : (s : BackBusStage) (v : BackView) (fs : BusState) (w : Watches) → IsPlaced s v → has_pending w ≡ false → BackSees s v.state fs w
    → IsBackWait (back_asks.ask_at s v) → SettledBack v.state fs ⊎ (v.state ≡ state.Closed)
back_is back.Rest v fs w placed none sees h = inl (heard front_state w (SettledBack v.state fs) none sees)
back_is back.Halted v fs w placed none sees h = inr placed.0
back_is back.UnmapPage v fs w placed none sees h = absurd (unmap_waits v.pages placed.1 h)
back_is back.Watch v fs w placed none sees h = absurd h
back_is s v fs w placed none sees h = absurd h

pub back_is_now : (v : BackView) (fs : BusState) (w : Watches) → IsPlaced v.stage v → has_pending w ≡ false → BackSees v.stage v.state fs w
    → IsBackWait (back_asks.ask_of v) → SettledBack v.state fs ⊎ (v.state ≡ state.Closed)
back_is_now v fs w placed none sees = by_test (back_asks.says_closing v)
  where
    by_test : (says : Bool) → IsBackWait (if says then back_ask.SetState state.Closing else back_asks.ask_at v.stage v) → SettledBack v.state fs ⊎ (v.state ≡ state.Closed)
    by_test true h = absurd h
    by_test false h = back_is v.stage v fs w placed none sees h

module _ (f : Features) (d : DiskFacts) (t : Negotiation) (idle : Bool) where
  rest_agrees : front_sound.IsTimely front.Rest t.front.state → (t.front.state ≡ state.Closing → idle ≡ true) → Holds f d t
      → FrontIs t.front.state t.front.closing t.front.gone idle t.back.state → SettledBack t.back.state t.front.state ⊎ (t.back.state ≡ state.Closed)
      → Agreed idle t.front.closing t.front.state t.back.state
  rest_agrees low served h is (inl seen) = agree_resting t.front.closing idle t.front.gone t.front.state t.back.state seen is
  rest_agrees low served h is (inr gone) =
      let late : 5 ≤ state_number t.front.state = (back_shows f d t h).closed (rw gone (omega arith)) in
      let closes = is_closing t.front.state h.front.own late low in
      agree_halted t.front.closing idle t.front.gone t.front.state t.back.state gone closes (served closes) is

  closed_agrees : t.front.state ≡ state.Closed → SettledBack t.back.state t.front.state ⊎ (t.back.state ≡ state.Closed) → Agreed idle t.front.closing t.front.state t.back.state
  closed_agrees e (inl seen) = absurd (late_seen t.back.state t.front.state (rw e (omega arith)) seen)
  closed_agrees e (inr gone) = inr (inl (e, gone))

  agrees_at : (s : FrontBusStage) → front_sound.IsTimely s t.front.state → is_broken s ≡ false
      → FrontSees s t.front.closing t.front.state t.front.gone t.back.state t.keys.front → has_pending t.keys.front ≡ false
      → IsWait (front_asks.ask_at (due_at s t.front idle) t.front)
      → (t.front.state ≡ state.Closing → idle ≡ true) → Holds f d t → SettledBack t.back.state t.front.state ⊎ (t.back.state ≡ state.Closed)
      → Agreed idle t.front.closing t.front.state t.back.state
  agrees_at front.Rest timely unbroken sees none waits served h other =
      let read = heard back_state t.keys.front (RestHeard t.front.closing t.front.state t.front.gone t.back.state) none sees in
      rest_agrees timely served h (rest_is t.front idle t.back.state read waits) other
  agrees_at front.Closed timely unbroken sees none waits served h other = closed_agrees timely other
  agrees_at (front.Broken word) timely unbroken sees none waits served h other = absurd (true≢false unbroken)
  agrees_at front.Start timely unbroken sees none waits served h other = absurd waits
  agrees_at s timely unbroken sees none waits served h other = absurd waits

-- the same of a negotiation
as_said : (idle : Bool) (t : Negotiation) → Agreed idle t.front.closing t.front.state t.back.state → AreBoth t state.Connected ⊎ AreBoth t state.Closed ⊎ WaitsForRequests idle t
as_said idle t (inl both) = inl both
as_said idle t (inr (inl both)) = inr (inl both)
as_said idle t (inr (inr w)) = inr (inr (record { busy = w.busy; closing = w.closing_yet; early = w.early }))

pub agree_at_rest : AgreeAtRest
agree_at_rest r idle run_served served rest =
    let h = run_holds r in
    let t = now r in
    let front_waits = subst (λ (a : FrontBusAsk). IsWait a) (sym rest.front_waits) tt in
    let back_waits = subst (λ (a : BackBusAsk). IsBackWait a) (sym rest.back_waits) tt in
    let other = back_is_now t.back t.front.state t.keys.back h.back_sound.placed rest.back_taken h.back_sees back_waits in
    as_said idle t (agrees_at r.offer r.facts t idle t.front.stage h.front_sound.timely (never_broken r run_served) h.front_sees rest.front_taken front_waits served h other)
