-- Without a close neither end begins to close.
use Rattle.std.proofs.Common.{◌⊎◌, inl, inr, ◌≡◌, ◌∙◌, ap, sym, subst, ℕ, ◌^◌, ◌<◌, ◌≤◌, ◌==◌, ◌&&◌, ◌||◌, Bool, true, false, true≢false, List, [], ◌∷◌, length, refl, arith, if◌then◌else◌}
use Rattle.std.specs.Prelude.{Option, None, Some}
use Rattle.std.specs.List.{list_any}
use Rattle.std.specs.Option.{option_map}
use Rattle.blk_base.specs.declared.parts.Mapping.{Mapping}
use Rattle.key_directory.specs.Directory.{Directory, key_of}
use Rattle.key_directory.specs.Watches.{next_watch}
use Rattle.xenbus_state.specs.States.{state_number, state_read}
use Rattle.xenbus_state.specs.Numbers.{number_of}
use Rattle.xenbus_state.specs.Tables.{front_action, back_action}
use Rattle.xenbus_state.specs.Reading.{count_read, fact_read}
use Rattle.xenbus_state.specs.Programs.{after_page}
use Rattle.xenbus_state.specs.declared.keys.BackKey.{BackKey}
use Rattle.xenbus_state.specs.declared.keys.FrontKey.{FrontKey}
use Rattle.xenbus_state.specs.declared.keys.FrontKey.TheVariants as front_key
use Rattle.xenbus_state.specs.declared.offer.Features.{Features}
use Rattle.xenbus_state.specs.declared.offer.DiskFacts.{DiskFacts}
use Rattle.xenbus_state.specs.declared.state.BusState.{BusState}
use Rattle.xenbus_state.specs.declared.state.BusState.TheVariants as state
use Rattle.xenbus_state.specs.declared.stage.FrontBusStage.{FrontBusStage}
use Rattle.xenbus_state.specs.declared.stage.FrontBusStage.TheVariants as front
use Rattle.xenbus_state.specs.declared.stage.BackBusStage.{BackBusStage}
use Rattle.xenbus_state.specs.declared.stage.BackBusStage.TheVariants as back
use Rattle.xenbus_state.specs.declared.table.FrontAction.{FrontAction}
use Rattle.xenbus_state.specs.declared.table.FrontAction.TheVariants as front_act
use Rattle.xenbus_state.specs.declared.table.BackAction.{BackAction}
use Rattle.xenbus_state.specs.declared.table.BackAction.TheVariants as back_act
use Rattle.xenbus_state.specs.declared.back.BackBusAsk.{BackBusAsk}
use Rattle.xenbus_state.specs.FrontView.{FrontView}
use Rattle.xenbus_state.specs.FrontAsk as front_asks
use Rattle.xenbus_state.specs.FrontAsk.{due}
use Rattle.xenbus_state.specs.FrontStep as front_step
use Rattle.xenbus_state.specs.BackView.{BackView, is_halting}
use Rattle.xenbus_state.specs.BackAsk as back_asks
use Rattle.xenbus_state.specs.BackReading as reading
use Rattle.xenbus_state.specs.BackReading.{order_of, layout_read, with_order, with_gref, with_port, with_layout, with_persistent}
use Rattle.xenbus_state.specs.BackStep as back_step
use Rattle.xenbus_state.specs.BackSound.{IsPlaced}
use Rattle.negotiation_laws.specs.Negotiation.{Negotiation, front_path, back_path, front_state, back_state, front_answered, back_answered, back_woken, front_woken, back_done, front_moved, back_moved}
use Rattle.negotiation_laws.specs.Happening.{Happening, FrontMoves, BackMoves, happened, after, IsServed, AreServed}
use Rattle.negotiation_laws.specs.Within.{HasPort, HavePorts}
use Rattle.negotiation_laws.specs.Run.{now, begins}
use Rattle.negotiation_laws.specs.Laws.{IsOpen, OnlyACloseCloses, closes, AreBoth, WaitsForRequests, ConnectedAtRest}
use Rattle.negotiation_laws.proofs.Choices.{back_move_cases}
use Rattle.negotiation_laws.proofs.Resting.{agree_at_rest}
use Rattle.negotiation_laws.proofs.Shown.{state_shown}
use Rattle.negotiation_laws.proofs.FrontActs as front_acts
use Rattle.negotiation_laws.proofs.Between.{back_own}
use Rattle.negotiation_laws.proofs.BackSights.{back_state_at}
use Rattle.negotiation_laws.proofs.Holds.{Holds, start_holds, happening_holds, front_move_holds, front_acts_now}

-- the front begins to close only on reading that the back does
acted_open : (act : FrontAction) (v : FrontView) (idle : Bool) (b : BusState) → state_number b ≤ 4 → front_acts.ActsFor act v.state v.closing v.gone idle b
    → (front_step.acted act (front_step.at front.ReadState v)).closing ≡ v.closing
acted_open front_act.Close v idle b low acts = absurd (let same : state_number b ≡ 5 = ap state_number acts in omega arith)
acted_open front_act.CloseAndConnect v idle b low acts = absurd (let same : state_number b ≡ 5 = ap state_number acts.1 in omega arith)
acted_open front_act.Leave v idle b low acts = absurd (let same : state_number b ≡ 6 = ap state_number acts.0 in omega arith)
acted_open other v idle b low acts = refl

feature_open : (k : BackKey) (o : Option ℕ) (v : FrontView) → (front_step.feature_step k o v).closing ≡ v.closing
feature_open k None v = refl
feature_open k (Some m) v = refl

fact_open : (k : BackKey) (o : Option ℕ) (v : FrontView) → (front_step.fact_step k o v).closing ≡ v.closing
fact_open k None v = refl
fact_open k (Some m) v = refl

woken_open : (s : FrontBusStage) (o : Option (List ℕ)) (v : FrontView) (idle : Bool)
    → (front_step.step_at s (front_step.at s v) idle (front_woken o)).closing ≡ v.closing
woken_open front.Rest None v idle = refl
woken_open front.Rest (Some path) v idle = refl
woken_open s None v idle = refl
woken_open s (Some path) v idle = refl

module _ (f : Features) (d : DiskFacts) (t : Negotiation) where
  state_open : (idle : Bool) → state_number t.back.state ≤ 4 → Holds f d t
      → (front_step.acted (front_action t.front.state t.front.closing idle (state_read (key_of t.keys.keys back_state))) (front_step.at front.ReadState t.front)).closing ≡ t.front.closing
  state_open idle low h =
      subst (λ (r : Option BusState). (front_step.acted (front_action t.front.state t.front.closing idle r) (front_step.at front.ReadState t.front)).closing ≡ t.front.closing) (sym (state_shown (key_of t.keys.keys back_state) t.back.state h.states.back))
      (acted_open (front_action t.front.state t.front.closing idle (Some t.back.state)) t.front idle t.back.state low (front_acts_now f d t idle h))

  closing_at : (s : FrontBusStage) (idle : Bool) (port : ℕ) → state_number t.back.state ≤ 4 → Holds f d t
      → (front_step.step_at s (front_step.at s t.front) idle (front_answered (front_asks.ask_at s t.front) port t.keys)).closing ≡ t.front.closing
  closing_at front.Rest idle port low h = woken_open front.Rest (next_watch t.keys.front) t.front idle
  closing_at front.ReadState idle port low h = state_open idle low h
  closing_at (front.ReadFeature k) idle port low h =
      feature_open k (count_read (key_of t.keys.keys (back_path k))) (front_step.at (front.ReadFeature k) t.front)
  closing_at (front.ReadFact k) idle port low h = fact_open k (fact_read k (key_of t.keys.keys (back_path k))) (front_step.at (front.ReadFact k) t.front)
  closing_at front.Closed idle port low h = woken_open front.Closed (next_watch t.keys.front) t.front idle
  closing_at (front.Broken word) idle port low h = woken_open (front.Broken word) (next_watch t.keys.front) t.front idle
  closing_at front.Start idle port low h = refl
  closing_at s idle port low h = refl

  -- the back is asked to close by a close alone
  acted_unasked : (act : BackAction) (v : BackView) → (back_step.acted act v).unplugged ≡ v.unplugged
  acted_unasked back_act.Nothing v = refl
  acted_unasked other v = refl

  kept_unasked : {A : Type 0} (g : A → BackView) (n : Option A) (v : BackView) → ((x : A) → (g x).unplugged ≡ v.unplugged)
      → (back_step.kept_or_halted (option_map g n) v).unplugged ≡ v.unplugged
  kept_unasked g None v h = refl
  kept_unasked g (Some x) v h = h x

  only_unasked : (single : Bool) (v : BackView)
      → (back_step.kept_or_halted (if single then Some (record v { stage = back.ReadKey front_key.RingRef }) else None) v).unplugged ≡ v.unplugged
  only_unasked true v = refl
  only_unasked false v = refl

  key_unasked : (k : FrontKey) (text : Option (List ℕ)) (v : BackView) → (back_step.kept_or_halted (reading.key_read k text v) v).unplugged ≡ v.unplugged
  key_unasked front_key.RingPageOrder (Some text) v = kept_unasked (with_order v (front_key.RingRefOf 0)) (order_of (number_of text)) v (λ x. refl)
  key_unasked (front_key.RingRefOf page) None v = only_unasked (v.terms.order == 0) v
  key_unasked (front_key.RingRefOf page) (Some text) v = kept_unasked (with_gref v (after_page v.terms.order page)) (number_of text) v (λ x. refl)
  key_unasked front_key.RingRef (Some text) v = kept_unasked (with_gref v front_key.EventChannel) (number_of text) v (λ x. refl)
  key_unasked front_key.EventChannel (Some text) v = kept_unasked (with_port v) (number_of text) v (λ x. refl)
  key_unasked front_key.Protocol text v = kept_unasked (with_layout v) (layout_read text) v (λ x. refl)
  key_unasked front_key.FeaturePersistent text v = kept_unasked (with_persistent v) (count_read text) v (λ x. refl)
  key_unasked other None v = refl

  back_woken_open : (s : BackBusStage) (o : Option (List ℕ)) (v : BackView) → (back_step.step_at s (back_step.at s v) (back_woken o)).unplugged ≡ v.unplugged
  back_woken_open back.Rest None v = refl
  back_woken_open back.Rest (Some path) v = refl
  back_woken_open s None v = refl
  back_woken_open s (Some path) v = refl

  unmap_open : (pages : List Mapping) (v : BackView) (page : Mapping) (k : Directory) → 0 < length pages
      → let u = record v { pages = pages; stage = back.UnmapPage } in (back_step.step_at back.UnmapPage u (back_answered (back_asks.ask_at back.UnmapPage u) page k)).unplugged ≡ v.unplugged
  unmap_open [] v page k some = absurd (omega arith)
  unmap_open (first ∷ pages) v page k some = refl

  unplugged_at : (s : BackBusStage) (page : Mapping) → IsPlaced s t.back
      → (back_step.step_at s (back_step.at s t.back) (back_answered (back_asks.ask_at s t.back) page t.keys)).unplugged ≡ t.back.unplugged
  unplugged_at back.Rest page placed = back_woken_open back.Rest (next_watch t.keys.back) t.back
  unplugged_at back.ReadState page placed =
      acted_unasked (back_action t.back.state t.back.unplugged (state_read (key_of t.keys.keys front_state))) (back_step.at back.ReadState t.back)
  unplugged_at (back.ReadKey k) page placed = key_unasked k (key_of t.keys.keys (front_path k)) (back_step.at (back.ReadKey k) t.back)
  unplugged_at back.UnmapPage page placed = unmap_open t.back.pages t.back page t.keys placed.1
  unplugged_at back.Halted page placed = back_woken_open back.Halted (next_watch t.keys.back) t.back
  unplugged_at back.Watch page placed = refl
  unplugged_at s page placed = refl

  -- and writes no state of a halt before the front has closed
  unmap_low : (pages : List Mapping) (own : BusState) → state_number own ≤ 4 → state_number (back_own (back_asks.unmap_ask pages) own) ≤ 4
  unmap_low [] own low = low
  unmap_low (page ∷ pages) own low = low

  own_low : (s : BackBusStage) (v : BackView) (n : ℕ) → IsPlaced s v → (is_halting s ≡ true → 5 ≤ n) → n ≤ 4 → state_number v.state ≤ 4
      → state_number (back_own (back_asks.ask_at s v) v.state) ≤ 4
  own_low (back.WriteState state.InitWait) v n placed halting few low = omega arith
  own_low (back.WriteState state.Connected) v n placed halting few low = omega arith
  own_low (back.WriteState state.Closing) v n placed halting few low = absurd (let late = halting refl in omega arith)
  own_low (back.WriteState state.Closed) v n placed halting few low = absurd (let late = halting refl in omega arith)
  own_low (back.WriteState s) v n placed halting few low = absurd placed
  own_low back.UnmapPage v n placed halting few low = unmap_low v.pages v.state low
  own_low back.Watch v n placed halting few low = low
  own_low s v n placed halting few low = low

  front_move_open : (idle : Bool) (port : ℕ) → port < 2 ^ 32 → Holds f d t → IsOpen t → IsOpen (front_moved idle port t)
  front_move_open idle port fits h o =
      let still : (front_moved idle port t).front.closing ≡ false = closing_at (due t.front idle) idle port o.back_state h ∙ o.front in
      let later = front_move_holds f d t idle port fits h in
      let low = (later.front.leaves_open still).0 in
      record { front = still; back = o.back; front_state = omega arith; back_state = o.back_state }

  back_move_open : (page : Mapping) → Holds f d t → IsOpen t → IsOpen (back_moved page t)
  back_move_open page h o =
      back_move_cases (λ (a : BackBusAsk) (w : BackView). IsOpen (record { front = t.front; back = w; keys = back_done a t.keys })) t.back page t.keys
      (λ e. absurd (true≢false (sym e ∙ ap (λ (u : Bool). u && back_asks.says_closing_at t.back.stage t.back.state) o.back))) moves
    where
      moves : back_asks.says_closing t.back ≡ false → (let a = back_asks.ask_at t.back.stage t.back in IsOpen (record { front = t.front; back = back_step.step_at t.back.stage t.back (back_answered a page t.keys); keys = back_done a t.keys }))
      moves e =
          let wrote = back_state_at t.back.stage t.back page t.keys in
          record {
            front = o.front;
            back = unplugged_at t.back.stage page h.back_sound.placed ∙ o.back;
            front_state = o.front_state;
            back_state =
                subst (λ (s : BusState). state_number s ≤ 4) (sym wrote) (own_low t.back.stage t.back (state_number t.front.state) h.back_sound.placed h.back.halting_after o.front_state o.back_state);
          }

open_once : (f : Features) (d : DiskFacts) (x : Happening) (t : Negotiation) → closes x ≡ false → HasPort x → Holds f d t → IsOpen t → IsOpen (happened x t)
open_once f d (FrontMoves idle port) t e fits h o = front_move_open f d t idle port fits h o
open_once f d (BackMoves page) t e fits h o = back_move_open f d t page h o
open_once f d other t e fits h o = absurd (true≢false e)

neither : (a b : Bool) → (a || b) ≡ false → (a ≡ false) × (b ≡ false)
neither false b e = (refl, e)
neither true b e = absurd (true≢false e)

all_open : (f : Features) (d : DiskFacts) (xs : List Happening) (t : Negotiation) → list_any closes xs ≡ false → HavePorts xs → Holds f d t → IsOpen t → IsOpen (after xs t)
all_open f d [] t e fits h o = o
all_open f d (x ∷ xs) t e fits h o =
    let parts = neither (closes x) (list_any closes xs) e in
    all_open f d xs (happened x t) parts.1 fits.1 (happening_holds f d x t fits.0 h) (open_once f d x t parts.0 fits.0 h o)

pub only_a_close : OnlyACloseCloses
only_a_close r begun e =
    all_open r.offer r.facts r.happenings (begins r) e r.ports (start_holds r.front r.offer r.facts r.within) (record { front = begun; back = refl; front_state = omega arith; back_state = omega arith })

-- a front that isn't closing is served
below_closing : (own : BusState) → state_number own ≤ 4 → own ≡ state.Closing → ⊥
below_closing own low e = let same : state_number own ≡ 5 = ap state_number e in omega arith

open_served_once : (x : Happening) (t : Negotiation) → IsOpen t → IsServed x t
open_served_once (FrontMoves idle port) t o = λ e. absurd (below_closing t.front.state o.front_state e)
open_served_once other t o = tt

open_served : (f : Features) (d : DiskFacts) (xs : List Happening) (t : Negotiation) → list_any closes xs ≡ false → HavePorts xs → Holds f d t → IsOpen t → AreServed xs t
open_served f d [] t e fits h o = tt
open_served f d (x ∷ xs) t e fits h o =
    let parts = neither (closes x) (list_any closes xs) e in
    (open_served_once x t o, open_served f d xs (happened x t) parts.1 fits.1 (happening_holds f d x t fits.0 h) (open_once f d x t parts.0 fits.0 h o))

one_of : (t : Negotiation) (idle : Bool) → IsOpen t → AreBoth t state.Connected ⊎ AreBoth t state.Closed ⊎ WaitsForRequests idle t → AreBoth t state.Connected
one_of t idle o (inl both) = both
one_of t idle o (inr (inl both)) = absurd (let same : state_number t.front.state ≡ 6 = ap state_number both.0 in let low = o.front_state in omega arith)
one_of t idle o (inr (inr waits)) = absurd (true≢false (sym waits.closing ∙ o.front))

pub connected_at_rest : ConnectedAtRest
connected_at_rest r idle begun e rest =
    let o = only_a_close r begun e in
    let served = open_served r.offer r.facts r.happenings (begins r) e r.ports (start_holds r.front r.offer r.facts r.within) (record { front = begun; back = refl; front_state = omega arith; back_state = omega arith }) in
    one_of (now r) idle o (agree_at_rest r idle served (λ closes. absurd (below_closing (now r).front.state o.front_state closes)) rest)
