-- The ring is granted before the back maps it.
use Rattle.std.proofs.Common.{◌≡◌, ◌∙◌, ap, sym, subst, ℕ, zero, suc, ◌+◌, ◌^◌, ◌<◌, ◌≤◌, ◌==◌, ◌&&◌, nat_lt, Bool, true, false, true≢false, List, [], ◌∷◌, ◌++◌, map, length, refl, arith, if◌then◌else◌, unwrap_or}
use Rattle.std.specs.Prelude.{Option, None, Some, IsSome, slice_index}
use Rattle.std.proofs.lemmas.Bool.Decides.{nat_tests}
use Rattle.blk_base.specs.declared.parts.Mapping.{Mapping}
use Rattle.key_directory.specs.Directory.{key_of}
use Rattle.key_directory.specs.Watches.{next_watch}
use Rattle.xenbus_state.specs.States.{state_number, state_read}
use Rattle.xenbus_state.specs.Tables.{front_action, is_connected}
use Rattle.xenbus_state.specs.Values.{ring_gref}
use Rattle.xenbus_state.specs.Orders.{numbers_from}
use Rattle.xenbus_state.specs.Reading.{count_read, fact_read}
use Rattle.xenbus_state.specs.Programs.{next_published}
use Rattle.xenbus_state.specs.declared.keys.BackKey.{BackKey}
use Rattle.xenbus_state.specs.declared.keys.BackKey.TheVariants as back_key
use Rattle.xenbus_state.specs.declared.keys.FrontKey.{FrontKey}
use Rattle.xenbus_state.specs.declared.offer.Features.{Features}
use Rattle.xenbus_state.specs.declared.offer.DiskFacts.{DiskFacts}
use Rattle.xenbus_state.specs.declared.values.FrontTerms.{FrontTerms}
use Rattle.xenbus_state.specs.declared.state.BusState.{BusState}
use Rattle.xenbus_state.specs.declared.state.BusState.TheVariants as state
use Rattle.xenbus_state.specs.declared.stage.FrontBusStage.{FrontBusStage}
use Rattle.xenbus_state.specs.declared.stage.FrontBusStage.TheVariants as front
use Rattle.xenbus_state.specs.declared.stage.BackBusStage.{BackBusStage}
use Rattle.xenbus_state.specs.declared.stage.BackBusStage.TheVariants as back
use Rattle.xenbus_state.specs.declared.table.FrontAction.{FrontAction}
use Rattle.xenbus_state.specs.declared.table.FrontAction.TheVariants as front_act
use Rattle.xenbus_state.specs.declared.front.FrontBusAsk.{FrontBusAsk}
use Rattle.xenbus_state.specs.declared.front.FrontBusAsk.TheVariants as front_ask
use Rattle.xenbus_state.specs.declared.back.BackBusAsk.{BackBusAsk}
use Rattle.xenbus_state.specs.declared.back.BackBusAsk.TheVariants as back_ask
use Rattle.xenbus_state.specs.FrontView.{FrontView, pages_of, ring_order, terms_of, closed}
use Rattle.xenbus_state.specs.FrontAsk as front_asks
use Rattle.xenbus_state.specs.FrontAsk.{due, due_at, leaving, closing_stage}
use Rattle.xenbus_state.specs.FrontStep as front_step
use Rattle.xenbus_state.specs.FrontSound as front_sound
use Rattle.xenbus_state.specs.BackView.{BackView, is_halting}
use Rattle.xenbus_state.specs.BackAsk as back_asks
use Rattle.xenbus_state.specs.BackSound.{IsPlaced, IsResting, IsMapped}
use Rattle.negotiation_laws.specs.Negotiation.{Negotiation, back_path, back_state, front_answered, front_woken}
use Rattle.negotiation_laws.specs.Happening.{Happening, FrontMoves, FrontCloses, happened, after}
use Rattle.negotiation_laws.specs.Within.{HavePorts}
use Rattle.negotiation_laws.specs.Run.{NegotiationRun, now, begins}
use Rattle.negotiation_laws.specs.Granted.{granted, granted_in, granted_by}
use Rattle.negotiation_laws.specs.Laws.{granted_now, BackMapsAfterTheGrants, ConnectedStaysGranted, ConnectsToAConnectedBack}
use Rattle.negotiation_laws.proofs.Choices.{closed_cases, due_cases, either}
use Rattle.negotiation_laws.proofs.Shown.{state_shown}
use Rattle.negotiation_laws.proofs.Grefs.{numbers_push}
use Rattle.negotiation_laws.proofs.FrontActs as front_acts
use Rattle.negotiation_laws.proofs.Holds.{Holds, start_holds, happening_holds, front_acts_now, due_timely}
use Rattle.negotiation_laws.proofs.Found.{run_holds, connected_back}
use Rattle.negotiation_laws.proofs.Subjects.{IsFrontWrite, stage_needs, SaidAt, FrontHolds, BackHolds}
use Rattle.negotiation_laws.proofs.FrontSteps.{due_holds}
use Rattle.negotiation_laws.specs.Said.{front_texts, back_texts}

-- which pages are granted: none before the grants, those before the page at hand, and then all until the front leaves
abbrev GrantedAt : BusState → Option ℕ → ℕ → List ℕ → Type 0
GrantedAt state.Initialising port pages held = held ≡ []
GrantedAt state.Initialised port pages held = held ≡ numbers_from 0 pages
GrantedAt state.Connected port pages held = held ≡ numbers_from 0 pages
GrantedAt own port pages held = IsSome port → held ≡ numbers_from 0 pages

abbrev Granted : FrontBusStage → BusState → Option ℕ → ℕ → List ℕ → Type 0
Granted front.Start own port pages held = held ≡ []
Granted (front.ReadFeature k) own port pages held = held ≡ []
Granted (front.RingWord word) own port pages held = held ≡ []
Granted (front.Grant page) own port pages held = held ≡ numbers_from 0 page
Granted front.NewPort own port pages held = held ≡ numbers_from 0 pages
Granted (front.Publish k) own port pages held = held ≡ numbers_from 0 pages
Granted (front.WriteState state.Initialised) own port pages held = held ≡ numbers_from 0 pages
Granted (front.ReadFact k) own port pages held = held ≡ numbers_from 0 pages
Granted (front.WriteState state.Connected) own port pages held = held ≡ numbers_from 0 pages
Granted front.Rest own port pages held = GrantedAt own port pages held
Granted front.ReadState own port pages held = GrantedAt own port pages held
Granted (front.WriteState state.Closing) own port pages held = GrantedAt own port pages held
Granted s own port pages held = Unit {0}

abbrev Grants : FrontBusStage → FrontView → List ℕ → Type 0
Grants s v held = Granted s v.state v.port (pages_of v) held

-- what is due is begun
due_closing : (own : BusState) (v : FrontView) (held : List ℕ) → GrantedAt own v.port (pages_of v) held → Granted (closing_stage own v) own v.port (pages_of v) held
due_closing state.Closing v held h = by_gone v.gone v.port h
  where
    by_gone : (gone : Bool) (port : Option ℕ) → GrantedAt state.Closing v.port (pages_of v) held → Granted (leaving gone port) state.Closing v.port (pages_of v) held
    by_gone false port h = h
    by_gone true (Some port) h = tt
    by_gone true None h = tt
due_closing own v held h = h

due_grants : (s : FrontBusStage) (v : FrontView) (idle : Bool) (held : List ℕ) → Grants s v held → Grants (due_at s v idle) v held
due_grants front.Rest v idle held h = either (λ (d : FrontBusStage). Grants d v held) (v.closing && idle) (closing_stage v.state v) front.Rest (due_closing v.state v held h) h
due_grants s v idle held h = h

-- the back's state is read
acted_grants : (act : FrontAction) (v : FrontView) (idle : Bool) (b : BusState) (held : List ℕ) → front_acts.ActsFor act v.state v.closing v.gone idle b
    → GrantedAt v.state v.port (pages_of v) held → let w = front_step.acted act (front_step.at front.ReadState v) in Grants w.stage w held
acted_grants front_act.Publish v idle b held acts h = subst (λ (own : BusState). GrantedAt own v.port (pages_of v) held) acts.0 h
acted_grants front_act.Connect v idle b held acts h = subst (λ (own : BusState). GrantedAt own v.port (pages_of v) held) acts.0 h
acted_grants front_act.CloseAndConnect v idle b held acts h = subst (λ (own : BusState). GrantedAt own v.port (pages_of v) held) acts.0 h
acted_grants (front_act.Break word) v idle b held acts h = tt
acted_grants other v idle b held acts h = h

feature_grants : (k : BackKey) (o : Option ℕ) (v : FrontView) (held : List ℕ) → held ≡ []
    → let w = front_step.feature_step k o (front_step.at (front.ReadFeature k) v) in Grants w.stage w held
feature_grants k None v held h = tt
feature_grants back_key.FeatureBarrier (Some m) v held h = h
feature_grants k (Some m) v held h = h

fact_grants : (k : BackKey) (o : Option ℕ) (v : FrontView) (held : List ℕ) → held ≡ numbers_from 0 (pages_of v)
    → let w = front_step.fact_step k o (front_step.at (front.ReadFact k) v) in Grants w.stage w held
fact_grants k None v held h = tt
fact_grants back_key.Sectors (Some m) v held h = h
fact_grants k (Some m) v held h = h

word_grants : (word : ℕ) (last : Bool) (v : FrontView) (held : List ℕ) → held ≡ [] → Grants (if last then front.Grant 0 else front.RingWord (word + 1)) v held
word_grants word true v held h = h
word_grants word false v held h = h

pushed : (page : ℕ) (held : List ℕ) → held ≡ numbers_from 0 page → held ++ page ∷ [] ≡ numbers_from 0 (page + 1)
pushed page held e =
    let zero_on : 0 + page ≡ page = omega arith in
    let next : numbers_from 0 page ++ page ∷ [] ≡ numbers_from 0 (page + 1) = subst (λ (m : ℕ). numbers_from 0 page ++ m ∷ [] ≡ numbers_from 0 (page + 1)) zero_on (numbers_push page 0) in
    ap (λ (xs : List ℕ). xs ++ page ∷ []) e ∙ next

grant_grants : (page : ℕ) (v : FrontView) (held : List ℕ) → page < pages_of v → held ≡ numbers_from 0 page
    → Grants (if nat_lt (page + 1) (pages_of v) then front.Grant (page + 1) else front.NewPort) v (held ++ page ∷ [])
grant_grants page v held low h = by_test (nat_lt (page + 1) (pages_of v)) refl
  where
    by_test : (more : Bool) → nat_lt (page + 1) (pages_of v) ≡ more → Grants (if more then front.Grant (page + 1) else front.NewPort) v (held ++ page ∷ [])
    by_test true e = pushed page held h
    by_test false e =
        let all : page + 1 ≡ pages_of v = grind (arith, nat_tests) in
        subst (λ (m : ℕ). held ++ page ∷ [] ≡ numbers_from 0 m) all (pushed page held h)

publish_grants : (next : Option FrontKey) (v : FrontView) (held : List ℕ) → held ≡ numbers_from 0 (pages_of v) → Grants (front_step.after_published next) v held
publish_grants (Some k) v held h = h
publish_grants None v held h = h

granted_later : (own : BusState) (port : Option ℕ) (pages : ℕ) (held : List ℕ) → (own ≡ state.Initialising → IsSome port → ⊥) → GrantedAt own port pages held
    → IsSome port → held ≡ numbers_from 0 pages
granted_later state.Initialising port pages held none h some = absurd (none refl some)
granted_later state.Initialised port pages held none h some = h
granted_later state.Connected port pages held none h some = h
granted_later other port pages held none h some = h some

written_grants : (s : BusState) (v : FrontView) (held : List ℕ) → (v.state ≡ state.Initialising → IsSome v.port → ⊥) → IsFrontWrite (front.WriteState s)
    → Grants (front.WriteState s) v held → let w = front_step.written s (front_step.at (front.WriteState s) v) in Grants w.stage w held
written_grants state.Initialised v held none writes h = h
written_grants state.Connected v held none writes h = h
written_grants state.Closing v held none writes h = granted_later v.state v.port (pages_of v) held none h
written_grants state.Closed v held none writes h = tt
written_grants s v held none writes h = absurd writes

end_grants : (page : ℕ) (more : Bool) (v : FrontView) (held : List ℕ) → Grants (if more then front.EndGrant (page + 1) else front.EndOtherGrants) v held
end_grants page true v held = tt
end_grants page false v held = tt

others_grant : (port : Option ℕ) (v : FrontView) (held : List ℕ) → Grants (front_step.after_grants port) v held
others_grant (Some port) v held = tt
others_grant None v held = tt

woken_grants : (s : FrontBusStage) (o : Option (List ℕ)) (v : FrontView) (idle : Bool) (held : List ℕ) → Grants s v held
    → let w = front_step.step_at s (front_step.at s v) idle (front_woken o) in Grants w.stage w held
woken_grants front.Rest None v idle held h = h
woken_grants front.Rest (Some path) v idle held h = h
woken_grants s None v idle held h = h
woken_grants s (Some path) v idle held h = h

-- a port is made after the ring
port_first : (own : BusState) (port : Option ℕ) (terms : FrontTerms) (texts : FrontKey → Option (List ℕ)) → SaidAt own port terms texts → own ≡ state.Initialising → IsSome port → ⊥
port_first own port terms texts h e some =
    let unsaid = subst (λ (s : BusState). SaidAt s port terms texts) e h in
    true≢false (sym (subst (λ (o : Option ℕ). IsSome o) unsaid.0 some))

abbrev IsNextPage : FrontBusStage → FrontView → Type 0
IsNextPage (front.Grant page) v = page < pages_of v
IsNextPage s v = Unit {0}

due_page : (s : FrontBusStage) (v : FrontView) (idle : Bool) → front_sound.IsPlaced s v → IsNextPage (due_at s v idle) v
due_page s v idle h = due_cases (λ (d : FrontBusStage). IsNextPage d v) s v idle (placed s h) tt tt tt
  where
    placed : (s : FrontBusStage) → front_sound.IsPlaced s v → IsNextPage s v
    placed (front.Grant page) h = h
    placed s h = tt

module _ (f : Features) (d : DiskFacts) (t : Negotiation) where
  state_grants : (idle : Bool) (held : List ℕ) → Holds f d t → GrantedAt t.front.state t.front.port (pages_of t.front) held
      → let w = front_step.acted (front_action t.front.state t.front.closing idle (state_read (key_of t.keys.keys back_state))) (front_step.at front.ReadState t.front) in Grants w.stage w held
  state_grants idle held h g =
      subst (λ (r : Option BusState). let w = front_step.acted (front_action t.front.state t.front.closing idle r) (front_step.at front.ReadState t.front) in Grants w.stage w held) (sym (state_shown (key_of t.keys.keys back_state) t.back.state h.states.back))
      (acted_grants (front_action t.front.state t.front.closing idle (Some t.back.state)) t.front idle t.back.state held (front_acts_now f d t idle h) g)

  grants_at : (s : FrontBusStage) (idle : Bool) (port : ℕ) (held : List ℕ) → front_sound.IsTimely s t.front.state → IsNextPage s t.front
      → FrontHolds s t.front (state_number t.back.state) f d (front_texts t.keys.keys) → Holds f d t → Grants s t.front held
      → let w = front_step.step_at s (front_step.at s t.front) idle (front_answered (front_asks.ask_at s t.front) port t.keys) in Grants w.stage w (granted_by (front_asks.ask_at s t.front) held)
  grants_at front.Start idle port held timely page own h g = rw timely g
  grants_at front.Rest idle port held timely page own h g = woken_grants front.Rest (next_watch t.keys.front) t.front idle held g
  grants_at front.ReadState idle port held timely page own h g = state_grants idle held h g
  grants_at (front.ReadFeature k) idle port held timely page own h g = feature_grants k (count_read (key_of t.keys.keys (back_path k))) t.front held g
  grants_at (front.RingWord word) idle port held timely page own h g = word_grants word (word == 15) t.front held g
  grants_at (front.Grant p) idle port held timely page own h g = grant_grants p t.front held page g
  grants_at front.NewPort idle port held timely page own h g = g
  grants_at (front.Publish k) idle port held timely page own h g = publish_grants (next_published (ring_order t.front) k) t.front held g
  grants_at (front.ReadFact k) idle port held timely page own h g = fact_grants k (fact_read k (key_of t.keys.keys (back_path k))) t.front held g
  grants_at (front.WriteState state.Closing) idle port held timely page own h g =
      written_grants state.Closing t.front held (port_first t.front.state t.front.port (terms_of t.front) (front_texts t.keys.keys) own.said) own.writes g
  grants_at (front.WriteState state.Initialised) idle port held timely page own h g = g
  grants_at (front.WriteState state.Connected) idle port held timely page own h g = g
  grants_at (front.WriteState state.Closed) idle port held timely page own h g = tt
  grants_at (front.WriteState s) idle port held timely page own h g = absurd own.writes
  grants_at (front.EndGrant p) idle port held timely page own h g = end_grants p (nat_lt (p + 1) (pages_of t.front)) t.front (granted_by (front_ask.EndGrant p) held)
  grants_at front.EndOtherGrants idle port held timely page own h g = others_grant t.front.port t.front held
  grants_at front.ClosePort idle port held timely page own h g = tt
  grants_at front.Closed idle port held timely page own h g = woken_grants front.Closed (next_watch t.keys.front) t.front idle held tt
  grants_at (front.Broken word) idle port held timely page own h g = woken_grants (front.Broken word) (next_watch t.keys.front) t.front idle held tt

closed_grants : (v : FrontView) (held : List ℕ) → Grants v.stage v held → Grants (closed v).stage (closed v) held
closed_grants v held g = closed_cases (λ (w : FrontView). Grants w.stage w held) v g g

grants_once : (f : Features) (d : DiskFacts) (x : Happening) (t : Negotiation) (held : List ℕ) → Holds f d t → Grants t.front.stage t.front held
    → Grants (happened x t).front.stage (happened x t).front (granted_in x t held)
grants_once f d (FrontMoves idle port) t held h g =
    let v = t.front in
    let own = due_holds (state_number t.back.state) f d v.stage v idle (front_texts t.keys.keys) h.front in
    grants_at f d t (due v idle) idle port held (due_timely v.stage v idle h.front_sound.timely) (due_page v.stage v idle h.front_sound.placed) own h (due_grants v.stage v idle held g)
grants_once f d FrontCloses t held h g = closed_grants t.front held g
grants_once f d other t held h g = g

all_granted : (f : Features) (d : DiskFacts) (xs : List Happening) (t : Negotiation) (held : List ℕ) → HavePorts xs → Holds f d t
    → Grants t.front.stage t.front held → Grants (after xs t).front.stage (after xs t).front (granted xs t held)
all_granted f d [] t held fits h g = g
all_granted f d (x ∷ xs) t held fits h g = all_granted f d xs (happened x t) (granted_in x t held) fits.1 (happening_holds f d x t fits.0 h) (grants_once f d x t held h g)

-- a front that has published, and hasn't begun to leave, has granted all pages
early : (own : BusState) → own ≡ state.Initialising → 3 ≤ state_number own → ⊥
early own e late = let same : state_number own ≡ 1 = ap state_number e in omega arith

ready_granted : (s : FrontBusStage) (v : FrontView) (n : ℕ) (held : List ℕ) → front_sound.IsTimely s v.state → IsFrontWrite s → stage_needs s ≤ n → n < 6
    → 3 ≤ state_number v.state → IsSome v.port → Grants s v held → held ≡ numbers_from 0 (pages_of v)
ready_granted front.Start v n held timely writes after low late some g = absurd (early v.state timely late)
ready_granted (front.ReadFeature k) v n held timely writes after low late some g = absurd (early v.state timely late)
ready_granted (front.RingWord word) v n held timely writes after low late some g = absurd (early v.state timely late)
ready_granted (front.Grant page) v n held timely writes after low late some g = absurd (early v.state timely late)
ready_granted front.NewPort v n held timely writes after low late some g = g
ready_granted (front.Publish k) v n held timely writes after low late some g = g
ready_granted (front.ReadFact k) v n held timely writes after low late some g = g
ready_granted front.Rest v n held timely writes after low late some g = granted_later v.state v.port (pages_of v) held (λ e p. early v.state e late) g some
ready_granted front.ReadState v n held timely writes after low late some g = granted_later v.state v.port (pages_of v) held (λ e p. early v.state e late) g some
ready_granted (front.WriteState state.Initialised) v n held timely writes after low late some g = g
ready_granted (front.WriteState state.Connected) v n held timely writes after low late some g = g
ready_granted (front.WriteState state.Closing) v n held timely writes after low late some g = granted_later v.state v.port (pages_of v) held (λ e p. early v.state e late) g some
ready_granted (front.WriteState state.Closed) v n held timely writes after low late some g = absurd (omega arith)
ready_granted (front.WriteState s) v n held timely writes after low late some g = absurd writes
ready_granted s v n held timely writes after low late some g = absurd (omega arith)

pub run_granted : (r : NegotiationRun) → state_number (now r).back.state < 6 → 3 ≤ state_number (now r).front.state → IsSome (now r).front.port
    → granted_now r ≡ numbers_from 0 (pages_of (now r).front)
run_granted r low late some =
    let h = run_holds r in
    let v = (now r).front in
    let g = all_granted r.offer r.facts r.happenings (begins r) [] r.ports (start_holds r.front r.offer r.facts r.within) refl in
    ready_granted v.stage v (state_number (now r).back.state) (granted_now r) h.front_sound.timely h.front.writes h.front.stage_after low late some g

-- the reference of the next page
index_gref : (i first count : ℕ) → i < count → slice_index (map ring_gref (numbers_from first count)) i ≡ ring_gref (first + i)
index_gref i first zero low = absurd (omega arith)
index_gref zero first (suc count) low = let same : first + 0 ≡ first = omega arith in rw same refl
index_gref (suc i) first (suc count) low = let next : first + suc i ≡ (first + 1) + i = omega arith in rw next (index_gref i (first + 1) count (omega arith))

pub some_port : (port : Option ℕ) → IsSome port → port ≡ Some (unwrap_or port 0)
some_port None some = absurd (true≢false (sym some))
some_port (Some p) some = refl

-- what is true where the back maps
record Maps (t : Negotiation) (gref : ℕ) : Type 0 where
  late : 3 ≤ state_number t.front.state
  some : IsSome t.front.port
  own : state_number t.back.state < 6
  port : t.front.port ≡ Some t.back.terms.port
  next : gref ≡ ring_gref (length t.back.pages)
  page : length t.back.pages < pages_of t.front

abbrev MapsNow : BackBusAsk → Negotiation → Type 0
MapsNow (back_ask.Map gref) t = Maps t gref
MapsNow a t = Unit {0}

unmap_no_map : (pages : List Mapping) (t : Negotiation) → MapsNow (back_asks.unmap_ask pages) t
unmap_no_map [] t = tt
unmap_no_map (page ∷ pages) t = tt

module _ (f : Features) (d : DiskFacts) (t : Negotiation) where
  maps_at : (s : BackBusStage) → IsPlaced s t.back → BackHolds s t.back (state_number t.front.state) t.front.port (terms_of t.front) f d (back_texts t.keys.keys)
      → MapsNow (back_asks.ask_at s t.back) t
  maps_at back.MapPage placed held =
      let serving = held.serving_after refl in
      let read = held.read refl in
      let low : length t.back.pages < pages_of t.front = subst (λ (r : FrontTerms). length t.back.pages < 2 ^ r.order) read.0 placed.3 in
      let at_page : back_asks.next_gref t.back ≡ ring_gref (length t.back.pages) = ap (λ (xs : List ℕ). slice_index xs (length t.back.pages)) read.1 ∙ index_gref (length t.back.pages) 0 (pages_of t.front) low ∙ ap ring_gref (omega arith) in
      record {
        late = serving.0;
        some = serving.1;
        own = rw placed.0 (omega arith);
        port = some_port t.front.port serving.1 ∙ ap (λ (r : FrontTerms). Some r.port) (sym read.0);
        next = at_page;
        page = low;
      }
  maps_at back.UnmapPage placed held = unmap_no_map t.back.pages t
  maps_at back.Watch placed held = tt
  maps_at s placed held = tt

  maps_now : Holds f d t → MapsNow (back_asks.ask_of t.back) t
  maps_now h =
      either (λ (a : BackBusAsk). MapsNow a t) (back_asks.says_closing t.back) (back_ask.SetState state.Closing) (back_asks.ask_at t.back.stage t.back) tt (maps_at t.back.stage h.back_sound.placed h.back)

pub maps_after_grants : BackMapsAfterTheGrants
maps_after_grants r gref e =
    let maps : Maps (now r) gref = subst (λ (a : BackBusAsk). MapsNow a (now r)) e (maps_now r.offer r.facts (now r) (run_holds r)) in
    record { after = maps.late; granted = run_granted r maps.own maps.late maps.some; port = maps.port; next = maps.next; page = maps.page }

pub connected_granted : ConnectedStaysGranted
connected_granted r e =
    let known = connected_back r e in
    run_granted r (rw e (omega arith)) known.serving.0 known.serving.1

-- the front writes Connected to a connected back
record IsServing (v : BackView) : Type 0 where
  connected : is_connected v.state ≡ true
  mapped : IsMapped v
  bound : v.bound ≡ true

resting_serves : (own : BusState) (v : BackView) → v.state ≡ own → IsResting own v → 4 ≤ state_number own → IsServing v
resting_serves state.Connected v e h four = record { connected = rw e refl; mapped = h.0; bound = h.1 }
resting_serves state.Closing v e h four = record { connected = rw e refl; mapped = h.0; bound = h.1 }
resting_serves state.InitWait v e h four = absurd (omega arith)
resting_serves own v e h four = absurd h

too_early : (own s : BusState) → own ≡ s → state_number s < 4 → 4 ≤ state_number own → ⊥
too_early own s e low high = let same : state_number own ≡ state_number s = ap state_number e in omega arith

serves_at : (s : BackBusStage) (v : BackView) (n : ℕ) → IsPlaced s v → (is_halting s ≡ true → 5 ≤ n) → n < 5 → 4 ≤ state_number v.state → IsServing v
serves_at back.Rest v n placed halting low four = resting_serves v.state v refl placed four
serves_at back.ReadState v n placed halting low four = resting_serves v.state v refl placed four
serves_at (back.Publish k) v n placed halting low four = absurd (too_early v.state state.Initialising placed.0 (omega arith) four)
serves_at (back.WriteState state.InitWait) v n placed halting low four = absurd (too_early v.state state.Initialising placed.0 (omega arith) four)
serves_at (back.WriteState state.Connected) v n placed halting low four = absurd (too_early v.state state.InitWait placed.0 (omega arith) four)
serves_at (back.WriteState state.Closing) v n placed halting low four = absurd (let late = halting refl in omega arith)
serves_at (back.WriteState state.Closed) v n placed halting low four = absurd (let late = halting refl in omega arith)
serves_at (back.WriteState s) v n placed halting low four = absurd placed
serves_at back.UnmapOthers v n placed halting low four = absurd (let late = halting refl in omega arith)
serves_at back.UnmapPage v n placed halting low four = absurd (let late = halting refl in omega arith)
serves_at back.ClosePort v n placed halting low four = absurd (let late = halting refl in omega arith)
serves_at back.Halted v n placed halting low four = absurd (let late = halting refl in omega arith)
serves_at other v n placed halting low four = absurd (too_early v.state state.InitWait placed.0 (omega arith) four)

abbrev ConnectsNow : FrontBusAsk → BackView → Type 0
ConnectsNow (front_ask.SetState state.Connected) v = IsServing v
ConnectsNow a v = Unit {0}

connects_at : (f : Features) (d : DiskFacts) (t : Negotiation) (s : FrontBusStage) → front_sound.IsTimely s t.front.state
    → FrontHolds s t.front (state_number t.back.state) f d (front_texts t.keys.keys) → Holds f d t → ConnectsNow (front_asks.ask_at s t.front) t.back
connects_at f d t (front.WriteState state.Connected) timely own h =
    (let low = timely.0 in serves_at t.back.stage t.back (state_number t.front.state) h.back_sound.placed h.back.halting_after (omega arith) own.stage_after)
connects_at f d t s timely own h = tt

pub connects_to_connected : ConnectsToAConnectedBack
connects_to_connected r idle e =
    let h = run_holds r in
    let t = now r in
    let s = due t.front idle in
    let own = due_holds (state_number t.back.state) r.offer r.facts t.front.stage t.front idle (front_texts t.keys.keys) h.front in
    let serving : IsServing t.back = subst (λ (a : FrontBusAsk). ConnectsNow a t.back) e (connects_at r.offer r.facts t s (due_timely t.front.stage t.front idle h.front_sound.timely) own h) in
    (serving.connected, serving.mapped, serving.bound)
