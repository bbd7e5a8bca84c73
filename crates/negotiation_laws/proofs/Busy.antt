-- A front with unfinished requests negotiates on until it is connected, also where it is closing.
use Rattle.std.proofs.Common.{◌≡◌, ap, sym, subst, ℕ, ◌+◌, ◌≤◌, ◌==◌, ◌&&◌, nat_lt, Bool, true, false, List, [], ◌∷◌, refl, arith, if◌then◌else◌, ◌⊎◌, inl, inr}
use Rattle.std.specs.Prelude.{Option, None, Some}
use Rattle.blk_base.specs.declared.parts.Mapping.{Mapping}
use Rattle.key_directory.specs.Directory.{Directory, key_of}
use Rattle.key_directory.specs.Watches.{Watches, has_pending, next_watch, taken, fired, with_watch}
use Rattle.xenbus_state.specs.States.{state_number, state_read}
use Rattle.xenbus_state.specs.Tables.{front_action, on_offer, on_connected, on_closing}
use Rattle.xenbus_state.specs.Reading.{count_read, fact_read}
use Rattle.xenbus_state.specs.Programs.{next_feature, next_fact, next_published}
use Rattle.xenbus_state.specs.declared.keys.FrontKey.{FrontKey}
use Rattle.xenbus_state.specs.declared.keys.BackKey.{BackKey}
use Rattle.xenbus_state.specs.declared.offer.Features.{Features}
use Rattle.xenbus_state.specs.declared.offer.DiskFacts.{DiskFacts}
use Rattle.xenbus_state.specs.declared.state.BusState.{BusState}
use Rattle.xenbus_state.specs.declared.state.BusState.TheVariants as state
use Rattle.xenbus_state.specs.declared.stage.FrontBusStage.{FrontBusStage}
use Rattle.xenbus_state.specs.declared.stage.FrontBusStage.TheVariants as stage
use Rattle.xenbus_state.specs.declared.table.FrontAction.{FrontAction}
use Rattle.xenbus_state.specs.declared.table.FrontAction.TheVariants as action
use Rattle.xenbus_state.specs.declared.front.FrontBusAsk.{FrontBusAsk}
use Rattle.xenbus_state.specs.declared.back.BackBusAsk.{BackBusAsk}
use Rattle.xenbus_state.specs.declared.back.BackBusAsk.TheVariants as back_ask
use Rattle.xenbus_state.specs.FrontView.{FrontView, ring_order, pages_of, closed}
use Rattle.xenbus_state.specs.FrontAsk.{due_at, closing_stage, ask_at}
use Rattle.xenbus_state.specs.FrontStep.{at, step_at, acted, feature_step, after_feature, fact_step, after_fact, written, after_published, after_grants}
use Rattle.xenbus_state.specs.FrontSound.{IsTimely}
use Rattle.xenbus_state.specs.BackView.{BackView, unplugged}
use Rattle.xenbus_state.specs.BackAsk as back_asks
use Rattle.negotiation_laws.specs.Negotiation.{Negotiation, start_of, back_path, front_state, back_state, state_text, front_woken, front_answered, front_done, front_moved, back_done, back_moved}
use Rattle.negotiation_laws.specs.Happening.{Happening, FrontMoves, BackMoves, FrontCloses, BackCloses, happened, after}
use Rattle.negotiation_laws.specs.Within.{HavePorts}
use Rattle.negotiation_laws.specs.Run.{now, begins}
use Rattle.negotiation_laws.specs.Laws.{IsAtRest, IsBusy, AreBusy, BusyFrontsConnect}
use Rattle.negotiation_laws.proofs.Choices.{back_move_cases, closed_cases, either, unplugged_cases}
use Rattle.negotiation_laws.proofs.Shown.{state_shown}
use Rattle.negotiation_laws.proofs.Watching.{sees_so, sees_kept, sees_fired, back_key_apart}
use Rattle.negotiation_laws.proofs.Between.{back_own}
use Rattle.negotiation_laws.proofs.BackSights.{back_state_at}
use Rattle.negotiation_laws.proofs.Subjects.{IsFrontState, IsBackState, IsFrontWrite, stage_needs, state_needs, Sees, SettledBack, FrontHeard, FrontSees, BackShows}
use Rattle.negotiation_laws.proofs.Holds.{Holds, back_shows, start_holds, happening_holds}
use Rattle.negotiation_laws.proofs.Found.{unlike, run_holds}
use Rattle.negotiation_laws.proofs.Resting.{heard, IsWait, IsBackWait, back_is_now}

-- what a front with unfinished requests that rests before it is connected has read last, by its own state
abbrev pub Awaits : BusState → BusState → Type 0
Awaits state.Initialising b = b ≡ state.Initialising
Awaits state.Initialised b = b ≡ state.InitWait
Awaits own b = Unit {0}

-- its watch then
abbrev pub RestSees : BusState → BusState → Watches → Type 0
RestSees state.Initialising b w = Sees back_state w (b ≡ state.Initialising)
RestSees state.Initialised b w = Sees back_state w (b ≡ state.InitWait)
RestSees own b w = Unit {0}

abbrev pub HeardAt : FrontBusStage → BusState → BusState → Watches → Type 0
HeardAt stage.Rest own b w = RestSees own b w
HeardAt s own b w = Unit {0}

-- so of a negotiation
abbrev pub IsHeard : Negotiation → Type 0
IsHeard n = HeardAt n.front.stage n.front.state n.back.state n.keys.front

-- so it is at the beginning
pub heard_start : (v : FrontView) (f : Features) (d : DiskFacts) → IsHeard (start_of v f d)
heard_start v f d = tt

rest_sees : (own b : BusState) (w : Watches) → Sees back_state w (Awaits own b) → RestSees own b w
rest_sees state.Initialising b w h = h
rest_sees state.Initialised b w h = h
rest_sees own b w h = tt

-- what it reads and rests at
abbrev RestsAt : FrontAction → (own b : BusState) → Type 0
RestsAt action.Nothing own b = Awaits own b
RestsAt action.Close own b = Awaits own b
RestsAt action.Leave own b = Awaits own b
RestsAt act own b = Unit {0}

-- with unfinished requests it publishes for a back that offers, and connects to one that has connected, whether it is closing or not
offer_rests : (own : BusState) → RestsAt (on_offer own) own state.InitWait
offer_rests state.Initialising = tt
offer_rests state.Initialised = refl
offer_rests own = tt

connected_rests : (own : BusState) → 3 ≤ state_number own → RestsAt (on_connected own) own state.Connected
connected_rests state.Initialising late = absurd (omega arith)
connected_rests state.Initialised late = tt
connected_rests own late = tt

closing_rests : (own : BusState) → 3 ≤ state_number own → RestsAt (on_closing own false) own state.Closing
closing_rests state.Initialising late = absurd (omega arith)
closing_rests state.Initialised late = tt
closing_rests own late = tt

start_rests : (own : BusState) → state_needs own ≤ 1 → Awaits own state.Initialising
start_rests state.Initialising after = refl
start_rests state.Initialised after = absurd (omega arith)
start_rests own after = tt

act_rests : (b own : BusState) (closing : Bool) → IsBackState b → state_needs own ≤ state_number b → (4 ≤ state_number b → 3 ≤ state_number own)
    → RestsAt (front_action own closing false (Some b)) own b
act_rests state.Initialising own closing honest after connected = start_rests own after
act_rests state.InitWait own true honest after connected = offer_rests own
act_rests state.InitWait own false honest after connected = offer_rests own
act_rests state.Connected own true honest after connected = connected_rests own (connected (omega arith))
act_rests state.Connected own false honest after connected = connected_rests own (connected (omega arith))
act_rests state.Closing own closing honest after connected = closing_rests own (connected (omega arith))
act_rests state.Closed own closing honest after connected = tt
act_rests b own closing honest after connected = absurd honest

-- such a front begins no close
due_busy : (s : FrontBusStage) (v : FrontView) → due_at s v false ≡ s
due_busy stage.Rest v = by_test v.closing
  where
    by_test : (closing : Bool) → (if closing && false then closing_stage v.state v else stage.Rest) ≡ stage.Rest
    by_test true = refl
    by_test false = refl
due_busy s v = refl

module _ (b : BusState) where
  -- the front's watch, by what it does
  abbrev Hears : FrontView → Watches → Type 0
  Hears v w = HeardAt v.stage v.state b w

  acted_hears : (act : FrontAction) (v : FrontView) (w : Watches) → RestsAt act v.state b → Sees back_state w (Unit {0}) → Hears (acted act (at stage.ReadState v)) w
  acted_hears action.Nothing v w rests h = rest_sees v.state b w (sees_so back_state w (Unit {0}) (Awaits v.state b) (λ u. rests) h)
  acted_hears action.Close v w rests h = rest_sees v.state b w (sees_so back_state w (Unit {0}) (Awaits v.state b) (λ u. rests) h)
  acted_hears action.Leave v w rests h = rest_sees v.state b w (sees_so back_state w (Unit {0}) (Awaits v.state b) (λ u. rests) h)
  acted_hears other v w rests h = tt

  state_hears : (v : FrontView) (o : Option (List ℕ)) (w : Watches) → o ≡ Some (state_text b) → RestsAt (front_action v.state v.closing false (Some b)) v.state b → Sees back_state w (Unit {0})
      → Hears (acted (front_action v.state v.closing false (state_read o)) (at stage.ReadState v)) w
  state_hears v o w shown rests h =
      subst (λ (r : Option BusState). Hears (acted (front_action v.state v.closing false r) (at stage.ReadState v)) w) (sym (state_shown o b shown)) (acted_hears (front_action v.state v.closing false (Some b)) v w rests h)

  -- where it doesn't rest nothing is asked
  feature_next : (k : Option BackKey) (own : BusState) (w : Watches) → HeardAt (after_feature k) own b w
  feature_next (Some k) own w = tt
  feature_next None own w = tt

  feature_hears : (k : BackKey) (o : Option ℕ) (v : FrontView) (w : Watches) → Hears (feature_step k o v) w
  feature_hears k None v w = tt
  feature_hears k (Some m) v w = feature_next (next_feature k) v.state w

  fact_next : (k : Option BackKey) (own : BusState) (w : Watches) → HeardAt (after_fact k) own b w
  fact_next (Some k) own w = tt
  fact_next None own w = tt

  fact_hears : (k : BackKey) (o : Option ℕ) (v : FrontView) (w : Watches) → Hears (fact_step k o v) w
  fact_hears k None v w = tt
  fact_hears k (Some m) v w = fact_next (next_fact k) v.state w

  publish_hears : (next : Option FrontKey) (own : BusState) (w : Watches) → HeardAt (after_published next) own b w
  publish_hears (Some k) own w = tt
  publish_hears None own w = tt

  others_hear : (port : Option ℕ) (own : BusState) (w : Watches) → HeardAt (after_grants port) own b w
  others_hear (Some port) own w = tt
  others_hear None own w = tt

  -- a state is written: the watch of the back's state stands
  written_hears : (s : BusState) (v : FrontView) (w : Watches) → IsFrontWrite (stage.WriteState s) → FrontSees (stage.WriteState s) v.closing v.state v.gone b w
      → Hears (written s (at (stage.WriteState s) v)) (fired w front_state)
  written_hears state.Initialised v w writes h = sees_kept back_state front_state w (b ≡ state.InitWait) refl h
  written_hears state.Connected v w writes h = tt
  written_hears state.Closing v w writes h = tt
  written_hears state.Closed v w writes h = tt
  written_hears s v w writes h = absurd writes

  -- it waits: its watch is taken, or it stays as it is
  woken_hears : (v : FrontView) (w : Watches) (A : Type 0) → Sees back_state w A → RestSees v.state b w → Hears (step_at stage.Rest (at stage.Rest v) false (front_woken (next_watch w))) (taken w)
  woken_hears v w A (inl e) rests = subst (λ (u : Watches). Hears (step_at stage.Rest (at stage.Rest v) false (front_woken (next_watch u))) (taken u)) (sym e) tt
  woken_hears v w A (inr (e, a)) rests =
      subst (λ (u : Watches). RestSees v.state b u → Hears (step_at stage.Rest (at stage.Rest v) false (front_woken (next_watch u))) (taken u)) (sym e) (λ h. h) rests

  broken_hears : (word : ℕ) (o : Option (List ℕ)) (v : FrontView) (w : Watches) → Hears (step_at (stage.Broken word) (at (stage.Broken word) v) false (front_woken o)) w
  broken_hears word None v w = tt
  broken_hears word (Some path) v w = tt

  closed_hears : (o : Option (List ℕ)) (v : FrontView) (w : Watches) → Hears (step_at stage.Closed (at stage.Closed v) false (front_woken o)) w
  closed_hears None v w = tt
  closed_hears (Some path) v w = tt

  -- each move of a front with unfinished requests
  hears_at : (s : FrontBusStage) (v : FrontView) (port : ℕ) (d : Directory) → key_of d.keys back_state ≡ Some (state_text b) → RestsAt (front_action v.state v.closing false (Some b)) v.state b
      → IsFrontWrite s → FrontSees s v.closing v.state v.gone b d.front → HeardAt s v.state b d.front
      → Hears (step_at s (at s v) false (front_answered (ask_at s v) port d)) (front_done (ask_at s v) d).front
  hears_at stage.Start v port d shown rests writes sees h = rest_sees v.state b (with_watch d.front back_state) (inl (ap (λ (u : Watches). with_watch u back_state) sees))
  hears_at stage.Rest v port d shown rests writes sees h = woken_hears v d.front (FrontHeard stage.Rest v.closing v.state v.gone b) sees h
  hears_at stage.ReadState v port d shown rests writes sees h = state_hears v (key_of d.keys back_state) d.front shown rests sees
  hears_at (stage.ReadFeature k) v port d shown rests writes sees h = feature_hears k (count_read (key_of d.keys (back_path k))) (at (stage.ReadFeature k) v) d.front
  hears_at (stage.RingWord word) v port d shown rests writes sees h = either (λ (one : FrontBusStage). HeardAt one v.state b d.front) (word == 15) (stage.Grant 0) (stage.RingWord (word + 1)) tt tt
  hears_at (stage.Grant page) v port d shown rests writes sees h = either (λ (one : FrontBusStage). HeardAt one v.state b d.front) (nat_lt (page + 1) (pages_of v)) (stage.Grant (page + 1)) stage.NewPort tt tt
  hears_at (stage.Publish k) v port d shown rests writes sees h = publish_hears (next_published (ring_order v) k) v.state _
  hears_at (stage.ReadFact k) v port d shown rests writes sees h = fact_hears k (fact_read k (key_of d.keys (back_path k))) (at (stage.ReadFact k) v) d.front
  hears_at (stage.WriteState s) v port d shown rests writes sees h = written_hears s v d.front writes sees
  hears_at (stage.EndGrant page) v port d shown rests writes sees h = either (λ (one : FrontBusStage). HeardAt one v.state b d.front) (nat_lt (page + 1) (pages_of v)) (stage.EndGrant (page + 1)) stage.EndOtherGrants tt tt
  hears_at stage.EndOtherGrants v port d shown rests writes sees h = others_hear v.port v.state d.front
  hears_at stage.Closed v port d shown rests writes sees h = closed_hears (next_watch d.front) v _
  hears_at (stage.Broken word) v port d shown rests writes sees h = broken_hears word (next_watch d.front) v _
  hears_at other v port d shown rests writes sees h = tt

-- a move of the back leaves the front's watch, or fires it
back_leaves : (a : BackBusAsk) (d : Directory) (b s : BusState) → Sees back_state d.front (b ≡ s) → Sees back_state (back_done a d).front (back_own a b ≡ s)
back_leaves (back_ask.SetState c) d b s h = sees_fired back_state back_state d.front (b ≡ s) (c ≡ s) refl h
back_leaves (back_ask.SetKey k value) d b s h = sees_kept back_state (back_path k) d.front (b ≡ s) (back_key_apart k) h
back_leaves back_ask.Wait d b s h = h
back_leaves a d b s h = h

back_rests : (own : BusState) (a : BackBusAsk) (d : Directory) (b : BusState) → RestSees own b d.front → RestSees own (back_own a b) (back_done a d).front
back_rests state.Initialising a d b h = back_leaves a d b state.Initialising h
back_rests state.Initialised a d b h = back_leaves a d b state.InitWait h
back_rests own a d b h = tt

back_hears : (s : FrontBusStage) (own : BusState) (a : BackBusAsk) (d : Directory) (b : BusState) → HeardAt s own b d.front → HeardAt s own (back_own a b) (back_done a d).front
back_hears stage.Rest own a d b h = back_rests own a d b h
back_hears s own a d b h = tt

-- so it stays as the back moves
pub back_heard : (n : Negotiation) (page : Mapping) → IsHeard n → IsHeard (back_moved page n)
back_heard n page known =
    back_move_cases (λ (a : BackBusAsk) (w : BackView). HeardAt n.front.stage n.front.state w.state (back_done a n.keys).front) n.back page n.keys
    (λ e. back_hears n.front.stage n.front.state (back_ask.SetState state.Closing) n.keys n.back.state known)
    (λ e.
    let a = back_asks.ask_at n.back.stage n.back in
    subst (λ (b : BusState). HeardAt n.front.stage n.front.state b (back_done a n.keys).front) (sym (back_state_at n.back.stage n.back page n.keys)) (back_hears n.front.stage n.front.state a n.keys n.back.state known))

-- and as the front does, where it has unfinished requests
module _ (f : Features) (d : DiskFacts) (n : Negotiation) where
  front_heard : (idle : Bool) (port : ℕ) → idle ≡ false → Holds f d n → IsHeard n → IsHeard (front_moved idle port n)
  front_heard idle port busy h known =
      subst (λ (i : Bool). IsHeard (front_moved i port n)) (sym busy)
      (subst
      (λ (s : FrontBusStage). HeardAt (step_at s (at s n.front) false (front_answered (ask_at s n.front) port n.keys)).stage (step_at s (at s n.front) false (front_answered (ask_at s n.front) port n.keys)).state n.back.state (front_done (ask_at s n.front) n.keys).front)
      (sym (due_busy n.front.stage n.front))
      (hears_at n.back.state n.front.stage n.front port n.keys h.states.back (act_rests n.back.state n.front.state n.front.closing shows.honest h.front.state_after shows.connected) h.front.writes h.front_sees known))
    where
      shows : BackShows n.keys.keys n.back.state n.front.state f d
      shows = back_shows f d n h

  close_heard : IsHeard n → IsHeard (record n { front = closed n.front })
  close_heard known = closed_cases (λ (v : FrontView). IsHeard (record n { front = v })) n.front known known

  unplug_heard : IsHeard n → IsHeard (record n { back = unplugged n.back })
  unplug_heard known = unplugged_cases (λ (v : BackView). IsHeard (record n { back = v })) n.back known known

  -- whatever happens
  pub heard_happens : (h : Happening) → IsBusy h → Holds f d n → IsHeard n → IsHeard (happened h n)
  heard_happens (FrontMoves idle port) busy h known = front_heard idle port busy h known
  heard_happens (BackMoves page) busy h known = back_heard n page known
  heard_happens FrontCloses busy h known = close_heard known
  heard_happens BackCloses busy h known = unplug_heard known

-- whatever happens, one thing after the other
all_heard : (f : Features) (d : DiskFacts) (xs : List Happening) (n : Negotiation) → AreBusy xs → HavePorts xs → Holds f d n → IsHeard n → IsHeard (after xs n)
all_heard f d [] n busy fits h known = known
all_heard f d (x ∷ xs) n busy fits h known = all_heard f d xs (happened x n) busy.1 fits.1 (happening_holds f d x n fits.0 h) (heard_happens f d n x busy.0 h known)

-- both ends wait, and no watch is pending: what the front awaits has happened
unsettled : (b own : BusState) → b ≡ state.Initialising → SettledBack b own ⊎ (b ≡ state.Closed) → ⊥
unsettled b own e (inl seen) = subst (λ (s : BusState). SettledBack s own) e seen
unsettled b own e (inr gone) = unlike b state.Initialising state.Closed e gone (omega arith)

unoffered : (b : BusState) → b ≡ state.InitWait → SettledBack b state.Initialised ⊎ (b ≡ state.Closed) → ⊥
unoffered b e (inl seen) = unlike state.Initialised state.Initialising state.Initialised (subst (λ (s : BusState). SettledBack s state.Initialised) e seen) refl (omega arith)
unoffered b e (inr gone) = unlike b state.InitWait state.Closed e gone (omega arith)

rest_late : (own b : BusState) (w : Watches) → IsFrontState own → has_pending w ≡ false → RestSees own b w → SettledBack b own ⊎ (b ≡ state.Closed) → 4 ≤ state_number own
rest_late state.Initialising b w honest none h other = absurd (unsettled b state.Initialising (heard back_state w (b ≡ state.Initialising) none h) other)
rest_late state.Initialised b w honest none h other = absurd (unoffered b (heard back_state w (b ≡ state.InitWait) none h) other)
rest_late state.Connected b w honest none h other = omega arith
rest_late state.Closing b w honest none h other = omega arith
rest_late state.Closed b w honest none h other = omega arith
rest_late own b w honest none h other = absurd honest

waits_late : (s : FrontBusStage) (v : FrontView) (b : BusState) (w : Watches) → IsTimely s v.state → IsFrontState v.state → stage_needs s ≤ state_number b → (6 ≤ state_number b → 5 ≤ state_number v.state)
    → has_pending w ≡ false → HeardAt s v.state b w → SettledBack b v.state ⊎ (b ≡ state.Closed) → IsWait (ask_at s v) → 4 ≤ state_number v.state
waits_late stage.Rest v b w timely honest after closed none h other waits = rest_late v.state b w honest none h other
waits_late stage.Closed v b w timely honest after closed none h other waits = rw timely (omega arith)
waits_late (stage.Broken word) v b w timely honest after closed none h other waits = let late : 5 ≤ state_number v.state = closed after in omega arith
waits_late stage.Start v b w timely honest after closed none h other waits = absurd waits
waits_late s v b w timely honest after closed none h other waits = absurd waits

pub heard_rests : (f : Features) (d : DiskFacts) (n : Negotiation) → IsAtRest false n → Holds f d n → IsHeard n → 4 ≤ state_number n.front.state
heard_rests f d n rest h known =
    let shows = back_shows f d n h in
    let back_waits = subst (λ (a : BackBusAsk). IsBackWait a) (sym rest.back_waits) tt in
    let other = back_is_now n.back n.front.state n.keys.back h.back_sound.placed rest.back_taken h.back_sees back_waits in
    let front_waits = subst (λ (s : FrontBusStage). IsWait (ask_at s n.front)) (due_busy n.front.stage n.front) (subst (λ (a : FrontBusAsk). IsWait a) (sym rest.front_waits) tt) in
    waits_late n.front.stage n.front n.back.state n.keys.front h.front_sound.timely h.front.own h.front.stage_after shows.closed rest.front_taken known other front_waits

-- so in each run
pub busy_fronts_connect : BusyFrontsConnect
busy_fronts_connect r busy rest =
    heard_rests r.offer r.facts (now r) rest (run_holds r)
    (all_heard r.offer r.facts r.happenings (begins r) busy r.ports (start_holds r.front r.offer r.facts r.within) (heard_start r.front r.offer r.facts))
