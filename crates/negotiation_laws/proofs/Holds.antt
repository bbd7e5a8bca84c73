-- What is true of a negotiation stays true, whatever happens to it.
use Rattle.std.proofs.Common.{◌≡◌, ◌∙◌, ap, sym, subst, decimal, ◌+◌, ℕ, ◌^◌, ◌<◌, ◌≤◌, ◌&&◌, ◌||◌, Bool, true, false, true≢false, List, [], ◌∷◌, refl, arith, le_trans, if◌then◌else◌}
use Rattle.std.proofs.lemmas.Fmt.{decimal_by_steps}
use Rattle.std.specs.Prelude.{Option, None, Some, IsSome, unwrap_or}
use Rattle.blk_base.specs.declared.parts.Mapping.{Mapping}
use Rattle.key_directory.specs.Directory.{Directory, key_of}
use Rattle.key_directory.specs.Watches.{Watches, next_watch, fired}
use Rattle.xenbus_state.specs.States.{state_number}
use Rattle.xenbus_state.specs.Tables.{front_action}
use Rattle.xenbus_state.specs.declared.keys.BackKey.{BackKey}
use Rattle.xenbus_state.specs.declared.keys.FrontKey.{FrontKey}
use Rattle.xenbus_state.specs.declared.offer.Features.{Features}
use Rattle.xenbus_state.specs.declared.offer.DiskFacts.{DiskFacts}
use Rattle.xenbus_state.specs.declared.values.FrontTerms.{FrontTerms}
use Rattle.xenbus_state.specs.declared.state.BusState.{BusState}
use Rattle.xenbus_state.specs.declared.state.BusState.TheVariants as state
use Rattle.xenbus_state.specs.declared.stage.FrontBusStage.{FrontBusStage}
use Rattle.xenbus_state.specs.declared.stage.FrontBusStage.TheVariants as front
use Rattle.xenbus_state.specs.declared.stage.BackBusStage.{BackBusStage}
use Rattle.xenbus_state.specs.declared.stage.BackBusStage.TheVariants as back
use Rattle.xenbus_state.specs.declared.front.FrontBusAsk.{FrontBusAsk}
use Rattle.xenbus_state.specs.declared.front.FrontBusAsk.TheVariants as front_ask
use Rattle.xenbus_state.specs.declared.back.BackBusAsk.{BackBusAsk}
use Rattle.xenbus_state.specs.declared.back.BackBusAsk.TheVariants as back_ask
use Rattle.xenbus_state.specs.FrontView.{FrontView, ring_order, terms_of, closed, is_broken}
use Rattle.xenbus_state.specs.FrontAsk as front_asks
use Rattle.xenbus_state.specs.FrontAsk.{due, due_at, leaving, closing_stage}
use Rattle.xenbus_state.specs.FrontStep as front_step
use Rattle.xenbus_state.specs.FrontSound as front_sound
use Rattle.xenbus_state.specs.BackView.{BackView, is_halting, unplugged}
use Rattle.xenbus_state.specs.BackAsk as back_asks
use Rattle.xenbus_state.specs.BackStep as back_step
use Rattle.xenbus_state.specs.BackSound as back_sound
use Rattle.xenbus_state.proofs.FrontKeeps.{front_keeps, front_rises}
use Rattle.xenbus_state.specs.Runs.{Closes, Unplugs}
use Rattle.xenbus_state.proofs.FrontRuns.{own_after, state_after, front_turn_keeps}
use Rattle.xenbus_state.proofs.BackKeeps.{back_keeps, says_where}
use Rattle.xenbus_state.proofs.BackTurns.{back_rises, back_turn_keeps, back_starts}
use Rattle.negotiation_laws.specs.Negotiation.{Negotiation, front_state, back_state, state_text, front_woken, back_woken, front_answered, front_done, back_answered, back_done, front_moved, back_moved}
use Rattle.negotiation_laws.specs.Laws.{AreStatesSaid}
use Rattle.negotiation_laws.specs.Said.{front_texts, back_texts}
use Rattle.negotiation_laws.specs.Negotiation.{start_of}
use Rattle.negotiation_laws.specs.Happening.{Happening, FrontMoves, BackMoves, FrontCloses, BackCloses, happened, after}
use Rattle.negotiation_laws.specs.Within.{IsWithin, HasPort, HavePorts}
use Rattle.negotiation_laws.proofs.Choices.{either}
use Rattle.negotiation_laws.proofs.Keys.{back_texts_state}
use Rattle.negotiation_laws.proofs.Watching.{sees_so, back_sees_kept}
use Rattle.negotiation_laws.proofs.Between.{back_own, front_ask_leaves, front_ask_state, front_ask_own, front_ask_seen, back_ask_leaves, back_ask_state, back_ask_own, back_ask_seen, front_own_rises, back_own_rises}
use Rattle.negotiation_laws.proofs.FrontActs as front_acts
use Rattle.negotiation_laws.proofs.FrontSteps.{due_holds, front_holds_at}
use Rattle.negotiation_laws.proofs.FrontSights.{due_sees, front_sees_at, front_keeps_terms}
use Rattle.negotiation_laws.proofs.BackActs as back_acts
use Rattle.negotiation_laws.proofs.BackSteps.{back_holds_at}
use Rattle.negotiation_laws.proofs.BackSights.{ActsAt, back_sees_at, back_state_at}
use Rattle.negotiation_laws.proofs.Shows.{speaks, serving_open, tells}
use Rattle.negotiation_laws.proofs.Subjects.{serves, FrontSaid, BackSaid, BackRead, FrontHolds, BackHolds, Settled, RestHeard, FactsHeard, FrontSees, BackSees, BackShows, FrontShows}

-- both ends and the directory, over a back that offers f and whose disk is d
pub record Holds (f : Features) (d : DiskFacts) (t : Negotiation) : Type 0 where
  pub indirect : f.indirect < 2 ^ 32
  pub order : f.order < 2 ^ 32
  pub sectors : d.sectors < 2 ^ 64
  pub front_sound : front_sound.IsSound t.front
  pub back_sound : back_sound.IsSound t.back
  pub states : AreStatesSaid t
  pub front : FrontHolds t.front.stage t.front (state_number t.back.state) f d (front_texts t.keys.keys)
  pub back : BackHolds t.back.stage t.back (state_number t.front.state) t.front.port (terms_of t.front) f d (back_texts t.keys.keys)
  pub front_sees : FrontSees t.front.stage t.front.closing t.front.state t.front.gone t.back.state t.keys.front
  pub back_sees : BackSees t.back.stage t.back.state t.front.state t.keys.back

-- each answer is of the ask's kind
front_woken_lawful : (o : Option (List ℕ)) → front_asks.IsAnswer front_ask.Wait (front_woken o)
front_woken_lawful None = tt
front_woken_lawful (Some path) = tt

-- so of the front
pub front_lawful : (a : FrontBusAsk) (port : ℕ) (d : Directory) → front_asks.IsAnswer a (front_answered a port d)
front_lawful front_ask.Wait port d = front_woken_lawful (next_watch d.front)
front_lawful a port d = tt

back_woken_lawful : (o : Option (List ℕ)) → back_asks.IsAnswer back_ask.Wait (back_woken o)
back_woken_lawful None = tt
back_woken_lawful (Some path) = tt

-- so of the back
pub back_lawful : (a : BackBusAsk) (page : Mapping) (d : Directory) → back_asks.IsAnswer a (back_answered a page d)
back_lawful back_ask.Wait page d = back_woken_lawful (next_watch d.back)
back_lawful a page d = tt

-- the stage that is due suits the state
due_closing_timely : (own : BusState) (v : FrontView) → state_number own < 6 → front_sound.IsTimely (closing_stage own v) own
due_closing_timely state.Closing v low = by_gone v.gone v.port
  where
    by_gone : (gone : Bool) (port : Option ℕ) → front_sound.IsTimely (leaving gone port) state.Closing
    by_gone false port = omega arith
    by_gone true (Some port) = refl
    by_gone true None = refl
due_closing_timely state.Unknown v low = (omega arith, omega arith)
due_closing_timely state.Initialising v low = (omega arith, omega arith)
due_closing_timely state.InitWait v low = (omega arith, omega arith)
due_closing_timely state.Initialised v low = (omega arith, omega arith)
due_closing_timely state.Connected v low = (omega arith, omega arith)
due_closing_timely own v low = absurd (omega arith)

-- so where what is due is begun
pub due_timely : (s : FrontBusStage) (v : FrontView) (idle : Bool) → front_sound.IsTimely s v.state → front_sound.IsTimely (due_at s v idle) v.state
due_timely front.Rest v idle h = either (λ (d : FrontBusStage). front_sound.IsTimely d v.state) (v.closing && idle) (closing_stage v.state v) front.Rest (due_closing_timely v.state v h) h
due_timely s v idle h = h

-- a ring has few pages
pub few_orders : (v : FrontView) → v.order ≤ 4 → ring_order v ≤ 4
few_orders v few = omega arith

port_fits : (port : Option ℕ) → ((p : ℕ) → port ≡ Some p → p < 2 ^ 32) → unwrap_or port 0 < 2 ^ 32
port_fits None fits = omega arith
port_fits (Some p) fits = fits p refl

module _ (f : Features) (d : DiskFacts) (t : Negotiation) where
  -- what the front finds of the back
  pub back_shows : Holds f d t → BackShows t.keys.keys t.back.state t.front.state f d
  back_shows h =
      let speech = speaks (state_number t.front.state) t.front.port (terms_of t.front) f d (back_texts t.keys.keys) t.back.stage t.back h.back_sound.placed h.back in
      record {
        state = h.states.back;
        honest = h.back.own;
        connected = speech.connected;
        closed = speech.closed;
        features = speech.features;
        facts = speech.facts;
        indirect = h.indirect;
        order = h.order;
        sectors = h.sectors;
      }

  -- what the back finds of the front
  pub front_shows : Holds f d t → FrontShows t.keys.keys t.front.state t.front.port (terms_of t.front)
  front_shows h =
      let told = tells t.front.stage t.front.state t.front.port (terms_of t.front) (front_texts t.keys.keys) h.front_sound.timely h.front.said in
      record {
        state = h.states.front;
        honest = h.front.own;
        ready = told.ready;
        said = told.said;
        order = few_orders t.front h.front_sound.order;
        fits = port_fits t.front.port h.front.fits;
      }

  -- what the front does on reading the back's state now
  pub front_acts_now : (idle : Bool) → Holds f d t
      → front_acts.ActsFor (front_action t.front.state t.front.closing idle (Some t.back.state)) t.front.state t.front.closing t.front.gone idle t.back.state
  front_acts_now idle h =
      let shows = back_shows h in
      front_acts.front_acts t.back.state t.front.state t.front.closing t.front.gone idle shows.honest h.front.own h.front.state_after shows.connected (λ o. (h.front.leaves_open o).0)

-- what is true of the back stays true where the front's state rises and its terms stay
back_holds_by : (s : BackBusStage) (v : BackView) (n m : ℕ) (port q : Option ℕ) (terms u : FrontTerms) (f : Features) (d : DiskFacts) (texts more : BackKey → Option (List ℕ))
    → n ≤ m → (serves s v.state ≡ true → (q ≡ port) × (u ≡ terms)) → more ≡ texts → BackHolds s v n port terms f d texts → BackHolds s v m q u f d more
back_holds_by s v n m port q terms u f d texts more rises keeps same h = record {
  own = h.own;
  offer = h.offer;
  disk = h.disk;
  serving_after = λ e. (le_trans (h.serving_after e).0 rises, subst (λ (o : Option ℕ). IsSome o) (sym (keeps e).0) (h.serving_after e).1);
  halting_after = λ e. le_trans (h.halting_after e) rises;
  said = subst (λ (g : BackKey → Option (List ℕ)). BackSaid s v.state g f d) (sym same) h.said;
  read = λ e. subst (λ (r : FrontTerms). BackRead s v.terms r v.grefs) (sym (keeps e).1) (h.read e);
}

front_holds_by : (s : FrontBusStage) (v : FrontView) (n m : ℕ) (f : Features) (d : DiskFacts) (texts more : FrontKey → Option (List ℕ)) → n ≤ m → more ≡ texts
    → FrontHolds s v n f d texts → FrontHolds s v m f d more
front_holds_by s v n m f d texts more rises same h = record {
  own = h.own;
  writes = h.writes;
  stage_after = le_trans h.stage_after rises;
  state_after = le_trans h.state_after rises;
  gone_after = λ e. le_trans (h.gone_after e) rises;
  leaves_open = h.leaves_open;
  fits = h.fits;
  said = subst (λ (g : FrontKey → Option (List ℕ)). FrontSaid s v.state v.port (terms_of v) g) (sym same) h.said;
  read = h.read;
}

-- a move of the front
pub front_move_holds : (f : Features) (d : DiskFacts) (t : Negotiation) (idle : Bool) (port : ℕ) → port < 2 ^ 32 → Holds f d t
    → Holds f d (front_moved idle port t)
front_move_holds f d t idle port fits h =
    let v = t.front in
    let s = due v idle in
    let a = front_asks.ask_of v idle in
    let answer = front_answered a port t.keys in
    let w = front_step.step_of v idle answer in
    let n = state_number t.back.state in
    let lawful = front_lawful a port t.keys in
    let timely = due_timely v.stage v idle h.front_sound.timely in
    let shows = back_shows f d t h in
    let begun = due_holds n f d v.stage v idle (front_texts t.keys.keys) h.front in
    let wrote : w.state ≡ own_after a v.state = state_after v idle answer lawful in
    let rises : state_number v.state ≤ state_number w.state = subst (λ (o : BusState). state_number v.state ≤ state_number o) (sym wrote) (front_own_rises a v.state (front_rises v idle h.front_sound)) in
    let keeps : serves t.back.stage t.back.state ≡ true → (w.port ≡ v.port) × (terms_of w ≡ terms_of v) = λ e. (let kept = front_keeps_terms s v idle port t.keys n timely (h.back.serving_after e).0 begun.stage_after (serving_open t.back.stage t.back h.back_sound.placed e) in (kept.port, kept.terms)) in
    record {
      indirect = h.indirect;
      order = h.order;
      sectors = h.sectors;
      front_sound = front_keeps v idle answer lawful h.front_sound;
      back_sound = h.back_sound;
      states = record {
        front = subst (λ (o : BusState). key_of (front_done a t.keys).keys front_state ≡ Some (state_text o)) (sym wrote) (front_ask_own a t.keys v.state h.states.front);
        back = front_ask_state a t.keys ∙ h.states.back;
      };
      front = front_holds_at n f d s v idle port t.keys t.back.state refl timely fits (few_orders v h.front_sound.order) shows begun;
      back =
          back_holds_by t.back.stage t.back (state_number v.state) (state_number w.state) v.port w.port (terms_of v) (terms_of w) f d _ _ rises keeps (front_ask_leaves a t.keys) h.back;
      front_sees =
          front_sees_at t.back.state s v idle port t.keys shows.state (front_acts_now f d t idle h) begun.writes (λ o. (begun.leaves_open o).1) (due_sees t.back.state v.stage v idle t.keys.front h.front_sees);
      back_sees =
          subst (λ (o : BusState). BackSees t.back.stage t.back.state o (front_done a t.keys).back) (sym wrote) (front_ask_seen a t.keys t.back.stage t.back.state v.state h.back_sees);
    }

-- what the back does on reading the front's state now
pub acts_at : (f : Features) (d : DiskFacts) (t : Negotiation) (s : BackBusStage) → back_sound.IsPlaced s t.back → t.back.stage ≡ s → Holds f d t → ActsAt s t.back t.front.state
acts_at f d t back.ReadState placed e h =
    let held = subst (λ (s : BackBusStage). BackHolds s t.back (state_number t.front.state) t.front.port (terms_of t.front) f d (back_texts t.keys.keys)) e h.back in
    back_acts.back_acts t.front.state t.back.state t.back.unplugged t.back h.front.own placed (λ serving. (held.serving_after serving).0)
acts_at f d t s placed e h = tt

-- a back that says that it closes
saying_holds : (s : BackBusStage) (v : BackView) (n : ℕ) (port : Option ℕ) (terms : FrontTerms) (f : Features) (d : DiskFacts) (texts more : BackKey → Option (List ℕ))
    → back_asks.says_closing_at s v.state ≡ true → more ≡ texts → BackHolds s v n port terms f d texts
    → BackHolds s (record v { state = state.Closing }) n port terms f d more
saying_holds s v n port terms f d texts more e same h = by_stage s v.state refl e h.said h.serving_after h.read
  where
    by_stage : (s : BackBusStage) (own : BusState) → v.state ≡ own → back_asks.says_closing_at s own ≡ true → BackSaid s own texts f d
        → (serves s own ≡ true → (3 ≤ n) × IsSome port) → (serves s own ≡ true → BackRead s v.terms terms v.grefs)
        → BackHolds s (record v { state = state.Closing }) n port terms f d more
    by_stage back.Rest state.Connected e says said serving read =
        record { own = tt; offer = h.offer; disk = h.disk; serving_after = serving; halting_after = λ e. absurd (true≢false (sym e)); said = subst (λ (g : BackKey → Option (List ℕ)). BackSaid back.Rest state.Connected g f d) (sym same) said; read = read }
    by_stage back.ReadState state.Connected e says said serving read =
        record { own = tt; offer = h.offer; disk = h.disk; serving_after = serving; halting_after = λ e. absurd (true≢false (sym e)); said = subst (λ (g : BackKey → Option (List ℕ)). BackSaid back.Rest state.Connected g f d) (sym same) said; read = read }
    by_stage s own e says said serving read = absurd (cc)

saying_sees : (s : BackBusStage) (own fs : BusState) (w : Watches) → back_asks.says_closing_at s own ≡ true → BackSees s own fs w → BackSees s state.Closing fs (fired w back_state)
saying_sees back.Rest state.Connected fs w e h = back_sees_kept back_state back.Rest state.Closing fs w refl h
saying_sees back.ReadState state.Connected fs w e h = back_sees_kept back_state back.ReadState state.Closing fs w refl h
saying_sees s own fs w e h = absurd (cc)

-- a move of the back
pub back_move_holds : (f : Features) (d : DiskFacts) (t : Negotiation) (page : Mapping) → Holds f d t → Holds f d (back_moved page t)
back_move_holds f d t page h =
    let v = t.back in
    let a = back_asks.ask_of v in
    let answer = back_answered a page t.keys in
    let sound = back_keeps v answer (back_lawful a page t.keys) h.back_sound in
    by_test (back_asks.says_closing v) refl sound (back_rises v h.back_sound)
  where
    by_test : (says : Bool) → back_asks.says_closing t.back ≡ says
        → let a = (if says then back_ask.SetState state.Closing else back_asks.ask_at t.back.stage t.back) in
        let w = (if says then record t.back { state = state.Closing } else back_step.step_at t.back.stage t.back (back_answered a page t.keys)) in
        back_sound.IsSound w → back_sound.Rises t.back.state a → Holds f d (record { front = t.front; back = w; keys = back_done a t.keys })
    by_test true e sound rises =
        let where_said = says_where t.back e in
        let later = back_own_rises (back_ask.SetState state.Closing) t.back.state rises in
        record {
          indirect = h.indirect;
          order = h.order;
          sectors = h.sectors;
          front_sound = h.front_sound;
          back_sound = sound;
          states = record {
            front = back_ask_state (back_ask.SetState state.Closing) t.keys ∙ h.states.front;
            back = back_ask_own (back_ask.SetState state.Closing) t.keys t.back.state h.states.back;
          };
          front = front_holds_by t.front.stage t.front _ _ f d _ _ later (back_ask_leaves (back_ask.SetState state.Closing) t.keys) h.front;
          back =
              saying_holds t.back.stage t.back (state_number t.front.state) t.front.port (terms_of t.front) f d _ _ where_said (back_texts_state t.keys.keys (state_text state.Closing)) h.back;
          front_sees = back_ask_seen (back_ask.SetState state.Closing) t.keys t.front.stage t.front.closing t.front.state t.front.gone t.back.state h.front_sees;
          back_sees = saying_sees t.back.stage t.back.state t.front.state t.keys.back where_said h.back_sees;
        }
    by_test false e sound rises =
        let v = t.back in
        let a = back_asks.ask_at v.stage v in
        let w = back_step.step_at v.stage v (back_answered a page t.keys) in
        let wrote : w.state ≡ back_own a v.state = back_state_at v.stage v page t.keys in
        let later : state_number v.state ≤ state_number w.state = subst (λ (o : BusState). state_number v.state ≤ state_number o) (sym wrote) (back_own_rises a v.state rises) in
        let shows = front_shows f d t h in
        record {
          indirect = h.indirect;
          order = h.order;
          sectors = h.sectors;
          front_sound = h.front_sound;
          back_sound = sound;
          states = record {
            front = back_ask_state a t.keys ∙ h.states.front;
            back = subst (λ (o : BusState). key_of (back_done a t.keys).keys back_state ≡ Some (state_text o)) (sym wrote) (back_ask_own a t.keys v.state h.states.back);
          };
          front = front_holds_by t.front.stage t.front _ _ f d _ _ later (back_ask_leaves a t.keys) h.front;
          back = back_holds_at (state_number t.front.state) t.front.port (terms_of t.front) f d v.stage v page t.keys t.front.state refl h.back_sound.placed shows h.back;
          front_sees =
              subst (λ (o : BusState). FrontSees t.front.stage t.front.closing t.front.state t.front.gone o (back_done a t.keys).front) (sym wrote) (back_ask_seen a t.keys t.front.stage t.front.closing t.front.state t.front.gone v.state h.front_sees);
          back_sees = back_sees_at t.front.state v.stage v page t.keys shows.state (acts_at f d t v.stage h.back_sound.placed refl h) h.back_sound.placed h.back_sees;
        }

-- an end is asked to close
settled_open : (own b : BusState) → Settled own b → b ≡ state.Closed → ⊥
settled_open state.Initialising state.Initialising h e = front_acts.states_differ state.Initialising state.Closed (omega arith) e
settled_open state.Initialised state.InitWait h e = front_acts.states_differ state.InitWait state.Closed (omega arith) e
settled_open state.Connected state.Connected h e = front_acts.states_differ state.Connected state.Closed (omega arith) e
settled_open own b h e = h

rest_closing : (closing gone : Bool) (own b : BusState) → RestHeard closing own gone b → RestHeard true own gone b
rest_closing true gone own b h = h
rest_closing false gone own b h = λ e. absurd (settled_open own b h e)

facts_closing : (closing : Bool) (b : BusState) → FactsHeard closing b → FactsHeard true b
facts_closing true b h = h
facts_closing false b h = front_acts.states_differ b state.Closed (rw h (omega arith))

closing_sees : (s : FrontBusStage) (closing : Bool) (own : BusState) (gone : Bool) (b : BusState) (w : Watches) → FrontSees s closing own gone b w → FrontSees s true own gone b w
closing_sees front.Rest closing own gone b w h = sees_so back_state w (RestHeard closing own gone b) (RestHeard true own gone b) (rest_closing closing gone own b) h
closing_sees (front.ReadFact k) closing own gone b w h = sees_so back_state w (FactsHeard closing b) (FactsHeard true b) (facts_closing closing b) h
closing_sees (front.WriteState state.Connected) closing own gone b w h = sees_so back_state w (FactsHeard closing b) (FactsHeard true b) (facts_closing closing b) h
closing_sees s closing own gone b w h = h

-- so where the front is asked to close
pub front_close_holds : (f : Features) (d : DiskFacts) (t : Negotiation) → Holds f d t → Holds f d (record t { front = closed t.front })
front_close_holds f d t h = by_test (t.front.closing || is_broken t.front.stage) (front_turn_keeps Closes t.front tt h.front_sound)
  where
    by_test : (already : Bool) → let w = (if already then t.front else record t.front { closing = true }) in front_sound.IsSound w → Holds f d (record t { front = w })
    by_test true sound = h
    by_test false sound = record {
      indirect = h.indirect;
      order = h.order;
      sectors = h.sectors;
      front_sound = sound;
      back_sound = h.back_sound;
      states = record { front = h.states.front; back = h.states.back };
      front = record { own = h.front.own; writes = h.front.writes; stage_after = h.front.stage_after; state_after = h.front.state_after; gone_after = h.front.gone_after; leaves_open = λ o. absurd (true≢false o); fits = h.front.fits; said = h.front.said; read = h.front.read };
      back = h.back;
      front_sees = closing_sees t.front.stage t.front.closing t.front.state t.front.gone t.back.state t.keys.front h.front_sees;
      back_sees = h.back_sees;
    }

-- so where the back is
pub back_close_holds : (f : Features) (d : DiskFacts) (t : Negotiation) → Holds f d t → Holds f d (record t { back = unplugged t.back })
back_close_holds f d t h = by_test (is_halting t.back.stage) (back_turn_keeps Unplugs t.back tt h.back_sound)
  where
    by_test : (halts : Bool) → let w = (if halts then t.back else record t.back { unplugged = true }) in back_sound.IsSound w → Holds f d (record t { back = w })
    by_test true sound = h
    by_test false sound = record {
      indirect = h.indirect;
      order = h.order;
      sectors = h.sectors;
      front_sound = h.front_sound;
      back_sound = sound;
      states = record { front = h.states.front; back = h.states.back };
      front = h.front;
      back = record { own = h.back.own; offer = h.back.offer; disk = h.back.disk; serving_after = h.back.serving_after; halting_after = h.back.halting_after; said = h.back.said; read = h.back.read };
      front_sees = h.front_sees;
      back_sees = h.back_sees;
    }

-- whatever happens
pub happening_holds : (f : Features) (d : DiskFacts) (x : Happening) (t : Negotiation) → HasPort x → Holds f d t → Holds f d (happened x t)
happening_holds f d (FrontMoves idle port) t fits h = front_move_holds f d t idle port fits h
happening_holds f d (BackMoves page) t fits h = back_move_holds f d t page h
happening_holds f d FrontCloses t fits h = front_close_holds f d t h
happening_holds f d BackCloses t fits h = back_close_holds f d t h

-- whatever happens, one thing after the other
pub all_hold : (f : Features) (d : DiskFacts) (xs : List Happening) (t : Negotiation) → HavePorts xs → Holds f d t → Holds f d (after xs t)
all_hold f d [] t fits h = h
all_hold f d (x ∷ xs) t fits h = all_hold f d xs (happened x t) fits.1 (happening_holds f d x t fits.0 h)

-- the text of a state of one digit
one_digit : decimal 1 ≡ 49 ∷ []
one_digit = decimal_by_steps (λ m ds. m < 10 → ds ≡ (48 + m) ∷ []) (λ m low below. refl) (λ m ds le h below. absurd (omega arith)) 1 (omega arith) (omega arith)

-- at the beginning
pub start_holds : (v : FrontView) (f : Features) (d : DiskFacts) → IsWithin v f d → Holds f d (start_of v f d)
start_holds v f d within = record {
  indirect = within.indirect;
  order = within.offered;
  sectors = within.sectors;
  front_sound = record { order = within.order; placed = tt; timely = refl; port = tt };
  back_sound = back_starts f d;
  states = record { front = ap Some (sym one_digit); back = ap Some (sym one_digit) };
  front = record { own = tt; writes = tt; stage_after = omega arith; state_after = omega arith; gone_after = λ e. absurd (true≢false (sym e)); leaves_open = λ e. (omega arith, tt); fits = λ p e. absurd (true≢false (sym (subst (λ (o : Option ℕ). IsSome o) (sym e) refl))); said = (refl, refl); read = tt };
  back = record { own = tt; offer = refl; disk = refl; serving_after = λ e. absurd (true≢false (sym e)); halting_after = λ e. absurd (true≢false (sym e)); said = tt; read = λ e. absurd (true≢false (sym e)) };
  front_sees = refl;
  back_sees = refl;
}

-- so at every moment
pub holds : (v : FrontView) (f : Features) (d : DiskFacts) (xs : List Happening) → IsWithin v f d → HavePorts xs → Holds f d (after xs (start_of v f d))
holds v f d xs within fits = all_hold f d xs (start_of v f d) fits (start_holds v f d within)
