-- No watch of the front is lost, and its terms stay once it has said them.
use Rattle.std.proofs.Common.{◌≡◌, sym, subst, ap, ℕ, ◌+◌, ◌<◌, ◌≤◌, ◌==◌, ◌&&◌, nat_lt, Bool, true, false, List, refl, arith, inl, inr, if◌then◌else◌}
use Rattle.std.specs.Prelude.{Option, Some, None}
use Rattle.key_directory.specs.Directory.{Directory, key_of}
use Rattle.key_directory.specs.Watches.{Watches, next_watch, taken, fired, with_watch}
use Rattle.xenbus_state.specs.States.{state_number, state_read}
use Rattle.xenbus_state.specs.Tables.{front_action}
use Rattle.xenbus_state.specs.Reading.{count_read, fact_read}
use Rattle.xenbus_state.specs.Programs.{next_published}
use Rattle.xenbus_state.specs.declared.keys.FrontKey.{FrontKey}
use Rattle.xenbus_state.specs.declared.keys.BackKey.{BackKey}
use Rattle.xenbus_state.specs.declared.keys.BackKey.TheVariants as back_key
use Rattle.xenbus_state.specs.declared.state.BusState.{BusState}
use Rattle.xenbus_state.specs.declared.state.BusState.TheVariants as state
use Rattle.xenbus_state.specs.declared.stage.FrontBusStage.{FrontBusStage}
use Rattle.xenbus_state.specs.declared.stage.FrontBusStage.TheVariants as stage
use Rattle.xenbus_state.specs.declared.table.FrontAction.{FrontAction}
use Rattle.xenbus_state.specs.declared.table.FrontAction.TheVariants as action
use Rattle.xenbus_state.specs.FrontView.{FrontView, ring_order, pages_of, terms_of}
use Rattle.xenbus_state.specs.FrontAsk.{due_at, leaving, closing_stage, ask_at}
use Rattle.xenbus_state.specs.FrontStep.{at, step_at, acted, feature_step, fact_step, written, after_published, after_grants}
use Rattle.xenbus_state.specs.FrontSound.{IsTimely}
use Rattle.negotiation_laws.specs.Negotiation.{front_path, back_path, front_state, back_state, front_woken, front_answered, front_done}
use Rattle.negotiation_laws.proofs.FrontActs.{ActsFor, states_differ}
use Rattle.negotiation_laws.specs.Negotiation.{state_text}
use Rattle.negotiation_laws.proofs.Shown.{state_shown}
use Rattle.negotiation_laws.proofs.Watching.{sees_so, sees_kept, sees_taken, front_sees_kept}
use Rattle.negotiation_laws.proofs.Subjects.{IsFrontWrite, IsOpenAt, stage_needs, Sees, RestHeard, FactsHeard, FrontSees}

-- the front's watch, by what it does
abbrev pub Sight : FrontView → BusState → Watches → Type 0
Sight v b w = FrontSees v.stage v.closing v.state v.gone b w

module _ (b : BusState) where
  -- what is due is begun
  due_closing : (own : BusState) (v : FrontView) (w : Watches) → v.closing ≡ true → Sees back_state w (RestHeard v.closing own v.gone b)
      → FrontSees (closing_stage own v) v.closing own v.gone b w
  due_closing state.Closing v w closing h = by_gone v.gone v.port h
    where
      by_gone : (gone : Bool) (port : Option ℕ) → Sees back_state w (RestHeard v.closing state.Closing v.gone b) → FrontSees (leaving gone port) v.closing state.Closing v.gone b w
      by_gone false port h = h
      by_gone true (Some port) h = sees_so back_state w (RestHeard v.closing state.Closing v.gone b) (Unit {0}) (λ a. tt) h
      by_gone true None h = sees_so back_state w (RestHeard v.closing state.Closing v.gone b) (Unit {0}) (λ a. tt) h
  due_closing own v w closing h =
      sees_so back_state w (RestHeard v.closing own v.gone b) (RestHeard true own v.gone b) (λ a. subst (λ (c : Bool). RestHeard c own v.gone b) closing a) h

  both : (a c : Bool) → (a && c) ≡ true → a ≡ true
  both true c e = refl
  both false c e = e

  due_resting : (closes : Bool) (v : FrontView) (idle : Bool) (w : Watches) → (v.closing && idle) ≡ closes → Sees back_state w (RestHeard v.closing v.state v.gone b)
      → FrontSees (if closes then closing_stage v.state v else stage.Rest) v.closing v.state v.gone b w
  due_resting true v idle w e h = due_closing v.state v w (both v.closing idle e) h
  due_resting false v idle w e h = h

  -- so at each stage
  pub due_sees : (s : FrontBusStage) (v : FrontView) (idle : Bool) (w : Watches) → FrontSees s v.closing v.state v.gone b w → FrontSees (due_at s v idle) v.closing v.state v.gone b w
  due_sees stage.Rest v idle w h = due_resting (v.closing && idle) v idle w refl h
  due_sees s v idle w h = h

  -- the back's state is read
  acted_sees : (act : FrontAction) (v : FrontView) (idle : Bool) (w : Watches) → ActsFor act v.state v.closing v.gone idle b → Sees back_state w (Unit {0})
      → Sight (acted act (at stage.ReadState v)) b w
  acted_sees action.Nothing v idle w acts h = sees_so back_state w (Unit {0}) (RestHeard v.closing v.state v.gone b) (λ u. acts) h
  acted_sees action.Publish v idle w acts h = sees_so back_state w (Unit {0}) (b ≡ state.InitWait) (λ u. acts.1) h
  acted_sees action.Connect v idle w acts h = sees_so back_state w (Unit {0}) (FactsHeard v.closing b) (λ u. connected v.closing acts.1) h
    where
      connected : (closing : Bool) → b ≡ state.Connected → FactsHeard closing b
      connected false e = e
      connected true e = states_differ b state.Closed (rw e (omega arith))
  acted_sees action.Close v idle w acts h =
      sees_so back_state w (Unit {0}) (RestHeard true v.state v.gone b) (λ u e. absurd (states_differ b state.Closed (rw acts (omega arith)) e)) h
  acted_sees action.CloseAndConnect v idle w acts h = sees_so back_state w (Unit {0}) (FactsHeard true b) (λ u. states_differ b state.Closed (rw acts.1 (omega arith))) h
  acted_sees action.Leave v idle w acts h = sees_so back_state w (Unit {0}) (RestHeard true v.state true b) (λ u e. refl) h
  acted_sees (action.Break word) v idle w acts h = h

  -- keys are read
  feature_sees : (k : BackKey) (o : Option ℕ) (v : FrontView) (w : Watches) → Sees back_state w (b ≡ state.InitWait) → Sight (feature_step k o (at (stage.ReadFeature k) v)) b w
  feature_sees k None v w h = sees_so back_state w (b ≡ state.InitWait) (Unit {0}) (λ a. tt) h
  feature_sees back_key.FeatureBarrier (Some m) v w h = h
  feature_sees k (Some m) v w h = h

  fact_sees : (k : BackKey) (o : Option ℕ) (v : FrontView) (w : Watches) → Sees back_state w (FactsHeard v.closing b) → Sight (fact_step k o (at (stage.ReadFact k) v)) b w
  fact_sees k None v w h = sees_so back_state w (FactsHeard v.closing b) (Unit {0}) (λ a. tt) h
  fact_sees back_key.Sectors (Some m) v w h = h
  fact_sees k (Some m) v w h = h

  -- the ring is made and published, and grants are ended
  word_sees : (word : ℕ) (last : Bool) (v : FrontView) (w : Watches) → Sees back_state w (b ≡ state.InitWait)
      → FrontSees (if last then stage.Grant 0 else stage.RingWord (word + 1)) v.closing v.state v.gone b w
  word_sees word true v w h = h
  word_sees word false v w h = h

  grant_sees : (page : ℕ) (more : Bool) (v : FrontView) (w : Watches) → Sees back_state w (b ≡ state.InitWait)
      → FrontSees (if more then stage.Grant (page + 1) else stage.NewPort) v.closing v.state v.gone b w
  grant_sees page true v w h = h
  grant_sees page false v w h = h

  publish_sees : (next : Option FrontKey) (v : FrontView) (w : Watches) → Sees back_state w (b ≡ state.InitWait) → FrontSees (after_published next) v.closing v.state v.gone b w
  publish_sees (Some k) v w h = h
  publish_sees None v w h = h

  end_sees : (page : ℕ) (more : Bool) (v : FrontView) (w : Watches) → Sees back_state w (Unit {0})
      → FrontSees (if more then stage.EndGrant (page + 1) else stage.EndOtherGrants) v.closing v.state v.gone b w
  end_sees page true v w h = h
  end_sees page false v w h = h

  others_see : (port : Option ℕ) (v : FrontView) (w : Watches) → Sees back_state w (Unit {0}) → FrontSees (after_grants port) v.closing v.state v.gone b w
  others_see (Some port) v w h = h
  others_see None v w h = h

  -- a state is written
  published_heard : (closing gone : Bool) → b ≡ state.InitWait → RestHeard closing state.Initialised gone b
  published_heard false gone e = rw e tt
  published_heard true gone e = λ f. absurd (states_differ b state.Closed (rw e (omega arith)) f)

  connected_heard : (closing gone : Bool) → FactsHeard closing b → RestHeard closing state.Connected gone b
  connected_heard false gone e = rw e tt
  connected_heard true gone e = λ f. absurd (e f)

  closing_heard : (closing gone : Bool) (own : BusState) → (closing ≡ false → ⊥) → RestHeard true own gone b → RestHeard closing state.Closing gone b
  closing_heard false gone own closes h = absurd (closes refl)
  closing_heard true gone own closes h = h

  written_sees : (s : BusState) (v : FrontView) (w : Watches) → IsFrontWrite (stage.WriteState s) → (v.closing ≡ false → IsOpenAt (stage.WriteState s))
      → FrontSees (stage.WriteState s) v.closing v.state v.gone b w → Sight (written s (at (stage.WriteState s) v)) b w
  written_sees state.Initialised v w writes leaves_open h =
      sees_so back_state w (b ≡ state.InitWait) (RestHeard v.closing state.Initialised v.gone b) (published_heard v.closing v.gone) h
  written_sees state.Connected v w writes leaves_open h =
      sees_so back_state w (FactsHeard v.closing b) (RestHeard v.closing state.Connected v.gone b) (connected_heard v.closing v.gone) h
  written_sees state.Closing v w writes leaves_open h =
      sees_so back_state w (RestHeard true v.state v.gone b) (RestHeard v.closing state.Closing v.gone b) (closing_heard v.closing v.gone v.state leaves_open) h
  written_sees state.Closed v w writes leaves_open h = h
  written_sees other v w writes leaves_open h = absurd writes

  -- the front waits: its watch is taken, or it stays as it is
  woken : (v : FrontView) (idle : Bool) (w : Watches) → Sees back_state w (RestHeard v.closing v.state v.gone b)
      → Sight (step_at stage.Rest (at stage.Rest v) idle (front_woken (next_watch w))) b (taken w)
  woken v idle w (inl e) = subst (λ (u : Watches). Sight (step_at stage.Rest (at stage.Rest v) idle (front_woken (next_watch u))) b (taken u)) (sym e) (inr (refl, tt))
  woken v idle w (inr (e, heard)) =
      subst (λ (u : Watches). Sight (step_at stage.Rest (at stage.Rest v) idle (front_woken (next_watch u))) b (taken u)) (sym e) (inr (refl, heard))

  closed_sees : (o : Option (List ℕ)) (v : FrontView) (idle : Bool) (w : Watches) → Sees back_state w (Unit {0})
      → Sight (step_at stage.Closed (at stage.Closed v) idle (front_woken o)) b (taken w)
  closed_sees None v idle w h = sees_taken back_state w (Unit {0}) h
  closed_sees (Some path) v idle w h = sees_taken back_state w (Unit {0}) h

  broken_sees : (word : ℕ) (o : Option (List ℕ)) (v : FrontView) (idle : Bool) (w : Watches) → Sees back_state w (Unit {0})
      → Sight (step_at (stage.Broken word) (at (stage.Broken word) v) idle (front_woken o)) b (taken w)
  broken_sees word None v idle w h = sees_taken back_state w (Unit {0}) h
  broken_sees word (Some path) v idle w h = sees_taken back_state w (Unit {0}) h

  state_sees : (v : FrontView) (idle : Bool) (o : Option (List ℕ)) (w : Watches) → o ≡ Some (state_text b)
      → ActsFor (front_action v.state v.closing idle (Some b)) v.state v.closing v.gone idle b → Sees back_state w (Unit {0})
      → Sight (acted (front_action v.state v.closing idle (state_read o)) (at stage.ReadState v)) b w
  state_sees v idle o w shown acts h =
      subst (λ (r : Option BusState). Sight (acted (front_action v.state v.closing idle r) (at stage.ReadState v)) b w) (sym (state_shown o b shown)) (acted_sees (front_action v.state v.closing idle (Some b)) v idle w acts h)

  -- each move of the front
  pub front_sees_at : (s : FrontBusStage) (v : FrontView) (idle : Bool) (port : ℕ) (d : Directory)
      → key_of d.keys back_state ≡ Some (state_text b) → ActsFor (front_action v.state v.closing idle (Some b)) v.state v.closing v.gone idle b
      → IsFrontWrite s → (v.closing ≡ false → IsOpenAt s) → FrontSees s v.closing v.state v.gone b d.front
      → Sight (step_at s (at s v) idle (front_answered (ask_at s v) port d)) b (front_done (ask_at s v) d).front
  front_sees_at stage.Start v idle port d shown acts writes leaves_open h = inl (ap (λ (u : Watches). with_watch u back_state) h)
  front_sees_at stage.Rest v idle port d shown acts writes leaves_open h = woken v idle d.front h
  front_sees_at stage.ReadState v idle port d shown acts writes leaves_open h = state_sees v idle (key_of d.keys back_state) d.front shown acts h
  front_sees_at (stage.ReadFeature k) v idle port d shown acts writes leaves_open h = feature_sees k (count_read (key_of d.keys (back_path k))) v d.front h
  front_sees_at (stage.RingWord word) v idle port d shown acts writes leaves_open h = word_sees word (word == 15) v d.front h
  front_sees_at (stage.Grant page) v idle port d shown acts writes leaves_open h = grant_sees page (nat_lt (page + 1) (pages_of v)) v d.front h
  front_sees_at (stage.Publish k) v idle port d shown acts writes leaves_open h =
      publish_sees (next_published (ring_order v) k) v (fired d.front (front_path k)) (sees_kept back_state (front_path k) d.front (b ≡ state.InitWait) refl h)
  front_sees_at (stage.ReadFact k) v idle port d shown acts writes leaves_open h = fact_sees k (fact_read k (key_of d.keys (back_path k))) v d.front h
  front_sees_at (stage.WriteState s) v idle port d shown acts writes leaves_open h =
      let w = written s (at (stage.WriteState s) v) in
      front_sees_kept front_state w.stage w.closing w.state w.gone b d.front refl (written_sees s v d.front writes leaves_open h)
  front_sees_at (stage.EndGrant page) v idle port d shown acts writes leaves_open h = end_sees page (nat_lt (page + 1) (pages_of v)) v d.front h
  front_sees_at stage.EndOtherGrants v idle port d shown acts writes leaves_open h = others_see v.port v d.front h
  front_sees_at stage.Closed v idle port d shown acts writes leaves_open h = closed_sees (next_watch d.front) v idle d.front h
  front_sees_at (stage.Broken word) v idle port d shown acts writes leaves_open h = broken_sees word (next_watch d.front) v idle d.front h
  front_sees_at other v idle port d shown acts writes leaves_open h = h

-- a front that has published keeps its port and its terms until it leaves
pub record KeepsTerms (v w : FrontView) : Type 0 where
  pub port : w.port ≡ v.port
  pub terms : terms_of w ≡ terms_of v

acted_keeps : (act : FrontAction) (v : FrontView) → KeepsTerms v (acted act (at stage.ReadState v))
acted_keeps action.Nothing v = record { port = refl; terms = refl }
acted_keeps other v = record { port = refl; terms = refl }

fact_keeps : (k : BackKey) (o : Option ℕ) (v : FrontView) → KeepsTerms v (fact_step k o (at (stage.ReadFact k) v))
fact_keeps k None v = record { port = refl; terms = refl }
fact_keeps k (Some m) v = record { port = refl; terms = refl }

woken_keeps : (s : FrontBusStage) (o : Option (List ℕ)) (v : FrontView) (idle : Bool) → KeepsTerms v (step_at s (at s v) idle (front_woken o))
woken_keeps stage.Rest None v idle = record { port = refl; terms = refl }
woken_keeps stage.Rest (Some path) v idle = record { port = refl; terms = refl }
woken_keeps s None v idle = record { port = refl; terms = refl }
woken_keeps s (Some path) v idle = record { port = refl; terms = refl }

early : (own : BusState) → own ≡ state.Initialising → 3 ≤ state_number own → ⊥
early own e late = let low : state_number own ≡ 1 = rw e refl in omega arith

-- at each move
pub front_keeps_terms : (s : FrontBusStage) (v : FrontView) (idle : Bool) (port : ℕ) (d : Directory) (n : ℕ) → IsTimely s v.state
    → 3 ≤ state_number v.state → stage_needs s ≤ n → n < 6 → KeepsTerms v (step_at s (at s v) idle (front_answered (ask_at s v) port d))
front_keeps_terms stage.Rest v idle port d n timely late after low = woken_keeps stage.Rest (next_watch d.front) v idle
front_keeps_terms stage.ReadState v idle port d n timely late after low =
    acted_keeps (front_action v.state v.closing idle (state_read (key_of d.keys back_state))) v
front_keeps_terms (stage.ReadFeature k) v idle port d n timely late after low = absurd (early v.state timely late)
front_keeps_terms stage.NewPort v idle port d n timely late after low = absurd (early v.state timely late)
front_keeps_terms (stage.ReadFact k) v idle port d n timely late after low = fact_keeps k (fact_read k (key_of d.keys (back_path k))) v
front_keeps_terms stage.ClosePort v idle port d n timely late after low = absurd (omega arith)
front_keeps_terms stage.Closed v idle port d n timely late after low = woken_keeps stage.Closed (next_watch d.front) v idle
front_keeps_terms (stage.Broken word) v idle port d n timely late after low = woken_keeps (stage.Broken word) (next_watch d.front) v idle
front_keeps_terms other v idle port d n timely late after low = record { port = refl; terms = refl }
