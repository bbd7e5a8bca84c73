-- What an end has read or said once stays, whatever happens later.
use Rattle.std.proofs.Common.{◌≡◌, ◌∙◌, ap, sym, subst, subst₂, ℕ, ◌<◌, ◌≤◌, Bool, List, [], ◌∷◌, length, refl, arith, le_trans}
use Rattle.std.specs.Prelude.{Option, None, Some}
use Rattle.blk_base.specs.declared.parts.Mapping.{Mapping}
use Rattle.key_directory.specs.Directory.{Directory, key_of, with_key}
use Rattle.xenbus_state.specs.declared.keys.BackKey.TheVariants as back_key
use Rattle.key_directory.specs.Watches.{next_watch}
use Rattle.xenbus_state.specs.States.{state_number, state_read}
use Rattle.xenbus_state.specs.Tables.{front_action, back_action}
use Rattle.xenbus_state.specs.Reading.{fact_read}
use Rattle.xenbus_state.specs.Values.{text_of, back_value}
use Rattle.xenbus_state.specs.declared.keys.BackKey.{BackKey}
use Rattle.xenbus_state.specs.declared.offer.Features.{Features}
use Rattle.xenbus_state.specs.declared.offer.DiskFacts.{DiskFacts}
use Rattle.xenbus_state.specs.declared.state.BusState.{BusState}
use Rattle.xenbus_state.specs.declared.state.BusState.TheVariants as state
use Rattle.xenbus_state.specs.declared.stage.FrontBusStage.{FrontBusStage}
use Rattle.xenbus_state.specs.declared.stage.FrontBusStage.TheVariants as front
use Rattle.xenbus_state.specs.declared.stage.BackBusStage.{BackBusStage}
use Rattle.xenbus_state.specs.declared.stage.BackBusStage.TheVariants as back
use Rattle.xenbus_state.specs.declared.table.FrontAction.{FrontAction}
use Rattle.xenbus_state.specs.declared.table.FrontAction.TheVariants as front_act
use Rattle.xenbus_state.specs.declared.table.BackAction.{BackAction}
use Rattle.xenbus_state.specs.declared.table.BackAction.TheVariants as back_act
use Rattle.xenbus_state.specs.declared.back.BackBusAsk.{BackBusAsk}
use Rattle.xenbus_state.specs.declared.back.BackBusAsk.TheVariants as back_ask
use Rattle.xenbus_state.specs.FrontView.{FrontView, closed}
use Rattle.xenbus_state.specs.FrontAsk as front_asks
use Rattle.xenbus_state.specs.FrontAsk.{due, ask_at}
use Rattle.xenbus_state.specs.FrontStep as front_step
use Rattle.xenbus_state.specs.FrontStep.{at, step_at, acted, fact_step}
use Rattle.xenbus_state.specs.FrontSound as front_sound
use Rattle.xenbus_state.specs.BackView.{BackView, unplugged}
use Rattle.xenbus_state.specs.BackAsk as back_asks
use Rattle.xenbus_state.specs.BackStep as back_step
use Rattle.xenbus_state.specs.BackSound as back_sound
use Rattle.xenbus_state.proofs.FrontKeeps.{front_rises}
use Rattle.xenbus_state.proofs.FrontRuns.{own_after, state_after}
use Rattle.xenbus_state.proofs.BackTurns.{back_rises}
use Rattle.negotiation_laws.specs.Negotiation.{Negotiation, back_path, front_state, back_state, state_text, front_woken, back_woken, front_answered, front_done, back_answered, back_done, front_moved, back_moved}
use Rattle.negotiation_laws.specs.Happening.{Happening, FrontMoves, BackMoves, FrontCloses, BackCloses, happened, after}
use Rattle.negotiation_laws.specs.Within.{HavePorts}
use Rattle.negotiation_laws.specs.Said.{front_texts, back_texts, AreFactsSaid}
use Rattle.negotiation_laws.proofs.Choices.{back_move_cases, closed_cases, unplugged_cases}
use Rattle.negotiation_laws.proofs.Keys.{front_texts_state, back_texts_state, back_kept}
use Rattle.negotiation_laws.proofs.Between.{back_own, front_ask_leaves, back_ask_leaves, front_own_rises, back_own_rises}
use Rattle.negotiation_laws.proofs.Holds.{Holds, front_lawful, due_timely, happening_holds}
use Rattle.negotiation_laws.proofs.BackSights.{back_state_at}

-- what the front has read of the back
record ReadStays (v w : FrontView) : Type 0 where
  features : 3 ≤ state_number v.state → w.features ≡ v.features
  disk : 4 ≤ state_number v.state → w.disk ≡ v.disk

early : (own s : BusState) (k : ℕ) → own ≡ s → state_number s < k → k ≤ state_number own → ⊥
early own s k e low high = let same : state_number own ≡ state_number s = ap state_number e in omega arith

acted_stays : (act : FrontAction) (v : FrontView) → ReadStays v (acted act (at front.ReadState v))
acted_stays front_act.Nothing v = record { features = λ e. refl; disk = λ e. refl }
acted_stays other v = record { features = λ e. refl; disk = λ e. refl }

fact_stays : (k : BackKey) (o : Option ℕ) (v : FrontView) → v.state ≡ state.Initialised → ReadStays v (fact_step k o (at (front.ReadFact k) v))
fact_stays k None v own = record { features = λ e. refl; disk = λ e. refl }
fact_stays k (Some m) v own = record { features = λ e. refl; disk = λ e. absurd (early v.state state.Initialised 4 own (omega arith) e) }

woken_stays : (s : FrontBusStage) (o : Option (List ℕ)) (v : FrontView) (idle : Bool) → ReadStays v (step_at s (at s v) idle (front_woken o))
woken_stays front.Rest None v idle = record { features = λ e. refl; disk = λ e. refl }
woken_stays front.Rest (Some path) v idle = record { features = λ e. refl; disk = λ e. refl }
woken_stays s None v idle = record { features = λ e. refl; disk = λ e. refl }
woken_stays s (Some path) v idle = record { features = λ e. refl; disk = λ e. refl }

read_stays_at : (s : FrontBusStage) (v : FrontView) (idle : Bool) (port : ℕ) (d : Directory) → front_sound.IsTimely s v.state
    → ReadStays v (step_at s (at s v) idle (front_answered (ask_at s v) port d))
read_stays_at front.Rest v idle port d timely = woken_stays front.Rest (next_watch d.front) v idle
read_stays_at front.ReadState v idle port d timely = acted_stays (front_action v.state v.closing idle (state_read (key_of d.keys back_state))) v
read_stays_at (front.ReadFeature k) v idle port d timely =
    record { features = λ e. absurd (early v.state state.Initialising 3 timely (omega arith) e); disk = λ e. absurd (early v.state state.Initialising 4 timely (omega arith) e) }
read_stays_at (front.ReadFact k) v idle port d timely = fact_stays k (fact_read k (key_of d.keys (back_path k))) v timely
read_stays_at front.Closed v idle port d timely = woken_stays front.Closed (next_watch d.front) v idle
read_stays_at (front.Broken word) v idle port d timely = woken_stays (front.Broken word) (next_watch d.front) v idle
read_stays_at front.Start v idle port d timely = record { features = λ e. refl; disk = λ e. refl }
read_stays_at s v idle port d timely = record { features = λ e. refl; disk = λ e. refl }

-- what the front has said
said_stays_at : (s : FrontBusStage) (v : FrontView) (d : Directory) → front_sound.IsTimely s v.state → 3 ≤ state_number v.state
    → front_texts (front_done (ask_at s v) d).keys ≡ front_texts d.keys
said_stays_at (front.Publish k) v d timely late = absurd (early v.state state.Initialising 3 timely (omega arith) late)
said_stays_at (front.WriteState s) v d timely late = front_texts_state d.keys (state_text s)
said_stays_at front.Start v d timely late = refl
said_stays_at s v d timely late = refl

-- what the back has read of the front
record TermsStay (v w : BackView) : Type 0 where
  terms : 4 ≤ state_number v.state → w.terms ≡ v.terms
  grefs : 4 ≤ state_number v.state → w.grefs ≡ v.grefs

back_acted_stays : (act : BackAction) (v : BackView) → TermsStay v (back_step.acted act (back_step.at back.ReadState v))
back_acted_stays back_act.Nothing v = record { terms = λ e. refl; grefs = λ e. refl }
back_acted_stays other v = record { terms = λ e. refl; grefs = λ e. refl }

back_woken_stays : (s : BackBusStage) (o : Option (List ℕ)) (v : BackView) → TermsStay v (back_step.step_at s (back_step.at s v) (back_woken o))
back_woken_stays back.Rest None v = record { terms = λ e. refl; grefs = λ e. refl }
back_woken_stays back.Rest (Some path) v = record { terms = λ e. refl; grefs = λ e. refl }
back_woken_stays s None v = record { terms = λ e. refl; grefs = λ e. refl }
back_woken_stays s (Some path) v = record { terms = λ e. refl; grefs = λ e. refl }

unmap_stays : (pages : List Mapping) (v : BackView) (page : Mapping) (d : Directory) → 0 < length pages
    → let u = record v { pages = pages; stage = back.UnmapPage } in TermsStay v (back_step.step_at back.UnmapPage u (back_answered (back_asks.ask_at back.UnmapPage u) page d))
unmap_stays [] v page d some = absurd (omega arith)
unmap_stays (first ∷ pages) v page d some = record { terms = λ e. refl; grefs = λ e. refl }

terms_stay_at : (s : BackBusStage) (v : BackView) (page : Mapping) (d : Directory) → back_sound.IsPlaced s v
    → TermsStay v (back_step.step_at s (back_step.at s v) (back_answered (back_asks.ask_at s v) page d))
terms_stay_at back.Rest v page d placed = back_woken_stays back.Rest (next_watch d.back) v
terms_stay_at back.ReadState v page d placed = back_acted_stays (back_action v.state v.unplugged (state_read (key_of d.keys front_state))) v
terms_stay_at (back.ReadKey k) v page d placed =
    record { terms = λ e. absurd (early v.state state.InitWait 4 placed.0 (omega arith) e); grefs = λ e. absurd (early v.state state.InitWait 4 placed.0 (omega arith) e) }
terms_stay_at back.UnmapPage v page d placed = unmap_stays v.pages v page d placed.1
terms_stay_at back.Halted v page d placed = back_woken_stays back.Halted (next_watch d.back) v
terms_stay_at back.Watch v page d placed = record { terms = λ e. refl; grefs = λ e. refl }
terms_stay_at s v page d placed = record { terms = λ e. refl; grefs = λ e. refl }

-- what the back has said of its disk
facts_kept : (f : Features) (d : DiskFacts) (k : BackKey) (keys : List (List ℕ × List ℕ)) → AreFactsSaid (back_texts keys) f d
    → AreFactsSaid (back_texts (with_key keys (back_path k) (text_of (back_value f d k)))) f d
facts_kept f d k keys h =
    record { sectors = back_kept keys f d k back_key.Sectors h.sectors; size = back_kept keys f d k back_key.SectorSize h.size; info = back_kept keys f d k back_key.Info h.info }

facts_set : (f : Features) (d : DiskFacts) (k : BackKey) (v : BackView) (keys : List (List ℕ × List ℕ)) → v.features ≡ f → v.disk ≡ d
    → AreFactsSaid (back_texts keys) f d → AreFactsSaid (back_texts (with_key keys (back_path k) (text_of (back_value v.features v.disk k)))) f d
facts_set f d k v keys e g h =
    subst₂ (λ (a : Features) (c : DiskFacts). AreFactsSaid (back_texts (with_key keys (back_path k) (text_of (back_value a c k)))) f d) (sym e) (sym g) (facts_kept f d k keys h)

facts_unmap : (f : Features) (e : DiskFacts) (pages : List Mapping) (d : Directory) → AreFactsSaid (back_texts d.keys) f e
    → AreFactsSaid (back_texts (back_done (back_asks.unmap_ask pages) d).keys) f e
facts_unmap f e [] d h = h
facts_unmap f e (page ∷ pages) d h = h

facts_stay_at : (f : Features) (e : DiskFacts) (s : BackBusStage) (v : BackView) (d : Directory) → v.features ≡ f → v.disk ≡ e
    → AreFactsSaid (back_texts d.keys) f e → AreFactsSaid (back_texts (back_done (back_asks.ask_at s v) d).keys) f e
facts_stay_at f e (back.Publish k) v d offer disk h = facts_set f e k v d.keys offer disk h
facts_stay_at f e (back.PublishFact k) v d offer disk h = facts_set f e k v d.keys offer disk h
facts_stay_at f e (back.WriteState s) v d offer disk h = subst (λ (g : BackKey → Option (List ℕ)). AreFactsSaid g f e) (sym (back_texts_state d.keys (state_text s))) h
facts_stay_at f e back.UnmapPage v d offer disk h = facts_unmap f e v.pages d h
facts_stay_at f e back.Watch v d offer disk h = h
facts_stay_at f e s v d offer disk h = h

-- what stays of both ends and the directory
pub record Stays (f : Features) (d : DiskFacts) (t u : Negotiation) : Type 0 where
  pub front_rises : state_number t.front.state ≤ state_number u.front.state
  pub back_rises : state_number t.back.state ≤ state_number u.back.state
  pub features : 3 ≤ state_number t.front.state → u.front.features ≡ t.front.features
  pub disk : 4 ≤ state_number t.front.state → u.front.disk ≡ t.front.disk
  pub said : 3 ≤ state_number t.front.state → front_texts u.keys.keys ≡ front_texts t.keys.keys
  pub terms : 4 ≤ state_number t.back.state → u.back.terms ≡ t.back.terms
  pub grefs : 4 ≤ state_number t.back.state → u.back.grefs ≡ t.back.grefs
  pub facts : AreFactsSaid (back_texts t.keys.keys) f d → AreFactsSaid (back_texts u.keys.keys) f d

module _ (f : Features) (d : DiskFacts) where
  still : (t : Negotiation) → Stays f d t t
  still t =
      record { front_rises = omega arith; back_rises = omega arith; features = λ e. refl; disk = λ e. refl; said = λ e. refl; terms = λ e. refl; grefs = λ e. refl; facts = λ h. h }

  further : (t u w : Negotiation) → Stays f d t u → Stays f d u w → Stays f d t w
  further t u w h k = record {
    front_rises = le_trans h.front_rises k.front_rises;
    back_rises = le_trans h.back_rises k.back_rises;
    features = λ e. k.features (le_trans e h.front_rises) ∙ h.features e;
    disk = λ e. k.disk (le_trans e h.front_rises) ∙ h.disk e;
    said = λ e. k.said (le_trans e h.front_rises) ∙ h.said e;
    terms = λ e. k.terms (le_trans e h.back_rises) ∙ h.terms e;
    grefs = λ e. k.grefs (le_trans e h.back_rises) ∙ h.grefs e;
    facts = λ e. k.facts (h.facts e);
  }

  front_move_stays : (t : Negotiation) (idle : Bool) (port : ℕ) → Holds f d t → Stays f d t (front_moved idle port t)
  front_move_stays t idle port h =
      let v = t.front in
      let s = due v idle in
      let a = front_asks.ask_of v idle in
      let answer = front_answered a port t.keys in
      let w = front_step.step_of v idle answer in
      let timely = due_timely v.stage v idle h.front_sound.timely in
      let wrote : w.state ≡ own_after a v.state = state_after v idle answer (front_lawful a port t.keys) in
      let reads = read_stays_at s v idle port t.keys timely in
      record {
        front_rises = subst (λ (o : BusState). state_number v.state ≤ state_number o) (sym wrote) (front_own_rises a v.state (front_rises v idle h.front_sound));
        back_rises = omega arith;
        features = reads.features;
        disk = reads.disk;
        said = λ e. said_stays_at s v t.keys timely e;
        terms = λ e. refl;
        grefs = λ e. refl;
        facts = λ e. subst (λ (g : BackKey → Option (List ℕ)). AreFactsSaid g f d) (sym (front_ask_leaves a t.keys)) e;
      }

  back_move_stays : (t : Negotiation) (page : Mapping) → Holds f d t → Stays f d t (back_moved page t)
  back_move_stays t page h =
      back_move_cases (λ (a : BackBusAsk) (w : BackView). back_sound.Rises t.back.state a → Stays f d t (record { front = t.front; back = w; keys = back_done a t.keys })) t.back page t.keys
      (λ e rises. record {
        front_rises = omega arith;
        back_rises = back_own_rises (back_ask.SetState state.Closing) t.back.state rises;
        features = λ e. refl;
        disk = λ e. refl;
        said = λ e. back_ask_leaves (back_ask.SetState state.Closing) t.keys;
        terms = λ e. refl;
        grefs = λ e. refl;
        facts = λ e. subst (λ (g : BackKey → Option (List ℕ)). AreFactsSaid g f d) (sym (back_texts_state t.keys.keys (state_text state.Closing))) e;
      })
      (λ e rises.
      let v = t.back in
      let a = back_asks.ask_at v.stage v in
      let w = back_step.step_at v.stage v (back_answered a page t.keys) in
      let wrote : w.state ≡ back_own a v.state = back_state_at v.stage v page t.keys in
      let reads = terms_stay_at v.stage v page t.keys h.back_sound.placed in
      record {
        front_rises = omega arith;
        back_rises = subst (λ (o : BusState). state_number v.state ≤ state_number o) (sym wrote) (back_own_rises a v.state rises);
        features = λ e. refl;
        disk = λ e. refl;
        said = λ e. back_ask_leaves a t.keys;
        terms = reads.terms;
        grefs = reads.grefs;
        facts = λ e. facts_stay_at f d v.stage v t.keys h.back.offer h.back.disk e;
      })
      (back_rises t.back h.back_sound)

  front_close_stays : (t : Negotiation) → Stays f d t (record t { front = closed t.front })
  front_close_stays t =
      closed_cases (λ (v : FrontView). Stays f d t (record t { front = v })) t.front (still t)
      (record { front_rises = omega arith; back_rises = omega arith; features = λ e. refl; disk = λ e. refl; said = λ e. refl; terms = λ e. refl; grefs = λ e. refl; facts = λ h. h })

  back_close_stays : (t : Negotiation) → Stays f d t (record t { back = unplugged t.back })
  back_close_stays t =
      unplugged_cases (λ (v : BackView). Stays f d t (record t { back = v })) t.back (still t)
      (record { front_rises = omega arith; back_rises = omega arith; features = λ e. refl; disk = λ e. refl; said = λ e. refl; terms = λ e. refl; grefs = λ e. refl; facts = λ h. h })

  stays_once : (x : Happening) (t : Negotiation) → Holds f d t → Stays f d t (happened x t)
  stays_once (FrontMoves idle port) t h = front_move_stays t idle port h
  stays_once (BackMoves page) t h = back_move_stays t page h
  stays_once FrontCloses t h = front_close_stays t
  stays_once BackCloses t h = back_close_stays t

  -- whatever happens
  pub stays : (xs : List Happening) (t : Negotiation) → HavePorts xs → Holds f d t → Stays f d t (after xs t)
  stays [] t fits h = still t
  stays (x ∷ xs) t fits h = further t (happened x t) (after xs (happened x t)) (stays_once x t h) (stays xs (happened x t) fits.1 (happening_holds f d x t fits.0 h))
