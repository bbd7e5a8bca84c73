-- A move of the back keeps what is true of it.
use Rattle.std.proofs.Common.{◌≡◌, sym, subst, subst₂, ℕ, ◌+◌, ◌^◌, ◌<◌, ◌≤◌, ◌==◌, nat_lt, Bool, true, false, true≢false, List, [], ◌∷◌, ◌++◌, length, refl, arith, if◌then◌else◌}
use Rattle.std.specs.Prelude.{Option, Some, None, IsSome}
use Rattle.std.specs.Option.{option_map}
use Rattle.std.proofs.lemmas.Bool.Decides.{nat_tests}
use Rattle.blk_base.specs.declared.operation.Abi.{Abi}
use Rattle.blk_base.specs.declared.parts.Mapping.{Mapping}
use Rattle.key_directory.specs.Directory.{Directory, key_of, with_key}
use Rattle.key_directory.specs.Watches.{next_watch}
use Rattle.xenbus_state.specs.States.{state_number, state_read}
use Rattle.xenbus_state.specs.Numbers.{number_of}
use Rattle.xenbus_state.specs.Tables.{back_action}
use Rattle.xenbus_state.specs.Values.{text_of, flag_of, front_value, back_value, ring_gref}
use Rattle.xenbus_state.specs.Programs.{next_feature, next_fact, after_page}
use Rattle.xenbus_state.specs.declared.keys.FrontKey.{FrontKey}
use Rattle.xenbus_state.specs.declared.keys.FrontKey.TheVariants as key
use Rattle.xenbus_state.specs.declared.keys.BackKey.{BackKey}
use Rattle.xenbus_state.specs.declared.keys.BackKey.TheVariants as back_key
use Rattle.xenbus_state.specs.declared.offer.Features.{Features}
use Rattle.xenbus_state.specs.declared.offer.DiskFacts.{DiskFacts}
use Rattle.xenbus_state.specs.declared.values.FrontTerms.{FrontTerms}
use Rattle.xenbus_state.specs.declared.state.BusState.{BusState}
use Rattle.xenbus_state.specs.declared.state.BusState.TheVariants as state
use Rattle.xenbus_state.specs.declared.stage.BackBusStage.{BackBusStage}
use Rattle.xenbus_state.specs.declared.stage.BackBusStage.TheVariants as stage
use Rattle.xenbus_state.specs.declared.table.BackAction.{BackAction}
use Rattle.xenbus_state.specs.declared.table.BackAction.TheVariants as action
use Rattle.xenbus_state.specs.BackView.{BackView, is_halting, halted}
use Rattle.xenbus_state.specs.BackAsk.{ask_at}
use Rattle.xenbus_state.specs.BackReading as reading
use Rattle.xenbus_state.specs.BackStep.{at, step_at, acted, kept_or_halted, after_state, last_state, unmapping_next, after_feature, after_fact}
use Rattle.xenbus_state.specs.BackSound.{IsPlaced, IsResting, IsWriting, IsReading}
use Rattle.xenbus_state.proofs.Agreement.{terms_again}
use Rattle.negotiation_laws.specs.Negotiation.{back_path, front_state, state_text, back_woken, back_answered, back_done}
use Rattle.negotiation_laws.specs.Said.{front_texts, back_texts, AreTermsSaid, AreFeaturesSaid, AreFactsSaid}
use Rattle.negotiation_laws.proofs.Keys.{back_texts_state, back_kept, back_said}
use Rattle.negotiation_laws.proofs.Shown.{state_shown, is_one}
use Rattle.xenbus_state.proofs.Powers.{few_pages}
use Rattle.negotiation_laws.proofs.Grefs.{grefs_push, no_grefs}
use Rattle.negotiation_laws.specs.Laws.{grefs_of}
use Rattle.negotiation_laws.proofs.BackActs.{ActsFor, back_acts}
use Rattle.negotiation_laws.proofs.Subjects.{IsBackState, FeaturesBefore, FactsAt, FactsLeft, BackSaid, serves, TermsBefore, BackRead, BackHolds, FrontShows, IsReady}

-- no stage at hand
never : {A : Type 0} → false ≡ true → A
never e = absurd (true≢false (sym e))

module _ (n : ℕ) (port : Option ℕ) (terms : FrontTerms) (f : Features) (disk : DiskFacts) where
  -- a back that holds at the stage that it is at
  abbrev pub Stands : BackView → List (List ℕ × List ℕ) → Type 0
  Stands v keys = BackHolds v.stage v n port terms f disk (back_texts keys)

  moves : (s t : BackBusStage) (v : BackView) (before texts : BackKey → Option (List ℕ)) → BackHolds s v n port terms f disk before
      → (serves t v.state ≡ true → (3 ≤ n) × IsSome port) → (is_halting t ≡ true → 5 ≤ n)
      → BackSaid t v.state texts f disk → (serves t v.state ≡ true → BackRead t v.terms terms v.grefs) → BackHolds t (at t v) n port terms f disk texts
  moves s t v before texts h serving halting said read =
      record { own = h.own; offer = h.offer; disk = h.disk; serving_after = serving; halting_after = halting; said = said; read = read }

  -- a key of the back is set
  set : (k : BackKey) (t : BackBusStage) (v : BackView) (keys : List (List ℕ × List ℕ)) → v.features ≡ f → v.disk ≡ disk
      → BackHolds t (at t v) n port terms f disk (back_texts (with_key keys (back_path k) (text_of (back_value f disk k))))
      → BackHolds t (at t v) n port terms f disk (back_texts (with_key keys (back_path k) (text_of (back_value v.features v.disk k))))
  set k t v keys e g h =
      subst₂ (λ (a : Features) (c : DiskFacts). BackHolds t (at t v) n port terms f disk (back_texts (with_key keys (back_path k) (text_of (back_value a c k))))) (sym e) (sym g) h

  -- a feature is published
  offer_to : (k next : BackKey) (v : BackView) (keys : List (List ℕ × List ℕ)) → BackHolds (stage.Publish k) v n port terms f disk (back_texts keys)
      → FeaturesBefore next (back_texts (with_key keys (back_path k) (text_of (back_value f disk k)))) f disk
      → BackHolds (stage.Publish next) (at (stage.Publish next) v) n port terms f disk (back_texts (with_key keys (back_path k) (text_of (back_value v.features v.disk k))))
  offer_to k next v keys h said = set k (stage.Publish next) v keys h.offer h.disk (moves (stage.Publish k) (stage.Publish next) v _ _ h never never said never)

  publish_holds : (k : BackKey) (v : BackView) (keys : List (List ℕ × List ℕ)) → BackHolds (stage.Publish k) v n port terms f disk (back_texts keys)
      → let t = after_feature (next_feature k) in BackHolds t (at t v) n port terms f disk (back_texts (with_key keys (back_path k) (text_of (back_value v.features v.disk k))))
  publish_holds back_key.FeatureBarrier v keys h = offer_to back_key.FeatureBarrier back_key.FeatureFlushCache v keys h (back_said keys f disk back_key.FeatureBarrier)
  publish_holds back_key.FeatureFlushCache v keys h =
      let kept = back_kept keys f disk back_key.FeatureFlushCache in
      offer_to back_key.FeatureFlushCache back_key.FeatureDiscard v keys h (kept back_key.FeatureBarrier h.said, back_said keys f disk back_key.FeatureFlushCache)
  publish_holds back_key.FeatureDiscard v keys h =
      let kept = back_kept keys f disk back_key.FeatureDiscard in
      offer_to back_key.FeatureDiscard back_key.FeaturePersistent v keys h (kept back_key.FeatureBarrier h.said.0, kept back_key.FeatureFlushCache h.said.1, back_said keys f disk back_key.FeatureDiscard)
  publish_holds back_key.FeaturePersistent v keys h =
      let kept = back_kept keys f disk back_key.FeaturePersistent in
      offer_to back_key.FeaturePersistent back_key.FeatureMaxIndirectSegments v keys h (kept back_key.FeatureBarrier h.said.0, kept back_key.FeatureFlushCache h.said.1, kept back_key.FeatureDiscard h.said.2, back_said keys f disk back_key.FeaturePersistent)
  publish_holds back_key.FeatureMaxIndirectSegments v keys h =
      let kept = back_kept keys f disk back_key.FeatureMaxIndirectSegments in
      offer_to back_key.FeatureMaxIndirectSegments back_key.MaxRingPageOrder v keys h (kept back_key.FeatureBarrier h.said.0, kept back_key.FeatureFlushCache h.said.1, kept back_key.FeatureDiscard h.said.2, kept back_key.FeaturePersistent h.said.3, back_said keys f disk back_key.FeatureMaxIndirectSegments)
  publish_holds back_key.MaxRingPageOrder v keys h =
      let kept = back_kept keys f disk back_key.MaxRingPageOrder in
      let said : AreFeaturesSaid (back_texts (with_key keys (back_path back_key.MaxRingPageOrder) (text_of (back_value f disk back_key.MaxRingPageOrder)))) f disk = record {
        barrier = kept back_key.FeatureBarrier h.said.0;
        flush = kept back_key.FeatureFlushCache h.said.1;
        discard = kept back_key.FeatureDiscard h.said.2;
        persistent = kept back_key.FeaturePersistent h.said.3;
        indirect = kept back_key.FeatureMaxIndirectSegments h.said.4;
        order = back_said keys f disk back_key.MaxRingPageOrder;
      } in
      set back_key.MaxRingPageOrder (stage.WriteState state.InitWait) v keys h.offer h.disk (moves (stage.Publish back_key.MaxRingPageOrder) (stage.WriteState state.InitWait) v _ _ h never never (said, tt) never)
  publish_holds k v keys h = absurd h.said

  -- a fact of the disk is published
  features_kept : (keys : List (List ℕ × List ℕ)) (k : BackKey) → AreFeaturesSaid (back_texts keys) f disk
      → AreFeaturesSaid (back_texts (with_key keys (back_path k) (text_of (back_value f disk k)))) f disk
  features_kept keys k h = record {
    barrier = back_kept keys f disk k back_key.FeatureBarrier h.barrier;
    flush = back_kept keys f disk k back_key.FeatureFlushCache h.flush;
    discard = back_kept keys f disk k back_key.FeatureDiscard h.discard;
    persistent = back_kept keys f disk k back_key.FeaturePersistent h.persistent;
    indirect = back_kept keys f disk k back_key.FeatureMaxIndirectSegments h.indirect;
    order = back_kept keys f disk k back_key.MaxRingPageOrder h.order;
  }

  fact_holds : (k : BackKey) (v : BackView) (keys : List (List ℕ × List ℕ)) → BackHolds (stage.PublishFact k) v n port terms f disk (back_texts keys)
      → let t = after_fact (next_fact k) in BackHolds t (at t v) n port terms f disk (back_texts (with_key keys (back_path k) (text_of (back_value v.features v.disk k))))
  fact_holds back_key.Sectors v keys h =
      set back_key.Sectors (stage.PublishFact back_key.SectorSize) v keys h.offer h.disk (moves (stage.PublishFact back_key.Sectors) (stage.PublishFact back_key.SectorSize) v _ _ h h.serving_after never (features_kept keys back_key.Sectors h.said.0, back_said keys f disk back_key.Sectors) h.read)
  fact_holds back_key.SectorSize v keys h =
      set back_key.SectorSize (stage.PublishFact back_key.Info) v keys h.offer h.disk (moves (stage.PublishFact back_key.SectorSize) (stage.PublishFact back_key.Info) v _ _ h h.serving_after never (features_kept keys back_key.SectorSize h.said.0, (back_kept keys f disk back_key.SectorSize back_key.Sectors h.said.1, back_said keys f disk back_key.SectorSize)) h.read)
  fact_holds back_key.Info v keys h =
      let all : AreFactsSaid (back_texts (with_key keys (back_path back_key.Info) (text_of (back_value f disk back_key.Info)))) f disk = record {
        sectors = back_kept keys f disk back_key.Info back_key.Sectors h.said.1.0;
        size = back_kept keys f disk back_key.Info back_key.SectorSize h.said.1.1;
        info = back_said keys f disk back_key.Info;
      } in
      set back_key.Info (stage.WriteState state.Connected) v keys h.offer h.disk (moves (stage.PublishFact back_key.Info) (stage.WriteState state.Connected) v _ _ h h.serving_after never (features_kept keys back_key.Info h.said.0, all) h.read)
  fact_holds k v keys h = absurd h.said.1

  -- a state is written
  written_holds : (s : BusState) (v : BackView) (texts : BackKey → Option (List ℕ)) → IsWriting s v → BackHolds (stage.WriteState s) v n port terms f disk texts
      → BackHolds (after_state s) (record v { state = s; stage = after_state s }) n port terms f disk texts
  written_holds state.InitWait v texts w h = record { own = tt; offer = h.offer; disk = h.disk; serving_after = never; halting_after = never; said = h.said; read = never }
  written_holds state.Connected v texts w h =
      record { own = tt; offer = h.offer; disk = h.disk; serving_after = h.serving_after; halting_after = never; said = h.said; read = h.read }
  written_holds state.Closing v texts w h =
      record { own = tt; offer = h.offer; disk = h.disk; serving_after = never; halting_after = h.halting_after; said = (h.said.0, tt); read = never }
  written_holds state.Closed v texts w h =
      record { own = tt; offer = h.offer; disk = h.disk; serving_after = never; halting_after = h.halting_after; said = (h.said.0, tt); read = never }
  written_holds s v texts w h = absurd w

  -- the front's state is read
  left_said : (own : BusState) (texts : BackKey → Option (List ℕ)) → FactsAt own texts f disk → FactsLeft own texts f disk
  left_said state.Connected texts h = h
  left_said own texts h = tt

  left_serving : (own : BusState) → serves stage.UnmapOthers own ≡ true → serves stage.ReadState own ≡ true
  left_serving state.Connected e = refl
  left_serving state.Closing e = refl
  left_serving own e = never e

  halts : (v : BackView) (texts : BackKey → Option (List ℕ)) → 5 ≤ n → BackHolds stage.ReadState v n port terms f disk texts
      → BackHolds stage.UnmapOthers (halted v) n port terms f disk texts
  halts v texts late h =
      moves stage.ReadState stage.UnmapOthers v texts texts h (λ e. h.serving_after (left_serving v.state e)) (λ e. late) (h.said.0, left_said v.state texts h.said.1) (λ e. h.read (left_serving v.state e))

  ready_late : (fs : BusState) → IsReady fs → 3 ≤ state_number fs
  ready_late state.Initialised h = omega arith
  ready_late state.Connected h = omega arith
  ready_late fs h = absurd h

  acted_holds : (act : BackAction) (v : BackView) (fs : BusState) (texts : BackKey → Option (List ℕ)) → n ≡ state_number fs → ActsFor act v.state fs v.unplugged
      → (IsReady fs → IsSome port) → BackHolds stage.ReadState v n port terms f disk texts
      → BackHolds (acted act (at stage.ReadState v)).stage (acted act (at stage.ReadState v)) n port terms f disk texts
  acted_holds action.Nothing v fs texts e acts ready h = moves stage.ReadState stage.Rest v texts texts h h.serving_after never h.said h.read
  acted_holds action.Connect v fs texts e acts ready h =
      let late : 3 ≤ n = rw e (ready_late fs acts.1) in
      moves stage.ReadState (stage.ReadKey key.RingPageOrder) v texts texts h (λ s. (late, ready acts.1)) never (h.said.0, tt) (λ s. tt)
  acted_holds (action.Halt reason) v fs texts e acts ready h = halts v texts (rw e acts.0) h

  state_holds : (v : BackView) (keys : List (List ℕ × List ℕ)) (fs : BusState) → n ≡ state_number fs → IsResting v.state v
      → FrontShows keys fs port terms → BackHolds stage.ReadState v n port terms f disk (back_texts keys)
      → Stands (acted (back_action v.state v.unplugged (state_read (key_of keys front_state))) (at stage.ReadState v)) keys
  state_holds v keys fs e rests shows h =
      let serving : serves stage.ReadState v.state ≡ true → 3 ≤ state_number fs = λ s. subst (λ (m : ℕ). 3 ≤ m) e (h.serving_after s).0 in
      let acts = back_acts fs v.state v.unplugged v shows.honest rests serving in
      subst (λ (r : Option BusState). Stands (acted (back_action v.state v.unplugged r) (at stage.ReadState v)) keys) (sym (state_shown (key_of keys front_state) fs shows.state))
      (acted_holds (back_action v.state v.unplugged (Some fs)) v fs (back_texts keys) e acts shows.ready h)

  -- a key of the front is read, and the back goes on
  abbrev pub Goes : BackView → List (List ℕ × List ℕ) → Type 0
  Goes v keys = Stands v keys × (serves v.stage v.state ≡ true)

  reads_next : (k next : FrontKey) (v : BackView) (r : FrontTerms) (grefs : List ℕ) (keys : List (List ℕ × List ℕ))
      → BackHolds (stage.ReadKey k) v n port terms f disk (back_texts keys) → TermsBefore next r terms grefs
      → Goes (record v { terms = r; grefs = grefs; stage = stage.ReadKey next }) keys
  reads_next k next v r grefs keys h read =
      (record { own = h.own; offer = h.offer; disk = h.disk; serving_after = h.serving_after; halting_after = never; said = h.said; read = λ s. read }, refl)

  -- what the read of a key makes of the back
  abbrev pub KeyRead : FrontKey → BackView → Option (List ℕ) → List (List ℕ × List ℕ) → Type 0
  KeyRead k v o keys = Goes (kept_or_halted (reading.key_read k o (at (stage.ReadKey k) v)) (at (stage.ReadKey k) v)) keys

  order_holds : (v : BackView) (keys : List (List ℕ × List ℕ)) → length v.grefs ≡ 0 → terms.order ≤ 4 → terms.port < 2 ^ 32
      → AreTermsSaid (front_texts keys) terms → BackHolds (stage.ReadKey key.RingPageOrder) v n port terms f disk (back_texts keys)
      → KeyRead key.RingPageOrder v (front_texts keys key.RingPageOrder) keys
  order_holds v keys none few fits says h = by_test (terms.order == 0) refl
    where
      by_test : (single : Bool) → (terms.order == 0) ≡ single → KeyRead key.RingPageOrder v (front_texts keys key.RingPageOrder) keys
      by_test true e =
          let zero : terms.order ≡ 0 = grind (arith, nat_tests) in
          let single = reads_next key.RingPageOrder key.RingRef v (record v.terms { order = 0 }) v.grefs keys h (sym zero, zero) in
          subst (λ (o : Option (List ℕ)). KeyRead key.RingPageOrder v o keys) (sym (says.ring.only zero).1) single
      by_test false e =
          let some : 0 < terms.order = grind (arith, nat_tests) in
          let first = reads_next key.RingPageOrder (key.RingRefOf 0) v (record v.terms { order = terms.order }) v.grefs keys h (refl, some, no_grefs v.grefs none) in
          let read = subst (λ (r : Option ℕ). Goes (kept_or_halted (option_map (reading.with_order (at (stage.ReadKey key.RingPageOrder) v) (key.RingRefOf 0)) r) (at (stage.ReadKey key.RingPageOrder) v)) keys) (sym (terms_again terms few fits).order) first in
          subst (λ (o : Option (List ℕ)). KeyRead key.RingPageOrder v o keys) (sym (says.ring.order some)) read

  page_holds : (page : ℕ) (v : BackView) (keys : List (List ℕ × List ℕ)) → page < 2 ^ v.terms.order → terms.order ≤ 4 → terms.port < 2 ^ 32
      → AreTermsSaid (front_texts keys) terms → BackHolds (stage.ReadKey (key.RingRefOf page)) v n port terms f disk (back_texts keys)
      → KeyRead (key.RingRefOf page) v (front_texts keys (key.RingRefOf page)) keys
  page_holds page v keys low few fits says h =
      let r = h.read refl in
      let within : page < 2 ^ terms.order = subst (λ (m : ℕ). page < 2 ^ m) r.0 low in
      let pages = few_pages terms.order few in
      let again : number_of (text_of (front_value terms (key.RingRefOf page))) ≡ Some (ring_gref page) = (terms_again terms few fits).pages page (omega arith) in
      let read = subst (λ (o : Option ℕ). Goes (kept_or_halted (option_map (reading.with_gref (at (stage.ReadKey (key.RingRefOf page)) v) (after_page v.terms.order page)) o) (at (stage.ReadKey (key.RingRefOf page)) v)) keys) (sym again) (by_test (nat_lt (page + 1) (2 ^ v.terms.order)) refl) in
      subst (λ (o : Option (List ℕ)). KeyRead (key.RingRefOf page) v o keys) (sym (says.ring.pages r.1 page within)) read
    where
      by_test : (more : Bool) → nat_lt (page + 1) (2 ^ v.terms.order) ≡ more
          → Goes (reading.with_gref (at (stage.ReadKey (key.RingRefOf page)) v) (if more then key.RingRefOf (page + 1) else key.EventChannel) (ring_gref page)) keys
      by_test true e =
          let r = h.read refl in
          reads_next (key.RingRefOf page) (key.RingRefOf (page + 1)) v v.terms (v.grefs ++ ring_gref page ∷ []) keys h (r.0, r.1, grefs_push page v.grefs r.2)
      by_test false e =
          let r = h.read refl in
          let same : page + 1 ≡ 2 ^ v.terms.order = grind (arith, nat_tests) in
          let all : page + 1 ≡ 2 ^ terms.order = subst (λ (m : ℕ). page + 1 ≡ 2 ^ m) r.0 same in
          let pushed : v.grefs ++ ring_gref page ∷ [] ≡ grefs_of (2 ^ terms.order) = subst (λ (m : ℕ). v.grefs ++ ring_gref page ∷ [] ≡ grefs_of m) all (grefs_push page v.grefs r.2) in
          reads_next (key.RingRefOf page) key.EventChannel v v.terms (v.grefs ++ ring_gref page ∷ []) keys h (r.0, pushed)

  only_holds : (v : BackView) (keys : List (List ℕ × List ℕ)) → length v.grefs ≡ 0 → terms.order ≤ 4 → terms.port < 2 ^ 32
      → AreTermsSaid (front_texts keys) terms → BackHolds (stage.ReadKey key.RingRef) v n port terms f disk (back_texts keys)
      → KeyRead key.RingRef v (front_texts keys key.RingRef) keys
  only_holds v keys none few fits says h =
      let r = h.read refl in
      let pushed : v.grefs ++ 8 ∷ [] ≡ grefs_of (2 ^ terms.order) = rw (no_grefs v.grefs none, r.1) refl in
      let next = reads_next key.RingRef key.EventChannel v v.terms (v.grefs ++ 8 ∷ []) keys h (r.0, pushed) in
      let read = subst (λ (o : Option ℕ). Goes (kept_or_halted (option_map (reading.with_gref (at (stage.ReadKey key.RingRef) v) key.EventChannel) o) (at (stage.ReadKey key.RingRef) v)) keys) (sym (terms_again terms few fits).only) next in
      subst (λ (o : Option (List ℕ)). KeyRead key.RingRef v o keys) (sym (says.ring.only r.1).0) read

  port_holds : (v : BackView) (keys : List (List ℕ × List ℕ)) → terms.order ≤ 4 → terms.port < 2 ^ 32 → AreTermsSaid (front_texts keys) terms
      → BackHolds (stage.ReadKey key.EventChannel) v n port terms f disk (back_texts keys)
      → KeyRead key.EventChannel v (front_texts keys key.EventChannel) keys
  port_holds v keys few fits says h =
      let r = h.read refl in
      let next = reads_next key.EventChannel key.Protocol v (record v.terms { port = terms.port }) v.grefs keys h (r.0, r.1, refl) in
      let read = subst (λ (o : Option ℕ). Goes (kept_or_halted (option_map (reading.with_port (at (stage.ReadKey key.EventChannel) v)) o) (at (stage.ReadKey key.EventChannel) v)) keys) (sym (terms_again terms few fits).port) next in
      subst (λ (o : Option (List ℕ)). KeyRead key.EventChannel v o keys) (sym says.port) read

  layout_holds : (v : BackView) (keys : List (List ℕ × List ℕ)) → terms.order ≤ 4 → terms.port < 2 ^ 32 → AreTermsSaid (front_texts keys) terms
      → BackHolds (stage.ReadKey key.Protocol) v n port terms f disk (back_texts keys)
      → KeyRead key.Protocol v (front_texts keys key.Protocol) keys
  layout_holds v keys few fits says h =
      let r = h.read refl in
      let next = reads_next key.Protocol key.FeaturePersistent v (record v.terms { abi = terms.abi }) v.grefs keys h (r.0, r.1, r.2, refl) in
      let again = (terms_again terms few fits).layout in
      let read = subst (λ (o : Option Abi). Goes (kept_or_halted (option_map (reading.with_layout (at (stage.ReadKey key.Protocol) v)) o) (at (stage.ReadKey key.Protocol) v)) keys) (sym again) next in
      subst (λ (o : Option (List ℕ)). KeyRead key.Protocol v o keys) (sym says.layout) read

  persistent_holds : (v : BackView) (keys : List (List ℕ × List ℕ)) → terms.order ≤ 4 → terms.port < 2 ^ 32
      → AreTermsSaid (front_texts keys) terms → BackHolds (stage.ReadKey key.FeaturePersistent) v n port terms f disk (back_texts keys)
      → KeyRead key.FeaturePersistent v (front_texts keys key.FeaturePersistent) keys
  persistent_holds v keys few fits says h =
      let r = h.read refl in
      let all : record v.terms { persistent = flag_of terms.persistent == 1 } ≡ terms = λ i. record { abi = r.3 i; order = r.0 i; persistent = is_one terms.persistent i; port = r.2 i } in
      let next : Goes (reading.with_persistent (at (stage.ReadKey key.FeaturePersistent) v) (flag_of terms.persistent)) keys = (record { own = h.own; offer = h.offer; disk = h.disk; serving_after = h.serving_after; halting_after = never; said = h.said; read = λ s. (all, r.1) }, refl) in
      let read = subst (λ (o : Option ℕ). Goes (kept_or_halted (option_map (reading.with_persistent (at (stage.ReadKey key.FeaturePersistent) v)) o) (at (stage.ReadKey key.FeaturePersistent) v)) keys) (sym (terms_again terms few fits).persistent) next in
      subst (λ (o : Option (List ℕ)). KeyRead key.FeaturePersistent v o keys) (sym says.persistent) read

  pub key_holds : (k : FrontKey) (v : BackView) (keys : List (List ℕ × List ℕ)) → IsReading k v → terms.order ≤ 4 → terms.port < 2 ^ 32
      → AreTermsSaid (front_texts keys) terms → BackHolds (stage.ReadKey k) v n port terms f disk (back_texts keys)
      → KeyRead k v (front_texts keys k) keys
  key_holds key.RingPageOrder v keys reads few fits says h = order_holds v keys reads few fits says h
  key_holds (key.RingRefOf page) v keys reads few fits says h = page_holds page v keys reads.1 few fits says h
  key_holds key.RingRef v keys reads few fits says h = only_holds v keys reads.0 few fits says h
  key_holds key.EventChannel v keys reads few fits says h = port_holds v keys few fits says h
  key_holds key.Protocol v keys reads few fits says h = layout_holds v keys few fits says h
  key_holds key.FeaturePersistent v keys reads few fits says h = persistent_holds v keys few fits says h

  -- a page is mapped
  map_holds : (page : Mapping) (v : BackView) (texts : BackKey → Option (List ℕ)) (more : Bool) → BackHolds stage.MapPage v n port terms f disk texts
      → let t = (if more then stage.MapPage else stage.Bind) in BackHolds t (record v { pages = v.pages ++ page ∷ []; stage = t }) n port terms f disk texts
  map_holds page v texts true h = record { own = h.own; offer = h.offer; disk = h.disk; serving_after = h.serving_after; halting_after = never; said = h.said; read = h.read }
  map_holds page v texts false h = record { own = h.own; offer = h.offer; disk = h.disk; serving_after = h.serving_after; halting_after = never; said = h.said; read = h.read }

  -- a halted back unmaps what it has mapped, and closes its port
  record Gives (v : BackView) (texts : BackKey → Option (List ℕ)) : Type 0 where
    own : IsBackState v.state
    offer : v.features ≡ f
    same : v.disk ≡ disk
    late : 5 ≤ n
    said : AreFeaturesSaid texts f disk × FactsLeft v.state texts f disk
    serving : serves stage.UnmapOthers v.state ≡ true → (3 ≤ n) × IsSome port
    read : serves stage.UnmapOthers v.state ≡ true → (v.terms ≡ terms) × (v.grefs ≡ grefs_of (2 ^ terms.order))

  last_holds : (own : BusState) (pages : List Mapping) (bound : Bool) (v : BackView) (texts : BackKey → Option (List ℕ)) → Gives v texts
      → let t = stage.WriteState (last_state own) in BackHolds t (record v { pages = pages; bound = bound; stage = t }) n port terms f disk texts
  last_holds state.Closing pages bound v texts g =
      record { own = g.own; offer = g.offer; disk = g.same; serving_after = never; halting_after = λ e. g.late; said = g.said; read = never }
  last_holds other pages bound v texts g =
      record { own = g.own; offer = g.offer; disk = g.same; serving_after = g.serving; halting_after = λ e. g.late; said = g.said; read = g.read }

  giving_holds : (pages : List Mapping) (bound : Bool) (v : BackView) (texts : BackKey → Option (List ℕ)) → Gives v texts
      → let t = unmapping_next pages bound v.state in BackHolds t (record v { pages = pages; bound = bound; stage = t }) n port terms f disk texts
  giving_holds (page ∷ pages) bound v texts g =
      record { own = g.own; offer = g.offer; disk = g.same; serving_after = g.serving; halting_after = λ e. g.late; said = g.said; read = g.read }
  giving_holds [] true v texts g = record { own = g.own; offer = g.offer; disk = g.same; serving_after = g.serving; halting_after = λ e. g.late; said = g.said; read = g.read }
  giving_holds [] false v texts g = last_holds v.state [] false v texts g

  unmap_holds : (pages : List Mapping) (v : BackView) (page : Mapping) (d : Directory) → 0 < length pages
      → BackHolds stage.UnmapPage v n port terms f disk (back_texts d.keys)
      → let u = record v { pages = pages; stage = stage.UnmapPage } in Stands (step_at stage.UnmapPage u (back_answered (ask_at stage.UnmapPage u) page d)) (back_done (ask_at stage.UnmapPage u) d).keys
  unmap_holds [] v page d some h = absurd (omega arith)
  unmap_holds (first ∷ pages) v page d some h =
      giving_holds pages v.bound v (back_texts d.keys) (record { own = h.own; offer = h.offer; same = h.disk; late = h.halting_after refl; said = h.said; serving = h.serving_after; read = h.read })

  -- the back waits
  rest_holds : (o : Option (List ℕ)) (v : BackView) (keys : List (List ℕ × List ℕ))
      → BackHolds stage.Rest v n port terms f disk (back_texts keys) → Stands (step_at stage.Rest (at stage.Rest v) (back_woken o)) keys
  rest_holds None v keys h = moves stage.Rest stage.Rest v _ _ h h.serving_after never h.said h.read
  rest_holds (Some path) v keys h = moves stage.Rest stage.ReadState v _ _ h h.serving_after never h.said h.read

  halted_holds : (o : Option (List ℕ)) (v : BackView) (keys : List (List ℕ × List ℕ))
      → BackHolds stage.Halted v n port terms f disk (back_texts keys) → Stands (step_at stage.Halted (at stage.Halted v) (back_woken o)) keys
  halted_holds None v keys h = moves stage.Halted stage.Halted v _ _ h never h.halting_after h.said never
  halted_holds (Some path) v keys h = moves stage.Halted stage.Halted v _ _ h never h.halting_after h.said never

  watch_holds : (own : BusState) (v : BackView) (texts : BackKey → Option (List ℕ)) → v.state ≡ own → own ≡ state.InitWait
      → BackHolds stage.Watch v n port terms f disk texts → BackHolds stage.Rest (at stage.Rest v) n port terms f disk texts
  watch_holds own v texts e g h = moves stage.Watch stage.Rest v texts texts h (rw (e, g) never) never (h.said.0, rw (e, g) tt) (rw (e, g) never)

  -- each move of the back but that it says that it closes
  pub back_holds_at : (s : BackBusStage) (v : BackView) (page : Mapping) (d : Directory) (fs : BusState) → n ≡ state_number fs → IsPlaced s v
      → FrontShows d.keys fs port terms → BackHolds s v n port terms f disk (back_texts d.keys)
      → Stands (step_at s (at s v) (back_answered (ask_at s v) page d)) (back_done (ask_at s v) d).keys
  back_holds_at (stage.Publish k) v page d fs e placed shows h = publish_holds k v d.keys h
  back_holds_at (stage.WriteState s) v page d fs e placed shows h =
      let w = record v { state = s; stage = after_state s } in
      subst (λ (texts : BackKey → Option (List ℕ)). BackHolds w.stage w n port terms f disk texts) (sym (back_texts_state d.keys (state_text s))) (written_holds s v _ placed h)
  back_holds_at stage.Watch v page d fs e placed shows h = watch_holds v.state v _ refl placed.0 h
  back_holds_at stage.Rest v page d fs e placed shows h = rest_holds (next_watch d.back) v d.keys h
  back_holds_at stage.ReadState v page d fs e placed shows h = state_holds v d.keys fs e placed shows h
  back_holds_at (stage.ReadKey k) v page d fs e placed shows h =
      let late = h.serving_after refl in
      let high : 3 ≤ state_number fs = subst (λ (m : ℕ). 3 ≤ m) e late.0 in
      (key_holds k v d.keys placed.2 shows.order shows.fits (shows.said high late.1) h).0
  back_holds_at stage.MapPage v page d fs e placed shows h = map_holds page v _ (nat_lt (length v.pages + 1) (length v.grefs)) h
  back_holds_at stage.Bind v page d fs e placed shows h =
      record { own = h.own; offer = h.offer; disk = h.disk; serving_after = h.serving_after; halting_after = never; said = (h.said.0, tt); read = h.read }
  back_holds_at (stage.PublishFact k) v page d fs e placed shows h = fact_holds k v d.keys h
  back_holds_at stage.UnmapOthers v page d fs e placed shows h =
      giving_holds v.pages v.bound v _ (record { own = h.own; offer = h.offer; same = h.disk; late = h.halting_after refl; said = h.said; serving = h.serving_after; read = h.read })
  back_holds_at stage.UnmapPage v page d fs e placed shows h = unmap_holds v.pages v page d placed.1 h
  back_holds_at stage.ClosePort v page d fs e placed shows h =
      last_holds v.state v.pages false v _ (record { own = h.own; offer = h.offer; same = h.disk; late = h.halting_after refl; said = h.said; serving = h.serving_after; read = h.read })
  back_holds_at stage.Halted v page d fs e placed shows h = halted_holds (next_watch d.back) v d.keys h
