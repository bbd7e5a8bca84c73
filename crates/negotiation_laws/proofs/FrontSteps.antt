-- A move of the front keeps what is true of it.
use Rattle.std.proofs.Common.{◌≡◌, ◌∙◌, sym, subst, ℕ, ◌+◌, ◌^◌, ◌<◌, ◌≤◌, ◌==◌, ◌&&◌, nat_lt, Bool, true, false, true≢false, List, refl, arith, if◌then◌else◌}
use Rattle.std.specs.Prelude.{Option, Some, None, IsSome}
use Rattle.std.proofs.lemmas.Bool.Decides.{nat_tests}
use Rattle.std.proofs.lemmas.Nat.{pow_pos}
use Rattle.key_directory.specs.Directory.{Directory, key_of, with_key}
use Rattle.key_directory.specs.Watches.{next_watch}
use Rattle.xenbus_state.specs.States.{state_number, state_read}
use Rattle.xenbus_state.specs.Tables.{front_action}
use Rattle.xenbus_state.specs.Values.{text_of, flag_of, front_value}
use Rattle.xenbus_state.specs.Reading.{count_read, fact_read, with_feature, with_fact}
use Rattle.xenbus_state.specs.Programs.{first_published, next_published}
use Rattle.xenbus_state.specs.declared.keys.FrontKey.{FrontKey}
use Rattle.xenbus_state.specs.declared.keys.FrontKey.TheVariants as key
use Rattle.xenbus_state.specs.declared.keys.BackKey.{BackKey}
use Rattle.xenbus_state.specs.declared.keys.BackKey.TheVariants as back_key
use Rattle.xenbus_state.specs.declared.offer.Features.{Features}
use Rattle.xenbus_state.specs.declared.offer.DiskFacts.{DiskFacts}
use Rattle.xenbus_state.specs.declared.values.FrontTerms.{FrontTerms}
use Rattle.xenbus_state.specs.declared.state.BusState.{BusState}
use Rattle.xenbus_state.specs.declared.state.BusState.TheVariants as state
use Rattle.xenbus_state.specs.declared.stage.FrontBusStage.{FrontBusStage}
use Rattle.xenbus_state.specs.declared.stage.FrontBusStage.TheVariants as stage
use Rattle.xenbus_state.specs.declared.table.FrontAction.{FrontAction}
use Rattle.xenbus_state.specs.declared.table.FrontAction.TheVariants as action
use Rattle.xenbus_state.specs.FrontView.{FrontView, ring_order, pages_of, terms_of}
use Rattle.xenbus_state.specs.FrontAsk.{due_at, leaving, closing_stage, ask_at}
use Rattle.xenbus_state.specs.FrontStep.{at, step_at, acted, feature_step, fact_step, written, after_published, after_grants}
use Rattle.xenbus_state.specs.FrontSound.{IsTimely}
use Rattle.xenbus_state.proofs.Powers.{few_pages}
use Rattle.negotiation_laws.specs.Negotiation.{front_path, back_path, back_state, state_text, front_woken, front_answered, front_done}
use Rattle.negotiation_laws.specs.Said.{front_texts, back_texts, FrontSays, IsRingSaid, AreTermsSaid, AreFeaturesSaid, AreFactsSaid}
use Rattle.negotiation_laws.proofs.Keys.{front_texts_state, front_kept, front_said, no_order_kept, ring_kept}
use Rattle.negotiation_laws.proofs.Shown.{state_shown, count_shown, flag_shown, is_there, is_one, sectors_shown, size_shown, info_shown, is_four}
use Rattle.negotiation_laws.proofs.FrontActs.{ActsFor, front_acts}
use Rattle.negotiation_laws.proofs.Subjects.{IsFrontWrite, IsOpenAt, stage_needs, state_needs, SaidAt, FrontSaid, ReadBefore, FactsBefore, ReadAt, FrontRead, FrontHolds, BackShows}

-- the terms that were said still are, whichever state the front wrote since
no_port : (port : Option ℕ) → port ≡ None → IsSome port → ⊥
no_port port e some = true≢false (sym (subst (λ (o : Option ℕ). IsSome o) e some))

pub said_later : (own : BusState) (port : Option ℕ) (terms : FrontTerms) (texts : FrontKey → Option (List ℕ)) → SaidAt own port terms texts → IsSome port → AreTermsSaid texts terms
said_later state.Initialising port terms texts h some = absurd (no_port port h.0 some)
said_later state.Initialised port terms texts h some = h.1
said_later state.Connected port terms texts h some = h.1
said_later other port terms texts h some = h some

module _ (n : ℕ) (f : Features) (disk : DiskFacts) where
  -- a front that holds at the stage that it is at
  abbrev pub Stands : FrontView → List (List ℕ × List ℕ) → Type 0
  Stands v keys = FrontHolds v.stage v n f disk (front_texts keys)

  -- to another stage, with nothing else changed
  moves : (s t : FrontBusStage) (v : FrontView) (before texts : FrontKey → Option (List ℕ)) → FrontHolds s v n f disk before → IsFrontWrite t → stage_needs t ≤ n
      → (v.closing ≡ false → IsOpenAt t)
      → FrontSaid t v.state v.port (terms_of v) texts → FrontRead t v.state v.features f v.disk disk → FrontHolds t (at t v) n f disk texts
  moves s t v before texts h writes after leaves_open said read = record {
    own = h.own;
    writes = writes;
    stage_after = after;
    state_after = h.state_after;
    gone_after = h.gone_after;
    leaves_open = λ e. ((h.leaves_open e).0, leaves_open e);
    fits = h.fits;
    said = said;
    read = read;
  }

  goes : (s t : FrontBusStage) (v : FrontView) (texts : FrontKey → Option (List ℕ)) → FrontHolds s v n f disk texts → IsFrontWrite t → stage_needs t ≤ n
      → (v.closing ≡ false → IsOpenAt t)
      → FrontSaid t v.state v.port (terms_of v) texts → FrontRead t v.state v.features f v.disk disk → FrontHolds t (at t v) n f disk texts
  goes s t v texts = moves s t v texts texts

  -- what is due is begun
  due_closing : (own : BusState) (v : FrontView) (texts : FrontKey → Option (List ℕ)) → v.state ≡ own → v.closing ≡ true
      → FrontHolds stage.Rest v n f disk texts → FrontHolds (closing_stage own v) v n f disk texts
  due_closing state.Closing v texts e closing h = by_gone v.gone v.port refl
    where
      leaves_late : v.closing ≡ false → ⊥
      leaves_late open_yet = true≢false (sym closing ∙ open_yet)

      by_gone : (gone : Bool) (port : Option ℕ) → v.gone ≡ gone → FrontHolds (leaving gone port) v n f disk texts
      by_gone false port e = h
      by_gone true (Some port) e =
          record { own = h.own; writes = tt; stage_after = h.gone_after e; state_after = h.state_after; gone_after = h.gone_after; leaves_open = λ o. absurd (leaves_late o); fits = h.fits; said = h.said; read = h.read }
      by_gone true None e =
          record { own = h.own; writes = tt; stage_after = h.gone_after e; state_after = h.state_after; gone_after = h.gone_after; leaves_open = λ o. absurd (leaves_late o); fits = h.fits; said = h.said; read = h.read }
  due_closing own v texts e closing h =
      record { own = h.own; writes = tt; stage_after = omega arith; state_after = h.state_after; gone_after = h.gone_after; leaves_open = λ o. absurd (true≢false (sym closing ∙ o)); fits = h.fits; said = h.said; read = h.read }

  both : (a b : Bool) → (a && b) ≡ true → a ≡ true
  both true b e = refl
  both false b e = e

  due_resting : (closes : Bool) (v : FrontView) (idle : Bool) (texts : FrontKey → Option (List ℕ)) → (v.closing && idle) ≡ closes
      → FrontHolds stage.Rest v n f disk texts → FrontHolds (if closes then closing_stage v.state v else stage.Rest) v n f disk texts
  due_resting true v idle texts e h = due_closing v.state v texts refl (both v.closing idle e) h
  due_resting false v idle texts e h = h

  -- so at each stage
  pub due_holds : (s : FrontBusStage) (v : FrontView) (idle : Bool) (texts : FrontKey → Option (List ℕ)) → FrontHolds s v n f disk texts
      → FrontHolds (due_at s v idle) v n f disk texts
  due_holds stage.Rest v idle texts h = due_resting (v.closing && idle) v idle texts refl h
  due_holds s v idle texts h = h

  -- the back's state is read
  acted_holds : (act : FrontAction) (v : FrontView) (idle : Bool) (b : BusState) (texts : FrontKey → Option (List ℕ)) → n ≡ state_number b
      → ActsFor act v.state v.closing v.gone idle b → (6 ≤ state_number b → 5 ≤ state_number v.state) → FrontHolds stage.ReadState v n f disk texts
      → FrontHolds (acted act (at stage.ReadState v)).stage (acted act (at stage.ReadState v)) n f disk texts
  acted_holds action.Nothing v idle b texts e acts closed h = goes stage.ReadState stage.Rest v texts h tt (omega arith) (λ o. tt) h.said h.read
  acted_holds action.Publish v idle b texts e acts closed h =
      let two : 2 ≤ n = rw (e, acts.1) (omega arith) in
      let said = subst (λ (s : BusState). SaidAt s v.port (terms_of v) texts) acts.0 h.said in
      goes stage.ReadState (stage.ReadFeature back_key.FeatureBarrier) v texts h tt two (λ o. tt) said tt
  acted_holds action.Connect v idle b texts e acts closed h =
      let four : 4 ≤ n = rw (e, acts.1) (omega arith) in
      let said = subst (λ (s : BusState). SaidAt s v.port (terms_of v) texts) acts.0 h.said in
      let read = subst (λ (s : BusState). ReadAt s v.features f v.disk disk) acts.0 h.read in
      goes stage.ReadState (stage.ReadFact back_key.Sectors) v texts h tt four (λ o. tt) said (read, tt)
  acted_holds action.Close v idle b texts e acts closed h =
      record { own = h.own; writes = tt; stage_after = omega arith; state_after = h.state_after; gone_after = h.gone_after; leaves_open = λ o. absurd (true≢false o); fits = h.fits; said = h.said; read = h.read }
  acted_holds action.CloseAndConnect v idle b texts e acts closed h =
      let four : 4 ≤ n = rw (e, acts.1) (omega arith) in
      let said = subst (λ (s : BusState). SaidAt s v.port (terms_of v) texts) acts.0 h.said in
      let read = subst (λ (s : BusState). ReadAt s v.features f v.disk disk) acts.0 h.read in
      record { own = h.own; writes = tt; stage_after = four; state_after = h.state_after; gone_after = h.gone_after; leaves_open = λ o. absurd (true≢false o); fits = h.fits; said = said; read = (read, tt) }
  acted_holds action.Leave v idle b texts e acts closed h =
      let six : 6 ≤ n = rw (e, acts.0) (omega arith) in
      record { own = h.own; writes = tt; stage_after = omega arith; state_after = h.state_after; gone_after = λ g. six; leaves_open = λ o. absurd (true≢false o); fits = h.fits; said = h.said; read = h.read }
  acted_holds (action.Break word) v idle b texts e acts closed h =
      let six : 6 ≤ n = rw (e, acts.0) (omega arith) in
      let high : 5 ≤ state_number v.state = closed (rw acts.0 (omega arith)) in
      goes stage.ReadState (stage.Broken word) v texts h tt six (λ o. absurd (let low = (h.leaves_open o).0 in omega arith)) h.said h.read

  state_holds : (v : FrontView) (idle : Bool) (keys : List (List ℕ × List ℕ)) (b : BusState) → n ≡ state_number b
      → BackShows keys b v.state f disk → FrontHolds stage.ReadState v n f disk (front_texts keys)
      → Stands (acted (front_action v.state v.closing idle (state_read (key_of keys back_state))) (at stage.ReadState v)) keys
  state_holds v idle keys b e shows h =
      let after : state_needs v.state ≤ state_number b = subst (λ (m : ℕ). state_needs v.state ≤ m) e h.state_after in
      let acts = front_acts b v.state v.closing v.gone idle shows.honest h.own after shows.connected (λ o. (h.leaves_open o).0) in
      subst (λ (r : Option BusState). Stands (acted (front_action v.state v.closing idle r) (at stage.ReadState v)) keys) (sym (state_shown (key_of keys back_state) b shows.state))
      (acted_holds (front_action v.state v.closing idle (Some b)) v idle b (front_texts keys) e acts shows.closed h)

  -- a feature of the back is read
  feature_next : (k next : BackKey) (v : FrontView) (r : Features) (texts : FrontKey → Option (List ℕ)) → FrontHolds (stage.ReadFeature k) v n f disk texts
      → ReadBefore next r f → FrontHolds (stage.ReadFeature next) (record v { features = r; stage = stage.ReadFeature next }) n f disk texts
  feature_next k next v r texts h read =
      record { own = h.own; writes = tt; stage_after = h.stage_after; state_after = h.state_after; gone_after = h.gone_after; leaves_open = h.leaves_open; fits = h.fits; said = h.said; read = read }

  features_end : (k : BackKey) (v : FrontView) (r : Features) (texts : FrontKey → Option (List ℕ)) → FrontHolds (stage.ReadFeature k) v n f disk texts → r ≡ f
      → FrontHolds (stage.RingWord 0) (record v { features = r; stage = stage.RingWord 0 }) n f disk texts
  features_end k v r texts h read =
      record { own = h.own; writes = tt; stage_after = h.stage_after; state_after = h.state_after; gone_after = h.gone_after; leaves_open = h.leaves_open; fits = h.fits; said = h.said; read = read }

  pub feature_holds : (k : BackKey) (v : FrontView) (keys : List (List ℕ × List ℕ)) → f.indirect < 2 ^ 32 → f.order < 2 ^ 32
      → AreFeaturesSaid (back_texts keys) f disk → FrontHolds (stage.ReadFeature k) v n f disk (front_texts keys)
      → Stands (feature_step k (count_read (key_of keys (back_path k))) (at (stage.ReadFeature k) v)) keys
  feature_holds k v keys indirect order says h = by_key k h
    where
      shown : (k : BackKey) (m : ℕ) → count_read (key_of keys (back_path k)) ≡ Some m
          → Stands (feature_step k (Some m) (at (stage.ReadFeature k) v)) keys
          → Stands (feature_step k (count_read (key_of keys (back_path k))) (at (stage.ReadFeature k) v)) keys
      shown k m e h = subst (λ (r : Option ℕ). Stands (feature_step k r (at (stage.ReadFeature k) v)) keys) (sym e) h

      by_key : (k : BackKey) → FrontHolds (stage.ReadFeature k) v n f disk (front_texts keys)
          → Stands (feature_step k (count_read (key_of keys (back_path k))) (at (stage.ReadFeature k) v)) keys
      by_key back_key.FeatureBarrier h =
          shown back_key.FeatureBarrier (flag_of f.barrier) (flag_shown _ f.barrier says.barrier) (feature_next back_key.FeatureBarrier back_key.FeatureFlushCache v _ _ h (is_there f.barrier))
      by_key back_key.FeatureFlushCache h =
          shown back_key.FeatureFlushCache (flag_of f.flush) (flag_shown _ f.flush says.flush) (feature_next back_key.FeatureFlushCache back_key.FeatureDiscard v _ _ h (h.read, is_there f.flush))
      by_key back_key.FeatureDiscard h =
          shown back_key.FeatureDiscard (flag_of f.discard) (flag_shown _ f.discard says.discard) (feature_next back_key.FeatureDiscard back_key.FeaturePersistent v _ _ h (h.read.0, h.read.1, is_there f.discard))
      by_key back_key.FeaturePersistent h =
          let r = h.read in
          shown back_key.FeaturePersistent (flag_of f.persistent) (flag_shown _ f.persistent says.persistent) (feature_next back_key.FeaturePersistent back_key.FeatureMaxIndirectSegments v _ _ h (r.0, r.1, r.2, is_one f.persistent))
      by_key back_key.FeatureMaxIndirectSegments h =
          let r = h.read in
          shown back_key.FeatureMaxIndirectSegments f.indirect (count_shown _ f.indirect indirect says.indirect) (feature_next back_key.FeatureMaxIndirectSegments back_key.MaxRingPageOrder v _ _ h (r.0, r.1, r.2, r.3, refl))
      by_key back_key.MaxRingPageOrder h =
          let r = h.read in
          let all : with_feature v.features back_key.MaxRingPageOrder f.order ≡ f = λ i. record { barrier = r.0 i; flush = r.1 i; discard = r.2 i; persistent = r.3 i; indirect = r.4 i; order = f.order } in
          shown back_key.MaxRingPageOrder f.order (count_shown _ f.order order says.order) (features_end back_key.MaxRingPageOrder v _ _ h all)
      by_key k h = absurd h.read

  -- a fact of its disk is read
  fact_next : (k next : BackKey) (v : FrontView) (e : DiskFacts) (texts : FrontKey → Option (List ℕ)) → FrontHolds (stage.ReadFact k) v n f disk texts
      → FactsBefore next e disk → FrontHolds (stage.ReadFact next) (record v { disk = e; stage = stage.ReadFact next }) n f disk texts
  fact_next k next v e texts h read =
      record { own = h.own; writes = tt; stage_after = h.stage_after; state_after = h.state_after; gone_after = h.gone_after; leaves_open = h.leaves_open; fits = h.fits; said = h.said; read = (h.read.0, read) }

  facts_end : (k : BackKey) (v : FrontView) (e : DiskFacts) (texts : FrontKey → Option (List ℕ)) → FrontHolds (stage.ReadFact k) v n f disk texts → e ≡ disk
      → FrontHolds (stage.WriteState state.Connected) (record v { disk = e; stage = stage.WriteState state.Connected }) n f disk texts
  facts_end k v e texts h read =
      record { own = h.own; writes = tt; stage_after = h.stage_after; state_after = h.state_after; gone_after = h.gone_after; leaves_open = h.leaves_open; fits = h.fits; said = h.said; read = (h.read.0, read) }

  pub fact_holds : (k : BackKey) (v : FrontView) (keys : List (List ℕ × List ℕ)) → disk.sectors < 2 ^ 64
      → AreFactsSaid (back_texts keys) f disk → FrontHolds (stage.ReadFact k) v n f disk (front_texts keys)
      → Stands (fact_step k (fact_read k (key_of keys (back_path k))) (at (stage.ReadFact k) v)) keys
  fact_holds k v keys sectors says h = by_key k h
    where
      shown : (k : BackKey) (m : ℕ) → fact_read k (key_of keys (back_path k)) ≡ Some m
          → Stands (fact_step k (Some m) (at (stage.ReadFact k) v)) keys
          → Stands (fact_step k (fact_read k (key_of keys (back_path k))) (at (stage.ReadFact k) v)) keys
      shown k m e h = subst (λ (r : Option ℕ). Stands (fact_step k r (at (stage.ReadFact k) v)) keys) (sym e) h

      by_key : (k : BackKey) → FrontHolds (stage.ReadFact k) v n f disk (front_texts keys)
          → Stands (fact_step k (fact_read k (key_of keys (back_path k))) (at (stage.ReadFact k) v)) keys
      by_key back_key.Sectors h =
          shown back_key.Sectors disk.sectors (sectors_shown _ disk.sectors sectors says.sectors) (fact_next back_key.Sectors back_key.SectorSize v _ _ h refl)
      by_key back_key.SectorSize h = shown back_key.SectorSize 512 (size_shown _ says.size) (fact_next back_key.SectorSize back_key.Info v _ _ h h.read.1)
      by_key back_key.Info h =
          let r = h.read in
          let all : with_fact v.disk back_key.Info (if disk.read_only then 4 else 0) ≡ disk = λ i. record { sectors = r.1 i; read_only = is_four disk.read_only i } in
          shown back_key.Info (if disk.read_only then 4 else 0) (info_shown _ disk.read_only says.info) (facts_end back_key.Info v _ _ h all)
      by_key k h = absurd h.read.1

  -- the ring is made
  word_holds : (word : ℕ) (v : FrontView) (texts : FrontKey → Option (List ℕ)) (last : Bool) → FrontHolds (stage.RingWord word) v n f disk texts
      → let t = (if last then stage.Grant 0 else stage.RingWord (word + 1)) in FrontHolds t (at t v) n f disk texts
  word_holds word v texts true h = goes (stage.RingWord word) (stage.Grant 0) v texts h tt h.stage_after (λ o. tt) h.said h.read
  word_holds word v texts false h = goes (stage.RingWord word) (stage.RingWord (word + 1)) v texts h tt h.stage_after (λ o. tt) h.said h.read

  grant_holds : (page : ℕ) (v : FrontView) (texts : FrontKey → Option (List ℕ)) (more : Bool) → FrontHolds (stage.Grant page) v n f disk texts
      → let t = (if more then stage.Grant (page + 1) else stage.NewPort) in FrontHolds t (at t v) n f disk texts
  grant_holds page v texts true h = goes (stage.Grant page) (stage.Grant (page + 1)) v texts h tt h.stage_after (λ o. tt) h.said h.read
  grant_holds page v texts false h = goes (stage.Grant page) stage.NewPort v texts h tt h.stage_after (λ o. tt) h.said h.read

  some_is : (p q : ℕ) → Some p ≡ Some q → p < 2 ^ 32 → q < 2 ^ 32
  some_is p q e fits = subst (λ (o : Option ℕ). IsBelow o) e fits
    where
      IsBelow : Option ℕ → Type 0
      IsBelow None = Unit {0}
      IsBelow (Some m) = m < 2 ^ 32

  port_holds : (port : ℕ) (v : FrontView) (texts : FrontKey → Option (List ℕ)) → port < 2 ^ 32 → FrontHolds stage.NewPort v n f disk texts
      → let t = stage.Publish (first_published (ring_order v)) in FrontHolds t (record v { port = Some port; stage = t }) n f disk texts
  port_holds port v texts fits h = by_test (ring_order v == 0) refl
    where
      by_test : (single : Bool) → (ring_order v == 0) ≡ single
          → let t = stage.Publish (if single then key.RingRef else key.RingPageOrder) in FrontHolds t (record v { port = Some port; stage = t }) n f disk texts
      by_test true e =
          let zero : ring_order v ≡ 0 = grind (arith, nat_tests) in
          record { own = h.own; writes = tt; stage_after = h.stage_after; state_after = h.state_after; gone_after = h.gone_after; leaves_open = h.leaves_open; fits = λ p s. some_is port p s fits; said = (refl, (zero, h.said.1)); read = h.read }
      by_test false e =
          let some : 0 < ring_order v = grind (arith, nat_tests) in
          record { own = h.own; writes = tt; stage_after = h.stage_after; state_after = h.state_after; gone_after = h.gone_after; leaves_open = h.leaves_open; fits = λ p s. some_is port p s fits; said = (refl, some); read = h.read }

  -- a key is published
  publish_holds : (k : FrontKey) (v : FrontView) (keys : List (List ℕ × List ℕ)) → ring_order v ≤ 4 → FrontHolds (stage.Publish k) v n f disk (front_texts keys)
      → let t = after_published (next_published (ring_order v) k) in FrontHolds t (at t v) n f disk (front_texts (with_key keys (front_path k) (text_of (front_value (terms_of v) k))))
  publish_holds key.RingPageOrder v keys few h =
      let said = front_said keys (terms_of v) key.RingPageOrder in
      moves (stage.Publish key.RingPageOrder) (stage.Publish (key.RingRefOf 0)) v _ _ h tt h.stage_after (λ o. tt) (h.said.0, (h.said.1, pow_pos (ring_order v), said, λ q low. absurd (omega arith))) h.read
  publish_holds (key.RingRefOf page) v keys few h = by_test (nat_lt (page + 1) (2 ^ ring_order v)) refl
    where
      later : List (List ℕ × List ℕ)
      later = with_key keys (front_path (key.RingRefOf page)) (text_of (front_value (terms_of v) (key.RingRefOf page)))

      order_said : FrontSays (front_texts (with_key keys (front_path (key.RingRefOf page)) (text_of (front_value (terms_of v) (key.RingRefOf page))))) (terms_of v) key.RingPageOrder
      order_said = front_kept keys (terms_of v) (key.RingRefOf page) key.RingPageOrder tt h.said.1.2

      pages_said : (q : ℕ) → q < page + 1
          → FrontSays (front_texts (with_key keys (front_path (key.RingRefOf page)) (text_of (front_value (terms_of v) (key.RingRefOf page))))) (terms_of v) (key.RingRefOf q)
      pages_said q low = by_page (q == page) refl
        where
          by_page : (same : Bool) → (q == page) ≡ same
              → FrontSays (front_texts (with_key keys (front_path (key.RingRefOf page)) (text_of (front_value (terms_of v) (key.RingRefOf page))))) (terms_of v) (key.RingRefOf q)
          by_page true e =
              let same : page ≡ q = grind (arith, nat_tests) in
              subst (λ (r : ℕ). FrontSays (front_texts (with_key keys (front_path (key.RingRefOf page)) (text_of (front_value (terms_of v) (key.RingRefOf page))))) (terms_of v) (key.RingRefOf r)) same (front_said keys (terms_of v) (key.RingRefOf page))
          by_page false e =
              let below : q < page = grind (arith, nat_tests) in
              let high = few_pages (ring_order v) few in
              let within = h.said.1.1 in
              front_kept keys (terms_of v) (key.RingRefOf page) (key.RingRefOf q) (omega arith, omega arith) (h.said.1.3 q below)

      by_test : (more : Bool) → nat_lt (page + 1) (2 ^ ring_order v) ≡ more
          → let t = stage.Publish (if more then key.RingRefOf (page + 1) else key.EventChannel) in FrontHolds t (at t v) n f disk (front_texts (with_key keys (front_path (key.RingRefOf page)) (text_of (front_value (terms_of v) (key.RingRefOf page)))))
      by_test true e =
          let low : page + 1 < 2 ^ ring_order v = grind (arith, nat_tests) in
          moves (stage.Publish (key.RingRefOf page)) (stage.Publish (key.RingRefOf (page + 1))) v _ _ h tt h.stage_after (λ o. tt) (h.said.0, (h.said.1.0, low, order_said, pages_said)) h.read
      by_test false e =
          let all : 2 ^ ring_order v ≤ page + 1 = grind (arith, nat_tests) in
          let ring : IsRingSaid (front_texts (with_key keys (front_path (key.RingRefOf page)) (text_of (front_value (terms_of v) (key.RingRefOf page))))) (terms_of v) = record {
            only = λ zero. absurd (let some = h.said.1.0 in omega arith);
            order = λ some. order_said;
            pages = λ some q low. pages_said q (omega arith);
          } in
          moves (stage.Publish (key.RingRefOf page)) (stage.Publish key.EventChannel) v _ _ h tt h.stage_after (λ o. tt) (h.said.0, ring) h.read
  publish_holds key.RingRef v keys few h =
      let ring : IsRingSaid (front_texts (with_key keys (front_path key.RingRef) (text_of (front_value (terms_of v) key.RingRef)))) (terms_of v) = record {
        only = λ zero. (front_said keys (terms_of v) key.RingRef, no_order_kept keys key.RingRef _ refl h.said.1.1);
        order = λ some. absurd (let zero = h.said.1.0 in omega arith);
        pages = λ some q low. absurd (let zero = h.said.1.0 in omega arith);
      } in
      moves (stage.Publish key.RingRef) (stage.Publish key.EventChannel) v _ _ h tt h.stage_after (λ o. tt) (h.said.0, ring) h.read
  publish_holds key.EventChannel v keys few h =
      let ring = ring_kept keys (terms_of v) key.EventChannel refl tt (λ page. tt) tt h.said.1 in
      moves (stage.Publish key.EventChannel) (stage.Publish key.Protocol) v _ _ h tt h.stage_after (λ o. tt) (h.said.0, (ring, front_said keys (terms_of v) key.EventChannel)) h.read
  publish_holds key.Protocol v keys few h =
      let ring = ring_kept keys (terms_of v) key.Protocol refl tt (λ page. tt) tt h.said.1.0 in
      let port = front_kept keys (terms_of v) key.Protocol key.EventChannel tt h.said.1.1 in
      moves (stage.Publish key.Protocol) (stage.Publish key.FeaturePersistent) v _ _ h tt h.stage_after (λ o. tt) (h.said.0, (ring, port, front_said keys (terms_of v) key.Protocol)) h.read
  publish_holds key.FeaturePersistent v keys few h =
      let said : AreTermsSaid (front_texts (with_key keys (front_path key.FeaturePersistent) (text_of (front_value (terms_of v) key.FeaturePersistent)))) (terms_of v) = record {
        ring = ring_kept keys (terms_of v) key.FeaturePersistent refl tt (λ page. tt) tt h.said.1.0;
        port = front_kept keys (terms_of v) key.FeaturePersistent key.EventChannel tt h.said.1.1;
        layout = front_kept keys (terms_of v) key.FeaturePersistent key.Protocol tt h.said.1.2;
        persistent = front_said keys (terms_of v) key.FeaturePersistent;
      } in
      moves (stage.Publish key.FeaturePersistent) (stage.WriteState state.Initialised) v _ _ h tt h.stage_after (λ o. tt) (h.said.0, said) h.read

  -- a state is written
  written_holds : (s : BusState) (v : FrontView) (texts : FrontKey → Option (List ℕ)) → FrontHolds (stage.WriteState s) v n f disk texts
      → FrontHolds (written s (at (stage.WriteState s) v)).stage (written s (at (stage.WriteState s) v)) n f disk texts
  written_holds state.Initialised v texts h =
      record { own = tt; writes = tt; stage_after = omega arith; state_after = h.stage_after; gone_after = h.gone_after; leaves_open = λ o. (omega arith, tt); fits = h.fits; said = h.said; read = h.read }
  written_holds state.Connected v texts h =
      record { own = tt; writes = tt; stage_after = omega arith; state_after = h.stage_after; gone_after = h.gone_after; leaves_open = λ o. (omega arith, tt); fits = h.fits; said = h.said; read = h.read }
  written_holds state.Closing v texts h =
      record { own = tt; writes = tt; stage_after = omega arith; state_after = omega arith; gone_after = h.gone_after; leaves_open = λ o. absurd (h.leaves_open o).1; fits = h.fits; said = said_later v.state v.port (terms_of v) texts h.said; read = tt }
  written_holds state.Closed v texts h =
      record { own = tt; writes = tt; stage_after = h.stage_after; state_after = h.stage_after; gone_after = h.gone_after; leaves_open = λ o. absurd (h.leaves_open o).1; fits = h.fits; said = said_later v.state v.port (terms_of v) texts h.said; read = tt }
  written_holds other v texts h = absurd h.writes

  -- the front leaves
  end_holds : (page : ℕ) (v : FrontView) (texts : FrontKey → Option (List ℕ)) (more : Bool) → FrontHolds (stage.EndGrant page) v n f disk texts
      → let t = (if more then stage.EndGrant (page + 1) else stage.EndOtherGrants) in FrontHolds t (at t v) n f disk texts
  end_holds page v texts true h = goes (stage.EndGrant page) (stage.EndGrant (page + 1)) v texts h tt h.stage_after (λ o. (h.leaves_open o).1) h.said h.read
  end_holds page v texts false h = goes (stage.EndGrant page) stage.EndOtherGrants v texts h tt h.stage_after (λ o. (h.leaves_open o).1) h.said h.read

  others_hold : (port : Option ℕ) (v : FrontView) (texts : FrontKey → Option (List ℕ)) → FrontHolds stage.EndOtherGrants v n f disk texts
      → FrontHolds (after_grants port) (at (after_grants port) v) n f disk texts
  others_hold (Some port) v texts h = goes stage.EndOtherGrants stage.ClosePort v texts h tt h.stage_after (λ o. (h.leaves_open o).1) h.said h.read
  others_hold None v texts h = goes stage.EndOtherGrants (stage.WriteState state.Closed) v texts h tt h.stage_after (λ o. (h.leaves_open o).1) h.said h.read

  port_closed : (v : FrontView) (texts : FrontKey → Option (List ℕ)) → v.state ≡ state.Closing → FrontHolds stage.ClosePort v n f disk texts
      → FrontHolds (stage.WriteState state.Closed) (record v { port = None; stage = stage.WriteState state.Closed }) n f disk texts
  port_closed v texts closing h = record {
    own = h.own;
    writes = tt;
    stage_after = h.stage_after;
    state_after = h.state_after;
    gone_after = h.gone_after;
    leaves_open = λ o. absurd (h.leaves_open o).1;
    fits = λ p e. absurd (true≢false (sym (subst (λ (o : Option ℕ). IsSome o) (sym e) refl)));
    said = rw closing (λ some. absurd (true≢false (sym some)));
    read = h.read;
  }

  -- the front waits
  rest_holds : (o : Option (List ℕ)) (v : FrontView) (idle : Bool) (keys : List (List ℕ × List ℕ))
      → FrontHolds stage.Rest v n f disk (front_texts keys) → Stands (step_at stage.Rest (at stage.Rest v) idle (front_woken o)) keys
  rest_holds None v idle keys h = goes stage.Rest stage.Rest v _ h tt h.stage_after (λ o. tt) h.said h.read
  rest_holds (Some path) v idle keys h = goes stage.Rest stage.ReadState v _ h tt h.stage_after (λ o. tt) h.said h.read

  closed_holds : (o : Option (List ℕ)) (v : FrontView) (idle : Bool) (keys : List (List ℕ × List ℕ))
      → FrontHolds stage.Closed v n f disk (front_texts keys) → Stands (step_at stage.Closed (at stage.Closed v) idle (front_woken o)) keys
  closed_holds None v idle keys h = goes stage.Closed stage.Closed v _ h tt h.stage_after (λ o. (h.leaves_open o).1) h.said h.read
  closed_holds (Some path) v idle keys h = goes stage.Closed stage.Closed v _ h tt h.stage_after (λ o. (h.leaves_open o).1) h.said h.read

  broken_holds : (word : ℕ) (o : Option (List ℕ)) (v : FrontView) (idle : Bool) (keys : List (List ℕ × List ℕ))
      → FrontHolds (stage.Broken word) v n f disk (front_texts keys)
      → Stands (step_at (stage.Broken word) (at (stage.Broken word) v) idle (front_woken o)) keys
  broken_holds word None v idle keys h = goes (stage.Broken word) (stage.Broken word) v _ h tt h.stage_after (λ o. (h.leaves_open o).1) h.said h.read
  broken_holds word (Some path) v idle keys h = goes (stage.Broken word) (stage.Broken word) v _ h tt h.stage_after (λ o. (h.leaves_open o).1) h.said h.read

  -- each move of the front
  pub front_holds_at : (s : FrontBusStage) (v : FrontView) (idle : Bool) (port : ℕ) (d : Directory) (b : BusState) → n ≡ state_number b
      → IsTimely s v.state → port < 2 ^ 32 → ring_order v ≤ 4 → BackShows d.keys b v.state f disk → FrontHolds s v n f disk (front_texts d.keys)
      → Stands (step_at s (at s v) idle (front_answered (ask_at s v) port d)) (front_done (ask_at s v) d).keys
  front_holds_at stage.Start v idle port d b e timely fits few shows h = goes stage.Start stage.Rest v _ h tt (omega arith) (λ o. tt) (rw timely h.said) (rw timely tt)
  front_holds_at stage.Rest v idle port d b e timely fits few shows h = rest_holds (next_watch d.front) v idle d.keys h
  front_holds_at stage.ReadState v idle port d b e timely fits few shows h = state_holds v idle d.keys b e shows h
  front_holds_at (stage.ReadFeature k) v idle port d b e timely fits few shows h =
      let two : 2 ≤ state_number b = subst (λ (m : ℕ). 2 ≤ m) e h.stage_after in
      feature_holds k v d.keys shows.indirect shows.order (shows.features two) h
  front_holds_at (stage.RingWord word) v idle port d b e timely fits few shows h = word_holds word v _ (word == 15) h
  front_holds_at (stage.Grant page) v idle port d b e timely fits few shows h = grant_holds page v _ (nat_lt (page + 1) (pages_of v)) h
  front_holds_at stage.NewPort v idle port d b e timely fits few shows h = port_holds port v _ fits h
  front_holds_at (stage.Publish k) v idle port d b e timely fits few shows h = publish_holds k v d.keys few h
  front_holds_at (stage.ReadFact k) v idle port d b e timely fits few shows h =
      let four : 4 ≤ state_number b = subst (λ (m : ℕ). 4 ≤ m) e h.stage_after in
      let low : state_number v.state < 5 = rw timely (omega arith) in
      fact_holds k v d.keys shows.sectors (shows.facts four low) h
  front_holds_at (stage.WriteState s) v idle port d b e timely fits few shows h =
      let w = written s (at (stage.WriteState s) v) in
      subst (λ (texts : FrontKey → Option (List ℕ)). FrontHolds w.stage w n f disk texts) (sym (front_texts_state d.keys (state_text s))) (written_holds s v _ h)
  front_holds_at (stage.EndGrant page) v idle port d b e timely fits few shows h = end_holds page v _ (nat_lt (page + 1) (pages_of v)) h
  front_holds_at stage.EndOtherGrants v idle port d b e timely fits few shows h = others_hold v.port v _ h
  front_holds_at stage.ClosePort v idle port d b e timely fits few shows h = port_closed v _ timely h
  front_holds_at stage.Closed v idle port d b e timely fits few shows h = closed_holds (next_watch d.front) v idle d.keys h
  front_holds_at (stage.Broken word) v idle port d b e timely fits few shows h = broken_holds word (next_watch d.front) v idle d.keys h
