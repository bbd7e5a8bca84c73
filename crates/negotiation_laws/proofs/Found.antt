-- The laws on the directory and on what each end reads of it.
use Rattle.std.proofs.Common.{◌≡◌, ◌∙◌, ap, sym, subst, ℕ, ◌^◌, ◌<◌, ◌≤◌, ◌==◌, Bool, true, false, List, [], ◌∷◌, refl, arith, inl, inr}
use Rattle.std.specs.Prelude.{Option, IsSome}
use Rattle.std.proofs.lemmas.Bool.Decides.{nat_tests}
use Rattle.blk_base.specs.declared.parts.Mapping.{Mapping}
use Rattle.xenbus_state.specs.States.{state_number}
use Rattle.xenbus_state.specs.declared.keys.BackKey.{BackKey}
use Rattle.xenbus_state.specs.declared.keys.BackKey.TheVariants as back_key
use Rattle.xenbus_state.specs.declared.keys.FrontKey.{FrontKey}
use Rattle.xenbus_state.specs.declared.keys.FrontKey.TheVariants as front_key
use Rattle.xenbus_state.specs.declared.offer.Features.{Features}
use Rattle.xenbus_state.specs.declared.offer.DiskFacts.{DiskFacts}
use Rattle.xenbus_state.specs.declared.values.FrontTerms.{FrontTerms}
use Rattle.xenbus_state.specs.declared.state.BusState.{BusState}
use Rattle.xenbus_state.specs.declared.state.BusState.TheVariants as state
use Rattle.xenbus_state.specs.declared.stage.FrontBusStage.{FrontBusStage}
use Rattle.xenbus_state.specs.declared.stage.FrontBusStage.TheVariants as front
use Rattle.xenbus_state.specs.declared.stage.BackBusStage.{BackBusStage}
use Rattle.xenbus_state.specs.declared.stage.BackBusStage.TheVariants as back
use Rattle.xenbus_state.specs.declared.front.FrontBusAsk.{FrontBusAsk}
use Rattle.xenbus_state.specs.declared.front.FrontBusAsk.TheVariants as front_ask
use Rattle.xenbus_state.specs.declared.back.BackBusAsk.{BackBusAsk}
use Rattle.xenbus_state.specs.declared.back.BackBusAsk.TheVariants as back_ask
use Rattle.xenbus_state.specs.FrontView.{FrontView, terms_of}
use Rattle.xenbus_state.specs.FrontAsk as front_asks
use Rattle.xenbus_state.specs.FrontAsk.{due}
use Rattle.xenbus_state.specs.BackView.{BackView}
use Rattle.xenbus_state.specs.BackAsk as back_asks
use Rattle.xenbus_state.specs.FrontSound as front_sound
use Rattle.xenbus_state.specs.BackSound.{IsPlaced, IsReading}
use Rattle.negotiation_laws.specs.Negotiation.{Negotiation}
use Rattle.negotiation_laws.specs.Run.{NegotiationRun, now}
use Rattle.negotiation_laws.specs.Laws.{AreStatesSaid, TermsAreSaid, FeaturesAreSaid, FactsAreSaid, grefs_of, BackReadsTheFront, FrontReadsTheBack, MapsByTheTerms, GoesByTheTerms, GoesByTheOffer, GoesByTheDisk, KeepsTheOffer, IsConnectedAfter, BackConnectsAfter}
use Rattle.negotiation_laws.specs.Said.{front_texts, back_texts, BackSays, AreTermsSaid, AreFeaturesSaid, AreFactsSaid, IsToldBy}
use Rattle.negotiation_laws.proofs.Choices.{either}
use Rattle.negotiation_laws.proofs.FrontSteps.{due_holds}
use Rattle.negotiation_laws.proofs.Holds.{Holds, holds, back_shows, front_shows, due_timely}
use Rattle.negotiation_laws.proofs.Stays.{stays}
use Rattle.negotiation_laws.proofs.Subjects.{state_needs, ReadAt, ReadBefore, FactsBefore, BackHolds, FrontHolds, TermsBefore, FactsAt, FactsLeft}

-- what is true at every moment of a run
pub run_holds : (r : NegotiationRun) → Holds r.offer r.facts (now r)
run_holds r = holds r.front r.offer r.facts r.happenings r.within r.ports

pub states_said : (r : NegotiationRun) → AreStatesSaid (now r)
states_said r = (run_holds r).states

-- the terms that a ready front has said
ready_said : (f : Features) (d : DiskFacts) (t : Negotiation) → Holds f d t → t.front.state ≡ state.Initialised → AreTermsSaid (front_texts t.keys.keys) (terms_of t.front)
ready_said f d t h e =
    let shows = front_shows f d t h in
    shows.said (rw e (omega arith)) (shows.ready (rw e tt))

pub terms_said : TermsAreSaid
terms_said r later fits e =
    let h = run_holds r in
    let same = (stays r.offer r.facts later (now r) fits h).said (rw e (omega arith)) in
    subst (λ (g : FrontKey → Option (List ℕ)). AreTermsSaid g (terms_of (now r).front)) (sym same) (ready_said r.offer r.facts (now r) h e)

pub features_said : FeaturesAreSaid
features_said r = (back_shows r.offer r.facts (now r) (run_holds r)).features

-- one state is not another
pub unlike : (own a b : BusState) → own ≡ a → own ≡ b → state_number a < state_number b → ⊥
unlike own a b e f low = let same : state_number own ≡ state_number a = ap state_number e in let other : state_number own ≡ state_number b = ap state_number f in omega arith

-- what a connected back has said and read
pub record IsConnected (v : BackView) (n : ℕ) (port : Option ℕ) (terms : FrontTerms) (f : Features) (d : DiskFacts) (texts : BackKey → Option (List ℕ)) : Type 0 where
  pub serving : (3 ≤ n) × IsSome port
  pub facts : AreFactsSaid texts f d
  pub terms_read : v.terms ≡ terms
  pub grefs_read : v.grefs ≡ grefs_of (2 ^ terms.order)

module _ (v : BackView) (n : ℕ) (port : Option ℕ) (terms : FrontTerms) (f : Features) (d : DiskFacts) (texts : BackKey → Option (List ℕ)) where
  connected_so : (3 ≤ n) × IsSome port → AreFactsSaid texts f d → (v.terms ≡ terms) × (v.grefs ≡ grefs_of (2 ^ terms.order)) → IsConnected v n port terms f d texts
  connected_so serving facts read = record { serving = serving; facts = facts; terms_read = read.0; grefs_read = read.1 }

  connected_at : (s : BackBusStage) → v.state ≡ state.Connected → IsPlaced s v → BackHolds s v n port terms f d texts → IsConnected v n port terms f d texts
  connected_at back.Rest e placed h = connected_so (h.serving_after (rw e refl)) (subst (λ (own : BusState). FactsAt own texts f d) e h.said.1) (h.read (rw e refl))
  connected_at back.ReadState e placed h = connected_so (h.serving_after (rw e refl)) (subst (λ (own : BusState). FactsAt own texts f d) e h.said.1) (h.read (rw e refl))
  connected_at back.UnmapOthers e placed h = connected_so (h.serving_after (rw e refl)) (subst (λ (own : BusState). FactsLeft own texts f d) e h.said.1) (h.read (rw e refl))
  connected_at back.UnmapPage e placed h = connected_so (h.serving_after (rw e refl)) (subst (λ (own : BusState). FactsLeft own texts f d) e h.said.1) (h.read (rw e refl))
  connected_at back.ClosePort e placed h = connected_so (h.serving_after (rw e refl)) (subst (λ (own : BusState). FactsLeft own texts f d) e h.said.1) (h.read (rw e refl))
  connected_at (back.WriteState state.Closing) e placed h = connected_so (h.serving_after (rw e refl)) (subst (λ (own : BusState). FactsLeft own texts f d) e h.said.1) (h.read (rw e refl))
  connected_at (back.Publish k) e placed h = absurd (unlike v.state state.Initialising state.Connected placed.0 e (omega arith))
  connected_at (back.WriteState state.InitWait) e placed h = absurd (unlike v.state state.Initialising state.Connected placed.0 e (omega arith))
  connected_at (back.WriteState state.Connected) e placed h = absurd (unlike v.state state.InitWait state.Connected placed.0 e (omega arith))
  connected_at (back.WriteState state.Closed) e placed h = absurd (unlike v.state state.Connected state.Closing e placed.0 (omega arith))
  connected_at (back.WriteState s) e placed h = absurd placed
  connected_at back.Halted e placed h = absurd (unlike v.state state.Connected state.Closed e placed.0 (omega arith))
  connected_at other e placed h = absurd (unlike v.state state.InitWait state.Connected placed.0 e (omega arith))

pub connected_back : (r : NegotiationRun) → (now r).back.state ≡ state.Connected
    → IsConnected (now r).back (state_number (now r).front.state) (now r).front.port (terms_of (now r).front) r.offer r.facts (back_texts (now r).keys.keys)
connected_back r e =
    let h = run_holds r in
    let t = now r in
    connected_at t.back (state_number t.front.state) t.front.port (terms_of t.front) r.offer r.facts (back_texts t.keys.keys) t.back.stage e h.back_sound.placed h.back

pub facts_said : FactsAreSaid
facts_said r later fits e = (stays r.offer r.facts later (now r) fits (run_holds r)).facts (connected_back r e).facts

pub terms_kept : GoesByTheTerms
terms_kept r later fits e =
    let kept = stays r.offer r.facts later (now r) fits (run_holds r) in
    let four : 4 ≤ state_number (now r).back.state = rw e (omega arith) in
    let known = connected_back r e in
    (kept.terms four ∙ known.terms_read, kept.grefs four ∙ known.grefs_read)

-- what the back reads is what the front has said
told_by : (k : FrontKey) (v : BackView) (terms : FrontTerms) (texts : FrontKey → Option (List ℕ)) (grefs : List ℕ) → TermsBefore k v.terms terms grefs
    → IsReading k v → AreTermsSaid texts terms → IsToldBy texts terms k
told_by front_key.RingPageOrder v terms texts grefs read reads said = by_test (terms.order == 0) refl
  where
    by_test : (single : Bool) → (terms.order == 0) ≡ single → IsToldBy texts terms front_key.RingPageOrder
    by_test true e = let zero : terms.order ≡ 0 = grind (arith, nat_tests) in inr (zero, (said.ring.only zero).1)
    by_test false e = let some : 0 < terms.order = grind (arith, nat_tests) in inl (said.ring.order some)
told_by (front_key.RingRefOf page) v terms texts grefs read reads said = said.ring.pages read.1 page (subst (λ (m : ℕ). page < 2 ^ m) read.0 reads.1)
told_by front_key.RingRef v terms texts grefs read reads said = (said.ring.only read.1).0
told_by front_key.EventChannel v terms texts grefs read reads said = said.port
told_by front_key.Protocol v terms texts grefs read reads said = said.layout
told_by front_key.FeaturePersistent v terms texts grefs read reads said = said.persistent

abbrev KeyAsked : BackBusAsk → (FrontKey → Option (List ℕ)) → FrontTerms → Type 0
KeyAsked (back_ask.GetKey k) texts terms = IsToldBy texts terms k
KeyAsked a texts terms = Unit {0}

unmap_asked : (pages : List Mapping) (texts : FrontKey → Option (List ℕ)) (terms : FrontTerms) → KeyAsked (back_asks.unmap_ask pages) texts terms
unmap_asked [] texts terms = tt
unmap_asked (page ∷ pages) texts terms = tt

module _ (f : Features) (d : DiskFacts) (t : Negotiation) where
  key_asked : (s : BackBusStage) → IsPlaced s t.back → BackHolds s t.back (state_number t.front.state) t.front.port (terms_of t.front) f d (back_texts t.keys.keys)
      → Holds f d t → KeyAsked (back_asks.ask_at s t.back) (front_texts t.keys.keys) (terms_of t.front)
  key_asked (back.ReadKey k) placed held h =
      let shows = front_shows f d t h in
      let late = held.serving_after refl in
      told_by k t.back (terms_of t.front) (front_texts t.keys.keys) t.back.grefs (held.read refl) placed.2 (shows.said late.0 late.1)
  key_asked back.UnmapPage placed held h = unmap_asked t.back.pages (front_texts t.keys.keys) (terms_of t.front)
  key_asked back.Watch placed held h = tt
  key_asked s placed held h = tt

  key_asked_now : Holds f d t → KeyAsked (back_asks.ask_of t.back) (front_texts t.keys.keys) (terms_of t.front)
  key_asked_now h =
      either (λ (a : BackBusAsk). KeyAsked a (front_texts t.keys.keys) (terms_of t.front)) (back_asks.says_closing t.back) (back_ask.SetState state.Closing) (back_asks.ask_at t.back.stage t.back) tt (key_asked t.back.stage h.back_sound.placed h.back h)

pub back_reads : BackReadsTheFront
back_reads r k e = subst (λ (a : BackBusAsk). KeyAsked a (front_texts (now r).keys.keys) (terms_of (now r).front)) e (key_asked_now r.offer r.facts (now r) (run_holds r))

-- the back maps by the front's terms
abbrev MapAsked : BackBusAsk → BackView → FrontTerms → Type 0
MapAsked (back_ask.Map gref) v terms = (v.terms ≡ terms) × (v.grefs ≡ grefs_of (2 ^ terms.order))
MapAsked a v terms = Unit {0}

unmap_maps : (pages : List Mapping) (v : BackView) (terms : FrontTerms) → MapAsked (back_asks.unmap_ask pages) v terms
unmap_maps [] v terms = tt
unmap_maps (page ∷ pages) v terms = tt

map_asked : (s : BackBusStage) (v : BackView) (n : ℕ) (port : Option ℕ) (terms : FrontTerms) (f : Features) (d : DiskFacts) (texts : BackKey → Option (List ℕ))
    → BackHolds s v n port terms f d texts → MapAsked (back_asks.ask_at s v) v terms
map_asked back.MapPage v n port terms f d texts h = h.read refl
map_asked back.UnmapPage v n port terms f d texts h = unmap_maps v.pages v terms
map_asked back.Watch v n port terms f d texts h = tt
map_asked s v n port terms f d texts h = tt

map_asked_now : (v : BackView) (n : ℕ) (port : Option ℕ) (terms : FrontTerms) (f : Features) (d : DiskFacts) (texts : BackKey → Option (List ℕ))
    → BackHolds v.stage v n port terms f d texts → MapAsked (back_asks.ask_of v) v terms
map_asked_now v n port terms f d texts h =
    either (λ (a : BackBusAsk). MapAsked a v terms) (back_asks.says_closing v) (back_ask.SetState state.Closing) (back_asks.ask_at v.stage v) tt (map_asked v.stage v n port terms f d texts h)

pub maps_by_terms : MapsByTheTerms
maps_by_terms r gref e =
    let h = run_holds r in
    let t = now r in
    subst (λ (a : BackBusAsk). MapAsked a t.back (terms_of t.front)) e (map_asked_now t.back (state_number t.front.state) t.front.port (terms_of t.front) r.offer r.facts (back_texts t.keys.keys) h.back)

-- what the front has read
module _ (v : FrontView) (n : ℕ) (f : Features) (d : DiskFacts) (texts : FrontKey → Option (List ℕ)) where
  offer_at : (s : FrontBusStage) → v.state ≡ state.Initialised → front_sound.IsTimely s v.state → FrontHolds s v n f d texts → v.features ≡ f
  offer_at (front.ReadFeature k) e timely h = absurd (unlike v.state state.Initialising state.Initialised timely e (omega arith))
  offer_at (front.RingWord word) e timely h = h.read
  offer_at (front.Grant page) e timely h = h.read
  offer_at front.NewPort e timely h = h.read
  offer_at (front.Publish k) e timely h = h.read
  offer_at (front.ReadFact k) e timely h = h.read.0
  offer_at (front.WriteState state.Initialised) e timely h = h.read
  offer_at (front.WriteState state.Connected) e timely h = h.read.0
  offer_at s e timely h = subst (λ (own : BusState). ReadAt own v.features f v.disk d) e h.read

  disk_at : (s : FrontBusStage) → v.state ≡ state.Connected → front_sound.IsTimely s v.state → FrontHolds s v n f d texts → (v.features ≡ f) × (v.disk ≡ d)
  disk_at (front.ReadFeature k) e timely h = absurd (unlike v.state state.Initialising state.Connected timely e (omega arith))
  disk_at (front.RingWord word) e timely h = absurd (unlike v.state state.Initialising state.Connected timely e (omega arith))
  disk_at (front.Grant page) e timely h = absurd (unlike v.state state.Initialising state.Connected timely e (omega arith))
  disk_at front.NewPort e timely h = absurd (unlike v.state state.Initialising state.Connected timely e (omega arith))
  disk_at (front.Publish k) e timely h = absurd (unlike v.state state.Initialising state.Connected timely e (omega arith))
  disk_at (front.ReadFact k) e timely h = absurd (unlike v.state state.Initialised state.Connected timely e (omega arith))
  disk_at (front.WriteState state.Initialised) e timely h = absurd (let same : state_number v.state ≡ 4 = ap state_number e in let low = timely.0 in omega arith)
  disk_at (front.WriteState state.Connected) e timely h = h.read
  disk_at s e timely h = subst (λ (own : BusState). ReadAt own v.features f v.disk d) e h.read

pub offer_kept : GoesByTheOffer
offer_kept r later fits e =
    let h = run_holds r in
    let t = now r in
    (stays r.offer r.facts later t fits h).features (rw e (omega arith)) ∙ offer_at t.front (state_number t.back.state) r.offer r.facts (front_texts t.keys.keys) t.front.stage e h.front_sound.timely h.front

pub disk_kept : GoesByTheDisk
disk_kept r later fits e =
    let h = run_holds r in
    let t = now r in
    let kept = stays r.offer r.facts later t fits h in
    let known = disk_at t.front (state_number t.back.state) r.offer r.facts (front_texts t.keys.keys) t.front.stage e h.front_sound.timely h.front in
    (kept.features (rw e (omega arith)) ∙ known.0, kept.disk (rw e (omega arith)) ∙ known.1)

pub back_unchanged : KeepsTheOffer
back_unchanged r = let h = run_holds r in (h.back.offer, h.back.disk)

-- what the front reads is what the back has said
feature_said : (k : BackKey) (r f : Features) (d : DiskFacts) (texts : BackKey → Option (List ℕ)) → ReadBefore k r f → AreFeaturesSaid texts f d → BackSays texts f d k
feature_said back_key.FeatureBarrier r f d texts read h = h.barrier
feature_said back_key.FeatureFlushCache r f d texts read h = h.flush
feature_said back_key.FeatureDiscard r f d texts read h = h.discard
feature_said back_key.FeaturePersistent r f d texts read h = h.persistent
feature_said back_key.FeatureMaxIndirectSegments r f d texts read h = h.indirect
feature_said back_key.MaxRingPageOrder r f d texts read h = h.order
feature_said k r f d texts read h = absurd read

fact_said : (k : BackKey) (e d : DiskFacts) (f : Features) (texts : BackKey → Option (List ℕ)) → FactsBefore k e d → AreFactsSaid texts f d → BackSays texts f d k
fact_said back_key.Sectors e d f texts read h = h.sectors
fact_said back_key.SectorSize e d f texts read h = h.size
fact_said back_key.Info e d f texts read h = h.info
fact_said k e d f texts read h = absurd read

abbrev BackKeyAsked : FrontBusAsk → (BackKey → Option (List ℕ)) → Features → DiskFacts → Type 0
BackKeyAsked (front_ask.GetKey k) texts f d = BackSays texts f d k
BackKeyAsked a texts f d = Unit {0}

back_key_asked : (f : Features) (d : DiskFacts) (t : Negotiation) (s : FrontBusStage) → front_sound.IsTimely s t.front.state
    → FrontHolds s t.front (state_number t.back.state) f d (front_texts t.keys.keys) → Holds f d t
    → BackKeyAsked (front_asks.ask_at s t.front) (back_texts t.keys.keys) f d
back_key_asked f d t (front.ReadFeature k) timely held h = feature_said k t.front.features f d (back_texts t.keys.keys) held.read ((back_shows f d t h).features held.stage_after)
back_key_asked f d t (front.ReadFact k) timely held h =
    fact_said k t.front.disk d f (back_texts t.keys.keys) held.read.1 ((back_shows f d t h).facts held.stage_after (rw timely (omega arith)))
back_key_asked f d t front.Start timely held h = tt
back_key_asked f d t s timely held h = tt

pub front_reads : FrontReadsTheBack
front_reads r idle k e =
    let h = run_holds r in
    let t = now r in
    let s = due t.front idle in
    let held = due_holds (state_number t.back.state) r.offer r.facts t.front.stage t.front idle (front_texts t.keys.keys) h.front in
    subst (λ (a : FrontBusAsk). BackKeyAsked a (back_texts t.keys.keys) r.offer r.facts) e (back_key_asked r.offer r.facts t s (due_timely t.front.stage t.front idle h.front_sound.timely) held h)

-- the order of both states
pub connected_after : IsConnectedAfter
connected_after r e = subst (λ (own : BusState). state_needs own ≤ state_number (now r).back.state) e (run_holds r).front.state_after

pub back_connects_after : BackConnectsAfter
back_connects_after r e = (back_shows r.offer r.facts (now r) (run_holds r)).connected (rw e (omega arith))
