-- The front knows what its back serves, whatever a hostile hand overwrites: it reads the back's own keys, which say so by then.
use Rattle.std.proofs.Common.{◌≡◌, ℕ, ◌+◌, ◌==◌, ◌||◌, ◌≤◌, Bool, true, false, true≢false, not, List, if◌then◌else◌, refl, ap, sym, ◌∙◌, subst, arith}
use Rattle.std.specs.Prelude.{Option, Some, None, IsSome, nat_lt}
use Rattle.std.proofs.lemmas.Option.{same_Some}
use Rattle.blk_base.specs.declared.ask.FrontAnswer.{FrontAnswer}
use Rattle.blk_base.specs.declared.ask.FrontAnswer.TheVariants as answer
use Rattle.blk_base.specs.declared.parts.End.TheVariants as end
use Rattle.key_directory.specs.Directory.{key_of}
use Rattle.hypervisor.specs.Act.{FrontAct, front_act}
use Rattle.xenbus_state.specs.declared.keys.FrontKey.{FrontKey}
use Rattle.xenbus_state.specs.declared.keys.BackKey.{BackKey}
use Rattle.xenbus_state.specs.declared.keys.BackKey.TheVariants as key
use Rattle.xenbus_state.specs.declared.offer.Features.{Features}
use Rattle.xenbus_state.specs.declared.state.BusState.{BusState}
use Rattle.xenbus_state.specs.declared.state.BusState.TheVariants as state
use Rattle.xenbus_state.specs.declared.stage.FrontBusStage.{FrontBusStage}
use Rattle.xenbus_state.specs.declared.stage.FrontBusStage.TheVariants as stage
use Rattle.xenbus_state.specs.declared.table.FrontAction.{FrontAction}
use Rattle.xenbus_state.specs.declared.table.FrontAction.TheVariants as action
use Rattle.xenbus_state.specs.declared.front.FrontBusAsk.{FrontBusAsk}
use Rattle.xenbus_state.specs.declared.front.FrontBusAsk.TheVariants as ask
use Rattle.xenbus_state.specs.States.{state_read}
use Rattle.xenbus_state.specs.Tables.{front_action}
use Rattle.xenbus_state.specs.Keys.{back_name, path_under}
use Rattle.xenbus_state.specs.Values.{flag_of}
use Rattle.xenbus_state.specs.Programs.{next_fact, next_published}
use Rattle.xenbus_state.specs.Reading.{count_read, fact_read}
use Rattle.xenbus_state.specs.FrontView.{FrontView, ring_order, pages_of, closed, suspended, suspended_at, is_broken}
use Rattle.xenbus_state.specs.FrontAsk.{leaving, closing_stage, due, due_at, ask_at, ask_of}
use Rattle.xenbus_state.specs.FrontStep.{at, acted, feature_step, after_fact, fact_step, after_state, after_grants, after_published, after, step_at, step_of}
use Rattle.negotiation_laws.proofs.Shown.{count_shown, flag_shown, is_there}
use Rattle.split_model.proofs.SafeActs.{of_front}
use Rattle.vbd_front.specs.View as front_view
use Rattle.vbd_front.specs.Ask as front
use Rattle.vbd_front.specs.Step as front_step
use Rattle.vbd_front.specs.Step.{settled_at, bus_told}
use Rattle.vbd_model.specs.World.{World, frontend_of}
use Rattle.vbd_model.specs.Happening.{front_turn, front_bus_after}
use Rattle.vbd_model.specs.Fit.{SaysKey, IsServiceSaid, ReadsOffer, IsFit}
use Rattle.negotiation_laws.proofs.Choices.{either, closed_cases}
use Rattle.vbd_laws.proofs.FitFrontBus.{due_ways}
use Rattle.vbd_laws.proofs.FitFrontMoves.{left_starts}
use Rattle.vbd_laws.proofs.FitFrontReads.{followed_is, waited_is}
use Rattle.vbd_laws.proofs.FitFront.{asks_cases}
use Rattle.vbd_laws.proofs.MovesTurns.{front_asks, front_cases}

-- what was read of a back of these features is so
pub record AreKnown (r f : Features) : Type 0 where
  pub barrier : r.barrier ≡ f.barrier
  pub flush : r.flush ≡ f.flush
  pub discard : r.discard ≡ f.discard
  pub indirect : r.indirect ≡ f.indirect

-- before this key the others are known
abbrev KnowsBefore : BackKey → (r f : Features) → Type 0
KnowsBefore key.FeatureBarrier r f = Unit {0}
KnowsBefore key.FeatureFlushCache r f = r.barrier ≡ f.barrier
KnowsBefore key.FeatureDiscard r f = (r.barrier ≡ f.barrier) × (r.flush ≡ f.flush)
KnowsBefore key.FeaturePersistent r f = (r.barrier ≡ f.barrier) × (r.flush ≡ f.flush) × (r.discard ≡ f.discard)
KnowsBefore key.FeatureMaxIndirectSegments r f = (r.barrier ≡ f.barrier) × (r.flush ≡ f.flush) × (r.discard ≡ f.discard)
KnowsBefore k r f = AreKnown r f

-- all are known once the ring is made, and while there is a port
abbrev pub KnowsAt : (f : Features) → FrontBusStage → (r : Features) → (port : Option ℕ) → Type 0
KnowsAt f (stage.ReadFeature k) r port = KnowsBefore k r f
KnowsAt f (stage.RingWord word) r port = AreKnown r f
KnowsAt f (stage.Grant page) r port = AreKnown r f
KnowsAt f stage.NewPort r port = AreKnown r f
KnowsAt f (stage.Broken word) r port = Unit {0}
KnowsAt f d r port = IsSome port → AreKnown r f

-- what a key shows
abbrev IsShown : Features → BackKey → Option ℕ → Type 0
IsShown f key.FeatureBarrier n = n ≡ Some (flag_of f.barrier)
IsShown f key.FeatureFlushCache n = n ≡ Some (flag_of f.flush)
IsShown f key.FeatureDiscard n = n ≡ Some (flag_of f.discard)
IsShown f key.FeatureMaxIndirectSegments n = n ≡ Some f.indirect
IsShown f k n = Unit {0}

-- what the front reads is what the back's key says
abbrev pub ReadsAt : Features → FrontBusStage → FrontAnswer → Type 0
ReadsAt f (stage.ReadFeature k) (answer.Key text) = IsShown f k (count_read text)
ReadsAt f d x = Unit {0}

reads_done : (f : Features) (d : FrontBusStage) → ReadsAt f d answer.Done
reads_done f (stage.ReadFeature k) = tt
reads_done f d = tt

is_set : (n : ℕ) (b : Bool) → ◌≡◌ {A = Option ℕ} (Some n) (Some (flag_of b)) → not (n == 0) ≡ b
is_set n b e = ap (λ (m : ℕ). not (m == 0)) (same_Some n (flag_of b) e) ∙ is_there b

module _ (f : Features) where
  abbrev pub Knows : FrontView → Type 0
  Knows v = KnowsAt f v.stage v.features v.port

  feature_knows : (k : BackKey) (n : Option ℕ) (v : FrontView) → IsShown f k n → KnowsBefore k v.features f → Knows (feature_step k n v)
  feature_knows k None v shown is = tt
  feature_knows key.FeatureBarrier (Some n) v shown is = is_set n f.barrier shown
  feature_knows key.FeatureFlushCache (Some n) v shown is = (is, is_set n f.flush shown)
  feature_knows key.FeatureDiscard (Some n) v shown is = (is.0, is.1, is_set n f.discard shown)
  feature_knows key.FeatureMaxIndirectSegments (Some n) v shown is = record { barrier = is.0; flush = is.1; discard = is.2; indirect = same_Some n f.indirect shown }
  feature_knows key.MaxRingPageOrder (Some n) v shown is = record { barrier = is.barrier; flush = is.flush; discard = is.discard; indirect = is.indirect }
  feature_knows other (Some n) v shown is = is

  acted_knows : (act : FrontAction) (v : FrontView) → (IsSome v.port → AreKnown v.features f) → Knows (acted act v)
  acted_knows action.Publish v is = tt
  acted_knows (action.Break word) v is = tt
  acted_knows other v is = is

  fact_knows : (k : BackKey) (n : Option ℕ) (v : FrontView) → (IsSome v.port → AreKnown v.features f) → Knows (fact_step k n v)
  fact_knows k None v is = tt
  fact_knows k (Some n) v is = elim (next_fact k) as (λ next. KnowsAt f (after_fact next) v.features v.port) [ None ↦ is | Some key ↦ is ]

  written_knows : (s : BusState) (r : Features) (port : Option ℕ) → (IsSome port → AreKnown r f) → KnowsAt f (after_state s) r port
  written_knows state.Closed r port is = is
  written_knows s r port is = is

  after_knows : (d : FrontBusStage) (v : FrontView) → KnowsAt f d v.features v.port → KnowsAt f (after d v) v.features v.port
  after_knows stage.Start v is = is
  after_knows (stage.RingWord word) v is = either (λ (one : FrontBusStage). KnowsAt f one v.features v.port) (word == 15) (stage.Grant 0) (stage.RingWord (word + 1)) is is
  after_knows (stage.Grant page) v is = either (λ (one : FrontBusStage). KnowsAt f one v.features v.port) (nat_lt (page + 1) (pages_of v)) (stage.Grant (page + 1)) stage.NewPort is is
  after_knows (stage.Publish k) v is = elim (next_published (ring_order v) k) as (λ next. KnowsAt f (after_published next) v.features v.port) [ None ↦ is | Some key ↦ is ]
  after_knows (stage.EndGrant page) v is = either (λ (one : FrontBusStage). KnowsAt f one v.features v.port) (nat_lt (page + 1) (pages_of v)) (stage.EndGrant (page + 1)) stage.EndOtherGrants is is
  after_knows stage.EndOtherGrants v is = elim v.port as (λ port. KnowsAt f (after_grants port) v.features v.port) [ None ↦ is | Some port ↦ is ]
  after_knows d v is = is

  step_knows : (d : FrontBusStage) (v : FrontView) (idle : Bool) (x : FrontAnswer) → ReadsAt f d x → KnowsAt f d v.features v.port → Knows (step_at d (at d v) idle x)
  step_knows stage.Rest v idle (answer.Watched path) reads is = is
  step_knows stage.ReadState v idle (answer.Key text) reads is = acted_knows (front_action v.state v.closing idle (state_read text)) (at stage.ReadState v) is
  step_knows (stage.ReadFeature k) v idle (answer.Key text) reads is = feature_knows k (count_read text) (at (stage.ReadFeature k) v) reads is
  step_knows stage.NewPort v idle (answer.Port port) reads is = λ some. is
  step_knows (stage.ReadFact k) v idle (answer.Key text) reads is = fact_knows k (fact_read k text) (at (stage.ReadFact k) v) is
  step_knows (stage.WriteState s) v idle answer.Done reads is = written_knows s v.features v.port is
  step_knows stage.ClosePort v idle answer.Done reads is = λ some. absurd (true≢false (sym some))
  step_knows d v idle answer.Done reads is = after_knows d (at d v) is
  step_knows d v idle x reads is = is

  pub due_knows : (v : FrontView) (idle : Bool) → Knows v → KnowsAt f (due v idle) v.features v.port
  due_knows v idle is =
      let rests : v.stage ≡ stage.Rest → KnowsAt f stage.Rest v.features v.port = λ here. subst (λ (d : FrontBusStage). KnowsAt f d v.features v.port) here is in
      due_ways (λ (d : FrontBusStage). KnowsAt f d v.features v.port) v idle is (λ here closing. rests here) (λ here gone. rests here) (λ here gone. rests here)

  settled_knows : (b : FrontBusAsk) (u : FrontView) (idle : Bool) → Knows u → Knows (settled_at b idle u)
  settled_knows ask.EndOtherGrants u idle is = step_knows (due u idle) u idle answer.Done (reads_done f (due u idle)) (due_knows u idle is)
  settled_knows b u idle is = is

  pub told_knows : (v : FrontView) (idle : Bool) (x : FrontAnswer) → ReadsAt f (due v idle) x → Knows v → Knows (bus_told idle v x)
  told_knows v idle x reads is = let u : FrontView = step_of v idle x in settled_knows (ask_of u idle) u idle (step_knows (due v idle) v idle x reads (due_knows v idle is))

  pub closed_knows : (v : FrontView) → Knows v → Knows (closed v)
  closed_knows v is = closed_cases Knows v is is

  pub suspended_knows : (v : FrontView) → Knows v → Knows (suspended v)
  suspended_knows v is = by_stage v.stage
    where
      by_stage : (d : FrontBusStage) → Knows (suspended_at d v)
      by_stage stage.Closed = is
      by_stage (stage.Broken word) = is
      by_stage d = λ some. absurd (true≢false (sym some))

-- it reads a key where that is its stage
due_feature : (v : FrontView) (idle : Bool) (k : BackKey) → due v idle ≡ stage.ReadFeature k → v.stage ≡ stage.ReadFeature k
due_feature v idle = due_ways (λ (d : FrontBusStage). (k : BackKey) → d ≡ stage.ReadFeature k → v.stage ≡ stage.ReadFeature k) v idle (λ k e. e) (λ here closing k e. absurd (cc)) (λ here gone k e. absurd (cc)) (λ here gone k e. absurd (cc))

-- and that says what it said when all was said
shown_is : (w : World) (k : BackKey) (text : Option (List ℕ)) → w.back.features.indirect ≤ 960 → IsServiceSaid (λ (j : BackKey). SaysKey w.rings.under.keys w.back.features w.back.disk j) → key_of w.rings.under.keys.keys (path_under end.Back (back_name k)) ≡ text
    → IsShown w.back.features k (count_read text)
shown_is w key.FeatureBarrier text few said told = flag_shown text w.back.features.barrier (sym told ∙ said.barrier)
shown_is w key.FeatureFlushCache text few said told = flag_shown text w.back.features.flush (sym told ∙ said.flush)
shown_is w key.FeatureDiscard text few said told = flag_shown text w.back.features.discard (sym told ∙ said.discard)
shown_is w key.FeatureMaxIndirectSegments text few said told = count_shown text w.back.features.indirect (omega arith) (sym told ∙ said.indirect)
shown_is w k text few said told = tt

reads_key : (w : World) (a : FrontAct) (d : FrontBusStage) → IsFit w → due w.front (front_view.is_unoccupied w.rings.front) ≡ d → front_act w.rings.under (front.key_ask (ask_of w.front (front_view.is_unoccupied w.rings.front))) ≡ Some a → ReadsAt w.back.features d a.answer
reads_key w a (stage.ReadFeature k) fit is e = by_answer a.answer refl
  where
    offers : ReadsOffer (λ (j : BackKey). SaysKey w.rings.under.keys w.back.features w.back.disk j) (stage.ReadFeature k)
    offers = subst (ReadsOffer (λ (j : BackKey). SaysKey w.rings.under.keys w.back.features w.back.disk j)) (due_feature w.front (front_view.is_unoccupied w.rings.front) k is) fit.reads

    told : (text : Option (List ℕ)) → a.answer ≡ answer.Key text → key_of w.rings.under.keys.keys (path_under end.Back (back_name k)) ≡ text
    told text same =
        of_front (λ (y : FrontAct). y.answer ≡ answer.Key text → key_of w.rings.under.keys.keys (path_under end.Back (back_name k)) ≡ text) _ a (λ same. cc)
        (ap (λ (g : FrontBusStage). front_act w.rings.under (front.key_ask (ask_at g w.front))) (sym is) ∙ e) same

    by_answer : (x : FrontAnswer) → a.answer ≡ x → ReadsAt w.back.features (stage.ReadFeature k) x
    by_answer (answer.Key text) same = shown_is w k text fit.limited offers.1 (told text same)
    by_answer x same = tt
reads_key w a d fit is e = tt

-- one that doesn't speak reads none
unspoken : (f : Features) (d : FrontBusStage) (v : FrontView) (x : FrontAnswer) → front.speaks (ask_at d v) ≡ false → ReadsAt f d x
unspoken f (stage.ReadFeature k) v x quiet = absurd (true≢false quiet)
unspoken f d v x quiet = tt

reads_none : (w : World) (x : FrontAnswer) → IsFit w → front.speaks (front_asks w) ≡ false → ReadsAt w.back.features (due w.front (front_view.is_unoccupied w.rings.front)) x
reads_none w x fit =
    asks_cases (λ (b : FrontBusAsk). front.speaks b ≡ false → ReadsAt w.back.features (due w.front (front_view.is_unoccupied w.rings.front)) x) w
    (λ left quiet. subst (λ (d : FrontBusStage). ReadsAt w.back.features (due_at d w.front (front_view.is_unoccupied w.rings.front)) x) (sym (left_starts w.front.stage w.front w.rings.front.stage fit.front left)) tt)
    (λ none quiet. unspoken w.back.features (due w.front (front_view.is_unoccupied w.rings.front)) w.front x quiet)

-- so it knows it after each of its moves
pub front_knows : (w : World) (act : Option FrontAct) → IsFit w → Knows w.back.features w.front → front_turn w ≡ act → Knows w.back.features (front_bus_after w act)
front_knows w None fit is turn = is
front_knows w (Some a) fit is turn =
    front_cases (λ does asked step. front_act w.rings.under asked ≡ Some a → Knows w.back.features (step a.answer).bus) w (λ says e. speaks says e) (λ quiet moves e. followed_is (Knows w.back.features) (frontend_of w) a.answer is (told a.answer quiet) (told answer.Done quiet) (front_asks w) _)
    (λ quiet still e. waited_is (Knows w.back.features) (frontend_of w) a.answer is (told a.answer quiet) (told answer.Done quiet) (front_asks w)) turn
  where
    told : (x : FrontAnswer) → front.speaks (front_asks w) ≡ false → Knows w.back.features (bus_told (front_view.is_unoccupied w.rings.front) w.front x)
    told x quiet = told_knows w.back.features w.front (front_view.is_unoccupied w.rings.front) x (reads_none w x fit quiet) is

    speaks : front.speaks (front_asks w) ≡ true → front_act w.rings.under (front.key_ask (front_asks w)) ≡ Some a → Knows w.back.features (front_step.bus_after (frontend_of w) a.answer)
    speaks =
        asks_cases (λ (b : FrontBusAsk). front.speaks b ≡ true → front_act w.rings.under (front.key_ask b) ≡ Some a → Knows w.back.features (front_step.bus_after (frontend_of w) a.answer)) w
        (λ left says e. absurd (true≢false (sym says)))
        (λ none says e. told_knows w.back.features w.front (front_view.is_unoccupied w.rings.front) a.answer (reads_key w a (due w.front (front_view.is_unoccupied w.rings.front)) fit refl e) is)
