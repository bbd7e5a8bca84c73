-- What a negotiation of the front learns of the disk is so, where the keys that it reads are the back's own: it reads them of a back that was connected.
use Rattle.std.proofs.Common.{inl, inr, ◌⊎◌, ◌≡◌, ◌∙◌, ap, sym, subst, ℕ, ◌+◌, ◌==◌, ◌||◌, ◌&&◌, Bool, true, false, true≢false, if◌then◌else◌, refl}
use Rattle.std.specs.Prelude.{Option, Some, None, nat_lt}
use Rattle.std.proofs.lemmas.Option.{none-some, same_Some}
use Rattle.blk_base.specs.declared.ask.FrontAnswer.{FrontAnswer}
use Rattle.blk_base.specs.declared.ask.FrontAnswer.TheVariants as answer
use Rattle.blk_front.specs.declared.stage.FrontStage.{FrontStage}
use Rattle.blk_front.specs.State.{is_open}
use Rattle.xenbus_state.specs.declared.keys.FrontKey.{FrontKey}
use Rattle.xenbus_state.specs.declared.keys.BackKey.{BackKey}
use Rattle.xenbus_state.specs.declared.keys.BackKey.TheVariants as key
use Rattle.xenbus_state.specs.declared.offer.DiskFacts.{DiskFacts}
use Rattle.xenbus_state.specs.declared.state.BusState.{BusState}
use Rattle.xenbus_state.specs.declared.state.BusState.TheVariants as state
use Rattle.xenbus_state.specs.declared.stage.FrontBusStage.{FrontBusStage}
use Rattle.xenbus_state.specs.declared.stage.FrontBusStage.TheVariants as stage
use Rattle.xenbus_state.specs.declared.table.FrontAction.{FrontAction}
use Rattle.xenbus_state.specs.declared.table.FrontAction.TheVariants as action
use Rattle.xenbus_state.specs.declared.front.FrontBusAsk.{FrontBusAsk}
use Rattle.xenbus_state.specs.declared.front.FrontBusAsk.TheVariants as ask
use Rattle.xenbus_state.specs.States.{state_read}
use Rattle.xenbus_state.specs.Tables.{on_offer, on_gone, front_action}
use Rattle.xenbus_state.specs.Programs.{next_feature, next_published}
use Rattle.xenbus_state.specs.Reading.{count_read, fact_read}
use Rattle.xenbus_state.specs.FrontView.{FrontView, ring_order, pages_of, closed, suspended, suspended_at, is_broken}
use Rattle.xenbus_state.specs.FrontAsk.{leaving, closing_stage, due, ask_of}
use Rattle.xenbus_state.specs.FrontStep.{at, acted, after_feature, feature_step, fact_step, after_state, after_grants, after_published, after, step_at, step_of}
use Rattle.negotiation_laws.proofs.Shown.{is_four}
use Rattle.vbd_front.specs.Step.{settled_at, bus_told}
use Rattle.vbd_model.specs.Fit.{FrontGoesWith}
use Rattle.negotiation_laws.proofs.Choices.{either, due_cases, closed_cases}

-- what the front has read of the disk is so
abbrev pub IsDiskKnown : (r e : DiskFacts) → Type 0
IsDiskKnown r e = (r.sectors ≡ e.sectors) × (r.read_only ≡ e.read_only)

-- it reads that only of a back that was connected; past the sectors all is said
abbrev pub DiskAt : (late said : Type 0) → (e : DiskFacts) → FrontBusStage → (r : DiskFacts) → Type 0
DiskAt late said e (stage.ReadFact key.Sectors) r = late
DiskAt late said e (stage.ReadFact key.SectorSize) r = late × said × (r.sectors ≡ e.sectors)
DiskAt late said e (stage.ReadFact key.Info) r = late × said × (r.sectors ≡ e.sectors)
DiskAt late said e (stage.ReadFact k) r = ⊥
DiskAt late said e (stage.WriteState state.Connected) r = IsDiskKnown r e
DiskAt late said e s r = Unit {0}

-- what a key shows of it
abbrev pub ShowsAt : (late said : Type 0) → (e : DiskFacts) → FrontView → (idle : Bool) → FrontBusStage → FrontAnswer → Type 0
ShowsAt late said e v idle (stage.ReadFact key.Sectors) (answer.Key text) = (fact_read key.Sectors text ≡ None) ⊎ (said × (fact_read key.Sectors text ≡ Some e.sectors))
ShowsAt late said e v idle (stage.ReadFact key.Info) (answer.Key text) = said → fact_read key.Info text ≡ Some (if e.read_only then 4 else 0)
ShowsAt late said e v idle stage.ReadState (answer.Key text) = (state_read text ≡ Some state.Connected → late) × (state_read text ≡ Some state.Closing → late)
ShowsAt late said e v idle s x = Unit {0}

-- the front connects only to a back that says that it is connected, or closes
either_connects : (b : Bool) (own : BusState) → (if b then action.Nothing else on_offer own) ≡ action.Connect ⊎ (if b then action.Nothing else on_offer own) ≡ action.CloseAndConnect → ⊥
either_connects true own (inl e) = cc
either_connects true own (inr e) = cc
either_connects false state.Initialising (inl e) = cc
either_connects false state.Initialising (inr e) = cc
either_connects false own (inl e) = cc
either_connects false own (inr e) = cc

gone_connects : (idle : Bool) (word : ℕ) → (on_gone idle word ≡ action.Connect) ⊎ (on_gone idle word ≡ action.CloseAndConnect) → ⊥
gone_connects true word (inl e) = cc
gone_connects true word (inr e) = cc
gone_connects false word (inl e) = cc
gone_connects false word (inr e) = cc

module _ (late said : Type 0) (e : DiskFacts) where
  abbrev pub Knows : FrontView → Type 0
  Knows v = DiskAt late said e v.stage v.disk

  -- it connects where the back's state says so
  connects_late : (own : BusState) (closing idle : Bool) (read : Option BusState) → (read ≡ Some state.Connected → late) → (read ≡ Some state.Closing → late)
      → (front_action own closing idle read ≡ action.Connect) ⊎ (front_action own closing idle read ≡ action.CloseAndConnect) → late
  connects_late own closing idle (Some state.Connected) connected ends is = connected refl
  connects_late own closing idle (Some state.Closing) connected ends is = ends refl
  connects_late own closing idle (Some state.InitWait) connected ends is = absurd (either_connects (closing && idle) own is)
  connects_late own closing idle (Some state.Closed) connected ends is = absurd (gone_connects idle 6 is)
  connects_late own closing idle (Some state.Unknown) connected ends is = absurd (gone_connects idle 0 is)
  connects_late own closing idle (Some state.Initialising) connected ends (inr is) = absurd (cc)
  connects_late own closing idle (Some state.Initialised) connected ends (inr is) = absurd (cc)
  connects_late own closing idle (Some state.Reconfiguring) connected ends (inr is) = absurd (cc)
  connects_late own closing idle (Some state.Reconfigured) connected ends (inr is) = absurd (cc)
  connects_late own closing idle None connected ends (inl is) = absurd (cc)
  connects_late own closing idle None connected ends (inr is) = absurd (cc)
  connects_late own closing idle (Some other) connected ends (inl is) = absurd (cc)

  acted_knows : (act : FrontAction) (v : FrontView) → ((act ≡ action.Connect) ⊎ (act ≡ action.CloseAndConnect) → late) → Knows (acted act v)
  acted_knows action.Connect v is = is (inl refl)
  acted_knows action.CloseAndConnect v is = is (inr refl)
  acted_knows other v is = tt

  feature_knows : (k : BackKey) (n : Option ℕ) (v : FrontView) → Knows (feature_step k n v)
  feature_knows k None v = tt
  feature_knows k (Some n) v = elim (next_feature k) as (λ next. DiskAt late said e (after_feature next) v.disk) [ None ↦ tt | Some key ↦ tt ]

  -- a fact is read
  sectors_known : (o : Option ℕ) (v : FrontView) → (o ≡ None) ⊎ (said × (o ≡ Some e.sectors)) → late → Knows (fact_step key.Sectors o v)
  sectors_known None v shows is = tt
  sectors_known (Some n) v (inl none) is = absurd (none-some n (sym none))
  sectors_known (Some n) v (inr shown) is = (is, shown.0, same_Some n e.sectors shown.1)

  size_known : (o : Option ℕ) (v : FrontView) → late × said × (v.disk.sectors ≡ e.sectors) → Knows (fact_step key.SectorSize o v)
  size_known None v is = tt
  size_known (Some n) v is = is

  info_known : (o : Option ℕ) (v : FrontView) → (said → o ≡ Some (if e.read_only then 4 else 0)) → late × said × (v.disk.sectors ≡ e.sectors) → Knows (fact_step key.Info o v)
  info_known None v shows is = tt
  info_known (Some n) v shows is = (is.2, ap (λ (m : ℕ). m == 4) (same_Some n (if e.read_only then 4 else 0) (shows is.1)) ∙ is_four e.read_only)

  state_knows : (s : BusState) (r : DiskFacts) → DiskAt late said e (after_state s) r
  state_knows state.Closed r = tt
  state_knows s r = tt

  after_knows : (s : FrontBusStage) (v : FrontView) → DiskAt late said e s v.disk → DiskAt late said e (after s v) v.disk
  after_knows stage.Start v is = tt
  after_knows (stage.RingWord word) v is = either (λ (one : FrontBusStage). DiskAt late said e one v.disk) (word == 15) (stage.Grant 0) (stage.RingWord (word + 1)) tt tt
  after_knows (stage.Grant page) v is = either (λ (one : FrontBusStage). DiskAt late said e one v.disk) (nat_lt (page + 1) (pages_of v)) (stage.Grant (page + 1)) stage.NewPort tt tt
  after_knows (stage.Publish k) v is = elim (next_published (ring_order v) k) as (λ next. DiskAt late said e (after_published next) v.disk) [ None ↦ tt | Some key ↦ tt ]
  after_knows (stage.EndGrant page) v is = either (λ (one : FrontBusStage). DiskAt late said e one v.disk) (nat_lt (page + 1) (pages_of v)) (stage.EndGrant (page + 1)) stage.EndOtherGrants tt tt
  after_knows stage.EndOtherGrants v is = elim v.port as (λ port. DiskAt late said e (after_grants port) v.disk) [ None ↦ tt | Some port ↦ tt ]
  after_knows s v is = is

  step_knows : (s : FrontBusStage) (v : FrontView) (idle : Bool) (x : FrontAnswer) → ShowsAt late said e v idle s x → DiskAt late said e s v.disk → Knows (step_at s (at s v) idle x)
  step_knows stage.Rest v idle (answer.Watched path) shows is = tt
  step_knows stage.ReadState v idle (answer.Key text) shows is =
      acted_knows (front_action v.state v.closing idle (state_read text)) (at stage.ReadState v) (connects_late v.state v.closing idle (state_read text) shows.0 shows.1)
  step_knows (stage.ReadFeature k) v idle (answer.Key text) shows is = feature_knows k (count_read text) (at (stage.ReadFeature k) v)
  step_knows stage.NewPort v idle (answer.Port port) shows is = tt
  step_knows (stage.ReadFact key.Sectors) v idle (answer.Key text) shows is = sectors_known (fact_read key.Sectors text) (at (stage.ReadFact key.Sectors) v) shows is
  step_knows (stage.ReadFact key.SectorSize) v idle (answer.Key text) shows is = size_known (fact_read key.SectorSize text) (at (stage.ReadFact key.SectorSize) v) is
  step_knows (stage.ReadFact key.Info) v idle (answer.Key text) shows is = info_known (fact_read key.Info text) (at (stage.ReadFact key.Info) v) shows is
  step_knows (stage.ReadFact k) v idle (answer.Key text) shows is = absurd is
  step_knows (stage.WriteState s) v idle answer.Done shows is = state_knows s v.disk
  step_knows stage.ClosePort v idle answer.Done shows is = tt
  step_knows s v idle answer.Done shows is = after_knows s (at s v) is
  step_knows s v idle x shows is = is

  pub due_knows : (v : FrontView) (idle : Bool) → Knows v → DiskAt late said e (due v idle) v.disk
  due_knows v idle is = due_cases (λ (s : FrontBusStage). DiskAt late said e s v.disk) v.stage v idle is tt tt tt

  shows_done : (s : FrontBusStage) (v : FrontView) (idle : Bool) → ShowsAt late said e v idle s answer.Done
  shows_done (stage.ReadFact key.Sectors) v idle = tt
  shows_done (stage.ReadFact key.Info) v idle = tt
  shows_done s v idle = tt

  settled_knows : (b : FrontBusAsk) (u : FrontView) (idle : Bool) → Knows u → Knows (settled_at b idle u)
  settled_knows ask.EndOtherGrants u idle is = step_knows (due u idle) u idle answer.Done (shows_done (due u idle) u idle) (due_knows u idle is)
  settled_knows b u idle is = is

  pub told_knows : (v : FrontView) (idle : Bool) (x : FrontAnswer) → ShowsAt late said e v idle (due v idle) x → Knows v → Knows (bus_told idle v x)
  told_knows v idle x shows is = let u : FrontView = step_of v idle x in settled_knows (ask_of u idle) u idle (step_knows (due v idle) v idle x shows (due_knows v idle is))

  pub closed_knows : (v : FrontView) → Knows v → Knows (closed v)
  closed_knows v is = closed_cases Knows v is is

  -- a front that begins anew, or is closed or broken, has nothing to know
  pub suspended_knows : (v : FrontView) → Knows (suspended v)
  suspended_knows v = by_stage v.stage refl
    where
      by_stage : (s : FrontBusStage) → v.stage ≡ s → Knows (suspended_at s v)
      by_stage stage.Closed here = subst (λ (s : FrontBusStage). DiskAt late said e s v.disk) (sym here) tt
      by_stage (stage.Broken word) here = subst (λ (s : FrontBusStage). DiskAt late said e s v.disk) (sym here) tt
      by_stage s here = tt

  pub over_knows : (s : FrontBusStage) (v : FrontView) (r : FrontStage) → FrontGoesWith s v r → is_open r ≡ false → DiskAt late said e s v.disk
  over_knows (stage.ReadFact k) v r goes over = absurd (true≢false (sym (ap is_open goes.1) ∙ over))
  over_knows (stage.WriteState state.Connected) v r goes over = absurd (true≢false (sym (ap is_open goes.1) ∙ over))
  over_knows s v r goes over = tt

-- what stays true stays known
pub known_on : (late said late' said' : Type 0) (e : DiskFacts) → (late → late') → (said → said') → (s : FrontBusStage) (r : DiskFacts) → DiskAt late said e s r → DiskAt late' said' e s r
known_on late said late' said' e later says (stage.ReadFact key.Sectors) r is = later is
known_on late said late' said' e later says (stage.ReadFact key.SectorSize) r is = (later is.0, says is.1, is.2)
known_on late said late' said' e later says (stage.ReadFact key.Info) r is = (later is.0, says is.1, is.2)
known_on late said late' said' e later says (stage.ReadFact k) r is = absurd is
known_on late said late' said' e later says (stage.WriteState state.Connected) r is = is
known_on late said late' said' e later says s r is = tt
