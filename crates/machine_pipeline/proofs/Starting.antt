-- While the front makes its ring and its port, all its requests wait and nothing passes through the ring.
use Rattle.std.proofs.Common.{◌≡◌, ℕ, ◌<◌, ◌≤◌, Bool, false, List, length, refl, sym, ◌∙◌, subst, arith, true≢false, All}
use Rattle.blk_base.specs.Options.{Options}
use Rattle.event_channel.specs.Channels.{ChannelState}
use Rattle.pipeline_laws.specs.Pipeline.{Pipeline}
use Rattle.blk_front.specs.declared.stage.FrontStage.{FrontStage}
use Rattle.blk_front.specs.View.{next_request}
use Rattle.blk_front.specs.Submit.{is_ready, is_connected, ending_of}
use Rattle.blk_back.specs.declared.stage.BackStage.{BackStage}
use Rattle.blk_back.specs.declared.stage.BackStage.TheVariants as back
use Rattle.split_model.specs.World.{World}
use Rattle.machine_pipeline.proofs.Flow.{Flow, filled, named_frames, granted_frames, entered, ending_at, is_front_arming, may_front_sleep, is_back_arming, may_back_sleep, is_bound_back, telling_at, is_issuing, is_fetching, reply_at}
use Rattle.machine_pipeline.proofs.Holds.{FrontAt, AreRingWords, AreSlots, IsFilled, ArePooled, IsOffered, PortsAt, Holds, AreEntries, IsFrontSleep, IsBackSleep}
use Rattle.machine_pipeline.proofs.Kept.{SameFrame, slots_kept, sleep_awake}
use Rattle.machine_pipeline.proofs.Issuing.{unending, untelling, unrevoked}
use Rattle.machine_pipeline.proofs.Resting.{rested, data_rests, unpushed}
use Rattle.machine_pipeline.proofs.ReadsKept.{stations_elsewhere}
use Rattle.machine_pipeline.proofs.Stations.{AreStations, turned}
use Rattle.machine_pipeline.proofs.Indices.{indices_room}
use Rattle.machine_pipeline.proofs.Slots.{SameSlots}

-- a stage at which no request is in the front's hands
pub record IsBare (s : FrontStage) : Type 0 where
  pub none_ends : ending_of s ≡ 0
  pub filled_none : (frames : ℕ) → filled s frames ≡ 0
  pub entered_none : entered s ≡ 0
  pub named_none : named_frames s ≡ 0
  pub granted_none : granted_frames s ≡ 0
  pub unarmed : is_front_arming s ≡ false
  pub unissued : is_issuing s ≡ false
  pub unready : is_ready s ≡ false

-- a back that isn't bound doesn't sleep yet
back_awake : (b : BackStage) → is_bound_back b ≡ false → (is_back_arming b ≡ false) × (may_back_sleep b ≡ false)
back_awake back.InitWait e = (refl, refl)
back_awake back.MapRing e = (refl, refl)
back_awake back.Bind e = (refl, refl)
back_awake b e = absurd (true≢false e)

-- nothing was pushed before the front is ready
pub none_yet : (config : Options) (w : World) (g : Flow) (d : Pipeline) (s : FrontStage) → is_ready s ≡ false → Holds config w g d s w.back.stage → g.pushed ≡ 0
none_yet config w g d s unready h = subst (λ (ready : Bool). IsOffered ready config w.front.offers g.pushed) unready h.offered

pub starts_on : (config : Options) (w : World) (g : Flow) (d : Pipeline) (s s' : FrontStage) (pages : List ℕ) (channels : ChannelState)
    → is_connected s ≡ false → may_front_sleep s ≡ false → IsBare s → IsBare s'
    → Holds config w g d s w.back.stage
    → FrontAt g.shape g.start g.pushed g.taken g.front_seen g.submitted g.replies (next_request w.front) w.front.ring.entry w.front.ending s'
    → length pages ≡ 1114112
    → SameSlots w.under.pages pages
    → ((f : ℕ) → 18 ≤ f → f < 1018 → SameFrame w.under.pages pages f)
    → AreRingWords g.shape.order g.start g.pushed g.replied pages s' (length w.back.pages)
    → PortsAt g.before (is_connected s') (is_bound_back w.back.stage) channels.made channels.ports
    → Holds config (rested w s' w.front.ring.seen w.front.ring.asleep pages channels) g d s' w.back.stage
starts_on config w g d s s' pages channels starting restless i i' h at sized words elsewhere ring ports = assumption (
  indices_room g w.front.ring.indices w.back.ring.indices w.front.ring.seen w.back.ring.seen w.back.fetched w.front.last w.front.waiting (length w.front.requests) (ending_of s) (ending_of s')
      (omega (arith, h.indices.room, i'.none_ends)) h.indices,
  subst (ArePooled w.front.pool w.front.requests) (unending s w.front.ending i.none_ends ∙ sym (unending s' w.front.ending i'.none_ends)) h.pool,
  stations_elsewhere config g d (is_ready s') (is_issuing s') (is_fetching w.back.stage) (ending_at s' w.front.ending) (telling_at s') (reply_at w.back.stage) w.front.requests
      w.back.jobs.works w.under.pages pages config.sectors w.front.last h.submitted elsewhere stations,
  subst (λ (b : Bool). IsOffered b config w.front.offers g.pushed) (i.unready ∙ sym i'.unready) h.offered,
  slots,
  nothing,
  data_rests w.under.pages pages w.front.words w.front.ending w.front.ending s s' (untelling s' i'.none_ends) h.telling,
  front_sleep,
  back_sleep,
)
  where
    -- no request was pushed
    nothing : All (IsFilled g.series g.pushed pages s') w.front.requests × AreEntries g.series g.pushed pages w.under.grants.live s' w.front.ending w.front.requests
    nothing = unpushed g.pushed pages w.under.grants.live s' w.front.ending w.front.requests (none_yet config w g d s i.unready h) (λ frames n lt. let zero = i'.filled_none frames in omega arith) i'.named_none i'.granted_none (λ e same. unrevoked s' w.front.ending e i'.none_ends same)

    stations : AreStations config g d (is_ready s') (is_issuing s') (is_fetching w.back.stage) (ending_at s' w.front.ending) (telling_at s') (reply_at w.back.stage) w.front.requests w.back.jobs.works w.under.pages
    stations = turned config g d (is_ready s) (is_ready s') (is_issuing s) (is_issuing s') (is_fetching w.back.stage) (ending_at s w.front.ending) (ending_at s' w.front.ending) (telling_at s) (telling_at s') (reply_at w.back.stage) w.front.requests w.back.jobs.works w.under.pages
        (i'.unready ∙ sym i.unready) (i'.unissued ∙ sym i.unissued)
        (unending s' w.front.ending i'.none_ends ∙ sym (unending s w.front.ending i.none_ends)) (untelling s' i'.none_ends ∙ sym (untelling s i.none_ends)) h.stations

    awake : (is_back_arming w.back.stage ≡ false) × (may_back_sleep w.back.stage ≡ false)
    awake = let none = subst (λ (c : Bool). PortsAt g.before c (is_bound_back w.back.stage) w.under.channels.made w.under.channels.ports) starting h.ports in back_awake w.back.stage none.2

    slots : AreSlots g.shape g.start g.fetched g.pushed g.taken g.replied g.series g.replies pages s' w.back.stage
    slots =
        let was = slots_kept g.shape g.start g.fetched g.pushed g.taken g.replied g.series g.replies w.under.pages pages s w.back.stage h.shaped.narrow words h.slots in
        record { entries = was.entries; entry = λ r e k lt in_it. absurd (omega (arith, i'.entered_none)); responses = was.responses; response = was.response }

    front_sleep : IsFrontSleep g.start g.taken g.replied pages w.front.ring.asleep channels.front_pending s' w.back.stage
    front_sleep = sleep_awake (h.front_sleep.may restless) i'.unarmed

    back_sleep : IsBackSleep g.start g.fetched g.pushed pages w.back.ring.asleep channels.back_pending s' w.back.stage
    back_sleep = sleep_awake (h.back_sleep.may awake.1) awake.0
