-- A move of the back that leaves the pipeline as it is: what it changes, and that all else that holds goes on holding.
use Rattle.std.proofs.Common.{◌≡◌, ℕ, ◌+◌, ◌-◌, ◌<◌, ◌≤◌, true, List, length, sym, ◌∙◌, inl, inr, arith, subst, Bool}
use Rattle.std.specs.Prelude.{All, Option, Some, None, ◌⊎◌}
use Rattle.std.proofs.lemmas.Option.{none-some}
use Rattle.blk_base.specs.Options.{Options}
use Rattle.pipeline_laws.specs.Pipeline.{Pipeline}
use Rattle.event_channel.specs.Channels.{ChannelState}
use Rattle.blk_front.specs.declared.request.Request.{Request}
use Rattle.blk_front.specs.declared.stage.Ending.{Ending}
use Rattle.blk_front.specs.declared.stage.FrontStage.{FrontStage}
use Rattle.blk_front.specs.declared.stage.FrontStage.TheVariants as front
use Rattle.blk_front.specs.Request.{frame_at}
use Rattle.blk_front.specs.Submit.{is_ready, is_connected, ending_of}
use Rattle.blk_back.specs.declared.stage.BackStage.{BackStage}
use Rattle.blk_back.specs.View.{View}
use Rattle.blk_back.specs.Hands.{hands_at}
use Rattle.split_model.specs.World.{World}
use Rattle.split_model.specs.Safe.{AreHeld}
use Rattle.machine_pipeline.specs.Plain.{IsPlain}
use Rattle.machine_pipeline.proofs.Flow.{Flow, ending_at, revoking_at, is_bound_back, reply_at, reply_count, is_issuing, is_fetching, telling_at}
use Rattle.machine_pipeline.proofs.Stations.{AreStations, saw_more}
use Rattle.machine_pipeline.proofs.Holds.{Holds, IsEnding, AreIndices, IsSubmitted, AreRingWords, AreSlots, IsPooled, IsFilled, AreDataWords, AreEntries, ArePaged, IsFrontSleep, IsBackSleep, BackAt, PortsAt, AreMapped}
use Rattle.machine_pipeline.proofs.HoldsWorks.{AreWorks}
use Rattle.machine_pipeline.proofs.Lists.{all_from}
use Rattle.machine_pipeline.proofs.Frames.{ending_is, told_few, is_submitted}
use Rattle.machine_pipeline.proofs.Data.{SameData, pooled_at}
use Rattle.machine_pipeline.proofs.Kept.{SameFrame, SameGrants, data_same, same_entry, frames_kept, data_kept, entries_kept}
use Rattle.machine_pipeline.proofs.ReadsKept.{stations_elsewhere}
use Rattle.blk_back.specs.declared.stage.Reply.{Reply}
use Rattle.back_jobs.specs.Work.{Work}

-- the premises of each move of the back at a stage
pub record BackStands (config : Options) (w : World) (g : Flow) (d : Pipeline) (b : BackStage) : Type 0 where
  pub plain : IsPlain config
  pub at : w.back.stage ≡ b
  pub untold : w.back.told ≡ None
  pub held : AreHeld w.under.grants (hands_at b w.back)
  pub connected : is_connected w.front.stage ≡ true
  pub holds : Holds config w g d w.front.stage b

-- a frame that is none of the ring's
abbrev pub IsRingless : ℕ → Type 0
IsRingless f = (f < 2) ⊎ (18 ≤ f)

-- the stations of a world where an entry is being copied or not, and this response is being written, with these jobs and this memory
abbrev pub StationsOf : Options → World → Flow → Pipeline → (fetching : Bool) → Option Reply → List Work → List ℕ → Type 0
StationsOf config w g d fetching replying works pages =
    AreStations config g d (is_ready w.front.stage) (is_issuing w.front.stage) fetching (ending_at w.front.stage w.front.ending) (telling_at w.front.stage) replying w.front.requests works pages

-- what a move changes: the back's view, the ring's frames, the marks of events, and the producer as the back last saw it
pub record Moves (config : Options) (w : World) (g : Flow) (d : Pipeline) (s : FrontStage) (b b' : BackStage) (v : View) (pages : List ℕ) (channels : ChannelState) (seen : ℕ) : Type 0 where
  pub indices : AreIndices (record g { back_seen = seen }) w.front.ring.indices v.ring.indices w.front.ring.seen v.ring.seen v.fetched w.front.last w.front.waiting (length w.front.requests) (ending_of s)
  pub stations : AreStations config g d (is_ready s) (is_issuing s) (is_fetching b') (ending_at s w.front.ending) (telling_at s) (reply_at b') w.front.requests v.jobs.works w.under.pages
  pub works : AreWorks g.submitted g.series g.fetched v.jobs.works
  pub counted : length v.jobs.works + reply_count (reply_at b') + g.replied ≡ g.fetched
  pub info : v.jobs.info ≡ w.back.jobs.info
  pub back_at : BackAt g.shape g.start g.fetched seen g.replied g.series v.jobs.works v.ring.entry b'
  pub unhalted : v.halted ≡ None
  pub memory : length pages ≡ 1114112
  pub others : (f : ℕ) → IsRingless f → SameFrame w.under.pages pages f
  pub ring : AreRingWords g.shape.order g.start g.pushed g.replied pages s (length v.pages)
  pub slots : AreSlots g.shape g.start g.fetched g.pushed g.taken g.replied g.series g.replies pages s b'
  pub hands : hands_at b' v ≡ hands_at b w.back
  pub paged : ArePaged g.shape v.shape v.ring.indices.entries v.grefs v.ring.port (g.before + 1) v.pages b'
  pub front_sleep : IsFrontSleep g.start g.taken g.replied pages w.front.ring.asleep channels.front_pending s b'
  pub back_sleep : IsBackSleep g.start g.fetched g.pushed pages v.ring.asleep channels.back_pending s b'
  pub ports : PortsAt g.before (is_connected s) (is_bound_back b') channels.made channels.ports

-- a request whose grants are being ended is one that ends
pub revoking_ends : (s : FrontStage) (ending : Option Ending) (e : Ending) → revoking_at s ending ≡ Some e → ending_at s ending ≡ Some e
revoking_ends (front.GrantRead place) ending e same = same
revoking_ends (front.GrantEnd place before) ending e same = same
revoking_ends s ending e same = absurd (none-some e same)

-- and is a submitted one
pub ending_submitted : (config : Options) (w : World) (g : Flow) (d : Pipeline) (s : FrontStage) (b : BackStage) (e : Ending)
    → Holds config w g d s b
    → ending_at s w.front.ending ≡ Some e
    → IsSubmitted config.sectors (e.request.number - 1) e.request
ending_submitted config w g d s b e h same =
    let is : IsEnding g.submitted g.replies e = ending_is g.shape g.start g.pushed g.taken g.front_seen g.submitted g.replies _ w.front.ring.entry w.front.ending s e
    h.front_at same in
    h.submitted.each (e.request.number - 1) e.request is.known

-- where no frame of the pool changes, the data of the requests and of the one that ends don't
pub frames_elsewhere : (config : Options) (w : World) (g : Flow) (d : Pipeline) (s : FrontStage) (b : BackStage) (pages : List ℕ)
    → Holds config w g d s b
    → ((f : ℕ) → 18 ≤ f → f < 1018 → SameFrame w.under.pages pages f)
    → All (IsFilled g.series g.pushed pages s) w.front.requests
frames_elsewhere config w g d s b pages h same =
    frames_kept g.pushed w.under.pages pages s w.front.requests
    (all_from (SameData w.under.pages pages) w.front.requests
    (λ i r e. let is = is_submitted config w g d s b h i r e in data_same w.under.pages pages r is.frames same)) h.frames

pub told_elsewhere : (config : Options) (w : World) (g : Flow) (d : Pipeline) (s : FrontStage) (b : BackStage) (pages : List ℕ)
    → Holds config w g d s b
    → ((f : ℕ) → 18 ≤ f → f < 1018 → SameFrame w.under.pages pages f)
    → AreDataWords pages w.front.words w.front.ending s
told_elsewhere config w g d s b pages h same =
    data_kept w.under.pages pages w.front.words w.front.ending s
    (λ e at. let is = ending_submitted config w g d s b e h at in data_same w.under.pages pages e.request is.frames same)
    (told_few g.shape g.start g.pushed g.taken g.front_seen g.submitted g.replies _ w.front.ring.entry w.front.ending s h.front_at) h.telling

-- the back's writes to the ring leave the requests' frames and the entries as they are
pub frames_beside : (config : Options) (w : World) (g : Flow) (d : Pipeline) (s : FrontStage) (b : BackStage) (pages : List ℕ) → Holds config w g d s b → ((f : ℕ) → IsRingless f → SameFrame w.under.pages pages f) → All (IsFilled g.series g.pushed pages s) w.front.requests
frames_beside config w g d s b pages h others = frames_elsewhere config w g d s b pages h (λ f low high. others f (inr low))

-- where the frames of entries don't change, a request's entries don't
pub grants_same : (old new : List ℕ) (r : Request) → All IsPooled r.frames.items → SameFrame old new 0 → SameFrame old new 1 → SameGrants old new r
grants_same old new r all zeroth first place lt = let pooled = pooled_at r all place in
    same_entry old new (frame_at r place + 6) (omega (arith, pooled.1)) zeroth first

pub entries_beside : (config : Options) (w : World) (g : Flow) (d : Pipeline) (s : FrontStage) (b : BackStage) (pages : List ℕ) → Holds config w g d s b → ((f : ℕ) → IsRingless f → SameFrame w.under.pages pages f) → AreEntries g.series g.pushed pages w.under.grants.live s w.front.ending w.front.requests
entries_beside config w g d s b pages h others =
    entries_kept g.pushed w.under.pages pages w.under.grants.live s w.front.ending w.front.requests
    (all_from (SameGrants w.under.pages pages) w.front.requests
    (λ i r e. let is = is_submitted config w g d s b h i r e in
    grants_same w.under.pages pages r is.frames (others 0 (inl (omega arith))) (others 1 (inl (omega arith)))))
    (λ e at. let is = ending_submitted config w g d s b e h (revoking_ends s w.front.ending e at) in
    grants_same w.under.pages pages e.request is.frames (others 0 (inl (omega arith))) (others 1 (inl (omega arith))))
    h.entries

pub still : (config : Options) (w : World) (g : Flow) (d d' : Pipeline) (s : FrontStage) (b b' : BackStage) (v : View) (pages : List ℕ) (channels : ChannelState) (seen : ℕ)
    → Holds config w g d s b
    → Moves config w g d' s b b' v pages channels seen
    → Holds config (record { front = w.front; back = v; under = record w.under { pages = pages; channels = channels } }) (record g { back_seen = seen }) d' s b'
still config w g d d' s b b' v pages channels seen h m =
    let stands = stations_elsewhere _ _ _ _ _ _ _ _ _ _ _ _ pages _ _ h.submitted (λ f low high. m.others f (inr low)) m.stations in
    assumption (
      m.info ∙ h.info,
      saw_more _ _ g.front_seen seen _ _ _ _ _ _ _ _ _ _ stands,
      subst (AreMapped w.under.grants.live) (sym m.hands) h.mapped,
      frames_beside config w g d s b pages h m.others,
      told_elsewhere config w g d s b pages h (λ f low high. m.others f (inr low)),
      entries_beside config w g d s b pages h m.others,
    )
