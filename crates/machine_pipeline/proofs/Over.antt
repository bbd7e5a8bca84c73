-- What holds once the back has halted, since its front closes and has no request left: the back unmaps the ring's pages and closes its port, and then the front ends the grants of the ring's frames, closes its port, and is closed.
use Rattle.std.proofs.Common.{◌≡◌, ◌≢◌, ℕ, ◌+◌, ◌^◌, ◌<◌, ◌≤◌, ◌⊎◌, inl, Bool, true, false, List, [], length, refl, sym, ◌∙◌, true≢false}
use Rattle.std.specs.Prelude.{All, AllPairs, Option, Some, None, is_some, slice_get}
use Rattle.xen_pages.specs.Pages.{word_of}
use Rattle.grant_table.specs.declared.held.Held.{Held}
use Rattle.grant_table.specs.Table.{entry_word0}
use Rattle.blk_base.specs.Options.{Options}
use Rattle.blk_base.specs.declared.config.Submission.{Submission}
use Rattle.blk_base.specs.declared.parts.Mapping.{Mapping}
use Rattle.schedule_text.specs.declared.line.Line.{Line}
use Rattle.ring_words.specs.Shape.{Shape}
use Rattle.segment_list.specs.declared.verdict.DiskInfo.{DiskInfo}
use Rattle.pipeline_laws.specs.Station.{PipelineRequest}
use Rattle.pipeline_laws.specs.Station.{is_finished}
use Rattle.pipeline_laws.specs.Pipeline.{Pipeline, Step, after_steps}
use Rattle.blk_front.specs.declared.request.Request.{Request}
use Rattle.blk_front.specs.declared.stage.FrontStage.{FrontStage}
use Rattle.blk_front.specs.declared.stage.FrontStage.TheVariants as front
use Rattle.blk_front.specs.Step.{is_mapped}
use Rattle.back_jobs.specs.Work.{Work}
use Rattle.blk_back.specs.View.{info_of}
use Rattle.blk_back.specs.declared.stage.BackStage.{BackStage}
use Rattle.blk_back.specs.declared.stage.BackStage.TheVariants as back
use Rattle.blk_base.specs.declared.halt.Halt.{Halt}
use Rattle.split_model.specs.World.{World}
use Rattle.machine_pipeline.specs.Step.{Does}
use Rattle.machine_pipeline.proofs.Flow.{Flow}
use Rattle.machine_pipeline.proofs.Stations.{AreKnown}
use Rattle.machine_pipeline.proofs.Holds.{AreMapped, AreSubmitted, ArePooled, IsOfTheDisk, Holds}
use Rattle.machine_pipeline.proofs.Turns.{GoesBy}

-- each request that was pushed was fetched and has its response, and each response was read (req_prod is word 0 of the ring's first page, rsp_prod word 2)
pub record IsDrained (pages : List ℕ) (front_cons back_cons : ℕ) : Type 0 where
  pub served : word_of pages 2 0 ≡ word_of pages 2 2
  pub fetched : back_cons ≡ word_of pages 2 0
  pub read : front_cons ≡ word_of pages 2 2

-- what the back holds after its halt: pages of the ring, until each is unmapped
abbrev pub IsAborting : List Mapping → BackStage → Type 0
IsAborting held back.UnmapRing = held ≢ []
IsAborting held back.UnmapUnbound = held ≢ []
IsAborting held back.ClosePort = held ≡ []
IsAborting held back.Halted = held ≡ []
IsAborting held b = ⊥

-- they are of references of their own, of the 16 from 8 on
pub record AreOwn (held : List Mapping) : Type 0 where
  pub grefs : All (λ (m : Mapping). (8 ≤ m.gref) × (m.gref < 24)) held
  pub distinct : AllPairs (λ (m n : Mapping). m.gref ≢ n.gref) held

-- of a frame of the ring that the back doesn't hold no flag says that it is mapped
abbrev pub AreUnmapped : (order : ℕ) → List ℕ → List Mapping → Type 0
AreUnmapped order pages held = (page : ℕ) → page < 2 ^ order → All (λ (m : Mapping). m.gref ≢ 8 + page) held → is_mapped (entry_word0 pages (8 + page)) ≡ false

-- how far the front came, which made so many ports in this epoch: it made nothing, or a port too; it leaves only after the back
abbrev pub IsLeaving : (connected : Bool) (made order : ℕ) (pages : List ℕ) (held : List Mapping) → BackStage → FrontStage → Type 0
IsLeaving connected made order pages held b (front.RingWord k) = (connected ≡ false) × (made ≡ 0)
IsLeaving connected made order pages held b front.Initialised = (connected ≡ false) × (made ≡ 1) × AreUnmapped order pages held
IsLeaving connected made order pages held b front.Loop = AreUnmapped order pages held
IsLeaving connected made order pages held b (front.RingRead page) = (b ≡ back.Halted) × (page < 2 ^ order) × AreUnmapped order pages held
IsLeaving connected made order pages held b (front.RingEnd page seen) = (b ≡ back.Halted) × (page < 2 ^ order) × AreUnmapped order pages held × (entry_word0 pages (8 + page) ≡ seen)
IsLeaving connected made order pages held b front.ClosePort = Unit {0}
IsLeaving connected made order pages held b front.Left = Unit {0}
IsLeaving connected made order pages held b front.Closed = Unit {0}
IsLeaving connected made order pages held b s = ⊥

abbrev pub is_closed : FrontStage → Bool
is_closed front.Closed = true
is_closed s = false

-- what both ends keep over a suspend: the front's last number, the ring's first index and shape, its pool, the words of a sector in its hands, and the disk as the back has it
pub record Lasting : Type 0 where
  pub last : ℕ
  pub start : ℕ
  pub shape : Shape
  pub pool : List Bool
  pub words : List ℕ
  pub info : DiskInfo

abbrev pub lasting_of : World → Lasting
lasting_of w = record { last = w.front.last; start = w.front.start; shape = w.front.shape; pool = w.front.pool; words = w.front.words; info = w.back.jobs.info }

-- from which another epoch may begin: each request was submitted as the pipeline has it
pub record MayBegin (config : Options) (submitted : List Request) (asked : List PipelineRequest) (x : Lasting) : Type 0 where
  pub sized : IsOfTheDisk config submitted
  pub each : AreSubmitted submitted config.sectors x.last
  pub few : x.last < 2 ^ 32
  pub known : AreKnown submitted asked
  pub started : x.start ≡ config.start
  pub shaped : x.shape ≡ record { abi = config.abi; order = config.order }
  pub words : length x.words ≡ 128
  pub info : x.info ≡ info_of config

pub may_begin : (config : Options) (w : World) (g : Flow) (d : Pipeline) (s : FrontStage) (b : BackStage) → Holds config w g d s b → MayBegin config g.submitted d.requests (lasting_of w)
may_begin config w g d s b h = let shaped : w.front.shape ≡ record { abi = config.abi; order = config.order } = h.shaped.known ∙ h.shaped.whole in assumption shaped

-- what stays: the pipeline closes, and has finished all; what both ends keep; and no request and no job is left
pub record IsSpent (config given : Options) (asked : List PipelineRequest) (closing : Bool) (x : Lasting) (front_closes : Bool) (requests : List Request) (halt : Option Halt) (works : List Work) : Type 0 where
  pub options : given ≡ config
  pub leaves : closing ≡ true
  pub finished : (k : ℕ) (q : PipelineRequest) → slice_get asked k ≡ Some q → is_finished q.station ≡ true
  pub counted : length asked ≡ x.last
  pub submitted : List Request
  pub begins : MayBegin config submitted asked x
  pub pooled : ArePooled x.pool [] None
  pub closes : front_closes ≡ true
  pub no_request : requests ≡ []
  pub narrow : x.shape.order ≤ 4
  pub halted : is_some halt ≡ true
  pub no_job : works ≡ []

-- what holds of the pipeline, of what both ends keep, of the front's requests, of the back's halt, jobs and pages, of both ends' next entries, and of mappings and memory, with the front at stage s and the back at stage b
pub record IsOver (config given : Options) (asked : List PipelineRequest) (connected closing closed : Bool) (x : Lasting) (front_closes : Bool) (requests : List Request) (front_cons : ℕ) (halt : Option Halt) (works : List Work) (held : List Mapping) (back_cons made : ℕ) (live : List Held) (pages : List ℕ) (s : FrontStage) (b : BackStage) : Type 0 where
  pub spent : IsSpent config given asked closing x front_closes requests halt works
  pub open spent use *
  pub shut : closed ≡ is_closed s
  pub memory : length pages ≡ 1114112
  pub back_at : IsAborting held b
  pub own : AreOwn held
  pub mapped : AreMapped live held
  pub front_at : IsLeaving connected made x.shape.order pages held b s
  pub ring : made ≢ 0 → IsDrained pages front_cons back_cons

-- the machine, and the pipeline that it stands for
abbrev pub Over : Options → World → Pipeline → FrontStage → BackStage → Type 0
Over config w d s b = IsOver config d.options d.requests d.front.connected d.front.closing d.front.closed (lasting_of w) w.front.closing w.front.requests w.front.ring.indices.cons w.back.halted w.back.jobs.works w.back.pages w.back.ring.indices.cons (length w.under.channels.ports) w.under.grants.live w.under.pages s b

-- what stands where the rest changes
pub over_at : {config given : Options} {asked : List PipelineRequest} {connected connected' closing closed closed' : Bool} {x : Lasting} {front_closes : Bool} {requests : List Request} {front_cons front_cons' : ℕ} {halt : Option Halt} {works : List Work} {held held' : List Mapping} {back_cons made made' : ℕ} {live live' : List Held} {pages pages' : List ℕ} {s s' : FrontStage} {b b' : BackStage}
    → IsOver config given asked connected closing closed x front_closes requests front_cons halt works held back_cons made live pages s b
    → closed' ≡ is_closed s' → length pages' ≡ 1114112 → IsAborting held' b' → AreOwn held' → AreMapped live' held'
    → IsLeaving connected' made' x.shape.order pages' held' b' s' → (made' ≢ 0 → IsDrained pages' front_cons' back_cons)
    → IsOver config given asked connected' closing closed' x front_closes requests front_cons' halt works held' back_cons made' live' pages' s' b'
over_at o shut memory back_at own mapped front_at ring = assumption

-- a front that passed a test which a closed one fails
pub unclosed : (test : FrontStage → Bool) → test front.Closed ≡ false → (s : FrontStage) → test s ≡ true → is_closed s ≡ false
unclosed test none front.Closed t = absurd (true≢false (sym t ∙ none))
unclosed test none s t = refl

-- the ends serve requests, or the back has halted
abbrev pub IsKept : Options → World → Pipeline → Type 0
IsKept config w d = ((g : Flow) × Holds config w g d w.front.stage w.back.stage) ⊎ Over config w d w.front.stage w.back.stage

-- the next machine, and the pipeline that it stands for: after the steps that were made
pub record HasGone (asked : Option Submission) (call : (before after : List (List ℕ)) → Type 0) (config : Options) (said : List Line) (w : World) (d : Pipeline) : Type 0 where
  pub steps : List Step
  pub does : Does asked call said d steps
  pub kept : IsKept config w (after_steps steps d)

-- so it is by these steps
pub gone_by : {asked : Option Submission} {call : (before after : List (List ℕ)) → Type 0} {config : Options} {said : List Line} {w : World} {d : Pipeline} {steps : List Step} → Does asked call said d steps → IsKept config w (after_steps steps d) → HasGone asked call config said w d
gone_by {steps = steps} does kept = record { steps = steps; does = does; kept = kept }

-- so it is where the ends go on serving
pub goes_on : {asked : Option Submission} {call : (before after : List (List ℕ)) → Type 0} (config : Options) (said : List Line) (w : World) (d : Pipeline) → GoesBy asked call config said w d → HasGone asked call config said w d
goes_on config said w d gone = record { steps = gone.steps; does = gone.does; kept = inl (gone.flow, gone.holds) }
