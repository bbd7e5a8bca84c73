-- A job does the work of its entry (`io/blkif.h`): apart from unmaps, what it asks is, one by one, the steps of that work (`report_rules: steps_of`), up to a refused map or a failure of the disk, which leaves no step.
use Rattle.std.specs.Prelude.{◌≡◌, ◌||◌, ◌+◌, Some, ℕ, ℤ, Bool, true, false, List, [], ◌∷◌, ◌++◌, drop, nat_le, if◌then◌else◌}
use Rattle.blk_base.specs.declared.operation.Status.{Status}
use Rattle.blk_base.specs.declared.operation.Status.TheVariants.{Error}
use Rattle.blk_base.specs.declared.parts.Mapping.{Mapping}
use Rattle.blk_base.specs.declared.parts.Mode.{Mode}
use Rattle.blk_base.specs.declared.ask.BackAsk.{BackAsk}
use Rattle.blk_base.specs.declared.ask.BackAsk.TheVariants as ask
use Rattle.blk_base.specs.declared.ask.BackAnswer.{BackAnswer}
use Rattle.blk_base.specs.declared.ask.BackAnswer.TheVariants as answer
use Rattle.blk_layout.specs.declared.request.RawRequest.{RawRequest}
use Rattle.blk_layout.specs.declared.request.RawRequest.TheVariants.{Direct, Discard, Indirect}
use Rattle.segment_list.specs.declared.verdict.DiskInfo.{DiskInfo}
use Rattle.segment_list.specs.Verdict.{verdict_of}
use Rattle.back_jobs.specs.declared.stage.JobStage.TheVariants.{Done}
use Rattle.back_jobs.specs.Work.{Work, begun}
use Rattle.report_rules.specs.declared.step.Step.{Step}
use Rattle.report_rules.specs.declared.step.Step.TheVariants as steps
use Rattle.report_rules.specs.Step.{steps_of}
use Rattle.report_rules.specs.Work.{work_tasks, work_verdict, status_by}
use Rattle.back_laws.specs.Activity.{Asked}
use Rattle.blk_base.specs.declared.operation.Abi.{Abi}
use Rattle.blk_layout.specs.Entry.{request_of}
use Rattle.back_jobs.specs.Jobs.{response_of}
use Rattle.back_jobs.specs.Hands.{hand_of}
use Rattle.blk_back.specs.declared.stage.Reply.{Reply}
use Rattle.blk_back.specs.Ask.{reply_of}
use Rattle.back_laws.specs.Ledger.{JobAsked, asks_for, told_all, AreItsAsks, Request, Ledger}

-- an ask is that step, whatever it is answered
abbrev pub IsStep : Step → BackAsk → Type 0
IsStep (steps.Map gref mode) (ask.Map other asked) = (other ≡ gref) × (asked ≡ mode)
IsStep (steps.Read word) (ask.Read m other) = other ≡ word
IsStep (steps.Write word) (ask.Write m other value) = other ≡ word
IsStep (steps.DiskRead sector) (ask.DiskRead other) = other ≡ sector
IsStep (steps.DiskWrite sector) (ask.DiskWrite other words) = other ≡ sector
IsStep steps.Flush ask.Flush = Unit {0}
IsStep (steps.Trim sector count) (ask.Trim other many) = (other ≡ sector) × (many ≡ count)
IsStep step a = ⊥

-- an unmap is no step; another ask is the next one
abbrev pub IsNext : BackAsk → List Step → Type 0
IsNext (ask.Unmap m) left = Unit {0}
IsNext a [] = ⊥
IsNext a (step ∷ left) = IsStep step a

-- a map was refused, or the disk failed
abbrev pub is_failure : BackAnswer → Bool
is_failure (answer.MapRefused status) = true
is_failure answer.DiskFailed = true
is_failure given = false

-- the steps that are left then
abbrev pub left_by : BackAsk → BackAnswer → List Step → List Step
left_by (ask.Unmap m) given left = left
left_by a given left = if is_failure given then [] else drop 1 left

abbrev pub AreSteps : List Asked → List Step → Type 0
AreSteps [] left = Unit {0}
AreSteps (a ∷ asked) left = IsNext a.ask left × AreSteps asked (left_by a.ask a.answer left)

abbrev pub all_left_by : List Asked → List Step → List Step
all_left_by [] left = left
all_left_by (a ∷ asked) left = all_left_by asked (left_by a.ask a.answer left)

abbrev pub has_failed : List Asked → Bool
has_failed [] = false
has_failed (a ∷ asked) = is_failure a.answer || has_failed asked

-- a map that was refused
abbrev pub map_refused : ℕ → Mode → ℤ → Asked
map_refused gref mode status = record { ask = ask.Map gref mode; answer = answer.MapRefused status }

-- one that was made
abbrev pub map_made : Mode → Mapping → Asked
map_made mode m = record { ask = ask.Map m.gref mode; answer = answer.Mapped m }

-- a sector is read from the disk, or is written to it, whatever the answer
abbrev pub disk_read : ℕ → BackAnswer → Asked
disk_read sector given = record { ask = ask.DiskRead sector; answer = given }

abbrev pub disk_write : ℕ → List ℕ → BackAnswer → Asked
disk_write sector words given = record { ask = ask.DiskWrite sector words; answer = given }

-- a back has room for 960 segments of a request, and so may publish no more (`feature-max-indirect-segments`)
abbrev pub has_room : RawRequest → DiskInfo → Bool
has_room (Direct op count device id sector segments) info = true
has_room (Discard flag device id sector count) info = true
has_room (Indirect op count device id sector pages) info = nat_le info.max_indirect 960

-- The words that its reads gave, in their order. Of an INDIRECT those of its pages come first, and its work is known by them.
abbrev pub word_given : BackAnswer → List ℕ
word_given (answer.Word word) = word ∷ []
word_given given = []

abbrev pub words_read : List Asked → List ℕ
words_read [] = []
words_read (a ∷ asked) = word_given a.answer ++ words_read asked

-- the job is done then, with this status
abbrev pub IsDoneSo : DiskInfo → ℕ → RawRequest → List Asked → Status → Type 0
IsDoneSo info number request asked status = let t : Work = told_all (begun number request info.sectors (verdict_of request info)) asked in t.stage ≡ Done status

-- What it asks are steps; where it is done no step is left, and its status is ERROR where a map was refused or the disk failed, and else that of the verdict on its entry, and on its segments once they are copied.
pub record DoesItsWork (info : DiskInfo) (number : ℕ) (request : RawRequest) (asked : List Asked) : Type 0 where
  pub are_steps : AreSteps asked (steps_of (work_tasks request info false (words_read asked)))
  pub whole : (status : Status) → IsDoneSo info number request asked status → all_left_by asked (steps_of (work_tasks request info false (words_read asked))) ≡ []
  pub response : (status : Status) → IsDoneSo info number request asked status
      → status ≡ (if has_failed asked then Error else status_by (work_verdict request info (words_read asked)))

-- so of each job, whatever it is answered
abbrev pub JobsDoTheirWork : Type 0
JobsDoTheirWork =
    (info : DiskInfo) (number : ℕ) (request : RawRequest) (asked : List Asked) → has_room request info ≡ true
    → AreItsAsks (begun number request info.sectors (verdict_of request info)) asked → DoesItsWork info number request asked

-- and so of each request of a run: it was told what the run told the job of its number
abbrev pub AllDoTheirWork : DiskInfo → Abi → List JobAsked → ℕ → List Request → Type 0
AllDoTheirWork info abi trace k [] = Unit {0}
AllDoTheirWork info abi trace k (q ∷ requests) =
    (has_room (request_of abi q.words) info ≡ true → DoesItsWork info k (request_of abi q.words) (asks_for k trace)) × AllDoTheirWork info abi trace (k + 1) requests

abbrev pub RequestsAreWorked : Type 0
RequestsAreWorked =
    (info : DiskInfo) (abi : Abi) (trace : List JobAsked) (entries : List (List ℕ)) (replies : List Reply) (works : List Work)
    → (l : Ledger info abi trace entries replies works) → AllDoTheirWork info abi trace 1 l.requests

-- a job that may be replied to has given up its mappings
abbrev pub RepliesComeLast : Type 0
RepliesComeLast = (t : Work) (reply : Reply) → reply_of (response_of t) ≡ Some reply → hand_of t ≡ []
