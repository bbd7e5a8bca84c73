-- Why a submission is refused, also after a hostile hand overwrote a word or a key (the limits of `io/blkif.h`, the states of `io/xenbus.h`): the report's earlier lines say it.
-- The plain disk is a run of the lines before the first hostile one alone; which requests are open the lines tell by themselves.
use Rattle.std.specs.Prelude.{◌≡◌, ℕ, List, [], ◌∷◌, ◌++◌, fold, slice_get, Option, Some, None, IsSomeAnd}
use Rattle.blk_base.specs.declared.config.Submission.{Submission}
use Rattle.blk_base.specs.declared.refusal.Refusal.{Refusal}
use Rattle.schedule_text.specs.declared.line.Line.{Line}
use Rattle.schedule_text.specs.declared.line.Line.TheVariants as lines
use Rattle.plain_disk.specs.declared.request.RequestStage.{RequestStage}
use Rattle.plain_disk.specs.declared.request.DiskRequest.{DiskRequest}
use Rattle.plain_disk.specs.Request.{opened}
use Rattle.plain_disk.specs.Disk.{request_of}
use Rattle.plain_disk.specs.Step.{with_request, told_stage, next_stage}
use Rattle.plain_disk.specs.Refusal.{nothing_seen, seen, refusal_at}
use Rattle.report_rules.specs.Obeys.{Obeys}
use Rattle.pipeline_laws.specs.Submissions.{answer_count}

-- the requests with this one at the stage that its submission gives; where there is none of that number nothing changes
abbrev pub at_stage : List DiskRequest → ℕ → (Submission → RequestStage) → Option DiskRequest → List DiskRequest
at_stage requests id stage None = requests
at_stage requests id stage (Some r) = with_request requests id (record r { stage = stage r.submission })

-- the requests after a line, number 1 first: a submission opens the next one, and its answer ends it, but of a read that went well its last sector does
abbrev pub asked_step : List DiskRequest → Line → List DiskRequest
asked_step requests (lines.Submit id submission) = requests ++ opened submission ∷ []
asked_step requests (lines.Answer id status) = at_stage requests id (λ (submission : Submission). told_stage submission status) (request_of requests id)
asked_step requests (lines.Data id index words) = at_stage requests id (λ (submission : Submission). next_stage submission index) (request_of requests id)
asked_step requests line = requests

abbrev pub asked_by : List Line → List DiskRequest
asked_by before = fold asked_step [] before

-- the refusal of a submission after these lines, none where it is accepted
abbrev pub ruled_of : List Line → Submission → Option Refusal
ruled_of before submission =
    let s = fold seen nothing_seen before in
    refusal_at s s.config (asked_by before) submission

-- the next submission is accepted where the lines before it refuse it by no rule, and else refused by the first rule that does
abbrev pub IsRuledAt : List Submission → List Line → Line → Type 0
IsRuledAt submissions before (lines.Submit id submission) = (slice_get submissions (answer_count before) ≡ Some submission) × (ruled_of before submission ≡ None)
IsRuledAt submissions before (lines.Refuse refusal) = IsSomeAnd (slice_get submissions (answer_count before)) (λ submission. ruled_of before submission ≡ Some refusal)
IsRuledAt submissions before line = Unit {0}

abbrev pub AreRuled : List Submission → List Line → Type 0
AreRuled submissions report = Obeys (IsRuledAt submissions) report
