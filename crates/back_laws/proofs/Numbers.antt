-- A job keeps its number.
use Rattle.std.proofs.Common.{◌≡◌, ℕ, Bool, true, false, if◌then◌else◌, List, [], ◌∷◌, refl, ◌∙◌}
use Rattle.std.specs.Prelude.{not, nat_le, ◌==◌, take, ◌+◌}
use Rattle.blk_base.specs.declared.operation.Abi.{Abi}
use Rattle.blk_base.specs.declared.ask.BackAnswer.{BackAnswer}
use Rattle.blk_base.specs.declared.ask.BackAnswer.TheVariants as answer
use Rattle.blk_layout.specs.declared.segment.Segment.{Segment}
use Rattle.blk_layout.specs.Entry.{request_of}
use Rattle.blk_layout.specs.declared.request.RawRequest.{RawRequest}
use Rattle.blk_layout.specs.declared.request.RawRequest.TheVariants.{Direct, Discard, Indirect}
use Rattle.segment_list.specs.declared.verdict.DiskInfo.{DiskInfo}
use Rattle.segment_list.specs.declared.verdict.Verdict.{Verdict}
use Rattle.segment_list.specs.declared.verdict.Verdict.TheVariants as verdict
use Rattle.segment_list.specs.Verdict.{verdict_of}
use Rattle.back_jobs.specs.declared.stage.JobStage.{JobStage}
use Rattle.back_jobs.specs.declared.stage.JobStage.TheVariants as stage
use Rattle.back_jobs.specs.Work.{Work, step_at, step_of, begun, served, moving, next_segment, rest_of, passes, last_of, next_sector, judged}
use Rattle.back_laws.specs.Activity.{Asked}
use Rattle.back_laws.specs.Ledger.{JobAsked, Request, told_all, asks_for, begun_of, job_of}

either : (b : Bool) (x y : Work) (n : ℕ) → x.number ≡ n → y.number ≡ n → (if b then x else y).number ≡ n
either true x y n p q = p
either false x y n p q = q

segment_number : (t : Work) (rest : List Segment) → (next_segment t rest).number ≡ t.number
segment_number t [] = refl
segment_number t (s ∷ rest) = refl

step_number : (s : JobStage) (t : Work) (given : BackAnswer) → (step_at s t given).number ≡ t.number
step_number stage.MapPage t (answer.Mapped m) = refl
step_number stage.MapPage t (answer.MapRefused status) = refl
step_number (stage.PageReference m) t (answer.Word word) = refl
step_number (stage.PageSectors m gref) t (answer.Word word) = refl
step_number (stage.UnmapPage m) t answer.Done = either (_ == t.named) (judged t) _ t.number (either (passes t) _ _ t.number refl refl) refl
step_number stage.Map t (answer.Mapped m) = refl
step_number stage.Map t (answer.MapRefused status) = refl
step_number (stage.ReadWord m k) t (answer.Word word) = refl
step_number (stage.DiskWrite m) t answer.Done = either (t.within == last_of t.rest) _ _ t.number refl refl
step_number (stage.DiskWrite m) t answer.DiskFailed = refl
step_number (stage.DiskRead m) t (answer.Sector words) = refl
step_number (stage.DiskRead m) t answer.DiskFailed = refl
step_number (stage.WriteWord m k) t answer.Done = either (k == 127) (next_sector t m) (record t { stage = stage.WriteWord m (k + 1) }) t.number (either (t.within == last_of t.rest) _ _ t.number refl refl) refl
step_number (stage.Unmap m) t answer.Done = segment_number t (rest_of t.rest)
step_number (stage.Abort m) t answer.Done = refl
step_number stage.Flush t answer.Done = refl
step_number stage.Flush t answer.DiskFailed = refl
step_number (stage.Trim count) t answer.Done = refl
step_number (stage.Trim count) t answer.DiskFailed = refl
step_number s t given = refl

told_number : (t : Work) (asked : List Asked) → (told_all t asked).number ≡ t.number
told_number t [] = refl
told_number t (a ∷ asked) = told_number (step_of t a.answer) asked ∙ step_number t.stage t a.answer

served_number : (k : ℕ) (request : RawRequest) (size : ℕ) → (served k request size).number ≡ k
served_number k (Direct op count device id sector segments) size = either (nat_le op 2) (moving k (Direct op count device id sector segments) size (not (op == 0)) sector (take count segments)) _ k refl (either (op == 3) _ _ k refl refl)
served_number k (Discard flag device id sector count) size = refl
served_number k (Indirect op count device id sector pages) size = either (nat_le count 960) _ _ k refl refl

begun_number : (k : ℕ) (request : RawRequest) (size : ℕ) (v : Verdict) → (begun k request size v).number ≡ k
begun_number k request size (verdict.Serve plan) = served_number k request size
begun_number k request size (verdict.Error why) = refl
begun_number k request size verdict.Unsupported = refl

pub job_number : (info : DiskInfo) (abi : Abi) (trace : List JobAsked) (k : ℕ) (q : Request) → (job_of info abi trace k q).number ≡ k
job_number info abi trace k q = told_number (begun_of info abi k q) (asks_for k trace) ∙ begun_number k (request_of abi q.words) info.sectors (verdict_of (request_of abi q.words) info)
