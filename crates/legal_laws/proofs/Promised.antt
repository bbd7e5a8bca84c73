-- What a run promises of its report makes it legal.
use Rattle.std.proofs.Common.{◌≡◌, ℕ, List, sym, subst}
use Rattle.std.specs.Prelude.{Some, Result, All, filter}
use Rattle.std.proofs.lemmas.List.Elements.{All-weaker}
use Rattle.blk_base.specs.Options.{Options}
use Rattle.blk_base.specs.declared.config.Submission.{Submission}
use Rattle.blk_base.specs.declared.config.Submission.TheVariants as submissions
use Rattle.blk_io.specs.Outside.{SourceSeen}
use Rattle.schedule_text.specs.declared.event.Event.{Event}
use Rattle.schedule_text.specs.declared.line.Detail.{Detail}
use Rattle.schedule_text.specs.declared.line.Line.{Line}
use Rattle.schedule_text.specs.Range.{SubmissionHasWidths, IsInRange}
use Rattle.schedule_text.specs.Recorder.{report_text}
use Rattle.plain_disk.specs.Echo.{is_echo, AnswersAll, Echoes}
use Rattle.report_rules.specs.Obeys.{Obeys}
use Rattle.request_check.specs.Rules.{CanBeAsked}
use Rattle.checked_rules.specs.Rules.{IsOrderAt, KeepsAll}
use Rattle.trace_check.specs.declared.finding.Finding.{Finding}
use Rattle.trace_check.specs.declared.finding.CheckStop.{CheckStop}
use Rattle.trace_check.specs.Found.{EndsWell, Finds}
use Rattle.legal_laws.specs.Found.{FindsLegal}
use Rattle.legal_laws.specs.Promised.{IsPromised}
use Rattle.plain_disk.specs.Honest.{honest_part}
use Rattle.legal_laws.proofs.Kept.{so_far_kept}
use Rattle.legal_laws.proofs.Legal.{honest_part_legal}
use Rattle.legal_laws.proofs.Found.{legal_found_legal}
use Rattle.legal_laws.proofs.Order.{answers_in_order, echo_in_order}

-- ---- jobs

job_asked : (job : Submission) → SubmissionHasWidths job → CanBeAsked job
job_asked (submissions.Read sector count) w = (w.0, w.1.0, w.1.1)
job_asked (submissions.Write sector count tag) w = (w.0, w.1.0, w.1.1, w.2)
job_asked (submissions.Barrier sector count tag) w = (w.0, w.1.0, w.1.1, w.2)
job_asked submissions.Flush w = tt
job_asked (submissions.Discard sector count) w = (w.0, w.1.0, w.1.1)

pub jobs_asked : (jobs : List Submission) → All SubmissionHasWidths jobs → All CanBeAsked jobs
jobs_asked jobs widths = All-weaker SubmissionHasWidths CanBeAsked job_asked jobs widths

-- ---- all of it

by_order : (config : Options) (detail : Detail) (jobs : List Submission) (report : List Line)
    → IsPromised config detail jobs report → Obeys IsOrderAt report → Obeys KeepsAll report
by_order config detail jobs report p order =
    honest_part_legal report order (so_far_kept jobs p.run.0 p.run.1 (honest_part report) p.run.2 p.submissions p.states p.asked p.settled) p.moves

pub promised_so_far_legal : (config : Options) (detail : Detail) (events : List Event) (jobs : List Submission) (report : List Line)
    → IsPromised config detail jobs report → AnswersAll config.order events (filter is_echo report) → Obeys KeepsAll report
promised_so_far_legal config detail events jobs report p answers =
    by_order config detail jobs report p (subst (λ (ls : List Line). Obeys IsOrderAt ls) (sym p.first)
    (answers_in_order config detail events p.rest p.body (subst (λ (ls : List Line). AnswersAll config.order events (filter is_echo ls)) p.first answers)))

pub promised_legal : (config : Options) (detail : Detail) (events : List Event) (jobs : List Submission) (report : List Line)
    → IsPromised config detail jobs report → Echoes config detail events report → Obeys KeepsAll report × EndsWell report
promised_legal config detail events jobs report p echo = (
  by_order config detail jobs report p (subst (λ (ls : List Line). Obeys IsOrderAt ls) (sym p.first)
      (echo_in_order config detail events p.rest p.body (subst (λ (ls : List Line). Echoes config detail events ls) p.first echo))),
  (echo.0, echo.1),
)

pub promised_found_legal : (config : Options) (detail : Detail) (events : List Event) (jobs : List Submission) (report : List Line)
    → IsPromised config detail jobs report → Echoes config detail events report → All IsInRange report
    → (limit : ℕ) (found : Result Finding CheckStop) (s t : SourceSeen) → s.left ≡ Some (report_text report) → Finds limit found s t → FindsLegal limit (report_text report) found s t
promised_found_legal config detail events jobs report p echo range limit found s t left finds =
    let legal = promised_legal config detail events jobs report p echo in
    legal_found_legal limit report found s t legal.0 legal.1 range left finds
