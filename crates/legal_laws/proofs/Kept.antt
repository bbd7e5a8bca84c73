-- What a run promises of its requests keeps the rules on them.
use Rattle.std.proofs.Common.{◌≡◌, ℕ, ◌+◌, ◌==◌, true, false, List, [], ◌∷◌, ◌++◌, length, append_assoc, refl, ap, sym, subst, ◌∙◌, arith}
use Rattle.std.specs.Prelude.{Option, Some, None, option_and_then, slice_get, fold, All, IsSomeAnd}
use Rattle.std.specs.List.{list_all}
use Rattle.std.proofs.lemmas.Option.{cond_some, option_and_then_some}
use Rattle.std.proofs.lemmas.Bool.Decides.{nat_tests}
use Rattle.blk_base.specs.declared.config.Submission.{Submission}
use Rattle.blk_base.specs.declared.halt.Halt.{Halt}
use Rattle.blk_base.specs.declared.halt.Halt.TheVariants as halts
use Rattle.blk_base.specs.declared.refusal.Refusal.{Refusal}
use Rattle.schedule_text.specs.declared.line.Line.{Line}
use Rattle.schedule_text.specs.declared.line.Line.TheVariants as lines
use Rattle.plain_disk.specs.declared.sight.Sight.{Sight}
use Rattle.plain_disk.specs.declared.request.DiskRequest.{DiskRequest}
use Rattle.plain_disk.specs.Request.{is_finished}
use Rattle.plain_disk.specs.Disk.{Disk, disk_of}
use Rattle.plain_disk.specs.Step.{step, after}
use Rattle.plain_disk.specs.Refusal.{nothing_seen, seen, refusal_of, requests_in}
use Rattle.report_rules.specs.Obeys.{Obeys}
use Rattle.pipeline_laws.specs.Allowed.{is_farewell}
use Rattle.pipeline_laws.specs.Run.{IsRun}
use Rattle.pipeline_laws.specs.Submissions.{answer_count, IsAnswerAt, AreAnswered}
use Rattle.pipeline_laws.specs.States.{sight_after, IsServed, AreStates}
use Rattle.pipeline_laws.specs.States.{IsStateAt as IsStateOfRun}
use Rattle.pipeline_laws.proofs.Lists.{all_at}
use Rattle.pipeline_laws.proofs.PlainRuns.{after_append, run_before}
use Rattle.pipeline_laws.proofs.AnsweredRuns.{StandsAfter, stands_after}
use Rattle.request_check.specs.Rules.{disk_after, is_gone, are_finished, IsStateAt, IsSubmitAt, IsRefuseAt, CanBeAsked, KeepsRequests}
use Rattle.request_check.proofs.Runs.{run_is_kept}
use Rattle.report_laws.specs.Settled.{is_unsettled, IsSettled}
use Rattle.legal_laws.specs.Unknown.{forgetting}
use Rattle.legal_laws.proofs.Lists.{all_there}
use Rattle.legal_laws.proofs.Unknown.{known_is_unknown}

-- ---- the front's states

seen_unbroken : (before : List Line) (s : Sight) (line : Line) → IsStateOfRun before line → (seen s line).broken ≡ s.broken
seen_unbroken before s (lines.Broken word) state = absurd state
seen_unbroken before s line state = refl

-- a run breaks no front
unbroken_on : (before rest : List Line) (s : Sight) → ((first after : List Line) (line : Line) → before ++ rest ≡ first ++ line ∷ after → IsStateOfRun first line) → (fold seen s rest).broken ≡ s.broken
unbroken_on before [] s states = refl
unbroken_on before (line ∷ rest) s states =
    unbroken_on (before ++ line ∷ []) rest (seen s line) (λ first after x is. states first after x (sym (append_assoc before (line ∷ []) rest) ∙ is))
    ∙ seen_unbroken before s line (states before rest line refl)

unbroken_before : (report before rest : List Line) (line : Line) → AreStates report → report ≡ before ++ line ∷ rest → (sight_after before).broken ≡ false
unbroken_before report before rest line states is =
    unbroken_on [] before nothing_seen (λ first after x split. states first (after ++ line ∷ rest) x (is ∙ (ap (λ (ls : List Line). ls ++ line ∷ rest) split ∙ append_assoc first (x ∷ after) (line ∷ rest))))

-- all that was submitted is finished
all_finished : (before : List Line) → IsServed before → are_finished (requests_in (disk_after before)) ≡ true
all_finished before served =
    let here = run_before before (lines.Quiet ∷ []) (disk_of []) served.disk served.quiet in
    let last : option_and_then (after []) (step here.0 lines.Quiet) ≡ Some served.disk = sym (after_append before (lines.Quiet ∷ []) (disk_of []) here.0 here.1) ∙ served.quiet in
    option_and_then_some (after []) (step here.0 lines.Quiet) served.disk last (λ next taken further.
    ap (λ (o : Option Disk). are_finished (requests_in o)) here.1 ∙ (cond_some (list_all (λ (r : DiskRequest). is_finished r.stage) here.0.requests) here.0 next taken).0)

farewell : (why : Halt) → is_farewell why ≡ true → is_gone why ≡ true
farewell (halts.Gone state) is = refl
farewell (halts.Unplugged state) is = refl
farewell why is = is

state_kept : (before : List Line) (line : Line) → (sight_after before).broken ≡ false → IsStateOfRun before line → is_unsettled line ≡ false → IsStateAt before line
state_kept before lines.Ready unbroken state settled = rw (state.1, unbroken, state.0) refl
state_kept before lines.Closing unbroken state settled = rw state refl
state_kept before lines.Closed unbroken state settled = rw (state.0, all_finished before state.2) refl
state_kept before (lines.Broken word) unbroken state settled = absurd state
state_kept before lines.Unsettled unbroken state settled = absurd (cc)
state_kept before (lines.Halt why) unbroken state settled = farewell why state.1
state_kept before line unbroken state settled = refl

-- ---- submissions

submit_kept : (jobs : List Submission) (before : List Line) (line : Line) → StandsAfter before line [] → IsAnswerAt jobs before line → IsSubmitAt before line
submit_kept jobs before (lines.Submit id job) stands answer =
    let test = (cond_some (id == length stands.disk.requests + 1) _ stands.next stands.taken).0 in
    let next : id ≡ length stands.disk.requests + 1 = grind (arith, nat_tests) in
    (next ∙ ap (λ (o : Option Disk). length (requests_in o) + 1) (sym stands.run), answer.1)
submit_kept jobs before line stands answer = tt

refused_by : (jobs : List Submission) (before : List Line) (refusal : Refusal) (number : ℕ) (found : Option Submission) → slice_get jobs number ≡ found → All CanBeAsked jobs
    → IsSomeAnd found (λ (job : Submission). refusal_of before job ≡ Some refusal) → IsRefuseAt before (lines.Refuse refusal)
refused_by jobs before refusal number None at asked answer = absurd answer
refused_by jobs before refusal number (Some job) at asked answer = (job, all_at CanBeAsked jobs number job asked at, answer)

refuse_kept : (jobs : List Submission) (before : List Line) (line : Line) → All CanBeAsked jobs → IsAnswerAt jobs before line → IsRefuseAt before line
refuse_kept jobs before (lines.Refuse refusal) asked answer = refused_by jobs before refusal (answer_count before) (slice_get jobs (answer_count before)) refl asked answer
refuse_kept jobs before line asked answer = tt

-- ---- all ten

pub so_far_kept : (jobs : List Submission) (first : List (List ℕ)) (d : Disk) (report : List Line) → after report (disk_of first) ≡ Some d → Obeys (IsAnswerAt jobs) report → AreStates report → All CanBeAsked jobs → IsSettled report
    → Obeys KeepsRequests report
so_far_kept jobs first d report run answers states asked settled =
    let unknown = known_is_unknown report first d run in
    run_is_kept report (forgetting d, unknown)
    (λ before rest line is. state_kept before line (unbroken_before report before rest line states is) (states before rest line is) (all_there (λ (x : Line). is_unsettled x ≡ false) before rest line (subst IsSettled is settled)))
    (λ before rest line is. submit_kept jobs before line (stands_after report before rest line [] (forgetting d) unknown is) (answers before rest line is))
    (λ before rest line is. refuse_kept jobs before line asked (answers before rest line is))

pub run_kept : (jobs : List Submission) (sectors : ℕ) (before now : Option (List (List ℕ))) (report : List Line) → IsRun sectors before now report → AreAnswered jobs report → AreStates report → All CanBeAsked jobs → IsSettled report
    → Obeys KeepsRequests report
run_kept jobs sectors before now report r answered states asked settled = so_far_kept jobs r.first r.disk report r.run answered.rightly states asked settled
