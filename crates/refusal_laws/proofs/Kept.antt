-- What a recorder keeps of a report is answered by the same rule: a move says nothing of the front or of a request.
use Rattle.std.proofs.Common.{◌≡◌, ℕ, cond, List, [], ◌∷◌, ◌++◌, refl, ap, sym, ◌∙◌, subst, append_assoc, append-nil, arith}
use Rattle.std.specs.Prelude.{◌+◌, Option, Some, None, fold, slice_get, IsSomeAnd}
use Rattle.std.proofs.lemmas.List.Sums.{sum_by-cons}
use Rattle.blk_base.specs.declared.config.Submission.{Submission}
use Rattle.schedule_text.specs.declared.line.Detail.{Detail}
use Rattle.schedule_text.specs.declared.line.Detail.TheVariants.{Lines, Moves}
use Rattle.blk_base.specs.declared.refusal.Refusal.{Refusal}
use Rattle.schedule_text.specs.declared.line.Line.{Line}
use Rattle.schedule_text.specs.declared.line.Line.TheVariants as lines
use Rattle.schedule_text.specs.Recorder.{recorded, kept_of}
use Rattle.plain_disk.specs.declared.request.DiskRequest.{DiskRequest}
use Rattle.plain_disk.specs.declared.sight.Sight.{Sight}
use Rattle.plain_disk.specs.Refusal.{nothing_seen, seen, refusal_at}
use Rattle.report_rules.proofs.Obeys.{obeys_none, obeys_more}
use Rattle.pipeline_laws.specs.Submissions.{answers_submission, answer_count}
use Rattle.split_model.proofs.Running.{kept_of-append}
use Rattle.refusal_laws.specs.Ruled.{asked_step, asked_by, ruled_of, IsRuledAt, AreRuled}

kept_seen : (detail : Detail) (ls : List Line) (s : Sight) → fold seen s (kept_of detail ls) ≡ fold seen s ls
kept_seen detail [] s = refl
kept_seen detail (lines.Begin config other ∷ ls) s = kept_seen detail ls (record s { config = Some config })
kept_seen Lines (lines.Move move ∷ ls) s = kept_seen Lines ls s
kept_seen Moves (lines.Move move ∷ ls) s = kept_seen Moves ls s
kept_seen detail (line ∷ ls) s = kept_seen detail ls (seen s line)

kept_asked : (detail : Detail) (ls : List Line) (asked : List DiskRequest) → fold asked_step asked (kept_of detail ls) ≡ fold asked_step asked ls
kept_asked detail [] asked = refl
kept_asked detail (lines.Begin config other ∷ ls) asked = kept_asked detail ls asked
kept_asked Lines (lines.Move move ∷ ls) asked = kept_asked Lines ls asked
kept_asked Moves (lines.Move move ∷ ls) asked = kept_asked Moves ls asked
kept_asked detail (line ∷ ls) asked = kept_asked detail ls (asked_step asked line)

counted : (line : Line) (ls : List Line) → answer_count (line ∷ ls) ≡ cond (answers_submission line) 1 0 + answer_count ls
counted line ls = sum_by-cons (λ (l : Line). cond (answers_submission l) 1 0) line ls

kept_count : (detail : Detail) (ls : List Line) → answer_count (kept_of detail ls) ≡ answer_count ls
kept_count detail [] = refl
kept_count detail (lines.Begin config other ∷ ls) = let one = counted (lines.Begin config detail) (kept_of detail ls) in let was = counted (lines.Begin config other) ls in let rest = kept_count detail ls in omega arith
kept_count Lines (lines.Move move ∷ ls) = let was = counted (lines.Move move) ls in let rest = kept_count Lines ls in omega arith
kept_count Moves (lines.Move move ∷ ls) = let one = counted (lines.Move move) (kept_of Moves ls) in let was = counted (lines.Move move) ls in let rest = kept_count Moves ls in omega arith
kept_count detail (line ∷ ls) = counted line (kept_of detail ls) ∙ (ap (λ (n : ℕ). cond (answers_submission line) 1 0 + n) (kept_count detail ls) ∙ sym (counted line ls))

kept_rule : (detail : Detail) (before : List Line) (submission : Submission) → ruled_of (kept_of detail before) submission ≡ ruled_of before submission
kept_rule detail before submission =
    ap (λ (s : Sight). refusal_at s s.config (asked_by (kept_of detail before)) submission) (kept_seen detail before nothing_seen)
    ∙ ap (λ (asked : List DiskRequest). let s : Sight = fold seen nothing_seen before in refusal_at s s.config asked submission) (kept_asked detail before [])

some_kept : (submissions : List Submission) (detail : Detail) (before : List Line) (refusal : Refusal) → IsRuledAt submissions before (lines.Refuse refusal) → IsRuledAt submissions (kept_of detail before) (lines.Refuse refusal)
some_kept submissions detail before refusal is = rw (kept_count detail before) (by_job (slice_get submissions (answer_count before)) is)
  where
    by_job : (o : Option Submission) → IsSomeAnd o (λ (submission : Submission). ruled_of before submission ≡ Some refusal) → IsSomeAnd o (λ (submission : Submission). ruled_of (kept_of detail before) submission ≡ Some refusal)
    by_job None is = is
    by_job (Some submission) is = kept_rule detail before submission ∙ is

module _ (submissions : List Submission) (detail : Detail) where
  rule_kept : (before : List Line) (line : Line) → IsRuledAt submissions before line → IsRuledAt submissions (kept_of detail before) line
  rule_kept before (lines.Submit id submission) is = (ap (slice_get submissions) (kept_count detail before) ∙ is.0, kept_rule detail before submission ∙ is.1)
  rule_kept before (lines.Refuse refusal) is = some_kept submissions detail before refusal is
  rule_kept before line is = tt

kept_more : (submissions : List Submission) (detail : Detail) (before : List Line) (line : Line) → IsRuledAt submissions before line → AreRuled submissions (kept_of detail before) → AreRuled submissions (kept_of detail before ++ recorded detail line)
kept_more submissions detail before (lines.Begin config other) is are = obeys_more (IsRuledAt submissions) (kept_of detail before) (lines.Begin config detail) are tt
kept_more submissions Lines before (lines.Move move) is are = subst (AreRuled submissions) (sym (append-nil (kept_of Lines before))) are
kept_more submissions Moves before (lines.Move move) is are = obeys_more (IsRuledAt submissions) (kept_of Moves before) (lines.Move move) are tt
kept_more submissions detail before line is are = obeys_more (IsRuledAt submissions) (kept_of detail before) line are (rule_kept submissions detail before line is)

kept_all : (submissions : List Submission) (detail : Detail) (ls before : List Line) → AreRuled submissions (before ++ ls) → AreRuled submissions (kept_of detail before) → AreRuled submissions (kept_of detail (before ++ ls))
kept_all submissions detail [] before are kept = subst (λ (xs : List Line). AreRuled submissions (kept_of detail xs)) (sym (append-nil before)) kept
kept_all submissions detail (line ∷ ls) before are kept =
    let more : AreRuled submissions (kept_of detail before ++ recorded detail line) = kept_more submissions detail before line (are before ls line refl) kept in
    let same : kept_of detail (before ++ line ∷ []) ≡ kept_of detail before ++ recorded detail line = kept_of-append detail before (line ∷ []) ∙ ap (λ (xs : List Line). kept_of detail before ++ xs) (append-nil (recorded detail line)) in
    subst (λ (xs : List Line). AreRuled submissions (kept_of detail xs)) (append_assoc before (line ∷ []) ls)
    (kept_all submissions detail ls (before ++ line ∷ []) (subst (AreRuled submissions) (sym (append_assoc before (line ∷ []) ls)) are) (subst (AreRuled submissions) (sym same) more))

pub kept_ruled : (submissions : List Submission) (detail : Detail) (report : List Line) → AreRuled submissions report → AreRuled submissions (kept_of detail report)
kept_ruled submissions detail report are = kept_all submissions detail report [] are (obeys_none (IsRuledAt submissions))
