-- Each submission is answered by the rule: the pipeline shows all that the rule asks for.
use Rattle.std.proofs.Common.{◌≡◌, ℕ, ◌+◌, true, inl, inr, cond, List, [], ◌∷◌, ◌++◌, length, refl, ap, sym, ◌∙◌, subst, arith, append_assoc, length-append}
use Rattle.std.specs.Prelude.{Some, slice_get}
use Rattle.std.proofs.lemmas.List.{append-nil}
use Rattle.std.proofs.lemmas.List.Sums.{sum_by-append}
use Rattle.std.proofs.lemmas.List.Elements.{filter_map-append}
use Rattle.blk_base.specs.declared.config.Submission.{Submission}
use Rattle.schedule_text.specs.declared.line.Line.{Line}
use Rattle.schedule_text.specs.declared.line.Line.TheVariants as lines
use Rattle.plain_disk.specs.Refusal.{refusal_of}
use Rattle.report_rules.specs.Obeys.{Obeys}
use Rattle.report_rules.proofs.Obeys.{obeys_more}
use Rattle.pipeline_laws.specs.Pipeline.{Pipeline, Step, Submits, Refuses, Moves, Connects, StartsToClose, Closes, Leaves, Resumes, Rests, Shows, next, step_lines, lines_of}
use Rattle.pipeline_laws.specs.Allowed.{is_aside, refusal_now, IsAllowed, AreAllowed}
use Rattle.pipeline_laws.specs.Disk.{DiskRuns}
use Rattle.pipeline_laws.specs.Submissions.{submitted_at, submitted_of, answers_submission, answer_count, IsAnswerAt, AreAnswered}
use Rattle.pipeline_laws.proofs.Running.{is_of_request, move_shows, IsSoFar, so_far_more}
use Rattle.pipeline_laws.proofs.Ruled.{move_obeys}

-- the rule looks at what the lines so far say, and they say how the pipeline stands
ruled : (before : List Line) (p : Pipeline) (content : List (List ℕ)) (submission : Submission) → IsSoFar [] before p content → refusal_of before submission ≡ refusal_now p submission
ruled before p content submission so = rw (so.shown, so.run, so.stands.matches.requests) refl

get_after : {X : Type 0} (xs ys : List X) (y : X) → slice_get (xs ++ y ∷ ys) (length xs) ≡ Some y
get_after [] ys y = refl
get_after (x ∷ xs) ys y = get_after xs ys y

count_more : (before ls : List Line) → answer_count (before ++ ls) ≡ answer_count before + answer_count ls
count_more before ls = sum_by-append (λ (l : Line). cond (answers_submission l) 1 0) before ls

-- other lines answer no submission
of_request_answers : (submissions : List Submission) (before : List Line) (line : Line) → is_of_request line ≡ true → IsAnswerAt submissions before line
of_request_answers submissions before (lines.Submit id submission) e = absurd (cc)
of_request_answers submissions before (lines.Refuse refusal) e = absurd (cc)
of_request_answers submissions before line e = tt

of_request_uncounted : (line : Line) → is_of_request line ≡ true → answer_count (line ∷ []) ≡ 0
of_request_uncounted (lines.Submit id submission) e = absurd (cc)
of_request_uncounted (lines.Refuse refusal) e = absurd (cc)
of_request_uncounted line e = refl

aside_answers : (submissions : List Submission) (before : List Line) (line : Line) → is_aside line ≡ true → IsAnswerAt submissions before line × (answer_count (line ∷ []) ≡ 0)
aside_answers submissions before (lines.Submit id submission) e = absurd (cc)
aside_answers submissions before (lines.Refuse refusal) e = absurd (cc)
aside_answers submissions before line e = (tt, refl)

-- what the lines of a step answer
record Answers (submissions done : List Submission) (before : List Line) (p : Pipeline) (s : Step) : Type 0 where
  rightly : Obeys (IsAnswerAt submissions) (before ++ step_lines p s)
  count : answer_count (step_lines p s) ≡ length (submitted_of (s ∷ []))

step_answers : (submissions done rest : List Submission) (before : List Line) (p : Pipeline) (content : List (List ℕ)) (s : Step) → IsAllowed p s → submissions ≡ done ++ (submitted_of (s ∷ []) ++ rest) → answer_count before ≡ length done → IsSoFar [] before p content → Obeys (IsAnswerAt submissions) before → Answers submissions done before p s
step_answers submissions done rest before p content s may all count so obeys = by_step s may all
  where
    passes : (t : Step) (line : Line) → step_lines p t ≡ line ∷ [] → IsAnswerAt submissions before line → answer_count (line ∷ []) ≡ length (submitted_of (t ∷ [])) → Answers submissions done before p t
    passes t line one right counts = record {
      rightly = subst (λ (ls : List Line). Obeys (IsAnswerAt submissions) (before ++ ls)) (sym one) (obeys_more (IsAnswerAt submissions) before line obeys right);
      count = ap answer_count one ∙ counts;
    }

    asked : (submission : Submission) → submissions ≡ done ++ (submission ∷ rest) → slice_get submissions (answer_count before) ≡ Some submission
    asked submission e = rw (e, count) (get_after done rest submission)

    by_step : (t : Step) → IsAllowed p t → submissions ≡ done ++ (submitted_of (t ∷ []) ++ rest) → Answers submissions done before p t
    by_step (Submits submission) m e = passes (Submits submission) (lines.Submit (length p.requests + 1) submission) refl (asked submission e, ruled before p content submission so ∙ m) refl
    by_step (Refuses submission refusal) m e = passes (Refuses submission refusal) (lines.Refuse refusal) refl (let here = asked submission e in rw here (ruled before p content submission so ∙ m)) refl
    by_step (Moves k x move) m e = record {
      rightly = move_obeys (IsAnswerAt submissions) before k move (λ line of. of_request_answers submissions before line of) obeys;
      count = elim (move_shows k move) [ inl none ↦ ap answer_count none | inr one ↦ ap answer_count one.1 ∙ of_request_uncounted one.0 one.2 ];
    }
    by_step Connects m e = passes Connects lines.Ready refl tt refl
    by_step StartsToClose m e = passes StartsToClose lines.Closing refl tt refl
    by_step Closes m e = passes Closes lines.Closed refl tt refl
    by_step (Leaves why) m e = passes (Leaves why) (lines.Halt why) refl tt refl
    by_step Resumes m e = passes Resumes lines.Epoch refl tt refl
    by_step Rests m e = passes Rests lines.Quiet refl tt refl
    by_step (Shows line) m e = (let is = aside_answers submissions before line m in passes (Shows line) line refl is.0 is.1)

submitted_more : (s : Step) (steps : List Step) → submitted_of (s ∷ steps) ≡ submitted_of (s ∷ []) ++ submitted_of steps
submitted_more s steps = filter_map-append submitted_at (s ∷ []) steps

pub all_answered : (submissions done : List Submission) (steps : List Step) (before : List Line) (p : Pipeline) (content later : List (List ℕ)) → submissions ≡ done ++ submitted_of steps → AreAllowed steps p → DiskRuns steps content later → answer_count before ≡ length done → IsSoFar [] before p content → Obeys (IsAnswerAt submissions) before
    → AreAnswered submissions (before ++ lines_of steps p)
all_answered submissions done [] before p content later all may runs count so obeys =
    rw (append-nil before) (record { rightly = obeys; each = count ∙ ap length (sym (append-nil done)) ∙ ap length (sym all) })
all_answered submissions done (s ∷ steps) before p content later all may runs count so obeys =
    let split : submissions ≡ done ++ (submitted_of (s ∷ []) ++ submitted_of steps) = all ∙ ap (λ (js : List Submission). done ++ js) (submitted_more s steps) in
    let one = step_answers submissions done (submitted_of steps) before p content s may.0 split count so obeys in
    subst (λ (ls : List Line). AreAnswered submissions ls) (append_assoc before (step_lines p s) (lines_of steps (next p s)))
    (all_answered submissions (done ++ submitted_of (s ∷ [])) steps (before ++ step_lines p s) (next p s) runs.0 later
    (split ∙ sym (append_assoc done (submitted_of (s ∷ [])) (submitted_of steps))) may.1 runs.2
    (count_more before (step_lines p s) ∙ sums count one.count ∙ sym (length-append done (submitted_of (s ∷ []))))
    (so_far_more [] before p content runs.0 s may.0 runs.1 so) one.rightly)
  where
    sums : {a b c d : ℕ} → a ≡ b → c ≡ d → a + c ≡ b + d
    sums e f = omega arith
