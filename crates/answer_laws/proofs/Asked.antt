-- Where a report is quiet each request that was submitted is answered once: so there are as many answers as submissions.
use Rattle.std.proofs.Common.{◌≡◌, ℕ, zero, suc, ◌+◌, ◌≤◌, inl, inr, Bool, true, false, cond, List, [], ◌∷◌, ◌++◌, refl, ap, arith}
use Rattle.std.proofs.lemmas.Bool.Decides.{nat_tests}
use Rattle.std.proofs.lemmas.List.Sums.{sum_by-cons, sum_by-append}
use Rattle.blk_base.specs.declared.operation.Status.{Status}
use Rattle.schedule_text.specs.declared.line.Line.{Line}
use Rattle.schedule_text.specs.declared.line.Line.TheVariants as lines
use Rattle.report_rules.specs.Obeys.{Obeys}
use Rattle.pipeline_laws.specs.Answered.{is_submission_of, is_answer_of, times_submitted, times_answered, IsAnswerOfSubmitted, AreAnsweredOnce, IsQuietAnswered}
use Rattle.answer_laws.specs.Counts.{is_submission, is_answer, submissions_in, answers_in}
use Rattle.answer_laws.proofs.Totals.{IsNumbered, counts_agree, none_of}

submission_numbered : (line : Line) → IsNumbered is_submission is_submission_of line
submission_numbered (lines.Submit id submission) = inr (id, record { is = refl; only = λ other. refl })
submission_numbered line = inl (record { is = refl; none = λ id. refl })

answer_numbered : (line : Line) → IsNumbered is_answer is_answer_of line
answer_numbered (lines.Answer id status) = inr (id, record { is = refl; only = λ other. refl })
answer_numbered line = inl (record { is = refl; none = λ id. refl })

-- a request that is answered has a line that answers it
record HasAnswer (id : ℕ) (report : List Line) : Type 0 where
  before : List Line
  status : Status
  rest : List Line
  split : report ≡ before ++ lines.Answer id status ∷ rest

answer_here : (id : ℕ) (line : Line) (ls : List Line) → is_answer_of id line ≡ true → HasAnswer id (line ∷ ls)
answer_here id (lines.Answer number status) ls t =
    let same : number ≡ id = grind (arith, nat_tests) in
    record { before = []; status = status; rest = ls; split = ap (λ (n : ℕ). lines.Answer n status ∷ ls) same }
answer_here id line ls t = absurd (cc)

answer_later : (id : ℕ) (line : Line) (ls : List Line) → HasAnswer id ls → HasAnswer id (line ∷ ls)
answer_later id line ls h = record { before = line ∷ h.before; status = h.status; rest = h.rest; split = ap (λ (xs : List Line). line ∷ xs) h.split }

has_answer : (id : ℕ) (report : List Line) → 1 ≤ times_answered id report → HasAnswer id report
has_answer id [] some = absurd (omega arith)
has_answer id (line ∷ ls) some = by_test (is_answer_of id line) refl (λ more. has_answer id ls more)
  where
    by_test : (b : Bool) → is_answer_of id line ≡ b → (1 ≤ times_answered id ls → HasAnswer id ls) → HasAnswer id (line ∷ ls)
    by_test true t further = answer_here id line ls t
    by_test false t further =
        let both = sum_by-cons (λ (l : Line). cond (is_answer_of id l) 1 0) line ls in
        let one : ◌≡◌ {A = ℕ} (cond (is_answer_of id line) 1 0) 0 = ap (λ (b : Bool). cond b 1 0) t in
        answer_later id line ls (further (omega arith))

-- so it was submitted
was_asked : (id : ℕ) (report : List Line) → Obeys IsAnswerOfSubmitted report → 1 ≤ times_answered id report → 1 ≤ times_submitted id report
was_asked id report asked some =
    let h = has_answer id report some in
    let once : times_submitted id h.before ≡ 1 = asked h.before h.rest (lines.Answer id h.status) h.split in
    let both = sum_by-append (λ (l : Line). cond (is_submission_of id l) 1 0) h.before (lines.Answer id h.status ∷ h.rest) in
    let whole : times_submitted id report ≡ times_submitted id (h.before ++ lines.Answer id h.status ∷ h.rest) = ap (times_submitted id) h.split in
    omega arith

-- as many answers as submissions of each number
agree_at : (before_asked rest_asked asked before_answered answered : ℕ) → asked ≡ before_asked + rest_asked → rest_asked ≡ 0 → asked ≤ 1 → answered ≤ 1 → before_answered ≤ answered
    → (1 ≤ before_asked → before_answered ≡ 1) → (1 ≤ answered → 1 ≤ asked) → answered ≡ asked
agree_at zero rest_asked asked before_answered answered sum none one few within quiet was = by_answered answered refl
  where
    by_answered : (n : ℕ) → answered ≡ n → answered ≡ asked
    by_answered zero e = omega arith
    by_answered (suc n) e = (let more : 1 ≤ asked = was (omega arith) in absurd (omega arith))
agree_at (suc n) rest_asked asked before_answered answered sum none one few within quiet was =
    let all : before_answered ≡ 1 = quiet (omega arith) in
    omega arith

pub quiet_agrees : (before rest : List Line) → AreAnsweredOnce (before ++ lines.Quiet ∷ rest) → IsQuietAnswered (before ++ lines.Quiet ∷ rest) → submissions_in rest ≡ 0 → answers_in (before ++ lines.Quiet ∷ rest) ≡ submissions_in (before ++ lines.Quiet ∷ rest)
quiet_agrees before rest once quiet none =
    counts_agree is_answer is_submission is_answer_of is_submission_of answer_numbered submission_numbered (before ++ lines.Quiet ∷ rest) each
  where
    each : (id : ℕ) → times_answered id (before ++ lines.Quiet ∷ rest) ≡ times_submitted id (before ++ lines.Quiet ∷ rest)
    each id =
        let asked = sum_by-append (λ (l : Line). cond (is_submission_of id l) 1 0) before (lines.Quiet ∷ rest) in
        let later = sum_by-cons (λ (l : Line). cond (is_submission_of id l) 1 0) lines.Quiet rest in
        let told = sum_by-append (λ (l : Line). cond (is_answer_of id l) 1 0) before (lines.Quiet ∷ rest) in
        agree_at (times_submitted id before) (times_submitted id rest) (times_submitted id (before ++ lines.Quiet ∷ rest)) (times_answered id before) (times_answered id (before ++ lines.Quiet ∷ rest))
        (omega arith) (none_of is_submission is_submission_of submission_numbered rest id none) (once.numbered id) (once.once id) (omega arith)
        (λ some. quiet before rest lines.Quiet refl id some) (λ some. was_asked id (before ++ lines.Quiet ∷ rest) once.asked some)
