-- What is kept of replies is what the lines say, over all lines.
use Rattle.std.proofs.Common.{◌≡◌, ℕ, Bool, true, false, if◌then◌else◌, List, [], ◌∷◌, ◌++◌, refl, ap, sym, ◌∙◌, subst, append_assoc, append-nil}
use Rattle.std.specs.Prelude.{Option, Some, None}
use Rattle.schedule_text.specs.declared.line.Line.{Line}
use Rattle.report_rules.specs.declared.job.Fetched.{Fetched}
use Rattle.report_rules.specs.Standing.{is_epoch, this_epoch}
use Rattle.report_rules.specs.Ring.{page_made}
use Rattle.report_rules.specs.Reply.{is_one_of, answered_in}
use Rattle.report_rules.proofs.Prefixes.{answered_more}
use Rattle.ring_check.specs.State.{RingState, state_of}
use Rattle.ring_check.specs.Kept.{IsKept}
use Rattle.ring_check.proofs.Following.{kept_all}
use Rattle.ring_check.proofs.Telling.{IsNew}
use Rattle.ring_check.proofs.Untouched.{new_page}
use Rattle.job_check.specs.Laws.{jobs_after, AreFollowed}
use Rattle.job_check.specs.Open.{Open}
use Rattle.job_check.specs.Published.{Published, published_after}
use Rattle.job_check.specs.Replies.{Replies}
use Rattle.job_check.specs.State.{JobState, begun_with, no_lines, value_seen, after_line, seen}
use Rattle.report_rules.specs.Effect.{disk_move_of}
use Rattle.report_rules.proofs.Fetching.{no_job}
use Rattle.job_check.proofs.Entries.{fetched_anew}
use Rattle.job_check.proofs.Sees.{Sees, IsNext, jobs_more, followed_before, sees_all}
use Rattle.job_check.proofs.Written.{seen_is, written_none, written_anew}
use Rattle.job_check.proofs.NextLines.{AllNext, line_next}
use Rattle.job_check.proofs.Replying.{IsReplying}
use Rattle.job_check.proofs.ReplyLines.{is_answered, replies_by, IsReplyingBy, line_replies, write_jobs, answered_next, replies_still, replies_word}

pub replying_none : IsReplying [] no_lines
replying_none = record { written = written_none; ended = λ k o here. absurd (cc); answered = λ k. sym (ap (λ (f : Option Fetched). is_answered f None) (no_job k)); begun = λ some. absurd (cc) }

none_answered : (before : List Line) (line : Line) → is_epoch line ≡ true → answered_in (before ++ line ∷ []) ≡ []
none_answered before line e = answered_more before line ∙ rw e refl

replying_anew : (before : List Line) (line : Line) (p : Published) → is_epoch line ≡ true → IsReplying (before ++ line ∷ []) (begun_with p)
replying_anew before line p e = record {
  written = written_anew before line e;
  ended = λ k o here. absurd (cc);
  answered = λ k. ap (is_one_of k) (none_answered before line e) ∙ sym (ap (λ (f : Option Fetched). is_answered f None) (fetched_anew before line k e));
  begun = λ some. absurd (cc);
}

-- the replies and the jobs after a line, by the word that it writes
replies_next : (before : List Line) (ring : RingState) (s : JobState) (line : Line) (o : Option ℕ) → IsKept before ring → Sees before s → IsReplying before s → is_epoch line ≡ false → IsNew (page_made line) (this_epoch before)
    → AllNext before line s.replies.rows s.jobs (after_line ring s line).jobs → value_seen ring line ≡ o → IsReplyingBy (before ++ line ∷ []) (replies_by s.replies o) (after_line ring s line).jobs
replies_next before ring s line None k sees is e page next at = replies_still before line s (after_line ring s line).jobs is e page next (sym (seen_is before ring line k) ∙ at)
replies_next before ring s line (Some value) k sees is e page next at =
    let same : (after_line ring s line).jobs ≡ s.jobs = write_jobs ring s line value at in
    subst (λ (jobs : List (ℕ × Open)). IsReplyingBy (before ++ line ∷ []) (replies_by s.replies (Some value)) jobs) (sym same)
    (replies_word before line value s sees is e page (subst (λ (jobs : List (ℕ × Open)). AllNext before line s.replies.rows s.jobs jobs) same next) (sym (seen_is before ring line k) ∙ at))

replying_further : (before : List Line) (ring : RingState) (s : JobState) (line : Line) → IsKept before ring → Sees before s → IsReplying before s → IsNext before line → is_epoch line ≡ false
    → IsReplying (before ++ line ∷ []) (record (after_line ring s line) { published = published_after s.published line; moved = disk_move_of line })
replying_further before ring s line k sees is n e =
    let next : AllNext before line s.replies.rows s.jobs (after_line ring s line).jobs = line_next before ring s line k sees e n in
    let by = replies_next before ring s line (value_seen ring line) k sees is e (new_page before line sees.made n.answer) next refl in
    let now : IsReplyingBy (before ++ line ∷ []) (after_line ring s line).replies (after_line ring s line).jobs = subst (λ (r : Replies). IsReplyingBy (before ++ line ∷ []) r (after_line ring s line).jobs) (sym (line_replies ring s line)) by in
    record { written = now.0; ended = now.1; answered = answered_next before ring s line sees is e next; begun = now.2 }

replying_next : (before : List Line) (ring : RingState) (s : JobState) (line : Line) → IsKept before ring → Sees before s → IsReplying before s → IsNext before line → IsReplying (before ++ line ∷ []) (seen ring s line)
replying_next before ring s line k sees is n = by_epoch (is_epoch line) refl
  where
    by_epoch : (b : Bool) → is_epoch line ≡ b → IsReplying (before ++ line ∷ []) (if b then begun_with (published_after s.published line) else record (after_line ring s line) { published = published_after s.published line; moved = disk_move_of line })
    by_epoch true e = replying_anew before line (published_after s.published line) e
    by_epoch false e = replying_further before ring s line k sees is n e

replying_from : (before later : List Line) → AreFollowed (before ++ later) → IsReplying before (jobs_after before) → IsReplying (before ++ later) (jobs_after (before ++ later))
replying_from before [] f is = subst (λ (xs : List Line). IsReplying xs (jobs_after xs)) (sym (append-nil before)) is
replying_from before (line ∷ later) f is =
    let joined : (before ++ line ∷ []) ++ later ≡ before ++ line ∷ later = append_assoc before (line ∷ []) later in
    let old : AreFollowed before = followed_before before (line ∷ later) f in
    let n : IsNext before line = record {
      touch = f.touched.touches before later line refl;
      answer = f.touched.answers before later line refl;
      step = f.steps before later line refl;
    } in
    let next : IsReplying (before ++ line ∷ []) (jobs_after (before ++ line ∷ [])) =
    subst (λ (s : JobState). IsReplying (before ++ line ∷ []) s) (sym (jobs_more before line)) (replying_next before (state_of before) (jobs_after before) line (kept_all before old.touched) (sees_all before old) is n) in
    subst (λ (xs : List Line). IsReplying xs (jobs_after xs)) joined (replying_from (before ++ line ∷ []) later (subst (λ (xs : List Line). AreFollowed xs) (sym joined) f) next)

pub replying_all : (before : List Line) → AreFollowed before → IsReplying before (jobs_after before)
replying_all before f = replying_from [] before f replying_none
