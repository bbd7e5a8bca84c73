-- What is kept, one line further, is what the lines before say with one line more.
use Rattle.std.proofs.Common.{◌≡◌, ℕ, ◌==◌, ◌&&◌, Bool, true, false, if◌then◌else◌, List, [], ◌∷◌, ◌++◌, refl, ap, sym, ◌∙◌, subst, append_assoc, append-nil, arith}
use Rattle.std.specs.Prelude.{find, Option, Some, None, is_some, option_map, IfSome}
use Rattle.std.specs.Map.{values_of}
use Rattle.std.proofs.lemmas.Bool.Decides.{nat_tests}
use Rattle.std.proofs.lemmas.List.{reverse-append, reverse-reverse}
use Rattle.blk_base.specs.declared.moves.BackMover.TheVariants as back
use Rattle.blk_base.specs.declared.moves.Move.{Move}
use Rattle.blk_base.specs.declared.moves.Move.TheVariants as moves
use Rattle.schedule_text.specs.declared.line.Line.{Line}
use Rattle.schedule_text.specs.declared.line.Line.TheVariants as lines
use Rattle.report_rules.specs.declared.effect.DiskMove.{DiskMove}
use Rattle.report_rules.specs.Standing.{is_epoch, this_epoch}
use Rattle.report_rules.specs.Touch.{IsTouchAt}
use Rattle.report_rules.specs.Mapped.{IsMapAnswerAt}
use Rattle.report_rules.specs.Ring.{page_made}
use Rattle.report_rules.specs.Job.{is_job, fetched_of}
use Rattle.report_rules.specs.Effect.{disk_move_of, disk_move_shown}
use Rattle.report_rules.specs.Step.{stepper}
use Rattle.report_rules.specs.Steps.{IsStepAt}
use Rattle.report_rules.specs.Reply.{is_like}
use Rattle.report_rules.proofs.Obeys.{obeys_before}
use Rattle.ring_check.specs.State.{RingState, state_of}
use Rattle.ring_check.specs.Kept.{IsKept}
use Rattle.ring_check.proofs.Following.{kept_all}
use Rattle.ring_check.proofs.Telling.{IsNew}
use Rattle.ring_check.proofs.Untouched.{AreMade, none_made, made_next, new_page}
use Rattle.job_check.specs.Kept.{has_unmapped}
use Rattle.job_check.specs.Laws.{jobs_after, AreFollowed}
use Rattle.job_check.specs.Open.{Open, due, is_early, moved_by, failed_by, with_fault, with_sector}
use Rattle.job_check.specs.Published.{is_persistent, published_after}
use Rattle.job_check.specs.Replies.{after_other, answers, answered_by}
use Rattle.job_check.specs.State.{JobState, begun_with, no_lines, job_at, changed, job_moved, job_answered, without_job, for_job, after_line, value_seen, after_move, seen}
use Rattle.job_check.proofs.Keyed.{IsHeld, found_value, found_set}
use Rattle.job_check.proofs.Telling.{longer, anew, last_mover, mover_more, mover_is, shown_more}
use Rattle.job_check.proofs.Mappings.{IsKeptTo, kept_none, kept_still, kept_anew}
use Rattle.report_rules.proofs.Fetching.{no_job}
use Rattle.job_check.proofs.Entries.{IsFetching, fetching_none, fetching_anew, fetched_anew, fetched_still, fetching_still}
use Rattle.job_check.proofs.Publishing.{IsPublished, published_none, published_more}
use Rattle.job_check.proofs.Jobs.{IsJob, closed, gone_stops}
use Rattle.job_check.proofs.JobLines.{job_given, job_failed}
use Rattle.job_check.proofs.Followed.{gone_still, gone_anew, job_ended}
use Rattle.job_check.proofs.Changes.{IsJobOf, AreJobs, change_of, of_still, of_apart, jobs_still, jobs_changed, jobs_removed}
use Rattle.job_check.proofs.Moves.{IsSeen, other_moved, read_moved, write_moved, may_of}

pub record Sees (before : List Line) (s : JobState) : Type 0 where
  pub made : AreMade before
  pub published : IsPublished before s.published
  pub seen : IsSeen before s
  pub shown : s.moved ≡ disk_move_shown before
  pub last : job_moved s.moved ≡ last_mover (this_epoch before)
  pub mover : IfSome s.moved (λ (m : DiskMove). is_some (job_at s.jobs m.job) ≡ true)

-- what the rules say of the next line
pub record IsNext (before : List Line) (line : Line) : Type 0 where
  pub touch : IsTouchAt before line
  pub answer : IsMapAnswerAt before line
  pub step : IsStepAt before line

-- ---- moves
move_seen : (before : List Line) (ring : RingState) (s : JobState) (move : Move) → IsKept before ring → IsSeen before s → IsPublished before s.published → IsNew (page_made (lines.Move move)) (this_epoch before) → IsNext before (lines.Move move)
    → IsSeen (before ++ lines.Move move ∷ []) (after_move ring s move (value_seen ring (lines.Move move)))
move_seen before ring s (moves.Read back.Back number frame word value) k is published new n = read_moved before ring s number frame word value k is published
move_seen before ring s (moves.Write back.Back number frame word value) k is published new n = write_moved before ring s number frame word value is
move_seen before ring s move k is published new n = other_moved before s move is refl n.answer n.step

-- ---- outcomes
pub not_last : (j k : ℕ) (o : Option ℕ) → Some j ≡ o → (j == k) ≡ false → is_job k o ≡ false
not_last j k o is e = ap (is_job k) (sym is) ∙ e

pub is_last : (j : ℕ) (o : Option ℕ) → Some j ≡ o → is_job j o ≡ true
is_last j o is = let own : (j == j) ≡ true = grind (arith, nat_tests) in ap (is_job j) (sym is) ∙ own

outcome_seen : (before : List Line) (line : Line) (s : JobState) (last : Option ℕ) (change : Open → Open) → IsSeen before s → last ≡ last_mover (this_epoch before) → is_epoch line ≡ false → ((k : ℕ) → is_job k (stepper line) ≡ false)
    → ((k : ℕ) → fetched_of (before ++ line ∷ []) k ≡ fetched_of before k) → ((k : ℕ) (o : Open) → IsJob before k o → is_job k (last_mover (this_epoch before)) ≡ true → IsJob (before ++ line ∷ []) k (change o))
    → AreJobs (before ++ line ∷ []) (for_job (record s { replies = after_other s.replies }) last change).jobs
outcome_seen before line s None change is mover e none fetched own =
    jobs_still before (before ++ line ∷ []) s.jobs is.jobs (λ k o j. of_apart before line k o e (none k) (fetched k) (ap (is_job k) (sym mover)) j)
outcome_seen before line s (Some j) change is mover e none fetched own =
    jobs_changed before (before ++ line ∷ []) s.jobs j change is.jobs (λ o found job. by_open o job)
    (λ k o other job. of_apart before line k o e (none k) (fetched k) (not_last j k (last_mover (this_epoch before)) mover other) job)
  where
    by_open : (o : Option Open) → IsJobOf before j o → IsJobOf (before ++ line ∷ []) j (change_of change o)
    by_open None gone = gone_still before line j e (none j) (fetched j) gone
    by_open (Some o) job = own j o job (is_last j (last_mover (this_epoch before)) mover)

-- ---- a reply
pub record IsAnswered (jobs : List (ℕ × Open)) (k : ℕ) : Type 0 where
  pub job : Open
  pub is : job_at jobs k ≡ Some job
  pub ended : is_some (due job) ≡ true

like_some : (early gave : Bool) (row : List ℕ) (words : Option (List ℕ)) → (early && is_like 2 row words && gave) ≡ true → is_some words ≡ true
like_some early gave row (Some words) e = refl
like_some true gave row None e = absurd (cc)
like_some false gave row None e = absurd (cc)

pub answered_found : (before : List Line) (s : JobState) (k : ℕ) → AreJobs before s.jobs → job_answered s ≡ Some k → IsAnswered s.jobs k
answered_found before s k are e = by_row s.replies.pushed e
  where
    by_held : (row : List ℕ) (o : Open) → o.number ≡ k → IsHeld (answers s.kept (is_persistent s.published) s.replies.rows row) s.jobs o → IsAnswered s.jobs k
    by_held row o named held =
        let job : IsJob before held.key o = subst (IsJobOf before held.key) held.is (are.each held.key) in
        let same : held.key ≡ k = sym job.number ∙ named in
        record {
          job = o;
          is = subst (λ (n : ℕ). job_at s.jobs n ≡ Some o) same held.is;
          ended = like_some (is_early s.replies.rows o.ended) (has_unmapped s.kept (is_persistent s.published) o.number) row (due o) held.passes;
        }

    by_found : (row : List ℕ) (o : Option Open) → find (answers s.kept (is_persistent s.published) s.replies.rows row) (values_of s.jobs) ≡ o → option_map (λ (x : Open). x.number) o ≡ Some k → IsAnswered s.jobs k
    by_found row None found h = absurd (cc)
    by_found row (Some o) found h = by_held row o (cc) (found_value (answers s.kept (is_persistent s.published) s.replies.rows row) 0 s.jobs o are.rising found)

    by_row : (pushed : Option (List ℕ)) → answered_by s.kept (is_persistent s.published) s.replies.rows (values_of s.jobs) pushed ≡ Some k → IsAnswered s.jobs k
    by_row None h = absurd (cc)
    by_row (Some row) h = by_found row (find (answers s.kept (is_persistent s.published) s.replies.rows row) (values_of s.jobs)) refl h

reply_seen : (before : List Line) (line : Line) (s : JobState) (answered : Option ℕ) → IsSeen before s → job_answered s ≡ answered → ((k : ℕ) (o : Option Open) → IsJobOf before k o → IsJobOf (before ++ line ∷ []) k o)
    → AreJobs (before ++ line ∷ []) (without_job (record s { replies = after_other s.replies }) answered).jobs
reply_seen before line s None is e still = jobs_still before (before ++ line ∷ []) s.jobs is.jobs still
reply_seen before line s (Some k) is e still =
    let a : IsAnswered s.jobs k = answered_found before s k is.jobs e in
    let job : IsJob before k a.job = subst (IsJobOf before k) a.is (is.jobs.each k) in
    jobs_removed before (before ++ line ∷ []) s.jobs k is.jobs (still k None (closed before k a.job job a.ended)) (λ n o other j. still n o j)

-- ---- any line of an epoch
line_seen : (before : List Line) (ring : RingState) (s : JobState) (line : Line) → IsKept before ring → Sees before s → IsNew (page_made line) (this_epoch before) → is_epoch line ≡ false → IsNext before line → IsSeen (before ++ line ∷ []) (after_line ring s line)
line_seen before ring s (lines.Move move) k sees new e n = move_seen before ring s move k sees.seen sees.published new n
line_seen before ring s (lines.EffectRead id index words) k sees new e n =
    let line : Line = lines.EffectRead id index words in
    let fetched : (j : ℕ) → fetched_of (before ++ line ∷ []) j ≡ fetched_of before j = λ j. fetched_still before line j refl refl in
    let is = sees.seen in
    by_last (job_moved s.moved)
    (kept_still before line s.kept is.mappings refl (λ m. refl) refl (λ j. refl)) (fetching_still before line s.fetched s.entry is.fetching refl refl)
    (outcome_seen before line s (job_moved s.moved) (λ (o : Open). with_sector o words) is sees.last refl (λ j. refl) fetched (λ j o job own. job_given before id index words j o (fetched j) job own))
  where
    by_last : (last : Option ℕ) → IsKeptTo (before ++ lines.EffectRead id index words ∷ []) s.kept → IsFetching (before ++ lines.EffectRead id index words ∷ []) s.fetched s.entry
        → AreJobs (before ++ lines.EffectRead id index words ∷ []) (for_job (record s { replies = after_other s.replies }) last (λ (o : Open). with_sector o words)).jobs
        → IsSeen (before ++ lines.EffectRead id index words ∷ []) (for_job (record s { replies = after_other s.replies }) last (λ (o : Open). with_sector o words))
    by_last None m f j = record { mappings = m; fetching = f; jobs = j }
    by_last (Some i) m f j = record { mappings = m; fetching = f; jobs = j }
line_seen before ring s (lines.Fault id index) k sees new e n =
    let line : Line = lines.Fault id index in
    let fetched : (j : ℕ) → fetched_of (before ++ line ∷ []) j ≡ fetched_of before j = λ j. fetched_still before line j refl refl in
    let is = sees.seen in
    by_last (job_moved s.moved)
    (kept_still before line s.kept is.mappings refl (λ m. refl) refl (λ j. refl)) (fetching_still before line s.fetched s.entry is.fetching refl refl)
    (outcome_seen before line s (job_moved s.moved) (failed_by s.replies.rows) is sees.last refl (λ j. refl) fetched (λ j o job own. job_ended (before ++ line ∷ []) j (with_fault o) _ (job_failed before id index j o (fetched j) job own)))
  where
    by_last : (last : Option ℕ) → IsKeptTo (before ++ lines.Fault id index ∷ []) s.kept → IsFetching (before ++ lines.Fault id index ∷ []) s.fetched s.entry
        → AreJobs (before ++ lines.Fault id index ∷ []) (for_job (record s { replies = after_other s.replies }) last (failed_by s.replies.rows)).jobs
        → IsSeen (before ++ lines.Fault id index ∷ []) (for_job (record s { replies = after_other s.replies }) last (failed_by s.replies.rows))
    by_last None m f j = record { mappings = m; fetching = f; jobs = j }
    by_last (Some i) m f j = record { mappings = m; fetching = f; jobs = j }
line_seen before ring s (lines.Reply id status) k sees new e n =
    let line : Line = lines.Reply id status in
    let is = sees.seen in
    by_answered (job_answered s)
    (kept_still before line s.kept is.mappings refl (λ m. refl) refl (λ j. refl)) (fetching_still before line s.fetched s.entry is.fetching refl refl)
    (reply_seen before line s (job_answered s) is refl (λ j o job. of_still before line j o refl refl (fetched_still before line j refl refl) refl refl job))
  where
    by_answered : (answered : Option ℕ) → IsKeptTo (before ++ lines.Reply id status ∷ []) s.kept → IsFetching (before ++ lines.Reply id status ∷ []) s.fetched s.entry
        → AreJobs (before ++ lines.Reply id status ∷ []) (without_job (record s { replies = after_other s.replies }) answered).jobs
        → IsSeen (before ++ lines.Reply id status ∷ []) (without_job (record s { replies = after_other s.replies }) answered)
    by_answered None m f j = record { mappings = m; fetching = f; jobs = j }
    by_answered (Some i) m f j = record { mappings = m; fetching = f; jobs = j }
line_seen before ring s line k sees new e n =
    let is = sees.seen in
    record {
      mappings = kept_still before line s.kept is.mappings e (λ m. refl) refl (λ j. refl);
      fetching = fetching_still before line s.fetched s.entry is.fetching e refl;
      jobs = jobs_still before (before ++ line ∷ []) s.jobs is.jobs (λ j o job. of_still before line j o e refl (fetched_still before line j e refl) refl refl job);
    }

-- ---- a job whose move of the disk the last line is
changed_open : (jobs : List (ℕ × Open)) (k : ℕ) (change : Open → Open) (o : Option Open) → job_at jobs k ≡ o → is_some o ≡ true → is_some (job_at (changed change jobs k o) k) ≡ true
changed_open jobs k change None is e = absurd (cc)
changed_open jobs k change (Some o) is e =
    let own : (k == k) ≡ true = grind (arith, nat_tests) in
    ap (λ (x : Option Open). is_some x) (found_set k k o (change o) jobs is) ∙ rw own refl

open_of : (before : List Line) (s : JobState) (k : ℕ) (move : Move) → IsSeen before s → IsStepAt before (lines.Move move) → stepper (lines.Move move) ≡ Some k → is_some (job_at s.jobs k) ≡ true
open_of before s k move is step own = by_open (job_at s.jobs k) (is.jobs.each k)
  where
    by_open : (o : Option Open) → IsJobOf before k o → is_some o ≡ true
    by_open None gone = absurd (gone_stops before k move gone (may_of before k move step own))
    by_open (Some o) j = refl

mover_open : (before : List Line) (ring : RingState) (s : JobState) (line : Line) → IsSeen before s → IsStepAt before line → IfSome (disk_move_of line) (λ (m : DiskMove). is_some (job_at (after_line ring s line).jobs m.job) ≡ true)
mover_open before ring s (lines.Move (moves.DiskRead k sector)) is step = changed_open s.jobs k (moved_by s.replies.rows (moves.DiskRead k sector)) (job_at s.jobs k) refl (open_of before s k (moves.DiskRead k sector) is step refl)
mover_open before ring s (lines.Move (moves.DiskWrite k sector)) is step = changed_open s.jobs k (moved_by s.replies.rows (moves.DiskWrite k sector)) (job_at s.jobs k) refl (open_of before s k (moves.DiskWrite k sector) is step refl)
mover_open before ring s (lines.Move (moves.DiskFlush k)) is step = changed_open s.jobs k (moved_by s.replies.rows (moves.DiskFlush k)) (job_at s.jobs k) refl (open_of before s k (moves.DiskFlush k) is step refl)
mover_open before ring s (lines.Move (moves.DiskTrim k sector count)) is step = changed_open s.jobs k (moved_by s.replies.rows (moves.DiskTrim k sector count)) (job_at s.jobs k) refl (open_of before s k (moves.DiskTrim k sector count) is step refl)
mover_open before ring s line is step = tt

-- ---- one line further
epoch_moves : (line : Line) → is_epoch line ≡ true → disk_move_of line ≡ None
epoch_moves lines.Epoch e = refl
epoch_moves line e = absurd (cc)

sees_anew : (before : List Line) (line : Line) (s : JobState) → Sees before s → AreMade (before ++ line ∷ []) → is_epoch line ≡ true → Sees (before ++ line ∷ []) (begun_with (published_after s.published line))
sees_anew before line s sees made e =
    let none : this_epoch (before ++ line ∷ []) ≡ [] = anew before line e in
    record {
      made = made;
      published = published_more before line s.published sees.published;
      seen = record {
        mappings = kept_anew before line e;
        fetching = fetching_anew before line e;
        jobs = record { rising = tt; each = λ k. gone_anew (before ++ line ∷ []) k none (fetched_anew before line k e) };
      };
      shown = sym (shown_more before line ∙ epoch_moves line e);
      last = sym (ap last_mover none);
      mover = tt;
    }

sees_further : (before : List Line) (ring : RingState) (line : Line) (s : JobState) → IsKept before ring → Sees before s → AreMade (before ++ line ∷ []) → IsNew (page_made line) (this_epoch before) → is_epoch line ≡ false → IsNext before line
    → Sees (before ++ line ∷ []) (record (after_line ring s line) { published = published_after s.published line; moved = disk_move_of line })
sees_further before ring line s k sees made new e n =
    let is : IsSeen (before ++ line ∷ []) (after_line ring s line) = line_seen before ring s line k sees new e n in
    record {
      made = made;
      published = published_more before line s.published sees.published;
      seen = record { mappings = is.mappings; fetching = is.fetching; jobs = is.jobs };
      shown = sym (shown_more before line);
      last = mover_is line ∙ sym (ap last_mover (longer before line e) ∙ mover_more (this_epoch before) line);
      mover = mover_open before ring s line sees.seen n.step;
    }

pub sees_next : (before : List Line) (ring : RingState) (line : Line) (s : JobState) → IsKept before ring → Sees before s → IsNext before line → Sees (before ++ line ∷ []) (seen ring s line)
sees_next before ring line s k sees n = by_epoch (is_epoch line) refl (made_next before line sees.made n.touch) (new_page before line sees.made n.answer)
  where
    by_epoch : (b : Bool) → is_epoch line ≡ b → AreMade (before ++ line ∷ []) → IsNew (page_made line) (this_epoch before)
        → Sees (before ++ line ∷ []) (if b then begun_with (published_after s.published line) else record (after_line ring s line) { published = published_after s.published line; moved = disk_move_of line })
    by_epoch true e made new = sees_anew before line s sees made e
    by_epoch false e made new = sees_further before ring line s k sees made new e n

pub sees_none : Sees [] no_lines
sees_none = record {
  made = none_made;
  published = published_none;
  seen = record { mappings = kept_none; fetching = fetching_none; jobs = record { rising = tt; each = λ k. gone_anew [] k refl (no_job k) } };
  shown = refl;
  last = refl;
  mover = tt;
}

-- ---- all lines
pub jobs_more : (before : List Line) (line : Line) → jobs_after (before ++ line ∷ []) ≡ seen (state_of before) (jobs_after before) line
jobs_more before line = rw (reverse-append before (line ∷ []), reverse-reverse before) refl

pub followed_before : (before later : List Line) → AreFollowed (before ++ later) → AreFollowed before
followed_before before later f = record {
  touched = record { touches = obeys_before IsTouchAt before later f.touched.touches; answers = obeys_before IsMapAnswerAt before later f.touched.answers };
  steps = obeys_before IsStepAt before later f.steps;
}

sees_from : (before later : List Line) → AreFollowed (before ++ later) → Sees before (jobs_after before) → Sees (before ++ later) (jobs_after (before ++ later))
sees_from before [] f sees = subst (λ (xs : List Line). Sees xs (jobs_after xs)) (sym (append-nil before)) sees
sees_from before (line ∷ later) f sees =
    let joined : (before ++ line ∷ []) ++ later ≡ before ++ line ∷ later = append_assoc before (line ∷ []) later in
    let kept : IsKept before (state_of before) = kept_all before (followed_before before (line ∷ later) f).touched in
    let n : IsNext before line = record {
      touch = f.touched.touches before later line refl;
      answer = f.touched.answers before later line refl;
      step = f.steps before later line refl;
    } in
    let next : Sees (before ++ line ∷ []) (jobs_after (before ++ line ∷ [])) = subst (λ (s : JobState). Sees (before ++ line ∷ []) s) (sym (jobs_more before line)) (sees_next before (state_of before) line (jobs_after before) kept sees n) in
    subst (λ (xs : List Line). Sees xs (jobs_after xs)) joined (sees_from (before ++ line ∷ []) later (subst (λ (xs : List Line). AreFollowed xs) (sym joined) f) next)

pub sees_all : (before : List Line) → AreFollowed before → Sees before (jobs_after before)
sees_all before f = sees_from [] before f sees_none
