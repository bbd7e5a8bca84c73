-- What one line of an epoch makes of all jobs.
use Rattle.std.proofs.Common.{◌≡◌, ℕ, ◌+◌, Bool, true, false, if◌then◌else◌, List, [], ◌∷◌, ◌++◌, refl, ap, sym, ◌∙◌, subst}
use Rattle.std.specs.Prelude.{Option, Some, None, is_some}
use Rattle.blk_base.specs.declared.moves.BackMover.TheVariants as back
use Rattle.blk_base.specs.declared.moves.Move.{Move}
use Rattle.blk_base.specs.declared.moves.Move.TheVariants as moves
use Rattle.blk_layout.specs.declared.request.RawRequest.{RawRequest}
use Rattle.blk_base.specs.declared.operation.Abi.{Abi}
use Rattle.schedule_text.specs.declared.line.Line.{Line}
use Rattle.schedule_text.specs.declared.line.Line.TheVariants as lines
use Rattle.report_rules.specs.declared.job.Fetched.{Fetched}
use Rattle.report_rules.specs.Standing.{is_epoch, this_epoch}
use Rattle.report_rules.specs.Ring.{ring_pages, ring_abi}
use Rattle.report_rules.specs.Stretch.{when, entry_of}
use Rattle.report_rules.specs.Job.{is_job, fetched_of}
use Rattle.report_rules.specs.Step.{stepper}
use Rattle.report_rules.specs.Steps.{IsStepAt}
use Rattle.report_rules.specs.Reply.{is_event, is_reply}
use Rattle.ring_check.specs.State.{RingState, word_seen, entry_word_on, entry_word_seen}
use Rattle.ring_check.specs.Kept.{IsKept}
use Rattle.job_check.specs.Open.{Open, opened, moved_by, failed_by, with_sector}
use Rattle.job_check.specs.Replies.{after_other}
use Rattle.job_check.specs.State.{JobState, job_at, fetched_with, fetched_by, after_step, with_kept, after_other_move, after_read, after_move, value_seen, entry_value_seen, job_moved, job_answered, without_job, for_job, after_line}
use Rattle.job_check.proofs.Telling.{last_mover}
use Rattle.job_check.proofs.Entries.{value_on, IsFetching, fetched_still, IsRead}
use Rattle.job_check.proofs.Fetches.{fetched_same, fetched_other, next_unfetched, fetched_next}
use Rattle.job_check.proofs.Changes.{IsJobOf, change_of, changed_each, opened_each, removed_each}
use Rattle.job_check.proofs.Moves.{IsSeen, may_of, not_own, pages_same, other_number}
use Rattle.job_check.proofs.Sees.{Sees, IsNext, IsAnswered, answered_found, is_last}
use Rattle.job_check.proofs.NextJobs.{NextJob, begins, ends, next_same, next_moved, next_failed, next_given}

abbrev pub AllNext : List Line → Line → ℕ → List (ℕ × Open) → List (ℕ × Open) → Type 0
AllNext before line rows old new = (k : ℕ) → NextJob before line rows k (job_at old k) (job_at new k)

all_same : (before : List Line) (line : Line) (rows : ℕ) (jobs : List (ℕ × Open)) → ((k : ℕ) → is_job k (stepper line) ≡ false) → ((k : ℕ) → fetched_of (before ++ line ∷ []) k ≡ fetched_of before k) → AllNext before line rows jobs jobs
all_same before line rows jobs none same k = next_same before line rows k (job_at jobs k) (none k) (same k)

-- the jobs, each as it was
abbrev Was : List (ℕ × Open) → ℕ → Option Open → Type 0
Was jobs k o = o ≡ job_at jobs k

abbrev Becomes : List Line → Line → ℕ → List (ℕ × Open) → ℕ → Option Open → Type 0
Becomes before line rows jobs k o = NextJob before line rows k (job_at jobs k) o

other_same : (before : List Line) (line : Line) (rows : ℕ) (jobs : List (ℕ × Open)) (k : ℕ) (o : Option Open) → is_job k (stepper line) ≡ false → fetched_of (before ++ line ∷ []) k ≡ fetched_of before k → Was jobs k o → Becomes before line rows jobs k o
other_same before line rows jobs k o other same was = subst (λ (w : Option Open). NextJob before line rows k w o) was (next_same before line rows k o other same)

-- ---- moves
other_next : (before : List Line) (s : JobState) (move : Move) → IsSeen before s → is_some (value_on (ring_pages before) (lines.Move move)) ≡ false → IsStepAt before (lines.Move move)
    → AllNext before (lines.Move move) s.replies.rows s.jobs (after_other_move s move).jobs
other_next before s move is unread step = by_stepper (stepper (lines.Move move)) refl
  where
    same : (k : ℕ) → fetched_of (before ++ lines.Move move ∷ []) k ≡ fetched_of before k
    same k = fetched_still before (lines.Move move) k refl unread

    own : (k : ℕ) (o : Option Open) → stepper (lines.Move move) ≡ Some k → job_at s.jobs k ≡ o → Becomes before (lines.Move move) s.replies.rows s.jobs k (change_of (moved_by s.replies.rows move) o)
    own k o by found =
        let job : IsJobOf before k o = subst (IsJobOf before k) found (is.jobs.each k) in
        subst (λ (w : Option Open). NextJob before (lines.Move move) s.replies.rows k w (change_of (moved_by s.replies.rows move) o)) (sym found) (next_moved before s.replies.rows k move o job (may_of before k move step by) (same k))

    by_stepper : (o : Option ℕ) → stepper (lines.Move move) ≡ o → AllNext before (lines.Move move) s.replies.rows s.jobs (after_step (with_kept (record s { replies = after_other s.replies }) move) o move).jobs
    by_stepper None by = all_same before (lines.Move move) s.replies.rows s.jobs (λ k. ap (is_job k) by) same
    by_stepper (Some j) by =
        changed_each (Was s.jobs) (Becomes before (lines.Move move) s.replies.rows s.jobs) s.jobs j (moved_by s.replies.rows move) (λ k. refl) (λ o found was. own j o by found)
        (λ k o other was. other_same before (lines.Move move) s.replies.rows s.jobs k o (not_own j k (stepper (lines.Move move)) by other) (same k) was)

unopened : (before : List Line) (fetched : ℕ) (entry : List ℕ) (o : Option Open) → IsFetching before fetched entry → IsJobOf before (fetched + 1) o → o ≡ None
unopened before fetched entry None is gone = refl
unopened before fetched entry (Some o) is j = absurd (let none = next_unfetched before fetched entry is in let some = j.fetched in cc)

word_next : (before : List Line) (s : JobState) (number frame word value : ℕ) (request : Option RawRequest) → IsSeen before s → IsRead before (lines.Move (moves.Read back.Back number frame word value)) value
    → entry_of (ring_abi before) (s.entry ++ value ∷ []) ≡ request → AllNext before (lines.Move (moves.Read back.Back number frame word value)) s.replies.rows s.jobs (fetched_by s (s.entry ++ value ∷ []) request).jobs
word_next before s number frame word value None is read part =
    let line : Line = lines.Move (moves.Read back.Back number frame word value) in
    all_same before line s.replies.rows s.jobs (λ k. refl) (λ k. fetched_same before line value s.fetched s.entry k is.fetching read part)
word_next before s number frame word value (Some request) is read whole =
    let line : Line = lines.Move (moves.Read back.Back number frame word value) in
    let none : job_at s.jobs (s.fetched + 1) ≡ None = unopened before s.fetched s.entry (job_at s.jobs (s.fetched + 1)) is.fetching (is.jobs.each (s.fetched + 1)) in
    opened_each (Was s.jobs) (Becomes before line s.replies.rows s.jobs) s.jobs (s.fetched + 1) (opened s.replies.rows (s.fetched + 1) (fetched_with s request)) (λ k. refl)
    (begins (opened s.replies.rows (s.fetched + 1) (fetched_with s request)) none refl refl (next_unfetched before s.fetched s.entry is.fetching)
    (ap (λ (o : Option Fetched). is_some o) (fetched_next before line value s.fetched s.entry request is.fetching read whole)))
    (λ k o other was. other_same before line s.replies.rows s.jobs k o refl (fetched_other before line value s.fetched s.entry request k is.fetching read whole (other_number (s.fetched + 1) k other)) was)

read_next : (before : List Line) (ring : RingState) (s : JobState) (number frame word value : ℕ) → IsKept before ring → IsSeen before s
    → AllNext before (lines.Move (moves.Read back.Back number frame word value)) s.replies.rows s.jobs (after_read ring s (moves.Read back.Back number frame word value) (entry_value_seen ring (lines.Move (moves.Read back.Back number frame word value)))).jobs
read_next before ring s number frame word value k is =
    by_word (is_some (entry_word_seen ring (lines.Move (moves.Read back.Back number frame word value)))) refl
  where
    reads : is_some (entry_word_seen ring (lines.Move (moves.Read back.Back number frame word value))) ≡ is_some (entry_word_on (ring_pages before) (lines.Move (moves.Read back.Back number frame word value)))
    reads = ap (λ (o : Option ℕ). is_some o) (pages_same before ring (lines.Move (moves.Read back.Back number frame word value)) k)

    by_word : (b : Bool) → is_some (entry_word_seen ring (lines.Move (moves.Read back.Back number frame word value))) ≡ b
        → AllNext before (lines.Move (moves.Read back.Back number frame word value)) s.replies.rows s.jobs (after_read ring s (moves.Read back.Back number frame word value) (if b then Some value else None)).jobs
    by_word false e =
        let unread : is_some (value_on (ring_pages before) (lines.Move (moves.Read back.Back number frame word value))) ≡ false = ap (λ (b : Bool). is_some (when b value)) (sym reads ∙ e) in
        other_next before s (moves.Read back.Back number frame word value) is unread tt
    by_word true e =
        let shown : value_on (ring_pages before) (lines.Move (moves.Read back.Back number frame word value)) ≡ Some value = ap (λ (b : Bool). when b value) (sym reads ∙ e) in
        let read : IsRead before (lines.Move (moves.Read back.Back number frame word value)) value = record { same = refl; shows = shown } in
        subst (λ (o : Option RawRequest). AllNext before (lines.Move (moves.Read back.Back number frame word value)) s.replies.rows s.jobs (fetched_by (record s { replies = after_other s.replies }) (s.entry ++ value ∷ []) o).jobs)
        (ap (λ (a : Option Abi). entry_of a (s.entry ++ value ∷ [])) (sym k.abi))
        (word_next before (record s { replies = after_other s.replies }) number frame word value (entry_of (ring_abi before) (s.entry ++ value ∷ [])) (record { mappings = is.mappings; fetching = is.fetching; jobs = is.jobs }) read refl)

write_next : (before : List Line) (ring : RingState) (s : JobState) (number frame word value : ℕ) → IsSeen before s
    → AllNext before (lines.Move (moves.Write back.Back number frame word value)) s.replies.rows s.jobs (after_move ring s (moves.Write back.Back number frame word value) (value_seen ring (lines.Move (moves.Write back.Back number frame word value)))).jobs
write_next before ring s number frame word value is = by_event (is_event (word_seen ring number word))
  where
    same : AllNext before (lines.Move (moves.Write back.Back number frame word value)) s.replies.rows s.jobs s.jobs
    same = all_same before (lines.Move (moves.Write back.Back number frame word value)) s.replies.rows s.jobs (λ k. refl) (λ k. fetched_still before (lines.Move (moves.Write back.Back number frame word value)) k refl refl)

    by_event : (b : Bool) → AllNext before (lines.Move (moves.Write back.Back number frame word value)) s.replies.rows s.jobs (after_move ring s (moves.Write back.Back number frame word value) (if b then None else Some value)).jobs
    by_event true = same
    by_event false = same

move_next : (before : List Line) (ring : RingState) (s : JobState) (move : Move) → IsKept before ring → IsSeen before s → IsNext before (lines.Move move) → AllNext before (lines.Move move) s.replies.rows s.jobs (after_move ring s move (value_seen ring (lines.Move move))).jobs
move_next before ring s (moves.Read back.Back number frame word value) k is n = read_next before ring s number frame word value k is
move_next before ring s (moves.Write back.Back number frame word value) k is n = write_next before ring s number frame word value is
move_next before ring s move k is n = other_next before s move is refl n.step

-- ---- outcomes
outcome_next : (before : List Line) (line : Line) (s : JobState) (last : Option ℕ) (change : Open → Open) → last ≡ last_mover (this_epoch before) → ((k : ℕ) → is_job k (stepper line) ≡ false) → ((k : ℕ) → fetched_of (before ++ line ∷ []) k ≡ fetched_of before k)
    → ((k : ℕ) (o : Option Open) → is_job k (last_mover (this_epoch before)) ≡ true → NextJob before line s.replies.rows k o (change_of change o)) → AllNext before line s.replies.rows s.jobs (for_job (record s { replies = after_other s.replies }) last change).jobs
outcome_next before line s None change mover none same own = all_same before line s.replies.rows s.jobs none same
outcome_next before line s (Some j) change mover none same own =
    changed_each (Was s.jobs) (Becomes before line s.replies.rows s.jobs) s.jobs j change (λ k. refl)
    (λ o found was. subst (λ (w : Option Open). NextJob before line s.replies.rows j w (change_of change o)) (sym found) (own j o (is_last j (last_mover (this_epoch before)) mover)))
    (λ k o other was. other_same before line s.replies.rows s.jobs k o (none k) (same k) was)

-- ---- a reply
reply_next : (before : List Line) (line : Line) (s : JobState) (reply : Option ℕ) → IsSeen before s → job_answered s ≡ reply → is_reply line ≡ true → ((k : ℕ) → is_job k (stepper line) ≡ false) → ((k : ℕ) → fetched_of (before ++ line ∷ []) k ≡ fetched_of before k)
    → AllNext before line s.replies.rows s.jobs (without_job (record s { replies = after_other s.replies }) reply).jobs
reply_next before line s None is e told none same = all_same before line s.replies.rows s.jobs none same
reply_next before line s (Some j) is e told none same =
    let a : IsAnswered s.jobs j = answered_found before s j is.jobs e in
    removed_each (Was s.jobs) (Becomes before line s.replies.rows s.jobs) s.jobs j is.jobs.rising (λ k. refl) (ends a.job a.is refl told (same j))
    (λ k o other was. other_same before line s.replies.rows s.jobs k o (none k) (same k) was)

-- ---- any line of an epoch
pub line_next : (before : List Line) (ring : RingState) (s : JobState) (line : Line) → IsKept before ring → Sees before s → is_epoch line ≡ false → IsNext before line → AllNext before line s.replies.rows s.jobs (after_line ring s line).jobs
line_next before ring s (lines.Move move) k sees e n = move_next before ring s move k sees.seen n
line_next before ring s (lines.EffectRead id index words) k sees e n =
    let line : Line = lines.EffectRead id index words in
    let same : (j : ℕ) → fetched_of (before ++ line ∷ []) j ≡ fetched_of before j = λ j. fetched_still before line j refl refl in
    outcome_next before line s (job_moved s.moved) (λ (o : Open). with_sector o words) sees.last (λ j. refl) same (λ j o own. next_given before id index s.replies.rows j words o (same j))
line_next before ring s (lines.Fault id index) k sees e n =
    let line : Line = lines.Fault id index in
    let same : (j : ℕ) → fetched_of (before ++ line ∷ []) j ≡ fetched_of before j = λ j. fetched_still before line j refl refl in
    outcome_next before line s (job_moved s.moved) (failed_by s.replies.rows) sees.last (λ j. refl) same (λ j o own. next_failed before id index s.replies.rows j o own (same j))
line_next before ring s (lines.Reply id status) k sees e n =
    let line : Line = lines.Reply id status in
    reply_next before line s (job_answered s) sees.seen refl refl (λ j. refl) (λ j. fetched_still before line j refl refl)
line_next before ring s line k sees e n = all_same before line s.replies.rows s.jobs (λ j. refl) (λ j. fetched_still before line j e refl)
