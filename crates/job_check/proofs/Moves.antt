-- What a move changes of what is kept is what it changes of what the lines say.
use Rattle.std.proofs.Common.{◌≡◌, ℕ, ◌+◌, ◌==◌, Bool, true, false, if◌then◌else◌, List, [], ◌∷◌, ◌++◌, refl, ap, sym, ◌∙◌, subst, arith}
use Rattle.std.specs.Prelude.{Option, Some, None, is_some, IfSome}
use Rattle.std.proofs.lemmas.Bool.Decides.{nat_tests}
use Rattle.blk_base.specs.declared.moves.BackMover.TheVariants as back
use Rattle.blk_base.specs.declared.moves.Move.{Move}
use Rattle.blk_base.specs.declared.moves.Move.TheVariants as moves
use Rattle.blk_layout.specs.declared.request.RawRequest.{RawRequest}
use Rattle.blk_base.specs.declared.operation.Abi.{Abi}
use Rattle.report_rules.specs.declared.job.Fetched.{Fetched}
use Rattle.job_check.specs.Replies.{after_other}
use Rattle.schedule_text.specs.declared.line.Line.{Line}
use Rattle.schedule_text.specs.declared.line.Line.TheVariants as lines
use Rattle.report_rules.specs.declared.standing.Standing.{Standing}
use Rattle.report_rules.specs.Standing.{is_epoch, this_epoch}
use Rattle.report_rules.specs.Mapped.{IsMapAnswerAt}
use Rattle.report_rules.specs.Ring.{ring_pages, ring_abi, ring_shape}
use Rattle.report_rules.specs.Stretch.{when, entry_of}
use Rattle.report_rules.specs.Job.{is_job, fetched_of}
use Rattle.report_rules.specs.Step.{stepper}
use Rattle.report_rules.specs.Steps.{IsStepAt}
use Rattle.report_rules.specs.Reply.{is_event}
use Rattle.ring_check.specs.State.{RingState, shape_seen, word_seen, entry_word_on, entry_word_seen}
use Rattle.ring_check.specs.Kept.{IsKept}
use Rattle.job_check.specs.Kept.{Kept}
use Rattle.job_check.specs.Open.{Open, stepped, moved_by, opened}
use Rattle.job_check.specs.State.{JobState, job_at, fetched_with, fetched_by, after_step, kept_after, with_kept, after_other_move, after_read, value_seen, entry_value_seen, after_move}
use Rattle.job_check.proofs.Mappings.{IsKeptTo, kept_still, kept_unmapped, kept_mapped}
use Rattle.job_check.proofs.Entries.{value_on, IsFetching, fetched_still, fetching_still, IsRead}
use Rattle.job_check.proofs.Fetches.{fetched_same, fetching_part, fetched_other, next_unfetched, fetched_next, fetching_whole}
use Rattle.job_check.proofs.Publishing.{IsPublished, fetched_is}
use Rattle.job_check.proofs.Telling.{has_step}
use Rattle.job_check.proofs.Jobs.{IsJob, MayStep, gone_stops}
use Rattle.job_check.proofs.JobLines.{job_read, job_disk, job_other}
use Rattle.job_check.proofs.Followed.{job_begun, job_ended}
use Rattle.job_check.proofs.Changes.{IsJobOf, AreJobs, change_of, of_still, jobs_still, jobs_changed, jobs_opened}

-- the mappings, the entry and the jobs are those of these lines
pub record IsSeen (before : List Line) (s : JobState) : Type 0 where
  pub mappings : IsKeptTo before s.kept
  pub fetching : IsFetching before s.fetched s.entry
  pub jobs : AreJobs before s.jobs

-- ---- mappings
pub mappings_moved : (before : List Line) (move : Move) (kept : Kept) → IsKeptTo before kept → is_epoch (lines.Move move) ≡ false → IsMapAnswerAt before (lines.Move move) → IsKeptTo (before ++ lines.Move move ∷ []) (kept_after kept move)
mappings_moved before (moves.Map (back.Job k) gref mode number frame) kept is e answer = kept_mapped before k gref number frame mode kept is answer.1
mappings_moved before (moves.Unmap who number) kept is e answer = kept_unmapped before who number kept is
mappings_moved before move kept is e answer = kept_still before (lines.Move move) kept is e (λ n. refl) refl (λ k. refl)

-- ---- a step of an open job
job_stepped : (before : List Line) (k : ℕ) (move : Move) (o : Open) → fetched_of (before ++ lines.Move move ∷ []) k ≡ fetched_of before k → IsJob before k o → MayStep before k move → stepper (lines.Move move) ≡ Some k → IsJob (before ++ lines.Move move ∷ []) k (stepped o move)
job_stepped before k (moves.Read who number frame word value) o fetched j may own = job_read before k who number frame word value o fetched j may own
job_stepped before k (moves.Write who number frame word value) o fetched j may own = job_other before k (moves.Write who number frame word value) o fetched j may own refl refl refl
job_stepped before k (moves.DiskRead job sector) o fetched j may own = job_disk before k (moves.DiskRead job sector) o fetched j may own refl refl own
job_stepped before k (moves.DiskWrite job sector) o fetched j may own = job_disk before k (moves.DiskWrite job sector) o fetched j may own refl refl own
job_stepped before k (moves.DiskFlush job) o fetched j may own = job_disk before k (moves.DiskFlush job) o fetched j may own refl refl own
job_stepped before k (moves.DiskTrim job sector count) o fetched j may own = job_disk before k (moves.DiskTrim job sector count) o fetched j may own refl refl own
job_stepped before k move o fetched j may own = job_other before k move o fetched j may own refl refl refl

pub may_of : (before : List Line) (k : ℕ) (move : Move) → IsStepAt before (lines.Move move) → stepper (lines.Move move) ≡ Some k → MayStep before k move
may_of before k move step own = subst (λ (o : Option ℕ). IfSome o (λ (j : ℕ). MayStep before j move)) own step

pub not_own : (j k : ℕ) (o : Option ℕ) → o ≡ Some j → (j == k) ≡ false → is_job k o ≡ false
not_own j k o is e = ap (is_job k) is ∙ e

-- a move that reads no word of an entry
pub other_moved : (before : List Line) (s : JobState) (move : Move) → IsSeen before s → is_some (value_on (ring_pages before) (lines.Move move)) ≡ false
    → IsMapAnswerAt before (lines.Move move) → IsStepAt before (lines.Move move) → IsSeen (before ++ lines.Move move ∷ []) (after_other_move s move)
other_moved before s move is unread answer step = by_stepper (stepper (lines.Move move)) refl
  where
    line : Line
    line = lines.Move move

    after : List Line
    after = before ++ lines.Move move ∷ []

    fetched : (k : ℕ) → fetched_of (before ++ lines.Move move ∷ []) k ≡ fetched_of before k
    fetched k = fetched_still before (lines.Move move) k refl unread

    mappings : IsKeptTo (before ++ lines.Move move ∷ []) (kept_after s.kept move)
    mappings = mappings_moved before move s.kept is.mappings refl answer

    fetching : IsFetching (before ++ lines.Move move ∷ []) s.fetched s.entry
    fetching = fetching_still before (lines.Move move) s.fetched s.entry is.fetching refl unread

    own : (k : ℕ) (o : Option Open) → stepper (lines.Move move) ≡ Some k → IsJobOf before k o → IsJobOf (before ++ lines.Move move ∷ []) k (change_of (moved_by s.replies.rows move) o)
    own k None by gone = absurd (gone_stops before k move gone (may_of before k move step by))
    own k (Some o) by j = job_ended (before ++ lines.Move move ∷ []) k (stepped o move) _ (job_stepped before k move o (fetched k) j (may_of before k move step by) by)

    by_stepper : (o : Option ℕ) → stepper (lines.Move move) ≡ o → IsSeen (before ++ lines.Move move ∷ []) (after_step (with_kept (record s { replies = after_other s.replies }) move) o move)
    by_stepper None by = record {
      mappings = mappings;
      fetching = fetching;
      jobs = jobs_still before (before ++ lines.Move move ∷ []) s.jobs is.jobs (λ k o j. of_still before (lines.Move move) k o refl (ap (is_job k) by) (fetched k) refl refl j);
    }
    by_stepper (Some k) by = record {
      mappings = mappings;
      fetching = fetching;
      jobs = jobs_changed before (before ++ lines.Move move ∷ []) s.jobs k (moved_by s.replies.rows move) is.jobs (λ o found j. own k o by j)
          (λ n o other j. of_still before (lines.Move move) n o refl (not_own k n (stepper (lines.Move move)) by other) (fetched n) refl refl j);
    }

-- ---- a word of an entry
-- the job that is fetched next made no step yet
idle_next : (before : List Line) (fetched : ℕ) (entry : List ℕ) (o : Option Open) → IsFetching before fetched entry → IsJobOf before (fetched + 1) o → has_step (fetched + 1) (this_epoch before) ≡ false
idle_next before fetched entry None is gone = gone.idle (next_unfetched before fetched entry is)
idle_next before fetched entry (Some o) is j = absurd (let none = next_unfetched before fetched entry is in let some = j.fetched in cc)

pub other_number : (n k : ℕ) → (n == k) ≡ false → (k == n) ≡ false
other_number n k e = grind (arith, nat_tests)

word_taken : (before : List Line) (s : JobState) (number frame word value : ℕ) (request : Option RawRequest) → IsSeen before s → IsPublished before s.published → IsRead before (lines.Move (moves.Read back.Back number frame word value)) value
    → entry_of (ring_abi before) (s.entry ++ value ∷ []) ≡ request → IsSeen (before ++ lines.Move (moves.Read back.Back number frame word value) ∷ []) (fetched_by s (s.entry ++ value ∷ []) request)
word_taken before s number frame word value None is published read part =
    let line : Line = lines.Move (moves.Read back.Back number frame word value) in
    record {
      mappings = kept_still before line s.kept is.mappings refl (λ n. refl) refl (λ k. refl);
      fetching = fetching_part before line value s.fetched s.entry is.fetching read part;
      jobs = jobs_still before (before ++ line ∷ []) s.jobs is.jobs (λ k o j. of_still before line k o refl refl (fetched_same before line value s.fetched s.entry k is.fetching read part) refl refl j);
    }
word_taken before s number frame word value (Some request) is published read whole =
    let line : Line = lines.Move (moves.Read back.Back number frame word value) in
    let after : List Line = before ++ line ∷ [] in
    let same : fetched_of after (s.fetched + 1) ≡ Some (fetched_with s request) =
    fetched_next before line value s.fetched s.entry request is.fetching read whole ∙ ap (λ (f : Fetched). Some f) (fetched_is before s.published request published) in
    record {
      mappings = kept_still before line s.kept is.mappings refl (λ n. refl) refl (λ k. refl);
      fetching = fetching_whole before line value s.fetched s.entry request is.fetching read whole;
      jobs = jobs_opened before after s.jobs (s.fetched + 1) (opened s.replies.rows (s.fetched + 1) (fetched_with s request)) is.jobs
          (job_ended after (s.fetched + 1) _ _ (job_begun before line (s.fetched + 1) (fetched_with s request) refl refl (idle_next before s.fetched s.entry (job_at s.jobs (s.fetched + 1)) is.fetching (is.jobs.each (s.fetched + 1))) same))
          (λ k o other j. of_still before line k o refl refl (fetched_other before line value s.fetched s.entry request k is.fetching read whole (other_number (s.fetched + 1) k other)) refl refl j);
    }

-- ---- all moves
-- the word that is shown is that of the ring's pages
pub pages_same : (before : List Line) (ring : RingState) (line : Line) → IsKept before ring → entry_word_seen ring line ≡ entry_word_on (ring_pages before) line
pages_same before ring line k = ap (λ (ps : List Standing). entry_word_on ps line) k.pages

pub shape_same : (before : List Line) (ring : RingState) → IsKept before ring → shape_seen ring ≡ ring_shape before
shape_same before ring k = rw (k.abi, k.pages) refl

pub read_moved : (before : List Line) (ring : RingState) (s : JobState) (number frame word value : ℕ) → IsKept before ring → IsSeen before s → IsPublished before s.published
    → IsSeen (before ++ lines.Move (moves.Read back.Back number frame word value) ∷ []) (after_read ring s (moves.Read back.Back number frame word value) (entry_value_seen ring (lines.Move (moves.Read back.Back number frame word value))))
read_moved before ring s number frame word value k is published =
    by_word (is_some (entry_word_seen ring (lines.Move (moves.Read back.Back number frame word value)))) refl
  where
    line : Line
    line = lines.Move (moves.Read back.Back number frame word value)

    reads : is_some (entry_word_seen ring (lines.Move (moves.Read back.Back number frame word value))) ≡ is_some (entry_word_on (ring_pages before) (lines.Move (moves.Read back.Back number frame word value)))
    reads = ap (λ (o : Option ℕ). is_some o) (pages_same before ring (lines.Move (moves.Read back.Back number frame word value)) k)

    seen_now : JobState
    seen_now = record s { replies = after_other s.replies }

    by_word : (b : Bool) → is_some (entry_word_seen ring (lines.Move (moves.Read back.Back number frame word value))) ≡ b
        → IsSeen (before ++ lines.Move (moves.Read back.Back number frame word value) ∷ []) (after_read ring s (moves.Read back.Back number frame word value) (if b then Some value else None))
    by_word false e =
        let unread : is_some (value_on (ring_pages before) (lines.Move (moves.Read back.Back number frame word value))) ≡ false = ap (λ (b : Bool). is_some (when b value)) (sym reads ∙ e) in
        other_moved before s (moves.Read back.Back number frame word value) is unread tt tt
    by_word true e =
        let shown : value_on (ring_pages before) (lines.Move (moves.Read back.Back number frame word value)) ≡ Some value = ap (λ (b : Bool). when b value) (sym reads ∙ e) in
        let read : IsRead before (lines.Move (moves.Read back.Back number frame word value)) value = record { same = refl; shows = shown } in
        subst (λ (o : Option RawRequest). IsSeen (before ++ lines.Move (moves.Read back.Back number frame word value) ∷ []) (fetched_by (record s { replies = after_other s.replies }) (s.entry ++ value ∷ []) o))
        (ap (λ (a : Option Abi). entry_of a (s.entry ++ value ∷ [])) (sym k.abi))
        (word_taken before (record s { replies = after_other s.replies }) number frame word value (entry_of (ring_abi before) (s.entry ++ value ∷ [])) (record { mappings = is.mappings; fetching = is.fetching; jobs = is.jobs }) published read refl)

pub write_moved : (before : List Line) (ring : RingState) (s : JobState) (number frame word value : ℕ) → IsSeen before s
    → IsSeen (before ++ lines.Move (moves.Write back.Back number frame word value) ∷ []) (after_move ring s (moves.Write back.Back number frame word value) (value_seen ring (lines.Move (moves.Write back.Back number frame word value))))
write_moved before ring s number frame word value is = by_event (is_event (word_seen ring number word))
  where
    quiet : IsSeen (before ++ lines.Move (moves.Write back.Back number frame word value) ∷ []) (after_other_move s (moves.Write back.Back number frame word value))
    quiet = other_moved before s (moves.Write back.Back number frame word value) is refl tt tt

    by_event : (b : Bool) → IsSeen (before ++ lines.Move (moves.Write back.Back number frame word value) ∷ []) (after_move ring s (moves.Write back.Back number frame word value) (if b then None else Some value))
    by_event true = quiet
    by_event false = record { mappings = quiet.mappings; fetching = quiet.fetching; jobs = record { rising = quiet.jobs.rising; each = quiet.jobs.each } }
