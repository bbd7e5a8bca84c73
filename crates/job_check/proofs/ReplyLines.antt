-- What is kept of replies, one line further.
use Rattle.std.proofs.Common.{◌≡◌, ℕ, suc, ◌+◌, ◌==◌, ◌&&◌, ◌||◌, not, Bool, true, false, cond, if◌then◌else◌, List, [], ◌∷◌, ◌++◌, length, refl, ap, sym, ◌∙◌, subst, append-nil, length-append, arith}
use Rattle.std.specs.Prelude.{nat_lt, Option, Some, None, is_some}
use Rattle.std.specs.List.{filter_map, cons_option}
use Rattle.std.specs.Option.{option_to_list}
use Rattle.std.proofs.lemmas.Bool.Decides.{nat_tests}
use Rattle.std.proofs.lemmas.List.Folds.{list_any-append}
use Rattle.blk_base.specs.declared.moves.BackMover.TheVariants as back
use Rattle.blk_base.specs.declared.operation.Status.{Status}
use Rattle.blk_base.specs.declared.moves.Move.{Move}
use Rattle.blk_base.specs.declared.moves.Move.TheVariants as moves
use Rattle.blk_layout.specs.declared.request.RawRequest.{RawRequest}
use Rattle.schedule_text.specs.declared.line.Line.{Line}
use Rattle.schedule_text.specs.declared.line.Line.TheVariants as lines
use Rattle.report_rules.specs.declared.job.Fetched.{Fetched}
use Rattle.report_rules.specs.Standing.{is_epoch, this_epoch}
use Rattle.report_rules.specs.Ring.{page_made, ring_pages}
use Rattle.report_rules.specs.Stretch.{entry_of}
use Rattle.report_rules.specs.Job.{fetched_of}
use Rattle.report_rules.specs.Step.{stepper}
use Rattle.report_rules.specs.Reply.{is_event, is_one_of, answered_in, is_reply}
use Rattle.report_rules.proofs.Prefixes.{answered_more}
use Rattle.ring_check.specs.State.{RingState, word_seen, entry_word_seen}
use Rattle.ring_check.proofs.Telling.{IsNew}
use Rattle.job_check.specs.Open.{Open, due, failed_by, with_sector}
use Rattle.job_check.specs.Replies.{Replies, after_value, after_other}
use Rattle.job_check.specs.State.{JobState, job_at, fetched_by, after_step, with_kept, after_other_move, after_read, after_move, value_seen, job_moved, job_answered, without_job, for_job, after_line}
use Rattle.job_check.proofs.Keyed.{found_removed}
use Rattle.job_check.proofs.Entries.{fetched_still}
use Rattle.job_check.proofs.Jobs.{IsJob}
use Rattle.job_check.proofs.Changes.{IsJobOf}
use Rattle.job_check.proofs.Sees.{Sees, IsAnswered, answered_found}
use Rattle.job_check.proofs.Written.{written_on, IsWritten, written_still, written_word}
use Rattle.job_check.proofs.NextJobs.{NextJob, closed_still, carried, goes_on, fails, begins, ends}
use Rattle.job_check.proofs.NextLines.{AllNext}
use Rattle.job_check.proofs.Rows.{Begun, EndedBy, ended_next}
use Rattle.job_check.proofs.Begins.{begun_more, begun_now}
use Rattle.job_check.proofs.Replying.{IsReplying, replied_is}

-- ---- the words of replies, after a line
abbrev pub replies_by : Replies → Option ℕ → Replies
replies_by r None = after_other r
replies_by r (Some value) = after_value r value

step_replies : (s : JobState) (o : Option ℕ) (move : Move) → (after_step s o move).replies ≡ s.replies
step_replies s None move = refl
step_replies s (Some k) move = refl

fetch_replies : (s : JobState) (entry : List ℕ) (request : Option RawRequest) → (fetched_by s entry request).replies ≡ s.replies
fetch_replies s entry None = refl
fetch_replies s entry (Some request) = refl

other_replies : (s : JobState) (move : Move) → (after_other_move s move).replies ≡ after_other s.replies
other_replies s move = step_replies (with_kept (record s { replies = after_other s.replies }) move) (stepper (lines.Move move)) move

move_replies : (ring : RingState) (s : JobState) (move : Move) → (after_move ring s move (value_seen ring (lines.Move move))).replies ≡ replies_by s.replies (value_seen ring (lines.Move move))
move_replies ring s (moves.Write back.Back number frame word value) = by_event (is_event (word_seen ring number word))
  where
    by_event : (b : Bool) → (after_move ring s (moves.Write back.Back number frame word value) (if b then None else Some value)).replies ≡ replies_by s.replies (if b then None else Some value)
    by_event true = other_replies s (moves.Write back.Back number frame word value)
    by_event false = refl
move_replies ring s (moves.Read back.Back number frame word value) = by_word (is_some (entry_word_seen ring (lines.Move (moves.Read back.Back number frame word value))))
  where
    by_word : (b : Bool) → (after_read ring s (moves.Read back.Back number frame word value) (if b then Some value else None)).replies ≡ after_other s.replies
    by_word true = fetch_replies (record s { replies = after_other s.replies }) (s.entry ++ value ∷ []) (entry_of ring.abi (s.entry ++ value ∷ []))
    by_word false = other_replies s (moves.Read back.Back number frame word value)
move_replies ring s move = other_replies s move

job_replies : (s : JobState) (o : Option ℕ) (change : Open → Open) → (for_job s o change).replies ≡ s.replies
job_replies s None change = refl
job_replies s (Some k) change = refl

reply_replies : (s : JobState) (o : Option ℕ) → (without_job s o).replies ≡ s.replies
reply_replies s None = refl
reply_replies s (Some k) = refl

pub line_replies : (ring : RingState) (s : JobState) (line : Line) → (after_line ring s line).replies ≡ replies_by s.replies (value_seen ring line)
line_replies ring s (lines.Move move) = move_replies ring s move
line_replies ring s (lines.EffectRead id index words) = job_replies (record s { replies = after_other s.replies }) (job_moved s.moved) (λ (o : Open). with_sector o words)
line_replies ring s (lines.Fault id index) = job_replies (record s { replies = after_other s.replies }) (job_moved s.moved) (failed_by s.replies.rows)
line_replies ring s (lines.Reply id status) = reply_replies (record s { replies = after_other s.replies }) (job_answered s)
line_replies ring s line = refl

-- a line that writes a word changes no job
pub write_jobs : (ring : RingState) (s : JobState) (line : Line) (value : ℕ) → value_seen ring line ≡ Some value → (after_line ring s line).jobs ≡ s.jobs
write_jobs ring s (lines.Move (moves.Write back.Back number frame word written)) value e = by_event (is_event (word_seen ring number word))
  where
    by_event : (b : Bool) → (after_move ring s (moves.Write back.Back number frame word written) (if b then None else Some written)).jobs ≡ s.jobs
    by_event true = refl
    by_event false = refl
write_jobs ring s line value e = absurd (cc)

-- ---- the jobs that had their reply
abbrev pub is_answered : Option Fetched → Option Open → Bool
is_answered f o = is_some f && not (is_some o)

and_no : (b : Bool) → (b && false) ≡ false
and_no true = refl
and_no false = refl

answered_by : (before : List Line) (line : Line) (rows k : ℕ) (was is : Option Open) → is_reply line ≡ false → NextJob before line rows k was is → is_answered (fetched_of before k) was ≡ is_answered (fetched_of (before ++ line ∷ []) k) is
answered_by before line rows k was is told next =
    elim next [
      | closed_still gone none same ↦
          ap (is_answered (fetched_of before k)) gone ∙ (ap (λ (f : Option Fetched). is_answered f None) (sym same) ∙ ap (is_answered (fetched_of (before ++ line ∷ []) k)) (sym none))
      | carried o q w i ended words quiet same ↦ both o q w i
      | goes_on o q w i ended none same ↦ both o q w i
      | fails o q w i ended some own quiet same ↦ both o q w i
      | begins q gone i ended none some ↦
          ap (λ (f : Option Fetched). is_answered f was) none ∙ (sym (and_no (is_some (fetched_of (before ++ line ∷ []) k))) ∙ ap (is_answered (fetched_of (before ++ line ∷ []) k)) (sym i))
      | ends o w none reply same ↦ absurd (cc)
    ]
  where
    both : (o q : Open) → was ≡ Some o → is ≡ Some q → is_answered (fetched_of before k) was ≡ is_answered (fetched_of (before ++ line ∷ []) k) is
    both o q w i =
        ap (is_answered (fetched_of before k)) w
        ∙ (and_no (is_some (fetched_of before k)) ∙ (sym (and_no (is_some (fetched_of (before ++ line ∷ []) k))) ∙ ap (is_answered (fetched_of (before ++ line ∷ []) k)) (sym i)))

abbrev pub AreAnswered : List Line → List (ℕ × Open) → Type 0
AreAnswered before jobs = (k : ℕ) → is_one_of k (answered_in before) ≡ is_answered (fetched_of before k) (job_at jobs k)

answered_still : (before : List Line) (line : Line) (rows : ℕ) (old new : List (ℕ × Open)) → AreAnswered before old → is_epoch line ≡ false → is_reply line ≡ false → AllNext before line rows old new → AreAnswered (before ++ line ∷ []) new
answered_still before line rows old new are e told next k =
    ap (is_one_of k) (answered_more before line ∙ rw (e, told) refl) ∙ (are k ∙ answered_by before line rows k (job_at old k) (job_at new k) told (next k))

or_none : (b : Bool) → (b || false) ≡ b
or_none true = refl
or_none false = refl

or_some : (b : Bool) → (b || (true || false)) ≡ true
or_some true = refl
or_some false = refl

answered_one : (before : List Line) (s : JobState) (id : ℕ) (status : Status) → Sees before s → IsReplying before s → AreAnswered (before ++ lines.Reply id status ∷ []) (without_job (record s { replies = after_other s.replies }) (job_answered s)).jobs
answered_one before s id status sees is k =
    ap (is_one_of k) (answered_more before (lines.Reply id status) ∙ ap (λ (o : Option ℕ). answered_in before ++ option_to_list o) (replied_is before s sees is))
    ∙ (by_answered (job_answered s) refl
    ∙ ap (λ (f : Option Fetched). is_answered f (job_at (without_job (record s { replies = after_other s.replies }) (job_answered s)).jobs k)) (sym (fetched_still before (lines.Reply id status) k refl refl)))
  where
    by_key : (j : ℕ) (b : Bool) → (j == k) ≡ b → IsAnswered s.jobs j → (is_one_of k (answered_in before) || (b || false)) ≡ is_answered (fetched_of before k) (cond b None (job_at s.jobs k))
    by_key j true e a =
        let same : j ≡ k = grind (arith, nat_tests) in
        let job : IsJob before j a.job = subst (IsJobOf before j) a.is (sees.seen.jobs.each j) in
        let some : is_some (fetched_of before j) ≡ true = ap (λ (f : Option Fetched). is_some f) job.fetched in
        or_some (is_one_of k (answered_in before)) ∙ sym (ap (λ (b : Bool). b && true) (subst (λ (n : ℕ). is_some (fetched_of before n) ≡ true) same some))
    by_key j false e a = or_none (is_one_of k (answered_in before)) ∙ is.answered k

    by_answered : (reply : Option ℕ) → job_answered s ≡ reply → is_one_of k (answered_in before ++ option_to_list reply) ≡ is_answered (fetched_of before k) (job_at (without_job (record s { replies = after_other s.replies }) reply).jobs k)
    by_answered None e = ap (is_one_of k) (append-nil (answered_in before)) ∙ is.answered k
    by_answered (Some j) e =
        list_any-append (λ (job : ℕ). job == k) (answered_in before) (j ∷ [])
        ∙ (by_key j (j == k) refl (answered_found before s j sees.seen.jobs e)
        ∙ ap (is_answered (fetched_of before k)) (sym (found_removed 0 j k s.jobs sees.seen.jobs.rising)))

pub answered_next : (before : List Line) (ring : RingState) (s : JobState) (line : Line) → Sees before s → IsReplying before s → is_epoch line ≡ false → AllNext before line s.replies.rows s.jobs (after_line ring s line).jobs → AreAnswered (before ++ line ∷ []) (after_line ring s line).jobs
answered_next before ring s (lines.Reply id status) sees is e next = answered_one before s id status sees is
answered_next before ring s line sees is e next = answered_still before line s.replies.rows s.jobs (after_line ring s line).jobs is.answered e refl next

-- ---- one line further
abbrev pub IsReplyingBy : List Line → Replies → List (ℕ × Open) → Type 0
IsReplyingBy before r jobs = IsWritten before r × ((k : ℕ) (o : Open) → job_at jobs k ≡ Some o → EndedBy r.rows o.ended (due o)) × ((r.rows == 0) ≡ false → Begun before r jobs)

-- a line that writes no word
pub replies_still : (before : List Line) (line : Line) (s : JobState) (new : List (ℕ × Open)) → IsReplying before s → is_epoch line ≡ false → IsNew (page_made line) (this_epoch before) → AllNext before line s.replies.rows s.jobs new → written_on (ring_pages before) line ≡ None
    → IsReplyingBy (before ++ line ∷ []) (after_other s.replies) new
replies_still before line s new is e page next none = (
  written_still before line s.replies is.written e page none,
  ended_next before line s.replies.rows s.replies.rows s.jobs new is.ended (omega arith) next,
  λ some. (let b : Begun before s.replies s.jobs = is.begun some in
      begun_more before line s.replies (after_other s.replies) s.jobs new b e page refl is.ended next
      (λ h. ap (λ (o : Option ℕ). length (cons_option o (filter_map (written_on (ring_pages before)) b.later)) + 1) none ∙ b.row h) (λ h. absurd (cc))),
)

-- a word of a row, or its producer
pub replies_word : (before : List Line) (line : Line) (value : ℕ) (s : JobState) → Sees before s → IsReplying before s → is_epoch line ≡ false → IsNew (page_made line) (this_epoch before) → AllNext before line s.replies.rows s.jobs s.jobs → written_on (ring_pages before) line ≡ Some value
    → IsReplyingBy (before ++ line ∷ []) (after_value s.replies value) s.jobs
replies_word before line value s sees is e page next writes =
    by_tests (length s.replies.row == 0) (nat_lt (length s.replies.row) 3) refl refl (written_word before line value s.replies is.written e page writes) is.written.rows
  where
    long : length (s.replies.row ++ value ∷ []) ≡ length s.replies.row + 1
    long = length-append s.replies.row (value ∷ [])

    one_more : (xs : List Line) → length (cons_option (written_on (ring_pages before) line) (filter_map (written_on (ring_pages before)) xs)) + 1 ≡ length (filter_map (written_on (ring_pages before)) xs) + 1 + 1
    one_more xs = ap (λ (o : Option ℕ). length (cons_option o (filter_map (written_on (ring_pages before)) xs)) + 1) writes ∙ plus (length (filter_map (written_on (ring_pages before)) xs))
      where
        plus : (n : ℕ) → suc n + 1 ≡ n + 1 + 1
        plus n = omega arith

    by_tests : (a b : Bool) → (length s.replies.row == 0) ≡ a → nat_lt (length s.replies.row) 3 ≡ b
        → IsWritten (before ++ line ∷ []) (if a then record { rows = s.replies.rows + 1; row = value ∷ []; pushed = None } else (if b then record s.replies { row = s.replies.row ++ value ∷ []; pushed = None } else record s.replies { row = []; pushed = Some s.replies.row }))
        → s.replies.rows ≡ (if length s.replies.row == 0 then is.written.count else is.written.count + 1)
        → IsReplyingBy (before ++ line ∷ []) (if a then record { rows = s.replies.rows + 1; row = value ∷ []; pushed = None } else (if b then record s.replies { row = s.replies.row ++ value ∷ []; pushed = None } else record s.replies { row = []; pushed = Some s.replies.row })) s.jobs
    by_tests true b p q written rows = (
      written,
      ended_next before line s.replies.rows (s.replies.rows + 1) s.jobs s.jobs is.ended (omega arith) next,
      λ some. begun_now before line value s.replies.rows s.jobs e sees.seen.jobs is.ended writes,
    )
    by_tests false true p q written rows =
        let begun : (s.replies.rows == 0) ≡ false = grind (arith, nat_tests, rows) in
        let b : Begun before s.replies s.jobs = is.begun begun in (
          written,
          ended_next before line s.replies.rows s.replies.rows s.jobs s.jobs is.ended (omega arith) next,
          λ some. begun_more before line s.replies (record s.replies { row = s.replies.row ++ value ∷ []; pushed = None }) s.jobs s.jobs b e page refl is.ended next
              (λ h. one_more b.later ∙ (ap (λ (n : ℕ). n + 1) (b.row p) ∙ sym long)) (λ h. absurd (cc)),
        )
    by_tests false false p q written rows =
        let begun : (s.replies.rows == 0) ≡ false = grind (arith, nat_tests, rows) in
        let b : Begun before s.replies s.jobs = is.begun begun in
        let short = is.written.short in
        let three : length s.replies.row ≡ 3 = grind (arith, nat_tests) in (
          written,
          ended_next before line s.replies.rows s.replies.rows s.jobs s.jobs is.ended (omega arith) next,
          λ some. begun_more before line s.replies (record s.replies { row = []; pushed = Some s.replies.row }) s.jobs s.jobs b e page refl is.ended next
              (λ h. absurd (cc)) (λ h. one_more b.later ∙ (ap (λ (n : ℕ). n + 1) (b.row p ∙ three))),
        )
