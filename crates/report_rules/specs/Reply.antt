-- How the back replies (`io/ring.h`, RING_GET_RESPONSE and RING_PUSH_RESPONSES; `io/blkif.h`, struct blkif_response): the three words of a job's response in the slot of its own producer, ascending, then the producer raised by one, and the line that tells of the reply. There is a job for each reply, no two the same, that was at its end before the first word and whose response the words are; at the line that tells of the reply nothing that the job mapped stands but what may be kept. The back writes nothing else into the ring but req_event.
use Rattle.std.specs.Prelude.{◌≡◌, ◌≢◌, ℕ, zero, suc, ◌+◌, ◌-◌, ◌*◌, ◌/◌, ◌%◌, ◌^◌, Bool, true, false, not, ◌&&◌, ◌||◌, ◌==◌, nat_lt, nat_le, if◌then◌else◌, List, [], ◌∷◌, ◌++◌, reverse, length, slice_get, Option, Some, None, is_some, unwrap_or, option_to_list, IfSome, IsSomeAnd, IsTrue, Result, Ok, Err}
use Rattle.std.specs.List.{filter_map, list_any}
use Rattle.ring_words.specs.Shape.{Shape, ring_word_of}
use Rattle.blk_base.specs.declared.operation.Status.{Status}
use Rattle.blk_base.specs.declared.operation.Status.TheVariants as status
use Rattle.blk_base.specs.declared.moves.BackMover.TheVariants as back
use Rattle.blk_base.specs.declared.moves.Move.TheVariants as moves
use Rattle.blk_layout.specs.declared.request.RawRequest.{RawRequest}
use Rattle.blk_layout.specs.declared.response.Response.{Response}
use Rattle.blk_layout.specs.Response.{response_words_of, response_of}
use Rattle.schedule_text.specs.declared.line.Line.{Line}
use Rattle.schedule_text.specs.declared.line.Line.TheVariants as lines
use Rattle.report_rules.specs.declared.walk.Spot.{Spot}
use Rattle.report_rules.specs.declared.job.Fetched.{Fetched}
use Rattle.report_rules.specs.Obeys.{Obeys}
use Rattle.report_rules.specs.Standing.{is_epoch, this_epoch}
use Rattle.report_rules.specs.Ring.{ring_word, ring_shape, replied_before}
use Rattle.report_rules.specs.Stretch.{when, entries_read}
use Rattle.report_rules.specs.Work.{work_verdict, status_by, work_response}
use Rattle.report_rules.specs.Job.{fetched_of}
use Rattle.report_rules.specs.Made.{has_unmapped}
use Rattle.report_rules.specs.Step.{values_read, work_of}
use Rattle.report_rules.specs.Walk.{spot_of}
use Rattle.report_rules.specs.Steps.{failed_in}

-- how a job's work ended, if it did: the disk failed, a map was refused, or all its tasks are done
abbrev pub end_of : Bool → ℕ → Status → Option Spot → Option Status
end_of true tasks served s = Some status.Error
end_of false tasks served None = None
end_of false tasks served (Some s) = if s.refused then Some status.Error else (if (s.place == 0) && nat_le tasks s.done then Some served else None)

abbrev pub status_at_end : List Line → ℕ → Fetched → Option Status
status_at_end before k f =
    end_of (failed_in k (this_epoch before)) (length (work_of before k f)) (status_by (work_verdict f.request f.disk (values_read before k))) (spot_of before k f)

abbrev pub words_with : RawRequest → Option Status → Option (List ℕ)
words_with request None = None
words_with request (Some s) = Some (response_words_of (work_response request s))

abbrev pub words_due : List Line → ℕ → Option Fetched → Option (List ℕ)
words_due before k None = None
words_due before k (Some f) = words_with f.request (status_at_end before k f)

-- the three words of the response to job k, where its work is at its end
abbrev pub response_due : List Line → ℕ → Option (List ℕ)
response_due before k = words_due before k (fetched_of before k)

-- req_event is word 1 of the ring
abbrev pub is_event : Option ℕ → Bool
is_event None = false
is_event (Some word) = word == 1

-- the word of the ring that the back writes in a line
abbrev pub word_written : List Line → Line → Option ℕ
word_written before (lines.Move (moves.Write back.Back number frame word value)) = ring_word before number word
word_written before line = None

-- what the back writes in a line, but to req_event
abbrev pub value_written : List Line → Line → Option ℕ
value_written before (lines.Move (moves.Write back.Back number frame word value)) = if is_event (ring_word before number word) then None else Some value
value_written before line = None

-- what it wrote so in this epoch: four words a reply
abbrev pub values_written : List Line → List ℕ
values_written before = filter_map (value_written before) (this_epoch before)

abbrev pub value_at : List ℕ → ℕ → ℕ
value_at values i = unwrap_or (slice_get values i) 0

-- the words of the r-th reply, from 0; those that aren't written yet are 0
abbrev pub row_of : List ℕ → ℕ → List ℕ
row_of values r = value_at values (4 * r) ∷ value_at values (4 * r + 1) ∷ value_at values (4 * r + 2) ∷ []

-- two responses have the same words up to the last one that is looked at
abbrev pub are_alike : ℕ → List ℕ → List ℕ → Bool
are_alike last xs ys = (value_at xs 0 == value_at ys 0) && ((last == 0) || (value_at xs 1 == value_at ys 1)) && (nat_lt last 2 || (value_at xs 2 == value_at ys 2))

abbrev pub is_like : ℕ → List ℕ → Option (List ℕ) → Bool
is_like last row None = false
is_like last row (Some words) = are_alike last row words

-- how many words of the reply under way are written: 0 between two replies
abbrev pub within_reply : List Line → ℕ
within_reply before = length (values_written before) % 4

-- the lines before the last words that the back wrote, so many of them, where the last line comes first
abbrev pub back_before : List Line → ℕ → List Line → List Line
back_before before n [] = []
back_before before n (line ∷ earlier) =
    if n == 0 then line ∷ earlier
    else back_before before (if is_some (value_written before line) then n - 1 else n) earlier

-- the lines before those words
abbrev pub lines_before : List Line → ℕ → List Line
lines_before before n = reverse (back_before before n (reverse before))

-- the lowest number from 1 to this one that passes a test
abbrev pub lowest : (ℕ → Bool) → ℕ → Option ℕ
lowest p zero = None
lowest p (suc n) = if is_some (lowest p n) then lowest p n else when (p (suc n)) (suc n)

abbrev pub is_one_of : ℕ → List ℕ → Bool
is_one_of k jobs = list_any (λ (job : ℕ). job == k) jobs

-- a job may be the one that a row of words answers: it had no reply, and it was at its end, by the lines before the row, with a response of these words
abbrev pub may_answer : List Line → List ℕ → ℕ → List ℕ → ℕ → Bool
may_answer early answered last row k = not (is_one_of k answered) && is_like last row (response_due early k)

-- the job of a row that was pushed: the lowest that it may answer and that unmapped what it mapped
abbrev pub job_for : List Line → List Line → List ℕ → Option (List ℕ) → Option ℕ
job_for before early answered None = None
job_for before early answered (Some row) = lowest (λ (k : ℕ). may_answer early answered 2 row k && has_unmapped before k) (entries_read early)

-- the word that is written next: one of the slot's, or rsp_prod
abbrev pub next_place : List Line → Shape → ℕ
next_place before s = if within_reply before == 3 then 2 else ring_word_of s (replied_before before) (within_reply before)

abbrev pub ends_with_write : List Line → List Line → Bool
ends_with_write before [] = false
ends_with_write before (line ∷ earlier) = is_some (value_written before line)

-- the words of the reply that the last line pushed, if it did
abbrev pub reply_pushed : List Line → Option (List ℕ)
reply_pushed before =
    if ends_with_write before (reverse before) && (within_reply before == 0) then Some (row_of (values_written before) (length (values_written before) / 4 - 1))
    else None

-- the line that tells of a response
abbrev pub line_of : Result Response ℕ → Option Line
line_of (Ok r) = Some (lines.Reply r.id r.status)
line_of (Err word) = None

abbrev pub is_reply : Line → Bool
is_reply (lines.Reply id status) = true
is_reply line = false

-- the job that a reply after these lines answers, where those jobs had theirs
abbrev pub job_replied : List Line → List ℕ → Option ℕ
job_replied before answered = job_for before (lines_before before 4) answered (reply_pushed before)

-- the jobs that had their reply in this epoch, after a line
abbrev pub answered_after : List ℕ → List Line → Line → List ℕ
answered_after answered before line =
    if is_epoch line then []
    else (if is_reply line then answered ++ option_to_list (job_replied before answered) else answered)

-- the same of lines of which the last comes first
abbrev pub answered_back : List Line → List ℕ
answered_back [] = []
answered_back (line ∷ earlier) = answered_after (answered_back earlier) (reverse earlier) line

abbrev pub answered_in : List Line → List ℕ
answered_in before = answered_back (reverse before)

-- a word of the row under way, and those before it in the row, are those of a response to a job that the row may answer
abbrev pub is_answer : List Line → ℕ → List ℕ → Bool
is_answer before last row = is_some (lowest (may_answer (lines_before before last) (answered_in before) last row) (entries_read (lines_before before last)))

-- what is written next: a word of a response, or the next producer
abbrev pub is_next_value : List Line → ℕ → Bool
is_next_value before value =
    if within_reply before == 3 then value == (replied_before before + 1) % 2 ^ 32
    else is_answer before (within_reply before) (row_of (values_written before ++ value ∷ []) (length (values_written before) / 4))

abbrev pub IsNextWrite : List Line → Line → ℕ → Shape → Type 0
IsNextWrite before line value s = (word_written before line ≡ Some (next_place before s)) × (is_next_value before value ≡ true)

-- the line of a reply tells of the row that was pushed, and a job is the one that it answers: there is one for each reply, and no two are the same
pub record IsTold (before : List Line) (line : Line) (row : List ℕ) : Type 0 where
  pub says : line_of (response_of row) ≡ Some line
  pub job : job_replied before (answered_in before) ≢ None

-- the back writes only the next word of a reply, whatever else it does between two of them, so that a row that was begun is finished first, or cut by an epoch or the end of the report; one that is pushed is told at once, and no other is
pub record IsReplyAt (before : List Line) (line : Line) : Type 0 where
  pub next : IfSome (value_written before line) (λ value. IsSomeAnd (ring_shape before) (IsNextWrite before line value))
  pub told : IfSome (reply_pushed before) (IsTold before line)
  pub only : IsTrue (is_reply line) → reply_pushed before ≢ None

abbrev pub AreReplies : List Line → Type 0
AreReplies report = Obeys IsReplyAt report
