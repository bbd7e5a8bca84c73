-- What a job answers once its work is over, by its own lines; and the replies that the back wrote.
use Rattle.std.proofs.Common.{◌≡◌, ℕ, ◌*◌, ◌≤◌, List, [], ◌∷◌, ◌++◌, length, map}
use Rattle.std.specs.Prelude.{Option, Some, None, false}
use Rattle.ring_words.specs.Shape.{entry_words_of}
use Rattle.blk_base.specs.declared.operation.Status.{Status}
use Rattle.blk_layout.specs.declared.response.Response.{Response}
use Rattle.blk_layout.specs.Response.{response_words_of}
use Rattle.blk_back.specs.declared.stage.Reply.{Reply}
use Rattle.blk_back.specs.declared.stage.BackStage.TheVariants as stage
use Rattle.blk_back.specs.declared.stage.BackStage.{BackStage}
use Rattle.blk_back.specs.Ask.{next_reply, response_word}
use Rattle.blk_back.specs.View.{View, info_of as back_info}
use Rattle.schedule_text.specs.declared.line.Line.{Line}
use Rattle.report_rules.specs.declared.work.Task.{Task}
use Rattle.ring_words.specs.Ring.{next_of}
use Rattle.report_rules.specs.Obeys.{Obeys}
use Rattle.report_rules.specs.Standing.{this_epoch}
use Rattle.report_rules.specs.Work.{work_tasks, work_verdict, status_by, work_response}
use Rattle.report_rules.specs.Walk.{walk_of}
use Rattle.report_rules.specs.Steps.{failed_in}
use Rattle.report_rules.specs.Made.{left_to}
use Rattle.report_rules.specs.Reply.{end_of, response_due, values_written, reply_pushed, lines_before, is_one_of, answered_in, IsReplyAt}
use Rattle.ring_laws.proofs.JobLines.{read_by}
use Rattle.ring_laws.proofs.Began.{Terms, request_at}
use Rattle.report_rules.specs.Stretch.{entries_read}

-- by these words of entries and these lines of the epoch the work of job k is over, and this is its response
pub record IsWorkOver (terms : Terms) (values : List ℕ) (epoch : List Line) (k : ℕ) (r : Response) : Type 0 where
  pub work : List Task
  pub served : Status
  pub first : 1 ≤ k
  pub read : entry_words_of terms.abi * k ≤ length values
  pub names : work_response (request_at terms.abi values k) r.status ≡ r
  pub tasks : work_tasks (request_at terms.abi values k) (back_info terms.config) false (read_by k epoch) ≡ work
  pub verdict : status_by (work_verdict (request_at terms.abi values k) (back_info terms.config) (read_by k epoch)) ≡ served
  pub ended : end_of (failed_in k epoch) (length work) served (walk_of false work k epoch) ≡ Some r.status
  pub left : left_to k epoch ≡ []

-- a reply that was pushed: the job that it answers, its response, and the producer after it
pub record Answered : Type 0 where
  pub job : ℕ
  pub response : Response
  pub producer : ℕ

abbrev pub response_in : Reply → Response
response_in r = record { id = r.id; op = r.op; status = r.status }

-- what the back wrote for these replies: four words each
abbrev pub rows_of : List Answered → List ℕ
rows_of [] = []
rows_of (a ∷ answered) = response_words_of a.response ++ a.producer ∷ rows_of answered

-- the words of a reply under way that are written, by the stage of the back
abbrev pub under_way : BackStage → List ℕ
under_way (stage.ReplyHigh r) = response_word r 0 ∷ []
under_way (stage.ReplyLast r) = response_word r 0 ∷ response_word r 1 ∷ []
under_way (stage.Producer r) = response_word r 0 ∷ response_word r 1 ∷ response_word r 2 ∷ []
under_way s = []

-- the reply of which the back writes a word next, and which word
abbrev pub next_word : Option Reply → Option (Reply × ℕ)
next_word None = None
next_word (Some r) = Some (r, 0)

abbrev pub replying : BackStage → View → Option (Reply × ℕ)
replying stage.Loop v = next_word (next_reply v)
replying (stage.ReplyHigh r) v = Some (r, 1)
replying (stage.ReplyLast r) v = Some (r, 2)
replying (stage.Producer r) v = Some (r, 3)
replying s v = None

-- a job that may be the one that a reply answers of which n words are written: it had none, it was at its end before them with this response, and nothing that it mapped stands
pub record Candidate (before : List Line) (n : ℕ) (r : Response) : Type 0 where
  pub job : ℕ
  pub other : is_one_of job (answered_in before) ≡ false
  pub due : response_due (lines_before before n) job ≡ Some (response_words_of r)
  pub first : 1 ≤ job
  pub last : job ≤ entries_read (lines_before before n)
  pub left : left_to job (this_epoch before) ≡ []

-- the reply under way, by the stage of the back
abbrev pub row_at : BackStage → Option Reply
row_at (stage.ReplyHigh r) = Some r
row_at (stage.ReplyLast r) = Some r
row_at (stage.Producer r) = Some r
row_at s = None

-- the replies after a move: one more where the producer is raised, to job k
abbrev pub answered_then : BackStage → List Answered → ℕ → ℕ → List Answered
answered_then (stage.Producer r) answered k prod = answered ++ record { job = k; response = response_in r; producer = next_of prod } ∷ []
answered_then s answered k prod = answered

abbrev pub job_answered : Answered → ℕ
job_answered a = a.job

abbrev pub jobs_of : List Answered → List ℕ
jobs_of answered = map job_answered answered

-- the lines obey the rule on replies, and tell these replies; none is left to be told
pub record Writes (before : List Line) (s : BackStage) (answered : List Answered) : Type 0 where
  pub obeys : Obeys IsReplyAt before
  pub words : values_written before ≡ rows_of answered ++ under_way s
  pub pushed : reply_pushed before ≡ None
