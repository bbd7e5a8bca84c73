-- What a checker keeps of a report, line by line: its outline, and what the readers of requests, of memory, of the ring and of jobs keep. It says of the next line which rule it breaks first.
use Rattle.std.specs.Prelude.{Bool, not, ◌&&◌, if◌then◌else◌, List, fold, Option, Some, None}
use Rattle.schedule_text.specs.declared.line.Line.{Line}
use Rattle.request_check.specs.State as requests
use Rattle.request_check.specs.Verdicts.{allows_state, allows_submit, allows_refuse, allows_effect, allows_barrier, allows_service, allows_reply, allows_answer, allows_data, allows_quiet}
use Rattle.memory_check.specs.State as memory
use Rattle.memory_check.specs.Verdicts.{shows_what_is_there, answers_map, touches_a_mapping}
use Rattle.ring_check.specs.State as ring
use Rattle.ring_check.specs.Verdict.{allows_stretch, allows_overrun}
use Rattle.job_check.specs.State as jobs
use Rattle.job_check.specs.Verdict as job
use Rattle.checked_rules.specs.declared.rule.Rule.{Rule}
use Rattle.checked_rules.specs.declared.rule.Rule.TheVariants as rule
use Rattle.trace_check.specs.Outline.{Outline, no_lines, outlined, allows_order}

pub record Trace : Type 0 where
  pub outline : Outline
  pub requests : requests.State
  pub memory : memory.State
  pub ring : ring.RingState
  pub jobs : jobs.JobState

abbrev pub start : Trace
start = record { outline = no_lines; requests = requests.start; memory = memory.start; ring = ring.no_lines; jobs = jobs.no_lines }

-- requests are followed up to the first hostile line
abbrev pub requests_after : Trace → Line → requests.State
requests_after t line = if (outlined t.outline line).hostile then t.requests else requests.seen t.requests line

-- moves are followed where they are shown
abbrev pub moved : Trace → Line → Trace
moved t line = record t {
  memory = memory.seen t.memory line;
  ring = ring.seen t.ring line;
  jobs = jobs.seen t.ring t.jobs line;
}

abbrev pub moves_after : Trace → Line → Trace
moves_after t line = if (outlined t.outline line).shown then moved t line else t

-- what is kept one line further on
abbrev pub seen : Trace → Line → Trace
seen t line = record (moves_after t line) { outline = outlined t.outline line; requests = requests_after t line }

-- what is kept after these lines
abbrev pub trace_after : List Line → Trace
trace_after before = fold seen start before

abbrev pub allows_touch : Trace → Line → Bool
allows_touch t line = touches_a_mapping t.memory line && answers_map t.memory line

abbrev pub allows_fetch : Trace → Line → Bool
allows_fetch t line = allows_stretch t.ring line && job.allows_step t.jobs line && job.allows_effect t.jobs line && job.allows_data t.jobs line && job.allows_reply t.ring t.jobs line

-- the first rule on requests that the line breaks
abbrev pub broken_request : requests.State → Line → Option Rule
broken_request s line =
    if not (allows_state s line) then Some rule.State
    else (if not (allows_submit s line) then Some rule.Submit
    else (if not (allows_refuse s line) then Some rule.Refuse
    else (if not (allows_effect s line) then Some rule.Effect
    else (if not (allows_barrier s line) then Some rule.Barrier
    else (if not (allows_service s line) then Some rule.Service
    else (if not (allows_reply s line) then Some rule.Reply
    else (if not (allows_answer s line) then Some rule.Answer
    else (if not (allows_data s line) then Some rule.Data
    else (if not (allows_quiet s line) then Some rule.Quiet
    else None)))))))))

-- the first rule on moves that the line breaks
abbrev pub broken_move : Trace → Line → Option Rule
broken_move t line =
    if not (shows_what_is_there t.memory line) then Some rule.Coherent
    else (if not (allows_touch t line) then Some rule.Touch
    else (if not (allows_fetch t line) then Some rule.Fetch
    else (if not (allows_overrun t.ring line) then Some rule.Overrun
    else None)))

-- the same as far as it asks nothing of what the back's jobs do and of an overrun
abbrev pub broken_before : Trace → Line → Option Rule
broken_before t line =
    if not (shows_what_is_there t.memory line) then Some rule.Coherent
    else (if not (allows_touch t line) then Some rule.Touch
    else (if not (allows_stretch t.ring line) then Some rule.Fetch
    else None))

-- the rules on requests are tested up to the first hostile line
abbrev pub broken_while_honest : Trace → Line → Option Rule
broken_while_honest t line = if (outlined t.outline line).hostile then None else broken_request t.requests line

-- the rules on moves are tested where moves are shown
abbrev pub broken_where_shown : Trace → Line → Option Rule
broken_where_shown t line = if t.outline.shown then broken_move t line else None

abbrev pub first_of : Option Rule → Option Rule → Option Rule
first_of None later = later
first_of (Some broken) later = Some broken

-- the first rule that the line breaks
abbrev pub broken_by : Trace → Line → Option Rule
broken_by t line = if allows_order t.outline line then first_of (broken_while_honest t line) (broken_where_shown t line) else Some rule.Order
