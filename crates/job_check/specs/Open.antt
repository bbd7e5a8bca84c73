-- How far an open job of the back came in the work of its entry (`io/blkif.h`), as a state that takes one step a move.
use Rattle.std.specs.Prelude.{ℕ, ◌+◌, ◌*◌, Bool, true, false, not, ◌&&◌, ◌||◌, ◌==◌, nat_lt, if◌then◌else◌, List, [], ◌∷◌, ◌++◌, length, slice_get, Option, Some, None, option_and_then}
use Rattle.blk_base.specs.declared.operation.Status.{Status}
use Rattle.blk_base.specs.declared.moves.Move.{Move}
use Rattle.blk_base.specs.declared.moves.Move.TheVariants as moves
use Rattle.blk_layout.specs.declared.request.RawRequest.{RawRequest}
use Rattle.blk_layout.specs.declared.request.RawRequest.TheVariants.{Direct, Discard, Indirect}
use Rattle.segment_list.specs.declared.verdict.DiskInfo.{DiskInfo}
use Rattle.report_rules.specs.declared.job.Fetched.{Fetched}
use Rattle.report_rules.specs.declared.work.Task.{Task}
use Rattle.report_rules.specs.declared.walk.Spot.{Spot}
use Rattle.report_rules.specs.Work.{work_tasks, work_verdict, status_by}
use Rattle.report_rules.specs.Walk.{spot, advanced, step_at, is_step_at, is_unmapped_step}
use Rattle.report_rules.specs.Steps.{gref_of, touched_by}
use Rattle.report_rules.specs.Reply.{end_of, words_with, is_like}
use Rattle.job_check.specs.Kept.{Kept, is_kept_of, is_kept_for}

-- its number; its request, with the disk and what was agreed on grants at the end of its fetch; the words of its indirect pages that it read; its tasks as far as these tell, and the status of its response once they are done; how far it came; whether the disk failed; how often it moved the disk; the sector that it read last, until its next move of the disk; and, once its work is at its end, how many rows of replies had begun by then
pub record Open : Type 0 where
  pub number : ℕ
  pub request : RawRequest
  pub disk : DiskInfo
  pub persistent : Bool
  pub read : List ℕ
  pub tasks : List Task
  pub served : Status
  pub spot : Option Spot
  pub failed : Bool
  pub moved : ℕ
  pub sector : Option (List ℕ)
  pub ended : Option ℕ

-- a job whose entry was just fetched
abbrev pub begun : ℕ → Fetched → Open
begun number f = record {
  number = number;
  request = f.request;
  disk = f.disk;
  persistent = f.persistent;
  read = [];
  tasks = work_tasks f.request f.disk f.persistent [];
  served = status_by (work_verdict f.request f.disk []);
  spot = Some (spot 0 0 false None);
  failed = false;
  moved = 0;
  sector = None;
  ended = None;
}

-- words of its indirect pages are still to be read, two a segment
abbrev pub lacks_words : RawRequest → ℕ → Bool
lacks_words (Direct op count device id sector segments) read = false
lacks_words (Discard flag device id sector count) read = false
lacks_words (Indirect inner count device id sector pages) read = nat_lt read (2 * count)

-- its tasks, and the status of its response once they are done, by these words of its indirect pages
abbrev pub tasks_by : Open → List ℕ → List Task
tasks_by o read = work_tasks o.request o.disk o.persistent read

abbrev pub served_by : Open → List ℕ → Status
served_by o read = status_by (work_verdict o.request o.disk read)

-- a job that read these words: with the last of them its tasks are known
abbrev pub with_words : Open → List ℕ → Open
with_words o read =
    if lacks_words o.request (length read) then record o { read = read }
    else record o { read = read; tasks = tasks_by o read; served = served_by o read }

-- a job read a word
abbrev pub after_word : Open → ℕ → Open
after_word o value = if lacks_words o.request (length o.read) then with_words o (o.read ++ value ∷ []) else o

-- a job made a move, which is its next step or leaves it nowhere
abbrev pub walked_by : Open → Move → Open
walked_by o move = record o { spot = option_and_then (advanced o.persistent o.tasks move) o.spot }

-- a job moved the disk
abbrev pub moved_once : Open → Open
moved_once o = record o { moved = o.moved + 1; sector = None }

-- a job's move reads a word
abbrev pub is_word_read : Move → Bool
is_word_read (moves.Read who number frame word value) = true
is_word_read move = false

-- it moves the disk
abbrev pub is_disk_move : Move → Bool
is_disk_move (moves.DiskRead k sector) = true
is_disk_move (moves.DiskWrite k sector) = true
is_disk_move (moves.DiskFlush k) = true
is_disk_move (moves.DiskTrim k sector count) = true
is_disk_move move = false

-- a job after a move of its own
abbrev pub stepped : Open → Move → Open
stepped o (moves.Read who number frame word value) = after_word (walked_by o (moves.Read who number frame word value)) value
stepped o move = if is_disk_move move then moved_once (walked_by o move) else walked_by o move

-- the disk failed at its move
abbrev pub with_fault : Open → Open
with_fault o = record o { failed = true }

-- the disk gave it these words
abbrev pub with_sector : Open → List ℕ → Open
with_sector o words = record o { sector = Some words }

-- a word of a frame is touched through the mapping of its task, as soon as one is named: what the rule says so (`IsThrough`), as a Bool
abbrev pub is_same : Option ℕ → Option ℕ → Bool
is_same None touched = true
is_same (Some mine) None = true
is_same (Some mine) (Some number) = number == mine

-- where none is named yet, through one that is kept for the task's reference
abbrev pub is_taken : Kept → ℕ → Option ℕ → Option ℕ → Bool
is_taken kept gref None (Some number) = is_kept_of kept gref number
is_taken kept gref mapping touched = true

-- where the map of a task is missing, one is kept for its reference
abbrev pub is_mapped : Kept → Task → Spot → Move → Bool
is_mapped kept task s move = not (s.place == 0) || is_step_at (step_at task 0) move || is_kept_for kept (gref_of task)

abbrev pub is_through : Kept → Task → Spot → Move → Bool
is_through kept task s move =
    is_same s.mapping (touched_by move) && is_taken kept (gref_of task) s.mapping (touched_by move) && is_mapped kept task s move

-- a move is the next step of a task, through its mapping, and no map was refused
abbrev pub is_next : Bool → Kept → Spot → Task → Move → Bool
is_next persistent kept s task move =
    not s.refused && (is_step_at (step_at task s.place) move || is_unmapped_step persistent task s.place move) && is_through kept task s move

abbrev pub is_next_of : Open → Kept → Spot → Option Task → Move → Bool
is_next_of o kept s None move = false
is_next_of o kept s (Some task) move = is_next o.persistent kept s task move

abbrev pub is_next_at : Open → Kept → Option Spot → Move → Bool
is_next_at o kept None move = false
is_next_at o kept (Some s) move = is_next_of o kept s (slice_get o.tasks s.done) move

-- a move of the job's own may come now: the disk didn't fail, and it is the next step of its work
abbrev pub may_step : Open → Kept → Move → Bool
may_step o kept move = not o.failed && is_next_at o kept o.spot move

-- the three words of its response, where its work is at its end
abbrev pub due : Open → Option (List ℕ)
due o = words_with o.request (end_of o.failed (length o.tasks) o.served o.spot)

-- a job that had not come to its end before is there now, if a response is due
abbrev pub end_told : Option ℕ → ℕ → Option (List ℕ) → Option ℕ
end_told (Some known) rows words = Some known
end_told None rows None = None
end_told None rows (Some words) = Some rows

abbrev pub with_end : ℕ → Open → Open
with_end rows o = record o { ended = end_told o.ended rows (due o) }

-- the job of an entry that was just fetched, where so many rows of replies had begun: it may be at its end at once
abbrev pub opened : ℕ → ℕ → Fetched → Open
opened rows number f = with_end rows (begun number f)

-- after a move of its own
abbrev pub moved_by : ℕ → Move → Open → Open
moved_by rows move o = with_end rows (stepped o move)

-- after a fault of the disk at its last move
abbrev pub failed_by : ℕ → Open → Open
failed_by rows o = with_end rows (with_fault o)

-- it came to its end before so many rows had begun
abbrev pub is_early : ℕ → Option ℕ → Bool
is_early rows None = false
is_early rows (Some known) = nat_lt known rows

-- a row may answer it, where the words up to the last one are looked at: it came to its end in time, and its response has these words
abbrev pub may_answer : ℕ → ℕ → List ℕ → Open → Bool
may_answer rows last row o = is_early rows o.ended && is_like last row (due o)
