-- How far a job is in the work of its entry, by its stage.
use Rattle.std.proofs.Common.{◌≡◌, ℕ, ◌+◌, ◌-◌, ◌*◌, ◌<◌, ◌≤◌, Bool, true, false, if◌then◌else◌, List, [], ◌∷◌, ◌++◌, length, count_by, refl, ap, ◌∙◌, append-nil, arith}
use Rattle.std.specs.Prelude.{slice_get, nat_le, Option, Some, None, option_and_then, IfSome}
use Rattle.std.specs.List.{AllByRecursion}
use Rattle.std.proofs.lemmas.Bool.Decides.{nat_tests}
use Rattle.blk_base.specs.declared.operation.Status.{Status}
use Rattle.blk_base.specs.declared.operation.Status.TheVariants.{Okay, Error}
use Rattle.blk_base.specs.declared.parts.Mapping.{Mapping}
use Rattle.blk_base.specs.declared.parts.Mode.TheVariants.{ReadOnly}
use Rattle.blk_base.specs.declared.moves.Move.{Move}
use Rattle.schedule_text.specs.declared.line.Line.{Line}
use Rattle.blk_layout.specs.declared.segment.Segment.{Segment}
use Rattle.segment_list.specs.Segments.{IsSound, length_of, sectors_of}
use Rattle.report_rules.specs.declared.walk.Spot.{Spot}
use Rattle.report_rules.specs.declared.work.Task.{Task}
use Rattle.report_rules.specs.declared.work.Task.TheVariants as tasks
use Rattle.report_rules.specs.Work.{stores_of, loads_of}
use Rattle.report_rules.specs.Walk.{spot, advanced, walk_of}
use Rattle.report_rules.specs.Steps.{failed_in, touched_by}
use Rattle.report_rules.specs.Data.{words_from}
use Rattle.report_rules.specs.Reply.{end_of}
use Rattle.back_jobs.specs.declared.stage.JobStage.{JobStage}
use Rattle.back_jobs.specs.declared.stage.JobStage.TheVariants as stage
use Rattle.back_jobs.specs.Work.{Work, first_of, rest_of}
use Rattle.ring_laws.proofs.JobLines.{is_disk_of, IsAside, walk_aside, failed_same}
use Rattle.ring_laws.proofs.TaskSteps.{task_at}

-- the tasks of segments from a disk sector on
abbrev pub tasks_of : Bool → ℕ → List Segment → List Task
tasks_of true disk segments = stores_of false disk segments
tasks_of false disk segments = loads_of disk segments

-- between two segments: these are left
pub record Before (work : List Task) (k : ℕ) (epoch : List Line) (rest : List Segment) (disk moved : ℕ) (writes : Bool) : Type 0 where
  pub done : List Task
  pub tail : work ≡ done ++ tasks_of writes disk rest
  pub came : walk_of false work k epoch ≡ Some (spot (length done) 0 false None)
  pub sound : AllByRecursion IsSound rest
  pub few : moved + sectors_of rest ≤ 7680
  pub counted : count_by (is_disk_of k) epoch ≡ moved
  pub whole : failed_in k epoch ≡ false

-- in the first of these segments, through a mapping of its frame: at step j of sector i, which the disk is still to move where `ahead` is 1
pub record Within (work : List Task) (k : ℕ) (epoch : List Line) (rest : List Segment) (within disk moved : ℕ) (writes : Bool) (j ahead : ℕ) (m : Mapping) : Type 0 where
  pub segment : Segment
  pub more : List Segment
  pub rest_is : rest ≡ segment ∷ more
  pub i : ℕ
  pub sector : within ≡ segment.first + i
  pub inside : within ≤ segment.last
  pub begin : ℕ
  pub disk_is : disk + ahead ≡ begin + i + 1
  pub done : List Task
  pub tail : work ≡ done ++ tasks_of writes begin (segment ∷ more)
  pub came : walk_of false work k epoch ≡ Some (spot (length done) (1 + (129 * i + j)) false (Some m.number))
  pub gref : m.gref ≡ segment.gref
  pub sound : AllByRecursion IsSound (segment ∷ more)
  pub few : moved + ahead + (segment.last - within) + sectors_of more ≤ 7680
  pub counted : count_by (is_disk_of k) epoch ≡ moved
  pub whole : failed_in k epoch ≡ false

-- the whole work is this one task of one step, which is still to come
pub record Alone (work : List Task) (k : ℕ) (epoch : List Line) (task : Task) (moved : ℕ) : Type 0 where
  pub is : work ≡ task ∷ []
  pub came : walk_of false work k epoch ≡ Some (spot 0 0 false None)
  pub once : moved ≡ 0
  pub counted : count_by (is_disk_of k) epoch ≡ moved
  pub whole : failed_in k epoch ≡ false

-- the status with which the work ends by these lines, if it ends; `served` is that of work done in full
abbrev pub ending : List Task → ℕ → List Line → Status → Option Status
ending work k epoch served = end_of (failed_in k epoch) (length work) served (walk_of false work k epoch)

-- how far a job is that copies no segments
abbrev pub IsAt : List Task → ℕ → List Line → JobStage → Work → Type 0
IsAt work k epoch stage.MapPage t = ⊥
IsAt work k epoch (stage.PageReference m) t = ⊥
IsAt work k epoch (stage.PageSectors m gref) t = ⊥
IsAt work k epoch (stage.UnmapPage m) t = ⊥
IsAt work k epoch stage.Map t = Before work k epoch t.rest t.disk t.moved t.writes × (t.within ≡ first_of t.rest)
IsAt work k epoch (stage.ReadWord m j) t = Within work k epoch t.rest t.within t.disk t.moved t.writes j 1 m × (j < 128) × (t.writes ≡ true)
IsAt work k epoch (stage.DiskWrite m) t = Within work k epoch t.rest t.within t.disk t.moved t.writes 128 1 m × (t.writes ≡ true)
IsAt work k epoch (stage.DiskRead m) t = Within work k epoch t.rest t.within t.disk t.moved t.writes 0 1 m × (t.writes ≡ false)
IsAt work k epoch (stage.WriteWord m j) t = Within work k epoch t.rest t.within t.disk t.moved t.writes (1 + j) 0 m × (j < 128) × (t.writes ≡ false) × (words_from None k epoch ≡ Some t.words)
IsAt work k epoch (stage.Unmap m) t = Before work k epoch (rest_of t.rest) t.disk t.moved t.writes
IsAt work k epoch (stage.Abort m) t = failed_in k epoch ≡ true
IsAt work k epoch stage.Flush t = Alone work k epoch tasks.Flush t.moved
IsAt work k epoch (stage.Trim count) t = Alone work k epoch (tasks.Trim t.disk count) t.moved
IsAt work k epoch (stage.Done status) t = ending work k epoch Okay ≡ Some status

-- others' lines leave it as it ended
pub ending_aside : (work : List Task) (k : ℕ) (epoch ys : List Line) (served : Status) → IsAside k ys → ending work k (epoch ++ ys) served ≡ ending work k epoch served
ending_aside work k epoch ys served aside =
    ap (λ (failed : Bool). end_of failed (length work) served (walk_of false work k (epoch ++ ys))) (failed_same k epoch ys aside)
    ∙ ap (λ (s : Option Spot). end_of (failed_in k epoch) (length work) served s) (walk_aside work k epoch ys aside.none)

-- no segment is left
pub all_done : (work : List Task) (k : ℕ) (epoch : List Line) (disk moved : ℕ) (writes : Bool) → Before work k epoch [] disk moved writes → ending work k epoch Okay ≡ Some Okay
all_done work k epoch disk moved writes b =
    ap (λ (failed : Bool). end_of failed (length work) Okay (walk_of false work k epoch)) b.whole
    ∙ (ap (λ (s : Option Spot). end_of false (length work) Okay s) b.came
    ∙ (ap (λ (l : List Task). if nat_le (length l) (length b.done) then Some Okay else None) (b.tail ∙ (ap (λ (l : List Task). b.done ++ l) (no_tasks writes) ∙ append-nil b.done))
    ∙ ap (λ (whole : Bool). if whole then Some Okay else None) (enough (length b.done))))
  where
    no_tasks : (w : Bool) → tasks_of w disk [] ≡ []
    no_tasks true = refl
    no_tasks false = refl

    enough : (n : ℕ) → nat_le n n ≡ true
    enough n = grind (arith, nat_tests)

-- the one task is done
pub one_done : (work : List Task) (k : ℕ) (epoch : List Line) (task : Task) → work ≡ task ∷ [] → failed_in k epoch ≡ false → walk_of false work k epoch ≡ Some (spot 1 0 false None) → ending work k epoch Okay ≡ Some Okay
one_done work k epoch task is whole came =
    ap (λ (failed : Bool). end_of failed (length work) Okay (walk_of false work k epoch)) whole
    ∙ (ap (λ (s : Option Spot). end_of false (length work) Okay s) came
    ∙ ap (λ (l : List Task). if nat_le (length l) 1 then Some Okay else None) is)

-- a map was refused
pub refused_end : (work : List Task) (k : ℕ) (epoch : List Line) (done place : ℕ) (mapping : Option ℕ) → failed_in k epoch ≡ false → walk_of false work k epoch ≡ Some (spot done place true mapping) → ending work k epoch Okay ≡ Some Error
refused_end work k epoch done place mapping whole came =
    ap (λ (failed : Bool). end_of failed (length work) Okay (walk_of false work k epoch)) whole ∙ ap (λ (s : Option Spot). end_of false (length work) Okay s) came

-- the disk failed
pub failed_end : (work : List Task) (k : ℕ) (epoch : List Line) → failed_in k epoch ≡ true → ending work k epoch Okay ≡ Some Error
failed_end work k epoch failed = ap (λ (f : Bool). end_of f (length work) Okay (walk_of false work k epoch)) failed

-- the task of the segment at hand
pub store_at : (work done : List Task) (segment : Segment) (more : List Segment) (writes : Bool) (begin : ℕ) → work ≡ done ++ tasks_of writes begin (segment ∷ more) → writes ≡ true → slice_get work (length done) ≡ Some (tasks.Store segment.gref ReadOnly begin segment.first (length_of segment))
store_at work done segment more writes begin tail is =
    ap (λ (l : List Task). slice_get l (length done)) (tail ∙ ap (λ (b : Bool). done ++ tasks_of b begin (segment ∷ more)) is)
    ∙ task_at done (stores_of false (begin + length_of segment) more) (tasks.Store segment.gref ReadOnly begin segment.first (length_of segment))

pub load_at : (work done : List Task) (segment : Segment) (more : List Segment) (writes : Bool) (begin : ℕ) → work ≡ done ++ tasks_of writes begin (segment ∷ more) → writes ≡ false → slice_get work (length done) ≡ Some (tasks.Load segment.gref begin segment.first (length_of segment))
load_at work done segment more writes begin tail is =
    ap (λ (l : List Task). slice_get l (length done)) (tail ∙ ap (λ (b : Bool). done ++ tasks_of b begin (segment ∷ more)) is)
    ∙ task_at done (loads_of (begin + length_of segment) more) (tasks.Load segment.gref begin segment.first (length_of segment))

-- the sectors after a segment are those of the tasks after its task
append_one : (done more : List Task) (task : Task) → done ++ task ∷ more ≡ (done ++ task ∷ []) ++ more
append_one [] more task = refl
append_one (d ∷ done) more task = ap (λ (l : List Task). d ∷ l) (append_one done more task)

length_one : (done : List Task) (task : Task) → length (done ++ task ∷ []) ≡ length done + 1
length_one [] task = refl
length_one (d ∷ done) task = let rest = length_one done task in omega arith

pub record Passed (work done : List Task) (writes : Bool) (after : ℕ) (more : List Segment) : Type 0 where
  pub all : List Task
  pub tail : work ≡ all ++ tasks_of writes after more
  pub long : length all ≡ length done + 1

pub passed : (work done : List Task) (segment : Segment) (more : List Segment) (writes : Bool) (begin : ℕ) → work ≡ done ++ tasks_of writes begin (segment ∷ more) → Passed work done writes (begin + length_of segment) more
passed work done segment more true begin tail = record {
  all = done ++ tasks.Store segment.gref ReadOnly begin segment.first (length_of segment) ∷ [];
  tail = tail ∙ append_one done (stores_of false (begin + length_of segment) more) (tasks.Store segment.gref ReadOnly begin segment.first (length_of segment));
  long = length_one done (tasks.Store segment.gref ReadOnly begin segment.first (length_of segment));
}
passed work done segment more false begin tail = record {
  all = done ++ tasks.Load segment.gref begin segment.first (length_of segment) ∷ [];
  tail = tail ∙ append_one done (loads_of (begin + length_of segment) more) (tasks.Load segment.gref begin segment.first (length_of segment));
  long = length_one done (tasks.Load segment.gref begin segment.first (length_of segment));
}

-- a move is the next step of the job's work, through the mapping in hand
pub record IsStepOn (work : List Task) (k : ℕ) (epoch : List Line) (shown : Move) : Type 0 where
  pub here : Spot
  pub after : Spot
  pub came : walk_of false work k epoch ≡ Some here
  pub taken : option_and_then (advanced false work shown) (walk_of false work k epoch) ≡ Some after
  pub hand : IfSome (touched_by shown) (λ (number : ℕ). here.mapping ≡ Some number)
  pub whole : failed_in k epoch ≡ false
