-- A job maps the frame of its next segment.
use Rattle.std.proofs.Common.{◌≡◌, ℕ, ◌+◌, ◌<◌, ◌&&◌, Bool, true, false, List, [], ◌∷◌, ◌++◌, length, refl, ap, ◌∙◌, arith}
use Rattle.std.specs.Prelude.{slice_get, Some, None, option_and_then, is_none, ℤ}
use Rattle.std.proofs.lemmas.List.Sums.{sum_by-cons}
use Rattle.blk_base.specs.declared.parts.Mapping.{Mapping}
use Rattle.blk_base.specs.declared.parts.Mode.TheVariants.{ReadOnly}
use Rattle.blk_base.specs.declared.moves.BackMover.TheVariants as back
use Rattle.blk_base.specs.declared.moves.Move.{Move}
use Rattle.blk_base.specs.declared.moves.Move.TheVariants as moves
use Rattle.schedule_text.specs.declared.line.Line.{Line}
use Rattle.schedule_text.specs.declared.line.Line.TheVariants as lines
use Rattle.blk_layout.specs.declared.segment.Segment.{Segment}
use Rattle.segment_list.specs.Segments.{IsSound, length_of}
use Rattle.report_rules.specs.declared.work.Task.{Task}
use Rattle.report_rules.specs.declared.work.Task.TheVariants as tasks
use Rattle.report_rules.specs.Step.{is_refusal}
use Rattle.report_rules.specs.Walk.{spot, advanced, walk_of, is_step_at, step_at, mapping_after}
use Rattle.back_jobs.specs.Work.{mode_of}
use Rattle.ring_laws.proofs.JobLines.{walk_own, moves_step, failed_own}
use Rattle.ring_laws.proofs.TaskSteps.{advances, IsPlace, store_more, load_more}
use Rattle.ring_laws.proofs.Places.{tasks_of, Before, Within, store_at, load_at}
use Rattle.ring_laws.proofs.JobMoves.{itself}

-- the task of a segment
abbrev pub task_of : Bool → ℕ → Segment → Task
task_of true disk s = tasks.Store s.gref ReadOnly disk s.first (length_of s)
task_of false disk s = tasks.Load s.gref disk s.first (length_of s)

task_found : (writes : Bool) (work done : List Task) (s : Segment) (more : List Segment) (disk : ℕ) → work ≡ done ++ tasks_of writes disk (s ∷ more) → slice_get work (length done) ≡ Some (task_of writes disk s)
task_found true work done s more disk tail = store_at work done s more true disk tail refl
task_found false work done s more disk tail = load_at work done s more false disk tail refl

first_place : (count : ℕ) → 0 < count → IsPlace 1 0 0 count
first_place count some = record { is = refl; sector = some; step = omega arith }

task_more : (writes : Bool) (disk : ℕ) (s : Segment) → is_none (step_at (task_of writes disk s) (0 + 1)) ≡ false
task_more true disk s = store_more s.gref disk s.first (length_of s) 0 0 1 ReadOnly (first_place (length_of s) (omega arith))
task_more false disk s = load_more s.gref disk s.first (length_of s) 0 0 1 (first_place (length_of s) (omega arith))

-- what a job asks is the first step of that task, whatever the answer
pub map_is : (writes : Bool) (disk : ℕ) (s : Segment) (k number frame : ℕ) → is_step_at (step_at (task_of writes disk s) 0) (moves.Map (back.Job k) s.gref (mode_of writes) number frame) ≡ true
map_is true disk s k number frame = ap (λ (b : Bool). b && true) (itself s.gref)
map_is false disk s k number frame = ap (λ (b : Bool). b && true) (itself s.gref)

pub refusal_is : (writes : Bool) (disk : ℕ) (s : Segment) (k : ℕ) (status : ℤ) → is_step_at (step_at (task_of writes disk s) 0) (moves.MapRefused (back.Job k) s.gref (mode_of writes) status) ≡ true
refusal_is true disk s k status = ap (λ (b : Bool). b && true) (itself s.gref)
refusal_is false disk s k status = ap (λ (b : Bool). b && true) (itself s.gref)

pub map_taken : (work : List Task) (k : ℕ) (epoch : List Line) (s : Segment) (more : List Segment) (disk moved : ℕ) (writes : Bool) (shown : Move) (b : Before work k epoch (s ∷ more) disk moved writes) → is_step_at (step_at (task_of writes disk s) 0) shown ≡ true
    → option_and_then (advanced false work shown) (walk_of false work k epoch) ≡ Some (spot (length b.done) 1 (is_refusal shown) (mapping_after None shown))
map_taken work k epoch s more disk moved writes shown b is =
    ap (λ x. option_and_then (advanced false work shown) x) b.came
    ∙ advances work (length b.done) 0 None (task_of writes disk s) shown false (task_found writes work b.done s more disk b.tail) is (task_more writes disk s)

-- the first sector of the segment is next
pub mapped_on : (work : List Task) (k : ℕ) (epoch : List Line) (s : Segment) (more : List Segment) (within disk moved : ℕ) (writes : Bool) (m : Mapping) (frame : ℕ) (b : Before work k epoch (s ∷ more) disk moved writes) → within ≡ s.first → m.gref ≡ s.gref
    → Within work k (epoch ++ lines.Move (moves.Map (back.Job k) s.gref (mode_of writes) m.number frame) ∷ []) (s ∷ more) within disk moved writes 0 1 m
mapped_on work k epoch s more within disk moved writes m frame b first gref =
    let few = b.few in
    let one = sum_by-cons length_of s more in
    let sound : IsSound s = b.sound.0 in
    let nonempty = sound.nonempty in
    record {
      segment = s;
      more = more;
      rest_is = refl;
      i = 0;
      sector = omega arith;
      inside = omega arith;
      begin = disk;
      disk_is = omega arith;
      done = b.done;
      tail = b.tail;
      came = walk_own work k epoch [] (moves.Map (back.Job k) s.gref (mode_of writes) m.number frame) (itself k) refl ∙ map_taken work k epoch s more disk moved writes (moves.Map (back.Job k) s.gref (mode_of writes) m.number frame) b (map_is writes disk s k m.number frame);
      gref = gref;
      sound = b.sound;
      few = omega arith;
      counted = moves_step k epoch [] (lines.Move (moves.Map (back.Job k) s.gref (mode_of writes) m.number frame)) refl refl ∙ b.counted;
      whole = failed_own k epoch [] (lines.Move (moves.Map (back.Job k) s.gref (mode_of writes) m.number frame)) refl refl refl b.whole;
    }
