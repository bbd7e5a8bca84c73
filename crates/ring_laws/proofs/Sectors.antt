-- A job goes through the sectors of a segment.
use Rattle.std.proofs.Common.{◌≡◌, ℕ, ◌+◌, ◌-◌, ◌*◌, ◌<◌, ◌≤◌, Bool, true, false, List, length, refl, ap, ◌∙◌, arith}
use Rattle.std.specs.Prelude.{slice_get, Option, Some, None, option_and_then, is_none}
use Rattle.blk_base.specs.declared.parts.Mapping.{Mapping}
use Rattle.blk_base.specs.declared.parts.Mode.TheVariants.{ReadOnly}
use Rattle.blk_base.specs.declared.moves.BackMover.TheVariants as back
use Rattle.blk_base.specs.declared.moves.Move.{Move}
use Rattle.blk_base.specs.declared.moves.Move.TheVariants as moves
use Rattle.schedule_text.specs.declared.line.Line.{Line}
use Rattle.blk_layout.specs.declared.segment.Segment.{Segment}
use Rattle.segment_list.specs.Segments.{length_of}
use Rattle.report_rules.specs.declared.work.Task.{Task}
use Rattle.report_rules.specs.declared.work.Task.TheVariants as tasks
use Rattle.report_rules.specs.Step.{is_refusal}
use Rattle.report_rules.specs.Walk.{spot, advanced, walk_of, is_step_at, step_at, mapping_after}
use Rattle.ring_laws.proofs.TaskSteps.{advances, IsPlace, store_read, store_disk, store_more, store_end, load_disk, load_write, load_more, load_end}
use Rattle.ring_laws.proofs.Places.{Within, store_at, load_at}

-- sector i of a segment that has as many as this
sector_within : (first last within i : ℕ) → within ≡ first + i → within ≤ last → i < last - first + 1
sector_within first last within i e h = omega arith

at_place : (first last within i j : ℕ) → within ≡ first + i → within ≤ last → j < 129 → IsPlace (1 + (129 * i + j)) i j (last - first + 1)
at_place first last within i j e h small = record { is = refl; sector = sector_within first last within i e h; step = small }

one_on : (i j : ℕ) → 1 + (129 * i + j) + 1 ≡ 1 + (129 * i + (j + 1))
one_on i j = omega arith

-- the next step of the same sector, or of the next one
pub goes_on : (work : List Task) (k : ℕ) (epoch : List Line) (rest : List Segment) (within disk moved : ℕ) (writes : Bool) (j ahead : ℕ) (m : Mapping) (shown : Move) (task : Task) (w : Within work k epoch rest within disk moved writes j ahead m)
    → slice_get work (length w.done) ≡ Some task → mapping_after (Some m.number) shown ≡ Some m.number → is_refusal shown ≡ false → is_step_at (step_at task (1 + (129 * w.i + j))) shown ≡ true → is_none (step_at task (1 + (129 * w.i + (j + 1)))) ≡ false
    → option_and_then (advanced false work shown) (walk_of false work k epoch) ≡ Some (spot (length w.done) (1 + (129 * w.i + (j + 1))) false (Some m.number))
goes_on work k epoch rest within disk moved writes j ahead m shown task w found stay plain is more =
    let next : is_none (step_at task (1 + (129 * w.i + j) + 1)) ≡ false = ap (λ (n : ℕ). is_none (step_at task n)) (one_on w.i j) ∙ more in
    ap (λ s. option_and_then (advanced false work shown) s) w.came
    ∙ (advances work (length w.done) (1 + (129 * w.i + j)) (Some m.number) task shown false found is next
    ∙ (ap (λ (n : ℕ). Some (spot (length w.done) n (is_refusal shown) (mapping_after (Some m.number) shown))) (one_on w.i j)
    ∙ (ap (λ (b : Bool). Some (spot (length w.done) (1 + (129 * w.i + (j + 1))) b (mapping_after (Some m.number) shown))) plain
    ∙ ap (λ (o : Option ℕ). Some (spot (length w.done) (1 + (129 * w.i + (j + 1))) false o)) stay)))

-- the last step of the last sector
pub goes_past : (work : List Task) (k : ℕ) (epoch : List Line) (rest : List Segment) (within disk moved : ℕ) (writes : Bool) (j ahead : ℕ) (m : Mapping) (shown : Move) (task : Task) (w : Within work k epoch rest within disk moved writes j ahead m)
    → slice_get work (length w.done) ≡ Some task → is_refusal shown ≡ false → is_step_at (step_at task (1 + (129 * w.i + j))) shown ≡ true → is_none (step_at task (1 + (129 * w.i + (j + 1)))) ≡ true
    → option_and_then (advanced false work shown) (walk_of false work k epoch) ≡ Some (spot (length w.done + 1) 0 false None)
goes_past work k epoch rest within disk moved writes j ahead m shown task w found plain is more =
    let next : is_none (step_at task (1 + (129 * w.i + j) + 1)) ≡ true = ap (λ (n : ℕ). is_none (step_at task n)) (one_on w.i j) ∙ more in
    ap (λ s. option_and_then (advanced false work shown) s) w.came
    ∙ (advances work (length w.done) (1 + (129 * w.i + j)) (Some m.number) task shown true found is next
    ∙ ap (λ (b : Bool). Some (spot (length w.done + 1) 0 b None)) plain)

-- a word of a sector that is to be written to the disk was read
pub word_read : (work : List Task) (k : ℕ) (epoch : List Line) (rest : List Segment) (within disk moved : ℕ) (writes : Bool) (j : ℕ) (m : Mapping) (frame value : ℕ) (w : Within work k epoch rest within disk moved writes j 1 m) → j < 128 → writes ≡ true
    → option_and_then (advanced false work (moves.Read (back.Job k) m.number frame (within * 128 + j) value)) (walk_of false work k epoch) ≡ Some (spot (length w.done) (1 + (129 * w.i + (j + 1))) false (Some m.number))
word_read work k epoch rest within disk moved writes j m frame value w small is =
    let s : Segment = w.segment in
    let e = w.sector in
    let word : within * 128 + j ≡ 128 * (w.segment.first + w.i) + j = omega arith in
    goes_on work k epoch rest within disk moved writes j 1 m (moves.Read (back.Job k) m.number frame (within * 128 + j) value) (tasks.Store s.gref ReadOnly w.begin s.first (length_of s)) w
    (store_at work w.done s w.more writes w.begin w.tail is) refl refl
    (store_read s.gref w.begin s.first (length_of s) w.i j (1 + (129 * w.i + j)) (within * 128 + j) ReadOnly (back.Job k) m.number frame value (at_place s.first s.last within w.i j w.sector w.inside (omega arith)) small word)
    (store_more s.gref w.begin s.first (length_of s) w.i (j + 1) (1 + (129 * w.i + (j + 1))) ReadOnly (at_place s.first s.last within w.i (j + 1) w.sector w.inside (omega arith)))

-- a word of a sector that the disk gave was written to the frame, but not the last
pub word_written : (work : List Task) (k : ℕ) (epoch : List Line) (rest : List Segment) (within disk moved : ℕ) (writes : Bool) (j : ℕ) (m : Mapping) (frame value : ℕ) (w : Within work k epoch rest within disk moved writes (1 + j) 0 m) → j < 127 → writes ≡ false
    → option_and_then (advanced false work (moves.Write (back.Job k) m.number frame (within * 128 + j) value)) (walk_of false work k epoch) ≡ Some (spot (length w.done) (1 + (129 * w.i + (1 + j + 1))) false (Some m.number))
word_written work k epoch rest within disk moved writes j m frame value w small is =
    let s : Segment = w.segment in
    let e = w.sector in
    let word : within * 128 + j ≡ 128 * (w.segment.first + w.i) + j = omega arith in
    goes_on work k epoch rest within disk moved writes (1 + j) 0 m (moves.Write (back.Job k) m.number frame (within * 128 + j) value) (tasks.Load s.gref w.begin s.first (length_of s)) w
    (load_at work w.done s w.more writes w.begin w.tail is) refl refl
    (load_write s.gref w.begin s.first (length_of s) w.i j (1 + (129 * w.i + (1 + j))) (within * 128 + j) (back.Job k) m.number frame value (at_place s.first s.last within w.i (1 + j) w.sector w.inside (omega arith)) word)
    (load_more s.gref w.begin s.first (length_of s) w.i (1 + j + 1) (1 + (129 * w.i + (1 + j + 1))) (at_place s.first s.last within w.i (1 + j + 1) w.sector w.inside (omega arith)))

-- the disk gave a sector
pub sector_given : (work : List Task) (k : ℕ) (epoch : List Line) (rest : List Segment) (within disk moved : ℕ) (writes : Bool) (m : Mapping) (w : Within work k epoch rest within disk moved writes 0 1 m) → writes ≡ false
    → option_and_then (advanced false work (moves.DiskRead k disk)) (walk_of false work k epoch) ≡ Some (spot (length w.done) (1 + (129 * w.i + (0 + 1))) false (Some m.number))
sector_given work k epoch rest within disk moved writes m w is =
    let s : Segment = w.segment in
    let e = w.disk_is in
    let at : disk ≡ w.begin + w.i = omega arith in
    goes_on work k epoch rest within disk moved writes 0 1 m (moves.DiskRead k disk) (tasks.Load s.gref w.begin s.first (length_of s)) w
    (load_at work w.done s w.more writes w.begin w.tail is) refl refl
    (load_disk s.gref w.begin s.first (length_of s) w.i (1 + (129 * w.i + 0)) k disk (at_place s.first s.last within w.i 0 w.sector w.inside (omega arith)) at)
    (load_more s.gref w.begin s.first (length_of s) w.i (0 + 1) (1 + (129 * w.i + (0 + 1))) (at_place s.first s.last within w.i (0 + 1) w.sector w.inside (omega arith)))

next_place : (first last within i j : ℕ) → within ≡ first + i → within + 1 ≤ last → j ≡ 129 → IsPlace (1 + (129 * i + j)) (i + 1) 0 (last - first + 1)
next_place first last within i j e h is = record { is = omega arith; sector = omega arith; step = omega arith }

end_place : (first last within i j : ℕ) → within ≡ first + i → within ≡ last → j ≡ 129 → 1 + (129 * i + j) ≡ 1 + 129 * (last - first + 1)
end_place first last within i j e h is = omega arith

-- the last step of a sector, after which another comes, or none
pub sector_taken : (work : List Task) (k : ℕ) (epoch : List Line) (rest : List Segment) (within disk moved : ℕ) (writes : Bool) (m : Mapping) (w : Within work k epoch rest within disk moved writes 128 1 m) → writes ≡ true → within + 1 ≤ w.segment.last
    → option_and_then (advanced false work (moves.DiskWrite k disk)) (walk_of false work k epoch) ≡ Some (spot (length w.done) (1 + (129 * w.i + (128 + 1))) false (Some m.number))
sector_taken work k epoch rest within disk moved writes m w is more =
    let s : Segment = w.segment in
    let e = w.disk_is in
    let at : disk ≡ w.begin + w.i = omega arith in
    goes_on work k epoch rest within disk moved writes 128 1 m (moves.DiskWrite k disk) (tasks.Store s.gref ReadOnly w.begin s.first (length_of s)) w
    (store_at work w.done s w.more writes w.begin w.tail is) refl refl
    (store_disk s.gref w.begin s.first (length_of s) w.i (1 + (129 * w.i + 128)) k disk ReadOnly (at_place s.first s.last within w.i 128 w.sector w.inside (omega arith)) at)
    (store_more s.gref w.begin s.first (length_of s) (w.i + 1) 0 (1 + (129 * w.i + (128 + 1))) ReadOnly (next_place s.first s.last within w.i (128 + 1) w.sector more refl))

pub last_taken : (work : List Task) (k : ℕ) (epoch : List Line) (rest : List Segment) (within disk moved : ℕ) (writes : Bool) (m : Mapping) (w : Within work k epoch rest within disk moved writes 128 1 m) → writes ≡ true → within ≡ w.segment.last
    → option_and_then (advanced false work (moves.DiskWrite k disk)) (walk_of false work k epoch) ≡ Some (spot (length w.done + 1) 0 false None)
last_taken work k epoch rest within disk moved writes m w is last =
    let s : Segment = w.segment in
    let e = w.disk_is in
    let at : disk ≡ w.begin + w.i = omega arith in
    goes_past work k epoch rest within disk moved writes 128 1 m (moves.DiskWrite k disk) (tasks.Store s.gref ReadOnly w.begin s.first (length_of s)) w
    (store_at work w.done s w.more writes w.begin w.tail is) refl
    (store_disk s.gref w.begin s.first (length_of s) w.i (1 + (129 * w.i + 128)) k disk ReadOnly (at_place s.first s.last within w.i 128 w.sector w.inside (omega arith)) at)
    (store_end s.gref w.begin s.first (length_of s) (1 + (129 * w.i + (128 + 1))) ReadOnly (end_place s.first s.last within w.i (128 + 1) w.sector last refl) (omega arith))

pub sector_filled : (work : List Task) (k : ℕ) (epoch : List Line) (rest : List Segment) (within disk moved : ℕ) (writes : Bool) (m : Mapping) (frame value : ℕ) (w : Within work k epoch rest within disk moved writes (1 + 127) 0 m) → writes ≡ false → within + 1 ≤ w.segment.last
    → option_and_then (advanced false work (moves.Write (back.Job k) m.number frame (within * 128 + 127) value)) (walk_of false work k epoch) ≡ Some (spot (length w.done) (1 + (129 * w.i + (1 + 127 + 1))) false (Some m.number))
sector_filled work k epoch rest within disk moved writes m frame value w is more =
    let s : Segment = w.segment in
    let e = w.sector in
    let word : within * 128 + 127 ≡ 128 * (w.segment.first + w.i) + 127 = omega arith in
    goes_on work k epoch rest within disk moved writes (1 + 127) 0 m (moves.Write (back.Job k) m.number frame (within * 128 + 127) value) (tasks.Load s.gref w.begin s.first (length_of s)) w
    (load_at work w.done s w.more writes w.begin w.tail is) refl refl
    (load_write s.gref w.begin s.first (length_of s) w.i 127 (1 + (129 * w.i + (1 + 127))) (within * 128 + 127) (back.Job k) m.number frame value (at_place s.first s.last within w.i (1 + 127) w.sector w.inside (omega arith)) word)
    (load_more s.gref w.begin s.first (length_of s) (w.i + 1) 0 (1 + (129 * w.i + (1 + 127 + 1))) (next_place s.first s.last within w.i (1 + 127 + 1) w.sector more refl))

pub last_filled : (work : List Task) (k : ℕ) (epoch : List Line) (rest : List Segment) (within disk moved : ℕ) (writes : Bool) (m : Mapping) (frame value : ℕ) (w : Within work k epoch rest within disk moved writes (1 + 127) 0 m) → writes ≡ false → within ≡ w.segment.last
    → option_and_then (advanced false work (moves.Write (back.Job k) m.number frame (within * 128 + 127) value)) (walk_of false work k epoch) ≡ Some (spot (length w.done + 1) 0 false None)
last_filled work k epoch rest within disk moved writes m frame value w is last =
    let s : Segment = w.segment in
    let e = w.sector in
    let word : within * 128 + 127 ≡ 128 * (w.segment.first + w.i) + 127 = omega arith in
    goes_past work k epoch rest within disk moved writes (1 + 127) 0 m (moves.Write (back.Job k) m.number frame (within * 128 + 127) value) (tasks.Load s.gref w.begin s.first (length_of s)) w
    (load_at work w.done s w.more writes w.begin w.tail is) refl
    (load_write s.gref w.begin s.first (length_of s) w.i 127 (1 + (129 * w.i + (1 + 127))) (within * 128 + 127) (back.Job k) m.number frame value (at_place s.first s.last within w.i (1 + 127) w.sector w.inside (omega arith)) word)
    (load_end s.gref w.begin s.first (length_of s) (1 + (129 * w.i + (1 + 127 + 1))) (end_place s.first s.last within w.i (1 + 127 + 1) w.sector last refl) (omega arith))
