-- The steps of a segment's task, and how a step takes a job on.
use Rattle.std.proofs.Common.{◌≡◌, ℕ, ◌+◌, ◌-◌, ◌*◌, ◌/◌, ◌%◌, ◌<◌, ◌==◌, Bool, true, false, if◌then◌else◌, List, [], ◌∷◌, ◌++◌, length, refl, ap, ◌∙◌, arith}
use Rattle.std.specs.Prelude.{slice_get, Option, Some, None, is_none, option_and_then, nat_le, nat_lt}
use Rattle.std.proofs.lemmas.Bool.Decides.{nat_tests}
use Rattle.blk_base.specs.declared.parts.Mode.{Mode}
use Rattle.blk_base.specs.declared.moves.BackMover.{BackMover}
use Rattle.blk_base.specs.declared.moves.Move.{Move}
use Rattle.blk_base.specs.declared.moves.Move.TheVariants as moves
use Rattle.report_rules.specs.declared.work.Task.{Task}
use Rattle.report_rules.specs.declared.work.Task.TheVariants as tasks
use Rattle.report_rules.specs.Step.{is_refusal}
use Rattle.report_rules.specs.Walk.{spot, step_at, is_step_at, mapping_after, spot_after, spot_in, advanced}

pub task_at : (done more : List Task) (task : Task) → slice_get (done ++ task ∷ more) (length done) ≡ Some task
task_at [] more task = refl
task_at (d ∷ done) more task = task_at done more task

-- where a move is the next step, it takes the job one place on, or to the next task
pub advances : (work : List Task) (n place : ℕ) (mapping : Option ℕ) (task : Task) (move : Move) (last : Bool) → slice_get work n ≡ Some task → is_step_at (step_at task place) move ≡ true → is_none (step_at task (place + 1)) ≡ last
    → option_and_then (advanced false work move) (Some (spot n place false mapping)) ≡ Some (if last then spot (n + 1) 0 (is_refusal move) None else spot n (place + 1) (is_refusal move) (mapping_after mapping move))
advances work n place mapping task move last found is next =
    ap (λ (t : Option Task). spot_in false n t place mapping move) found
    ∙ (ap (λ (b : Bool). if b then Some (spot_after n task place mapping move) else None) is
    ∙ ap (λ (b : Bool). Some (if b then spot (n + 1) 0 (is_refusal move) None else spot n (place + 1) (is_refusal move) (mapping_after mapping move))) next)

-- the place of step j of sector i of a segment
pub record IsPlace (place i j count : ℕ) : Type 0 where
  pub is : place ≡ 1 + (129 * i + j)
  pub sector : i < count
  pub step : j < 129

past_first : (place i j count : ℕ) → IsPlace place i j count → (place == 0) ≡ false
past_first place i j count p = let is = p.is in grind (arith, nat_tests)

sector_of : (place i j count : ℕ) → IsPlace place i j count → (place - 1) / 129 ≡ i
sector_of place i j count p = let is = p.is in let s = p.step in omega arith

step_of : (place i j count : ℕ) → IsPlace place i j count → (place - 1) % 129 ≡ j
step_of place i j count p = let is = p.is in let s = p.step in omega arith

in_count : (place i j count : ℕ) → IsPlace place i j count → nat_le count i ≡ false
in_count place i j count p = let s = p.sector in grind (arith, nat_tests)

same : (a b : ℕ) → a ≡ b → (a == b) ≡ true
same a b e = grind (arith, nat_tests)

below : (a b : ℕ) → a < b → nat_lt a b ≡ true
below a b h = grind (arith, nat_tests)

either_step : {X : Type 0} (b : Bool) (x y : X) → is_none (if b then Some x else Some y) ≡ false
either_step true x y = refl
either_step false x y = refl

-- a word of a sector that is written to the disk
pub store_read : (gref d first count i j place word : ℕ) (mode : Mode) (who : BackMover) (number frame value : ℕ) → IsPlace place i j count → j < 128 → word ≡ 128 * (first + i) + j → is_step_at (step_at (tasks.Store gref mode d first count) place) (moves.Read who number frame word value) ≡ true
store_read gref d first count i j place word mode who number frame value p small is =
    let e0 = past_first place i j count p in
    let e1 = sector_of place i j count p in
    let e2 = step_of place i j count p in
    let e3 = in_count place i j count p in
    let e4 = below j 128 small in
    rw (e0, e1, e2, e3, e4) (same word (128 * (first + i) + j) is)

-- and the sector
pub store_disk : (gref d first count i place k sector : ℕ) (mode : Mode) → IsPlace place i 128 count → sector ≡ d + i → is_step_at (step_at (tasks.Store gref mode d first count) place) (moves.DiskWrite k sector) ≡ true
store_disk gref d first count i place k sector mode p is =
    let e0 = past_first place i 128 count p in
    let e1 = sector_of place i 128 count p in
    let e2 = step_of place i 128 count p in
    let e3 = in_count place i 128 count p in
    rw (e0, e1, e2, e3) (same sector (d + i) is)

pub store_more : (gref d first count i j place : ℕ) (mode : Mode) → IsPlace place i j count → is_none (step_at (tasks.Store gref mode d first count) place) ≡ false
store_more gref d first count i j place mode p =
    let e0 = past_first place i j count p in
    let e1 = sector_of place i j count p in
    let e2 = step_of place i j count p in
    let e3 = in_count place i j count p in
    rw (e0, e1, e2, e3) (either_step (nat_lt j 128) _ _)

-- a sector that is read from the disk
pub load_disk : (gref d first count i place k sector : ℕ) → IsPlace place i 0 count → sector ≡ d + i → is_step_at (step_at (tasks.Load gref d first count) place) (moves.DiskRead k sector) ≡ true
load_disk gref d first count i place k sector p is =
    let e0 = past_first place i 0 count p in
    let e1 = sector_of place i 0 count p in
    let e2 = step_of place i 0 count p in
    let e3 = in_count place i 0 count p in
    rw (e0, e1, e2, e3) (same sector (d + i) is)

-- and a word of it
pub load_write : (gref d first count i j place word : ℕ) (who : BackMover) (number frame value : ℕ) → IsPlace place i (1 + j) count → word ≡ 128 * (first + i) + j → is_step_at (step_at (tasks.Load gref d first count) place) (moves.Write who number frame word value) ≡ true
load_write gref d first count i j place word who number frame value p is =
    let e0 = past_first place i (1 + j) count p in
    let e1 = sector_of place i (1 + j) count p in
    let e2 = step_of place i (1 + j) count p in
    let e3 = in_count place i (1 + j) count p in
    let e4 : (1 + j == 0) ≡ false = grind (arith, nat_tests) in
    let e5 : 1 + j - 1 ≡ j = omega arith in
    rw (e0, e1, e2, e3, e4, e5) (same word (128 * (first + i) + j) is)

pub load_more : (gref d first count i j place : ℕ) → IsPlace place i j count → is_none (step_at (tasks.Load gref d first count) place) ≡ false
load_more gref d first count i j place p =
    let e0 = past_first place i j count p in
    let e1 = sector_of place i j count p in
    let e2 = step_of place i j count p in
    let e3 = in_count place i j count p in
    rw (e0, e1, e2, e3) (either_step (j == 0) _ _)

-- past the last sector there is none
past_end : (place count : ℕ) → place ≡ 1 + 129 * count → 0 < count → ((place == 0) ≡ false) × (nat_le count ((place - 1) / 129) ≡ true)
past_end place count is some =
    let sector : (place - 1) / 129 ≡ count = omega arith in
    (grind (arith, nat_tests), grind (arith, nat_tests))

pub store_end : (gref d first count place : ℕ) (mode : Mode) → place ≡ 1 + 129 * count → 0 < count → is_none (step_at (tasks.Store gref mode d first count) place) ≡ true
store_end gref d first count place mode is some =
    let e = past_end place count is some in
    let e0 : (place == 0) ≡ false = e.0 in
    let e1 : nat_le count ((place - 1) / 129) ≡ true = e.1 in
    rw (e0, e1) refl

pub load_end : (gref d first count place : ℕ) → place ≡ 1 + 129 * count → 0 < count → is_none (step_at (tasks.Load gref d first count) place) ≡ true
load_end gref d first count place is some =
    let e = past_end place count is some in
    let e0 : (place == 0) ≡ false = e.0 in
    let e1 : nat_le count ((place - 1) / 129) ≡ true = e.1 in
    rw (e0, e1) refl
