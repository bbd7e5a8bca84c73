-- Where the map of a task may be missing, told by the list of its steps and by places.
use Rattle.std.proofs.Common.{◌≡◌, ℕ, zero, suc, ◌+◌, ◌-◌, ◌*◌, ◌/◌, ◌%◌, ◌==◌, ◌&&◌, Bool, true, false, if◌then◌else◌, List, [], ◌∷◌, ◌++◌, drop, refl, ap, sym, ◌∙◌, arith}
use Rattle.std.specs.Prelude.{nat_lt, nat_le, Option, Some, None}
use Rattle.std.proofs.lemmas.Bool.Decides.{nat_tests}
use Rattle.blk_base.specs.declared.parts.Mode.TheVariants.{ReadOnly, ReadWrite}
use Rattle.blk_base.specs.declared.moves.Move.{Move}
use Rattle.report_rules.specs.declared.work.Task.{Task}
use Rattle.report_rules.specs.declared.work.Task.TheVariants as tasks
use Rattle.report_rules.specs.declared.step.Step.{Step}
use Rattle.report_rules.specs.declared.step.Step.TheVariants as steps
use Rattle.report_rules.specs.Step.{steps_in, steps_of, is_step, is_on_frame, begins_on_frame, may_be_missing}
use Rattle.report_rules.specs.Walk.{step_at, is_step_at, is_on_data, is_unmapped_step}
use Rattle.report_rules.proofs.StepPlaces.{at_place, drop_at, drop_past}

-- whether a map may be missing, by the step of a place
abbrev pub missing_at : Bool → Option Step → Bool
missing_at persistent None = false
missing_at persistent (Some x) = may_be_missing persistent x

no_map : (persistent : Bool) (t : Task) (q : ℕ) → missing_at persistent (step_at t (suc q)) ≡ false
no_map persistent t q = let some : (suc q == 0) ≡ false = grind (arith, nat_tests) in by_task t some
  where
    one : (b : Bool) (w : ℕ) → missing_at persistent (if b then None else Some (steps.Read w)) ≡ false
    one true w = refl
    one false w = refl

    store : (a b : Bool) (w d : ℕ) → missing_at persistent (if a then None else (if b then Some (steps.Read w) else Some (steps.DiskWrite d))) ≡ false
    store true b w d = refl
    store false true w d = refl
    store false false w d = refl

    load : (a b : Bool) (w d : ℕ) → missing_at persistent (if a then None else (if b then Some (steps.DiskRead d) else Some (steps.Write w))) ≡ false
    load true b w d = refl
    load false true w d = refl
    load false false w d = refl

    by_task : (u : Task) → (suc q == 0) ≡ false → missing_at persistent (step_at u (suc q)) ≡ false
    by_task (tasks.Page gref words) some = rw some (one (nat_lt words (suc q)) (suc q - 1))
    by_task (tasks.Store gref mode sector first count) some = rw some (store (nat_le count ((suc q - 1) / 129)) (nat_lt ((suc q - 1) % 129) 128) _ _)
    by_task (tasks.Load gref sector first count) some = rw some (load (nat_le count ((suc q - 1) / 129)) ((suc q - 1) % 129 == 0) _ _)
    by_task tasks.Flush some = rw some refl
    by_task (tasks.Trim sector count) some = rw some refl

-- the step past a map, if there is one, is on its frame
abbrev framed : Option Step → Bool
framed None = true
framed (Some x) = is_on_frame x

on_frame : (t : Task) → framed (step_at t 1) ≡ true
on_frame (tasks.Page gref words) = by_test (nat_lt words 1)
  where
    by_test : (b : Bool) → framed (if b then None else Some (steps.Read 0)) ≡ true
    by_test true = refl
    by_test false = refl
on_frame (tasks.Store gref mode sector first count) = by_test (nat_le count 0)
  where
    by_test : (b : Bool) → framed (if b then None else Some (steps.Read (128 * (first + 0) + 0))) ≡ true
    by_test true = refl
    by_test false = refl
on_frame (tasks.Load gref sector first count) = by_test (nat_le count 0)
  where
    by_test : (b : Bool) → framed (if b then None else Some (steps.DiskRead (sector + 0))) ≡ true
    by_test true = refl
    by_test false = refl
on_frame tasks.Flush = refl
on_frame (tasks.Trim sector count) = refl

-- no work begins on a frame
begins_off : (rest : List Task) (m : Move) → begins_on_frame (steps_of rest) m ≡ false
begins_off [] m = refl
begins_off (tasks.Page gref words ∷ rest) m = refl
begins_off (tasks.Store gref mode sector first count ∷ rest) m = refl
begins_off (tasks.Load gref sector first count ∷ rest) m = refl
begins_off (tasks.Flush ∷ rest) m = refl
begins_off (tasks.Trim sector count ∷ rest) m = refl

past_map_step : (t : Task) (rest : List Task) (m : Move) → begins_on_frame (drop 1 (steps_in t) ++ steps_of rest) m ≡ is_step_at (step_at t 1) m
past_map_step t rest m = by_next (step_at t 1) refl
  where
    by_next : (o : Option Step) → step_at t 1 ≡ o → begins_on_frame (drop 1 (steps_in t) ++ steps_of rest) m ≡ is_step_at o m
    by_next None e = ap (λ (l : List Step). begins_on_frame (l ++ steps_of rest) m) (drop_past (steps_in t) 1 (at_place t 1 ∙ e)) ∙ begins_off rest m
    by_next (Some y) e =
        ap (λ (l : List Step). begins_on_frame (l ++ steps_of rest) m) (drop_at (steps_in t) 1 y (at_place t 1 ∙ e))
        ∙ ap (λ (b : Bool). b && is_step y m) (ap framed (sym e) ∙ on_frame t)

-- a map is missing where the step past it comes in its place
pub missing : (persistent : Bool) (t : Task) (place : ℕ) (rest : List Task) (m : Move) → is_unmapped_step persistent t place m ≡ (missing_at persistent (step_at t place) && begins_on_frame (drop (suc place) (steps_in t) ++ steps_of rest) m)
missing persistent t zero rest m = by_task persistent t (past_map_step t rest m)
  where
    by_task : (p : Bool) (u : Task) → begins_on_frame (drop 1 (steps_in u) ++ steps_of rest) m ≡ is_step_at (step_at u 1) m → is_unmapped_step p u 0 m ≡ (missing_at p (step_at u 0) && begins_on_frame (drop 1 (steps_in u) ++ steps_of rest) m)
    by_task false (tasks.Page gref words) past = refl
    by_task true (tasks.Page gref words) past = refl
    by_task false (tasks.Store gref ReadWrite sector first count) past = refl
    by_task true (tasks.Store gref ReadWrite sector first count) past = sym past
    by_task false (tasks.Store gref ReadOnly sector first count) past = refl
    by_task true (tasks.Store gref ReadOnly sector first count) past = refl
    by_task false (tasks.Load gref sector first count) past = refl
    by_task true (tasks.Load gref sector first count) past = sym past
    by_task false tasks.Flush past = refl
    by_task true tasks.Flush past = refl
    by_task false (tasks.Trim sector count) past = refl
    by_task true (tasks.Trim sector count) past = refl
missing persistent t (suc q) rest m =
    let some : (suc q == 0) ≡ false = grind (arith, nat_tests) in
    ap (λ (b : Bool). persistent && is_on_data t && b && is_step_at (step_at t 1) m) some
    ∙ (nowhere persistent (is_on_data t) (is_step_at (step_at t 1) m)
    ∙ sym (ap (λ (b : Bool). b && begins_on_frame (drop (suc (suc q)) (steps_in t) ++ steps_of rest) m) (no_map persistent t q)))
  where
    nowhere : (a b c : Bool) → (a && b && false && c) ≡ false
    nowhere true true c = refl
    nowhere true false c = refl
    nowhere false b c = refl

-- then it is the first place of a task
pub record IsSkipped (t : Task) (place : ℕ) (m : Move) : Type 0 where
  pub first : place ≡ 0
  pub second : is_step_at (step_at t 1) m ≡ true

pub skipped : (persistent : Bool) (t : Task) (place : ℕ) (m : Move) → is_unmapped_step persistent t place m ≡ true → IsSkipped t place m
skipped persistent t place m e = by_tests persistent (is_on_data t) (place == 0) (is_step_at (step_at t 1) m) refl refl e
  where
    by_tests : (a b c d : Bool) → (place == 0) ≡ c → is_step_at (step_at t 1) m ≡ d → (a && b && c && d) ≡ true → IsSkipped t place m
    by_tests true true true true p q h = record { first = grind (arith, nat_tests); second = q }
    by_tests true true true false p q h = absurd (cc)
    by_tests true true false d p q h = absurd (cc)
    by_tests true false c d p q h = absurd (cc)
    by_tests false b c d p q h = absurd (cc)
