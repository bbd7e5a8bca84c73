-- What the lines of an epoch tell of one job, with one line more.
use Rattle.std.proofs.Common.{◌≡◌, ℕ, ◌+◌, ◌&&◌, ◌||◌, Bool, true, false, cond, if◌then◌else◌, List, [], ◌∷◌, ◌++◌, refl, ap, sym, ◌∙◌, arith}
use Rattle.std.specs.Prelude.{fold, count_by, Option, Some, None}
use Rattle.std.specs.List.{filter_map, cons_option, list_any}
use Rattle.std.specs.Option.{option_to_list}
use Rattle.std.proofs.lemmas.List.{reverse-append}
use Rattle.std.proofs.lemmas.List.Sums.{fold-append}
use Rattle.std.proofs.lemmas.List.Elements.{filter_map-append}
use Rattle.std.proofs.lemmas.List.Folds.{list_any-append}
use Rattle.blk_base.specs.declared.moves.Move.TheVariants as moves
use Rattle.schedule_text.specs.declared.line.Line.{Line}
use Rattle.schedule_text.specs.declared.line.Line.TheVariants as lines
use Rattle.report_rules.specs.declared.walk.Spot.{Spot}
use Rattle.report_rules.specs.declared.work.Task.{Task}
use Rattle.report_rules.specs.Standing.{is_epoch, this_epoch}
use Rattle.report_rules.specs.Job.{disk_mover, is_job, disk_moves_of}
use Rattle.report_rules.specs.Effect.{disk_move_of, disk_move_shown}
use Rattle.report_rules.specs.Step.{stepper, job_step, value_read, values_read}
use Rattle.report_rules.specs.Walk.{spot, walked, walk_of}
use Rattle.report_rules.specs.Steps.{is_fault, begins_with_fault, failed_in}
use Rattle.report_rules.specs.Data.{words_in, words_after, words_from}
use Rattle.report_rules.proofs.Back.{epoch_more}
use Rattle.memory_check.proofs.Counts.{count_more}
use Rattle.job_check.specs.State.{job_moved}

pub or_false : (b : Bool) → (b || false) ≡ b
or_false true = refl
or_false false = refl

pub or_assoc : (a b c : Bool) → (a || (b || c)) ≡ ((a || b) || c)
or_assoc true b c = refl
or_assoc false b c = refl

pub one_of : {X : Type 0} (o : Option X) → cons_option o [] ≡ option_to_list o
one_of None = refl
one_of (Some x) = refl

pub longer : (before : List Line) (line : Line) → is_epoch line ≡ false → this_epoch (before ++ line ∷ []) ≡ this_epoch before ++ line ∷ []
longer before line e = epoch_more before line ∙ ap (λ (b : Bool). if b then [] else this_epoch before ++ line ∷ []) e

pub anew : (before : List Line) (line : Line) → is_epoch line ≡ true → this_epoch (before ++ line ∷ []) ≡ []
anew before line e = epoch_more before line ∙ ap (λ (b : Bool). if b then [] else this_epoch before ++ line ∷ []) e

-- the job that moves the disk in the last of these lines, where that was so of an earlier one
abbrev pub mover_from : Option ℕ → List Line → Option ℕ
mover_from known [] = known
mover_from known (line ∷ later) = mover_from (disk_mover line) later

abbrev pub last_mover : List Line → Option ℕ
last_mover xs = mover_from None xs

mover_go : (known : Option ℕ) (xs : List Line) (line : Line) → mover_from known (xs ++ line ∷ []) ≡ disk_mover line
mover_go known [] line = refl
mover_go known (x ∷ xs) line = mover_go (disk_mover x) xs line

pub mover_more : (xs : List Line) (line : Line) → last_mover (xs ++ line ∷ []) ≡ disk_mover line
mover_more xs line = mover_go None xs line

pub mover_is : (line : Line) → job_moved (disk_move_of line) ≡ disk_mover line
mover_is (lines.Move (moves.DiskRead k sector)) = refl
mover_is (lines.Move (moves.DiskWrite k sector)) = refl
mover_is (lines.Move (moves.DiskFlush k)) = refl
mover_is (lines.Move (moves.DiskTrim k sector count)) = refl
mover_is line = refl

pub shown_more : (before : List Line) (line : Line) → disk_move_shown (before ++ line ∷ []) ≡ disk_move_of line
shown_more before line = rw (reverse-append before (line ∷ [])) refl

-- ---- failures of the disk
failed_from : Option ℕ → ℕ → List Line → Bool
failed_from known k xs = (is_job k known && begins_with_fault xs) || failed_in k xs

fault_first : (own fault own' : Bool) → ((own && fault) || ((own' && false) || false)) ≡ (((own && false) || false) || (own && fault))
fault_first true true true = refl
fault_first true true false = refl
fault_first true false true = refl
fault_first true false false = refl
fault_first false true true = refl
fault_first false true false = refl
fault_first false false true = refl
fault_first false false false = refl

failed_go : (known : Option ℕ) (k : ℕ) (xs : List Line) (line : Line) → failed_from known k (xs ++ line ∷ []) ≡ (failed_from known k xs || (is_job k (mover_from known xs) && is_fault line))
unfolding failed_from
failed_go known k [] line = fault_first (is_job k known) (is_fault line) (is_job k (disk_mover line))
failed_go known k (x ∷ xs) line =
    ap (λ (b : Bool). (is_job k known && is_fault x) || b) (failed_go (disk_mover x) k xs line)
    ∙ or_assoc (is_job k known && is_fault x) (failed_from (disk_mover x) k xs) (is_job k (mover_from (disk_mover x) xs) && is_fault line)

pub failed_more : (k : ℕ) (xs : List Line) (line : Line) → failed_in k (xs ++ line ∷ []) ≡ (failed_in k xs || (is_job k (last_mover xs) && is_fault line))
unfolding failed_from
failed_more k xs line = failed_go None k xs line

-- ---- the words that the disk gave
words_at : Option ℕ → Option (List ℕ) → ℕ → List Line → Option (List ℕ)
words_at last known k xs = words_from (if is_job k last then words_after xs else known) k xs

words_go : (last : Option ℕ) (known : Option (List ℕ)) (k : ℕ) (xs : List Line) (line : Line)
    → words_at last known k (xs ++ line ∷ []) ≡ (if is_job k (disk_mover line) then None else (if is_job k (mover_from last xs) then words_in line else words_at last known k xs))
unfolding words_at
words_go last known k [] line = by_tests (is_job k last) (is_job k (disk_mover line))
  where
    by_tests : (a b : Bool) → ◌≡◌ {A = Option (List ℕ)} (if b then None else (if a then words_in line else known)) (if b then None else (if a then words_in line else (if a then None else known)))
    by_tests true true = refl
    by_tests true false = refl
    by_tests false true = refl
    by_tests false false = refl
words_go last known k (x ∷ xs) line = words_go (disk_mover x) (if is_job k last then words_in x else known) k xs line

pub words_more : (k : ℕ) (xs : List Line) (line : Line) → words_from None k (xs ++ line ∷ []) ≡ (if is_job k (disk_mover line) then None else (if is_job k (last_mover xs) then words_in line else words_from None k xs))
unfolding words_at
words_more k xs line = words_go None None k xs line

moved_go : (last : Option ℕ) (known : Option (List ℕ)) (k : ℕ) (xs : List Line) → is_job k (mover_from last xs) ≡ true → words_at last known k xs ≡ None
unfolding words_at
moved_go last known k [] e = rw e refl
moved_go last known k (x ∷ xs) e = moved_go (disk_mover x) (if is_job k last then words_in x else known) k xs e

words_moved : (k : ℕ) (xs : List Line) → is_job k (last_mover xs) ≡ true → words_from None k xs ≡ None
unfolding words_at
words_moved k xs e = moved_go None None k xs e

-- a line that gives no words
pub words_still : (k : ℕ) (xs : List Line) (line : Line) → is_job k (disk_mover line) ≡ false → words_in line ≡ None → words_from None k (xs ++ line ∷ []) ≡ words_from None k xs
words_still k xs line own none = words_more k xs line ∙ rw (own, none) (by_last (is_job k (last_mover xs)) refl)
  where
    by_last : (b : Bool) → is_job k (last_mover xs) ≡ b → (if b then None else words_from None k xs) ≡ words_from None k xs
    by_last true e = sym (words_moved k xs e)
    by_last false e = refl

-- a line after a move of another
pub words_other : (k : ℕ) (xs : List Line) (line : Line) → is_job k (disk_mover line) ≡ false → is_job k (last_mover xs) ≡ false → words_from None k (xs ++ line ∷ []) ≡ words_from None k xs
words_other k xs line own other = words_more k xs line ∙ rw (own, other) refl

-- ---- moves
pub values_more : (before : List Line) (line : Line) (k : ℕ) → is_epoch line ≡ false → values_read (before ++ line ∷ []) k ≡ values_read before k ++ option_to_list (value_read k line)
values_more before line k e =
    ap (λ (xs : List Line). filter_map (value_read k) xs) (longer before line e)
    ∙ (filter_map-append (value_read k) (this_epoch before) (line ∷ []) ∙ ap (λ (vs : List ℕ). values_read before k ++ vs) (one_of (value_read k line)))

pub walk_more : (persistent : Bool) (work : List Task) (k : ℕ) (xs : List Line) (line : Line) → walk_of persistent work k (xs ++ line ∷ []) ≡ walked persistent work (job_step k line) (walk_of persistent work k xs)
walk_more persistent work k xs line = fold-append (λ (s : Option Spot) (x : Line). walked persistent work (job_step k x) s) (Some (spot 0 0 false None)) xs (line ∷ [])

pub moves_more : (before : List Line) (line : Line) (k : ℕ) → is_epoch line ≡ false → disk_moves_of (before ++ line ∷ []) k ≡ disk_moves_of before k + cond (is_job k (disk_mover line)) 1 0
moves_more before line k e =
    ap (λ (xs : List Line). count_by (λ (x : Line). is_job k (disk_mover x)) xs) (longer before line e) ∙ count_more (λ (x : Line). is_job k (disk_mover x)) (this_epoch before) line

-- ---- a line that is no step of a job
pub no_value : (k : ℕ) (line : Line) → is_job k (stepper line) ≡ false → value_read k line ≡ None
no_value k (lines.Move (moves.Read who number frame word value)) e = rw e refl
no_value k line e = refl

pub no_step : (k : ℕ) (line : Line) → is_job k (stepper line) ≡ false → job_step k line ≡ None
no_step k line e = rw e refl

pub no_disk_move : (k : ℕ) (line : Line) → is_job k (stepper line) ≡ false → is_job k (disk_mover line) ≡ false
no_disk_move k (lines.Move (moves.DiskRead job sector)) e = e
no_disk_move k (lines.Move (moves.DiskWrite job sector)) e = e
no_disk_move k (lines.Move (moves.DiskFlush job)) e = e
no_disk_move k (lines.Move (moves.DiskTrim job sector count)) e = e
no_disk_move k line e = refl

-- ---- lines of which none is a step of a job
abbrev pub has_step : ℕ → List Line → Bool
has_step k xs = list_any (λ (x : Line). is_job k (stepper x)) xs

pub step_more : (k : ℕ) (xs : List Line) (line : Line) → has_step k (xs ++ line ∷ []) ≡ (has_step k xs || is_job k (stepper line))
step_more k xs line = list_any-append (λ (x : Line). is_job k (stepper x)) xs (line ∷ []) ∙ ap (λ (b : Bool). has_step k xs || b) (or_false (is_job k (stepper line)))

pub neither : (a b : Bool) → (a || b) ≡ false → (a ≡ false) × (b ≡ false)
neither true b e = absurd (cc)
neither false b e = (refl, e)

pub idle_values : (k : ℕ) (xs : List Line) → has_step k xs ≡ false → filter_map (value_read k) xs ≡ []
idle_values k [] none = refl
idle_values k (x ∷ xs) none =
    let no = neither (is_job k (stepper x)) (has_step k xs) none in
    rw (no_value k x no.0) (idle_values k xs no.1)

pub idle_walk : (persistent : Bool) (work : List Task) (k : ℕ) (xs : List Line) (s : Option Spot) → has_step k xs ≡ false → fold (λ (o : Option Spot) (x : Line). walked persistent work (job_step k x) o) s xs ≡ s
idle_walk persistent work k [] s none = refl
idle_walk persistent work k (x ∷ xs) s none =
    let no = neither (is_job k (stepper x)) (has_step k xs) none in
    rw (no_step k x no.0) (idle_walk persistent work k xs s no.1)

pub idle_failed : (k : ℕ) (xs : List Line) → has_step k xs ≡ false → failed_in k xs ≡ false
idle_failed k [] none = refl
idle_failed k (x ∷ xs) none =
    let no = neither (is_job k (stepper x)) (has_step k xs) none in
    rw (no_disk_move k x no.0) (idle_failed k xs no.1)

pub idle_words : (known : Option (List ℕ)) (k : ℕ) (xs : List Line) → has_step k xs ≡ false → words_from known k xs ≡ known
idle_words known k [] none = refl
idle_words known k (x ∷ xs) none =
    let no = neither (is_job k (stepper x)) (has_step k xs) none in
    rw (no_disk_move k x no.0) (idle_words known k xs no.1)

idle_go : (k : ℕ) (xs : List Line) (n : ℕ) → has_step k xs ≡ false → fold (λ (m : ℕ) (x : Line). m + cond (is_job k (disk_mover x)) 1 0) n xs ≡ n
idle_go k [] n none = refl
idle_go k (x ∷ xs) n none =
    let no = neither (is_job k (stepper x)) (has_step k xs) none in
    let same : n + cond (is_job k (disk_mover x)) 1 0 ≡ n = rw (no_disk_move k x no.0) (omega arith) in
    ap (λ (m : ℕ). fold (λ (c : ℕ) (y : Line). c + cond (is_job k (disk_mover y)) 1 0) m xs) same ∙ idle_go k xs n no.1

pub idle_moves : (k : ℕ) (xs : List Line) → has_step k xs ≡ false → count_by (λ (x : Line). is_job k (disk_mover x)) xs ≡ 0
idle_moves k xs none = idle_go k xs 0 none
