-- What the rules make of a job by the lines so far, after some lines more: others' lines change none of it.
use Rattle.std.proofs.Common.{◌≡◌, ℕ, ◌+◌, ◌&&◌, ◌||◌, Bool, true, false, cond, if◌then◌else◌, List, [], ◌∷◌, ◌++◌, count_by, refl, ap, ◌∙◌, append-nil, arith}
use Rattle.std.specs.Prelude.{fold, Option, Some, None, option_and_then}
use Rattle.std.specs.List.{filter_map, list_any}
use Rattle.std.proofs.lemmas.List.Sums.{sum_by-cons, sum_by-append, fold-append}
use Rattle.std.proofs.lemmas.List.Elements.{filter_map-append}
use Rattle.blk_base.specs.declared.moves.Move.{Move}
use Rattle.blk_base.specs.declared.moves.Move.TheVariants as moves
use Rattle.schedule_text.specs.declared.line.Line.{Line}
use Rattle.schedule_text.specs.declared.line.Line.TheVariants as lines
use Rattle.report_rules.specs.declared.work.Task.{Task}
use Rattle.report_rules.specs.Job.{disk_mover, is_job}
use Rattle.report_rules.specs.Step.{stepper, move_in, job_step, value_read}
use Rattle.report_rules.specs.Walk.{spot, advanced, walked, walk_of}
use Rattle.report_rules.specs.Steps.{is_fault, begins_with_fault, failed_in}
use Rattle.report_rules.specs.Data.{words_in, words_after, words_from}
use Rattle.ring_laws.proofs.Lists.{or_false, either_false, fold_none, count_none, gathered_none}

-- a step of job k
abbrev pub is_of : ℕ → Line → Bool
is_of k line = is_job k (stepper line)

abbrev pub is_disk_of : ℕ → Line → Bool
is_disk_of k line = is_job k (disk_mover line)

pub disk_aside : (k : ℕ) (line : Line) → is_of k line ≡ false → is_disk_of k line ≡ false
disk_aside k (lines.Move (moves.DiskRead j sector)) e = e
disk_aside k (lines.Move (moves.DiskWrite j sector)) e = e
disk_aside k (lines.Move (moves.DiskFlush j)) e = e
disk_aside k (lines.Move (moves.DiskTrim j sector count)) e = e
disk_aside k line e = refl

-- the words that job k read in these lines
abbrev pub read_by : ℕ → List Line → List ℕ
read_by k epoch = filter_map (value_read k) epoch

-- lines of which none is a step of job k, and that tell nothing of a move of the disk before them
pub record IsAside (k : ℕ) (ls : List Line) : Type 0 where
  pub none : list_any (is_of k) ls ≡ false
  pub calm : begins_with_fault ls ≡ false
  pub silent : words_after ls ≡ None

unread : (k : ℕ) (line : Line) → is_of k line ≡ false → value_read k line ≡ None
unread k (lines.Move (moves.Read who number frame word value)) e = rw e refl
unread k line e = refl

pub read_aside : (k : ℕ) (epoch ys : List Line) → list_any (is_of k) ys ≡ false → read_by k (epoch ++ ys) ≡ read_by k epoch
read_aside k epoch ys none = filter_map-append (value_read k) epoch ys ∙ (ap (λ (vs : List ℕ). read_by k epoch ++ vs) (gathered_none (value_read k) (is_of k) (unread k) ys none) ∙ append-nil (read_by k epoch))

-- more lines
pub read_more : (k : ℕ) (epoch ys : List Line) → read_by k (epoch ++ ys) ≡ read_by k epoch ++ read_by k ys
read_more k epoch ys = filter_map-append (value_read k) epoch ys

walk_skips : (work : List Task) (k : ℕ) (ys epoch : List Line) → list_any (is_of k) ys ≡ false → fold (λ s line. walked false work (job_step k line) s) (walk_of false work k epoch) ys ≡ walk_of false work k epoch
walk_skips work k ys epoch none =
    fold_none (λ s line. walked false work (job_step k line) s) (is_of k) (λ s line e. ap (λ (b : Bool). walked false work (if b then move_in line else None) s) e) ys (walk_of false work k epoch) none

pub walk_aside : (work : List Task) (k : ℕ) (epoch ys : List Line) → list_any (is_of k) ys ≡ false → walk_of false work k (epoch ++ ys) ≡ walk_of false work k epoch
walk_aside work k epoch ys none = fold-append (λ s line. walked false work (job_step k line) s) (Some (spot 0 0 false None)) epoch ys ∙ walk_skips work k ys epoch none

-- a step of the job
pub walk_own : (work : List Task) (k : ℕ) (epoch ys : List Line) (shown : Move) → is_of k (lines.Move shown) ≡ true → list_any (is_of k) ys ≡ false → walk_of false work k (epoch ++ lines.Move shown ∷ ys) ≡ option_and_then (advanced false work shown) (walk_of false work k epoch)
walk_own work k epoch ys shown own none =
    fold-append (λ s line. walked false work (job_step k line) s) (Some (spot 0 0 false None)) epoch (lines.Move shown ∷ ys)
    ∙ (fold_none (λ s line. walked false work (job_step k line) s) (is_of k) (λ s line e. ap (λ (b : Bool). walked false work (if b then move_in line else None) s) e) ys _ none
    ∙ ap (λ (b : Bool). walked false work (if b then Some shown else None) (walk_of false work k epoch)) own)

moves_split : (k : ℕ) (xs ys : List Line) → count_by (is_disk_of k) (xs ++ ys) ≡ count_by (is_disk_of k) xs + count_by (is_disk_of k) ys
moves_split k xs ys = sum_by-append (λ (line : Line). cond (is_disk_of k line) 1 0) xs ys

pub moves_aside : (k : ℕ) (epoch ys : List Line) → list_any (is_of k) ys ≡ false → count_by (is_disk_of k) (epoch ++ ys) ≡ count_by (is_disk_of k) epoch
moves_aside k epoch ys none =
    let both = moves_split k epoch ys in
    let no = count_none (is_disk_of k) (is_of k) (disk_aside k) ys none in
    omega arith

pub moves_own : (k : ℕ) (epoch ys : List Line) (line : Line) → is_disk_of k line ≡ true → list_any (is_of k) ys ≡ false → count_by (is_disk_of k) (epoch ++ line ∷ ys) ≡ count_by (is_disk_of k) epoch + 1
moves_own k epoch ys line own none =
    let both = moves_split k epoch (line ∷ ys) in
    let one = sum_by-cons (λ (l : Line). cond (is_disk_of k l) 1 0) line ys in
    let here : ◌≡◌ {A = ℕ} (cond (is_disk_of k line) 1 0) 1 = ap (λ (b : Bool). cond b 1 0) own in
    let no = count_none (is_disk_of k) (is_of k) (disk_aside k) ys none in
    omega arith

-- a step that is no move of the disk
pub moves_step : (k : ℕ) (epoch ys : List Line) (line : Line) → is_disk_of k line ≡ false → list_any (is_of k) ys ≡ false → count_by (is_disk_of k) (epoch ++ line ∷ ys) ≡ count_by (is_disk_of k) epoch
moves_step k epoch ys line other none =
    let both = moves_split k epoch (line ∷ ys) in
    let one = sum_by-cons (λ (l : Line). cond (is_disk_of k l) 1 0) line ys in
    let here : ◌≡◌ {A = ℕ} (cond (is_disk_of k line) 1 0) 0 = ap (λ (b : Bool). cond b 1 0) other in
    let no = count_none (is_disk_of k) (is_of k) (disk_aside k) ys none in
    omega arith

first_after : (xs ys : List Line) → words_after ys ≡ None → words_after (xs ++ ys) ≡ words_after xs
first_after [] ys silent = silent
first_after (x ∷ xs) ys silent = refl

pub words_split : (known : Option (List ℕ)) (k : ℕ) (xs ys : List Line) → words_after ys ≡ None → words_from known k (xs ++ ys) ≡ words_from (words_from known k xs) k ys
words_split known k [] ys silent = refl
words_split known k (x ∷ xs) ys silent =
    ap (λ (w : Option (List ℕ)). words_from (if is_disk_of k x then w else known) k (xs ++ ys)) (first_after xs ys silent)
    ∙ words_split (if is_disk_of k x then words_after xs else known) k xs ys silent

words_skip : (known : Option (List ℕ)) (k : ℕ) (ys : List Line) → list_any (is_of k) ys ≡ false → words_from known k ys ≡ known
words_skip known k [] none = refl
words_skip known k (y ∷ ys) none =
    let both : (is_of k y ≡ false) × (list_any (is_of k) ys ≡ false) = either_false (is_of k y) (list_any (is_of k) ys) none in
    ap (λ (b : Bool). words_from (if b then words_after ys else known) k ys) (disk_aside k y both.0) ∙ words_skip known k ys both.1

pub words_aside : (k : ℕ) (epoch ys : List Line) → IsAside k ys → words_from None k (epoch ++ ys) ≡ words_from None k epoch
words_aside k epoch ys aside = words_split None k epoch ys aside.silent ∙ words_skip (words_from None k epoch) k ys aside.none

-- a step that is no move of the disk
pub words_step : (k : ℕ) (epoch ys : List Line) (line : Line) → is_disk_of k line ≡ false → words_in line ≡ None → list_any (is_of k) ys ≡ false → words_from None k (epoch ++ line ∷ ys) ≡ words_from None k epoch
words_step k epoch ys line other silent none =
    words_split None k epoch (line ∷ ys) silent
    ∙ (ap (λ (b : Bool). words_from (if b then words_after ys else words_from None k epoch) k ys) other ∙ words_skip (words_from None k epoch) k ys none)

-- a move of the disk, and the words that it gave
pub words_own : (k : ℕ) (epoch ys : List Line) (line : Line) (given : Option (List ℕ)) → is_disk_of k line ≡ true → words_in line ≡ None → list_any (is_of k) ys ≡ false → words_after ys ≡ given → words_from None k (epoch ++ line ∷ ys) ≡ given
words_own k epoch ys line given own silent none e =
    words_split None k epoch (line ∷ ys) silent
    ∙ (ap (λ (b : Bool). words_from (if b then words_after ys else words_from None k epoch) k ys) own ∙ (words_skip (words_after ys) k ys none ∙ e))

begins_after : (xs ys : List Line) → begins_with_fault ys ≡ false → begins_with_fault (xs ++ ys) ≡ begins_with_fault xs
begins_after [] ys calm = calm
begins_after (x ∷ xs) ys calm = refl

or_assoc : (a b c : Bool) → (a || (b || c)) ≡ ((a || b) || c)
or_assoc true b c = refl
or_assoc false b c = refl

failed_split : (k : ℕ) (xs ys : List Line) → begins_with_fault ys ≡ false → failed_in k (xs ++ ys) ≡ (failed_in k xs || failed_in k ys)
failed_split k [] ys calm = refl
failed_split k (x ∷ xs) ys calm =
    ap (λ (b : Bool). (is_disk_of k x && b) || failed_in k (xs ++ ys)) (begins_after xs ys calm)
    ∙ (ap (λ (b : Bool). (is_disk_of k x && begins_with_fault xs) || b) (failed_split k xs ys calm)
    ∙ or_assoc (is_disk_of k x && begins_with_fault xs) (failed_in k xs) (failed_in k ys))

pub failed_skip : (k : ℕ) (ys : List Line) → list_any (is_of k) ys ≡ false → failed_in k ys ≡ false
failed_skip k [] none = refl
failed_skip k (y ∷ ys) none =
    let both : (is_of k y ≡ false) × (list_any (is_of k) ys ≡ false) = either_false (is_of k y) (list_any (is_of k) ys) none in
    ap (λ (b : Bool). (b && begins_with_fault ys) || failed_in k ys) (disk_aside k y both.0) ∙ failed_skip k ys both.1

-- others' lines say nothing of a failure
pub failed_same : (k : ℕ) (epoch ys : List Line) → IsAside k ys → failed_in k (epoch ++ ys) ≡ failed_in k epoch
failed_same k epoch ys aside = failed_split k epoch ys aside.calm ∙ (ap (λ (b : Bool). failed_in k epoch || b) (failed_skip k ys aside.none) ∙ or_false (failed_in k epoch))

pub failed_aside : (k : ℕ) (epoch ys : List Line) → IsAside k ys → failed_in k epoch ≡ false → failed_in k (epoch ++ ys) ≡ false
failed_aside k epoch ys aside sound = failed_same k epoch ys aside ∙ sound

-- a move of the disk at which it failed
pub failed_then : (k : ℕ) (epoch : List Line) (line fault : Line) → is_disk_of k line ≡ true → is_fault line ≡ false → is_fault fault ≡ true → failed_in k (epoch ++ line ∷ fault ∷ []) ≡ true
failed_then k epoch line fault own calm is =
    failed_split k epoch (line ∷ fault ∷ []) calm
    ∙ (ap (λ (b : Bool). failed_in k epoch || ((b && is_fault fault) || failed_in k (fault ∷ []))) own
    ∙ (ap (λ (b : Bool). failed_in k epoch || (b || failed_in k (fault ∷ []))) is ∙ or_true (failed_in k epoch)))
  where
    or_true : (b : Bool) → (b || true) ≡ true
    or_true true = refl
    or_true false = refl

-- a step that does not fail
pub failed_own : (k : ℕ) (epoch ys : List Line) (line : Line) → is_fault line ≡ false → begins_with_fault ys ≡ false → list_any (is_of k) ys ≡ false → failed_in k epoch ≡ false → failed_in k (epoch ++ line ∷ ys) ≡ false
failed_own k epoch ys line calm fine none sound =
    failed_split k epoch (line ∷ ys) calm
    ∙ (ap (λ (b : Bool). b || ((is_disk_of k line && begins_with_fault ys) || failed_in k ys)) sound
    ∙ (ap (λ (b : Bool). (is_disk_of k line && b) || failed_in k ys) fine
    ∙ (ap (λ (b : Bool). b || failed_in k ys) (and_false (is_disk_of k line)) ∙ failed_skip k ys none)))
  where
    and_false : (b : Bool) → (b && false) ≡ false
    and_false true = refl
    and_false false = refl
