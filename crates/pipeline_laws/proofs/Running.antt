-- All steps so far: their lines are a run of the plain disk, and show what the pipeline says of its front.
use Rattle.std.proofs.Common.{◌≡◌, ℕ, Bool, true, false, ◌||◌, ◌⊎◌, inl, inr, List, [], ◌∷◌, ◌++◌, length, refl, ap, sym, ◌∙◌, subst, append_assoc}
use Rattle.std.specs.Prelude.{Some, fold}
use Rattle.std.proofs.lemmas.List.{append-nil}
use Rattle.std.proofs.lemmas.List.Sums.{fold-append}
use Rattle.std.proofs.lemmas.List.Folds.{list_any-append}
use Rattle.blk_base.specs.Options.{Options}
use Rattle.schedule_text.specs.declared.line.Detail.{Detail}
use Rattle.schedule_text.specs.declared.line.Line.{Line}
use Rattle.schedule_text.specs.declared.line.Line.TheVariants as lines
use Rattle.plain_disk.specs.declared.sight.Sight.{Sight}
use Rattle.plain_disk.specs.Disk.{Disk, disk_of}
use Rattle.plain_disk.specs.Step.{after}
use Rattle.plain_disk.specs.Refusal.{nothing_seen, seen}
use Rattle.pipeline_laws.specs.Move.{Move, Fills, Reads, Flushes, Trims, Fails, Replies, Answers, Tells, move_lines}
use Rattle.pipeline_laws.specs.Pipeline.{Pipeline, Step, Submits, Refuses, Moves, Connects, StartsToClose, Closes, Leaves, Resumes, Rests, Shows, pipeline_of, next, step_lines, after_steps, lines_of, report_of}
use Rattle.pipeline_laws.specs.Allowed.{is_aside, sight_of, IsAllowed, AreAllowed}
use Rattle.pipeline_laws.specs.Disk.{DiskGoes, DiskRuns}
use Rattle.pipeline_laws.specs.Run.{BeginsWithin}
use Rattle.pipeline_laws.specs.States.{is_closed, has_closed, sight_after}
use Rattle.pipeline_laws.proofs.PlainRuns.{after_append}
use Rattle.pipeline_laws.proofs.Steps.{Stands, step_goes, start_stands}

-- a line of a request
abbrev pub is_of_request : Line → Bool
is_of_request (lines.Effect id index) = true
is_of_request (lines.EffectRead id index words) = true
is_of_request (lines.Flushed id) = true
is_of_request (lines.Trimmed id) = true
is_of_request (lines.Fault id index) = true
is_of_request (lines.Reply id status) = true
is_of_request (lines.Answer id status) = true
is_of_request (lines.Data id index words) = true
is_of_request line = false

-- a move shows nothing, or a line of its request
pub move_shows : (k : ℕ) (move : Move) → (move_lines k move ≡ []) ⊎ ((line : Line) × (move_lines k move ≡ line ∷ []) × (is_of_request line ≡ true))
move_shows k (Fills index) = inr (_, refl, refl)
move_shows k (Reads index words) = inr (_, refl, refl)
move_shows k Flushes = inr (_, refl, refl)
move_shows k Trims = inr (_, refl, refl)
move_shows k (Fails index) = inr (_, refl, refl)
move_shows k (Replies status) = inr (_, refl, refl)
move_shows k (Answers status) = inr (_, refl, refl)
move_shows k (Tells index words) = inr (_, refl, refl)
move_shows k move = inl refl

-- lines that show nothing of the front
of_request_unseen : (s : Sight) (line : Line) → is_of_request line ≡ true → seen s line ≡ s
of_request_unseen s (lines.Begin config detail) e = absurd (cc)
of_request_unseen s lines.Ready e = absurd (cc)
of_request_unseen s lines.Epoch e = absurd (cc)
of_request_unseen s lines.Closing e = absurd (cc)
of_request_unseen s (lines.Broken word) e = absurd (cc)
of_request_unseen s line e = refl

aside_unseen : (s : Sight) (line : Line) → is_aside line ≡ true → seen s line ≡ s
aside_unseen s (lines.Begin config detail) e = absurd (cc)
aside_unseen s lines.Ready e = absurd (cc)
aside_unseen s lines.Epoch e = absurd (cc)
aside_unseen s lines.Closing e = absurd (cc)
aside_unseen s (lines.Broken word) e = absurd (cc)
aside_unseen s line e = refl

of_request_unclosed : (line : Line) → is_of_request line ≡ true → is_closed line ≡ false
of_request_unclosed lines.Closed e = absurd (cc)
of_request_unclosed line e = refl

aside_unclosed : (line : Line) → is_aside line ≡ true → is_closed line ≡ false
aside_unclosed lines.Closed e = absurd (cc)
aside_unclosed line e = refl

-- what a step shows of the front
step_seen : (p : Pipeline) (s : Step) → IsAllowed p s → fold seen (sight_of p) (step_lines p s) ≡ sight_of (next p s)
step_seen p (Moves k x move) may = elim (move_shows k move) [
  | inl none ↦ ap (fold seen (sight_of p)) none
  | inr one ↦ ap (fold seen (sight_of p)) one.1 ∙ of_request_unseen (sight_of p) one.0 one.2
]
step_seen p (Shows line) may = aside_unseen (sight_of p) line may
step_seen p (Submits submission) may = refl
step_seen p (Refuses submission refusal) may = refl
step_seen p Connects may = refl
step_seen p StartsToClose may = refl
step_seen p Closes may = refl
step_seen p (Leaves why) may = refl
step_seen p Resumes may = refl
step_seen p Rests may = refl

or_same : (b c d : Bool) → c ≡ false → b ≡ d → (b || c) ≡ d
or_same true c d none same = same
or_same false c d none same = none ∙ same

-- and whether it is closed
step_closed : (p : Pipeline) (s : Step) → IsAllowed p s → (p.front.closed || has_closed (step_lines p s)) ≡ (next p s).front.closed
step_closed p (Moves k x move) may = elim (move_shows k move) [
  | inl none ↦ or_same p.front.closed _ p.front.closed (ap has_closed none) refl
  | inr one ↦ or_same p.front.closed _ p.front.closed (ap has_closed one.1 ∙ or_same (is_closed one.0) false false refl (of_request_unclosed one.0 one.2)) refl
]
step_closed p (Shows line) may = or_same p.front.closed _ p.front.closed (or_same (is_closed line) false false refl (aside_unclosed line may)) refl
step_closed p Closes may = rw may.1 refl
step_closed p (Submits submission) may = or_same p.front.closed false p.front.closed refl refl
step_closed p (Refuses submission refusal) may = or_same p.front.closed false p.front.closed refl refl
step_closed p Connects may = or_same p.front.closed false p.front.closed refl refl
step_closed p StartsToClose may = or_same p.front.closed false p.front.closed refl refl
step_closed p (Leaves why) may = or_same p.front.closed false p.front.closed refl refl
step_closed p Resumes may = or_same p.front.closed false p.front.closed refl refl
step_closed p Rests may = or_same p.front.closed false p.front.closed refl refl

-- the lines so far, from these sectors, and where the pipeline stands after them
pub record IsSoFar (first : List (List ℕ)) (before : List Line) (p : Pipeline) (content : List (List ℕ)) : Type 0 where
  pub disk : Disk
  pub run : after before (disk_of first) ≡ Some disk
  pub stands : Stands p disk content
  pub shown : sight_after before ≡ sight_of p
  pub closed : has_closed before ≡ p.front.closed

pub so_far_first : (options : Options) (detail : Detail) (first content : List (List ℕ)) → BeginsWithin first content → length content ≡ options.sectors → IsSoFar first (lines.Begin options detail ∷ []) (pipeline_of options) content
so_far_first options detail first content within sized = record { disk = disk_of first; run = refl; stands = start_stands options first content within sized; shown = refl; closed = refl }

pub so_far_more : (first : List (List ℕ)) (before : List Line) (p : Pipeline) (content later : List (List ℕ)) (s : Step) → IsAllowed p s → DiskGoes s content later → IsSoFar first before p content → IsSoFar first (before ++ step_lines p s) (next p s) later
so_far_more first before p content later s may does so =
    let goes = step_goes p so.disk content later s may does so.stands in
    record {
      disk = goes.disk;
      run = after_append before (step_lines p s) (disk_of first) so.disk so.run ∙ goes.run;
      stands = goes.stands;
      shown = fold-append seen nothing_seen before (step_lines p s) ∙ (ap (λ (x : Sight). fold seen x (step_lines p s)) so.shown ∙ step_seen p s may);
      closed = list_any-append is_closed before (step_lines p s) ∙ (ap (λ (b : Bool). b || has_closed (step_lines p s)) so.closed ∙ step_closed p s may);
    }

pub so_far_all : (first : List (List ℕ)) (steps : List Step) (before : List Line) (p : Pipeline) (content later : List (List ℕ)) → AreAllowed steps p → DiskRuns steps content later → IsSoFar first before p content → IsSoFar first (before ++ lines_of steps p) (after_steps steps p) later
so_far_all first [] before p content later may runs so = rw (append-nil before) (subst (λ (c : List (List ℕ)). IsSoFar first before p c) (sym runs) so)
so_far_all first (s ∷ steps) before p content later may runs so =
    subst (λ (ls : List Line). IsSoFar first ls (after_steps steps (next p s)) later) (append_assoc before (step_lines p s) (lines_of steps (next p s)))
    (so_far_all first steps (before ++ step_lines p s) (next p s) runs.0 later may.1 runs.2 (so_far_more first before p content runs.0 s may.0 runs.1 so))

-- from the start
pub so_far_report : (options : Options) (detail : Detail) (first content later : List (List ℕ)) (steps : List Step) → BeginsWithin first content → length content ≡ options.sectors → AreAllowed steps (pipeline_of options) → DiskRuns steps content later
    → IsSoFar first (report_of options detail steps) (after_steps steps (pipeline_of options)) later
so_far_report options detail first content later steps within sized may runs =
    so_far_all first steps (lines.Begin options detail ∷ []) (pipeline_of options) content later may runs (so_far_first options detail first content within sized)
