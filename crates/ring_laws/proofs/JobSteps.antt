-- What is to be shown of a job's move: it is the next step of the job's work, and writes what the disk gave.
use Rattle.std.proofs.Common.{◌≡◌, ℕ, ◌+◌, ◌%◌, ◌≤◌, ◌==◌, Bool, true, false, if◌then◌else◌, List, ◌∷◌, ◌++◌, refl, ap, arith}
use Rattle.std.specs.Prelude.{slice_index, Some, None, option_and_then, IfSome, IsSomeAnd}
use Rattle.std.proofs.lemmas.Bool.Decides.{nat_tests}
use Rattle.blk_base.specs.declared.parts.Mapping.{Mapping}
use Rattle.blk_base.specs.declared.ask.BackAnswer.{BackAnswer}
use Rattle.blk_base.specs.declared.moves.Move.{Move}
use Rattle.blk_base.specs.declared.moves.Move.TheVariants as moves
use Rattle.schedule_text.specs.declared.line.Line.{Line}
use Rattle.schedule_text.specs.declared.line.Line.TheVariants as lines
use Rattle.blk_layout.specs.declared.segment.Segment.{Segment}
use Rattle.report_rules.specs.declared.work.Task.{Task}
use Rattle.report_rules.specs.declared.walk.Spot.{Spot}
use Rattle.report_rules.specs.Step.{stepper}
use Rattle.report_rules.specs.Walk.{walk_of, advanced}
use Rattle.report_rules.specs.Steps.{failed_in, touched_by}
use Rattle.report_rules.specs.Data.{words_from}
use Rattle.back_jobs.specs.declared.stage.JobStage.{JobStage}
use Rattle.back_jobs.specs.declared.stage.JobStage.TheVariants as stage
use Rattle.back_jobs.specs.Work.{Work, last_of, rest_of, sector_stage, next_sector}
use Rattle.back_jobs.specs.Jobs.{effect_at}
use Rattle.blk_back.specs.Step.{told_effect}
use Rattle.split_model.specs.Shown.{back_lines}
use Rattle.ring_laws.proofs.Places.{Before, Within, IsAt, IsStepOn}

abbrev pub IsDataBy : ℕ → List Line → Move → Type 0
IsDataBy k epoch (moves.Write who number frame word value) = IsSomeAnd (words_from None k epoch) (λ (words : List ℕ). value ≡ slice_index words (word % 128))
IsDataBy k epoch shown = Unit {0}

-- the next step of the job's work, through the mapping in hand, and of the data in hand
pub record Steps (work : List Task) (k : ℕ) (epoch : List Line) (shown : Move) : Type 0 where
  pub on : IsStepOn work k epoch shown
  pub moved : IsDataBy k epoch shown

-- so it is with each move of a job but an unmap
pub data StepsBy (work : List Task) (k : ℕ) (epoch : List Line) (shown : Move) : Type 0 where
  takes : stepper (lines.Move shown) ≡ Some k → Steps work k epoch shown → StepsBy work k epoch shown
  rests : stepper (lines.Move shown) ≡ None → StepsBy work k epoch shown

-- the move, with the lines after it, and the job after it
pub record JobGoes (work : List Task) (k : ℕ) (epoch : List Line) (shown : Move) (told : List Line) (new : Work) : Type 0 where
  pub steps : StepsBy work k epoch shown
  pub at : IsAt work k (epoch ++ lines.Move shown ∷ told) new.stage new

abbrev pub told_at : JobStage → Work → BackAnswer → List Line
told_at s t a = back_lines (told_effect (effect_at s t a)) a

pub either : (P : Work → Type 0) (b : Bool) (x y : Work) → (b ≡ true → P x) → (b ≡ false → P y) → P (if b then x else y)
either P true x y p q = p refl
either P false x y p q = q refl

-- a sector is begun
pub sector_at : (work : List Task) (k : ℕ) (epoch : List Line) (b : Bool) (t : Work) (m : Mapping) → t.writes ≡ b → Within work k epoch t.rest t.within t.disk t.moved t.writes 0 1 m → IsAt work k epoch (sector_stage b m) t
sector_at work k epoch true t m is w = (w, omega arith, is)
sector_at work k epoch false t m is w = (w, is)

-- the next sector, or none is left
pub next_at : (work : List Task) (k : ℕ) (epoch : List Line) (t : Work) (m : Mapping) → t.within ≤ last_of t.rest
    → (t.within ≡ last_of t.rest → Before work k epoch (rest_of t.rest) t.disk t.moved t.writes)
    → (t.within + 1 ≤ last_of t.rest → Within work k epoch t.rest (t.within + 1) t.disk t.moved t.writes 0 1 m)
    → (let n : Work = next_sector t m in IsAt work k epoch n.stage n)
next_at work k epoch t m inside over more =
    either (λ (n : Work). IsAt work k epoch n.stage n) (t.within == last_of t.rest) (record t { stage = stage.Unmap m }) (record t { within = t.within + 1; stage = sector_stage t.writes m })
    (λ last. over (is_last t.within (last_of t.rest) last))
    (λ other. sector_at work k epoch t.writes (record t { within = t.within + 1; stage = sector_stage t.writes m }) m refl (more (not_last t.within (last_of t.rest) inside other)))
  where
    is_last : (a b : ℕ) → (a == b) ≡ true → a ≡ b
    is_last a b e = grind (arith, nat_tests)

    not_last : (a b : ℕ) → a ≤ b → (a == b) ≡ false → a + 1 ≤ b
    not_last a b le e = grind (arith, nat_tests)

pub on_step : (work : List Task) (k : ℕ) (epoch : List Line) (shown : Move) (here : Spot) {after : Spot} → walk_of false work k epoch ≡ Some here → failed_in k epoch ≡ false → option_and_then (advanced false work shown) (walk_of false work k epoch) ≡ Some after → IfSome (touched_by shown) (λ (number : ℕ). here.mapping ≡ Some number) → IsStepOn work k epoch shown
on_step work k epoch shown here {after} came whole taken hand = record { here = here; after = after; came = came; taken = taken; hand = hand; whole = whole }

-- a test of a segment's last sector
pub by_last : (P : Type 0) (within last : ℕ) → within ≤ last → (within ≡ last → P) → (within + 1 ≤ last → P) → P
by_last P within last inside over more = by_test (within == last) refl
  where
    by_test : (b : Bool) → (within == last) ≡ b → P
    by_test true e = over (grind (arith, nat_tests))
    by_test false e = more (grind (arith, nat_tests))

pub last_is : (rest more : List Segment) (s : Segment) → rest ≡ s ∷ more → last_of rest ≡ s.last
last_is rest more s is = ap last_of is
