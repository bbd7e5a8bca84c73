-- The headline, over a report (`grant_table.h`, `io/ring.h`, `io/blkif.h`): the back touches only frames whose grant to it in that mode stood at the map, and serves nothing more until the next suspend once a producer index overran the ring; and without hostile lines the report is a run of the plain disk from the first image to the last, in which each request is answered at most once, and at each `quiet` line all are; and before the first hostile line each `settle` ends in quiet.
use Rattle.std.specs.Prelude.{◌≡◌, ℕ, Bool, true, false, List, ◌∷◌, ◌++◌, Option, Ok, All}
use Rattle.blk_base.specs.Options.{Options}
use Rattle.blk_base.specs.declared.parts.Mode.{Mode}
use Rattle.blk_base.specs.declared.moves.BackMover.{BackMover}
use Rattle.blk_base.specs.declared.moves.Move.TheVariants as moves
use Rattle.blk_base.specs.declared.config.Submission.{Submission}
use Rattle.grant_table.specs.Entry.{is_for_writing}
use Rattle.schedule_text.specs.declared.line.Detail.{Detail}
use Rattle.schedule_text.specs.declared.line.Detail.TheVariants.{Moves}
use Rattle.schedule_text.specs.declared.line.Line.{Line}
use Rattle.schedule_text.specs.declared.line.Line.TheVariants as lines
use Rattle.report_rules.specs.Obeys.{Obeys}
use Rattle.report_rules.specs.Standing.{is_epoch, is_unmap_of}
use Rattle.report_rules.specs.Mapped.{map_verdict}
use Rattle.report_rules.specs.Overrun.{IsOverrunAt}
use Rattle.plain_disk.specs.Honest.{IsHonest, honest_part}
use Rattle.pipeline_laws.specs.Run.{IsRun}
use Rattle.pipeline_laws.specs.Effects.{IsOfADisk}
use Rattle.pipeline_laws.specs.Answered.{AreAnsweredOnce, IsQuietAnswered}
use Rattle.report_laws.specs.Settled.{IsSettled}
use Rattle.schedule_run.specs.Lawful.{IsLawful}

-- a mapping of this number and frame was made in this epoch and not unmapped since, for writing where that is asked; and at its map the words of its grant entry, as the lines before tell them, granted domain 0 that frame in that mode
pub record WasGranted (before : List Line) (number frame : ℕ) (writes : Bool) : Type 0 where
  pub earlier : List Line
  pub who : BackMover
  pub gref : ℕ
  pub mode : Mode
  pub later : List Line
  pub mapped : before ≡ earlier ++ lines.Move (moves.Map who gref mode number frame) ∷ later
  pub stands : All (λ (line : Line). (is_epoch line ≡ false) × (is_unmap_of number line ≡ false)) later
  pub granted : map_verdict earlier gref mode ≡ Ok frame
  pub for_writing : writes ≡ true → is_for_writing mode ≡ true

-- each read and each write of the back or a job
abbrev pub IsGrantedAt : List Line → Line → Type 0
IsGrantedAt before (lines.Move (moves.Read who number frame word value)) = WasGranted before number frame false
IsGrantedAt before (lines.Move (moves.Write who number frame word value)) = WasGranted before number frame true
IsGrantedAt before line = Unit {0}

-- before it the image held the one, and after it the other
pub record KeepsTheHeadline (config : Options) (detail : Detail) (before now : Option (List (List ℕ))) (report : List Line) : Type 0 where
  pub granted : detail ≡ Moves → Obeys IsGrantedAt report
  pub overruns : detail ≡ Moves → Obeys IsOverrunAt report
  pub disk : IsHonest report → IsOfADisk config.sectors before report → IsRun config.sectors before now report
  pub once : IsHonest report → IsOfADisk config.sectors before report → AreAnsweredOnce report
  pub quiet : IsHonest report → IsOfADisk config.sectors before report → IsQuietAnswered report
  pub settled : IsSettled (honest_part report)

-- so is each lawful report
abbrev pub LawfulKeepsTheHeadline : Type 0
LawfulKeepsTheHeadline =
    (config : Options) (detail : Detail) (jobs : List Submission) (before now : Option (List (List ℕ))) (report : List Line)
    → IsLawful config detail jobs before now report → KeepsTheHeadline config detail before now report
