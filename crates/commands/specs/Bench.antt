-- What the command `bench` leaves and says: the counts of a lawful report of exactly the generated schedule, run on 4096 sectors of zeros in memory.
use Rattle.std.specs.Prelude.{◌≡◌, ℕ, ◌⊎◌, List, Option, Some, Result, Ok, Err, replicate}
use Rattle.blk_io.specs.Outside.{SinkSeen, TakesBytes, FailsWriting, FailsHandingOn}
use Rattle.blk_io.specs.Disk.{attached_of, zero_sector}
use Rattle.image_disk.specs.Image.{Image, image_seen}
use Rattle.schedule_text.specs.declared.event.Event.{Event}
use Rattle.schedule_text.specs.declared.line.Detail.TheVariants.{Lines}
use Rattle.schedule_text.specs.declared.line.Line.{Line}
use Rattle.schedule_text.specs.declared.recorder.Tally.{Tally}
use Rattle.plain_disk.specs.Echo.{Echoes}
use Rattle.answer_laws.specs.Counts.{counts_of, AreAllAnswered}
use Rattle.machine_pipeline.specs.Submissions.{jobs_of}
use Rattle.schedule_run.specs.Lawful.{IsLawful}
use Rattle.bench_load.specs.Generated.{schedule_of}
use Rattle.bench_load.specs.Summary.{summary_of}
use Rattle.commands.specs.declared.status.Stop.{Stop}
use Rattle.commands.specs.declared.status.Stop.TheVariants.{Sink, OutOfMemory}
use Rattle.commands.specs.Scene.{Scene, options_of, no_options}

-- the sectors of the disk
abbrev pub zeros : List (List ℕ)
zeros = replicate 4096 zero_sector

-- the disk is attached, and all its sectors are zeros
pub record IsZeroDisk (disk : Image) : Type 0 where
  pub attached : attached_of (image_seen disk) ≡ Some 4096
  pub content : disk.content ≡ zeros

-- the counts of a report that echoes the schedule, on the options of a run without others, and is lawful: a run of the plain disk over zeros, and more; as many requests were answered as were submitted, and the last word is `quiet`
pub record IsTallyOf (schedule : List Event) (tally : Tally) : Type 0 where
  pub report : List Line
  pub left : Option (List (List ℕ))
  pub echo : Echoes (options_of no_options 4096) Lines schedule report
  pub lawful : IsLawful (options_of no_options 4096) Lines (jobs_of schedule) (Some zeros) left report
  pub counts : tally ≡ counts_of report
  pub all_answered : AreAllAnswered tally

-- there is that tally, or no memory
abbrev pub Tallies : ℕ → ℕ → Result Tally Stop → Type 0
Tallies seed count (Ok tally) = IsTallyOf (schedule_of seed count) tally
Tallies seed count (Err OutOfMemory) = Unit {0}
Tallies seed count (Err stop) = ⊥

-- the summary was written, and the output handed on what it kept back
pub record IsSummed (seed count : ℕ) (before after : SinkSeen) : Type 0 where
  pub tally : Tally
  pub is_tally : IsTallyOf (schedule_of seed count) tally
  pub between : SinkSeen
  pub written : TakesBytes (summary_of tally) before between
  pub handed_on : after ≡ record between { kept_back = 0 }

-- the output failed at the summary, or to hand on what it kept back
abbrev pub FailsToSay : List ℕ → SinkSeen → SinkSeen → Type 0
FailsToSay text before after =
    FailsWriting text before after ⊎ ((between : SinkSeen) × TakesBytes text before between × FailsHandingOn between after)

pub record IsUnsummed (seed count : ℕ) (before after : SinkSeen) : Type 0 where
  pub tally : Tally
  pub is_tally : IsTallyOf (schedule_of seed count) tally
  pub failed : FailsToSay (summary_of tally) before after

abbrev pub BenchEnds : ℕ → ℕ → Result (Unit {0}) Stop → SinkSeen → SinkSeen → Type 0
BenchEnds seed count (Ok done) before after = IsSummed seed count before after
BenchEnds seed count (Err Sink) before after = IsUnsummed seed count before after
BenchEnds seed count (Err OutOfMemory) before after = after ≡ before
BenchEnds seed count (Err stop) before after = ⊥

-- at each status of a bench: done (0), the output failed (5), no memory (6), and no other; input and image are as before
pub record BenchAt (status seed count : ℕ) (old new : Scene) : Type 0 where
  pub done : status ≡ 0 → IsSummed seed count old.output new.output
  pub output : status ≡ 5 → IsUnsummed seed count old.output new.output
  pub only : (status ≡ 0) ⊎ (status ≡ 5) ⊎ (status ≡ 6)
  pub source : new.source ≡ old.source
  pub disk : new.disk ≡ old.disk
