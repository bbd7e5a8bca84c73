-- What the report of a run is worth, at each status.
use Rattle.std.specs.Prelude.{◌≡◌, ℕ, ◌⊎◌, List, Some, Result, Ok, Err}
use Rattle.std.specs.Borrow.{GName}
use Rattle.blk_io.specs.Outside.{written}
use Rattle.commands.specs.declared.words.RunOptions.{RunOptions}
use Rattle.schedule_text.specs.declared.line.Line.{Line}
use Rattle.schedule_text.specs.declared.event.Event.{Event}
use Rattle.schedule_text.specs.Recorder.{report_text}
use Rattle.plain_disk.specs.Echo.{Echoes}
use Rattle.plain_disk.specs.Honest.{honest_part}
use Rattle.pipeline_laws.specs.Effects.{IsOfADisk}
use Rattle.machine_pipeline.specs.Submissions.{jobs_of}
use Rattle.legal_laws.specs.Promised.{IsFoundLegal}
use Rattle.event_laws.specs.Parts.{IsAllByEvents}
use Rattle.event_laws.specs.Faults.{faults_in, IsRaised}
use Rattle.schedule_run.specs.Headline.{KeepsTheHeadline}
use Rattle.schedule_run.specs.Lawful.{IsLawful, RunsLawfully}
use Rattle.schedule_run.specs.Reading.{IsWholeSchedule, Tells}
use Rattle.schedule_run.specs.declared.schedule.RunStop.{RunStop}
use Rattle.schedule_run.specs.declared.schedule.RunStop.TheVariants as run
use Rattle.commands.specs.declared.status.Stop.{Stop}
use Rattle.commands.specs.declared.status.Stop.TheVariants.{Broken, Length, Words, BadLine, Source, Sink, OutOfMemory, Image, TooLong}
use Rattle.commands.specs.Scene.{Scene, options_of, bytes_limit, image_named, with_image, reporting}
use Rattle.commands.specs.Ending.{FailsToAttach}

-- the image of that name is attached, and the output gained the text of a report that echoes the whole schedule, event by event, tells each fault of the disk, and is lawful: a run of the plain disk from what the disk held to what it holds, and more (`schedule_run`); and a check of it finds it legal, where the disk is one
pub record IsReported (image : List ℕ) (options : RunOptions) (old new : Scene) : Type 0 where
  pub sectors : ℕ
  pub attached : new.disk.attachment ≡ Some (image_named image options.read_only sectors)
  pub events : List Event
  pub report : List Line
  pub schedule : Tells (λ bytes. IsWholeSchedule bytes_limit bytes events) old.source.left
  pub text : new.output.held ≡ written old.output.held (report_text report)
  pub echo : Echoes (options_of options sectors) options.detail events report
  pub parts : IsAllByEvents (options_of options sectors) options.detail events report
  pub faults : IsRaised (faults_in report) old.disk.faults new.disk.faults
  pub lawful : IsLawful (options_of options sectors) options.detail (jobs_of events) old.disk.content new.disk.content report
  pub legal : IsOfADisk sectors old.disk.content (honest_part report) → IsFoundLegal (report_text report)

-- the image of that name is attached, and the output gained the text of a report that keeps the headline
pub record ReportsTheHeadline (image : List ℕ) (options : RunOptions) (old new : Scene) : Type 0 where
  pub sectors : ℕ
  pub attached : new.disk.attachment ≡ Some (image_named image options.read_only sectors)
  pub report : List Line
  pub text : new.output.held ≡ written old.output.held (report_text report)
  pub headline : KeepsTheHeadline (options_of options sectors) options.detail old.disk.content new.disk.content report

-- the image of that name is attached, and what was told before a stop is lawful
pub record IsReportedSoFar (image : List ℕ) (options : RunOptions) (why : RunStop) (old new : Scene) : Type 0 where
  pub sectors : ℕ
  pub attached : new.disk.attachment ≡ Some (image_named image options.read_only sectors)
  pub lender : GName
  pub lawful : RunsLawfully (options_of options sectors) bytes_limit (Err why) old.source new.source (reporting options.detail lender (with_image image options.read_only sectors old.disk) old.output) (reporting options.detail lender new.disk new.output)

-- so it is by how a run ends
abbrev pub RunReports : List ℕ → RunOptions → Result (Unit {0}) Stop → Scene → Scene → Type 0
RunReports image options (Ok done) old new = IsReported image options old new
RunReports image options (Err (BadLine number)) old new = IsReportedSoFar image options (run.BadLine number) old new
RunReports image options (Err Source) old new = IsReportedSoFar image options run.Source old new
RunReports image options (Err TooLong) old new = IsReportedSoFar image options run.TooLong old new
RunReports image options (Err Sink) old new = IsReportedSoFar image options run.Sink old new
RunReports image options (Err OutOfMemory) old new = (new ≡ old) ⊎ IsReportedSoFar image options run.OutOfMemory old new
RunReports image options (Err Image) old new = FailsToAttach old new
RunReports image options (Err (Length count expected)) old new = ⊥
RunReports image options (Err Words) old new = ⊥
RunReports image options (Err Broken) old new = ⊥

-- at each status of a run: done (0); a bad line (3), the input failed (4) or was too long (8), where all whole lines read by then are reported; the output failed (5), or there was no memory (6), maybe for the image's name; the image failed (7)
pub record ReportsAt (status : ℕ) (image : List ℕ) (options : RunOptions) (old new : Scene) : Type 0 where
  pub done : status ≡ 0 → IsReported image options old new
  pub bad_line : status ≡ 3 → (number : ℕ) × IsReportedSoFar image options (run.BadLine number) old new
  pub input : status ≡ 4 → IsReportedSoFar image options run.Source old new
  pub output : status ≡ 5 → IsReportedSoFar image options run.Sink old new
  pub memory : status ≡ 6 → (new ≡ old) ⊎ IsReportedSoFar image options run.OutOfMemory old new
  pub no_image : status ≡ 7 → FailsToAttach old new
  pub too_long : status ≡ 8 → IsReportedSoFar image options run.TooLong old new
