-- A run's report goes to the output, and its image is the one named.
use Rattle.std.proofs.Common.{◌≡◌, ℕ, List, Some, Result, Ok, Err, inr, refl, not, sym, ap, subst}
use Rattle.std.specs.Borrow.{GName}
use Rattle.blk_io.specs.Outside.{SourceSeen, SinkSeen}
use Rattle.blk_io.specs.Disk.{DiskSeen, HasLength, IsAttached}
use Rattle.schedule_text.specs.declared.line.Detail.{Detail}
use Rattle.commands.specs.declared.words.RunOptions.{RunOptions}
use Rattle.schedule_text.specs.Recorder.{Told}
use Rattle.schedule_text.specs.Recorders.{writing}
use Rattle.schedule_run.specs.Outcome.{outside, content_of, Runs}
use Rattle.schedule_run.specs.Lawful.{RunsLawfully}
use Rattle.schedule_run.specs.declared.schedule.RunStop.{RunStop}
use Rattle.schedule_run.specs.declared.schedule.RunStop.TheVariants as run
use Rattle.commands.specs.declared.status.Stop.{Stop}
use Rattle.commands.specs.Scene.{Scene, scene, options_of, bytes_limit, with_image, reporting}
use Rattle.commands.specs.Ending.{RunsOn, RunStops, run_stop}
use Rattle.machine_pipeline.specs.Submissions.{jobs_of}
use Rattle.schedule_run.proofs.Headline.{lawful_keeps}
use Rattle.legal_laws.proofs.Runs.{lawful_found}
use Rattle.commands.specs.Reported.{IsReported, IsReportedSoFar, ReportsTheHeadline, RunReports}
use Rattle.commands.proofs.Runs.{run_left}

-- a run as `run_schedule` calls it: the disk with the image attached, and the recorder as the run left it
pub record HasRun (image : List ℕ) (options : RunOptions) (result : Result (Unit {0}) RunStop) (sectors : ℕ) (lender : GName) (old new : Scene) : Type 0 where
  pub sized : HasLength old.disk.content sectors
  pub runs : Runs (options_of options sectors) bytes_limit result old.source new.source (reporting options.detail lender (with_image image options.read_only sectors old.disk) old.output) (reporting options.detail lender new.disk new.output)
  pub lawful : RunsLawfully (options_of options sectors) bytes_limit result old.source new.source (reporting options.detail lender (with_image image options.read_only sectors old.disk) old.output) (reporting options.detail lender new.disk new.output)

some_same : (a b : GName) → Some a ≡ Some b → a ≡ b
some_same a b same = cc

-- the recorder still has its detail and its sink
same_recorder : (detail detail' : Detail) (lender lender' : GName) (output : SinkSeen) → detail' ≡ detail → Some lender' ≡ Some lender → writing detail' lender' output ≡ writing detail lender output
same_recorder detail detail' lender lender' output d l = rw (d, some_same lender' lender l) refl

pub has_run : (image : List ℕ) (options : RunOptions) (detail' : Detail) (result : Result (Unit {0}) RunStop) (sectors : ℕ) (lender lender' : GName) (a b : SourceSeen) (d e f : DiskSeen) (r s t : SinkSeen) → IsAttached image (not options.read_only) sectors d e → t ≡ s → Runs (options_of options sectors) bytes_limit result a b (outside e (writing options.detail lender r)) (outside f (writing detail' lender' s)) → (HasLength (content_of (outside e (writing options.detail lender r))) sectors → RunsLawfully (options_of options sectors) bytes_limit result a b (outside e (writing options.detail lender r)) (outside f (writing detail' lender' s))) → HasRun image options result sectors lender (scene a d r) (scene b f t)
has_run image options detail' result sectors lender lender' a b d e f r s t attached same runs lawful =
    let stays = run_left (options_of options sectors) bytes_limit result a b _ _ runs in
    let recorder : writing detail' lender' s ≡ writing options.detail lender s = same_recorder options.detail detail' lender lender' s stays.stays.detail stays.stays.lender in
    let long : HasLength e.content sectors = subst (λ (x : DiskSeen). HasLength x.content sectors) (sym attached.attached) attached.sized in
    rw same (record {
      sized = attached.sized;
      runs = subst (λ w. Runs (options_of options sectors) bytes_limit result a b (outside (with_image image options.read_only sectors d) (writing options.detail lender r)) (outside f w)) recorder
          (subst (λ x. Runs (options_of options sectors) bytes_limit result a b (outside x (writing options.detail lender r)) (outside f (writing detail' lender' s))) attached.attached runs);
      lawful = subst (λ w. RunsLawfully (options_of options sectors) bytes_limit result a b (outside (with_image image options.read_only sectors d) (writing options.detail lender r)) (outside f w)) recorder
          (subst (λ x. RunsLawfully (options_of options sectors) bytes_limit result a b (outside x (writing options.detail lender r)) (outside f (writing detail' lender' s))) attached.attached (lawful long));
    })

runs_on : (image : List ℕ) (options : RunOptions) (result : Result (Unit {0}) RunStop) (sectors : ℕ) (lender : GName) (old new : Scene) → HasRun image options result sectors lender old new → RunsOn image options result old new
runs_on image options result sectors lender old new h = record { sectors = sectors; sized = h.sized; lender = lender; runs = h.runs }

-- the program stops where the run did
pub run_stops : (image : List ℕ) (options : RunOptions) (why : RunStop) (said : Stop) (sectors : ℕ) (lender : GName) (old new : Scene) → said ≡ run_stop why → HasRun image options (Err why) sectors lender old new → RunStops image options said old new
run_stops image options why said sectors lender old new same h = rw same (at why h)
  where
    at : (why : RunStop) → HasRun image options (Err why) sectors lender old new → RunStops image options (run_stop why) old new
    at (run.BadLine number) h = runs_on image options _ sectors lender old new h
    at run.Source h = runs_on image options _ sectors lender old new h
    at run.TooLong h = runs_on image options _ sectors lender old new h
    at run.Sink h = runs_on image options _ sectors lender old new h
    at run.OutOfMemory h = inr (runs_on image options _ sectors lender old new h)

-- and its report is lawful so far
pub stop_reports : (image : List ℕ) (options : RunOptions) (why : RunStop) (said : Stop) (sectors : ℕ) (lender : GName) (old new : Scene) → said ≡ run_stop why → HasRun image options (Err why) sectors lender old new → RunReports image options (Err said) old new
stop_reports image options why said sectors lender old new same h = rw same (at why h)
  where
    so_far : (why : RunStop) → HasRun image options (Err why) sectors lender old new → IsReportedSoFar image options why old new
    so_far why h =
        let left = run_left (options_of options sectors) bytes_limit (Err why) old.source new.source _ _ h.runs in
        record { sectors = sectors; attached = left.stays.attachment; lender = lender; lawful = h.lawful }

    at : (why : RunStop) → HasRun image options (Err why) sectors lender old new → RunReports image options (Err (run_stop why)) old new
    at (run.BadLine number) h = so_far (run.BadLine number) h
    at run.Source h = so_far run.Source h
    at run.TooLong h = so_far run.TooLong h
    at run.Sink h = so_far run.Sink h
    at run.OutOfMemory h = inr (so_far run.OutOfMemory h)

pub done_reports : (image : List ℕ) (options : RunOptions) (sectors : ℕ) (lender : GName) (old new : Scene) → HasRun image options (Ok tt) sectors lender old new → IsReported image options old new
done_reports image options sectors lender old new h =
    let left = run_left (options_of options sectors) bytes_limit (Ok tt) old.source new.source _ _ h.runs in
    let lawful = h.lawful in
    record {
      sectors = sectors;
      attached = left.stays.attachment;
      events = lawful.events;
      report = lawful.report;
      schedule = lawful.schedule;
      text = ap (λ (t : Told). t.text) lawful.told;
      echo = lawful.echo;
      parts = lawful.parts;
      faults = lawful.faults;
      lawful = lawful.lawful;
      legal = λ of.
          lawful_found (options_of options sectors) options.detail lawful.events old.disk.content new.disk.content lawful.report
          (record { lawful = lawful.lawful; disk = of; echo = lawful.echo; widths = lawful.widths });
    }

-- and a whole report keeps the headline
pub keeps_the_headline : (image : List ℕ) (options : RunOptions) (old new : Scene) → IsReported image options old new → ReportsTheHeadline image options old new
keeps_the_headline image options old new h = record {
  sectors = h.sectors;
  attached = h.attached;
  report = h.report;
  text = h.text;
  headline = lawful_keeps (options_of options h.sectors) options.detail (jobs_of h.events) old.disk.content new.disk.content h.report h.lawful;
}
