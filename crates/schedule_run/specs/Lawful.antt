-- What every report of a run tells, whatever its schedule: `report_rules`, `checked_rules`, `plain_disk`, `pipeline_laws` and `report_laws` have the rules.
use Rattle.std.specs.Prelude.{◌≡◌, ℕ, ◌+◌, ◌≤◌, ◌⊎◌, Bool, true, false, List, ◌++◌, length, filter, Option, Result, Ok, Err, All}
use Rattle.blk_base.specs.Options.{Options}
use Rattle.blk_base.specs.declared.config.Submission.{Submission}
use Rattle.blk_io.specs.Outside.{SourceSeen}
use Rattle.schedule_text.specs.declared.event.Event.{Event}
use Rattle.schedule_text.specs.declared.line.Detail.{Detail}
use Rattle.schedule_text.specs.declared.line.Detail.TheVariants.{Moves}
use Rattle.schedule_text.specs.declared.line.Line.{Line}
use Rattle.schedule_text.specs.declared.line.Line.TheVariants as lines
use Rattle.schedule_text.specs.declared.recorder.RecordStop.{RecordStop}
use Rattle.schedule_text.specs.declared.recorder.RecordStop.TheVariants as record_stop
use Rattle.schedule_text.specs.Range.{SubmissionHasWidths}
use Rattle.schedule_text.specs.Recorder.{Told, gained, recorded, StopsWithin}
use Rattle.report_rules.specs.Obeys.{Obeys}
use Rattle.checked_rules.specs.Rules.{move_rules, ObeysEach}
use Rattle.ring_laws.specs.Unmaps.{AreUnmaps}
use Rattle.ring_laws.specs.Own.{AreOwn}
use Rattle.ring_laws.specs.Layout.{IsNamedFirst}
use Rattle.move_laws.specs.Grantable.{AreGrantable}
use Rattle.move_laws.specs.Dumped.{AreWholeDumps}
use Rattle.plain_disk.specs.Honest.{honest_part, IsHonest}
use Rattle.plain_disk.specs.Echo.{is_echo, AnswersAll, Echoes}
use Rattle.pipeline_laws.specs.Run.{IsRun}
use Rattle.pipeline_laws.specs.Effects.{IsOfADisk}
use Rattle.disk_laws.specs.Run.{IsRunSoFar}
use Rattle.machine_pipeline.specs.Submissions.{jobs_of}
use Rattle.pipeline_laws.specs.Submissions.{IsAnswerAt, AreAnswered}
use Rattle.pipeline_laws.specs.Answered.{AreAnsweredOnce, IsQuietAnswered}
use Rattle.pipeline_laws.specs.Unbroken.{IsUnbroken}
use Rattle.answer_laws.specs.Okay.{AreAnsweredByFaults}
use Rattle.pipeline_laws.specs.States.{AreStates}
use Rattle.report_laws.specs.Begun.{IsBegun, IsBegunSoFar}
use Rattle.report_laws.specs.Grammar.{IsInGrammar}
use Rattle.report_laws.specs.Ready.{IsReadyFirst}
use Rattle.report_laws.specs.Settled.{IsSettled}
use Rattle.report_laws.specs.QuietRing.{IsQuietRing}
use Rattle.report_laws.specs.States.{AreStatesAgreed}
use Rattle.report_laws.specs.Ports.{AreFewPorts}
use Rattle.vbd_laws.specs.Halts.{HaltsByCauses}
use Rattle.vbd_laws.specs.Breaks.{AreBreaksDue, IsOverOnce}
use Rattle.vbd_laws.specs.AnswersRead.{AreRead}
use Rattle.vbd_laws.specs.StateLines.{StandAsSaid}
use Rattle.refusal_laws.specs.Ruled.{AreRuled}
use Rattle.event_laws.specs.Parts.{IsByEvents, IsAllByEvents}
use Rattle.event_laws.specs.Faults.{faults_in, IsRaised}
use Rattle.vbd_model.specs.Leads.{Moment}
use Rattle.schedule_run.specs.Reading.{IsWholeSchedule, HasBadLine, IsTooLong, HasReadTo, IsReadSoFar, Tells, TellsRest}
use Rattle.schedule_run.specs.Outcome.{Outside, HasCarried}
use Rattle.schedule_run.specs.declared.schedule.RunStop.{RunStop}
use Rattle.schedule_run.specs.declared.schedule.RunStop.TheVariants as stop

-- what the moves that a report shows are besides, which no rule of a reader asks: each touch of the back or a job is of a word of frames 2 to 1023; a dump shows each word of a ring of `2^order` pages that isn't 0; the back reads which layout of entries it is to serve only before it maps a page of the ring; and a job reads, writes and unmaps only through what it mapped itself
pub record ObeysMoves (order : ℕ) (report : List Line) : Type 0 where
  pub grantable : AreGrantable report
  pub dumps : AreWholeDumps order report
  pub layout : IsNamedFirst report
  pub unmaps : AreUnmaps report
  pub own : AreOwn report

-- what a report shows of both ends stands exactly where its cause does: the halts of the back, the words that break the front, after which it does nothing more, the answers, and the lines of the front's state
pub record HasCauses (report : List Line) : Type 0 where
  pub halts : HaltsByCauses report
  pub breaks : AreBreaksDue report
  pub over : IsOverOnce report
  pub answers : AreRead report
  pub states : StandAsSaid report

-- a report is a run of the plain disk, from what the disk held to what it holds; it answers these submissions, one line each, as the lines before say; each request has at most one answer, `error` where the disk failed at it in its epoch and else `ok`; at each `quiet` line all have theirs; no line of it is a breach of the protocol, and the front connects and closes in order
pub record ServesRequests (config : Options) (jobs : List Submission) (before now : Option (List (List ℕ))) (report : List Line) : Type 0 where
  pub disk : IsRun config.sectors before now report
  pub submissions : AreAnswered jobs report
  pub once : AreAnsweredOnce report
  pub statuses : AreAnsweredByFaults report
  pub quiet : IsQuietAnswered report
  pub unbroken : IsUnbroken report
  pub states : AreStates report

-- so is the beginning of one, as far as it was written
pub record ServesRequestsSoFar (jobs : List Submission) (before : Option (List (List ℕ))) (report : List Line) : Type 0 where
  pub disk : IsRunSoFar before report
  pub submissions : Obeys (IsAnswerAt jobs) report
  pub once : AreAnsweredOnce report
  pub statuses : AreAnsweredByFaults report
  pub quiet : IsQuietAnswered report
  pub unbroken : IsUnbroken report
  pub states : AreStates report

-- a report, as far as it was written, begins with the options; its lines are lines of the grammar that its text gives back; each submission has the answer of the first rule that applies, as the lines before it say, also after a hostile line; and where it shows the moves, they obey each rule on them, the front makes at most 4 ports in an epoch, and each `halt`, each `broken`, each `answer` and each line of the front's state stands exactly where its cause does, whatever a hostile hand overwrites. Its lines before the first hostile one serve the requests as the plain disk does, from what the disk held, where the disk tells that, or what they show of it are the calls of a disk; the front was connected before the first `quiet` line of them, no `settle` ran out of rounds, and where moves are shown the ring is served and read at each of their `quiet` lines, and both ends have said that they are connected, or, after a `closing` line, that they are closed
pub record IsLawfulSoFar (config : Options) (detail : Detail) (jobs : List Submission) (before : Option (List (List ℕ))) (report : List Line) : Type 0 where
  pub begun : IsBegunSoFar config detail report
  pub grammar : IsInGrammar report
  pub refusals : AreRuled jobs report
  pub honest : IsOfADisk config.sectors before (honest_part report) → ServesRequestsSoFar jobs before (honest_part report)
  pub ready : IsReadyFirst (honest_part report)
  pub settled : IsSettled (honest_part report)
  pub ring : detail ≡ Moves → IsQuietRing (honest_part report)
  pub agreed : detail ≡ Moves → AreStatesAgreed (honest_part report)
  pub ports : detail ≡ Moves → AreFewPorts report
  pub causes : detail ≡ Moves → HasCauses report
  pub moves : detail ≡ Moves → ObeysMoves config.order report
  pub rules : ObeysEach move_rules report

-- so is a whole report, which has a first line; a read-only disk holds what it held; and where no hostile hand touched the report, all of it serves the requests, from what the disk held to what it holds
pub record IsLawful (config : Options) (detail : Detail) (jobs : List Submission) (before now : Option (List (List ℕ))) (report : List Line) : Type 0 where
  pub begun : IsBegun config detail report
  pub so_far : IsLawfulSoFar config detail jobs before report
  pub kept : config.read_only ≡ true → now ≡ before
  pub requests : IsHonest report → IsOfADisk config.sectors before report → ServesRequests config jobs before now report

-- a lawful report was told, which echoes these events and falls into the lines of each; each event that submits has numbers of the grammar; and the faults that it tells are those of the disk
pub record HasLawfulReport (config : Options) (events : List Event) (old new : Outside) : Type 0 where
  pub report : List Line
  pub told : new.recorder.told ≡ gained old.recorder.told report
  pub echo : AnswersAll config.order events (filter is_echo report)
  pub parts : IsByEvents config old.recorder.detail events report
  pub faults : IsRaised (faults_in report) old.disk.faults new.disk.faults
  pub widths : All SubmissionHasWidths (jobs_of events)
  pub lawful : IsLawful config old.recorder.detail (jobs_of events) old.disk.content new.disk.content report

-- these lines were told; and where the recorder failed at most a beginning of one more, but for want of memory none
abbrev pub IsToldSoFar : RecordStop → Detail → List Line → Told → Told → Type 0
IsToldSoFar record_stop.Failed detail report old new = (new ≡ gained old report) ⊎ ((cut : Line) × StopsWithin (gained old report) (recorded detail cut) new)
IsToldSoFar record_stop.OutOfMemory detail report old new = new ≡ gained old report

-- a line tells of a call of the disk
abbrev pub tells_call : Line → Bool
tells_call (lines.Effect id index) = true
tells_call (lines.EffectRead id index words) = true
tells_call (lines.Flushed id) = true
tells_call (lines.Trimmed id) = true
tells_call (lines.Fault id index) = true
tells_call line = false

abbrev pub calls_in : List Line → ℕ
calls_in report = length (filter tells_call report)

-- the disk holds what these lines leave, or what they leave with others of which one alone tells of a call of the disk: one call was made whose line wasn't told
pub record IsOneCallPast (sectors : ℕ) (before now : Option (List (List ℕ))) (report : List Line) : Type 0 where
  pub more : List Line
  pub few : calls_in more ≤ 1
  pub run : IsOfADisk sectors before (report ++ more) → IsRun sectors before now (report ++ more)

-- the faults that these lines tell are those of the disk, but for one more at most
abbrev pub IsOneFaultPast : (report : List Line) (before now : ℕ) → Type 0
IsOneFaultPast report before now = IsRaised (faults_in report) before now ⊎ IsRaised (faults_in report + 1) before now

-- the lines that were told whole are lawful: they answer the submissions of these events; the image is that of these lines, or one call of the disk further; and a read-only disk holds what it held
pub record HasLawfulBeginning (config : Options) (why : RecordStop) (events : List Event) (old new : Outside) : Type 0 where
  pub report : List Line
  pub told : IsToldSoFar why old.recorder.detail report old.recorder.told new.recorder.told
  pub lawful : IsLawfulSoFar config old.recorder.detail (jobs_of events) old.disk.content report
  pub image : IsHonest report → IsOneCallPast config.sectors old.disk.content new.disk.content report
  pub faults : IsOneFaultPast report old.disk.faults new.disk.faults
  pub kept : config.read_only ≡ true → new.disk.content ≡ old.disk.content

-- an event, after others that led here from the outside where the run began, left the report lawful, and can be followed by more
pub record LeavesLawful (config : Options) (events : List Event) (old : Outside) (new : Moment) : Type 0 where
  pub carried : HasCarried config events old new
  pub told : HasLawfulReport config events old (record { disk = new.disk; recorder = new.recorder })

abbrev pub EventLeaves : Options → List Event → Outside → Result (Unit {0}) RecordStop → Moment → Type 0
EventLeaves config events old (Ok done) new = LeavesLawful config events old new
EventLeaves config events old (Err why) new = HasLawfulBeginning config why events old (record { disk = new.disk; recorder = new.recorder })

-- a whole schedule was read, and its report is lawful and echoes it, from `begin` to `end`, event by event; each event that submits has numbers of the grammar; and the faults that the report tells are those of the disk
pub record IsLawfulRun (config : Options) (limit : ℕ) (left : Option (List ℕ)) (old new : Outside) : Type 0 where
  pub events : List Event
  pub schedule : Tells (λ bytes. IsWholeSchedule limit bytes events) left
  pub report : List Line
  pub told : new.recorder.told ≡ gained old.recorder.told report
  pub echo : Echoes config old.recorder.detail events report
  pub parts : IsAllByEvents config old.recorder.detail events report
  pub faults : IsRaised (faults_in report) old.disk.faults new.disk.faults
  pub widths : All SubmissionHasWidths (jobs_of events)
  pub lawful : IsLawful config old.recorder.detail (jobs_of events) old.disk.content new.disk.content report

-- events of which this is so were carried out, and a lawful report of them was told
abbrev pub ToldOf : Options → (List Event → Type 0) → Outside → Outside → Type 0
ToldOf config claim old new = (events : List Event) × claim events × HasLawfulReport config events old new

-- as many events were read as the lines that were told whole answer
abbrev pub BeginsLawfully : Options → ℕ → RecordStop → SourceSeen → Outside → Outside → Type 0
BeginsLawfully config limit why a old new =
    (events : List Event) × Tells (λ bytes. IsReadSoFar limit bytes events) a.left × HasLawfulBeginning config why events old new

-- what was told before a stop is lawful: the report of all whole lines that were read where the schedule or its source stops the run, with the image that they leave; else the lines that were told whole, as answers to the submissions that were read by then
abbrev pub IsLawfulStop : Options → ℕ → SourceSeen → SourceSeen → RunStop → Outside → Outside → Type 0
IsLawfulStop config limit a b (stop.BadLine n) old new = ToldOf config (λ events. Tells (λ bytes. HasBadLine limit bytes events n) a.left) old new
IsLawfulStop config limit a b stop.Source old new = ToldOf config (λ events. TellsRest (λ bytes rest. HasReadTo bytes rest events) a.left b.left) old new
IsLawfulStop config limit a b stop.TooLong old new = ToldOf config (λ events. Tells (λ bytes. IsTooLong limit bytes events) a.left) old new
IsLawfulStop config limit a b stop.Sink old new = BeginsLawfully config limit record_stop.Failed a old new
IsLawfulStop config limit a b stop.OutOfMemory old new = BeginsLawfully config limit record_stop.OutOfMemory a old new

abbrev pub RunsLawfully : Options → ℕ → Result (Unit {0}) RunStop → SourceSeen → SourceSeen → Outside → Outside → Type 0
RunsLawfully config limit (Ok done) a b old new = IsLawfulRun config limit a.left old new
RunsLawfully config limit (Err why) a b old new = IsLawfulStop config limit a b why old new
