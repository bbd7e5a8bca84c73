-- What the reader does with a schedule's bytes as they come: it carries out the whole lines among them.
use Rattle.std.specs.Prelude.{◌⊎◌, ◌≡◌, ℕ, ◌+◌, ◌*◌, ◌^◌, ◌<◌, ◌≤◌, min, List, [], ◌++◌, length, Option, Some, Result, Ok, Err, option_to_list}
use Rattle.blk_io.specs.Outside.{Rose, SourceSeen, GivesBytes, FailsReading}
use Rattle.blk_io.specs.Disk.{DiskSeen, attached_of}
use Rattle.schedule_text.specs.declared.event.Event.{Event}
use Rattle.schedule_text.specs.Event.{IsReadOf, IsEventOf}
use Rattle.schedule_text.specs.declared.recorder.RecordStop.{RecordStop}
use Rattle.schedule_text.specs.declared.recorder.RecordStop.TheVariants as record_stop
use Rattle.schedule_text.specs.Recorder.{RecorderSeen, HandsOnLines, FailsHandingOn}
use Rattle.vbd_model.specs.Kind.{AreOfAll, AreOfSoFar}
use Rattle.vbd_model.specs.Leads.{Leads, LeadsToStop, Moment, moment}
use Rattle.schedule_run.specs.Machine.{Run}
use Rattle.schedule_run.specs.Reading.{text_of, HasNoLineFeed, first_line, IsBadLine, AreLinesOf, last_line, IsWholeSchedule, HasBadLine, IsTooLong, HasBegun, HasComeTo, HasReadTo, Tells, TellsRest}
use Rattle.schedule_run.specs.declared.schedule.RunStop.{RunStop}
use Rattle.schedule_run.specs.declared.schedule.RunStop.TheVariants as stop

-- what was read so far: the line that was begun, the numbers of whole lines and of events, and the moment
pub record ReadSoFar : Type 0 where
  pub part : List ℕ
  pub lines : ℕ
  pub events : ℕ
  pub at : Moment

abbrev pub read_so_far : Run → List ℕ → ℕ → DiskSeen → RecorderSeen → ReadSoFar
read_so_far run part lines disk recorder = record { part = part; lines = lines; events = run.events; at = moment run.world disk recorder }

-- nothing was read yet
pub record IsFresh (s : ReadSoFar) : Type 0 where
  pub part : s.part ≡ []
  pub lines : s.lines ≡ 0
  pub events : s.events ≡ 0

-- the reader has room for so many bytes more: numbers of lines and events that don't overflow; the disk is attached with the front's sectors
pub record IsReadyToTake (n : ℕ) (s : ReadSoFar) : Type 0 where
  pub unbroken : HasNoLineFeed s.part
  pub fits : length s.part ≤ 128
  pub few : 5 * s.events + length s.part + n ≤ 4294967296
  pub lines : s.lines + length s.part + n ≤ 4294967296
  pub attached : attached_of s.at.disk ≡ Some s.at.world.rings.back.jobs.info.sectors

-- the happenings of these events lead there
abbrev pub EventsLead : List Event → Moment → Moment → Type 0
EventsLead events old new = Leads (AreOfAll events old.world) old new

-- this line was carried out
pub record CarriesLine (line : List ℕ) (events events' : ℕ) (old new : Moment) : Type 0 where
  pub read : Option Event
  pub is_line : IsReadOf read line
  pub counted : events' ≡ events + length (option_to_list read)
  pub leads : EventsLead (option_to_list read) old new

-- the recorder stopped at a line of the last happening of this line's event
pub record StopsInLine (line : List ℕ) (why : RecordStop) (old new : Moment) : Type 0 where
  pub event : Event
  pub is_line : IsEventOf event line
  pub stopped : LeadsToStop (AreOfSoFar event old.world) why old new

-- how carrying out the line of this number stopped
abbrev pub StopsAtLine : List ℕ → ℕ → RunStop → Moment → Moment → Type 0
StopsAtLine line number (stop.BadLine n) old new = (n ≡ number) × IsBadLine line × (new ≡ old)
StopsAtLine line number stop.Source old new = ⊥
StopsAtLine line number stop.TooLong old new = ⊥
StopsAtLine line number stop.Sink old new = StopsInLine line record_stop.Failed old new
StopsAtLine line number stop.OutOfMemory old new = StopsInLine line record_stop.OutOfMemory old new

-- the line that was begun is whole: it was carried out, or stopped the run
pub record HasFed (old new : ReadSoFar) : Type 0 where
  pub carried : CarriesLine old.part old.events new.events old.at new.at
  pub part : new.part ≡ []
  pub lines : new.lines ≡ old.lines + 1

abbrev pub Feeds : Result (Unit {0}) RunStop → ReadSoFar → ReadSoFar → Type 0
Feeds (Ok done) old new = HasFed old new
Feeds (Err why) old new = StopsAtLine old.part (old.lines + 1) why old.at new.at

-- the last line was carried out, if there is one
pub record CarriesLast (line : List ℕ) (old new : Moment) : Type 0 where
  pub asked : List Event
  pub are_lines : AreLinesOf (last_line line) asked
  pub leads : EventsLead asked old new

abbrev pub Finishes : Result (Unit {0}) RunStop → ReadSoFar → ReadSoFar → Type 0
Finishes (Ok done) old new = CarriesLast old.part old.at new.at
Finishes (Err why) old new = (1 ≤ length old.part) × StopsAtLine old.part (old.lines + 1) why old.at new.at

-- the whole lines of the part and this piece were carried out, and what is after them is the part now
pub record Carries (piece : List ℕ) (old new : ReadSoFar) : Type 0 where
  pub whole : List (List ℕ)
  pub asked : List Event
  pub all : old.part ++ piece ≡ text_of whole ++ new.part
  pub are_lines : AreLinesOf whole asked
  pub unbroken : HasNoLineFeed new.part
  pub fits : length new.part ≤ 128
  pub lines : new.lines ≡ old.lines + length whole
  pub events : new.events ≡ old.events + length asked
  pub leads : EventsLead asked old.at new.at

-- whatever comes after these bytes, the line that they begin with is bad, and they show it
pub record IsSurelyBad (bytes : List ℕ) : Type 0 where
  pub bad : (further : List ℕ) → IsBadLine (first_line (bytes ++ further))
  pub seen : (further : List ℕ) → min (length (first_line (bytes ++ further)) + 1) 129 ≤ length bytes

-- whole lines of the part and this piece were carried out, and the next one, of this number, is bad
pub record MeetsBad (piece : List ℕ) (old : ReadSoFar) (number : ℕ) (new : Moment) : Type 0 where
  pub whole : List (List ℕ)
  pub asked : List Event
  pub rest : List ℕ
  pub all : old.part ++ piece ≡ text_of whole ++ rest
  pub are_lines : AreLinesOf whole asked
  pub is_number : number ≡ old.lines + length whole + 1
  pub bad : IsSurelyBad rest
  pub leads : EventsLead asked old.at new

-- whole lines of the part and this piece were carried out, and in the next one the recorder stopped
pub record MeetsStop (piece : List ℕ) (why : RecordStop) (old : ReadSoFar) (new : Moment) : Type 0 where
  pub whole : List (List ℕ)
  pub asked : List Event
  pub line : List ℕ
  pub rest : List ℕ
  pub all : old.part ++ piece ≡ text_of whole ++ (line ++ rest)
  pub are_lines : AreLinesOf whole asked
  pub middle : Moment
  pub leads : EventsLead asked old.at middle
  pub stops : StopsInLine line why middle new

-- how carrying out the lines of the part and this piece stopped
abbrev pub Halts : List ℕ → ReadSoFar → RunStop → Moment → Type 0
Halts piece old (stop.BadLine n) new = MeetsBad piece old n new
Halts piece old stop.Source new = ⊥
Halts piece old stop.TooLong new = ⊥
Halts piece old stop.Sink new = MeetsStop piece record_stop.Failed old new
Halts piece old stop.OutOfMemory new = MeetsStop piece record_stop.OutOfMemory old new

abbrev pub Takes : List ℕ → Result (Unit {0}) RunStop → ReadSoFar → ReadSoFar → Type 0
Takes piece (Ok done) old new = Carries piece old new
Takes piece (Err why) old new = Halts piece old why new.at

-- events of which this is so were carried out
pub record Reads (claim : List Event → Type 0) (old new : Moment) : Type 0 where
  pub events : List Event
  pub few : length events ≤ 10 ^ 9
  pub schedule : claim events
  pub leads : EventsLead events old new

-- events were carried out, and in the next one the recorder stopped
pub record ReadsToStop (left : Option (List ℕ)) (why : RecordStop) (old new : Moment) : Type 0 where
  pub events : List Event
  pub event : Event
  pub few : length events < 10 ^ 9
  pub schedule : Tells (λ bytes. HasComeTo bytes events event) left
  pub middle : Moment
  pub leads : EventsLead events old middle
  pub stopped : LeadsToStop (AreOfSoFar event middle.world) why middle new

-- events were carried out, and then the recorder failed to hand on what it kept back
pub record ReadsUnsent (left : Option (List ℕ)) (old new : Moment) : Type 0 where
  pub before : RecorderSeen
  pub carried : Reads (λ events. Tells (λ bytes. HasBegun bytes events) left) old (moment new.world new.disk before)
  pub failed : FailsHandingOn before new.recorder

-- how reading a source stopped
abbrev pub ReadStops : ℕ → SourceSeen → SourceSeen → RunStop → Moment → Moment → Type 0
ReadStops limit a b (stop.BadLine n) old new = (b.faults ≡ a.faults) × Reads (λ events. Tells (λ bytes. HasBadLine limit bytes events n) a.left) old new
ReadStops limit a b stop.Source old new = Rose a.faults b.faults × Reads (λ events. TellsRest (λ bytes rest. HasReadTo bytes rest events) a.left b.left) old new
ReadStops limit a b stop.TooLong old new = (b.faults ≡ a.faults) × Reads (λ events. Tells (λ bytes. IsTooLong limit bytes events) a.left) old new
ReadStops limit a b stop.Sink old new = (b.faults ≡ a.faults) × (ReadsToStop a.left record_stop.Failed old new ⊎ ReadsUnsent a.left old new)
ReadStops limit a b stop.OutOfMemory old new = (b.faults ≡ a.faults) × ReadsToStop a.left record_stop.OutOfMemory old new

-- the recorder handed on what it kept back, and then the source gave bytes or failed; where the recorder failed, the source wasn't read
abbrev pub ReadsHandedOn : List ℕ → Result ℕ RunStop → SourceSeen → SourceSeen → RecorderSeen → RecorderSeen → Type 0
ReadsHandedOn buffer (Ok count) a b r s = HandsOnLines {E = Unit {0}} (Ok tt) r s × GivesBytes count buffer a b
ReadsHandedOn buffer (Err stop.Source) a b r s = HandsOnLines {E = Unit {0}} (Ok tt) r s × FailsReading a b
ReadsHandedOn buffer (Err stop.Sink) a b r s = FailsHandingOn r s × (b ≡ a)
ReadsHandedOn buffer (Err why) a b r s = ⊥

-- a source was read to its end, or reading it stopped
abbrev pub ReadsAll : ℕ → Result (Unit {0}) RunStop → SourceSeen → SourceSeen → Moment → Moment → Type 0
ReadsAll limit (Ok done) a b old new = (b.faults ≡ a.faults) × Reads (λ events. Tells (λ bytes. IsWholeSchedule limit bytes events) a.left) old new
ReadsAll limit (Err why) a b old new = ReadStops limit a b why old new
