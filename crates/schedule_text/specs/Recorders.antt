-- What the recorders expose, and what they make of one line.
use Rattle.std.specs.Prelude.{◌≡◌, ℕ, Bool, true, false, List, [], ◌∷◌, ◌++◌, Result, Ok, Err, Some, None}
use Rattle.std.specs.Borrow.{GName}
use Rattle.blk_io.specs.Outside.{SinkSeen, TakesBytes, FailsWriting}
use Rattle.schedule_text.specs.declared.line.Detail.{Detail}
use Rattle.schedule_text.specs.declared.line.Detail.TheVariants.{Lines}
use Rattle.schedule_text.specs.declared.line.Line.{Line}
use Rattle.schedule_text.specs.declared.line.Line.TheVariants.{Effect, Trimmed, Fault}
use Rattle.schedule_text.specs.declared.recorder.RecordStop.{RecordStop}
use Rattle.schedule_text.specs.declared.recorder.RecordStop.TheVariants.{Failed, OutOfMemory}
use Rattle.schedule_text.specs.declared.recorder.Tally.{Tally}
use Rattle.schedule_text.specs.Recorder.{RecorderSeen, line_bytes}

-- a recorder in memory: these are its lines, and it never fails
abbrev pub listing : Detail → List Line → RecorderSeen
listing detail lines = record {
  told = record { lines = Some lines; text = None; tally = None };
  detail = detail;
  faults = 0;
  kept_back = 0;
  lender = None;
}

-- the line is kept, and only memory can be wanting
abbrev pub KeepsLine : Line → Result (Unit {0}) RecordStop → List Line → List Line → Type 0
KeepsLine line (Ok done) before after = after ≡ before ++ line ∷ []
KeepsLine line (Err Failed) before after = ⊥
KeepsLine line (Err OutOfMemory) before after = after ≡ before

-- a recorder over a sink that it was lent: the sink's bytes are the text
abbrev pub writing : Detail → GName → SinkSeen → RecorderSeen
writing detail lender sink = record {
  told = record { lines = None; text = sink.held; tally = None };
  detail = detail;
  faults = sink.faults;
  kept_back = sink.kept_back;
  lender = Some lender;
}

-- the line's text and its line feed are written by one call, and only the sink can fail
abbrev pub WritesLine : Line → Result (Unit {0}) RecordStop → SinkSeen → SinkSeen → Type 0
WritesLine line (Ok done) a b = TakesBytes (line_bytes line) a b
WritesLine line (Err Failed) a b = FailsWriting (line_bytes line) a b
WritesLine line (Err OutOfMemory) a b = ⊥

-- the lines that tell of a call of the disk that may have changed its sectors: a sector was written, sectors were discarded, or the call failed
abbrev pub tells_of_change : Line → Bool
tells_of_change (Effect id index) = true
tells_of_change (Trimmed id) = true
tells_of_change (Fault id index) = true
tells_of_change line = false

-- how many of the bytes that it took a sink keeps back
abbrev pub kept_back_of : SinkSeen → ℕ
kept_back_of sink = sink.kept_back

-- a recorder that counts: it keeps no lines of moves, and never fails
abbrev pub counting : Tally → RecorderSeen
counting tally = record {
  told = record { lines = None; text = None; tally = Some tally };
  detail = Lines;
  faults = 0;
  kept_back = 0;
  lender = None;
}
