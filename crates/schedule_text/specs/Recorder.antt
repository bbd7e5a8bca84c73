-- What a recorder exposes of the lines that it was given, and what a call makes of that.
use Rattle.std.specs.Prelude.{◌≡◌, ℕ, ◌+◌, ◌-◌, ◌^◌, min, List, [], ◌∷◌, ◌++◌, fold, Option, Some, None, Result, Ok, Err}
use Rattle.std.specs.List.{flat_map}
use Rattle.std.specs.Borrow.{GName}
use Rattle.blk_io.specs.Outside.{written, IsPartlyWritten, Rose}
use Rattle.schedule_text.specs.declared.line.Detail.{Detail}
use Rattle.schedule_text.specs.declared.line.Detail.TheVariants.{Lines}
use Rattle.schedule_text.specs.declared.line.Line.{Line}
use Rattle.schedule_text.specs.declared.line.Line.TheVariants.{Begin, Submit, Refuse, Effect, EffectRead, Answer, Quiet, Unsettled, Move}
use Rattle.schedule_text.specs.declared.recorder.RecordStop.{RecordStop}
use Rattle.schedule_text.specs.declared.recorder.RecordStop.TheVariants.{Failed, OutOfMemory}
use Rattle.schedule_text.specs.declared.recorder.Tally.{Tally}
use Rattle.schedule_text.specs.declared.recorder.RoundsEnd.TheVariants as verdict
use Rattle.schedule_text.specs.Line.{text_of}

-- a line as the report's text has it: its text and a line feed
abbrev pub line_bytes : Line → List ℕ
line_bytes line = text_of line ++ 10 ∷ []

-- the text of a report
abbrev pub report_text : List Line → List ℕ
report_text lines = flat_map line_bytes lines

-- one more, or the last count
abbrev pub one_more : ℕ → ℕ
one_more n = min (n + 1) (2 ^ 64 - 1)

-- the counts after one line more
abbrev pub counted : Tally → Line → Tally
counted t (Submit id job) = record t { submitted = one_more t.submitted }
counted t (Refuse refusal) = record t { refused = one_more t.refused }
counted t (Effect id index) = record t { effects = one_more t.effects }
counted t (EffectRead id index words) = record t { effects = one_more t.effects }
counted t (Answer id status) = record t { answered = one_more t.answered }
counted t Quiet = record t { last = Some verdict.Quiet }
counted t Unsettled = record t { last = Some verdict.Unsettled }
counted t line = t

-- what a recorder tells: the lines, their text, their counts; each where it tells that
pub record Told : Type 0 where
  pub lines : Option (List Line)
  pub text : Option (List ℕ)
  pub tally : Option Tally

abbrev pub with_lines : Option (List Line) → List Line → Option (List Line)
with_lines None more = None
with_lines (Some lines) more = Some (lines ++ more)

abbrev pub with_counts : Option Tally → List Line → Option Tally
with_counts None more = None
with_counts (Some tally) more = Some (fold counted tally more)

-- what is told after these lines more
abbrev pub gained : Told → List Line → Told
gained told more = record {
  lines = with_lines told.lines more;
  text = written told.text (report_text more);
  tally = with_counts told.tally more;
}

-- what a recorder keeps of a line: a begin line says the recorder's own word, and lines of moves
-- are kept where that word is `moves`
abbrev pub recorded : Detail → Line → List Line
recorded detail (Begin config other) = Begin config detail ∷ []
recorded Lines (Move move) = []
recorded detail line = line ∷ []

-- after a failure nothing more is told than before, but that a beginning of the lines' text may have been taken
pub record StopsWithin (old : Told) (more : List Line) (new : Told) : Type 0 where
  pub lines : new.lines ≡ old.lines
  pub tally : new.tally ≡ old.tally
  pub text : IsPartlyWritten old.text (report_text more) new.text

-- after any stop: want of memory leaves what is told as it was
abbrev pub StopsAt : RecordStop → Told → List Line → Told → Type 0
StopsAt Failed old more new = StopsWithin old more new
StopsAt OutOfMemory old more new = new ≡ old

-- what these lines are to a recorder that keeps them
abbrev pub kept_of : Detail → List Line → List Line
kept_of detail lines = flat_map (recorded detail) lines

-- what a recorder exposes: what it tells of the lines so far; whether it keeps those of moves; how often it failed; how many bytes a sink under it keeps back; the reference to a sink that it was lent, if it was
pub record RecorderSeen : Type 0 where
  pub told : Told
  pub detail : Detail
  pub faults : ℕ
  pub kept_back : ℕ
  pub lender : Option GName

abbrev pub detail_of : RecorderSeen → Detail
detail_of seen = seen.detail

-- it took these lines
pub record Gained (more : List Line) (a b : RecorderSeen) : Type 0 where
  pub told : b.told ≡ gained a.told (kept_of a.detail more)
  pub detail : b.detail ≡ a.detail
  pub faults : b.faults ≡ a.faults
  pub lender : b.lender ≡ a.lender

-- why it stopped: it failed, and its count rose; or there was no memory, and the count stayed
abbrev pub Because : RecordStop → ℕ → ℕ → Type 0
Because Failed before after = Rose before after
Because OutOfMemory before after = after ≡ before

-- it took the lines before, stopped at one of these, and keeps those before that
pub record StopsAmong (before more : List Line) (stop : RecordStop) (a b : RecorderSeen) : Type 0 where
  pub said : List Line
  pub cut : Line
  pub rest : List Line
  pub all : more ≡ said ++ cut ∷ rest
  pub stops : StopsAt stop (gained a.told (kept_of a.detail (before ++ said))) (recorded a.detail cut) b.told
  pub detail : b.detail ≡ a.detail
  pub because : Because stop a.faults b.faults
  pub lender : b.lender ≡ a.lender

-- these lines were given to it, in order
abbrev pub Adds : List Line → Result (Unit {0}) RecordStop → RecorderSeen → RecorderSeen → Type 0
Adds more (Ok done) a b = Gained more a b
Adds more (Err stop) a b = StopsAmong [] more stop a b

-- handing on failed: it tells the same
pub record FailsHandingOn (a b : RecorderSeen) : Type 0 where
  pub told : b.told ≡ a.told
  pub detail : b.detail ≡ a.detail
  pub rose : Rose a.faults b.faults
  pub lender : b.lender ≡ a.lender

-- it hands on what a sink under it keeps back
abbrev pub HandsOnLines : {E : Type 0} → Result (Unit {0}) E → RecorderSeen → RecorderSeen → Type 0
HandsOnLines (Ok done) a b = b ≡ record a { kept_back = 0 }
HandsOnLines (Err failed) a b = FailsHandingOn a b
