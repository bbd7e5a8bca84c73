-- The counts of a report, by the whole list of its lines: how many there are of each kind, up to the last count of 64 bits, and the last of the words `quiet` and `unsettled`. Where settling ended in `quiet`, there are as many answers as submissions.
use Rattle.std.specs.Prelude.{◌≡◌, ℕ, ◌-◌, ◌^◌, min, Bool, true, false, List, [], ◌∷◌, fold, count_by, Option, Some, None}
use Rattle.std.specs.List.{filter_map}
use Rattle.schedule_text.specs.declared.line.Line.{Line}
use Rattle.schedule_text.specs.declared.line.Line.TheVariants as lines
use Rattle.schedule_text.specs.declared.recorder.Tally.{Tally}
use Rattle.schedule_text.specs.declared.recorder.RoundsEnd.{RoundsEnd}
use Rattle.schedule_text.specs.declared.recorder.RoundsEnd.TheVariants as verdict
use Rattle.schedule_text.specs.Recorder.{counted}

abbrev pub is_submission : Line → Bool
is_submission (lines.Submit id submission) = true
is_submission line = false

abbrev pub is_refused : Line → Bool
is_refused (lines.Refuse refusal) = true
is_refused line = false

-- both forms of an effect
abbrev pub is_effect : Line → Bool
is_effect (lines.Effect id index) = true
is_effect (lines.EffectRead id index words) = true
is_effect line = false

abbrev pub is_answer : Line → Bool
is_answer (lines.Answer id status) = true
is_answer line = false

-- how many requests were submitted, and how many were answered
abbrev pub submissions_in : List Line → ℕ
submissions_in report = count_by is_submission report

abbrev pub answers_in : List Line → ℕ
answers_in report = count_by is_answer report

-- how many lines are of a kind, up to the last count
abbrev pub how_many : (Line → Bool) → List Line → ℕ
how_many kind report = min (count_by kind report) (2 ^ 64 - 1)

-- the word of a line, if it is one of the two
abbrev pub word_of : Line → Option RoundsEnd
word_of lines.Quiet = Some verdict.Quiet
word_of lines.Unsettled = Some verdict.Unsettled
word_of line = None

abbrev pub last_of : Option RoundsEnd → List RoundsEnd → Option RoundsEnd
last_of last [] = last
last_of last (word ∷ words) = last_of (Some word) words

-- the counts of these lines
abbrev pub counts_of : List Line → Tally
counts_of report = record {
  submitted = how_many is_submission report;
  refused = how_many is_refused report;
  effects = how_many is_effect report;
  answered = how_many is_answer report;
  last = last_of None (filter_map word_of report);
}

-- the counts before any line
abbrev pub no_counts : Tally
no_counts = record { submitted = 0; refused = 0; effects = 0; answered = 0; last = None }

-- a tally that began with nothing has the counts of the lines that it counted
abbrev pub CountsThemAll : Type 0
CountsThemAll = (report : List Line) → fold counted no_counts report ≡ counts_of report

-- a tally that says that all is answered
pub record AreAllAnswered (tally : Tally) : Type 0 where
  pub answered : tally.answered ≡ tally.submitted
  pub last : tally.last ≡ Some verdict.Quiet
