-- How a report echoes a schedule: one line for each event that has an answer, in order.
use Rattle.std.specs.Prelude.{◌≡◌, ◌≢◌, ℕ, ◌+◌, ◌*◌, ◌/◌, ◌%◌, ◌^◌, ◌<◌, ◌≤◌, Bool, true, false, List, [], ◌∷◌, ◌++◌, filter}
use Rattle.blk_base.specs.Options.{Options}
use Rattle.blk_base.specs.declared.config.Submission.{Submission}
use Rattle.schedule_text.specs.declared.event.Event.{Event}
use Rattle.schedule_text.specs.declared.event.Event.TheVariants as events
use Rattle.schedule_text.specs.declared.line.Detail.{Detail}
use Rattle.schedule_text.specs.declared.line.Line.{Line}
use Rattle.schedule_text.specs.declared.line.Line.TheVariants as lines

-- a line of a kind that echoes an event, or the end
abbrev pub is_echo : Line → Bool
is_echo (lines.Submit id submission) = true
is_echo (lines.Refuse refusal) = true
is_echo lines.Quiet = true
is_echo lines.Unsettled = true
is_echo lines.Busy = true
is_echo lines.Epoch = true
is_echo (lines.Poke frame word value) = true
is_echo (lines.Key name text) = true
is_echo (lines.Word frame word value) = true
is_echo lines.End = true
is_echo line = false

-- the answer to a submission: its request with the same arguments, or a refusal
abbrev pub AnswersSubmit : Submission → Line → Type 0
AnswersSubmit submission (lines.Submit id other) = other ≡ submission
AnswersSubmit submission (lines.Refuse refusal) = Unit {0}
AnswersSubmit submission line = ⊥

-- the answer to `settle`
abbrev pub AnswersSettle : Line → Type 0
AnswersSettle lines.Quiet = Unit {0}
AnswersSettle lines.Unsettled = Unit {0}
AnswersSettle line = ⊥

-- the answer to `look`
abbrev pub AnswersLook : Line → Type 0
AnswersLook lines.Quiet = Unit {0}
AnswersLook lines.Busy = Unit {0}
AnswersLook line = ⊥

-- words of the ring from this place on and below that bound, ascending, none of value 0; the ring's first frame is 2, and 1024 words lie in each
abbrev pub AreRingWords : ℕ → ℕ → List Line → Type 0
AreRingWords from bound [] = Unit {0}
AreRingWords from bound (lines.Word frame word value ∷ rest) =
    (place : ℕ) × (frame ≡ 2 + place / 1024) × (word ≡ place % 1024) × (from ≤ place) × (place < bound) × (value ≢ 0) × AreRingWords (place + 1) bound rest
AreRingWords from bound (line ∷ rest) = ⊥

-- the lines that answer one event
abbrev pub Answers : ℕ → Event → List Line → Type 0
Answers order (events.Submit submission) answer = (line : Line) × (answer ≡ line ∷ []) × AnswersSubmit submission line
Answers order events.Settle answer = (line : Line) × (answer ≡ line ∷ []) × AnswersSettle line
Answers order events.Look answer = (line : Line) × (answer ≡ line ∷ []) × AnswersLook line
Answers order events.Suspend answer = answer ≡ lines.Epoch ∷ []
Answers order (events.Poke frame word value) answer = answer ≡ lines.Poke frame word value ∷ []
Answers order (events.Key name text) answer = answer ≡ lines.Key name text ∷ []
Answers order events.Dump answer = AreRingWords 0 (1024 * 2 ^ order) answer
Answers order event answer = answer ≡ []

-- the answers to these events, one event after another
abbrev pub AnswersAll : ℕ → List Event → List Line → Type 0
AnswersAll order [] answers = answers ≡ []
AnswersAll order (event ∷ schedule) answers =
    (first : List Line) × (rest : List Line) × (answers ≡ first ++ rest) × Answers order event first × AnswersAll order schedule rest

-- a report so far echoes the events so far: `begin` comes first, with the run's options
abbrev pub EchoesSoFar : Options → Detail → List Event → List Line → Type 0
EchoesSoFar options detail schedule report =
    (rest : List Line) × (report ≡ lines.Begin options detail ∷ rest) × AnswersAll options.order schedule (filter is_echo rest)

-- a whole report echoes a whole schedule: `end` is its last line, and stands nowhere else
abbrev pub Echoes : Options → Detail → List Event → List Line → Type 0
Echoes options detail schedule report =
    (before : List Line) × (report ≡ before ++ lines.End ∷ []) × EchoesSoFar options detail schedule before
