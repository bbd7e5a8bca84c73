-- The one spelling of each line of a schedule, and what its numbers and texts may be.
use Rattle.std.specs.Prelude.{◌≡◌, ℕ, ◌≤◌, Bool, true, ◌&&◌, nat_lt, nat_le, List, [], ◌∷◌, length, codes, decimal, Option, Some, None}
use Rattle.line_text.specs.Words.{joined}
use Rattle.line_text.specs.Texts.{is_key_name, is_key_text}
use Rattle.blk_base.specs.declared.parts.End.{End}
use Rattle.blk_base.specs.declared.parts.End.TheVariants as ends
use Rattle.schedule_text.specs.declared.event.Event.{Event}
use Rattle.schedule_text.specs.declared.event.Event.TheVariants as events
use Rattle.schedule_text.specs.Line.{submission_words}
use Rattle.schedule_text.specs.Range.{SubmissionHasWidths, IsWord}

abbrev pub end_word : End → List ℕ
end_word ends.Front = codes "front"
end_word ends.Back = codes "back"

-- the words of a schedule's line
abbrev pub event_words : Event → List (List ℕ)
event_words (events.Submit submission) = codes "submit" ∷ submission_words submission
event_words (events.Front n) = codes "front" ∷ decimal n ∷ []
event_words (events.Back n) = codes "back" ∷ decimal n ∷ []
event_words (events.Job k n) = codes "job" ∷ decimal k ∷ decimal n ∷ []
event_words (events.Turn n) = codes "turn" ∷ decimal n ∷ []
event_words events.Settle = codes "settle" ∷ []
event_words events.Look = codes "look" ∷ []
event_words (events.Notify end) = codes "notify" ∷ end_word end ∷ []
event_words events.Suspend = codes "suspend" ∷ []
event_words (events.Close end) = codes "close" ∷ end_word end ∷ []
event_words (events.Poke frame word value) = codes "poke" ∷ decimal frame ∷ decimal word ∷ decimal value ∷ []
event_words (events.Key name text) = codes "key" ∷ name ∷ text ∷ []
event_words events.Dump = codes "dump" ∷ []

-- the text of a schedule's line
abbrev pub event_text : Event → List ℕ
event_text event = joined (event_words event)

-- each number has as many bits as its type: every value of the type `Event` is so
abbrev pub EventHasWidths : Event → Type 0
EventHasWidths (events.Submit submission) = SubmissionHasWidths submission
EventHasWidths (events.Front n) = IsWord n
EventHasWidths (events.Back n) = IsWord n
EventHasWidths (events.Job k n) = IsWord k × IsWord n
EventHasWidths (events.Turn n) = IsWord n
EventHasWidths events.Settle = Unit {0}
EventHasWidths events.Look = Unit {0}
EventHasWidths (events.Notify end) = Unit {0}
EventHasWidths events.Suspend = Unit {0}
EventHasWidths (events.Close end) = Unit {0}
EventHasWidths (events.Poke frame word value) = IsWord frame × IsWord word × IsWord value
EventHasWidths (events.Key name text) = Unit {0}
EventHasWidths events.Dump = Unit {0}

-- a number of moves, of rounds or of a job
abbrev pub is_number : ℕ → Bool
is_number n = nat_lt 0 n && nat_le n 1000000

-- what the grammar asks besides
abbrev pub is_event_allowed : Event → Bool
is_event_allowed (events.Submit submission) = true
is_event_allowed (events.Front n) = is_number n
is_event_allowed (events.Back n) = is_number n
is_event_allowed (events.Job k n) = is_number k && is_number n
is_event_allowed (events.Turn n) = is_number n
is_event_allowed events.Settle = true
is_event_allowed events.Look = true
is_event_allowed (events.Notify end) = true
is_event_allowed events.Suspend = true
is_event_allowed (events.Close end) = true
is_event_allowed (events.Poke frame word value) = nat_lt frame 1024 && nat_lt word 1024
is_event_allowed (events.Key name text) = is_key_name name && is_key_text text
is_event_allowed events.Dump = true

-- a schedule's line of the grammar, and its text
pub record IsEventOf (event : Event) (bytes : List ℕ) : Type 0 where
  pub widths : EventHasWidths event
  pub allowed : is_event_allowed event ≡ true
  pub text : event_text event ≡ bytes

-- a line that asks for nothing: an empty one, or a comment of at most 128 bytes, which begins with `#`
abbrev pub IsSilent : List ℕ → Type 0
IsSilent [] = Unit {0}
IsSilent (b ∷ bs) = (b ≡ 35) × (length (b ∷ bs) ≤ 128)

-- what was read is a silent line, or the event of this text
abbrev pub IsReadOf : Option Event → List ℕ → Type 0
IsReadOf None bytes = IsSilent bytes
IsReadOf (Some event) bytes = IsEventOf event bytes
