-- A report, event by event: which lines each event of the schedule made (own). Which of them echo it is said by the echo of a schedule; a dump is whole by the memory that the lines before it tell (`io/ring.h`).
use Rattle.std.specs.Prelude.{◌≡◌, ℕ, zero, suc, ◌+◌, ◌*◌, ◌/◌, ◌%◌, ◌^◌, List, [], ◌∷◌, ◌++◌, map, flat_map, filter}
use Rattle.std.specs.List.{AllByRecursion, list_any}
use Rattle.blk_base.specs.Options.{Options}
use Rattle.schedule_text.specs.declared.event.Event.{Event}
use Rattle.schedule_text.specs.declared.event.Event.TheVariants as events
use Rattle.schedule_text.specs.declared.line.Detail.{Detail}
use Rattle.schedule_text.specs.declared.line.Detail.TheVariants.{Moves}
use Rattle.schedule_text.specs.declared.line.Line.{Line}
use Rattle.schedule_text.specs.declared.line.Line.TheVariants.{Begin, Word, End}
use Rattle.plain_disk.specs.Echo.{is_echo, Answers}
use Rattle.report_rules.specs.Value.{value_before}
use Rattle.vbd_laws.specs.Halts.{IsWorded}
use Rattle.vbd_laws.specs.StateLines.{is_closing}
use Rattle.event_laws.specs.Closing.{Asked, none_asked, asked_after, ClosingStands, ClosesOnce, ClosesIfAsked}

-- an event of the schedule, and the lines that it made
pub record Part : Type 0 where
  pub event : Event
  pub lines : List Line

abbrev pub events_of : List Part → List Event
events_of parts = map (λ (p : Part). p.event) parts

abbrev pub lines_of : List Part → List Line
lines_of parts = flat_map (λ (p : Part). p.lines) parts

-- the line of the word at this place of the ring, whose first frame is 2; none where it is 0
abbrev pub shown_word : (place value : ℕ) → List Line
shown_word place zero = []
shown_word place (suc value) = Word (2 + place / 1024) (place % 1024) (suc value) ∷ []

-- so many words of the ring from this place on, as the lines before tell them
abbrev pub shown_words : List Line → (place count : ℕ) → List Line
shown_words before place zero = []
shown_words before place (suc count) = shown_word place (value_before before (2 + place / 1024) (place % 1024)) ++ shown_words before (place + 1) count

-- a dump has a line for each word of the ring's pages that isn't 0, ascending, and no other line: one that shows nothing says that all are 0
abbrev pub IsDumped : (order : ℕ) → List Line → Event → List Line → Type 0
IsDumped order before events.Dump shown = shown ≡ shown_words before 0 (1024 * 2 ^ order)
IsDumped order before event shown = Unit {0}

-- The lines of an event, after what the events before it asked and the lines before it: they answer it, a dump is whole, a halt for a front that is gone is `unplugged` exactly where the back was asked to close, and `closing` stands where it is due, once, and not before that was asked or a hostile hand overwrote something.
pub record IsPart (order : ℕ) (detail : Detail) (asked : Asked) (before : List Line) (p : Part) : Type 0 where
  pub answers : Answers order p.event (filter is_echo p.lines)
  pub dumped : detail ≡ Moves → IsDumped order before p.event p.lines
  pub worded : AllByRecursion (λ (line : Line). IsWorded (asked_after asked p.event).unplug line) p.lines
  pub closing : ClosingStands detail before p.event p.lines
  pub once : ClosesOnce (list_any is_closing before) p.lines
  pub unasked : ClosesIfAsked (asked_after asked p.event) p.lines

abbrev pub AreParts : (order : ℕ) → Detail → Asked → (before : List Line) → List Part → Type 0
AreParts order detail asked before [] = Unit {0}
AreParts order detail asked before (p ∷ parts) = IsPart order detail asked before p × AreParts order detail (asked_after asked p.event) (before ++ p.lines) parts

-- a report so far: `begin`, and then the lines of these events, one event after another
pub record IsByEvents (config : Options) (detail : Detail) (schedule : List Event) (report : List Line) : Type 0 where
  pub parts : List Part
  pub events : events_of parts ≡ schedule
  pub lines : report ≡ Begin config detail ∷ lines_of parts
  pub each : AreParts config.order detail none_asked (Begin config detail ∷ []) parts

-- a whole report ends with `end`
abbrev pub IsAllByEvents : Options → Detail → List Event → List Line → Type 0
IsAllByEvents config detail schedule report =
    (before : List Line) × (report ≡ before ++ End ∷ []) × IsByEvents config detail schedule before
