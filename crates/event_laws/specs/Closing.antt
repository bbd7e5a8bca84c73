-- Where the words of closing stand, event by event (`io/xenbus.h`, enum xenbus_state).
use Rattle.std.specs.Prelude.{◌≡◌, Bool, true, false, ◌||◌, if◌then◌else◌, List, [], ◌∷◌}
use Rattle.std.specs.List.{list_any}
use Rattle.blk_base.specs.declared.parts.End.TheVariants as end
use Rattle.schedule_text.specs.declared.event.Event.{Event}
use Rattle.schedule_text.specs.declared.event.Event.TheVariants as events
use Rattle.schedule_text.specs.declared.line.Detail.{Detail}
use Rattle.schedule_text.specs.declared.line.Detail.TheVariants.{Moves}
use Rattle.schedule_text.specs.declared.line.Line.{Line}
use Rattle.schedule_text.specs.declared.line.Line.TheVariants as lines
use Rattle.report_laws.specs.Ready.{says_over}
use Rattle.vbd_laws.specs.StateLines.{StateDue, NoState, due_after, is_closing, BeginsToClose}

-- what the events so far asked: that the back closes, in this epoch, which a suspend ends; that an end closes, in any; and that a hostile hand overwrites a word or a key
pub record Asked : Type 0 where
  pub unplug : Bool
  pub close : Bool
  pub touch : Bool

abbrev pub none_asked : Asked
none_asked = record { unplug = false; close = false; touch = false }

abbrev pub unplug_after : Bool → Event → Bool
unplug_after asked (events.Close end.Back) = true
unplug_after asked events.Suspend = false
unplug_after asked event = asked

abbrev pub close_after : Bool → Event → Bool
close_after asked (events.Close at) = true
close_after asked event = asked

abbrev pub touch_after : Bool → Event → Bool
touch_after asked (events.Poke frame word value) = true
touch_after asked (events.Key name text) = true
touch_after asked event = asked

-- with one event more
abbrev pub asked_after : Asked → Event → Asked
asked_after asked event = record {
  unplug = unplug_after asked.unplug event;
  close = close_after asked.close event;
  touch = touch_after asked.touch event;
}

-- each `closing` of these lines stands directly after a move of the front by which it is due, the first of them as the line before says
abbrev pub AreDue : StateDue → List Line → Type 0
AreDue due [] = Unit {0}
AreDue due (line ∷ ls) = (is_closing line ≡ true → BeginsToClose due) × AreDue (due_after false line) ls

-- these lines say that the front began to close, or is closed or broken, in whichever epoch
abbrev pub is_past : List Line → Bool
is_past before = list_any is_closing before || list_any says_over before

-- The front is asked to close: `closing` alone, and nothing exactly where it began to close before, or is closed or broken. In an event in which it moves `closing` stands where a read makes it due; in any other there is none.
abbrev pub ClosingStands : Detail → List Line → Event → List Line → Type 0
ClosingStands detail before (events.Close end.Front) ls = ls ≡ (if is_past before then [] else lines.Closing ∷ [])
ClosingStands detail before (events.Front n) ls = detail ≡ Moves → AreDue NoState ls
ClosingStands detail before (events.Turn n) ls = detail ≡ Moves → AreDue NoState ls
ClosingStands detail before events.Settle ls = detail ≡ Moves → AreDue NoState ls
ClosingStands detail before event ls = list_any is_closing ls ≡ false

-- the front begins to close once in a run, in whichever epoch
abbrev pub ClosesOnce : (begun : Bool) → List Line → Type 0
ClosesOnce begun [] = Unit {0}
ClosesOnce begun (line ∷ ls) = (is_closing line ≡ true → begun ≡ false) × ClosesOnce (is_closing line || begun) ls

-- where no event asked an end to close and none overwrote anything the front doesn't begin to close
abbrev pub ClosesIfAsked : Asked → List Line → Type 0
ClosesIfAsked asked ls = asked.close ≡ false → asked.touch ≡ false → list_any is_closing ls ≡ false
