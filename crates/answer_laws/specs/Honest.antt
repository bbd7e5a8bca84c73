-- A schedule without hostile lines: it overwrites no word of memory, and no key.
use Rattle.std.specs.Prelude.{Bool, true, false, List}
use Rattle.std.specs.List.{list_all}
use Rattle.schedule_text.specs.declared.event.Event.{Event}
use Rattle.schedule_text.specs.declared.event.Event.TheVariants as events

abbrev pub is_honest_event : Event → Bool
is_honest_event (events.Poke frame word value) = false
is_honest_event (events.Key name text) = false
is_honest_event event = true

abbrev pub is_honest_schedule : List Event → Bool
is_honest_schedule schedule = list_all is_honest_event schedule
