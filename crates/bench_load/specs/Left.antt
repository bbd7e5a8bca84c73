-- What is left of a generated schedule that is given event by event.
use Rattle.std.specs.Prelude.{ℕ, List, [], ◌∷◌, ◌++◌}
use Rattle.rand_pcg.specs.Lcg.{Lcg}
use Rattle.schedule_text.specs.declared.event.Event.{Event}
use Rattle.schedule_text.specs.declared.event.Event.TheVariants as events
use Rattle.bench_load.specs.declared.schedule.Next.{Next}
use Rattle.bench_load.specs.declared.schedule.Next.TheVariants.{First, Line, Nothing}
use Rattle.bench_load.specs.Generated.{lines_from}

-- from the first `settle` on; so many lines and the last `settle`; nothing
abbrev pub events_left : Next → ℕ → Lcg → List Event
events_left First count g = events.Settle ∷ (lines_from count g ++ events.Settle ∷ [])
events_left Line count g = lines_from count g ++ events.Settle ∷ []
events_left Nothing count g = []
