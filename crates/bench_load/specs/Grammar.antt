-- Each line of a generated schedule is a line of the grammar of schedules, and its text is read as that line and as no other.
use Rattle.std.specs.Prelude.{◌≡◌, ◌≢◌, ℕ, All}
use Rattle.schedule_text.specs.declared.event.Event.{Event}
use Rattle.schedule_text.specs.Event.{event_text, IsEventOf, IsSilent}
use Rattle.bench_load.specs.Generated.{schedule_of}

-- a line whose text says it, and nothing else
pub record IsSpoken (event : Event) : Type 0 where
  pub is : IsEventOf event (event_text event)
  pub only : (other : Event) → IsEventOf other (event_text event) → other ≡ event
  pub speaks : IsSilent (event_text event) → ⊥
  pub unbroken : All (λ (b : ℕ). b ≢ 10) (event_text event)

-- so is each line of a generated schedule
abbrev pub EachIsSpoken : Type 0
EachIsSpoken = (seed count : ℕ) → All IsSpoken (schedule_of seed count)
