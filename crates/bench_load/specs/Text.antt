-- The text of a schedule: each line's one spelling, and a line feed.
use Rattle.std.specs.Prelude.{ℕ, ◌+◌, ◌*◌, ◌≤◌, List, [], ◌∷◌, ◌++◌, length, flat_map}
use Rattle.schedule_text.specs.declared.event.Event.{Event}
use Rattle.schedule_text.specs.Event.{event_text}
use Rattle.bench_load.specs.Generated.{schedule_of}

-- a line with its line feed
abbrev pub line_bytes : Event → List ℕ
line_bytes event = event_text event ++ 10 ∷ []

abbrev pub bytes_of : List Event → List ℕ
bytes_of schedule = flat_map line_bytes schedule

-- the bytes of the generated schedule of a seed and a count
abbrev pub schedule_bytes : ℕ → ℕ → List ℕ
schedule_bytes seed count = bytes_of (schedule_of seed count)

-- a generated schedule has at most 129 bytes a line, the first and the last `settle` among them
abbrev pub EachIsBrief : Type 0
EachIsBrief = (seed count : ℕ) → length (schedule_bytes seed count) ≤ 129 * (count + 2)

-- a line of at most 128 bytes, as each line of a schedule is
abbrev pub IsShort : Event → Type 0
IsShort event = length (event_text event) ≤ 128
