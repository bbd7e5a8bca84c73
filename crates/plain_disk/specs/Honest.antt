-- The part of a report that no hostile hand has touched.
use Rattle.std.specs.Prelude.{Bool, true, false, List, take_while, IsTrue}
use Rattle.std.specs.List.{list_all}
use Rattle.schedule_text.specs.declared.line.Line.{Line}
use Rattle.schedule_text.specs.declared.line.Line.TheVariants as lines

-- a word of memory or a key was overwritten from outside
abbrev pub is_honest : Line → Bool
is_honest (lines.Poke frame word value) = false
is_honest (lines.Key name text) = false
is_honest line = true

-- a report that no hostile hand has touched
abbrev pub IsHonest : List Line → Type 0
IsHonest report = IsTrue (list_all is_honest report)

-- the lines before the first hostile one, all where there is none
abbrev pub honest_part : List Line → List Line
honest_part report = take_while is_honest report
