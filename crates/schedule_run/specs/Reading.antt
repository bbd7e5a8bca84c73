-- A schedule's bytes, line by line, and the events that they ask for.
use Rattle.std.specs.Prelude.{◌≡◌, ◌≢◌, ℕ, ◌+◌, ◌<◌, ◌≤◌, ◌⊎◌, min, not, ◌==◌, List, [], ◌∷◌, ◌++◌, length, take, take_while, flat_map, option_to_list, All, Option, Some, None}
use Rattle.schedule_text.specs.declared.event.Event.{Event}
use Rattle.schedule_text.specs.Event.{IsReadOf, IsEventOf}

-- a line with its line feed
abbrev pub with_feed : List ℕ → List ℕ
with_feed line = line ++ 10 ∷ []

-- lines, each with its line feed
abbrev pub text_of : List (List ℕ) → List ℕ
text_of lines = flat_map with_feed lines

-- no line feed is among these bytes
abbrev pub HasNoLineFeed : List ℕ → Type 0
HasNoLineFeed bytes = All (λ (b : ℕ). b ≢ 10) bytes

-- the bytes up to the first line feed, or all of them
abbrev pub first_line : List ℕ → List ℕ
first_line bytes = take_while (λ b. not (b == 10)) bytes

-- a line of which nothing is read: it is neither silent nor an event of the grammar
abbrev pub IsBadLine : List ℕ → Type 0
IsBadLine line = (read : Option Event) → IsReadOf read line → ⊥

-- the lines ask for these events, in order
abbrev pub AreLinesOf : List (List ℕ) → List Event → Type 0
AreLinesOf [] events = events ≡ []
AreLinesOf (line ∷ lines) events =
    (read : Option Event) × (rest : List Event) × HasNoLineFeed line × IsReadOf read line × (events ≡ option_to_list read ++ rest) × AreLinesOf lines rest

-- the last line may lack its line feed; where nothing stands after the last one, there is no further line
abbrev pub last_line : List ℕ → List (List ℕ)
last_line [] = []
last_line (b ∷ bytes) = (b ∷ bytes) ∷ []

-- the source had fewer bytes than the limit, and they ask for these events
pub record IsWholeSchedule (limit : ℕ) (bytes : List ℕ) (events : List Event) : Type 0 where
  pub lines : List (List ℕ)
  pub last : List ℕ
  pub all : bytes ≡ text_of lines ++ last
  pub below : length bytes < limit
  pub are_lines : AreLinesOf (lines ++ last_line last) events

-- whole lines from the beginning on ask for these events; what is left begins with a line that is none of the grammar, the one of this number; the limit isn't reached before that is seen
pub record HasBadLine (limit : ℕ) (bytes : List ℕ) (events : List Event) (number : ℕ) : Type 0 where
  pub lines : List (List ℕ)
  pub rest : List ℕ
  pub all : bytes ≡ text_of lines ++ rest
  pub some : rest ≢ []
  pub are_lines : AreLinesOf lines events
  pub bad : IsBadLine (first_line rest)
  pub is_number : number ≡ length lines + 1
  pub before : (length bytes < limit) ⊎ (length (text_of lines) + min (length (first_line rest) + 1) 129 ≤ limit)

-- the source had the limit's bytes or more; of the first of them the whole lines ask for these events, and the line that is begun after those shows no byte past the 128 that a line has at most, at which it would be refused before its end is seen
pub record IsTooLong (limit : ℕ) (bytes : List ℕ) (events : List Event) : Type 0 where
  pub lines : List (List ℕ)
  pub part : List ℕ
  pub reached : limit ≤ length bytes
  pub all : take limit bytes ≡ text_of lines ++ part
  pub are_lines : AreLinesOf lines events
  pub unbroken : HasNoLineFeed part
  pub fits : length part ≤ 128

-- whole lines from the beginning on ask for these events
pub record HasBegun (bytes : List ℕ) (events : List Event) : Type 0 where
  pub lines : List (List ℕ)
  pub rest : List ℕ
  pub all : bytes ≡ text_of lines ++ rest
  pub are_lines : AreLinesOf lines events

-- and then a line asks for this event
pub record HasComeTo (bytes : List ℕ) (events : List Event) (event : Event) : Type 0 where
  pub lines : List (List ℕ)
  pub line : List ℕ
  pub rest : List ℕ
  pub all : bytes ≡ text_of lines ++ (line ++ rest)
  pub are_lines : AreLinesOf lines events
  pub is_line : IsEventOf event line

-- these events were read: whole lines ask for them, or whole lines and one more, or all the lines that there are
abbrev pub IsReadSoFar : ℕ → List ℕ → List Event → Type 0
IsReadSoFar limit bytes events =
    HasBegun bytes events
    ⊎ ((whole : List Event) × (event : Event) × (events ≡ whole ++ event ∷ []) × HasComeTo bytes whole event)
    ⊎ IsWholeSchedule limit bytes events

-- these bytes are left of the source, and whole lines of all that was read before them, to the last whole one, ask for these events
pub record HasReadTo (bytes rest : List ℕ) (events : List Event) : Type 0 where
  pub lines : List (List ℕ)
  pub part : List ℕ
  pub all : bytes ≡ (text_of lines ++ part) ++ rest
  pub are_lines : AreLinesOf lines events
  pub unbroken : HasNoLineFeed part

-- what is so of the bytes and of those that are left, where the source exposes them
abbrev pub TellsRest : (List ℕ → List ℕ → Type 0) → Option (List ℕ) → Option (List ℕ) → Type 0
TellsRest claim None rest = Unit {0}
TellsRest claim (Some bytes) None = ⊥
TellsRest claim (Some bytes) (Some rest) = claim bytes rest

-- what is so of the bytes, where the source exposes them
abbrev pub Tells : (List ℕ → Type 0) → Option (List ℕ) → Type 0
Tells claim None = Unit {0}
Tells claim (Some bytes) = claim bytes
