-- How the unfinished requests lie in memory.
use Rattle.std.specs.Prelude.{ℕ, ◌≤◌, List, length}
use Rattle.resume_shadow.specs.Unfinished.{IsAscending}

-- the room is reserved, and each number is below those after it
pub record IsStored {T : Type 0} (number : T → ℕ) (room capacity : ℕ) (held : List T) : Type 0 where
  pub reserved : room ≤ capacity
  pub within : length held ≤ room
  pub ascending : IsAscending number held
