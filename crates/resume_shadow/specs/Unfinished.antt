-- The requests whose answer is still to be told, in order of number. A request's number is the `id` of its entry, which a
-- response echoes (`io/blkif.h`: "private guest value, echoed in resp"), and after a suspend each is issued again.
use Rattle.std.specs.Prelude.{ℕ, ◌<◌, List, [], ◌∷◌, AllPairs, Option, position, if◌then◌else◌, nat_lt, ◌==◌}

-- those that are held, and how many there is room for
pub record Unfinished (T : Type 0) : Type 0 where
  pub held : List T
  pub room : ℕ

-- nothing is held yet
abbrev pub none_held : {T : Type 0} → ℕ → Unfinished T
none_held room = record { held = []; room = room }

-- each number is below those after it
abbrev pub IsAscending : {T : Type 0} → (T → ℕ) → List T → Type 0
IsAscending number held = AllPairs (λ r s. number r < number s) held

-- where the one with this number stands
abbrev pub place_of : {T : Type 0} → (T → ℕ) → ℕ → List T → Option ℕ
place_of number id held = position (λ r. number r == id) held

-- one among others that are in order of number
abbrev pub by_number : {T : Type 0} → (T → ℕ) → T → List T → List T
by_number number r [] = r ∷ []
by_number number r (s ∷ rest) = if nat_lt (number r) (number s) then r ∷ s ∷ rest else s ∷ by_number number r rest
