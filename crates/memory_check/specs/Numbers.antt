-- The numbers that mappings ever had: a map gives a number that no earlier mapping had (`grant_table.h`, GNTTABOP_map_grant_ref). They are kept as a run, which a number one above it makes longer, and the numbers beside the run.
use Rattle.std.specs.Prelude.{ℕ, ◌+◌, Bool, ◌&&◌, ◌||◌, ◌==◌, nat_lt, nat_le, if◌then◌else◌, List, []}
use Rattle.std.specs.List.{list_any}
use Rattle.std.specs.BTreeMap.{is_at}
use Rattle.std.specs.BTreeSet.{insert_key}
use Rattle.std.specs.Set.{remove_key}
use Rattle.std.specs.Ordering.{nat_cmp}

-- the run from `low` to `high`, which is empty where `high` is below `low`, and the numbers beside it
pub record NumberSet : Type 0 where
  pub low : ℕ
  pub high : ℕ
  pub apart : List ℕ

abbrev pub no_numbers : NumberSet
no_numbers = record { low = 1; high = 0; apart = [] }

abbrev pub is_in_run : NumberSet → ℕ → Bool
is_in_run numbers number = nat_le numbers.low number && nat_le number numbers.high

abbrev pub is_apart : NumberSet → ℕ → Bool
is_apart numbers number = list_any (is_at (nat_cmp number)) numbers.apart

-- a mapping had the number
abbrev pub has : NumberSet → ℕ → Bool
has numbers number = is_in_run numbers number || is_apart numbers number

-- a number that wants no place beside the run: one that a mapping had, one that begins the run, and one that makes it longer
abbrev pub wants_no_place : NumberSet → ℕ → Bool
wants_no_place numbers number = has numbers number || (nat_lt numbers.high numbers.low || (number == numbers.high + 1))

-- the run with such a number
abbrev pub with_in_run : NumberSet → ℕ → NumberSet
with_in_run numbers number =
    if has numbers number
    then numbers
    else (if nat_lt numbers.high numbers.low then record numbers { low = number; high = number } else record numbers { high = number })

abbrev pub with_apart : NumberSet → ℕ → NumberSet
with_apart numbers number = record numbers { apart = insert_key nat_cmp numbers.apart number }

abbrev pub without_apart : NumberSet → ℕ → NumberSet
without_apart numbers number = record numbers { apart = remove_key (is_at (nat_cmp number)) numbers.apart }

-- with one number more
abbrev pub with_number : NumberSet → ℕ → NumberSet
with_number numbers number = if wants_no_place numbers number then with_in_run numbers number else with_apart numbers number
