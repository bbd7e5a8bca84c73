-- The mappings that a back keeps for later requests, as `feature-persistent` of `io/blkif.h` has it: a backend
-- that keeps a bounded number of them lets go of the least recently used first.
use Rattle.std.specs.Prelude.{ℕ, ◌-◌, ◌≤◌, ◌==◌, not, Bool, nat_eq, List, [], length, take, slice_get, Option}
use Rattle.std.specs.List.{IsDistinct}
use Rattle.std.specs.Option.{option_map}
use Rattle.std.specs.Map.{keys_of, values_of, lookup, remove_entry}
use Rattle.blk_base.specs.declared.Mapping.{Mapping}

-- each reference with its mapping, the most recently used first, and how many there may be
pub record KeptMappings : Type 0 where
  pub entries : List (ℕ × Mapping)
  pub cap : ℕ

-- the mappings, the most recently used first
abbrev pub mappings_of : KeptMappings → List Mapping
mappings_of kept = values_of kept.entries

-- at most `cap` are kept, each reference once
pub record IsBounded (kept : KeptMappings) : Type 0 where
  pub within : length kept.entries ≤ kept.cap
  pub distinct : IsDistinct nat_eq (keys_of kept.entries)

-- grants are persistent where mappings may be kept
abbrev pub may_keep : KeptMappings → Bool
may_keep kept = not (kept.cap == 0)

-- nothing is kept yet
abbrev pub none_kept : ℕ → KeptMappings
none_kept cap = record { entries = []; cap = cap }

-- the mapping that is kept for a reference
abbrev pub mapping_for : KeptMappings → ℕ → Option Mapping
mapping_for kept gref = lookup (nat_eq gref) kept.entries

-- without the mapping of a reference
abbrev pub without : KeptMappings → ℕ → KeptMappings
without kept gref = record kept { entries = remove_entry (nat_eq gref) kept.entries }

-- the least recently used mapping
abbrev pub least_recent : KeptMappings → Option Mapping
least_recent kept = option_map (λ e. e.1) (slice_get kept.entries (length kept.entries - 1))

-- without the least recently used mapping
abbrev pub without_least_recent : KeptMappings → KeptMappings
without_least_recent kept = record kept { entries = take (length kept.entries - 1) kept.entries }
