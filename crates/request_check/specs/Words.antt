-- What sectors hold, where that is known (`io/blkif.h`: a sector has 512 bytes, which are 128 words here): sectors one by one, and those of discards.
use Rattle.std.specs.Prelude.{ℕ, ◌+◌, ◌-◌, Bool, ◌&&◌, nat_le, nat_lt, List, [], ◌∷◌, ◌++◌, take, drop, fold, length, replicate, Option, Some, None, if◌then◌else◌}
use Rattle.request_check.specs.declared.words.Single.{Single}
use Rattle.request_check.specs.declared.words.Discarded.{Discarded}
use Rattle.request_check.specs.Entries.{entry_at, with_entry, with_old_entry}

-- the sectors one by one, and those of discards, oldest first
pub record Known : Type 0 where
  pub singles : List (ℕ × Single)
  pub ranges : List Discarded

abbrev pub nothing_known : Known
nothing_known = record { singles = []; ranges = [] }

-- a sector is among those of a discard
abbrev pub has_sector : Discarded → ℕ → Bool
has_sector range sector = nat_le range.sector sector && nat_lt sector (range.sector + range.count)

-- what a discard leaves in its sectors: zeros, where the disk didn't fail
abbrev pub words_left : Discarded → Option (List ℕ)
words_left range = if range.failed then None else Some (replicate 128 0)

-- what a sector holds after these discards, oldest first
abbrev pub after_ranges : Option (List ℕ) → List Discarded → ℕ → Option (List ℕ)
after_ranges words ranges sector = fold (λ (w : Option (List ℕ)) (range : Discarded). if has_sector range sector then words_left range else w) words ranges

abbrev pub words_since : List Discarded → ℕ → Option Single → Option (List ℕ)
words_since ranges sector None = after_ranges None ranges sector
words_since ranges sector (Some single) = after_ranges single.words (drop single.since ranges) sector

-- what a sector holds
abbrev pub words_in : Known → ℕ → Option (List ℕ)
words_in known sector = words_since known.ranges sector (entry_at known.singles sector)

-- one sector holds something else
abbrev pub with_single : Known → ℕ → Option (List ℕ) → Known
with_single known sector words = record known { singles = with_entry known.singles sector (record { words = words; since = length known.ranges }) }

-- one sector is known as it was before
abbrev pub with_old_single : Known → ℕ → Option Single → Known
with_old_single known sector old = record known { singles = with_old_entry known.singles sector old }

-- the sectors of a discard hold something else
abbrev pub with_range : Known → Discarded → Known
with_range known range = record known { ranges = known.ranges ++ range ∷ [] }

-- without the last range
abbrev pub without_range : Known → Known
without_range known = record known { ranges = take (length known.ranges - 1) known.ranges }
