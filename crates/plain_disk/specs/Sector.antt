-- What a sector may hold: now, and where the disk lost its cache now (a disk with a cache, `feature-flush-cache` of `io/blkif.h`). Each is a list of words, one of which it has; none where nobody knows.
use Rattle.std.specs.Prelude.{ℕ, ◌+◌, Bool, true, false, ◌&&◌, nat_le, nat_lt, List, [], ◌∷◌, fold, slice_get, Option, Some, None, if◌then◌else◌, nat_eq}
use Rattle.std.specs.List.{list_any}
use Rattle.std.specs.Cmp.Lexicographic.{pointwise}
use Rattle.plain_disk.specs.declared.request.Extent.{Extent}
use Rattle.plain_disk.specs.declared.request.Change.{Change}
use Rattle.plain_disk.specs.declared.request.Change.TheVariants.{Filled, Spoiled, Showed, Flushed}

-- its words now, and those that a loss of the cache may leave
pub record Sector : Type 0 where
  pub own : Option (List (List ℕ))
  pub loss : Option (List (List ℕ))

-- one of these alone: the words are known
abbrev pub only : List ℕ → List (List ℕ)
only words = words ∷ []

-- these words alone, now and after a loss
abbrev pub alone : List ℕ → Sector
alone words = record { own = Some (only words); loss = Some (only words) }

-- nobody knows
abbrev pub anything : Sector
anything = record { own = None; loss = None }

-- at the start
abbrev pub sector_first : Option (List ℕ) → Sector
sector_first None = anything
sector_first (Some words) = alone words

-- it may have these words
abbrev pub may_hold : Option (List (List ℕ)) → List ℕ → Bool
may_hold None words = true
may_hold (Some list) words = list_any (λ (w : List ℕ). pointwise nat_eq w words) list

-- these words besides
abbrev pub with_words : Option (List (List ℕ)) → List ℕ → Option (List (List ℕ))
with_words None words = None
with_words (Some list) words = Some (words ∷ list)

-- one of several, as after a loss alone
abbrev pub is_one_of : Option (List (List ℕ)) → Bool
is_one_of (Some (a ∷ b ∷ list)) = true
is_one_of own = false

-- it was filled: what was there before may come back
abbrev pub filled : Sector → List ℕ → Sector
filled s words = record { own = Some (only words); loss = with_words s.loss words }

-- it was read: where it had one of several, it has these after the next loss too, since nothing was written to it since the last one
abbrev pub showed : Sector → List ℕ → Sector
showed s words = record { own = Some (only words); loss = if is_one_of s.own then Some (only words) else s.loss }

-- all that it has is on stable storage
abbrev pub stable : Sector → Sector
stable s = record { own = s.own; loss = s.own }

-- a sector is among those
abbrev pub covers : Extent → ℕ → Bool
covers e sector = nat_le (e.sector + e.from) sector && nat_lt sector (e.sector + e.from + e.count)

-- what a change makes of a sector
abbrev pub changed : ℕ → Sector → Change → Sector
changed sector s (Filled at words) = if covers at sector then filled s words else s
changed sector s (Spoiled at) = if covers at sector then anything else s
changed sector s (Showed at words) = if covers at sector then showed s words else s
changed sector s Flushed = stable s

-- a sector after these changes, oldest first
abbrev pub sector_at : List (List ℕ) → List Change → ℕ → Sector
sector_at first changes sector = fold (changed sector) (sector_first (slice_get first sector)) changes
