-- The directory of keys: a text at each path, in the order of the paths, and both ends' watches.
use Rattle.std.specs.Prelude.{◌≡◌, ◌≢◌, ℕ, List, [], ◌∷◌, Option, Some, codes}
use Rattle.std.specs.Map.{lookup}
use Rattle.std.specs.BTreeMap.{is_at, insert_entry}
use Rattle.std.specs.Ordering.{nat_cmp}
use Rattle.std.specs.Cmp.Lexicographic.{slice_cmp}
use Rattle.blk_base.specs.declared.parts.End.{End}
use Rattle.blk_base.specs.declared.parts.End.TheVariants.{Front, Back}
use Rattle.key_directory.specs.Watches.{Watches, no_watches, fired}

-- paths with their texts, and the watches of both ends
pub record Directory : Type 0 where
  pub keys : List (List ℕ × List ℕ)
  pub front : Watches
  pub back : Watches

-- the text at a path
abbrev pub key_of : List (List ℕ × List ℕ) → List ℕ → Option (List ℕ)
key_of keys path = lookup (is_at (slice_cmp nat_cmp path)) keys

-- the keys with a text at a path
abbrev pub with_key : List (List ℕ × List ℕ) → List ℕ → List ℕ → List (List ℕ × List ℕ)
with_key keys path text = insert_entry (slice_cmp nat_cmp) keys path text

-- the text at the path is this one, and every other path has the text that it had
pub record OnlySets (old new : List (List ℕ × List ℕ)) (path text : List ℕ) : Type 0 where
  pub last : key_of new path ≡ Some text
  pub others : (other : List ℕ) → other ≢ path → key_of new other ≡ key_of old other

-- the directory at the start and after a suspend: both ends' state keys, and no watch
abbrev pub fresh_directory : List ℕ → Directory
fresh_directory state = record {
  keys = (codes "/local/domain/0/backend/vbd/1/51712/state", state) ∷ (codes "/local/domain/1/device/vbd/51712/state", state) ∷ [];
  front = no_watches;
  back = no_watches;
}

-- a text is written: every watch at or above its path fires
abbrev pub written : Directory → List ℕ → List ℕ → Directory
written d path text = record { keys = with_key d.keys path text; front = fired d.front path; back = fired d.back path }

-- the watches of an end
abbrev pub watches_of : Directory → End → Watches
watches_of d Front = d.front
watches_of d Back = d.back

abbrev pub with_watches : Directory → End → Watches → Directory
with_watches d Front watches = record d { front = watches }
with_watches d Back watches = record d { back = watches }
