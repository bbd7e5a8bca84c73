-- The watches of one end, by their paths: those that fired and weren't taken, oldest first, and the others.
use Rattle.std.specs.Prelude.{ℕ, Bool, true, false, not, if◌then◌else◌, ◌-◌, List, [], ◌∷◌, ◌++◌, length, filter, nat_eq, Option, Some, None}
use Rattle.std.specs.List.{list_any, slice_get}
use Rattle.std.specs.Cmp.Lexicographic.{pointwise}
use Rattle.key_directory.specs.Paths.{is_at_or_under}

pub record Watches : Type 0 where
  pub pending : List (List ℕ)
  pub idle : List (List ℕ)

abbrev pub no_watches : Watches
no_watches = record { pending = []; idle = [] }

abbrev pub same_path : List ℕ → List ℕ → Bool
same_path a b = pointwise nat_eq a b

-- A watch fires once when it is set: one that is pending stays where it is, any other goes to the end.
abbrev pub with_watch : Watches → List ℕ → Watches
with_watch watches path =
    if list_any (λ watch. same_path path watch) watches.pending
    then watches
    else record { pending = watches.pending ++ path ∷ []; idle = filter (λ watch. not (same_path path watch)) watches.idle }

-- A write at a path fires every watch at or above it: a pending one merges with itself.
abbrev pub fired : Watches → List ℕ → Watches
fired watches path = record {
  pending = watches.pending ++ filter (λ watch. is_at_or_under watch path) watches.idle;
  idle = filter (λ watch. not (is_at_or_under watch path)) watches.idle;
}

-- the watch that fired first
abbrev pub first_of : List (List ℕ) → Option (List ℕ)
first_of [] = None
first_of (watch ∷ later) = Some watch

abbrev pub next_watch : Watches → Option (List ℕ)
next_watch watches = first_of watches.pending

-- the watch at the end of the idle ones: the one taken last, until it is set or fires again
abbrev pub last_idle : Watches → Option (List ℕ)
last_idle watches = slice_get watches.idle (length watches.idle - 1)

abbrev pub is_empty_list : List (List ℕ) → Bool
is_empty_list [] = true
is_empty_list (watch ∷ later) = false

-- some watch fired and wasn't taken
abbrev pub has_pending : Watches → Bool
has_pending watches = not (is_empty_list watches.pending)

abbrev pub taken_from : List (List ℕ) → List (List ℕ) → Watches
taken_from [] idle = record { pending = []; idle = idle }
taken_from (watch ∷ later) idle = record { pending = later; idle = idle ++ watch ∷ [] }

-- the watch that fired first is taken, if there is one
abbrev pub taken : Watches → Watches
taken watches = taken_from watches.pending watches.idle
