-- What the plain disk says of the sectors once something happened to them.
use Rattle.std.proofs.Common.{◌≡◌, ℕ, ◌+◌, ◌<◌, ◌≤◌, ◌⊎◌, Bool, true, false, if◌then◌else◌, List, [], ◌∷◌, ◌++◌, length, refl, sym, subst, arith}
use Rattle.std.specs.Prelude.{Option, Some, None, slice_get}
use Rattle.std.proofs.lemmas.Cmp.{nat_list_eq_equiv}
use Rattle.std.proofs.lemmas.List.Sums.{fold-append}
use Rattle.std.proofs.lemmas.Bool.Decides.{nat_tests}
use Rattle.plain_disk.specs.declared.request.Extent.{Extent}
use Rattle.plain_disk.specs.declared.request.Change.{Change}
use Rattle.plain_disk.specs.declared.request.Change.TheVariants as change
use Rattle.plain_disk.specs.Sector.{only, sector_first, anything, filled, showed, covers, changed, sector_at, may_hold}
use Rattle.pipeline_laws.specs.Run.{HasOneOf}

-- sectors hold these words from now on, or words that nobody knows; the others hold what they did
pub record Changes (sector count : ℕ) (words : Option (List ℕ)) (old new : List (List ℕ)) : Type 0 where
  pub sized : length new ≡ length old
  pub inside : (i : ℕ) (x : List ℕ) → words ≡ Some x → sector ≤ i → i < sector + count → slice_get new i ≡ Some x
  pub outside : (i : ℕ) → (i < sector) ⊎ (sector + count ≤ i) → slice_get new i ≡ slice_get old i

-- each sector has what the plain disk says
abbrev pub IsKnown : List (List ℕ) → List Change → List (List ℕ) → Type 0
IsKnown first changes content = (i : ℕ) → HasOneOf (sector_at first changes i).own (slice_get content i)

-- one change more
at_more : (first : List (List ℕ)) (changes : List Change) (c : Change) (i : ℕ) → sector_at first (changes ++ c ∷ []) i ≡ changed i (sector_at first changes i) c
at_more first changes c i = fold-append (changed i) (sector_first (slice_get first i)) changes (c ∷ [])

inside_from : (e : Extent) (i : ℕ) → covers e i ≡ true → (e.sector + e.from ≤ i) × (i < e.sector + e.from + e.count)
inside_from e i t = (grind (arith, nat_tests), grind (arith, nat_tests))

outside_from : (e : Extent) (i : ℕ) → covers e i ≡ false → (i < e.sector + e.from) ⊎ (e.sector + e.from + e.count ≤ i)
outside_from e i t = grind (arith, nat_tests)

-- a sector that has these words
has_only : (words : List ℕ) (now : Option (List ℕ)) → now ≡ Some words → HasOneOf (Some (only words)) now
has_only words now here =
    let same : may_hold (Some (only words)) words ≡ true = rw (nat_list_eq_equiv.refl words) refl in
    subst (HasOneOf (Some (only words))) (sym here) same

-- sectors were filled
pub known_filled : (first : List (List ℕ)) (changes : List Change) (at : Extent) (words : List ℕ) (content later : List (List ℕ)) → Changes (at.sector + at.from) at.count (Some words) content later → IsKnown first changes content → IsKnown first (changes ++ change.Filled at words ∷ []) later
known_filled first changes at words content later does known i = rw (at_more first changes (change.Filled at words) i) (by_place (covers at i) refl)
  where
    by_place : (b : Bool) → covers at i ≡ b → HasOneOf (if b then filled (sector_at first changes i) words else sector_at first changes i).own (slice_get later i)
    by_place true t =
        let within = inside_from at i t in
        has_only words (slice_get later i) (does.inside i words refl within.0 within.1)
    by_place false t = rw (does.outside i (outside_from at i t)) (known i)

-- the disk failed
pub known_spoiled : (first : List (List ℕ)) (changes : List Change) (at : Extent) (content later : List (List ℕ)) → Changes (at.sector + at.from) at.count None content later → IsKnown first changes content → IsKnown first (changes ++ change.Spoiled at ∷ []) later
known_spoiled first changes at content later does known i = rw (at_more first changes (change.Spoiled at) i) (by_place (covers at i) refl)
  where
    by_place : (b : Bool) → covers at i ≡ b → HasOneOf (if b then anything else sector_at first changes i).own (slice_get later i)
    by_place true t = tt
    by_place false t = rw (does.outside i (outside_from at i t)) (known i)

-- it failed, and no sector was in hand
pub known_same : (first : List (List ℕ)) (changes : List Change) (sector : ℕ) (content later : List (List ℕ)) → Changes sector 0 None content later → IsKnown first changes content → IsKnown first changes later
known_same first changes sector content later does known i = rw (does.outside i (apart i)) (known i)
  where
    apart : (i : ℕ) → (i < sector) ⊎ (sector + 0 ≤ i)
    apart i = grind arith

-- what a read shows was there
pub known_showed : (first : List (List ℕ)) (changes : List Change) (at : Extent) (words : List ℕ) (content : List (List ℕ)) → at.count ≡ 1 → slice_get content (at.sector + at.from) ≡ Some words → IsKnown first changes content → IsKnown first (changes ++ change.Showed at words ∷ []) content
known_showed first changes at words content one here known i = rw (at_more first changes (change.Showed at words) i) (by_place (covers at i) refl)
  where
    at_place : (at.sector + at.from ≤ i) → i < at.sector + at.from + at.count → at.sector + at.from ≡ i
    at_place low high = omega (arith, one)

    by_place : (b : Bool) → covers at i ≡ b → HasOneOf (if b then showed (sector_at first changes i) words else sector_at first changes i).own (slice_get content i)
    by_place true t =
        let within = inside_from at i t in
        has_only words (slice_get content i) (subst (λ (j : ℕ). slice_get content j ≡ Some words) (at_place within.0 within.1) here)
    by_place false t = known i

-- a flush
pub known_flushed : (first : List (List ℕ)) (changes : List Change) (content : List (List ℕ)) → IsKnown first changes content → IsKnown first (changes ++ change.Flushed ∷ []) content
known_flushed first changes content known i = rw (at_more first changes change.Flushed i) (known i)

-- the start
pub known_first : (first content : List (List ℕ)) → ((i : ℕ) (words : List ℕ) → slice_get first i ≡ Some words → slice_get content i ≡ Some words) → IsKnown first [] content
known_first first content within i = by_first (slice_get first i) (within i)
  where
    by_first : (o : Option (List ℕ)) → ((words : List ℕ) → o ≡ Some words → slice_get content i ≡ Some words) → HasOneOf (sector_first o).own (slice_get content i)
    by_first None all = tt
    by_first (Some words) all = has_only words (slice_get content i) (all words refl)
