-- Words of memory stay words of 32 bits.
use Rattle.std.proofs.Common.{◌≡◌, ℕ, zero, suc, ◌+◌, ◌-◌, ◌*◌, ◌/◌, ◌%◌, ◌^◌, ◌<◌, ◌==◌, Bool, true, false, if◌then◌else◌, List, [], ◌∷◌, refl, arith}
use Rattle.std.specs.Prelude.{All, map, take, drop, slice_index}
use Rattle.std.specs.List.{AllByRecursion}
use Rattle.std.proofs.lemmas.Bool.Decides.{nat_tests}
use Rattle.std.proofs.lemmas.List.Elements.{recursion_from_All, All-append, All-drop, All-map, All-set, All-replicate}
use Rattle.blk_base.specs.declared.parts.Mapping.{Mapping}
use Rattle.blk_base.specs.declared.parts.Mode.{Mode}
use Rattle.blk_base.specs.declared.parts.Mode.TheVariants.{ReadOnly, ReadWrite}
use Rattle.xen_pages.specs.Pages.{zero_words, word_of, with_word}
use Rattle.grant_table.specs.Entry.{is_reading, is_writing, with_reading, with_writing, without_reading, without_writing, mapped_entry, unmapped_entry}
use Rattle.grant_table.specs.Table.{GrantTable, entry_word0, with_entry_word0, unmap_pages, without, mappings_of, writers_of}
use Rattle.hypervisor.specs.Act.{exchanged}
use Rattle.hypervisor.specs.Suspend.{cleared, tables_cleared}

abbrev pub AreWords : List ℕ → Type 0
AreWords words = All (λ (v : ℕ). v < 2 ^ 32) words

pub each_fits : (words : List ℕ) → AllByRecursion (λ (v : ℕ). v < 2 ^ 32) words → (i : ℕ) → slice_index words i < 2 ^ 32
each_fits [] all i = omega arith
each_fits (w ∷ words) all zero = all.0
each_fits (w ∷ words) all (suc i) = each_fits words all.1 i

pub index_fits : (words : List ℕ) (i : ℕ) → AreWords words → slice_index words i < 2 ^ 32
index_fits words i all = each_fits words (recursion_from_All (λ (v : ℕ). v < 2 ^ 32) words all) i

pub word_fits : (pages : List ℕ) (frame word : ℕ) → AreWords pages → word_of pages frame word < 2 ^ 32
word_fits pages frame word all = index_fits pages (frame * 1024 + word) all

pub fresh_words : (count : ℕ) → AreWords (zero_words count)
unfolding zero_words
fresh_words count = All-replicate (λ (v : ℕ). v < 2 ^ 32) count 0 (omega arith)

pub write_fits : (pages : List ℕ) (frame word value : ℕ) → AreWords pages → value < 2 ^ 32 → AreWords (with_word pages frame word value)
write_fits pages frame word value all fits = All-set (λ (v : ℕ). v < 2 ^ 32) pages (frame * 1024 + word) value fits all

pub exchange_fits : (pages : List ℕ) (frame word old new : ℕ) → AreWords pages → new < 2 ^ 32 → AreWords (exchanged pages frame word old new)
exchange_fits pages frame word old new all fits = by_test (word_of pages frame word == old)
  where
    by_test : (b : Bool) → AreWords (if b then with_word pages frame word new else pages)
    by_test true = write_fits pages frame word new all fits
    by_test false = all

-- the words that a suspend clears are 0
pub cleared_fits : (pages : List ℕ) → AreWords pages → AreWords (tables_cleared pages)
cleared_fits pages all =
    All-append (λ (v : ℕ). v < 2 ^ 32) (map cleared (take 2048 pages)) (drop 2048 pages)
    (All-map (λ (v : ℕ). v < 2 ^ 32) cleared (take 2048 pages) (λ k d lt. omega arith)) (All-drop (λ (v : ℕ). v < 2 ^ 32) 2048 pages all)

-- a bit that isn't set can be added, and one that is set taken away
reading_fits : (n : ℕ) → n < 2 ^ 32 → with_reading n < 2 ^ 32
reading_fits n fits = by_test (is_reading n) refl
  where
    by_test : (b : Bool) → (n / 8 % 2 == 1) ≡ b → (if b then n else n + 8) < 2 ^ 32
    by_test true e = fits
    by_test false e = grind (arith, nat_tests)

writing_fits : (n : ℕ) → n < 2 ^ 32 → with_writing n < 2 ^ 32
writing_fits n fits = by_test (is_writing n) refl
  where
    by_test : (b : Bool) → (n / 16 % 2 == 1) ≡ b → (if b then n else n + 16) < 2 ^ 32
    by_test true e = fits
    by_test false e = grind (arith, nat_tests)

pub mapped_fits : (n : ℕ) (mode : Mode) → n < 2 ^ 32 → mapped_entry n mode < 2 ^ 32
mapped_fits n ReadOnly fits = reading_fits n fits
mapped_fits n ReadWrite fits = writing_fits (with_reading n) (reading_fits n fits)

without_writing_fits : (n : ℕ) → n < 2 ^ 32 → without_writing n < 2 ^ 32
without_writing_fits n fits = by_test (is_writing n)
  where
    by_test : (b : Bool) → (if b then n - 16 else n) < 2 ^ 32
    by_test true = omega arith
    by_test false = fits

without_reading_fits : (n : ℕ) → n < 2 ^ 32 → without_reading n < 2 ^ 32
without_reading_fits n fits = by_test (is_reading n)
  where
    by_test : (b : Bool) → (if b then n - 8 else n) < 2 ^ 32
    by_test true = omega arith
    by_test false = fits

unmapped_fits : (n mappings writers : ℕ) → n < 2 ^ 32 → unmapped_entry n mappings writers < 2 ^ 32
unmapped_fits n mappings writers fits = last (mappings == 0) (if writers == 0 then without_writing n else n) (first (writers == 0))
  where
    first : (b : Bool) → (if b then without_writing n else n) < 2 ^ 32
    first true = without_writing_fits n fits
    first false = fits

    last : (b : Bool) (kept : ℕ) → kept < 2 ^ 32 → (if b then without_reading kept else kept) < 2 ^ 32
    last true kept small = without_reading_fits kept small
    last false kept small = small

pub map_fits : (pages : List ℕ) (gref : ℕ) (mode : Mode) → AreWords pages → AreWords (with_entry_word0 pages gref (mapped_entry (entry_word0 pages gref) mode))
map_fits pages gref mode all = write_fits pages (gref / 512) (2 * (gref % 512)) _ all (mapped_fits (entry_word0 pages gref) mode (word_fits pages (gref / 512) (2 * (gref % 512)) all))

pub unmap_fits : (table : GrantTable) (pages : List ℕ) (m : Mapping) → AreWords pages → AreWords (unmap_pages table pages m)
unmap_fits table pages m all =
    let left = without m.number table.live in
    write_fits pages (m.gref / 512) (2 * (m.gref % 512)) _ all (unmapped_fits (entry_word0 pages m.gref) (mappings_of m.gref left) (writers_of m.gref left) (word_fits pages (m.gref / 512) (2 * (m.gref % 512)) all))
