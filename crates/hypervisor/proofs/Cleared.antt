-- The words of a memory whose grant table was cleared, for whoever follows the memory over a suspend.
use Rattle.std.proofs.Common.{◌≡◌, ℕ, zero, suc, ◌+◌, ◌*◌, ◌/◌, ◌%◌, ◌<◌, ◌≤◌, List, [], ◌∷◌, length, add-one, arith, refl, ap, sym, ◌∙◌}
use Rattle.std.specs.Prelude.{slice_index, slice_set}
use Rattle.xen_pages.specs.Pages.{word_of, with_word}
use Rattle.hypervisor.specs.Suspend.{cleared_to, tables_cleared}

-- one more word is cleared
set_cleared : (count : ℕ) (pages : List ℕ) → slice_set (cleared_to count pages) count 0 ≡ cleared_to (suc count) pages
set_cleared zero [] = refl
set_cleared zero (word ∷ pages) = refl
set_cleared (suc count) [] = refl
set_cleared (suc count) (word ∷ pages) = ap (λ (words : List ℕ). 0 ∷ words) (set_cleared count pages)

pub cleared_more : (pages : List ℕ) (place : ℕ) → with_word (cleared_to place pages) (place / 1024) (place % 1024) 0 ≡ cleared_to (place + 1) pages
cleared_more pages place =
    let at : place / 1024 * 1024 + place % 1024 ≡ place = omega arith in
    ap (λ (i : ℕ). slice_set (cleared_to place pages) i 0) at
    ∙ (set_cleared place pages ∙ ap (λ (count : ℕ). cleared_to count pages) (sym (add-one place)))

index_cleared : (count i : ℕ) (pages : List ℕ) → i < count → slice_index (cleared_to count pages) i ≡ 0
index_cleared zero i pages within = absurd (omega arith)
index_cleared (suc count) i [] within = refl
index_cleared (suc count) zero (word ∷ pages) within = refl
index_cleared (suc count) (suc i) (word ∷ pages) within = index_cleared count i pages (omega arith)

index_kept : (count i : ℕ) (pages : List ℕ) → count ≤ i → slice_index (cleared_to count pages) i ≡ slice_index pages i
index_kept zero i pages past = refl
index_kept (suc count) i [] past = refl
index_kept (suc count) zero (word ∷ pages) past = absurd (omega arith)
index_kept (suc count) (suc i) (word ∷ pages) past = index_kept count i pages (omega arith)

length_cleared : (count : ℕ) (pages : List ℕ) → length (cleared_to count pages) ≡ length pages
length_cleared zero pages = refl
length_cleared (suc count) [] = refl
length_cleared (suc count) (word ∷ pages) = ap suc (length_cleared count pages)

-- every word of frames 0 and 1 is 0
pub cleared_word : (pages : List ℕ) (frame word : ℕ) → frame < 2 → word < 1024 → word_of (tables_cleared pages) frame word ≡ 0
cleared_word pages frame word table within = index_cleared 2048 (frame * 1024 + word) pages (omega arith)

-- every word of another frame stays
pub kept_word : (pages : List ℕ) (frame word : ℕ) → 2 ≤ frame → word_of (tables_cleared pages) frame word ≡ word_of pages frame word
kept_word pages frame word other = index_kept 2048 (frame * 1024 + word) pages (omega arith)

-- no word comes or goes
pub length-tables_cleared : (pages : List ℕ) → length (tables_cleared pages) ≡ length pages
length-tables_cleared pages = length_cleared 2048 pages
