-- The words of memory after a write.
use Rattle.std.proofs.Common.{◌≡◌, ◌≢◌, ℕ, ◌+◌, ◌*◌, ◌/◌, ◌%◌, ◌<◌, ◌==◌, ◌&&◌, Bool, true, false, if◌then◌else◌, List, length, slice_index, refl, ap, ◌∙◌, arith, length-set, get_or-set_other}
use Rattle.std.proofs.lemmas.Grind.{get_or-set_at}
use Rattle.std.proofs.lemmas.Bool.Decides.{nat_tests}
use Rattle.xen_pages.specs.Pages.{word_of, with_word}
use Rattle.grant_table.specs.Table.{entry_word0, with_entry_word0}
use Rattle.report_rules.specs.Value.{is_flags_of}

pub length_written : (pages : List ℕ) (frame word value : ℕ) → length pages ≡ 1114112 → length (with_word pages frame word value) ≡ 1114112
length_written pages frame word value sized = length-set pages (frame * 1024 + word) value ∙ sized

-- each word is as before, but for the one that was written
pub word_written : (pages : List ℕ) (frame word value f w : ℕ) → length pages ≡ 1114112 → frame < 1088 → word < 1024 → w < 1024 → word_of (with_word pages frame word value) f w ≡ (if (frame == f) && (word == w) then value else word_of pages f w)
word_written pages frame word value f w sized framed worded within = by_tests (frame == f) (word == w) refl refl
  where
    by_tests : (a b : Bool) → (frame == f) ≡ a → (word == w) ≡ b → word_of (with_word pages frame word value) f w ≡ (if a && b then value else word_of pages f w)
    by_tests true true s t =
        let same : frame ≡ f = grind (arith, nat_tests) in
        let also : word ≡ w = grind (arith, nat_tests) in
        get_or-set_at pages (frame * 1024 + word) (f * 1024 + w) value 0 (omega arith) (omega arith)
    by_tests true false s t =
        let same : frame ≡ f = grind (arith, nat_tests) in
        let other : word ≢ w = grind (arith, nat_tests) in
        get_or-set_other pages (frame * 1024 + word) (f * 1024 + w) value 0 (omega arith)
    by_tests false b s t =
        let other : frame ≢ f = grind (arith, nat_tests) in
        get_or-set_other pages (frame * 1024 + word) (f * 1024 + w) value 0 (omega arith)

-- each word is as before, but for the flags of that reference's entry, which this was made of
pub flags_written : (pages : List ℕ) (gref f w : ℕ) (made_of : ℕ → ℕ) → length pages ≡ 1114112 → gref < 1024 → w < 1024 → word_of (with_entry_word0 pages gref (made_of (entry_word0 pages gref))) f w ≡ (if is_flags_of (record { frame = f; word = w }) gref then made_of (word_of pages f w) else word_of pages f w)
flags_written pages gref f w made_of sized referred within =
    word_written pages (gref / 512) (2 * (gref % 512)) (made_of (entry_word0 pages gref)) f w sized (omega arith) (omega arith) within ∙ by_tests (gref / 512 == f) (2 * (gref % 512) == w) refl refl
  where
    by_tests : (a b : Bool) → (gref / 512 == f) ≡ a → (2 * (gref % 512) == w) ≡ b → (if a && b then made_of (entry_word0 pages gref) else word_of pages f w) ≡ (if a && b then made_of (word_of pages f w) else word_of pages f w)
    by_tests true true s t =
        let same : gref / 512 * 1024 + 2 * (gref % 512) ≡ f * 1024 + w = grind (arith, nat_tests) in
        ap (λ (i : ℕ). made_of (slice_index pages i)) same
    by_tests true false s t = refl
    by_tests false b s t = refl
