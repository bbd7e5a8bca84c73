-- Words of fresh memory, for whoever follows the memory from its start.
use Rattle.std.proofs.Common.{◌≡◌, ℕ, zero, suc, length, replicate, slice_index, refl}
use Rattle.std.proofs.lemmas.List.{length-replicate}
use Rattle.xen_pages.specs.Pages.{word_of, zero_words, fresh_pages}

pub length-zero_words : (count : ℕ) → length (zero_words count) ≡ count
unfolding zero_words
length-zero_words count = length-replicate count 0

slice_index-replicate : (count i : ℕ) → slice_index (replicate count 0) i ≡ 0
slice_index-replicate zero i = refl
slice_index-replicate (suc n) zero = refl
slice_index-replicate (suc n) (suc i) = slice_index-replicate n i

pub slice_index-zero_words : (count i : ℕ) → slice_index (zero_words count) i ≡ 0
unfolding zero_words
slice_index-zero_words count i = slice_index-replicate count i

-- there are 1088 frames of 1024 words
pub length-fresh_pages : length fresh_pages ≡ 1114112
length-fresh_pages = length-zero_words 1114112

-- each word is 0
pub word_of-fresh_pages : (frame word : ℕ) → word_of fresh_pages frame word ≡ 0
word_of-fresh_pages frame word = slice_index-zero_words 1114112 _
