-- The memory of both domains as one list of words: frames of 1024 words, one after another.
use Rattle.std.specs.Prelude.{◌≡◌, ℕ, zero, suc, ◌+◌, ◌*◌, ◌<◌, ◌≤◌, List, [], ◌∷◌, length, replicate, slice_index, slice_set, nat_lt, if◌then◌else◌}

-- the word `word` of frame `frame`
abbrev pub word_of : List ℕ → ℕ → ℕ → ℕ
word_of pages frame word = slice_index pages (frame * 1024 + word)

-- the memory with that word written
abbrev pub with_word : List ℕ → ℕ → ℕ → ℕ → List ℕ
with_word pages frame word value = slice_set pages (frame * 1024 + word) value

-- so many words of a frame, one after another from this one on
abbrev pub words_of : List ℕ → (frame word count : ℕ) → List ℕ
words_of pages frame word zero = []
words_of pages frame word (suc n) = word_of pages frame word ∷ words_of pages frame (word + 1) n

-- the memory with these words written, one after another from there on
abbrev pub with_words : List ℕ → (frame word : ℕ) → List ℕ → List ℕ
with_words pages frame word [] = pages
with_words pages frame word (value ∷ rest) = with_words (with_word pages frame word value) frame (word + 1) rest

-- so many words of 0
unfoldable pub zero_words : ℕ → List ℕ
zero_words count = replicate count 0

-- the memory at the start: 1088 frames of words of 0
abbrev pub fresh_pages : List ℕ
fresh_pages = zero_words 1114112

-- frames 0 to 1023 belong to domain 1, frames 1024 to 1087 to domain 2
abbrev pub owner_of : ℕ → ℕ
owner_of frame = if nat_lt frame 1024 then 1 else 2

-- this word of this frame has a new value, and every other word of every frame is as before
pub record OnlyChanges (old new : List ℕ) (frame word value : ℕ) : Type 0 where
  pub written : word_of new frame word ≡ value
  pub others : (f w : ℕ) → f < 1088 → w < 1024 → ¬ ((f ≡ frame) × (w ≡ word)) → word_of new f w ≡ word_of old f w

-- these words of this frame are new, and every other word of every frame is as before
pub record OnlyChangesWords (old new : List ℕ) (frame word : ℕ) (words : List ℕ) : Type 0 where
  pub written : words_of new frame word (length words) ≡ words
  pub others : (f w : ℕ) → f < 1088 → w < 1024 → ¬ ((f ≡ frame) × (word ≤ w) × (w < word + length words)) → word_of new f w ≡ word_of old f w
