-- Words of one frame go one by one, and words of two frames are apart.
use Rattle.std.specs.Prelude.{◌≡◌, ◌≢◌, ℕ, ◌+◌, ◌≤◌, List, [], ◌∷◌, ◌++◌, length}
use Rattle.xen_pages.specs.Pages.{word_of, with_word, words_of, with_words}

-- one word more is read after so many, and written after those before it
pub record GoesOn (pages : List ℕ) (frame word : ℕ) (words : List ℕ) : Type 0 where
  pub reads : (n : ℕ) → words_of pages frame word (n + 1) ≡ words_of pages frame word n ++ word_of pages frame (word + n) ∷ []
  pub writes : (value : ℕ) → with_words pages frame word (words ++ value ∷ []) ≡ with_word (with_words pages frame word words) frame (word + length words) value

abbrev pub WordsGoOn : Type 0
WordsGoOn = (pages : List ℕ) (frame word : ℕ) (words : List ℕ) → GoesOn pages frame word words

-- words are written to two frames in either order, and what is read of the one is as before the other was written
pub record AreApart (pages : List ℕ) (frame word : ℕ) (words : List ℕ) (other place : ℕ) (others : List ℕ) : Type 0 where
  pub either_order : with_words (with_words pages frame word words) other place others ≡ with_words (with_words pages other place others) frame word words
  pub unread : (n : ℕ) → place + n ≤ 1024 → words_of (with_words pages frame word words) other place n ≡ words_of pages other place n

abbrev pub FramesAreApart : Type 0
FramesAreApart =
    (pages : List ℕ) (frame word : ℕ) (words : List ℕ) (other place : ℕ) (others : List ℕ)
    → frame ≢ other → word + length words ≤ 1024 → place + length others ≤ 1024 → AreApart pages frame word words other place others
