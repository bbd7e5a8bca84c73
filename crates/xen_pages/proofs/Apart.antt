-- Words of one frame go one by one, and words of two frames are apart.
use Rattle.std.proofs.Common.{◌≡◌, ℕ, zero, suc, ◌+◌, ◌*◌, ◌<◌, ◌≤◌, ◌≢◌, List, [], ◌∷◌, ◌++◌, length, slice_set, refl, ap, ◌∙◌, arith}
use Rattle.xen_pages.specs.Pages.{word_of, with_word, words_of, with_words}
use Rattle.xen_pages.specs.Apart.{WordsGoOn, FramesAreApart}
use Rattle.xen_pages.proofs.Parts.{stays}

-- two places are written in either order
set_apart : (all : List ℕ) (i j a b : ℕ) → i ≢ j → slice_set (slice_set all i a) j b ≡ slice_set (slice_set all j b) i a
set_apart [] i j a b apart = refl
set_apart (x ∷ all) zero zero a b apart = absurd (apart refl)
set_apart (x ∷ all) zero (suc j) a b apart = refl
set_apart (x ∷ all) (suc i) zero a b apart = refl
set_apart (x ∷ all) (suc i) (suc j) a b apart = ap (λ (l : List ℕ). x ∷ l) (set_apart all i j a b (λ same. apart (ap suc same)))

-- a word of another frame has another place
other_place : (f w g u : ℕ) → f ≢ g → w < 1024 → u < 1024 → f * 1024 + w ≢ g * 1024 + u
other_place f w g u apart few short same = apart (omega arith)

-- so a word is written before those of another frame or after them
one_past : (pages : List ℕ) (f w : ℕ) (words : List ℕ) (g u value : ℕ) → f ≢ g → w + length words ≤ 1024 → u < 1024 → with_word (with_words pages f w words) g u value ≡ with_words (with_word pages g u value) f w words
one_past pages f w [] g u value apart few short = refl
one_past pages f w (word ∷ words) g u value apart few short =
    one_past (with_word pages f w word) f (w + 1) words g u value apart (omega arith) short
    ∙ ap (λ (l : List ℕ). with_words l f (w + 1) words) (set_apart pages (f * 1024 + w) (g * 1024 + u) word value (other_place f w g u apart (omega arith) short))

in_order : (pages : List ℕ) (f w : ℕ) (words : List ℕ) (g u : ℕ) (others : List ℕ) → f ≢ g → w + length words ≤ 1024 → u + length others ≤ 1024 → with_words (with_words pages f w words) g u others ≡ with_words (with_words pages g u others) f w words
in_order pages f w words g u [] apart few short = refl
in_order pages f w words g u (other ∷ others) apart few short =
    ap (λ (l : List ℕ). with_words l g (u + 1) others) (one_past pages f w words g u other apart few (omega arith))
    ∙ in_order (with_word pages g u other) f w words g (u + 1) others apart few (omega arith)

-- a word of another frame stays
word_stays : (pages : List ℕ) (f w : ℕ) (words : List ℕ) (g u : ℕ) → f ≢ g → w + length words ≤ 1024 → u < 1024 → word_of (with_words pages f w words) g u ≡ word_of pages g u
word_stays pages f w words g u apart few short =
    stays pages f w words (g * 1024 + u) (λ within. let low = within.0 in let high = within.1 in let same : f ≡ g = omega arith in apart same)

words_stay : (pages : List ℕ) (f w : ℕ) (words : List ℕ) (g u n : ℕ) → f ≢ g → w + length words ≤ 1024 → u + n ≤ 1024 → words_of (with_words pages f w words) g u n ≡ words_of pages g u n
words_stay pages f w words g u zero apart few short = refl
words_stay pages f w words g u (suc n) apart few short =
    ap (λ word. word ∷ words_of (with_words pages f w words) g (u + 1) n) (word_stays pages f w words g u apart few (omega arith))
    ∙ ap (λ (l : List ℕ). word_of pages g u ∷ l) (words_stay pages f w words g (u + 1) n apart few (omega arith))

pub frames_are_apart : FramesAreApart
frames_are_apart pages f w words g u others apart few short = record {
  either_order = in_order pages f w words g u others apart few short;
  unread = λ n within. words_stay pages f w words g u n apart few within;
}

-- a word of a frame after so many
reads_on : (pages : List ℕ) (f w n : ℕ) → words_of pages f w (suc n) ≡ words_of pages f w n ++ word_of pages f (w + n) ∷ []
reads_on pages f w zero = ap (λ place. word_of pages f place ∷ []) (omega arith)
reads_on pages f w (suc n) =
    ap (λ (l : List ℕ). word_of pages f w ∷ l)
    (reads_on pages f (w + 1) n ∙ ap (λ place. words_of pages f (w + 1) n ++ word_of pages f place ∷ []) (omega arith))

one_more : (n : ℕ) → n + 1 ≡ suc n
one_more n = omega arith

writes_on : (pages : List ℕ) (f w : ℕ) (words : List ℕ) (value : ℕ) → with_words pages f w (words ++ value ∷ []) ≡ with_word (with_words pages f w words) f (w + length words) value
writes_on pages f w [] value = ap (λ place. with_word pages f place value) (omega arith)
writes_on pages f w (word ∷ words) value =
    writes_on (with_word pages f w word) f (w + 1) words value
    ∙ ap (λ place. with_word (with_words (with_word pages f w word) f (w + 1) words) f place value) (omega arith)

pub words_go_on : WordsGoOn
words_go_on pages f w words = record { reads = λ n. ap (words_of pages f w) (one_more n) ∙ reads_on pages f w n; writes = writes_on pages f w words }
