-- Words that are read and written many at once, as single ones: what they are of the list of all words.
use Rattle.std.proofs.Common.{◌≡◌, ℕ, zero, suc, ◌+◌, ◌*◌, ◌<◌, ◌≤◌, List, [], ◌∷◌, ◌++◌, take, drop, length, slice_index, slice_set, refl, sym, ap, ◌∙◌, arith, add-zero, append_assoc}
use Rattle.std.proofs.lemmas.List.{drop_more, drop-set-lt, length-set, take-append-drop, get_or-set_same, get_or-set_other}
use Rattle.std.proofs.lemmas.Grind.{take-set_at}
use Rattle.std.proofs.Math.Seq.{take-append_seam}
use Rattle.xen_pages.specs.Pages.{word_of, with_word, words_of, with_words, OnlyChangesWords}

-- a word after one of its frame
next_place : (frame word : ℕ) → frame * 1024 + word + 1 ≡ frame * 1024 + (word + 1)
next_place frame word = omega arith

-- the words of a frame from one on are those of the list
pub words_there : (pages : List ℕ) (frame word n : ℕ) → frame * 1024 + word + n ≤ length pages → take n (drop (frame * 1024 + word) pages) ≡ words_of pages frame word n
words_there pages frame word zero fits = refl
words_there pages frame word (suc n) fits =
    ap (take (suc n)) (drop_more pages (frame * 1024 + word) 0 (omega arith))
    ∙ ap (λ (l : List ℕ). word_of pages frame word ∷ l)
    (ap (λ place. take n (drop place pages)) (next_place frame word) ∙ words_there pages frame (word + 1) n (omega arith))

-- the list with these words from a place on
abbrev put : List ℕ → ℕ → List ℕ → List ℕ
put pages k words = take k pages ++ (words ++ drop (k + length words) pages)

put_more : (pages : List ℕ) (k value : ℕ) (rest : List ℕ) → k < length pages → put (slice_set pages k value) (k + 1) rest ≡ put pages k (value ∷ rest)
put_more pages k value rest within =
    let front : take (k + 1) (slice_set pages k value) ≡ take k pages ++ value ∷ [] = take-set_at pages k (k + 1) value refl within in
    let more : k + 1 + length rest ≡ k + suc (length rest) = omega arith in
    let back : drop (k + 1 + length rest) (slice_set pages k value) ≡ drop (k + suc (length rest)) pages = drop-set-lt (k + 1 + length rest) pages k value (omega arith) ∙ ap (λ n. drop n pages) more in
    ap (λ (l : List ℕ). l ++ (rest ++ drop (k + 1 + length rest) (slice_set pages k value))) front
    ∙ (ap (λ (l : List ℕ). (take k pages ++ value ∷ []) ++ (rest ++ l)) back
    ∙ append_assoc (take k pages) (value ∷ []) (rest ++ drop (k + suc (length rest)) pages))

-- words that are written one after another stand in the list from there on
pub words_put : (pages : List ℕ) (frame word : ℕ) (words : List ℕ) → frame * 1024 + word + length words ≤ length pages → take (frame * 1024 + word) pages ++ (words ++ drop (frame * 1024 + word + length words) pages) ≡ with_words pages frame word words
words_put pages frame word [] fits = rw (add-zero (frame * 1024 + word)) (take-append-drop (frame * 1024 + word) pages)
words_put pages frame word (value ∷ rest) fits =
    let k : ℕ = frame * 1024 + word in
    let same : length (slice_set pages k value) ≡ length pages = length-set pages k value in
    sym (put_more pages k value rest (omega arith))
    ∙ (ap (λ place. put (slice_set pages k value) place rest) (next_place frame word)
    ∙ words_put (slice_set pages k value) frame (word + 1) rest (omega arith))

-- the list is handed back whole
pub handed_back : (items all : List ℕ) (len : ℕ) → length all ≡ len → take len (all ++ drop (length all) items) ≡ all
handed_back items all len same = ap (λ n. take n (all ++ drop (length all) items)) (sym same) ∙ take-append_seam all (drop (length all) items)

-- a word that isn't among them stays
pub stays : (pages : List ℕ) (frame word : ℕ) (words : List ℕ) (j : ℕ) → ¬ ((frame * 1024 + word ≤ j) × (j < frame * 1024 + word + length words)) → slice_index (with_words pages frame word words) j ≡ slice_index pages j
stays pages frame word [] j outside = refl
stays pages frame word (value ∷ rest) j outside =
    stays (with_word pages frame word value) frame (word + 1) rest j (λ within. outside (let low = within.0 in let high = within.1 in (omega arith, omega arith)))
    ∙ get_or-set_other pages (frame * 1024 + word) j value 0 (λ same. outside (let is : j ≡ frame * 1024 + word = same in (omega arith, omega arith)))

-- they are there afterwards
are_there : (pages : List ℕ) (frame word : ℕ) (words : List ℕ) → frame * 1024 + word + length words ≤ length pages → words_of (with_words pages frame word words) frame word (length words) ≡ words
are_there pages frame word [] fits = refl
are_there pages frame word (value ∷ rest) fits =
    let k : ℕ = frame * 1024 + word in
    let now : List ℕ = with_word pages frame word value in
    let same : length now ≡ length pages = length-set pages k value in
    let first : word_of (with_words now frame (word + 1) rest) frame word ≡ value =
    stays now frame (word + 1) rest k (λ within. let low = within.0 in omega arith) ∙ get_or-set_same pages k value 0 (omega arith) in
    ap (λ v. v ∷ words_of (with_words now frame (word + 1) rest) frame (word + 1) (length rest)) first
    ∙ ap (λ (l : List ℕ). value ∷ l) (are_there now frame (word + 1) rest (omega arith))

-- and no other word of any frame is another
pub only_words : (pages : List ℕ) (frame word : ℕ) (words : List ℕ) → frame < 1088 → word + length words ≤ 1024 → length pages ≡ 1114112 → OnlyChangesWords pages (with_words pages frame word words) frame word words
only_words pages frame word words frame_in words_in len = record {
  written = are_there pages frame word words (omega arith);
  others = λ f w f_in w_in apart. stays pages frame word words (f * 1024 + w) (λ within. let low = within.0 in let high = within.1 in
      let same : f ≡ frame = omega arith in apart (same, omega arith, omega arith));
}
