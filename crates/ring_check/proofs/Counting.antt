-- How many entries were read, and how many words of the next one, is taken on by one line.
use Rattle.std.proofs.Common.{◌≡◌, ℕ, ◌+◌, ◌==◌, Bool, true, false, if◌then◌else◌, List, [], ◌∷◌, ◌++◌, length, length-append, refl, ap, ◌∙◌}
use Rattle.std.specs.Prelude.{Option, Some, None, is_some, option_map}
use Rattle.blk_base.specs.declared.operation.Abi.{Abi}
use Rattle.blk_base.specs.declared.moves.BackMover.TheVariants as back
use Rattle.blk_base.specs.declared.moves.Move.TheVariants as moves
use Rattle.blk_layout.specs.Entry.{request_of}
use Rattle.ring_words.specs.Shape.{entry_words_of}
use Rattle.schedule_text.specs.declared.line.Line.{Line}
use Rattle.schedule_text.specs.declared.line.Line.TheVariants as lines
use Rattle.report_rules.specs.Standing.{is_epoch}
use Rattle.report_rules.specs.Ring.{ring_abi}
use Rattle.report_rules.specs.Stretch.{entry_word_read, when, entry_value, Fetching, none_fetched, entry_of, fetched_with, with_words, with_value, fetching_of, entries_read, words_within}
use Rattle.report_rules.proofs.Prefixes.{fetching_more}
use Rattle.ring_check.specs.State.{is_last, fetched_after, within_after}

-- a line that reads a word of an entry shows its value
pub value_told : (before : List Line) (line : Line) → is_some (entry_value before line) ≡ is_some (entry_word_read before line)
value_told before (lines.Move (moves.Read back.Back number frame word value)) = told (is_some (entry_word_read before (lines.Move (moves.Read back.Back number frame word value))))
  where
    told : (b : Bool) → is_some (when b value) ≡ b
    told true = refl
    told false = refl
value_told before line = refl

-- what is fetched, by how many there are
abbrev IsCounted : Fetching → ℕ → ℕ → Type 0
IsCounted f fetched within = (length f.jobs ≡ fetched) × (length f.words ≡ within)

with_word : (before : List Line) (f : Fetching) (value : ℕ) (abi : Option Abi)
    → IsCounted (with_words f (f.words ++ value ∷ []) (option_map (fetched_with before) (entry_of abi (f.words ++ value ∷ [])))) (if is_last abi (length f.words) then length f.jobs + 1 else length f.jobs) (if is_last abi (length f.words) then 0 else length f.words + 1)
with_word before f value None = (refl, length-append f.words (value ∷ []))
with_word before f value (Some abi) = by_test (length (f.words ++ value ∷ []) == entry_words_of abi) (length f.words + 1 == entry_words_of abi) (ap (λ (n : ℕ). n == entry_words_of abi) (length-append f.words (value ∷ [])))
  where
    by_test : (b c : Bool) → b ≡ c → IsCounted (with_words f (f.words ++ value ∷ []) (option_map (fetched_with before) (if b then Some (request_of abi (f.words ++ value ∷ [])) else None))) (if c then length f.jobs + 1 else length f.jobs) (if c then 0 else length f.words + 1)
    by_test true true e = (length-append f.jobs _, refl)
    by_test false false e = (refl, length-append f.words (value ∷ []))
    by_test true false e = absurd (cc)
    by_test false true e = absurd (cc)

one_more : (before : List Line) (f : Fetching) (value word : Option ℕ) → is_some value ≡ is_some word
    → IsCounted (with_value before f value) (fetched_after (ring_abi before) (length f.jobs) (length f.words) word) (within_after (ring_abi before) (length f.words) word)
one_more before f None None e = (refl, refl)
one_more before f None (Some w) e = absurd (cc)
one_more before f (Some v) None e = absurd (cc)
one_more before f (Some v) (Some w) e = with_word before f v (ring_abi before)

-- a line of the epoch
pub counted_more : (before : List Line) (line : Line) → is_epoch line ≡ false
    → (entries_read (before ++ line ∷ []) ≡ fetched_after (ring_abi before) (entries_read before) (words_within before) (entry_word_read before line))
    × (words_within (before ++ line ∷ []) ≡ within_after (ring_abi before) (words_within before) (entry_word_read before line))
counted_more before line same =
    let one = one_more before (fetching_of before) (entry_value before line) (entry_word_read before line) (value_told before line) in
    let f : fetching_of (before ++ line ∷ []) ≡ with_value before (fetching_of before) (entry_value before line) =
    fetching_more before line ∙ ap (λ (b : Bool). if b then none_fetched else with_value before (fetching_of before) (entry_value before line)) same in
    (ap (λ (x : Fetching). length x.jobs) f ∙ one.0, ap (λ (x : Fetching). length x.words) f ∙ one.1)

-- an epoch
pub counted_anew : (before : List Line) (line : Line) → is_epoch line ≡ true → (entries_read (before ++ line ∷ []) ≡ 0) × (words_within (before ++ line ∷ []) ≡ 0)
counted_anew before line e =
    let f : fetching_of (before ++ line ∷ []) ≡ none_fetched =
    fetching_more before line ∙ ap (λ (b : Bool). if b then none_fetched else with_value before (fetching_of before) (entry_value before line)) e in
    (ap (λ (x : Fetching). length x.jobs) f, ap (λ (x : Fetching). length x.words) f)
