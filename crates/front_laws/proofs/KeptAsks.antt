-- What a front as it is asks of the grant table: which of its asks are at a frame's flags.
use Rattle.std.proofs.Common.{◌≡◌, ◌≢◌, ℕ, ◌+◌, ◌*◌, ◌/◌, ◌%◌, ◌<◌, ◌≤◌, ◌&&◌, ◌==◌, not, Bool, true, false, if◌then◌else◌, List, [], ◌∷◌, refl, arith}
use Rattle.std.specs.Prelude.{Option}
use Rattle.std.proofs.lemmas.Bool.Decides.{nat_tests}
use Rattle.blk_base.specs.declared.ask.FrontAsk.{FrontAsk}
use Rattle.blk_base.specs.declared.ask.FrontAsk.TheVariants.{Write, Cas}
use Rattle.blk_base.specs.declared.ask.FrontAnswer.{FrontAnswer}
use Rattle.blk_base.specs.declared.ask.FrontAnswer.TheVariants.{Word}
use Rattle.blk_front.specs.declared.told.Told.{Told}
use Rattle.blk_front.specs.View.{entry_frame, entry_word}
use Rattle.front_laws.specs.History.{Line, Asked}
use Rattle.front_laws.specs.Kept.{is_flags, makes, ends}
use Rattle.front_laws.proofs.Changes.{both}

-- it is false that a test is true
falsely : (b : Bool) → (b ≡ true → ⊥) → b ≡ false
falsely true never = absurd (never refl)
falsely false never = refl

same : (a b : ℕ) → (a == b) ≡ true → a ≡ b
same a b e = grind (arith, nat_tests)

pub flags_here : (f : ℕ) → is_flags f (entry_frame f) (entry_word f) ≡ true
flags_here f = grind (arith, nat_tests)

-- an entry is in frame 0 or 1
pub not_there : (f place word : ℕ) → f < 1018 → 2 ≤ place → is_flags f place word ≡ false
not_there f place word few far = falsely (is_flags f place word) (λ e.
    let b = both (place == entry_frame f) (word == entry_word f) e in
    let at : place ≡ (f + 6) / 512 = same place (entry_frame f) b.0 in
    omega arith)

-- the second word of an entry isn't the first of any
pub not_odd : (f g place : ℕ) → is_flags f place (entry_word g + 1) ≡ false
not_odd f g place = falsely (is_flags f place (entry_word g + 1)) (λ e.
    let b = both (place == entry_frame f) (entry_word g + 1 == entry_word f) e in
    let at : 2 * ((g + 6) % 512) + 1 ≡ 2 * ((f + 6) % 512) = same (entry_word g + 1) (entry_word f) b.1 in
    omega arith)

-- each frame has an entry of its own
pub not_other : (f g : ℕ) → g ≢ f → is_flags f (entry_frame g) (entry_word g) ≡ false
not_other f g other = falsely (is_flags f (entry_frame g) (entry_word g)) (λ e.
    let b = both (entry_frame g == entry_frame f) (entry_word g == entry_word f) e in
    let at : (g + 6) / 512 ≡ (f + 6) / 512 = same (entry_frame g) (entry_frame f) b.0 in
    let word : 2 * ((g + 6) % 512) ≡ 2 * ((f + 6) % 512) = same (entry_word g) (entry_word f) b.1 in
    other (omega arith))

-- an ask writes or exchanges such a word
abbrev pub touches : (ℕ → ℕ → Bool) → FrontAsk → Bool
touches here (Write place word value) = here place word
touches here (Cas place word old new) = here place word
touches here ask = false

-- the grant of a frame stands after a line
abbrev pub made_after : ℕ → Bool → Line → Bool
made_after f made line = if makes f line then true else (if ends f line then false else made)

-- and after some
abbrev pub made_over : ℕ → Bool → List Line → Bool
made_over f made [] = made
made_over f made (line ∷ lines) = made_over f (made_after f made line) lines

either_made : (a b made : Bool) → a ≡ false → b ≡ false → (if a then true else (if b then false else made)) ≡ made
either_made a b made one other = rw (one, other) refl

-- no other ask makes or ends a grant
pub untouched : (f : ℕ) (made : Bool) (ask : FrontAsk) (given : FrontAnswer) (told : Option Told) → touches (is_flags f) ask ≡ false → made_after f made (Asked ask given told) ≡ made
untouched f made (Write place word value) given told none = either_made (is_flags f place word && value % 4 == 1) (is_flags f place word && not (value % 4 == 1)) made (rw none refl) (rw none refl)
untouched f made (Cas place word old new) (Word seen) told none = either_made false (is_flags f place word && seen == old) made refl (rw none refl)
untouched f made (Cas place word old new) given told none = refl
untouched f made ask given told none = refl

-- a write makes one
pub made_now : (f : ℕ) (made : Bool) (given : FrontAnswer) (told : Option Told) → made_after f made (Asked (Write (entry_frame f) (entry_word f) 1) given told) ≡ true
made_now f made given told = rw (flags_here f) refl

-- an exchange that took place ends one
pub ended_now : (f before : ℕ) (seen : ℕ) (made : Bool) (told : Option Told) → (seen == before) ≡ true → made_after f made (Asked (Cas (entry_frame f) (entry_word f) before 0) (Word seen) told) ≡ false
ended_now f before seen made told took = rw (flags_here f, took) refl

-- and one that didn't ends none
pub not_ended : (f g before : ℕ) (seen : ℕ) (made : Bool) (told : Option Told) → (seen == before) ≡ false → made_after f made (Asked (Cas (entry_frame g) (entry_word g) before 0) (Word seen) told) ≡ made
not_ended f g before seen made told kept = either_made false (is_flags f (entry_frame g) (entry_word g) && seen == before) made refl (by_test (is_flags f (entry_frame g) (entry_word g)))
  where
    by_test : (b : Bool) → (b && seen == before) ≡ false
    by_test true = kept
    by_test false = refl
