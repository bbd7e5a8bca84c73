-- A number's digits, one more at a time.
use Rattle.std.proofs.Common.{◌≡◌, true, ℕ, ◌+◌, ◌-◌, ◌*◌, ◌/◌, ◌%◌, ◌^◌, ◌<◌, ◌≤◌, List, [], ◌∷◌, ◌++◌, length, take, drop, get_or, sym, ap, ◌∙◌, arith, inl, inr, refl, decimal}
use Rattle.std.proofs.lemmas.Bool.{cases_lt}
use Rattle.std.specs.Str.{bytes_eq}
use Rattle.std.proofs.lemmas.Slice.Eq.{bytes_eq-Decides}
use Rattle.std.proofs.lemmas.Fmt.{decimal_digit, decimal_step}
use Rattle.line_text.specs.Numbers.{glyph, hex8}
use Rattle.std.proofs.lemmas.List.{take_more, take_all, length-drop, take-append-drop}

decimal_more : (n d : ℕ) → 0 < n → d < 10 → n * 10 + d < 2 ^ 64 → decimal (n * 10 + d) ≡ decimal n ++ (48 + d) ∷ []
decimal_more n d some digit fits =
    let front : (n * 10 + d) / 10 ≡ n = omega arith in
    let last : (n * 10 + d) % 10 ≡ d = omega arith in
    let step = decimal_step (n * 10 + d) (omega arith) fits in
    rw (front, last) at step

-- the digits so far, and one more, say the number with that digit at its end
pub digit_more : (text : List ℕ) (at number byte : ℕ) → at < length text → byte ≡ get_or text at 0 → 48 ≤ byte → byte ≤ 57 → number < 400000000
    → (at ≡ 0 → number ≡ 0) → (0 < at → take at text ≡ decimal number) → (0 < at → 0 < number)
    → take (at + 1) text ≡ decimal (number * 10 + (byte - 48))
digit_more text at number byte lt is low high short none so_far first =
    let digit : 48 + (byte - 48) ≡ byte = omega arith in
    elim (cases_lt 0 at) [
      | inl some ↦
          let more = decimal_more number (byte - 48) (first some) (omega arith) (omega arith) in
          take_more text at 0 lt ∙ rw (so_far some, ← is, more, digit) refl
      | inr le ↦
          let at0 : at ≡ 0 = omega arith in
          let zero : number * 10 + (byte - 48) ≡ byte - 48 = omega (arith, none at0) in
          let byte0 : byte ≡ get_or text 0 0 = is ∙ ap (λ (k : ℕ). get_or text k 0) at0 in
          take_more text at 0 lt ∙ rw (at0, zero, decimal_digit (byte - 48) (omega arith), digit) (ap (λ (b : ℕ). b ∷ []) (sym byte0))
    ]

-- a text that begins with a head is that head and what follows
pub head_first : (text head : List ℕ) → bytes_eq (take (length head) text) head ≡ true → text ≡ head ++ take (length text - length head) (drop (length head) text)
head_first text head e =
    let same : take (length head) text ≡ head = (bytes_eq-Decides _ _).0 e in
    let all : take (length text - length head) (drop (length head) text) ≡ drop (length head) text = take_all _ (drop (length head) text) (omega (arith, length-drop (length head) text)) in
    rw all (sym (take-append-drop (length head) text) ∙ ap (λ (front : List ℕ). front ++ drop (length head) text) same)

-- the digits of both halves of a word are the word's
pub both_halves : (text : List ℕ) (high low : ℕ) → 8 ≤ length text → length text < 9 → high < 65536 → low < 65536
    → get_or text 0 0 ∷ get_or text 1 0 ∷ get_or text 2 0 ∷ get_or text 3 0 ∷ [] ≡ glyph (high / 4096) ∷ glyph (high / 256 % 16) ∷ glyph (high / 16 % 16) ∷ glyph (high % 16) ∷ []
    → get_or text 4 0 ∷ get_or text 5 0 ∷ get_or text 6 0 ∷ get_or text 7 0 ∷ [] ≡ glyph (low / 4096) ∷ glyph (low / 256 % 16) ∷ glyph (low / 16 % 16) ∷ glyph (low % 16) ∷ []
    → text ≡ hex8 (65536 * high + low)
unfolding hex8
both_halves (a ∷ b ∷ c ∷ d ∷ e ∷ f ∷ g ∷ h ∷ []) high low le lt small_high small_low front back =
    let w = 65536 * high + low in
    let d1 : w / 2 ^ 28 ≡ high / 4096 = omega arith in
    let d2 : w / 2 ^ 24 % 16 ≡ high / 256 % 16 = omega arith in
    let d3 : w / 2 ^ 20 % 16 ≡ high / 16 % 16 = omega arith in
    let d4 : w / 2 ^ 16 % 16 ≡ high % 16 = omega arith in
    let d5 : w / 2 ^ 12 % 16 ≡ low / 4096 = omega arith in
    let d6 : w / 2 ^ 8 % 16 ≡ low / 256 % 16 = omega arith in
    let d7 : w / 16 % 16 ≡ low / 16 % 16 = omega arith in
    let d8 : w % 16 ≡ low % 16 = omega arith in
    rw (d1, d2, d3, d4, d5, d6, d7, d8) (ap (λ (x : List ℕ). x ++ e ∷ f ∷ g ∷ h ∷ []) front ∙ ap (λ (y : List ℕ). (glyph (high / 4096) ∷ glyph (high / 256 % 16) ∷ glyph (high / 16 % 16) ∷ glyph (high % 16) ∷ []) ++ y) back)
both_halves (a ∷ b ∷ c ∷ d ∷ e ∷ f ∷ g ∷ h ∷ i ∷ rest) high low le lt small_high small_low front back = absurd (omega arith)
both_halves (a ∷ b ∷ c ∷ d ∷ e ∷ f ∷ g ∷ []) high low le lt small_high small_low front back = absurd (omega arith)
both_halves (a ∷ b ∷ c ∷ d ∷ e ∷ f ∷ []) high low le lt small_high small_low front back = absurd (omega arith)
both_halves (a ∷ b ∷ c ∷ d ∷ e ∷ []) high low le lt small_high small_low front back = absurd (omega arith)
both_halves (a ∷ b ∷ c ∷ d ∷ []) high low le lt small_high small_low front back = absurd (omega arith)
both_halves (a ∷ b ∷ c ∷ []) high low le lt small_high small_low front back = absurd (omega arith)
both_halves (a ∷ b ∷ []) high low le lt small_high small_low front back = absurd (omega arith)
both_halves (a ∷ []) high low le lt small_high small_low front back = absurd (omega arith)
both_halves [] high low le lt small_high small_low front back = absurd (omega arith)
