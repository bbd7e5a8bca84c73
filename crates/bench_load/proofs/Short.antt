-- The text of a generated line is short, over plain numbers.
use Rattle.std.proofs.Common.{◌≡◌, ℕ, ◌+◌, ◌<◌, ◌≤◌, ◌^◌, List, [], ◌∷◌, length, length-append, arith, decimal, codes}
use Rattle.std.proofs.lemmas.Fmt.{length-decimal-le}
use Rattle.line_text.specs.Words.{joined}
use Rattle.line_text.specs.Numbers.{hex8}
use Rattle.blk_base.specs.declared.config.Submission.TheVariants as submissions
use Rattle.schedule_text.specs.declared.event.Event.TheVariants as events
use Rattle.bench_load.specs.Text.{IsShort}

word_short : (n : ℕ) → n < 2 ^ 32 → length (decimal n) ≤ 10
word_short n h = length-decimal-le 10 n (omega arith) (omega arith) (omega arith)

hex_short : (n : ℕ) → length (hex8 n) ≤ 8
unfolding hex8
hex_short n = omega arith

two_words : (w a : List ℕ) → length (joined (w ∷ a ∷ [])) ≡ length w + length a + 1
two_words w a = simp (length-append {A = ℕ}) (omega arith)

three_words : (w a b : List ℕ) → length (joined (w ∷ a ∷ b ∷ [])) ≡ length w + length a + length b + 2
three_words w a b = simp (length-append {A = ℕ}) (omega arith)

four_words : (v w a b : List ℕ) → length (joined (v ∷ w ∷ a ∷ b ∷ [])) ≡ length v + length w + length a + length b + 3
four_words v w a b = simp (length-append {A = ℕ}) (omega arith)

five_words : (v w a b c : List ℕ) → length (joined (v ∷ w ∷ a ∷ b ∷ c ∷ [])) ≡ length v + length w + length a + length b + length c + 4
five_words v w a b c = simp (length-append {A = ℕ}) (omega arith)

pub read_short : (s c : ℕ) → s < 2 ^ 32 → c < 2 ^ 32 → IsShort (events.Submit (submissions.Read s c))
read_short s c h k = omega (arith, four_words (codes "submit") (codes "read") (decimal s) (decimal c), word_short s h, word_short c k)

pub write_short : (s c t : ℕ) → s < 2 ^ 32 → c < 2 ^ 32 → IsShort (events.Submit (submissions.Write s c t))
write_short s c t h k =
    omega (arith, five_words (codes "submit") (codes "write") (decimal s) (decimal c) (hex8 t), word_short s h, word_short c k, hex_short t)

pub job_short : (k n : ℕ) → k < 2 ^ 32 → n < 2 ^ 32 → IsShort (events.Job k n)
job_short k n h i = omega (arith, three_words (codes "job") (decimal k) (decimal n), word_short k h, word_short n i)

pub turn_short : (n : ℕ) → n < 2 ^ 32 → IsShort (events.Turn n)
turn_short n h = omega (arith, two_words (codes "turn") (decimal n), word_short n h)
