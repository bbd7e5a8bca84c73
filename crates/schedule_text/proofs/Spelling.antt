-- A text of the grammar says its line.
use Rattle.std.proofs.Common.{◌≡◌, ℕ, List, sym, ap, ◌∙◌}
use Rattle.line_text.specs.Words.{words_in}
use Rattle.schedule_text.specs.declared.line.Line.{Line}
use Rattle.schedule_text.specs.Range.{IsTextOf}
use Rattle.schedule_text.specs.Reading.{line_at}
use Rattle.schedule_text.proofs.Again.{line_again}
use Rattle.schedule_text.proofs.Solid.{words_again}

-- what a text of the grammar says
pub says_line : (line : Line) (bytes : List ℕ) → IsTextOf line bytes → line_at (words_in bytes) ≡ line
says_line line bytes is = ap (λ (b : List ℕ). line_at (words_in b)) (sym is.text) ∙ ap line_at (words_again line is.in_range) ∙ line_again line is.in_range

-- two lines of one text are equal
pub one_line : (a b : Line) (bytes : List ℕ) → IsTextOf a bytes → IsTextOf b bytes → a ≡ b
one_line a b bytes is also = sym (says_line a bytes is) ∙ says_line b bytes also
