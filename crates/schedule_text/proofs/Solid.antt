-- The words of a line have no spaces.
use Rattle.std.proofs.Common.{◌≡◌, ℕ, true, List, [], ◌∷◌, refl, arith}
use Rattle.std.specs.Prelude.{not}
use Rattle.std.specs.List.{list_all}
use Rattle.std.proofs.lemmas.Bool.Decides.{nat_tests}
use Rattle.line_text.specs.Words.{is_space, words_in, joined}
use Rattle.line_text.proofs.Solid.{is_solid, solid_again, solid_decimal, solid_sector}
use Rattle.blk_base.specs.declared.config.Submission.{Submission}
use Rattle.schedule_text.specs.declared.line.Line.{Line}
use Rattle.schedule_text.specs.declared.line.Line.TheVariants as lines
use Rattle.schedule_text.specs.Line.{words_of, text_of, submission_words}
use Rattle.schedule_text.specs.Range.{IsInRange, SubmissionHasWidths}
use Rattle.schedule_text.proofs.NarrowWords.{all_weaker, is_above, is_narrow, AreNarrow, above_of}
use Rattle.schedule_text.proofs.Narrow.{narrow_submission, narrow_line}

abbrev AreSolid : List (List ℕ) → Type 0
AreSolid words = list_all is_solid words ≡ true

no_space : (b : ℕ) → is_above b ≡ true → not (is_space b) ≡ true
no_space b above = grind (arith, nat_tests)

solid_narrow : (word : List ℕ) → is_narrow word ≡ true → is_solid word ≡ true
solid_narrow word narrow = all_weaker is_above (λ b. not (is_space b)) no_space word (above_of word narrow)

solid_words : (words : List (List ℕ)) → AreNarrow words → AreSolid words
solid_words words narrow = all_weaker is_narrow is_solid solid_narrow words narrow

pub solid_submission : (job : Submission) → SubmissionHasWidths job → AreSolid (submission_words job)
solid_submission job h = solid_words (submission_words job) (narrow_submission job h)

solid_line : (line : Line) → IsInRange line → AreSolid (words_of line)
solid_line (lines.EffectRead id index words) h = rw (solid_decimal id h.widths.0, solid_decimal index (omega (arith, h.widths.1)), solid_sector words h.widths.2) refl
solid_line (lines.Data id index words) h = rw (solid_decimal id h.widths.0, solid_decimal index (omega (arith, h.widths.1)), solid_sector words h.widths.2) refl
solid_line line h = solid_words (words_of line) (narrow_line line h refl)

some_words : (line : Line) → words_of line ≡ [] → ⊥
some_words (lines.Begin config detail) e = absurd cc
some_words line e = absurd cc

again_if : (words : List (List ℕ)) → (words ≡ [] → ⊥) → AreSolid words → words_in (joined words) ≡ words
again_if [] some e = absurd (some refl)
again_if (w ∷ ws) some e = solid_again w ws e

-- the words of a line's text are the line's
pub words_again : (line : Line) → IsInRange line → words_in (text_of line) ≡ words_of line
words_again line h = again_if (words_of line) (some_words line) (solid_line line h)
