-- Lines that are told one after another are told together: for whoever adds to a recorder more than once.
use Rattle.std.proofs.Common.{◌≡◌, ℕ, List, [], ◌++◌, Option, Some, None, refl, sym, ap, ◌∙◌, append_assoc}
use Rattle.std.proofs.lemmas.List.{append-nil}
use Rattle.std.proofs.lemmas.List.Concat.{flat_map-append}
use Rattle.std.proofs.lemmas.List.Sums.{fold-append}
use Rattle.blk_io.specs.Outside.{written}
use Rattle.schedule_text.specs.declared.line.Line.{Line}
use Rattle.schedule_text.specs.declared.recorder.Tally.{Tally}
use Rattle.schedule_text.specs.Recorder.{Told, gained, with_lines, with_counts, counted, report_text, line_bytes}

lines_twice : (told : Option (List Line)) (a b : List Line) → with_lines (with_lines told a) b ≡ with_lines told (a ++ b)
lines_twice None a b = refl
lines_twice (Some lines) a b = ap Some (append_assoc lines a b)

text_twice : (told : Option (List ℕ)) (a b : List Line) → written (written told (report_text a)) (report_text b) ≡ written told (report_text (a ++ b))
text_twice None a b = refl
text_twice (Some bytes) a b = ap Some (append_assoc bytes (report_text a) (report_text b) ∙ ap (λ (t : List ℕ). bytes ++ t) (sym (flat_map-append line_bytes a b)))

counts_twice : (told : Option Tally) (a b : List Line) → with_counts (with_counts told a) b ≡ with_counts told (a ++ b)
counts_twice None a b = refl
counts_twice (Some tally) a b = ap Some (sym (fold-append counted tally a b))

-- lines, and then more
pub gained_twice : (told : Told) (a b : List Line) → gained (gained told a) b ≡ gained told (a ++ b)
gained_twice told a b = rw (lines_twice told.lines a b, text_twice told.text a b, counts_twice told.tally a b) refl

lines_none : (told : Option (List Line)) → with_lines told [] ≡ told
lines_none None = refl
lines_none (Some lines) = ap Some (append-nil lines)

text_none : (told : Option (List ℕ)) → written told [] ≡ told
text_none None = refl
text_none (Some bytes) = ap Some (append-nil bytes)

counts_none : (told : Option Tally) → with_counts told [] ≡ told
counts_none None = refl
counts_none (Some tally) = refl

-- no lines
pub gained_none : (told : Told) → gained told [] ≡ told
gained_none told = rw (lines_none told.lines, text_none told.text, counts_none told.tally) refl

-- the lines of two steps, one after the other
pub gained_on : (a b c : Told) (xs ys : List Line) → b ≡ gained a xs → c ≡ gained b ys → c ≡ gained a (xs ++ ys)
gained_on a b c xs ys p q = q ∙ ap (λ (t : Told). gained t ys) p ∙ gained_twice a xs ys
