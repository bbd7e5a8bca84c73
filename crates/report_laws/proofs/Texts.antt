-- The text of lines of the grammar gives back exactly these lines.
use Rattle.std.proofs.Common.{◌≡◌, ℕ, true, List, [], ◌∷◌, ◌++◌, refl, ap, sym, ◌∙◌, append_assoc, true≢false}
use Rattle.std.specs.Prelude.{nat_lt, All}
use Rattle.std.specs.List.{AllByRecursion}
use Rattle.std.proofs.lemmas.List.Elements.{All-from_recursion, recursion_from_All}
use Rattle.line_text.proofs.Both.{both_true}
use Rattle.schedule_text.specs.declared.line.Line.{Line}
use Rattle.schedule_text.specs.Line.{text_of}
use Rattle.schedule_text.specs.Range.{IsInRange}
use Rattle.schedule_text.specs.Recorder.{report_text}
use Rattle.schedule_text.proofs.Spelling.{one_line}
use Rattle.report_laws.specs.Grammar.{AreInGrammar, IsInGrammar}
use Rattle.report_laws.proofs.Inline.{is_inline, inline_of}

-- two texts, each ended by a line feed, with more after them
record AreSplit (a b x y : List ℕ) : Type 0 where
  first : a ≡ b
  rest : x ≡ y

no_feed : (c : ℕ) (b : List ℕ) → is_inline (c ∷ b) ≡ true → c ≡ 10 → ⊥
no_feed c b e is = true≢false (sym (both_true (nat_lt 31 c) (is_inline b) e).0 ∙ ap (nat_lt 31) is)

split : (a b x y : List ℕ) → is_inline a ≡ true → is_inline b ≡ true → a ++ 10 ∷ x ≡ b ++ 10 ∷ y → AreSplit a b x y
split [] [] x y p q e = record { first = refl; rest = cc }
split [] (c ∷ b) x y p q e = let here : c ≡ 10 = cc in absurd (no_feed c b q here)
split (c ∷ a) [] x y p q e = let here : c ≡ 10 = cc in absurd (no_feed c a p here)
split (c ∷ a) (d ∷ b) x y p q e =
    let heads : c ≡ d = cc in
    let tails : a ++ 10 ∷ x ≡ b ++ 10 ∷ y = cc in
    let more = split a b x y (both_true (nat_lt 31 c) (is_inline a) p).1 (both_true (nat_lt 31 d) (is_inline b) q).1 tails in
    let first = more.first in
    record { first = cc; rest = more.rest }

some_bytes : (a x : List ℕ) → a ++ 10 ∷ x ≡ [] → ⊥
some_bytes [] x e = absurd cc
some_bytes (c ∷ a) x e = absurd cc

-- a report's text, line by line
cut : (line : Line) (report : List Line) → report_text (line ∷ report) ≡ text_of line ++ 10 ∷ report_text report
cut line report = append_assoc (text_of line) (10 ∷ []) (report_text report)

same_lines : (a b : List Line) → AllByRecursion IsInRange a → AllByRecursion IsInRange b → report_text a ≡ report_text b → a ≡ b
same_lines [] [] h k e = refl
same_lines [] (b ∷ bs) h k e = absurd (some_bytes (text_of b) (report_text bs) (sym (cut b bs) ∙ sym e))
same_lines (a ∷ more) [] h k e = absurd (some_bytes (text_of a) (report_text more) (sym (cut a more) ∙ e))
same_lines (a ∷ rest) (b ∷ bs) h k e =
    let both = split (text_of a) (text_of b) (report_text rest) (report_text bs) (inline_of a h.0) (inline_of b k.0) (sym (cut a rest) ∙ (e ∙ cut b bs)) in
    let heads : a ≡ b = one_line a b (text_of b) (record { in_range = h.0; text = both.first }) (record { in_range = k.0; text = refl }) in
    let tails : rest ≡ bs = same_lines rest bs h.1 k.1 both.rest in
    cc

pub same_text : (report other : List Line) → AreInGrammar report → AreInGrammar other → report_text other ≡ report_text report → other ≡ report
same_text report other all others e = same_lines other report (recursion_from_All IsInRange other others) (recursion_from_All IsInRange report all) e

-- the text of lines of the grammar gives them back
pub given_back : (report : List Line) → AreInGrammar report → IsInGrammar report
given_back report all = record { lines = all; exact = λ other others e. same_text report other all others e }

-- what holds of all lines holds of the first of them
pub all_before : (P : Line → Type 0) (report more : List Line) → All P (report ++ more) → All P report
all_before P report more all = All-from_recursion P report (first_lines report more (recursion_from_All P (report ++ more) all))
  where
    first_lines : (a b : List Line) → AllByRecursion P (a ++ b) → AllByRecursion P a
    first_lines [] b all = tt
    first_lines (line ∷ a) b all = (all.0, first_lines a b all.1)

-- what is in the grammar is so up to each of its lines
pub grammar_before : (report more : List Line) → IsInGrammar (report ++ more) → IsInGrammar report
grammar_before report more h =
    given_back report (all_before IsInRange report more h.lines)
