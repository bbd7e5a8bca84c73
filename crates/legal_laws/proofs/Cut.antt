-- The lines that bytes begin with, among those whose text they are.
use Rattle.std.proofs.Common.{◌≡◌, ◌≢◌, ℕ, List, [], ◌∷◌, ◌++◌, refl, ap, sym, ◌∙◌, append_assoc}
use Rattle.std.specs.Prelude.{All}
use Rattle.std.proofs.lemmas.List.Elements.{All-nil, All-cons, All-head, All-tail}
use Rattle.schedule_text.specs.declared.line.Line.{Line}
use Rattle.schedule_text.specs.Line.{text_of}
use Rattle.schedule_text.specs.Range.{IsInRange}
use Rattle.schedule_text.specs.Recorder.{report_text}
use Rattle.schedule_text.proofs.Spelling.{one_line}
use Rattle.report_lines.specs.Text.{HasNoLineFeed, BeginsWith, IsReportText}
use Rattle.legal_laws.proofs.Short.{unbroken_text}

-- two texts, each ended by a line feed, with more after them
record AreSplit (a b x y : List ℕ) : Type 0 where
  first : a ≡ b
  rest : x ≡ y

split : (a b x y : List ℕ) → HasNoLineFeed a → HasNoLineFeed b → a ++ 10 ∷ x ≡ b ++ 10 ∷ y → AreSplit a b x y
split [] [] x y p q e = record { first = refl; rest = cc }
split [] (c ∷ b) x y p q e = let here : c ≡ 10 = cc in absurd (All-head (λ (n : ℕ). n ≢ 10) c b q here)
split (c ∷ a) [] x y p q e = let here : c ≡ 10 = cc in absurd (All-head (λ (n : ℕ). n ≢ 10) c a p here)
split (c ∷ a) (d ∷ b) x y p q e =
    let heads : c ≡ d = cc in
    let tails : a ++ 10 ∷ x ≡ b ++ 10 ∷ y = cc in
    let more = split a b x y (All-tail (λ (n : ℕ). n ≢ 10) c a p) (All-tail (λ (n : ℕ). n ≢ 10) d b q) tails in
    let first = more.first in
    record { first = cc; rest = more.rest }

pub some_bytes : (a x : List ℕ) → a ++ 10 ∷ x ≡ [] → ⊥
some_bytes [] x e = absurd cc
some_bytes (c ∷ a) x e = absurd cc

-- a report's text, line by line
pub cut_first : (line : Line) (report : List Line) → report_text (line ∷ report) ≡ text_of line ++ 10 ∷ report_text report
cut_first line report = append_assoc (text_of line) (10 ∷ []) (report_text report)

-- bytes that are the text of lines are the lines' texts, one after another
pub whole_text : (report : List Line) (bytes : List ℕ) → IsReportText report bytes → bytes ≡ report_text report
whole_text [] bytes read = read
whole_text (line ∷ report) bytes read =
    read.2 ∙ (ap (λ (text : List ℕ). text ++ 10 ∷ read.1) (sym read.3.text)
    ∙ (ap (λ (more : List ℕ). text_of line ++ 10 ∷ more) (whole_text report read.1 read.4) ∙ sym (cut_first line report)))

-- each of these lines is one of the grammar
pub whole_range : (report : List Line) (bytes : List ℕ) → IsReportText report bytes → All IsInRange report
whole_range [] bytes read = All-nil IsInRange
whole_range (line ∷ report) bytes read = All-cons IsInRange line report read.3.in_range (whole_range report read.1 read.4)

-- these lines are the first ones of a report, and the text of the others is left
pub record IsCut (lines report : List Line) (rest : List ℕ) : Type 0 where
  pub later : List Line
  pub whole : report ≡ lines ++ later
  pub left : rest ≡ report_text later

more_cut : (line r : Line) (lines report : List Line) (rest : List ℕ) → line ≡ r → IsCut lines report rest → IsCut (line ∷ lines) (r ∷ report) rest
more_cut line r lines report rest here c =
    let whole = c.whole in
    record { later = c.later; whole = cc; left = c.left }

pub cut : (lines report : List Line) (bytes rest : List ℕ) → All IsInRange report → bytes ≡ report_text report → BeginsWith lines bytes rest → IsCut lines report rest
cut [] report bytes rest all is begins = record { later = report; whole = refl; left = sym begins ∙ is }
cut (line ∷ lines) [] bytes rest all is begins = absurd (some_bytes begins.0 begins.1 (sym begins.2 ∙ is))
cut (line ∷ lines) (r ∷ report) bytes rest all is begins =
    let range = All-head IsInRange r report all in
    let said : text_of line ≡ begins.0 = begins.3.text in
    let both = split (text_of line) (text_of r) begins.1 (report_text report) (unbroken_text line begins.3.in_range) (unbroken_text r range)
    (ap (λ (text : List ℕ). text ++ 10 ∷ begins.1) said ∙ (sym begins.2 ∙ (is ∙ cut_first r report))) in
    let here : line ≡ r = one_line line r (text_of r) (record { in_range = begins.3.in_range; text = both.first }) (record { in_range = range; text = refl }) in
    more_cut line r lines report rest here (cut lines report begins.1 rest (All-tail IsInRange r report all) both.rest begins.4)
