-- A check finds the text of a legal report legal.
use Rattle.std.proofs.Common.{◌≡◌, ◌≢◌, ℕ, inl, inr, List, [], ◌∷◌, ◌++◌, length, refl, ap, sym, subst, ◌∙◌, arith, append-nil}
use Rattle.std.specs.Prelude.{All, Some, Result, Ok, Err}
use Rattle.std.proofs.lemmas.List.Elements.{All-head, All-tail}
use Rattle.blk_io.specs.Outside.{SourceSeen}
use Rattle.schedule_text.specs.declared.line.Line.{Line}
use Rattle.schedule_text.specs.Line.{text_of}
use Rattle.schedule_text.specs.Range.{IsInRange}
use Rattle.schedule_text.specs.Recorder.{report_text}
use Rattle.report_rules.specs.Obeys.{Obeys}
use Rattle.report_rules.proofs.Obeys.{obeys_before}
use Rattle.report_lines.specs.Text.{HasBadText, first_line, IsReportText}
use Rattle.report_lines.specs.Giving.{Tells}
use Rattle.report_lines.proofs.Feeds.{first_line_whole}
use Rattle.checked_rules.specs.declared.rule.Rule.{Rule}
use Rattle.trace_check.specs.declared.finding.Finding.{Finding}
use Rattle.trace_check.specs.declared.finding.Finding.TheVariants.{Legal, Broken}
use Rattle.trace_check.specs.declared.finding.CheckStop.{CheckStop}
use Rattle.trace_check.specs.declared.finding.CheckStop.TheVariants.{BadLine, Source, TooLong, OutOfMemory}
use Rattle.checked_rules.specs.Rules.{Keeps, KeepsEach, KeepsAll, Breaks, all_rules}
use Rattle.trace_check.specs.Found.{EndsWell, IsBrokenAt, LacksEnd, IsFound, IsBadAt, IsLong, Finds}
use Rattle.legal_laws.specs.Found.{FindsLegal}
use Rattle.legal_laws.proofs.Lists.{all_there}
use Rattle.legal_laws.proofs.Short.{short_text, unbroken_text}
use Rattle.legal_laws.proofs.Cut.{IsCut, cut, cut_first, some_bytes, whole_text, whole_range}

-- lines that a report begins with that keeps all rules keep them
begins_kept : (lines report : List Line) (rest : List ℕ) → Obeys KeepsAll report → IsCut lines report rest → Obeys KeepsAll lines
begins_kept lines report rest keeps c = obeys_before KeepsAll lines c.later (subst (λ (ls : List Line). Obeys KeepsAll ls) c.whole keeps)

-- each rule is kept, also one among others
kept_in : (earlier later : List Rule) (broken : Rule) (before : List Line) (line : Line) → KeepsEach (earlier ++ broken ∷ later) before line → Keeps broken before line
kept_in [] later broken before line kept = All-head (λ (rule : Rule). Keeps rule before line) broken later kept
kept_in (first ∷ earlier) later broken before line kept =
    kept_in earlier later broken before line (All-tail (λ (rule : Rule). Keeps rule before line) first (earlier ++ broken ∷ later) kept)

unbroken : (report : List Line) (limit number : ℕ) (broken : Rule) → Obeys KeepsAll report → All IsInRange report → IsBrokenAt limit number broken (report_text report) → ⊥
unbroken report limit number broken keeps all b =
    let here = begins_kept (b.before ++ b.line ∷ []) report b.rest keeps (cut (b.before ++ b.line ∷ []) report (report_text report) b.rest all refl b.read) in
    let r : Breaks all_rules b.before b.line broken = b.rule in
    r.breaks (kept_in r.earlier r.later broken b.before b.line (subst (λ (rules : List Rule). KeepsEach rules b.before b.line) r.order (here b.before [] b.line refl)))

-- ---- the end

no_text : (report : List Line) → report_text report ≡ [] → report ≡ []
no_text [] none = refl
no_text (line ∷ report) none = absurd (some_bytes (text_of line) (report_text report) (sym (cut_first line report) ∙ none))

ended : (report : List Line) (number : ℕ) (broken : Rule) → EndsWell report → All IsInRange report → LacksEnd number broken (report_text report) → ⊥
ended report number broken ends all l =
    let c = cut l.report report (report_text report) [] all refl l.text.read in
    let none : c.later ≡ [] = no_text c.later (sym c.left) in
    let whole : report ≡ l.report = c.whole ∙ (ap (λ (later : List Line). l.report ++ later) none ∙ append-nil l.report) in
    l.unended (ends.0, sym whole ∙ ends.1)

found_legal : (limit : ℕ) (report : List Line) (finding : Finding) → Obeys KeepsAll report → EndsWell report → All IsInRange report → IsFound limit finding (report_text report) → finding ≡ Legal
found_legal limit report Legal keeps ends all found = refl
found_legal limit report (Broken number broken) keeps ends all (inl b) = absurd (unbroken report limit number broken keeps all b)
found_legal limit report (Broken number broken) keeps ends all (inr l) = absurd (ended report number broken ends all l.0)

-- ---- no line is bad

no_bad : (line : Line) (more : List ℕ) → IsInRange line → HasBadText (text_of line ++ 10 ∷ more) → ⊥
no_bad line more range bad = by_why bad
  where
    whole : first_line (text_of line ++ 10 ∷ more) ≡ text_of line
    whole = first_line_whole (text_of line) more (unbroken_text line range)

    by_why : HasBadText (text_of line ++ 10 ∷ more) → ⊥
    by_why (inl none) = none line (record { in_range = range; text = sym whole })
    by_why (inr (inl long)) = let size = ap length whole in let short = short_text line range in omega arith
    by_why (inr (inr none)) = all_there (λ (b : ℕ). b ≢ 10) (text_of line) more 10 none refl

bad_left : (later : List Line) (rest : List ℕ) → All IsInRange later → rest ≡ report_text later → rest ≢ [] → HasBadText rest → ⊥
bad_left [] rest all is some bad = some is
bad_left (line ∷ later) rest all is some bad = no_bad line (report_text later) (All-head IsInRange line later all) (subst HasBadText (is ∙ cut_first line later) bad)

all_after : (xs ys : List Line) → All IsInRange (xs ++ ys) → All IsInRange ys
all_after [] ys all = all
all_after (x ∷ xs) ys all = all_after xs ys (All-tail IsInRange x (xs ++ ys) all)

never_bad : (report : List Line) (limit number : ℕ) → All IsInRange report → IsBadAt limit number (report_text report) → ⊥
never_bad report limit number all b =
    let c = cut b.before report (report_text report) b.rest all refl b.read in
    bad_left c.later b.rest (all_after b.before c.later (subst (All IsInRange) c.whole all)) c.left b.bad.0 b.bad.1

-- bytes that are the text of a report have no line that is none of one
pub whole_never_bad : (limit number : ℕ) (report : List Line) (bytes : List ℕ) → IsReportText report bytes → IsBadAt limit number bytes → ⊥
whole_never_bad limit number report bytes read b =
    never_bad report limit number (whole_range report bytes read) (subst (IsBadAt limit number) (whole_text report bytes read) b)

pub legal_found_legal : (limit : ℕ) (report : List Line) (found : Result Finding CheckStop) (s t : SourceSeen)
    → Obeys KeepsAll report → EndsWell report → All IsInRange report → s.left ≡ Some (report_text report) → Finds limit found s t → FindsLegal limit (report_text report) found s t
legal_found_legal limit report (Ok finding) s t keeps ends all left finds = found_legal limit report finding keeps ends all (subst (Tells (IsFound limit finding)) left finds.0)
legal_found_legal limit report (Err (BadLine number)) s t keeps ends all left finds = never_bad report limit number all (subst (Tells (IsBadAt limit number)) left finds.0)
legal_found_legal limit report (Err Source) s t keeps ends all left finds = finds
legal_found_legal limit report (Err TooLong) s t keeps ends all left finds = (let long : IsLong limit (report_text report) = subst (Tells (IsLong limit)) left finds.0 in let taken = long.taken in omega arith)
legal_found_legal limit report (Err OutOfMemory) s t keeps ends all left finds = tt
