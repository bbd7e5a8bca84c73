-- Rules of the list, among others.
use Rattle.std.proofs.Common.{◌≡◌, ◌||◌, Bool, false, List, [], ◌∷◌, ◌++◌, get_or, refl, sym, ap, subst, ◌∙◌, true≢false}
use Rattle.std.specs.Prelude.{All, IsTrue}
use Rattle.std.specs.List.{list_any}
use Rattle.std.proofs.lemmas.List.Elements.{All-from_recursion, All-head, All-tail}
use Rattle.blk_base.specs.Options.{Options}
use Rattle.schedule_text.specs.declared.line.Detail.TheVariants.{Lines}
use Rattle.schedule_text.specs.declared.line.Line.{Line}
use Rattle.schedule_text.specs.declared.line.Line.TheVariants as lines
use Rattle.report_rules.specs.Obeys.{Obeys}
use Rattle.report_rules.proofs.Obeys.{obeys_none, obeys_before}
use Rattle.checked_rules.specs.declared.rule.Rule.{Rule}
use Rattle.checked_rules.specs.Lines.{is_begin, shows_moves}
use Rattle.checked_rules.specs.Rules.{WhereShown, Keeps, KeepsEach, ObeysEach, move_rules}

-- what lines obey with more after them they obey
pub each_before : (rules : List Rule) (report more : List Line) → ObeysEach rules (report ++ more) → ObeysEach rules report
each_before rules report more obeys k r within = obeys_before (Keeps (get_or rules k r)) report more (obeys k r within)

-- no lines obey all
pub each_none : (rules : List Rule) → ObeysEach rules []
each_none rules k r within = obeys_none (Keeps (get_or rules k r))

-- a rule that is kept everywhere is kept where moves are shown
pub kept_shown : (IsAllowed : List Line → Line → Type 0) (report : List Line) → Obeys IsAllowed report → Obeys (WhereShown IsAllowed) report
kept_shown IsAllowed report obeys before after line is shown = obeys before after line is

-- ---- where moves aren't shown

pub only_begin_shows : (line : Line) → is_begin line ≡ false → shows_moves line ≡ false
only_begin_shows (lines.Begin config d) e = absurd (true≢false e)
only_begin_shows line e = refl

-- there each rule on them is kept
pub all_unshown : (before : List Line) (line : Line) → list_any shows_moves before ≡ false → KeepsEach move_rules before line
all_unshown before line unshown =
    let none = λ (yes : IsTrue (list_any shows_moves before)). true≢false (sym yes ∙ unshown) in
    All-from_recursion (λ (rule : Rule). Keeps rule before line) move_rules
    (λ yes. absurd (none yes), (λ yes. absurd (none yes), (λ yes. absurd (none yes), (λ yes. absurd (none yes), tt))))

no_more_shown : (first later : List Line) → All (λ (line : Line). is_begin line ≡ false) (first ++ later) → list_any shows_moves first ≡ false
no_more_shown [] later once = refl
no_more_shown (line ∷ first) later once =
    ap (λ (b : Bool). b || list_any shows_moves first) (only_begin_shows line (All-head (λ (x : Line). is_begin x ≡ false) line (first ++ later) once))
    ∙ no_more_shown first later (All-tail (λ (x : Line). is_begin x ≡ false) line (first ++ later) once)

none_shown : (config : Options) (rest before after : List Line) (line : Line) → All (λ (line : Line). is_begin line ≡ false) rest → lines.Begin config Lines ∷ rest ≡ before ++ line ∷ after → list_any shows_moves before ≡ false
none_shown config rest [] after line once is = refl
none_shown config rest (first ∷ before) after line once is =
    let head : first ≡ lines.Begin config Lines = cc in
    let tail : rest ≡ before ++ line ∷ after = cc in
    ap (λ (l : Line). shows_moves l || list_any shows_moves before) head
    ∙ no_more_shown before (line ∷ after) (subst (All (λ (x : Line). is_begin x ≡ false)) tail once)

-- a report whose first line says that moves aren't shown, and that begins once, keeps the rules on them
pub unshown_obeys : (config : Options) (rest : List Line) → All (λ (line : Line). is_begin line ≡ false) rest → ObeysEach move_rules (lines.Begin config Lines ∷ rest)
unshown_obeys config rest once k r within before after line is = all_unshown before line (none_shown config rest before after line once is) k r within
