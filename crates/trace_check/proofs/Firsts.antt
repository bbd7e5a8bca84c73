-- The first of some rules that a line breaks, by what decides each.
use Rattle.std.proofs.Common.{not, Bool, true, false, if◌then◌else◌, List, [], ◌∷◌, ◌++◌, refl, sym, ap, ◌∙◌, append_assoc}
use Rattle.std.specs.Prelude.{Option, Some, None}
use Rattle.std.specs.Bool.{Decides}
use Rattle.std.proofs.lemmas.Bool.Decides.{not_from_Decides}
use Rattle.std.proofs.lemmas.List.Elements.{All-nil, All-cons, All-append}
use Rattle.schedule_text.specs.declared.line.Line.{Line}
use Rattle.checked_rules.specs.declared.rule.Rule.{Rule}
use Rattle.checked_rules.specs.Rules.{Keeps, IsFirstBroken}
use Rattle.trace_check.specs.Trace.{first_of}

-- of no rules none is broken
pub none_first : (before : List Line) (line : Line) → IsFirstBroken [] before line None
none_first before line = All-nil (λ (rule : Rule). Keeps rule before line)

-- a rule before them, that is kept
put_first : (rule : Rule) (rules : List Rule) (before : List Line) (line : Line) (found : Option Rule) → Keeps rule before line → IsFirstBroken rules before line found → IsFirstBroken (rule ∷ rules) before line found
put_first rule rules before line None kept first = All-cons (λ (rule : Rule). Keeps rule before line) rule rules kept first
put_first rule rules before line (Some broken) kept first = record {
  earlier = rule ∷ first.earlier;
  later = first.later;
  order = ap (λ l. rule ∷ l) first.order;
  kept = All-cons (λ (rule : Rule). Keeps rule before line) rule first.earlier kept first.kept;
  breaks = first.breaks;
}

-- a rule before them, which is decided
pub decided_first : (rule : Rule) (rules : List Rule) (before : List Line) (line : Line) (allowed : Bool) (found : Option Rule) → Decides allowed (Keeps rule before line) → IsFirstBroken rules before line found
    → IsFirstBroken (rule ∷ rules) before line (if not allowed then Some rule else found)
decided_first rule rules before line true found d first = put_first rule rules before line found (d.0 refl) first
decided_first rule rules before line false found d first = record {
  earlier = [];
  later = rules;
  order = refl;
  kept = All-nil (λ (rule : Rule). Keeps rule before line);
  breaks = not_from_Decides false d refl;
}

-- some rules, and others after them
pub both_first : (rules others : List Rule) (before : List Line) (line : Line) (found told : Option Rule) → IsFirstBroken rules before line found → IsFirstBroken others before line told
    → IsFirstBroken (rules ++ others) before line (first_of found told)
both_first rules others before line None None first next = All-append (λ (rule : Rule). Keeps rule before line) rules others first next
both_first rules others before line None (Some broken) first next = record {
  earlier = rules ++ next.earlier;
  later = next.later;
  order = ap (λ l. rules ++ l) next.order ∙ sym (append_assoc rules next.earlier (broken ∷ next.later));
  kept = All-append (λ (rule : Rule). Keeps rule before line) rules next.earlier first next.kept;
  breaks = next.breaks;
}
both_first rules others before line (Some broken) told first next = record {
  earlier = first.earlier;
  later = first.later ++ others;
  order = ap (λ l. l ++ others) first.order ∙ append_assoc first.earlier (broken ∷ first.later) others;
  kept = first.kept;
  breaks = first.breaks;
}
