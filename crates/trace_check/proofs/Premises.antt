-- What lines that keep all rules keep: the order, the rules on requests up to the first hostile line, and the rules on moves where these are shown.
use Rattle.std.proofs.Common.{◌≡◌, ◌&&◌, Bool, true, false, List, ◌∷◌, refl, sym, ap, subst, ◌∙◌, arith, true≢false}
use Rattle.std.specs.Prelude.{IsTrue}
use Rattle.std.specs.List.{list_all, list_any}
use Rattle.std.proofs.lemmas.List.Folds.{list_all-append}
use Rattle.std.proofs.lemmas.List.Elements.{All-drop}
use Rattle.schedule_text.specs.declared.line.Line.{Line}
use Rattle.plain_disk.specs.Honest.{is_honest}
use Rattle.report_rules.specs.Obeys.{Obeys}
use Rattle.report_rules.specs.Touch.{AreTouches}
use Rattle.report_rules.specs.Mapped.{AreMapAnswers}
use Rattle.report_rules.specs.Steps.{AreSteps}
use Rattle.request_check.specs.Rules.{KeepsRequests}
use Rattle.checked_rules.specs.declared.rule.Rule.{Rule}
use Rattle.checked_rules.specs.declared.rule.Rule.TheVariants as rule
use Rattle.checked_rules.specs.Lines.{shows_moves}
use Rattle.checked_rules.specs.Rules.{IsOrderAt, Keeps, KeepsEach, KeepsAll, ObeysEach, move_rules, all_rules}
use Rattle.checked_rules.specs.Shown.{OfShown}
use Rattle.checked_rules.proofs.Shown.{touches, answers, steps}
use Rattle.trace_check.proofs.Outlines.{begins_shown}

pub in_order : (report : List Line) → Obeys KeepsAll report → Obeys IsOrderAt report
in_order report keeps before after line is = keeps before after line is 0 rule.Order (omega arith)

both_of : (a b c : Bool) → (a && (b && c)) ≡ true → (a && b) ≡ true
both_of true true c e = refl
both_of true false c e = absurd (true≢false (sym e))
both_of false b c e = absurd (true≢false (sym e))

-- up to the first hostile line the rules on requests are kept
pub keeps_requests : (report : List Line) → list_all is_honest report ≡ true → Obeys KeepsAll report → Obeys KeepsRequests report
keeps_requests report honest keeps before after line is =
    let h : KeepsEach all_rules before line = keeps before after line is in
    let all = sym (list_all-append is_honest before (line ∷ after)) ∙ (ap (list_all is_honest) (sym is) ∙ honest) in
    let yes : IsTrue (list_all is_honest before && is_honest line) = both_of (list_all is_honest before) (is_honest line) (list_all is_honest after) all in
    record {
      state = h 1 rule.Order (omega arith) yes;
      submit = h 2 rule.Order (omega arith) yes;
      refuse = h 3 rule.Order (omega arith) yes;
      effect = h 4 rule.Order (omega arith) yes;
      barrier = h 5 rule.Order (omega arith) yes;
      service = h 6 rule.Order (omega arith) yes;
      reply = h 7 rule.Order (omega arith) yes;
      answer = h 8 rule.Order (omega arith) yes;
      told = h 9 rule.Order (omega arith) yes;
      quiet = h 10 rule.Order (omega arith) yes;
    }

-- the rules on moves are the last ones
keeps_moves : (report : List Line) → Obeys KeepsAll report → ObeysEach move_rules report
keeps_moves report keeps k r within before after line is = All-drop (λ (rule : Rule). Keeps rule before line) 11 all_rules (keeps before after line is) k r within

-- where moves are shown they say what they say from the first line on
of_shown : (Claim : List Line → Type 0) → OfShown Claim → (report : List Line) → list_any shows_moves report ≡ true → Obeys KeepsAll report → Claim report
of_shown Claim says report shown keeps =
    let b = begins_shown report (in_order report keeps) shown in
    subst Claim (sym b.2) (says b.0 b.1 (subst (ObeysEach move_rules) b.2 (keeps_moves report keeps)))

pub keeps_touches : (report : List Line) → list_any shows_moves report ≡ true → Obeys KeepsAll report → AreTouches report
keeps_touches report shown keeps = of_shown AreTouches touches report shown keeps

pub keeps_answers : (report : List Line) → list_any shows_moves report ≡ true → Obeys KeepsAll report → AreMapAnswers report
keeps_answers report shown keeps = of_shown AreMapAnswers answers report shown keeps

pub keeps_steps : (report : List Line) → list_any shows_moves report ≡ true → Obeys KeepsAll report → AreSteps report
keeps_steps report shown keeps = of_shown AreSteps steps report shown keeps
