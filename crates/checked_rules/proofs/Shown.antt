-- Where moves are shown, what the rules on them say one by one.
use Rattle.std.proofs.Common.{◌≡◌, ◌||◌, List, [], ◌∷◌, refl, sym, ap, subst, arith, true≢false}
use Rattle.std.specs.List.{list_any}
use Rattle.blk_base.specs.Options.{Options}
use Rattle.schedule_text.specs.declared.line.Detail.TheVariants.{Moves}
use Rattle.schedule_text.specs.declared.line.Line.{Line}
use Rattle.schedule_text.specs.declared.line.Line.TheVariants as lines
use Rattle.report_rules.specs.Obeys.{Obeys}
use Rattle.report_rules.specs.Coherent.{IsCoherentAt, IsCoherent}
use Rattle.report_rules.specs.Touch.{IsTouchAt, AreTouches}
use Rattle.report_rules.specs.Mapped.{IsMapAnswerAt, AreMapAnswers}
use Rattle.report_rules.specs.Stretch.{IsStretchAt, AreStretches}
use Rattle.report_rules.specs.Steps.{IsStepAt, AreSteps}
use Rattle.report_rules.specs.Effect.{IsEffectAt, AreEffects}
use Rattle.report_rules.specs.Data.{IsDataAt, AreData}
use Rattle.report_rules.specs.Reply.{IsReplyAt, AreReplies}
use Rattle.report_rules.specs.Overrun.{IsOverrunAt, IsOverrunRule}
use Rattle.checked_rules.specs.declared.rule.Rule.TheVariants as rule
use Rattle.checked_rules.specs.Lines.{shows_moves}
use Rattle.checked_rules.specs.Rules.{WhereShown, IsTouchRuleAt, IsFetchAt}
use Rattle.checked_rules.specs.Shown.{OfShown}

-- a rule that the first line keeps, and that is kept where moves are shown, is kept by all lines
obeys_shown : (IsAllowed : List Line → Line → Type 0) (config : Options) (rest : List Line) → IsAllowed [] (lines.Begin config Moves)
    → Obeys (WhereShown IsAllowed) (lines.Begin config Moves ∷ rest) → Obeys IsAllowed (lines.Begin config Moves ∷ rest)
obeys_shown IsAllowed config rest begins obeys [] after line is = let same : lines.Begin config Moves ≡ line = cc in subst (IsAllowed []) same begins
obeys_shown IsAllowed config rest begins obeys (first ∷ before) after line is =
    let same : first ≡ lines.Begin config Moves = cc in
    obeys (first ∷ before) after line is (ap (λ (l : Line). shows_moves l || list_any shows_moves before) same)

touch_rule : OfShown (Obeys (WhereShown IsTouchRuleAt))
touch_rule config rest h = h 1 rule.Order (omega arith)

fetch_rule : OfShown (Obeys (WhereShown IsFetchAt))
fetch_rule config rest h = h 2 rule.Order (omega arith)

pub coherent : OfShown IsCoherent
coherent config rest h = obeys_shown IsCoherentAt config rest tt (h 0 rule.Order (omega arith))

pub touches : OfShown AreTouches
touches config rest h = obeys_shown IsTouchAt config rest tt (λ before after line is shown. (touch_rule config rest h before after line is shown).touch)

pub answers : OfShown AreMapAnswers
answers config rest h = obeys_shown IsMapAnswerAt config rest tt (λ before after line is shown. (touch_rule config rest h before after line is shown).answer)

pub stretches : OfShown AreStretches
stretches config rest h =
    obeys_shown IsStretchAt config rest (record { next = tt; whole = λ moved none. refl; inside = tt })
    (λ before after line is shown. (fetch_rule config rest h before after line is shown).stretch)

pub steps : OfShown AreSteps
steps config rest h = obeys_shown IsStepAt config rest tt (λ before after line is shown. (fetch_rule config rest h before after line is shown).step)

pub effects : OfShown AreEffects
effects config rest h =
    obeys_shown IsEffectAt config rest (record { told = tt; only = λ some. absurd (some refl) })
    (λ before after line is shown. (fetch_rule config rest h before after line is shown).effect)

pub given : OfShown AreData
given config rest h = obeys_shown IsDataAt config rest tt (λ before after line is shown. (fetch_rule config rest h before after line is shown).given)

pub replies : OfShown AreReplies
replies config rest h =
    obeys_shown IsReplyAt config rest (record { next = tt; told = tt; only = λ reply. absurd (true≢false (sym reply)) })
    (λ before after line is shown. (fetch_rule config rest h before after line is shown).reply)

pub overruns : OfShown IsOverrunRule
overruns config rest h =
    obeys_shown IsOverrunAt config rest (record { halted = tt; only = λ produced replied halt. absurd (cc); serves_nothing = λ overran. refl })
    (h 3 rule.Order (omega arith))
