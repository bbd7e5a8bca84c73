-- The rule that a check tells of a line is the first that it breaks.
use Rattle.std.proofs.Common.{◌≡◌, not, ◌&&◌, ◌||◌, Bool, true, false, if◌then◌else◌, List, [], ◌∷◌, ◌++◌, refl, sym, ap, subst, ◌∙◌, true≢false}
use Rattle.std.specs.Prelude.{Option, Some, None, IsTrue}
use Rattle.std.specs.List.{list_all, list_any}
use Rattle.std.specs.Bool.{Decides}
use Rattle.std.proofs.lemmas.Bool.Decides.{Decides-and}
use Rattle.std.proofs.lemmas.List.Elements.{All-from_recursion}
use Rattle.schedule_text.specs.declared.line.Line.{Line}
use Rattle.plain_disk.specs.Honest.{is_honest}
use Rattle.report_rules.specs.Obeys.{Obeys}
use Rattle.report_rules.specs.Coherent.{IsCoherentAt}
use Rattle.report_rules.specs.Touch.{IsTouchAt}
use Rattle.report_rules.specs.Mapped.{IsMapAnswerAt}
use Rattle.report_rules.specs.Stretch.{IsStretchAt}
use Rattle.report_rules.specs.Steps.{IsStepAt}
use Rattle.report_rules.specs.Effect.{IsEffectAt}
use Rattle.report_rules.specs.Data.{IsDataAt}
use Rattle.report_rules.specs.Reply.{IsReplyAt}
use Rattle.report_rules.specs.Overrun.{IsOverrunAt}
use Rattle.request_check.specs.State as requests
use Rattle.request_check.specs.Laws.{VerdictsAreRules}
use Rattle.request_check.proofs.EachRule.{verdicts}
use Rattle.memory_check.specs.State as memory
use Rattle.memory_check.specs.Verdicts.{shows_what_is_there}
use Rattle.memory_check.proofs.Told as remembered
use Rattle.memory_check.proofs.Decided.{coherence_decided, map_answers_decided, touches_decided}
use Rattle.ring_check.specs.State as ring
use Rattle.ring_check.specs.Verdict.{allows_overrun}
use Rattle.ring_check.proofs.Following.{kept_all}
use Rattle.ring_check.proofs.Decided.{stretch_decides, overrun_decides}
use Rattle.job_check.specs.Laws.{jobs_after, AreFollowed}
use Rattle.job_check.proofs.Sees as followed
use Rattle.job_check.proofs.Decided.{step_decided, effect_decided, data_decided}
use Rattle.job_check.proofs.ReplySees.{replying_all}
use Rattle.job_check.proofs.ReplyDecided.{reply_decided}
use Rattle.checked_rules.specs.declared.rule.Rule.{Rule}
use Rattle.checked_rules.specs.declared.rule.Rule.TheVariants as rule
use Rattle.checked_rules.specs.Lines.{shows_moves}
use Rattle.trace_check.specs.Outline.{outlined}
use Rattle.checked_rules.proofs.Listed.{all_unshown}
use Rattle.checked_rules.specs.Rules.{IsTouchRuleAt, IsFetchAt, Keeps, KeepsEach, KeepsAll, request_rules, move_rules, all_rules, Breaks, IsFirstBroken}
use Rattle.trace_check.specs.Trace.{Trace, trace_after, allows_touch, allows_fetch, broken_request, broken_move, broken_by}
use Rattle.trace_check.proofs.Outlines.{order_decided}
use Rattle.trace_check.proofs.Follows.{Follows, Moves, follows_all}
use Rattle.trace_check.proofs.Firsts.{none_first, decided_first, both_first}
use Rattle.trace_check.proofs.Premises.{in_order, keeps_requests, keeps_touches, keeps_answers, keeps_steps}

-- the rules on requests from one of them on
abbrev from_quiet : List Rule
from_quiet = rule.Quiet ∷ []

abbrev from_data : List Rule
from_data = rule.Data ∷ from_quiet

abbrev from_answer : List Rule
from_answer = rule.Answer ∷ from_data

abbrev from_reply : List Rule
from_reply = rule.Reply ∷ from_answer

abbrev from_service : List Rule
from_service = rule.Service ∷ from_reply

abbrev from_barrier : List Rule
from_barrier = rule.Barrier ∷ from_service

abbrev from_effect : List Rule
from_effect = rule.Effect ∷ from_barrier

abbrev from_refuse : List Rule
from_refuse = rule.Refuse ∷ from_effect

abbrev from_submit : List Rule
from_submit = rule.Submit ∷ from_refuse

-- those on moves from one of them on
abbrev from_overrun : List Rule
from_overrun = rule.Overrun ∷ []

abbrev from_fetch : List Rule
from_fetch = rule.Fetch ∷ from_overrun

abbrev from_touch : List Rule
from_touch = rule.Touch ∷ from_fetch

-- ---- requests

-- a rule that holds in the honest part is decided there by what decides it
while_honest : (P : Type 0) (allowed honest : Bool) → honest ≡ true → Decides allowed P → Decides allowed (IsTrue honest → P)
while_honest P allowed honest is d = (λ e h. d.0 e, λ f. d.1 (f is))

requests_told : (before : List Line) (line : Line) (s : requests.State) → VerdictsAreRules before line → s ≡ requests.state_after before → (list_all is_honest before && is_honest line) ≡ true
    → IsFirstBroken request_rules before line (broken_request s line)
requests_told before line s v same honest =
    let h = λ (P : Type 0) (allowed : Bool) (d : Decides allowed P). while_honest P allowed (list_all is_honest before && is_honest line) honest d in
    rw same (
    decided_first rule.State from_submit before line _ _ (h _ _ v.state)
    (decided_first rule.Submit from_refuse before line _ _ (h _ _ v.submit)
    (decided_first rule.Refuse from_effect before line _ _ (h _ _ v.refuse)
    (decided_first rule.Effect from_barrier before line _ _ (h _ _ v.effect)
    (decided_first rule.Barrier from_service before line _ _ (h _ _ v.barrier)
    (decided_first rule.Service from_reply before line _ _ (h _ _ v.service)
    (decided_first rule.Reply from_answer before line _ _ (h _ _ v.reply)
    (decided_first rule.Answer from_data before line _ _ (h _ _ v.answer)
    (decided_first rule.Data from_quiet before line _ _ (h _ _ v.told)
    (decided_first rule.Quiet [] before line _ _ (h _ _ v.quiet)
    (none_first before line))))))))))
    )

-- in the hostile part each rule on requests is kept
all_hostile : (before : List Line) (line : Line) → (list_all is_honest before && is_honest line) ≡ false → KeepsEach request_rules before line
all_hostile before line hostile =
    let none = λ (yes : IsTrue (list_all is_honest before && is_honest line)). true≢false (sym yes ∙ hostile) in
    All-from_recursion (λ (rule : Rule). Keeps rule before line) request_rules
    (λ yes. absurd (none yes), (λ yes. absurd (none yes), (λ yes. absurd (none yes), (λ yes. absurd (none yes), (λ yes. absurd (none yes), (λ yes. absurd (none yes), (λ yes. absurd (none yes), (λ yes. absurd (none yes), (λ yes. absurd (none yes), (λ yes. absurd (none yes), tt))))))))))

hostile_is : (all one : Bool) → (not all || not one) ≡ not (all && one)
hostile_is true one = refl
hostile_is false one = refl

not_true : (b : Bool) → not b ≡ true → b ≡ false
not_true true e = absurd (true≢false (sym e))
not_true false e = refl

not_false : (b : Bool) → not b ≡ false → b ≡ true
not_false true e = refl
not_false false e = absurd (true≢false e)

both_true : (a b : Bool) → (a && b) ≡ true → a ≡ true
both_true true b e = refl
both_true false b e = absurd (true≢false (sym e))

honest_told : (before : List Line) (line : Line) (t : Trace) (hostile : Bool) → (outlined t.outline line).hostile ≡ hostile → hostile ≡ not (list_all is_honest before && is_honest line)
    → Follows before t → Obeys KeepsAll before → IsFirstBroken request_rules before line (if hostile then None else broken_request t.requests line)
honest_told before line t true is not_honest f keeps = all_hostile before line (not_true (list_all is_honest before && is_honest line) (sym not_honest))
honest_told before line t false is not_honest f keeps =
    let honest = not_false (list_all is_honest before && is_honest line) (sym not_honest) in
    let all = both_true (list_all is_honest before) (is_honest line) honest in
    requests_told before line t.requests (verdicts before line (keeps_requests before all keeps)) (f.requests (f.outline.hostile ∙ ap not all)) honest

-- ---- moves

-- what the rules of lines with moves say of those before
pub record AreShown (before : List Line) : Type 0 where
  pub shown : list_any shows_moves before ≡ true
  pub followed : AreFollowed before

shown_of : (before : List Line) → list_any shows_moves before ≡ true → Obeys KeepsAll before → AreShown before
shown_of before shown keeps = record {
  shown = shown;
  followed = record {
    touched = record { touches = keeps_touches before shown keeps; answers = keeps_answers before shown keeps };
    steps = keeps_steps before shown keeps;
  };
}

touch_told : (before : List Line) (line : Line) (t : Trace) → Moves before t → AreShown before → Decides (allows_touch t line) (IsTouchRuleAt before line)
touch_told before line t m s =
    let sees = remembered.sees_all before s.followed.touched.answers in
    let d : Decides (allows_touch t line) (IsTouchAt before line × IsMapAnswerAt before line) = rw m.memory (Decides-and _ _ (touches_decided before line (memory.state_after before) sees) (map_answers_decided before line (memory.state_after before) sees)) in
    (λ e. let k = d.0 e in record { touch = k.0; answer = k.1 }, λ k. d.1 (k.touch, k.answer))

-- the rule on data is decided where the one on steps is kept
fetch_by : (before : List Line) (line : Line) (stretch step effect given reply : Bool) → (P : Type 0) → (S E R : Type 0) → Decides stretch P → Decides step S → Decides effect E → Decides reply R
    → (D : Type 0) → (S → Decides given D) → Decides (stretch && step && effect && given && reply) (P × S × E × D × R)
fetch_by before line true true true true true P S E R p s e r D d = (λ yes. (p.0 refl, s.0 refl, e.0 refl, (d (s.0 refl)).0 refl, r.0 refl), λ h. refl)
fetch_by before line false step effect given reply P S E R p s e r D d = (λ no. absurd (true≢false (sym no)), λ h. p.1 h.0)
fetch_by before line true false effect given reply P S E R p s e r D d = (λ no. absurd (true≢false (sym no)), λ h. s.1 h.1)
fetch_by before line true true false given reply P S E R p s e r D d = (λ no. absurd (true≢false (sym no)), λ h. e.1 h.2)
fetch_by before line true true true false reply P S E R p s e r D d = (λ no. absurd (true≢false (sym no)), λ h. (d h.1).1 h.3)
fetch_by before line true true true true false P S E R p s e r D d = (λ no. absurd (true≢false (sym no)), λ h. r.1 h.4)

fetch_told : (before : List Line) (line : Line) (t : Trace) → Moves before t → AreShown before → Decides (allows_fetch t line) (IsFetchAt before line)
fetch_told before line t m s =
    let kept = kept_all before s.followed.touched in
    let sees = followed.sees_all before s.followed in
    let d : Decides (allows_fetch t line) (IsStretchAt before line × IsStepAt before line × IsEffectAt before line × IsDataAt before line × IsReplyAt before line) = rw (m.ring, m.jobs) (fetch_by before line _ _ _ _ _ _ _ _ _
    (stretch_decides before (ring.state_of before) line kept)
    (step_decided before line (jobs_after before) sees)
    (effect_decided before line (jobs_after before) sees)
    (reply_decided before line (ring.state_of before) (jobs_after before) kept sees (replying_all before s.followed))
    _
    (data_decided before line (jobs_after before) sees)) in (
      λ e. let k = d.0 e in record { stretch = k.0; step = k.1; effect = k.2; given = k.3; reply = k.4 },
      λ k. d.1 (k.stretch, k.step, k.effect, k.given, k.reply),
    )

moves_told : (before : List Line) (line : Line) (t : Trace) → Moves before t → AreShown before → IsFirstBroken move_rules before line (broken_move t line)
moves_told before line t m s =
    let sees = remembered.sees_all before s.followed.touched.answers in
    let h = λ (P : Type 0) (allowed : Bool) (d : Decides allowed P). while_honest P allowed (list_any shows_moves before) s.shown d in
    let coherent : Decides (shows_what_is_there t.memory line) (IsCoherentAt before line) = rw m.memory (coherence_decided before line (memory.state_after before) sees) in
    let overrun : Decides (allows_overrun t.ring line) (IsOverrunAt before line) = rw m.ring (overrun_decides before (ring.state_of before) line (kept_all before s.followed.touched)) in
    decided_first rule.Coherent from_touch before line _ _ (h _ _ coherent)
    (decided_first rule.Touch from_fetch before line _ _ (h _ _ (touch_told before line t m s))
    (decided_first rule.Fetch from_overrun before line _ _ (h _ _ (fetch_told before line t m s))
    (decided_first rule.Overrun [] before line _ _ (h _ _ overrun)
    (none_first before line))))

shown_told : (before : List Line) (line : Line) (t : Trace) (shown : Bool) → t.outline.shown ≡ shown → Follows before t → Obeys KeepsAll before
    → IsFirstBroken move_rules before line (if shown then broken_move t line else None)
shown_told before line t false is f keeps = all_unshown before line (sym f.outline.shown ∙ is)
shown_told before line t true is f keeps = moves_told before line t (f.moves is) (shown_of before (sym f.outline.shown ∙ is) keeps)

-- ---- all

order_first : (before : List Line) (line : Line) (allowed : Bool) (found : Option Rule) → Decides allowed (Keeps rule.Order before line) → IsFirstBroken (request_rules ++ move_rules) before line found
    → IsFirstBroken all_rules before line (if allowed then found else Some rule.Order)
order_first before line true found d first = decided_first rule.Order (request_rules ++ move_rules) before line true found d first
order_first before line false found d first = decided_first rule.Order (request_rules ++ move_rules) before line false found d first

first_told : (before : List Line) (line : Line) (t : Trace) → Follows before t → Obeys KeepsAll before → IsFirstBroken all_rules before line (broken_by t line)
first_told before line t f keeps =
    let hostile = ap (λ b. b || not (is_honest line)) f.outline.hostile ∙ hostile_is (list_all is_honest before) (is_honest line) in
    order_first before line _ _ (order_decided before line t.outline f.outline)
    (both_first request_rules move_rules before line _ _
    (honest_told before line t (outlined t.outline line).hostile refl hostile f keeps)
    (shown_told before line t t.outline.shown refl f keeps))

-- the rule that a check tells of a line after these
abbrev pub rule_broken : List Line → Line → Option Rule
rule_broken before line = broken_by (trace_after before) line

-- after lines that keep all rules it is the first that the line breaks, and there is none exactly where the line keeps all
told_first : (before : List Line) (line : Line) → Obeys KeepsAll before → IsFirstBroken all_rules before line (rule_broken before line)
told_first before line keeps = first_told before line (trace_after before) (follows_all before (in_order before keeps)) keeps

first_is : (before : List Line) (line : Line) (found : Option Rule) → Obeys KeepsAll before → rule_broken before line ≡ found → IsFirstBroken all_rules before line found
first_is before line found keeps is = subst (λ (f : Option Rule). IsFirstBroken all_rules before line f) is (told_first before line keeps)

pub told_none : (before : List Line) (line : Line) → Obeys KeepsAll before → rule_broken before line ≡ None → KeepsAll before line
told_none before line keeps none = first_is before line None keeps none

pub told_broken : (before : List Line) (line : Line) (broken : Rule) → Obeys KeepsAll before → rule_broken before line ≡ Some broken → Breaks all_rules before line broken
told_broken before line broken keeps some = first_is before line (Some broken) keeps some
