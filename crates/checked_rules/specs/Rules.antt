-- The fifteen rules of a report, each over all lines before a line (`io/ring.h`, `io/blkif.h`, `io/xenbus.h`, `grant_table.h`).
use Rattle.std.specs.Prelude.{All, ◌∷◌, ◌++◌, Option, Some, None, ◌≡◌, ◌≢◌, true, false, ◌&&◌, List, [], IsTrue}
use Rattle.std.specs.List.{list_all, list_any}
use Rattle.schedule_text.specs.declared.line.Line.{Line}
use Rattle.plain_disk.specs.Honest.{is_honest}
use Rattle.report_rules.specs.Obeys.{Obeys}
use Rattle.report_rules.specs.Coherent.{IsCoherentAt}
use Rattle.report_rules.specs.Touch.{IsTouchAt}
use Rattle.report_rules.specs.Mapped.{IsMapAnswerAt}
use Rattle.report_rules.specs.Stretch.{IsStretchAt}
use Rattle.report_rules.specs.Steps.{IsStepAt}
use Rattle.report_rules.specs.Effect.{IsEffectAt}
use Rattle.report_rules.specs.Data.{IsDataAt}
use Rattle.report_rules.specs.Reply.{IsReplyAt}
use Rattle.report_rules.specs.Overrun.{IsOverrunAt}
use Rattle.request_check.specs.Rules.{IsStateAt, IsSubmitAt, IsRefuseAt, IsEffectRuleAt, IsBarrierAt, IsServiceAt, IsReplyRuleAt, IsAnswerAt, IsDataRuleAt, IsQuietAt}
use Rattle.checked_rules.specs.declared.rule.Rule.{Rule}
use Rattle.checked_rules.specs.declared.rule.Rule.TheVariants as rule
use Rattle.checked_rules.specs.Lines.{is_begin, shows_moves, is_end, is_move}

-- the first line is `begin`, and no other is; nothing comes after `end`; moves come only where `begin` says so
pub record IsOrderAt (before : List Line) (line : Line) : Type 0 where
  pub first : before ≡ [] → is_begin line ≡ true
  pub later : before ≢ [] → is_begin line ≡ false
  pub ended : list_any is_end before ≡ false
  pub shown : IsTrue (is_move line) → list_any shows_moves before ≡ true

-- a rule on what an honest guest does holds up to the first hostile line
abbrev pub InHonestPart : (List Line → Line → Type 0) → List Line → Line → Type 0
InHonestPart IsAllowed before line = IsTrue (list_all is_honest before && is_honest line) → IsAllowed before line

-- a rule on moves holds where moves are shown
abbrev pub WhereShown : (List Line → Line → Type 0) → List Line → Line → Type 0
WhereShown IsAllowed before line = IsTrue (list_any shows_moves before) → IsAllowed before line

-- a read or write goes through a mapping that stands, and a map is answered as its entry stands
pub record IsTouchRuleAt (before : List Line) (line : Line) : Type 0 where
  pub touch : IsTouchAt before line
  pub answer : IsMapAnswerAt before line

-- an entry is read once, in one stretch, after its producer was seen; all that a job does, and its reply, follow from the words that were read
pub record IsFetchAt (before : List Line) (line : Line) : Type 0 where
  pub stretch : IsStretchAt before line
  pub step : IsStepAt before line
  pub effect : IsEffectAt before line
  pub given : IsDataAt before line
  pub reply : IsReplyAt before line

-- a line keeps a rule
abbrev pub Keeps : Rule → List Line → Line → Type 0
Keeps rule.Order = IsOrderAt
Keeps rule.State = InHonestPart IsStateAt
Keeps rule.Submit = InHonestPart IsSubmitAt
Keeps rule.Refuse = InHonestPart IsRefuseAt
Keeps rule.Effect = InHonestPart IsEffectRuleAt
Keeps rule.Barrier = InHonestPart IsBarrierAt
Keeps rule.Service = InHonestPart IsServiceAt
Keeps rule.Reply = InHonestPart IsReplyRuleAt
Keeps rule.Answer = InHonestPart IsAnswerAt
Keeps rule.Data = InHonestPart IsDataRuleAt
Keeps rule.Quiet = InHonestPart IsQuietAt
Keeps rule.Coherent = WhereShown IsCoherentAt
Keeps rule.Touch = WhereShown IsTouchRuleAt
Keeps rule.Fetch = WhereShown IsFetchAt
Keeps rule.Overrun = WhereShown IsOverrunAt

-- the rules in their order
abbrev pub request_rules : List Rule
request_rules = rule.State ∷ rule.Submit ∷ rule.Refuse ∷ rule.Effect ∷ rule.Barrier ∷ rule.Service ∷ rule.Reply ∷ rule.Answer ∷ rule.Data ∷ rule.Quiet ∷ []

abbrev pub move_rules : List Rule
move_rules = rule.Coherent ∷ rule.Touch ∷ rule.Fetch ∷ rule.Overrun ∷ []

abbrev pub all_rules : List Rule
all_rules = rule.Order ∷ request_rules ++ move_rules

-- a line keeps these rules
abbrev pub KeepsEach : List Rule → List Line → Line → Type 0
KeepsEach rules before line = All (λ (rule : Rule). Keeps rule before line) rules

abbrev pub KeepsAll : List Line → Line → Type 0
KeepsAll = KeepsEach all_rules

-- a report obeys these rules
abbrev pub ObeysEach : List Rule → List Line → Type 0
ObeysEach rules report = All (λ (rule : Rule). Obeys (Keeps rule) report) rules

-- a line breaks one of these rules, and keeps those that come before it
pub record Breaks (rules : List Rule) (before : List Line) (line : Line) (broken : Rule) : Type 0 where
  pub earlier : List Rule
  pub later : List Rule
  pub order : rules ≡ earlier ++ broken ∷ later
  pub kept : KeepsEach earlier before line
  pub breaks : Keeps broken before line → ⊥

-- the first of these rules that a line breaks
abbrev pub IsFirstBroken : List Rule → List Line → Line → Option Rule → Type 0
IsFirstBroken rules before line None = KeepsEach rules before line
IsFirstBroken rules before line (Some broken) = Breaks rules before line broken
