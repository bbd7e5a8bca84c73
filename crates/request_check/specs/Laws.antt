-- What the ten rules on requests are together (`io/blkif.h`): the runs of the plain disk whose submissions and refusals are by the limits and whose states come in order.
use Rattle.std.specs.Prelude.{◌≡◌, ◌↔◌, true, List, [], Some}
use Rattle.std.specs.Bool.{Decides}
use Rattle.schedule_text.specs.declared.line.Line.{Line}
use Rattle.schedule_text.specs.declared.line.Line.TheVariants as lines
use Rattle.report_rules.specs.Obeys.{Obeys}
use Rattle.plain_disk.specs.Disk.{Disk, disk_of}
use Rattle.plain_disk.specs.Step.{after}
use Rattle.request_check.specs.Rules.{IsStateAt, IsSubmitAt, IsRefuseAt, IsEffectRuleAt, IsBarrierAt, IsServiceAt, IsReplyRuleAt, IsAnswerAt, IsDataRuleAt, IsQuietAt, KeepsRequests}
use Rattle.request_check.specs.State.{state_after}
use Rattle.request_check.specs.Verdicts.{allows_state, allows_submit, allows_refuse, allows_effect, allows_barrier, allows_service, allows_reply, allows_answer, allows_data, allows_quiet}

-- the lines are a run of the plain disk
abbrev pub IsRunFromUnknown : List Line → Type 0
IsRunFromUnknown report = (d : Disk) × (after report (disk_of []) ≡ Some d)

abbrev pub KeptIsRun : Type 0
KeptIsRun = (report : List Line) → Obeys KeepsRequests report → IsRunFromUnknown report

abbrev pub RunIsKept : Type 0
RunIsKept = (report : List Line) → IsRunFromUnknown report → Obeys IsStateAt report → Obeys IsSubmitAt report → Obeys IsRefuseAt report → Obeys KeepsRequests report

-- the verdict on the front's states, but for `closed`
abbrev pub StatesAreDecided : Type 0
StatesAreDecided = (before : List Line) (line : Line) → (line ≡ lines.Closed → ⊥) → Decides (allows_state (state_after before) line) (IsStateAt before line)

-- what the state after some lines says of the next is what the rules say of it, each verdict of its rule
pub record VerdictsAreRules (before : List Line) (line : Line) : Type 0 where
  pub state : Decides (allows_state (state_after before) line) (IsStateAt before line)
  pub submit : Decides (allows_submit (state_after before) line) (IsSubmitAt before line)
  pub refuse : Decides (allows_refuse (state_after before) line) (IsRefuseAt before line)
  pub effect : Decides (allows_effect (state_after before) line) (IsEffectRuleAt before line)
  pub barrier : Decides (allows_barrier (state_after before) line) (IsBarrierAt before line)
  pub service : Decides (allows_service (state_after before) line) (IsServiceAt before line)
  pub reply : Decides (allows_reply (state_after before) line) (IsReplyRuleAt before line)
  pub answer : Decides (allows_answer (state_after before) line) (IsAnswerAt before line)
  pub told : Decides (allows_data (state_after before) line) (IsDataRuleAt before line)
  pub quiet : Decides (allows_quiet (state_after before) line) (IsQuietAt before line)

-- after lines that keep the rules
abbrev pub TheVerdictsAreTheRules : Type 0
TheVerdictsAreTheRules = (before : List Line) (line : Line) → Obeys KeepsRequests before → VerdictsAreRules before line

-- each verdict of the state after some lines allows the next
pub record AllowsRequests (before : List Line) (line : Line) : Type 0 where
  pub state : allows_state (state_after before) line ≡ true
  pub submit : allows_submit (state_after before) line ≡ true
  pub refuse : allows_refuse (state_after before) line ≡ true
  pub effect : allows_effect (state_after before) line ≡ true
  pub barrier : allows_barrier (state_after before) line ≡ true
  pub service : allows_service (state_after before) line ≡ true
  pub reply : allows_reply (state_after before) line ≡ true
  pub answer : allows_answer (state_after before) line ≡ true
  pub told : allows_data (state_after before) line ≡ true
  pub quiet : allows_quiet (state_after before) line ≡ true

-- a report keeps the rules where the verdicts allow each of its lines, and nowhere else
abbrev pub KeptWhereAllowed : Type 0
KeptWhereAllowed = (report : List Line) → Obeys AllowsRequests report ↔ Obeys KeepsRequests report
