-- A report that echoes its schedule is in order: `begin` opens it, `end` closes it, and both stand nowhere else.
use Rattle.std.specs.Prelude.{◌≡◌, false, List, ◌∷◌, filter, All}
use Rattle.blk_base.specs.Options.{Options}
use Rattle.schedule_text.specs.declared.event.Event.{Event}
use Rattle.schedule_text.specs.declared.line.Detail.{Detail}
use Rattle.schedule_text.specs.declared.line.Detail.TheVariants.{Lines}
use Rattle.schedule_text.specs.declared.line.Line.{Line}
use Rattle.schedule_text.specs.declared.line.Line.TheVariants as lines
use Rattle.plain_disk.specs.Echo.{is_echo, AnswersAll, Echoes}
use Rattle.report_rules.specs.Obeys.{Obeys}
use Rattle.checked_rules.specs.Lines.{is_begin, is_move}
use Rattle.checked_rules.specs.Rules.{IsOrderAt}

-- after `begin` no line begins anew, and none shows a move but where `begin` says so
pub record IsBody (detail : Detail) (rest : List Line) : Type 0 where
  pub once : All (λ (line : Line). is_begin line ≡ false) rest
  pub unmoved : detail ≡ Lines → All (λ (line : Line). is_move line ≡ false) rest

-- the lines so far answer these events
abbrev pub AnswersAreInOrder : Type 0
AnswersAreInOrder = (config : Options) (detail : Detail) (events : List Event) (rest : List Line)
    → IsBody detail rest → AnswersAll config.order events (filter is_echo (lines.Begin config detail ∷ rest))
    → Obeys IsOrderAt (lines.Begin config detail ∷ rest)

-- all lines echo the schedule
abbrev pub EchoIsInOrder : Type 0
EchoIsInOrder = (config : Options) (detail : Detail) (events : List Event) (rest : List Line)
    → IsBody detail rest → Echoes config detail events (lines.Begin config detail ∷ rest) → Obeys IsOrderAt (lines.Begin config detail ∷ rest)
