-- The word of each rule, by which the command `check` tells it.
use Rattle.std.specs.Prelude.{ℕ, List, codes}
use Rattle.checked_rules.specs.declared.rule.Rule.{Rule}
use Rattle.checked_rules.specs.declared.rule.Rule.TheVariants as rule

abbrev pub rule_word : Rule → List ℕ
rule_word rule.Order = codes "order"
rule_word rule.State = codes "state"
rule_word rule.Submit = codes "submit"
rule_word rule.Refuse = codes "refuse"
rule_word rule.Effect = codes "effect"
rule_word rule.Barrier = codes "barrier"
rule_word rule.Service = codes "service"
rule_word rule.Reply = codes "reply"
rule_word rule.Answer = codes "answer"
rule_word rule.Data = codes "data"
rule_word rule.Quiet = codes "quiet"
rule_word rule.Coherent = codes "coherent"
rule_word rule.Touch = codes "touch"
rule_word rule.Fetch = codes "fetch"
rule_word rule.Overrun = codes "overrun"
