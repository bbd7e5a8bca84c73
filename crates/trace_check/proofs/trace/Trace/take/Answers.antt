use Rattle.std.proofs.Common.{◌∙◌}
use Rattle.trace_check.proofs.Steps.{seen_by_parts}
use Rattle.trace_check.proofs.trace.Trace.take.Goals as goal

pub returns-clause-taken : goal.returns-clause-taken
returns-clause-taken c = λ _. c.in_ok-see_rest.ensures ∙ seen_by_parts c.args.self.now c.take_shown.new.self c.args.line.now (c.in_ok-rule.ensures.taken c.in_default.is)
