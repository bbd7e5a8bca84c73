use Rattle.std.proofs.Common.{sym, ◌∙◌}
use Rattle.line_text.proofs.Digits.{head_first}
use Rattle.line_text.proofs.strict.after.Goals as goal

pub returns : goal.returns
returns c = head_first _ _ (sym c.is.ensures ∙ c.if-not-is.false)
