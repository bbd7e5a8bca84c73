use Rattle.std.proofs.Common.{sym, ◌∙◌}
use Rattle.resume_shadow.proofs.Order.{placed}
use Rattle.resume_shadow.proofs.shadow.place_for.Goals as goal

pub returns-in-Some-clause-place : goal.returns-in-Some-clause-place
returns-in-Some-clause-place g c r same = placed g.T.Numbered.number_of r c.args.held.now _ (sym c.in-Some.is ∙ rw same c.first_above.ensures)

pub returns-in-None-clause-place : goal.returns-in-None-clause-place
returns-in-None-clause-place g c r same = placed g.T.Numbered.number_of r c.args.held.now _ (sym c.in-None.is ∙ rw same c.first_above.ensures)
