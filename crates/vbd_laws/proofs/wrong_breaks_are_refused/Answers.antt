use Rattle.vbd_laws.proofs.BreaksRefused.{over, unshown, late, no_response, its_own, through, too_far, mapped}
use Rattle.vbd_laws.proofs.wrong_breaks_are_refused.Goals as goal

pub returns-clause-near : goal.returns-clause-near
returns-clause-near c config h = no_response config h

pub returns-clause-own : goal.returns-clause-own
returns-clause-own c config h = its_own config h

pub returns-clause-through : goal.returns-clause-through
returns-clause-through c config h = through config h

pub returns-clause-far : goal.returns-clause-far
returns-clause-far c config small h = too_far config small h

pub returns-clause-mapped : goal.returns-clause-mapped
returns-clause-mapped c config h = mapped config h

pub returns-clause-unshown : goal.returns-clause-unshown
returns-clause-unshown c config h = unshown config h

pub returns-clause-late : goal.returns-clause-late
returns-clause-late c config h = late config h

pub returns-clause-over : goal.returns-clause-over
returns-clause-over c config h = over config h
