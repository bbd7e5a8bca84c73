-- where there was no back there is none, and the status says so
use Rattle.std.proofs.Common.{refl}
use Rattle.vbd_c.specs.declared.status.Status.TheVariants.{Empty}
use Rattle.vbd_c.proofs.exports.vbd_back_suspend.Goals as goal

pub returns-in_default : goal.returns-in_default
returns-in_default c = (Empty, c.code.ensures, rw c.in_default.ensures.taken (c.take.ensures.left, refl))
