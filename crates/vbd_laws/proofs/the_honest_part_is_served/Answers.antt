use Rattle.vbd_laws.proofs.Served.{rings_served}
use Rattle.vbd_laws.proofs.the_honest_part_is_served.Goals as goal

pub returns : goal.returns
returns c = rings_served
