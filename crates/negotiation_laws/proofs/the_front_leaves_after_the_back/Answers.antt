use Rattle.negotiation_laws.proofs.Leaving.{leaves_after}
use Rattle.negotiation_laws.proofs.the_front_leaves_after_the_back.Goals as goal

pub returns : goal.returns
returns c = leaves_after
