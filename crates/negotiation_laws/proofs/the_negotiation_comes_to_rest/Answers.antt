use Rattle.negotiation_laws.proofs.Settling.{moves_lower, settling_bounded, rests_where_nothing_goes}
use Rattle.negotiation_laws.proofs.the_negotiation_comes_to_rest.Goals as goal

pub returns : goal.returns
returns c = record { lower = moves_lower; bounded = settling_bounded; rest = rests_where_nothing_goes }
