use Rattle.ring_settle_laws.proofs.Stations.{requests_never_rise}
use Rattle.ring_settle_laws.proofs.what_is_left_to_the_requests_never_rises.Goals as goal

pub returns : goal.returns
returns c steps d old allowed = requests_never_rise steps d old allowed
