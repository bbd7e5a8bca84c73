use Rattle.vbd_laws.proofs.Served.{ring_goes_by_terms, ring_is_made_first}
use Rattle.vbd_laws.proofs.the_back_maps_what_the_front_granted.Goals as goal

pub returns-clause-terms : goal.returns-clause-terms
returns-clause-terms c = ring_goes_by_terms

pub returns-clause-made : goal.returns-clause-made
returns-clause-made c = ring_is_made_first
