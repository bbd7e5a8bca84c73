use Rattle.negotiation_laws.proofs.Found.{states_said, terms_said, features_said, facts_said}
use Rattle.negotiation_laws.proofs.the_directory_says_the_states.Goals as goal

pub returns : goal.returns
returns c = record { states = states_said; terms = terms_said; features = features_said; facts = facts_said }
