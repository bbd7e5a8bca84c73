use Rattle.round_laws.proofs.Rounds.{rounds_lead_there}
use Rattle.round_laws.proofs.rounds_of_words_lead_where_all_words_at_once_lead.Goals as goal

pub returns : goal.returns
returns c = rounds_lead_there
