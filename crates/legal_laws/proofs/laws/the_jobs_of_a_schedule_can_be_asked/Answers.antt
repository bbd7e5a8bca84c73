use Rattle.legal_laws.proofs.Promised.{jobs_asked}
use Rattle.legal_laws.proofs.laws.the_jobs_of_a_schedule_can_be_asked.Goals as goal

pub returns : goal.returns
returns c = jobs_asked
