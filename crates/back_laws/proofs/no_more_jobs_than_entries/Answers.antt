use Rattle.back_laws.proofs.Found.{holds_few}
use Rattle.back_laws.proofs.no_more_jobs_than_entries.Goals as goal

pub returns : goal.returns
returns c = holds_few
