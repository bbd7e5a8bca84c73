use Rattle.back_jobs.proofs.Finding.{guessed}
use Rattle.back_jobs.proofs.jobs.finding.first_from.Goals as goal

pub returns-in-Some : goal.returns-in-Some
returns-in-Some c = guessed c.args.held.now c.args.number c.in-Some.place c.requires c.in-Some.ensures
