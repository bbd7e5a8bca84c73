use Rattle.back_jobs.proofs.Done.{found_done, none_done}
use Rattle.back_jobs.proofs.jobs.finished.first_done.Goals as goal

pub returns-in-None : goal.returns-in-None
returns-in-None c = none_done c.args.held.now c.in-None.ensures

pub returns-in-Some : goal.returns-in-Some
returns-in-Some c = found_done c.args.held.now c.in-Some.place c.in-Some.ensures
