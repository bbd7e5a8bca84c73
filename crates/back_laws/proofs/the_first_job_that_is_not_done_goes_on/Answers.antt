use Rattle.back_laws.proofs.JobLeft.{first_moves}
use Rattle.back_laws.proofs.the_first_job_that_is_not_done_goes_on.Goals as goal

pub returns : goal.returns
returns c = first_moves
