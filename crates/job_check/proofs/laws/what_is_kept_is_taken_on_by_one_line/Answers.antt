use Rattle.job_check.proofs.Sees.{jobs_more}
use Rattle.job_check.proofs.laws.what_is_kept_is_taken_on_by_one_line.Goals as goal

pub returns : goal.returns
returns c before line = jobs_more before line
