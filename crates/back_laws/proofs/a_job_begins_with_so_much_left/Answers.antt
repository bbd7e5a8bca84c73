use Rattle.back_laws.proofs.JobLeft.{begun_moving, begun_paging}
use Rattle.back_laws.proofs.a_job_begins_with_so_much_left.Goals as goal

pub returns : goal.returns
returns c = record { moving = begun_moving; paging = begun_paging }
