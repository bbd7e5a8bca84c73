use Rattle.round_laws.proofs.Visiting.{each_is_visited}
use Rattle.round_laws.proofs.jobs_that_all_come_stand_in_order.Goals as goal

pub returns : goal.returns
returns c = each_is_visited
