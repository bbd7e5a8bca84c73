use Rattle.job_check.specs.Laws.{jobs_after}
use Rattle.job_check.proofs.Sees.{sees_all}
use Rattle.job_check.proofs.Decided.{effect_decided}
use Rattle.job_check.proofs.laws.effects_are_decided_line_by_line.Goals as goal

pub returns : goal.returns
returns c before line f = effect_decided before line (jobs_after before) (sees_all before f)
