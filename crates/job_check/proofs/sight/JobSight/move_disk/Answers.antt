use Rattle.std.proofs.Common.{rules}
use Rattle.std.proofs.lemmas.Map.Steps.{set_value_same}
use Rattle.job_check.proofs.sight.JobSight.move_disk.Goals as goal

pub returns-clause-kept : goal.returns-clause-kept
returns-clause-kept c = grind (rules, set_value_same)
