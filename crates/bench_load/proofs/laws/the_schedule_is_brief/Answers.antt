use Rattle.bench_load.proofs.Brief.{each_is_brief}
use Rattle.bench_load.proofs.laws.the_schedule_is_brief.Goals as goal

pub returns : goal.returns
returns c = each_is_brief
