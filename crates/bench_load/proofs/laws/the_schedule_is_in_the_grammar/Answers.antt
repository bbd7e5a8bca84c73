use Rattle.bench_load.proofs.Spoken.{each_is_spoken}
use Rattle.bench_load.proofs.laws.the_schedule_is_in_the_grammar.Goals as goal

pub returns : goal.returns
returns c = each_is_spoken
