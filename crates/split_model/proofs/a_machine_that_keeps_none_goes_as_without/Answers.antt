use Rattle.std.proofs.Common.{refl}
use Rattle.split_model.specs.World.{start_of}
use Rattle.split_model.proofs.Without.{goes_as_without, run_as}
use Rattle.split_model.proofs.a_machine_that_keeps_none_goes_as_without.Goals as goal

pub returns-clause-happening : goal.returns-clause-happening
returns-clause-happening c w h none silent = goes_as_without w h none silent

pub returns-clause-run : goal.returns-clause-run
returns-clause-run c o hs = run_as hs (start_of o) refl refl
