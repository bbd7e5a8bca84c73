use Rattle.machine_pipeline.proofs.Together.{always_steps}
use Rattle.machine_pipeline.proofs.each_happening_is_steps_of_the_pipeline.Goals as goal

pub returns : goal.returns
returns c config history plain may = always_steps config history plain may
