use Rattle.split_model.proofs.Running.{after-append, lines_of-append}
use Rattle.split_model.proofs.a_run_goes_on.Goals as goal

pub returns-clause-world : goal.returns-clause-world
returns-clause-world c first rest w = after-append first rest w

pub returns-clause-lines : goal.returns-clause-lines
returns-clause-lines c first rest w = lines_of-append first rest w
