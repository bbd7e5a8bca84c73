use Rattle.back_laws.proofs.Halted.{stays_halted, no_job}
use Rattle.back_laws.proofs.a_halted_back_stays_halted.Goals as goal

pub returns : goal.returns
returns c = record { stays = stays_halted; jobs = no_job }
