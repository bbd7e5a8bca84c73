use Rattle.back_laws.proofs.Tidy.{keeps_few, loses_none, leaves_none}
use Rattle.back_laws.proofs.KeptHalted.{stays_halted, no_job}
use Rattle.back_laws.proofs.a_back_that_keeps_mappings_loses_none.Goals as goal

pub returns : goal.returns
returns c = record { few = keeps_few; loses_none = loses_none; stays = stays_halted; jobs = no_job; leaves_none = leaves_none }
