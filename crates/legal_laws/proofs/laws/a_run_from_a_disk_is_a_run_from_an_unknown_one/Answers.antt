use Rattle.legal_laws.proofs.Unknown.{known_is_unknown, run_is_unknown}
use Rattle.legal_laws.proofs.laws.a_run_from_a_disk_is_a_run_from_an_unknown_one.Goals as goal

pub returns : goal.returns
returns c = record { disk = known_is_unknown; run = run_is_unknown }
