use Rattle.legal_laws.proofs.Runs.{lawful_kept, lawful_found}
use Rattle.legal_laws.proofs.laws.the_report_of_a_run_is_legal.Goals as goal

pub returns : goal.returns
returns c = record { kept = lawful_kept; found = lawful_found }
