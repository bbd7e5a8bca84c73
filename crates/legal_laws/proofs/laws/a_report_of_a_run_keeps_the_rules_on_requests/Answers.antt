use Rattle.legal_laws.proofs.Kept.{so_far_kept, run_kept}
use Rattle.legal_laws.proofs.laws.a_report_of_a_run_keeps_the_rules_on_requests.Goals as goal

pub returns : goal.returns
returns c = record { so_far = so_far_kept; run = run_kept }
