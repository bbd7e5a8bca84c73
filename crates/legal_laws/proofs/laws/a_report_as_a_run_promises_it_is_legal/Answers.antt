use Rattle.legal_laws.proofs.Promised.{promised_so_far_legal, promised_legal, promised_found_legal}
use Rattle.legal_laws.proofs.laws.a_report_as_a_run_promises_it_is_legal.Goals as goal

pub returns : goal.returns
returns c = record { so_far = promised_so_far_legal; whole = promised_legal; found = promised_found_legal }
