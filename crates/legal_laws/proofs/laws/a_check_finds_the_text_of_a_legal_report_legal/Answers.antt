use Rattle.legal_laws.proofs.Found.{legal_found_legal}
use Rattle.legal_laws.proofs.laws.a_check_finds_the_text_of_a_legal_report_legal.Goals as goal

pub returns : goal.returns
returns c = legal_found_legal
