use Rattle.legal_laws.proofs.Legal.{honest_part_legal, kept_legal}
use Rattle.legal_laws.proofs.laws.a_report_that_keeps_the_rules_line_by_line_is_legal.Goals as goal

pub returns : goal.returns
returns c = record { honest = honest_part_legal; whole = kept_legal }
