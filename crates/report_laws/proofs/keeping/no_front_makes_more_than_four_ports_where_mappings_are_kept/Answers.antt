use Rattle.report_laws.proofs.FewPorts.{report_ports_keeping, ended_ports_keeping}
use Rattle.report_laws.proofs.keeping.no_front_makes_more_than_four_ports_where_mappings_are_kept.Goals as goal

pub returns-clause-report : goal.returns-clause-report
returns-clause-report c = report_ports_keeping

pub returns-clause-ended : goal.returns-clause-ended
returns-clause-ended c = ended_ports_keeping
