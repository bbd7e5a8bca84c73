use Rattle.report_rules.proofs.Obeys.{obeys_before}
use Rattle.report_laws.specs.QuietRing.{IsQuietRingAt}
use Rattle.report_laws.proofs.QuietRing.{report_quiet, ended_quiet}
use Rattle.report_laws.proofs.a_quiet_ring_is_served_and_read.Goals as goal

pub returns-clause-report : goal.returns-clause-report
returns-clause-report c config detail history plain may same = report_quiet config detail history plain may same

pub returns-clause-ended : goal.returns-clause-ended
returns-clause-ended c config detail history plain may same = ended_quiet config detail history plain may same

pub returns-clause-before : goal.returns-clause-before
returns-clause-before c report more obeys = obeys_before IsQuietRingAt report more obeys
