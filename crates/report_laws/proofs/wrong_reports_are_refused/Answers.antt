use Rattle.report_laws.proofs.Refused.{begun_twice, moved, ready_late, unserved, unread, connected_alone, closed_unsaid, ready_before, answered_before, connected_before, five_ports, out_of_range}
use Rattle.report_laws.proofs.wrong_reports_are_refused.Goals as goal

pub returns-clause-begun_twice : goal.returns-clause-begun_twice
returns-clause-begun_twice c config detail h = begun_twice config detail h

pub returns-clause-moved : goal.returns-clause-moved
returns-clause-moved c config move h = moved config move h

pub returns-clause-ready_late : goal.returns-clause-ready_late
returns-clause-ready_late c config detail h = ready_late config detail h

pub returns-clause-unserved : goal.returns-clause-unserved
returns-clause-unserved c config h = unserved config h

pub returns-clause-unread : goal.returns-clause-unread
returns-clause-unread c config start h = unread config start h

pub returns-clause-connected_alone : goal.returns-clause-connected_alone
returns-clause-connected_alone c config h = connected_alone config h

pub returns-clause-closed_unsaid : goal.returns-clause-closed_unsaid
returns-clause-closed_unsaid c config h = closed_unsaid config h

pub returns-clause-ready_before : goal.returns-clause-ready_before
returns-clause-ready_before c config detail h = ready_before config detail h

pub returns-clause-answered_before : goal.returns-clause-answered_before
returns-clause-answered_before c config status start h = answered_before config status start h

pub returns-clause-connected_before : goal.returns-clause-connected_before
returns-clause-connected_before c config h = connected_before config h

pub returns-clause-five_ports : goal.returns-clause-five_ports
returns-clause-five_ports c config h = five_ports config h

pub returns-clause-out_of_range : goal.returns-clause-out_of_range
returns-clause-out_of_range c id status far h = out_of_range id status far h
