use Rattle.event_laws.proofs.Refused.{dumped, faultless, unplugged, gone, jobs, silent, unasked}
use Rattle.event_laws.proofs.wrong_reports_of_events_are_refused.Goals as goal

pub returns-clause-dumped : goal.returns-clause-dumped
returns-clause-dumped c config h = dumped config h

pub returns-clause-unplugged : goal.returns-clause-unplugged
returns-clause-unplugged c config detail h = unplugged config detail h

pub returns-clause-gone : goal.returns-clause-gone
returns-clause-gone c config detail h = gone config detail h

pub returns-clause-jobs : goal.returns-clause-jobs
returns-clause-jobs c config detail h = jobs config detail h

pub returns-clause-unasked : goal.returns-clause-unasked
returns-clause-unasked c config detail h = unasked config detail h

pub returns-clause-faultless : goal.returns-clause-faultless
returns-clause-faultless c count few h = faultless count few h

pub returns-clause-silent : goal.returns-clause-silent
returns-clause-silent c config detail h = silent config detail h
