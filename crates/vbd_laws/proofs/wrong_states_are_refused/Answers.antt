use Rattle.vbd_laws.proofs.StateLinesRefused.{ready, closed, connected, silent, closes, leaves, again, broken, early}
use Rattle.vbd_laws.proofs.wrong_states_are_refused.Goals as goal

pub returns-clause-ready : goal.returns-clause-ready
returns-clause-ready c config h = ready config h

pub returns-clause-closed : goal.returns-clause-closed
returns-clause-closed c config h = closed config h

pub returns-clause-connected : goal.returns-clause-connected
returns-clause-connected c config h = connected config h

pub returns-clause-silent : goal.returns-clause-silent
returns-clause-silent c config h = silent config h

pub returns-clause-closes : goal.returns-clause-closes
returns-clause-closes c config h = closes config h

pub returns-clause-leaves : goal.returns-clause-leaves
returns-clause-leaves c config h = leaves config h

pub returns-clause-again : goal.returns-clause-again
returns-clause-again c config h = again config h

pub returns-clause-broken : goal.returns-clause-broken
returns-clause-broken c config h = broken config h

pub returns-clause-early : goal.returns-clause-early
returns-clause-early c config h = early config h
