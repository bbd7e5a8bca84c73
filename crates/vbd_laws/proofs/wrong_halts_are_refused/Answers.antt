use Rattle.vbd_laws.proofs.HaltsRefused.{gone, early, beginning, no_state, good_port, no_port, mapped, bound, refused, uncaused, works, anew}
use Rattle.vbd_laws.proofs.wrong_halts_are_refused.Goals as goal

pub returns-clause-gone : goal.returns-clause-gone
returns-clause-gone c config h = gone config h

pub returns-clause-early : goal.returns-clause-early
returns-clause-early c config h = early config h

pub returns-clause-beginning : goal.returns-clause-beginning
returns-clause-beginning c config h = beginning config h

pub returns-clause-no_state : goal.returns-clause-no_state
returns-clause-no_state c config h = no_state config h

pub returns-clause-good_port : goal.returns-clause-good_port
returns-clause-good_port c config h = good_port config h

pub returns-clause-no_port : goal.returns-clause-no_port
returns-clause-no_port c config h = no_port config h

pub returns-clause-uncaused : goal.returns-clause-uncaused
returns-clause-uncaused c config h = uncaused config h

pub returns-clause-mapped : goal.returns-clause-mapped
returns-clause-mapped c config gref status h = mapped config gref status h

pub returns-clause-refused : goal.returns-clause-refused
returns-clause-refused c config gref status h = refused config gref status h

pub returns-clause-works : goal.returns-clause-works
returns-clause-works c config gref status h = works config gref status h

pub returns-clause-bound : goal.returns-clause-bound
returns-clause-bound c config number h = bound config number h

pub returns-clause-anew : goal.returns-clause-anew
returns-clause-anew c config h = anew config h
