use Rattle.vbd_laws.proofs.Fit.{fit_start, fit_happens, fit_after}
use Rattle.vbd_laws.proofs.the_machine_stays_fit.Goals as goal

pub returns-clause-start : goal.returns-clause-start
returns-clause-start c config few = fit_start config few

pub returns-clause-kept : goal.returns-clause-kept
returns-clause-kept c w h fit = fit_happens w h fit

pub returns-clause-after : goal.returns-clause-after
returns-clause-after c hs w fit = fit_after hs w fit
