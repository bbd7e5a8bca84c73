use Rattle.vbd_model.proofs.Possible.{events_possible, events_so_far_possible}
use Rattle.vbd_model.proofs.what_events_make_may_happen.Goals as goal

pub returns-clause-events : goal.returns-clause-events
returns-clause-events c events w history k = events_possible events w history k

pub returns-clause-so_far : goal.returns-clause-so_far
returns-clause-so_far c events event w history more k last = events_so_far_possible events event w history more k last
