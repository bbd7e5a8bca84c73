use Rattle.vbd_model.proofs.Submitting.{events_submit, events_so_far_submit}
use Rattle.vbd_model.proofs.events_submit_what_they_say.Goals as goal

pub returns-clause-events : goal.returns-clause-events
returns-clause-events c events w history k = events_submit events w history k

pub returns-clause-so_far : goal.returns-clause-so_far
returns-clause-so_far c events event w history more k last = events_so_far_submit events event w history more k last
