use Rattle.vbd_laws.proofs.Served.{rings_possible}
use Rattle.vbd_laws.proofs.whatever_happens_is_possible.Goals as goal

pub returns : goal.returns
returns c = rings_possible
