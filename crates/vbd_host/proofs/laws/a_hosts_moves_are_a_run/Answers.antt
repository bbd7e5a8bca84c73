use Rattle.std.proofs.Common.{sym}
use Rattle.vbd_host.proofs.Histories.{goes_on}
use Rattle.vbd_host.proofs.laws.a_hosts_moves_are_a_run.Goals as goal

pub returns-clause-on : goal.returns-clause-on
returns-clause-on c = λ u v w h k. goes_on u.ring v.ring w.ring h k

pub returns-clause-run : goal.returns-clause-run
returns-clause-run c = λ start info r narrow h. (record { start = start; info = info; happenings = h.0; narrow = narrow; may = h.1 }, sym h.2)
