use Rattle.vbd_model.proofs.Running.{after-append, lines_of-append, after_rings, lines_lift, disk_lift}
use Rattle.vbd_model.proofs.a_run_goes_on.Goals as goal

pub returns-clause-world : goal.returns-clause-world
returns-clause-world c first rest w = after-append first rest w

pub returns-clause-lines : goal.returns-clause-lines
returns-clause-lines c first rest w = lines_of-append first rest w

pub returns-clause-rings : goal.returns-clause-rings
returns-clause-rings c history w = after_rings history w

pub returns-clause-shown : goal.returns-clause-shown
returns-clause-shown c history w = lines_lift history w

pub returns-clause-disk : goal.returns-clause-disk
returns-clause-disk c history w a b runs = disk_lift history w a b runs
