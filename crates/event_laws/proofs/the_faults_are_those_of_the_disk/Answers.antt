use Rattle.event_laws.proofs.Faults.{report_raised, ended_raised}
use Rattle.event_laws.proofs.the_faults_are_those_of_the_disk.Goals as goal

pub returns : goal.returns
returns c = record { report = report_raised; ended = ended_raised }
