use Rattle.vbd_laws.proofs.WaitsFrontAlone.{front_waits_alone}
use Rattle.vbd_laws.proofs.WaitsBackAlone.{back_waits_alone}
use Rattle.vbd_laws.proofs.WaitsJobsHeld.{job_waits_alone}
use Rattle.vbd_laws.proofs.each_end_waits_in_three_cases.Goals as goal

pub returns-clause-front : goal.returns-clause-front
returns-clause-front c = front_waits_alone

pub returns-clause-back : goal.returns-clause-back
returns-clause-back c = back_waits_alone

pub returns-clause-job : goal.returns-clause-job
returns-clause-job c = job_waits_alone
