use Rattle.schedule_run.proofs.LawfulEnds.{run_lawful}
use Rattle.schedule_run.proofs.schedule.run.Goals as goal

pub returns-clause-lawful : goal.returns-clause-lawful
returns-clause-lawful g c long = run_lawful _ _ _ _ _ _ _ long c.run_and_hand_on.ensures
