use Rattle.move_laws.proofs.Runs.{report_follows}
use Rattle.move_laws.proofs.the_report_tells_the_memory.Goals as goal

pub returns : goal.returns
returns c config detail history narrow = (report_follows config detail history narrow).tells
