use Rattle.move_laws.proofs.Runs.{report_follows_keeping}
use Rattle.move_laws.proofs.keeping.the_report_tells_the_memory_where_mappings_are_kept.Goals as goal

pub returns : goal.returns
returns c config detail history narrow = (report_follows_keeping config detail history narrow).tells
