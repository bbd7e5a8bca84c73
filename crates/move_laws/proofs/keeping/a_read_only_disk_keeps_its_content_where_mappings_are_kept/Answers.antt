use Rattle.move_laws.proofs.ReadOnly.{content_kept_keeping}
use Rattle.move_laws.proofs.keeping.a_read_only_disk_keeps_its_content_where_mappings_are_kept.Goals as goal

pub returns : goal.returns
returns c config history before now fixed runs = content_kept_keeping config history before now fixed runs
