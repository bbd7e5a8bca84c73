use Rattle.move_laws.proofs.ReadOnly.{content_kept}
use Rattle.move_laws.proofs.a_read_only_disk_keeps_its_content.Goals as goal

pub returns : goal.returns
returns c config history before now fixed runs = content_kept config history before now fixed runs
