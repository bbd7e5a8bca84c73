use Rattle.ring_check.proofs.Following.{kept_all}
use Rattle.ring_check.proofs.laws.what_is_kept_is_what_the_lines_say.Goals as goal

pub returns : goal.returns
returns c before rule = kept_all before rule
