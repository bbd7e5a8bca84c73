use Rattle.front_laws.proofs.Falls.{each_lowers}
use Rattle.front_laws.proofs.each_answer_lowers_what_is_left.Goals as goal

pub returns : goal.returns
returns c = each_lowers
