use Rattle.back_laws.proofs.Found.{lives_so}
use Rattle.back_laws.proofs.a_back_lives_so.Goals as goal

pub returns : goal.returns
returns c = lives_so
