use Rattle.front_laws.proofs.Once.{answers_once}
use Rattle.front_laws.proofs.no_number_is_answered_twice.Goals as goal

pub returns : goal.returns
returns c = answers_once
