use Rattle.memory_check.proofs.EachNumber.{numbers_all}
use Rattle.memory_check.proofs.laws.the_numbers_are_told.Goals as goal

pub returns : goal.returns
returns c before number = numbers_all before number
