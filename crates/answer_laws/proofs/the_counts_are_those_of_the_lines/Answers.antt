use Rattle.answer_laws.proofs.Counted.{counts_them_all}
use Rattle.answer_laws.proofs.the_counts_are_those_of_the_lines.Goals as goal

pub returns : goal.returns
returns c = counts_them_all
