use Rattle.round_laws.proofs.Unseen.{rounds_go_unseen}
use Rattle.round_laws.proofs.rounds_of_words_go_unseen_without_lines_of_moves.Goals as goal

pub returns : goal.returns
returns c = rounds_go_unseen
