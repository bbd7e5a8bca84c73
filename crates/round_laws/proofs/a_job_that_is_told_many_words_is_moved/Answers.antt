use Rattle.round_laws.proofs.Telling.{tells_at_once}
use Rattle.round_laws.proofs.a_job_that_is_told_many_words_is_moved.Goals as goal

pub returns : goal.returns
returns c = tells_at_once
