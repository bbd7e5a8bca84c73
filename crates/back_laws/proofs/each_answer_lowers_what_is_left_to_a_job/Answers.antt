use Rattle.back_laws.proofs.JobLeft.{lowers, told_left}
use Rattle.back_laws.proofs.each_answer_lowers_what_is_left_to_a_job.Goals as goal

pub returns : goal.returns
returns c = record { lowers = λ t a placed ok. lowers t.stage t a placed ok; all = told_left }
