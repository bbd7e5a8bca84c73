use Rattle.std.proofs.Common.{◌<◌, sym, arith}
use Rattle.schedule_run.proofs.Looking.{looked_on}
use Rattle.schedule_run.proofs.split.looking.words_of_jobs.Goals as goal

pub loop-number-preserved : goal.loop-number-preserved
loop-number-preserved c =
    let fewer = c.words_of_job-least.ensures.few in
    let few = c.loop-number.invariant.few in
    let some : 0 < c.loop-number.left = grind arith in
    record {
      few = omega arith;
      looked = looked_on _ _ _ _ _ _ _ _ _ _ (sym c.in-Some.ensures.value) fewer some c.words_of_job-least.ensures.job c.loop-number.invariant.looked;
    }
