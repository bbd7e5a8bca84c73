use Rattle.std.proofs.Common.{◌≡◌, Some, None, sym}
use Rattle.std.proofs.lemmas.Result.{err_from_is_err_and}
use Rattle.blk_back.specs.Step.{next_job_of}
use Rattle.vbd_model.proofs.Joining.{fewer_above}
use Rattle.schedule_run.proofs.Jobs.{jobs_none, jobs_ready, jobs_on, jobs_stop, jobs_done}
use Rattle.schedule_run.proofs.split.Split.each_job.Goals as goal

pub loop-number-init : goal.loop-number-init
loop-number-init g c = jobs_none _

pub job_move-requires : goal.job_move-requires
job_move-requires g c =
    jobs_ready _ _ _ c.requires c.loop-number.invariant

pub returns-in_err-job_move : goal.returns-in_err-job_move
returns-in_err-job_move g c =
    let next : next_job_of c.loop-number.self.rings.back c.loop-number.last ≡ Some c.in-Some.number = rw (← c.self.view_is) (sym c.in-Some.ensures.value) in
    let stopped = err_from_is_err_and c.from_residual.result c.from_residual.ensures.1 in
    rw (stopped.1, stopped.2) (jobs_stop _ _ _ _ _ _ next c.loop-number.invariant c.in_err-job_move.ensures)

pub loop-number-smaller : goal.loop-number-smaller
loop-number-smaller g c =
    let next : next_job_of c.loop-number.self.rings.back c.loop-number.last ≡ Some c.in-Some.number = rw (← c.self.view_is) (sym c.in-Some.ensures.value) in
    let went = c.in_ok-job_move.ensures in
    fewer_above _ _ _ _ next went.ends

pub loop-number-preserved : goal.loop-number-preserved
loop-number-preserved g c =
    let next : next_job_of c.loop-number.self.rings.back c.loop-number.last ≡ Some c.in-Some.number = rw (← c.self.view_is) (sym c.in-Some.ensures.value) in
    jobs_on _ _ _ _ _ next c.loop-number.invariant c.in_ok-job_move.ensures

pub returns : goal.returns
returns g c =
    let none : next_job_of c.loop-number.self.rings.back c.loop-number.last ≡ None = rw (← c.self.view_is) (sym c.in_default.ensures.value) in
    jobs_done _ _ _ none c.loop-number.invariant
