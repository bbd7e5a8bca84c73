use Rattle.std.proofs.Common.{true}
use Rattle.vbd_host.proofs.Steps.{job_moved}
use Rattle.vbd_host.proofs.Waits.{names_within}
use Rattle.vbd_host.proofs.Histories.{job_history, is_heard}
use Rattle.vbd_host.proofs.moves.move_job.Goals as goal

pub answer_job-requires : goal.answer_job-requires
answer_job-requires g c = names_within _ c.job_ask.result c.job_ask.ensures.names

pub returns-in_default-clause-history : goal.returns-in_default-clause-history
returns-in_default-clause-history g c = rw (c.hear.ensures.taken) (is_heard c.args.back.now)

pub returns-clause-moves : goal.returns-clause-moves
returns-clause-moves g c =
    job_moved g.H.BackHost.does g.H.BackHost.hears c.args.number c.args.back.now _ _ _ _ _ _ _ _ _ c.hear.ensures.taken c.hear.ensures.told c.job_ask.ensures.value
    c.in-Some.ensures.allowed c.in-Some.ensures.done c.job_tell.ensures.stepped c.hear-2.ensures.taken c.hear-2.ensures.told

pub returns-clause-history : goal.returns-clause-history
returns-clause-history g c =
    job_history g.H.BackHost.does g.H.BackHost.hears c.args.number true _ _ _ _
    (job_moved g.H.BackHost.does g.H.BackHost.hears c.args.number c.args.back.now _ _ _ _ _ _ _ _ _ c.hear.ensures.taken c.hear.ensures.told c.job_ask.ensures.value
    c.in-Some.ensures.allowed c.in-Some.ensures.done c.job_tell.ensures.stepped c.hear-2.ensures.taken c.hear-2.ensures.told)
