use Rattle.std.proofs.Common.{refl}
use Rattle.std.specs.Prelude.{Some}
use Rattle.blk_back.specs.Hands.{hands_of}
use Rattle.split_model.proofs.Safe.{safe_start, safe_happens, safe_after, front_may, back_may, job_may}
use Rattle.split_model.proofs.every_ask_may_be_carried_out.Goals as goal

pub returns-clause-start : goal.returns-clause-start
returns-clause-start c o = safe_start o

pub returns-clause-kept : goal.returns-clause-kept
returns-clause-kept c w h safe = safe_happens w h safe

pub returns-clause-after : goal.returns-clause-after
returns-clause-after c hs w safe = safe_after hs w safe

pub returns-clause-front : goal.returns-clause-front
returns-clause-front c w safe within = front_may w safe within

pub returns-clause-back : goal.returns-clause-back
returns-clause-back c w safe names made few = back_may w.under (Some w.back.jobs.info.sectors) (hands_of w.back) w.back safe.held names made few

pub returns-clause-job : goal.returns-clause-job
returns-clause-job c w number safe names within made few =
    job_may w.under (Some w.back.jobs.info.sectors) w.back.jobs.info.sectors (hands_of w.back) w.back number safe.held names within refl made few
