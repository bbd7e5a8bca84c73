use Rattle.std.proofs.Common.{refl}
use Rattle.std.specs.Prelude.{Some}
use Rattle.blk_back.specs.Ask as back_ends
use Rattle.blk_back.specs.Hands.{all_hands_of}
use Rattle.blk_back.specs.Keeping.{job_ask_keeping}
use Rattle.split_model.proofs.Kept.{kept_start, kept_happens, kept_after}
use Rattle.split_model.proofs.KeptHands.{names_more}
use Rattle.split_model.proofs.Safe.{back_may_at, job_may_at}
use Rattle.split_model.proofs.SafeAnswers.{backs_of, jobs_keeping}
use Rattle.split_model.proofs.every_ask_may_be_carried_out_where_mappings_are_kept.Goals as goal

pub returns-clause-start : goal.returns-clause-start
returns-clause-start c o = kept_start o

pub returns-clause-kept : goal.returns-clause-kept
returns-clause-kept c w h safe = kept_happens w h safe

pub returns-clause-after : goal.returns-clause-after
returns-clause-after c hs w safe = kept_after hs w safe

pub returns-clause-back : goal.returns-clause-back
returns-clause-back c w safe names made few =
    let ask = back_ends.ask_of w.back in
    back_may_at w.under (Some w.back.jobs.info.sectors) (all_hands_of w.back) ask (backs_of w.back) safe.held (names_more w.back ask names) made few

pub returns-clause-job : goal.returns-clause-job
returns-clause-job c w number safe names within made few =
    let ask = job_ask_keeping w.back number in
    job_may_at w.under (Some w.back.jobs.info.sectors) w.back.jobs.info.sectors (all_hands_of w.back) ask (jobs_keeping w.back number) safe.held (names_more w.back ask names) within refl made few
