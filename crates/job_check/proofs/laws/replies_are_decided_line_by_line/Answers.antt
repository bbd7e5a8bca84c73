use Rattle.ring_check.specs.State.{state_of}
use Rattle.ring_check.proofs.Following.{kept_all}
use Rattle.job_check.specs.Laws.{jobs_after}
use Rattle.job_check.proofs.Sees.{sees_all}
use Rattle.job_check.proofs.ReplySees.{replying_all}
use Rattle.job_check.proofs.ReplyDecided.{reply_decided}
use Rattle.job_check.proofs.laws.replies_are_decided_line_by_line.Goals as goal

pub returns : goal.returns
returns c before line f = reply_decided before line (state_of before) (jobs_after before) (kept_all before f.touched) (sees_all before f) (replying_all before f)
