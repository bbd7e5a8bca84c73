use Rattle.ring_check.specs.State.{state_of}
use Rattle.ring_check.proofs.Following.{kept_all}
use Rattle.ring_check.proofs.Decided.{overrun_decides}
use Rattle.ring_check.proofs.laws.overruns_are_decided_line_by_line.Goals as goal

pub returns : goal.returns
returns c before line rule = overrun_decides before (state_of before) line (kept_all before rule)
