use Rattle.answer_laws.proofs.Asked.{quiet_agrees}
use Rattle.answer_laws.proofs.a_quiet_report_has_an_answer_for_each_submission.Goals as goal

pub returns : goal.returns
returns c before rest once quiet none = quiet_agrees before rest once quiet none
