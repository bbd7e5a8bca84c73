use Rattle.answer_laws.proofs.Honest.{as_honest}
use Rattle.answer_laws.proofs.a_report_is_as_honest_as_its_schedule.Goals as goal

pub returns : goal.returns
returns c options detail schedule report echo = as_honest options detail schedule report echo
