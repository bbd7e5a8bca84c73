use Rattle.answer_laws.proofs.Counted.{settled_counts}
use Rattle.answer_laws.proofs.a_settled_schedule_is_counted_as_answered.Goals as goal

pub returns : goal.returns
returns c options detail events report echo once quiet never = settled_counts options detail events report echo once quiet never
