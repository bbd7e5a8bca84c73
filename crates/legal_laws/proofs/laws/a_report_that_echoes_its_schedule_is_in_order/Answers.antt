use Rattle.legal_laws.proofs.Order.{answers_in_order, echo_in_order}
use Rattle.legal_laws.proofs.laws.a_report_that_echoes_its_schedule_is_in_order.Goals as goal

pub returns : goal.returns
returns c = record { so_far = answers_in_order; whole = echo_in_order }
