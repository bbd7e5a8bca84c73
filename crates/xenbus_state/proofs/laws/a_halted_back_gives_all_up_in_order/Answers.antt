use Rattle.xenbus_state.proofs.Halting.{halts_in_order}
use Rattle.xenbus_state.proofs.laws.a_halted_back_gives_all_up_in_order.Goals as goal

pub returns : goal.returns
returns c = halts_in_order
