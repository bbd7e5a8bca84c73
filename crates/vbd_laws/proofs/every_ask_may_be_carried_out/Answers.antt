use Rattle.vbd_laws.proofs.MovesMay.{front_asks_may, back_asks_may}
use Rattle.vbd_laws.proofs.every_ask_may_be_carried_out.Goals as goal

pub returns-clause-front : goal.returns-clause-front
returns-clause-front c w fit within = front_asks_may w fit within

pub returns-clause-back : goal.returns-clause-back
returns-clause-back c w fit names made few = back_asks_may w fit names made few
