use Rattle.vbd_laws.proofs.MovesFront.{front_move_is, front_move_none, close_is}
use Rattle.vbd_laws.proofs.MovesBack.{back_move_is, back_move_none}
use Rattle.vbd_laws.proofs.a_move_is_what_its_end_asks.Goals as goal

pub returns-clause-front : goal.returns-clause-front
returns-clause-front c w a fit turn = front_move_is w a fit turn

pub returns-clause-front_none : goal.returns-clause-front_none
returns-clause-front_none c w fit turn = front_move_none w fit turn

pub returns-clause-back : goal.returns-clause-back
returns-clause-back c w a fit turn = back_move_is w a fit turn

pub returns-clause-back_none : goal.returns-clause-back_none
returns-clause-back_none c w fit turn = back_move_none w fit turn

pub returns-clause-closes : goal.returns-clause-closes
returns-clause-closes c w at fit = close_is w at fit
