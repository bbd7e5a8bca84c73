use Rattle.front_laws.specs.Told.{IsToldWhereDue}
use Rattle.front_laws.proofs.Runs.{each_obeys, tells_where_due}
use Rattle.front_laws.proofs.each_move_tells_what_is_due.Goals as goal

pub returns : goal.returns
returns c = each_obeys IsToldWhereDue tells_where_due
