use Rattle.front_laws.specs.History.{trace_of}
use Rattle.front_laws.specs.Sight.{nothing_seen}
use Rattle.front_laws.specs.Told.{IsToldWhereDue}
use Rattle.front_laws.specs.Honest.{IsBrought}
use Rattle.blk_front.specs.View.{start_of}
use Rattle.front_laws.proofs.Exactly.{due_brings, each_so}
use Rattle.front_laws.proofs.Runs.{each_obeys, tells_where_due}
use Rattle.front_laws.proofs.a_response_brings_its_answer.Goals as goal

pub returns : goal.returns
returns c = λ config history ring may.
    each_so IsToldWhereDue IsBrought due_brings (nothing_seen config) (trace_of history (start_of config)) (each_obeys IsToldWhereDue tells_where_due config history ring may)
