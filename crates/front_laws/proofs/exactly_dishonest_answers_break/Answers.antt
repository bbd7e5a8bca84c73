use Rattle.front_laws.specs.History.{trace_of}
use Rattle.front_laws.specs.Sight.{nothing_seen}
use Rattle.front_laws.specs.Told.{IsToldWhereDue}
use Rattle.front_laws.specs.Honest.{IsHonest, IsUnbroken, IsHonestUnbroken}
use Rattle.front_laws.specs.Laws.{HonestBreaksNothing, UnbrokenIsHonest}
use Rattle.blk_front.specs.View.{start_of}
use Rattle.front_laws.proofs.Reading.{each_both, honest_unbroken}
use Rattle.front_laws.proofs.Exactly.{unbroken_honest, each_so}
use Rattle.front_laws.proofs.Runs.{each_obeys, tells_where_due}
use Rattle.front_laws.proofs.exactly_dishonest_answers_break.Goals as goal

honest : HonestBreaksNothing
honest config history ring may each =
    each_both IsToldWhereDue IsHonest IsUnbroken honest_unbroken (nothing_seen config) (trace_of history (start_of config))
    (each_obeys IsToldWhereDue tells_where_due config history ring may) each

unbroken : UnbrokenIsHonest
unbroken config history ring may =
    each_so IsToldWhereDue IsHonestUnbroken unbroken_honest (nothing_seen config) (trace_of history (start_of config))
    (each_obeys IsToldWhereDue tells_where_due config history ring may)

pub returns : goal.returns
returns c = record { honest = honest; unbroken = unbroken }
