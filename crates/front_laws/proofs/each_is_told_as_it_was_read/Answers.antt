use Rattle.front_laws.specs.History.{trace_of}
use Rattle.front_laws.specs.Sight.{Sight, nothing_seen}
use Rattle.front_laws.specs.Told.{IsToldWhereDue}
use Rattle.front_laws.specs.Answers.{IsToldAsRead}
use Rattle.blk_front.specs.View.{start_of}
use Rattle.front_laws.proofs.Reading.{TakenIs, each_kept}
use Rattle.front_laws.proofs.AsRead.{taken_kept, told_as_read}
use Rattle.front_laws.proofs.Runs.{each_obeys, tells_where_due}
use Rattle.front_laws.proofs.each_is_told_as_it_was_read.Goals as goal

pub returns : goal.returns
returns c = λ config history ring may.
    each_kept (λ (s : Sight). TakenIs s.taken) IsToldWhereDue IsToldAsRead taken_kept told_as_read (nothing_seen config) (trace_of history (start_of config)) tt
    (each_obeys IsToldWhereDue tells_where_due config history ring may)
