use Rattle.negotiation_laws.proofs.Listening.{no_front_watch_lost, no_back_watch_lost}
use Rattle.negotiation_laws.proofs.no_watch_is_lost.Goals as goal

pub returns : goal.returns
returns c = record { front = no_front_watch_lost; back = no_back_watch_lost }
