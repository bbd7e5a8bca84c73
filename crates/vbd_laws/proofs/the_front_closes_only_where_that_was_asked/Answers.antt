use Rattle.vbd_laws.proofs.StateLinesAsked.{closing_asked}
use Rattle.vbd_laws.proofs.the_front_closes_only_where_that_was_asked.Goals as goal

pub returns : goal.returns
returns c config history h carried options possible untouched shows = closing_asked config history h carried options possible untouched shows
