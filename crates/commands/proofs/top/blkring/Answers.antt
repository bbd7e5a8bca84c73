use Rattle.std.proofs.Common.{Ok, Err, refl}
use Rattle.commands.proofs.Settling.{bad_words, refused}
use Rattle.commands.proofs.Promising.{promised}
use Rattle.commands.proofs.top.blkring.Goals as goal

pub returns-in-Ok-clause-promised : goal.returns-in-Ok-clause-promised
returns-in-Ok-clause-promised g c = promised _ (Ok tt) 0 _ _ _ _ refl c.in-Ok.ensures.carried_out c.in-Ok.ensures.reported refl

pub returns-in-Err-clause-promised : goal.returns-in-Err-clause-promised
returns-in-Err-clause-promised g c =
    promised _ (Err c.in-Err.stop) _ _ _ _ _ c.stop_with.ensures.status c.in-Err.ensures.carried_out c.in-Err.ensures.reported c.stop_with.ensures.said

pub returns-in-Err-clause-bad_words : goal.returns-in-Err-clause-bad_words
returns-in-Err-clause-bad_words g c two = bad_words _ (Err c.in-Err.stop) _ _ _ c.stop_with.ensures.status c.in-Err.ensures.carried_out two

pub returns-in-Err-clause-refused : goal.returns-in-Err-clause-refused
returns-in-Err-clause-refused g c none = refused _ (Err c.in-Err.stop) _ _ _ c.stop_with.ensures.status c.in-Err.ensures.carried_out none

pub returns-in-Ok-clause-refused : goal.returns-in-Ok-clause-refused
returns-in-Ok-clause-refused g c none = refused _ (Ok tt) 0 _ _ refl c.in-Ok.ensures.carried_out none
