use Rattle.vbd_laws.proofs.BreaksRefused.{otherwise, unread, further}
use Rattle.vbd_laws.proofs.wrong_answers_are_refused.Goals as goal

pub returns-clause-status : goal.returns-clause-status
returns-clause-status c config h = otherwise config h

pub returns-clause-unread : goal.returns-clause-unread
returns-clause-unread c config h = unread config h

pub returns-clause-further : goal.returns-clause-further
returns-clause-further c config h = further config h
