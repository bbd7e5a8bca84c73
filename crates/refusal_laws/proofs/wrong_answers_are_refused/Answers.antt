use Rattle.refusal_laws.proofs.Refused.{empty, closing, read_only}
use Rattle.refusal_laws.proofs.wrong_answers_are_refused.Goals as goal

pub returns-clause-full : goal.returns-clause-full
returns-clause-full c config detail h = empty config detail h

pub returns-clause-closing : goal.returns-clause-closing
returns-clause-closing c config detail h = closing config detail h

pub returns-clause-read_only : goal.returns-clause-read_only
returns-clause-read_only c config detail tag fixed h = read_only config detail tag fixed h
