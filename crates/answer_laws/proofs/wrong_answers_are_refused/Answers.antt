use Rattle.answer_laws.proofs.Refused.{failed_alone, failed_at_another, okay_after_fault, failed_before, unsupported}
use Rattle.answer_laws.proofs.wrong_answers_are_refused.Goals as goal

pub returns-clause-alone : goal.returns-clause-alone
returns-clause-alone c h = failed_alone h

pub returns-clause-another : goal.returns-clause-another
returns-clause-another c h = failed_at_another h

pub returns-clause-okay : goal.returns-clause-okay
returns-clause-okay c h = okay_after_fault h

pub returns-clause-earlier : goal.returns-clause-earlier
returns-clause-earlier c h = failed_before h

pub returns-clause-unsupported : goal.returns-clause-unsupported
returns-clause-unsupported c h = unsupported h
