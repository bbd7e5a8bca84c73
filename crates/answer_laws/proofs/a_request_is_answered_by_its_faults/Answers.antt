use Rattle.report_rules.proofs.Obeys.{obeys_before}
use Rattle.answer_laws.specs.Okay.{IsByFaults}
use Rattle.answer_laws.proofs.Answering.{run_answers_by_faults}
use Rattle.answer_laws.proofs.a_request_is_answered_by_its_faults.Goals as goal

pub returns-clause-run : goal.returns-clause-run
returns-clause-run c report first disk run = run_answers_by_faults report first disk run

pub returns-clause-before : goal.returns-clause-before
returns-clause-before c first more h = obeys_before IsByFaults first more h
