use Rattle.checked_rules.proofs.Shown.{coherent, touches, answers, stretches, steps, effects, given, replies, overruns}
use Rattle.checked_rules.proofs.laws.a_report_that_shows_its_moves_obeys_the_rules_on_them.Goals as goal

pub returns : goal.returns
returns c = record {
  coherent = coherent;
  touches = touches;
  answers = answers;
  stretches = stretches;
  steps = steps;
  effects = effects;
  given = given;
  replies = replies;
  overruns = overruns;
}
