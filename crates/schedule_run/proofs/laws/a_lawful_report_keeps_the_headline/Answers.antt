use Rattle.schedule_run.proofs.Headline.{lawful_keeps}
use Rattle.schedule_run.proofs.laws.a_lawful_report_keeps_the_headline.Goals as goal

pub returns : goal.returns
returns c = lawful_keeps
