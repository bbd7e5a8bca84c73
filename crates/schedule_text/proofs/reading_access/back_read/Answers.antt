use Rattle.std.proofs.Common.{rules}
use Rattle.schedule_text.proofs.AccessText.{back_read_text}
use Rattle.schedule_text.proofs.reading_access.back_read.Goals as goal

pub returns : goal.returns
returns c = λ _. record {
  in_range = search rules;
  text = search (rules, back_read_text);
}
