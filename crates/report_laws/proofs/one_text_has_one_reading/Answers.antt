use Rattle.report_laws.proofs.Texts.{same_text}
use Rattle.report_laws.proofs.one_text_has_one_reading.Goals as goal

pub returns : goal.returns
returns c one other all others same = same_text other one others all same
