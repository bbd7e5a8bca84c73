use Rattle.std.proofs.Common.{sym, ap, ◌∙◌}
use Rattle.std.specs.Option.{option_to_list}
use Rattle.schedule_text.proofs.Adding.{listed}
use Rattle.schedule_text.proofs.recorders.LineListRecorder.add.Goals as goal

pub returns-in-Some : goal.returns-in-Some
returns-in-Some c = listed _ _ _ _ _ _ (sym c.kept.ensures ∙ ap option_to_list c.in-Some.is) c.push.ensures
