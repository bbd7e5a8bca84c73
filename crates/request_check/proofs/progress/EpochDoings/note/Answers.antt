use Rattle.std.proofs.Common.{arith}
use Rattle.std.proofs.lemmas.Grind.{common_steps}
use Rattle.std.proofs.lemmas.Map.Steps.{set_value_same}
use Rattle.request_check.proofs.Undone.{on_either}
use Rattle.request_check.proofs.progress.EpochDoings.note.Goals as goal

pub returns-in-Some : goal.returns-in-Some
returns-in-Some c = record { done = on_either c.note.result (λ e. grind (arith, common_steps)) (λ e. grind (arith, common_steps, set_value_same)) c.note.ensures.done }
