use Rattle.std.proofs.Common.{arith}
use Rattle.std.proofs.lemmas.Grind.{common_steps}
use Rattle.std.proofs.lemmas.Map.Steps.{set_value_same}
use Rattle.request_check.proofs.Undone.{on_either_all}
use Rattle.request_check.proofs.state.RequestCheck.show.Goals as goal

pub returns : goal.returns
returns c = record { done = on_either_all c.show_sector.result (λ a b d. grind (arith, common_steps)) (λ a b d. grind (arith, common_steps, set_value_same)) c.show_sector.ensures.told c.show_sector.ensures.noted c.show_sector.ensures.set }
