use Rattle.std.proofs.Common.{arith}
use Rattle.std.proofs.lemmas.Grind.{common_steps}
use Rattle.request_check.proofs.Undone.{on_either_both}
use Rattle.request_check.proofs.state.RequestCheck.fail.Goals as goal

pub returns-then-is_write : goal.returns-then-is_write
returns-then-is_write c = record { done = on_either_both c.set_sector.result (λ a b. grind (arith, common_steps)) (λ a b. grind (arith, common_steps)) c.set_sector.ensures.noted c.set_sector.ensures.set }
