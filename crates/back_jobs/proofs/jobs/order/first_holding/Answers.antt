use Rattle.std.proofs.Common.{length, ap, ◌∙◌}
use Rattle.std.specs.Prelude.{unwrap_or}
use Rattle.back_jobs.specs.Order.{holds}
use Rattle.back_jobs.proofs.First.{found_or_len}
use Rattle.back_jobs.proofs.jobs.order.first_holding.Goals as goal

pub returns : goal.returns
returns c = c.unwrap_or.ensures ∙ (ap (λ p. unwrap_or p (length c.args.held.now)) c.holding_in.ensures ∙ found_or_len (holds c.args.all) c.args.held.now)
