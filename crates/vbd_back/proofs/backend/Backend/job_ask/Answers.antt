use Rattle.std.proofs.Common.{◌∙◌, ap}
use Rattle.blk_back.proofs.Plain.{plain_job_ask}
use Rattle.vbd_back.specs.View.{View}
use Rattle.vbd_back.specs.Step.{job_ask_of}
use Rattle.vbd_back.proofs.backend.Backend.job_ask.Goals as goal

pub returns-clause-value : goal.returns-clause-value
returns-clause-value c =
    c.job_ask.ensures.value ∙ (plain_job_ask c.self.inside.back.ends.ring c.args.number c.self.invariant.ring ∙ ap (λ (v : View). job_ask_of v c.args.number) c.self.view_is)
