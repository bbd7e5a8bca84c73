-- Each move of a job lowers what is left to the whole machine.
use Rattle.std.proofs.Common.{◌≡◌, ap, ℕ, ◌+◌, ◌*◌, ◌≤◌, arith}
use Rattle.std.specs.Prelude.{Some}
use Rattle.blk_base.specs.Options.{Options}
use Rattle.hypervisor.specs.Act.{BackAct, Outcome, IsGiven}
use Rattle.pipeline_laws.specs.Pipeline.{Pipeline, after_steps}
use Rattle.split_model.specs.Happening as ring
use Rattle.machine_pipeline.proofs.Over.{IsKept}
use Rattle.negotiation_laws.specs.Left.{left}
use Rattle.vbd_model.specs.World.{World}
use Rattle.vbd_model.specs.Happening.{JobMoves, happens}
use Rattle.vbd_laws.proofs.NegotiatedRests.{apart_rests}
use Rattle.vbd_laws.proofs.ServedHonest.{Honest}
use Rattle.ring_settle_laws.specs.Left.{ring_left}
use Rattle.ring_settle_laws.proofs.Gone.{left_after}
use Rattle.ring_settle_laws.proofs.JobMoves.{job_falls}
use Rattle.settle_laws.specs.Total.{negotiation_of, total_left}
use Rattle.settle_laws.proofs.Falling.{Falls}
use Rattle.settle_laws.proofs.TurnsMade.{gone_at}

same_left : (now before left most : ℕ) → now ≡ before → left + 1 ≤ most → 38 * now + left + 1 ≤ 38 * before + most
same_left now before left most a b = omega arith

-- the negotiations stay
pub job_turn_falls : (config : Options) (w : World) (d : Pipeline) (number : ℕ) (outcome : Outcome) → Honest config w → IsKept config w.rings d → IsGiven outcome → (a : BackAct) → ring.job_turn w.rings number outcome ≡ Some a
    → Falls config (total_left w d) (happens w (JobMoves number outcome))
job_turn_falls config w d number outcome honest kept is a turn =
    let h : ring.Happening = ring.JobMoves number outcome in
    let gone = gone_at config w.rings d h honest.plain honest.standing.safe kept is in
    let rests = apart_rests w (JobMoves number outcome) tt in
    record {
      pipeline = after_steps gone.steps d;
      kept = gone.kept;
      less = same_left (left (negotiation_of (happens w (JobMoves number outcome)))) (left (negotiation_of w)) (left_after config w.rings d h gone) (ring_left w.rings d) (ap left rests.bus)
          (job_falls config w.rings d number outcome a honest.plain honest.standing.safe kept turn gone);
    }
