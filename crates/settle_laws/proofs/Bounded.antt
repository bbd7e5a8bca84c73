-- Each act leaves less to do, and there is less left than settling's bound of rounds.
use Rattle.std.proofs.Common.{ℕ, ◌+◌, ◌*◌, ◌≤◌, ◌<◌, arith}
use Rattle.blk_base.specs.Options.{Options}
use Rattle.blk_front.specs.Submit.{unfinished, sectors_owed}
use Rattle.negotiation_laws.specs.Left.{left}
use Rattle.ring_settle_laws.specs.Left.{ring_left}
use Rattle.ring_settle_laws.proofs.BoundRing.{late_left, ring_bounded}
use Rattle.settle_laws.specs.Total.{negotiation_of}
use Rattle.settle_laws.proofs.NegotiationBound.{honest_bounded}
use Rattle.settle_laws.proofs.FrontTurns.{front_turn_falls}
use Rattle.settle_laws.proofs.BackTurns.{back_turn_falls}
use Rattle.settle_laws.proofs.JobTurns.{job_turn_falls}
use Rattle.settle_laws.proofs.JobRounds.{EachFalls}
use Rattle.settle_laws.proofs.Schedules.{IsBounded}

pub each_falls : (config : Options) → EachFalls config
each_falls config = record { front = front_turn_falls config; back = back_turn_falls config; job = job_turn_falls config }

-- both negotiations have at most 483 steps, each worth 38 moves, which leaves 1446 of the 20000 rounds
within : (steps ring requests sectors late : ℕ) → steps ≤ 483 → ring ≤ 200 + 1300 * requests + 1600 * sectors + late → 38 * steps + ring < 20000 + 2000 * requests + 2000 * sectors + late
within steps ring requests sectors late few most = omega arith

pub is_bounded : (config : Options) → IsBounded config
is_bounded config w d s kept =
    let honest = s.honest in
    within (left (negotiation_of w)) (ring_left w.rings d) (unfinished w.rings.front) (sectors_owed w.rings.front) (late_left w.rings) (honest_bounded config w honest)
    (ring_bounded config w.rings d honest.plain honest.standing.safe kept s.calm)
