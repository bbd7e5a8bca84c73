use Rattle.std.proofs.Common.{subst}
use Rattle.std.specs.Prelude.{IfSome}
use Rattle.back_jobs.specs.Part.{AsksEach}
use Rattle.blk_back.specs.Part.{job_values as ring_values}
use Rattle.blk_back.proofs.Parts.{plain_asks}
use Rattle.vbd_back.specs.Part.{job_values, job_asked}
use Rattle.vbd_back.specs.View.{View}
use Rattle.vbd_back.proofs.Parts.{asks_ring}
use Rattle.vbd_back.proofs.backend.Backend.sector_part.Goals as goal

pub returns-clause-each : goal.returns-clause-each
returns-clause-each c =
    let v : View = c.self.inside.back.ends in
    subst (λ (w : View). IfSome c.sector_part.result (λ part. AsksEach part (job_values w c.args.number) (job_asked w c.args.number))) c.self.view_is
    (asks_ring v c.args.number (job_values v c.args.number) c.sector_part.result
    (plain_asks v.ring c.args.number (ring_values v.ring c.args.number) c.sector_part.result c.self.invariant.ring c.sector_part.ensures.each))
