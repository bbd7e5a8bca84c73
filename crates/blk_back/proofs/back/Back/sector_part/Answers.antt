use Rattle.std.proofs.Common.{ap, subst}
use Rattle.std.specs.Prelude.{IfSome, is_some}
use Rattle.back_jobs.specs.Part.{AsksEach, NamesPart}
use Rattle.blk_back.specs.Hands.{hands_of}
use Rattle.blk_back.specs.Inside.{view_of}
use Rattle.blk_back.specs.Part.{job_values, job_asked_keeping}
use Rattle.blk_back.specs.View.{View}
use Rattle.blk_back.proofs.Parts.{part_asks, part_names}
use Rattle.blk_back.proofs.back.Back.sector_part.Goals as goal

pub returns-in-None-clause-each : goal.returns-in-None-clause-each
returns-in-None-clause-each c =
    subst (λ (w : View). IfSome c.sector_part.result (λ part. AsksEach part (job_values w c.args.number) (job_asked_keeping w c.args.number))) c.self.view_is
    (part_asks (view_of c.self.inside) c.args.number c.sector_part.result (ap is_some c.in-None.is) c.sector_part.ensures.each)

pub returns-in-None-clause-names : goal.returns-in-None-clause-names
returns-in-None-clause-names c =
    subst (λ (w : View). IfSome c.sector_part.result (λ part. NamesPart (hands_of w) part)) c.self.view_is
    (part_names (view_of c.self.inside) c.sector_part.result c.sector_part.ensures.names)
