use Rattle.std.proofs.Common.{subst, []}
use Rattle.std.specs.Prelude.{IfSome}
use Rattle.back_jobs.specs.Part.{AsksEach}
use Rattle.vbd_back.specs.Part.{asked_after}
use Rattle.vbd_back.specs.View.{View}
use Rattle.vbd_back.proofs.EntryParts.{plain_asks}
use Rattle.vbd_back.proofs.backend.Backend.entry_part.Goals as goal

pub returns-clause-each : goal.returns-clause-each
returns-clause-each c =
    subst (λ (v : View). IfSome c.entry_part.result (λ part. AsksEach part [] (asked_after v))) c.self.view_is
    (plain_asks c.self.inside.back c.entry_part.result c.self.invariant c.entry_part.ensures.each)
