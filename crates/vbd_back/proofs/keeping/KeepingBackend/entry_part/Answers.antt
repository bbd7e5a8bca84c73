use Rattle.std.proofs.Common.{◌≡◌, ◌∙◌, ap, subst, sym, []}
use Rattle.std.specs.Prelude.{Option, IfSome}
use Rattle.back_jobs.specs.declared.part.SectorPart.{SectorPart}
use Rattle.back_jobs.specs.Part.{AsksEach}
use Rattle.vbd_back.specs.Inside.{ends_of}
use Rattle.vbd_back.specs.Keeping.{KeepingView, asked_keeping}
use Rattle.vbd_back.specs.Part.{entry_part}
use Rattle.vbd_back.proofs.EntryParts.{part_at_turn, part_asks}
use Rattle.vbd_back.proofs.keeping.KeepingBackend.entry_part.Goals as goal

pub returns-in-Ring-clause-each : goal.returns-in-Ring-clause-each
returns-in-Ring-clause-each c =
    let value : c.entry_part.result ≡ entry_part c.args.self.now.ends =
    part_at_turn (ends_of c.self.inside) c.self.inside.turn c.entry_part.result c.self.invariant.turn c.in-Ring.is c.entry_part.ensures.value
    ∙ ap (λ (k : KeepingView). entry_part k.ends) c.self.view_is in
    subst (λ (o : Option SectorPart). IfSome o (λ part. AsksEach part [] (asked_keeping c.args.self.now))) (sym value) (part_asks c.args.self.now)
