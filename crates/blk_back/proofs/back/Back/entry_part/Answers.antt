use Rattle.std.proofs.Common.{subst, sym, refl, []}
use Rattle.std.specs.Prelude.{Option, IfSome}
use Rattle.back_jobs.specs.declared.part.SectorPart.{SectorPart}
use Rattle.back_jobs.specs.Part.{AsksEach, NamesPart}
use Rattle.blk_back.specs.Hands.{hands_of}
use Rattle.blk_back.specs.Part.{asked_keeping}
use Rattle.blk_back.specs.Sound.{IsSound}
use Rattle.blk_back.specs.View.{View}
use Rattle.blk_back.proofs.EntryParts.{asks_at, entry_names_at}
use Rattle.blk_back.proofs.back.Back.entry_part.Goals as goal

pub returns-in-None-clause-each : goal.returns-in-None-clause-each
returns-in-None-clause-each c =
    let v : View = c.args.self.now in
    subst (λ (o : Option SectorPart). IfSome o (λ part. AsksEach part [] (asked_keeping v))) (sym c.entry_words.ensures.value) (asks_at v.stage v refl)

pub returns-in-None-clause-names : goal.returns-in-None-clause-names
returns-in-None-clause-names c =
    let v : View = c.args.self.now in
    let sound : IsSound v = rw (← c.self.view_is) c.self.invariant in
    subst (λ (o : Option SectorPart). IfSome o (λ part. NamesPart (hands_of v) part)) (sym c.entry_words.ensures.value) (entry_names_at v.stage v refl sound)
