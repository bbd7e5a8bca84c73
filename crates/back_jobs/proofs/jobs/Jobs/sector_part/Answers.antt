use Rattle.std.proofs.Common.{◌≡◌, List, length, false, refl, sym, ap, ◌∙◌, subst, rules}
use Rattle.std.specs.Prelude.{Option, Some, IfSome, slice_get}
use Rattle.std.proofs.lemmas.Option.{slice_get_read}
use Rattle.back_jobs.specs.declared.part.SectorPart.{SectorPart}
use Rattle.back_jobs.specs.Jobs.{HeldJobs, place_of}
use Rattle.back_jobs.specs.Work.{Work}
use Rattle.back_jobs.specs.Keeping.{waits_in}
use Rattle.persist_grants.specs.KeptMappings.{may_keep}
use Rattle.back_jobs.specs.Part.{part_values, asked_after, AsksEach}
use Rattle.back_jobs.proofs.Parts.{asks_each, named_part}
use Rattle.back_jobs.proofs.jobs.Jobs.sector_part.Goals as goal

pub returns-clause-each : goal.returns-clause-each
returns-clause-each c =
    let h : HeldJobs = c.args.self.now in
    let works = c.self.inside.held.items in
    let place = c.in_ok-place.place in
    let t : Work = c.index.result.now in
    let same : works ≡ h.works = ap (λ (g : HeldJobs). g.works) c.self.view_is in
    let found : place_of h.works c.args.number ≡ Some place = search rules in
    let inside = slice_get_read works (length works) place t refl (rw same c.in_ok-place.ensures.within) c.index.ensures in
    let here : slice_get h.works place ≡ Some t = ap (λ (l : List Work). slice_get l place) (sym same) ∙ inside in
    let free : waits_in (may_keep h.kept) h.works (Some place) (Some t) ≡ false = ap (λ (o : Option Work). waits_in (may_keep h.kept) h.works (Some place) o) (sym here) ∙ (sym c.waits.ensures ∙ c.if-waits.false) in
    subst (λ (o : Option SectorPart). IfSome o (λ part. AsksEach part (part_values h c.args.number) (asked_after h c.args.number))) (sym c.part.ensures.value)
    (asks_each h c.args.number place t t.stage found here free refl)

pub returns-clause-names : goal.returns-clause-names
returns-clause-names c =
    let works = c.self.inside.held.items in
    let same : works ≡ c.args.self.now.works = ap (λ (h : HeldJobs). h.works) c.self.view_is in
    let here = slice_get_read works (length works) c.in_ok-place.place c.index.result.now refl (rw same c.in_ok-place.ensures.within) c.index.ensures in
    rw (← c.self.view_is) (named_part works c.in_ok-place.place c.index.result.now c.part.result here c.part.ensures.names)
