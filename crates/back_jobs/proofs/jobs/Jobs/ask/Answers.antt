use Rattle.std.proofs.Common.{◌≡◌, length, refl, ap}
use Rattle.std.proofs.lemmas.Option.{slice_get_read}
use Rattle.back_jobs.specs.Jobs.{HeldJobs}
use Rattle.back_jobs.proofs.Hands.{named_in}
use Rattle.back_jobs.proofs.jobs.Jobs.ask.Goals as goal

pub returns-in-Some-2-clause-names : goal.returns-in-Some-2-clause-names
returns-in-Some-2-clause-names c =
    let works = c.self.inside.held.items in
    let same : works ≡ c.args.self.now.works = ap (λ (h : HeldJobs). h.works) c.self.view_is in
    let here = slice_get_read works (length works) c.in-Some.place c.index.result.now refl (rw same c.in-Some.ensures.within) c.index.ensures in
    rw (← c.self.view_is) (named_in works c.in-Some.place c.index.result.now c.ask.result here c.ask.ensures.names)
