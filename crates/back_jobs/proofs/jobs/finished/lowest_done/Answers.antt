use Rattle.std.proofs.Common.{◌≡◌, rules}
use Rattle.std.specs.Prelude.{Some, None, slice_get}
use Rattle.back_jobs.specs.Sound.{AreAscending, done_numbers}
use Rattle.back_jobs.proofs.Listed.{lowest_first, none_listed}
use Rattle.back_jobs.proofs.jobs.finished.lowest_done.Goals as goal

pub returns-in-None : goal.returns-in-None
returns-in-None c =
    let listed : c.args.finished.now ≡ done_numbers c.args.held.now = c.requires.listed (search rules) in
    let none : slice_get c.args.finished.now 0 ≡ None = search rules in
    none_listed c.args.held.now (rw listed at none)

pub returns-in-Some : goal.returns-in-Some
returns-in-Some c =
    let listed : c.args.finished.now ≡ done_numbers c.args.held.now = c.requires.listed (search rules) in
    let ordered : AreAscending c.args.held.now = c.requires.in_order (search rules) in
    let first : slice_get c.args.finished.now 0 ≡ Some c.in-Some.number.now = search rules in
    lowest_first c.args.held.now c.in-Some.number.now c.first_from.result ordered (rw listed at first) c.first_from.ensures
