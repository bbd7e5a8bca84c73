use Rattle.std.proofs.Common.{◌≡◌, rules, sym}
use Rattle.std.specs.Prelude.{Some, None}
use Rattle.back_jobs.specs.Order.{number_at}
use Rattle.back_jobs.specs.Sound.{AreAscending}
use Rattle.back_jobs.proofs.Finding.{guessed, numbered, placed, placed_first, placed_nowhere, placed_between}
use Rattle.back_jobs.proofs.jobs.Jobs.place.Goals as goal

pub returns-then-is_first-clause-place : goal.returns-then-is_first-clause-place
returns-then-is_first-clause-place c =
    let held = c.as_slice-held.result.now in
    let at : number_at held 0 ≡ Some c.args.number = search rules in
    rw (← c.self.view_is, ← c.as_slice-held.ensures.value) (sym (placed_first held c.args.number at))

pub returns-in-Some-clause-place : goal.returns-in-Some-clause-place
returns-in-Some-clause-place c =
    let held = c.as_slice-held.result.now in
    let place = c.in-Some.place in
    let ordered : AreAscending held = rw c.as_slice-held.ensures.value (c.self.invariant.0.in_order (search rules)) in
    rw (← c.self.view_is, ← c.as_slice-held.ensures.value) (sym (placed held c.args.number place (guessed held c.args.number place ordered c.in-Some.ensures) c.in-Some.ensures))

pub returns-in-Some-number_at-clause-place : goal.returns-in-Some-number_at-clause-place
returns-in-Some-number_at-clause-place c =
    let held = c.as_slice-held.result.now in
    let place = c.by_halves-place.result in
    let at : number_at held place ≡ Some c.args.number = search rules in
    rw (← c.self.view_is, ← c.as_slice-held.ensures.value) (sym (placed held c.args.number place c.by_halves-place.ensures (numbered held place c.args.number at)))

pub returns-in-Some-number_at-clause-within : goal.returns-in-Some-number_at-clause-within
returns-in-Some-number_at-clause-within c =
    let held = c.as_slice-held.result.now in
    let place = c.by_halves-place.result in
    let at : number_at held place ≡ Some c.args.number = search rules in
    rw (← c.self.view_is, ← c.as_slice-held.ensures.value) ((numbered held place c.args.number at).0)

pub returns-in_default-number_at-clause-place : goal.returns-in_default-number_at-clause-place
returns-in_default-number_at-clause-place c =
    let held = c.as_slice-held.result.now in
    let place = c.by_halves-place.result in
    let at : number_at held place ≡ Some c.in-Some-number_at.found = search rules in
    let ordered : AreAscending held = rw c.as_slice-held.ensures.value (c.self.invariant.0.in_order (search rules)) in
    rw (← c.self.view_is, ← c.as_slice-held.ensures.value) (sym (placed_between held c.args.number c.in-Some-number_at.found place ordered c.by_halves-place.ensures (numbered held place c.in-Some-number_at.found at) c.if-found-number.false))

pub returns-in_default-number_at-2-clause-place : goal.returns-in_default-number_at-2-clause-place
returns-in_default-number_at-2-clause-place c =
    let held = c.as_slice-held.result.now in
    let place = c.by_halves-place.result in
    let at : number_at held place ≡ None = search rules in
    rw (← c.self.view_is, ← c.as_slice-held.ensures.value) (sym (placed_nowhere held c.args.number place c.by_halves-place.ensures at))
