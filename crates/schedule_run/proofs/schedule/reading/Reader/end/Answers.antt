use Rattle.std.proofs.Common.{◌≡◌, ◌≤◌, length, arith}
use Rattle.std.proofs.lemmas.Bool.Decides.{nat_tests}
use Rattle.schedule_run.proofs.Carrying.{last_none, last_fed, no_bytes}
use Rattle.schedule_run.proofs.schedule.reading.Reader.end.Goals as goal

pub returns-then-is_empty : goal.returns-then-is_empty
returns-then-is_empty g c =
    let t = c.if-is_empty.true in
    let v = c.is_empty.ensures in
    let none : length c.args.self.now.part.items ≡ 0 = grind (arith, nat_tests) in
    last_none _ _ (no_bytes _ none)

pub returns : goal.returns
returns g c =
    let t = c.if-is_empty.false in
    let v = c.is_empty.ensures in
    let some : 1 ≤ length c.args.self.now.part.items = grind (arith, nat_tests) in
    last_fed _ _ _ c.requires.unbroken some c.end_line.ensures
