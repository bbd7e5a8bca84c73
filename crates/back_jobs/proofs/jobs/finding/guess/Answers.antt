use Rattle.std.proofs.Common.{◌≡◌, ◌+◌, ◌-◌, ◌%◌, rules}
use Rattle.std.specs.Prelude.{Some}
use Rattle.back_jobs.specs.Order.{number_at}
use Rattle.back_jobs.proofs.Finding.{numbered}
use Rattle.back_jobs.proofs.jobs.finding.guess.Goals as goal

pub returns-in-Some : goal.returns-in-Some
returns-in-Some c =
    let place = (c.args.number + (18446744073709551616 - c.number-first.result)) % 18446744073709551616 in
    let at : number_at c.args.held.now place ≡ Some c.args.number = search rules in
    numbered c.args.held.now place c.args.number at
