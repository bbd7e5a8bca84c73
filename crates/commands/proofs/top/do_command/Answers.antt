use Rattle.std.proofs.Common.{◌≡◌, Some, rules}
use Rattle.commands.specs.declared.words.Command.TheVariants.{Inspect, Run, Bench}
use Rattle.commands.proofs.Reading.{asked_within}
use Rattle.commands.proofs.top.do_command.Goals as goal

pub show_ring-requires : goal.show_ring-requires
show_ring-requires g c =
    let is : c.in_ok-abi.field-0 ≡ Some (Inspect c.in-Some-Inspect.abi c.in-Some-Inspect.order) = search rules in
    asked_within _ c.in_ok-abi.field-0 (Inspect c.in-Some-Inspect.abi c.in-Some-Inspect.order) is c.in_ok-abi.ensures.asked

pub run_schedule-requires-clause-pages : goal.run_schedule-requires-clause-pages
run_schedule-requires-clause-pages g c =
    let is : c.in_ok-abi.field-0 ≡ Some (Run c.in-Some-Run.image c.in-Some-Run.options) = search rules in
    (asked_within _ c.in_ok-abi.field-0 (Run c.in-Some-Run.image c.in-Some-Run.options) is c.in_ok-abi.ensures.asked).0

pub run_schedule-requires-clause-segments : goal.run_schedule-requires-clause-segments
run_schedule-requires-clause-segments g c =
    let is : c.in_ok-abi.field-0 ≡ Some (Run c.in-Some-Run.image c.in-Some-Run.options) = search rules in
    (asked_within _ c.in_ok-abi.field-0 (Run c.in-Some-Run.image c.in-Some-Run.options) is c.in_ok-abi.ensures.asked).1

pub bench-requires : goal.bench-requires
bench-requires g c =
    let is : c.in_ok-abi.field-0 ≡ Some (Bench c.in-Some-Bench.seed c.in-Some-Bench.count) = search rules in
    asked_within _ c.in_ok-abi.field-0 (Bench c.in-Some-Bench.seed c.in-Some-Bench.count) is c.in_ok-abi.ensures.asked
