use Rattle.std.proofs.Common.{Some, ap}
use Rattle.commands.proofs.Tallying.{giving, counts_told, stopped}
use Rattle.commands.proofs.bench.tally_of.Goals as goal

pub returns-in-Ok : goal.returns-in-Ok
returns-in-Ok c =
    counts_told c.args.seed c.args.count c.new-load.result _ _ c.new-recorder.result.tally c.run.new.recorder.tally (giving c.run.new.source) c.new-load.ensures c.new-recorder.ensures (ap Some c.in_ok-disk.ensures.content) c.in-Ok.ensures.lawful

pub returns : goal.returns
returns c =
    stopped c.args.seed c.args.count c.new-load.result c.run.new.source _ _ c.new-recorder.result.tally c.run.new.recorder.tally c.in-Err.stop c.run_stop.result c.new-load.ensures c.new-recorder.ensures c.run_stop.ensures c.in-Err.ensures.runs c.requires
