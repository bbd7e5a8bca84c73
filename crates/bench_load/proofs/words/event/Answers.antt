-- Each line of three words is short.
use Rattle.std.proofs.Common.{◌+◌, ◌%◌, arith}
use Rattle.bench_load.proofs.Short.{read_short, write_short, job_short, turn_short}
use Rattle.bench_load.proofs.words.event.Goals as goal

pub returns-in-7-clause-short : goal.returns-in-7-clause-short
returns-in-7-clause-short c = turn_short (1 + c.args.size % 500) (omega arith)

pub returns-in-8-clause-short : goal.returns-in-8-clause-short
returns-in-8-clause-short c = job_short (1 + c.args.place % 8) (1 + c.args.size % 300) (omega arith) (omega arith)

pub returns-in-0-to-3-clause-short : goal.returns-in-0-to-3-clause-short
returns-in-0-to-3-clause-short c = write_short c.sector.result c.count.result _ (omega (arith, c.sector.ensures)) (omega (arith, c.count.ensures))

pub returns-in-4-to-6-clause-short : goal.returns-in-4-to-6-clause-short
returns-in-4-to-6-clause-short c = read_short c.sector-in-4-to-6.result c.count-in-4-to-6.result (omega (arith, c.sector-in-4-to-6.ensures)) (omega (arith, c.count-in-4-to-6.ensures))
