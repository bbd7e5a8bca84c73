use Rattle.std.proofs.lemmas.List.Edits.{map_over_more}
use Rattle.plain_disk.specs.Step.{reopened}
use Rattle.plain_disk.proofs.disk.steps.reopen.Goals as goal

pub loop-i-preserved : goal.loop-i-preserved
loop-i-preserved c = rw (c.reopened.ensures, ← c.index-requests-i.is) (map_over_more reopened c.args.requests.now c.loop-i.requests c.loop-i.i c.index-requests-i.result c.loop-i-test.true c.loop-i.invariant c.index-requests-i.is)
