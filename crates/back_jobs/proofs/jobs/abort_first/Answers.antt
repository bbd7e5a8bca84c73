use Rattle.std.proofs.Common.{rules, arith}
use Rattle.back_jobs.proofs.Spare.{first_shared}
use Rattle.back_jobs.proofs.jobs.abort_first.Goals as goal

pub give_back-requires : goal.give_back-requires
give_back-requires c =
    let split = first_shared c.loop-held.held.items c.remove-job.new.self.items c.remove-job.result (search rules) c.remove-job.ensures.value c.remove-job.ensures.items in
    omega (arith, split, c.loop-held.invariant.spare, c.loop-held.invariant.kept, c.requires)

pub returns-then-is_some-clause-spare : goal.returns-then-is_some-clause-spare
returns-then-is_some-clause-spare c =
    let split = first_shared c.loop-held.held.items c.remove-job.new.self.items c.remove-job.result (search rules) c.remove-job.ensures.value c.remove-job.ensures.items in
    omega (arith, split, c.loop-held.invariant.spare, c.give_back.ensures.spare)
