use Rattle.std.specs.Prelude.{◌≤◌}
use Rattle.schedule_run.proofs.Looking.{HaveLooked}
use Rattle.schedule_run.proofs.split.looking.words_of_jobs.Given as goal

-- the jobs up to the last one go on or wait
abbrev pub invariant-loop-number : goal.invariant-loop-number
invariant-loop-number l = record {
  few : l.least ≤ l.most;
  looked : HaveLooked l.under l.back.ring l.fn.marks l.marks l.last l.least l.left;
}

-- those that are left
abbrev pub decreases-loop-number : goal.decreases-loop-number
decreases-loop-number l = l.left
