use Rattle.std.proofs.Common.{sym}
use Rattle.back_jobs.proofs.Settling.{found_keepable}
use Rattle.back_jobs.proofs.held_job.HeldJob.take.Goals as goal

pub begin_sector-requires-clause-mode : goal.begin_sector-requires-clause-mode
begin_sector-requires-clause-mode c = λ reads. found_keepable c.in-Some.segment.now.gref c.args.kept.now.entries c.in-Some-take.mapping c.requires.keepable (sym c.in-Some-take.ensures.mapping)
