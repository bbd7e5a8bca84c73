use Rattle.std.proofs.Common.{◌==◌, ◌/◌, ◌%◌, ap}
use Rattle.std.proofs.lemmas.Nat.Bits.{shr_and_one}
use Rattle.std.specs.Prelude.{slice_index}
use Rattle.schedule_run.proofs.Marking.{marked_so}
use Rattle.schedule_run.proofs.split.marks.mark.Goals as goal

pub returns-clause-before : goal.returns-clause-before
returns-clause-before c = ap (λ x. x == 1) (shr_and_one (slice_index c.args.marks.now (c.args.frame / 64)) (c.args.frame % 64))

pub returns-clause-marked : goal.returns-clause-marked
returns-clause-marked c = λ other. marked_so c.args.marks.now c.args.frame other c.told-marks c.requires
