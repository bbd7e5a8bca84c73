-- A submission as the numbers that C writes.
use Rattle.std.specs.Prelude.{Option, Some, None, if◌then◌else◌, ◌==◌}
use Rattle.blk_base.specs.declared.config.Submission.{Submission}
use Rattle.blk_base.specs.declared.config.Submission.TheVariants.{Read, Write, Barrier, Flush, Discard}
use Rattle.vbd_c.specs.declared.submission.SubmissionNumbers.{SubmissionNumbers}

-- by the number of the operation; a request of sectors has one at least
abbrev pub submission_of : SubmissionNumbers → Option Submission
submission_of n =
    if n.op == 3 then Some Flush
    else (if n.count == 0 then None
    else (if n.op == 0 then Some (Read n.sector n.count)
    else (if n.op == 1 then Some (Write n.sector n.count n.tag)
    else (if n.op == 2 then Some (Barrier n.sector n.count n.tag)
    else (if n.op == 5 then Some (Discard n.sector n.count)
    else None)))))
