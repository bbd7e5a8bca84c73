use Rattle.std.proofs.Common.{◌≡◌, replicate}
use Rattle.blk_io.specs.Disk.{DiskSeen}
use Rattle.vbd_model.specs.Happening.{FrontMoves}
use Rattle.vbd_model.specs.Leads.{moment}
use Rattle.vbd_model.proofs.Running.{HasGone}
use Rattle.schedule_run.proofs.split.Split.front_moves.Given as goal

-- so many moves of the front led here, whatever the disk is
abbrev pub invariant-loop : goal.invariant-loop
invariant-loop g l =
    (disk : DiskSeen) → HasGone (λ hs. hs ≡ replicate l.counter FrontMoves) 0 l.counter l.count (moment l.fn.self disk (g.R.Recorder.seen l.fn.recorder)) (moment l.self disk (g.R.Recorder.seen l.recorder))
