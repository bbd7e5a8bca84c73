use Rattle.std.proofs.Common.{◌≡◌, replicate}
use Rattle.vbd_model.specs.Happening.{BackMoves}
use Rattle.vbd_model.specs.Leads.{moment}
use Rattle.vbd_model.proofs.Running.{HasGone}
use Rattle.schedule_run.proofs.split.Split.back_moves.Given as goal

-- so many moves of the back led here
abbrev pub invariant-loop : goal.invariant-loop
invariant-loop g l = HasGone (λ hs. hs ≡ replicate l.counter BackMoves) 41 l.counter l.count (moment l.fn.self (g.D.SectorDisk.seen l.fn.disk) (g.R.Recorder.seen l.fn.recorder)) (moment l.self (g.D.SectorDisk.seen l.disk) (g.R.Recorder.seen l.recorder))
