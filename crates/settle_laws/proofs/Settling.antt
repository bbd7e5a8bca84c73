-- Settling ends in quiet within its bound of rounds.
use Rattle.std.proofs.Common.{List, [], ◌∷◌, ◌++◌}
use Rattle.blk_io.specs.Disk.{DiskSeen}
use Rattle.vbd_model.specs.World.{World, start_of, is_quiet}
use Rattle.vbd_model.specs.Happening.{Happening, JobMoves, DiskGoes, DiskRuns, happens, after}
use Rattle.vbd_model.proofs.Possible.{rounds_possible}
use Rattle.settle_laws.specs.Calls.{IsCall, AreCalls}
use Rattle.settle_laws.specs.Laws.{EachSettlingEnds, EachScheduleSettles, EachBeginningSettles}
use Rattle.settle_laws.proofs.Standing.{Stands}
use Rattle.settle_laws.proofs.Ends.{until_settled}
use Rattle.settle_laws.proofs.Schedules.{stands_first, stands_all, settling_quiet, whole_until, all_until}
use Rattle.settle_laws.proofs.Bounded.{each_falls, is_bounded}

pub each_settling_ends : EachSettlingEnds
each_settling_ends config history rounds carried options possible untouched are calls =
    let start : Stands config (start_of config) = stands_first config carried options in
    let w : World = after history (start_of config) in
    settling_quiet config (each_falls config) (is_bounded config) w rounds (stands_all config history (start_of config) untouched possible start)
    (rounds_possible is_quiet are.count w rounds are.are_rounds) are calls

pub each_schedule_settles : EachScheduleSettles
each_schedule_settles config schedule history carried options are calls =
    until_settled history (start_of config) (whole_until config (each_falls config) (is_bounded config) schedule (start_of config) history (stands_first config carried options) are calls)

pub each_beginning_settles : EachBeginningSettles
each_beginning_settles config schedule event history more carried options are last calls =
    until_settled (history ++ more) (start_of config)
    (all_until config (each_falls config) (is_bounded config) schedule event (start_of config) history more (stands_first config carried options) are last calls)

-- a disk that ran through all this answered each call
call_of : (w : World) (h : Happening) (a b : DiskSeen) → DiskGoes w h a b → IsCall w h
call_of w (JobMoves number outcome) a b goes = (a, goes.0, goes.1)
call_of w h a b goes = tt

pub calls_of : (hs : List Happening) (w : World) (a b : DiskSeen) → DiskRuns hs w a b → AreCalls hs w
calls_of [] w a b runs = tt
calls_of (h ∷ hs) w a b runs = (call_of w h a runs.0 runs.1, calls_of hs (happens w h) runs.0 b runs.2)

-- and one happening more
pub calls_more : (hs : List Happening) (last : Happening) (w : World) → AreCalls hs w → IsCall (after hs w) last → AreCalls (hs ++ last ∷ []) w
calls_more [] last w calls one = (one, tt)
calls_more (h ∷ hs) last w calls one = (calls.0, calls_more hs last (happens w h) calls.1 one)
