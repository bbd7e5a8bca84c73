use Rattle.std.proofs.Common.{◌∷◌, [], inl, arith}
use Rattle.std.proofs.lemmas.Result.{err_from_is_err_and}
use Rattle.vbd_model.specs.Happening.{FrontMoves, BackMoves}
use Rattle.vbd_model.specs.Kind.{IsRound, round_start}
use Rattle.vbd_model.specs.Leads.{Is}
use Rattle.vbd_model.proofs.Running.{ready_on, ready_less, stops_first, then_stops, then_goes}
use Rattle.vbd_model.proofs.Joining.{both_are, all_begins, begins_before, round_of, round_begun}
use Rattle.schedule_run.proofs.split.Split.round.Goals as goal

pub returns-in_err-front_move : goal.returns-in_err-front_move
returns-in_err-front_move g c =
    let stopped = err_from_is_err_and c.from_residual.result c.from_residual.ensures.1 in
    rw (stopped.1, stopped.2) (stops_first _ _ _ _ 0 42 _ _ _ (omega arith) (λ xs p. inl (begins_before (FrontMoves ∷ []) (BackMoves ∷ []) xs (all_begins (FrontMoves ∷ []) xs p))) (c.in_err-front_move.ensures (g.D.SectorDisk.seen c.args.disk.now)))

pub back_move-requires : goal.back_move-requires
back_move-requires g c = ready_less 41 42 _ _ (omega arith) (ready_on 0 42 42 _ _ (omega arith) c.requires (c.in_ok-front_move.ensures (g.D.SectorDisk.seen c.args.disk.now)).keeps)

pub returns-in_err-back_move : goal.returns-in_err-back_move
returns-in_err-back_move g c =
    let stopped = err_from_is_err_and c.from_residual-in_err-back_move.result c.from_residual-in_err-back_move.ensures.1 in
    rw (stopped.1, stopped.2) (then_stops _ _ _ _ (IsRound c.args.self.now) _ 0 41 42 _ _ _ _ (omega arith) (λ xs ys p here q. inl (all_begins round_start _ (both_are (FrontMoves ∷ []) (BackMoves ∷ []) xs ys p q))) (c.in_ok-front_move.ensures (g.D.SectorDisk.seen c.args.disk.now)) c.in_err-back_move.ensures)

pub each_job-requires : goal.each_job-requires
each_job-requires g c = ready_on 41 1 42 _ _ (omega arith) (ready_on 0 42 42 _ _ (omega arith) c.requires (c.in_ok-front_move.ensures (g.D.SectorDisk.seen c.args.disk.now)).keeps) c.in_ok-back_move.ensures.keeps

pub returns : goal.returns
returns g c =
    let begun = then_goes _ _ _ _ (Is round_start) (Is round_start) 0 41 41 _ _ _ _ (omega arith) (λ xs ys p here q. both_are (FrontMoves ∷ []) (BackMoves ∷ []) xs ys p q) (λ xs ys p here q. both_are (FrontMoves ∷ []) (BackMoves ∷ []) xs ys p q) (c.in_ok-front_move.ensures (g.D.SectorDisk.seen c.args.disk.now)) c.in_ok-back_move.ensures in
    then_goes _ _ _ _ _ _ 41 0 42 _ _ _ _ (omega arith) (λ xs ys p here q. round_of c.args.self.now c.back_move.new.self xs ys p here q) (λ xs ys p here q. round_begun c.args.self.now c.back_move.new.self xs ys p here q) begun c.each_job.ensures
