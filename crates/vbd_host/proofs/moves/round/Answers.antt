use Rattle.std.proofs.Common.{[], ◌∷◌, ◌++◌, refl, sym}
use Rattle.vbd_host.proofs.Steps.{turns_on}
use Rattle.vbd_host.proofs.Histories.{round_history}
use Rattle.vbd_host.proofs.moves.round.Goals as goal

pub loop-number-init : goal.loop-number-init
loop-number-init g c = (_, _, _, c.move_back-moved.ensures.moves, ([], (refl, refl, refl, refl)))

pub loop-number-preserved : goal.loop-number-preserved
loop-number-preserved g c =
    let i = c.loop-number.invariant in
    let on = turns_on g.H.BackHost.does g.H.BackHost.hears i.4.0 0 c.loop-number.last c.in-Some.number i.0 c.loop-number.moved c.move_job-moved.result i.1 c.loop-number.back c.move_job-moved.new.back _ _ _
    i.4.1 (sym c.in-Some.ensures.value) c.move_job-moved.ensures.moves in
    (i.0, i.1, i.2, i.3, (i.4.0 ++ c.in-Some.number ∷ [], on))

pub returns-clause-round : goal.returns-clause-round
returns-clause-round g c =
    let i = c.loop-number.invariant in
    record { moved = i.0; between = i.1; then = i.2; back = i.3; numbers = i.4.0; to = c.loop-number.last; jobs = i.4.1; none = sym c.in_default.ensures.value }

pub returns-clause-history : goal.returns-clause-history
returns-clause-history g c =
    let i = c.loop-number.invariant in
    round_history g.H.BackHost.does g.H.BackHost.hears c.args.back.now c.loop-number.back c.loop-number.moved _ _
    (record { moved = i.0; between = i.1; then = i.2; back = i.3; numbers = i.4.0; to = c.loop-number.last; jobs = i.4.1; none = sym c.in_default.ensures.value })
