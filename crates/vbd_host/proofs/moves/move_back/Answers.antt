use Rattle.std.proofs.Common.{true, false}
use Rattle.vbd_host.proofs.Steps.{back_moved, back_rested}
use Rattle.vbd_host.proofs.Waits.{names_within}
use Rattle.vbd_host.proofs.Histories.{back_history}
use Rattle.vbd_host.proofs.moves.move_back.Goals as goal

pub answer_back-requires : goal.answer_back-requires
answer_back-requires g c = names_within _ c.ask.result c.ask.ensures.names

pub returns-in_default-clause-moves : goal.returns-in_default-clause-moves
returns-in_default-clause-moves g c =
    back_rested g.H.BackHost.does g.H.BackHost.hears c.args.back.now _ _ c.args.host.now _ _ c.hear.ensures.taken c.hear.ensures.told c.ask.ensures.value c.in_default.ensures.none c.in_default.ensures.done

pub returns-in_default-clause-history : goal.returns-in_default-clause-history
returns-in_default-clause-history g c =
    back_history g.H.BackHost.does g.H.BackHost.hears false _ _ c.args.host.now _
    (back_rested g.H.BackHost.does g.H.BackHost.hears c.args.back.now _ _ c.args.host.now _ _ c.hear.ensures.taken c.hear.ensures.told c.ask.ensures.value c.in_default.ensures.none c.in_default.ensures.done)

pub returns-clause-moves : goal.returns-clause-moves
returns-clause-moves g c =
    back_moved g.H.BackHost.does g.H.BackHost.hears c.args.back.now _ _ _ _ _ _ _ _ _ c.hear.ensures.taken c.hear.ensures.told c.ask.ensures.value
    c.in-Some.ensures.allowed c.in-Some.ensures.done c.tell.ensures.completed c.hear-2.ensures.taken c.hear-2.ensures.told

pub returns-clause-history : goal.returns-clause-history
returns-clause-history g c =
    back_history g.H.BackHost.does g.H.BackHost.hears true _ _ _ _
    (back_moved g.H.BackHost.does g.H.BackHost.hears c.args.back.now _ _ _ _ _ _ _ _ _ c.hear.ensures.taken c.hear.ensures.told c.ask.ensures.value
    c.in-Some.ensures.allowed c.in-Some.ensures.done c.tell.ensures.completed c.hear-2.ensures.taken c.hear-2.ensures.told)
