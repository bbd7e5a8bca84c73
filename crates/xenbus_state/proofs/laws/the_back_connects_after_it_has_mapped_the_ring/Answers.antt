use Rattle.std.proofs.Common.{subst}
use Rattle.xenbus_state.specs.declared.back.BackBusAsk.{BackBusAsk}
use Rattle.xenbus_state.specs.BackView.{start_of}
use Rattle.xenbus_state.specs.BackSound.{IsDue}
use Rattle.xenbus_state.specs.Runs.{back_after}
use Rattle.xenbus_state.proofs.BackTurns.{back_starts, back_runs, back_due}
use Rattle.xenbus_state.proofs.laws.the_back_connects_after_it_has_mapped_the_ring.Goals as goal

pub returns : goal.returns
returns c features disk turns lawful connects =
    let v = back_after turns (start_of features disk) in
    let due = back_due v (back_runs turns (start_of features disk) lawful (back_starts features disk)) in
    subst (λ (a : BackBusAsk). IsDue v a) connects due
