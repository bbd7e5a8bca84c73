use Rattle.negotiation_laws.proofs.Unbroken.{halts_as_gone, breaks_only_unserved, never_broken}
use Rattle.negotiation_laws.proofs.no_honest_end_breaks_the_negotiation.Goals as goal

pub returns : goal.returns
returns c = record { halts = halts_as_gone; breaks = breaks_only_unserved; unbroken = never_broken }
