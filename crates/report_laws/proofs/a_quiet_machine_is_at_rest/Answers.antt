use Rattle.split_model.specs.World.{start_of}
use Rattle.split_model.specs.Happening.{after}
use Rattle.report_laws.proofs.AtRest.{always_rests, shown_quiet}
use Rattle.report_laws.proofs.a_quiet_machine_is_at_rest.Goals as goal

pub returns : goal.returns
returns c config history plain may next served quiet = always_rests config history plain may (shown_quiet (after history (start_of config)) next served quiet)
