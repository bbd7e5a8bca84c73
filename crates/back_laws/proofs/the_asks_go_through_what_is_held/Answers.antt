use Rattle.back_laws.proofs.Found.{names_held, jobs_name_held, holds_given}
use Rattle.back_laws.proofs.the_asks_go_through_what_is_held.Goals as goal

pub returns : goal.returns
returns c = record { back = names_held; jobs = jobs_name_held; held = holds_given }
