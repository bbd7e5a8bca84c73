use Rattle.back_laws.proofs.Held.{names_kept, jobs_name_kept}
use Rattle.back_laws.proofs.the_asks_go_through_what_is_held_where_mappings_are_kept.Goals as goal

pub returns : goal.returns
returns c = record { back = names_kept; jobs = jobs_name_kept }
