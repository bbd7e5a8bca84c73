use Rattle.front_laws.proofs.KeptLaw.{makes_each_once, keeps_what_was_made, uses_kept_grants, pushes_kept_grants, ends_as_it_leaves, ends_the_ring_first, leaves_none, begins_with_none, keeps_none_elsewhere}
use Rattle.front_laws.proofs.a_front_that_keeps_grants_makes_each_once.Goals as goal

pub returns : goal.returns
returns c = record {
  made_once = makes_each_once;
  as_made = keeps_what_was_made;
  used = uses_kept_grants;
  pushed = pushes_kept_grants;
  ends_leaving = ends_as_it_leaves;
  ring_first = ends_the_ring_first;
  leaves_none = leaves_none;
  begins_anew = begins_with_none;
  elsewhere = keeps_none_elsewhere;
}
