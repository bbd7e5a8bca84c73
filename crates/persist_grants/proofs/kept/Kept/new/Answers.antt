use Rattle.std.proofs.Common.{nat_eq, arith, ap, sym, ◌∙◌, length, subst}
use Rattle.std.specs.List.{IsDistinct}
use Rattle.persist_grants.proofs.Entries.{IsDistinct-none}
use Rattle.persist_grants.proofs.kept.Kept.new.Goals as goal

pub invariant_of-result : goal.invariant_of-result
invariant_of-result c = record {
  paired = ap length c.new.ensures ∙ sym (ap length c.new-2.ensures);
  within = omega (arith, ap length c.new.ensures);
  room = c.requires;
  distinct = subst (IsDistinct nat_eq) (sym c.new.ensures) IsDistinct-none;
}
