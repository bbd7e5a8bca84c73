use Rattle.persist_grants.proofs.Pairs.{length-zip}
use Rattle.persist_grants.proofs.kept.Kept.is_full.Goals as goal

pub returns : goal.returns
returns c = rw (← c.self.view_is, length-zip c.self.inside.references.items c.self.inside.mappings.items c.self.invariant.paired) (cc)
