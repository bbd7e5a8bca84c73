use Rattle.std.proofs.Common.{refl}
use Rattle.key_directory.proofs.Entries.{OnlySets-with_key}
use Rattle.key_directory.proofs.keys.Keys.write.Goals as goal

pub returns-in-Ok-clause-ok : goal.returns-in-Ok-clause-ok
returns-in-Ok-clause-ok c = rw (← c.self.view_is, c.in-Ok.ensures.entries, c.fire.ensures, c.fire-in-Ok.ensures) refl

pub returns-in-Ok-clause-only : goal.returns-in-Ok-clause-only
returns-in-Ok-clause-only c = rw (← c.self.view_is, c.in-Ok.ensures.entries) (OnlySets-with_key _ _ _)
