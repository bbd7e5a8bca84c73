-- How the kept mappings lie in memory.
use Rattle.std.specs.Prelude.{◌≡◌, ◌≤◌, nat_eq, length}
use Rattle.std.specs.List.{IsDistinct}
use Rattle.persist_grants.specs.declared.kept.Kept.TheInside.{Inside}

-- a mapping for each reference, at most `cap` of them, each reference once
pub record IsStored (k : Inside) : Type 0 where
  pub paired : length k.references.items ≡ length k.mappings.items
  pub within : length k.references.items ≤ k.cap
  pub room : k.cap ≤ 1000
  pub distinct : IsDistinct nat_eq k.references.items
