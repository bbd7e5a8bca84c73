-- Whether a line stands, by its step.
use Rattle.std.specs.Prelude.{◌≡◌, Option, Some, None, Result, MatchResult}
use Rattle.plain_disk.specs.declared.disk.Stand.{Stand}
use Rattle.plain_disk.specs.declared.disk.Stand.TheVariants.{Stands, Falls}
use Rattle.plain_disk.specs.Disk.{Disk}

-- a line that stands has a step, and leaves its disk; one that falls has none, and leaves the disk as it was
abbrev pub Leaves : Stand → Option Disk → Disk → Disk → Type 0
Leaves Stands step before after = step ≡ Some after
Leaves Falls step before after = (step ≡ None) × (after ≡ before)

-- a line was taken by its step; where the call failed, the disk is as it was
abbrev pub Steps : {E : Type 0} → Option Disk → Result Stand E → Disk → Disk → Type 0
Steps step result before after = MatchResult result (λ stand. Leaves stand step before after) (λ _. after ≡ before)
