-- What calls make of a handle, of whichever end it is.
use Rattle.std.specs.Prelude.{◌≡◌, ℕ, Option, Some, None, IsSome}
use Rattle.blk_base.specs.Options.{Options}
use Rattle.vbd_c.specs.declared.status.Status.{Status}
use Rattle.vbd_c.specs.declared.status.Status.TheVariants as status
use Rattle.vbd_c.specs.Status.{code_of}

-- whether there is an end
abbrev pub found : {V : Type 0} → Option V → Status
found None = status.Empty
found (Some v) = status.Done

-- a handle gets an end where it had none, its options are in range and there is enough memory; else nothing changes
abbrev pub MadeWith : {V : Type 0} → (start : Options → V) → Option Options → Option V → Option V → Status → Type 0
MadeWith start (Some config) before after status.Done = (before ≡ None) × (after ≡ Some (start config))
MadeWith start (Some config) before after status.NoMemory = (before ≡ None) × (after ≡ before)
MadeWith start None before after status.OutOfRange = (before ≡ None) × (after ≡ before)
MadeWith start config before after status.InUse = IsSome before × (after ≡ before)
MadeWith start config before after s = ⊥

abbrev pub MadeAs : {V : Type 0} → (start : Options → V) → Option Options → Option V → Option V → ℕ → Type 0
MadeAs start config before after code = (s : Status) × (code ≡ code_of s) × MadeWith start config before after s
