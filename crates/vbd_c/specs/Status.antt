-- What a call says of itself, as the number that C reads.
use Rattle.std.specs.Prelude.{ℕ}
use Rattle.blk_base.specs.declared.refusal.Refusal.{Refusal}
use Rattle.blk_base.specs.declared.refusal.Refusal.TheVariants as refusal
use Rattle.vbd_c.specs.declared.status.Status.{Status}
use Rattle.vbd_c.specs.declared.status.Status.TheVariants.{Done, Told, NotAllowed, Untold, Empty, InUse, NoMemory, OutOfRange, Refused}

-- the numbers of refusals come behind those of the others
abbrev pub refusal_code : Refusal → ℕ
refusal_code refusal.Spent = 8
refusal_code refusal.NotReady = 9
refusal_code refusal.Closing = 10
refusal_code refusal.Unsupported = 11
refusal_code refusal.ReadOnly = 12
refusal_code refusal.Range = 13
refusal_code refusal.Long = 14
refusal_code refusal.Full = 15
refusal_code refusal.Buffers = 16

abbrev pub code_of : Status → ℕ
code_of Done = 0
code_of Told = 1
code_of NotAllowed = 2
code_of Untold = 3
code_of Empty = 4
code_of InUse = 5
code_of NoMemory = 6
code_of OutOfRange = 7
code_of (Refused why) = refusal_code why
