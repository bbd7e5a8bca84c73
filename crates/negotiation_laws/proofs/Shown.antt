-- What an end reads of what the other said.
use Rattle.std.proofs.Common.{◌≡◌, ℕ, ◌==◌, ◌<◌, ◌^◌, Bool, true, false, not, List, refl, arith, decimal, if◌then◌else◌}
use Rattle.std.specs.Prelude.{Option, Some}
use Rattle.xenbus_state.specs.States.{state_read}
use Rattle.xenbus_state.specs.Values.{flag_of}
use Rattle.xenbus_state.specs.Reading.{count_read, fact_read}
use Rattle.xenbus_state.specs.declared.keys.BackKey.TheVariants as back
use Rattle.xenbus_state.specs.declared.state.BusState.{BusState}
use Rattle.xenbus_state.specs.declared.state.BusState.TheVariants as state
use Rattle.xenbus_state.proofs.Digits.{number_again, long_again}
use Rattle.negotiation_laws.specs.Negotiation.{state_text}

-- the state that is said is read
pub state_shown : (o : Option (List ℕ)) (s : BusState) → o ≡ Some (state_text s) → state_read o ≡ Some s
state_shown o state.Unknown e = rw (e, number_again 0 (omega arith)) refl
state_shown o state.Initialising e = rw (e, number_again 1 (omega arith)) refl
state_shown o state.InitWait e = rw (e, number_again 2 (omega arith)) refl
state_shown o state.Initialised e = rw (e, number_again 3 (omega arith)) refl
state_shown o state.Connected e = rw (e, number_again 4 (omega arith)) refl
state_shown o state.Closing e = rw (e, number_again 5 (omega arith)) refl
state_shown o state.Closed e = rw (e, number_again 6 (omega arith)) refl
state_shown o state.Reconfiguring e = rw (e, number_again 7 (omega arith)) refl
state_shown o state.Reconfigured e = rw (e, number_again 8 (omega arith)) refl

-- so is a number of 32 bits, and a flag
pub count_shown : (o : Option (List ℕ)) (n : ℕ) → n < 2 ^ 32 → o ≡ Some (decimal n) → count_read o ≡ Some n
count_shown o n fits e = rw e (number_again n fits)

flag_fits : (b : Bool) → flag_of b < 2 ^ 32
flag_fits true = omega arith
flag_fits false = omega arith

pub flag_shown : (o : Option (List ℕ)) (b : Bool) → o ≡ Some (decimal (flag_of b)) → count_read o ≡ Some (flag_of b)
flag_shown o b e = count_shown o (flag_of b) (flag_fits b) e

pub is_there : (b : Bool) → not (flag_of b == 0) ≡ b
is_there true = refl
is_there false = refl

pub is_one : (b : Bool) → (flag_of b == 1) ≡ b
is_one true = refl
is_one false = refl

-- so is each fact of the disk
pub sectors_shown : (o : Option (List ℕ)) (n : ℕ) → n < 2 ^ 64 → o ≡ Some (decimal n) → fact_read back.Sectors o ≡ Some n
sectors_shown o n fits e = rw e (long_again n fits)

pub size_shown : (o : Option (List ℕ)) → o ≡ Some (decimal 512) → fact_read back.SectorSize o ≡ Some 512
size_shown o e = rw (e, number_again 512 (omega arith)) refl

info_fits : (read_only : Bool) → (if read_only then 4 else 0) < 2 ^ 32
info_fits true = omega arith
info_fits false = omega arith

pub info_shown : (o : Option (List ℕ)) (read_only : Bool) → o ≡ Some (decimal (if read_only then 4 else 0))
    → fact_read back.Info o ≡ Some (if read_only then 4 else 0)
info_shown o read_only e = rw e (number_again (if read_only then 4 else 0) (info_fits read_only))

pub is_four : (read_only : Bool) → ((if read_only then 4 else 0) == 4) ≡ read_only
is_four true = refl
is_four false = refl
