-- What a move told and why the back halted, as the numbers that C reads.
use Rattle.std.specs.Prelude.{ℕ, List, [], pos}
use Rattle.blk_base.specs.Operation.{status_code}
use Rattle.blk_base.specs.declared.halt.Halt.{Halt}
use Rattle.blk_base.specs.declared.halt.Halt.TheVariants.{Overrun, Gone, Unplugged, BadKey, BadOrder, BadPort, MapRefused}
use Rattle.blk_back.specs.declared.told.BackTold.{BackTold}
use Rattle.blk_back.specs.declared.told.BackTold.TheVariants.{Effect, Flushed, Trimmed, Fault, Reply}
use Rattle.vbd_c.specs.declared.told.ToldNumbers.{ToldNumbers}
use Rattle.vbd_c.specs.declared.halt.HaltNumbers.{HaltNumbers}

abbrev pub numbers_told : BackTold → ToldNumbers
numbers_told (Effect id index) = record { kind = 1; index = index; status = pos 0; id = id }
numbers_told (Flushed id) = record { kind = 2; index = 0; status = pos 0; id = id }
numbers_told (Trimmed id) = record { kind = 3; index = 0; status = pos 0; id = id }
numbers_told (Fault id index) = record { kind = 4; index = index; status = pos 0; id = id }
numbers_told (Reply id status) = record { kind = 5; index = 0; status = status_code status; id = id }

abbrev pub numbers_halted : Halt → HaltNumbers
numbers_halted (Overrun prod rsp_prod) = record { kind = 1; number = prod; rsp_prod = rsp_prod; status = pos 0 }
numbers_halted (Gone state) = record { kind = 2; number = state; rsp_prod = 0; status = pos 0 }
numbers_halted (Unplugged state) = record { kind = 3; number = state; rsp_prod = 0; status = pos 0 }
numbers_halted (BadKey key) = record { kind = 4; number = 0; rsp_prod = 0; status = pos 0 }
numbers_halted (BadOrder state) = record { kind = 5; number = state; rsp_prod = 0; status = pos 0 }
numbers_halted (BadPort port) = record { kind = 6; number = port; rsp_prod = 0; status = pos 0 }
numbers_halted (MapRefused gref status) = record { kind = 7; number = gref; rsp_prod = 0; status = status }

-- the name of the key that is missing or malformed
abbrev pub key_of : Halt → List ℕ
key_of (BadKey key) = key
key_of why = []
