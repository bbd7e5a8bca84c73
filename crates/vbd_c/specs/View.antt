-- What contracts see of a back that a program holds.
use Rattle.std.specs.Prelude.{Option, None}
use Rattle.blk_base.specs.Options.{Options}
use Rattle.blk_back.specs.declared.told.BackTold.{BackTold}
use Rattle.vbd_back.specs.Keeping.{KeepingView, start_keeping}

-- The back, which may keep mappings and has nothing to tell, and what its last move told, until that is taken.
pub record View : Type 0 where
  pub back : KeepingView
  pub told : Option BackTold

-- a back that publishes what it offers first
abbrev pub start_of : Options → View
start_of config = record { back = start_keeping config; told = None }
