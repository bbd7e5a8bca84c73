-- The options of a run, as contracts see them.
use Rattle.std.specs.Prelude.{ℕ, Bool}
use Rattle.blk_base.specs.declared.operation.Abi.{Abi}

-- the options of a run: see `Config`
pub record Options : Type 0 where
  pub abi : Abi
  pub order : ℕ
  pub persistent : ℕ
  pub indirect : ℕ
  pub start : ℕ
  pub read_only : Bool
  pub sectors : ℕ
