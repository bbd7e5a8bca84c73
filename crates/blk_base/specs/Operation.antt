-- The numbers of operations and statuses (`io/blkif.h`: BLKIF_OP_READ and so on, BLKIF_RSP_OKAY and so on).
use Rattle.std.specs.Prelude.{ℕ, ℤ, pos, negsuc}
use Rattle.blk_base.specs.declared.operation.Op.{Op}
use Rattle.blk_base.specs.declared.operation.Op.TheVariants.{Read, Write, Barrier, Flush, Discard, Indirect}
use Rattle.blk_base.specs.declared.operation.Status.{Status}
use Rattle.blk_base.specs.declared.operation.Status.TheVariants.{Okay, Error, Unsupported}

-- BLKIF_OP_*
abbrev pub op_code : Op → ℕ
op_code Read = 0
op_code Write = 1
op_code Barrier = 2
op_code Flush = 3
op_code Discard = 5
op_code Indirect = 6

-- BLKIF_RSP_*: OKAY is 0, ERROR is -1, EOPNOTSUPP is -2
abbrev pub status_code : Status → ℤ
status_code Okay = pos 0
status_code Error = negsuc 0
status_code Unsupported = negsuc 1
