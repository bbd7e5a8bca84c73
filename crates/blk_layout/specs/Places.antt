-- Where the fields of an entry lie under each layout (`io/blkif.h`), in words of 4 bytes.
use Rattle.blk_base.specs.declared.operation.Abi.{Abi}
use Rattle.blk_base.specs.declared.operation.Abi.TheVariants.{X64, X32}
use Rattle.blk_layout.specs.declared.places.Places.{Places}

-- The first word of each field: 64-bit fields begin at a multiple of 8 bytes under x86_64, and of 4 under x86_32. The operation, the byte after it and the next half word lie in word 0.
abbrev pub places_of : Abi → Places
places_of X64 = record { id = 2; sector = 4; segments = 6; discard_count = 6; indirect_device = 6; pages = 7; end = 28 }
places_of X32 = record { id = 1; sector = 3; segments = 5; discard_count = 5; indirect_device = 5; pages = 6; end = 27 }
