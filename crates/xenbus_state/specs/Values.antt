-- What each key says, as one function of what an end has to say (`io/blkif.h`).
use Rattle.std.specs.Prelude.{ℕ, ◌+◌, Bool, true, false, if◌then◌else◌, List, codes, decimal}
use Rattle.blk_base.specs.declared.operation.Abi.TheVariants.{X64, X32}
use Rattle.xenbus_state.specs.declared.keys.FrontKey.{FrontKey}
use Rattle.xenbus_state.specs.declared.keys.FrontKey.TheVariants as front
use Rattle.xenbus_state.specs.declared.keys.BackKey.{BackKey}
use Rattle.xenbus_state.specs.declared.keys.BackKey.TheVariants as back
use Rattle.xenbus_state.specs.declared.offer.Features.{Features}
use Rattle.xenbus_state.specs.declared.offer.DiskFacts.{DiskFacts}
use Rattle.xenbus_state.specs.declared.values.FrontTerms.{FrontTerms}
use Rattle.xenbus_state.specs.declared.values.KeyValue.{KeyValue}
use Rattle.xenbus_state.specs.declared.values.KeyValue.TheVariants.{Number, Layout}

-- the text of a value: a number in decimal digits, or a layout (`io/protocols.h`)
abbrev pub text_of : KeyValue → List ℕ
text_of (Number n) = decimal n
text_of (Layout X64) = codes "x86_64-abi"
text_of (Layout X32) = codes "x86_32-abi"

abbrev pub flag_of : Bool → ℕ
flag_of true = 1
flag_of false = 0

-- the reference of a page of the ring: frames 2 to 17 have the references 8 to 23
abbrev pub ring_gref : ℕ → ℕ
ring_gref page = 8 + page

abbrev pub front_value : FrontTerms → FrontKey → KeyValue
front_value terms front.RingPageOrder = Number terms.order
front_value terms front.RingRef = Number (ring_gref 0)
front_value terms (front.RingRefOf page) = Number (ring_gref page)
front_value terms front.EventChannel = Number terms.port
front_value terms front.Protocol = Layout terms.abi
front_value terms front.FeaturePersistent = Number (flag_of terms.persistent)

abbrev pub back_value : Features → DiskFacts → BackKey → KeyValue
back_value features disk back.FeatureBarrier = Number (flag_of features.barrier)
back_value features disk back.FeatureFlushCache = Number (flag_of features.flush)
back_value features disk back.FeatureDiscard = Number (flag_of features.discard)
back_value features disk back.FeaturePersistent = Number (flag_of features.persistent)
back_value features disk back.FeatureMaxIndirectSegments = Number features.indirect
back_value features disk back.MaxRingPageOrder = Number features.order
back_value features disk back.Sectors = Number disk.sectors
back_value features disk back.SectorSize = Number 512
back_value features disk back.Info = Number (if disk.read_only then 4 else 0)
