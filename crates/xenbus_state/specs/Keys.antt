-- The names of the keys (`io/blkif.h`, "Frontend XenBus Nodes" and "Backend XenBus Nodes") and where they lie.
use Rattle.std.specs.Prelude.{ℕ, List, ◌∷◌, ◌++◌, codes, decimal}
use Rattle.blk_base.specs.declared.parts.End.{End}
use Rattle.key_directory.specs.Paths.{directory_of}
use Rattle.xenbus_state.specs.declared.keys.FrontKey.{FrontKey}
use Rattle.xenbus_state.specs.declared.keys.FrontKey.TheVariants as front
use Rattle.xenbus_state.specs.declared.keys.BackKey.{BackKey}
use Rattle.xenbus_state.specs.declared.keys.BackKey.TheVariants as back

abbrev pub front_name : FrontKey → List ℕ
front_name front.RingPageOrder = codes "ring-page-order"
front_name front.RingRef = codes "ring-ref"
front_name (front.RingRefOf page) = codes "ring-ref" ++ decimal page
front_name front.EventChannel = codes "event-channel"
front_name front.Protocol = codes "protocol"
front_name front.FeaturePersistent = codes "feature-persistent"

abbrev pub back_name : BackKey → List ℕ
back_name back.FeatureBarrier = codes "feature-barrier"
back_name back.FeatureFlushCache = codes "feature-flush-cache"
back_name back.FeatureDiscard = codes "feature-discard"
back_name back.FeaturePersistent = codes "feature-persistent"
back_name back.FeatureMaxIndirectSegments = codes "feature-max-indirect-segments"
back_name back.MaxRingPageOrder = codes "max-ring-page-order"
back_name back.Sectors = codes "sectors"
back_name back.SectorSize = codes "sector-size"
back_name back.Info = codes "info"

-- a name under an end's directory
abbrev pub path_under : End → List ℕ → List ℕ
path_under end name = directory_of end ++ 47 ∷ name
