-- The order in which keys are set and read: after each key comes the next one.
use Rattle.std.specs.Prelude.{ℕ, ◌+◌, ◌^◌, ◌==◌, nat_lt, if◌then◌else◌, Option, Some, None}
use Rattle.xenbus_state.specs.declared.keys.FrontKey.{FrontKey}
use Rattle.xenbus_state.specs.declared.keys.FrontKey.TheVariants as front
use Rattle.xenbus_state.specs.declared.keys.BackKey.{BackKey}
use Rattle.xenbus_state.specs.declared.keys.BackKey.TheVariants as back

-- what a back offers
abbrev pub next_feature : BackKey → Option BackKey
next_feature back.FeatureBarrier = Some back.FeatureFlushCache
next_feature back.FeatureFlushCache = Some back.FeatureDiscard
next_feature back.FeatureDiscard = Some back.FeaturePersistent
next_feature back.FeaturePersistent = Some back.FeatureMaxIndirectSegments
next_feature back.FeatureMaxIndirectSegments = Some back.MaxRingPageOrder
next_feature key = None

abbrev pub IsFeature : BackKey → Type 0
IsFeature back.Sectors = ⊥
IsFeature back.SectorSize = ⊥
IsFeature back.Info = ⊥
IsFeature key = Unit {0}

-- what the disk is
abbrev pub IsFact : BackKey → Type 0
IsFact back.Sectors = Unit {0}
IsFact back.SectorSize = Unit {0}
IsFact back.Info = Unit {0}
IsFact key = ⊥

abbrev pub next_fact : BackKey → Option BackKey
next_fact back.Sectors = Some back.SectorSize
next_fact back.SectorSize = Some back.Info
next_fact key = None

-- what a front publishes: of a ring of one page its reference, of a larger ring its order and the references of its pages, ascending
abbrev pub first_published : ℕ → FrontKey
first_published order = if order == 0 then front.RingRef else front.RingPageOrder

abbrev pub after_page : (order page : ℕ) → FrontKey
after_page order page = if nat_lt (page + 1) (2 ^ order) then front.RingRefOf (page + 1) else front.EventChannel

abbrev pub next_published : ℕ → FrontKey → Option FrontKey
next_published order front.RingPageOrder = Some (front.RingRefOf 0)
next_published order (front.RingRefOf page) = Some (after_page order page)
next_published order front.RingRef = Some front.EventChannel
next_published order front.EventChannel = Some front.Protocol
next_published order front.Protocol = Some front.FeaturePersistent
next_published order front.FeaturePersistent = None
