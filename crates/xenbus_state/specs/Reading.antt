-- What a front makes of the back's keys (`io/blkif.h`). A feature is there where its key isn't 0, persistent grants where it is 1, and a disk is read-only where `info` is 4.
use Rattle.std.specs.Prelude.{ℕ, not, ◌==◌, if◌then◌else◌, List, Option, Some, None}
use Rattle.xenbus_state.specs.declared.keys.BackKey.{BackKey}
use Rattle.xenbus_state.specs.declared.keys.BackKey.TheVariants.{FeatureBarrier, FeatureFlushCache, FeatureDiscard, FeaturePersistent, FeatureMaxIndirectSegments, MaxRingPageOrder, Sectors, SectorSize, Info}
use Rattle.xenbus_state.specs.declared.offer.Features.{Features}
use Rattle.xenbus_state.specs.declared.offer.DiskFacts.{DiskFacts}
use Rattle.xenbus_state.specs.Numbers.{number_of, long_of}

-- a number whose key may be absent, which counts as 0
abbrev pub count_read : Option (List ℕ) → Option ℕ
count_read None = Some 0
count_read (Some text) = number_of text

-- a sector has 512 bytes
abbrev pub sector_size : Option ℕ → Option ℕ
sector_size None = None
sector_size (Some n) = if n == 512 then Some 512 else None

-- `sectors` has 64 bits; it and `sector-size` may not be absent
abbrev pub fact_read : BackKey → Option (List ℕ) → Option ℕ
fact_read Info None = Some 0
fact_read key None = None
fact_read Sectors (Some text) = long_of text
fact_read SectorSize (Some text) = sector_size (number_of text)
fact_read key (Some text) = number_of text

abbrev pub with_feature : Features → BackKey → ℕ → Features
with_feature features FeatureBarrier n = record features { barrier = not (n == 0) }
with_feature features FeatureFlushCache n = record features { flush = not (n == 0) }
with_feature features FeatureDiscard n = record features { discard = not (n == 0) }
with_feature features FeaturePersistent n = record features { persistent = n == 1 }
with_feature features FeatureMaxIndirectSegments n = record features { indirect = n }
with_feature features MaxRingPageOrder n = record features { order = n }
with_feature features key n = features

abbrev pub with_fact : DiskFacts → BackKey → ℕ → DiskFacts
with_fact disk Sectors n = record disk { sectors = n }
with_fact disk Info n = record disk { read_only = n == 4 }
with_fact disk key n = disk
