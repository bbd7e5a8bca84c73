-- What the directory says of each end's keys.
use Rattle.std.specs.Prelude.{ℕ, ◌≡◌, ◌⊎◌, ◌^◌, ◌<◌, List, Option, Some, None}
use Rattle.key_directory.specs.Directory.{key_of}
use Rattle.xenbus_state.specs.declared.keys.FrontKey.{FrontKey}
use Rattle.xenbus_state.specs.declared.keys.FrontKey.TheVariants as front
use Rattle.xenbus_state.specs.declared.keys.BackKey.{BackKey}
use Rattle.xenbus_state.specs.declared.keys.BackKey.TheVariants as back
use Rattle.xenbus_state.specs.declared.offer.Features.{Features}
use Rattle.xenbus_state.specs.declared.offer.DiskFacts.{DiskFacts}
use Rattle.xenbus_state.specs.declared.values.FrontTerms.{FrontTerms}
use Rattle.xenbus_state.specs.Values.{text_of, front_value, back_value}
use Rattle.negotiation_laws.specs.Negotiation.{front_path, back_path}

-- the texts of the front's keys, and of the back's
abbrev pub front_texts : List (List ℕ × List ℕ) → FrontKey → Option (List ℕ)
front_texts keys k = key_of keys (front_path k)

-- the texts of the back's keys
abbrev pub back_texts : List (List ℕ × List ℕ) → BackKey → Option (List ℕ)
back_texts keys k = key_of keys (back_path k)

-- the key says what an end has to say by it
abbrev pub FrontSays : (FrontKey → Option (List ℕ)) → FrontTerms → FrontKey → Type 0
FrontSays texts terms k = texts k ≡ Some (text_of (front_value terms k))

-- so the back
abbrev pub BackSays : (BackKey → Option (List ℕ)) → Features → DiskFacts → BackKey → Type 0
BackSays texts features disk k = texts k ≡ Some (text_of (back_value features disk k))

-- of a ring of one page its reference is said and no order, of a larger ring its order and the reference of each page
pub record IsRingSaid (texts : FrontKey → Option (List ℕ)) (terms : FrontTerms) : Type 0 where
  pub only : terms.order ≡ 0 → FrontSays texts terms front.RingRef × (texts front.RingPageOrder ≡ None)
  pub order : 0 < terms.order → FrontSays texts terms front.RingPageOrder
  pub pages : 0 < terms.order → (page : ℕ) → page < 2 ^ terms.order → FrontSays texts terms (front.RingRefOf page)

-- the front's terms are said
pub record AreTermsSaid (texts : FrontKey → Option (List ℕ)) (terms : FrontTerms) : Type 0 where
  pub ring : IsRingSaid texts terms
  pub port : FrontSays texts terms front.EventChannel
  pub layout : FrontSays texts terms front.Protocol
  pub persistent : FrontSays texts terms front.FeaturePersistent

-- the back's features are said
pub record AreFeaturesSaid (texts : BackKey → Option (List ℕ)) (features : Features) (disk : DiskFacts) : Type 0 where
  pub barrier : BackSays texts features disk back.FeatureBarrier
  pub flush : BackSays texts features disk back.FeatureFlushCache
  pub discard : BackSays texts features disk back.FeatureDiscard
  pub persistent : BackSays texts features disk back.FeaturePersistent
  pub indirect : BackSays texts features disk back.FeatureMaxIndirectSegments
  pub order : BackSays texts features disk back.MaxRingPageOrder

-- and what its disk is
pub record AreFactsSaid (texts : BackKey → Option (List ℕ)) (features : Features) (disk : DiskFacts) : Type 0 where
  pub sectors : BackSays texts features disk back.Sectors
  pub size : BackSays texts features disk back.SectorSize
  pub info : BackSays texts features disk back.Info

-- the key of a ring of one page says no order; each other key says what the front has to say by it
abbrev pub IsToldBy : (FrontKey → Option (List ℕ)) → FrontTerms → FrontKey → Type 0
IsToldBy texts terms front.RingPageOrder = FrontSays texts terms front.RingPageOrder ⊎ ((terms.order ≡ 0) × (texts front.RingPageOrder ≡ None))
IsToldBy texts terms k = FrontSays texts terms k
