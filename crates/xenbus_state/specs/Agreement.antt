-- What one end sets the other reads (`io/blkif.h`).
use Rattle.std.specs.Option.{option_map}
use Rattle.std.specs.Prelude.{◌==◌, ◌≡◌, ◌↔◌, ℕ, ◌+◌, ◌-◌, ◌*◌, ◌^◌, ◌<◌, ◌≤◌, true, List, length, fold, Option, Some, None}
use Rattle.std.specs.List.{list_all}
use Rattle.xenbus_state.specs.declared.keys.FrontKey.TheVariants as front
use Rattle.xenbus_state.specs.declared.keys.BackKey.{BackKey}
use Rattle.xenbus_state.specs.declared.keys.BackKey.TheVariants as back
use Rattle.xenbus_state.specs.declared.offer.Features.{Features}
use Rattle.xenbus_state.specs.declared.offer.DiskFacts.{DiskFacts}
use Rattle.xenbus_state.specs.declared.values.FrontTerms.{FrontTerms}
use Rattle.xenbus_state.specs.Numbers.{is_digit, number_in, number_of}
use Rattle.xenbus_state.specs.Values.{text_of, flag_of, front_value, back_value}
use Rattle.xenbus_state.specs.Reading.{fact_read, with_feature}
use Rattle.xenbus_state.specs.BackReading.{order_of, layout_read}

-- the number that decimal digits say
abbrev pub digit_step : ℕ → ℕ → ℕ
digit_step n c = n * 10 + (c - 48)

abbrev pub decimal_value : List ℕ → ℕ
decimal_value digits = fold digit_step 0 digits

-- 1 to `most` digits, leading zeros allowed, that say a number up to the limit
pub record IsNumeral (most limit : ℕ) (text : List ℕ) (n : ℕ) : Type 0 where
  pub some : 0 < length text
  pub few : length text ≤ most
  pub digits : list_all is_digit text ≡ true
  pub value : decimal_value text ≡ n
  pub within : n ≤ limit

-- a key's number is read exactly where its text is such a numeral
abbrev pub NumbersAreNumerals : Type 0
NumbersAreNumerals = (most limit n : ℕ) (text : List ℕ) → (number_in most limit text ≡ Some n) ↔ IsNumeral most limit text n

-- each key that a front sets is read as what it says
pub record AreTermsRead (terms : FrontTerms) : Type 0 where
  pub order : order_of (number_of (text_of (front_value terms front.RingPageOrder))) ≡ Some terms.order
  pub only : number_of (text_of (front_value terms front.RingRef)) ≡ Some 8
  pub pages : (page : ℕ) → page < 16 → number_of (text_of (front_value terms (front.RingRefOf page))) ≡ Some (8 + page)
  pub port : number_of (text_of (front_value terms front.EventChannel)) ≡ Some terms.port
  pub layout : layout_read (Some (text_of (front_value terms front.Protocol))) ≡ Some terms.abi
  pub persistent : number_of (text_of (front_value terms front.FeaturePersistent)) ≡ Some (flag_of terms.persistent)

abbrev pub TermsAreRead : Type 0
TermsAreRead = (terms : FrontTerms) → terms.order ≤ 4 → terms.port < 2 ^ 32 → AreTermsRead terms

-- the features that a front has which reads these keys in turn, and the facts of the disk
abbrev pub with_read : Option ℕ → BackKey → Features → Option Features
with_read None key features = None
with_read (Some n) key features = Some (with_feature features key n)

abbrev pub reads_feature : (BackKey → List ℕ) → BackKey → Option Features → Option Features
reads_feature texts key None = None
reads_feature texts key (Some features) = with_read (number_of (texts key)) key features

abbrev pub reads_offer : (BackKey → List ℕ) → Features → Option Features
reads_offer texts features =
    reads_feature texts back.MaxRingPageOrder
    (reads_feature texts back.FeatureMaxIndirectSegments
    (reads_feature texts back.FeaturePersistent
    (reads_feature texts back.FeatureDiscard
    (reads_feature texts back.FeatureFlushCache
    (reads_feature texts back.FeatureBarrier (Some features))))))

-- whatever a front read before, it has exactly what the back offers
abbrev pub OfferIsRead : Type 0
OfferIsRead = (offer before : Features) (disk : DiskFacts) → offer.indirect < 2 ^ 32 → offer.order < 2 ^ 32 → reads_offer (λ key. text_of (back_value offer disk key)) before ≡ Some offer

-- each fact of the disk that a back sets is read as what it says
pub record AreFactsRead (offer : Features) (disk : DiskFacts) : Type 0 where
  pub sectors : fact_read back.Sectors (Some (text_of (back_value offer disk back.Sectors))) ≡ Some disk.sectors
  pub size : fact_read back.SectorSize (Some (text_of (back_value offer disk back.SectorSize))) ≡ Some 512
  pub info : option_map (λ n. n == 4) (fact_read back.Info (Some (text_of (back_value offer disk back.Info)))) ≡ Some disk.read_only

abbrev pub FactsAreRead : Type 0
FactsAreRead = (offer : Features) (disk : DiskFacts) → disk.sectors < 2 ^ 64 → AreFactsRead offer disk
