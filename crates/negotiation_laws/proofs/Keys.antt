-- What a write of an end leaves of the keys.
use Rattle.std.proofs.Common.{◌≡◌, ◌≢◌, ◌∙◌, sym, ap, subst, ℕ, ◌<◌, ◌==◌, Bool, true, false, true≢false, List, drop, refl, arith}
use Rattle.std.proofs.lemmas.Bool.Decides.{nat_tests}
use Rattle.std.specs.Prelude.{None}
use Rattle.std.specs.Str.{bytes_eq}
use Rattle.std.proofs.lemmas.Fmt.{decimal_injective}
use Rattle.key_directory.specs.Directory.{key_of, with_key}
use Rattle.key_directory.proofs.Entries.{key_of-with_key_same, key_of-with_key_other}
use Rattle.blk_base.specs.declared.parts.End.TheVariants.{Front, Back}
use Rattle.xenbus_state.specs.Keys.{path_under}
use Rattle.xenbus_state.specs.declared.keys.FrontKey.{FrontKey}
use Rattle.xenbus_state.specs.declared.keys.FrontKey.TheVariants as front
use Rattle.xenbus_state.specs.declared.keys.BackKey.{BackKey}
use Rattle.xenbus_state.specs.declared.keys.BackKey.TheVariants as back
use Rattle.xenbus_state.specs.declared.offer.Features.{Features}
use Rattle.xenbus_state.specs.declared.offer.DiskFacts.{DiskFacts}
use Rattle.xenbus_state.specs.declared.values.FrontTerms.{FrontTerms}
use Rattle.xenbus_state.specs.Values.{text_of, front_value, back_value}
use Rattle.negotiation_laws.specs.Negotiation.{front_path, back_path, front_state, back_state}
use Rattle.negotiation_laws.specs.Said.{front_texts, back_texts, FrontSays, BackSays, IsRingSaid}
use Rattle.negotiation_laws.proofs.Paths.{equal_everywhere, key_kept}

module _ (keys : List (List ℕ × List ℕ)) where
  -- a write under an end's directory leaves the other end's keys
  pub front_texts_other : (name text : List ℕ) → front_texts (with_key keys (path_under Back name) text) ≡ front_texts keys
  front_texts_other name text = equal_everywhere _ _ (λ k. key_kept keys (path_under Back name) text (front_path k) refl)

  pub back_texts_other : (name text : List ℕ) → back_texts (with_key keys (path_under Front name) text) ≡ back_texts keys
  back_texts_other name text = equal_everywhere _ _ (λ k. key_kept keys (path_under Front name) text (back_path k) refl)

  pub front_state_other : (name text : List ℕ) → key_of (with_key keys (path_under Back name) text) front_state ≡ key_of keys front_state
  front_state_other name text = key_kept keys (path_under Back name) text front_state refl

  pub back_state_other : (name text : List ℕ) → key_of (with_key keys (path_under Front name) text) back_state ≡ key_of keys back_state
  back_state_other name text = key_kept keys (path_under Front name) text back_state refl

  -- a write of a state leaves an end's own keys
  pub front_texts_state : (text : List ℕ) → front_texts (with_key keys front_state text) ≡ front_texts keys
  front_texts_state text = equal_everywhere _ _ (λ k. key_kept keys front_state text (front_path k) (differs k))
    where
      differs : (k : FrontKey) → bytes_eq (front_path k) front_state ≡ false
      differs front.RingPageOrder = refl
      differs other = refl

  pub back_texts_state : (text : List ℕ) → back_texts (with_key keys back_state text) ≡ back_texts keys
  back_texts_state text = equal_everywhere _ _ (λ k. key_kept keys back_state text (back_path k) (differs k))
    where
      differs : (k : BackKey) → bytes_eq (back_path k) back_state ≡ false
      differs back.FeatureBarrier = refl
      differs k = refl

  -- a write of a key leaves an end's own state
  pub front_state_key : (k : FrontKey) (text : List ℕ) → key_of (with_key keys (front_path k) text) front_state ≡ key_of keys front_state
  front_state_key k text = key_kept keys (front_path k) text front_state (differs k)
    where
      differs : (k : FrontKey) → bytes_eq front_state (front_path k) ≡ false
      differs front.RingPageOrder = refl
      differs k = refl

  pub back_state_key : (k : BackKey) (text : List ℕ) → key_of (with_key keys (back_path k) text) back_state ≡ key_of keys back_state
  back_state_key k text = key_kept keys (back_path k) text back_state (differs k)
    where
      differs : (k : BackKey) → bytes_eq back_state (back_path k) ≡ false
      differs back.FeatureBarrier = refl
      differs k = refl

-- what the back said it says after it said another key
pub back_kept : (keys : List (List ℕ × List ℕ)) (f : Features) (d : DiskFacts) (k j : BackKey) → BackSays (back_texts keys) f d j
    → BackSays (back_texts (with_key keys (back_path k) (text_of (back_value f d k)))) f d j
back_kept keys f d back.FeatureBarrier back.FeatureBarrier h = key_of-with_key_same keys _ _
back_kept keys f d back.FeatureFlushCache back.FeatureFlushCache h = key_of-with_key_same keys _ _
back_kept keys f d back.FeatureDiscard back.FeatureDiscard h = key_of-with_key_same keys _ _
back_kept keys f d back.FeaturePersistent back.FeaturePersistent h = key_of-with_key_same keys _ _
back_kept keys f d back.FeatureMaxIndirectSegments back.FeatureMaxIndirectSegments h = key_of-with_key_same keys _ _
back_kept keys f d back.MaxRingPageOrder back.MaxRingPageOrder h = key_of-with_key_same keys _ _
back_kept keys f d back.Sectors back.Sectors h = key_of-with_key_same keys _ _
back_kept keys f d back.SectorSize back.SectorSize h = key_of-with_key_same keys _ _
back_kept keys f d back.Info back.Info h = key_of-with_key_same keys _ _
back_kept keys f d k j h = rw (key_kept keys (back_path k) (text_of (back_value f d k)) (back_path j) refl) h

-- a key that the back sets says what it has to say
pub back_said : (keys : List (List ℕ × List ℕ)) (f : Features) (d : DiskFacts) (k : BackKey)
    → BackSays (back_texts (with_key keys (back_path k) (text_of (back_value f d k)))) f d k
back_said keys f d k = key_of-with_key_same keys (back_path k) (text_of (back_value f d k))

-- the front never says a ring of one page and one of more pages
abbrev pub Beside : FrontKey → FrontKey → Type 0
Beside front.RingRef (front.RingRefOf page) = ⊥
Beside (front.RingRefOf page) front.RingRef = ⊥
Beside (front.RingRefOf page) (front.RingRefOf other) = (page < 16) × (other < 16)
Beside k j = Unit {0}

pages_differ : (p q : ℕ) → p < 16 → q < 16 → p ≢ q → front_path (front.RingRefOf q) ≢ front_path (front.RingRefOf p)
pages_differ p q low few differ e = let same : q ≡ p = decimal_injective q p (omega arith) (omega arith) (ap (drop 41) e) in differ (sym same)

page_kept : (keys : List (List ℕ × List ℕ)) (terms : FrontTerms) (p q : ℕ) → p < 16 → q < 16 → FrontSays (front_texts keys) terms (front.RingRefOf q)
    → FrontSays (front_texts (with_key keys (front_path (front.RingRefOf p)) (text_of (front_value terms (front.RingRefOf p))))) terms (front.RingRefOf q)
page_kept keys terms p q low few h = by_test (p == q) refl
  where
    text : List ℕ
    text = text_of (front_value terms (front.RingRefOf p))

    by_test : (same : Bool) → (p == q) ≡ same
        → FrontSays (front_texts (with_key keys (front_path (front.RingRefOf p)) (text_of (front_value terms (front.RingRefOf p))))) terms (front.RingRefOf q)
    by_test true e =
        let same : p ≡ q = grind (arith, nat_tests) in
        subst (λ (r : ℕ). FrontSays (front_texts (with_key keys (front_path (front.RingRefOf p)) (text_of (front_value terms (front.RingRefOf p))))) terms (front.RingRefOf r)) same (key_of-with_key_same keys _ _)
    by_test false e =
        let differ : p ≢ q = λ same. true≢false (let t : (p == q) ≡ true = grind (arith, nat_tests) in sym t ∙ e) in
        key_of-with_key_other keys _ _ (front_path (front.RingRefOf q)) (pages_differ p q low few differ) ∙ h

-- what the front said it says after it said another key
pub front_kept : (keys : List (List ℕ × List ℕ)) (terms : FrontTerms) (k j : FrontKey) → Beside k j → FrontSays (front_texts keys) terms j
    → FrontSays (front_texts (with_key keys (front_path k) (text_of (front_value terms k)))) terms j
front_kept keys terms front.RingPageOrder front.RingPageOrder b h = key_of-with_key_same keys _ _
front_kept keys terms front.RingRef front.RingRef b h = key_of-with_key_same keys _ _
front_kept keys terms front.EventChannel front.EventChannel b h = key_of-with_key_same keys _ _
front_kept keys terms front.Protocol front.Protocol b h = key_of-with_key_same keys _ _
front_kept keys terms front.FeaturePersistent front.FeaturePersistent b h = key_of-with_key_same keys _ _
front_kept keys terms front.RingRef (front.RingRefOf page) b h = absurd b
front_kept keys terms (front.RingRefOf page) front.RingRef b h = absurd b
front_kept keys terms (front.RingRefOf page) (front.RingRefOf other) b h = page_kept keys terms page other b.0 b.1 h
front_kept keys terms k j b h = rw (key_kept keys (front_path k) (text_of (front_value terms k)) (front_path j) refl) h

-- a key that the front sets says what it has to say
pub front_said : (keys : List (List ℕ × List ℕ)) (terms : FrontTerms) (k : FrontKey)
    → FrontSays (front_texts (with_key keys (front_path k) (text_of (front_value terms k)))) terms k
front_said keys terms k = key_of-with_key_same keys (front_path k) (text_of (front_value terms k))

-- a ring of one page says no order
pub no_order_kept : (keys : List (List ℕ × List ℕ)) (k : FrontKey) (text : List ℕ) → bytes_eq (front_path front.RingPageOrder) (front_path k) ≡ false
    → front_texts keys front.RingPageOrder ≡ None → front_texts (with_key keys (front_path k) text) front.RingPageOrder ≡ None
no_order_kept keys k text differs h = rw (key_kept keys (front_path k) text (front_path front.RingPageOrder) differs) h

-- what is said of the ring stays said
pub ring_kept : (keys : List (List ℕ × List ℕ)) (terms : FrontTerms) (k : FrontKey) → bytes_eq (front_path front.RingPageOrder) (front_path k) ≡ false
    → Beside k front.RingRef → ((page : ℕ) → Beside k (front.RingRefOf page)) → Beside k front.RingPageOrder → IsRingSaid (front_texts keys) terms
    → IsRingSaid (front_texts (with_key keys (front_path k) (text_of (front_value terms k)))) terms
ring_kept keys terms k differs only pages order h = record {
  only = λ e. (front_kept keys terms k front.RingRef only (h.only e).0, no_order_kept keys k _ differs (h.only e).1);
  order = λ some. front_kept keys terms k front.RingPageOrder order (h.order some);
  pages = λ some page low. front_kept keys terms k (front.RingRefOf page) (pages page) (h.pages some page low);
}
