-- The key at the path of each key that the back reads is that key.
use Rattle.std.proofs.Common.{◌≡◌, ℕ, zero, suc, ◌^◌, ◌<◌, ◌≢◌, Bool, true, false, true≢false, if◌then◌else◌, List, [], ◌∷◌, ◌++◌, length, refl, sym, ap, ◌∙◌, arith, codes, decimal}
use Rattle.std.specs.Prelude.{Option, Some}
use Rattle.std.specs.Str.{bytes_eq}
use Rattle.std.proofs.lemmas.List.{append_cancel_left}
use Rattle.std.proofs.lemmas.Slice.Eq.{bytes_eq-Decides}
use Rattle.std.proofs.lemmas.Fmt.{decimal_injective, decimal_nonempty}
use Rattle.blk_base.specs.declared.parts.End.TheVariants as end
use Rattle.xenbus_state.specs.declared.keys.FrontKey.{FrontKey}
use Rattle.xenbus_state.specs.declared.keys.FrontKey.TheVariants as key
use Rattle.xenbus_state.specs.Keys.{path_under}
use Rattle.negotiation_laws.specs.Negotiation.{front_path}
use Rattle.vbd_laws.specs.Halts.{BackSight, page_at, key_at, key_halt, read_halt}

-- the back reads no other: a page of the ring is one of 16
abbrev pub IsReadKey : FrontKey → Type 0
IsReadKey (key.RingRefOf page) = page < 16
IsReadKey k = Unit {0}

-- paths of two pages are one where the pages are
page_path : List ℕ → List ℕ
page_path digits = path_under end.Front (codes "ring-ref" ++ digits)

page_found : (pages page : ℕ) → page < pages → pages < 2 ^ 64 → page_at pages (front_path (key.RingRefOf page)) ≡ Some (key.RingRefOf page)
unfolding page_at
page_found zero page below few = absurd (omega arith)
page_found (suc pages) page below few = by_test (bytes_eq (front_path (key.RingRefOf page)) (front_path (key.RingRefOf pages))) (λ less. page_found pages page less (omega arith)) refl
  where
    by_test : (b : Bool) → (page < pages → page_at pages (front_path (key.RingRefOf page)) ≡ Some (key.RingRefOf page)) → bytes_eq (front_path (key.RingRefOf page)) (front_path (key.RingRefOf pages)) ≡ b
        → (if b then Some (key.RingRefOf pages) else page_at pages (front_path (key.RingRefOf page))) ≡ Some (key.RingRefOf page)
    by_test true rest e =
        let paths : front_path (key.RingRefOf page) ≡ front_path (key.RingRefOf pages) = (bytes_eq-Decides _ _).0 e in
        let digits : decimal page ≡ decimal pages = append_cancel_left (path_under end.Front (codes "ring-ref")) (decimal page) (decimal pages) paths in
        let same : page ≡ pages = decimal_injective page pages (omega arith) (omega arith) digits in
        ap (λ (n : ℕ). Some (key.RingRefOf n)) (sym same)
    by_test false rest e =
        let other : page ≢ pages = λ same. true≢false (sym ((bytes_eq-Decides _ _).1 (ap (λ (n : ℕ). front_path (key.RingRefOf n)) same)) ∙ e) in
        rest (omega arith)

-- a page's key is none of the others
page_at_last : (digits : List ℕ) → 0 < length digits → key_at (page_path digits) ≡ page_at 16 (page_path digits)
unfolding key_at page_path
page_at_last [] some = absurd (omega arith)
page_at_last (c ∷ digits) some = refl

key_found : (k : FrontKey) → IsReadKey k → key_at (front_path k) ≡ Some k
unfolding key_at page_path
key_found (key.RingRefOf page) is = page_at_last (decimal page) (decimal_nonempty page (omega arith)) ∙ page_found 16 page is (omega arith)
key_found other is = refl

-- and no key lies where the front's state does
pub read_key : (k : FrontKey) (v : BackSight) (text : Option (List ℕ)) → IsReadKey k → read_halt v (front_path k) text ≡ key_halt v.order (Some k) text
read_key k v text is = other k ∙ ap (λ (found : Option FrontKey). key_halt v.order found text) (key_found k is)
  where
    other : (k : FrontKey) → read_halt v (front_path k) text ≡ key_halt v.order (key_at (front_path k)) text
    other key.RingPageOrder = refl
    other key.RingRef = refl
    other key.EventChannel = refl
    other key.Protocol = refl
    other key.FeaturePersistent = refl
    other (key.RingRefOf page) = refl
