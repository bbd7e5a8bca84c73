-- The requests of an epoch in the order in which they are pushed: their series. The request at index k of the ring is the one at place k of the series, whatever its number.
use Rattle.std.proofs.Common.{◌==◌, ◌≡◌, ◌≢◌, ℕ, zero, suc, ◌+◌, ◌-◌, ◌<◌, ◌≤◌, ◌⊎◌, inl, inr, List, [], ◌∷◌, ◌++◌, length, ap, sym, ◌∙◌, arith, true}
use Rattle.std.specs.Prelude.{AllPairs, Some, slice_get}
use Rattle.std.proofs.lemmas.Bool.{cases_lt, cases_order, cases_eq}
use Rattle.std.proofs.lemmas.Option.{same_Some, slice_get_within}
use Rattle.blk_front.specs.declared.request.Request.{Request}
use Rattle.machine_pipeline.proofs.Lists.{get_append, get_within, pair_at, place_of_any}
use Rattle.std.specs.List.{list_any}
use Rattle.std.proofs.lemmas.Bool.Decides.{nat_tests}

-- each is a submitted one, in order of number
pub record IsSeries (submitted series : List Request) : Type 0 where
  pub known : (i : ℕ) (r : Request) → slice_get series i ≡ Some r → slice_get submitted (r.number - 1) ≡ Some r
  pub positive : (i : ℕ) (r : Request) → slice_get series i ≡ Some r → 1 ≤ r.number
  pub ascending : AllPairs (λ (r s : Request). r.number < s.number) series

-- a request is one of the first so many
pub record IsAmong (series : List Request) (count : ℕ) (r : Request) : Type 0 where
  pub index : ℕ
  pub early : index < count
  pub at : slice_get series index ≡ Some r

-- so is one of this number
pub record HasNumber (series : List Request) (count number : ℕ) : Type 0 where
  pub r : Request
  pub among : IsAmong series count r
  pub same : r.number ≡ number

-- the request of this number among these
pub numbered : (requests : List Request) (n : ℕ) → list_any (λ (r : Request). r.number == n) requests ≡ true → (i : ℕ) × (r : Request) × (slice_get requests i ≡ Some r) × (r.number ≡ n)
numbered requests n any = let found = place_of_any (λ (r : Request). r.number == n) requests any in (found.0, found.1, found.2, grind (arith, nat_tests, found.3))

-- and the request at this place of all is a later one
pub record IsLeft (series : List Request) (count k : ℕ) : Type 0 where
  pub index : ℕ
  pub late : count ≤ index
  pub r : Request
  pub at : slice_get series index ≡ Some r
  pub number : r.number ≡ k + 1

-- of those that are left another one than the first comes after it
pub left_more : (series : List Request) (count k j : ℕ) (r : Request) → slice_get series count ≡ Some r → r.number ≡ k + 1 → j ≢ k → IsLeft series count j → IsLeft series (count + 1) j
left_more series count k j r next number apart left =
    let other : left.index ≢ count = λ here. apart (omega (arith, left.number, number, ap (λ (z : Request). z.number) (same_Some left.r r (sym left.at ∙ (ap (slice_get series) here ∙ next))))) in
    record { index = left.index; late = omega (arith, left.late, other); r = left.r; at = left.at; number = left.number }

pub left_grown : (series : List Request) (x : Request) {count k : ℕ} → IsLeft series count k → IsLeft (series ++ x ∷ []) count k
left_grown series x left = record { index = left.index; late = left.late; r = left.r; at = get_append series (x ∷ []) left.index left.r left.at; number = left.number }

-- indices and numbers have one order
pub lower : (series : List Request) (i j : ℕ) (r s : Request) → AllPairs (λ (a b : Request). a.number < b.number) series → slice_get series i ≡ Some r → slice_get series j ≡ Some s → i < j → r.number < s.number
lower series i j r s up first second lt = pair_at (λ (a b : Request). a.number < b.number) series i j r s up lt first second

pub before : (series : List Request) (i j : ℕ) (r s : Request) → AllPairs (λ (a b : Request). a.number < b.number) series → slice_get series i ≡ Some r → slice_get series j ≡ Some s → r.number < s.number → i < j
before series i j r s up first second less = elim (cases_order i j) [
  | inl same ↦ (let one = same_Some r s (sym first ∙ (ap (slice_get series) same ∙ second)) in absurd (omega (arith, ap (λ (x : Request). x.number) one)))
  | inr apart ↦ elim apart [ inl lt ↦ lt | inr gt ↦ absurd (omega (arith, lower series j i s r up second first gt)) ]
]

-- so a number stands at one index
pub same_index : (series : List Request) (i j : ℕ) (r s : Request) → AllPairs (λ (a b : Request). a.number < b.number) series → slice_get series i ≡ Some r → slice_get series j ≡ Some s → r.number ≡ s.number → i ≡ j
same_index series i j r s up first second same = elim (cases_order i j) [
  | inl e ↦ e
  | inr apart ↦ elim apart [ inl lt ↦ absurd (omega (arith, lower series i j r s up first second lt)) | inr gt ↦ absurd (omega (arith, lower series j i s r up second first gt)) ]
]

-- and two indices have two numbers, and requests at two places of all
pub other_number : (series : List Request) (i j : ℕ) (r s : Request) → AllPairs (λ (a b : Request). a.number < b.number) series → slice_get series i ≡ Some r → slice_get series j ≡ Some s → i ≢ j → r.number ≢ s.number
other_number series i j r s up first second other same = other (same_index series i j r s up first second same)

pub other_place : (submitted series : List Request) (i j : ℕ) (r s : Request) → IsSeries submitted series → slice_get series i ≡ Some r → slice_get series j ≡ Some s → i ≢ j → r.number - 1 ≢ s.number - 1
other_place submitted series i j r s h first second other same =
    other_number series i j r s h.ascending first second other (omega (arith, h.positive j s second, h.positive i r first))

-- one of the first is not a later one
pub among_apart : (submitted series : List Request) (count j : ℕ) (r s : Request) → IsSeries submitted series → IsAmong series count r → slice_get series j ≡ Some s → count ≤ j → r.number ≢ s.number
among_apart submitted series count j r s h x at late = other_number series x.index j r s h.ascending x.at at (let early = x.early in omega arith)

-- one is among more too
pub among_more : {series : List Request} (count more : ℕ) (r : Request) → count ≤ more → IsAmong series count r → IsAmong series more r
among_more count more r le x = record { index = x.index; early = (let early = x.early in omega arith); at = x.at }

pub numbered_more : {series : List Request} (count more number : ℕ) → count ≤ more → HasNumber series count number → HasNumber series more number
numbered_more count more number le x = record { r = x.r; among = among_more count more x.r le x.among; same = x.same }

-- among one more it was among the others, or is the last
pub among_last : {series : List Request} (count : ℕ) (r : Request) → IsAmong series (count + 1) r → (IsAmong series count r) ⊎ (slice_get series count ≡ Some r)
among_last {series} count r x = elim (cases_lt x.index count) [
  | inl early ↦ inl (record { index = x.index; early = early; at = x.at })
  | inr late ↦ inr (ap (slice_get series) (let early = x.early in omega arith) ∙ x.at)
]

-- what a series has it has once one more follows
pub among_grown : {series : List Request} (count : ℕ) (r x : Request) → IsAmong series count r → IsAmong (series ++ x ∷ []) count r
among_grown {series} count r x h = record { index = h.index; early = h.early; at = get_append series (x ∷ []) h.index r h.at }

pub numbered_grown : {series : List Request} (count number : ℕ) (x : Request) → HasNumber series count number → HasNumber (series ++ x ∷ []) count number
numbered_grown count number x h = record { r = h.r; among = among_grown count h.r x h.among; same = h.same }

-- and its first ones are as they were
pub grown_before : (series : List Request) (x : Request) (i : ℕ) → i < length series → slice_get (series ++ x ∷ []) i ≡ slice_get series i
grown_before series x i lt = let was = get_within series i lt in get_append series (x ∷ []) i was.0 was.1 ∙ sym was.1

pub among_was : {series : List Request} (count : ℕ) (r x : Request) → count ≤ length series → IsAmong (series ++ x ∷ []) count r → IsAmong series count r
among_was {series} count r x few h = record { index = h.index; early = h.early; at = sym (grown_before series x h.index (let early = h.early in omega arith)) ∙ h.at }

-- numbers ascend from 1, so no more are in a series than were submitted
index_under : (submitted series : List Request) (i : ℕ) (r : Request) → IsSeries submitted series → slice_get series i ≡ Some r → i < r.number
index_under submitted series zero r h e = h.positive zero r e
index_under submitted series (suc i) r h e =
    let before = get_within series i (let within = slice_get_within series (suc i) r e in omega arith) in
    let under = index_under submitted series i before.0 h before.1 in
    omega (arith, lower series i (suc i) before.0 r h.ascending before.1 e (omega arith))

pub series_few : (submitted series : List Request) → IsSeries submitted series → length series ≤ length submitted
series_few submitted series h = elim (cases_eq (length series) 0) [
  | inl e ↦ omega arith
  | inr some ↦
      let last = get_within series (length series - 1) (omega arith) in
      omega (arith, slice_get_within submitted _ last.0 (h.known (length series - 1) last.0 last.1), index_under submitted series (length series - 1) last.0 h last.1)
]
