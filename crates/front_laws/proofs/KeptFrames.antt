-- The first of a request's frames whose grant isn't kept, and the lowest frame whose grant is.
use Rattle.std.proofs.Common.{◌≡◌, ◌≢◌, ℕ, ◌+◌, ◌-◌, ◌<◌, ◌≤◌, inl, inr, not, Bool, true, false, cond, List, length, drop, get_or, refl, sym, ap, ◌∙◌, subst, arith, length-set, get_or-set_same, get_or-set_other}
use Rattle.std.specs.Prelude.{All, Option, Some, None, nat_lt, position}
use Rattle.std.specs.Option.{option_map}
use Rattle.std.specs.List.{position_or_len}
use Rattle.std.proofs.lemmas.Bool.{cases_lt}
use Rattle.std.proofs.lemmas.Bool.Decides.{nat_tests}
use Rattle.std.proofs.lemmas.List.{get_or-drop, get_or_default, length-drop, get_or-replicate, length-replicate, ext_get_or}
use Rattle.std.proofs.lemmas.List.Sums.{fails_before_first, passes_at_first}
use Rattle.blk_front.specs.Pool.{empty_pool, with_taken, with_free, is_taken, taken_from, untaken_from}
use Rattle.front_laws.proofs.Places.{IsPooled}

-- a test fails for each element before a place
module _ {X : Type 0} where
  abbrev pub FailsTo : (X → Bool) → List X → ℕ → Type 0
  FailsTo p l place = (k : ℕ) (d : X) → k < place → k < length l → p (get_or l k d) ≡ false

  -- the first element from a place on for which it doesn't
  abbrev pub FirstIs : (X → Bool) → List X → ℕ → Option ℕ → Type 0
  FirstIs p l place None = FailsTo p l (length l)
  FirstIs p l place (Some more) = (place + more < length l) × ((d : X) → p (get_or l (place + more) d) ≡ true) × FailsTo p l (place + more)

  -- an element from the place on is one of the others
  later : (l : List X) (place k : ℕ) (d : X) → place ≤ k → get_or (drop place l) (k - place) d ≡ get_or l k d
  later l place k d le = get_or-drop place l (k - place) d ∙ ap (λ (n : ℕ). get_or l n d) (omega arith)

  fails_on : (p : X → Bool) (l : List X) (place : ℕ) → FailsTo p l place → FailsTo p l (place + position_or_len p (drop place l))
  fails_on p l place before k d lt within = elim (cases_lt k place) [
    | inl early ↦ before k d early within
    | inr late ↦
        let same : get_or (drop place l) (k - place) d ≡ get_or l k d = later l place k d late in
        subst (λ (x : X). p x ≡ false) same (fails_before_first p (drop place l) (k - place) d (omega arith))
  ]

  pub first_is : (p : X → Bool) (l : List X) (place : ℕ) → FailsTo p l place → FirstIs p l place (position p (drop place l))
  first_is p l place before =
      let n : ℕ = position_or_len p (drop place l) in
      let size : length (drop place l) ≡ length l - place = length-drop place l in
      elim (cases_lt n (length (drop place l))) [
        | inl lt ↦
            let found : nat_lt n (length (drop place l)) ≡ true = grind (arith, nat_tests) in
            subst (λ (b : Bool). FirstIs p l place (cond b (Some n) None)) (sym found)
            ((omega arith), (λ d. subst (λ (x : X). p x ≡ true) (get_or-drop place l n d) (passes_at_first p (drop place l) d lt)), fails_on p l place before)
        | inr none ↦
            let lost : nat_lt n (length (drop place l)) ≡ false = grind (arith, nat_tests) in
            subst (λ (b : Bool). FirstIs p l place (cond b (Some n) None)) (sym lost)
            (λ k d lt within. fails_on p l place before k d (omega arith) within)
      ]

pub not_false : (b : Bool) → not b ≡ false → b ≡ true
not_false true e = refl
not_false false e = sym e

pub not_true : (b : Bool) → not b ≡ true → b ≡ false
not_true true e = sym e
not_true false e = refl

-- the frames before a place are kept; one at a place isn't, and those before it are
abbrev pub AreKeptTo : List Bool → List ℕ → ℕ → Type 0
AreKeptTo kept frames place = (k d : ℕ) → k < place → k < length frames → is_taken kept (get_or frames k d) ≡ true

pub record IsNew (kept : List Bool) (frames : List ℕ) (place : ℕ) : Type 0 where
  pub within : place < length frames
  pub new : is_taken kept (get_or frames place 18) ≡ false
  pub before : AreKeptTo kept frames place

abbrev pub UntakenIs : List Bool → List ℕ → Option ℕ → Type 0
UntakenIs kept frames None = All (λ (frame : ℕ). is_taken kept frame ≡ true) frames
UntakenIs kept frames (Some place) = IsNew kept frames place

pub untaken_is : (kept : List Bool) (frames : List ℕ) (place : ℕ) → AreKeptTo kept frames place → UntakenIs kept frames (untaken_from kept frames place)
untaken_is kept frames place before = by_first (position (λ (frame : ℕ). not (is_taken kept frame)) (drop place frames)) (first_is (λ (frame : ℕ). not (is_taken kept frame)) frames place (λ k d lt within. ap not (before k d lt within)))
  where
    by_first : (o : Option ℕ) → FirstIs (λ (frame : ℕ). not (is_taken kept frame)) frames place o → UntakenIs kept frames (option_map (λ (more : ℕ). place + more) o)
    by_first None fails = λ k d lt. not_false (is_taken kept (get_or frames k d)) (fails k d lt lt)
    by_first (Some more) first = record {
      within = first.0;
      new = not_true (is_taken kept (get_or frames (place + more) 18)) (first.1 18);
      before = λ k d lt within. not_false (is_taken kept (get_or frames k d)) (first.2 k d lt within);
    }

-- no frame of the pool below this one is kept; the lowest one that is
abbrev pub NoneBelow : List Bool → ℕ → Type 0
NoneBelow kept frame = (f : ℕ) → 18 ≤ f → f < frame → is_taken kept f ≡ false

pub record IsLowest (kept : List Bool) (frame : ℕ) : Type 0 where
  pub pooled : IsPooled frame
  pub taken : is_taken kept frame ≡ true
  pub below : NoneBelow kept frame

abbrev pub TakenIs : List Bool → Option ℕ → Type 0
TakenIs kept None = NoneBelow kept 1018
TakenIs kept (Some frame) = IsLowest kept frame

pub taken_is : (kept : List Bool) (frame : ℕ) → length kept ≡ 1000 → 18 ≤ frame → NoneBelow kept frame → TakenIs kept (taken_from kept frame)
taken_is kept frame size low below =
    by_first (position (λ (t : Bool). t) (drop (frame - 18) kept)) (first_is (λ (t : Bool). t) kept (frame - 18) none_before)
  where
    none_before : FailsTo (λ (t : Bool). t) kept (frame - 18)
    none_before k d lt within = same_default k d within ∙ (ap (λ (n : ℕ). get_or kept n false) (omega arith) ∙ below (18 + k) (omega arith) (omega arith))
      where
        same_default : (k : ℕ) (d : Bool) → k < length kept → get_or kept k d ≡ get_or kept k false
        same_default k d within = get_or_default kept k d false within

    by_first : (o : Option ℕ) → FirstIs (λ (t : Bool). t) kept (frame - 18) o → TakenIs kept (option_map (λ (more : ℕ). frame + more) o)
    by_first None fails = λ f from to. fails (f - 18) false (omega arith) (omega arith)
    by_first (Some more) first =
        let there : (frame + more) - 18 ≡ frame - 18 + more = omega arith in
        record {
          pooled = (let within = first.0 in (omega arith, omega arith));
          taken = ap (λ (n : ℕ). get_or kept n false) there ∙ first.1 false;
          below = λ f from to. first.2 (f - 18) false (omega arith) (let within = first.0 in omega arith);
        }

-- none at all
pub none_kept : (frame : ℕ) → IsPooled frame → is_taken empty_pool frame ≡ false
none_kept frame pooled = let from = pooled.0 in let to = pooled.1 in get_or-replicate 1000 (frame - 18) false false (omega arith)

pub all_empty : (kept : List Bool) → length kept ≡ 1000 → NoneBelow kept 1018 → kept ≡ empty_pool
all_empty kept size none = ext_get_or false kept empty_pool (size ∙ sym (length-replicate 1000 false)) each
  where
    each : (i : ℕ) → i < length kept → get_or kept i false ≡ get_or empty_pool i false
    each i lt = ap (λ (n : ℕ). get_or kept n false) (omega arith) ∙ (none (18 + i) (omega arith) (omega arith) ∙ sym (get_or-replicate 1000 i false false (omega arith)))

-- a frame whose grant is made is kept, and one whose grant is ended isn't; others are as before
module _ (kept : List Bool) (frame : ℕ) (size : length kept ≡ 1000) (pooled : IsPooled frame) where
  place_in : frame - 18 < length kept
  place_in = let from = pooled.0 in let to = pooled.1 in omega arith

  apart : (f : ℕ) → 18 ≤ f → f ≢ frame → f - 18 ≢ frame - 18
  apart f from other = λ same. other (let low = pooled.0 in omega arith)

  pub taken_same : is_taken (with_taken kept frame) frame ≡ true
  taken_same = get_or-set_same kept (frame - 18) true false place_in

  pub taken_other : (f : ℕ) → 18 ≤ f → f ≢ frame → is_taken (with_taken kept frame) f ≡ is_taken kept f
  taken_other f from other = get_or-set_other kept (frame - 18) (f - 18) true false (apart f from other)

  pub free_same : is_taken (with_free kept frame) frame ≡ false
  free_same = get_or-set_same kept (frame - 18) false false place_in

  pub free_other : (f : ℕ) → 18 ≤ f → f ≢ frame → is_taken (with_free kept frame) f ≡ is_taken kept f
  free_other f from other = get_or-set_other kept (frame - 18) (f - 18) false false (apart f from other)

  pub size_taken : length (with_taken kept frame) ≡ 1000
  size_taken = length-set kept (frame - 18) true ∙ size

  pub size_free : length (with_free kept frame) ≡ 1000
  size_free = length-set kept (frame - 18) false ∙ size
