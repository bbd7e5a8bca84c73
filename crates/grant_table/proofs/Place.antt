-- What a binary search by number finds among live mappings.
use Rattle.std.proofs.Common.{◌≡◌, ℕ, ◌<◌, ◌≤◌, List, length, None, Result, Ok, Err, IfSome, IfNone, IsSomeAnd, inl, inr, sym, ap, ◌∙◌, arith}
use Rattle.std.specs.Result.{result_ok}
use Rattle.std.specs.List.Sorted.{IsSearchInRange, IsBinarySearchResult, IsNonDecreasingBy}
use Rattle.std.specs.Ordering.{nat_cmp, ordering_index}
use Rattle.std.proofs.lemmas.Bool.{cases_lt}
use Rattle.std.proofs.lemmas.Cmp.{ranked}
use Rattle.std.proofs.lemmas.List.Sorted.{IsNonDecreasingBy-from_default}
use Rattle.std.proofs.lemmas.Bool.Decides.{nat_tests}
use Rattle.blk_base.specs.declared.parts.Mapping.{Mapping}
use Rattle.grant_table.specs.declared.held.Held.{Held}
use Rattle.grant_table.specs.Table.{held_of, without}
use Rattle.grant_table.specs.Sound.{IsAscending, IsPlace, IsPlaceOf, nothing_held}
use Rattle.grant_table.proofs.Live.{number_at, ascends, held_of-number_at, held_of_absent, without-number_at}

module _ (live : List Held) (up : IsAscending 0 live) (number : ℕ) where
  comparisons_rise : IsNonDecreasingBy (λ held. ordering_index (nat_cmp held.mapping.number number)) live
  comparisons_rise = IsNonDecreasingBy-from_default (λ held. ordering_index (nat_cmp held.mapping.number number)) live nothing_held (λ i j le in_range.
      let rise : number_at live i ≤ number_at live j = grind (arith, ascends 0 live up i j, λ (same : i ≡ j). ap (number_at live) same) in
      grind (arith, nat_tests))

  pub is_place : (place : ℕ) → place < length live → number_at live place ≡ number → IsPlace live number place
  is_place place within same = record {
    within = within;
    found = ap (λ n. held_of n live) (sym same) ∙ held_of-number_at 0 live place up within;
    others = ap (λ n. without n live) (sym same) ∙ without-number_at 0 live place up within;
  }

  -- the place of the number, or no mapping has it
  pub searched : (answer : Result ℕ ℕ) → IsSearchInRange answer (length live) → IsBinarySearchResult (λ held. nat_cmp held.mapping.number number) live answer → IfSome (result_ok answer) (IsPlace live number) × IfNone (result_ok answer) (held_of number live ≡ None)
  searched (Ok at) in_range equal = (is_place at in_range (ranked _ number _ (sym (equal nothing_held))), tt)
  searched (Err at) in_range parted = (
    tt,
    held_of_absent number live (λ i within same.
        let less : i < at → number_at live i < number = λ before. ranked _ number _ (sym ((parted comparisons_rise).0 i nothing_held (omega arith) before)) in
        let greater : at ≤ i → number < number_at live i = λ after. ranked _ number _ (sym ((parted comparisons_rise).1 i nothing_held after within)) in
        elim (cases_lt i at) [ inl before ↦ omega (arith, less before) | inr after ↦ omega (arith, greater after) ]),
  )

-- what is found by a live mapping's number is that mapping
pub place_of_live : (live : List Held) (mapping : Mapping) (place : ℕ) → IsSomeAnd (held_of mapping.number live) (λ held. held.mapping ≡ mapping) → IsPlace live mapping.number place → IsPlaceOf live mapping place
place_of_live live mapping place is_live there = record { is_place = there; here = rw there.found at is_live }
