-- The request of a response is one that the lines tell as issued and unanswered, and the id's words lie in an entry.
use Rattle.std.proofs.Common.{◌≡◌, ℕ, ◌+◌, ◌-◌, ◌<◌, ◌≤◌, ◌==◌, Bool, true, false, List, length, take, refl, sym, ap, ◌∙◌, subst, arith}
use Rattle.std.specs.Prelude.{Option, Some, None, slice_get, nat_lt, position}
use Rattle.std.specs.Option.{option_map}
use Rattle.std.proofs.lemmas.Option.{none-some, same_Some}
use Rattle.std.proofs.lemmas.Bool.Decides.{nat_tests}
use Rattle.blk_base.specs.declared.operation.Abi.{Abi}
use Rattle.blk_base.specs.declared.operation.Abi.TheVariants.{X64, X32}
use Rattle.ring_words.specs.Shape.{entry_words_of}
use Rattle.blk_layout.specs.Places.{places_of}
use Rattle.blk_front.specs.declared.request.Request.{Request}
use Rattle.blk_front.specs.View.{View}
use Rattle.blk_front.specs.Step.{found_at, issued}
use Rattle.vbd_laws.specs.Breaks.{is_among}
use Rattle.machine_pipeline.proofs.Lists.{found_at as place_found, count_one, count_none}
use Rattle.machine_pipeline.proofs.Removals.{taken_was, found_somewhere}
use Rattle.vbd_laws.proofs.BreaksCounts.{count_id, count_number, among_count}
use Rattle.vbd_laws.proofs.BreaksKnown.{Core, share_of, Agree}

-- what a response is for is one of the front's requests, and was issued
pub record IsFound (v : View) (id : ℕ) (found : ℕ × Request) : Type 0 where
  pub at : slice_get v.requests found.0 ≡ Some found.1
  pub number : found.1.number ≡ id
  pub early : found.0 < length v.requests - v.waiting

module _ (v : View) (id : ℕ) where
  abbrev test : Request → Bool
  test r = r.number == id

  abbrev first : List Request
  first = take (length v.requests - v.waiting) v.requests

  found_as : (o : Option ℕ) (found : ℕ × Request) → position test first ≡ o → found_at v.requests o ≡ Some found → IsFound v id found
  found_as None found is e = absurd (none-some found e)
  found_as (Some place) found is e =
      let there = place_found test first place is in
      let was = taken_was (length v.requests - v.waiting) v.requests place there.0 there.1 in
      let same : (place, there.0) ≡ found = same_Some (place, there.0) found (ap (option_map (λ (r : Request). (place, r))) (sym was.1) ∙ e) in
      let number : there.0.number ≡ id = grind (arith, nat_tests, there.2) in
      subst (IsFound v id) same (record { at = was.1; number = number; early = was.0 })

  pub found_is : (found : ℕ × Request) → issued v id ≡ Some found → IsFound v id found
  found_is found e = found_as (position test first) found refl e

  none_as : (o : Option ℕ) → position test first ≡ o → found_at v.requests o ≡ None → count_number id first ≡ 0
  none_as (Some place) is e =
      let there = place_found test first place is in
      let was = taken_was (length v.requests - v.waiting) v.requests place there.0 there.1 in
      absurd (none-some (place, there.0) (sym e ∙ ap (option_map (λ (r : Request). (place, r))) was.1))
  none_as None is e = count_none test first (λ i x at. by_test i x at (test x) refl)
    where
      by_test : (i : ℕ) (x : Request) → slice_get first i ≡ Some x → (b : Bool) → test x ≡ b → test x ≡ false
      by_test i x at false t = t
      by_test i x at true t = let there = found_somewhere test first i x at t in absurd (none-some there.0 (sym is ∙ there.1))

  pub none_is : issued v id ≡ None → count_number id first ≡ 0
  none_is e = none_as (position test first) refl e

  pub some_count : (found : ℕ × Request) → issued v id ≡ Some found → 1 ≤ count_number id first
  some_count found e = by_place (position test first) refl e
    where
      by_place : (o : Option ℕ) → position test first ≡ o → found_at v.requests o ≡ Some found → 1 ≤ count_number id first
      by_place None is e = absurd (none-some found e)
      by_place (Some place) is e = let there = place_found test first place is in count_one test first place there.0 there.1 there.2

  -- so the lines say
  module _ (c : Core) (h : Agree c (share_of v) None) where
    counted : count_id id c.issued ≡ count_number id first
    counted = let was = h.issued id in omega arith

    pub none_among : issued v id ≡ None → is_among id c.issued ≡ false
    none_among e = among_count id c.issued ∙ ap (nat_lt 0) (counted ∙ none_is e)

    pub some_among : (found : ℕ × Request) → issued v id ≡ Some found → is_among id c.issued ≡ true
    some_among found e = let some = some_count found e in let same = counted in among_count id c.issued ∙ (grind (arith, nat_tests))

-- the words of the id lie in an entry
pub id_within : (abi : Abi) → (places_of abi).id + 1 < entry_words_of abi
id_within X64 = omega arith
id_within X32 = omega arith
