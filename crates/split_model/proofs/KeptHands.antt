-- The mappings that live are those that are held, in any order: what a map and an unmap make of both where jobs keep mappings.
use Rattle.std.proofs.Common.{◌≡◌, ◌+◌, ◌==◌, cond, List, [], ◌∷◌, ◌++◌, refl, inl, inr, sym, ◌∙◌}
use Rattle.std.specs.Prelude.{Some, Contains, IsPermutation}
use Rattle.std.proofs.lemmas.List.Elements.{Contains-append_left, Contains-append_right, Contains-append_cases}
use Rattle.std.proofs.lemmas.List.Sorted.{All-permutation, length_permutation, sum_by-IsPermutation}
use Rattle.blk_base.specs.declared.parts.Mapping.{Mapping}
use Rattle.blk_base.specs.declared.ask.BackAsk.{BackAsk}
use Rattle.blk_base.specs.declared.ask.BackAsk.TheVariants as back_ask
use Rattle.blk_base.specs.declared.moves.BackMover.{BackMover}
use Rattle.persist_grants.specs.KeptMappings.{mappings_of}
use Rattle.grant_table.specs.Table.{GrantTable, IsLive}
use Rattle.hypervisor.specs.Hypervisor.{Hypervisor}
use Rattle.hypervisor.specs.Act.{BackAct, Outcome, back_act}
use Rattle.back_jobs.specs.Hands.{hands_in, Names, HandsKeep}
use Rattle.blk_back.specs.View as back
use Rattle.blk_back.specs.Hands.{aborted, hands_of, all_hands_of}
use Rattle.split_model.specs.Safe.{AreHeld}
use Rattle.split_model.proofs.Acting.{BackMap, BackUnmap, back_acts}
use Rattle.split_model.proofs.SafeHands.{held_more, held_less}

pub held_as : (table : GrantTable) (hands hands' : List Mapping) → IsPermutation hands hands' → AreHeld table hands → AreHeld table hands'
held_as table hands hands' same held = record {
  live = All-permutation (IsLive table) hands hands' same held.live;
  counted = λ number. sum_by-IsPermutation (λ (m : Mapping). cond (m.number == number) 1 0) hands hands' same ∙ held.counted number;
  as_many = held.as_many ∙ sym (length_permutation hands hands' same);
  ascending = held.ascending;
  made_before = held.made_before;
}

-- the mappings that live are those that are held before an act and after it
pub held_keep : (h : Hypervisor) (who : BackMover) (ask : BackAsk) (o : Outcome) (a : BackAct) (hands hands' : List Mapping) → AreHeld h.grants hands → back_act h who ask o ≡ Some a → HandsKeep ask a.answer hands hands' → AreHeld a.under.grants hands'
held_keep h who ask o a hands hands' held e = elim (back_acts h who ask o a e) as (λ mover asked outcome x acts. HandsKeep asked x.answer hands hands' → AreHeld x.under.grants hands') [
  | BackMap gref mode frame is ↦ λ after.
      let m : Mapping = record { number = h.grants.made + 1; gref = gref; mode = mode } in
      let more = held_more h.grants m frame hands (m ∷ hands) refl held (record { front = []; rest = hands; without = refl; with_it = refl }) in
      held_as _ (m ∷ hands) hands' after more
  | BackUnmap m ↦ λ after. held_less h.grants m (m ∷ hands') hands' (held_as h.grants hands (m ∷ hands') after held) (record { front = []; rest = hands'; without = refl; with_it = refl })
  | acts ↦ λ after. held_as h.grants hands hands' after held
]

-- what is in the hands is among all that is held
among : (over works kept pages : List Mapping) (m : Mapping) → Contains (over ++ (works ++ pages)) m → Contains (over ++ ((works ++ kept) ++ pages)) m
among over works kept pages m has = elim (Contains-append_cases over (works ++ pages) m has) [
  | inl first ↦ Contains-append_left over ((works ++ kept) ++ pages) m first
  | inr rest ↦ Contains-append_right over ((works ++ kept) ++ pages) m (elim (Contains-append_cases works pages m rest) [
    | inl own ↦ Contains-append_left (works ++ kept) pages m (Contains-append_left works kept m own)
    | inr ring ↦ Contains-append_right (works ++ kept) pages m ring
  ])
]

has_more : (v : back.View) (m : Mapping) → Contains (hands_of v) m → Contains (all_hands_of v) m
has_more v m has = among (aborted v.stage) (hands_in v.jobs.works) (mappings_of v.jobs.kept) v.pages m has

-- so an ask that names what is in the hands names what is held
pub names_more : (v : back.View) (ask : BackAsk) → Names (hands_of v) ask → Names (all_hands_of v) ask
names_more v (back_ask.Read m word) names = (has_more v m names.0, names.1)
names_more v (back_ask.Write m word value) names = (has_more v m names.0, names.1, names.2)
names_more v (back_ask.Unmap m) names = has_more v m names
names_more v ask names = tt
