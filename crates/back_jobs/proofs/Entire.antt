-- Nothing that jobs hold or keep is lost as a request is begun, as a job is told an answer, and as mappings are given up.
use Rattle.std.proofs.Common.{◌≡◌, ℕ, ◌-◌, ◌≤◌, Bool, true, false, cond, if◌then◌else◌, List, [], ◌∷◌, ◌++◌, take, length, refl, sym, ap, ◌∙◌, subst, arith}
use Rattle.std.specs.Prelude.{Option, Some, None, IsPermutation, option_to_list, slice_get, nat_eq, ◌==◌}
use Rattle.std.specs.Option.{option_map, option_or}
use Rattle.std.specs.Map.{lookup, remove_entry, values_of}
use Rattle.std.proofs.lemmas.Bool.Decides.{nat_tests}
use Rattle.std.proofs.lemmas.Option.{none-some}
use Rattle.std.proofs.lemmas.List.{take_all}
use Rattle.std.proofs.lemmas.List.Sorted.{IsPermutation-refl, IsPermutation-trans, IsPermutation-sym, IsPermutation-middle, IsPermutation-cons, IsPermutation-append_comm}
use Rattle.blk_base.specs.declared.parts.Mapping.{Mapping}
use Rattle.blk_base.specs.declared.ask.BackAnswer.{BackAnswer}
use Rattle.blk_layout.specs.declared.segment.Segment.{Segment}
use Rattle.blk_layout.specs.declared.request.RawRequest.{RawRequest}
use Rattle.segment_list.specs.Verdict.{verdict_of}
use Rattle.persist_grants.specs.KeptMappings.{KeptMappings, may_keep, mapping_for, mappings_of, least_recent, without_least_recent}
use Rattle.persist_grants.specs.PutBack.{makes_room, handed_out, with_mapping}
use Rattle.persist_grants.proofs.Entries.{length-remove_entry, remove_entry-absent, IsPermutation-first}
use Rattle.back_jobs.specs.declared.stage.JobStage.{JobStage}
use Rattle.back_jobs.specs.declared.stage.JobStage.TheVariants as stage
use Rattle.back_jobs.specs.Work.{Work, IsAnswer, begun, step_of, next_segment, rest_of}
use Rattle.back_jobs.specs.Jobs.{HeldJobs, place_of, work_of, work_at, mapping_at, first_mapping}
use Rattle.back_jobs.specs.Hands.{hand_of, HandsKeep}
use Rattle.back_jobs.specs.Keeping.{asked_in, waits_in, ask_keeping, begun_with, takes, returned, failed_with, settled_at, settled, told_keeping, complete_keeping, start_keeping, first_given, given_from, after_given, all_hands}
use Rattle.back_jobs.proofs.Hands.{hand_sector, hand_of_segment, begun_hand}
use Rattle.back_jobs.proofs.Settling.{told_nothing_lost, begun_nothing_lost, given_hand, given_kept}
use Rattle.back_jobs.proofs.Bounds.{AreFew}

-- the mapping that is found of a reference, and the others
found_apart : (test : ℕ → Bool) (es : List (ℕ × Mapping)) → IsPermutation (values_of es) (option_to_list (lookup test es) ++ values_of (remove_entry test es))
found_apart test [] = IsPermutation-refl []
found_apart test (e ∷ es) = by_test (test e.0) (found_apart test es)
  where
    later : (found : Option Mapping) (rest : List Mapping) → IsPermutation (values_of es) (option_to_list found ++ rest) → IsPermutation (e.1 ∷ values_of es) (option_to_list found ++ e.1 ∷ rest)
    later found rest p =
        IsPermutation-trans _ _ _ (IsPermutation-cons e.1 (values_of es) (option_to_list found ++ rest) p)
        (IsPermutation-sym _ _ (IsPermutation-middle (option_to_list found) e.1 rest))

    by_test : (b : Bool) → IsPermutation (values_of es) (option_to_list (lookup test es) ++ values_of (remove_entry test es)) → IsPermutation (e.1 ∷ values_of es) (option_to_list (cond b (Some e.1) (lookup test es)) ++ values_of (cond b es (e ∷ remove_entry test es)))
    by_test true p = IsPermutation-refl (e.1 ∷ values_of es)
    by_test false p = later (lookup test es) (values_of (remove_entry test es)) p

begun_with_hand : (o : Option Mapping) (t : Work) → hand_of t ≡ [] → hand_of (begun_with o t) ≡ option_to_list o
begun_with_hand None t none = none
begun_with_hand (Some m) t none = hand_sector t.writes m

-- a job whose hand is empty comes to a segment
takes_entire : (kept : KeptMappings) (rest : List Segment) (t : Work) → hand_of t ≡ [] → IsPermutation (mappings_of kept) (hand_of (takes kept rest t).job ++ mappings_of (takes kept rest t).kept)
takes_entire kept [] t none = rw none (IsPermutation-refl (mappings_of kept))
takes_entire kept (s ∷ rest) t none = rw (begun_with_hand (mapping_for kept s.gref) t none) (found_apart (nat_eq s.gref) kept.entries)

settled_entire : (s : JobStage) (kept : KeptMappings) (t : Work) → t.stage ≡ s → hand_of t ≡ [] → IsPermutation (mappings_of kept) (hand_of (settled_at s kept t).job ++ mappings_of (settled_at s kept t).kept)
settled_entire stage.Map kept t is none = takes_entire kept t.rest t none
settled_entire (stage.Unmap m) kept t is none = absurd (let held : m ∷ [] ≡ [] = ap (λ (s : JobStage). option_to_list (mapping_at s)) (sym is) ∙ none in cc)
settled_entire (stage.Abort m) kept t is none = absurd (let held : m ∷ [] ≡ [] = ap (λ (s : JobStage). option_to_list (mapping_at s)) (sym is) ∙ none in cc)
settled_entire s kept t is none = rw none (IsPermutation-refl (mappings_of kept))

-- a request is begun
pub started_entire : (h : HeldJobs) (number : ℕ) (request : RawRequest) → IsPermutation (all_hands h) (all_hands (start_keeping h number request))
started_entire h number request =
    let v = verdict_of request h.info in
    let t = begun number request h.info.sectors v in
    let s = settled h.kept t in
    begun_nothing_lost h.works s.job (mappings_of h.kept) (mappings_of s.kept) (settled_entire t.stage h.kept t refl (begun_hand number request h.info.sectors v))

-- the last one apart
last_apart_at : (e : ℕ × Mapping) (es : List (ℕ × Mapping)) → values_of (e ∷ es) ≡ values_of (take (length es) (e ∷ es)) ++ option_to_list (option_map (λ (e : ℕ × Mapping). e.1) (slice_get (e ∷ es) (length es)))
last_apart_at e [] = refl
last_apart_at e (d ∷ es) = ap (λ (l : List Mapping). e.1 ∷ l) (last_apart_at d es)

last_apart : (es : List (ℕ × Mapping)) → values_of es ≡ values_of (take (length es - 1) es) ++ option_to_list (option_map (λ (e : ℕ × Mapping). e.1) (slice_get es (length es - 1)))
last_apart [] = refl
last_apart (e ∷ es) = let n : length (e ∷ es) - 1 ≡ length es = omega arith in rw n (last_apart_at e es)

given_entire_at : (o : Option Mapping) (h : HeldJobs) → first_mapping h.works ≡ o → IsPermutation (all_hands h) (option_to_list (option_or o (least_recent h.kept)) ++ all_hands (given_from o h))
given_entire_at (Some m) h is = given_hand h (Some m) is refl
given_entire_at None h is = given_kept h (option_to_list (least_recent h.kept)) (mappings_of (without_least_recent h.kept)) is (last_apart h.kept.entries)

-- a mapping is given up
pub given_entire : (h : HeldJobs) → IsPermutation (all_hands h) (option_to_list (first_given h) ++ all_hands (after_given h))
given_entire h = given_entire_at (first_mapping h.works) h refl

-- the mapping that makes room for another
room_entire : (kept : KeptMappings) (gref : ℕ) → (kept.cap == 0) ≡ false → AreFew kept → IsPermutation (mappings_of kept) (option_to_list (makes_room kept (mapping_for kept gref)) ++ values_of (take (kept.cap - 1) (remove_entry (nat_eq gref) kept.entries)))
room_entire kept gref some few = by_found (mapping_for kept gref) refl
  where
    by_full : (b : Bool) → (length kept.entries == kept.cap) ≡ b → IsPermutation (mappings_of kept) (option_to_list (if b then least_recent kept else None) ++ values_of (take (kept.cap - 1) kept.entries))
    by_full true full =
        let n : kept.cap ≡ length kept.entries = grind (arith, nat_tests) in
        rw n (subst (λ (l : List Mapping). IsPermutation l (option_to_list (least_recent kept) ++ values_of (take (length kept.entries - 1) kept.entries))) (sym (last_apart kept.entries)) (IsPermutation-append_comm (values_of (take (length kept.entries - 1) kept.entries)) (option_to_list (least_recent kept))))
    by_full false roomy =
        let n : length kept.entries ≤ kept.cap - 1 = grind (arith, nat_tests) in
        rw (take_all (kept.cap - 1) kept.entries n) (IsPermutation-refl (mappings_of kept))

    by_found : (o : Option Mapping) → mapping_for kept gref ≡ o → IsPermutation (mappings_of kept) (option_to_list (makes_room kept o) ++ values_of (take (kept.cap - 1) (remove_entry (nat_eq gref) kept.entries)))
    by_found (Some replaced) found =
        let shorter = length-remove_entry (nat_eq gref) kept.entries replaced found in
        let n : length (remove_entry (nat_eq gref) kept.entries) ≤ kept.cap - 1 = omega arith in
        rw (take_all (kept.cap - 1) (remove_entry (nat_eq gref) kept.entries) n) (rw found at (found_apart (nat_eq gref) kept.entries))
    by_found None found = rw (remove_entry-absent (nat_eq gref) kept.entries found) (by_full (length kept.entries == kept.cap) refl)

-- a mapping is put back
put_back_entire : (kept : KeptMappings) (gref : ℕ) (m : Mapping) → AreFew kept → IsPermutation (m ∷ mappings_of kept) (option_to_list (handed_out kept gref m) ++ mappings_of (with_mapping kept gref m))
put_back_entire kept gref m few = by_test (kept.cap == 0) refl
  where
    by_test : (b : Bool) → (kept.cap == 0) ≡ b → IsPermutation (m ∷ mappings_of kept) (option_to_list (if b then Some m else makes_room kept (mapping_for kept gref)) ++ mappings_of (if b then kept else record kept { entries = (gref, m) ∷ take (kept.cap - 1) (remove_entry (nat_eq gref) kept.entries) }))
    by_test true none = IsPermutation-refl (m ∷ mappings_of kept)
    by_test false some = IsPermutation-first m (mappings_of kept) (option_to_list (makes_room kept (mapping_for kept gref))) (values_of (take (kept.cap - 1) (remove_entry (nat_eq gref) kept.entries))) (room_entire kept gref some few)

returned_entire : (o : Option Mapping) (kept : KeptMappings) (t : Work) (before : List Mapping) → IsPermutation before (option_to_list o ++ mappings_of kept) → IsPermutation before (hand_of (returned o kept t).job ++ mappings_of (returned o kept t).kept)
returned_entire (Some out) kept t before p = p
returned_entire None kept t before p = IsPermutation-trans _ _ _ p (takes_entire kept (rest_of t.rest) (next_segment t (rest_of t.rest)) (hand_of_segment t (rest_of t.rest)))

failed_hand : (o : Option Mapping) (t : Work) → hand_of (failed_with o t) ≡ option_to_list o
failed_hand (Some out) t = refl
failed_hand None t = refl

as_it_is : (s : JobStage) (t : Work) (kept : List Mapping) → t.stage ≡ s → IsPermutation (option_to_list (mapping_at s) ++ kept) (hand_of t ++ kept)
as_it_is s t kept is = subst (λ (x : JobStage). IsPermutation (option_to_list (mapping_at x) ++ kept) (hand_of t ++ kept)) is (IsPermutation-refl (hand_of t ++ kept))

-- a job settles
settles_entire : (s : JobStage) (kept : KeptMappings) (t : Work) → t.stage ≡ s → AreFew kept → IsPermutation (option_to_list (mapping_at s) ++ mappings_of kept) (hand_of (settled_at s kept t).job ++ mappings_of (settled_at s kept t).kept)
settles_entire stage.Map kept t is few = takes_entire kept t.rest t (ap (λ (s : JobStage). option_to_list (mapping_at s)) is)
settles_entire (stage.Unmap m) kept t is few = returned_entire (handed_out kept m.gref m) (with_mapping kept m.gref m) t (m ∷ mappings_of kept) (put_back_entire kept m.gref m few)
settles_entire (stage.Abort m) kept t is few = rw (failed_hand (handed_out kept m.gref m) t) (put_back_entire kept m.gref m few)
settles_entire s kept t is few = as_it_is s t (mappings_of kept) is

told_entire_at : (h : HeldJobs) (place : Option ℕ) (found : Option Work) (waits : Bool) (given : BackAnswer) → work_at h.works place ≡ found → IsAnswer (asked_in (may_keep h.kept) waits found) given → AreFew h.kept
    → HandsKeep (asked_in (may_keep h.kept) waits found) given (all_hands h) (all_hands (told_keeping h place found given))
told_entire_at h place None waits given found allowed few = absurd allowed
told_entire_at h None (Some t) waits given found allowed few = absurd (none-some t found)
told_entire_at h (Some place) (Some t) waits given found allowed few =
    let u : Work = step_of t given in
    told_nothing_lost h place t (settled h.kept u).job (mappings_of (settled h.kept u).kept) (may_keep h.kept) waits given found allowed (settles_entire u.stage h.kept u refl few)

-- a job is told an answer
pub told_entire : (h : HeldJobs) (number : ℕ) (given : BackAnswer) → IsAnswer (ask_keeping h number) given → AreFew h.kept → HandsKeep (ask_keeping h number) given (all_hands h) (all_hands (complete_keeping h number given))
told_entire h number given allowed few = told_entire_at h (place_of h.works number) (work_of h.works number) (waits_in (may_keep h.kept) h.works (place_of h.works number) (work_of h.works number)) given refl allowed few
