-- How many mappings are kept: as many as may be, whatever jobs make of them; and none once all are given up.
use Rattle.std.proofs.Common.{◌≡◌, ℕ, zero, suc, ◌-◌, ◌<◌, ◌≤◌, Bool, true, false, cond, if◌then◌else◌, List, [], ◌∷◌, take, length, refl, sym, ap, ◌∙◌, arith, length-take}
use Rattle.std.specs.Prelude.{Option, Some, None, is_some, nat_eq, ◌==◌, slice_get}
use Rattle.std.specs.Option.{option_map, option_or}
use Rattle.std.specs.Map.{remove_entry}
use Rattle.std.proofs.lemmas.Bool.Decides.{nat_tests}
use Rattle.std.proofs.lemmas.Option.{none-some}
use Rattle.std.proofs.lemmas.List.{length-set}
use Rattle.blk_base.specs.declared.parts.Mapping.{Mapping}
use Rattle.blk_base.specs.declared.ask.BackAnswer.{BackAnswer}
use Rattle.blk_layout.specs.declared.segment.Segment.{Segment}
use Rattle.blk_layout.specs.declared.request.RawRequest.{RawRequest}
use Rattle.segment_list.specs.Verdict.{verdict_of}
use Rattle.persist_grants.specs.KeptMappings.{KeptMappings, least_recent, without_least_recent}
use Rattle.persist_grants.specs.PutBack.{handed_out, with_mapping}
use Rattle.back_jobs.specs.declared.stage.JobStage.{JobStage}
use Rattle.back_jobs.specs.declared.stage.JobStage.TheVariants as stage
use Rattle.back_jobs.specs.Work.{Work, step_of, begun, next_segment, rest_of}
use Rattle.back_jobs.specs.Jobs.{HeldJobs, place_of, work_of, mapping_at, first_mapping, after_mapping}
use Rattle.back_jobs.specs.Keeping.{takes, returned, settled_at, settled, told_keeping, complete_keeping, start_keeping, first_given, given_from, after_given}
use Rattle.back_jobs.proofs.Settling.{settled_cap}

-- as many are kept as may be
abbrev pub AreFew : KeptMappings → Type 0
AreFew kept = length kept.entries ≤ kept.cap

removed_at : (b : Bool) (e : ℕ × Mapping) (es less : List (ℕ × Mapping)) → length less ≤ length es → length (cond b es (e ∷ less)) ≤ suc (length es)
removed_at true e es less h = omega arith
removed_at false e es less h = omega arith

removed_few : (test : ℕ → Bool) (es : List (ℕ × Mapping)) → length (remove_entry test es) ≤ length es
removed_few test [] = omega arith
removed_few test (e ∷ es) = removed_at (test e.0) e es (remove_entry test es) (removed_few test es)

with_few : (kept : KeptMappings) (gref : ℕ) (m : Mapping) → AreFew kept → AreFew (with_mapping kept gref m)
with_few kept gref m few = by_test (kept.cap == 0) refl
  where
    by_test : (b : Bool) → (kept.cap == 0) ≡ b → AreFew (if b then kept else record kept { entries = (gref, m) ∷ take (kept.cap - 1) (remove_entry (nat_eq gref) kept.entries) })
    by_test true t = few
    by_test false t = let n = length-take (kept.cap - 1) (remove_entry (nat_eq gref) kept.entries) in grind (arith, nat_tests)

takes_few : (kept : KeptMappings) (rest : List Segment) (t : Work) → AreFew kept → AreFew (let s = takes kept rest t in s.kept)
takes_few kept [] t few = few
takes_few kept (s ∷ rest) t few = let less = removed_few (nat_eq s.gref) kept.entries in omega arith

returned_few : (out : Option Mapping) (kept : KeptMappings) (t : Work) → AreFew kept → AreFew (let s = returned out kept t in s.kept)
returned_few (Some out) kept t few = few
returned_few None kept t few = takes_few kept (rest_of t.rest) (next_segment t (rest_of t.rest)) few

settled_few : (s : JobStage) (kept : KeptMappings) (t : Work) → AreFew kept → AreFew (let u = settled_at s kept t in u.kept)
settled_few stage.Map kept t few = takes_few kept t.rest t few
settled_few (stage.Unmap m) kept t few = returned_few (handed_out kept m.gref m) (with_mapping kept m.gref m) t (with_few kept m.gref m few)
settled_few (stage.Abort m) kept t few = with_few kept m.gref m few
settled_few s kept t few = few

-- a request is begun
pub started_few : (h : HeldJobs) (number : ℕ) (request : RawRequest) → AreFew h.kept → AreFew (let after = start_keeping h number request in after.kept)
started_few h number request few = let t = begun number request h.info.sectors (verdict_of request h.info) in settled_few t.stage h.kept t few

pub started_cap : (h : HeldJobs) (number : ℕ) (request : RawRequest) → (let after = start_keeping h number request in after.kept.cap) ≡ h.kept.cap
started_cap h number request = settled_cap h.kept (begun number request h.info.sectors (verdict_of request h.info))

told_few_at : (h : HeldJobs) (place : Option ℕ) (o : Option Work) (a : BackAnswer) → AreFew h.kept → AreFew (let after = told_keeping h place o a in after.kept)
told_few_at h None o a few = few
told_few_at h (Some place) None a few = few
told_few_at h (Some place) (Some t) a few = let u = step_of t a in settled_few u.stage h.kept u few

-- a job is told an answer
pub told_few : (h : HeldJobs) (number : ℕ) (a : BackAnswer) → AreFew h.kept → AreFew (let after = complete_keeping h number a in after.kept)
told_few h number a few = told_few_at h (place_of h.works number) (work_of h.works number) a few

told_cap_at : (h : HeldJobs) (place : Option ℕ) (o : Option Work) (a : BackAnswer) → (let after = told_keeping h place o a in after.kept.cap) ≡ h.kept.cap
told_cap_at h None o a = refl
told_cap_at h (Some place) None a = refl
told_cap_at h (Some place) (Some t) a = settled_cap h.kept (step_of t a)

pub told_cap : (h : HeldJobs) (number : ℕ) (a : BackAnswer) → (let after = complete_keeping h number a in after.kept.cap) ≡ h.kept.cap
told_cap h number a = told_cap_at h (place_of h.works number) (work_of h.works number) a

given_few_at : (o : Option Mapping) (h : HeldJobs) → AreFew h.kept → AreFew (let after = given_from o h in after.kept)
given_few_at (Some m) h few = few
given_few_at None h few = let less = length-take (length h.kept.entries - 1) h.kept.entries in omega arith

-- a mapping is given up
pub given_few : (h : HeldJobs) → AreFew h.kept → AreFew (let after = after_given h in after.kept)
given_few h few = given_few_at (first_mapping h.works) h few

given_cap_at : (o : Option Mapping) (h : HeldJobs) → (let after = given_from o h in after.kept.cap) ≡ h.kept.cap
given_cap_at (Some m) h = refl
given_cap_at None h = refl

pub given_cap : (h : HeldJobs) → (let after = after_given h in after.kept.cap) ≡ h.kept.cap
given_cap h = given_cap_at (first_mapping h.works) h

last_none : (es : List (ℕ × Mapping)) (n : ℕ) → n < length es → option_map (λ (e : ℕ × Mapping). e.1) (slice_get es n) ≡ None → ⊥
last_none [] n within h = omega arith
last_none (e ∷ es) zero within h = none-some e.1 (sym h)
last_none (e ∷ es) (suc n) within h = last_none es n (omega arith) h

none_recent : (kept : KeptMappings) (es : List (ℕ × Mapping)) → kept.entries ≡ es → least_recent kept ≡ None → length (without_least_recent kept).entries ≡ 0
none_recent kept [] is h = ap (λ (es : List (ℕ × Mapping)). length (take (length es - 1) es)) is
none_recent kept (e ∷ es) is h = absurd (last_none kept.entries (length kept.entries - 1) (let n = ap length is in omega arith) h)

given_none_at : (o : Option Mapping) (h : HeldJobs) → option_or o (least_recent h.kept) ≡ None → length (let after = given_from o h in after.kept.entries) ≡ 0
given_none_at (Some m) h none = absurd (none-some m (sym none))
given_none_at None h none = none_recent h.kept h.kept.entries refl none

-- where none is left none is kept
pub given_none : (h : HeldJobs) → first_given h ≡ None → length (let after = after_given h in after.kept.entries) ≡ 0
given_none h none = given_none_at (first_mapping h.works) h none

-- and no job goes on
over_at : (m : Option Mapping) (works : List Work) → (first_mapping works ≡ None → length (after_mapping works) ≡ 0) → cond (is_some m) m (first_mapping works) ≡ None → length (cond (is_some m) works (after_mapping works)) ≡ 0
over_at None works later none = later none
over_at (Some m) works later none = absurd (none-some m (sym none))

over : (works : List Work) → first_mapping works ≡ None → length (after_mapping works) ≡ 0
over [] none = refl
over (t ∷ works) none = over_at (mapping_at t.stage) works (over works) none

first_none : (o : Option Mapping) (h : HeldJobs) → option_or o (least_recent h.kept) ≡ None → o ≡ None
first_none (Some m) h none = absurd (none-some m (sym none))
first_none None h none = refl

pub given_works : (o : Option Mapping) (h : HeldJobs) → (let after = given_from o h in after.works) ≡ after_mapping h.works
given_works (Some m) h = refl
given_works None h = refl

pub given_over : (h : HeldJobs) → first_given h ≡ None → length (let after = after_given h in after.works) ≡ 0
given_over h none = ap length (given_works (first_mapping h.works) h) ∙ over h.works (first_none (first_mapping h.works) h none)

-- a job that is told an answer is held still
told_works_at : (h : HeldJobs) (place : Option ℕ) (o : Option Work) (a : BackAnswer) → length (let after = told_keeping h place o a in after.works) ≡ length h.works
told_works_at h None o a = refl
told_works_at h (Some place) None a = refl
told_works_at h (Some place) (Some t) a = length-set h.works place (settled h.kept (step_of t a)).job

pub told_works : (h : HeldJobs) (number : ℕ) (a : BackAnswer) → length (let after = complete_keeping h number a in after.works) ≡ length h.works
told_works h number a = told_works_at h (place_of h.works number) (work_of h.works number) a

told_room_at : (h : HeldJobs) (place : Option ℕ) (o : Option Work) (a : BackAnswer) → (let after = told_keeping h place o a in after.room) ≡ h.room
told_room_at h None o a = refl
told_room_at h (Some place) None a = refl
told_room_at h (Some place) (Some t) a = refl

pub told_room : (h : HeldJobs) (number : ℕ) (a : BackAnswer) → (let after = complete_keeping h number a in after.room) ≡ h.room
told_room h number a = told_room_at h (place_of h.works number) (work_of h.works number) a

-- where no job is held none is told anything
told_none_at : (h : HeldJobs) (works : List Work) (number : ℕ) (a : BackAnswer) → length works ≡ 0 → told_keeping h (place_of works number) (work_of works number) a ≡ h
told_none_at h [] number a none = refl
told_none_at h (t ∷ works) number a none = absurd (omega arith)

pub told_none : (h : HeldJobs) (number : ℕ) (a : BackAnswer) → length h.works ≡ 0 → complete_keeping h number a ≡ h
told_none h number a none = told_none_at h h.works number a none
