use Rattle.std.proofs.Common.{◌≡◌, ◌<◌, ◌++◌, ℕ, List, length, vec_capacity, true, false, rules, refl, sym, ap, ◌∙◌, subst, arith}
use Rattle.std.specs.Prelude.{Some, IfSome, IsPermutation, slice_get, slice_set, if◌then◌else◌, ◌==◌}
use Rattle.std.proofs.lemmas.Option.{slice_get_read}
use Rattle.segment_list.specs.declared.verdict.DiskInfo.{DiskInfo}
use Rattle.persist_grants.specs.KeptMappings.{KeptMappings, may_keep, mappings_of}
use Rattle.back_jobs.specs.Work.{Work, IsAnswer, step_of}
use Rattle.back_jobs.specs.Jobs.{HeldJobs, place_of, work_of, is_done, effect_of}
use Rattle.back_jobs.specs.Hands.{hand_of, hands_in, HandsKeep}
use Rattle.back_jobs.specs.Keeping.{ask_in, ask_keeping, settled, complete_keeping, all_hands, IsKeeping, MapsUnkept}
use Rattle.back_jobs.specs.Sound.{ordered_place, barrier_place}
use Rattle.back_jobs.proofs.Listed.{kept_rise}
use Rattle.back_jobs.proofs.Telling.{work_there, told_there, told_allowed, told_hands, told_unkept, told_kept, told_room}
use Rattle.back_jobs.proofs.Done.{undone}
use Rattle.back_jobs.proofs.Kept.{facts_of, told_facts}
use Rattle.back_jobs.proofs.First.{told_first, ended_first}
use Rattle.back_jobs.proofs.Spare.{told_shared}
use Rattle.back_jobs.proofs.Settling.{settled_may, writable_at, told_keeping_all}
use Rattle.back_jobs.proofs.jobs.Jobs.tell.Goals.{After-is_done}
use Rattle.back_jobs.proofs.jobs.Jobs.tell.Goals as goal

abbrev jobs : (c : After-is_done) → HeldJobs
jobs c = record { works = c.self.inside.held.items; room = c.self.inside.room; info = c.self.inside.info; kept = c.self.inside.kept.value }

found : (c : After-is_done) → place_of c.self.inside.held.items c.args.number ≡ Some c.in_ok-place.place
found c =
    let there : place_of c.args.self.now.works c.args.number ≡ Some c.in_ok-place.place = search rules in
    ap (λ (h : HeldJobs). place_of h.works c.args.number) c.self.view_is ∙ there

within : (c : After-is_done) → c.in_ok-place.place < length c.self.inside.held.items
within c = search rules

here : (c : After-is_done) → slice_get c.self.inside.held.items c.in_ok-place.place ≡ Some c.index_mut-job.result.now
here c = slice_get_read c.self.inside.held.items (length c.self.inside.held.items) c.in_ok-place.place c.index_mut-job.result.now refl (within c) c.index_mut-job.ensures.value

asked : (c : After-is_done) → IsAnswer (ask_keeping (jobs c) c.args.number) c.args.answer.now
asked c = subst (λ (h : HeldJobs). IsAnswer (ask_keeping h c.args.number) c.args.answer.now) (sym c.self.view_is) c.requires

allowed : (c : After-is_done) → IsAnswer (ask_in (may_keep c.self.inside.kept.value) c.index_mut-job.result.now) c.args.answer.now
allowed c = told_allowed (jobs c) c.args.number c.in_ok-place.place c.index_mut-job.result.now c.args.answer.now (found c) (here c) (asked c)

goes : (c : After-is_done) → is_done c.index_mut-job.result.now ≡ false
goes c = undone (may_keep c.self.inside.kept.value) c.index_mut-job.result.now c.args.answer.now (allowed c)

facts : (c : After-is_done) → facts_of c.tell.new.self ≡ facts_of c.index_mut-job.result.now
facts c = ap facts_of c.tell.ensures.job ∙ told_facts c.deref_mut.result.now c.index_mut-job.result.now c.args.answer.now

-- the job and what is kept, as the answer leaves them
job_is : (c : After-is_done) → c.tell.new.self ≡ (let s = settled c.self.inside.kept.value (step_of c.index_mut-job.result.now c.args.answer.now) in s.job)
job_is c = c.tell.ensures.job ∙ ap (λ (k : KeptMappings). let s = settled k (step_of c.index_mut-job.result.now c.args.answer.now) in s.job) c.deref_mut.ensures.value

kept_is : (c : After-is_done) → c.tell.new.kept ≡ (let s = settled c.self.inside.kept.value (step_of c.index_mut-job.result.now c.args.answer.now) in s.kept)
kept_is c = c.tell.ensures.kept ∙ ap (λ (k : KeptMappings). let s = settled k (step_of c.index_mut-job.result.now c.args.answer.now) in s.kept) c.deref_mut.ensures.value

abbrev held : ℕ → DiskInfo → List Work → KeptMappings → HeldJobs
held room info works kept = record { works = works; room = room; info = info; kept = kept }

told : (c : After-is_done) → held c.self.inside.room c.self.inside.info (slice_set c.self.inside.held.items c.in_ok-place.place c.tell.new.self) c.tell.new.kept ≡ complete_keeping c.args.self.now c.args.number c.args.answer.now
told c =
    let there = told_there (jobs c) c.args.number c.in_ok-place.place c.index_mut-job.result.now c.args.answer.now (found c) (here c) in
    ap (λ (t : Work). held c.self.inside.room c.self.inside.info (slice_set c.self.inside.held.items c.in_ok-place.place t) c.tell.new.kept) (job_is c)
    ∙ (ap (λ (k : KeptMappings). held c.self.inside.room c.self.inside.info (slice_set c.self.inside.held.items c.in_ok-place.place (let s = settled c.self.inside.kept.value (step_of c.index_mut-job.result.now c.args.answer.now) in s.job)) k) (kept_is c)
    ∙ (sym there ∙ ap (λ (h : HeldJobs). complete_keeping h c.args.number c.args.answer.now) c.self.view_is))

effect : (c : After-is_done) → c.effect-effect.result ≡ effect_of (work_of c.args.self.now.works c.args.number) c.args.answer.now
effect c =
    let is = work_there c.self.inside.held.items c.args.number c.in_ok-place.place c.index_mut-job.result.now (found c) (here c) in
    c.effect-effect.ensures ∙ ap (λ w. effect_of w c.args.answer.now) (sym is) ∙ ap (λ (h : HeldJobs). effect_of (work_of h.works c.args.number) c.args.answer.now) c.self.view_is

hands : (c : After-is_done) → HandsKeep (ask_keeping c.args.self.now c.args.number) c.args.answer.now (all_hands c.args.self.now) (hands_in (slice_set c.self.inside.held.items c.in_ok-place.place c.tell.new.self) ++ mappings_of c.tell.new.kept)
hands c =
    let given : IsPermutation (hand_of (step_of c.index_mut-job.result.now c.args.answer.now) ++ mappings_of c.self.inside.kept.value) (hand_of c.tell.new.self ++ mappings_of c.tell.new.kept) =
    subst (λ (k : KeptMappings). IsPermutation (hand_of (step_of c.index_mut-job.result.now c.args.answer.now) ++ mappings_of k) (hand_of c.tell.new.self ++ mappings_of c.tell.new.kept)) c.deref_mut.ensures.value c.tell.ensures.hands in
    subst (λ (h : HeldJobs). HandsKeep (ask_keeping h c.args.number) c.args.answer.now (all_hands h) (hands_in (slice_set c.self.inside.held.items c.in_ok-place.place c.tell.new.self) ++ mappings_of c.tell.new.kept)) c.self.view_is
    (told_hands (jobs c) c.args.number c.in_ok-place.place c.index_mut-job.result.now c.tell.new.self (mappings_of c.tell.new.kept) c.args.answer.now (found c) (here c) (asked c) given)

unkept : (c : After-is_done) → IfSome (place_of c.args.self.now.works c.args.number) (λ place. IfSome (slice_get (slice_set c.self.inside.held.items c.in_ok-place.place c.tell.new.self) place) (MapsUnkept c.tell.new.kept))
unkept c =
    subst (λ (h : HeldJobs). IfSome (place_of h.works c.args.number) (λ place. IfSome (slice_get (slice_set c.self.inside.held.items c.in_ok-place.place c.tell.new.self) place) (MapsUnkept c.tell.new.kept))) c.self.view_is
    (told_unkept c.self.inside.held.items c.args.number c.in_ok-place.place c.tell.new.self c.tell.new.kept (found c) (within c) c.tell.ensures.unkept)

keeping : (c : After-is_done) → IsKeeping c.tell.new.kept (slice_set c.self.inside.held.items c.in_ok-place.place c.tell.new.self)
keeping c = told_keeping_all c.self.inside.kept.value c.tell.new.kept c.self.inside.held.items c.in_ok-place.place c.index_mut-job.result.now c.tell.new.self c.args.answer.now (here c) (allowed c) (job_is c) (kept_is c) c.self.invariant.3

keeps : (c : After-is_done) → c.self.inside.keeps ≡ may_keep c.tell.new.kept
keeps c = c.self.invariant.4 ∙ (sym (settled_may c.self.inside.kept.value (step_of c.index_mut-job.result.now c.args.answer.now)) ∙ ap (λ (k : KeptMappings). may_keep k) (sym (kept_is c)))

pub note-requires-clause-ascending : goal.note-requires-clause-ascending
note-requires-clause-ascending c = λ test. kept_rise c.self.inside.held.items c.self.inside.finished.items (c.self.invariant.0.in_order test) (c.self.invariant.0.is_listed test)

pub note-requires-clause-has_room : goal.note-requires-clause-has_room
note-requires-clause-has_room c =
    let w = (goal.at.note-requires-clause-has_room c).After-is_done in
    λ test. told_room c.self.inside.ascending c.self.inside.finished.items c.self.inside.done_place c.self.inside.room c.self.inside.held.cap (vec_capacity c.self.inside.finished) c.self.inside.info.sectors c.self.inside.held.items c.in_ok-place.place c.index_mut-job.result.now c.self.invariant.0 (here w) (goes w) test

pub invariant_of-self : goal.invariant_of-self
invariant_of-self c =
    let w = (goal.at.invariant_of-self c).After-is_done in (
      told_kept c.self.inside.ascending c.self.inside.finished.items c.note.new.numbers.items c.self.inside.done_place c.min-self-inside.result c.self.inside.room c.self.inside.held.cap (vec_capacity c.self.inside.finished) (vec_capacity c.note.new.numbers) c.self.inside.info.sectors c.self.inside.held.items c.in_ok-place.place c.number.result c.index_mut-job.result.now c.tell.new.self true c.self.invariant.0 (here w) (goes w) (facts w) (sym c.if-is_done.true ∙ c.is_done.ensures) c.min-self-inside.ensures c.number.ensures c.note.ensures.items c.note.ensures.capacity,
      ended_first c.self.inside.held.items c.in_ok-place.place c.index_mut-job.result.now c.tell.new.self c.self.inside.ordered c.self.inside.barrier c.holding_after-self-inside.result c.holding_after-self-inside-then-is_done.result
          c.self.invariant.1 (here w) (sym c.is_done.ensures ∙ c.if-is_done.true)
          (c.holding_after-self-inside.ensures ∙ ap (λ (l : List Work). if c.self.inside.ordered == c.in_ok-place.place then ordered_place l else c.self.inside.ordered) c.as_slice.ensures.value)
          (c.holding_after-self-inside-then-is_done.ensures ∙ ap (λ (l : List Work). if c.self.inside.barrier == c.in_ok-place.place then barrier_place l else c.self.inside.barrier) c.as_slice-then-is_done.ensures.value),
      told_shared (length c.self.inside.spare.items) (vec_capacity c.self.inside.spare) c.self.inside.room c.self.inside.info.max_indirect c.self.inside.held.items c.in_ok-place.place c.index_mut-job.result.now c.tell.new.self (here w) (facts w) c.self.invariant.2,
      keeping w,
      keeps w,
    )

pub invariant_of-self-else-is_done : goal.invariant_of-self-else-is_done
invariant_of-self-else-is_done c =
    let w = (goal.at.invariant_of-self-else-is_done c).After-is_done in (
      told_kept c.self.inside.ascending c.self.inside.finished.items c.self.inside.finished.items c.self.inside.done_place c.self.inside.done_place c.self.inside.room c.self.inside.held.cap (vec_capacity c.self.inside.finished) (vec_capacity c.self.inside.finished) c.self.inside.info.sectors c.self.inside.held.items c.in_ok-place.place c.tell.new.self.number c.index_mut-job.result.now c.tell.new.self false c.self.invariant.0 (here w) (goes w) (facts w) (sym c.if-is_done.false ∙ c.is_done.ensures) refl refl (λ test. refl) (omega arith),
      told_first c.self.inside.held.items c.in_ok-place.place c.index_mut-job.result.now c.tell.new.self c.self.inside.ordered c.self.inside.barrier
          c.self.invariant.1 (here w) (goes w) (facts w) (sym c.is_done.ensures ∙ c.if-is_done.false),
      told_shared (length c.self.inside.spare.items) (vec_capacity c.self.inside.spare) c.self.inside.room c.self.inside.info.max_indirect c.self.inside.held.items c.in_ok-place.place c.index_mut-job.result.now c.tell.new.self (here w) (facts w) c.self.invariant.2,
      keeping w,
      keeps w,
    )

pub returns-then-is_done-clause-completed : goal.returns-then-is_done-clause-completed
returns-then-is_done-clause-completed c = told (goal.at.returns-then-is_done-clause-completed c).After-is_done

pub returns-else-is_done-clause-completed : goal.returns-else-is_done-clause-completed
returns-else-is_done-clause-completed c = told (goal.at.returns-else-is_done-clause-completed c).After-is_done

pub returns-then-is_done-clause-effect : goal.returns-then-is_done-clause-effect
returns-then-is_done-clause-effect c = effect (goal.at.returns-then-is_done-clause-effect c).After-is_done

pub returns-else-is_done-clause-effect : goal.returns-else-is_done-clause-effect
returns-else-is_done-clause-effect c = effect (goal.at.returns-else-is_done-clause-effect c).After-is_done

pub returns-then-is_done-clause-hands : goal.returns-then-is_done-clause-hands
returns-then-is_done-clause-hands c = hands (goal.at.returns-then-is_done-clause-hands c).After-is_done

pub returns-else-is_done-clause-hands : goal.returns-else-is_done-clause-hands
returns-else-is_done-clause-hands c = hands (goal.at.returns-else-is_done-clause-hands c).After-is_done

pub returns-then-is_done-clause-unkept : goal.returns-then-is_done-clause-unkept
returns-then-is_done-clause-unkept c = unkept (goal.at.returns-then-is_done-clause-unkept c).After-is_done

pub returns-else-is_done-clause-unkept : goal.returns-else-is_done-clause-unkept
returns-else-is_done-clause-unkept c = unkept (goal.at.returns-else-is_done-clause-unkept c).After-is_done

pub tell-requires-clause-answer : goal.tell-requires-clause-answer
tell-requires-clause-answer c =
    let there : place_of c.args.self.now.works c.args.number ≡ Some c.in_ok-place.place = search rules in
    let found = ap (λ (h : HeldJobs). place_of h.works c.args.number) c.self.view_is ∙ there in
    let here = slice_get_read c.self.inside.held.items (length c.self.inside.held.items) c.in_ok-place.place c.index_mut-job.result.now refl (search rules) c.index_mut-job.ensures.value in
    let now : HeldJobs = record { works = c.self.inside.held.items; room = c.self.inside.room; info = c.self.inside.info; kept = c.self.inside.kept.value } in
    let asked = subst (λ (h : HeldJobs). IsAnswer (ask_keeping h c.args.number) c.args.answer.now) (sym c.self.view_is) c.requires in
    rw c.deref_mut.ensures.value (told_allowed now c.args.number c.in_ok-place.place c.index_mut-job.result.now c.args.answer.now found here asked)

pub tell-requires-clause-keepable : goal.tell-requires-clause-keepable
tell-requires-clause-keepable c = rw c.deref_mut.ensures.value (c.self.invariant.3.keepable)

pub tell-requires-clause-writable : goal.tell-requires-clause-writable
tell-requires-clause-writable c = λ may.
    let here = slice_get_read c.self.inside.held.items (length c.self.inside.held.items) c.in_ok-place.place c.index_mut-job.result.now refl (search rules) c.index_mut-job.ensures.value in
    writable_at c.self.inside.held.items c.in_ok-place.place c.index_mut-job.result.now here (c.self.invariant.3.writable (rw c.deref_mut.ensures.value at may))
