use Rattle.std.proofs.Common.{◌≡◌, ◌<◌, ◌≤◌, ◌++◌, ◌∷◌, ℕ, List, [], true, false, Bool, refl, arith, rules, sym, ap, ◌∙◌, subst, length, vec_capacity}
use Rattle.std.proofs.Math.ListN.{length-append}
use Rattle.std.specs.Prelude.{IsPermutation}
use Rattle.segment_list.specs.Verdict.{verdict_of}
use Rattle.persist_grants.specs.KeptMappings.{KeptMappings, may_keep, mappings_of}
use Rattle.back_jobs.specs.Work.{Work, begun}
use Rattle.back_jobs.specs.Hands.{hand_of, hands_in}
use Rattle.back_jobs.specs.Keeping.{all_hands, IsKeeping}
use Rattle.back_jobs.specs.Jobs.{HeldJobs, is_done}
use Rattle.back_jobs.specs.Order.{is_above}
use Rattle.back_jobs.specs.Segments.{AreShared}
use Rattle.back_jobs.specs.Sound.{IsKept, AreFirst, done_numbers}
use Rattle.back_jobs.proofs.Done.{began_done}
use Rattle.back_jobs.proofs.First.{began_first}
use Rattle.back_jobs.proofs.Listed.{noted, began_listed, kept_rise, listed_fits, noting, was_ascending}
use Rattle.back_jobs.proofs.Numbers.{began_ascending}
use Rattle.back_jobs.proofs.Spare.{began_shared, has_spare}
use Rattle.back_jobs.proofs.Kept.{Facts, facts_of, begun_facts}
use Rattle.back_jobs.proofs.Settling.{settled_may, begun_writable, begun_keeping, begun_nothing_lost}
use Rattle.back_jobs.proofs.Sizes.{begun_number, begun_size, started_sized}
use Rattle.back_jobs.proofs.jobs.Jobs.start.Goals.{After-push}
use Rattle.back_jobs.proofs.jobs.Jobs.start.Goals as goal

-- what is known of the jobs stays true, where the number is listed if its job is done
kept : (c : After-push) (b : Bool) (now : List ℕ) (listed : ℕ) → b ≡ c.is_done-is_done.result → (c.goes_on_ascending-self-inside.result ≡ true → now ≡ noted b c.args.number c.self.inside.finished.items) → vec_capacity c.self.inside.finished ≤ listed → IsKept c.goes_on_ascending-self-inside.result now c.done_with-self-inside.result c.self.inside.room (vec_capacity c.push.new.self) listed c.self.inside.info.sectors c.push.new.self.items × AreFirst c.done_with-self-inside-2.result c.done_with-self-inside-3.result c.push.new.self.items
    × AreShared (length c.begin-job.new.spare.items) (vec_capacity c.begin-job.new.spare) c.self.inside.room c.self.inside.info.max_indirect c.push.new.self.items × IsKeeping c.begin-job.new.kept c.push.new.self.items × (c.self.inside.keeps ≡ may_keep c.begin-job.new.kept)
kept c b now listed test noted_now more =
    let works = c.self.inside.held.items in
    let size = c.self.inside.info.sectors in
    let v = verdict_of c.args.request.now c.self.inside.info in
    let t = c.begin-job.result in
    let entry : Work = begun c.args.number c.args.request.now size v in
    let facts : facts_of t ≡ facts_of entry = ap facts_of c.begin-job.ensures.value ∙ begun_facts c.deref_mut.result.now entry in
    let known : t.size ≡ size = ap (λ (f : Facts). f.3) facts ∙ begun_size c.args.number c.args.request.now size v in
    let numbered : t.number ≡ c.args.number = ap (λ (f : Facts). f.0) facts ∙ begun_number c.args.number c.args.request.now size v in
    let grown : c.push.new.self.items ≡ works ++ t ∷ [] = search rules in
    let below : length works < c.self.inside.room = subst (λ (h : HeldJobs). length h.works < h.room) (sym c.self.view_is) c.requires in
    let ordered = began_ascending c.self.inside.ascending c.goes_on_ascending-self-inside.result works c.as_slice.result.now t c.args.number c.self.invariant.0.in_order c.as_slice.ensures.value numbered c.goes_on_ascending-self-inside.ensures in
    let counted : c.len-count.result ≡ length works = c.len-count.ensures ∙ (sym c.as_slice.ensures.len ∙ ap length c.as_slice.ensures.value) in (
      record {
        has_room = omega arith;
        has_list_room = omega (arith, c.self.invariant.0.has_list_room, more);
        held = rw grown (simp length-append (omega (arith, below)));
        sized = rw grown (started_sized size true works t c.self.invariant.0.sized known);
        in_order = λ in_order. rw grown (ordered in_order);
        is_listed = λ in_order. rw grown (noting b (is_done t) c.args.number t.number c.self.inside.finished.items (done_numbers works) now (done_numbers (works ++ t ∷ [])) (test ∙ c.is_done-is_done.ensures) (sym numbered) (c.self.invariant.0.is_listed (was_ascending c.self.inside.ascending c.goes_on_ascending-self-inside.result (is_above c.as_slice.result.now c.args.number) c.goes_on_ascending-self-inside.ensures in_order)) (noted_now in_order) (began_listed works t (ordered in_order)));
        is_done = rw grown (began_done works t c.self.inside.done_place c.done_with-self-inside.result c.len-count.result c.is_done-is_done.result c.self.invariant.0.is_done counted c.is_done-is_done.ensures c.done_with-self-inside.ensures);
      },
      rw grown (began_first works t c.self.inside.ordered c.self.inside.barrier c.done_with-self-inside-2.result c.done_with-self-inside-3.result c.len-count.result c.holds.result c.holds-2.result c.self.invariant.1 counted c.holds.ensures c.holds-2.ensures c.done_with-self-inside-2.ensures c.done_with-self-inside-3.ensures),
      rw grown (began_shared (length c.self.inside.spare.items) (length c.begin-job.new.spare.items) (vec_capacity c.self.inside.spare) (vec_capacity c.begin-job.new.spare) c.self.inside.room c.self.inside.info.max_indirect works t c.begin-job.ensures.spare c.begin-job.ensures.capacity c.self.invariant.2),
      rw grown (begun_keeping c.deref_mut.result.now c.begin-job.new.kept works entry t (begun_writable c.args.number c.args.request.now size v) c.begin-job.ensures.value c.begin-job.ensures.kept (rw c.deref_mut.ensures.value c.self.invariant.3)),
      c.self.invariant.4 ∙ (ap (λ (k : KeptMappings). may_keep k) (sym c.deref_mut.ensures.value) ∙ (sym (settled_may c.deref_mut.result.now entry) ∙ ap (λ (k : KeptMappings). may_keep k) (sym c.begin-job.ensures.kept))),
    )

pub invariant_of-self : goal.invariant_of-self
invariant_of-self c = kept (goal.at.invariant_of-self c).After-push true c.note.new.numbers.items (vec_capacity c.note.new.numbers) (sym c.if-is_done.true) c.note.ensures.items c.note.ensures.capacity

pub invariant_of-self-else-is_done : goal.invariant_of-self-else-is_done
invariant_of-self-else-is_done c = kept (goal.at.invariant_of-self-else-is_done c).After-push false c.self.inside.finished.items (vec_capacity c.self.inside.finished) (sym c.if-is_done.false) (λ in_order. refl) (omega arith)

pub note-requires-clause-ascending : goal.note-requires-clause-ascending
note-requires-clause-ascending c = λ test.
    let was = was_ascending c.self.inside.ascending c.goes_on_ascending-self-inside.result (is_above c.as_slice.result.now c.args.number) c.goes_on_ascending-self-inside.ensures test in
    kept_rise c.self.inside.held.items c.self.inside.finished.items (c.self.invariant.0.in_order was) (c.self.invariant.0.is_listed was)

pub note-requires-clause-has_room : goal.note-requires-clause-has_room
note-requires-clause-has_room c = λ test.
    let works = c.self.inside.held.items in
    let below : length works < c.self.inside.room = subst (λ (h : HeldJobs). length h.works < h.room) (sym c.self.view_is) c.requires in
    let was = was_ascending c.self.inside.ascending c.goes_on_ascending-self-inside.result (is_above c.as_slice.result.now c.args.number) c.goes_on_ascending-self-inside.ensures test in
    let same : length c.self.inside.finished.items ≡ length (done_numbers works) = ap length (c.self.invariant.0.is_listed was) in
    omega (arith, below, same, listed_fits works, c.self.invariant.0.has_list_room)

pub begin-job-requires-clause-has_spare : goal.begin-job-requires-clause-has_spare
begin-job-requires-clause-has_spare c = λ some.
    let below : length c.self.inside.held.items < c.self.inside.room = subst (λ (h : HeldJobs). length h.works < h.room) (sym c.self.view_is) c.requires in
    has_spare (length c.self.inside.spare.items) (vec_capacity c.self.inside.spare) c.self.inside.room c.self.inside.info.max_indirect c.self.inside.held.items c.self.invariant.2 below some

pub begin-job-requires-clause-keepable : goal.begin-job-requires-clause-keepable
begin-job-requires-clause-keepable c = rw c.deref_mut.ensures.value (c.self.invariant.3.keepable)

-- nothing is lost
hands : (c : After-push) → IsPermutation (all_hands c.args.self.now) (hands_in c.push.new.self.items ++ mappings_of c.begin-job.new.kept)
hands c =
    let works = c.self.inside.held.items in
    let grown : c.push.new.self.items ≡ works ++ c.begin-job.result ∷ [] = search rules in
    let given : IsPermutation (mappings_of c.self.inside.kept.value) (hand_of c.begin-job.result ++ mappings_of c.begin-job.new.kept) =
    subst (λ (k : KeptMappings). IsPermutation (mappings_of k) (hand_of c.begin-job.result ++ mappings_of c.begin-job.new.kept)) c.deref_mut.ensures.value c.begin-job.ensures.hands in
    rw (← c.self.view_is, grown) (begun_nothing_lost works c.begin-job.result (mappings_of c.self.inside.kept.value) (mappings_of c.begin-job.new.kept) given)

pub returns-then-is_done-clause-hands : goal.returns-then-is_done-clause-hands
returns-then-is_done-clause-hands c = hands (goal.at.returns-then-is_done-clause-hands c).After-push

pub returns-else-is_done-clause-hands : goal.returns-else-is_done-clause-hands
returns-else-is_done-clause-hands c = hands (goal.at.returns-else-is_done-clause-hands c).After-push
