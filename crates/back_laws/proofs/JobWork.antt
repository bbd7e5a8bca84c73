-- A job does the work of its entry, and ends as that does.
use Rattle.std.proofs.Common.{◌≡◌, ℕ, zero, suc, ◌+◌, ◌%◌, Bool, true, false, not, ◌||◌, if◌then◌else◌, List, [], ◌∷◌, take, refl, sym, ap, ◌∙◌, subst, arith}
use Rattle.std.specs.Prelude.{◌==◌, nat_le, nat_lt}
use Rattle.std.specs.List.{AllByRecursion}
use Rattle.std.proofs.lemmas.Bool.Decides.{nat_tests}
use Rattle.blk_base.specs.declared.operation.Status.{Status}
use Rattle.blk_base.specs.declared.operation.Status.TheVariants.{Okay, Error, Unsupported}
use Rattle.blk_base.specs.declared.parts.Mapping.{Mapping}
use Rattle.blk_base.specs.declared.ask.BackAsk.{BackAsk}
use Rattle.blk_base.specs.declared.ask.BackAnswer.{BackAnswer}
use Rattle.blk_base.specs.declared.ask.BackAnswer.TheVariants as answer
use Rattle.blk_layout.specs.declared.segment.Segment.{Segment}
use Rattle.blk_layout.specs.declared.request.RawRequest.{RawRequest}
use Rattle.blk_layout.specs.declared.request.RawRequest.TheVariants.{Direct, Discard, Indirect}
use Rattle.segment_list.specs.declared.verdict.DiskInfo.{DiskInfo}
use Rattle.segment_list.specs.declared.verdict.Kind.TheVariants as kind
use Rattle.segment_list.specs.declared.verdict.Plan.{Plan}
use Rattle.segment_list.specs.declared.verdict.Verdict.{Verdict}
use Rattle.segment_list.specs.declared.verdict.Verdict.TheVariants as verdict
use Rattle.segment_list.specs.declared.verdict.Why.TheVariants as why
use Rattle.segment_list.specs.Verdict.{first_of as first_test, planned, transfer_verdict, flush_verdict, verdict_of}
use Rattle.segment_list.proofs.Served.{transfer_served}
use Rattle.back_jobs.specs.declared.stage.JobStage.{JobStage}
use Rattle.back_jobs.specs.declared.stage.JobStage.TheVariants as stage
use Rattle.back_jobs.specs.Work.{Work, ask_at, ask_of, step_at, step_of, IsAnswer, map_ask, begun, served, moving, frameless, ended, next_segment, next_sector, counted, sector_stage, rest_of, last_of}
use Rattle.report_rules.specs.declared.work.Task.{Task}
use Rattle.report_rules.specs.declared.step.Step.{Step}
use Rattle.report_rules.specs.Step.{steps_of}
use Rattle.report_rules.specs.Work.{work_tasks, work_verdict, status_by, served_tasks, planned_tasks}
use Rattle.back_laws.specs.Activity.{Asked}
use Rattle.back_laws.specs.Ledger.{told_all, AreItsAsks}
use Rattle.back_laws.specs.JobSteps.{IsNext, left_by, is_failure, AreSteps, all_left_by, has_failed, words_read, DoesItsWork}
use Rattle.back_laws.proofs.Jobs.{IsJob, step_job, begun_job}
use Rattle.back_laws.proofs.JobSteps.{to_do, is_moving, goes, segments_to_do, done_to_do, flush_to_do, trim_to_do}
use Rattle.back_laws.proofs.SegmentSteps.{stores_steps, loads_steps}

-- how a job stands after some answers: a failure ends it with an error, else it ends as its entry's verdict says
abbrev pub EndsSo : JobStage → (failed : Bool) → Status → Type 0
EndsSo (stage.Done status) failed served = status ≡ (if failed then Error else served)
EndsSo (stage.Abort m) failed served = failed ≡ true
EndsSo stage.MapPage failed served = ⊥
EndsSo (stage.PageReference m) failed served = ⊥
EndsSo (stage.PageSectors m gref) failed served = ⊥
EndsSo (stage.UnmapPage m) failed served = ⊥
EndsSo s failed served = (failed ≡ false) × (served ≡ Okay)

ends_moving : (s : JobStage) (failed : Bool) (served : Status) → EndsSo s failed served → is_moving s ≡ true
ends_moving stage.MapPage failed served e = absurd e
ends_moving (stage.PageReference m) failed served e = absurd e
ends_moving (stage.PageSectors m gref) failed served e = absurd e
ends_moving (stage.UnmapPage m) failed served e = absurd e
ends_moving s failed served e = refl

-- nothing failed, and it goes on, or is done
goes_on : (failed : Bool) (served : Status) → (failed ≡ false) × (served ≡ Okay) → ((failed || false) ≡ false) × (served ≡ Okay)
goes_on failed served e = (ap (λ (b : Bool). b || false) e.0, e.1)

is_over : (failed : Bool) (served : Status) → (failed ≡ false) × (served ≡ Okay) → Okay ≡ (if failed || false then Error else served)
is_over failed served e = sym (ap (λ (b : Bool). if b || false then Error else served) e.0 ∙ e.1)

is_broken : (failed : Bool) (served : Status) → Error ≡ (if failed || true then Error else served)
is_broken true served = refl
is_broken false served = refl

fails : (failed : Bool) → (failed || true) ≡ true
fails true = refl
fails false = refl

sector_ends : (b : Bool) (m : Mapping) (failed : Bool) (served : Status) → (failed ≡ false) × (served ≡ Okay) → EndsSo (sector_stage b m) failed served
sector_ends true m failed served e = e
sector_ends false m failed served e = e

next_ends : (t : Work) (m : Mapping) (failed : Bool) (served : Status) → (failed ≡ false) × (served ≡ Okay) → (let u : Work = next_sector t m in EndsSo u.stage failed served)
next_ends t m failed served e = by_test (t.within == last_of t.rest)
  where
    by_test : (b : Bool) → (let u : Work = if b then record t { stage = stage.Unmap m } else record t { within = t.within + 1; stage = sector_stage t.writes m } in EndsSo u.stage failed served)
    by_test true = e
    by_test false = sector_ends t.writes m failed served e

segment_ends : (t : Work) (rest : List Segment) (failed : Bool) (served : Status) → (failed ≡ false) × (served ≡ Okay) → (let u : Work = next_segment t rest in EndsSo u.stage (failed || false) served)
segment_ends t [] failed served e = is_over failed served e
segment_ends t (s ∷ rest) failed served e = goes_on failed served e

map_ends : (rest : List Segment) (t : Work) (given : BackAnswer) (failed : Bool) (served : Status) → IsAnswer (map_ask rest t.writes) given → (failed ≡ false) × (served ≡ Okay) → (let u : Work = step_at stage.Map t given in EndsSo u.stage (failed || is_failure given) served)
map_ends [] t given failed served h e = absurd h
map_ends (s ∷ rest) t (answer.Mapped m) failed served h e = sector_ends t.writes m (failed || false) served (goes_on failed served e)
map_ends (s ∷ rest) t (answer.MapRefused status) failed served h e = is_broken failed served
map_ends (s ∷ rest) t given failed served h e = absurd h

either_stage : (b : Bool) (x y : JobStage) (failed : Bool) (served : Status) → EndsSo x failed served → EndsSo y failed served → EndsSo (if b then x else y) failed served
either_stage true x y failed served p q = p
either_stage false x y failed served p q = q

either_work : (b : Bool) (x y : Work) (failed : Bool) (served : Status) → EndsSo x.stage failed served → EndsSo y.stage failed served → EndsSo (if b then x else y).stage failed served
either_work true x y failed served p q = p
either_work false x y failed served p q = q

ends_at : (s : JobStage) (t : Work) (given : BackAnswer) (failed : Bool) (served : Status) → EndsSo s failed served → IsAnswer (ask_at s t) given → (let u : Work = step_at s t given in EndsSo u.stage (failed || is_failure given) served)
ends_at stage.Map t given failed served e h = map_ends t.rest t given failed served h e
ends_at (stage.ReadWord m k) t (answer.Word word) failed served e h = either_stage (k == 127) (stage.DiskWrite m) (stage.ReadWord m (k + 1)) (failed || false) served (goes_on failed served e) (goes_on failed served e)
ends_at (stage.DiskWrite m) t answer.Done failed served e h = next_ends (counted t) m (failed || false) served (goes_on failed served e)
ends_at (stage.DiskWrite m) t answer.DiskFailed failed served e h = fails failed
ends_at (stage.DiskRead m) t (answer.Sector words) failed served e h = goes_on failed served e
ends_at (stage.DiskRead m) t answer.DiskFailed failed served e h = fails failed
ends_at (stage.WriteWord m k) t answer.Done failed served e h =
    either_work (k == 127) (next_sector t m) (record t { stage = stage.WriteWord m (k + 1) }) (failed || false) served (next_ends t m (failed || false) served (goes_on failed served e)) (goes_on failed served e)
ends_at (stage.Unmap m) t answer.Done failed served e h = segment_ends t (rest_of t.rest) failed served e
ends_at (stage.Abort m) t answer.Done failed served e h = sym (ap (λ (b : Bool). if b || false then Error else served) e)
ends_at stage.Flush t answer.Done failed served e h = is_over failed served e
ends_at stage.Flush t answer.DiskFailed failed served e h = is_broken failed served
ends_at (stage.Trim count) t answer.Done failed served e h = is_over failed served e
ends_at (stage.Trim count) t answer.DiskFailed failed served e h = is_broken failed served
ends_at stage.MapPage t given failed served e h = absurd e
ends_at (stage.PageReference m) t given failed served e h = absurd e
ends_at (stage.PageSectors m gref) t given failed served e h = absurd e
ends_at (stage.UnmapPage m) t given failed served e h = absurd e
ends_at s t given failed served e h = absurd h

or_assoc : (a b c : Bool) → ((a || b) || c) ≡ (a || (b || c))
or_assoc true b c = refl
or_assoc false b c = refl

or_none : (a : Bool) → (a || false) ≡ a
or_none true = refl
or_none false = refl

-- whatever it is answered
pub record Works (t : Work) (asked : List Asked) (left : List Step) (failed : Bool) (served : Status) : Type 0 where
  pub are_steps : AreSteps asked left
  pub rest : all_left_by asked left ≡ to_do (told_all t asked)
  pub ends : let u : Work = told_all t asked in EndsSo u.stage (failed || has_failed asked) served

pub works : (asked : List Asked) (t : Work) (left : List Step) (failed : Bool) (served : Status) → IsJob t → EndsSo t.stage failed served → AreItsAsks t asked → to_do t ≡ left → Works t asked left failed served
works [] t left failed served j e its is = record { are_steps = tt; rest = sym is; ends = subst (λ (b : Bool). EndsSo t.stage b served) (sym (or_none failed)) e }
works (a ∷ asked) t left failed served j e its is =
    let g = goes t a.answer (ends_moving t.stage failed served e) j its.1 in
    let step : to_do (step_of t a.answer) ≡ left_by a.ask a.answer left = g.1 ∙ (ap (λ (l : List Step). left_by (ask_of t) a.answer l) is ∙ ap (λ (x : BackAsk). left_by x a.answer left) (sym its.0)) in
    let more : Works (step_of t a.answer) asked (left_by a.ask a.answer left) (failed || is_failure a.answer) served =
    works asked (step_of t a.answer) (left_by a.ask a.answer left) (failed || is_failure a.answer) served (step_job t a.answer its.1 j) (ends_at t.stage t a.answer failed served e its.1) its.2 step in
    record {
      are_steps = (subst (λ (x : BackAsk). IsNext x left) (sym its.0) (subst (λ (l : List Step). IsNext (ask_of t) l) is g.0), more.are_steps);
      rest = more.rest;
      ends = subst (λ (b : Bool). let u : Work = told_all (step_of t a.answer) asked in EndsSo u.stage b served) (or_assoc failed (is_failure a.answer) (has_failed asked)) more.ends;
    }

-- a job at its beginning has all the steps of its work to do
record Begins (t : Work) (work : List Task) (served : Status) : Type 0 where
  all : to_do t ≡ steps_of work
  ends : EndsSo t.stage false served

begins_by : (t : Work) (work other : List Task) (s r : Status) → work ≡ other → s ≡ r → Begins t work s → Begins t other r
begins_by t work other s r same status b = record { all = b.all ∙ ap steps_of same; ends = subst (λ (x : Status). EndsSo t.stage false x) status b.ends }

abbrev IsRefused : Verdict → Type 0
IsRefused (verdict.Serve plan) = ⊥
IsRefused v = Unit {0}

served_plan : (tests : List (Bool × Verdict)) (p plan : Plan) → AllByRecursion (λ (test : Bool × Verdict). IsRefused test.1) tests → first_test tests p ≡ verdict.Serve plan → plan ≡ p
served_plan [] p plan all h = cc
served_plan (test ∷ tests) p plan all h = by_test test.0 test.1 all.0 (served_plan tests p plan all.1) h
  where
    by_test : (b : Bool) (v : Verdict) → IsRefused v → (first_test tests p ≡ verdict.Serve plan → plan ≡ p) → (if b then v else first_test tests p) ≡ verdict.Serve plan → plan ≡ p
    by_test true (verdict.Serve q) refused rest h = absurd refused
    by_test true (verdict.Error w) refused rest h = absurd (cc)
    by_test true verdict.Unsupported refused rest h = absurd (cc)
    by_test false v refused rest h = rest h

-- a read, a write or a barrier
moves : (op number size count device id sector : ℕ) (segments : List Segment) (info : DiskInfo) (plan : Plan) → nat_le op 2 ≡ true → verdict_of (Direct op count device id sector segments) info ≡ verdict.Serve plan
    → Begins (moving number (Direct op count device id sector segments) size (not (op == 0)) sector (take count segments)) (planned_tasks false plan plan.kind (take count segments)) Okay
moves zero number size count device id sector segments info plan few h =
    let t : Work = moving number (Direct zero count device id sector segments) size false sector (take count segments) in
    let is : plan ≡ planned kind.Read sector count = (transfer_served kind.Read count sector segments info plan h).plan_is in
    record { all = segments_to_do t (take count segments) refl refl refl ∙ (sym (loads_steps sector (take count segments)) ∙ ap (λ (p : Plan). steps_of (planned_tasks false p p.kind (take count segments))) (sym is)); ends = (refl, refl) }
moves (suc zero) number size count device id sector segments info plan few h =
    let t : Work = moving number (Direct 1 count device id sector segments) size true sector (take count segments) in
    let is : plan ≡ planned kind.Write sector count = (transfer_served kind.Write count sector segments info plan h).plan_is in
    record { all = segments_to_do t (take count segments) refl refl refl ∙ (sym (stores_steps sector (take count segments)) ∙ ap (λ (p : Plan). steps_of (planned_tasks false p p.kind (take count segments))) (sym is)); ends = (refl, refl) }
moves (suc (suc zero)) number size count device id sector segments info plan few h =
    let t : Work = moving number (Direct 2 count device id sector segments) size true sector (take count segments) in
    let is : plan ≡ planned kind.Barrier sector count = (transfer_served kind.Barrier count sector segments info plan h).plan_is in
    record { all = segments_to_do t (take count segments) refl refl refl ∙ (sym (stores_steps sector (take count segments)) ∙ ap (λ (p : Plan). steps_of (planned_tasks false p p.kind (take count segments))) (sym is)); ends = (refl, refl) }
moves (suc (suc (suc op))) number size count device id sector segments info plan few h = absurd (too_many op few)
  where
    too_many : (n : ℕ) → nat_le (suc (suc (suc n))) 2 ≡ true → ⊥
    too_many n few = grind (arith, nat_tests)

flushes : (op number size count device id sector : ℕ) (segments : List Segment) (info : DiskInfo) (plan : Plan) → op ≡ 3 → verdict_of (Direct op count device id sector segments) info ≡ verdict.Serve plan
    → Begins (frameless number (Direct op count device id sector segments) size sector stage.Flush) (planned_tasks false plan plan.kind (take count segments)) Okay
flushes op number size count device id sector segments info plan three h =
    let at_three : flush_verdict count sector info ≡ verdict.Serve plan = subst (λ (n : ℕ). verdict_of (Direct n count device id sector segments) info ≡ verdict.Serve plan) three h in
    let tests : List (Bool × Verdict) = (not info.flush, verdict.Unsupported) ∷ (not (count == 0), verdict.Error why.Count) ∷ [] in
    let is : plan ≡ planned kind.Flush sector count = served_plan tests (planned kind.Flush sector count) plan (tt, (tt, tt)) at_three in
    record { all = flush_to_do _ refl ∙ ap (λ (p : Plan). steps_of (planned_tasks false p p.kind (take count segments))) (sym is); ends = (refl, refl) }

trims : (flag number size count device id sector : ℕ) (info : DiskInfo) (plan : Plan) → verdict_of (Discard flag device id sector count) info ≡ verdict.Serve plan
    → Begins (frameless number (Discard flag device id sector count) size sector (stage.Trim count)) (planned_tasks false plan plan.kind []) Okay
trims flag number size count device id sector info plan h =
    let tests : List (Bool × Verdict) = (not info.discard || (flag % 2 == 1), verdict.Unsupported) ∷ (count == 0, verdict.Error why.Count) ∷ (nat_lt info.sectors (sector + count), verdict.Error why.Range) ∷ [] in
    let is : plan ≡ planned kind.Discard sector count = served_plan tests (planned kind.Discard sector count) plan (tt, (tt, (tt, tt))) h in
    record { all = trim_to_do _ count refl ∙ ap (λ (p : Plan). steps_of (planned_tasks false p p.kind [])) (sym is); ends = (refl, refl) }

-- no other operation is served
unserved : (op count device id sector : ℕ) (segments : List Segment) (info : DiskInfo) (plan : Plan) → nat_le op 2 ≡ false → (op == 3) ≡ false → verdict_of (Direct op count device id sector segments) info ≡ verdict.Serve plan → ⊥
unserved op count device id sector segments info plan few three h =
    let zeroth : (op == 0) ≡ false = grind (arith, nat_tests) in
    let first : (op == 1) ≡ false = grind (arith, nat_tests) in
    let second : (op == 2) ≡ false = grind (arith, nat_tests) in
    absurd (other (op == 0) (op == 1) (op == 2) (op == 3) (transfer_verdict kind.Read count sector segments info) (transfer_verdict kind.Write count sector segments info) (transfer_verdict kind.Barrier count sector segments info) (flush_verdict count sector info) zeroth first second three h)
  where
    other : (a b c d : Bool) (A B C D : Verdict) → a ≡ false → b ≡ false → c ≡ false → d ≡ false → (if a then A else (if b then B else (if c then C else (if d then D else verdict.Error why.Op)))) ≡ verdict.Serve plan → ⊥
    other true b c d A B C D e f g i h = cc
    other false true c d A B C D e f g i h = cc
    other false false true d A B C D e f g i h = cc
    other false false false true A B C D e f g i h = cc
    other false false false false A B C D e f g i h = cc

either_begins : (b : Bool) (x y : Work) (work : List Task) (s : Status) → (b ≡ true → Begins x work s) → (b ≡ false → Begins y work s) → Begins (if b then x else y) work s
either_begins true x y work s p q = p refl
either_begins false x y work s p q = q refl

-- the requests whose work is known by their entries
abbrev pub is_whole : RawRequest → Bool
is_whole (Direct op count device id sector segments) = true
is_whole (Discard flag device id sector count) = true
is_whole (Indirect op count device id sector pages) = false

begins_at : (request : RawRequest) (number : ℕ) (info : DiskInfo) (v : Verdict) (words : List ℕ) → is_whole request ≡ true → verdict_of request info ≡ v → Begins (begun number request info.sectors v) (work_tasks request info false words) (status_by (work_verdict request info words))
begins_at (Direct op count device id sector segments) number info (verdict.Serve plan) words whole e =
    let request : RawRequest = Direct op count device id sector segments in
    let work : List Task = planned_tasks false plan plan.kind (take count segments) in
    begins_by _ work _ Okay _ (ap (λ (v : Verdict). served_tasks false v (take count segments)) (sym e)) (ap status_by (sym e))
    (either_begins (nat_le op 2) (moving number request info.sectors (not (op == 0)) sector (take count segments)) (if op == 3 then frameless number request info.sectors sector stage.Flush else ended number request info.sectors (stage.Done Error)) work Okay
    (λ few. moves op number info.sectors count device id sector segments info plan few e)
    (λ many. either_begins (op == 3) (frameless number request info.sectors sector stage.Flush) (ended number request info.sectors (stage.Done Error)) work Okay
    (λ three. flushes op number info.sectors count device id sector segments info plan (grind (arith, nat_tests)) e)
    (λ other. absurd (unserved op count device id sector segments info plan many other e))))
begins_at (Discard flag device id sector count) number info (verdict.Serve plan) words whole e =
    begins_by _ (planned_tasks false plan plan.kind []) _ Okay _ (ap (λ (v : Verdict). served_tasks false v []) (sym e)) (ap status_by (sym e)) (trims flag number info.sectors count device id sector info plan e)
begins_at (Direct op count device id sector segments) number info (verdict.Error w) words whole e =
    begins_by _ [] _ Error _ (ap (λ (v : Verdict). served_tasks false v (take count segments)) (sym e)) (ap status_by (sym e)) (record { all = done_to_do _ Error refl; ends = refl })
begins_at (Discard flag device id sector count) number info (verdict.Error w) words whole e =
    begins_by _ [] _ Error _ (ap (λ (v : Verdict). served_tasks false v []) (sym e)) (ap status_by (sym e)) (record { all = done_to_do _ Error refl; ends = refl })
begins_at (Direct op count device id sector segments) number info verdict.Unsupported words whole e =
    begins_by _ [] _ Unsupported _ (ap (λ (v : Verdict). served_tasks false v (take count segments)) (sym e)) (ap status_by (sym e)) (record { all = done_to_do _ Unsupported refl; ends = refl })
begins_at (Discard flag device id sector count) number info verdict.Unsupported words whole e =
    begins_by _ [] _ Unsupported _ (ap (λ (v : Verdict). served_tasks false v []) (sym e)) (ap status_by (sym e)) (record { all = done_to_do _ Unsupported refl; ends = refl })
begins_at (Indirect op count device id sector pages) number info v words whole e = absurd (cc)

pub whole_work : (info : DiskInfo) (number : ℕ) (request : RawRequest) (asked : List Asked) → is_whole request ≡ true → AreItsAsks (begun number request info.sectors (verdict_of request info)) asked → DoesItsWork info number request asked
whole_work info number request asked whole its =
    let t : Work = begun number request info.sectors (verdict_of request info) in
    let work : List Step = steps_of (work_tasks request info false (words_read asked)) in
    let status : Status = status_by (work_verdict request info (words_read asked)) in
    let b : Begins t (work_tasks request info false (words_read asked)) (status_by (work_verdict request info (words_read asked))) = begins_at request number info (verdict_of request info) (words_read asked) whole refl in
    let w = works asked t work false status (begun_job number request info.sectors info (verdict_of request info) refl) b.ends its b.all in
    record {
      are_steps = w.are_steps;
      whole = λ status is. w.rest ∙ done_to_do (told_all t asked) status is;
      response = λ ended is. subst (λ (s : JobStage). EndsSo s (has_failed asked) status) is w.ends;
    }
