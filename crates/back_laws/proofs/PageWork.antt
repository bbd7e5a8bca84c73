-- A job of an INDIRECT does the work of its entry and of the words of its pages; and so every job of a run does.
use Rattle.std.proofs.Common.{◌≡◌, ℕ, ◌+◌, ◌-◌, ◌≤◌, ◌<◌, ◌==◌, ◌||◌, not, Bool, true, false, if◌then◌else◌, List, [], ◌∷◌, ◌++◌, refl, sym, ap, ◌∙◌, subst, append_assoc, arith}
use Rattle.std.specs.Prelude.{nat_le, nat_lt, is_none, unwrap_or, Some, None}
use Rattle.std.specs.List.{list_any}
use Rattle.std.proofs.lemmas.Bool.Decides.{nat_tests}
use Rattle.std.proofs.lemmas.Option.{none-some}
use Rattle.std.proofs.lemmas.List.Concat.{flat_map-append}
use Rattle.blk_base.specs.declared.operation.Abi.{Abi}
use Rattle.blk_base.specs.declared.operation.Status.{Status}
use Rattle.blk_base.specs.declared.operation.Status.TheVariants.{Error, Unsupported}
use Rattle.blk_base.specs.declared.ask.BackAsk.{BackAsk}
use Rattle.blk_layout.specs.declared.segment.Segment.{Segment}
use Rattle.blk_layout.specs.declared.request.RawRequest.{RawRequest}
use Rattle.blk_layout.specs.declared.request.RawRequest.TheVariants.{Direct, Discard, Indirect}
use Rattle.blk_layout.specs.Entry.{segments_at, request_of}
use Rattle.segment_list.specs.declared.verdict.DiskInfo.{DiskInfo}
use Rattle.segment_list.specs.declared.verdict.Kind.{Kind}
use Rattle.segment_list.specs.declared.verdict.Kind.TheVariants as kind
use Rattle.segment_list.specs.declared.verdict.Plan.{Plan}
use Rattle.segment_list.specs.declared.verdict.Verdict.{Verdict}
use Rattle.segment_list.specs.declared.verdict.Verdict.TheVariants as verdict
use Rattle.segment_list.specs.declared.verdict.Why.TheVariants as why
use Rattle.segment_list.specs.Segments.{fails_test, sectors_of}
use Rattle.segment_list.specs.Verdict.{planned, verdict_of, finished_verdict, kind_within}
use Rattle.back_jobs.specs.declared.stage.JobStage.{JobStage}
use Rattle.back_jobs.specs.declared.stage.JobStage.TheVariants as stage
use Rattle.back_jobs.specs.Work.{Work, ask_of, step_of, judged, begun, paging, ended, first_of}
use Rattle.back_jobs.specs.Jobs.{response_at}
use Rattle.back_jobs.specs.Hands.{hand_of}
use Rattle.blk_back.specs.declared.stage.Reply.{Reply}
use Rattle.blk_back.specs.Ask.{reply_of}
use Rattle.report_rules.specs.declared.work.Task.{Task}
use Rattle.report_rules.specs.declared.step.Step.{Step}
use Rattle.report_rules.specs.Step.{steps_of, steps_in}
use Rattle.report_rules.specs.Work.{pages_of, status_by, served_tasks, planned_tasks, are_read, indirect_tasks, settled}
use Rattle.report_rules.proofs.Copied.{no_segments}
use Rattle.back_laws.specs.Activity.{Asked}
use Rattle.back_laws.specs.Ledger.{JobAsked, asks_for, told_all, AreItsAsks, Request, AreServed}
use Rattle.back_laws.specs.JobSteps.{IsNext, left_by, is_failure, AreSteps, all_left_by, has_failed, words_read, word_given, JobsDoTheirWork, AllDoTheirWork, RequestsAreWorked, RepliesComeLast}
use Rattle.back_laws.proofs.Jobs.{IsJob, step_job, begun_job}
use Rattle.back_laws.proofs.JobSteps.{to_do, segments_to_do, done_to_do}
use Rattle.back_laws.proofs.SegmentSteps.{others, stores_steps, loads_steps}
use Rattle.back_laws.proofs.JobWork.{EndsSo, works, whole_work}
use Rattle.back_laws.proofs.PageWords.{AreRead, all_read}
use Rattle.back_laws.proofs.PageSteps.{to_copy_at, CopiesAt, IsSame, Leaves, copies, refused, is_last, copies_on, Judges, judges}

-- what comes after the pages, once all their words are read
abbrev after_pages : Plan → ℕ → List ℕ → DiskInfo → List Task
after_pages plan count words info = if are_read count words then served_tasks false (finished_verdict plan (segments_at words 0 count) info) (segments_at words 0 count) else []

abbrev verdict_by : Plan → ℕ → List ℕ → DiskInfo → Verdict
verdict_by plan count words info = if are_read count words then finished_verdict plan (segments_at words 0 count) info else verdict.Serve plan

-- a job by its plan
record IsPlanned (info : DiskInfo) (plan : Plan) (count : ℕ) (t : Work) : Type 0 where
  named : t.named ≡ count
  disk : t.disk ≡ plan.sector
  size : t.size ≡ info.sectors
  moves : (segments : List Segment) → steps_of (planned_tasks false plan plan.kind segments) ≡ others t.writes t.disk segments

same_plan : (info : DiskInfo) (plan : Plan) (count : ℕ) (t u : Work) → IsSame t u → IsPlanned info plan count t → IsPlanned info plan count u
same_plan info plan count t u same p = record {
  named = same.0 ∙ p.named;
  disk = same.1 ∙ p.disk;
  size = same.2 ∙ p.size;
  moves = λ segments. p.moves segments ∙ (ap (λ (b : Bool). others b t.disk segments) (sym same.3) ∙ ap (λ (d : ℕ). others u.writes d segments) (sym same.1));
}

-- the segments are judged
record IsJudged (u : Work) (segments : List Segment) (v : Verdict) : Type 0 where
  all : to_do u ≡ steps_of (served_tasks false v segments)
  ends : EndsSo u.stage false (status_by v)

judged_by : (info : DiskInfo) (plan : Plan) (count : ℕ) (t : Work) (bad far : Bool) → IsPlanned info plan count t
    → IsJudged (if not (bad || far) then record t { within = first_of t.rest; stage = stage.Map } else record t { stage = stage.Done Error }) t.rest (if bad then verdict.Error why.Segment else (if far then verdict.Error why.Range else verdict.Serve plan))
judged_by info plan count t true far p = record { all = done_to_do (record t { stage = stage.Done Error }) Error refl; ends = refl }
judged_by info plan count t false true p = record { all = done_to_do (record t { stage = stage.Done Error }) Error refl; ends = refl }
judged_by info plan count t false false p =
    let u : Work = record t { within = first_of t.rest; stage = stage.Map } in
    record { all = segments_to_do u t.rest refl refl refl ∙ sym (p.moves t.rest); ends = (refl, refl) }

judged_so : (info : DiskInfo) (plan : Plan) (count : ℕ) (t : Work) → IsPlanned info plan count t → IsJudged (judged t) t.rest (finished_verdict plan t.rest info)
judged_so info plan count t p =
    let bad : Bool = list_any fails_test t.rest in
    let far : nat_lt t.size (t.disk + sectors_of t.rest) ≡ nat_lt info.sectors (plan.sector + sectors_of t.rest) = ap (λ (n : ℕ). nat_lt n (t.disk + sectors_of t.rest)) p.size ∙ ap (λ (n : ℕ). nat_lt info.sectors (n + sectors_of t.rest)) p.disk in
    subst (λ (b : Bool). IsJudged (judged t) t.rest (if list_any fails_test t.rest then verdict.Error why.Segment else (if b then verdict.Error why.Range else verdict.Serve plan))) far
    (judged_by info plan count t bad (nat_lt t.size (t.disk + sectors_of t.rest)) p)

-- how it goes, whatever it is answered
record Worked (t : Work) (asked : List Asked) (left : List Step) (served : Status) : Type 0 where
  are_steps : AreSteps asked left
  whole : (status : Status) → (let u : Work = told_all t asked in u.stage ≡ stage.Done status) → all_left_by asked left ≡ []
  response : (status : Status) → (let u : Work = told_all t asked in u.stage ≡ stage.Done status) → status ≡ (if has_failed asked then Error else served)

-- it copies no more
works_so : (asked : List Asked) (t : Work) (left : List Step) (served : Status) → IsJob t → EndsSo t.stage false served → AreItsAsks t asked → to_do t ≡ left → Worked t asked left served
works_so asked t left served j e its is =
    let w = works asked t left false served j e its is in
    record {
      are_steps = w.are_steps;
      whole = λ status done. w.rest ∙ done_to_do (told_all t asked) status done;
      response = λ status done. subst (λ (s : JobStage). EndsSo s (has_failed asked) served) done w.ends;
    }

goes_over : (a : Asked) (asked : List Asked) (t : Work) (left : List Step) (failed : Bool) (served : Status) → IsJob (step_of t a.answer) → is_failure a.answer ≡ failed → (let u : Work = step_of t a.answer in EndsSo u.stage failed served)
    → to_do (step_of t a.answer) ≡ left_by a.ask a.answer left → IsNext a.ask left → AreItsAsks (step_of t a.answer) asked → Worked t (a ∷ asked) left served
goes_over a asked t left failed served j fails e is next its =
    let w = works asked (step_of t a.answer) (left_by a.ask a.answer left) failed served j e its is in
    record {
      are_steps = (next, w.are_steps);
      whole = λ status done. w.rest ∙ done_to_do (told_all (step_of t a.answer) asked) status done;
      response = λ status done. subst (λ (s : JobStage). EndsSo s (failed || has_failed asked) served) done w.ends ∙ ap (λ (b : Bool). if b || has_failed asked then Error else served) (sym fails);
    }

goes_on : (a : Asked) (asked : List Asked) (t : Work) (left : List Step) (served : Status) → is_failure a.answer ≡ false → IsNext a.ask left → Worked (step_of t a.answer) asked (left_by a.ask a.answer left) served → Worked t (a ∷ asked) left served
goes_on a asked t left served fine next w = record {
  are_steps = (next, w.are_steps);
  whole = w.whole;
  response = λ status done. w.response status done ∙ ap (λ (b : Bool). if b || has_failed asked then Error else served) (sym fine);
}

not_done : (s : JobStage) (t : Work) (words : List ℕ) (status : Status) → CopiesAt s t words → s ≡ stage.Done status → ⊥
not_done stage.MapPage t words status c is = cc
not_done (stage.PageReference m) t words status c is = cc
not_done (stage.PageSectors m gref) t words status c is = cc
not_done (stage.UnmapPage m) t words status c is = cc
not_done s t words status c is = c

-- it copies, up to the verdict on its segments
copying : (asked : List Asked) (t : Work) (words all : List ℕ) (left : List Step) (info : DiskInfo) (plan : Plan) (count : ℕ) → IsJob t → IsPlanned info plan count t → CopiesAt t.stage t words → all ≡ words ++ words_read asked
    → left ≡ to_copy_at t.stage t ++ steps_of (after_pages plan count all info) → AreItsAsks t asked → Worked t asked left (status_by (verdict_by plan count all info))
copying [] t words all left info plan count j p c is all_left its = record {
  are_steps = tt;
  whole = λ status done. absurd (not_done t.stage t words status c done);
  response = λ status done. absurd (not_done t.stage t words status c done);
}
copying (a ∷ asked) t words all left info plan count j p c is all_left its =
    by_last (is_last t.stage t) refl
    (λ alike copied left_is. copying asked (step_of t a.answer) (words ++ word_given a.answer) all (left_by a.ask a.answer left) info plan count (step_job t a.answer its.1 j) (same_plan info plan count t (step_of t a.answer) alike p) copied
    (is ∙ sym (append_assoc words (word_given a.answer) (words_read asked))) left_is its.2)
  where
    later : List Step
    later = steps_of (after_pages plan count all info)

    served : Status
    served = status_by (verdict_by plan count all info)

    u : Work
    u = step_of t a.answer

    here : List Step
    here = to_copy_at t.stage t ++ later

    next : IsNext (ask_of t) here → IsNext a.ask left
    next n = subst (λ (x : BackAsk). IsNext x left) (sym its.0) (subst (λ (l : List Step). IsNext (ask_of t) l) (sym all_left) n)

    same : left_by a.ask a.answer left ≡ left_by (ask_of t) a.answer here
    same = ap (λ (x : BackAsk). left_by x a.answer left) its.0 ∙ ap (λ (l : List Step). left_by (ask_of t) a.answer l) all_left

    -- it goes on so after this answer
    Further : Type 0
    Further = IsSame t u → CopiesAt u.stage u (words ++ word_given a.answer) → left_by a.ask a.answer left ≡ to_copy_at u.stage u ++ later → Worked u asked (left_by a.ask a.answer left) served

    by_leaves : Further → IsNext a.ask left → Leaves (ask_of t) a.answer t u words here later → Worked t (a ∷ asked) left served
    by_leaves further n (copies fine alike copied left_is) = goes_on a asked t left served fine n (further alike copied (same ∙ left_is))
    by_leaves further n (refused fails done none) =
        goes_over a asked t left true served (step_job t a.answer its.1 j) fails (subst (λ (s : JobStage). EndsSo s true served) (sym done) refl) (done_to_do u Error done ∙ sym (same ∙ none)) n its.2

    finish : Judges t.stage t a.answer words later → Worked t (a ∷ asked) left served
    finish e =
        let read : AreRead t.rest count all = all_read t.rest words (words_read asked) all count e.of (e.all ∙ p.named) (is ∙ ap (λ (l : List ℕ). words ++ (l ++ words_read asked)) e.unread) in
        let v : verdict_by plan count all info ≡ finished_verdict plan t.rest info = ap (λ (b : Bool). if b then finished_verdict plan (segments_at all 0 count) info else verdict.Serve plan) read.enough ∙ ap (λ (l : List Segment). finished_verdict plan l info) read.are in
        let w : after_pages plan count all info ≡ served_tasks false (finished_verdict plan t.rest info) t.rest = ap (λ (b : Bool). if b then served_tasks false (finished_verdict plan (segments_at all 0 count) info) (segments_at all 0 count) else []) read.enough ∙ ap (λ (l : List Segment). served_tasks false (finished_verdict plan l info) l) read.are in
        let d : IsJudged (judged t) t.rest (finished_verdict plan t.rest info) = judged_so info plan count t p in
        goes_over a asked t left false served (step_job t a.answer its.1 j) e.fine
        (subst (λ (x : Work). EndsSo x.stage false served) (sym e.step) (let f : Work = judged t in subst (λ (x : Verdict). EndsSo f.stage false (status_by x)) (sym v) d.ends))
        (ap to_do e.step ∙ (d.all ∙ (ap steps_of (sym w) ∙ sym (same ∙ e.left)))) (next e.next) its.2

    by_last : (b : Bool) → is_last t.stage t ≡ b → Further → Worked t (a ∷ asked) left served
    by_last true last further = finish (judges t.stage t a.answer words later c its.1 last)
    by_last false more further = let g = copies_on t.stage t a.answer words later c its.1 more in by_leaves further (next g.next) g.leaves

-- an INDIRECT that is served names some segments, and reads or writes
record IsIndirect (op sector count : ℕ) (info : DiskInfo) (plan : Plan) : Type 0 where
  sector_is : sector ≡ plan.sector
  some : 0 < count
  few : count ≤ info.max_indirect
  moves : (segments : List Segment) → steps_of (planned_tasks false plan plan.kind segments) ≡ others (not (op == 0)) sector segments

moved_by : (read write : Bool) (sector count : ℕ) → is_none (if read then Some kind.IndirectRead else (if write then Some kind.IndirectWrite else None)) ≡ false → (segments : List Segment)
    → (let k : Kind = unwrap_or (if read then Some kind.IndirectRead else (if write then Some kind.IndirectWrite else None)) kind.IndirectRead in steps_of (planned_tasks false (planned k sector count) k segments) ≡ others (not read) sector segments)
moved_by true write sector count is segments = loads_steps sector segments
moved_by false true sector count is segments = stores_steps sector segments
moved_by false false sector count is segments = absurd (cc)

indirect_served : (op count device id sector : ℕ) (pages : List ℕ) (info : DiskInfo) (plan : Plan) → verdict_of (Indirect op count device id sector pages) info ≡ verdict.Serve plan → IsIndirect op sector count info plan
indirect_served op count device id sector pages info plan h =
    let k : Kind = unwrap_or (kind_within op) kind.IndirectRead in
    let t = tests _ _ _ _ (planned k sector count) h in
    record {
      sector_is = ap (λ (p : Plan). p.sector) (sym t.2);
      some = some count info.max_indirect t.1;
      few = few count info.max_indirect t.1;
      moves = subst (λ (p : Plan). (segments : List Segment) → steps_of (planned_tasks false p p.kind segments) ≡ others (not (op == 0)) sector segments) (sym t.2) (moved_by (op == 0) (op == 1) sector count t.0);
    }
  where
    tests : (a b c d : Bool) (p : Plan) → (if a then verdict.Unsupported else (if b then verdict.Error why.Op else (if c then verdict.Error why.ReadOnly else (if d then verdict.Error why.Count else verdict.Serve p)))) ≡ verdict.Serve plan → (b ≡ false) × (d ≡ false) × (plan ≡ p)
    tests true b c d p e = absurd (cc)
    tests false true c d p e = absurd (cc)
    tests false false true d p e = absurd (cc)
    tests false false false true p e = absurd (cc)
    tests false false false false p e = (refl, refl, cc)

    some : (count most : ℕ) → ((count == 0) || nat_lt most count) ≡ false → 0 < count
    some count most h = grind (arith, nat_tests)

    few : (count most : ℕ) → ((count == 0) || nat_lt most count) ≡ false → count ≤ most
    few count most h = grind (arith, nat_tests)

indirect_work : (op count device id sector number : ℕ) (pages : List ℕ) (info : DiskInfo) (asked : List Asked) (v : Verdict) → nat_le info.max_indirect 960 ≡ true → verdict_of (Indirect op count device id sector pages) info ≡ v
    → AreItsAsks (begun number (Indirect op count device id sector pages) info.sectors v) asked
    → Worked (begun number (Indirect op count device id sector pages) info.sectors v) asked (steps_of (indirect_tasks false v count pages (words_read asked) info)) (status_by (settled v count (words_read asked) info))
indirect_work op count device id sector number pages info asked (verdict.Error w) room is its =
    let t : Work = ended number (Indirect op count device id sector pages) info.sectors (stage.Done Error) in
    works_so asked t [] Error (begun_job number (Indirect op count device id sector pages) info.sectors info (verdict.Error w) is) refl its (done_to_do t Error refl)
indirect_work op count device id sector number pages info asked verdict.Unsupported room is its =
    let t : Work = ended number (Indirect op count device id sector pages) info.sectors (stage.Done Unsupported) in
    works_so asked t [] Unsupported (begun_job number (Indirect op count device id sector pages) info.sectors info verdict.Unsupported is) refl its (done_to_do t Unsupported refl)
indirect_work op count device id sector number pages info asked (verdict.Serve plan) room is its = by_room (nat_le count 960) fits (begun_job number request info.sectors info (verdict.Serve plan) is) its
  where
    request : RawRequest
    request = Indirect op count device id sector pages

    t : Work
    t = paging number request info.sectors (not (op == 0)) sector count pages

    s : IsIndirect op sector count info plan
    s = indirect_served op count device id sector pages info plan is

    below : (count most : ℕ) → count ≤ most → nat_le most 960 ≡ true → nat_le count 960 ≡ true
    below count most le room = grind (arith, nat_tests)

    fits : nat_le count 960 ≡ true
    fits = below count info.max_indirect s.few room

    work : List Step
    work = steps_of (indirect_tasks false (verdict.Serve plan) count pages (words_read asked) info)

    pages_first : work ≡ to_copy_at stage.MapPage t ++ steps_of (after_pages plan count (words_read asked) info)
    pages_first =
        let all : count ≡ count - 0 = omega arith in
        flat_map-append steps_in (pages_of count pages) (after_pages plan count (words_read asked) info)
        ∙ ap (λ (n : ℕ). steps_of (pages_of n pages) ++ steps_of (after_pages plan count (words_read asked) info)) all

    by_room : (b : Bool) → b ≡ true → IsJob (if b then t else ended number request info.sectors (stage.Done Error)) → AreItsAsks (if b then t else ended number request info.sectors (stage.Done Error)) asked
        → Worked (if b then t else ended number request info.sectors (stage.Done Error)) asked work (status_by (verdict_by plan count (words_read asked) info))
    by_room true e j its =
        copying asked t [] (words_read asked) work info plan count j (record { named = refl; disk = s.sector_is; size = refl; moves = s.moves })
        (s.some, refl, record { long = refl; are = sym (no_segments [] 0) }) refl pages_first its
    by_room false e j its = absurd (cc)

pub do_their_work : JobsDoTheirWork
do_their_work info number (Direct op count device id sector segments) asked room its = whole_work info number (Direct op count device id sector segments) asked refl its
do_their_work info number (Discard flag device id sector count) asked room its = whole_work info number (Discard flag device id sector count) asked refl its
do_their_work info number (Indirect op count device id sector pages) asked room its =
    let w = indirect_work op count device id sector number pages info asked (verdict_of (Indirect op count device id sector pages) info) room refl its in
    record { are_steps = w.are_steps; whole = w.whole; response = w.response }

all_work : (info : DiskInfo) (abi : Abi) (trace : List JobAsked) (k : ℕ) (requests : List Request) → AreServed info abi trace k requests → AllDoTheirWork info abi trace k requests
all_work info abi trace k [] all = tt
all_work info abi trace k (q ∷ requests) all = (λ room. do_their_work info k (request_of abi q.words) (asks_for k trace) room all.0, all_work info abi trace (k + 1) requests all.2)

pub requests_worked : RequestsAreWorked
requests_worked info abi trace entries replies works l = all_work info abi trace 1 l.requests l.served

given_up : (s : JobStage) (t : Work) (reply : Reply) → t.stage ≡ s → reply_of (response_at s t) ≡ Some reply → hand_of t ≡ []
given_up (stage.Done status) t reply at is = rw at refl
given_up s t reply at is = absurd (none-some reply is)

pub replies_last : RepliesComeLast
replies_last t reply is = given_up t.stage t reply refl is
