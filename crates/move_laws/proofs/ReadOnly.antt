-- The jobs of a read-only disk move no word to it and trim no sector of it, whatever happens: where mappings may be kept, and so where none are.
use Rattle.std.proofs.Common.{◌≡◌, ℕ, ◌+◌, ◌==◌, zero, suc, Bool, true, false, true≢false, cond, if◌then◌else◌, List, [], ◌∷◌, ◌++◌, length, take, drop, refl, sym, ap, ◌∙◌, subst, arith}
use Rattle.std.specs.Prelude.{All, Option, Some, None, is_some, nat_le, not, position, map}
use Rattle.std.proofs.lemmas.Option.{none-some, slice_get_within, get_or_from_slice_get}
use Rattle.std.proofs.lemmas.List.Elements.{All-nil, All-tail, All-set, All-push, All-append, All-take, All-drop, All-get_or}
use Rattle.std.proofs.lemmas.Bool.Decides.{nat_tests}
use Rattle.blk_base.specs.Options.{Options}
use Rattle.blk_base.specs.declared.operation.Status.TheVariants.{Error}
use Rattle.blk_base.specs.declared.parts.Mapping.{Mapping}
use Rattle.blk_base.specs.declared.parts.Mode.{Mode}
use Rattle.blk_base.specs.declared.parts.Mode.TheVariants.{ReadWrite}
use Rattle.blk_base.specs.declared.ask.BackAsk.{BackAsk}
use Rattle.blk_base.specs.declared.ask.BackAsk.TheVariants as ask
use Rattle.blk_base.specs.declared.ask.BackAnswer.{BackAnswer}
use Rattle.blk_base.specs.declared.ask.BackAnswer.TheVariants as answer
use Rattle.ring_words.specs.Ring.{requests_of, overruns}
use Rattle.ring_words.specs.Shape.{entry_words_of}
use Rattle.blk_io.specs.Disk.{DiskSeen}
use Rattle.blk_layout.specs.declared.segment.Segment.{Segment}
use Rattle.blk_layout.specs.declared.request.RawRequest.{RawRequest}
use Rattle.blk_layout.specs.declared.request.RawRequest.TheVariants.{Direct, Discard, Indirect}
use Rattle.blk_layout.specs.Entry.{segment_of, request_of}
use Rattle.segment_list.specs.declared.verdict.DiskInfo.{DiskInfo}
use Rattle.segment_list.specs.declared.verdict.Why.{Why}
use Rattle.segment_list.specs.declared.verdict.Why.TheVariants as why
use Rattle.segment_list.specs.declared.verdict.Verdict.{Verdict}
use Rattle.segment_list.specs.declared.verdict.Verdict.TheVariants as verdict
use Rattle.segment_list.specs.Verdict.{verdict_of}
use Rattle.persist_grants.specs.KeptMappings.{KeptMappings, may_keep, mapping_for}
use Rattle.persist_grants.specs.PutBack.{handed_out, with_mapping}
use Rattle.back_jobs.specs.declared.stage.JobStage.{JobStage}
use Rattle.back_jobs.specs.declared.stage.JobStage.TheVariants as job
use Rattle.back_jobs.specs.Work.{Work, ask_at, map_in, page_ask, mode_of, is_copied_out, passes, judged, page_done, paging, first_of, step_of, step_at as job_step_at, sector_stage, next_sector, next_segment, counted, rest_of, last_of, begun, moving, ended, frameless}
use Rattle.back_jobs.specs.Jobs.{HeldJobs, work_at, work_of, place_of, removed_at, first_mapping, after_mapping, mapping_at, is_done}
use Rattle.back_jobs.specs.Keeping.{ask_with, asked_in, waits_in, ask_keeping, begun_with, takes, returned, failed_with, settled_at, settled, told_keeping, start_keeping, given_from, after_given}
use Rattle.blk_back.specs.declared.stage.Reply.{Reply}
use Rattle.blk_back.specs.declared.stage.BackStage.{BackStage}
use Rattle.blk_back.specs.declared.stage.BackStage.TheVariants as stage
use Rattle.blk_base.specs.declared.halt.Halt.{Halt}
use Rattle.blk_base.specs.declared.halt.Halt.TheVariants as halt
use Rattle.blk_back.specs.View.{View}
use Rattle.blk_back.specs.Ask.{next_reply, is_led}
use Rattle.blk_back.specs.Step.{overrun, looked, fetched, next_number, may_halt}
use Rattle.blk_back.specs.Keeping.{overrun_keeping, looked_keeping, loop_step_keeping, fetched_keeping, step_keeping_at, halts_keeping_at, halts_keeping, KeepsNone}
use Rattle.blk_back.proofs.Plain.{plain_job_ask}
use Rattle.hypervisor.specs.Act.{FrontAct, BackAct, Outcome, Gave, Took, Failed}
use Rattle.hypervisor.specs.Disk.{DiskDoes, NoCall}
use Rattle.split_model.specs.World.{World, start_of}
use Rattle.split_model.specs.Happening.{Happening, FrontMoves, BackMoves, JobMoves, BackAttaches, BackHalts, Suspends, happens, front_after, front_turn, back_turn, DiskGoes, DiskRuns}
use Rattle.split_model.specs.Kept.{KeepingHappening, Plainly, BackOffers, BackKeeps, back_offers, offered, reads_keeping, kept_so, back_after_keeping, job_turn_keeping, job_after_keeping, plainly_after, happens_keeping, DiskGoesKeeping, IsSafeKeeping}
use Rattle.split_model.proofs.Attaching.{attach_cases}
use Rattle.split_model.proofs.Kept.{kept_start, kept_happens}
use Rattle.split_model.proofs.Suspending.{suspend_cases, begun_back, back_cases}
use Rattle.split_model.proofs.Without.{goes_as_without}
use Rattle.move_laws.specs.Kept.{DiskRunsKeeping}
use Rattle.back_laws.proofs.KeptJobs.{IsFitAt, IsFit, JobsFit}
use Rattle.back_laws.proofs.Held.{IsBack, back_start}
use Rattle.move_laws.proofs.KeptLines.{either_world}
use Rattle.move_laws.proofs.Always.{back_keeping}

-- it trims no sectors
abbrev TrimsNone : JobStage → Type 0
TrimsNone (job.Trim count) = ⊥
TrimsNone s = Unit {0}

-- a job that leaves the disk its content: its words go from there to the guest, and it trims no sectors
abbrev Reads : Work → Type 0
Reads t = (t.writes ≡ false) × TrimsNone t.stage

either_reads : (b : Bool) (x y : Work) → (b ≡ true → Reads x) → Reads y → Reads (if b then x else y)
either_reads true x y p q = p refl
either_reads false x y p q = q

-- whatever such a job is told, it goes on so
begins_none : (b : Bool) (m : Mapping) → TrimsNone (sector_stage b m)
begins_none true m = tt
begins_none false m = tt

next_reads : (t : Work) (m : Mapping) → t.writes ≡ false → Reads (next_sector t m)
next_reads t m reads = either_reads (t.within == last_of t.rest) _ _ (λ last. (reads, tt)) (reads, begins_none t.writes m)

segment_reads : (t : Work) (rest : List Segment) → t.writes ≡ false → Reads (next_segment t rest)
segment_reads t [] reads = (reads, tt)
segment_reads t (s ∷ rest) reads = (reads, tt)

judged_reads : (t : Work) → t.writes ≡ false → Reads (judged t)
judged_reads t reads = either_reads (passes t) (record t { within = first_of t.rest; stage = job.Map }) (record t { stage = job.Done Error }) (λ passed. (reads, tt)) (reads, tt)

page_reads : (t : Work) → t.writes ≡ false → Reads (page_done t)
page_reads t reads = either_reads (length t.rest == t.named) (judged t) (record t { pages = drop 1 t.pages; stage = job.MapPage }) (λ all. judged_reads t reads) (reads, tt)

step_reads : (s : JobStage) (t : Work) (given : BackAnswer) → Reads t → Reads (job_step_at s t given)
step_reads job.MapPage t (answer.Mapped m) r = (r.0, tt)
step_reads job.MapPage t (answer.MapRefused status) r = (r.0, tt)
step_reads (job.PageReference m) t (answer.Word word) r = (r.0, tt)
step_reads (job.PageSectors m gref) t (answer.Word word) r = (r.0, by_last (is_copied_out t (t.rest ++ segment_of gref word ∷ [])))
  where
    by_last : (b : Bool) → TrimsNone (if b then job.UnmapPage m else job.PageReference m)
    by_last true = tt
    by_last false = tt
step_reads (job.UnmapPage m) t answer.Done r = page_reads t r.0
step_reads job.Map t (answer.Mapped m) r = (r.0, begins_none t.writes m)
step_reads job.Map t (answer.MapRefused status) r = (r.0, tt)
step_reads (job.ReadWord m k) t (answer.Word word) r = (r.0, by_last (k == 127))
  where
    by_last : (b : Bool) → TrimsNone (if b then job.DiskWrite m else job.ReadWord m (k + 1))
    by_last true = tt
    by_last false = tt
step_reads (job.DiskWrite m) t answer.Done r = next_reads (counted t) m r.0
step_reads (job.DiskWrite m) t answer.DiskFailed r = (r.0, tt)
step_reads (job.DiskRead m) t (answer.Sector words) r = (r.0, tt)
step_reads (job.DiskRead m) t answer.DiskFailed r = (r.0, tt)
step_reads (job.WriteWord m k) t answer.Done r = either_reads (k == 127) _ _ (λ last. next_reads t m r.0) (r.0, tt)
step_reads (job.Unmap m) t answer.Done r = segment_reads t (rest_of t.rest) r.0
step_reads (job.Abort m) t answer.Done r = (r.0, tt)
step_reads job.Flush t answer.Done r = (r.0, tt)
step_reads job.Flush t answer.DiskFailed r = (r.0, tt)
step_reads (job.Trim count) t answer.Done r = (r.0, tt)
step_reads (job.Trim count) t answer.DiskFailed r = (r.0, tt)
step_reads s t given r = r

-- a disk that is read-only, and has no barriers and no discards
abbrev IsUnchanging : DiskInfo → Type 0
IsUnchanging info = (info.read_only ≡ true) × (info.discard ≡ false) × (info.barrier ≡ false)

-- of such a disk, a request that is served is a read or a flush
begun_reads : (number : ℕ) (request : RawRequest) (size : ℕ) (info : DiskInfo) → IsUnchanging info → Reads (begun number request size (verdict_of request info))
begun_reads number (Direct code count device id sector segments) size info u = by_code code
  where
    request : ℕ → RawRequest
    request n = Direct n count device id sector segments

    by_verdict : (n : ℕ) (v : Verdict) → (nat_le n 2 ≡ true → not (n == 0) ≡ false) → Reads (begun number (Direct n count device id sector segments) size v)
    by_verdict n (verdict.Serve plan) read =
        either_reads (nat_le n 2) (moving number (request n) size (not (n == 0)) sector (take count segments)) _ (λ few. (read few, tt))
        (either_reads (n == 3) (frameless number (request n) size sector job.Flush) (ended number (request n) size (job.Done Error)) (λ flush. (refl, tt)) (refl, tt))
    by_verdict n other read = (refl, tt)

    by_code : (n : ℕ) → Reads (begun number (Direct n count device id sector segments) size (verdict_of (Direct n count device id sector segments) info))
    by_code zero = by_verdict 0 (verdict_of (request 0) info) (λ few. refl)
    by_code (suc zero) = rw u.0 (refl, tt)
    by_code (suc (suc zero)) = rw u.2 (refl, tt)
    by_code (suc (suc (suc n))) = by_verdict (suc (suc (suc n))) (verdict_of (request (suc (suc (suc n)))) info) (λ few. absurd (too_many n few))
      where
        too_many : (m : ℕ) → nat_le (suc (suc (suc m))) 2 ≡ true → ⊥
        too_many m few = grind (arith, nat_tests)
begun_reads number (Discard flag device id sector count) size info u = rw u.1 (refl, tt)
begun_reads number (Indirect code count device id sector pages) size info u = by_code code
  where
    request : ℕ → RawRequest
    request n = Indirect n count device id sector pages

    by_verdict : (v : Verdict) → Reads (begun number (request 0) size v)
    by_verdict (verdict.Serve plan) = either_reads (nat_le count 960) (paging number (request 0) size false sector count pages) (ended number (request 0) size (job.Done Error)) (λ few. (refl, tt)) (refl, tt)
    by_verdict other = (refl, tt)

    refused : (n : ℕ) (w : Why) (b : Bool) → Reads (begun number (request n) size (if b then verdict.Unsupported else verdict.Error w))
    refused n w true = (refl, tt)
    refused n w false = (refl, tt)

    by_code : (n : ℕ) → Reads (begun number (request n) size (verdict_of (request n) info))
    by_code zero = by_verdict (verdict_of (request 0) info)
    by_code (suc zero) = rw u.0 (refused 1 why.ReadOnly (info.max_indirect == 0))
    by_code (suc (suc n)) =
        let other : (suc (suc n) == 0) ≡ false = grind (arith, nat_tests) in
        let another : (suc (suc n) == 1) ≡ false = grind (arith, nat_tests) in
        rw (other, another) (refused (suc (suc n)) why.Op (info.max_indirect == 0))

-- the back's disk is such a one, and its jobs leave it its content
abbrev pub OnlyReads : HeldJobs → Type 0
OnlyReads h = IsUnchanging h.info × All Reads h.works

-- a job that settles goes on so
begun_with_reads : (o : Option Mapping) (t : Work) → Reads t → Reads (begun_with o t)
begun_with_reads None t r = r
begun_with_reads (Some m) t r = (r.0, begins_none t.writes m)

takes_reads : (kept : KeptMappings) (rest : List Segment) (t : Work) → Reads t → Reads (takes kept rest t).job
takes_reads kept [] t r = r
takes_reads kept (s ∷ rest) t r = begun_with_reads (mapping_for kept s.gref) t r

returned_reads : (o : Option Mapping) (kept : KeptMappings) (t : Work) → t.writes ≡ false → Reads (returned o kept t).job
returned_reads (Some out) kept t reads = (reads, tt)
returned_reads None kept t reads = takes_reads kept (rest_of t.rest) (next_segment t (rest_of t.rest)) (segment_reads t (rest_of t.rest) reads)

failed_reads : (o : Option Mapping) (t : Work) → t.writes ≡ false → Reads (failed_with o t)
failed_reads (Some out) t reads = (reads, tt)
failed_reads None t reads = (reads, tt)

settled_reads : (s : JobStage) (kept : KeptMappings) (t : Work) → Reads t → Reads (settled_at s kept t).job
settled_reads job.Map kept t r = takes_reads kept t.rest t r
settled_reads (job.Unmap m) kept t r = returned_reads (handed_out kept m.gref m) (with_mapping kept m.gref m) t r.0
settled_reads (job.Abort m) kept t r = failed_reads (handed_out kept m.gref m) t r.0
settled_reads s kept t r = r

started : (h : HeldJobs) (number : ℕ) (request : RawRequest) → OnlyReads h → OnlyReads (start_keeping h number request)
started h number request o =
    let t : Work = begun number request h.info.sectors (verdict_of request h.info) in
    (o.0, All-push Reads h.works _ o.1 (settled_reads t.stage h.kept t (begun_reads number request h.info.sectors h.info o.0)))

told_reads : (h : HeldJobs) (place : Option ℕ) (found : Option Work) (given : BackAnswer) → work_at h.works place ≡ found → OnlyReads h → OnlyReads (told_keeping h place found given)
told_reads h None found given e o = o
told_reads h (Some place) None given e o = o
told_reads h (Some place) (Some t) given e o =
    let within = slice_get_within h.works place t e in
    let same = get_or_from_slice_get h.works place t t e in
    let u : Work = step_of t given in
    let told : Reads u = step_reads t.stage t given (subst Reads same (All-get_or Reads h.works place t within o.1)) in
    (o.0, All-set Reads h.works place (settled h.kept u).job (settled_reads u.stage h.kept u told) o.1)

removed_reads : (works : List Work) (place : Option ℕ) → All Reads works → All Reads (removed_at works place)
removed_reads works None all = all
removed_reads works (Some place) all = All-append Reads _ _ (All-take Reads place works all) (All-drop Reads (suc place) works all)

after_reads : (works : List Work) → All Reads works → All Reads (after_mapping works)
after_reads [] all = all
after_reads (t ∷ works) all = let rest = All-tail Reads t works all in by_test (is_some (mapping_at t.stage)) works rest (after_reads works rest)
  where
    by_test : (b : Bool) (works : List Work) → All Reads works → All Reads (after_mapping works) → All Reads (cond b works (after_mapping works))
    by_test true works all less = all
    by_test false works all less = less

given_reads_at : (o : Option Mapping) (h : HeldJobs) → OnlyReads h → OnlyReads (given_from o h)
given_reads_at (Some m) h o = (o.0, after_reads h.works o.1)
given_reads_at None h o = (o.0, after_reads h.works o.1)

given_reads : (h : HeldJobs) → OnlyReads h → OnlyReads (after_given h)
given_reads h o = given_reads_at (first_mapping h.works) h o

abbrev Stays : View → Type 0
Stays v = OnlyReads v.jobs

either : (b : Bool) (x y : View) → Stays x → Stays y → Stays (if b then x else y)
either true x y p q = p
either false x y p q = q

-- a test that is made twice
either_twice : (b : Bool) (x y z : View) → Stays x → Stays z → Stays (if b then x else (if b then y else z))
either_twice true x y z p q = p
either_twice false x y z p q = q

looked_stays : (v : View) (word : ℕ) (otherwise : View) → Stays v → Stays otherwise → Stays (looked_keeping v word otherwise)
looked_stays v word otherwise o other =
    let shown : View = record v { ring = record v.ring { seen = word }; stage = stage.Loop } in
    either_twice (overruns v.ring.indices word) (overrun_keeping v word) (overrun v word) (if word == v.ring.indices.cons then otherwise else shown)
    (given_reads v.jobs o) (either (word == v.ring.indices.cons) otherwise shown other o)

loop_stays : (v : View) (r : Option Reply) (given : BackAnswer) → Stays v → Stays (loop_step_keeping v r given)
loop_stays v (Some r) given o = (o.0, removed_reads v.jobs.works (position (λ (t : Work). is_done t) v.jobs.works) o.1)
loop_stays v None (answer.Word word) o =
    let otherwise : View = record v { ring = record v.ring { seen = word }; stage = stage.StoreEvent } in
    either_twice (requests_of v.ring.indices v.ring.seen == 0) (looked_keeping v word otherwise) (looked v word otherwise) (record v { ring = record v.ring { entry = word ∷ [] }; stage = stage.Fetch 1 })
    (looked_stays v word otherwise o o) o
loop_stays v None given o = o

step_stays : (s : BackStage) (v : View) (given : BackAnswer) → Stays v → Stays (step_keeping_at s v given)
step_stays stage.MapRing v (answer.Mapped m) o = o
step_stays stage.MapRing v (answer.MapRefused status) o = o
step_stays stage.Bind v answer.Done o = o
step_stays stage.Bind v answer.BindRefused o = o
step_stays stage.Loop v given o = loop_stays v (next_reply v) given o
step_stays (stage.Fetch k) v (answer.Word word) o =
    let words : List ℕ = v.ring.entry ++ word ∷ [] in
    either_twice (k + 1 == entry_words_of v.shape.abi) (fetched_keeping v words) (fetched v words) (record v { ring = record v.ring { entry = words }; stage = stage.Fetch (k + 1) })
    (started v.jobs (next_number v) (request_of v.shape.abi words) o) o
step_stays stage.LookAgain v (answer.Word word) o = looked_stays v word (record v { ring = record v.ring { seen = word; asleep = true }; stage = stage.Loop }) o o
step_stays (stage.ResponseEvent old) v (answer.Word event) o = o
step_stays (stage.Abort m) v given o = given_reads v.jobs o
step_stays s v given o = o

-- so it is whatever happens
back_stays : (w : World) (act : Option BackAct) → Stays w.back → (let x : World = back_after_keeping w act in Stays x.back)
back_stays w None o = o
back_stays w (Some a) o = step_stays w.back.stage w.back a.answer o

job_stays : (w : World) (number : ℕ) (act : Option BackAct) → Stays w.back → (let x : World = job_after_keeping w number act in Stays x.back)
job_stays w number None o = o
job_stays w number (Some a) o = told_reads w.back.jobs (place_of w.back.jobs.works number) (work_of w.back.jobs.works number) a.answer refl o

halt_stays_at : (s : BackStage) (why : Halt) (v : View) → Stays v → Stays (halts_keeping_at s why v)
halt_stays_at stage.InitWait why v o = o
halt_stays_at stage.MapRing why v o = o
halt_stays_at stage.Loop why v o = given_reads v.jobs o
halt_stays_at s why v o = o

halt_stays : (why : Halt) (v : View) → Stays v → Stays (halts_keeping why v)
halt_stays why v o = either (may_halt why) (halts_keeping_at v.stage why v) v (halt_stays_at v.stage why v o) o

front_stays : (w : World) → Stays w.back → (let x : World = happens w FrontMoves in Stays x.back)
front_stays w o = by_act (front_turn w)
  where
    by_act : (act : Option FrontAct) → (let x : World = front_after w act in Stays x.back)
    by_act None = o
    by_act (Some a) = o

plainly_stays : (w : World) (h : Happening) → Stays w.back → (let x : World = plainly_after w h in Stays x.back)
plainly_stays w FrontMoves o = front_stays w o
plainly_stays w BackMoves o = back_stays w (back_turn w Took) o
plainly_stays w (JobMoves number outcome) o = job_stays w number (job_turn_keeping w number outcome) o
plainly_stays w (BackAttaches shape grefs port) o = attach_cases (λ v shown. Stays v) w shape grefs port (λ may named says. o) o
plainly_stays w (BackHalts why) o = halt_stays why w.back o
plainly_stays w Suspends o =
    let new : Stays (begun_back w) = (o.0, All-nil Reads) in
    suspend_cases (λ v shown. Stays v.back) w (λ may. back_cases Stays w new (halt_stays (halt.Gone 6) (begun_back w) new)) o
plainly_stays w h o = o

world_stays : (w : World) (h : KeepingHappening) → Stays w.back → (let x : World = happens_keeping w h in Stays x.back)
world_stays w (Plainly h) o = plainly_stays w h o
world_stays w BackOffers o = either_world (λ (v : World). Stays v.back) (is_led w.back.stage) (offered w) w (λ led. o) o
world_stays w (BackKeeps cap) o = either_world (λ (v : World). Stays v.back) (reads_keeping w cap) (kept_so w cap) w (λ reads. o) o

-- no call changes what the disk holds
none_called : (outcome : Outcome) (a b : DiskSeen) → NoCall outcome a b → b.content ≡ a.content
none_called Took a b same = ap (λ (d : DiskSeen). d.content) same
none_called other a b none = absurd none

map_called : (rest : List Segment) (mode : Mode) (outcome : Outcome) (a b : DiskSeen) → DiskDoes (map_in rest mode) outcome a b → b.content ≡ a.content
map_called [] mode outcome a b does = none_called outcome a b does
map_called (s ∷ rest) mode outcome a b does = none_called outcome a b does

page_called : (pages : List ℕ) (outcome : Outcome) (a b : DiskSeen) → DiskDoes (page_ask pages) outcome a b → b.content ≡ a.content
page_called [] outcome a b does = none_called outcome a b does
page_called (gref ∷ pages) outcome a b does = none_called outcome a b does

stage_called : (s : JobStage) (t : Work) (outcome : Outcome) (a b : DiskSeen) → t.writes ≡ false → TrimsNone s → IsFitAt s t → DiskDoes (ask_at s t) outcome a b → b.content ≡ a.content
stage_called job.MapPage t outcome a b reads none fit does = page_called t.pages outcome a b does
stage_called job.Map t outcome a b reads none fit does = map_called t.rest (mode_of t.writes) outcome a b does
stage_called (job.DiskWrite m) t outcome a b reads none fit does = absurd (true≢false (sym fit.1 ∙ reads))
stage_called (job.DiskRead m) t (Gave words) a b reads none fit does = ap (λ (d : DiskSeen). d.content) does.1
stage_called (job.DiskRead m) t Took a b reads none fit does = absurd does
stage_called (job.DiskRead m) t Failed a b reads none fit does = does.content
stage_called job.Flush t Took a b reads none fit does = ap (λ (d : DiskSeen). d.content) does
stage_called job.Flush t Failed a b reads none fit does = does.content
stage_called job.Flush t (Gave words) a b reads none fit does = absurd does
stage_called (job.Trim count) t outcome a b reads none fit does = absurd none
stage_called s t outcome a b reads none fit does = none_called outcome a b does

called_with : (keeps : Bool) (s : JobStage) (t : Work) (outcome : Outcome) (a b : DiskSeen) → t.writes ≡ false → TrimsNone s → IsFitAt s t → DiskDoes (ask_with keeps s t) outcome a b → b.content ≡ a.content
called_with true job.Map t outcome a b reads none fit does = map_called t.rest ReadWrite outcome a b does
called_with true s t outcome a b reads none fit does = stage_called s t outcome a b reads none fit does
called_with false s t outcome a b reads none fit does = stage_called s t outcome a b reads none fit does

asked_called : (keeps held : Bool) (works : List Work) (place : Option ℕ) (found : Option Work) (outcome : Outcome) (a b : DiskSeen) → work_at works place ≡ found → All Reads works → All IsFit works → DiskDoes (asked_in keeps held found) outcome a b → b.content ≡ a.content
asked_called keeps held works place None outcome a b e all jobs does = none_called outcome a b does
asked_called keeps true works place (Some t) outcome a b e all jobs does = none_called outcome a b does
asked_called keeps false works None (Some t) outcome a b e all jobs does = absurd (none-some t e)
asked_called keeps false works (Some place) (Some t) outcome a b e all jobs does =
    let within = slice_get_within works place t e in
    let same = get_or_from_slice_get works place t t e in
    let fit : IsFit t = subst IsFit same (All-get_or IsFit works place t within jobs) in
    let reads : Reads t = subst Reads same (All-get_or Reads works place t within all) in
    called_with keeps t.stage t outcome a b reads.0 reads.1 fit does

job_called : (halted : Bool) (h : HeldJobs) (number : ℕ) (outcome : Outcome) (a b : DiskSeen) → OnlyReads h → JobsFit h → DiskDoes (if halted then ask.Wait else ask_keeping h number) outcome a b → b.content ≡ a.content
job_called true h number outcome a b o fit does = none_called outcome a b does
job_called false h number outcome a b o fit does =
    let keeps = may_keep h.kept in
    asked_called keeps (waits_in keeps h.works (place_of h.works number) (work_of h.works number)) h.works (place_of h.works number) (work_of h.works number) outcome a b refl o.1 fit.jobs does

called : (w : World) (h : KeepingHappening) (a b : DiskSeen) → Stays w.back → IsBack w.back → DiskGoesKeeping w h a b → b.content ≡ a.content
called w (Plainly (JobMoves number outcome)) a b o back goes = job_called (is_some w.back.halted) w.back.jobs number outcome a b o back.jobs goes
called w h a b o back goes = ap (λ (d : DiskSeen). d.content) goes

kept_from : (hs : List KeepingHappening) (w : World) (a b : DiskSeen) → Stays w.back → IsSafeKeeping w → IsBack w.back → DiskRunsKeeping hs w a b → b.content ≡ a.content
kept_from [] w a b o safe is runs = ap (λ (d : DiskSeen). d.content) runs
kept_from (h ∷ hs) w a b o safe is runs =
    kept_from hs (happens_keeping w h) runs.0 b (world_stays w h o) (kept_happens w h safe) (back_keeping w h safe is) runs.2 ∙ called w h a runs.0 o is runs.1

pub content_kept_keeping : (config : Options) (history : List KeepingHappening) (before now : DiskSeen) → config.read_only ≡ true → DiskRunsKeeping history (start_of config) before now → now.content ≡ before.content
content_kept_keeping config history before now fixed runs =
    kept_from history (start_of config) before now ((fixed, ap (λ (b : Bool). not b) fixed, ap (λ (b : Bool). not b) fixed), All-nil Reads) (kept_start config) (back_start config) runs

-- a machine that keeps no mapping calls the same of the disk
goes_as : (w : World) (h : Happening) (a b : DiskSeen) → KeepsNone w.back → DiskGoes w h a b → DiskGoesKeeping w (Plainly h) a b
goes_as w (JobMoves number outcome) a b none goes = subst (λ (asked : BackAsk). DiskDoes asked outcome a b) (sym (plain_job_ask w.back number none)) goes
goes_as w h a b none goes = goes

runs_as : (hs : List Happening) (w : World) (a b : DiskSeen) → KeepsNone w.back → back_offers w ≡ false → DiskRuns hs w a b → DiskRunsKeeping (map Plainly hs) w a b
runs_as [] w a b none silent runs = runs
runs_as (h ∷ hs) w a b none silent runs =
    let goes = goes_as_without w h none silent in
    let rest = runs_as hs (happens w h) runs.0 b goes.keeps_none goes.silent runs.2 in
    (runs.0, goes_as w h a runs.0 none runs.1, subst (λ (v : World). DiskRunsKeeping (map Plainly hs) v runs.0 b) (sym goes.world) rest)

pub content_kept : (config : Options) (history : List Happening) (before now : DiskSeen) → config.read_only ≡ true → DiskRuns history (start_of config) before now → now.content ≡ before.content
content_kept config history before now fixed runs = content_kept_keeping config (map Plainly history) before now fixed (runs_as history (start_of config) before now refl refl runs)
