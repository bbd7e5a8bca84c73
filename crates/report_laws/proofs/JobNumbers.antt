-- The numbers that jobs keep have the widths of the grammar, whatever words they read and whatever mappings they keep.
use Rattle.std.proofs.Common.{◌≡◌, ℕ, zero, suc, ◌+◌, ◌-◌, ◌%◌, ◌^◌, ◌<◌, ◌≤◌, Bool, true, false, cond, if◌then◌else◌, List, [], ◌∷◌, ◌++◌, length, take, drop, replicate, refl, arith, length-append}
use Rattle.std.specs.Prelude.{All, Option, Some, None, is_some, not, ◌||◌, nat_lt, nat_le, ◌==◌, slice_get, slice_set, slice_index}
use Rattle.std.specs.List.{AllByRecursion, list_any}
use Rattle.std.proofs.lemmas.Bool.Decides.{nat_tests}
use Rattle.std.proofs.lemmas.List.{length-take}
use Rattle.std.proofs.lemmas.List.Sums.{sum_by-cons}
use Rattle.std.proofs.lemmas.List.Elements.{All-nil, All-tail, All-push, All-append, All-take, All-drop, All-set, All-replicate, recursion_from_All, All-from_recursion}
use Rattle.blk_base.specs.declared.operation.Abi.{Abi}
use Rattle.blk_base.specs.declared.operation.Status.TheVariants.{Error}
use Rattle.blk_base.specs.declared.parts.Mapping.{Mapping}
use Rattle.blk_base.specs.declared.ask.BackAnswer.{BackAnswer}
use Rattle.blk_base.specs.declared.ask.BackAnswer.TheVariants as answer
use Rattle.blk_layout.specs.Places.{places_of}
use Rattle.blk_layout.specs.Entry.{double_at, segment_of, segments_at, pages_at, request_of}
use Rattle.blk_layout.specs.declared.segment.Segment.{Segment}
use Rattle.blk_layout.specs.declared.request.RawRequest.{RawRequest}
use Rattle.blk_layout.specs.declared.request.RawRequest.TheVariants.{Direct, Discard, Indirect}
use Rattle.segment_list.specs.declared.verdict.DiskInfo.{DiskInfo}
use Rattle.segment_list.specs.declared.verdict.Plan.{Plan}
use Rattle.segment_list.specs.declared.verdict.Verdict.{Verdict}
use Rattle.segment_list.specs.declared.verdict.Verdict.TheVariants as verdict
use Rattle.segment_list.specs.Segments.{IsSound, fails_test, length_of, sectors_of}
use Rattle.segment_list.specs.Verdict.{verdict_of}
use Rattle.back_jobs.specs.declared.stage.JobStage.{JobStage}
use Rattle.back_jobs.specs.declared.stage.JobStage.TheVariants as job
use Rattle.back_jobs.specs.Work as task
use Rattle.back_jobs.specs.Work.{Work, sector_stage, next_sector, next_segment, counted, first_of, last_of, rest_of, is_copied_out, copied, passes, judged, page_done, id_of, response_op, ended, frameless, moving, paging, served, begun}
use Rattle.back_jobs.specs.Jobs.{work_at, removed_at, after_mapping, mapping_at}
use Rattle.persist_grants.specs.KeptMappings.{KeptMappings, mapping_for}
use Rattle.persist_grants.specs.PutBack.{handed_out, with_mapping}
use Rattle.back_jobs.specs.Jobs.{HeldJobs}
use Rattle.back_jobs.specs.Keeping.{begun_with, takes, goes_on, returned, failed_with, settled_at, settled, told_keeping}
use Rattle.back_laws.proofs.Jobs.{direct_served}
use Rattle.machine_pipeline.proofs.Lists.{all_at}
use Rattle.report_laws.proofs.Words.{AreWords, index_fits}
use Rattle.report_laws.proofs.Acts.{BackTells}

abbrev pub HasGref : Segment → Type 0
HasGref s = s.gref < 2 ^ 32

-- a job's numbers and words, the segments that it isn't done with, and the references of its indirect pages
pub record HasNumbers (number id op size moved : ℕ) (words : List ℕ) (rest : List Segment) (pages : List ℕ) : Type 0 where
  pub positive : 1 ≤ number
  pub long : number < 2 ^ 64
  pub named : id < 2 ^ 64
  pub small : op < 2 ^ 8
  pub sized : size ≤ 2 ^ 64
  pub few : moved < 2 ^ 32
  pub held : AreWords words
  pub grefs : All HasGref rest
  pub listed : AreWords pages

-- the sectors that it comes to lie below 2 ^ 64: after `ahead` more of the present segment, those of the others, which passed the tests
abbrev pub Lies : (disk within ahead : ℕ) → List Segment → Type 0
Lies disk within ahead [] = ⊥
Lies disk within ahead (s ∷ rest) = (within ≤ s.last) × (disk + (s.last - within) + ahead + sectors_of rest ≤ 2 ^ 64) × AllByRecursion IsSound rest

-- so it is at each stage, once the segments are copied; the first sector of a trim, and how many it trims, lie below 2 ^ 64 too
abbrev pub LiesAt : JobStage → (disk within : ℕ) → List Segment → Type 0
LiesAt job.Map disk within rest = Lies disk within 1 rest
LiesAt (job.ReadWord m k) disk within rest = Lies disk within 1 rest
LiesAt (job.DiskWrite m) disk within rest = Lies disk within 1 rest
LiesAt (job.DiskRead m) disk within rest = Lies disk within 1 rest
LiesAt (job.WriteWord m k) disk within rest = Lies disk within 0 rest
LiesAt (job.PageSectors m gref) disk within rest = gref < 2 ^ 32
LiesAt (job.UnmapPage m) disk within rest = 0 < length rest
LiesAt (job.Unmap m) disk within rest = (disk + sectors_of (rest_of rest) ≤ 2 ^ 64) × AllByRecursion IsSound (rest_of rest)
LiesAt (job.Trim count) disk within rest = (disk < 2 ^ 64) × (count < 2 ^ 64)
LiesAt s disk within rest = Unit {0}

abbrev pub IsWork : Work → Type 0
IsWork t = HasNumbers t.number t.id t.op t.size t.moved t.words t.rest t.pages × LiesAt t.stage t.disk t.within t.rest

lies_left : (disk within : ℕ) (rest : List Segment) → Lies disk within 0 rest → (disk + sectors_of (rest_of rest) ≤ 2 ^ 64) × AllByRecursion IsSound (rest_of rest)
lies_left disk within [] h = absurd h
lies_left disk within (s ∷ rest) h = let fits = h.1 in (omega arith, h.2)

lies_on : (disk within : ℕ) (rest : List Segment) → (within == last_of rest) ≡ false → Lies disk within 0 rest → Lies disk (within + 1) 1 rest
lies_on disk within [] other h = absurd h
lies_on disk within (s ∷ rest) other h = let on = further s.last (sectors_of rest) other h.0 h.1 in (on.0, on.1, h.2)
  where
    further : (last more : ℕ) → (within == last) ≡ false → within ≤ last → disk + (last - within) + 0 + more ≤ 2 ^ 64 → (within + 1 ≤ last) × (disk + (last - (within + 1)) + 1 + more ≤ 2 ^ 64)
    further last more other low fits = let above : within + 1 ≤ last = grind (arith, nat_tests) in (above, omega arith)

one_done : (disk within : ℕ) (rest : List Segment) → Lies disk within 1 rest → Lies (disk + 1) within 0 rest
one_done disk within [] h = absurd h
one_done disk within (s ∷ rest) h = let fits = h.1 in (h.0, omega arith, h.2)

lies_begun : (disk : ℕ) (s : Segment) (rest : List Segment) → AllByRecursion IsSound (s ∷ rest) → disk + sectors_of (s ∷ rest) ≤ 2 ^ 64 → Lies disk s.first 1 (s ∷ rest)
lies_begun disk s rest sound fits =
    let all = sum_by-cons length_of s rest in
    let nonempty = sound.0.nonempty in
    (nonempty, omega arith, sound.1)

lies_first : (disk : ℕ) (rest : List Segment) → 0 < length rest → AllByRecursion IsSound rest → disk + sectors_of rest ≤ 2 ^ 64 → Lies disk (first_of rest) 1 rest
lies_first disk [] some sound fits = absurd (omega arith)
lies_first disk (s ∷ rest) some sound fits = lies_begun disk s rest sound fits

sector_lies : (b : Bool) (m : Mapping) (disk within : ℕ) (rest : List Segment) → Lies disk within 1 rest → LiesAt (sector_stage b m) disk within rest
sector_lies true m disk within rest h = h
sector_lies false m disk within rest h = h

either_work : (b : Bool) (x y : Work) → (b ≡ true → IsWork x) → (b ≡ false → IsWork y) → IsWork (if b then x else y)
either_work true x y p q = p refl
either_work false x y p q = q refl

words_now : {number id op size moved : ℕ} {words : List ℕ} {rest : List Segment} {pages : List ℕ} (now : ℕ) (read : List ℕ) → now < 2 ^ 32 → AreWords read
    → HasNumbers number id op size moved words rest pages → HasNumbers number id op size now read rest pages
words_now now read few held n = record { positive = n.positive; long = n.long; named = n.named; small = n.small; sized = n.sized; few = few; held = held; grefs = n.grefs; listed = n.listed }

lists_now : {number id op size moved : ℕ} {words : List ℕ} {rest : List Segment} {pages : List ℕ} (now : List Segment) (left : List ℕ) → All HasGref now → AreWords left
    → HasNumbers number id op size moved words rest pages → HasNumbers number id op size moved words now left
lists_now now left grefs listed n = record { positive = n.positive; long = n.long; named = n.named; small = n.small; sized = n.sized; few = n.few; held = n.held; grefs = grefs; listed = listed }

rest_grefs : (rest : List Segment) → All HasGref rest → All HasGref (rest_of rest)
rest_grefs [] all = all
rest_grefs (s ∷ rest) all = All-tail HasGref s rest all

next_sector_fits : (t : Work) (m : Mapping) → HasNumbers t.number t.id t.op t.size t.moved t.words t.rest t.pages → Lies t.disk t.within 0 t.rest → IsWork (next_sector t m)
next_sector_fits t m n h =
    either_work (t.within == last_of t.rest) (record t { stage = job.Unmap m }) (record t { within = t.within + 1; stage = sector_stage t.writes m })
    (λ last. (n, lies_left t.disk t.within t.rest h)) (λ other. (n, sector_lies t.writes m t.disk (t.within + 1) t.rest (lies_on t.disk t.within t.rest other h)))

next_segment_fits : (t : Work) (rest : List Segment) → HasNumbers t.number t.id t.op t.size t.moved t.words rest t.pages → t.disk + sectors_of rest ≤ 2 ^ 64 → AllByRecursion IsSound rest → IsWork (next_segment t rest)
next_segment_fits t [] n h sound = (n, tt)
next_segment_fits t (s ∷ rest) n h sound = (n, lies_begun t.disk s rest sound h)

-- a segment more is copied, whatever its words say
copied_fits : (t : Work) (m : Mapping) (gref sectors : ℕ) → gref < 2 ^ 32 → IsWork t → IsWork (copied t m (t.rest ++ segment_of gref sectors ∷ []))
copied_fits t m gref sectors small w =
    (lists_now segments t.pages (All-push HasGref t.rest (segment_of gref sectors) w.0.grefs small) w.0.listed w.0, by_last (is_copied_out t segments))
  where
    segments : List Segment
    segments = t.rest ++ segment_of gref sectors ∷ []

    by_last : (b : Bool) → LiesAt (if b then job.UnmapPage m else job.PageReference m) t.disk t.within segments
    by_last true = let longer = length-append t.rest (segment_of gref sectors ∷ []) in omega arith
    by_last false = tt

-- segments that pass the tests are sound, and lie on the disk
tested_sound : (segments : List Segment) → list_any fails_test segments ≡ false → AllByRecursion IsSound segments
tested_sound [] passed = tt
tested_sound (s ∷ segments) passed = both s (list_any fails_test segments) passed (tested_sound segments)
  where
    both : (s : Segment) (bad : Bool) → (fails_test s || bad) ≡ false → (bad ≡ false → AllByRecursion IsSound segments) → IsSound s × AllByRecursion IsSound segments
    both s bad passed others = (record { nonempty = grind (arith, nat_tests); inside = grind (arith, nat_tests) }, others (grind (arith, nat_tests)))

judged_fits : (t : Work) → 0 < length t.rest → IsWork t → IsWork (judged t)
judged_fits t some w =
    either_work (passes t) (record t { within = first_of t.rest; stage = job.Map }) (record t { stage = job.Done Error })
    (λ passed. (w.0, lies_first t.disk t.rest some (tested_sound t.rest (unfailed (list_any fails_test t.rest) (nat_lt t.size (t.disk + sectors_of t.rest)) passed)) (within (list_any fails_test t.rest) (t.disk + sectors_of t.rest) passed w.0.sized))) (λ failed. (w.0, tt))
  where
    unfailed : (bad far : Bool) → not (bad || far) ≡ true → bad ≡ false
    unfailed true far passed = absurd (cc)
    unfailed false far passed = refl

    within : (bad : Bool) (end : ℕ) → not (bad || nat_lt t.size end) ≡ true → t.size ≤ 2 ^ 64 → end ≤ 2 ^ 64
    within bad end passed sized = let on_disk : end ≤ t.size = grind (arith, nat_tests) in omega arith

page_done_fits : (t : Work) → 0 < length t.rest → IsWork t → IsWork (page_done t)
page_done_fits t some w =
    either_work (length t.rest == t.named) (judged t) (record t { pages = drop 1 t.pages; stage = job.MapPage }) (λ whole. judged_fits t some w)
    (λ more. (lists_now t.rest (drop 1 t.pages) w.0.grefs (All-drop (λ (v : ℕ). v < 2 ^ 32) 1 t.pages w.0.listed) w.0, tt))

step_work : (s : JobStage) (t : Work) (a : BackAnswer) → LiesAt s t.disk t.within t.rest → IsWork t → BackTells a → IsWork (task.step_at s t a)
step_work job.MapPage t (answer.Mapped m) h w told = (w.0, tt)
step_work job.MapPage t (answer.MapRefused status) h w told = (w.0, tt)
step_work (job.PageReference m) t (answer.Word word) h w told = (w.0, told)
step_work (job.PageSectors m gref) t (answer.Word word) h w told = copied_fits t m gref word h w
step_work (job.UnmapPage m) t answer.Done h w told = page_done_fits t h w
step_work job.Map t (answer.Mapped m) h w told = (w.0, sector_lies t.writes m t.disk t.within t.rest h)
step_work job.Map t (answer.MapRefused status) h w told = (w.0, tt)
step_work (job.ReadWord m k) t (answer.Word word) h w told = (words_now t.moved (slice_set t.words k word) w.0.few (All-set (λ (v : ℕ). v < 2 ^ 32) t.words k word told w.0.held) w.0, by_last (k == 127))
  where
    by_last : (b : Bool) → LiesAt (if b then job.DiskWrite m else job.ReadWord m (k + 1)) t.disk t.within t.rest
    by_last true = h
    by_last false = h
step_work (job.DiskWrite m) t answer.Done h w told = next_sector_fits (counted t) m (words_now ((t.moved + 1) % 2 ^ 32) t.words (omega arith) w.0.held w.0) (one_done t.disk t.within t.rest h)
step_work (job.DiskWrite m) t answer.DiskFailed h w told = (w.0, tt)
step_work (job.DiskRead m) t (answer.Sector words) h w told = (words_now ((t.moved + 1) % 2 ^ 32) words (omega arith) told.fits w.0, one_done t.disk t.within t.rest h)
step_work (job.DiskRead m) t answer.DiskFailed h w told = (w.0, tt)
step_work (job.WriteWord m k) t answer.Done h w told =
    either_work (k == 127) (next_sector t m) (record t { stage = job.WriteWord m (k + 1) }) (λ last. next_sector_fits t m w.0 h) (λ more. (w.0, h))
step_work (job.Unmap m) t answer.Done h w told = next_segment_fits t (rest_of t.rest) (lists_now (rest_of t.rest) t.pages (rest_grefs t.rest w.0.grefs) w.0.listed w.0) h.0 h.1
step_work (job.Abort m) t answer.Done h w told = (w.0, tt)
step_work job.Flush t answer.Done h w told = (w.0, tt)
step_work job.Flush t answer.DiskFailed h w told = (w.0, tt)
step_work (job.Trim count) t answer.Done h w told = (w.0, tt)
step_work (job.Trim count) t answer.DiskFailed h w told = (w.0, tt)
step_work s t a h w told = w

-- a request as words of 32 bits have it
abbrev pub IsRead : RawRequest → Type 0
IsRead (Direct op count device id sector segments) = (op < 2 ^ 8) × (id < 2 ^ 64) × (0 < length segments) × All HasGref segments
IsRead (Discard flag device id sector count) = (id < 2 ^ 64) × (sector < 2 ^ 64) × (count < 2 ^ 64)
IsRead (Indirect op count device id sector pages) = (op < 2 ^ 8) × (id < 2 ^ 64) × AreWords pages

double_fits : (words : List ℕ) (at : ℕ) → AreWords words → double_at words at < 2 ^ 64
double_fits words at all =
    let low = index_fits words at all in
    let high = index_fits words (at + 1) all in
    omega arith

grefs_fit : (words : List ℕ) (at count : ℕ) → AreWords words → AllByRecursion HasGref (segments_at words at count)
unfolding segments_at
grefs_fit words at zero all = tt
grefs_fit words at (suc count) all = (index_fits words at all, grefs_fit words (at + 2) count all)

references_fit : (words : List ℕ) (at count : ℕ) → AreWords words → AllByRecursion (λ (v : ℕ). v < 2 ^ 32) (pages_at words at count)
unfolding pages_at
references_fit words at zero all = tt
references_fit words at (suc count) all = (index_fits words at all, references_fit words (at + 1) count all)

some_segments : (words : List ℕ) (at : ℕ) → 0 < length (segments_at words at 11)
unfolding segments_at
some_segments words at = omega arith

either_read : (a b : Bool) (x y z : RawRequest) → IsRead x → IsRead y → IsRead z → IsRead (if a then x else (if b then y else z))
either_read true b x y z p q r = p
either_read false true x y z p q r = q
either_read false false x y z p q r = r

pub request_read : (abi : Abi) (words : List ℕ) → AreWords words → IsRead (request_of abi words)
unfolding request_of
request_read abi words all =
    let at = places_of abi in
    either_read (slice_index words 0 % 2 ^ 8 == 5) (slice_index words 0 % 2 ^ 8 == 6) _ _ _
    (double_fits words at.id all, double_fits words at.sector all, double_fits words at.discard_count all) (omega arith, double_fits words at.id all, All-from_recursion (λ (v : ℕ). v < 2 ^ 32) (pages_at words at.pages 8) (references_fit words at.pages 8 all))
    (omega arith, double_fits words at.id all, some_segments words at.segments, All-from_recursion HasGref (segments_at words at.segments 11) (grefs_fit words at.segments 11 all))

named_read : (request : RawRequest) → IsRead request → (id_of request < 2 ^ 64) × (response_op request < 2 ^ 8)
named_read (Discard flag device id sector count) h = (h.0, omega arith)
named_read other h = (h.1, h.0)

begun_numbers : (number : ℕ) (request : RawRequest) (size : ℕ) (rest : List Segment) (pages : List ℕ) → size ≤ 2 ^ 64 → 1 ≤ number → number < 2 ^ 64 → IsRead request → All HasGref rest → AreWords pages
    → HasNumbers number (id_of request) (response_op request) size 0 (replicate 128 0) rest pages
begun_numbers number request size rest pages sized positive long read grefs listed =
    let named = named_read request read in
    record { positive = positive; long = long; named = named.0; small = named.1; sized = sized; few = omega arith; held = All-replicate (λ (v : ℕ). v < 2 ^ 32) 128 0 (omega arith); grefs = grefs; listed = listed }

-- one without segments and pages
bare_numbers : (number : ℕ) (request : RawRequest) (size : ℕ) → size ≤ 2 ^ 64 → 1 ≤ number → number < 2 ^ 64 → IsRead request → HasNumbers number (id_of request) (response_op request) size 0 (replicate 128 0) [] []
bare_numbers number request size sized positive long read = begun_numbers number request size [] [] sized positive long read (All-nil HasGref) (All-nil (λ (v : ℕ). v < 2 ^ 32))

served_fits : (number : ℕ) (request : RawRequest) (info : DiskInfo) (plan : Plan) → verdict_of request info ≡ verdict.Serve plan → info.sectors ≤ 2 ^ 64 → 1 ≤ number → number < 2 ^ 64 → IsRead request → IsWork (served number request info.sectors)
served_fits number (Direct op count device id sector segments) info plan e sized positive long read =
    let request : RawRequest = Direct op count device id sector segments in
    let alone = bare_numbers number request info.sectors sized positive long read in
    either_work (nat_le op 2) (moving number request info.sectors (not (op == 0)) sector (take count segments)) _
    (λ few.
    let is = direct_served op count device id sector segments info plan few e in
    let sound = recursion_from_All IsSound (take count segments) is.1.sound in
    let within = is.1.within in
    let some = is.0 in
    let all = read.2 in
    let long_is = length-take count segments in (
      begun_numbers number request info.sectors (take count segments) [] sized positive long read (All-take HasGref count segments read.3) (All-nil (λ (v : ℕ). v < 2 ^ 32)),
      lies_first sector (take count segments) (omega arith) sound (omega arith),
    ))
    (λ more. either_work (op == 3) (frameless number request info.sectors sector job.Flush) (ended number request info.sectors (job.Done Error)) (λ flush. (alone, tt)) (λ other. (alone, tt)))
served_fits number (Discard flag device id sector count) info plan e sized positive long read = (bare_numbers number (Discard flag device id sector count) info.sectors sized positive long read, (read.1, read.2))
served_fits number (Indirect op count device id sector pages) info plan e sized positive long read =
    let request : RawRequest = Indirect op count device id sector pages in
    either_work (nat_le count 960) (paging number request info.sectors (not (op == 0)) sector count pages) (ended number request info.sectors (job.Done Error))
    (λ few. (begun_numbers number request info.sectors [] pages sized positive long read (All-nil HasGref) read.2, tt)) (λ many. (bare_numbers number request info.sectors sized positive long read, tt))

pub begun_fits : (number : ℕ) (request : RawRequest) (info : DiskInfo) (v : Verdict) → verdict_of request info ≡ v → info.sectors ≤ 2 ^ 64 → 1 ≤ number → number < 2 ^ 64 → IsRead request → IsWork (begun number request info.sectors v)
begun_fits number request info (verdict.Serve plan) e sized positive long read = served_fits number request info plan e sized positive long read
begun_fits number request info other e sized positive long read = (bare_numbers number request info.sectors sized positive long read, tt)

-- a job that is found is one of them
abbrev pub IsWorkFound : Option Work → Type 0
IsWorkFound None = Unit {0}
IsWorkFound (Some t) = IsWork t

pub found_fits : (works : List Work) (place : Option ℕ) → All IsWork works → IsWorkFound (work_at works place)
found_fits works None all = tt
found_fits works (Some place) all = by_work (slice_get works place) refl
  where
    by_work : (x : Option Work) → slice_get works place ≡ x → IsWorkFound x
    by_work None e = tt
    by_work (Some t) e = all_at IsWork works place t all e

-- and one that came to a stage is, whatever is kept beside it
taken_fits : (m : Option Mapping) (t : Work) → Lies t.disk t.within 1 t.rest → IsWork t → IsWork (begun_with m t)
taken_fits None t lies w = w
taken_fits (Some m) t lies w = (w.0, sector_lies t.writes m t.disk t.within t.rest lies)

takes_fits : (kept : KeptMappings) (rest : List Segment) (t : Work) → Lies t.disk t.within 1 t.rest → IsWork t → IsWork (takes kept rest t).job
takes_fits kept [] t lies w = w
takes_fits kept (s ∷ rest) t lies w = taken_fits (mapping_for kept s.gref) t lies w

goes_fits : (kept : KeptMappings) (rest : List Segment) (t : Work) → HasNumbers t.number t.id t.op t.size t.moved t.words rest t.pages → t.disk + sectors_of rest ≤ 2 ^ 64 → AllByRecursion IsSound rest → IsWork (goes_on kept rest t).job
goes_fits kept [] t n h sound = next_segment_fits t [] n h sound
goes_fits kept (s ∷ rest) t n h sound =
    let w : IsWork (next_segment t (s ∷ rest)) = next_segment_fits t (s ∷ rest) n h sound in
    taken_fits (mapping_for kept s.gref) (next_segment t (s ∷ rest)) w.1 w

returned_fits : (out : Option Mapping) (kept : KeptMappings) (m : Mapping) (t : Work) → LiesAt (job.Unmap m) t.disk t.within t.rest → HasNumbers t.number t.id t.op t.size t.moved t.words t.rest t.pages → IsWork (returned out kept t).job
returned_fits (Some out) kept m t lies n = (n, lies)
returned_fits None kept m t lies n = goes_fits kept (rest_of t.rest) t (lists_now (rest_of t.rest) t.pages (rest_grefs t.rest n.grefs) n.listed n) lies.0 lies.1

failed_fits : (out : Option Mapping) (t : Work) → HasNumbers t.number t.id t.op t.size t.moved t.words t.rest t.pages → IsWork (failed_with out t)
failed_fits (Some out) t n = (n, tt)
failed_fits None t n = (n, tt)

settled_at_fits : (s : JobStage) (kept : KeptMappings) (t : Work) → LiesAt s t.disk t.within t.rest → IsWork t → IsWork (settled_at s kept t).job
settled_at_fits job.Map kept t lies w = takes_fits kept t.rest t lies w
settled_at_fits (job.Unmap m) kept t lies w = returned_fits (handed_out kept m.gref m) (with_mapping kept m.gref m) m t lies w.0
settled_at_fits (job.Abort m) kept t lies w = failed_fits (handed_out kept m.gref m) t w.0
settled_at_fits s kept t lies w = w

pub settled_fits : (kept : KeptMappings) (t : Work) → IsWork t → IsWork (settled kept t).job
settled_fits kept t w = settled_at_fits t.stage kept t w.1 w

pub told_works : (h : HeldJobs) (place : Option ℕ) (found : Option Work) (a : BackAnswer) → IsWorkFound found → BackTells a → All IsWork h.works → All IsWork (told_keeping h place found a).works
told_works h None found a is told all = all
told_works h (Some place) None a is told all = all
told_works h (Some place) (Some t) a is told all =
    All-set IsWork h.works place (settled h.kept (task.step_of t a)).job (settled_fits h.kept (task.step_of t a) (step_work t.stage t a is.1 is told)) all

pub removed_works : (works : List Work) (place : Option ℕ) → All IsWork works → All IsWork (removed_at works place)
removed_works works None all = all
removed_works works (Some place) all = All-append IsWork _ _ (All-take IsWork place works all) (All-drop IsWork (suc place) works all)

pub later_works : (works : List Work) → All IsWork works → All IsWork (after_mapping works)
later_works [] all = all
later_works (t ∷ works) all = let rest = All-tail IsWork t works all in by_hand (is_some (mapping_at t.stage)) rest (later_works works rest)
  where
    by_hand : (b : Bool) → All IsWork works → All IsWork (after_mapping works) → All IsWork (cond b works (after_mapping works))
    by_hand true rest less = rest
    by_hand false rest less = less
