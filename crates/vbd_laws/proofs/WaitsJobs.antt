-- A job has a segment to map, or an indirect page, until it is done: so it waits where it is done or held up, and nowhere else.
use Rattle.std.proofs.Common.{◌≡◌, ◌≢◌, ◌∙◌, ap, sym, subst, refl, ℕ, zero, suc, ◌+◌, ◌-◌, ◌*◌, ◌/◌, ◌%◌, ◌^◌, ◌<◌, ◌≤◌, ◌&&◌, ◌||◌, not, Bool, true, false, true≢false, if◌then◌else◌, cond, List, [], ◌∷◌, ◌++◌, take, drop, length, length-append, length-drop, arith}
use Rattle.std.specs.Prelude.{Option, Some, None, All, is_some, nat_le, nat_lt, position, slice_index, is_none, unwrap_or, ◌==◌}
use Rattle.std.proofs.lemmas.Bool.{or_parts}
use Rattle.std.proofs.lemmas.Bool.Decides.{nat_tests}
use Rattle.std.proofs.lemmas.List.{length-take-le}
use Rattle.std.proofs.lemmas.Option.{get_or_from_slice_get, slice_get_within}
use Rattle.std.proofs.lemmas.List.Elements.{All-tail, All-set, All-push, All-append, All-take, All-drop, All-get_or}
use Rattle.blk_base.specs.declared.parts.Mapping.{Mapping}
use Rattle.blk_base.specs.declared.operation.Abi.{Abi}
use Rattle.blk_base.specs.declared.operation.Status.TheVariants.{Error}
use Rattle.blk_base.specs.declared.ask.BackAsk.{BackAsk}
use Rattle.blk_base.specs.declared.ask.BackAsk.TheVariants as ask
use Rattle.blk_base.specs.declared.ask.BackAnswer.{BackAnswer}
use Rattle.blk_base.specs.declared.ask.BackAnswer.TheVariants as answer
use Rattle.blk_layout.specs.declared.segment.Segment.{Segment}
use Rattle.blk_layout.specs.declared.request.RawRequest.{RawRequest}
use Rattle.blk_layout.specs.declared.request.RawRequest.TheVariants.{Direct, Discard, Indirect}
use Rattle.blk_layout.specs.declared.places.Places.{Places}
use Rattle.blk_layout.specs.Places.{places_of}
use Rattle.blk_layout.specs.Entry.{double_at, segment_of, segments_at, pages_at, request_of}
use Rattle.segment_list.specs.declared.verdict.DiskInfo.{DiskInfo}
use Rattle.segment_list.specs.declared.verdict.Why.TheVariants as why
use Rattle.segment_list.specs.declared.verdict.Kind.TheVariants as kind
use Rattle.segment_list.specs.declared.verdict.Plan.{Plan}
use Rattle.segment_list.specs.declared.verdict.Verdict.{Verdict}
use Rattle.segment_list.specs.declared.verdict.Verdict.TheVariants as verdict
use Rattle.blk_base.specs.declared.operation.Op.TheVariants as op
use Rattle.blk_base.specs.Operation.{op_code}
use Rattle.segment_list.specs.Verdict.{first_of as tested, planned, kind_within, indirect_verdict, verdict_of}
use Rattle.segment_list.proofs.Served.{transfer_served}
use Rattle.back_jobs.specs.declared.stage.JobStage.{JobStage}
use Rattle.back_jobs.specs.declared.stage.JobStage.TheVariants as stage
use Rattle.back_jobs.specs.Work.{Work, passes, judged, page_done, copied, is_copied_out, paging, moving, ended, frameless, sector_stage, next_sector, next_segment, counted, first_of, rest_of, last_of, step_at, step_of, begun, served, served_indirect, map_ask, page_ask, ask_at, ask_of}
use Rattle.back_jobs.specs.Jobs.{HeldJobs, mapping_at, work_at, work_of, place_of, told_at, complete_job, start_job, removed_at, without_done, after_mapping, is_done, is_done_at}
use Rattle.blk_back.specs.Ask.{is_wait}
use Rattle.back_jobs.proofs.Served.{transfer_kind}
use Rattle.negotiation_laws.proofs.Choices.{either}

-- so many pages name the segments that are left, from the page of the next one on
abbrev Names : (left pages named : ℕ) → Type 0
Names left pages named = (left < named) × (named ≤ left / 512 * 512 + 512 * pages)

-- what a job at this stage has
abbrev IsSuppliedAt : JobStage → Work → Type 0
IsSuppliedAt stage.MapPage t = Names (length t.rest) (length t.pages) t.named
IsSuppliedAt (stage.PageReference m) t = Names (length t.rest) (length t.pages) t.named
IsSuppliedAt (stage.PageSectors m gref) t = Names (length t.rest) (length t.pages) t.named
IsSuppliedAt (stage.UnmapPage m) t = (0 < t.named) × (length t.rest ≢ t.named → Names (length t.rest) (length t.pages - 1) t.named)
IsSuppliedAt stage.Map t = 0 < length t.rest
IsSuppliedAt s t = Unit {0}

abbrev pub IsSupplied : Work → Type 0
IsSupplied t = IsSuppliedAt t.stage t

free_stage : (writes : Bool) (m : Mapping) (t : Work) → IsSuppliedAt (sector_stage writes m) t
free_stage true m t = tt
free_stage false m t = tt

sector_supplied : (t : Work) (m : Mapping) → IsSupplied (next_sector t m)
sector_supplied t m = either IsSupplied (t.within == last_of t.rest) (record t { stage = stage.Unmap m }) (record t { within = t.within + 1; stage = sector_stage t.writes m }) tt (free_stage t.writes m (record t { within = t.within + 1; stage = sector_stage t.writes m }))

segment_supplied : (t : Work) (rest : List Segment) → IsSupplied (next_segment t rest)
segment_supplied t [] = tt
segment_supplied t (s ∷ rest) = omega arith

judged_supplied : (t : Work) → 0 < length t.rest → IsSupplied (judged t)
judged_supplied t some = either IsSupplied (passes t) (record t { within = first_of t.rest; stage = stage.Map }) (record t { stage = stage.Done Error }) some tt

page_supplied : (t : Work) → 0 < t.named → (length t.rest ≢ t.named → Names (length t.rest) (length t.pages - 1) t.named) → IsSupplied (page_done t)
page_supplied t some names = by_test (length t.rest == t.named) refl
  where
    by_test : (b : Bool) → (length t.rest == t.named) ≡ b → IsSupplied (if b then judged t else record t { pages = drop 1 t.pages; stage = stage.MapPage })
    by_test true e = let all : length t.rest ≡ t.named = grind (arith, nat_tests) in judged_supplied t (omega (arith, all, some))
    by_test false e =
        let apart : length t.rest ≢ t.named = grind (arith, nat_tests) in
        let left = names apart in
        let fewer = length-drop 1 t.pages in
        (left.0, let most = left.1 in omega (arith, most, fewer))

-- one segment more is copied
copied_supplied : (t : Work) (m : Mapping) (segments : List Segment) → length segments ≡ length t.rest + 1 → Names (length t.rest) (length t.pages) t.named → IsSupplied (copied t m segments)
copied_supplied t m segments longer names = by_test (length segments == t.named) (length segments % 512 == 0) refl refl
  where
    by_test : (all page : Bool) → (length segments == t.named) ≡ all → (length segments % 512 == 0) ≡ page → IsSuppliedAt (if all || page then stage.UnmapPage m else stage.PageReference m) (record t { rest = segments; stage = if is_copied_out t segments then stage.UnmapPage m else stage.PageReference m })
    by_test true page a p =
        let whole : length segments ≡ t.named = grind (arith, nat_tests) in
        (omega (arith, whole, longer), λ apart. absurd (apart whole))
    by_test false true a p =
        let full : length segments % 512 ≡ 0 = grind (arith, nat_tests) in
        let low = names.0 in
        let most = names.1 in
        (omega (arith, low), λ apart. (omega (arith, low, longer, apart), omega (arith, low, most, longer, full)))
    by_test false false a p =
        let apart : length segments ≢ t.named = grind (arith, nat_tests) in
        let low = names.0 in
        let most = names.1 in
        (omega (arith, low, longer, apart), omega (arith, low, most, longer))

stays : (s : JobStage) (t : Work) → t.stage ≡ s → IsSuppliedAt s t → IsSupplied t
stays s t here is = subst (λ (x : JobStage). IsSuppliedAt x t) (sym here) is

supplied_at : (s : JobStage) (t : Work) (a : BackAnswer) → t.stage ≡ s → IsSuppliedAt s t → IsSupplied (step_at s t a)
supplied_at stage.MapPage t (answer.Mapped m) here is = is
supplied_at stage.MapPage t (answer.MapRefused status) here is = tt
supplied_at (stage.PageReference m) t (answer.Word word) here is = is
supplied_at (stage.PageSectors m gref) t (answer.Word word) here is = copied_supplied t m (t.rest ++ segment_of gref word ∷ []) (length-append t.rest (segment_of gref word ∷ [])) is
supplied_at (stage.UnmapPage m) t answer.Done here is = page_supplied t is.0 is.1
supplied_at stage.Map t (answer.Mapped m) here is = free_stage t.writes m (record t { stage = sector_stage t.writes m })
supplied_at stage.Map t (answer.MapRefused status) here is = tt
supplied_at (stage.ReadWord m k) t (answer.Word word) here is = by_test (k == 127) _
  where
    by_test : (b : Bool) (words : List ℕ) → IsSupplied (record t { words = words; stage = if b then stage.DiskWrite m else stage.ReadWord m (k + 1) })
    by_test true words = tt
    by_test false words = tt
supplied_at (stage.DiskWrite m) t answer.Done here is = sector_supplied (counted t) m
supplied_at (stage.DiskWrite m) t answer.DiskFailed here is = tt
supplied_at (stage.DiskRead m) t (answer.Sector words) here is = tt
supplied_at (stage.DiskRead m) t answer.DiskFailed here is = tt
supplied_at (stage.WriteWord m k) t answer.Done here is = either IsSupplied (k == 127) (next_sector t m) (record t { stage = stage.WriteWord m (k + 1) }) (sector_supplied t m) tt
supplied_at (stage.Unmap m) t answer.Done here is = segment_supplied t (rest_of t.rest)
supplied_at (stage.Abort m) t answer.Done here is = tt
supplied_at stage.Flush t answer.Done here is = tt
supplied_at stage.Flush t answer.DiskFailed here is = tt
supplied_at (stage.Trim count) t answer.Done here is = tt
supplied_at (stage.Trim count) t answer.DiskFailed here is = tt
supplied_at s t a here is = stays s t here is

pub supplied_step : (t : Work) (a : BackAnswer) → IsSupplied t → IsSupplied (step_of t a)
supplied_step t a is = supplied_at t.stage t a refl is

-- a request as its entry is read
pages_long : (words : List ℕ) (at n : ℕ) → length (pages_at words at n) ≡ n
unfolding pages_at
pages_long words at zero = refl
pages_long words at (suc n) = let rest = pages_long words (at + 1) n in omega (arith, rest)

segments_long : (words : List ℕ) (at n : ℕ) → length (segments_at words at n) ≡ n
unfolding segments_at
segments_long words at zero = refl
segments_long words at (suc n) = let rest = segments_long words (at + 2) n in omega (arith, rest)

abbrev IsWhole : RawRequest → Type 0
IsWhole (Direct op count device id sector segments) = length segments ≡ 11
IsWhole (Discard flag device id sector count) = Unit {0}
IsWhole (Indirect op count device id sector pages) = length pages ≡ 8

read_whole : (abi : Abi) (words : List ℕ) → IsWhole (request_of abi words)
unfolding request_of
read_whole abi words =
    let at : Places = places_of abi in
    let op : ℕ = slice_index words 0 % 2 ^ 8 in
    let second : ℕ = slice_index words 0 / 2 ^ 8 % 2 ^ 8 in
    let third : ℕ = slice_index words 0 / 2 ^ 16 % 2 ^ 16 in
    let id : ℕ = double_at words at.id in
    let sector : ℕ = double_at words at.sector in
    let indirect : RawRequest = Indirect second third (slice_index words at.indirect_device % 2 ^ 16) id sector (pages_at words at.pages 8) in
    let direct : RawRequest = Direct op second third id sector (segments_at words at.segments 11) in
    either IsWhole (op == 5) (Discard second third id sector (double_at words at.discard_count)) (if op == 6 then indirect else direct) tt
    (either IsWhole (op == 6) indirect direct (pages_long words at.pages 8) (segments_long words at.segments 11))

-- an INDIRECT that is served has a segment
abbrev is_served : Verdict → Bool
is_served (verdict.Serve plan) = true
is_served v = false

refused : {A : Type 0} (v : Verdict) (plan : Plan) → is_served v ≡ false → v ≡ verdict.Serve plan → A
refused v plan is e = absurd (true≢false (sym (ap is_served e) ∙ is))

past : (test : Bool) (v : Verdict) (tests : List (Bool × Verdict)) (plan p : Plan) → is_served v ≡ false → tested ((test, v) ∷ tests) plan ≡ verdict.Serve p → (test ≡ false) × (tested tests plan ≡ verdict.Serve p)
past true v tests plan p is h = refused v p is h
past false v tests plan p is h = (refl, h)

indirect_counts : (inner count sector : ℕ) (info : DiskInfo) (p : Plan) → indirect_verdict inner count sector info ≡ verdict.Serve p → 0 < count
indirect_counts inner count sector info p h =
    let plan : Plan = planned (unwrap_or (kind_within inner) kind.IndirectRead) sector count in
    let counts : Bool × Verdict = ((count == 0) || nat_lt info.max_indirect count, verdict.Error why.Count) in
    let writes : Bool × Verdict = ((inner == op_code op.Write) && info.read_only, verdict.Error why.ReadOnly) in
    let kinds : Bool × Verdict = (is_none (kind_within inner), verdict.Error why.Op) in
    let one = past (info.max_indirect == 0) verdict.Unsupported (kinds ∷ writes ∷ counts ∷ []) plan p refl h in
    let two = past (is_none (kind_within inner)) (verdict.Error why.Op) (writes ∷ counts ∷ []) plan p refl one.1 in
    let three = past ((inner == op_code op.Write) && info.read_only) (verdict.Error why.ReadOnly) (counts ∷ []) plan p refl two.1 in
    let four = past ((count == 0) || nat_lt info.max_indirect count) (verdict.Error why.Count) [] plan p refl three.1 in
    let some = (or_parts (count == 0) (nat_lt info.max_indirect count) four.0).0 in
    grind (arith, nat_tests)

-- so a job that is begun is supplied
paging_supplied : (number size op count sector : ℕ) (request : RawRequest) (pages : List ℕ) → 0 < count → length pages ≡ 8 → IsSupplied (served_indirect number request size op sector count pages)
paging_supplied number size op count sector request pages some long = by_test (nat_le count 960) refl
  where
    by_test : (b : Bool) → nat_le count 960 ≡ b → IsSupplied (if b then paging number request size (not (op == 0)) sector count pages else ended number request size (stage.Done Error))
    by_test true e = let few : count ≤ 960 = grind (arith, nat_tests) in (some, omega (arith, few, long))
    by_test false e = tt

direct_supplied : (number size op count device id sector : ℕ) (segments : List Segment) (info : DiskInfo) (plan : Plan) → length segments ≡ 11
    → verdict_of (Direct op count device id sector segments) info ≡ verdict.Serve plan → IsSupplied (served number (Direct op count device id sector segments) size)
direct_supplied number size op count device id sector segments info plan long e = by_test (nat_le op 2) refl
  where
    request : RawRequest
    request = Direct op count device id sector segments

    moved : (few : nat_le op 2 ≡ true) → 0 < length (take count segments)
    moved few =
        let found = transfer_kind op count device id sector segments info plan few e in
        let is = transfer_served found.0 count sector segments info plan found.1 in
        let some = is.positive in
        let most = is.few in
        let taken = length-take-le count segments in
        grind (arith, length-take-le)

    by_test : (b : Bool) → nat_le op 2 ≡ b
        → IsSupplied (if b then moving number request size (not (op == 0)) sector (take count segments) else (if op == 3 then frameless number request size sector stage.Flush else ended number request size (stage.Done Error)))
    by_test true few = moved few
    by_test false many = either IsSupplied (op == 3) (frameless number request size sector stage.Flush) (ended number request size (stage.Done Error)) tt tt

begun_supplied : (number size : ℕ) (request : RawRequest) (info : DiskInfo) (v : Verdict) → verdict_of request info ≡ v → IsWhole request → IsSupplied (begun number request size v)
begun_supplied number size (Direct op count device id sector segments) info (verdict.Serve plan) e whole = direct_supplied number size op count device id sector segments info plan whole e
begun_supplied number size (Discard flag device id sector count) info (verdict.Serve plan) e whole = tt
begun_supplied number size (Indirect op count device id sector pages) info (verdict.Serve plan) e whole =
    paging_supplied number size op count sector (Indirect op count device id sector pages) pages (indirect_counts op count sector info plan e) whole
begun_supplied number size request info other e whole = tt

-- the jobs that the back holds
abbrev pub AreSupplied : List Work → Type 0
AreSupplied works = All IsSupplied works

pub supplied_started : (h : HeldJobs) (number : ℕ) (abi : Abi) (words : List ℕ) → AreSupplied h.works → AreSupplied (start_job h number (request_of abi words)).works
supplied_started h number abi words all =
    let request : RawRequest = request_of abi words in
    All-push IsSupplied h.works (begun number request h.info.sectors (verdict_of request h.info)) all (begun_supplied number h.info.sectors request h.info (verdict_of request h.info) refl (read_whole abi words))

told_all : (works : List Work) (place : Option ℕ) (found : Option Work) (a : BackAnswer) → work_at works place ≡ found → AreSupplied works → AreSupplied (told_at works place found a)
told_all works None found a h all = all
told_all works (Some place) None a h all = all
told_all works (Some place) (Some t) a h all =
    let within = slice_get_within works place t h in
    let same = get_or_from_slice_get works place t t h in
    let this = subst IsSupplied same (All-get_or IsSupplied works place t within all) in
    All-set IsSupplied works place (step_of t a) (supplied_step t a this) all

pub supplied_told : (h : HeldJobs) (number : ℕ) (a : BackAnswer) → AreSupplied h.works → AreSupplied (complete_job h number a).works
supplied_told h number a all = told_all h.works (place_of h.works number) (work_of h.works number) a refl all

removed_all : (works : List Work) (place : Option ℕ) → AreSupplied works → AreSupplied (removed_at works place)
removed_all works None all = all
removed_all works (Some place) all = All-append IsSupplied _ _ (All-take IsSupplied place works all) (All-drop IsSupplied (suc place) works all)

pub supplied_without : (h : HeldJobs) → AreSupplied h.works → AreSupplied (without_done h).works
supplied_without h all = removed_all h.works (position (λ (t : Work). is_done t) h.works) all

after_at : (b : Bool) (works : List Work) → AreSupplied works → AreSupplied (after_mapping works) → AreSupplied (cond b works (after_mapping works))
after_at true works all less = all
after_at false works all less = less

pub supplied_after : (works : List Work) → AreSupplied works → AreSupplied (after_mapping works)
supplied_after [] all = all
supplied_after (t ∷ works) all =
    let rest = All-tail IsSupplied t works all in
    after_at (is_some (mapping_at t.stage)) works rest (supplied_after works rest)

-- a job that is supplied asks for something until it is done
map_asks : (rest : List Segment) (writes : Bool) → 0 < length rest → is_wait (map_ask rest writes) ≡ false
map_asks [] writes some = absurd (omega (arith, some))
map_asks (s ∷ rest) writes some = refl

page_asks : (pages : List ℕ) (left named : ℕ) → Names left (length pages) named → is_wait (page_ask pages) ≡ false
page_asks [] left named names = let low = names.0 in let most = names.1 in absurd (omega (arith, low, most))
page_asks (gref ∷ pages) left named names = refl

asks_at : (s : JobStage) (t : Work) → IsSuppliedAt s t → is_wait (ask_at s t) ≡ is_done_at s
asks_at stage.MapPage t is = page_asks t.pages (length t.rest) t.named is
asks_at stage.Map t is = map_asks t.rest t.writes is
asks_at (stage.PageReference m) t is = refl
asks_at s t is = refl

pub asks_so : (t : Work) → IsSupplied t → is_wait (ask_of t) ≡ is_done t
asks_so t is = asks_at t.stage t is

pub waits_is : (a : BackAsk) → is_wait a ≡ true → a ≡ ask.Wait
waits_is ask.Wait is = refl
waits_is a is = absurd (true≢false (sym is))
