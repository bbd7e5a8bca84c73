-- How many mappings what happens comes to: a move of the back one of its own and those of a job that it begins, of which each move that copies a word of its entry bears a part, and nothing else any.
use Rattle.split_model.specs.Keys.{front_path}
use Rattle.key_directory.specs.Directory.{written}
use Rattle.std.proofs.Common.{◌≡◌, ℕ, zero, suc, ◌+◌, ◌*◌, ◌/◌, ◌%◌, ◌^◌, ◌≤◌, Bool, true, false, not, if◌then◌else◌, cond, List, [], ◌∷◌, ◌++◌, length, take, drop, refl, ap, ◌∙◌, arith}
use Rattle.std.specs.Prelude.{Option, Some, None, Result, Ok, Err, is_some, position, sum_by, map, slice_index, slice_set, ◌==◌, nat_le, nat_lt}
use Rattle.std.proofs.lemmas.Bool.Decides.{nat_tests}
use Rattle.std.proofs.lemmas.List.{length-take}
use Rattle.std.proofs.lemmas.List.Sums.{sum_by-cons, sum_by-append, sum_by-remove}
use Rattle.std.proofs.lemmas.List.Quantifiers.{position-Some}
use Rattle.std.proofs.lemmas.Option.{none-some}
use Rattle.blk_base.specs.declared.operation.Status.TheVariants.{Error}
use Rattle.blk_base.specs.declared.parts.Mapping.{Mapping}
use Rattle.blk_base.specs.declared.parts.Mode.{Mode}
use Rattle.blk_base.specs.declared.parts.Mode.TheVariants.{ReadOnly}
use Rattle.blk_base.specs.declared.parts.End.TheVariants as end
use Rattle.blk_base.specs.declared.ask.BackAsk.TheVariants as back_ask
use Rattle.blk_base.specs.declared.ask.BackAnswer.{BackAnswer}
use Rattle.blk_base.specs.declared.ask.BackAnswer.TheVariants as answer
use Rattle.blk_base.specs.declared.moves.BackMover.TheVariants as back_mover
use Rattle.blk_layout.specs.declared.segment.Segment.{Segment}
use Rattle.blk_layout.specs.declared.request.RawRequest.{RawRequest}
use Rattle.blk_layout.specs.declared.request.RawRequest.TheVariants as raw
use Rattle.segment_list.specs.declared.verdict.DiskInfo.{DiskInfo}
use Rattle.segment_list.specs.declared.verdict.Kind.{Kind}
use Rattle.segment_list.specs.declared.verdict.Kind.TheVariants as kind
use Rattle.segment_list.specs.declared.verdict.Plan.{Plan}
use Rattle.segment_list.specs.declared.verdict.Verdict.{Verdict}
use Rattle.segment_list.specs.declared.verdict.Verdict.TheVariants as verdict
use Rattle.segment_list.specs.Verdict.{verdict_of, transfer_verdict}
use Rattle.segment_list.proofs.Served.{transfer_served}
use Rattle.grant_table.specs.Table.{GrantTable, frame_of, verdict_at}
use Rattle.hypervisor.specs.Hypervisor.{Hypervisor}
use Rattle.hypervisor.specs.Act.{FrontAct, BackAct, Outcome, Took, Gave, Failed, back_act, map_act, with_pages, with_keys}
use Rattle.xen_pages.specs.Pages.{word_of, with_word}
use Rattle.back_jobs.specs.declared.stage.JobStage.{JobStage}
use Rattle.back_jobs.specs.declared.stage.JobStage.TheVariants as job_stage
use Rattle.back_jobs.specs.Work as task
use Rattle.back_jobs.specs.Work.{Work}
use Rattle.back_jobs.specs.Jobs.{asked, waits, place_of, work_at, work_of, told_at, removed_at, is_done, first_mapping, after_mapping, mapping_at}
use Rattle.back_jobs.proofs.Hands.{place_among}
use Rattle.ring_words.specs.Shape.{Shape, entry_words_of}
use Rattle.ring_words.specs.Ring.{requests_of, overruns, notifies}
use Rattle.blk_base.specs.declared.operation.Abi.{Abi}
use Rattle.blk_base.specs.declared.operation.Abi.TheVariants.{X64, X32}
use Rattle.blk_layout.specs.Places.{places_of}
use Rattle.blk_layout.specs.declared.places.Places.{Places}
use Rattle.blk_layout.specs.Entry.{request_of, double_at, segment_of, segments_at, pages_at}
use Rattle.blk_back.specs.declared.stage.Reply.{Reply}
use Rattle.blk_back.specs.declared.stage.BackStage.{BackStage}
use Rattle.blk_back.specs.declared.stage.BackStage.TheVariants as stage
use Rattle.blk_base.specs.declared.halt.Halt.{Halt}
use Rattle.blk_base.specs.declared.halt.Halt.TheVariants as halt
use Rattle.blk_back.specs.View.{View}
use Rattle.blk_front.specs.Ask as front_asks
use Rattle.blk_back.specs.Ask as back_asks
use Rattle.blk_back.specs.Ask.{next_reply}
use Rattle.blk_back.specs.Step.{unmapping_next, abort, unbound, bound, other_pages, halts, overrun, looked, loop_step, fetched, fetch_step, step_at, next_number}
use Rattle.split_model.proofs.SafeActs.{made_back, made_front, of_back}
use Rattle.split_model.proofs.States.{halts_cases}
use Rattle.split_model.proofs.Attaching.{attach_cases}
use Rattle.split_model.proofs.Suspending.{suspend_cases, begun_back, suspended_cases}
use Rattle.split_model.specs.World as rings
use Rattle.split_model.specs.Happening as ring
use Rattle.xenbus_state.specs.BackView.{BackView}
use Rattle.xenbus_state.specs.declared.back.BackBusAsk.{BackBusAsk}
use Rattle.vbd_back.specs.Ask as backend_asks
use Rattle.vbd_back.specs.Step as back_step
use Rattle.vbd_model.specs.World.{World, backend_of}
use Rattle.vbd_model.specs.Happening.{BackMoves, does, happens, attaches, back_negotiates, back_halts, back_key, back_bus_after, back_turn, halted_at, is_backs_ring}
use Rattle.vbd_model.specs.Mappings.{maps_at, maps_left, words_copied, mappings_in, mappings_of}

-- A job. What it maps is left to it no more.
sector_maps : (writes : Bool) (m : Mapping) (t : Work) → maps_at (task.sector_stage writes m) t ≡ length t.rest
sector_maps true m t = refl
sector_maps false m t = refl

either_left : (b : Bool) (t u : Work) (n : ℕ) → maps_left t ≤ n → maps_left u ≤ n → maps_left (if b then t else u) ≤ n
either_left true t u n p q = p
either_left false t u n p q = q

sector_left : (t : Work) (m : Mapping) → maps_left (task.next_sector t m) ≤ length t.rest
sector_left t m =
    let next : Work = record t { within = t.within + 1; stage = task.sector_stage t.writes m } in
    let same = sector_maps t.writes m next in
    either_left (t.within == task.last_of t.rest) (record t { stage = job_stage.Unmap m }) next (length t.rest) (omega arith) (omega arith)

segment_left : (t : Work) (rest : List Segment) → maps_left (task.next_segment t (task.rest_of rest)) ≤ length rest
segment_left t [] = omega arith
segment_left t (s ∷ []) = omega arith
segment_left t (s ∷ r ∷ rest) = omega arith

-- what an act of a job comes to
abbrev IsLeft : Hypervisor → JobStage → Work → BackAct → Type 0
IsLeft h s t a = a.under.grants.made + maps_left (task.step_at s t a.answer) ≤ h.grants.made + maps_at s t

map_left : (h : Hypervisor) (k gref : ℕ) (mode : Mode) (t : Work) (v : Result ℕ _) → IsLeft h job_stage.Map t (map_act h (back_mover.Job k) gref mode v)
map_left h k gref mode t (Ok frame) =
    let m : Mapping = record { number = h.grants.made + 1; gref = gref; mode = mode } in
    let same = sector_maps t.writes m (record t { stage = task.sector_stage t.writes m }) in
    omega arith
map_left h k gref mode t (Err refusal) = omega arith

mapped_left : (h : Hypervisor) (k : ℕ) (t : Work) (rest : List Segment) (o : Outcome) (a : BackAct) → back_act h (back_mover.Job k) (task.map_ask rest t.writes) o ≡ Some a → IsLeft h job_stage.Map t a
mapped_left h k t [] o a e = absurd (none-some a e)
mapped_left h k t (s ∷ rest) o a e = of_back (IsLeft h job_stage.Map t) _ a (map_left h k s.gref (task.mode_of t.writes) t (verdict_at h.pages s.gref (task.mode_of t.writes))) e

-- an indirect page is mapped, and a segment is copied from it
page_left : (h : Hypervisor) (k gref : ℕ) (pages : List ℕ) (t : Work) (v : Result ℕ _) → t.pages ≡ gref ∷ pages → IsLeft h job_stage.MapPage t (map_act h (back_mover.Job k) gref ReadOnly v)
page_left h k gref pages t (Ok frame) is =
    let all = ap (λ (l : List ℕ). length l) is in
    let rest = ap (λ (l : List ℕ). length (drop 1 l)) is in
    omega arith
page_left h k gref pages t (Err refusal) is = omega arith

page_mapped_left : (h : Hypervisor) (k : ℕ) (t : Work) (pages : List ℕ) (o : Outcome) (a : BackAct) → t.pages ≡ pages → back_act h (back_mover.Job k) (task.page_ask pages) o ≡ Some a → IsLeft h job_stage.MapPage t a
page_mapped_left h k t [] o a is e = absurd (none-some a e)
page_mapped_left h k t (gref ∷ pages) o a is e = of_back (IsLeft h job_stage.MapPage t) _ a (page_left h k gref pages t (verdict_at h.pages gref ReadOnly) is) e

copied_left : (t : Work) (m : Mapping) (segments : List Segment) → maps_left (task.copied t m segments) ≡ length (drop 1 t.pages) + t.named + 1
copied_left t m segments = by_test (task.is_copied_out t segments)
  where
    by_test : (b : Bool) → maps_left (record t { rest = segments; stage = if b then job_stage.UnmapPage m else job_stage.PageReference m }) ≡ length (drop 1 t.pages) + t.named + 1
    by_test true = refl
    by_test false = refl

page_done_left : (t : Work) → maps_left (task.page_done t) ≤ length (drop 1 t.pages) + t.named + 1
page_done_left t = by_test (length t.rest == t.named) refl
  where
    by_test : (b : Bool) → (length t.rest == t.named) ≡ b → maps_left (if b then task.judged t else record t { pages = drop 1 t.pages; stage = job_stage.MapPage }) ≤ length (drop 1 t.pages) + t.named + 1
    by_test true e =
        let all : length t.rest ≡ t.named = grind (arith, nat_tests) in
        either_left (task.passes t) (record t { within = task.first_of t.rest; stage = job_stage.Map }) (record t { stage = job_stage.Done Error }) (length (drop 1 t.pages) + t.named + 1) (omega arith) (omega arith)
    by_test false e = omega arith

read_left : (t : Work) (m : Mapping) (k word : ℕ) → maps_left (task.step_at (job_stage.ReadWord m k) t (answer.Word word)) ≡ length t.rest
read_left t m k word = by_test (k == 127)
  where
    by_test : (b : Bool) → maps_left (record t { words = slice_set t.words k word; stage = if b then job_stage.DiskWrite m else job_stage.ReadWord m (k + 1) }) ≡ length t.rest
    by_test true = refl
    by_test false = refl

write_left : (t : Work) (m : Mapping) (k : ℕ) → maps_left (task.step_at (job_stage.WriteWord m k) t answer.Done) ≤ length t.rest
write_left t m k = either_left (k == 127) (task.next_sector t m) (record t { stage = job_stage.WriteWord m (k + 1) }) (length t.rest) (sector_left t m) (omega arith)

act_left : (h : Hypervisor) (k : ℕ) (s : JobStage) (t : Work) (o : Outcome) (a : BackAct) → back_act h (back_mover.Job k) (task.ask_at s t) o ≡ Some a → IsLeft h s t a
act_left h k job_stage.MapPage t o a e = page_mapped_left h k t t.pages o a refl e
act_left h k (job_stage.PageReference m) t o a e = of_back (IsLeft h (job_stage.PageReference m) t) _ a (omega arith) e
act_left h k (job_stage.PageSectors m gref) t o a e = of_back (IsLeft h (job_stage.PageSectors m gref) t) _ a (let same = copied_left t m (t.rest ++ segment_of gref (word_of h.pages (frame_of h.grants m) (task.page_word t 1)) ∷ []) in omega arith) e
act_left h k (job_stage.UnmapPage m) t o a e = of_back (IsLeft h (job_stage.UnmapPage m) t) _ a (let less = page_done_left t in omega arith) e
act_left h k job_stage.Map t o a e = mapped_left h k t t.rest o a e
act_left h k (job_stage.ReadWord m n) t o a e = of_back (IsLeft h (job_stage.ReadWord m n) t) _ a (let same = read_left t m n (word_of h.pages (frame_of h.grants m) (task.word_at t n)) in omega arith) e
act_left h k (job_stage.DiskWrite m) t Took a e = of_back (IsLeft h (job_stage.DiskWrite m) t) _ a (let less = sector_left (task.counted t) m in omega arith) e
act_left h k (job_stage.DiskWrite m) t Failed a e = of_back (IsLeft h (job_stage.DiskWrite m) t) _ a (omega arith) e
act_left h k (job_stage.DiskWrite m) t (Gave words) a e = absurd (none-some a e)
act_left h k (job_stage.DiskRead m) t Took a e = absurd (none-some a e)
act_left h k (job_stage.DiskRead m) t Failed a e = of_back (IsLeft h (job_stage.DiskRead m) t) _ a (omega arith) e
act_left h k (job_stage.DiskRead m) t (Gave words) a e = of_back (IsLeft h (job_stage.DiskRead m) t) _ a (omega arith) e
act_left h k (job_stage.WriteWord m n) t o a e = of_back (IsLeft h (job_stage.WriteWord m n) t) _ a (let less = write_left t m n in omega arith) e
act_left h k (job_stage.Unmap m) t o a e = of_back (IsLeft h (job_stage.Unmap m) t) _ a (let less = segment_left t t.rest in omega arith) e
act_left h k (job_stage.Abort m) t o a e = of_back (IsLeft h (job_stage.Abort m) t) _ a (omega arith) e
act_left h k job_stage.Flush t Took a e = of_back (IsLeft h job_stage.Flush t) _ a (omega arith) e
act_left h k job_stage.Flush t Failed a e = of_back (IsLeft h job_stage.Flush t) _ a (omega arith) e
act_left h k job_stage.Flush t (Gave words) a e = absurd (none-some a e)
act_left h k (job_stage.Trim count) t Took a e = of_back (IsLeft h (job_stage.Trim count) t) _ a (omega arith) e
act_left h k (job_stage.Trim count) t Failed a e = of_back (IsLeft h (job_stage.Trim count) t) _ a (omega arith) e
act_left h k (job_stage.Trim count) t (Gave words) a e = absurd (none-some a e)
act_left h k (job_stage.Done status) t o a e = absurd (none-some a e)

-- among all that are held
abbrev all_left : List Work → ℕ
all_left works = sum_by maps_left works

between_left : (front rest : List Work) (t : Work) → all_left (front ++ t ∷ rest) ≡ all_left front + maps_left t + all_left rest
between_left front rest t =
    let both = sum_by-append maps_left front (t ∷ rest) in
    let one = sum_by-cons maps_left t rest in
    omega arith

told_left : (h : Hypervisor) (k : ℕ) (works : List Work) (place : Option ℕ) (held : Bool) (found : Option Work) (o : Outcome) (a : BackAct) → work_at works place ≡ found → back_act h (back_mover.Job k) (asked held found) o ≡ Some a → a.under.grants.made + all_left (told_at works place found a.answer) ≤ h.grants.made + all_left works
told_left h k works place held None o a found e = absurd (none-some a e)
told_left h k works place true (Some t) o a found e = absurd (none-some a e)
told_left h k works None false (Some t) o a found e = absurd (none-some t found)
told_left h k works (Some place) false (Some t) o a found e =
    let r = place_among works place t found in
    let one = act_left h k t.stage t o a e in
    let before = ap all_left r.is ∙ between_left r.front r.rest t in
    let now = ap all_left (r.set (task.step_of t a.answer)) ∙ between_left r.front r.rest (task.step_of t a.answer) in
    omega arith

job_left : (w : rings.World) (k : ℕ) (o : Outcome) (act : Option BackAct) → ring.job_turn w k o ≡ act → mappings_in (ring.job_after w k act) ≤ mappings_in w
job_left w k o None e = omega arith
job_left w k o (Some a) e = by_halt (is_some w.back.halted) e
  where
    by_halt : (b : Bool) → back_act w.under (back_mover.Job k) (if b then back_ask.Wait else asked (waits w.back.jobs.works k) (work_of w.back.jobs.works k)) o ≡ Some a → mappings_in (ring.job_after w k (Some a)) ≤ mappings_in w
    by_halt true asks = absurd (none-some a asks)
    by_halt false asks = let less = told_left w.under k w.back.jobs.works (place_of w.back.jobs.works k) (waits w.back.jobs.works k) (work_of w.back.jobs.works k) o a refl asks in omega arith

-- The back. A job that it begins has 11 segments at most, or 960 and eight pages that name them.
transfer_left : (number size : ℕ) (writes : Bool) (k : Kind) (count sector : ℕ) (request : RawRequest) (segments : List Segment) (info : DiskInfo) (plan : Plan) → transfer_verdict k count sector segments info ≡ verdict.Serve plan → maps_left (task.moving number request size writes sector (take count segments)) ≤ 12
transfer_left number size writes k count sector request segments info plan served =
    let t = transfer_served k count sector segments info plan served in
    let few = t.few in
    let used : length (take count segments) ≤ count = grind (arith, length-take) in
    omega arith

served_left : (number size op count device id sector : ℕ) (segments : List Segment) (info : DiskInfo) (plan : Plan) → verdict_of (raw.Direct op count device id sector segments) info ≡ verdict.Serve plan → maps_left (task.served number (raw.Direct op count device id sector segments) size) ≤ 12
served_left number size zero count device id sector segments info plan served = transfer_left number size false kind.Read count sector (raw.Direct 0 count device id sector segments) segments info plan served
served_left number size (suc zero) count device id sector segments info plan served = transfer_left number size true kind.Write count sector (raw.Direct 1 count device id sector segments) segments info plan served
served_left number size (suc (suc zero)) count device id sector segments info plan served = transfer_left number size true kind.Barrier count sector (raw.Direct 2 count device id sector segments) segments info plan served
served_left number size (suc (suc (suc op))) count device id sector segments info plan served =
    let request : RawRequest = raw.Direct (suc (suc (suc op))) count device id sector segments in
    let other : nat_le (suc (suc (suc op))) 2 ≡ false = grind (arith, nat_tests) in
    rw other (either_left (suc (suc (suc op)) == 3) (task.frameless number request size sector job_stage.Flush) (task.ended number request size (job_stage.Done Error)) 12 (omega arith) (omega arith))

abbrev HasFewPages : RawRequest → Type 0
HasFewPages (raw.Indirect op count device id sector pages) = length pages ≤ 8
HasFewPages request = Unit {0}

pages_long : (words : List ℕ) (at n : ℕ) → length (pages_at words at n) ≡ n
unfolding pages_at
pages_long words at zero = refl
pages_long words at (suc n) = let rest = pages_long words (at + 1) n in omega arith

either_pages : (b : Bool) (x y : RawRequest) → HasFewPages x → HasFewPages y → HasFewPages (if b then x else y)
either_pages true x y p q = p
either_pages false x y p q = q

few_pages : (abi : Abi) (words : List ℕ) → HasFewPages (request_of abi words)
unfolding request_of
few_pages abi words =
    let at : Places = places_of abi in
    let op : ℕ = slice_index words 0 % 2 ^ 8 in
    let second : ℕ = slice_index words 0 / 2 ^ 8 % 2 ^ 8 in
    let third : ℕ = slice_index words 0 / 2 ^ 16 % 2 ^ 16 in
    let id : ℕ = double_at words at.id in
    let sector : ℕ = double_at words at.sector in
    let indirect : RawRequest = raw.Indirect second third (slice_index words at.indirect_device % 2 ^ 16) id sector (pages_at words at.pages 8) in
    let direct : RawRequest = raw.Direct op second third id sector (segments_at words at.segments 11) in
    let long = pages_long words at.pages 8 in
    either_pages (op == 5) (raw.Discard second third id sector (double_at words at.discard_count)) (if op == 6 then indirect else direct) tt
    (either_pages (op == 6) indirect direct (omega arith) tt)

paging_left : (number size op count sector : ℕ) (request : RawRequest) (pages : List ℕ) → length pages ≤ 8 → maps_left (task.served_indirect number request size op sector count pages) ≤ 969
paging_left number size op count sector request pages few = by_test (nat_le count 960) refl
  where
    by_test : (b : Bool) → nat_le count 960 ≡ b → maps_left (if b then task.paging number request size (not (op == 0)) sector count pages else task.ended number request size (job_stage.Done Error)) ≤ 969
    by_test true e = let fits : count ≤ 960 = grind (arith, nat_tests) in omega arith
    by_test false e = omega arith

begun_left : (number size : ℕ) (request : RawRequest) (info : DiskInfo) (v : Verdict) → verdict_of request info ≡ v → HasFewPages request → maps_left (task.begun number request size v) ≤ 969
begun_left number size (raw.Direct op count device id sector segments) info (verdict.Serve plan) e few = let less = served_left number size op count device id sector segments info plan e in omega arith
begun_left number size (raw.Discard flag device id sector count) info (verdict.Serve plan) e few = omega arith
begun_left number size (raw.Indirect op count device id sector pages) info (verdict.Serve plan) e few = paging_left number size op count sector (raw.Indirect op count device id sector pages) pages few
begun_left number size request info (verdict.Error why) e few = omega arith
begun_left number size request info verdict.Unsupported e few = omega arith

after_left : (works : List Work) → all_left (after_mapping works) ≤ all_left works
after_left [] = omega arith
after_left (t ∷ works) = by_test (is_some (mapping_at t.stage)) (after_left works)
  where
    by_test : (b : Bool) → all_left (after_mapping works) ≤ all_left works → all_left (cond b works (after_mapping works)) ≤ all_left (t ∷ works)
    by_test true rest = let one = sum_by-cons maps_left t works in omega arith
    by_test false rest = let one = sum_by-cons maps_left t works in omega arith

removed_left : (works : List Work) (place : Option ℕ) → position (λ (t : Work). is_done t) works ≡ place → all_left (removed_at works place) ≤ all_left works
removed_left works None e = omega arith
removed_left [] (Some place) e = absurd (none-some place e)
removed_left (w ∷ works) (Some place) e =
    let p = position-Some (λ (t : Work). is_done t) (w ∷ works) place w e in
    let less = sum_by-remove maps_left (w ∷ works) place w p.0 in
    omega arith

-- what the back comes to: its jobs, and the one whose entry it copies
abbrev due : View → ℕ
due v = all_left v.jobs.works + 40 * words_copied v.stage

-- stages in which it copies none
abbrev CopiesNone : BackStage → Type 0
CopiesNone s = words_copied s ≡ 0

none_either : (b : Bool) (s t : BackStage) → CopiesNone s → CopiesNone t → CopiesNone (if b then s else t)
none_either true s t p q = p
none_either false s t p q = q

none_unbound : (pages : List Mapping) → CopiesNone (unbound pages)
none_unbound [] = refl
none_unbound (page ∷ pages) = refl

none_bound : (pages : List Mapping) → CopiesNone (bound pages)
none_bound [] = refl
none_bound (page ∷ pages) = refl

none_giving : (m : Option Mapping) → CopiesNone (unmapping_next m)
none_giving None = refl
none_giving (Some m) = refl

abort_due : (v : View) → due (abort v) ≤ all_left v.jobs.works
abort_due v = let less = after_left v.jobs.works in let none = none_giving (first_mapping v.jobs.works) in omega arith

-- no more than that, in either case
either_few : (b : Bool) (u v : View) (n : ℕ) → due u ≤ n → due v ≤ n → due (if b then u else v) ≤ n
either_few true u v n p q = p
either_few false u v n p q = q

looked_few : (v : View) (word : ℕ) (otherwise : View) (n : ℕ) → all_left v.jobs.works ≤ n → due otherwise ≤ n → due (looked v word otherwise) ≤ n
looked_few v word otherwise n p q =
    either_few (overruns v.ring.indices word) (overrun v word) (if word == v.ring.indices.cons then otherwise else record v { ring = record v.ring { seen = word }; stage = stage.Loop }) n
    (let less = abort_due (record v { halted = Some (halt.Overrun word v.ring.indices.prod) }) in omega arith)
    (either_few (word == v.ring.indices.cons) otherwise (record v { ring = record v.ring { seen = word }; stage = stage.Loop }) n q (omega arith))

loop_few : (v : View) (r : Option Reply) (x : BackAnswer) → due (loop_step v r x) ≤ due v + 40
loop_few v (Some r) x = let less = removed_left v.jobs.works (position (λ (t : Work). is_done t) v.jobs.works) refl in omega arith
loop_few v None (answer.Word word) =
    either_few (requests_of v.ring.indices v.ring.seen == 0) (looked v word (record v { ring = record v.ring { seen = word }; stage = stage.StoreEvent })) (record v { ring = record v.ring { entry = word ∷ [] }; stage = stage.Fetch 1 }) (due v + 40)
    (looked_few v word (record v { ring = record v.ring { seen = word }; stage = stage.StoreEvent }) (due v + 40) (omega arith) (omega arith)) (omega arith)
loop_few v None answer.Event = omega arith
loop_few v None x = omega arith

long_entry : (abi : Abi) → entry_words_of X32 ≤ entry_words_of abi
long_entry X64 = omega arith
long_entry X32 = omega arith

fetch_few : (v : View) (k word : ℕ) → v.stage ≡ stage.Fetch k → due (fetch_step v k word) ≤ due v + 40
fetch_few v k word here = by_last (k + 1 == entry_words_of v.shape.abi) refl
  where
    words : List ℕ
    words = v.ring.entry ++ word ∷ []

    copied : words_copied v.stage ≡ k
    copied = ap words_copied here

    by_last : (b : Bool) → (k + 1 == entry_words_of v.shape.abi) ≡ b → due (if b then fetched v words else record v { ring = record v.ring { entry = words }; stage = stage.Fetch (k + 1) }) ≤ due v + 40
    by_last true e =
        let request : RawRequest = request_of v.shape.abi words in
        let one = begun_left (next_number v) v.jobs.info.sectors request v.jobs.info (verdict_of request v.jobs.info) refl (few_pages v.shape.abi words) in
        let begun = task.begun (next_number v) request v.jobs.info.sectors (verdict_of request v.jobs.info) in
        let both = sum_by-append maps_left v.jobs.works (begun ∷ []) in
        let alone = sum_by-cons maps_left begun [] in
        let last : k + 1 ≡ entry_words_of v.shape.abi = grind (arith, nat_tests) in
        let long = long_entry v.shape.abi in
        omega (arith, copied, one, both, alone, last, long)
    by_last false e = omega (arith, copied)

step_few : (s : BackStage) (v : View) (x : BackAnswer) → v.stage ≡ s → due (step_at s v x) ≤ due v + 40
step_few stage.MapRing v (answer.Mapped m) here = let none = none_either (nat_lt (length v.pages + 1) (length v.grefs)) stage.MapRing stage.Bind refl refl in omega arith
step_few stage.MapRing v (answer.MapRefused status) here = let none = none_unbound v.pages in omega arith
step_few stage.Bind v answer.Done here = omega arith
step_few stage.Bind v answer.BindRefused here = let none = none_unbound v.pages in omega arith
step_few stage.Loop v x here = loop_few v (next_reply v) x
step_few (stage.Fetch k) v (answer.Word word) here = fetch_few v k word here
step_few (stage.ReplyHigh r) v x here = omega arith
step_few (stage.ReplyLast r) v x here = omega arith
step_few (stage.Producer r) v x here = omega arith
step_few (stage.ProducerFence old) v x here = omega arith
step_few (stage.ResponseEvent old) v (answer.Word event) here = let none = none_either (notifies old v.ring.indices.prod event) stage.Send stage.Loop refl refl in omega arith
step_few stage.Send v x here = omega arith
step_few stage.StoreEvent v x here = omega arith
step_few stage.EventFence v x here = omega arith
step_few stage.LookAgain v (answer.Word word) here = looked_few v word (record v { ring = record v.ring { seen = word; asleep = true }; stage = stage.Loop }) (due v + 40) (omega arith) (omega arith)
step_few (stage.Abort m) v x here = let less = abort_due v in omega arith
step_few stage.UnmapRing v x here = let none = none_bound (other_pages v.pages) in omega arith
step_few stage.ClosePort v x here = omega arith
step_few stage.UnmapUnbound v x here = let none = none_unbound (other_pages v.pages) in omega arith
step_few s v x here = omega arith

back_left : (w : rings.World) (act : Option BackAct) → ring.back_turn w Took ≡ act → mappings_in (ring.back_after w act) ≤ mappings_in w + 41
back_left w None e = omega arith
back_left w (Some a) e =
    let made = made_back w.under back_mover.Back (back_asks.ask_of w.back) Took a e in
    let jobs = step_few w.back.stage w.back a.answer refl in
    omega arith

front_left : (w : rings.World) (act : Option FrontAct) → ring.front_turn w ≡ act → mappings_in (ring.front_after w act) ≤ mappings_in w
front_left w None e = omega arith
front_left w (Some a) e = let same = ap (λ (t : GrantTable). t.made) (made_front w.under (front_asks.ask_of w.front) a e) in omega arith

halted_left : (why : Halt) (v : View) → due (halts why v) ≤ due v
halted_left why v =
    halts_cases (λ x. due x ≤ due v) why v (λ here. let none = none_unbound v.pages in omega arith)
    (λ here. let less = abort_due (record v { halted = Some why }) in omega arith) (omega arith)

attached_left : (w : rings.World) (shape : Shape) (grefs : List ℕ) (port : ℕ) → mappings_in (ring.happens w (ring.BackAttaches shape grefs port)) ≤ mappings_in w
attached_left w shape grefs port = attach_cases (λ b shown. w.under.grants.made + all_left b.jobs.works + 40 * words_copied b.stage ≤ mappings_in w) w shape grefs port (λ may named says. omega arith) (omega arith)

overwritten_left : (b : Bool) (w : rings.World) (x : Hypervisor) → x.grants ≡ w.under.grants → mappings_in (record { front = w.front; back = w.back; under = if b then x else w.under }) ≤ mappings_in w
overwritten_left true w x same = let made = ap (λ (t : GrantTable). t.made) same in omega arith
overwritten_left false w x same = omega arith

-- a suspend drops all jobs, and the numbers go on
suspend_left : (w : rings.World) → mappings_in (ring.happens w ring.Suspends) ≤ mappings_in w
suspend_left w =
    suspend_cases (λ (v : rings.World) shown. mappings_in v ≤ mappings_in w) w
    (λ may. suspended_cases (λ (v : rings.World). mappings_in v ≤ mappings_in w) w (λ opened. omega arith) (λ closed. let none = halted_left (halt.Gone 6) (begun_back w) in omega arith)) (omega arith)

-- what a happening of the ring's machine comes to
abbrev pub cost_of : ring.Happening → ℕ
cost_of ring.BackMoves = 41
cost_of h = 0

pub ring_left : (w : rings.World) (h : ring.Happening) → mappings_in (ring.happens w h) ≤ mappings_in w + cost_of h
ring_left w ring.FrontMoves = let same = front_left w (ring.front_turn w) refl in omega arith
ring_left w ring.BackMoves = back_left w (ring.back_turn w Took) refl
ring_left w (ring.JobMoves number outcome) = let same = job_left w number outcome (ring.job_turn w number outcome) refl in omega arith
ring_left w (ring.BackAttaches shape grefs port) = let same = attached_left w shape grefs port in omega arith
ring_left w (ring.BackHalts why) = let less = halted_left why w.back in omega arith
ring_left w (ring.Pokes frame word value) = let same = overwritten_left (ring.is_guest_word frame word) w (with_pages w.under (with_word w.under.pages frame word value)) refl in omega arith
ring_left w (ring.OverwritesKey name text) = let same = overwritten_left (ring.is_guest_key name text) w (with_keys w.under (written w.under.keys (front_path name) text)) refl in omega arith
ring_left w ring.Suspends = let less = suspend_left w in omega arith
ring_left w h = omega arith

pub all_rings_left : (hs : List ring.Happening) (w : rings.World) → mappings_in (ring.after hs w) ≤ mappings_in w + sum_by cost_of hs
all_rings_left [] w = omega arith
all_rings_left (h ∷ hs) w =
    let one = ring_left w h in
    let rest = all_rings_left hs (ring.happens w h) in
    let both = sum_by-cons cost_of h hs in
    omega arith

-- a move of the back, of its end of the ring or of its negotiation
halts_cost : (whys : List Halt) → sum_by cost_of (map ring.BackHalts whys) ≡ 0
halts_cost [] = refl
halts_cost (why ∷ whys) = let rest = halts_cost whys in let both = sum_by-cons cost_of (ring.BackHalts why) (map ring.BackHalts whys) in omega arith

spoken_cost : (speaks : Bool) (w : World) → sum_by cost_of (back_halts speaks w) ≡ 0
spoken_cost true w = halts_cost (halted_at w (back_turn w))
spoken_cost false w = refl

negotiates_cost : (attached : Bool) (w : World) (b : BackView) → sum_by cost_of (back_negotiates attached w b) ≡ 0
negotiates_cost true w b = sum_by-cons cost_of (ring.BackAttaches (back_step.shape_read b) b.grefs b.terms.port) []
negotiates_cost false w b =
    let a : BackBusAsk = backend_asks.bus_ask_of (backend_of w) in
    let more : List ring.Happening = back_halts (backend_asks.bus_moves a w.rings.back.stage) w in
    let rest = spoken_cost (backend_asks.bus_moves a w.rings.back.stage) w in
    let both = sum_by-cons cost_of (ring.Negotiates end.Back (back_key a)) more in
    omega arith

does_cost : (b : Bool) (hs : List ring.Happening) → sum_by cost_of hs ≡ 0 → sum_by cost_of (if b then ring.BackMoves ∷ [] else hs) ≤ 41
does_cost true hs none = let one = sum_by-cons cost_of ring.BackMoves [] in omega arith
does_cost false hs none = omega arith

pub back_comes : (w : World) → mappings_of (happens w BackMoves) ≤ mappings_of w + 41
back_comes w =
    let b : BackView = back_bus_after w (back_turn w) in
    let all = all_rings_left (does w BackMoves) w.rings in
    let cost = does_cost (is_backs_ring w) (back_negotiates (attaches w b) w b) (negotiates_cost (attaches w b) w b) in
    omega arith
