-- The back names the mappings that it holds, and its jobs those in their hands, whatever they are told that their asks allow: also where mappings are kept, and so where none are.
use Rattle.std.proofs.Common.{◌≡◌, ℕ, ◌+◌, ◌^◌, ◌<◌, ◌≤◌, Bool, true, false, if◌then◌else◌, List, [], ◌∷◌, ◌++◌, length, refl, subst, arith, length-append}
use Rattle.std.specs.Prelude.{Option, Some, None, is_some, position, nat_lt, ◌==◌}
use Rattle.std.proofs.lemmas.Nat.{pow_pos}
use Rattle.std.proofs.lemmas.Bool.Decides.{nat_tests}
use Rattle.std.proofs.lemmas.List.Elements.{All-nil, All-push, All-tail, All-get_or, Contains-append_right, Contains-get_or}
use Rattle.blk_base.specs.Options.{Options}
use Rattle.blk_base.specs.declared.parts.Mapping.{Mapping}
use Rattle.blk_base.specs.declared.parts.Mode.TheVariants.{ReadWrite}
use Rattle.blk_base.specs.declared.ask.BackAsk.TheVariants as ask
use Rattle.blk_base.specs.declared.ask.BackAnswer.{BackAnswer}
use Rattle.blk_base.specs.declared.ask.BackAnswer.TheVariants as answer
use Rattle.blk_base.specs.declared.halt.Halt.{Halt}
use Rattle.blk_base.specs.declared.halt.Halt.TheVariants as halt
use Rattle.ring_words.specs.Ring.{next_of, requests_of, overruns, notifies}
use Rattle.ring_words.specs.Shape.{Shape, entry_words_of, slot_word_of}
use Rattle.blk_layout.specs.Entry.{request_of}
use Rattle.segment_list.specs.declared.verdict.DiskInfo.{DiskInfo}
use Rattle.back_jobs.specs.Work.{Work, IsAnswer as IsJobAnswer}
use Rattle.back_jobs.specs.Jobs.{HeldJobs, is_done}
use Rattle.back_jobs.specs.Hands.{hands_in, Names}
use Rattle.back_jobs.specs.Keeping.{ask_keeping, first_given}
use Rattle.back_jobs.proofs.Settling.{none_keeping}
use Rattle.blk_back.specs.declared.stage.Reply.{Reply}
use Rattle.blk_back.specs.declared.stage.BackStage.{BackStage}
use Rattle.blk_back.specs.declared.stage.BackStage.TheVariants as stage
use Rattle.blk_back.specs.View.{View, no_page, page_of, slot_word, new_of, start_of, info_of}
use Rattle.blk_back.specs.Ask.{ask_at, ask_of, loop_ask, response_word, reply_ask, entry_ask, index_ask, unmap_ask, next_reply, IsAnswer}
use Rattle.blk_back.specs.Step.{unmapping_next, unbound, bound, other_pages, mapped, may_halt, may_attach, attached, overrun, looked, next_number, fetched}
use Rattle.blk_back.specs.Keeping.{abort_keeping, halts_keeping_at, halts_keeping, may_keep_most, keeping_most, overrun_keeping, looked_keeping, loop_word_keeping, loop_step_keeping, fetched_keeping, fetch_step_keeping, step_keeping_at, step_keeping, job_ask_keeping, job_step_keeping}
use Rattle.blk_back.specs.Sound.{HasNothing, IsMapped, AreWritable, IsCleared}
use Rattle.blk_back.specs.Hands.{hands_at, hands_of}
use Rattle.blk_back.proofs.Hands.{job_names}
use Rattle.blk_back.proofs.Slots.{slot_within, response_fits}
use Rattle.back_laws.specs.Kept.{KeptHappening, Answers, AnswersJob, TakesTold, Attaches, Keeps, Halts, happened, MayHappen, after, AllMayHappen, KeepingRun, begins, now, NamesWhatItHolds, JobsNameWhatIsHeld, IsTidy}
use Rattle.back_laws.proofs.Calls.{attaches_waiting, attaches_grefs, attaches_cases, keeps_mapping}
use Rattle.back_laws.proofs.Tidy.{tidy_new, happened_tidy}
use Rattle.back_laws.proofs.KeptJobs.{JobsFit, IsFit, started_fit, told_fit, removed_fit, given_fit, asked_names}

-- an entry has the word that is read next
abbrev IsFetched : BackStage → Shape → Type 0
IsFetched (stage.Fetch k) s = k < entry_words_of s.abi
IsFetched other s = Unit {0}

-- the ring's pages are mapped for writing as the stage has it, and the jobs and what is kept are as they should be
pub record IsBack (v : View) : Type 0 where
  pub fetched : IsFetched v.stage v.shape
  pub mapped : IsMapped v.stage v.shape.order v.grefs v.pages
  pub writable : AreWritable v.pages
  pub jobs : JobsFit v.jobs

pub back_new : (start : ℕ) (info : DiskInfo) → IsBack (new_of start info)
back_new start info = record { fetched = tt; mapped = refl; writable = All-nil (λ (m : Mapping). m.mode ≡ ReadWrite); jobs = record { jobs = All-nil IsFit; keeping = none_keeping 0 [] refl } }

pub back_start : (o : Options) → IsBack (start_of o)
back_start o = back_new o.start (info_of o)

-- all pages of the ring are mapped
record AreAll (v : View) : Type 0 where
  pages : length v.pages ≡ 2 ^ v.shape.order
  writable : AreWritable v.pages
  jobs : JobsFit v.jobs

-- so it is with a back at a stage of this kind
at_stage : (s : BackStage) (v : View) → IsFetched s v.shape → IsMapped s v.shape.order v.grefs v.pages → AreWritable v.pages → JobsFit v.jobs → IsBack (record v { stage = s })
at_stage s v fetched mapped writable jobs = record { fetched = fetched; mapped = mapped; writable = writable; jobs = jobs }

-- a word of a page of the ring is read or written
abbrev connected : View → List Mapping
connected v = hands_in v.jobs.works ++ v.pages

page_read : (v : View) (page word : ℕ) → page < length v.pages → word < 1024 → Names (connected v) (ask.Read (page_of v page) word)
page_read v page word inside within = (Contains-append_right (hands_in v.jobs.works) v.pages (page_of v page) (Contains-get_or v.pages page no_page inside), within)

page_written : (v : View) (page word value : ℕ) → AreWritable v.pages → page < length v.pages → word < 1024 → Names (connected v) (ask.Write (page_of v page) word value)
page_written v page word value writable inside within =
    ((page_read v page word inside within).0, All-get_or (λ (m : Mapping). m.mode ≡ ReadWrite) v.pages page no_page inside writable, within)

index_read : (v : View) (word : ℕ) → AreAll v → word < 1024 → Names (connected v) (index_ask v word)
index_read v word all within = let some = pow_pos v.shape.order in let pages = all.pages in page_read v 0 word (omega arith) within

index_written : (v : View) (word value : ℕ) → AreAll v → word < 1024 → Names (connected v) (ask.Write (page_of v 0) word value)
index_written v word value all within = let some = pow_pos v.shape.order in let pages = all.pages in page_written v 0 word value all.writable (omega arith) within

word_below : (s : Shape) (k i : ℕ) → slot_word s k i < 1024
word_below s k i = omega arith

entry_read : (v : View) (i : ℕ) → AreAll v → i < entry_words_of v.shape.abi → Names (connected v) (entry_ask v i)
entry_read v i all inside =
    let below = slot_within v.shape v.ring.indices.cons i inside in let pages = all.pages in
    page_read v (slot_word_of v.shape v.ring.indices.cons i).0 (slot_word v.shape v.ring.indices.cons i) (omega arith) (word_below v.shape v.ring.indices.cons i)

reply_written : (v : View) (r : Reply) (i : ℕ) → AreAll v → i < 3 → Names (connected v) (reply_ask v r i)
reply_written v r i all few =
    let below = slot_within v.shape v.ring.indices.prod i (response_fits v.shape.abi i few) in let pages = all.pages in
    page_written v (slot_word_of v.shape v.ring.indices.prod i).0 (slot_word v.shape v.ring.indices.prod i) (response_word r i) all.writable (omega arith) (word_below v.shape v.ring.indices.prod i)

loop_read : (v : View) (asleep new : Bool) → AreAll v → Names (connected v) (if asleep then ask.Wait else (if new then index_ask v 0 else entry_ask v 0))
loop_read v true new all = tt
loop_read v false true all = index_read v 0 all (omega arith)
loop_read v false false all = entry_read v 0 all (response_fits v.shape.abi 0 (omega arith))

loop_names : (v : View) (r : Option Reply) → AreAll v → Names (connected v) (loop_ask v r)
loop_names v (Some r) all = reply_written v r 0 all (omega arith)
loop_names v None all = loop_read v v.ring.asleep (requests_of v.ring.indices v.ring.seen == 0) all

first_named : (works pages : List Mapping) → Names (works ++ pages) (unmap_ask pages)
first_named works [] = tt
first_named works (page ∷ pages) = Contains-append_right works (page ∷ pages) page (0, omega arith, refl)

all_of : (v : View) → IsBack v → length v.pages ≡ 2 ^ v.shape.order → AreAll v
all_of v b pages = record { pages = pages; writable = b.writable; jobs = b.jobs }

names_at : (s : BackStage) (v : View) → IsFetched s v.shape → IsMapped s v.shape.order v.grefs v.pages → IsBack v → Names (hands_at s v) (ask_at s v)
names_at stage.Loop v fetched kept b = loop_names v (next_reply v) (all_of v b kept)
names_at (stage.Fetch k) v fetched kept b = entry_read v k (all_of v b kept) fetched
names_at (stage.ReplyHigh r) v fetched kept b = reply_written v r 1 (all_of v b kept) (omega arith)
names_at (stage.ReplyLast r) v fetched kept b = reply_written v r 2 (all_of v b kept) (omega arith)
names_at (stage.Producer r) v fetched kept b = index_written v 2 (next_of v.ring.indices.prod) (all_of v b kept) (omega arith)
names_at (stage.ResponseEvent old) v fetched kept b = index_read v 3 (all_of v b kept) (omega arith)
names_at stage.StoreEvent v fetched kept b = index_written v 1 (next_of v.ring.indices.cons) (all_of v b kept) (omega arith)
names_at stage.LookAgain v fetched kept b = index_read v 0 (all_of v b kept) (omega arith)
names_at (stage.Abort m) v fetched kept b = (0, omega arith, refl)
names_at stage.UnmapRing v fetched kept b = first_named (hands_in v.jobs.works) v.pages
names_at stage.UnmapUnbound v fetched kept b = first_named (hands_in v.jobs.works) v.pages
names_at s v fetched kept b = tt

pub back_names : (v : View) → IsBack v → Names (hands_of v) (ask_of v)
back_names v b = names_at v.stage v b.fetched b.mapped b

job_names_at : (halted : Bool) (v : View) (number : ℕ) → JobsFit v.jobs → Names (hands_of v) (if halted then ask.Wait else ask_keeping v.jobs number)
job_names_at true v number all = tt
job_names_at false v number all = job_names v (ask_keeping v.jobs number) (asked_names v.jobs number all)

pub job_names_own : (v : View) (number : ℕ) → IsBack v → Names (hands_of v) (job_ask_keeping v number)
job_names_own v number b = job_names_at (is_some v.halted) v number b.jobs

either : (b : Bool) (x y : View) → (b ≡ true → IsBack x) → (b ≡ false → IsBack y) → IsBack (if b then x else y)
either true x y p q = p refl
either false x y p q = q refl

-- a test that is made twice
either_twice : (b : Bool) (x y z : View) → (b ≡ true → IsBack x) → (b ≡ false → IsBack z) → IsBack (if b then x else (if b then y else z))
either_twice true x y z p q = p refl
either_twice false x y z p q = q refl

-- a back that halts before its port is bound: the pages that it has mapped go one by one
unbound_kept : (v : View) → AreWritable v.pages → JobsFit v.jobs → IsBack (record v { stage = unbound v.pages })
unbound_kept v writable jobs = by_pages v.pages writable
  where
    by_pages : (pages : List Mapping) → AreWritable pages → IsBack (record v { pages = pages; stage = unbound pages })
    by_pages [] all = record { fetched = tt; mapped = refl; writable = all; jobs = jobs }
    by_pages (page ∷ pages) all = record { fetched = tt; mapped = omega arith; writable = all; jobs = jobs }

bound_kept : (v : View) → AreWritable v.pages → JobsFit v.jobs → IsBack (record v { stage = bound v.pages })
bound_kept v writable jobs = by_pages v.pages writable
  where
    by_pages : (pages : List Mapping) → AreWritable pages → IsBack (record v { pages = pages; stage = bound pages })
    by_pages [] all = record { fetched = tt; mapped = refl; writable = all; jobs = jobs }
    by_pages (page ∷ pages) all = record { fetched = tt; mapped = omega arith; writable = all; jobs = jobs }

others_writable : (pages : List Mapping) → AreWritable pages → AreWritable (other_pages pages)
others_writable [] all = all
others_writable (page ∷ pages) all = All-tail (λ (m : Mapping). m.mode ≡ ReadWrite) page pages all

abort_kept : (v : View) → AreAll v → IsBack (abort_keeping v)
abort_kept v all = by_mapping (first_given v.jobs)
  where
    by_mapping : (m : Option Mapping) → IsBack (record (abort_keeping v) { stage = unmapping_next m })
    by_mapping None = let some = pow_pos v.shape.order in let pages = all.pages in record { fetched = tt; mapped = omega arith; writable = all.writable; jobs = given_fit v.jobs all.jobs }
    by_mapping (Some m) = record { fetched = tt; mapped = all.pages; writable = all.writable; jobs = given_fit v.jobs all.jobs }

overrun_kept : (v : View) (word : ℕ) → AreAll v → IsBack (overrun_keeping v word)
overrun_kept v word all = abort_kept (record v { halted = Some (halt.Overrun word v.ring.indices.prod) }) (record { pages = all.pages; writable = all.writable; jobs = all.jobs })

looked_kept : (v : View) (word : ℕ) (otherwise : View) → AreAll v → IsBack otherwise → IsBack (looked_keeping v word otherwise)
looked_kept v word otherwise all h =
    let shown : View = record v { ring = record v.ring { seen = word }; stage = stage.Loop } in
    either_twice (overruns v.ring.indices word) (overrun_keeping v word) (overrun v word) (if word == v.ring.indices.cons then otherwise else shown)
    (λ far. overrun_kept v word all)
    (λ near. either (word == v.ring.indices.cons) otherwise shown (λ old. h) (λ new. record { fetched = tt; mapped = all.pages; writable = all.writable; jobs = all.jobs }))

loop_word_kept : (v : View) (word : ℕ) → AreAll v → IsBack (loop_word_keeping v word)
loop_word_kept v word all =
    let otherwise : View = record v { ring = record v.ring { seen = word }; stage = stage.StoreEvent } in
    either_twice (requests_of v.ring.indices v.ring.seen == 0) (looked_keeping v word otherwise) (looked v word otherwise) (record v { ring = record v.ring { entry = word ∷ [] }; stage = stage.Fetch 1 })
    (λ none. looked_kept v word otherwise all (record { fetched = tt; mapped = all.pages; writable = all.writable; jobs = all.jobs }))
    (λ some. record { fetched = response_fits v.shape.abi 1 (omega arith); mapped = all.pages; writable = all.writable; jobs = all.jobs })

loop_kept : (v : View) (r : Option Reply) (given : BackAnswer) → AreAll v → IsBack v → IsBack (loop_step_keeping v r given)
loop_kept v (Some r) given all b = record { fetched = tt; mapped = all.pages; writable = b.writable; jobs = removed_fit v.jobs.kept v.jobs.works (position (λ (t : Work). is_done t) v.jobs.works) b.jobs }
loop_kept v None (answer.Word word) all b = loop_word_kept v word all
loop_kept v None given all b = record { fetched = b.fetched; mapped = b.mapped; writable = b.writable; jobs = b.jobs }

fetch_kept : (v : View) (k word : ℕ) → k < entry_words_of v.shape.abi → AreAll v → IsBack (fetch_step_keeping v k word)
fetch_kept v k word inside all =
    let words : List ℕ = v.ring.entry ++ word ∷ [] in
    either_twice (k + 1 == entry_words_of v.shape.abi) (fetched_keeping v words) (fetched v words) (record v { ring = record v.ring { entry = words }; stage = stage.Fetch (k + 1) })
    (λ last. record { fetched = tt; mapped = all.pages; writable = all.writable; jobs = started_fit v.jobs (next_number v) (request_of v.shape.abi words) all.jobs })
    (λ more. record { fetched = further k (entry_words_of v.shape.abi) inside more; mapped = all.pages; writable = all.writable; jobs = all.jobs })
  where
    further : (n words : ℕ) → n < words → (n + 1 == words) ≡ false → n + 1 < words
    further n words lt other = grind (arith, nat_tests)

-- one page more is mapped
mapped_kept : (m : Mapping) (v : View) → length v.grefs ≡ 2 ^ v.shape.order → length v.pages < 2 ^ v.shape.order → m.mode ≡ ReadWrite → IsBack v → IsBack (mapped m v)
mapped_kept m v grefs room mode b = by_test (nat_lt (length v.pages + 1) (length v.grefs)) refl
  where
    longer : length (v.pages ++ m ∷ []) ≡ length v.pages + 1
    longer = length-append v.pages (m ∷ [])

    by_test : (more : Bool) → nat_lt (length v.pages + 1) (length v.grefs) ≡ more → IsBack (record v { pages = v.pages ++ m ∷ []; stage = if more then stage.MapRing else stage.Bind })
    by_test true t =
        let below : length v.pages + 1 < length v.grefs = grind (arith, nat_tests) in
        record { fetched = tt; mapped = (grefs, omega (arith, longer, below, grefs)); writable = All-push (λ (x : Mapping). x.mode ≡ ReadWrite) v.pages m b.writable mode; jobs = b.jobs }
    by_test false t =
        let above : length v.grefs ≤ length v.pages + 1 = grind (arith, nat_tests) in
        record { fetched = tt; mapped = omega (arith, longer, above, grefs, room); writable = All-push (λ (x : Mapping). x.mode ≡ ReadWrite) v.pages m b.writable mode; jobs = b.jobs }

step_kept : (s : BackStage) (v : View) (given : BackAnswer) → IsFetched s v.shape → IsMapped s v.shape.order v.grefs v.pages → IsAnswer (ask_at s v) given → IsBack v → IsBack (step_keeping_at s v given)
step_kept stage.MapRing v (answer.Mapped m) fetched kept h b = mapped_kept m v kept.0 kept.1 h.1 b
step_kept stage.MapRing v (answer.MapRefused status) fetched kept h b = let aborted = unbound_kept v b.writable b.jobs in record { fetched = aborted.fetched; mapped = aborted.mapped; writable = b.writable; jobs = b.jobs }
step_kept stage.Bind v answer.Done fetched kept h b = at_stage stage.Loop v tt kept b.writable b.jobs
step_kept stage.Bind v answer.BindRefused fetched kept h b = let aborted = unbound_kept v b.writable b.jobs in record { fetched = aborted.fetched; mapped = aborted.mapped; writable = b.writable; jobs = b.jobs }
step_kept stage.Loop v given fetched kept h b = loop_kept v (next_reply v) given (all_of v b kept) b
step_kept (stage.Fetch k) v (answer.Word word) fetched kept h b = fetch_kept v k word fetched (all_of v b kept)
step_kept (stage.ReplyHigh r) v given fetched kept h b = at_stage (stage.ReplyLast r) v tt kept b.writable b.jobs
step_kept (stage.ReplyLast r) v given fetched kept h b = at_stage (stage.Producer r) v tt kept b.writable b.jobs
step_kept (stage.Producer r) v given fetched kept h b = record { fetched = tt; mapped = kept; writable = b.writable; jobs = b.jobs }
step_kept (stage.ProducerFence old) v given fetched kept h b = at_stage (stage.ResponseEvent old) v tt kept b.writable b.jobs
step_kept (stage.ResponseEvent old) v (answer.Word event) fetched kept h b = sent (notifies old v.ring.indices.prod event)
  where
    sent : (more : Bool) → IsBack (record v { stage = if more then stage.Send else stage.Loop })
    sent true = at_stage stage.Send v tt kept b.writable b.jobs
    sent false = at_stage stage.Loop v tt kept b.writable b.jobs
step_kept stage.Send v given fetched kept h b = at_stage stage.Loop v tt kept b.writable b.jobs
step_kept stage.StoreEvent v given fetched kept h b = at_stage stage.EventFence v tt kept b.writable b.jobs
step_kept stage.EventFence v given fetched kept h b = at_stage stage.LookAgain v tt kept b.writable b.jobs
step_kept stage.LookAgain v (answer.Word word) fetched kept h b =
    looked_kept v word (record v { ring = record v.ring { seen = word; asleep = true }; stage = stage.Loop }) (all_of v b kept) (record { fetched = tt; mapped = kept; writable = b.writable; jobs = b.jobs })
step_kept (stage.Abort m) v given fetched kept h b = abort_kept v (all_of v b kept)
step_kept stage.UnmapRing v given fetched kept h b = bound_kept (record v { pages = other_pages v.pages }) (others_writable v.pages b.writable) b.jobs
step_kept stage.ClosePort v given fetched kept h b = at_stage stage.Halted v tt kept b.writable b.jobs
step_kept stage.UnmapUnbound v given fetched kept h b = unbound_kept (record v { pages = other_pages v.pages }) (others_writable v.pages b.writable) b.jobs
step_kept s v given fetched kept h b = b

pub back_step : (v : View) (given : BackAnswer) → IsAnswer (ask_of v) given → IsBack v → IsBack (step_keeping v given)
back_step v given h b = step_kept v.stage v given b.fetched b.mapped h b

-- what it tells is taken
pub untold : (v : View) → IsBack v → IsBack (record v { told = None })
untold v b = record { fetched = b.fetched; mapped = b.mapped; writable = b.writable; jobs = b.jobs }

-- where it takes the terms of its front no page is mapped yet
pub back_attached : (shape : Shape) (grefs : List ℕ) (port : ℕ) (v : View) → may_attach shape grefs v ≡ true → IsBack v → IsBack (attached shape grefs port v)
back_attached shape grefs port v may b =
    let none : length v.pages ≡ 0 = subst (λ (s : BackStage). IsMapped s v.shape.order v.grefs v.pages) (attaches_waiting shape grefs v may) b.mapped in
    let some = pow_pos shape.order in
    record { fetched = tt; mapped = (attaches_grefs shape grefs v may, omega arith); writable = b.writable; jobs = b.jobs }

-- where its negotiation has it halt
halts_kept_at : (s : BackStage) (why : Halt) (v : View) → IsMapped s v.shape.order v.grefs v.pages → IsBack v → IsBack (halts_keeping_at s why v)
halts_kept_at stage.InitWait why v kept b = let aborted = unbound_kept v b.writable b.jobs in record { fetched = aborted.fetched; mapped = aborted.mapped; writable = b.writable; jobs = b.jobs }
halts_kept_at stage.MapRing why v kept b = let aborted = unbound_kept v b.writable b.jobs in record { fetched = aborted.fetched; mapped = aborted.mapped; writable = b.writable; jobs = b.jobs }
halts_kept_at stage.Loop why v kept b = abort_kept (record v { halted = Some why }) (record { pages = kept; writable = b.writable; jobs = b.jobs })
halts_kept_at s why v kept b = b

pub back_halted : (why : Halt) (v : View) → IsBack v → IsBack (halts_keeping why v)
back_halted why v b = either (may_halt why) (halts_keeping_at v.stage why v) v (λ may. halts_kept_at v.stage why v b.mapped b) (λ none. b)

-- and where it is said how many mappings it may keep: no job is held then, and none is kept
keeping_fit : (cap : ℕ) (jobs : HeldJobs) → HasNothing jobs → JobsFit jobs → JobsFit (record jobs { kept = record jobs.kept { cap = cap } })
keeping_fit cap jobs none all = record {
  jobs = all.jobs;
  keeping = let k = all.keeping in let empty = none_keeping cap jobs.works none.0 in record { keepable = k.keepable; writable = λ may. empty.writable may };
}

pub back_keeps : (may cap : ℕ) (v : View) → may_keep_most may v ≡ true → IsTidy v → IsBack v → IsBack (keeping_most cap v)
back_keeps may cap v here tidy b =
    let none : HasNothing v.jobs = subst (λ (s : BackStage). IsCleared s v.jobs) (keeps_mapping may v here) tidy.cleared in
    record { fetched = b.fetched; mapped = b.mapped; writable = b.writable; jobs = keeping_fit cap v.jobs none b.jobs }

job_step_at : (halted : Bool) (v : View) (number : ℕ) (given : BackAnswer) → IsJobAnswer (if halted then ask.Wait else ask_keeping v.jobs number) given → IsBack v → IsBack (job_step_keeping v number given)
job_step_at true v number given h b = absurd h
job_step_at false v number given h b = record { fetched = b.fetched; mapped = b.mapped; writable = b.writable; jobs = told_fit v.jobs number given h b.jobs }

pub job_step_kept : (v : View) (number : ℕ) (given : BackAnswer) → IsJobAnswer (job_ask_keeping v number) given → IsBack v → IsBack (job_step_keeping v number given)
job_step_kept v number given h b = job_step_at (is_some v.halted) v number given h b

-- whatever happens to it
keeps_back : (b : Bool) (cap : ℕ) (v : View) → may_keep_most cap v ≡ b → IsTidy v → IsBack v → IsBack (if b then keeping_most cap v else v)
keeps_back true cap v may tidy b = back_keeps cap cap v may tidy b
keeps_back false cap v may tidy b = b

happened_back : (h : KeptHappening) (v : View) → IsTidy v → MayHappen h v → IsBack v → IsBack (happened h v)
happened_back (Answers given) v tidy may b = back_step v given may.0 b
happened_back (AnswersJob number given) v tidy may b = job_step_kept v number given may.0 b
happened_back TakesTold v tidy may b = untold v b
happened_back (Attaches shape grefs port) v tidy may b = attaches_cases IsBack shape grefs port v (λ may. back_attached shape grefs port v may b) b
happened_back (Keeps cap) v tidy may b = keeps_back (may_keep_most cap v) cap v refl tidy b
happened_back (Halts why) v tidy may b = back_halted why v b

back_after : (hs : List KeptHappening) (v : View) → AllMayHappen hs v → IsTidy v → IsBack v → IsBack (after hs v)
back_after [] v may tidy b = b
back_after (h ∷ hs) v may tidy b = back_after hs (happened h v) may.1 (happened_tidy h v tidy) (happened_back h v tidy may.0 b)

back_now : (r : KeepingRun) → IsBack (now r)
back_now r = back_after r.happenings (begins r) r.may (tidy_new r.start r.info) (back_new r.start r.info)

pub names_kept : NamesWhatItHolds
names_kept r = back_names (now r) (back_now r)

pub jobs_name_kept : JobsNameWhatIsHeld
jobs_name_kept r number = job_names_own (now r) number (back_now r)
