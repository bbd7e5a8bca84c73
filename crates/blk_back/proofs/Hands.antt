-- The mappings that the back and its jobs hold.
use Rattle.std.proofs.Common.{◌≡◌, ℕ, ◌+◌, ◌^◌, ◌<◌, ◌≤◌, Bool, true, false, if◌then◌else◌, List, [], ◌∷◌, ◌++◌, length, refl, sym, ap, ◌∙◌, arith, length-append}
use Rattle.std.specs.Prelude.{Option, Some, None, Contains, option_to_list, is_some, ◌==◌, nat_lt}
use Rattle.std.proofs.lemmas.Nat.{pow_pos}
use Rattle.std.proofs.lemmas.Option.{none-some}
use Rattle.std.proofs.lemmas.List.{append-nil, append_assoc}
use Rattle.std.proofs.lemmas.List.Elements.{Contains-append_right, Contains-get_or, All-get_or}
use Rattle.blk_base.specs.declared.parts.Mapping.{Mapping}
use Rattle.blk_base.specs.declared.parts.Mode.TheVariants.{ReadWrite}
use Rattle.blk_base.specs.declared.ask.BackAsk.{BackAsk}
use Rattle.blk_base.specs.declared.ask.BackAsk.TheVariants as ask
use Rattle.blk_base.specs.declared.ask.BackAnswer.{BackAnswer}
use Rattle.blk_base.specs.declared.ask.BackAnswer.TheVariants as answer
use Rattle.blk_layout.specs.Entry.{request_of}
use Rattle.ring_words.specs.Shape.{Shape, entry_words_of, slot_word_of}
use Rattle.ring_words.specs.Ring.{requests_of, overruns, notifies}
use Rattle.back_jobs.specs.Work.{IsAnswer as IsJobAnswer}
use Rattle.back_jobs.specs.Jobs.{place_of, work_of, waits, ask_job, first_mapping, after_mapping, next_after}
use Rattle.back_jobs.specs.Hands.{hands_in, Names, HasOneMore, HandsAfter}
use Rattle.back_jobs.proofs.Hands.{framed, named_among, told_hands, done_hands, started_hands, after_hands, few_in_hands}
use Rattle.back_jobs.proofs.Order.{next_above}
use Rattle.segment_list.specs.declared.verdict.DiskInfo.{DiskInfo}
use Rattle.persist_grants.specs.KeptMappings.{KeptMappings}
use Rattle.blk_base.specs.declared.halt.Halt.{Halt}
use Rattle.blk_base.specs.declared.halt.Halt.TheVariants as halt
use Rattle.blk_back.specs.declared.stage.Reply.{Reply}
use Rattle.blk_back.specs.declared.stage.BackStage.{BackStage}
use Rattle.blk_back.specs.declared.stage.BackStage.TheVariants as stage
use Rattle.blk_back.specs.View.{View, no_page, page_of, slot_page}
use Rattle.blk_back.specs.Ask.{ask_at, ask_of, loop_ask, reply_ask, entry_ask, index_ask, unmap_ask, next_reply, IsAnswer, StaysInPage}
use Rattle.blk_back.specs.Step.{unmapping_next, abort, unbound, bound, other_pages, mapped, attaches, may_attach, attached, halts_at, may_halt, halts, overrun, looked, loop_word, loop_step, fetched, fetch_step, next_number, step_at, step_of, job_ask_of, job_step, next_job_of}
use Rattle.blk_back.specs.Sound.{IsMapped, IsPlaced, AreWritable, IsSound}
use Rattle.blk_back.specs.Hands.{aborted, hands_at, hands_of, most_held}
use Rattle.blk_back.proofs.Slots.{slot_within, response_fits}

-- what is held while nothing is being unmapped
abbrev connected : View → List Mapping
connected v = hands_in v.jobs.works ++ v.pages

either : (b : Bool) (x y : View) (l : List Mapping) → hands_of x ≡ l → hands_of y ≡ l → hands_of (if b then x else y) ≡ l
either true x y l p q = p
either false x y l p q = q

either_stage : (b : Bool) (x y : BackStage) (v : View) (l : List Mapping) → hands_at x v ≡ l → hands_at y v ≡ l → hands_at (if b then x else y) v ≡ l
either_stage true x y v l p q = p
either_stage false x y v l p q = q

pub given_apart : (m : Option Mapping) (rest pages : List Mapping) → aborted (unmapping_next m) ++ (rest ++ pages) ≡ (option_to_list m ++ rest) ++ pages
given_apart None rest pages = refl
given_apart (Some m) rest pages = refl

-- a back that unmaps its pages unmaps no other mapping
none_given : (pages : List Mapping) → aborted (unbound pages) ≡ []
none_given [] = refl
none_given (page ∷ pages) = refl

none_given_bound : (pages : List Mapping) → aborted (bound pages) ≡ []
none_given_bound [] = refl
none_given_bound (page ∷ pages) = refl

-- to begin to abort the jobs unmaps none of what they hold
abort_hands : (v : View) → hands_of (abort v) ≡ connected v
abort_hands v =
    given_apart (first_mapping v.jobs.works) (hands_in (after_mapping v.jobs.works)) v.pages
    ∙ ap (λ (l : List Mapping). l ++ v.pages) (after_hands v.jobs.works)

looked_hands : (v : View) (word : ℕ) (otherwise : View) → hands_of otherwise ≡ connected v → hands_of (looked v word otherwise) ≡ connected v
looked_hands v word otherwise h =
    either (overruns v.ring.indices word) (overrun v word) (if word == v.ring.indices.cons then otherwise else record v { ring = record v.ring { seen = word }; stage = stage.Loop }) (connected v)
    (abort_hands (record v { halted = Some (halt.Overrun word v.ring.indices.prod) }))
    (either (word == v.ring.indices.cons) otherwise (record v { ring = record v.ring { seen = word }; stage = stage.Loop }) (connected v) h refl)

loop_word_hands : (v : View) (word : ℕ) → hands_of (loop_word v word) ≡ connected v
loop_word_hands v word =
    either (requests_of v.ring.indices v.ring.seen == 0) (looked v word (record v { ring = record v.ring { seen = word }; stage = stage.StoreEvent })) (record v { ring = record v.ring { entry = word ∷ [] }; stage = stage.Fetch 1 }) (connected v)
    (looked_hands v word (record v { ring = record v.ring { seen = word }; stage = stage.StoreEvent }) refl)
    refl

loop_hands : (v : View) (r : Option Reply) (given : BackAnswer) → v.stage ≡ stage.Loop → hands_of (loop_step v r given) ≡ connected v
loop_hands v (Some r) given here = ap (λ (l : List Mapping). l ++ v.pages) (done_hands v.jobs)
loop_hands v None (answer.Word word) here = loop_word_hands v word
loop_hands v None given here = ap (λ (s : BackStage). hands_at s v) here

either_after : (b : Bool) (x y : BackAsk) (given : BackAnswer) (before after : List Mapping) → HandsAfter x given before after → HandsAfter y given before after → HandsAfter (if b then x else y) given before after
either_after true x y given before after p q = p
either_after false x y given before after p q = q

-- in the loop nothing is mapped or unmapped
loop_after : (v : View) (r : Option Reply) (given : BackAnswer) (before after : List Mapping) → after ≡ before → HandsAfter (loop_ask v r) given before after
loop_after v (Some r) given before after h = h
loop_after v None given before after h =
    either_after v.ring.asleep ask.Wait (if requests_of v.ring.indices v.ring.seen == 0 then index_ask v 0 else entry_ask v 0) given before after h
    (either_after (requests_of v.ring.indices v.ring.seen == 0) (index_ask v 0) (entry_ask v 0) given before after h h)

fetched_hands : (v : View) (k word : ℕ) → hands_of (fetch_step v k word) ≡ connected v
fetched_hands v k word =
    either (k + 1 == entry_words_of v.shape.abi) (fetched v (v.ring.entry ++ word ∷ [])) (record v { ring = record v.ring { entry = v.ring.entry ++ word ∷ [] }; stage = stage.Fetch (k + 1) }) (connected v)
    (ap (λ (l : List Mapping). l ++ v.pages) (started_hands v.jobs (next_number v) (request_of v.shape.abi (v.ring.entry ++ word ∷ []))))
    refl

-- the pages are held last, in order
page_more : (m : Mapping) (works pages : List Mapping) → HasOneMore m (works ++ pages) (works ++ (pages ++ m ∷ []))
page_more m works pages = record { front = works ++ pages; rest = []; without = sym (append-nil (works ++ pages)); with_it = sym (append_assoc works pages (m ∷ [])) }

-- the first of them is unmapped first
unmapped_after : (given : BackAnswer) (works pages over : List Mapping) → over ≡ [] → IsAnswer (unmap_ask pages) given → HandsAfter (unmap_ask pages) given (works ++ pages) (over ++ (works ++ other_pages pages))
unmapped_after given works [] over none h = ap (λ (l : List Mapping). l ++ (works ++ [])) none
unmapped_after answer.Done works (page ∷ pages) over none h = record { front = works; rest = pages; without = ap (λ (l : List Mapping). l ++ (works ++ pages)) none; with_it = refl }
unmapped_after given works (page ∷ pages) over none h = absurd h

mapped_hands : (m : Mapping) (v : View) → hands_of (mapped m v) ≡ hands_in v.jobs.works ++ (v.pages ++ m ∷ [])
mapped_hands m v = either_stage (nat_lt (length v.pages + 1) (length v.grefs)) stage.MapRing stage.Bind (record v { pages = v.pages ++ m ∷ [] }) _ refl refl

-- a mapping that came, whatever the stage after it
came : (m : Mapping) (before after more : List Mapping) → after ≡ more → HasOneMore m before more → HasOneMore m before after
came m before after more same h = rw same h

pub hands_after_at : (s : BackStage) (v : View) (given : BackAnswer) → v.stage ≡ s → IsAnswer (ask_at s v) given → HandsAfter (ask_at s v) given (hands_at s v) (hands_of (step_at s v given))
hands_after_at stage.InitWait v given here h = ap (λ (s : BackStage). hands_at s v) here
hands_after_at stage.MapRing v (answer.Mapped m) here h = came m (connected v) (hands_of (mapped m v)) _ (mapped_hands m v) (page_more m (hands_in v.jobs.works) v.pages)
hands_after_at stage.MapRing v (answer.MapRefused status) here h = ap (λ (l : List Mapping). l ++ connected v) (none_given v.pages)
hands_after_at stage.Bind v answer.Done here h = refl
hands_after_at stage.Bind v answer.BindRefused here h = ap (λ (l : List Mapping). l ++ connected v) (none_given v.pages)
hands_after_at stage.Loop v given here h = loop_after v (next_reply v) given (hands_at stage.Loop v) (hands_of (loop_step v (next_reply v) given)) (loop_hands v (next_reply v) given here)
hands_after_at (stage.Fetch k) v (answer.Word word) here h = fetched_hands v k word
hands_after_at (stage.ReplyHigh r) v given here h = refl
hands_after_at (stage.ReplyLast r) v given here h = refl
hands_after_at (stage.Producer r) v given here h = refl
hands_after_at (stage.ProducerFence old) v given here h = refl
hands_after_at (stage.ResponseEvent old) v (answer.Word event) here h = either_stage (notifies old v.ring.indices.prod event) stage.Send stage.Loop v (connected v) refl refl
hands_after_at stage.Send v given here h = refl
hands_after_at stage.StoreEvent v given here h = refl
hands_after_at stage.EventFence v given here h = refl
hands_after_at stage.LookAgain v (answer.Word word) here h = looked_hands v word (record v { ring = record v.ring { seen = word; asleep = true }; stage = stage.Loop }) refl
hands_after_at (stage.Abort m) v answer.Done here h = record { front = []; rest = connected v; without = abort_hands v; with_it = refl }
hands_after_at stage.UnmapRing v given here h = unmapped_after given (hands_in v.jobs.works) v.pages (aborted (bound (other_pages v.pages))) (none_given_bound (other_pages v.pages)) h
hands_after_at stage.ClosePort v given here h = refl
hands_after_at stage.UnmapUnbound v given here h = unmapped_after given (hands_in v.jobs.works) v.pages (aborted (unbound (other_pages v.pages))) (none_given (other_pages v.pages)) h
hands_after_at stage.Halted v given here h = ap (λ (s : BackStage). hands_at s v) here
hands_after_at s v given here h = absurd h

-- what an answer to the back makes of what is held
pub hands_after : (v : View) (given : BackAnswer) → IsAnswer (ask_of v) given → HandsAfter (ask_of v) given (hands_of v) (hands_of (step_of v given))
hands_after v given h = hands_after_at v.stage v given refl h

-- a halt unmaps none of it at once
pub halted_hands : (why : Halt) (v : View) → hands_of (halts why v) ≡ hands_of v
halted_hands why v = either (may_halt why) (halts_at v.stage why v) v (hands_of v) (by_stage v.stage refl) refl
  where
    by_stage : (s : BackStage) → v.stage ≡ s → hands_of (halts_at s why v) ≡ hands_of v
    by_stage stage.InitWait here = ap (λ (l : List Mapping). l ++ connected v) (none_given v.pages) ∙ ap (λ (s : BackStage). hands_at s v) (sym here)
    by_stage stage.MapRing here = ap (λ (l : List Mapping). l ++ connected v) (none_given v.pages) ∙ ap (λ (s : BackStage). hands_at s v) (sym here)
    by_stage stage.Loop here = abort_hands (record v { halted = Some why }) ∙ ap (λ (s : BackStage). hands_at s v) (sym here)
    by_stage s here = refl

-- to take the terms of the front maps nothing
pub attached_hands : (shape : Shape) (grefs : List ℕ) (port : ℕ) (v : View) → hands_of (attaches shape grefs port v) ≡ hands_of v
attached_hands shape grefs port v = by_stage v.stage refl
  where
    at_once : (b : Bool) → v.stage ≡ stage.InitWait → hands_of (if b then attached shape grefs port v else v) ≡ hands_of v
    at_once true here = ap (λ (s : BackStage). hands_at s v) (sym here)
    at_once false here = refl

    by_stage : (s : BackStage) → v.stage ≡ s → hands_of (attaches shape grefs port v) ≡ hands_of v
    by_stage stage.InitWait here = at_once (may_attach shape grefs v) here
    by_stage s here = rw here refl

-- the jobs' hands among all
framed_job : (a : BackAsk) (v : View) (given : BackAnswer) (number : ℕ) → a ≡ ask_job v.jobs number → IsJobAnswer a given → HandsAfter a given (hands_of v) (hands_of (job_step v number given))
framed_job a v given number same h =
    rw same (framed (ask_job v.jobs number) given (aborted v.stage) v.pages (hands_in v.jobs.works) (hands_in (job_step v number given).jobs.works)
    (told_hands v.jobs.works (place_of v.jobs.works number) (waits v.jobs.works number) (work_of v.jobs.works number) given refl (rw same at h)))

job_hands_after_at : (halted : Bool) (v : View) (number : ℕ) (given : BackAnswer) → IsJobAnswer (if halted then ask.Wait else ask_job v.jobs number) given → HandsAfter (if halted then ask.Wait else ask_job v.jobs number) given (hands_of v) (hands_of (job_step v number given))
job_hands_after_at true v number given h = absurd h
job_hands_after_at false v number given h = framed_job (ask_job v.jobs number) v given number refl h

-- what an answer to a job makes of what is held
pub job_hands_after : (v : View) (number : ℕ) (given : BackAnswer) → IsJobAnswer (job_ask_of v number) given → HandsAfter (job_ask_of v number) given (hands_of v) (hands_of (job_step v number given))
job_hands_after v number given h = job_hands_after_at (is_some v.halted) v number given h

page_in : (v : View) (works : List Mapping) (page : ℕ) → page < length v.pages → Contains (works ++ v.pages) (page_of v page)
page_in v works page within = Contains-append_right works v.pages (page_of v page) (Contains-get_or v.pages page no_page within)

-- an entry has the word that is read next
abbrev IsFetched : BackStage → Shape → Type 0
IsFetched (stage.Fetch k) s = k < entry_words_of s.abi
IsFetched other s = Unit {0}

-- all pages of the ring are mapped, for writing too
record AreAll (v : View) : Type 0 where
  pages : length v.pages ≡ 2 ^ v.shape.order
  writable : AreWritable v.pages

index_names : (v : View) (works : List Mapping) → AreAll v → Contains (works ++ v.pages) (page_of v 0)
index_names v works all = let some = pow_pos v.shape.order in page_in v works 0 (omega arith)

index_mode : (v : View) → AreAll v → (page_of v 0).mode ≡ ReadWrite
index_mode v all = let some = pow_pos v.shape.order in All-get_or (λ (m : Mapping). m.mode ≡ ReadWrite) v.pages 0 no_page (omega arith) all.writable

slot_names : (v : View) (works : List Mapping) (k i : ℕ) → AreAll v → i < entry_words_of v.shape.abi → Contains (works ++ v.pages) (slot_page v k i)
slot_names v works k i all inside = let below = slot_within v.shape k i inside in page_in v works (slot_word_of v.shape k i).0 (omega arith)

slot_mode : (v : View) (k i : ℕ) → AreAll v → i < entry_words_of v.shape.abi → (slot_page v k i).mode ≡ ReadWrite
slot_mode v k i all inside = let below = slot_within v.shape k i inside in All-get_or (λ (m : Mapping). m.mode ≡ ReadWrite) v.pages (slot_word_of v.shape k i).0 no_page (omega arith) all.writable

entry_names : (v : View) (i : ℕ) → AreAll v → i < entry_words_of v.shape.abi → StaysInPage (entry_ask v i) → Names (connected v) (entry_ask v i)
entry_names v i all inside within = (slot_names v (hands_in v.jobs.works) v.ring.indices.cons i all inside, within)

reply_names : (v : View) (r : Reply) (i : ℕ) → AreAll v → i < 3 → StaysInPage (reply_ask v r i) → Names (connected v) (reply_ask v r i)
reply_names v r i all few within =
    let inside = response_fits v.shape.abi i few in
    (slot_names v (hands_in v.jobs.works) v.ring.indices.prod i all inside, slot_mode v v.ring.indices.prod i all inside, within)

loop_names_at : (v : View) (asleep new : Bool) → AreAll v → StaysInPage (if asleep then ask.Wait else (if new then index_ask v 0 else entry_ask v 0)) → Names (connected v) (if asleep then ask.Wait else (if new then index_ask v 0 else entry_ask v 0))
loop_names_at v true new all within = tt
loop_names_at v false true all within = (index_names v (hands_in v.jobs.works) all, within)
loop_names_at v false false all within = entry_names v 0 all (response_fits v.shape.abi 0 (omega arith)) within

loop_names : (v : View) (r : Option Reply) → AreAll v → StaysInPage (loop_ask v r) → Names (connected v) (loop_ask v r)
loop_names v (Some r) all within = reply_names v r 0 all (omega arith) within
loop_names v None all within = loop_names_at v v.ring.asleep (requests_of v.ring.indices v.ring.seen == 0) all within

-- the first page that is still mapped is held
first_in : (works pages : List Mapping) → Names (works ++ pages) (unmap_ask pages)
first_in works [] = tt
first_in works (page ∷ pages) = Contains-append_right works (page ∷ pages) page (0, omega arith, refl)

names_at : (s : BackStage) (v : View) → IsMapped s v.shape.order v.grefs v.pages → AreWritable v.pages → IsFetched s v.shape → StaysInPage (ask_at s v) → Names (hands_at s v) (ask_at s v)
names_at stage.Loop v kept writable fetched within = loop_names v (next_reply v) (record { pages = kept; writable = writable }) within
names_at (stage.Fetch k) v kept writable fetched within = entry_names v k (record { pages = kept; writable = writable }) fetched within
names_at (stage.ReplyHigh r) v kept writable fetched within = reply_names v r 1 (record { pages = kept; writable = writable }) (omega arith) within
names_at (stage.ReplyLast r) v kept writable fetched within = reply_names v r 2 (record { pages = kept; writable = writable }) (omega arith) within
names_at (stage.Producer r) v kept writable fetched within = (index_names v (hands_in v.jobs.works) (record { pages = kept; writable = writable }), index_mode v (record { pages = kept; writable = writable }), within)
names_at (stage.ResponseEvent old) v kept writable fetched within = (index_names v (hands_in v.jobs.works) (record { pages = kept; writable = writable }), within)
names_at stage.StoreEvent v kept writable fetched within = (index_names v (hands_in v.jobs.works) (record { pages = kept; writable = writable }), index_mode v (record { pages = kept; writable = writable }), within)
names_at stage.LookAgain v kept writable fetched within = (index_names v (hands_in v.jobs.works) (record { pages = kept; writable = writable }), within)
names_at (stage.Abort m) v kept writable fetched within = (0, omega arith, refl)
names_at stage.UnmapRing v kept writable fetched within = first_in (hands_in v.jobs.works) v.pages
names_at stage.UnmapUnbound v kept writable fetched within = first_in (hands_in v.jobs.works) v.pages
names_at s v kept writable fetched within = tt

fetched_of : (s : BackStage) (shape : Shape) (words waiting : ℕ) → IsPlaced s shape words waiting → IsFetched s shape
fetched_of (stage.Fetch k) shape words waiting placed = placed.0
fetched_of s shape words waiting placed = tt

-- the back names only what is held
pub names_of : (v : View) → IsSound v → StaysInPage (ask_of v) → Names (hands_of v) (ask_of v)
names_of v sound within = names_at v.stage v sound.mapped sound.writable (fetched_of v.stage v.shape _ _ sound.placed) within

-- so does a job
pub job_names : (v : View) (a : BackAsk) → Names (hands_in v.jobs.works) a → Names (hands_of v) a
job_names v a names = named_among a (aborted v.stage) v.pages (hands_in v.jobs.works) names

pub few_aborted : (s : BackStage) → length (aborted s) ≤ 1
few_aborted (stage.Abort m) = omega arith
few_aborted s = omega arith

-- one in each job's hand, the pages, and one that is being unmapped
pub few_hands : (v : View) → IsSound v → length (hands_of v) ≤ most_held
few_hands v sound =
    let given = few_aborted v.stage in let pages = sound.few_pages in let few = sound.few in let hands = few_in_hands v.jobs.works in
    rw (length-append (aborted v.stage) (hands_in v.jobs.works ++ v.pages), length-append (hands_in v.jobs.works) v.pages) (omega arith)

-- the disk as the back knows it, and what is kept
abbrev Lasting : Type 0
Lasting = DiskInfo × KeptMappings

abbrev lasting : View → Lasting
lasting v = (v.jobs.info, v.jobs.kept)

either_lasting : (b : Bool) (x y : View) (l : Lasting) → lasting x ≡ l → lasting y ≡ l → lasting (if b then x else y) ≡ l
either_lasting true x y l p q = p
either_lasting false x y l p q = q

looked_lasting : (v : View) (word : ℕ) (otherwise : View) → lasting otherwise ≡ lasting v → lasting (looked v word otherwise) ≡ lasting v
looked_lasting v word otherwise h =
    either_lasting (overruns v.ring.indices word) (overrun v word) (if word == v.ring.indices.cons then otherwise else record v { ring = record v.ring { seen = word }; stage = stage.Loop }) (lasting v) refl
    (either_lasting (word == v.ring.indices.cons) otherwise (record v { ring = record v.ring { seen = word }; stage = stage.Loop }) (lasting v) h refl)

loop_lasting : (v : View) (r : Option Reply) (given : BackAnswer) → lasting (loop_step v r given) ≡ lasting v
loop_lasting v (Some r) given = refl
loop_lasting v None (answer.Word word) =
    either_lasting (requests_of v.ring.indices v.ring.seen == 0) (looked v word (record v { ring = record v.ring { seen = word }; stage = stage.StoreEvent })) (record v { ring = record v.ring { entry = word ∷ [] }; stage = stage.Fetch 1 }) (lasting v)
    (looked_lasting v word (record v { ring = record v.ring { seen = word }; stage = stage.StoreEvent }) refl)
    refl
loop_lasting v None given = refl

step_lasting_at : (s : BackStage) (v : View) (given : BackAnswer) → lasting (step_at s v given) ≡ lasting v
step_lasting_at stage.InitWait v given = refl
step_lasting_at stage.MapRing v (answer.Mapped m) = refl
step_lasting_at stage.MapRing v (answer.MapRefused status) = refl
step_lasting_at stage.Bind v answer.Done = refl
step_lasting_at stage.Bind v answer.BindRefused = refl
step_lasting_at stage.Loop v given = loop_lasting v (next_reply v) given
step_lasting_at (stage.Fetch k) v (answer.Word word) = either_lasting (k + 1 == entry_words_of v.shape.abi) (fetched v (v.ring.entry ++ word ∷ [])) (record v { ring = record v.ring { entry = v.ring.entry ++ word ∷ [] }; stage = stage.Fetch (k + 1) }) (lasting v) refl refl
step_lasting_at (stage.ReplyHigh r) v given = refl
step_lasting_at (stage.ReplyLast r) v given = refl
step_lasting_at (stage.Producer r) v given = refl
step_lasting_at (stage.ProducerFence old) v given = refl
step_lasting_at (stage.ResponseEvent old) v (answer.Word event) = refl
step_lasting_at stage.Send v given = refl
step_lasting_at stage.StoreEvent v given = refl
step_lasting_at stage.EventFence v given = refl
step_lasting_at stage.LookAgain v (answer.Word word) = looked_lasting v word (record v { ring = record v.ring { seen = word; asleep = true }; stage = stage.Loop }) refl
step_lasting_at (stage.Abort m) v given = refl
step_lasting_at stage.UnmapRing v given = refl
step_lasting_at stage.ClosePort v given = refl
step_lasting_at stage.UnmapUnbound v given = refl
step_lasting_at s v given = refl

-- the disk stays as the back knows it, whatever it is told
pub step_info : (v : View) (given : BackAnswer) → (step_of v given).jobs.info ≡ v.jobs.info
step_info v given = ap (λ (l : Lasting). l.0) (step_lasting_at v.stage v given)

-- and a back that keeps no mapping keeps none after that
pub step_kept_at : (s : BackStage) (v : View) (given : BackAnswer) → (step_at s v given).jobs.kept ≡ v.jobs.kept
step_kept_at s v given = ap (λ (l : Lasting). l.1) (step_lasting_at s v given)

pub halted_kept : (why : Halt) (v : View) → (halts why v).jobs.kept ≡ v.jobs.kept
halted_kept why v = ap (λ (l : Lasting). l.1) (either_lasting (may_halt why) (halts_at v.stage why v) v (lasting v) (by_stage v.stage) refl)
  where
    by_stage : (s : BackStage) → lasting (halts_at s why v) ≡ lasting v
    by_stage stage.InitWait = refl
    by_stage stage.MapRing = refl
    by_stage stage.Loop = refl
    by_stage s = refl

pub attached_kept : (shape : Shape) (grefs : List ℕ) (port : ℕ) (v : View) → (attaches shape grefs port v).jobs.kept ≡ v.jobs.kept
attached_kept shape grefs port v = ap (λ (l : Lasting). l.1) (either_lasting (may_attach shape grefs v) (attached shape grefs port v) v (lasting v) refl refl)

-- and whatever its jobs are told
pub job_step_info : (v : View) (number : ℕ) (given : BackAnswer) → (job_step v number given).jobs.info ≡ v.jobs.info
job_step_info v number given = refl

next_job_above_at : (halted : Bool) (v : View) (after k : ℕ) → (if halted then None else next_after v.jobs after) ≡ Some k → after < k
next_job_above_at true v after k h = absurd (none-some k h)
next_job_above_at false v after k h = next_above v.jobs after k h

-- the next job's number is above
pub next_job_above : (v : View) (after k : ℕ) → next_job_of v after ≡ Some k → after < k
next_job_above v after k h = next_job_above_at (is_some v.halted) v after k h
