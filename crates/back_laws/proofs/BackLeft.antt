-- Each answer to the back lowers what is left to it, or brings something.
use Rattle.std.proofs.Common.{◌≡◌, ℕ, ◌+◌, ◌*◌, ◌^◌, ◌<◌, ◌≤◌, ◌⊎◌, inl, inr, Bool, true, false, if◌then◌else◌, cond, List, [], ◌∷◌, ◌++◌, length, refl, ap, arith}
use Rattle.std.specs.Prelude.{Option, Some, None, option_and_then, position, is_some, ◌==◌, nat_lt}
use Rattle.std.proofs.lemmas.Bool.Decides.{nat_tests}
use Rattle.std.proofs.lemmas.Grind.{common_steps}
use Rattle.std.proofs.lemmas.List.Quantifiers.{position-Some}
use Rattle.std.proofs.lemmas.Option.{none-some}
use Rattle.blk_base.specs.Distance.{distance_of}
use Rattle.blk_base.specs.declared.parts.Mapping.{Mapping}
use Rattle.blk_base.specs.declared.ask.BackAsk.TheVariants.{Wait}
use Rattle.blk_base.specs.declared.ask.BackAnswer.{BackAnswer}
use Rattle.blk_base.specs.declared.ask.BackAnswer.TheVariants.{Event, Watched, Done, Word, Mapped, MapRefused, BindRefused}
use Rattle.ring_words.specs.Ring.{next_of, requests_of, overruns, notifies}
use Rattle.ring_words.specs.Shape.{entry_words_of}
use Rattle.blk_base.specs.declared.operation.Abi.{Abi}
use Rattle.blk_base.specs.declared.operation.Abi.TheVariants.{X64, X32}
use Rattle.blk_layout.specs.declared.request.RawRequest.{RawRequest}
use Rattle.blk_layout.specs.Entry.{request_of}
use Rattle.segment_list.specs.Verdict.{verdict_of}
use Rattle.blk_layout.specs.declared.request.RawRequest.TheVariants.{Discard}
use Rattle.back_jobs.specs.declared.stage.JobStage.TheVariants as job_stage
use Rattle.back_jobs.specs.Work.{Work, begun, frameless}
use Rattle.back_jobs.specs.Jobs.{HeldJobs, start_job, is_done, done_of, response_of, work_at, without_done, removed_at, first_mapping, after_mapping, mapping_at}
use Rattle.blk_back.specs.declared.stage.Reply.{Reply}
use Rattle.blk_back.specs.declared.stage.BackStage.{BackStage}
use Rattle.blk_back.specs.declared.stage.BackStage.TheVariants as stage
use Rattle.blk_base.specs.declared.halt.Halt.TheVariants as halt
use Rattle.blk_back.specs.View.{View}
use Rattle.blk_back.specs.Ask.{ask_at, IsAnswer, loop_ask, next_reply, reply_of, index_ask, entry_ask, next_gref}
use Rattle.blk_back.specs.Step.{step_at, unbound, mapped, looked, loop_step, fetch_step, fetched, abort, unmapping_next, unmapped_bound, unmapped_unbound, next_number}
use Rattle.blk_back.specs.Sound.{IsMapped, IsPlaced}
use Rattle.back_laws.specs.BackLeft.{left_of, left_at, awake_left, owed, rest, gained, IsShown, IsSeen}

abbrev Lowers : BackStage → View → BackAnswer → Type 0
Lowers s v a = left_of (step_at s v a) < left_at s v + gained s v a

few_words : (abi : Abi) → entry_words_of abi ≤ 28
few_words X64 = omega arith
few_words X32 = omega arith

-- another index is at some distance, and a step nearer after a step
other_index : (a b : ℕ) → a < 2 ^ 32 → b < 2 ^ 32 → (b == a) ≡ false → 0 < distance_of a b
other_index a b small low e =
    let other : b < a ⊎ a < b = grind (arith, nat_tests) in
    elim other [ inl below ↦ omega arith | inr above ↦ omega arith ]

nearer : (a b : ℕ) → a < 2 ^ 32 → 0 < distance_of a b → distance_of (next_of a) b + 1 ≡ distance_of a b
nearer a b small ahead = omega arith

-- pages of a back that halts
unbound_left : (pages : List Mapping) (v : View) → v.pages ≡ pages → left_of (record v { stage = unbound pages }) ≤ length pages
unbound_left [] v e = omega arith
unbound_left (p ∷ pages) v e = let same = ap (λ (l : List Mapping). length l) e in omega (arith, same)

-- a page is mapped, or refused
mapped_left : (m : Mapping) (v : View) → length v.pages < length v.grefs → left_of (mapped m v) < left_at stage.MapRing v
mapped_left m v few = by_test (nat_lt (length v.pages + 1) (length v.grefs)) refl
  where
    longer : length (v.pages ++ m ∷ []) ≡ length v.pages + 1
    longer = grind (arith, common_steps)

    by_test : (b : Bool) → nat_lt (length v.pages + 1) (length v.grefs) ≡ b → left_of (record v { pages = v.pages ++ m ∷ []; stage = if b then stage.MapRing else stage.Bind }) < left_at stage.MapRing v
    by_test true e = omega (arith, longer)
    by_test false e = omega arith

-- the jobs that are over have no mapping
after_shorter : (works : List Work) (m : Mapping) → first_mapping works ≡ Some m → length (after_mapping works) < length works
after_shorter [] m e = absurd (none-some m e)
after_shorter (t ∷ works) m e = by_test (is_some (mapping_at t.stage)) (after_shorter works m) e
  where
    by_test : (b : Bool) → (first_mapping works ≡ Some m → length (after_mapping works) < length works) → cond b (mapping_at t.stage) (first_mapping works) ≡ Some m → length (cond b works (after_mapping works)) < length (t ∷ works)
    by_test true shorter e = omega arith
    by_test false shorter e = omega (arith, shorter e)

abort_left : (v : View) → left_of (abort v) < 2 + length v.jobs.works + length v.pages
abort_left v = by_found (first_mapping v.jobs.works) refl
  where
    by_found : (found : Option Mapping) → first_mapping v.jobs.works ≡ found → left_of (record v { stage = unmapping_next found; jobs = record v.jobs { works = after_mapping v.jobs.works } }) < 2 + length v.jobs.works + length v.pages
    by_found None e = omega arith
    by_found (Some m) e = omega (arith, after_shorter v.jobs.works m e)

bound_left : (pages : List Mapping) (v : View) → v.pages ≡ pages → 0 < length pages → left_of (unmapped_bound v) < 1 + length pages
bound_left [] v e some = absurd (omega arith)
bound_left (p ∷ []) v e some = rw e (omega arith)
bound_left (p ∷ q ∷ pages) v e some = rw e (omega arith)

unbound_lowers : (pages : List Mapping) (v : View) → v.pages ≡ pages → 0 < length pages → left_of (unmapped_unbound v) < length pages
unbound_lowers [] v e some = absurd (omega arith)
unbound_lowers (p ∷ []) v e some = rw e (omega arith)
unbound_lowers (p ∷ q ∷ pages) v e some = rw e (omega arith)

-- a producer was read: nothing is new, or requests were shown
looked_left : (v : View) (word n : ℕ) (otherwise : View) → v.ring.indices.cons < 2 ^ 32 → word < 2 ^ 32 → overruns v.ring.indices word ≡ false
    → 1 + 7 * length v.jobs.works ≤ n → (word ≡ v.ring.indices.cons → left_of otherwise < n)
    → left_of (looked v word otherwise) < n + 39 * distance_of v.ring.indices.cons word
looked_left v word n otherwise small low within least none = rw within (by_test (word == v.ring.indices.cons) refl)
  where
    awake : (b : Bool) → awake_left b ≤ 4
    awake true = omega arith
    awake false = omega arith

    by_test : (b : Bool) → (word == v.ring.indices.cons) ≡ b → left_of (if b then otherwise else record v { ring = record v.ring { seen = word }; stage = stage.Loop }) < n + 39 * distance_of v.ring.indices.cons word
    by_test true e =
        let same : word ≡ v.ring.indices.cons = grind (arith, nat_tests) in
        omega (arith, none same)
    by_test false e = omega (arith, other_index v.ring.indices.cons word small low e, awake v.ring.asleep)

no_distance : (index : ℕ) → index < 2 ^ 32 → distance_of index index ≡ 0
no_distance index small = omega arith

-- an entry is copied
fetch_left : (v : View) (k word : ℕ) → k < entry_words_of v.shape.abi → v.ring.indices.cons < 2 ^ 32 → 0 < distance_of v.ring.indices.cons v.ring.seen → left_of (fetch_step v k word) < left_at (stage.Fetch k) v
fetch_left v k word few small seen = by_test (k + 1 == entry_words_of v.shape.abi) refl
  where
    awake : (b : Bool) → awake_left b ≤ 4
    awake true = omega arith
    awake false = omega arith

    longer : (t : Work) (works : List Work) → length (works ++ t ∷ []) ≡ length works + 1
    longer t works = grind (arith, common_steps)

    request : RawRequest
    request = request_of v.shape.abi (v.ring.entry ++ word ∷ [])

    more_jobs : length (let h : HeldJobs = start_job v.jobs (next_number v) request in h.works) ≡ length v.jobs.works + 1
    more_jobs = longer (begun (next_number v) request v.jobs.info.sectors (verdict_of request v.jobs.info)) v.jobs.works

    by_test : (b : Bool) → (k + 1 == entry_words_of v.shape.abi) ≡ b → left_of (if b then fetched v (v.ring.entry ++ word ∷ []) else record v { ring = record v.ring { entry = v.ring.entry ++ word ∷ [] }; stage = stage.Fetch (k + 1) }) < left_at (stage.Fetch k) v
    by_test true e = omega (arith, nearer v.ring.indices.cons v.ring.seen small seen, awake v.ring.asleep, more_jobs)
    by_test false e =
        let more : k + 1 < entry_words_of v.shape.abi = grind (arith, nat_tests) in
        omega (arith, more)

-- a reply is begun: its job is held no longer
reply_shorter : (h : HeldJobs) (r : Reply) → reply_of (option_and_then response_of (done_of h)) ≡ Some r → length (let g : HeldJobs = without_done h in g.works) + 1 ≡ length h.works
reply_shorter h r e = by_place (position (λ (t : Work). is_done t) h.works) refl e
  where
    by_place : (found : Option ℕ) → position (λ (t : Work). is_done t) h.works ≡ found → reply_of (option_and_then response_of (work_at h.works found)) ≡ Some r → length (removed_at h.works found) + 1 ≡ length h.works
    by_place None is e = absurd (none-some r e)
    by_place (Some place) is e =
        let within = (position-Some (λ (t : Work). is_done t) h.works place (frameless 0 (Discard 0 0 0 0 0) 0 0 job_stage.Flush) is).0 in
        grind (arith, common_steps, within)

-- an awake back in its loop reads the producer, or begins to copy an entry
awake_lowers : (b : Bool) (v : View) (a : BackAnswer) → (requests_of v.ring.indices v.ring.seen == 0) ≡ b → v.ring.asleep ≡ false → v.ring.indices.cons < 2 ^ 32 → IsShown stage.Loop v a
    → IsAnswer (if b then index_ask v 0 else entry_ask v 0) a → left_of (loop_step v None a) < rest v + gained stage.Loop v a
awake_lowers true v (Word word) e awake small shown ok =
    let up : awake_left v.ring.asleep ≡ 4 = rw awake refl in
    let none : View = record v { ring = record v.ring { seen = word }; stage = stage.StoreEvent } in
    rw e (looked_left v word (rest v) none small shown.0 shown.1 (omega (arith, up)) (λ same. let at_none : distance_of v.ring.indices.cons word ≡ 0 = rw same (no_distance v.ring.indices.cons small) in omega (arith, up, at_none)))
awake_lowers false v (Word word) e awake small shown ok =
    let up : awake_left v.ring.asleep ≡ 4 = rw awake refl in
    let some : 0 < distance_of v.ring.indices.cons v.ring.seen = grind (arith, nat_tests) in
    rw e (omega (arith, up, some, few_words v.shape.abi))
awake_lowers true v a e awake small shown ok = absurd ok
awake_lowers false v a e awake small shown ok = absurd ok

loop_lowers : (next : Option Reply) (v : View) (a : BackAnswer) → v.stage ≡ stage.Loop → next_reply v ≡ next → v.ring.indices.cons < 2 ^ 32 → IsShown stage.Loop v a → IsAnswer (loop_ask v next) a → left_of (loop_step v next a) < rest v + gained stage.Loop v a
loop_lowers (Some r) v a at e small shown ok = omega (arith, reply_shorter v.jobs r e)
loop_lowers None v a at e small shown ok = by_asleep v.ring.asleep refl ok
  where
    asleep_lowers : (a : BackAnswer) → v.ring.asleep ≡ true → IsAnswer Wait a → left_of (loop_step v None a) < rest v + gained stage.Loop v a
    asleep_lowers Event asleep ok = rw (at, asleep) (omega arith)
    asleep_lowers (Watched path) asleep ok = rw at (omega arith)
    asleep_lowers a asleep ok = absurd ok

    by_asleep : (b : Bool) → v.ring.asleep ≡ b → IsAnswer (if b then Wait else (if requests_of v.ring.indices v.ring.seen == 0 then index_ask v 0 else entry_ask v 0)) a → left_of (loop_step v None a) < rest v + gained stage.Loop v a
    by_asleep true is ok = asleep_lowers a is ok
    by_asleep false is ok = awake_lowers (requests_of v.ring.indices v.ring.seen == 0) v a refl is small shown ok

-- a back that waits for its negotiation, or has halted
still_lowers : (s : BackStage) (v : View) (a : BackAnswer) → v.stage ≡ s → IsAnswer Wait a → left_of v < left_at s v + gained s v a
still_lowers s v Event at ok = rw at (omega arith)
still_lowers s v (Watched path) at ok = rw at (omega arith)
still_lowers s v a at ok = absurd ok

pub lowers : (s : BackStage) (v : View) (a : BackAnswer) → v.stage ≡ s → IsMapped s v.shape.order v.grefs v.pages → length v.pages ≤ 16 → v.ring.indices.cons < 2 ^ 32 → IsSeen s v → IsShown s v a
    → IsPlaced s v.shape (length v.ring.entry) (distance_of v.ring.indices.prod v.ring.indices.cons) → IsAnswer (ask_at s v) a → Lowers s v a
lowers stage.InitWait v a at pages few small seen shown placed ok = still_lowers stage.InitWait v a at ok
lowers stage.MapRing v (Mapped m) at pages few small seen shown placed ok = omega (arith, mapped_left m v (omega (arith, pages.0, pages.1)))
lowers stage.MapRing v (MapRefused status) at pages few small seen shown placed ok = omega (arith, unbound_left v.pages (record v { halted = Some (halt.MapRefused (next_gref v) status) }) refl)
lowers stage.Bind v Done at pages few small seen shown placed ok = omega arith
lowers stage.Bind v BindRefused at pages few small seen shown placed ok = omega (arith, unbound_left v.pages (record v { halted = Some (halt.BadPort v.ring.port) }) refl)
lowers stage.Loop v a at pages few small seen shown placed ok = loop_lowers (next_reply v) v a at refl small shown ok
lowers (stage.Fetch k) v (Word word) at pages few small seen shown placed ok = omega (arith, fetch_left v k word placed.0 small seen)
lowers (stage.ReplyHigh r) v a at pages few small seen shown placed ok = omega arith
lowers (stage.ReplyLast r) v a at pages few small seen shown placed ok = omega arith
lowers (stage.Producer r) v a at pages few small seen shown placed ok = omega arith
lowers (stage.ProducerFence old) v a at pages few small seen shown placed ok = omega arith
lowers (stage.ResponseEvent old) v (Word event) at pages few small seen shown placed ok = omega (arith, by_test (notifies old v.ring.indices.prod event))
  where
    by_test : (b : Bool) → left_of (record v { stage = if b then stage.Send else stage.Loop }) < 2 + rest v
    by_test true = omega arith
    by_test false = omega arith
lowers stage.Send v a at pages few small seen shown placed ok = omega arith
lowers stage.StoreEvent v a at pages few small seen shown placed ok = omega arith
lowers stage.EventFence v a at pages few small seen shown placed ok = omega arith
lowers stage.LookAgain v (Word word) at pages few small seen shown placed ok =
    let none : View = record v { ring = record v.ring { seen = word; asleep = true }; stage = stage.Loop } in
    looked_left v word (1 + owed v) none small shown.0 shown.1 (omega arith) (λ same. let at_none : distance_of v.ring.indices.cons word ≡ 0 = rw same (no_distance v.ring.indices.cons small) in omega (arith, at_none))
lowers (stage.Abort m) v a at pages few small seen shown placed ok = omega (arith, abort_left v)
lowers stage.UnmapRing v a at pages few small seen shown placed ok = omega (arith, bound_left v.pages v refl pages)
lowers stage.ClosePort v a at pages few small seen shown placed ok = omega arith
lowers stage.UnmapUnbound v a at pages few small seen shown placed ok = omega (arith, unbound_lowers v.pages v refl pages)
lowers stage.Halted v a at pages few small seen shown placed ok = still_lowers stage.Halted v a at ok
lowers s v a at pages few small seen shown placed ok = absurd ok
