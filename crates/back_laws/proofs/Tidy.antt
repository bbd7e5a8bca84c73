-- A back whose jobs keep mappings keeps as many as it may, and none before its port is bound and once all but the ring's pages are unmapped.
use Rattle.std.proofs.Common.{◌≡◌, ℕ, ◌+◌, ◌≤◌, Bool, true, false, if◌then◌else◌, List, [], ◌∷◌, ◌++◌, length, refl, subst, arith}
use Rattle.std.specs.Prelude.{Option, Some, None, is_some, IsPermutation, nat_lt, ◌==◌}
use Rattle.std.proofs.lemmas.List.Sorted.{IsPermutation-refl}
use Rattle.blk_base.specs.declared.parts.Mapping.{Mapping}
use Rattle.blk_base.specs.declared.ask.BackAsk.TheVariants as ask
use Rattle.blk_base.specs.declared.ask.BackAnswer.{BackAnswer}
use Rattle.blk_base.specs.declared.ask.BackAnswer.TheVariants as answer
use Rattle.blk_base.specs.declared.halt.Halt.{Halt}
use Rattle.blk_base.specs.declared.halt.Halt.TheVariants as halt
use Rattle.ring_words.specs.Shape.{Shape, entry_words_of}
use Rattle.ring_words.specs.Ring.{requests_of, overruns, notifies}
use Rattle.blk_layout.specs.Entry.{request_of}
use Rattle.back_jobs.specs.Work.{IsAnswer as IsJobAnswer}
use Rattle.back_jobs.specs.Hands.{HandsKeep}
use Rattle.back_jobs.specs.Keeping.{ask_keeping, all_hands, first_given, after_given}
use Rattle.back_jobs.proofs.Bounds.{AreFew, started_few, started_cap, told_few, told_cap, given_few, given_cap, given_none, given_over}
use Rattle.back_jobs.proofs.Entire.{told_entire}
use Rattle.blk_back.specs.declared.stage.Reply.{Reply}
use Rattle.blk_back.specs.declared.stage.BackStage.{BackStage}
use Rattle.blk_back.specs.declared.stage.BackStage.TheVariants as stage
use Rattle.segment_list.specs.declared.verdict.DiskInfo.{DiskInfo}
use Rattle.blk_back.specs.View.{View, new_of}
use Rattle.blk_back.specs.Ask.{next_reply}
use Rattle.blk_back.specs.Step.{unmapping_next, unbound, bound, other_pages, may_halt, may_attach, attached, overrun, looked, next_number, fetched}
use Rattle.blk_back.specs.Keeping.{abort_keeping, halts_keeping_at, may_keep_most, keeping_most, overrun_keeping, looked_keeping, loop_word_keeping, loop_step_keeping, fetched_keeping, fetch_step_keeping, step_keeping_at, job_step_keeping}
use Rattle.blk_back.specs.Sound.{HasNothing, IsCleared}
use Rattle.blk_back.specs.Hands.{aborted, all_hands_at, all_hands_of}
use Rattle.blk_back.proofs.Keeping.{hands_keep, job_keep, abort_entire}
use Rattle.blk_back.proofs.Sound.{told_cleared}
use Rattle.back_laws.specs.Kept.{KeptHappening, Answers, AnswersJob, TakesTold, Attaches, Keeps, Halts, happened, MayHappen, after, KeepingRun, begins, now, KeepsFew, HoldsAfter, LosesNone, LeavesNone, IsEmptied, IsTidy}
use Rattle.back_laws.proofs.Calls.{attaches_waiting, keeps_mapping, keeps_at_most}

either : (b : Bool) (x y : View) → IsTidy x → IsTidy y → IsTidy (if b then x else y)
either true x y p q = p
either false x y p q = q

-- a test that is made twice
either_twice : (b : Bool) (x y z : View) → IsTidy x → IsTidy z → IsTidy (if b then x else (if b then y else z))
either_twice true x y z p q = p
either_twice false x y z p q = q

unbound_tidy : (pages : List Mapping) (v : View) → HasNothing v.jobs → IsTidy v → IsTidy (record v { pages = pages; stage = unbound pages })
unbound_tidy [] v none t = record { few = t.few; cap = t.cap; cleared = none; emptied = refl }
unbound_tidy (page ∷ pages) v none t = record { few = t.few; cap = t.cap; cleared = none; emptied = tt }

bound_tidy : (pages : List Mapping) (v : View) → HasNothing v.jobs → IsTidy v → IsTidy (record v { pages = pages; stage = bound pages })
bound_tidy [] v none t = record { few = t.few; cap = t.cap; cleared = none; emptied = refl }
bound_tidy (page ∷ pages) v none t = record { few = t.few; cap = t.cap; cleared = none; emptied = tt }

abort_tidy_at : (o : Option Mapping) (v : View) → first_given v.jobs ≡ o → AreFew v.jobs.kept → v.jobs.kept.cap ≤ 1000 → IsTidy (record v { stage = unmapping_next o; jobs = after_given v.jobs })
abort_tidy_at None v last few cap = record { few = given_few v.jobs few; cap = rw (given_cap v.jobs) cap; cleared = (given_over v.jobs last, given_none v.jobs last); emptied = tt }
abort_tidy_at (Some m) v last few cap = record { few = given_few v.jobs few; cap = rw (given_cap v.jobs) cap; cleared = tt; emptied = tt }

abort_tidy : (v : View) → IsTidy v → IsTidy (abort_keeping v)
abort_tidy v t = abort_tidy_at (first_given v.jobs) v refl t.few t.cap

-- one whose stage asks for nothing more
loose : (v : View) → AreFew v.jobs.kept → v.jobs.kept.cap ≤ 1000 → IsCleared v.stage v.jobs → IsEmptied v.stage v.pages → IsTidy v
loose v few cap cleared emptied = record { few = few; cap = cap; cleared = cleared; emptied = emptied }

looked_tidy : (v : View) (word : ℕ) (otherwise : View) → IsTidy v → IsTidy otherwise → IsTidy (looked_keeping v word otherwise)
looked_tidy v word otherwise t o =
    let shown : View = record v { ring = record v.ring { seen = word }; stage = stage.Loop } in
    either_twice (overruns v.ring.indices word) (overrun_keeping v word) (overrun v word) (if word == v.ring.indices.cons then otherwise else shown)
    (abort_tidy_at (first_given v.jobs) (record v { halted = Some (halt.Overrun word v.ring.indices.prod) }) refl t.few t.cap)
    (either (word == v.ring.indices.cons) otherwise shown o (loose shown t.few t.cap tt tt))

loop_word_tidy : (v : View) (word : ℕ) → IsTidy v → IsTidy (loop_word_keeping v word)
loop_word_tidy v word t =
    let otherwise : View = record v { ring = record v.ring { seen = word }; stage = stage.StoreEvent } in
    let begun : View = record v { ring = record v.ring { entry = word ∷ [] }; stage = stage.Fetch 1 } in
    either_twice (requests_of v.ring.indices v.ring.seen == 0) (looked_keeping v word otherwise) (looked v word otherwise) begun
    (looked_tidy v word otherwise t (loose otherwise t.few t.cap tt tt)) (loose begun t.few t.cap tt tt)

loop_tidy : (v : View) (r : Option Reply) (given : BackAnswer) → IsTidy v → IsTidy (loop_step_keeping v r given)
loop_tidy v (Some r) given t = record { few = t.few; cap = t.cap; cleared = tt; emptied = tt }
loop_tidy v None (answer.Word word) t = loop_word_tidy v word t
loop_tidy v None given t = record { few = t.few; cap = t.cap; cleared = t.cleared; emptied = t.emptied }

fetch_tidy : (v : View) (k word : ℕ) → IsTidy v → IsTidy (fetch_step_keeping v k word)
fetch_tidy v k word t =
    let words : List ℕ = v.ring.entry ++ word ∷ [] in
    let request = request_of v.shape.abi words in
    let copied : View = record v { ring = record v.ring { entry = words }; stage = stage.Fetch (k + 1) } in
    either_twice (k + 1 == entry_words_of v.shape.abi) (fetched_keeping v words) (fetched v words) copied
    (record { few = started_few v.jobs (next_number v) request t.few; cap = rw (started_cap v.jobs (next_number v) request) t.cap; cleared = tt; emptied = tt })
    (loose copied t.few t.cap tt tt)

step_tidy_at : (s : BackStage) (v : View) (given : BackAnswer) → IsCleared s v.jobs → IsEmptied s v.pages → IsTidy v → IsTidy (step_keeping_at s v given)
step_tidy_at stage.MapRing v (answer.Mapped m) none e t = by_test (nat_lt (length v.pages + 1) (length v.grefs))
  where
    by_test : (b : Bool) → IsTidy (record v { pages = v.pages ++ m ∷ []; stage = if b then stage.MapRing else stage.Bind })
    by_test true = record { few = t.few; cap = t.cap; cleared = none; emptied = tt }
    by_test false = record { few = t.few; cap = t.cap; cleared = none; emptied = tt }
step_tidy_at stage.MapRing v (answer.MapRefused status) none e t = let u = unbound_tidy v.pages v none t in record { few = u.few; cap = u.cap; cleared = u.cleared; emptied = u.emptied }
step_tidy_at stage.Bind v answer.Done none e t = record { few = t.few; cap = t.cap; cleared = tt; emptied = tt }
step_tidy_at stage.Bind v answer.BindRefused none e t = let u = unbound_tidy v.pages v none t in record { few = u.few; cap = u.cap; cleared = u.cleared; emptied = u.emptied }
step_tidy_at stage.Loop v given none e t = loop_tidy v (next_reply v) given t
step_tidy_at (stage.Fetch k) v (answer.Word word) none e t = fetch_tidy v k word t
step_tidy_at (stage.ReplyHigh r) v given none e t = record { few = t.few; cap = t.cap; cleared = tt; emptied = tt }
step_tidy_at (stage.ReplyLast r) v given none e t = record { few = t.few; cap = t.cap; cleared = tt; emptied = tt }
step_tidy_at (stage.Producer r) v given none e t = record { few = t.few; cap = t.cap; cleared = tt; emptied = tt }
step_tidy_at (stage.ProducerFence old) v given none e t = record { few = t.few; cap = t.cap; cleared = tt; emptied = tt }
step_tidy_at (stage.ResponseEvent old) v (answer.Word event) none e t = by_test (notifies old v.ring.indices.prod event)
  where
    by_test : (b : Bool) → IsTidy (record v { stage = if b then stage.Send else stage.Loop })
    by_test true = record { few = t.few; cap = t.cap; cleared = tt; emptied = tt }
    by_test false = record { few = t.few; cap = t.cap; cleared = tt; emptied = tt }
step_tidy_at stage.Send v given none e t = record { few = t.few; cap = t.cap; cleared = tt; emptied = tt }
step_tidy_at stage.StoreEvent v given none e t = record { few = t.few; cap = t.cap; cleared = tt; emptied = tt }
step_tidy_at stage.EventFence v given none e t = record { few = t.few; cap = t.cap; cleared = tt; emptied = tt }
step_tidy_at stage.LookAgain v (answer.Word word) none e t =
    let asleep : View = record v { ring = record v.ring { seen = word; asleep = true }; stage = stage.Loop } in
    looked_tidy v word asleep t (loose asleep t.few t.cap tt tt)
step_tidy_at (stage.Abort m) v given none e t = abort_tidy v t
step_tidy_at stage.UnmapRing v given none e t = bound_tidy (other_pages v.pages) v none t
step_tidy_at stage.ClosePort v given none e t = record { few = t.few; cap = t.cap; cleared = none; emptied = e }
step_tidy_at stage.UnmapUnbound v given none e t = unbound_tidy (other_pages v.pages) v none t
step_tidy_at s v given none e t = t

halts_tidy_at : (s : BackStage) (why : Halt) (v : View) → IsCleared s v.jobs → IsTidy v → IsTidy (halts_keeping_at s why v)
halts_tidy_at stage.InitWait why v none t = let u = unbound_tidy v.pages v none t in record { few = u.few; cap = u.cap; cleared = u.cleared; emptied = u.emptied }
halts_tidy_at stage.MapRing why v none t = let u = unbound_tidy v.pages v none t in record { few = u.few; cap = u.cap; cleared = u.cleared; emptied = u.emptied }
halts_tidy_at stage.Loop why v none t = abort_tidy_at (first_given v.jobs) (record v { halted = Some why }) refl t.few t.cap
halts_tidy_at s why v none t = t

-- terms that it takes, and how many mappings it may keep
attaches_tidy : (b : Bool) (shape : Shape) (grefs : List ℕ) (port : ℕ) (v : View) → may_attach shape grefs v ≡ b → IsTidy v → IsTidy (if b then attached shape grefs port v else v)
attaches_tidy true shape grefs port v may t =
    record { few = t.few; cap = t.cap; cleared = subst (λ (s : BackStage). IsCleared s v.jobs) (attaches_waiting shape grefs v may) t.cleared; emptied = tt }
attaches_tidy false shape grefs port v may t = t

keeps_tidy : (b : Bool) (cap : ℕ) (v : View) → may_keep_most cap v ≡ b → IsTidy v → IsTidy (if b then keeping_most cap v else v)
keeps_tidy true cap v may t =
    let here = keeps_mapping cap v may in
    let nothing : HasNothing v.jobs = subst (λ (s : BackStage). IsCleared s v.jobs) here t.cleared in
    record { few = omega (arith, nothing.1); cap = keeps_at_most cap v may; cleared = rw here nothing; emptied = rw here tt }
keeps_tidy false cap v may t = t

pub happened_tidy : (h : KeptHappening) (v : View) → IsTidy v → IsTidy (happened h v)
happened_tidy (Answers given) v t = step_tidy_at v.stage v given t.cleared t.emptied t
happened_tidy (AnswersJob number given) v t = record {
  few = told_few v.jobs number given t.few;
  cap = rw (told_cap v.jobs number given) t.cap;
  cleared = told_cleared v.stage v.jobs number given t.cleared;
  emptied = t.emptied;
}
happened_tidy TakesTold v t = record { few = t.few; cap = t.cap; cleared = t.cleared; emptied = t.emptied }
happened_tidy (Attaches shape grefs port) v t = attaches_tidy (may_attach shape grefs v) shape grefs port v refl t
happened_tidy (Keeps cap) v t = keeps_tidy (may_keep_most cap v) cap v refl t
happened_tidy (Halts why) v t = either (may_halt why) (halts_keeping_at v.stage why v) v (halts_tidy_at v.stage why v t.cleared t) t

tidy_after : (hs : List KeptHappening) (v : View) → IsTidy v → IsTidy (after hs v)
tidy_after [] v t = t
tidy_after (h ∷ hs) v t = tidy_after hs (happened h v) (happened_tidy h v t)

pub tidy_new : (start : ℕ) (info : DiskInfo) → IsTidy (new_of start info)
tidy_new start info = record { few = omega arith; cap = omega arith; cleared = (refl, refl); emptied = tt }

tidy_now : (r : KeepingRun) → IsTidy (now r)
tidy_now r = tidy_after r.happenings (begins r) (tidy_new r.start r.info)

pub keeps_few : KeepsFew
keeps_few r = let t = tidy_now r in (t.few, t.cap)

-- a halt loses none
unbound_over : (pages : List Mapping) → aborted (unbound pages) ≡ []
unbound_over [] = refl
unbound_over (page ∷ pages) = refl

halts_entire_at : (s : BackStage) (why : Halt) (v : View) → v.stage ≡ s → IsPermutation (all_hands_at s v) (all_hands_of (halts_keeping_at s why v))
halts_entire_at stage.InitWait why v here = rw (unbound_over v.pages) (IsPermutation-refl (all_hands v.jobs ++ v.pages))
halts_entire_at stage.MapRing why v here = rw (unbound_over v.pages) (IsPermutation-refl (all_hands v.jobs ++ v.pages))
halts_entire_at stage.Loop why v here = abort_entire (record v { halted = Some why })
halts_entire_at s why v here = subst (λ (x : BackStage). IsPermutation (all_hands_at x v) (all_hands_of v)) here (IsPermutation-refl (all_hands_of v))

halts_entire : (b : Bool) (why : Halt) (v : View) → IsPermutation (all_hands_of v) (all_hands_of (if b then halts_keeping_at v.stage why v else v))
halts_entire true why v = halts_entire_at v.stage why v refl
halts_entire false why v = IsPermutation-refl (all_hands_of v)

-- a list of no length
module _ {X : Type 0} where
  none_in : (l : List X) → length l ≡ 0 → l ≡ []
  none_in [] none = refl
  none_in (x ∷ l) none = absurd (omega arith)

attaches_entire : (b : Bool) (shape : Shape) (grefs : List ℕ) (port : ℕ) (v : View) → may_attach shape grefs v ≡ b → IsPermutation (all_hands_of v) (all_hands_of (if b then attached shape grefs port v else v))
attaches_entire true shape grefs port v may = rw (attaches_waiting shape grefs v may) (IsPermutation-refl (all_hands v.jobs ++ v.pages))
attaches_entire false shape grefs port v may = IsPermutation-refl (all_hands_of v)

keeps_entire : (b : Bool) (cap : ℕ) (v : View) → IsPermutation (all_hands_of v) (all_hands_of (if b then keeping_most cap v else v))
keeps_entire true cap v = IsPermutation-refl (all_hands_of v)
keeps_entire false cap v = IsPermutation-refl (all_hands_of v)

-- a job is answered
job_hands : (halted : Bool) (v : View) (number : ℕ) (given : BackAnswer) → IsJobAnswer (if halted then ask.Wait else ask_keeping v.jobs number) given → AreFew v.jobs.kept
    → HandsKeep (if halted then ask.Wait else ask_keeping v.jobs number) given (all_hands_of v) (all_hands_of (job_step_keeping v number given))
job_hands true v number given allowed few = absurd allowed
job_hands false v number given allowed few =
    job_keep false (ask_keeping v.jobs number) given v.stage v.pages (all_hands v.jobs) (all_hands (let w = job_step_keeping v number given in w.jobs)) allowed (told_entire v.jobs number given allowed few)

pub holds_after : (h : KeptHappening) (v : View) → IsTidy v → MayHappen h v → HoldsAfter h v
holds_after (Answers given) v t may = hands_keep v given may.0
holds_after (AnswersJob number given) v t may = job_hands (is_some v.halted) v number given may.0 t.few
holds_after TakesTold v t may = IsPermutation-refl (all_hands_of v)
holds_after (Attaches shape grefs port) v t may = attaches_entire (may_attach shape grefs v) shape grefs port v refl
holds_after (Keeps cap) v t may = keeps_entire (may_keep_most cap v) cap v
holds_after (Halts why) v t may = halts_entire (may_halt why) why v

pub loses_none : LosesNone
loses_none r = (refl, λ h may. holds_after h (now r) (tidy_now r) may)

pub leaves_none : LeavesNone
leaves_none r here =
    let v : View = now r in
    let t = tidy_now r in
    let cleared : HasNothing v.jobs = subst (λ (s : BackStage). IsCleared s v.jobs) here t.cleared in
    let emptied : length v.pages ≡ 0 = subst (λ (s : BackStage). IsEmptied s v.pages) here t.emptied in
    rw (here, none_in v.jobs.works cleared.0, none_in v.jobs.kept.entries cleared.1, none_in v.pages emptied) refl
