-- The numbers that the back and its jobs keep have the widths of the grammar, and so has what they tell, whatever words they read.
use Rattle.std.proofs.Common.{ℕ, ◌+◌, ◌^◌, ◌<◌, ◌≤◌, Bool, true, false, if◌then◌else◌, List, [], ◌∷◌, ◌++◌, length, refl, arith}
use Rattle.std.specs.Prelude.{All, Option, Some, None, option_and_then, nat_lt, ◌==◌, position}
use Rattle.std.proofs.lemmas.List.Elements.{All-nil, All-push, All-from_recursion}
use Rattle.blk_base.specs.Options.{Options}
use Rattle.blk_base.specs.declared.parts.Mapping.{Mapping}
use Rattle.blk_base.specs.declared.ask.BackAnswer.{BackAnswer}
use Rattle.blk_base.specs.declared.ask.BackAnswer.TheVariants as answer
use Rattle.ring_words.specs.Ring.{requests_of, overruns, notifies}
use Rattle.ring_words.specs.Shape.{Shape, entry_words_of}
use Rattle.blk_layout.specs.Entry.{request_of}
use Rattle.segment_list.specs.declared.verdict.DiskInfo.{DiskInfo}
use Rattle.segment_list.specs.Verdict.{verdict_of}
use Rattle.schedule_text.specs.declared.line.Line.TheVariants as lines
use Rattle.schedule_text.specs.Range.{AreOptions}
use Rattle.back_jobs.specs.declared.stage.JobStage.{JobStage}
use Rattle.back_jobs.specs.declared.stage.JobStage.TheVariants as job
use Rattle.back_jobs.specs.Work.{Work, copied, begun}
use Rattle.back_jobs.specs.Jobs.{place_of, work_at, work_of, removed_at, after_mapping, first_mapping, is_done, response_of, response_at, effect_at, effect_of}
use Rattle.back_jobs.specs.Keeping.{settled, told_keeping, given_from, first_given}
use Rattle.blk_back.specs.Keeping.{abort_keeping, overrun_keeping, looked_keeping, loop_step_keeping, fetched_keeping, fetch_step_keeping, step_keeping_at, step_keeping, halts_keeping_at, halts_keeping, job_step_keeping}
use Rattle.blk_back.specs.declared.stage.Reply.{Reply}
use Rattle.blk_back.specs.declared.stage.BackStage.{BackStage}
use Rattle.blk_back.specs.declared.stage.BackStage.TheVariants as stage
use Rattle.blk_back.specs.declared.told.BackTold.{BackTold}
use Rattle.blk_back.specs.declared.told.BackTold.TheVariants as told
use Rattle.blk_base.specs.declared.halt.Halt.{Halt}
use Rattle.blk_base.specs.declared.halt.Halt.TheVariants as halt
use Rattle.blk_back.specs.View.{View, info_of, new_of, start_of}
use Rattle.blk_back.specs.Ask.{reply_of, next_reply, next_gref}
use Rattle.blk_back.specs.Step.{unmapping_next, unbound, bound, other_pages, attached, may_halt, overrun, looked, next_number, fetched, told_effect}
use Rattle.split_model.specs.Shown.{back_lines, halt_lines}
use Rattle.machine_pipeline.specs.Allowed.{IsSaid, AreSaid}
use Rattle.report_laws.proofs.Told.{AreGood, good}
use Rattle.report_laws.proofs.Words.{AreWords, index_fits}
use Rattle.report_laws.proofs.Acts.{BackTells}
use Rattle.report_laws.proofs.JobNumbers.{IsWork, IsWorkFound, found_fits, request_read, begun_fits, settled_fits, told_works, removed_works, later_works}

-- what the back carries from stage to stage, tells, and halts with
abbrev pub IsReply : Reply → Type 0
IsReply r = (r.id < 2 ^ 64) × (r.op < 2 ^ 8)

abbrev pub HasWords : BackStage → Type 0
HasWords (stage.ReplyHigh r) = IsReply r
HasWords (stage.ReplyLast r) = IsReply r
HasWords (stage.Producer r) = IsReply r
HasWords s = Unit {0}

abbrev pub TellsWords : Option BackTold → Type 0
TellsWords None = Unit {0}
TellsWords (Some (told.Effect id index)) = (id < 2 ^ 64) × (index < 2 ^ 32)
TellsWords (Some (told.Flushed id)) = id < 2 ^ 64
TellsWords (Some (told.Trimmed id)) = id < 2 ^ 64
TellsWords (Some (told.Fault id index)) = (id < 2 ^ 64) × (index < 2 ^ 32)
TellsWords (Some (told.Reply id status)) = id < 2 ^ 64

abbrev pub HaltsWith : Option Halt → Type 0
HaltsWith None = Unit {0}
HaltsWith (Some why) = IsSaid why

-- no more requests than `most` were fetched, and the terms of the front are of the grammar
pub record AreNumbers (most count prod : ℕ) (works : List Work) (info : DiskInfo) (entry grefs : List ℕ) (port : ℕ) (halted : Option Halt) : Type 0 where
  pub few : count ≤ most
  pub produced : prod < 2 ^ 32
  pub jobs : All IsWork works
  pub sized : info.sectors ≤ 2 ^ 64
  pub copied : AreWords entry
  pub said : AreSaid grefs port
  pub why : HaltsWith halted

abbrev pub IsFit : ℕ → View → Type 0
IsFit most v = AreNumbers most v.fetched v.ring.indices.prod v.jobs.works v.jobs.info v.ring.entry v.grefs v.ring.port v.halted × HasWords v.stage × TellsWords v.told

-- a new back, of a ring of this first index and of this disk
pub new_fits : (start : ℕ) (info : DiskInfo) → start < 2 ^ 32 → info.sectors ≤ 2 ^ 64 → IsFit 0 (new_of start info)
new_fits start info small sized = (
  record { few = omega arith; produced = small; jobs = All-nil IsWork; sized = sized; copied = All-nil (λ (v : ℕ). v < 2 ^ 32); said = (All-nil (λ (v : ℕ). v < 2 ^ 32), omega arith); why = tt },
  tt,
  tt,
)

pub back_start : (config : Options) → AreOptions config → IsFit 0 (start_of config)
back_start config options = new_fits config.start (info_of config) options.3 (let sectors = options.4 in omega arith)

pub later : (most more : ℕ) (v : View) → most ≤ more → IsFit most v → IsFit more v
later most more v less f = let k = f.0 in (record { few = (let few = k.few in omega arith); produced = k.produced; jobs = k.jobs; sized = k.sized; copied = k.copied; said = k.said; why = k.why }, f.1, f.2)

either : (most : ℕ) (b : Bool) (x y : View) → IsFit most x → IsFit most y → IsFit most (if b then x else y)
either most true x y p q = p
either most false x y p q = q

jobs_now : {most count prod : ℕ} {works : List Work} {info : DiskInfo} {entry grefs : List ℕ} {port : ℕ} {halted : Option Halt} (now : List Work) (why : Option Halt) → All IsWork now → HaltsWith why
    → AreNumbers most count prod works info entry grefs port halted → AreNumbers most count prod now info entry grefs port why
jobs_now now why jobs halts k = record { few = k.few; produced = k.produced; jobs = jobs; sized = k.sized; copied = k.copied; said = k.said; why = halts }

entry_now : {most count prod : ℕ} {works : List Work} {info : DiskInfo} {entry grefs : List ℕ} {port : ℕ} {halted : Option Halt} (now : List ℕ) → AreWords now
    → AreNumbers most count prod works info entry grefs port halted → AreNumbers most count prod works info now grefs port halted
entry_now now copied k = record { few = k.few; produced = k.produced; jobs = k.jobs; sized = k.sized; copied = copied; said = k.said; why = k.why }

giving_words : (m : Option Mapping) → HasWords (unmapping_next m)
giving_words None = tt
giving_words (Some m) = tt

abort_fits : (most : ℕ) (v : View) (why : Option Halt) → HaltsWith why → IsFit most v → IsFit most (abort_keeping (record v { halted = why }))
abort_fits most v why halts f = (by_given (first_mapping v.jobs.works), giving_words (first_given v.jobs), f.2)
  where
    less : All IsWork (after_mapping v.jobs.works)
    less = later_works v.jobs.works f.0.jobs

    by_given : (m : Option Mapping) → AreNumbers most v.fetched v.ring.indices.prod (given_from m v.jobs).works (given_from m v.jobs).info v.ring.entry v.grefs v.ring.port why
    by_given (Some m) = jobs_now (after_mapping v.jobs.works) why less halts f.0
    by_given None = jobs_now (after_mapping v.jobs.works) why less halts f.0

looked_fits : (most : ℕ) (v : View) (word : ℕ) (otherwise : View) → word < 2 ^ 32 → IsFit most v → IsFit most otherwise → IsFit most (looked_keeping v word otherwise)
looked_fits most v word otherwise small f h = by_test (overruns v.ring.indices word)
  where
    by_test : (b : Bool) → IsFit most (if b then overrun_keeping v word
        else (if b then overrun v word else (if word == v.ring.indices.cons then otherwise else record v { ring = record v.ring { seen = word }; stage = stage.Loop })))
    by_test true = abort_fits most v (Some (halt.Overrun word v.ring.indices.prod)) (good (lines.Halt (halt.Overrun word v.ring.indices.prod)) (small, f.0.produced) refl) f
    by_test false = either most (word == v.ring.indices.cons) otherwise (record v { ring = record v.ring { seen = word }; stage = stage.Loop }) h (f.0, tt, f.2)

-- the reply to a job that is done
abbrev pub IsNext : Option Reply → Type 0
IsNext None = Unit {0}
IsNext (Some r) = IsReply r

next_at : (found : Option Work) → IsWorkFound found → IsNext (reply_of (option_and_then response_of found))
next_at None h = tt
next_at (Some t) h = by_stage t.stage
  where
    by_stage : (s : JobStage) → IsNext (reply_of (response_at s t))
    by_stage (job.Done status) = (h.0.named, h.0.small)
    by_stage s = tt

pub next_fits : (most : ℕ) (v : View) → IsFit most v → IsNext (next_reply v)
next_fits most v f = next_at (work_at v.jobs.works (position (λ (t : Work). is_done t) v.jobs.works)) (found_fits v.jobs.works (position (λ (t : Work). is_done t) v.jobs.works) f.0.jobs)

loop_fits : (most : ℕ) (v : View) (next : Option Reply) (a : BackAnswer) → IsNext next → IsFit most v → BackTells a → IsFit most (loop_step_keeping v next a)
loop_fits most v (Some r) a is f small = (jobs_now (removed_at v.jobs.works (position (λ (t : Work). is_done t) v.jobs.works)) v.halted (removed_works v.jobs.works (position (λ (t : Work). is_done t) v.jobs.works) f.0.jobs) f.0.why f.0, is, f.2)
loop_fits most v None (answer.Word word) is f small = by_test (requests_of v.ring.indices v.ring.seen == 0)
  where
    looks : View
    looks = record v { ring = record v.ring { seen = word }; stage = stage.StoreEvent }

    by_test : (b : Bool) → IsFit most (if b then looked_keeping v word looks else (if b then looked v word looks else record v { ring = record v.ring { entry = word ∷ [] }; stage = stage.Fetch 1 }))
    by_test true = looked_fits most v word looks small f (f.0, tt, f.2)
    by_test false = (entry_now (word ∷ []) (All-from_recursion (λ (n : ℕ). n < 2 ^ 32) (word ∷ []) (small, tt)) f.0, tt, f.2)
loop_fits most v None a is f small = f

-- a request more is fetched
fetch_fits : (most : ℕ) (v : View) (k word : ℕ) → v.fetched + 1 ≤ most → most < 2 ^ 64 → word < 2 ^ 32 → IsFit most v → IsFit most (fetch_step_keeping v k word)
fetch_fits most v k word more low small f = by_test (k + 1 == entry_words_of v.shape.abi)
  where
    words : List ℕ
    words = v.ring.entry ++ word ∷ []

    copied : AreWords words
    copied = All-push (λ (n : ℕ). n < 2 ^ 32) v.ring.entry word f.0.copied small

    new : Work
    new = begun (next_number v) (request_of v.shape.abi words) v.jobs.info.sectors (verdict_of (request_of v.shape.abi words) v.jobs.info)

    fits : IsWork new
    fits = begun_fits (next_number v) (request_of v.shape.abi words) v.jobs.info (verdict_of (request_of v.shape.abi words) v.jobs.info) refl f.0.sized (omega arith) (omega arith) (request_read v.shape.abi words copied)

    whole : IsFit most (fetched_keeping v words)
    whole = (
      record {
        few = omega arith;
        produced = f.0.produced;
        jobs = All-push IsWork v.jobs.works (settled v.jobs.kept new).job f.0.jobs (settled_fits v.jobs.kept new fits);
        sized = f.0.sized;
        copied = copied;
        said = f.0.said;
        why = f.0.why;
      },
      tt,
      f.2,
    )

    by_test : (b : Bool) → IsFit most (if b then fetched_keeping v words else (if b then fetched v words else record v { ring = record v.ring { entry = words }; stage = stage.Fetch (k + 1) }))
    by_test true = whole
    by_test false = (entry_now words copied f.0, tt, f.2)

-- where the pages go one by one
unbound_words : (pages : List Mapping) → HasWords (unbound pages)
unbound_words [] = tt
unbound_words (page ∷ pages) = tt

bound_words : (pages : List Mapping) → HasWords (bound pages)
bound_words [] = tt
bound_words (page ∷ pages) = tt

-- an answer of the back's ask
step_fits : (most : ℕ) (s : BackStage) (v : View) (a : BackAnswer) → v.fetched + 1 ≤ most → most < 2 ^ 64 → HasWords s → IsFit most v → BackTells a → IsFit most (step_keeping_at s v a)
step_fits most stage.MapRing v (answer.Mapped m) more low h f small = (f.0, on (nat_lt (length v.pages + 1) (length v.grefs)), f.2)
  where
    on : (b : Bool) → HasWords (if b then stage.MapRing else stage.Bind)
    on true = tt
    on false = tt
step_fits most stage.MapRing v (answer.MapRefused status) more low h f small =
    let why = halt.MapRefused (next_gref v) status in
    (jobs_now v.jobs.works (Some why) f.0.jobs (good (lines.Halt why) (index_fits v.grefs (length v.pages) f.0.said.0, small) refl) f.0, unbound_words v.pages, f.2)
step_fits most stage.Bind v answer.Done more low h f small = (f.0, tt, f.2)
step_fits most stage.Bind v answer.BindRefused more low h f small =
    (jobs_now v.jobs.works (Some (halt.BadPort v.ring.port)) f.0.jobs (good (lines.Halt (halt.BadPort v.ring.port)) f.0.said.1 refl) f.0, unbound_words v.pages, f.2)
step_fits most stage.Loop v a more low h f small = loop_fits most v (next_reply v) a (next_fits most v f) f small
step_fits most (stage.Fetch k) v (answer.Word word) more low h f small = fetch_fits most v k word more low small f
step_fits most (stage.ReplyHigh r) v a more low h f small = (f.0, h, f.2)
step_fits most (stage.ReplyLast r) v a more low h f small = (f.0, h, f.2)
step_fits most (stage.Producer r) v a more low h f small =
    let k = f.0 in (record { few = k.few; produced = omega arith; jobs = k.jobs; sized = k.sized; copied = k.copied; said = k.said; why = k.why }, tt, h.0)
step_fits most (stage.ProducerFence old) v a more low h f small = (f.0, tt, f.2)
step_fits most (stage.ResponseEvent old) v (answer.Word event) more low h f small = (f.0, sent (notifies old v.ring.indices.prod event), f.2)
  where
    sent : (b : Bool) → HasWords (if b then stage.Send else stage.Loop)
    sent true = tt
    sent false = tt
step_fits most stage.Send v a more low h f small = (f.0, tt, f.2)
step_fits most stage.StoreEvent v a more low h f small = (f.0, tt, f.2)
step_fits most stage.EventFence v a more low h f small = (f.0, tt, f.2)
step_fits most stage.LookAgain v (answer.Word word) more low h f small = looked_fits most v word (record v { ring = record v.ring { seen = word; asleep = true }; stage = stage.Loop }) small f (f.0, tt, f.2)
step_fits most (stage.Abort m) v a more low h f small = abort_fits most v v.halted f.0.why f
step_fits most stage.UnmapRing v a more low h f small = (f.0, bound_words (other_pages v.pages), f.2)
step_fits most stage.ClosePort v a more low h f small = (f.0, tt, f.2)
step_fits most stage.UnmapUnbound v a more low h f small = (f.0, unbound_words (other_pages v.pages), f.2)
step_fits most s v a more low h f small = f

pub back_fits : (most : ℕ) (v : View) (a : BackAnswer) → v.fetched + 1 ≤ most → most < 2 ^ 64 → IsFit most v → BackTells a → IsFit most (step_keeping v a)
back_fits most v a more low f small = step_fits most v.stage v a more low f.1 f small

-- it takes the terms of its front
pub attached_fits : (most : ℕ) (shape : Shape) (grefs : List ℕ) (port : ℕ) (v : View) → AreSaid grefs port → IsFit most v → IsFit most (attached shape grefs port v)
attached_fits most shape grefs port v said f = let k = f.0 in (record { few = k.few; produced = k.produced; jobs = k.jobs; sized = k.sized; copied = k.copied; said = said; why = k.why }, tt, f.2)

-- its negotiation has it halt
pub halts_fits : (most : ℕ) (why : Halt) (v : View) → IsSaid why → IsFit most v → IsFit most (halts_keeping why v)
halts_fits most why v said f = by_test (may_halt why)
  where
    unmapped : IsFit most (record v { halted = Some why; stage = unbound v.pages })
    unmapped = (jobs_now v.jobs.works (Some why) f.0.jobs said f.0, unbound_words v.pages, f.2)

    by_stage : (s : BackStage) → IsFit most (halts_keeping_at s why v)
    by_stage stage.InitWait = unmapped
    by_stage stage.MapRing = unmapped
    by_stage stage.Loop = abort_fits most v (Some why) said f
    by_stage s = f

    by_test : (b : Bool) → IsFit most (if b then halts_keeping_at v.stage why v else v)
    by_test true = by_stage v.stage
    by_test false = f

-- an answer of a job's ask
effect_told : (s : JobStage) (t : Work) (a : BackAnswer) → IsWork t → TellsWords (told_effect (effect_at s t a))
effect_told (job.DiskWrite m) t answer.Done w = (w.0.named, w.0.few)
effect_told (job.DiskWrite m) t answer.DiskFailed w = (w.0.named, w.0.few)
effect_told (job.DiskRead m) t (answer.Sector words) w = (w.0.named, w.0.few)
effect_told (job.DiskRead m) t answer.DiskFailed w = (w.0.named, w.0.few)
effect_told job.Flush t answer.Done w = w.0.named
effect_told job.Flush t answer.DiskFailed w = (w.0.named, w.0.few)
effect_told (job.Trim count) t answer.Done w = w.0.named
effect_told (job.Trim count) t answer.DiskFailed w = (w.0.named, w.0.few)
effect_told s t a w = tt

found_told : (found : Option Work) (a : BackAnswer) → IsWorkFound found → TellsWords (told_effect (effect_of found a))
found_told None a h = tt
found_told (Some t) a h = effect_told t.stage t a h

pub job_fits : (most : ℕ) (v : View) (number : ℕ) (a : BackAnswer) → IsFit most v → BackTells a → IsFit most (job_step_keeping v number a)
job_fits most v number a f small =
    let is = found_fits v.jobs.works (place_of v.jobs.works number) f.0.jobs in
    (by_found (place_of v.jobs.works number) (work_of v.jobs.works number) is, f.1, found_told (work_of v.jobs.works number) a is)
  where
    by_found : (place : Option ℕ) (found : Option Work) → IsWorkFound found
        → AreNumbers most v.fetched v.ring.indices.prod (told_keeping v.jobs place found a).works (told_keeping v.jobs place found a).info v.ring.entry v.grefs v.ring.port v.halted
    by_found None found is = f.0
    by_found (Some place) None is = f.0
    by_found (Some place) (Some t) is = jobs_now (told_keeping v.jobs (Some place) (Some t) a).works v.halted (told_works v.jobs (Some place) (Some t) a is small f.0.jobs) f.0.why f.0

-- what it tells is lines of the grammar
pub back_good : (t : Option BackTold) (a : BackAnswer) → TellsWords t → BackTells a → AreGood (back_lines t a)
back_good None a h told = tt
back_good (Some (told.Effect id index)) (answer.Sector words) h told = (good (lines.EffectRead id index words) (h.0, h.1, told) refl, tt)
back_good (Some (told.Effect id index)) a h told = (good (lines.Effect id index) h refl, tt)
back_good (Some (told.Flushed id)) a h told = (good (lines.Flushed id) h refl, tt)
back_good (Some (told.Trimmed id)) a h told = (good (lines.Trimmed id) h refl, tt)
back_good (Some (told.Fault id index)) a h told = (good (lines.Fault id index) h refl, tt)
back_good (Some (told.Reply id status)) a h told = (good (lines.Reply id status) h refl, tt)

pub halt_good : (before now : Option Halt) → HaltsWith now → AreGood (halt_lines before now)
halt_good None None h = tt
halt_good None (Some why) h = (h, tt)
halt_good (Some g) now h = tt
