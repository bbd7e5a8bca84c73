-- A back that keeps no mapping does what it would without.
use Rattle.std.proofs.Common.{◌≡◌, ℕ, ◌+◌, Bool, true, false, if◌then◌else◌, List, [], ◌∷◌, ◌++◌, refl, sym, ap, ◌∙◌}
use Rattle.std.specs.Prelude.{Option, Some, None, is_some, ◌==◌}
use Rattle.blk_base.specs.declared.parts.Mapping.{Mapping}
use Rattle.blk_base.specs.declared.ask.BackAsk.{BackAsk}
use Rattle.blk_base.specs.declared.ask.BackAsk.TheVariants as ask
use Rattle.blk_base.specs.declared.ask.BackAnswer.{BackAnswer}
use Rattle.blk_base.specs.declared.ask.BackAnswer.TheVariants as answer
use Rattle.blk_base.specs.declared.halt.Halt.{Halt}
use Rattle.blk_base.specs.declared.halt.Halt.TheVariants as halt
use Rattle.blk_layout.specs.Entry.{request_of}
use Rattle.ring_words.specs.Shape.{entry_words_of}
use Rattle.ring_words.specs.Ring.{requests_of, overruns}
use Rattle.persist_grants.specs.KeptMappings.{KeptMappings}
use Rattle.back_jobs.specs.Jobs.{HeldJobs, first_mapping, work_of, effect_of}
use Rattle.back_jobs.specs.Keeping.{after_given}
use Rattle.back_jobs.proofs.Plain.{plain_ask, plain_started, plain_told, plain_first, plain_after}
use Rattle.blk_back.specs.declared.stage.Reply.{Reply}
use Rattle.blk_back.specs.declared.stage.BackStage.{BackStage}
use Rattle.blk_back.specs.declared.stage.BackStage.TheVariants as stage
use Rattle.blk_back.specs.View.{View}
use Rattle.blk_back.specs.Ask.{next_reply}
use Rattle.blk_back.specs.Step.{unmapping_next, abort, halts_at, may_halt, halts, overrun, looked, loop_word, loop_step, next_number, fetched, fetch_step, step_at, step_of, told_effect, job_ask_of, job_step}
use Rattle.blk_back.specs.Keeping.{abort_keeping, may_keep_most, keeping_most, keeps, halts_keeping_at, halts_keeping, overrun_keeping, looked_keeping, loop_word_keeping, loop_step_keeping, fetched_keeping, fetch_step_keeping, step_keeping_at, step_keeping, job_ask_keeping, job_step_keeping, KeepsNone}
use Rattle.blk_back.proofs.Hands.{step_kept_at, halted_kept}

plain_abort : (v : View) → KeepsNone v → abort_keeping v ≡ abort v
plain_abort v e =
    ap (λ (m : Option Mapping). record v { stage = unmapping_next m; jobs = after_given v.jobs }) (plain_first v.jobs e)
    ∙ ap (λ (j : HeldJobs). record v { stage = unmapping_next (first_mapping v.jobs.works); jobs = j }) (plain_after v.jobs e)

-- a test that is made twice
tested_twice : (b : Bool) (x y z : View) → x ≡ y → (if b then x else (if b then y else z)) ≡ (if b then y else z)
tested_twice true x y z e = e
tested_twice false x y z e = refl

plain_looked : (v : View) (prod : ℕ) (otherwise : View) → KeepsNone v → looked_keeping v prod otherwise ≡ looked v prod otherwise
plain_looked v prod otherwise e =
    tested_twice (overruns v.ring.indices prod) (overrun_keeping v prod) (overrun v prod) (if prod == v.ring.indices.cons then otherwise else record v { ring = record v.ring { seen = prod }; stage = stage.Loop })
    (plain_abort (record v { halted = Some (halt.Overrun prod v.ring.indices.prod) }) e)

plain_word : (v : View) (word : ℕ) → KeepsNone v → loop_word_keeping v word ≡ loop_word v word
plain_word v word e =
    let otherwise : View = record v { ring = record v.ring { seen = word }; stage = stage.StoreEvent } in
    tested_twice (requests_of v.ring.indices v.ring.seen == 0) (looked_keeping v word otherwise) (looked v word otherwise) (record v { ring = record v.ring { entry = word ∷ [] }; stage = stage.Fetch 1 })
    (plain_looked v word otherwise e)

plain_loop : (v : View) (r : Option Reply) (given : BackAnswer) → KeepsNone v → loop_step_keeping v r given ≡ loop_step v r given
plain_loop v (Some r) given e = refl
plain_loop v None (answer.Word word) e = plain_word v word e
plain_loop v None given e = refl

plain_fetch : (v : View) (k word : ℕ) → KeepsNone v → fetch_step_keeping v k word ≡ fetch_step v k word
plain_fetch v k word e =
    let words : List ℕ = v.ring.entry ++ word ∷ [] in
    tested_twice (k + 1 == entry_words_of v.shape.abi) (fetched_keeping v words) (fetched v words) (record v { ring = record v.ring { entry = words }; stage = stage.Fetch (k + 1) })
    (ap (λ (j : HeldJobs). record (fetched v words) { jobs = j }) (plain_started v.jobs (next_number v) (request_of v.shape.abi words) e))

plain_step_at : (s : BackStage) (v : View) (given : BackAnswer) → KeepsNone v → step_keeping_at s v given ≡ step_at s v given
plain_step_at stage.Loop v given e = plain_loop v (next_reply v) given e
plain_step_at (stage.Fetch k) v (answer.Word word) e = plain_fetch v k word e
plain_step_at stage.LookAgain v (answer.Word word) e = plain_looked v word (record v { ring = record v.ring { seen = word; asleep = true }; stage = stage.Loop }) e
plain_step_at (stage.Abort m) v given e = plain_abort v e
plain_step_at s v given e = refl

pub plain_step : (v : View) (given : BackAnswer) → KeepsNone v → step_keeping v given ≡ step_of v given
plain_step v given e = plain_step_at v.stage v given e

plain_halts_at : (s : BackStage) (why : Halt) (v : View) → KeepsNone v → halts_keeping_at s why v ≡ halts_at s why v
plain_halts_at stage.Loop why v e = plain_abort (record v { halted = Some why }) e
plain_halts_at s why v e = refl

pub plain_halts : (why : Halt) (v : View) → KeepsNone v → halts_keeping why v ≡ halts why v
plain_halts why v e = ap (λ (w : View). if may_halt why then w else v) (plain_halts_at v.stage why v e)

-- it is said that it may keep none, as it was
kept_plainly : (b : Bool) (v : View) → KeepsNone v → (if b then keeping_most 0 v else v) ≡ v
kept_plainly true v e =
    ap (λ (k : KeptMappings). record v { jobs = record v.jobs { kept = record k { cap = 0 } } }) e
    ∙ ap (λ (k : KeptMappings). record v { jobs = record v.jobs { kept = k } }) (sym e)
kept_plainly false v e = refl

pub plain_keeps : (v : View) → KeepsNone v → keeps 0 v ≡ v
plain_keeps v e = kept_plainly (may_keep_most 0 v) v e

pub plain_job_ask : (v : View) (number : ℕ) → KeepsNone v → job_ask_keeping v number ≡ job_ask_of v number
plain_job_ask v number e = ap (λ (a : BackAsk). if is_some v.halted then ask.Wait else a) (plain_ask v.jobs number e)

pub plain_job_step : (v : View) (number : ℕ) (given : BackAnswer) → KeepsNone v → job_step_keeping v number given ≡ job_step v number given
plain_job_step v number given e = ap (λ (j : HeldJobs). record v { jobs = j; told = told_effect (effect_of (work_of v.jobs.works number) given) }) (plain_told v.jobs number given e)

-- a back that was to keep no mapping came to what it would without, and is to keep none still
pub record IsPlain (new wanted : View) : Type 0 where
  pub is : new ≡ wanted
  pub keeps_none : KeepsNone new

plain_as : (v new keeping wanted : View) → KeepsNone v → new ≡ keeping → keeping ≡ wanted → wanted.jobs.kept ≡ v.jobs.kept → IsPlain new wanted
plain_as v new keeping wanted none e plain kept = record { is = e ∙ plain; keeps_none = ap (λ (w : View). w.jobs.kept) (e ∙ plain) ∙ (kept ∙ none) }

pub stepped : (v new : View) (given : BackAnswer) → KeepsNone v → new ≡ step_keeping v given → IsPlain new (step_of v given)
stepped v new given none e = plain_as v new (step_keeping v given) (step_of v given) none e (plain_step v given none) (step_kept_at v.stage v given)

pub halted : (why : Halt) (v new : View) → KeepsNone v → new ≡ halts_keeping why v → IsPlain new (halts why v)
halted why v new none e = plain_as v new (halts_keeping why v) (halts why v) none e (plain_halts why v none) (halted_kept why v)

pub job_stepped : (v new : View) (number : ℕ) (given : BackAnswer) → KeepsNone v → new ≡ job_step_keeping v number given → IsPlain new (job_step v number given)
job_stepped v new number given none e = plain_as v new (job_step_keeping v number given) (job_step v number given) none e (plain_job_step v number given none) refl
