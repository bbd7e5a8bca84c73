-- What persistent grants (`feature-persistent` of `io/blkif.h`) make of the back: its jobs keep mappings for later requests, and after a halt those that are kept are unmapped too, after those in the jobs' hands and before the ring's pages. Where none may be kept all is as in `Step`.
use Rattle.std.specs.Prelude.{◌≡◌, ℕ, Bool, true, false, ◌&&◌, List, ◌∷◌, ◌++◌, [], length, ◌+◌, Option, Some, None, is_some, if◌then◌else◌, ◌==◌, nat_le}
use Rattle.blk_base.specs.declared.parts.Mapping.{Mapping}
use Rattle.blk_base.specs.declared.ask.BackAsk.{BackAsk}
use Rattle.blk_base.specs.declared.ask.BackAsk.TheVariants as ask
use Rattle.blk_base.specs.declared.ask.BackAnswer.{BackAnswer}
use Rattle.blk_base.specs.declared.ask.BackAnswer.TheVariants.{Word}
use Rattle.blk_base.specs.declared.halt.Halt.{Halt}
use Rattle.blk_base.specs.declared.halt.Halt.TheVariants as halt
use Rattle.ring_words.specs.Shape.{entry_words_of}
use Rattle.ring_words.specs.Ring.{requests_of, overruns}
use Rattle.blk_layout.specs.Entry.{request_of}
use Rattle.persist_grants.specs.KeptMappings.{none_kept}
use Rattle.back_jobs.specs.Jobs.{work_of, effect_of}
use Rattle.back_jobs.specs.Keeping.{start_keeping, complete_keeping, ask_keeping, first_given, after_given}
use Rattle.blk_back.specs.declared.stage.Reply.{Reply}
use Rattle.blk_back.specs.declared.stage.BackStage.{BackStage}
use Rattle.blk_back.specs.declared.stage.BackStage.TheVariants as stage
use Rattle.blk_back.specs.View.{View}
use Rattle.blk_back.specs.Ask.{next_reply}
use Rattle.blk_back.specs.Step.{unmapping_next, halts_at, may_halt, looked, loop_word, loop_step, next_number, fetched, fetch_step, step_at, told_effect}

-- the next mapping is given up: that of the lowest job that has one in its hand, or else one that is kept; where there is none the ring's pages are unmapped
abbrev pub abort_keeping : View → View
abort_keeping v = record v { stage = unmapping_next (first_given v.jobs); jobs = after_given v.jobs }

-- where no step is begun the negotiation may have the back halt
abbrev pub halts_keeping_at : BackStage → Halt → View → View
halts_keeping_at stage.Loop why v = abort_keeping (record v { halted = Some why })
halts_keeping_at s why v = halts_at s why v

abbrev pub halts_keeping : Halt → View → View
halts_keeping why v = if may_halt why then halts_keeping_at v.stage why v else v

-- its front's terms are taken, and no page of its ring is mapped yet
abbrev pub is_attached : BackStage → List Mapping → Bool
is_attached stage.MapRing pages = length pages == 0
is_attached s pages = false

-- then it is said how many mappings may be kept in this epoch: at most 1000
abbrev pub may_keep_most : (cap : ℕ) → View → Bool
may_keep_most cap v = is_attached v.stage v.pages && nat_le cap 1000

abbrev pub keeping_most : (cap : ℕ) → View → View
keeping_most cap v = record v { jobs = record v.jobs { kept = record v.jobs.kept { cap = cap } } }

abbrev pub keeps : (cap : ℕ) → View → View
keeps cap v = if may_keep_most cap v then keeping_most cap v else v

-- the back halts: it serves nothing more
abbrev pub overrun_keeping : View → ℕ → View
overrun_keeping v prod = abort_keeping (record v { halted = Some (halt.Overrun prod v.ring.indices.prod) })

-- the requests' producer was read
abbrev pub looked_keeping : View → ℕ → View → View
looked_keeping v prod otherwise = if overruns v.ring.indices prod then overrun_keeping v prod else looked v prod otherwise

abbrev pub loop_word_keeping : View → ℕ → View
loop_word_keeping v word =
    if requests_of v.ring.indices v.ring.seen == 0
    then looked_keeping v word (record v { ring = record v.ring { seen = word }; stage = stage.StoreEvent })
    else loop_word v word

abbrev pub loop_step_keeping : View → Option Reply → BackAnswer → View
loop_step_keeping v None (Word word) = loop_word_keeping v word
loop_step_keeping v r answer = loop_step v r answer

-- the entry's last word was read: its job takes the mapping that is kept of its first segment
abbrev pub fetched_keeping : View → List ℕ → View
fetched_keeping v words = record (fetched v words) { jobs = start_keeping v.jobs (next_number v) (request_of v.shape.abi words) }

abbrev pub fetch_step_keeping : View → ℕ → ℕ → View
fetch_step_keeping v k word =
    if k + 1 == entry_words_of v.shape.abi then fetched_keeping v (v.ring.entry ++ word ∷ []) else fetch_step v k word

-- what an answer makes of the back
abbrev pub step_keeping_at : BackStage → View → BackAnswer → View
step_keeping_at stage.Loop v answer = loop_step_keeping v (next_reply v) answer
step_keeping_at (stage.Fetch k) v (Word word) = fetch_step_keeping v k word
step_keeping_at stage.LookAgain v (Word word) = looked_keeping v word (record v { ring = record v.ring { seen = word; asleep = true }; stage = stage.Loop })
step_keeping_at (stage.Abort m) v answer = abort_keeping v
step_keeping_at s v answer = step_at s v answer

abbrev pub step_keeping : View → BackAnswer → View
step_keeping v answer = step_keeping_at v.stage v answer

-- what the job of a number asks; after a halt no job asks for anything
abbrev pub job_ask_keeping : View → ℕ → BackAsk
job_ask_keeping v number = if is_some v.halted then ask.Wait else ask_keeping v.jobs number

-- what an answer to the job of a number makes of the back
abbrev pub job_step_keeping : View → ℕ → BackAnswer → View
job_step_keeping v number answer = record v { jobs = complete_keeping v.jobs number answer; told = told_effect (effect_of (work_of v.jobs.works number) answer) }

-- no mapping may be kept, and none is
abbrev pub KeepsNone : View → Type 0
KeepsNone v = v.jobs.kept ≡ none_kept 0
