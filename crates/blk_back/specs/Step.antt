-- What an answer makes of the back, and of one of its jobs.
use Rattle.std.specs.Prelude.{ℕ, ◌+◌, ◌%◌, ◌^◌, Bool, true, false, ◌&&◌, List, [], ◌∷◌, ◌++◌, length, Option, Some, None, is_some, if◌then◌else◌, ◌==◌, nat_lt, nat_le}
use Rattle.blk_base.specs.declared.parts.Mapping.{Mapping}
use Rattle.blk_base.specs.declared.ask.BackAsk.{BackAsk}
use Rattle.blk_base.specs.declared.ask.BackAsk.TheVariants as ask
use Rattle.blk_base.specs.declared.ask.BackAnswer.{BackAnswer}
use Rattle.blk_base.specs.declared.ask.BackAnswer.TheVariants.{Event, Done, Word, Mapped, MapRefused, BindRefused}
use Rattle.ring_words.specs.Shape.{Shape, entries_of, entry_words_of}
use Rattle.ring_words.specs.Ring.{next_of, requests_of, overruns, notifies}
use Rattle.blk_layout.specs.Entry.{request_of}
use Rattle.back_jobs.specs.declared.effect.Effect.{Effect}
use Rattle.back_jobs.specs.declared.effect.Effect.TheVariants as effect
use Rattle.back_jobs.specs.Jobs.{start_job, complete_job, without_done, first_mapping, after_mapping, work_of, effect_of, ask_job, next_after}
use Rattle.blk_back.specs.declared.stage.Reply.{Reply}
use Rattle.blk_back.specs.declared.stage.BackStage.{BackStage}
use Rattle.blk_back.specs.declared.stage.BackStage.TheVariants as stage
use Rattle.blk_back.specs.declared.told.BackTold.{BackTold}
use Rattle.blk_back.specs.declared.told.BackTold.TheVariants as told
use Rattle.blk_base.specs.declared.halt.Halt.{Halt}
use Rattle.blk_base.specs.declared.halt.Halt.TheVariants as halt
use Rattle.blk_back.specs.View.{View}
use Rattle.blk_back.specs.Ask.{is_led, next_reply, next_gref}

abbrev pub at : BackStage → View → View
at s v = record v { stage = s }

-- after a mapping of the jobs, or none: what is unmapped next
abbrev pub unmapping_next : Option Mapping → BackStage
unmapping_next None = stage.UnmapRing
unmapping_next (Some m) = stage.Abort m

-- the jobs are aborted as far as the next mapping in a job's hand
abbrev pub abort : View → View
abort v = record v { stage = unmapping_next (first_mapping v.jobs.works); jobs = record v.jobs { works = after_mapping v.jobs.works } }

-- a back whose port isn't bound unmaps the pages that it has mapped
abbrev pub unbound : List Mapping → BackStage
unbound [] = stage.Halted
unbound (page ∷ pages) = stage.UnmapUnbound

-- where no step is begun the negotiation may have the back halt
abbrev pub halts_at : BackStage → Halt → View → View
halts_at stage.InitWait why v = record v { halted = Some why; stage = unbound v.pages }
halts_at stage.MapRing why v = record v { halted = Some why; stage = unbound v.pages }
halts_at stage.Loop why v = abort (record v { halted = Some why })
halts_at s why v = v

-- for anything but an overrun, which the back finds itself
abbrev pub may_halt : Halt → Bool
may_halt (halt.Overrun prod rsp_prod) = false
may_halt why = true

abbrev pub halts : Halt → View → View
halts why v = if may_halt why then halts_at v.stage why v else v

-- where it waits for the terms of its front they are a shape, a reference for each page, and a port
abbrev pub may_attach : Shape → List ℕ → View → Bool
may_attach shape grefs v = is_led v.stage && nat_le shape.order 4 && length grefs == 2 ^ shape.order

abbrev pub attached : Shape → List ℕ → ℕ → View → View
attached shape grefs port v = record v {
  shape = shape;
  grefs = grefs;
  ring = record v.ring { port = port; indices = record { entries = entries_of shape.order; prod = v.ring.indices.prod; cons = v.ring.indices.prod } };
  stage = stage.MapRing;
}

abbrev pub attaches : Shape → List ℕ → ℕ → View → View
attaches shape grefs port v = if may_attach shape grefs v then attached shape grefs port v else v

-- the back halts: it serves nothing more
abbrev pub overrun : View → ℕ → View
overrun v prod = abort (record v { halted = Some (halt.Overrun prod v.ring.indices.prod) })

-- the requests' producer was read: one that overran halts the back; where nothing is new, `otherwise`
abbrev pub looked : View → ℕ → View → View
looked v prod otherwise =
    if overruns v.ring.indices prod then overrun v prod
    else (if prod == v.ring.indices.cons then otherwise else record v { ring = record v.ring { seen = prod }; stage = stage.Loop })

abbrev pub loop_word : View → ℕ → View
loop_word v word =
    if requests_of v.ring.indices v.ring.seen == 0
    then looked v word (record v { ring = record v.ring { seen = word }; stage = stage.StoreEvent })
    else record v { ring = record v.ring { entry = word ∷ [] }; stage = stage.Fetch 1 }

-- a reply begins: its job is held no longer; an event ends sleep, and a watch, which is the negotiation's, doesn't
abbrev pub loop_step : View → Option Reply → BackAnswer → View
loop_step v (Some r) answer = record v { stage = stage.ReplyHigh r; jobs = without_done v.jobs }
loop_step v None (Word word) = loop_word v word
loop_step v None Event = record v { ring = record v.ring { asleep = false } }
loop_step v None answer = v

-- one more request was fetched
abbrev pub next_number : View → ℕ
next_number v = (v.fetched + 1) % 2 ^ 64

-- the entry's last word was read: its job is made of the words as they were read
abbrev pub fetched : View → List ℕ → View
fetched v words = record v {
  ring = record v.ring { entry = words; indices = record v.ring.indices { cons = next_of v.ring.indices.cons } };
  fetched = next_number v;
  jobs = start_job v.jobs (next_number v) (request_of v.shape.abi words);
  stage = stage.Loop;
}

abbrev pub fetch_step : View → ℕ → ℕ → View
fetch_step v k word =
    if k + 1 == entry_words_of v.shape.abi then fetched v (v.ring.entry ++ word ∷ [])
    else record v { ring = record v.ring { entry = v.ring.entry ++ word ∷ [] }; stage = stage.Fetch (k + 1) }

-- the reply is pushed
abbrev pub replied : View → Reply → View
replied v r = record v {
  ring = record v.ring { indices = record v.ring.indices { prod = next_of v.ring.indices.prod } };
  stage = stage.ProducerFence v.ring.indices.prod;
  told = Some (told.Reply r.id r.status);
}

-- a page of the ring was mapped: the next one is, or the port is bound
abbrev pub mapped : Mapping → View → View
mapped page v = record v { pages = v.pages ++ page ∷ []; stage = if nat_lt (length v.pages + 1) (length v.grefs) then stage.MapRing else stage.Bind }

-- the first page that is still mapped was unmapped: the next one is, or none is left
abbrev pub other_pages : List Mapping → List Mapping
other_pages [] = []
other_pages (page ∷ pages) = pages

abbrev pub bound : List Mapping → BackStage
bound [] = stage.ClosePort
bound (page ∷ pages) = stage.UnmapRing

abbrev pub unmapped_bound : View → View
unmapped_bound v = record v { pages = other_pages v.pages; stage = bound (other_pages v.pages) }

abbrev pub unmapped_unbound : View → View
unmapped_unbound v = record v { pages = other_pages v.pages; stage = unbound (other_pages v.pages) }

abbrev pub step_at : BackStage → View → BackAnswer → View
step_at stage.MapRing v (Mapped m) = mapped m v
step_at stage.MapRing v (MapRefused status) = record v { halted = Some (halt.MapRefused (next_gref v) status); stage = unbound v.pages }
step_at stage.Bind v Done = at stage.Loop v
step_at stage.Bind v BindRefused = record v { halted = Some (halt.BadPort v.ring.port); stage = unbound v.pages }
step_at stage.Loop v answer = loop_step v (next_reply v) answer
step_at (stage.Fetch k) v (Word word) = fetch_step v k word
step_at (stage.ReplyHigh r) v answer = at (stage.ReplyLast r) v
step_at (stage.ReplyLast r) v answer = at (stage.Producer r) v
step_at (stage.Producer r) v answer = replied v r
step_at (stage.ProducerFence old) v answer = at (stage.ResponseEvent old) v
step_at (stage.ResponseEvent old) v (Word event) = at (if notifies old v.ring.indices.prod event then stage.Send else stage.Loop) v
step_at stage.Send v answer = at stage.Loop v
step_at stage.StoreEvent v answer = at stage.EventFence v
step_at stage.EventFence v answer = at stage.LookAgain v
step_at stage.LookAgain v (Word word) = looked v word (record v { ring = record v.ring { seen = word; asleep = true }; stage = stage.Loop })
step_at (stage.Abort m) v answer = abort v
step_at stage.UnmapRing v answer = unmapped_bound v
step_at stage.ClosePort v answer = at stage.Halted v
step_at stage.UnmapUnbound v answer = unmapped_unbound v
step_at s v answer = v

abbrev pub step_of : View → BackAnswer → View
step_of v answer = step_at v.stage v answer

-- what the job of a number asks; after a halt no job asks for anything
abbrev pub job_ask_of : View → ℕ → BackAsk
job_ask_of v number = if is_some v.halted then ask.Wait else ask_job v.jobs number

-- the least number above this one of a job that is held; after a halt none is
abbrev pub next_job_of : View → ℕ → Option ℕ
next_job_of v after = if is_some v.halted then None else next_after v.jobs after

-- what a job's move tells
abbrev pub told_effect : Option Effect → Option BackTold
told_effect None = None
told_effect (Some (effect.Moved id index)) = Some (told.Effect id index)
told_effect (Some (effect.Flushed id)) = Some (told.Flushed id)
told_effect (Some (effect.Trimmed id)) = Some (told.Trimmed id)
told_effect (Some (effect.Failed id index)) = Some (told.Fault id index)

-- what an answer to the job of a number makes of the back
abbrev pub job_step : View → ℕ → BackAnswer → View
job_step v number answer = record v { jobs = complete_job v.jobs number answer; told = told_effect (effect_of (work_of v.jobs.works number) answer) }
