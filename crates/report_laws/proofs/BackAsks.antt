-- What the back and its jobs ask has the widths of the grammar.
use Rattle.std.proofs.Common.{◌≡◌, ℕ, ◌^◌, ◌<◌, ◌≤◌, ◌==◌, ◌⊎◌, inl, inr, Bool, true, false, if◌then◌else◌, List, [], ◌∷◌, length, refl, ap, sym, subst, arith}
use Rattle.std.specs.Prelude.{All, Option, Some, None, is_some, nat_lt}
use Rattle.std.specs.List.{AllByRecursion}
use Rattle.std.proofs.lemmas.List.Elements.{All-head}
use Rattle.std.proofs.lemmas.Bool.Decides.{nat_tests}
use Rattle.blk_base.specs.declared.operation.Status.{Status}
use Rattle.blk_base.specs.declared.operation.Status.TheVariants.{Okay}
use Rattle.blk_base.specs.declared.parts.Mapping.{Mapping}
use Rattle.blk_base.specs.declared.ask.BackAsk.{BackAsk}
use Rattle.blk_base.specs.declared.ask.BackAsk.TheVariants as ask
use Rattle.blk_base.specs.declared.moves.BackMover.TheVariants.{Back, Job}
use Rattle.ring_words.specs.Ring.{requests_of}
use Rattle.blk_layout.specs.Response.{response_words_of}
use Rattle.blk_layout.specs.declared.segment.Segment.{Segment}
use Rattle.back_jobs.specs.declared.stage.JobStage.{JobStage}
use Rattle.back_jobs.specs.declared.stage.JobStage.TheVariants as job
use Rattle.back_jobs.specs.Work as task
use Rattle.blk_base.specs.declared.parts.Mode.{Mode}
use Rattle.blk_base.specs.declared.parts.Mode.TheVariants.{ReadWrite}
use Rattle.back_jobs.specs.Work.{Work, map_in, mode_of, page_ask}
use Rattle.persist_grants.specs.KeptMappings.{may_keep}
use Rattle.back_jobs.specs.Jobs.{place_of, work_at, work_of}
use Rattle.back_jobs.specs.Keeping.{ask_with, ask_in, waits_in, asked_in, ask_keeping}
use Rattle.blk_back.specs.declared.stage.Reply.{Reply}
use Rattle.blk_back.specs.declared.stage.BackStage.{BackStage}
use Rattle.blk_back.specs.declared.stage.BackStage.TheVariants as stage
use Rattle.blk_back.specs.View.{View, page_of, slot_page, slot_word}
use Rattle.blk_back.specs.Ask.{ask_at, ask_of, loop_ask, unmap_ask, next_reply, response_word}
use Rattle.blk_back.specs.Keeping.{job_ask_keeping}
use Rattle.machine_pipeline.specs.Allowed.{AreSaid}
use Rattle.machine_pipeline.proofs.Lists.{all_at, found_at}
use Rattle.report_laws.proofs.Words.{AreWords, each_fits, index_fits}
use Rattle.report_laws.proofs.Acts.{IsMover, BackFits}
use Rattle.report_laws.proofs.JobNumbers.{HasGref, Lies, LiesAt, IsWork}
use Rattle.report_laws.proofs.BackNumbers.{IsReply, IsNext, HasWords, IsFit, next_fits}

-- the words of a response
response_words : (id op : ℕ) (status : Status) → id < 2 ^ 64 → op < 2 ^ 8 → AllByRecursion (λ (v : ℕ). v < 2 ^ 32) (response_words_of (record { id = id; op = op; status = status }))
response_words id op Okay long small = (omega arith, (omega arith, (omega arith, tt)))
response_words id op other long small = (omega arith, (omega arith, (omega arith, tt)))

reply_fits : (r : Reply) (i : ℕ) → IsReply r → response_word r i < 2 ^ 32
reply_fits r i is = each_fits (response_words_of (record { id = r.id; op = r.op; status = r.status })) (response_words r.id r.op r.status is.0 is.1) i

unvalued : (a b : Bool) (m m' : Mapping) (word word' : ℕ) → BackFits Back (if a then ask.Wait else (if b then ask.Read m word else ask.Read m' word'))
unvalued true b m m' word word' = tt
unvalued false true m m' word word' = tt
unvalued false false m m' word word' = tt

unmap_fits : (pages : List Mapping) → BackFits Back (unmap_ask pages)
unmap_fits [] = tt
unmap_fits (page ∷ pages) = tt

loop_fits : (v : View) (next : Option Reply) → IsNext next → BackFits Back (loop_ask v next)
loop_fits v (Some r) is = reply_fits r 0 is
loop_fits v None is = unvalued v.ring.asleep (requests_of v.ring.indices v.ring.seen == 0) (page_of v 0) (slot_page v v.ring.indices.cons 0) 0 (slot_word v.shape v.ring.indices.cons 0)

back_at : (s : BackStage) (v : View) → HasWords s → AreSaid v.grefs v.ring.port → IsNext (next_reply v) → BackFits Back (ask_at s v)
back_at stage.MapRing v words said next = index_fits v.grefs (length v.pages) said.0
back_at stage.Bind v words said next = said.1
back_at stage.Loop v words said next = loop_fits v (next_reply v) next
back_at (stage.ReplyHigh r) v words said next = reply_fits r 1 words
back_at (stage.ReplyLast r) v words said next = reply_fits r 2 words
back_at (stage.Producer r) v words said next = omega arith
back_at stage.StoreEvent v words said next = omega arith
back_at stage.UnmapRing v words said next = unmap_fits v.pages
back_at stage.UnmapUnbound v words said next = unmap_fits v.pages
back_at s v words said next = tt

pub back_asks : (most : ℕ) (v : View) → IsFit most v → BackFits Back (ask_of v)
back_asks most v f = back_at v.stage v f.1 f.0.said (next_fits most v f)

-- a job of a number that asks with the widths of the grammar; one that isn't held waits, and one that waits for another
pub record JobAsks (number : ℕ) (x : BackAsk) : Type 0 where
  pub mover : IsMover (Job number)
  pub fits : BackFits (Job number) x

map_fits : (number : ℕ) (rest : List Segment) (mode : Mode) → All HasGref rest → BackFits (Job number) (map_in rest mode)
map_fits number [] mode grefs = tt
map_fits number (s ∷ rest) mode grefs = All-head HasGref s rest grefs

page_fits : (number : ℕ) (pages : List ℕ) → AreWords pages → BackFits (Job number) (page_ask pages)
page_fits number [] listed = tt
page_fits number (gref ∷ pages) listed = All-head (λ (v : ℕ). v < 2 ^ 32) gref pages listed

disk_fits : (disk within : ℕ) (rest : List Segment) → Lies disk within 1 rest → disk < 2 ^ 64
disk_fits disk within [] h = absurd h
disk_fits disk within (s ∷ rest) h = let fits = h.1 in omega arith

work_fits : (number : ℕ) (s : JobStage) (t : Work) → number < 2 ^ 64 → nat_lt 0 number ≡ true → LiesAt s t.disk t.within t.rest → IsWork t → BackFits (Job number) (task.ask_at s t)
work_fits number job.MapPage t long positive lies is = page_fits number t.pages is.0.listed
work_fits number job.Map t long positive lies is = map_fits number t.rest (mode_of t.writes) is.0.grefs
work_fits number (job.DiskWrite m) t long positive lies is = (disk_fits t.disk t.within t.rest lies, (long, positive))
work_fits number (job.DiskRead m) t long positive lies is = (disk_fits t.disk t.within t.rest lies, (long, positive))
work_fits number (job.WriteWord m k) t long positive lies is = index_fits t.words k is.0.held
work_fits number job.Flush t long positive lies is = (long, positive)
work_fits number (job.Trim count) t long positive lies is = (lies.0, lies.1, (long, positive))
work_fits number s t long positive lies is = tt

-- a frame that may be kept is mapped for writing too
with_fits : (keeps : Bool) (number : ℕ) (s : JobStage) (t : Work) → number < 2 ^ 64 → nat_lt 0 number ≡ true → LiesAt s t.disk t.within t.rest → IsWork t → BackFits (Job number) (ask_with keeps s t)
with_fits true number job.Map t long positive lies is = map_fits number t.rest ReadWrite is.0.grefs
with_fits true number s t long positive lies is = work_fits number s t long positive lies is
with_fits false number s t long positive lies is = work_fits number s t long positive lies is

found_asks : (keeps : Bool) (number : ℕ) (t : Work) → (t.number == number) ≡ true → IsWork t → JobAsks number (ask_in keeps t)
found_asks keeps number t same is =
    let positive = is.0.positive in
    let bound = is.0.long in
    let long : number < 2 ^ 64 = numbered t.number bound same in
    let above : nat_lt 0 number ≡ true = above_none t.number positive same in
    record { mover = record { widths = long; allowed = above }; fits = with_fits keeps number t.stage t long above is.1 is }
  where
    numbered : (n : ℕ) → n < 2 ^ 64 → (n == number) ≡ true → number < 2 ^ 64
    numbered n bound same = grind (arith, nat_tests)

    above_none : (n : ℕ) → 1 ≤ n → (n == number) ≡ true → nat_lt 0 number ≡ true
    above_none n positive same = grind (arith, nat_tests)

pub job_asks : (most : ℕ) (v : View) (number : ℕ) → IsFit most v → (job_ask_keeping v number ≡ ask.Wait) ⊎ JobAsks number (job_ask_keeping v number)
job_asks most v number f = by_halt (is_some v.halted)
  where
    keeps : Bool
    keeps = may_keep v.jobs.kept

    by_place : (held : Bool) (place : Option ℕ) → place_of v.jobs.works number ≡ place → (asked_in keeps held (work_at v.jobs.works place) ≡ ask.Wait) ⊎ JobAsks number (asked_in keeps held (work_at v.jobs.works place))
    by_place held None e = inl refl
    by_place true (Some p) e =
        let found = found_at (λ (t : Work). t.number == number) v.jobs.works p e in
        inl (ap (λ (x : Option Work). asked_in keeps true x) found.1)
    by_place false (Some p) e =
        let found = found_at (λ (t : Work). t.number == number) v.jobs.works p e in
        inr (subst (λ (x : Option Work). JobAsks number (asked_in keeps false x)) (sym found.1) (found_asks keeps number found.0 found.2 (all_at IsWork v.jobs.works p found.0 f.0.jobs found.1)))

    by_halt : (b : Bool) → ((if b then ask.Wait else ask_keeping v.jobs number) ≡ ask.Wait) ⊎ JobAsks number (if b then ask.Wait else ask_keeping v.jobs number)
    by_halt true = inl refl
    by_halt false = by_place (waits_in keeps v.jobs.works (place_of v.jobs.works number) (work_of v.jobs.works number)) (place_of v.jobs.works number) refl
