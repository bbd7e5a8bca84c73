-- Each act's answer is one that its ask allows.
use Rattle.std.proofs.Common.{◌≡◌, ℕ, Bool, true, false, if◌then◌else◌, List, [], ◌∷◌, refl, arith}
use Rattle.std.specs.Prelude.{Option, Some, None, is_some, ◌==◌, ◌||◌}
use Rattle.blk_base.specs.declared.parts.Mapping.{Mapping}
use Rattle.blk_base.specs.declared.parts.Mode.{Mode}
use Rattle.blk_base.specs.declared.parts.Mode.TheVariants.{ReadWrite}
use Rattle.blk_base.specs.declared.ask.FrontAsk.{FrontAsk}
use Rattle.blk_base.specs.declared.ask.FrontAsk.TheVariants as front_ask
use Rattle.blk_base.specs.declared.ask.BackAsk.{BackAsk}
use Rattle.blk_base.specs.declared.ask.BackAsk.TheVariants as back_ask
use Rattle.blk_base.specs.declared.moves.BackMover.TheVariants as back_mover
use Rattle.blk_layout.specs.declared.segment.Segment.{Segment}
use Rattle.ring_words.specs.Ring.{requests_of, responses_of}
use Rattle.event_channel.specs.Channels.{ChannelState, fresh_channels}
use Rattle.hypervisor.specs.Hypervisor.{Hypervisor}
use Rattle.hypervisor.specs.Act.{FrontAct, BackAct, Outcome, front_act, back_act}
use Rattle.blk_front.specs.declared.request.Request.{Request}
use Rattle.blk_front.specs.declared.stage.Ending.{Ending}
use Rattle.blk_front.specs.declared.request.Transfer.{Transfer}
use Rattle.blk_front.specs.declared.request.Transfer.TheVariants as transfer
use Rattle.blk_front.specs.declared.stage.FrontStage.{FrontStage}
use Rattle.blk_front.specs.declared.stage.FrontStage.TheVariants as front_stage
use Rattle.blk_front.specs.Request.{is_indirect}
use Rattle.blk_front.specs.View as front
use Rattle.blk_front.specs.Ask as front_ends
use Rattle.back_jobs.specs.declared.stage.JobStage.{JobStage}
use Rattle.back_jobs.specs.declared.stage.JobStage.TheVariants as job_stage
use Rattle.back_jobs.specs.Work as task
use Rattle.back_jobs.specs.Jobs.{asked, work_of, place_of, waits, ask_job}
use Rattle.back_jobs.specs.Keeping as keeping
use Rattle.persist_grants.specs.KeptMappings.{may_keep}
use Rattle.blk_back.specs.declared.stage.Reply.{Reply}
use Rattle.blk_back.specs.declared.stage.BackStage.{BackStage}
use Rattle.blk_back.specs.declared.stage.BackStage.TheVariants as back_stage
use Rattle.blk_back.specs.View as back
use Rattle.blk_back.specs.Ask as back_ends
use Rattle.blk_back.specs.Step.{job_ask_of}
use Rattle.blk_back.specs.Keeping.{job_ask_keeping}
use Rattle.split_model.specs.Safe.{HasNoPort, IsPorted}
use Rattle.split_model.proofs.Acting.{FrontGet, FrontSet, FrontWatch, front_acts, BackActs, BackMap, BackFence, BackBind, BackBindRefused, BackSend, BackClose, BackGet, BackSet, BackWatch, DiskGives, ReadFails, DiskTakes, WriteFails, DiskFlushes, FlushFails, DiskTrims, TrimFails, back_acts}

-- what the front asks: a new port only where there is none, and never for a key
abbrev pub IsFronts : ChannelState → FrontAsk → Type 0
IsFronts c front_ask.NewPort = HasNoPort c
IsFronts c (front_ask.GetKey path) = ⊥
IsFronts c (front_ask.SetKey path text) = ⊥
IsFronts c (front_ask.Watch path) = ⊥
IsFronts c ask = Unit {0}

either_fronts : (c : ChannelState) (b : Bool) (x y : FrontAsk) → IsFronts c x → IsFronts c y → IsFronts c (if b then x else y)
either_fronts c true x y p q = p
either_fronts c false x y p q = q

issue_fronts : (c : ChannelState) (v : front.View) (r : Request) (way : Transfer) → IsFronts c (front_ends.issue_ask v r way)
issue_fronts c v r transfer.Read = either_fronts c (is_indirect r.count) (front_ends.page_ask (Some r) 0) (front_ends.name_ask (Some r) 0) tt tt
issue_fronts c v r (transfer.Write tag) = tt
issue_fronts c v r (transfer.Barrier tag) = tt
issue_fronts c v r transfer.Flush = tt
issue_fronts c v r (transfer.Discard sectors) = tt

loop_fronts : (c : ChannelState) (v : front.View) (r : Option Request) → IsFronts c (front_ends.loop_ask v r)
loop_fronts c v (Some r) = issue_fronts c v r r.transfer
loop_fronts c v None = either_fronts c (v.ring.asleep || front_ends.is_through v) front_ask.Wait _ tt (either_fronts c (responses_of v.ring.indices v.ring.seen == 0) (front_ask.Read front.ring_frame 2) (front_ask.Read (front.slot_frame v.shape v.ring.indices.cons 0) (front.slot_word v.shape v.ring.indices.cons 0)) tt tt)

issue_data_fronts : (c : ChannelState) (r : Option Request) (n : ℕ) → IsFronts c (front_ends.data_ask r n)
issue_data_fronts c None n = tt
issue_data_fronts c (Some r) n = tt

page_fronts : (c : ChannelState) (r : Option Request) (n : ℕ) → IsFronts c (front_ends.page_ask r n)
page_fronts c None n = tt
page_fronts c (Some r) n = tt

name_fronts : (c : ChannelState) (r : Option Request) (place : ℕ) → IsFronts c (front_ends.name_ask r place)
name_fronts c None place = tt
name_fronts c (Some r) place = tt

grant_fronts : (c : ChannelState) (r : Option Request) (place : ℕ) → IsFronts c (front_ends.grant_ask r place)
grant_fronts c None place = tt
grant_fronts c (Some r) place = tt

revoke_fronts : (c : ChannelState) (e : Option Ending) (place : ℕ) → IsFronts c (front_ends.revoke_ask e place)
revoke_fronts c None place = tt
revoke_fronts c (Some e) place = tt

end_fronts : (c : ChannelState) (e : Option Ending) (place seen : ℕ) → IsFronts c (front_ends.end_ask e place seen)
end_fronts c None place seen = tt
end_fronts c (Some e) place seen = tt

read_fronts : (c : ChannelState) (e : Option Ending) (n : ℕ) → IsFronts c (front_ends.read_ask e n)
read_fronts c None n = tt
read_fronts c (Some e) n = tt

pub fronts_at : (c : ChannelState) (s : FrontStage) (v : front.View) → IsPorted s c → IsFronts c (front_ends.ask_at s v)
fronts_at c front_stage.NewPort v ported = ported
fronts_at c front_stage.Loop v ported = loop_fronts c v (front.next_request v)
fronts_at c (front_stage.Data n) v ported = issue_data_fronts c (front.next_request v) n
fronts_at c (front_stage.Pages n) v ported = page_fronts c (front.next_request v) n
fronts_at c (front_stage.GrantFrame place) v ported = name_fronts c (front.next_request v) place
fronts_at c (front_stage.GrantFlags place) v ported = grant_fronts c (front.next_request v) place
fronts_at c (front_stage.GrantRead place) v ported = revoke_fronts c v.ending place
fronts_at c (front_stage.GrantEnd place seen) v ported = end_fronts c v.ending place seen
fronts_at c (front_stage.ReadData n) v ported = read_fronts c v.ending n
fronts_at c (front_stage.LeftData n) v ported = read_fronts c v.ending n
fronts_at c s v ported = tt

none_fresh : HasNoPort fresh_channels
none_fresh = (omega arith, refl)

ported_fresh : (s : FrontStage) → IsPorted s fresh_channels
ported_fresh (front_stage.LeftData n) = none_fresh
ported_fresh (front_stage.RingWord k) = none_fresh
ported_fresh (front_stage.RingFrame page) = none_fresh
ported_fresh (front_stage.RingFence page) = none_fresh
ported_fresh (front_stage.RingFlags page) = none_fresh
ported_fresh front_stage.NewPort = none_fresh
ported_fresh s = tt

pub front_answered_at : (h : Hypervisor) (c : ChannelState) (ask : FrontAsk) (a : FrontAct) → IsFronts c ask → front_act h ask ≡ Some a → front_ends.IsAnswer ask a.answer
front_answered_at h c ask a own e = (elim (front_acts h ask a e) as (λ asked x acts. IsFronts c asked → front_ends.IsAnswer asked x.answer) [
  | FrontGet path ↦ λ own. absurd own
  | FrontSet path text is ↦ λ own. absurd own
  | FrontWatch path ↦ λ own. absurd own
  | acts ↦ λ own. tt
]) own

-- the front is answered what its ask allows
pub front_answered : (h : Hypervisor) (v : front.View) (a : FrontAct) → front_act h (front_ends.ask_of v) ≡ Some a → front_ends.IsAnswer (front_ends.ask_of v) a.answer
front_answered h v a e = front_answered_at h fresh_channels (front_ends.ask_of v) a (fronts_at fresh_channels v.stage v (ported_fresh v.stage)) e

-- an ask for no key; the front makes no other
abbrev pub AsksNoKey : FrontAsk → Type 0
AsksNoKey (front_ask.GetKey path) = ⊥
AsksNoKey (front_ask.SetKey path text) = ⊥
AsksNoKey (front_ask.Watch path) = ⊥
AsksNoKey ask = Unit {0}

no_key_at : (ask : FrontAsk) → IsFronts fresh_channels ask → AsksNoKey ask
no_key_at (front_ask.GetKey path) own = own
no_key_at (front_ask.SetKey path text) own = own
no_key_at (front_ask.Watch path) own = own
no_key_at ask own = tt

pub fronts_no_key : (v : front.View) → AsksNoKey (front_ends.ask_of v)
fronts_no_key v = no_key_at (front_ends.ask_of v) (fronts_at fresh_channels v.stage v (ported_fresh v.stage))

-- what the back asks: never a call of the disk, nor for a key
abbrev pub IsBacks : BackAsk → Type 0
IsBacks (back_ask.GetKey path) = ⊥
IsBacks (back_ask.SetKey path text) = ⊥
IsBacks (back_ask.Watch path) = ⊥
IsBacks (back_ask.DiskRead sector) = ⊥
IsBacks (back_ask.DiskWrite sector words) = ⊥
IsBacks back_ask.Flush = ⊥
IsBacks (back_ask.Trim sector count) = ⊥
IsBacks ask = Unit {0}

either_backs : (b : Bool) (x y : BackAsk) → IsBacks x → IsBacks y → IsBacks (if b then x else y)
either_backs true x y p q = p
either_backs false x y p q = q

loop_backs : (v : back.View) (r : Option Reply) → IsBacks (back_ends.loop_ask v r)
loop_backs v (Some r) = tt
loop_backs v None = either_backs v.ring.asleep back_ask.Wait _ tt (either_backs (requests_of v.ring.indices v.ring.seen == 0) (back_ends.index_ask v 0) (back_ends.entry_ask v 0) tt tt)

unmap_backs : (pages : List Mapping) → IsBacks (back_ends.unmap_ask pages)
unmap_backs [] = tt
unmap_backs (page ∷ pages) = tt

backs_at : (s : BackStage) (v : back.View) → IsBacks (back_ends.ask_at s v)
backs_at back_stage.Loop v = loop_backs v (back_ends.next_reply v)
backs_at back_stage.UnmapRing v = unmap_backs v.pages
backs_at back_stage.UnmapUnbound v = unmap_backs v.pages
backs_at s v = tt

pub backs_of : (v : back.View) → IsBacks (back_ends.ask_of v)
backs_of v = backs_at v.stage v

back_answers : (h : Hypervisor) (ask : BackAsk) (o : Outcome) (a : BackAct) → IsBacks ask → BackActs h back_mover.Back ask o a → back_ends.IsAnswer ask a.answer
back_answers h ask o a own (BackMap gref mode frame is) = (refl, refl)
back_answers h ask o a own (BackGet path) = absurd own
back_answers h ask o a own (BackSet path text is) = absurd own
back_answers h ask o a own (BackWatch path) = absurd own
back_answers h ask o a own (DiskGives sector words) = absurd own
back_answers h ask o a own (ReadFails sector) = absurd own
back_answers h ask o a own (DiskTakes sector words) = absurd own
back_answers h ask o a own (WriteFails sector words) = absurd own
back_answers h ask o a own DiskFlushes = absurd own
back_answers h ask o a own FlushFails = absurd own
back_answers h ask o a own (DiskTrims sector count) = absurd own
back_answers h ask o a own (TrimFails sector count) = absurd own
back_answers h ask o a own acts = tt

-- the back is answered what its ask allows
pub back_answered : (h : Hypervisor) (v : back.View) (o : Outcome) (a : BackAct) → back_act h back_mover.Back (back_ends.ask_of v) o ≡ Some a → back_ends.IsAnswer (back_ends.ask_of v) a.answer
back_answered h v o a e = back_answers h (back_ends.ask_of v) o a (backs_of v) (back_acts h back_mover.Back (back_ends.ask_of v) o a e)

-- what a job asks: memory, mappings and the disk
abbrev pub IsJobs : BackAsk → Type 0
IsJobs back_ask.Fence = ⊥
IsJobs (back_ask.Bind p) = ⊥
IsJobs back_ask.Send = ⊥
IsJobs back_ask.ClosePort = ⊥
IsJobs (back_ask.GetKey path) = ⊥
IsJobs (back_ask.SetKey path text) = ⊥
IsJobs (back_ask.Watch path) = ⊥
IsJobs ask = Unit {0}

map_jobs : (rest : List Segment) (mode : Mode) → IsJobs (task.map_in rest mode)
map_jobs [] mode = tt
map_jobs (s ∷ rest) mode = tt

page_jobs : (pages : List ℕ) → IsJobs (task.page_ask pages)
page_jobs [] = tt
page_jobs (gref ∷ pages) = tt

jobs_at : (s : JobStage) (t : task.Work) → IsJobs (task.ask_at s t)
jobs_at job_stage.MapPage t = page_jobs t.pages
jobs_at job_stage.Map t = map_jobs t.rest (task.mode_of t.writes)
jobs_at s t = tt

jobs_asked : (held : Bool) (t : Option task.Work) → IsJobs (asked held t)
jobs_asked held None = tt
jobs_asked true (Some t) = tt
jobs_asked false (Some t) = jobs_at t.stage t

jobs_if : (halted : Bool) (ask : BackAsk) → IsJobs ask → IsJobs (if halted then back_ask.Wait else ask)
jobs_if true ask own = tt
jobs_if false ask own = own

pub jobs_of : (v : back.View) (k : ℕ) → IsJobs (job_ask_of v k)
jobs_of v k = jobs_if (is_some v.halted) (ask_job v.jobs k) (jobs_asked (waits v.jobs.works k) (work_of v.jobs.works k))

-- so it is where mappings are kept
jobs_with : (keeps : Bool) (s : JobStage) (t : task.Work) → IsJobs (keeping.ask_with keeps s t)
jobs_with true job_stage.Map t = map_jobs t.rest ReadWrite
jobs_with true s t = jobs_at s t
jobs_with false s t = jobs_at s t

jobs_asked_in : (keeps held : Bool) (t : Option task.Work) → IsJobs (keeping.asked_in keeps held t)
jobs_asked_in keeps held None = tt
jobs_asked_in keeps true (Some t) = tt
jobs_asked_in keeps false (Some t) = jobs_with keeps t.stage t

pub jobs_keeping : (v : back.View) (k : ℕ) → IsJobs (job_ask_keeping v k)
jobs_keeping v k =
    let keeps = may_keep v.jobs.kept in
    jobs_if (is_some v.halted) (keeping.ask_keeping v.jobs k) (jobs_asked_in keeps (keeping.waits_in keeps v.jobs.works (place_of v.jobs.works k) (work_of v.jobs.works k)) (work_of v.jobs.works k))

job_answers : (h : Hypervisor) (k : ℕ) (ask : BackAsk) (o : Outcome) (a : BackAct) → IsJobs ask → BackActs h (back_mover.Job k) ask o a → task.IsAnswer ask a.answer
job_answers h k ask o a own (BackMap gref mode frame is) = (refl, refl)
job_answers h k ask o a own BackFence = absurd own
job_answers h k ask o a own (BackBind p unbound) = absurd own
job_answers h k ask o a own (BackBindRefused p) = absurd own
job_answers h k ask o a own BackSend = absurd own
job_answers h k ask o a own BackClose = absurd own
job_answers h k ask o a own acts = tt

-- a job is answered what its ask allows
pub job_answered_as : (h : Hypervisor) (k : ℕ) (ask : BackAsk) (o : Outcome) (a : BackAct) → IsJobs ask → back_act h (back_mover.Job k) ask o ≡ Some a → task.IsAnswer ask a.answer
job_answered_as h k ask o a own e = job_answers h k ask o a own (back_acts h (back_mover.Job k) ask o a e)

pub job_answered : (h : Hypervisor) (v : back.View) (k : ℕ) (o : Outcome) (a : BackAct) → back_act h (back_mover.Job k) (job_ask_of v k) o ≡ Some a → task.IsAnswer (job_ask_of v k) a.answer
job_answered h v k o a e = job_answered_as h k (job_ask_of v k) o a (jobs_of v k) e
