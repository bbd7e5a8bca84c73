-- The jobs that the back holds, in order of number.
use Rattle.std.specs.Prelude.{ℕ, Bool, true, false, not, ◌&&◌, ◌||◌, List, [], ◌∷◌, ◌++◌, take, find, position, remove, slice_get, slice_set, Option, Some, None, ◌==◌, nat_lt, cond, is_some}
use Rattle.std.specs.Option.{option_map}
use Rattle.std.specs.List.{list_any}
use Rattle.blk_base.specs.declared.operation.Status.{Status}
use Rattle.blk_base.specs.declared.parts.Mapping.{Mapping}
use Rattle.blk_base.specs.declared.ask.BackAsk.{BackAsk}
use Rattle.blk_base.specs.declared.ask.BackAsk.TheVariants.{Wait}
use Rattle.blk_base.specs.declared.ask.BackAnswer.{BackAnswer}
use Rattle.blk_base.specs.declared.ask.BackAnswer.TheVariants as answer
use Rattle.back_jobs.specs.declared.effect.Effect.{Effect}
use Rattle.back_jobs.specs.declared.effect.Effect.TheVariants as effect
use Rattle.blk_layout.specs.declared.request.RawRequest.{RawRequest}
use Rattle.segment_list.specs.declared.verdict.DiskInfo.{DiskInfo}
use Rattle.segment_list.specs.Verdict.{verdict_of}
use Rattle.back_jobs.specs.declared.stage.JobStage.{JobStage}
use Rattle.back_jobs.specs.declared.stage.JobStage.TheVariants as stage
use Rattle.back_jobs.specs.Work.{Work, ask_of, step_of, begun}
use Rattle.persist_grants.specs.KeptMappings.{KeptMappings, none_kept}

-- the jobs held, the lowest number first; how many there is room for; the disk as the back knows it; and the mappings that are kept for later requests
pub record HeldJobs : Type 0 where
  pub works : List Work
  pub room : ℕ
  pub info : DiskInfo
  pub kept : KeptMappings

-- none is held, and no mapping may be kept
abbrev pub none_held : ℕ → DiskInfo → HeldJobs
none_held room info = record { works = []; room = room; info = info; kept = none_kept 0 }

-- where the job of a number stands
abbrev pub place_of : List Work → ℕ → Option ℕ
place_of works number = position (λ (t : Work). t.number == number) works

abbrev pub work_at : List Work → Option ℕ → Option Work
work_at works None = None
work_at works (Some place) = slice_get works place

-- the job of a number
abbrev pub work_of : List Work → ℕ → Option Work
work_of works number = work_at works (place_of works number)

-- a job that is done
abbrev pub is_done_at : JobStage → Bool
is_done_at (stage.Done status) = true
is_done_at s = false

abbrev pub is_done : Work → Bool
is_done t = is_done_at t.stage

-- the operations that a barrier orders: WRITE (1), WRITE_BARRIER (2) and DISCARD (5) of `io/blkif.h`
abbrev pub is_ordered : Work → Bool
is_ordered t = t.op == 1 || t.op == 2 || t.op == 5

abbrev pub is_barrier : Work → Bool
is_barrier t = t.op == 2

-- a barrier waits for each of them that was fetched before it and isn't done; and each of them waits for a barrier
abbrev pub holds_barriers : Work → Bool
holds_barriers t = is_ordered t && not (is_done t)

abbrev pub holds_all : Work → Bool
holds_all t = is_barrier t && not (is_done t)

-- a job waits at its beginning: before its first map, that of a page or of a segment, or before its trim
abbrev pub is_fresh_at : JobStage → ℕ → Bool
is_fresh_at stage.MapPage moved = true
is_fresh_at stage.Map moved = moved == 0
is_fresh_at (stage.Trim count) moved = true
is_fresh_at s moved = false

-- a barrier is held up by one that it orders and that is not done (`ordered`), and one that barriers order by a barrier that is not done
abbrev pub is_held : Work → (ordered barrier : Bool) → Bool
is_held t ordered barrier = (is_barrier t && ordered) || (is_ordered t && barrier)

-- jobs that were fetched before it hold it up
abbrev pub is_held_by : List Work → Work → Bool
is_held_by earlier t = is_held t (list_any holds_barriers earlier) (list_any holds_all earlier)

-- the job at a place, where it is held, waits for one before it
abbrev pub waits_at : List Work → Option ℕ → Option Work → Bool
waits_at works (Some place) (Some t) = is_fresh_at t.stage t.moved && is_held_by (take place works) t
waits_at works place found = false

abbrev pub waits : List Work → ℕ → Bool
waits works number = waits_at works (place_of works number) (work_of works number)

-- what the job of a number asks; one that isn't held waits, and one that waits for another
abbrev pub asked : Bool → Option Work → BackAsk
asked held None = Wait
asked true (Some t) = Wait
asked false (Some t) = ask_of t

abbrev pub ask_job : HeldJobs → ℕ → BackAsk
ask_job h number = asked (waits h.works number) (work_of h.works number)

-- the job of a number is told an answer
abbrev pub told_at : List Work → Option ℕ → Option Work → BackAnswer → List Work
told_at works None t a = works
told_at works (Some place) None a = works
told_at works (Some place) (Some t) a = slice_set works place (step_of t a)

abbrev pub complete_job : HeldJobs → ℕ → BackAnswer → HeldJobs
complete_job h number a = record h { works = told_at h.works (place_of h.works number) (work_of h.works number) a }

-- a request is begun under a number above all that are held
abbrev pub start_job : HeldJobs → ℕ → RawRequest → HeldJobs
start_job h number request = record h { works = h.works ++ begun number request h.info.sectors (verdict_of request h.info) ∷ [] }

-- number, id, operation and status of a job that is done
abbrev pub response_at : JobStage → Work → Option (ℕ × ℕ × ℕ × Status)
response_at (stage.Done status) t = Some (t.number, t.id, t.op, status)
response_at s t = None

abbrev pub response_of : Work → Option (ℕ × ℕ × ℕ × Status)
response_of t = response_at t.stage t

-- the lowest job that is done
abbrev pub done_of : HeldJobs → Option Work
done_of h = work_at h.works (position (λ (t : Work). is_done t) h.works)

-- the jobs without the lowest one that is done
abbrev pub removed_at : List Work → Option ℕ → List Work
removed_at works None = works
removed_at works (Some place) = remove works place

abbrev pub without_done : HeldJobs → HeldJobs
without_done h = record h { works = removed_at h.works (position (λ (t : Work). is_done t) h.works) }

-- the lowest number above this one
abbrev pub next_in : List Work → ℕ → Option ℕ
next_in works number = option_map (λ (t : Work). t.number) (find (λ (t : Work). nat_lt number t.number) works)

abbrev pub next_after : HeldJobs → ℕ → Option ℕ
next_after h number = next_in h.works number

-- the mapping in a job's hand
abbrev pub mapping_at : JobStage → Option Mapping
mapping_at (stage.PageReference m) = Some m
mapping_at (stage.PageSectors m gref) = Some m
mapping_at (stage.UnmapPage m) = Some m
mapping_at (stage.ReadWord m k) = Some m
mapping_at (stage.DiskWrite m) = Some m
mapping_at (stage.DiskRead m) = Some m
mapping_at (stage.WriteWord m k) = Some m
mapping_at (stage.Unmap m) = Some m
mapping_at (stage.Abort m) = Some m
mapping_at s = None

-- the jobs after the lowest with a mapping in its hand; those before it are over
abbrev pub after_mapping : List Work → List Work
after_mapping [] = []
after_mapping (t ∷ works) = cond (is_some (mapping_at t.stage)) works (after_mapping works)

-- the mapping in the hand of the lowest job that has one
abbrev pub first_mapping : List Work → Option Mapping
first_mapping [] = None
first_mapping (t ∷ works) = cond (is_some (mapping_at t.stage)) (mapping_at t.stage) (first_mapping works)

-- what a job's move does to its request, by the id and the sector's place in it (`io/blkif.h`)
abbrev pub effect_at : JobStage → Work → BackAnswer → Option Effect
effect_at (stage.DiskWrite m) t answer.Done = Some (effect.Moved t.id t.moved)
effect_at (stage.DiskWrite m) t answer.DiskFailed = Some (effect.Failed t.id t.moved)
effect_at (stage.DiskRead m) t (answer.Sector words) = Some (effect.Moved t.id t.moved)
effect_at (stage.DiskRead m) t answer.DiskFailed = Some (effect.Failed t.id t.moved)
effect_at stage.Flush t answer.Done = Some (effect.Flushed t.id)
effect_at stage.Flush t answer.DiskFailed = Some (effect.Failed t.id t.moved)
effect_at (stage.Trim count) t answer.Done = Some (effect.Trimmed t.id)
effect_at (stage.Trim count) t answer.DiskFailed = Some (effect.Failed t.id t.moved)
effect_at s t a = None

abbrev pub effect_of : Option Work → BackAnswer → Option Effect
effect_of None a = None
effect_of (Some t) a = effect_at t.stage t a
