-- What persistent grants (`feature-persistent` of `io/blkif.h`) make of the jobs. Each frame of data is mapped for writing too; a job takes the mapping that is kept of its next segment's reference, and maps the frame only where none is; when the segment is done, or the disk failed, it puts the mapping back, and unmaps what is handed out for it. Where none may be kept all is as in `Jobs`.
use Rattle.std.specs.Prelude.{◌≡◌, ℕ, Bool, true, false, ◌&&◌, ◌||◌, List, [], ◌∷◌, ◌++◌, take, slice_set, Option, Some, None, ◌==◌, All}
use Rattle.std.specs.Option.{option_or}
use Rattle.blk_base.specs.declared.operation.Status.TheVariants.{Error}
use Rattle.blk_base.specs.declared.parts.Mapping.{Mapping}
use Rattle.blk_base.specs.declared.parts.Mode.TheVariants.{ReadWrite}
use Rattle.blk_base.specs.declared.ask.BackAsk.{BackAsk}
use Rattle.blk_base.specs.declared.ask.BackAsk.TheVariants.{Wait}
use Rattle.blk_base.specs.declared.ask.BackAnswer.{BackAnswer}
use Rattle.blk_layout.specs.declared.segment.Segment.{Segment}
use Rattle.blk_layout.specs.declared.request.RawRequest.{RawRequest}
use Rattle.segment_list.specs.Verdict.{verdict_of}
use Rattle.persist_grants.specs.KeptMappings.{KeptMappings, may_keep, mapping_for, mappings_of, without, least_recent, without_least_recent}
use Rattle.persist_grants.specs.PutBack.{handed_out, with_mapping}
use Rattle.back_jobs.specs.declared.stage.JobStage.{JobStage}
use Rattle.back_jobs.specs.declared.stage.JobStage.TheVariants as stage
use Rattle.back_jobs.specs.Work.{Work, ask_at, map_in, step_of, begun, sector_stage, next_segment, rest_of}
use Rattle.back_jobs.specs.Jobs.{HeldJobs, place_of, work_of, is_fresh_at, is_held_by, first_mapping, after_mapping}
use Rattle.back_jobs.specs.Hands.{hands_in}

-- what a job asks: a frame of data that may be kept is mapped for writing too
abbrev pub ask_with : Bool → JobStage → Work → BackAsk
ask_with true stage.Map t = map_in t.rest ReadWrite
ask_with keeps s t = ask_at s t

abbrev pub ask_in : Bool → Work → BackAsk
ask_in keeps t = ask_with keeps t.stage t

-- a job that took its first mapping and did nothing with it yet
abbrev pub has_only_taken : JobStage → ℕ → Bool
has_only_taken (stage.ReadWord m k) moved = (k == 0) && (moved == 0)
has_only_taken (stage.DiskRead m) moved = moved == 0
has_only_taken s moved = false

-- it is at its beginning still
abbrev pub is_fresh_in : Bool → Work → Bool
is_fresh_in true t = is_fresh_at t.stage t.moved || has_only_taken t.stage t.moved
is_fresh_in false t = is_fresh_at t.stage t.moved

abbrev pub waits_in : Bool → List Work → Option ℕ → Option Work → Bool
waits_in keeps works (Some place) (Some t) = is_fresh_in keeps t && is_held_by (take place works) t
waits_in keeps works place found = false

abbrev pub asked_in : Bool → Bool → Option Work → BackAsk
asked_in keeps held None = Wait
asked_in keeps true (Some t) = Wait
asked_in keeps false (Some t) = ask_in keeps t

-- what the job of a number asks
abbrev pub ask_keeping : HeldJobs → ℕ → BackAsk
ask_keeping h number =
    let keeps = may_keep h.kept in
    asked_in keeps (waits_in keeps h.works (place_of h.works number) (work_of h.works number)) (work_of h.works number)

-- a job, and what is kept beside it
pub record Settled : Type 0 where
  pub kept : KeptMappings
  pub job : Work

-- the sectors of a segment whose mapping was taken begin
abbrev pub begun_with : Option Mapping → Work → Work
begun_with None t = t
begun_with (Some m) t = record t { stage = sector_stage t.writes m }

-- the mapping that is kept of the next segment's reference is taken; where none is, it is mapped next
abbrev pub takes : KeptMappings → List Segment → Work → Settled
takes kept [] t = record { kept = kept; job = t }
takes kept (s ∷ rest) t = record { kept = without kept s.gref; job = begun_with (mapping_for kept s.gref) t }

-- a segment is done and nothing is to be unmapped: the next one, or all are done
abbrev pub goes_on : KeptMappings → List Segment → Work → Settled
goes_on kept rest t = takes kept rest (next_segment t rest)

-- what was handed out for the segment's mapping is unmapped
abbrev pub returned : Option Mapping → KeptMappings → Work → Settled
returned (Some out) kept t = record { kept = kept; job = record t { stage = stage.Unmap out } }
returned None kept t = goes_on kept (rest_of t.rest) t

-- so it is after the disk failed, and the job is done
abbrev pub failed_with : Option Mapping → Work → Work
failed_with (Some out) t = record t { stage = stage.Abort out }
failed_with None t = record t { stage = stage.Done Error }

-- what a job that came to a stage makes of what is kept
abbrev pub settled_at : JobStage → KeptMappings → Work → Settled
settled_at stage.Map kept t = takes kept t.rest t
settled_at (stage.Unmap m) kept t = returned (handed_out kept m.gref m) (with_mapping kept m.gref m) t
settled_at (stage.Abort m) kept t = record { kept = with_mapping kept m.gref m; job = failed_with (handed_out kept m.gref m) t }
settled_at s kept t = record { kept = kept; job = t }

abbrev pub settled : KeptMappings → Work → Settled
settled kept t = settled_at t.stage kept t

-- the job of a number is told an answer
abbrev pub with_settled : HeldJobs → ℕ → Settled → HeldJobs
with_settled h place s = record h { works = slice_set h.works place s.job; kept = s.kept }

abbrev pub told_keeping : HeldJobs → Option ℕ → Option Work → BackAnswer → HeldJobs
told_keeping h None found a = h
told_keeping h (Some place) None a = h
told_keeping h (Some place) (Some t) a = with_settled h place (settled h.kept (step_of t a))

abbrev pub complete_keeping : HeldJobs → ℕ → BackAnswer → HeldJobs
complete_keeping h number a = told_keeping h (place_of h.works number) (work_of h.works number) a

-- a request is begun
abbrev pub with_begun : HeldJobs → Settled → HeldJobs
with_begun h s = record h { works = h.works ++ s.job ∷ []; kept = s.kept }

abbrev pub start_keeping : HeldJobs → ℕ → RawRequest → HeldJobs
start_keeping h number request = with_begun h (settled h.kept (begun number request h.info.sectors (verdict_of request h.info)))

-- the next mapping that is given up: that of the lowest job that has one in its hand, and then those that are kept, the least recently used first
abbrev pub first_given : HeldJobs → Option Mapping
first_given h = option_or (first_mapping h.works) (least_recent h.kept)

abbrev pub given_from : Option Mapping → HeldJobs → HeldJobs
given_from (Some m) h = record h { works = after_mapping h.works }
given_from None h = record h { works = after_mapping h.works; kept = without_least_recent h.kept }

abbrev pub after_given : HeldJobs → HeldJobs
after_given h = given_from (first_mapping h.works) h

-- all mappings that the jobs have: those in their hands, and those that are kept
abbrev pub all_hands : HeldJobs → List Mapping
all_hands h = hands_in h.works ++ mappings_of h.kept

-- what is kept was mapped for writing too, under its own reference
abbrev pub IsKeepable : ℕ × Mapping → Type 0
IsKeepable e = (e.1.gref ≡ e.0) × (e.1.mode ≡ ReadWrite)

abbrev pub AreKeepable : KeptMappings → Type 0
AreKeepable kept = All IsKeepable kept.entries

-- and so was what may be kept later: the mapping of a segment in a job's hand
abbrev pub IsWritableAt : JobStage → Type 0
IsWritableAt (stage.ReadWord m k) = m.mode ≡ ReadWrite
IsWritableAt (stage.DiskWrite m) = m.mode ≡ ReadWrite
IsWritableAt (stage.DiskRead m) = m.mode ≡ ReadWrite
IsWritableAt (stage.WriteWord m k) = m.mode ≡ ReadWrite
IsWritableAt (stage.Unmap m) = m.mode ≡ ReadWrite
IsWritableAt (stage.Abort m) = m.mode ≡ ReadWrite
IsWritableAt s = Unit {0}

pub record IsKeeping (kept : KeptMappings) (works : List Work) : Type 0 where
  pub keepable : AreKeepable kept
  pub writable : may_keep kept ≡ true → All (λ (t : Work). IsWritableAt t.stage) works

-- a job that comes to a segment maps its frame only where no mapping of its reference is kept
abbrev pub IsNotKept : KeptMappings → List Segment → Type 0
IsNotKept kept [] = Unit {0}
IsNotKept kept (s ∷ rest) = mapping_for kept s.gref ≡ None

abbrev pub MapsUnkept : KeptMappings → Work → Type 0
MapsUnkept kept t = t.stage ≡ stage.Map → IsNotKept kept t.rest
