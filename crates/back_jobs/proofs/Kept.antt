-- What an answer leaves a job.
use Rattle.std.proofs.Common.{◌≡◌, ℕ, ◌+◌, Bool, true, false, if◌then◌else◌, List, [], ◌∷◌, drop, length, refl, ap, ◌∙◌}
use Rattle.std.specs.Prelude.{Option, Some, None, ◌==◌}
use Rattle.blk_base.specs.declared.parts.Mapping.{Mapping}
use Rattle.blk_base.specs.declared.operation.Status.TheVariants.{Error}
use Rattle.blk_base.specs.declared.ask.BackAnswer.{BackAnswer}
use Rattle.blk_base.specs.declared.ask.BackAnswer.TheVariants as answer
use Rattle.blk_layout.specs.declared.segment.Segment.{Segment}
use Rattle.back_jobs.specs.declared.stage.JobStage.{JobStage}
use Rattle.back_jobs.specs.declared.stage.JobStage.TheVariants as stage
use Rattle.persist_grants.specs.KeptMappings.{KeptMappings, mapping_for}
use Rattle.persist_grants.specs.PutBack.{handed_out, with_mapping}
use Rattle.back_jobs.specs.Keeping.{begun_with, takes, returned, failed_with, settled_at, settled}
use Rattle.back_jobs.specs.Work.{Work, passes, judged, page_done, step_of, step_at, sector_stage, next_sector, next_segment, counted, first_of, rest_of, last_of}

-- its number, its operation, how many segments its entry names, and the disk's size
abbrev pub Facts : Type 0
Facts = ℕ × ℕ × ℕ × ℕ

abbrev pub facts_of : Work → Facts
facts_of t = (t.number, t.op, t.named, t.size)

either_kept : (b : Bool) (x y : Work) (facts : Facts) → facts_of x ≡ facts → facts_of y ≡ facts → facts_of (if b then x else y) ≡ facts
either_kept true x y facts p q = p
either_kept false x y facts p q = q

next_sector_kept : (t : Work) (m : Mapping) → facts_of (next_sector t m) ≡ facts_of t
next_sector_kept t m = either_kept (t.within == last_of t.rest) (record t { stage = stage.Unmap m }) (record t { within = t.within + 1; stage = sector_stage t.writes m }) (facts_of t) refl refl

next_segment_kept : (t : Work) (rest : List Segment) → facts_of (next_segment t rest) ≡ facts_of t
next_segment_kept t [] = refl
next_segment_kept t (s ∷ rest) = refl

judged_kept : (t : Work) → facts_of (judged t) ≡ facts_of t
judged_kept t = either_kept (passes t) (record t { within = first_of t.rest; stage = stage.Map }) (record t { stage = stage.Done Error }) (facts_of t) refl refl

page_done_kept : (t : Work) → facts_of (page_done t) ≡ facts_of t
page_done_kept t = either_kept (length t.rest == t.named) (judged t) (record t { pages = drop 1 t.pages; stage = stage.MapPage }) (facts_of t) (judged_kept t) refl

step_kept_at : (s : JobStage) (t : Work) (given : BackAnswer) → facts_of (step_at s t given) ≡ facts_of t
step_kept_at stage.MapPage t (answer.Mapped m) = refl
step_kept_at stage.MapPage t (answer.MapRefused status) = refl
step_kept_at (stage.PageReference m) t (answer.Word word) = refl
step_kept_at (stage.PageSectors m gref) t (answer.Word word) = refl
step_kept_at (stage.UnmapPage m) t answer.Done = page_done_kept t
step_kept_at stage.Map t (answer.Mapped m) = refl
step_kept_at stage.Map t (answer.MapRefused status) = refl
step_kept_at (stage.ReadWord m k) t (answer.Word word) = refl
step_kept_at (stage.DiskWrite m) t answer.Done = next_sector_kept (counted t) m
step_kept_at (stage.DiskWrite m) t answer.DiskFailed = refl
step_kept_at (stage.DiskRead m) t (answer.Sector words) = refl
step_kept_at (stage.DiskRead m) t answer.DiskFailed = refl
step_kept_at (stage.WriteWord m k) t answer.Done = either_kept (k == 127) (next_sector t m) (record t { stage = stage.WriteWord m (k + 1) }) (facts_of t) (next_sector_kept t m) refl
step_kept_at (stage.Unmap m) t answer.Done = next_segment_kept t (rest_of t.rest)
step_kept_at (stage.Abort m) t answer.Done = refl
step_kept_at stage.Flush t answer.Done = refl
step_kept_at stage.Flush t answer.DiskFailed = refl
step_kept_at (stage.Trim count) t answer.Done = refl
step_kept_at (stage.Trim count) t answer.DiskFailed = refl
step_kept_at s t given = refl

pub step_kept : (t : Work) (given : BackAnswer) → facts_of (step_of t given) ≡ facts_of t
step_kept t given = step_kept_at t.stage t given

-- nor do the mappings that are kept change any of these
begun_kept : (m : Option Mapping) (t : Work) → facts_of (begun_with m t) ≡ facts_of t
begun_kept None t = refl
begun_kept (Some m) t = refl

takes_kept : (kept : KeptMappings) (rest : List Segment) (t : Work) → facts_of (takes kept rest t).job ≡ facts_of t
takes_kept kept [] t = refl
takes_kept kept (s ∷ rest) t = begun_kept (mapping_for kept s.gref) t

returned_kept : (out : Option Mapping) (kept : KeptMappings) (t : Work) → facts_of (returned out kept t).job ≡ facts_of t
returned_kept (Some out) kept t = refl
returned_kept None kept t = takes_kept kept (rest_of t.rest) (next_segment t (rest_of t.rest)) ∙ next_segment_kept t (rest_of t.rest)

failed_kept : (out : Option Mapping) (t : Work) → facts_of (failed_with out t) ≡ facts_of t
failed_kept (Some out) t = refl
failed_kept None t = refl

settled_kept : (s : JobStage) (kept : KeptMappings) (t : Work) → facts_of (settled_at s kept t).job ≡ facts_of t
settled_kept stage.Map kept t = takes_kept kept t.rest t
settled_kept (stage.Unmap m) kept t = returned_kept (handed_out kept m.gref m) (with_mapping kept m.gref m) t
settled_kept (stage.Abort m) kept t = failed_kept (handed_out kept m.gref m) t
settled_kept s kept t = refl

-- what an answer leaves a job, once it settled
pub told_facts : (kept : KeptMappings) (t : Work) (given : BackAnswer) → facts_of (settled kept (step_of t given)).job ≡ facts_of t
told_facts kept t given = settled_kept (step_of t given).stage kept (step_of t given) ∙ step_kept t given

-- a job that begins has those of its entry
pub begun_facts : (kept : KeptMappings) (t : Work) → facts_of (settled kept t).job ≡ facts_of t
begun_facts kept t = settled_kept t.stage kept t

pub step_number : (t : Work) (given : BackAnswer) → (step_of t given).number ≡ t.number
step_number t given = ap (λ (f : Facts). f.0) (step_kept t given)

pub step_op : (t : Work) (given : BackAnswer) → (step_of t given).op ≡ t.op
step_op t given = ap (λ (f : Facts). f.1) (step_kept t given)

pub step_named : (t : Work) (given : BackAnswer) → (step_of t given).named ≡ t.named
step_named t given = ap (λ (f : Facts). f.2) (step_kept t given)

pub step_size : (t : Work) (given : BackAnswer) → (step_of t given).size ≡ t.size
step_size t given = ap (λ (f : Facts). f.3) (step_kept t given)
