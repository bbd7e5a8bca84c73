-- How far the job of an indirect request is in copying its segments, by its stage: the words that it read are those of its segments, and its work so far is to read its pages.
use Rattle.std.proofs.Common.{◌≡◌, ℕ, ◌+◌, ◌-◌, ◌*◌, ◌<◌, ◌≤◌, true, false, if◌then◌else◌, List, [], ◌∷◌, ◌++◌, length, count_by, drop, ap, ◌∙◌}
use Rattle.std.specs.Prelude.{slice_get, Option, Some, None}
use Rattle.blk_base.specs.declared.parts.Mapping.{Mapping}
use Rattle.schedule_text.specs.declared.line.Line.{Line}
use Rattle.blk_layout.specs.declared.segment.Segment.{Segment}
use Rattle.blk_layout.specs.declared.request.RawRequest.{RawRequest}
use Rattle.blk_layout.specs.declared.request.RawRequest.TheVariants.{Indirect}
use Rattle.blk_layout.specs.Entry.{segments_at}
use Rattle.segment_list.specs.declared.verdict.DiskInfo.{DiskInfo}
use Rattle.segment_list.specs.declared.verdict.Plan.{Plan}
use Rattle.segment_list.specs.declared.verdict.Verdict.{Verdict}
use Rattle.segment_list.specs.declared.verdict.Verdict.TheVariants as verdict
use Rattle.segment_list.specs.Verdict.{verdict_of, finished_verdict}
use Rattle.report_rules.specs.declared.work.Task.{Task}
use Rattle.report_rules.specs.Work.{pages_of, planned_tasks, served_tasks, settled, are_read, indirect_tasks, work_tasks, work_verdict}
use Rattle.report_rules.specs.Walk.{spot, walk_of}
use Rattle.report_rules.specs.Steps.{failed_in}
use Rattle.back_jobs.specs.declared.stage.JobStage.{JobStage}
use Rattle.back_jobs.specs.declared.stage.JobStage.TheVariants as stage
use Rattle.back_jobs.specs.Work.{Work, is_copied_out}
use Rattle.ring_laws.proofs.JobLines.{is_disk_of, IsAside, read_by, read_aside, walk_aside, moves_aside, failed_aside}
use Rattle.ring_laws.proofs.Places.{tasks_of}

-- an indirect request that passed the first tests: as many segments as the job has room for, to be moved as those of a read or a write
pub record IsIndirect (request : RawRequest) (info : DiskInfo) (t : Work) (pages : List ℕ) : Type 0 where
  pub op : ℕ
  pub device : ℕ
  pub id : ℕ
  pub request_is : request ≡ Indirect op t.named device id t.disk pages
  pub plan : Plan
  pub served : verdict_of (Indirect op t.named device id t.disk pages) info ≡ verdict.Serve plan
  pub sector : plan.sector ≡ t.disk
  pub work : (segments : List Segment) → planned_tasks false plan plan.kind segments ≡ tasks_of t.writes t.disk segments
  pub size : t.size ≡ info.sectors
  pub moved : t.moved ≡ 0
  pub few : t.named ≤ 960

-- the work after the pages, once all segments are read
abbrev pub after_pages : Plan → ℕ → List ℕ → DiskInfo → List Task
after_pages plan count words info = if are_read count words then served_tasks false (finished_verdict plan (segments_at words 0 count) info) (segments_at words 0 count) else []

abbrev pub verdict_by : Plan → ℕ → List ℕ → DiskInfo → Verdict
verdict_by plan count words info = if are_read count words then finished_verdict plan (segments_at words 0 count) info else verdict.Serve plan

pub indirect_work : (request : RawRequest) (info : DiskInfo) (t : Work) (pages words : List ℕ) (i : IsIndirect request info t pages) → work_tasks request info false words ≡ pages_of t.named pages ++ after_pages i.plan t.named words info
indirect_work request info t pages words i =
    ap (λ (r : RawRequest). work_tasks r info false words) i.request_is ∙ ap (λ (v : Verdict). indirect_tasks false v t.named pages words info) i.served

pub indirect_verdict : (request : RawRequest) (info : DiskInfo) (t : Work) (pages words : List ℕ) (i : IsIndirect request info t pages) → work_verdict request info words ≡ verdict_by i.plan t.named words info
indirect_verdict request info t pages words i =
    ap (λ (r : RawRequest). work_verdict r info words) i.request_is ∙ ap (λ (v : Verdict). settled v t.named words info) i.served

-- it read the words of the segments that it copied, and these; its pages from this one on aren't unmapped yet
pub record Copies (request : RawRequest) (info : DiskInfo) (k : ℕ) (epoch : List Line) (t : Work) (pages : List ℕ) (page done place : ℕ) (mapping : Option ℕ) (held : List ℕ) : Type 0 where
  pub is : IsIndirect request info t pages
  pub words : List ℕ
  pub read : read_by k epoch ≡ words ++ held
  pub long : length words ≡ 2 * length t.rest
  pub copied : t.rest ≡ segments_at words 0 (length t.rest)
  pub left : t.pages ≡ drop page pages
  pub came : walk_of false (pages_of t.named pages) k epoch ≡ Some (spot done place false mapping)
  pub counted : count_by (is_disk_of k) epoch ≡ 0
  pub whole : failed_in k epoch ≡ false

-- it maps the next page
pub record MapsPage (request : RawRequest) (info : DiskInfo) (k : ℕ) (epoch : List Line) (t : Work) : Type 0 where
  pub pages : List ℕ
  pub page : ℕ
  pub copies : Copies request info k epoch t pages page page 0 None []
  pub at : length t.rest ≡ 512 * page
  pub more : length t.rest < t.named

-- it is in a page, which has a segment that isn't copied yet
pub record InPage (request : RawRequest) (info : DiskInfo) (k : ℕ) (epoch : List Line) (t : Work) (m : Mapping) (held : List ℕ) : Type 0 where
  pub pages : List ℕ
  pub page : ℕ
  pub gref : ℕ
  pub named : slice_get pages page ≡ Some gref
  pub copies : Copies request info k epoch t pages page page (1 + (2 * (length t.rest - 512 * page) + length held)) (Some m.number) held
  pub from : 512 * page ≤ length t.rest
  pub below : length t.rest < 512 * (page + 1)
  pub more : length t.rest < t.named

-- it unmaps a page, of which it read all
pub record LeavesPage (request : RawRequest) (info : DiskInfo) (k : ℕ) (epoch : List Line) (t : Work) : Type 0 where
  pub pages : List ℕ
  pub page : ℕ
  pub gref : ℕ
  pub named : slice_get pages page ≡ Some gref
  pub copies : Copies request info k epoch t pages page (page + 1) 0 None []
  pub from : 512 * page < length t.rest
  pub below : length t.rest ≤ 512 * (page + 1)
  pub most : length t.rest ≤ t.named
  pub out : is_copied_out t t.rest ≡ true

abbrev pub IsCopying : RawRequest → DiskInfo → ℕ → List Line → JobStage → Work → Type 0
IsCopying request info k epoch stage.MapPage t = MapsPage request info k epoch t
IsCopying request info k epoch (stage.PageReference m) t = InPage request info k epoch t m []
IsCopying request info k epoch (stage.PageSectors m gref) t = InPage request info k epoch t m (gref ∷ [])
IsCopying request info k epoch (stage.UnmapPage m) t = LeavesPage request info k epoch t
IsCopying request info k epoch s t = ⊥

-- others' lines leave it
pub copies_aside : (request : RawRequest) (info : DiskInfo) (k : ℕ) (epoch ys : List Line) (t : Work) (pages : List ℕ) (page done place : ℕ) (mapping : Option ℕ) (held : List ℕ) → IsAside k ys → Copies request info k epoch t pages page done place mapping held → Copies request info k (epoch ++ ys) t pages page done place mapping held
copies_aside request info k epoch ys t pages page done place mapping held aside c = record {
  is = c.is;
  words = c.words;
  read = read_aside k epoch ys aside.none ∙ c.read;
  long = c.long;
  copied = c.copied;
  left = c.left;
  came = walk_aside (pages_of t.named pages) k epoch ys aside.none ∙ c.came;
  counted = moves_aside k epoch ys aside.none ∙ c.counted;
  whole = failed_aside k epoch ys aside c.whole;
}

in_aside : (request : RawRequest) (info : DiskInfo) (k : ℕ) (epoch ys : List Line) (t : Work) (m : Mapping) (held : List ℕ) → IsAside k ys → InPage request info k epoch t m held → InPage request info k (epoch ++ ys) t m held
in_aside request info k epoch ys t m held aside p = record {
  pages = p.pages;
  page = p.page;
  gref = p.gref;
  named = p.named;
  copies = copies_aside request info k epoch ys t p.pages p.page p.page (1 + (2 * (length t.rest - 512 * p.page) + length held)) (Some m.number) held aside p.copies;
  from = p.from;
  below = p.below;
  more = p.more;
}

pub copying_aside : (request : RawRequest) (info : DiskInfo) (k : ℕ) (epoch ys : List Line) (s : JobStage) (t : Work) → IsAside k ys → IsCopying request info k epoch s t → IsCopying request info k (epoch ++ ys) s t
copying_aside request info k epoch ys stage.MapPage t aside p = record { pages = p.pages; page = p.page; copies = copies_aside request info k epoch ys t p.pages p.page p.page 0 None [] aside p.copies; at = p.at; more = p.more }
copying_aside request info k epoch ys (stage.PageReference m) t aside p = in_aside request info k epoch ys t m [] aside p
copying_aside request info k epoch ys (stage.PageSectors m gref) t aside p = in_aside request info k epoch ys t m (gref ∷ []) aside p
copying_aside request info k epoch ys (stage.UnmapPage m) t aside p = record {
  pages = p.pages;
  page = p.page;
  gref = p.gref;
  named = p.named;
  copies = copies_aside request info k epoch ys t p.pages p.page (p.page + 1) 0 None [] aside p.copies;
  from = p.from;
  below = p.below;
  most = p.most;
  out = p.out;
}
copying_aside request info k epoch ys s t aside p = absurd p
