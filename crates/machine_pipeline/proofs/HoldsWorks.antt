-- What holds of the jobs of the back: at which segment, page and stage each is, and that none overtakes another.
use Rattle.std.specs.Prelude.{◌≡◌, ℕ, ◌+◌, ◌-◌, ◌*◌, ◌%◌, ◌^◌, ◌<◌, ◌≤◌, ◌⊎◌, min, Bool, true, false, List, length, take, drop, replicate, slice_get, slice_index, Some, All, AllPairs, if◌then◌else◌, nat_lt}
use Rattle.blk_base.specs.declared.parts.Mapping.{Mapping}
use Rattle.blk_layout.specs.declared.segment.Segment.{Segment}
use Rattle.blk_front.specs.declared.request.Request.{Request}
use Rattle.blk_front.specs.declared.request.Transfer.TheVariants as transfer
use Rattle.blk_front.specs.Request.{is_write, is_indirect, tag_of, operation_of, frames_for, pages_for, page_references, segment_at, frame_at}
use Rattle.back_jobs.specs.declared.stage.JobStage.{JobStage}
use Rattle.back_jobs.specs.declared.stage.JobStage.TheVariants as job
use Rattle.back_jobs.specs.Work.{Work, mode_of}
use Rattle.back_jobs.specs.Jobs.{is_done, is_fresh_at, is_held, holds_barriers, holds_all}
use Rattle.machine_pipeline.proofs.Flow.{own_segments}

-- the last sector of its frame of this place
abbrev pub last_in : Request → ℕ → ℕ
last_in r place = min 7 (r.count - 1 - 8 * place)

-- a job is at the segment of this place: `ahead` is 1 where its sector wasn't moved yet, and 0 where it was
pub record IsPlaced (writing : Bool) (left : List Segment) (inner count sector : ℕ) (read : List ℕ) (r : Request) (ahead : ℕ) : Type 0 where
  pub place : ℕ
  pub here : place < frames_for r.count
  pub writes : writing ≡ is_write r.transfer
  pub rest : left ≡ drop place (own_segments r)
  pub within : inner ≤ last_in r place
  pub moved : count + ahead ≡ 8 * place + inner + 1
  pub disk : sector ≡ r.sector + count
  pub words : length read ≡ 128

abbrev pub IsInSegment : Work → Request → ℕ → Type 0
IsInSegment t r ahead = IsPlaced t.writes t.rest t.within t.moved t.disk t.words r ahead

-- a job that moves a sector of a request next, or that read one and writes its words to the frame
abbrev pub IsMoving : Work → Request → Type 0
IsMoving t r = IsInSegment t r 1

abbrev pub IsReturning : Work → Request → Type 0
IsReturning t r = IsInSegment t r 0

-- the frame of this place is only read: one of a write's data, or an indirect page
abbrev pub is_only_read : Request → ℕ → Bool
is_only_read r place = if nat_lt place (frames_for r.count) then is_write r.transfer else true

-- a mapping of the request's frame of this place, for reading alone where it is only read
pub record IsHand (m : Mapping) (r : Request) (place : ℕ) : Type 0 where
  pub gref : m.gref ≡ frame_at r place + 6
  pub mode : m.mode ≡ mode_of (is_only_read r place)

-- a job copies the segments of its request from this page, those of the pages before it are copied; it has moved nothing, and the sectors lie on its disk
pub record AreCopied (writing : Bool) (count : ℕ) (copied : List Segment) (references : List ℕ) (done sector size : ℕ) (read : List ℕ) (r : Request) (page : ℕ) : Type 0 where
  pub here : page < pages_for r.count
  pub large : is_indirect r.count ≡ true
  pub writes : writing ≡ is_write r.transfer
  pub named : count ≡ frames_for r.count
  pub rest : copied ≡ take (length copied) (own_segments r)
  pub few : length copied ≤ frames_for r.count
  pub pages : references ≡ drop page (page_references r)
  pub moved : done ≡ 0
  pub disk : sector ≡ r.sector
  pub fits : r.sector + r.count ≤ size
  pub words : length read ≡ 128

abbrev pub IsCopying : Work → Request → (page : ℕ) → Type 0
IsCopying t r page = AreCopied t.writes t.named t.rest t.pages t.moved t.disk t.size t.words r page

-- so many of this page's segments are left to be copied that one is
pub record IsInPage (t : Work) (r : Request) (m : Mapping) : Type 0 where
  pub page : ℕ
  pub copies : IsCopying t r page
  pub hand : IsHand m r (frames_for r.count + page)
  pub from : 512 * page ≤ length t.rest
  pub to : length t.rest < 512 * (page + 1)
  pub left : length t.rest < frames_for r.count

-- the page is unmapped: its last segment was copied, or that of all
pub record IsThroughPage (t : Work) (r : Request) (m : Mapping) : Type 0 where
  pub page : ℕ
  pub copies : IsCopying t r page
  pub hand : IsHand m r (frames_for r.count + page)
  pub through : (length t.rest ≡ frames_for r.count) ⊎ (length t.rest ≡ 512 * (page + 1))

-- the word that fills the sector that is moved next
abbrev pub sector_word : Request → Work → ℕ
sector_word r t = (tag_of r.transfer + t.moved) % 2 ^ 32

-- a job that flushes or trims has moved nothing
abbrev pub AtWork : Request → Work → JobStage → Type 0
AtWork r t job.MapPage = (page : ℕ) × IsCopying t r page × (length t.rest ≡ 512 * page) × (length t.rest < frames_for r.count)
AtWork r t (job.PageReference m) = IsInPage t r m
AtWork r t (job.PageSectors m gref) = (x : IsInPage t r m) × ((let s : Segment = segment_at r (length t.rest) in s.gref) ≡ gref)
AtWork r t (job.UnmapPage m) = IsThroughPage t r m
AtWork r t job.Map = (x : IsMoving t r) × (t.within ≡ 0)
AtWork r t (job.ReadWord m j) = (x : IsMoving t r) × IsHand m r x.place × (j < 128) × (is_write r.transfer ≡ true) × ((i : ℕ) → i < j → slice_index t.words i ≡ sector_word r t)
AtWork r t (job.DiskWrite m) = (x : IsMoving t r) × IsHand m r x.place × (is_write r.transfer ≡ true) × (t.words ≡ replicate 128 (sector_word r t))
AtWork r t (job.DiskRead m) = (x : IsMoving t r) × IsHand m r x.place × (is_write r.transfer ≡ false)
AtWork r t (job.WriteWord m j) = (x : IsReturning t r) × IsHand m r x.place × (j < 128) × (is_write r.transfer ≡ false)
AtWork r t (job.Unmap m) = (x : IsReturning t r) × IsHand m r x.place × (t.within ≡ last_in r x.place)
AtWork r t (job.Abort m) = (place : ℕ) × (place < frames_for r.count) × IsHand m r place
AtWork r t job.Flush = (r.transfer ≡ transfer.Flush) × (t.moved ≡ 0)
AtWork r t (job.Trim count) = (r.transfer ≡ transfer.Discard count) × (t.moved ≡ 0) × (t.disk ≡ r.sector)
AtWork r t (job.Done status) = Unit {0}

-- a job that has begun its work waits for none that was fetched before it
abbrev pub IsUnhindered : (before t : Work) → Type 0
IsUnhindered before t = is_done t ≡ false → is_fresh_at t.stage t.moved ≡ false → is_held t (holds_barriers before) (holds_all before) ≡ false

-- the job of a fetched request, as far as its stage says: its number counts the entries of this epoch, and its id is the request's number
pub record IsWork (submitted series : List Request) (fetched : ℕ) (t : Work) : Type 0 where
  pub r : Request
  pub known : slice_get submitted (t.id - 1) ≡ Some r
  pub positive : 1 ≤ t.id
  pub issued : slice_get series (t.number - 1) ≡ Some r
  pub counted : 1 ≤ t.number
  pub reached : t.number ≤ fetched
  pub op : t.op ≡ operation_of r.transfer
  pub at : AtWork r t t.stage

pub record AreWorks (submitted series : List Request) (fetched : ℕ) (works : List Work) : Type 0 where
  pub each : All (IsWork submitted series fetched) works
  pub ascending : AllPairs (λ (t u : Work). t.id < u.id) works
  pub clear : AllPairs IsUnhindered works
