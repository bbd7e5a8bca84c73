-- One job as a machine: what it asks, and what an answer makes of it.
use Rattle.std.specs.Prelude.{◌≡◌, ℕ, ◌+◌, ◌*◌, ◌%◌, ◌^◌, Bool, true, false, not, ◌||◌, List, [], ◌∷◌, ◌++◌, length, take, drop, replicate, slice_index, slice_set, if◌then◌else◌, ◌==◌, nat_le, nat_lt}
use Rattle.std.specs.List.{list_any}
use Rattle.blk_base.specs.declared.parts.Mapping.{Mapping}
use Rattle.blk_base.specs.declared.parts.Mode.{Mode}
use Rattle.blk_base.specs.declared.parts.Mode.TheVariants.{ReadOnly, ReadWrite}
use Rattle.blk_base.specs.declared.operation.Status.TheVariants.{Okay, Error, Unsupported}
use Rattle.blk_base.specs.declared.ask.BackAsk.{BackAsk}
use Rattle.blk_base.specs.declared.ask.BackAsk.TheVariants as ask
use Rattle.blk_base.specs.declared.ask.BackAnswer.{BackAnswer}
use Rattle.blk_base.specs.declared.ask.BackAnswer.TheVariants.{Done, Word, Mapped, MapRefused, Sector, DiskFailed}
use Rattle.blk_layout.specs.declared.segment.Segment.{Segment}
use Rattle.blk_layout.specs.declared.request.RawRequest.{RawRequest}
use Rattle.blk_layout.specs.declared.request.RawRequest.TheVariants.{Direct, Discard, Indirect}
use Rattle.blk_layout.specs.Entry.{segment_of}
use Rattle.segment_list.specs.Segments.{fails_test, sectors_of}
use Rattle.segment_list.specs.declared.verdict.Verdict.{Verdict}
use Rattle.segment_list.specs.declared.verdict.Verdict.TheVariants as verdict
use Rattle.back_jobs.specs.declared.stage.JobStage.{JobStage}
use Rattle.back_jobs.specs.declared.stage.JobStage.TheVariants as stage

-- A job: its number; the id and the operation that its response names; whether it writes to the disk; the size of the disk; the disk sector that it comes to next, and how many it moved; the segments that it isn't done with, the present one first (while they are copied from indirect pages, those that were copied); the references of the indirect pages that it isn't done with, the present one first, and how many segments they name; the sector in its frame; the words in hand; what it does.
pub record Work : Type 0 where
  pub number : ℕ
  pub id : ℕ
  pub op : ℕ
  pub writes : Bool
  pub size : ℕ
  pub disk : ℕ
  pub moved : ℕ
  pub rest : List Segment
  pub pages : List ℕ
  pub named : ℕ
  pub within : ℕ
  pub words : List ℕ
  pub stage : JobStage

-- a frame is mapped for reading alone where its words go to the disk
abbrev pub mode_of : Bool → Mode
mode_of true = ReadOnly
mode_of false = ReadWrite

abbrev pub map_in : List Segment → Mode → BackAsk
map_in [] mode = ask.Wait
map_in (s ∷ rest) mode = ask.Map s.gref mode

abbrev pub map_ask : List Segment → Bool → BackAsk
map_ask rest writes = map_in rest (mode_of writes)

-- an indirect page is only read
abbrev pub page_ask : List ℕ → BackAsk
page_ask [] = ask.Wait
page_ask (gref ∷ pages) = ask.Map gref ReadOnly

-- the first or the second word of the segment that is copied next: 512 segments lie in a page, two words each (struct blkif_request_segment)
abbrev pub page_word : Work → ℕ → ℕ
page_word t k = 2 * (length t.rest % 512) + k

-- 128 words a sector
abbrev pub word_at : Work → ℕ → ℕ
word_at t k = t.within * 128 + k

abbrev pub ask_at : JobStage → Work → BackAsk
ask_at stage.MapPage t = page_ask t.pages
ask_at (stage.PageReference m) t = ask.Read m (page_word t 0)
ask_at (stage.PageSectors m gref) t = ask.Read m (page_word t 1)
ask_at (stage.UnmapPage m) t = ask.Unmap m
ask_at stage.Map t = map_ask t.rest t.writes
ask_at (stage.ReadWord m k) t = ask.Read m (word_at t k)
ask_at (stage.DiskWrite m) t = ask.DiskWrite t.disk t.words
ask_at (stage.DiskRead m) t = ask.DiskRead t.disk
ask_at (stage.WriteWord m k) t = ask.Write m (word_at t k) (slice_index t.words k)
ask_at (stage.Unmap m) t = ask.Unmap m
ask_at (stage.Abort m) t = ask.Unmap m
ask_at stage.Flush t = ask.Flush
ask_at (stage.Trim count) t = ask.Trim t.disk count
ask_at (stage.Done status) t = ask.Wait

-- what a job asks
abbrev pub ask_of : Work → BackAsk
ask_of t = ask_at t.stage t

abbrev pub first_of : List Segment → ℕ
first_of [] = 0
first_of (s ∷ rest) = s.first

abbrev pub last_of : List Segment → ℕ
last_of [] = 0
last_of (s ∷ rest) = s.last

abbrev pub rest_of : List Segment → List Segment
rest_of [] = []
rest_of (s ∷ rest) = rest

-- a sector is begun
abbrev pub sector_stage : Bool → Mapping → JobStage
sector_stage true m = stage.ReadWord m 0
sector_stage false m = stage.DiskRead m

-- a sector was moved: the next one of the segment, or none is left in it
abbrev pub next_sector : Work → Mapping → Work
next_sector t m =
    if t.within == last_of t.rest then record t { stage = stage.Unmap m }
    else record t { within = t.within + 1; stage = sector_stage t.writes m }

-- a segment is done: the next one, or all are done
abbrev pub next_segment : Work → List Segment → Work
next_segment t [] = record t { rest = []; stage = stage.Done Okay }
next_segment t (s ∷ rest) = record t { rest = s ∷ rest; within = s.first; stage = stage.Map }

-- a segment was copied whole: the next one is, from the same page; the page is unmapped after the last one of all, and after its own last one
abbrev pub is_copied_out : Work → List Segment → Bool
is_copied_out t segments = (length segments == t.named) || (length segments % 512 == 0)

abbrev pub copied : Work → Mapping → List Segment → Work
copied t m segments = record t { rest = segments; stage = if is_copied_out t segments then stage.UnmapPage m else stage.PageReference m }

-- all segments are copied, and only now they are tested, as those of a READ or a WRITE are: the first one is mapped
abbrev pub passes : Work → Bool
passes t = not (list_any fails_test t.rest || nat_lt t.size (t.disk + sectors_of t.rest))

abbrev pub judged : Work → Work
judged t = if passes t then record t { within = first_of t.rest; stage = stage.Map } else record t { stage = stage.Done Error }

-- a page was unmapped: the next one is mapped, or all segments are copied
abbrev pub page_done : Work → Work
page_done t = if length t.rest == t.named then judged t else record t { pages = drop 1 t.pages; stage = stage.MapPage }

-- the disk took or gave a sector
abbrev pub counted : Work → Work
counted t = record t { disk = t.disk + 1; moved = (t.moved + 1) % 2 ^ 32 }

-- the word of this number is read or written next, through the same mapping
abbrev pub at_word : ℕ → JobStage → JobStage
at_word k (stage.ReadWord m before) = stage.ReadWord m k
at_word k (stage.WriteWord m before) = stage.WriteWord m k
at_word k s = s

abbrev pub step_at : JobStage → Work → BackAnswer → Work
step_at stage.MapPage t (Mapped m) = record t { stage = stage.PageReference m }
step_at stage.MapPage t (MapRefused status) = record t { stage = stage.Done Error }
step_at (stage.PageReference m) t (Word word) = record t { stage = stage.PageSectors m word }
step_at (stage.PageSectors m gref) t (Word word) = copied t m (t.rest ++ segment_of gref word ∷ [])
step_at (stage.UnmapPage m) t Done = page_done t
step_at stage.Map t (Mapped m) = record t { stage = sector_stage t.writes m }
step_at stage.Map t (MapRefused status) = record t { stage = stage.Done Error }
step_at (stage.ReadWord m k) t (Word word) = record t { words = slice_set t.words k word; stage = if k == 127 then stage.DiskWrite m else stage.ReadWord m (k + 1) }
step_at (stage.DiskWrite m) t Done = next_sector (counted t) m
step_at (stage.DiskWrite m) t DiskFailed = record t { stage = stage.Abort m }
step_at (stage.DiskRead m) t (Sector words) = record (counted t) { words = words; stage = stage.WriteWord m 0 }
step_at (stage.DiskRead m) t DiskFailed = record t { stage = stage.Abort m }
step_at (stage.WriteWord m k) t Done = if k == 127 then next_sector t m else record t { stage = stage.WriteWord m (k + 1) }
step_at (stage.Unmap m) t Done = next_segment t (rest_of t.rest)
step_at (stage.Abort m) t Done = record t { stage = stage.Done Error }
step_at stage.Flush t Done = record t { stage = stage.Done Okay }
step_at stage.Flush t DiskFailed = record t { stage = stage.Done Error }
step_at (stage.Trim count) t Done = record t { stage = stage.Done Okay }
step_at (stage.Trim count) t DiskFailed = record t { stage = stage.Done Error }
step_at s t answer = t

-- what an answer makes of a job
abbrev pub step_of : Work → BackAnswer → Work
step_of t answer = step_at t.stage t answer

-- a segment is done, and its frame is unmapped now
abbrev pub IsUnmap : JobStage → Type 0
IsUnmap (stage.Unmap m) = Unit {0}
IsUnmap s = ⊥

-- the job is done
abbrev pub IsDoneStage : JobStage → Type 0
IsDoneStage (stage.Done status) = Unit {0}
IsDoneStage s = ⊥

-- an answer that an ask allows
abbrev pub IsAnswer : BackAsk → BackAnswer → Type 0
IsAnswer (ask.Map gref mode) (Mapped m) = (m.gref ≡ gref) × (m.mode ≡ mode)
IsAnswer (ask.Map gref mode) (MapRefused status) = Unit {0}
IsAnswer (ask.Read m word) (Word value) = Unit {0}
IsAnswer (ask.Write m word value) Done = Unit {0}
IsAnswer (ask.Unmap m) Done = Unit {0}
IsAnswer (ask.DiskRead sector) (Sector words) = Unit {0}
IsAnswer (ask.DiskRead sector) DiskFailed = Unit {0}
IsAnswer (ask.DiskWrite sector words) Done = Unit {0}
IsAnswer (ask.DiskWrite sector words) DiskFailed = Unit {0}
IsAnswer ask.Flush Done = Unit {0}
IsAnswer ask.Flush DiskFailed = Unit {0}
IsAnswer (ask.Trim sector count) Done = Unit {0}
IsAnswer (ask.Trim sector count) DiskFailed = Unit {0}
IsAnswer a answer = ⊥

-- the id and the operation that a response names: the entry's first byte, or the inner operation of an INDIRECT
abbrev pub id_of : RawRequest → ℕ
id_of (Direct op count device id sector segments) = id
id_of (Discard flag device id sector count) = id
id_of (Indirect op count device id sector pages) = id

abbrev pub response_op : RawRequest → ℕ
response_op (Direct op count device id sector segments) = op
response_op (Discard flag device id sector count) = 5
response_op (Indirect op count device id sector pages) = op

-- a job that moves no sectors between frames and the disk: one that flushes or trims, or is done before it began
abbrev pub frameless : ℕ → RawRequest → ℕ → ℕ → JobStage → Work
frameless number request size sector s = record {
  number = number;
  id = id_of request;
  op = response_op request;
  writes = false;
  size = size;
  disk = sector;
  moved = 0;
  rest = [];
  pages = [];
  named = 0;
  within = 0;
  words = replicate 128 0;
  stage = s;
}

abbrev pub ended : ℕ → RawRequest → ℕ → JobStage → Work
ended number request size s = frameless number request size 0 s

-- a job that reads or writes these segments
abbrev pub moving : ℕ → RawRequest → ℕ → Bool → ℕ → List Segment → Work
moving number request size writes sector segments = record {
  number = number;
  id = id_of request;
  op = response_op request;
  writes = writes;
  size = size;
  disk = sector;
  moved = 0;
  rest = segments;
  pages = [];
  named = 0;
  within = first_of segments;
  words = replicate 128 0;
  stage = stage.Map;
}

-- a job that reads or writes the segments that these pages name, once they are copied
abbrev pub paging : ℕ → RawRequest → ℕ → Bool → ℕ → ℕ → List ℕ → Work
paging number request size writes sector count pages = record {
  number = number;
  id = id_of request;
  op = response_op request;
  writes = writes;
  size = size;
  disk = sector;
  moved = 0;
  rest = [];
  pages = pages;
  named = count;
  within = 0;
  words = replicate 128 0;
  stage = stage.MapPage;
}

-- there is room for the segments of 960 frames
abbrev pub served_paged : ℕ → RawRequest → ℕ → (writes : Bool) → (sector count : ℕ) → List ℕ → Work
served_paged number request size writes sector count pages =
    if nat_le count 960 then paging number request size writes sector count pages
    else ended number request size (stage.Done Error)

abbrev pub served_indirect : ℕ → RawRequest → ℕ → (op sector count : ℕ) → List ℕ → Work
served_indirect number request size op sector count pages = served_paged number request size (not (op == 0)) sector count pages

-- a served request: of READ (0), WRITE (1) and WRITE_BARRIER (2) the segments are moved; FLUSH_DISKCACHE (3) flushes the disk and DISCARD trims its sectors; of INDIRECT the segments are copied from its pages first
abbrev pub served_direct : ℕ → RawRequest → ℕ → ℕ → ℕ → List Segment → Work
served_direct number request size op sector segments =
    if nat_le op 2 then moving number request size (not (op == 0)) sector segments
    else (if op == 3 then frameless number request size sector stage.Flush
    else ended number request size (stage.Done Error))

abbrev pub served : ℕ → RawRequest → ℕ → Work
served number (Direct op count device id sector segments) size = served_direct number (Direct op count device id sector segments) size op sector (take count segments)
served number (Discard flag device id sector count) size = frameless number (Discard flag device id sector count) size sector (stage.Trim count)
served number (Indirect op count device id sector pages) size = served_indirect number (Indirect op count device id sector pages) size op sector count pages

-- the job of a request with this verdict
abbrev pub begun : ℕ → RawRequest → ℕ → Verdict → Work
begun number request size (verdict.Serve plan) = served number request size
begun number request size (verdict.Error why) = ended number request size (stage.Done Error)
begun number request size verdict.Unsupported = ended number request size (stage.Done Unsupported)
