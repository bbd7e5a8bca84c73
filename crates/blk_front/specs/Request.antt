-- What a request's way says of its data, its grant and its entry, and where its sectors lie (`io/blkif.h`, `grant_table.h`).
use Rattle.std.specs.Prelude.{◌≡◌, ℕ, ◌+◌, ◌-◌, ◌*◌, ◌/◌, ◌%◌, ◌^◌, ◌≤◌, min, Bool, true, false, List, length, map, slice_get, slice_index, slice_index_or, Option, Some, None, if◌then◌else◌, nat_lt}
use Rattle.std.specs.List.{range_with_len}
use Rattle.blk_base.specs.declared.operation.Status.{Status}
use Rattle.blk_base.specs.declared.operation.Status.TheVariants.{Okay}
use Rattle.blk_layout.specs.declared.segment.Segment.{Segment}
use Rattle.blk_layout.specs.Written.{segment_words_of}
use Rattle.blk_front.specs.declared.request.Request.{Request}
use Rattle.blk_front.specs.declared.request.Transfer.{Transfer}
use Rattle.blk_front.specs.declared.request.Transfer.TheVariants.{Read, Write, Barrier, Flush, Discard}

abbrev pub is_write : Transfer → Bool
is_write (Write tag) = true
is_write (Barrier tag) = true
is_write transfer = false

-- the word that fills the first sector of a write or a barrier
abbrev pub tag_of : Transfer → ℕ
tag_of (Write tag) = tag
tag_of (Barrier tag) = tag
tag_of transfer = 0

-- sectors go between frames and the disk
abbrev pub is_moving : Transfer → Bool
is_moving Read = true
is_moving (Write tag) = true
is_moving (Barrier tag) = true
is_moving transfer = false

-- so many sectors of the disk are named by a request that moves `count`: a discard moves none
abbrev pub named_of : Transfer → ℕ → ℕ
named_of (Discard sectors) count = sectors
named_of transfer count = count

-- BLKIF_OP_READ, BLKIF_OP_WRITE, BLKIF_OP_WRITE_BARRIER, BLKIF_OP_FLUSH_DISKCACHE and BLKIF_OP_DISCARD
abbrev pub operation_of : Transfer → ℕ
operation_of Read = 0
operation_of (Write tag) = 1
operation_of (Barrier tag) = 2
operation_of Flush = 3
operation_of (Discard sectors) = 5

-- GTF_permit_access, with GTF_readonly for the frames of a write or a barrier
abbrev pub grant_flags : Transfer → ℕ
grant_flags (Write tag) = 5
grant_flags (Barrier tag) = 5
grant_flags transfer = 1

-- a read that went well has its data told after its answer
abbrev pub has_data : Transfer → Status → Bool
has_data Read Okay = true
has_data transfer status = false

-- so many sectors, eight to a frame, lie in so many frames, which are as many segments
abbrev pub frames_for : ℕ → ℕ
frames_for count = (count + 7) / 8

-- an entry has room for 11 segments (BLKIF_MAX_SEGMENTS_PER_REQUEST); more than those lie in indirect pages, 512 in each
abbrev pub is_indirect : ℕ → Bool
is_indirect count = nat_lt 11 (frames_for count)

abbrev pub pages_for : ℕ → ℕ
pages_for count = if is_indirect count then (frames_for count + 511) / 512 else 0

-- a read or a write may go so
abbrev pub may_be_indirect : Transfer → Bool
may_be_indirect Read = true
may_be_indirect (Write tag) = true
may_be_indirect transfer = false

-- a request of so many words of data: 128 for each sector
abbrev pub words_in : Request → ℕ
words_in r = 128 * r.count

-- its frame of this place; word n of its data is word n % 1024 of frame n / 1024, and of sector n / 128
abbrev pub frame_at : Request → ℕ → ℕ
frame_at r place = slice_index_or r.frames.items place 18

-- sector i of a write or a barrier is 128 words of its tag and i
abbrev pub filling_at : Transfer → ℕ → ℕ
filling_at way n = (tag_of way + n / 128) % 2 ^ 32

abbrev pub no_segment : Segment
no_segment = record { gref = 0; first = 0; last = 0 }

-- the segment of a frame: its sectors from the first on, all eight but in the last frame
abbrev pub segment_in : ℕ → ℕ → Option ℕ → Segment
segment_in count place None = no_segment
segment_in count place (Some frame) = record { gref = frame + 6; first = 0; last = min 7 (count - 1 - 8 * place) }

abbrev pub segment_at : Request → ℕ → Segment
segment_at r place = segment_in r.count place (slice_get r.frames.items place)

-- the segments of its entry, of which the first are its own
abbrev pub segments_of : Request → List Segment
segments_of r = map (segment_at r) (range_with_len 0 11)

-- the frames of its data come first, and then its indirect pages: the flags of the grant entry of the frame of this place, and a page is only read
abbrev pub flags_at : Request → ℕ → ℕ
flags_at r place = if nat_lt place (frames_for r.count) then grant_flags r.transfer else 5

-- its segments take so many words of its indirect pages, two each (struct blkif_request_segment); word n is word n % 1024 of page n / 1024, and of segment n / 2
abbrev pub naming_words : Request → ℕ
naming_words r = 2 * frames_for r.count

abbrev pub page_at : Request → ℕ → ℕ
page_at r page = frame_at r (frames_for r.count + page)

abbrev pub naming_at : Request → ℕ → ℕ
naming_at r n = slice_index (segment_words_of (segment_at r (n / 2))) (n % 2)

-- the references of its indirect pages, of which an entry has eight (BLKIF_MAX_INDIRECT_PAGES_PER_REQUEST); 0 where there is no such page
abbrev pub reference_in : Option ℕ → ℕ
reference_in None = 0
reference_in (Some frame) = frame + 6

abbrev pub page_reference : Request → ℕ → ℕ
page_reference r page = reference_in (slice_get r.frames.items (frames_for r.count + page))

abbrev pub page_references : Request → List ℕ
page_references r = map (page_reference r) (range_with_len 0 8)

-- a read, a write or a barrier moves a sector; a read or a write no more than 960 segments have, and others no more than one entry can name; other requests move none
pub record IsCounted (way : Transfer) (count : ℕ) : Type 0 where
  pub some : is_moving way ≡ true → 1 ≤ count
  pub none : is_moving way ≡ false → count ≡ 0
  pub few : count ≤ 7680
  pub direct : may_be_indirect way ≡ false → count ≤ 88

pub record IsShaped (r : Request) : Type 0 where
  pub counted : IsCounted r.transfer r.count
  pub frames : length r.frames.items ≡ frames_for r.count + pages_for r.count
