-- Requests and the words of their entries (`io/blkif.h`: struct blkif_request, blkif_request_discard, blkif_request_indirect, blkif_request_segment).
use Rattle.std.specs.Prelude.{ℕ, zero, suc, ◌+◌, ◌*◌, ◌/◌, ◌%◌, ◌^◌, List, [], ◌∷◌, ◌++◌, slice_index, if◌then◌else◌, ◌==◌}
use Rattle.blk_base.specs.declared.operation.Abi.{Abi}
use Rattle.blk_layout.specs.declared.segment.Segment.{Segment}
use Rattle.blk_layout.specs.declared.request.DirectOp.{DirectOp}
use Rattle.blk_layout.specs.declared.request.DirectOp.TheVariants.{Read, Write, Barrier, Flush}
use Rattle.blk_layout.specs.declared.request.IndirectOp.{IndirectOp}
use Rattle.blk_layout.specs.declared.request.IndirectOp.TheVariants.{Read as InnerRead, Write as InnerWrite}
use Rattle.blk_layout.specs.declared.request.WrittenRequest.{WrittenRequest}
use Rattle.blk_layout.specs.declared.request.WrittenRequest.TheVariants.{Direct as DirectRequest, Discard as DiscardRequest, Indirect as IndirectRequest}
use Rattle.blk_layout.specs.declared.request.RawRequest.{RawRequest}
use Rattle.blk_layout.specs.declared.request.RawRequest.TheVariants.{Direct, Discard, Indirect}
use Rattle.blk_layout.specs.Field.{Field, bits, two_words, written_from}
use Rattle.blk_layout.specs.declared.places.Places.{Places}
use Rattle.blk_layout.specs.Places.{places_of}

-- BLKIF_OP_READ, _WRITE, _WRITE_BARRIER and _FLUSH_DISKCACHE
abbrev pub direct_code : DirectOp → ℕ
direct_code Read = 0
direct_code Write = 1
direct_code Barrier = 2
direct_code Flush = 3

abbrev pub indirect_code : IndirectOp → ℕ
indirect_code InnerRead = 0
indirect_code InnerWrite = 1

-- the fields of a request
abbrev pub raw_of : WrittenRequest → RawRequest
raw_of (DirectRequest op count device id sector segments) = Direct (direct_code op) count device id sector segments
raw_of (DiscardRequest flag device id sector count) = Discard flag device id sector count
raw_of (IndirectRequest op count device id sector pages) = Indirect (indirect_code op) count device id sector pages

-- a segment: the reference in its first word, then the first and the last sector in the low bytes of its second
abbrev pub segment_fields : ℕ → Segment → List Field
segment_fields word s = bits word 0 32 s.gref ∷ bits (word + 1) 0 8 s.first ∷ bits (word + 1) 8 8 s.last ∷ []

abbrev pub segments_fields : ℕ → List Segment → List Field
segments_fields word [] = []
segments_fields word (s ∷ segments) = segment_fields word s ++ segments_fields (word + 2) segments

abbrev pub pages_fields : ℕ → List ℕ → List Field
pages_fields word [] = []
pages_fields word (gref ∷ pages) = bits word 0 32 gref ∷ pages_fields (word + 1) pages

-- the table of an entry's fields
abbrev pub fields_at : Places → RawRequest → List Field
fields_at at (Direct op count device id sector segments) =
    bits 0 0 8 op ∷ bits 0 8 8 count ∷ bits 0 16 16 device ∷ two_words at.id id ++ two_words at.sector sector ++ segments_fields at.segments segments
fields_at at (Discard flag device id sector count) =
    bits 0 0 8 5 ∷ bits 0 8 8 flag ∷ bits 0 16 16 device ∷ two_words at.id id ++ two_words at.sector sector ++ two_words at.discard_count count
fields_at at (Indirect op count device id sector pages) =
    bits 0 0 8 6 ∷ bits 0 8 8 op ∷ bits 0 16 16 count ∷ two_words at.id id ++ two_words at.sector sector ++ bits at.indirect_device 0 16 device ∷ pages_fields at.pages pages

abbrev pub fields_of : Abi → RawRequest → List Field
fields_of abi raw = fields_at (places_of abi) raw

-- the words of a written entry
unfoldable pub words_of : Abi → RawRequest → List ℕ
words_of abi raw = written_from (fields_of abi raw) 0 (places_of abi).end

-- a field of 64 bits as two words hold it
abbrev pub double_at : List ℕ → ℕ → ℕ
double_at words at = slice_index words at + slice_index words (at + 1) * 2 ^ 32

-- a segment as two words hold it, whatever else the second one holds
abbrev pub segment_of : ℕ → ℕ → Segment
segment_of gref sectors = record { gref = gref; first = sectors % 2 ^ 8; last = sectors / 2 ^ 8 % 2 ^ 8 }

unfoldable pub segments_at : List ℕ → ℕ → ℕ → List Segment
segments_at words at zero = []
segments_at words at (suc count) = segment_of (slice_index words at) (slice_index words (at + 1)) ∷ segments_at words (at + 2) count

unfoldable pub pages_at : List ℕ → ℕ → ℕ → List ℕ
pages_at words at zero = []
pages_at words at (suc count) = slice_index words at ∷ pages_at words (at + 1) count

-- what any words of an entry are read as, by the byte of the operation
abbrev pub read_at : Places → List ℕ → RawRequest
read_at at words =
    let op = slice_index words 0 % 2 ^ 8 in
    let second = slice_index words 0 / 2 ^ 8 % 2 ^ 8 in
    let third = slice_index words 0 / 2 ^ 16 % 2 ^ 16 in
    let id = double_at words at.id in
    let sector = double_at words at.sector in
    if op == 5 then Discard second third id sector (double_at words at.discard_count)
    else (if op == 6 then Indirect second third (slice_index words at.indirect_device % 2 ^ 16) id sector (pages_at words at.pages 8)
    else Direct op second third id sector (segments_at words at.segments 11))

unfoldable pub request_of : Abi → List ℕ → RawRequest
request_of abi words = read_at (places_of abi) words
