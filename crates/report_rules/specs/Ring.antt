-- Which memory is the ring, and the indices that the back was shown and wrote there (`io/ring.h`: req_prod is word 0 of the first page, rsp_prod word 2, and entries begin at word 16).
use Rattle.std.specs.Prelude.{ℕ, ◌+◌, ◌*◌, Bool, ◌&&◌, ◌==◌, if◌then◌else◌, List, [], ◌∷◌, length, fold, slice_get, codes, Option, Some, None, is_some, unwrap_or}
use Rattle.std.specs.List.{filter_map}
use Rattle.std.specs.Str.{bytes_eq}
use Rattle.ring_words.specs.Shape.{Shape}
use Rattle.blk_base.specs.declared.operation.Abi.{Abi}
use Rattle.blk_base.specs.declared.operation.Abi.TheVariants.{X64, X32}
use Rattle.blk_base.specs.declared.moves.Mover.TheVariants as mover
use Rattle.blk_base.specs.declared.moves.BackMover.TheVariants as back
use Rattle.blk_base.specs.declared.moves.Move.TheVariants as moves
use Rattle.schedule_text.specs.declared.line.Line.{Line}
use Rattle.schedule_text.specs.declared.line.Line.TheVariants as lines
use Rattle.report_rules.specs.declared.standing.Standing.{Standing}
use Rattle.report_rules.specs.Standing.{this_epoch, has_number}

-- a page of the ring: a mapping that the back made itself, and not a job
abbrev pub page_made : Line → Option Standing
page_made (lines.Move (moves.Map back.Back gref mode number frame)) = Some (record { number = number; gref = gref; mode = mode; frame = frame })
page_made line = None

-- the pages of the ring in this epoch, page 0 first
abbrev pub ring_pages : List Line → List Standing
ring_pages before = filter_map page_made (this_epoch before)

-- so many pages are 2 ^ order of them, with order at most 4
abbrev pub order_of : ℕ → Option ℕ
order_of pages =
    if pages == 1 then Some 0
    else (if pages == 2 then Some 1
    else (if pages == 4 then Some 2
    else (if pages == 8 then Some 3
    else (if pages == 16 then Some 4
    else None))))

-- the order of the ring in this epoch, where its pages have one
abbrev pub ring_order : List Line → Option ℕ
ring_order before = order_of (length (ring_pages before))

-- this mapping is page 0 of the ring
abbrev pub is_first_page : List Line → ℕ → Bool
is_first_page before number = has_number number (slice_get (ring_pages before) 0)

-- the index at which a line lets rings start
abbrev pub start_told : ℕ → Line → ℕ
start_told start (lines.Begin options detail) = options.start
start_told start line = start

abbrev pub start_of : List Line → ℕ
start_of before = fold start_told 0 before

-- the back read req_prod: what it was shown
abbrev pub produced_shown : List Line → Line → Option ℕ
produced_shown before (lines.Move (moves.Read back.Back number frame word value)) = if is_first_page before number && (word == 0) then Some value else None
produced_shown before line = None

-- rsp_prod after a line, where these lines tell which page is the first
abbrev pub replied_after : List Line → ℕ → Line → ℕ
replied_after before replied (lines.Move (moves.Write back.Back number frame word value)) = if is_first_page before number && (word == 2) then value else replied
replied_after before replied line = replied

-- rsp_prod as the back wrote it last in this epoch, or the start
abbrev pub replied_before : List Line → ℕ
replied_before before = fold (replied_after before) (start_of before) (this_epoch before)

-- req_prod after a line
abbrev pub produced_after : List Line → ℕ → Line → ℕ
produced_after before produced line = unwrap_or (produced_shown before line) produced

-- req_prod as the back was shown it last in this epoch, or the start
abbrev pub produced_before : List Line → ℕ
produced_before before = fold (produced_after before) (start_of before) (this_epoch before)

-- the place of a mapping among these pages, of which the first has place k
abbrev pub page_from : ℕ → ℕ → List Standing → Option ℕ
page_from k number [] = None
page_from k number (page ∷ pages) = if page.number == number then Some k else page_from (k + 1) number pages

-- this mapping is a page of the ring
abbrev pub is_page : List Line → ℕ → Bool
is_page before number = is_some (page_from 0 number (ring_pages before))

-- a word of a page as a word of the ring: its pages run on from one to the next
abbrev pub word_in : Option ℕ → ℕ → Option ℕ
word_in None word = None
word_in (Some page) word = Some (1024 * page + word)

-- the word of the ring that a word of a mapping is, if the mapping is a page of the ring
abbrev pub ring_word : List Line → ℕ → ℕ → Option ℕ
ring_word before number word = word_in (page_from 0 number (ring_pages before)) word

abbrev pub is_protocol : List ℕ → Bool
is_protocol path = bytes_eq path (codes "/local/domain/1/device/vbd/51712/protocol")

-- the layout that the front's key `protocol` names (`io/blkif.h`, XEN_IO_PROTO_ABI_*): x86_64 where there is no such key
abbrev pub abi_named : Option (List ℕ) → Option Abi
abi_named None = Some X64
abi_named (Some text) =
    if bytes_eq text (codes "x86_64-abi") then Some X64
    else (if bytes_eq text (codes "x86_32-abi") then Some X32
    else None)

abbrev pub abi_after : Option Abi → Line → Option Abi
abi_after abi (lines.Move (moves.GetKey mover.Back path text)) = if is_protocol path then abi_named text else abi
abi_after abi line = abi

-- the layout of entries, by the protocol that the back read last in this epoch
abbrev pub ring_abi : List Line → Option Abi
ring_abi before = fold abi_after (Some X64) (this_epoch before)

abbrev pub shape_of : Option Abi → Option ℕ → Option Shape
shape_of (Some abi) (Some order) = Some (record { abi = abi; order = order })
shape_of abi order = None

-- the shape of the ring in this epoch, where it has one
abbrev pub ring_shape : List Line → Option Shape
ring_shape before = shape_of (ring_abi before) (ring_order before)
