-- The entry of a request (`io/blkif.h`).
use Rattle.std.specs.Prelude.{ℕ, List, if◌then◌else◌}
use Rattle.blk_base.specs.declared.operation.Abi.{Abi}
use Rattle.blk_layout.specs.declared.request.RawRequest.{RawRequest}
use Rattle.blk_layout.specs.declared.request.RawRequest.TheVariants.{Direct, Discard, Indirect}
use Rattle.blk_layout.specs.Entry.{words_of}
use Rattle.blk_front.specs.declared.request.Request.{Request}
use Rattle.blk_front.specs.declared.request.Transfer.{Transfer}
use Rattle.blk_front.specs.declared.request.Transfer.TheVariants as transfer
use Rattle.blk_front.specs.Request.{operation_of, frames_for, is_indirect, segments_of, page_references}

-- the request as its entry has it: a READ (0), a WRITE (1), a WRITE_BARRIER (2) or a FLUSH_DISKCACHE (3) of as many segments as its data have frames, an INDIRECT of such a READ or WRITE where the entry has no room for them, or a DISCARD that isn't secure, of device 51712
abbrev pub entry_as : Transfer → Request → RawRequest
entry_as (transfer.Discard sectors) r = Discard 0 51712 r.number r.sector sectors
entry_as way r =
    if is_indirect r.count then Indirect (operation_of way) (frames_for r.count) 51712 r.number r.sector (page_references r)
    else Direct (operation_of way) (frames_for r.count) 51712 r.number r.sector (segments_of r)

abbrev pub entry_request : Request → RawRequest
entry_request r = entry_as r.transfer r

-- the words of the request's entry under a layout
abbrev pub entry_of : Abi → Request → List ℕ
entry_of abi r = words_of abi (entry_request r)
