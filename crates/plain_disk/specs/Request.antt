-- What the plain disk keeps of each request, and what each operation does to it (`io/blkif.h`).
use Rattle.std.specs.Prelude.{ℕ, ◌+◌, ◌^◌, ◌%◌, Bool, true, false, not, ◌&&◌, ◌||◌, List, [], ◌∷◌, count_by, ◌==◌, nat_lt, is_none, is_some, None, replicate}
use Rattle.std.specs.List.{list_any}
use Rattle.blk_base.specs.declared.config.Submission.{Submission}
use Rattle.blk_base.specs.declared.config.Submission.TheVariants.{Read, Write, Barrier, Flush, Discard}
use Rattle.plain_disk.specs.declared.request.RequestStage.{RequestStage}
use Rattle.plain_disk.specs.declared.request.RequestStage.TheVariants.{Open, Finished}
use Rattle.plain_disk.specs.declared.request.DiskRequest.{DiskRequest}
use Rattle.plain_disk.specs.declared.request.Place.{Place}

-- a request that was just submitted
abbrev pub opened : Submission → DiskRequest
opened submission = record { submission = submission; faulted = false; reply = None; stage = Open }

-- how many places a request has: its sectors, or one for a flush and a discard
abbrev pub places_of : Submission → ℕ
places_of (Read sector count) = count
places_of (Write sector count tag) = count
places_of (Barrier sector count tag) = count
places_of Flush = 1
places_of (Discard sector count) = 1

abbrev pub is_read : Submission → Bool
is_read (Read sector count) = true
is_read submission = false

abbrev pub is_flush : Submission → Bool
is_flush Flush = true
is_flush submission = false

abbrev pub is_discard : Submission → Bool
is_discard (Discard sector count) = true
is_discard submission = false

abbrev pub is_barrier : Submission → Bool
is_barrier (Barrier sector count tag) = true
is_barrier submission = false

-- a write or a barrier, whose sectors are filled one by one
abbrev pub is_write : Submission → Bool
is_write (Write sector count tag) = true
is_write (Barrier sector count tag) = true
is_write submission = false

-- an operation that a barrier orders: a write, a barrier or a discard
abbrev pub is_ordered : Submission → Bool
is_ordered submission = is_write submission || is_discard submission

-- the first sector
abbrev pub sector_of : Submission → ℕ
sector_of (Read sector count) = sector
sector_of (Write sector count tag) = sector
sector_of (Barrier sector count tag) = sector
sector_of Flush = 0
sector_of (Discard sector count) = sector

-- how many sectors
abbrev pub count_of : Submission → ℕ
count_of (Read sector count) = count
count_of (Write sector count tag) = count
count_of (Barrier sector count tag) = count
count_of Flush = 0
count_of (Discard sector count) = count

-- sector i of a write or barrier has 128 words of its tag and i
abbrev pub filling : Submission → ℕ → List ℕ
filling (Write sector count tag) index = replicate 128 ((tag + index) % 2 ^ 32)
filling (Barrier sector count tag) index = replicate 128 ((tag + index) % 2 ^ 32)
filling submission index = replicate 128 0

abbrev pub is_open : RequestStage → Bool
is_open Open = true
is_open stage = false

abbrev pub is_finished : RequestStage → Bool
is_finished Finished = true
is_finished stage = false

-- whether this place of a request was done in this epoch
abbrev pub is_done : List Place → ℕ → ℕ → Bool
is_done done id index = list_any (λ (p : Place). p.id == id && p.index == index) done

-- how many places of a request were done in this epoch, each once
abbrev pub done_count : List Place → ℕ → ℕ
done_count done id = count_by (λ (p : Place). p.id == id) done

-- a place that may be served now: of an open request that wasn't replied to and didn't fault in this epoch, in it, and not done
abbrev pub may_serve : List Place → ℕ → DiskRequest → ℕ → Bool
may_serve done id r index = is_open r.stage && is_none r.reply && not r.faulted && nat_lt index (places_of r.submission) && not (is_done done id index)

-- a request after which what waits for it may go on: wholly done, faulted or replied to in this epoch, or answered
abbrev pub is_settled : List Place → ℕ → DiskRequest → Bool
is_settled done id r = not (is_open r.stage) || is_some r.reply || r.faulted || done_count done id == places_of r.submission

-- the requests before this one, from the number `id` on, that a barrier orders with it are settled
abbrev pub are_settled : List Place → ℕ → List DiskRequest → Bool → Bool
are_settled done id [] barrier = true
are_settled done id (r ∷ earlier) barrier =
    (not (is_ordered r.submission) || not (barrier || is_barrier r.submission) || is_settled done id r) && are_settled done (id + 1) earlier barrier
