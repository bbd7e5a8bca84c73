-- When the front refuses a submission, and what an accepted one makes of it.
use Rattle.std.specs.Prelude.{ℕ, ◌+◌, min, max, Bool, true, false, not, ◌&&◌, List, [], ◌∷◌, ◌++◌, length, sum_by, Option, Some, None, Result, Ok, Err, if◌then◌else◌, ◌==◌, nat_lt, nat_le}
use Rattle.blk_base.specs.declared.ask.FrontAsk.{FrontAsk}
use Rattle.blk_base.specs.declared.ask.FrontAsk.TheVariants.{Wait}
use Rattle.blk_base.specs.declared.config.Submission.{Submission}
use Rattle.blk_base.specs.declared.config.Submission.TheVariants as submissions
use Rattle.blk_front.specs.declared.request.Request.{Request}
use Rattle.blk_front.specs.declared.request.Wish.{Wish}
use Rattle.blk_front.specs.declared.request.Transfer.{Transfer}
use Rattle.blk_front.specs.declared.request.Transfer.TheVariants as transfer
use Rattle.blk_front.specs.declared.stage.Ending.{Ending}
use Rattle.blk_front.specs.declared.stage.FrontStage.{FrontStage}
use Rattle.blk_front.specs.declared.stage.FrontStage.TheVariants as stage
use Rattle.blk_base.specs.declared.refusal.Refusal.{Refusal}
use Rattle.blk_base.specs.declared.refusal.Refusal.TheVariants as refusal
use Rattle.blk_front.specs.Pool.{taking}
use Rattle.blk_front.specs.Request.{is_write, named_of, frames_for, pages_for, may_be_indirect}
use Rattle.blk_front.specs.declared.state.Offers.{Offers}
use Rattle.ring_words.specs.Shape.{entries_of}
use Rattle.blk_front.specs.View.{View}
use Rattle.blk_front.specs.Ask.{ask_of}

-- connected (XenbusStateConnected of `io/xenbus.h`), not leaving or closed, and not broken
abbrev pub is_ready : FrontStage → Bool
is_ready (stage.RingWord k) = false
is_ready (stage.RingFrame page) = false
is_ready (stage.RingFence page) = false
is_ready (stage.RingFlags page) = false
is_ready stage.NewPort = false
is_ready stage.Initialised = false
is_ready (stage.LeftData n) = false
is_ready (stage.RingRead page) = false
is_ready (stage.RingEnd page seen) = false
is_ready (stage.KeptRead frame) = false
is_ready (stage.KeptEnd frame seen) = false
is_ready stage.ClosePort = false
is_ready stage.Left = false
is_ready stage.Closed = false
is_ready (stage.Broken word) = false
is_ready s = true

-- the ring and the port of its events are made, or the front is past that
abbrev pub is_connected : FrontStage → Bool
is_connected (stage.RingWord k) = false
is_connected (stage.RingFrame page) = false
is_connected (stage.RingFence page) = false
is_connected (stage.RingFlags page) = false
is_connected stage.NewPort = false
is_connected (stage.LeftData n) = false
is_connected s = true

-- a request whose grants are being ended, or whose data are told, is unfinished still
abbrev pub ending_of : FrontStage → ℕ
ending_of (stage.GrantRead place) = 1
ending_of (stage.GrantEnd place before) = 1
ending_of (stage.ReadData n) = 1
ending_of (stage.LeftData n) = 1
ending_of s = 0

abbrev pub unfinished : View → ℕ
unfinished v = length v.requests + ending_of v.stage

-- the sectors that all unfinished requests move
abbrev pub ending_sectors : Option Ending → ℕ
ending_sectors None = 0
ending_sectors (Some e) = e.request.count

abbrev pub sectors_owed : View → ℕ
sectors_owed v = sum_by (λ (r : Request). r.count) v.requests + (if ending_of v.stage == 0 then 0 else ending_sectors v.ending)

-- the sectors of a request, and what is done with them; none where the back doesn't serve such a request
abbrev pub wished : Bool → Wish → Option Wish
wished offered wish = if offered then Some wish else None

abbrev pub wish_of : Offers → Submission → Option Wish
wish_of offers (submissions.Read sector count) = Some (record { sector = sector; count = count; transfer = transfer.Read })
wish_of offers (submissions.Write sector count tag) = Some (record { sector = sector; count = count; transfer = transfer.Write tag })
wish_of offers (submissions.Barrier sector count tag) = wished offers.barrier (record { sector = sector; count = count; transfer = transfer.Barrier tag })
wish_of offers submissions.Flush = wished offers.flush (record { sector = 0; count = 0; transfer = transfer.Flush })
wish_of offers (submissions.Discard sector count) = wished offers.discard (record { sector = sector; count = 0; transfer = transfer.Discard count })

-- it waits until it is connected
abbrev pub is_initialised : FrontStage → Bool
is_initialised stage.Initialised = true
is_initialised s = false

-- it waits for its negotiation: to be connected, or to be closed
abbrev pub is_led : FrontStage → Bool
is_led stage.Initialised = true
is_led stage.Left = true
is_led s = false

-- nothing is to be done until an event comes
abbrev pub is_wait : FrontAsk → Bool
is_wait Wait = true
is_wait ask = false

-- so it is with a front that doesn't wait for its negotiation
abbrev pub is_idle : View → Bool
is_idle v = not (is_led v.stage) && is_wait (ask_of v)

-- the next request, with these frames
abbrev pub request_with : View → Wish → List ℕ → Request
request_with v wish frames = record { number = v.last + 1; sector = wish.sector; count = wish.count; transfer = wish.transfer; frames = record { items = frames } }

-- accepted: the next number, the lowest free frames, last in the queue
abbrev pub accepted : View → Wish → (List ℕ × List Bool) → View
accepted v wish taken = record v {
  last = v.last + 1;
  waiting = v.waiting + 1;
  requests = v.requests ++ request_with v wish taken.0 ∷ [];
  pool = taken.1;
}

-- no request has more segments: 11, and a read or a write as many as the back takes in indirect pages, of which this front has at most 960
abbrev pub most_segments : Offers → Transfer → ℕ
most_segments offers way = if may_be_indirect way then max 11 (min 960 offers.indirect) else 11

-- so many frames it takes: those of its data, and its indirect pages
abbrev pub frames_taken : ℕ → ℕ
frames_taken count = frames_for count + pages_for count

abbrev pub submit_with : View → Wish → Option (List ℕ × List Bool) → Result ℕ Refusal × View
submit_with v wish None = (Err refusal.Buffers, v)
submit_with v wish (Some taken) = (Ok (v.last + 1), accepted v wish taken)

abbrev pub submit_one : View → Option Wish → Result ℕ Refusal × View
submit_one v None = (Err refusal.Unsupported, v)
submit_one v (Some wish) =
    if is_write wish.transfer && v.offers.read_only then (Err refusal.ReadOnly, v)
    else (if nat_lt v.offers.sectors (wish.sector + named_of wish.transfer wish.count) then (Err refusal.Range, v)
    else (if nat_lt (most_segments v.offers wish.transfer) (frames_for wish.count) then (Err refusal.Long, v)
    else (if nat_le (entries_of v.shape.order) (unfinished v) then (Err refusal.Full, v)
    else submit_with v wish (taking (frames_taken wish.count) v.pool []))))

-- the answer to a submission, and the front after it
abbrev pub submit_of : View → Submission → Result ℕ Refusal × View
submit_of v job =
    if v.last == 4294967295 then (Err refusal.Spent, v)
    else (if v.closing then (Err refusal.Closing, v)
    else (if not (is_ready v.stage) then (Err refusal.NotReady, v)
    else submit_one v (wish_of v.offers job)))
