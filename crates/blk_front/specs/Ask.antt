-- What the front asks.
use Rattle.std.specs.Prelude.{◌≡◌, ℕ, ◌+◌, ◌/◌, ◌%◌, ◌<◌, Option, Some, None, if◌then◌else◌, ◌==◌, ◌&&◌, ◌||◌, Bool, List, length, slice_index}
use Rattle.blk_base.specs.declared.ask.FrontAsk.{FrontAsk}
use Rattle.blk_base.specs.declared.ask.FrontAsk.TheVariants.{Wait, Fence, Read, Write, Cas, NewPort, Send, ClosePort}
use Rattle.blk_base.specs.declared.ask.FrontAnswer.{FrontAnswer}
use Rattle.blk_base.specs.declared.ask.FrontAnswer.TheVariants as answer
use Rattle.ring_words.specs.Ring.{next_of, responses_of}
use Rattle.blk_front.specs.declared.stage.FrontStage.{FrontStage}
use Rattle.blk_front.specs.declared.stage.FrontStage.TheVariants as stage
use Rattle.blk_front.specs.declared.stage.Ending.{Ending}
use Rattle.blk_front.specs.declared.request.Request.{Request}
use Rattle.blk_front.specs.declared.request.Transfer.{Transfer}
use Rattle.blk_front.specs.declared.request.Transfer.TheVariants as transfer
use Rattle.blk_front.specs.Request.{flags_at, frame_at, filling_at, is_indirect, page_at, naming_at}
use Rattle.blk_front.specs.Entry.{entry_of}
use Rattle.blk_front.specs.View.{View, ring_frame, ring_page_frame, entry_frame, entry_word, slot_frame, slot_word, fresh_word, next_request}

-- word n of a write's data is written, and word n of the segments in its indirect pages; the frame of this place is named in its grant entry, and granted
abbrev pub data_ask : Option Request → ℕ → FrontAsk
data_ask None n = Wait
data_ask (Some r) n = Write (frame_at r (n / 1024)) (n % 1024) (filling_at r.transfer n)

abbrev pub page_ask : Option Request → ℕ → FrontAsk
page_ask None n = Wait
page_ask (Some r) n = Write (page_at r (n / 1024)) (n % 1024) (naming_at r n)

abbrev pub name_ask : Option Request → ℕ → FrontAsk
name_ask None place = Wait
name_ask (Some r) place = Write (entry_frame (frame_at r place)) (entry_word (frame_at r place) + 1) (frame_at r place)

abbrev pub grant_ask : Option Request → ℕ → FrontAsk
grant_ask None place = Wait
grant_ask (Some r) place = Write (entry_frame (frame_at r place)) (entry_word (frame_at r place)) (flags_at r place)

-- the grant of an ending request's frame of this place is looked at, and ended; and word n of its data is read
abbrev pub revoke_ask : Option Ending → ℕ → FrontAsk
revoke_ask None place = Wait
revoke_ask (Some e) place = Read (entry_frame (frame_at e.request place)) (entry_word (frame_at e.request place))

abbrev pub end_ask : Option Ending → (place before : ℕ) → FrontAsk
end_ask None place before = Wait
end_ask (Some e) place before = Cas (entry_frame (frame_at e.request place)) (entry_word (frame_at e.request place)) before 0

abbrev pub read_ask : Option Ending → ℕ → FrontAsk
read_ask None n = Wait
read_ask (Some e) n = Read (frame_at e.request (n / 1024)) (n % 1024)

-- a word of the next response is read
abbrev pub response_ask : View → ℕ → FrontAsk
response_ask v k = Read (slot_frame v.shape v.ring.indices.cons k) (slot_word v.shape v.ring.indices.cons k)

-- a word of an entry is written to its place in the ring
abbrev pub entry_ask : View → List ℕ → ℕ → FrontAsk
entry_ask v entry k = Write (slot_frame v.shape v.ring.indices.prod k) (slot_word v.shape v.ring.indices.prod k) (slice_index entry k)

-- a request is begun: a write or a barrier with its data, a read with its indirect pages or its grants, one without frames with its entry
abbrev pub issue_ask : View → Request → Transfer → FrontAsk
issue_ask v r (transfer.Write tag) = data_ask (Some r) 0
issue_ask v r (transfer.Barrier tag) = data_ask (Some r) 0
issue_ask v r transfer.Read = if is_indirect r.count then page_ask (Some r) 0 else name_ask (Some r) 0
issue_ask v r transfer.Flush = entry_ask v (entry_of v.shape.abi r) 0
issue_ask v r (transfer.Discard sectors) = entry_ask v (entry_of v.shape.abi r) 0

-- it closes, and has no request left
abbrev pub is_through : View → Bool
is_through v = v.closing && length v.requests == 0

-- in the loop: a request that waits is issued; else sleep, or nothing more to do; else the next response; else the responses' producer
abbrev pub loop_ask : View → Option Request → FrontAsk
loop_ask v (Some r) = issue_ask v r r.transfer
loop_ask v None =
    if v.ring.asleep || is_through v then Wait
    else (if responses_of v.ring.indices v.ring.seen == 0 then Read ring_frame 2 else response_ask v 0)

abbrev pub ask_at : FrontStage → View → FrontAsk
ask_at (stage.RingWord k) v = Write ring_frame k (fresh_word v.start k)
ask_at (stage.RingFrame page) v = Write (entry_frame (ring_page_frame page)) (entry_word (ring_page_frame page) + 1) (ring_page_frame page)
ask_at (stage.RingFence page) v = Fence
ask_at (stage.RingFlags page) v = Write (entry_frame (ring_page_frame page)) (entry_word (ring_page_frame page)) 1
ask_at stage.NewPort v = NewPort
ask_at stage.Initialised v = Wait
ask_at stage.Loop v = loop_ask v (next_request v)
ask_at (stage.Data n) v = data_ask (next_request v) n
ask_at (stage.Pages n) v = page_ask (next_request v) n
ask_at (stage.GrantFrame place) v = name_ask (next_request v) place
ask_at (stage.GrantFence place) v = Fence
ask_at (stage.GrantFlags place) v = grant_ask (next_request v) place
ask_at (stage.Slot k) v = entry_ask v v.ring.entry k
ask_at stage.Producer v = Write ring_frame 0 (next_of v.ring.indices.prod)
ask_at (stage.ProducerFence old) v = Fence
ask_at (stage.RequestEvent old) v = Read ring_frame 1
ask_at stage.Send v = Send
ask_at (stage.ResponseHigh low) v = response_ask v 1
ask_at (stage.ResponseLast low high) v = response_ask v 2
ask_at (stage.GrantRead place) v = revoke_ask v.ending place
ask_at (stage.GrantEnd place seen) v = end_ask v.ending place seen
ask_at (stage.ReadData n) v = read_ask v.ending n
ask_at (stage.LeftData n) v = read_ask v.ending n
ask_at stage.StoreEvent v = Write ring_frame 3 (next_of v.ring.indices.cons)
ask_at stage.EventFence v = Fence
ask_at stage.LookAgain v = Read ring_frame 2
ask_at (stage.RingRead page) v = Read (entry_frame (ring_page_frame page)) (entry_word (ring_page_frame page))
ask_at (stage.RingEnd page seen) v = Cas (entry_frame (ring_page_frame page)) (entry_word (ring_page_frame page)) seen 0
ask_at (stage.KeptRead frame) v = Wait
ask_at (stage.KeptEnd frame seen) v = Wait
ask_at stage.ClosePort v = ClosePort
ask_at stage.Left v = Wait
ask_at stage.Closed v = Wait
ask_at (stage.Broken word) v = Wait

abbrev pub ask_of : View → FrontAsk
ask_of v = ask_at v.stage v

-- what is asked where it is a word of a request's data, as most moves are
abbrev pub data_asked_at : FrontStage → View → Option FrontAsk
data_asked_at (stage.Data n) v = Some (data_ask (next_request v) n)
data_asked_at (stage.ReadData n) v = Some (read_ask v.ending n)
data_asked_at s v = None

abbrev pub data_asked : View → Option FrontAsk
data_asked v = data_asked_at v.stage v

-- an answer of the ask's kind
abbrev pub IsAnswer : FrontAsk → FrontAnswer → Type 0
IsAnswer Wait answer.Event = Unit {0}
IsAnswer Wait (answer.Watched path) = Unit {0}
IsAnswer Fence answer.Done = Unit {0}
IsAnswer (Read frame word) (answer.Word value) = Unit {0}
IsAnswer (Write frame word value) answer.Done = Unit {0}
IsAnswer (Cas frame word old new) (answer.Word seen) = Unit {0}
IsAnswer NewPort (answer.Port port) = Unit {0}
IsAnswer Send answer.Done = Unit {0}
IsAnswer ClosePort answer.Done = Unit {0}
IsAnswer ask a = ⊥

-- a shared word of the guest's memory: frames 0 to 1017, words 0 to 1023
abbrev pub IsPlace : ℕ → ℕ → Type 0
IsPlace frame word = (frame < 1018) × (word < 1024)

-- an ask that touches memory touches one such word
abbrev pub StaysInMemory : FrontAsk → Type 0
StaysInMemory (Read frame word) = IsPlace frame word
StaysInMemory (Write frame word value) = IsPlace frame word
StaysInMemory (Cas frame word old new) = IsPlace frame word
StaysInMemory ask = Unit {0}

-- this is asked, and it stays there
pub record Asks (asked ask : FrontAsk) : Type 0 where
  pub value : asked ≡ ask
  pub within : StaysInMemory asked
