-- What the back asks.
use Rattle.std.specs.Prelude.{◌≡◌, ℕ, ◌<◌, Bool, true, false, not, ◌&&◌, List, [], ◌∷◌, length, Option, Some, None, option_and_then, if◌then◌else◌, ◌==◌, slice_index, slice_index_or}
use Rattle.blk_base.specs.declared.operation.Status.{Status}
use Rattle.blk_base.specs.declared.parts.Mapping.{Mapping}
use Rattle.blk_base.specs.declared.parts.Mode.TheVariants.{ReadWrite}
use Rattle.blk_base.specs.declared.ask.BackAsk.{BackAsk}
use Rattle.blk_base.specs.declared.ask.BackAsk.TheVariants.{Wait, Fence, Read, Write, Map, Unmap, Bind, Send, ClosePort}
use Rattle.blk_base.specs.declared.ask.BackAnswer.{BackAnswer}
use Rattle.blk_base.specs.declared.ask.BackAnswer.TheVariants as answer
use Rattle.ring_words.specs.Ring.{next_of, requests_of}
use Rattle.blk_layout.specs.Response.{response_words_of}
use Rattle.back_jobs.specs.Jobs.{done_of, response_of}
use Rattle.blk_back.specs.declared.stage.Reply.{Reply}
use Rattle.blk_back.specs.declared.stage.BackStage.{BackStage}
use Rattle.blk_back.specs.declared.stage.BackStage.TheVariants as stage
use Rattle.blk_back.specs.View.{View, page_of, slot_page, slot_word}

-- the response to the lowest job that is done
abbrev pub reply_of : Option (ℕ × ℕ × ℕ × Status) → Option Reply
reply_of None = None
reply_of (Some done) = Some (record { id = done.1; op = done.2; status = done.3 })

abbrev pub next_reply : View → Option Reply
next_reply v = reply_of (option_and_then response_of (done_of v.jobs))

abbrev pub response_word : Reply → ℕ → ℕ
response_word r i = slice_index (response_words_of (record { id = r.id; op = r.op; status = r.status })) i

-- a word of the next response is written
abbrev pub reply_ask : View → Reply → ℕ → BackAsk
reply_ask v r i = Write (slot_page v v.ring.indices.prod i) (slot_word v.shape v.ring.indices.prod i) (response_word r i)

-- a word of the next entry is read, and one of the words that both ends share
abbrev pub entry_ask : View → ℕ → BackAsk
entry_ask v i = Read (slot_page v v.ring.indices.cons i) (slot_word v.shape v.ring.indices.cons i)

abbrev pub index_ask : View → ℕ → BackAsk
index_ask v word = Read (page_of v 0) word

-- the reference of the page that is mapped next
abbrev pub next_gref : View → ℕ
next_gref v = slice_index_or v.grefs (length v.pages) 0

-- in the loop: a reply to what is done; else sleep; else the next entry; else the requests' producer
abbrev pub loop_ask : View → Option Reply → BackAsk
loop_ask v (Some r) = reply_ask v r 0
loop_ask v None =
    if v.ring.asleep then Wait
    else (if requests_of v.ring.indices v.ring.seen == 0 then index_ask v 0
    else entry_ask v 0)

-- the first page of the ring that is still mapped is unmapped
abbrev pub unmap_ask : List Mapping → BackAsk
unmap_ask [] = Wait
unmap_ask (page ∷ pages) = Unmap page

abbrev pub ask_at : BackStage → View → BackAsk
ask_at stage.InitWait v = Wait
ask_at stage.MapRing v = Map (next_gref v) ReadWrite
ask_at stage.Bind v = Bind v.ring.port
ask_at stage.Loop v = loop_ask v (next_reply v)
ask_at (stage.Fetch k) v = entry_ask v k
ask_at (stage.ReplyHigh r) v = reply_ask v r 1
ask_at (stage.ReplyLast r) v = reply_ask v r 2
ask_at (stage.Producer r) v = Write (page_of v 0) 2 (next_of v.ring.indices.prod)
ask_at (stage.ProducerFence old) v = Fence
ask_at (stage.ResponseEvent old) v = index_ask v 3
ask_at stage.Send v = Send
ask_at stage.StoreEvent v = Write (page_of v 0) 1 (next_of v.ring.indices.cons)
ask_at stage.EventFence v = Fence
ask_at stage.LookAgain v = index_ask v 0
ask_at (stage.Abort m) v = Unmap m
ask_at stage.UnmapRing v = unmap_ask v.pages
ask_at stage.ClosePort v = ClosePort
ask_at stage.UnmapUnbound v = unmap_ask v.pages
ask_at stage.Halted v = Wait

abbrev pub ask_of : View → BackAsk
ask_of v = ask_at v.stage v

-- an answer that an ask allows
abbrev pub IsAnswer : BackAsk → BackAnswer → Type 0
IsAnswer Wait answer.Event = Unit {0}
IsAnswer Wait (answer.Watched path) = Unit {0}
IsAnswer Fence answer.Done = Unit {0}
IsAnswer (Read m word) (answer.Word value) = Unit {0}
IsAnswer (Write m word value) answer.Done = Unit {0}
IsAnswer (Map gref mode) (answer.Mapped m) = (m.gref ≡ gref) × (m.mode ≡ mode)
IsAnswer (Map gref mode) (answer.MapRefused status) = Unit {0}
IsAnswer (Unmap m) answer.Done = Unit {0}
IsAnswer (Bind port) answer.Done = Unit {0}
IsAnswer (Bind port) answer.BindRefused = Unit {0}
IsAnswer Send answer.Done = Unit {0}
IsAnswer ClosePort answer.Done = Unit {0}
IsAnswer ask a = ⊥

-- an ask on memory names a word of a page
abbrev pub StaysInPage : BackAsk → Type 0
StaysInPage (Read m word) = word < 1024
StaysInPage (Write m word value) = word < 1024
StaysInPage ask = Unit {0}

-- nothing is to be done until an event comes
abbrev pub is_wait : BackAsk → Bool
is_wait Wait = true
is_wait ask = false

-- the back asks for nothing but an event
abbrev pub is_waiting : View → Bool
is_waiting v = is_wait (ask_of v)

-- it waits for its negotiation
abbrev pub is_led : BackStage → Bool
is_led stage.InitWait = true
is_led s = false

-- a back that doesn't wait for its negotiation waits for an event, and no job is held
abbrev pub is_idle : View → Bool
is_idle v = not (is_led v.stage) && is_waiting v && length v.jobs.works == 0
