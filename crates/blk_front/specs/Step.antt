-- What an answer makes of the front.
use Rattle.std.specs.Prelude.{ℕ, ◌+◌, ◌-◌, ◌*◌, ◌/◌, ◌%◌, ◌^◌, Bool, true, false, List, [], ◌∷◌, length, take, remove, position, Option, Some, None, slice_get, slice_set, Result, Ok, Err, if◌then◌else◌, ◌==◌, nat_lt}
use Rattle.std.specs.Option.{option_map}
use Rattle.blk_base.specs.Distance.{distance_of}
use Rattle.blk_base.specs.declared.operation.Status.{Status}
use Rattle.blk_base.specs.declared.ask.FrontAnswer.{FrontAnswer}
use Rattle.blk_base.specs.declared.ask.FrontAnswer.TheVariants.{Event, Word}
use Rattle.ring_words.specs.Ring.{next_of, responses_of, notifies}
use Rattle.ring_words.specs.Shape.{entry_words_of}
use Rattle.blk_layout.specs.declared.response.Response.{Response}
use Rattle.blk_layout.specs.Response.{response_of}
use Rattle.blk_front.specs.declared.stage.FrontStage.{FrontStage}
use Rattle.blk_front.specs.declared.stage.FrontStage.TheVariants as stage
use Rattle.blk_front.specs.declared.stage.Ending.{Ending}
use Rattle.blk_front.specs.declared.request.Request.{Request}
use Rattle.blk_front.specs.declared.request.Transfer.{Transfer}
use Rattle.blk_front.specs.declared.request.Transfer.TheVariants as transfer
use Rattle.blk_front.specs.Request.{has_data, words_in, is_indirect, naming_words}
use Rattle.blk_front.specs.Entry.{entry_of}
use Rattle.blk_front.specs.declared.told.Told.TheVariants as told
use Rattle.blk_front.specs.Pool.{with_all_free}
use Rattle.blk_front.specs.View.{View, next_request}

abbrev pub at : FrontStage → View → View
at s v = record v { stage = s }

-- a word that no honest back leaves was found
abbrev pub broken : ℕ → View → View
broken word v = record v { stage = stage.Broken word; told = Some (told.Broken word) }

-- the responses' producer was read: further ahead than the requests' own is broken; where nothing is new, `otherwise`
abbrev pub looked : View → ℕ → View → View
looked v prod otherwise =
    if nat_lt (distance_of v.ring.indices.cons v.ring.indices.prod) (distance_of v.ring.indices.cons prod) then broken prod v
    else (if prod == v.ring.indices.cons then otherwise else record v { ring = record v.ring { seen = prod }; stage = stage.Loop })

abbrev pub loop_word : View → ℕ → View
loop_word v word =
    if responses_of v.ring.indices v.ring.seen == 0
    then looked v word (record v { ring = record v.ring { seen = word }; stage = stage.StoreEvent })
    else at (stage.ResponseHigh word) v

-- a request was begun: of a write or a barrier a word of its data was written, of a read a word of its indirect pages or of its first grant, of one without frames a word of its entry
abbrev pub entered : View → Request → FrontStage → View
entered v r s = record v { stage = s; ring = record v.ring { entry = entry_of v.shape.abi r } }

abbrev pub begun : View → Request → Transfer → View
begun v r (transfer.Write tag) = at (stage.Data 1) v
begun v r (transfer.Barrier tag) = at (stage.Data 1) v
begun v r transfer.Read = at (if is_indirect r.count then stage.Pages 1 else stage.GrantFence 0) v
begun v r transfer.Flush = entered v r (stage.Slot 1)
begun v r (transfer.Discard sectors) = entered v r (stage.Slot 1)

-- its data are written: its indirect pages are, or its frames are granted
abbrev pub after_data : Request → FrontStage
after_data r = if is_indirect r.count then stage.Pages 0 else stage.GrantFrame 0

-- a word of its data was written, or of its indirect pages: the next one is, or that was the last
abbrev pub data_stage : Option Request → ℕ → FrontStage
data_stage None n = stage.Data n
data_stage (Some r) n = if nat_lt (n + 1) (words_in r) then stage.Data (n + 1) else after_data r

abbrev pub page_stage : Option Request → ℕ → FrontStage
page_stage None n = stage.Pages n
page_stage (Some r) n = if nat_lt (n + 1) (naming_words r) then stage.Pages (n + 1) else stage.GrantFrame 0

-- a frame of it was granted: the next one is, or its entry is written
abbrev pub granted : Option Request → ℕ → View → View
granted None place v = v
granted (Some r) place v = if nat_lt (place + 1) (length r.frames.items) then at (stage.GrantFrame (place + 1)) v else entered v r (stage.Slot 0)

-- an event ends sleep; a watch has nothing to tell where there are no keys
abbrev pub loop_step : View → Option Request → FrontAnswer → View
loop_step v (Some r) answer = begun v r r.transfer
loop_step v None (Word word) = loop_word v word
loop_step v None Event = record v { ring = record v.ring { asleep = false } }
loop_step v None answer = v

abbrev pub found_at : List Request → Option ℕ → Option (ℕ × Request)
found_at requests None = None
found_at requests (Some place) = option_map (λ r. (place, r)) (slice_get requests place)

-- the issued request of an id, and where it stands
abbrev pub issued : View → ℕ → Option (ℕ × Request)
issued v id = found_at v.requests (position (λ (r : Request). r.number == id) (take (length v.requests - v.waiting) v.requests))

-- the response is taken: its request's grants are ended next; one without frames is answered and finished
abbrev pub freed : View → ℕ → View
freed v place = record v { ring = record v.ring { indices = record v.ring.indices { cons = next_of v.ring.indices.cons } }; requests = remove v.requests place }

abbrev pub revokes : View → Request → Status → View
revokes v r status = record v { ending = Some (record { request = r; status = status }); stage = stage.GrantRead 0 }

abbrev pub answered : View → Request → Status → View
answered v r status = record v { stage = stage.Loop; told = Some (told.Answer r.number status) }

abbrev pub taken : View → ℕ → Request → Status → View
taken v place r status = if length r.frames.items == 0 then answered (freed v place) r status else revokes (freed v place) r status

-- a response was read whole: its id is looked at first, then its status
abbrev pub response_at : View → Result Response ℕ → ℕ → Option (ℕ × Request) → View
response_at v response low None = broken low v
response_at v (Err word) low (Some found) = broken word v
response_at v (Ok response) low (Some found) = taken v found.0 found.1 response.status

abbrev pub response_step : View → ℕ → ℕ → ℕ → View
response_step v low high last = response_at v (response_of (low ∷ high ∷ last ∷ [])) low (issued v (low + high * 2 ^ 32))

-- reading is bit 3 of a grant entry's flags, writing bit 4 (GTF_reading, GTF_writing of `grant_table.h`)
abbrev pub is_mapped : ℕ → Bool
is_mapped word = nat_lt 0 (word / 8 % 4)

-- all of a request was told: its frames are free
abbrev pub finished : Ending → View → View
finished e v = record v { stage = stage.Loop; ending = None; pool = with_all_free v.pool e.request.frames.items }

-- its last grant was ended: the answer is told; the data of a read that went well are read next, and else it is finished
abbrev pub ended : Ending → View → View
ended e v =
    if has_data e.request.transfer e.status then record v { stage = stage.ReadData 0; told = Some (told.Answer e.request.number e.status) }
    else record (finished e v) { told = Some (told.Answer e.request.number e.status) }

-- one of its grants was ended: the next one is, or that was the last
abbrev pub revoked : Option Ending → ℕ → View → View
revoked None place v = v
revoked (Some e) place v = if nat_lt (place + 1) (length e.request.frames.items) then at (stage.GrantRead (place + 1)) v else ended e v

-- the words of a sector so far, and what is told once it was read whole
abbrev pub sector_told : Ending → ℕ → List ℕ → View → View
sector_told e n words v =
    if n % 128 == 127 then record v { words = words; told = Some (told.Sector e.request.number (n / 128) words) }
    else record v { words = words }

-- word n of its data was read: after the last one of a sector that is told, and after the last one of all it is finished
abbrev pub data_step : Option Ending → ℕ → ℕ → View → View
data_step None n word v = v
data_step (Some e) n word v =
    if nat_lt (n + 1) (words_in e.request) then at (stage.ReadData (n + 1)) (sector_told e n (slice_set v.words (n % 128) word) v)
    else finished e (sector_told e n (slice_set v.words (n % 128) word) v)

-- the same after a suspend: after the last word of all the ring is made anew
abbrev pub left_step : Option Ending → ℕ → ℕ → View → View
left_step None n word v = v
left_step (Some e) n word v =
    if nat_lt (n + 1) (words_in e.request) then at (stage.LeftData (n + 1)) (sector_told e n (slice_set v.words (n % 128) word) v)
    else at (stage.RingWord 0) (finished e (sector_told e n (slice_set v.words (n % 128) word) v))

-- the grant entry was read: it may be ended where the back has no mapping of it
abbrev pub end_step : View → ℕ → ℕ → View
end_step v place word = if is_mapped word then broken word v else at (stage.GrantEnd place word) v

abbrev pub exchanged : View → (place before word : ℕ) → View
exchanged v place before word = if word == before then revoked v.ending place v else broken word v

-- a page of the ring was granted: the next one is, or the port of its events is made
abbrev pub ring_granted : View → ℕ → FrontStage
ring_granted v page = if nat_lt (page + 1) (2 ^ v.shape.order) then stage.RingFrame (page + 1) else stage.NewPort

-- the entry of a page's grant was read: the grant may be ended where the back has no mapping of it
abbrev pub ring_read : View → (page word : ℕ) → View
ring_read v page word = if is_mapped word then broken word v else at (stage.RingEnd page word) v

-- it was ended: the next page's is looked at, or the port is closed
abbrev pub ring_left : View → ℕ → FrontStage
ring_left v page = if nat_lt (page + 1) (2 ^ v.shape.order) then stage.RingRead (page + 1) else stage.ClosePort

abbrev pub ring_ended : View → (page before word : ℕ) → View
ring_ended v page before word = if word == before then at (ring_left v page) v else broken word v

-- the request is pushed
abbrev pub pushed : View → View
pushed v = record v {
  ring = record v.ring { indices = record v.ring.indices { prod = next_of v.ring.indices.prod } };
  waiting = v.waiting - 1;
  stage = stage.ProducerFence v.ring.indices.prod;
}

abbrev pub step_at : FrontStage → View → FrontAnswer → View
step_at (stage.RingWord k) v answer = at (if k == 15 then stage.RingFrame 0 else stage.RingWord (k + 1)) v
step_at (stage.RingFrame page) v answer = at (stage.RingFence page) v
step_at (stage.RingFence page) v answer = at (stage.RingFlags page) v
step_at (stage.RingFlags page) v answer = at (ring_granted v page) v
step_at stage.NewPort v answer = at stage.Initialised v
step_at stage.Loop v answer = loop_step v (next_request v) answer
step_at (stage.Data n) v answer = at (data_stage (next_request v) n) v
step_at (stage.Pages n) v answer = at (page_stage (next_request v) n) v
step_at (stage.GrantFrame place) v answer = at (stage.GrantFence place) v
step_at (stage.GrantFence place) v answer = at (stage.GrantFlags place) v
step_at (stage.GrantFlags place) v answer = granted (next_request v) place v
step_at (stage.Slot k) v answer = at (if k + 1 == entry_words_of v.shape.abi then stage.Producer else stage.Slot (k + 1)) v
step_at stage.Producer v answer = pushed v
step_at (stage.ProducerFence old) v answer = at (stage.RequestEvent old) v
step_at (stage.RequestEvent old) v (Word event) = at (if notifies old v.ring.indices.prod event then stage.Send else stage.Loop) v
step_at stage.Send v answer = at stage.Loop v
step_at (stage.ResponseHigh low) v (Word high) = at (stage.ResponseLast low high) v
step_at (stage.ResponseLast low high) v (Word last) = response_step v low high last
step_at (stage.GrantRead place) v (Word word) = end_step v place word
step_at (stage.GrantEnd place before) v (Word word) = exchanged v place before word
step_at (stage.ReadData n) v (Word word) = data_step v.ending n word v
step_at (stage.LeftData n) v (Word word) = left_step v.ending n word v
step_at stage.StoreEvent v answer = at stage.EventFence v
step_at stage.EventFence v answer = at stage.LookAgain v
step_at stage.LookAgain v (Word word) = looked v word (record v { ring = record v.ring { seen = word; asleep = true }; stage = stage.Loop })
step_at (stage.RingRead page) v (Word word) = ring_read v page word
step_at (stage.RingEnd page before) v (Word word) = ring_ended v page before word
step_at stage.ClosePort v answer = at stage.Left v
step_at s v answer = v

abbrev pub step_of : View → FrontAnswer → View
step_of v answer = step_at v.stage v answer

-- a response's last word is read now
abbrev pub IsTaking : FrontStage → Type 0
IsTaking (stage.ResponseLast low high) = Unit {0}
IsTaking s = ⊥

-- a request's grants are ended now
abbrev pub IsRevoking : FrontStage → Type 0
IsRevoking (stage.GrantRead place) = Unit {0}
IsRevoking (stage.GrantEnd place before) = Unit {0}
IsRevoking s = ⊥

-- and a word of data may be read
abbrev pub IsEndingStage : FrontStage → Type 0
IsEndingStage (stage.GrantRead place) = Unit {0}
IsEndingStage (stage.GrantEnd place before) = Unit {0}
IsEndingStage (stage.ReadData n) = Unit {0}
IsEndingStage (stage.LeftData n) = Unit {0}
IsEndingStage s = ⊥
