-- The front as it is: what it asks, and what an answer makes of it. Where both ends published `feature-persistent` (`io/blkif.h`) it keeps the grant of each frame of its pool from the frame's first use on, and ends it as it leaves; elsewhere it is as it is without that.
use Rattle.std.specs.Prelude.{ℕ, ◌+◌, Bool, not, ◌&&◌, List, length, Option, Some, None, if◌then◌else◌, ◌==◌, nat_lt, ◌^◌}
use Rattle.blk_base.specs.declared.ask.FrontAsk.{FrontAsk}
use Rattle.blk_base.specs.declared.ask.FrontAsk.TheVariants.{Wait, Read, Write, Cas}
use Rattle.blk_base.specs.declared.ask.FrontAnswer.{FrontAnswer}
use Rattle.blk_base.specs.declared.ask.FrontAnswer.TheVariants.{Word}
use Rattle.blk_front.specs.declared.stage.FrontStage.{FrontStage}
use Rattle.blk_front.specs.declared.stage.FrontStage.TheVariants as stage
use Rattle.blk_front.specs.declared.stage.Ending.{Ending}
use Rattle.blk_front.specs.declared.request.Request.{Request}
use Rattle.blk_front.specs.declared.request.Transfer.{Transfer}
use Rattle.blk_front.specs.declared.request.Transfer.TheVariants as transfer
use Rattle.blk_front.specs.Request.{flags_at, frame_at, words_in, naming_words, is_indirect}
use Rattle.blk_front.specs.Entry.{entry_of}
use Rattle.blk_front.specs.Pool.{with_taken, with_free, taken_from, untaken_from}
use Rattle.blk_front.specs.Submit.{is_led, is_wait}
use Rattle.blk_front.specs.View.{View, entry_frame, entry_word, next_request}
use Rattle.blk_front.specs.Ask.{ask_at, loop_ask, issue_ask, entry_ask, page_ask, name_ask}
use Rattle.blk_front.specs.Step.{at, broken, begun, entered, loop_step, response_step, ended, is_mapped, step_at}

-- the place, from this one on, of the first of a request's frames whose grant isn't kept
abbrev pub ungranted : View → Request → (place : ℕ) → Option ℕ
ungranted v r place = untaken_from v.kept r.frames.items place

-- the place of the frame that is granted first, and of the one that is granted next, from this place on: without kept grants each frame is granted
abbrev pub first_place : View → Request → Option ℕ
first_place v r = if v.offers.persistent then ungranted v r 0 else Some 0

abbrev pub next_place : View → Request → (place : ℕ) → Option ℕ
next_place v r place = if v.offers.persistent then ungranted v r place else (if nat_lt place (length r.frames.items) then Some place else None)

-- the grant of the frame of this place is begun; where none is to be granted the first word of the entry is written
abbrev pub name_or_enter : View → Request → Option ℕ → FrontAsk
name_or_enter v r (Some place) = name_ask (Some r) place
name_or_enter v r None = entry_ask v (entry_of v.shape.abi r) 0

abbrev pub issue_ask_as : View → Request → Transfer → FrontAsk
issue_ask_as v r transfer.Read = if is_indirect r.count then page_ask (Some r) 0 else name_or_enter v r (first_place v r)
issue_ask_as v r way = issue_ask v r way

abbrev pub loop_ask_as : View → Option Request → FrontAsk
loop_ask_as v (Some r) = issue_ask_as v r r.transfer
loop_ask_as v None = loop_ask v None

-- a grant that is kept is for reading and writing (GTF_permit_access alone): the frame's next request may be of any kind
abbrev pub flags_as : (persistent : Bool) → Request → ℕ → ℕ
flags_as persistent r place = if persistent then 1 else flags_at r place

abbrev pub grant_ask_as : (persistent : Bool) → Option Request → ℕ → FrontAsk
grant_ask_as persistent None place = Wait
grant_ask_as persistent (Some r) place = Write (entry_frame (frame_at r place)) (entry_word (frame_at r place)) (flags_as persistent r place)

abbrev pub ask_as_at : FrontStage → View → FrontAsk
ask_as_at stage.Loop v = loop_ask_as v (next_request v)
ask_as_at (stage.GrantFlags place) v = grant_ask_as v.offers.persistent (next_request v) place
ask_as_at (stage.KeptRead frame) v = if v.offers.persistent then Read (entry_frame frame) (entry_word frame) else Wait
ask_as_at (stage.KeptEnd frame seen) v = if v.offers.persistent then Cas (entry_frame frame) (entry_word frame) seen 0 else Wait
ask_as_at s v = ask_at s v

abbrev pub ask_as : View → FrontAsk
ask_as v = ask_as_at v.stage v

-- nothing is to be done until an event comes, of a front that doesn't wait for its negotiation
abbrev pub is_idle_as : View → Bool
is_idle_as v = not (is_led v.stage) && is_wait (ask_as v)

-- the grant of the frame of this place was begun, or the first word of the entry was written
abbrev pub named_or_entered : View → Request → Option ℕ → View
named_or_entered v r (Some place) = at (stage.GrantFence place) v
named_or_entered v r None = entered v r (stage.Slot 1)

abbrev pub begun_as : View → Request → Transfer → View
begun_as v r transfer.Read = if is_indirect r.count then at (stage.Pages 1) v else named_or_entered v r (first_place v r)
begun_as v r way = begun v r way

abbrev pub loop_step_as : View → Option Request → FrontAnswer → View
loop_step_as v (Some r) answer = begun_as v r r.transfer
loop_step_as v None answer = loop_step v None answer

-- the frame of this place is granted next; where none is to be granted the entry is written
abbrev pub grants : View → Request → Option ℕ → View
grants v r (Some place) = at (stage.GrantFrame place) v
grants v r None = entered v r (stage.Slot 0)

-- a word of its data was written, or of its indirect pages: the next one is, or that was the last
abbrev pub data_next : View → Option Request → ℕ → View
data_next v None n = at (stage.Data n) v
data_next v (Some r) n =
    if nat_lt (n + 1) (words_in r) then at (stage.Data (n + 1)) v
    else (if is_indirect r.count then at (stage.Pages 0) v else grants v r (first_place v r))

abbrev pub page_next : View → Option Request → ℕ → View
page_next v None n = at (stage.Pages n) v
page_next v (Some r) n = if nat_lt (n + 1) (naming_words r) then at (stage.Pages (n + 1)) v else grants v r (first_place v r)

-- a frame of it was granted, and where grants are kept it stays so
abbrev pub kept_after : View → ℕ → List Bool
kept_after v frame = if v.offers.persistent then with_taken v.kept frame else v.kept

abbrev pub with_grant : View → ℕ → View
with_grant v frame = record v { kept = kept_after v frame }

abbrev pub granted_as : Option Request → ℕ → View → View
granted_as None place v = v
granted_as (Some r) place v = grants (with_grant v (frame_at r place)) r (next_place (with_grant v (frame_at r place)) r (place + 1))

-- a response was taken: where its request's grants are kept none is ended, and it is answered at once
abbrev pub ended_now : Option Ending → View → View
ended_now None v = v
ended_now (Some e) v = ended e v

abbrev pub kept_taken : FrontStage → View → View
kept_taken (stage.GrantRead place) v = ended_now v.ending v
kept_taken s v = v

abbrev pub unended : (persistent : Bool) → View → View
unended persistent v = if persistent then kept_taken v.stage v else v

abbrev pub response_step_as : View → ℕ → ℕ → ℕ → View
response_step_as v low high last = unended v.offers.persistent (response_step v low high last)

-- the ring's last grant was ended, or a kept one: the kept grant of the lowest frame from this one on is ended next, or the port is closed
abbrev pub kept_stage : Option ℕ → FrontStage
kept_stage (Some frame) = stage.KeptRead frame
kept_stage None = stage.ClosePort

abbrev pub ring_left_as : View → ℕ → FrontStage
ring_left_as v page =
    if nat_lt (page + 1) (2 ^ v.shape.order) then stage.RingRead (page + 1)
    else (if v.offers.persistent then kept_stage (taken_from v.kept 18) else stage.ClosePort)

abbrev pub ring_ended_as : View → (page before word : ℕ) → View
ring_ended_as v page before word = if word == before then at (ring_left_as v page) v else broken word v

-- the entry of a kept grant was read: the grant may be ended where the back has no mapping of it
abbrev pub kept_read : View → (frame word : ℕ) → View
kept_read v frame word = if is_mapped word then broken word v else at (stage.KeptEnd frame word) v

-- it was ended
abbrev pub kept_gone : View → ℕ → View
kept_gone v frame = record v { kept = with_free v.kept frame; stage = kept_stage (taken_from (with_free v.kept frame) (frame + 1)) }

abbrev pub kept_ended : View → (frame before word : ℕ) → View
kept_ended v frame before word = if word == before then kept_gone v frame else broken word v

abbrev pub step_as_at : FrontStage → View → FrontAnswer → View
step_as_at stage.Loop v answer = loop_step_as v (next_request v) answer
step_as_at (stage.Data n) v answer = data_next v (next_request v) n
step_as_at (stage.Pages n) v answer = page_next v (next_request v) n
step_as_at (stage.GrantFlags place) v answer = granted_as (next_request v) place v
step_as_at (stage.ResponseLast low high) v (Word last) = response_step_as v low high last
step_as_at (stage.RingEnd page before) v (Word word) = ring_ended_as v page before word
step_as_at (stage.KeptRead frame) v (Word word) = if v.offers.persistent then kept_read v frame word else v
step_as_at (stage.KeptEnd frame before) v (Word word) = if v.offers.persistent then kept_ended v frame before word else v
step_as_at s v answer = step_at s v answer

abbrev pub step_as : View → FrontAnswer → View
step_as v answer = step_as_at v.stage v answer
