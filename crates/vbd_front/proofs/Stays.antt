-- A ring that is made stays made, whatever its end is told.
use Rattle.std.proofs.Common.{◌≡◌, ℕ, ◌+◌, ◌*◌, ◌%◌, ◌^◌, ◌==◌, Bool, true, false, if◌then◌else◌, [], ◌∷◌, length, refl}
use Rattle.std.specs.Prelude.{Option, Some, None, Result, Ok, Err, nat_lt, slice_set}
use Rattle.blk_base.specs.Distance.{distance_of}
use Rattle.blk_base.specs.declared.ask.FrontAnswer.{FrontAnswer}
use Rattle.blk_base.specs.declared.ask.FrontAnswer.TheVariants as answer
use Rattle.ring_words.specs.Shape.{entry_words_of}
use Rattle.ring_words.specs.Ring.{responses_of, notifies}
use Rattle.blk_layout.specs.declared.response.Response.{Response}
use Rattle.blk_layout.specs.Response.{response_of}
use Rattle.blk_front.specs.declared.request.Request.{Request}
use Rattle.blk_front.specs.declared.request.Transfer.{Transfer}
use Rattle.blk_front.specs.declared.request.Transfer.TheVariants as transfer
use Rattle.blk_front.specs.Request.{has_data, words_in, is_indirect, naming_words}
use Rattle.blk_front.specs.declared.stage.Ending.{Ending}
use Rattle.blk_front.specs.declared.stage.FrontStage.{FrontStage}
use Rattle.blk_front.specs.declared.stage.FrontStage.TheVariants as stage
use Rattle.blk_front.specs.declared.told.Told.TheVariants as told
use Rattle.blk_front.specs.View.{View, next_request}
use Rattle.blk_front.specs.Submit.{is_connected}
use Rattle.blk_front.specs.Step.{broken, looked, issued, response_at, response_step, is_mapped, at, finished, ended, revoked, sector_told, data_step}
use Rattle.blk_front.specs.Pool.{taken_from, with_free}
use Rattle.blk_front.specs.Request.{frame_at}
use Rattle.blk_front.specs.Keep.{first_place, next_place, with_grant, named_or_entered, begun_as, loop_step_as, grants, data_next, page_next, granted_as, ended_now, kept_taken, unended, kept_stage, ring_left_as, kept_gone, step_as_at}

abbrev IsMade : View → Type 0
IsMade v = is_connected v.stage ≡ true

either : (b : Bool) (x y : View) → IsMade x → IsMade y → IsMade (if b then x else y)
either true x y p q = p
either false x y p q = q

staged : (b : Bool) (s s' : FrontStage) → is_connected s ≡ true → is_connected s' ≡ true → is_connected (if b then s else s') ≡ true
staged true s s' p q = p
staged false s s' p q = q

looked_stays : (v : View) (word : ℕ) (otherwise : View) → IsMade otherwise → IsMade (looked v word otherwise)
looked_stays v word otherwise p =
    either (nat_lt (distance_of v.ring.indices.cons v.ring.indices.prod) (distance_of v.ring.indices.cons word)) (broken word v) (if word == v.ring.indices.cons then otherwise else record v { ring = record v.ring { seen = word }; stage = stage.Loop }) refl
    (either (word == v.ring.indices.cons) otherwise (record v { ring = record v.ring { seen = word }; stage = stage.Loop }) p refl)

entered_stays : (v : View) (r : Request) (place : Option ℕ) → IsMade (named_or_entered v r place)
entered_stays v r (Some place) = refl
entered_stays v r None = refl

begun_stays : (v : View) (r : Request) (way : Transfer) → IsMade (begun_as v r way)
begun_stays v r transfer.Read = either (is_indirect r.count) (at (stage.Pages 1) v) (named_or_entered v r (first_place v r)) refl (entered_stays v r (first_place v r))
begun_stays v r (transfer.Write tag) = refl
begun_stays v r (transfer.Barrier tag) = refl
begun_stays v r transfer.Flush = refl
begun_stays v r (transfer.Discard sectors) = refl

loop_stays : (v : View) (next : Option Request) (a : FrontAnswer) → IsMade v → IsMade (loop_step_as v next a)
loop_stays v (Some r) a h = begun_stays v r r.transfer
loop_stays v None (answer.Word word) h =
    either (responses_of v.ring.indices v.ring.seen == 0) (looked v word (record v { ring = record v.ring { seen = word }; stage = stage.StoreEvent })) (at (stage.ResponseHigh word) v)
    (looked_stays v word (record v { ring = record v.ring { seen = word }; stage = stage.StoreEvent }) refl) refl
loop_stays v None a h = h

response_stays : (v : View) (response : Result Response ℕ) (low : ℕ) (found : Option (ℕ × Request)) → IsMade (response_at v response low found)
response_stays v response low None = refl
response_stays v (Err word) low (Some found) = refl
response_stays v (Ok response) low (Some found) = either (length found.1.frames.items == 0) _ _ refl refl

-- where its grants are kept it is answered at once
ended_stays : (v : View) (e : Ending) → IsMade (ended e v)
ended_stays v e =
    either (has_data e.request.transfer e.status) (record v { stage = stage.ReadData 0; told = Some (told.Answer e.request.number e.status) })
    (record (finished e v) { told = Some (told.Answer e.request.number e.status) }) refl refl

unended_stays : (keeps : Bool) (v : View) → IsMade v → IsMade (unended keeps v)
unended_stays false v h = h
unended_stays true v h = by_stage v.stage
  where
    by_ending : (e : Option Ending) → IsMade (ended_now e v)
    by_ending None = h
    by_ending (Some e) = ended_stays v e

    by_stage : (s : FrontStage) → IsMade (kept_taken s v)
    by_stage (stage.GrantRead place) = by_ending v.ending
    by_stage s = h

-- a word of data was written, or of an indirect page, a frame granted, a grant ended, and a word of data read
grants_stay : (v : View) (r : Request) (place : Option ℕ) → IsMade (grants v r place)
grants_stay v r (Some place) = refl
grants_stay v r None = refl

data_next_stays : (v : View) (next : Option Request) (n : ℕ) → IsMade (data_next v next n)
data_next_stays v None n = refl
data_next_stays v (Some r) n =
    either (nat_lt (n + 1) (words_in r)) (at (stage.Data (n + 1)) v) (if is_indirect r.count then at (stage.Pages 0) v else grants v r (first_place v r)) refl
    (either (is_indirect r.count) (at (stage.Pages 0) v) (grants v r (first_place v r)) refl (grants_stay v r (first_place v r)))

page_next_stays : (v : View) (next : Option Request) (n : ℕ) → IsMade (page_next v next n)
page_next_stays v None n = refl
page_next_stays v (Some r) n = either (nat_lt (n + 1) (naming_words r)) (at (stage.Pages (n + 1)) v) (grants v r (first_place v r)) refl (grants_stay v r (first_place v r))

granted_stays : (v : View) (next : Option Request) (place : ℕ) → IsMade v → IsMade (granted_as next place v)
granted_stays v None place h = h
granted_stays v (Some r) place h = let after : View = with_grant v (frame_at r place) in grants_stay after r (next_place after r (place + 1))

revoked_stays : (v : View) (ending : Option Ending) (place : ℕ) → IsMade v → IsMade (revoked ending place v)
revoked_stays v None place h = h
revoked_stays v (Some e) place h = either (nat_lt (place + 1) (length e.request.frames.items)) (at (stage.GrantRead (place + 1)) v) (ended e v) refl (ended_stays v e)

data_stays : (v : View) (ending : Option Ending) (n word : ℕ) → IsMade v → IsMade (data_step ending n word v)
data_stays v None n word h = h
data_stays v (Some e) n word h =
    let after : View = sector_told e n (slice_set v.words (n % 128) word) v in
    either (nat_lt (n + 1) (words_in e.request)) (at (stage.ReadData (n + 1)) after) (finished e after) refl refl

-- the ring's grants are ended, and then those that were kept
kept_stays : (frame : Option ℕ) → is_connected (kept_stage frame) ≡ true
kept_stays (Some frame) = refl
kept_stays None = refl

left_stays : (v : View) (page : ℕ) → is_connected (ring_left_as v page) ≡ true
left_stays v page =
    staged (nat_lt (page + 1) (2 ^ v.shape.order)) (stage.RingRead (page + 1)) (if v.offers.persistent then kept_stage (taken_from v.kept 18) else stage.ClosePort) refl
    (staged v.offers.persistent (kept_stage (taken_from v.kept 18)) stage.ClosePort (kept_stays (taken_from v.kept 18)) refl)

gone_stays : (v : View) (frame : ℕ) → IsMade (kept_gone v frame)
gone_stays v frame = kept_stays (taken_from (with_free v.kept frame) (frame + 1))

pub stays : (s : FrontStage) (v : View) (a : FrontAnswer) → IsMade v → is_connected s ≡ true → IsMade (step_as_at s v a)
stays (stage.RingWord k) v a h c = absurd (cc)
stays (stage.RingFrame page) v a h c = absurd (cc)
stays (stage.RingFence page) v a h c = absurd (cc)
stays (stage.RingFlags page) v a h c = absurd (cc)
stays (stage.LeftData n) v a h c = absurd (cc)
stays stage.Loop v a h c = loop_stays v (next_request v) a h
stays (stage.Data n) v a h c = data_next_stays v (next_request v) n
stays (stage.Pages n) v a h c = page_next_stays v (next_request v) n
stays (stage.GrantFlags place) v a h c = granted_stays v (next_request v) place h
stays (stage.Slot k) v a h c = staged (k + 1 == entry_words_of v.shape.abi) stage.Producer (stage.Slot (k + 1)) refl refl
stays (stage.RequestEvent old) v (answer.Word event) h c = staged (notifies old v.ring.indices.prod event) stage.Send stage.Loop refl refl
stays (stage.RequestEvent old) v a h c = h
stays (stage.ResponseHigh low) v (answer.Word high) h c = refl
stays (stage.ResponseHigh low) v a h c = h
stays (stage.ResponseLast low high) v (answer.Word last) h c =
    unended_stays v.offers.persistent (response_step v low high last) (response_stays v (response_of (low ∷ high ∷ last ∷ [])) low (issued v (low + high * 2 ^ 32)))
stays (stage.ResponseLast low high) v a h c = h
stays (stage.GrantRead place) v (answer.Word word) h c = either (is_mapped word) (broken word v) (at (stage.GrantEnd place word) v) refl refl
stays (stage.GrantRead place) v a h c = h
stays (stage.GrantEnd place before) v (answer.Word word) h c = either (word == before) (revoked v.ending place v) (broken word v) (revoked_stays v v.ending place h) refl
stays (stage.GrantEnd place before) v a h c = h
stays (stage.ReadData n) v (answer.Word word) h c = data_stays v v.ending n word h
stays (stage.ReadData n) v a h c = h
stays stage.LookAgain v (answer.Word word) h c = looked_stays v word (record v { ring = record v.ring { seen = word; asleep = true }; stage = stage.Loop }) refl
stays stage.LookAgain v a h c = h
stays (stage.RingRead page) v (answer.Word word) h c = either (is_mapped word) (broken word v) (at (stage.RingEnd page word) v) refl refl
stays (stage.RingRead page) v a h c = h
stays (stage.RingEnd page before) v (answer.Word word) h c = either (word == before) (at (ring_left_as v page) v) (broken word v) (left_stays v page) refl
stays (stage.RingEnd page before) v a h c = h
stays (stage.KeptRead frame) v (answer.Word word) h c = either v.offers.persistent _ v (either (is_mapped word) (broken word v) (at (stage.KeptEnd frame word) v) refl refl) h
stays (stage.KeptRead frame) v a h c = h
stays (stage.KeptEnd frame seen) v (answer.Word word) h c = either v.offers.persistent _ v (either (word == seen) (kept_gone v frame) (broken word v) (gone_stays v frame) refl) h
stays (stage.KeptEnd frame seen) v a h c = h
stays stage.Initialised v a h c = h
stays stage.Left v a h c = h
stays stage.Closed v a h c = h
stays (stage.Broken word) v a h c = h
stays s v a h c = refl
