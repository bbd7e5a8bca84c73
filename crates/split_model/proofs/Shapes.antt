-- The shape of the ring, as each end has it: a step leaves it as it is.
use Rattle.std.proofs.Common.{◌≡◌, ℕ, ◌+◌, ◌*◌, ◌/◌, ◌%◌, ◌^◌, ◌≤◌, ◌&&◌, Bool, true, false, true≢false, if◌then◌else◌, List, ◌∷◌, [], ◌++◌, length, refl, sym, arith}
use Rattle.std.specs.Prelude.{Option, Some, None, Result, Ok, Err, nat_lt, nat_le, ◌==◌}
use Rattle.std.proofs.lemmas.Bool.Decides.{nat_tests}
use Rattle.blk_base.specs.Distance.{distance_of}
use Rattle.blk_base.specs.declared.ask.FrontAnswer.{FrontAnswer}
use Rattle.blk_base.specs.declared.ask.FrontAnswer.TheVariants as answer
use Rattle.blk_base.specs.declared.ask.BackAnswer.{BackAnswer}
use Rattle.blk_base.specs.declared.ask.BackAnswer.TheVariants as back_answer
use Rattle.blk_layout.specs.declared.response.Response.{Response}
use Rattle.blk_layout.specs.Response.{response_of}
use Rattle.ring_words.specs.Ring.{responses_of, requests_of, overruns}
use Rattle.ring_words.specs.Shape.{Shape, entries_of, entry_words_of}
use Rattle.blk_front.specs.declared.stage.FrontStage.{FrontStage}
use Rattle.blk_front.specs.declared.stage.FrontStage.TheVariants as stage
use Rattle.blk_front.specs.declared.stage.Ending.{Ending}
use Rattle.blk_front.specs.declared.state.FrontState.{FrontState}
use Rattle.blk_front.specs.declared.state.FrontState.TheVariants as state
use Rattle.blk_front.specs.declared.request.Request.{Request}
use Rattle.blk_front.specs.declared.request.Transfer.{Transfer}
use Rattle.blk_front.specs.declared.request.Transfer.TheVariants as transfer
use Rattle.blk_front.specs.declared.told.Told.TheVariants as told
use Rattle.blk_front.specs.Request.{has_data, words_in}
use Rattle.blk_front.specs.View.{View, next_request}
use Rattle.blk_front.specs.Step.{at, broken, ring_left, looked, begun, granted, loop_step, issued, response_at, is_mapped, ended, revoked, sector_told, data_step, left_step, step_at, step_of}
use Rattle.blk_front.specs.State.{is_unmade, may_enter, in_state}
use Rattle.blk_back.specs.declared.stage.BackStage.{BackStage}
use Rattle.blk_back.specs.declared.stage.BackStage.TheVariants as back_stage
use Rattle.blk_back.specs.declared.stage.Reply.{Reply}
use Rattle.blk_back.specs.View as back
use Rattle.blk_back.specs.Ask.{next_reply}
use Rattle.blk_back.specs.Step as back_step
pub use Rattle.back_laws.proofs.Calls.{attaches_waiting, attaches_order, attaches_grefs, few_entries}

either : (b : Bool) (x y : View) (s : Shape) → x.shape ≡ s → y.shape ≡ s → (if b then x else y).shape ≡ s
either true x y s p q = p
either false x y s p q = q

looked_shape : (v : View) (word : ℕ) (otherwise : View) → otherwise.shape ≡ v.shape → (looked v word otherwise).shape ≡ v.shape
looked_shape v word otherwise h =
    either (nat_lt (distance_of v.ring.indices.cons v.ring.indices.prod) (distance_of v.ring.indices.cons word)) (broken word v) (if word == v.ring.indices.cons then otherwise else record v { ring = record v.ring { seen = word }; stage = stage.Loop }) v.shape refl
    (either (word == v.ring.indices.cons) otherwise (record v { ring = record v.ring { seen = word }; stage = stage.Loop }) v.shape h refl)

begun_shape : (v : View) (r : Request) (way : Transfer) → (begun v r way).shape ≡ v.shape
begun_shape v r transfer.Read = refl
begun_shape v r (transfer.Write tag) = refl
begun_shape v r (transfer.Barrier tag) = refl
begun_shape v r transfer.Flush = refl
begun_shape v r (transfer.Discard sectors) = refl

loop_shape : (v : View) (r : Option Request) (x : FrontAnswer) → (loop_step v r x).shape ≡ v.shape
loop_shape v (Some r) x = begun_shape v r r.transfer
loop_shape v None (answer.Word word) =
    either (responses_of v.ring.indices v.ring.seen == 0) (looked v word (record v { ring = record v.ring { seen = word }; stage = stage.StoreEvent })) (at (stage.ResponseHigh word) v) v.shape
    (looked_shape v word (record v { ring = record v.ring { seen = word }; stage = stage.StoreEvent }) refl) refl
loop_shape v None answer.Event = refl
loop_shape v None x = refl

granted_shape : (v : View) (r : Option Request) (place : ℕ) → (granted r place v).shape ≡ v.shape
granted_shape v None place = refl
granted_shape v (Some r) place = either (nat_lt (place + 1) (length r.frames.items)) _ _ v.shape refl refl

response_shape : (v : View) (response : Result Response ℕ) (low : ℕ) (found : Option (ℕ × Request)) → (response_at v response low found).shape ≡ v.shape
response_shape v response low None = refl
response_shape v (Err word) low (Some found) = refl
response_shape v (Ok response) low (Some found) = either (length found.1.frames.items == 0) _ _ v.shape refl refl

ended_shape : (v : View) (e : Ending) → (ended e v).shape ≡ v.shape
ended_shape v e = either (has_data e.request.transfer e.status) _ _ v.shape refl refl

revoked_shape : (v : View) (e : Option Ending) (place : ℕ) → (revoked e place v).shape ≡ v.shape
revoked_shape v None place = refl
revoked_shape v (Some e) place = either (nat_lt (place + 1) (length e.request.frames.items)) _ _ v.shape refl (ended_shape v e)

told_shape : (v : View) (e : Ending) (n : ℕ) (words : List ℕ) → (sector_told e n words v).shape ≡ v.shape
told_shape v e n words = either (n % 128 == 127) (record v { words = words; told = Some (told.Sector e.request.number (n / 128) words) }) (record v { words = words }) v.shape refl refl

data_shape : (v : View) (e : Option Ending) (n word : ℕ) → (data_step e n word v).shape ≡ v.shape
data_shape v None n word = refl
data_shape v (Some e) n word = either (nat_lt (n + 1) (words_in e.request)) _ _ v.shape (told_shape v e n _) (told_shape v e n _)

left_shape : (v : View) (e : Option Ending) (n word : ℕ) → (left_step e n word v).shape ≡ v.shape
left_shape v None n word = refl
left_shape v (Some e) n word = either (nat_lt (n + 1) (words_in e.request)) _ _ v.shape (told_shape v e n _) (told_shape v e n _)

pub front_shape : (s : FrontStage) (v : View) (x : FrontAnswer) → (step_at s v x).shape ≡ v.shape
front_shape stage.Loop v x = loop_shape v (next_request v) x
front_shape (stage.GrantFlags place) v x = granted_shape v (next_request v) place
front_shape (stage.ResponseLast low high) v (answer.Word last) = response_shape v (response_of (low ∷ high ∷ last ∷ [])) low (issued v (low + high * 2 ^ 32))
front_shape (stage.RequestEvent old) v (answer.Word event) = refl
front_shape (stage.ResponseHigh low) v (answer.Word high) = refl
front_shape (stage.GrantRead place) v (answer.Word word) = either (is_mapped word) (broken word v) (at (stage.GrantEnd place word) v) v.shape refl refl
front_shape (stage.GrantEnd place before) v (answer.Word word) = either (word == before) (revoked v.ending place v) (broken word v) v.shape (revoked_shape v v.ending place) refl
front_shape (stage.ReadData n) v (answer.Word word) = data_shape v v.ending n word
front_shape (stage.LeftData n) v (answer.Word word) = left_shape v v.ending n word
front_shape stage.LookAgain v (answer.Word word) = looked_shape v word (record v { ring = record v.ring { seen = word; asleep = true }; stage = stage.Loop }) refl
front_shape (stage.RingRead page) v (answer.Word word) = either (is_mapped word) (broken word v) (at (stage.RingEnd page word) v) v.shape refl refl
front_shape (stage.RingEnd page before) v (answer.Word word) = either (word == before) (at (ring_left v page) v) (broken word v) v.shape refl refl
front_shape s v x = refl

-- whatever the front is told
pub step_shape : (v : View) (x : FrontAnswer) → (step_of v x).shape ≡ v.shape
step_shape v x = front_shape v.stage v x

-- of three tests that hold the second does
second_of : (a b c : Bool) → (a && b && c) ≡ true → b ≡ true
second_of true true c may = refl
second_of true false c may = may
second_of false b c may = absurd (true≢false (sym may))

is_low : (a b : ℕ) → nat_le a b ≡ true → a ≤ b
is_low a b test = grind (arith, nat_tests)

-- a state that it enters leaves it, but for an order that is agreed, which is no greater
pub entered_order : (s : FrontState) (v : View) → may_enter s v ≡ true → (in_state s v).shape.order ≤ v.shape.order
entered_order (state.Agreed order) v may = is_low order v.shape.order (second_of (is_unmade v.stage) (nat_le order v.shape.order) (nat_le (length v.requests) (entries_of order)) may)
entered_order (state.Connected offers) v may = omega arith
entered_order state.Closing v may = omega arith
entered_order state.Leaving v may = omega arith
entered_order state.Closed v may = omega arith
entered_order (state.Broken word) v may = omega arith

either_back : (b : Bool) (x y : back.View) (s : Shape) → x.shape ≡ s → y.shape ≡ s → (if b then x else y).shape ≡ s
either_back true x y s p q = p
either_back false x y s p q = q

looked_back : (v : back.View) (word : ℕ) (otherwise : back.View) → otherwise.shape ≡ v.shape → (back_step.looked v word otherwise).shape ≡ v.shape
looked_back v word otherwise h =
    either_back (overruns v.ring.indices word) (back_step.overrun v word) (if word == v.ring.indices.cons then otherwise else record v { ring = record v.ring { seen = word }; stage = back_stage.Loop }) v.shape refl
    (either_back (word == v.ring.indices.cons) otherwise (record v { ring = record v.ring { seen = word }; stage = back_stage.Loop }) v.shape h refl)

loop_back : (v : back.View) (r : Option Reply) (x : BackAnswer) → (back_step.loop_step v r x).shape ≡ v.shape
loop_back v (Some r) x = refl
loop_back v None (back_answer.Word word) =
    either_back (requests_of v.ring.indices v.ring.seen == 0) (back_step.looked v word (record v { ring = record v.ring { seen = word }; stage = back_stage.StoreEvent })) (record v { ring = record v.ring { entry = word ∷ [] }; stage = back_stage.Fetch 1 }) v.shape
    (looked_back v word (record v { ring = record v.ring { seen = word }; stage = back_stage.StoreEvent }) refl) refl
loop_back v None back_answer.Event = refl
loop_back v None x = refl

back_shape_at : (s : BackStage) (v : back.View) (x : BackAnswer) → (back_step.step_at s v x).shape ≡ v.shape
back_shape_at back_stage.MapRing v (back_answer.MapRefused status) = refl
back_shape_at back_stage.Bind v back_answer.BindRefused = refl
back_shape_at back_stage.Loop v x = loop_back v (next_reply v) x
back_shape_at (back_stage.Fetch k) v (back_answer.Word word) = either_back (k + 1 == entry_words_of v.shape.abi) (back_step.fetched v (v.ring.entry ++ word ∷ [])) (record v { ring = record v.ring { entry = v.ring.entry ++ word ∷ [] }; stage = back_stage.Fetch (k + 1) }) v.shape refl refl
back_shape_at (back_stage.ResponseEvent old) v (back_answer.Word event) = refl
back_shape_at back_stage.LookAgain v (back_answer.Word word) = looked_back v word (record v { ring = record v.ring { seen = word; asleep = true }; stage = back_stage.Loop }) refl
back_shape_at s v x = refl

-- whatever the back is told
pub back_shape : (v : back.View) (x : BackAnswer) → (back_step.step_of v x).shape ≡ v.shape
back_shape v x = back_shape_at v.stage v x
