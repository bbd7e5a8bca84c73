-- A front whose back keeps no mapping keeps no grant, whatever happens to it; and a frontend that isn't to keep grants is as it is without that.
use Rattle.std.proofs.Common.{◌≡◌, ℕ, ◌+◌, ◌*◌, ◌/◌, ◌%◌, ◌^◌, ◌==◌, Bool, true, false, not, ◌&&◌, if◌then◌else◌, List, [], ◌∷◌, length, refl, sym, subst, ap, ◌∙◌}
use Rattle.std.specs.Prelude.{Option, Some, None, Result, Ok, Err, IfSome, nat_lt, nat_le, slice_set}
use Rattle.blk_base.specs.Distance.{distance_of}
use Rattle.blk_base.specs.declared.ask.FrontAsk.{FrontAsk}
use Rattle.blk_base.specs.declared.ask.FrontAnswer.{FrontAnswer}
use Rattle.blk_base.specs.declared.ask.FrontAnswer.TheVariants as answer
use Rattle.blk_base.specs.declared.config.Submission.{Submission}
use Rattle.blk_base.specs.declared.refusal.Refusal.{Refusal}
use Rattle.ring_words.specs.Ring.{responses_of}
use Rattle.blk_layout.specs.declared.response.Response.{Response}
use Rattle.blk_layout.specs.Response.{response_of}
use Rattle.blk_front.specs.declared.request.Request.{Request}
use Rattle.blk_front.specs.declared.request.Wish.{Wish}
use Rattle.blk_front.specs.declared.request.Transfer.{Transfer}
use Rattle.blk_front.specs.declared.request.Transfer.TheVariants as transfer
use Rattle.blk_front.specs.declared.stage.Ending.{Ending}
use Rattle.blk_front.specs.declared.stage.FrontStage.{FrontStage}
use Rattle.blk_front.specs.declared.stage.FrontStage.TheVariants as stage
use Rattle.blk_front.specs.declared.told.Told.TheVariants as told
use Rattle.blk_front.specs.declared.state.Offers.{Offers}
use Rattle.blk_front.specs.declared.state.FrontState.{FrontState}
use Rattle.blk_front.specs.declared.state.FrontState.TheVariants as state
use Rattle.blk_front.specs.Pool.{taking}
use Rattle.blk_front.specs.Request.{has_data, words_in, is_write, named_of, frames_for}
use Rattle.blk_front.specs.State.{may_enter, in_state, enters, is_open}
use Rattle.blk_front.specs.Suspend.{suspended, resumed}
use Rattle.blk_front.specs.Submit.{submit_of, submit_one, submit_with, wish_of, most_segments, frames_taken, unfinished, is_ready, is_wait}
use Rattle.blk_front.specs.View.{View, next_request}
use Rattle.blk_front.specs.Step.{at, broken, looked, begun, loop_step, entered, granted, response_at, issued, answered, freed, revokes, is_mapped, ended, finished, revoked, sector_told, data_step, left_step, ring_left, step_at, step_of}
use Rattle.blk_front.specs.Ask.{ask_of}
use Rattle.blk_front.specs.Keep.{ask_as, step_as}
use Rattle.blk_front.proofs.Plain.{plain_ask, plain_step}
use Rattle.xenbus_state.specs.declared.front.FrontNews.{FrontNews}
use Rattle.xenbus_state.specs.declared.front.FrontNews.TheVariants as news
use Rattle.xenbus_state.specs.declared.front.FrontBusAsk.{FrontBusAsk}
use Rattle.xenbus_state.specs.declared.front.FrontBusAsk.TheVariants as bus_ask
use Rattle.xenbus_state.specs.FrontView.{FrontView, ring_order, suspended as bus_suspended}
use Rattle.xenbus_state.specs.FrontAsk as bus_asks
use Rattle.vbd_front.specs.View as front
use Rattle.vbd_front.specs.View.{IsUnkept, is_unoccupied}
use Rattle.vbd_front.specs.Ask as asks
use Rattle.vbd_front.specs.Ask.{bus_ask_of, speaks, key_ask, ring_moves}
use Rattle.vbd_front.specs.Step as steps
use Rattle.vbd_front.specs.Step.{state_of_news, states_due, states_entered, all_entered, offers_of, bus_after, news_of, followed}
use Rattle.vbd_front.specs.Part.{steps_of, IsTellable, AreTellable}
use Rattle.vbd_front.specs.Keep as whole
use Rattle.vbd_front.specs.Keep.{KeepingView, IsPlain, IsTellableAs, AreTellableAs, with_ring, followed_as}
use Rattle.blk_front.specs.declared.entry_part.EntryPart.{EntryPart}
use Rattle.blk_front.specs.declared.sector_part.SectorPart.{SectorPart}
use Rattle.blk_front.specs.Part.{AllInTurn, AsksWords, AsksEach, AsksEntry, all_written, all_read}
use Rattle.ring_words.specs.Shape.{entries_of}

-- its asks and its steps are the plain ones
asks_plainly : (v : View) → IsUnkept v → ask_as v ≡ ask_of v
asks_plainly v none = plain_ask v none

steps_plainly : (v : View) (a : FrontAnswer) → IsUnkept v → step_as v a ≡ step_of v a
steps_plainly v a none = plain_step v a none

either : (b : Bool) (x y : View) → IsUnkept x → IsUnkept y → IsUnkept (if b then x else y)
either true x y p q = p
either false x y p q = q

looked_none : (v : View) (word : ℕ) (otherwise : View) → IsUnkept v → IsUnkept otherwise → IsUnkept (looked v word otherwise)
looked_none v word otherwise h p =
    either (nat_lt (distance_of v.ring.indices.cons v.ring.indices.prod) (distance_of v.ring.indices.cons word)) (broken word v) _ h
    (either (word == v.ring.indices.cons) otherwise (record v { ring = record v.ring { seen = word }; stage = stage.Loop }) p h)

begun_none : (v : View) (r : Request) (way : Transfer) → IsUnkept v → IsUnkept (begun v r way)
begun_none v r transfer.Read h = h
begun_none v r (transfer.Write tag) h = h
begun_none v r (transfer.Barrier tag) h = h
begun_none v r transfer.Flush h = h
begun_none v r (transfer.Discard sectors) h = h

loop_none : (v : View) (next : Option Request) (a : FrontAnswer) → IsUnkept v → IsUnkept (loop_step v next a)
loop_none v (Some r) a h = begun_none v r r.transfer h
loop_none v None (answer.Word word) h =
    let store : View = record v { ring = record v.ring { seen = word }; stage = stage.StoreEvent } in
    either (responses_of v.ring.indices v.ring.seen == 0) (looked v word store) (at (stage.ResponseHigh word) v) (looked_none v word store h h) h
loop_none v None a h = h

response_none : (v : View) (response : Result Response ℕ) (low : ℕ) (found : Option (ℕ × Request)) → IsUnkept v → IsUnkept (response_at v response low found)
response_none v response low None h = h
response_none v (Err word) low (Some found) h = h
response_none v (Ok response) low (Some found) h = either (length found.1.frames.items == 0) (answered (freed v found.0) found.1 response.status) (revokes (freed v found.0) found.1 response.status) h h

granted_none : (v : View) (next : Option Request) (place : ℕ) → IsUnkept v → IsUnkept (granted next place v)
granted_none v None place h = h
granted_none v (Some r) place h = either (nat_lt (place + 1) (length r.frames.items)) (at (stage.GrantFrame (place + 1)) v) (entered v r (stage.Slot 0)) h h

revoked_none : (v : View) (ending : Option Ending) (place : ℕ) → IsUnkept v → IsUnkept (revoked ending place v)
revoked_none v None place h = h
revoked_none v (Some e) place h =
    either (nat_lt (place + 1) (length e.request.frames.items)) (at (stage.GrantRead (place + 1)) v) (ended e v) h
    (either (has_data e.request.transfer e.status) (record v { stage = stage.ReadData 0; told = Some (told.Answer e.request.number e.status) })
    (record (finished e v) { told = Some (told.Answer e.request.number e.status) }) h h)

told_none : (v : View) (e : Ending) (n : ℕ) (words : List ℕ) → IsUnkept v → IsUnkept (sector_told e n words v)
told_none v e n words h = either (n % 128 == 127) (record v { words = words; told = Some (told.Sector e.request.number (n / 128) words) }) (record v { words = words }) h h

data_none : (v : View) (ending : Option Ending) (n word : ℕ) → IsUnkept v → IsUnkept (data_step ending n word v)
data_none v None n word h = h
data_none v (Some e) n word h =
    let after : View = sector_told e n (slice_set v.words (n % 128) word) v in
    let none = told_none v e n (slice_set v.words (n % 128) word) h in
    either (nat_lt (n + 1) (words_in e.request)) (at (stage.ReadData (n + 1)) after) (finished e after) none none

left_none : (v : View) (ending : Option Ending) (n word : ℕ) → IsUnkept v → IsUnkept (left_step ending n word v)
left_none v None n word h = h
left_none v (Some e) n word h =
    let after : View = sector_told e n (slice_set v.words (n % 128) word) v in
    let none = told_none v e n (slice_set v.words (n % 128) word) h in
    either (nat_lt (n + 1) (words_in e.request)) (at (stage.LeftData (n + 1)) after) (at (stage.RingWord 0) (finished e after)) none none

step_none_at : (s : FrontStage) (v : View) (a : FrontAnswer) → IsUnkept v → IsUnkept (step_at s v a)
step_none_at stage.Loop v a h = loop_none v (next_request v) a h
step_none_at (stage.GrantFlags place) v a h = granted_none v (next_request v) place h
step_none_at (stage.RequestEvent old) v (answer.Word event) h = h
step_none_at (stage.ResponseHigh low) v (answer.Word high) h = h
step_none_at (stage.ResponseLast low high) v (answer.Word last) h = response_none v (response_of (low ∷ high ∷ last ∷ [])) low (issued v (low + high * 2 ^ 32)) h
step_none_at (stage.GrantRead place) v (answer.Word word) h = either (is_mapped word) (broken word v) (at (stage.GrantEnd place word) v) h h
step_none_at (stage.GrantEnd place before) v (answer.Word word) h = either (word == before) (revoked v.ending place v) (broken word v) (revoked_none v v.ending place h) h
step_none_at (stage.ReadData n) v (answer.Word word) h = data_none v v.ending n word h
step_none_at (stage.LeftData n) v (answer.Word word) h = left_none v v.ending n word h
step_none_at stage.LookAgain v (answer.Word word) h = looked_none v word (record v { ring = record v.ring { seen = word; asleep = true }; stage = stage.Loop }) h h
step_none_at (stage.RingRead page) v (answer.Word word) h = either (is_mapped word) (broken word v) (at (stage.RingEnd page word) v) h h
step_none_at (stage.RingEnd page before) v (answer.Word word) h = either (word == before) (at (ring_left v page) v) (broken word v) h h
step_none_at s v a h = h

step_none : (v : View) (a : FrontAnswer) → IsUnkept v → IsUnkept (step_of v a)
step_none v a h = step_none_at v.stage v a h

-- a request was handed to it
abbrev AsTold : Result ℕ Refusal × View → Type 0
AsTold after = IsUnkept after.1

chosen : (b : Bool) (x y : Result ℕ Refusal × View) → AsTold x → AsTold y → AsTold (if b then x else y)
chosen true x y p q = p
chosen false x y p q = q

with_none : (v : View) (wish : Wish) (taken : Option (List ℕ × List Bool)) → IsUnkept v → AsTold (submit_with v wish taken)
with_none v wish None h = h
with_none v wish (Some taken) h = h

one_none : (v : View) (wish : Option Wish) → IsUnkept v → AsTold (submit_one v wish)
one_none v None h = h
one_none v (Some wish) h =
    chosen (is_write wish.transfer && v.offers.read_only) _ _ h
    (chosen (nat_lt v.offers.sectors (wish.sector + named_of wish.transfer wish.count)) _ _ h
    (chosen (nat_lt (most_segments v.offers wish.transfer) (frames_for wish.count)) _ _ h
    (chosen (nat_le (entries_of v.shape.order) (unfinished v)) _ _ h
    (with_none v wish (taking (frames_taken wish.count) v.pool []) h))))

submit_none : (v : View) (job : Submission) → IsUnkept v → IsUnkept (submit_of v job).1
submit_none v job h = chosen (v.last == 4294967295) _ _ h (chosen v.closing _ _ h (chosen (not (is_ready v.stage)) _ _ h (one_none v (wish_of v.offers job) h)))

-- its domain was suspended
suspend_none : (v : View) → IsUnkept v → IsUnkept (suspended v)
suspend_none v h = either (is_open v.stage) (resumed v) v refl h

-- it enters states, of which one has the offers of a back that keeps no mapping
abbrev IsPlainState : FrontState → Type 0
IsPlainState (state.Connected offers) = offers.persistent ≡ false
IsPlainState s = Unit {0}

state_none : (s : FrontState) (v : View) → IsPlainState s → IsUnkept v → IsUnkept (in_state s v)
state_none (state.Connected offers) v p h = p
state_none (state.Agreed order) v p h = h
state_none state.Closing v p h = h
state_none state.Leaving v p h = h
state_none state.Closed v p h = h
state_none (state.Broken word) v p h = h

enter_none : (s : FrontState) (v : View) → IsPlainState s → IsUnkept v → IsUnkept (enters s v)
enter_none s v p h = either (may_enter s v) (in_state s v) v (state_none s v p h) h

news_plain : (offers : Offers) (n : FrontNews) → offers.persistent ≡ false → IsPlainState (state_of_news offers n)
news_plain offers news.Ready p = p
news_plain offers news.Closing p = tt
news_plain offers news.Closed p = tt
news_plain offers (news.Broken word) p = tt

due_none : (due : FrontBusAsk) (order : ℕ) (v : View) → IsUnkept v → IsUnkept (all_entered (states_due due order) v)
due_none (bus_ask.WriteRingWord word) order v h = enter_none (state.Agreed order) v tt h
due_none (bus_ask.EndGrant page) order v h = enter_none state.Leaving v tt h
due_none due order v h = h

entered_none : (offers : Offers) (n : Option FrontNews) (due : FrontBusAsk) (order : ℕ) (v : View) → offers.persistent ≡ false → IsUnkept v → IsUnkept (all_entered (states_entered offers n due order) v)
entered_none offers None due order v p h = due_none due order v h
entered_none offers (Some n) due order v p h = due_none due order _ (enter_none (state_of_news offers n) v (news_plain offers n p) h)

-- a frontend that isn't to keep grants asks for what it would without
ring_plainly : (b : Bool) (v : front.View) → IsUnkept v.ring → whole.ring_ask_as b v.ring ≡ asks.ring_ask b v
ring_plainly true v none = asks_plainly v.ring none
ring_plainly false v none = refl

pub asks_as_plain : (k : KeepingView) → IsPlain k → whole.ask_as k ≡ asks.ask_of k.ends
asks_as_plain k plain =
    let a : FrontBusAsk = bus_ask_of k.ends in
    ap (λ (x : FrontAsk). if speaks a then key_ask a else x) (ring_plainly (ring_moves a k.ends.ring.stage) k.ends plain.ring)

pub answers_as_plain : (k : KeepingView) (a : FrontAnswer) → IsPlain k → asks.IsAnswer (asks.ask_of k.ends) a → asks.IsAnswer (whole.ask_as k) a
answers_as_plain k a plain = subst (λ (x : FrontAsk). asks.IsAnswer x a) (sym (asks_as_plain k plain))

pub waits_plainly : (k : KeepingView) → IsPlain k → whole.is_waiting_as k ≡ asks.is_waiting k.ends
waits_plainly k plain = ap is_wait (asks_as_plain k plain)

-- and comes to what it would
follows_plainly : (a : FrontBusAsk) (earlier later : FrontStage) (idle : Bool) (w : FrontView) (x : FrontAnswer) → followed_as a earlier false later idle w x ≡ followed a later idle w x
follows_plainly (bus_ask.EndGrant page) (stage.RingEnd k seen) later idle w x = refl
follows_plainly (bus_ask.EndGrant page) s later idle w x = refl
follows_plainly bus_ask.EndOtherGrants (stage.KeptEnd frame seen) later idle w x = refl
follows_plainly bus_ask.EndOtherGrants s later idle w x = refl
follows_plainly a earlier later idle w x = refl

moves_plainly : (b : Bool) (a : FrontBusAsk) (v : front.View) (x : FrontAnswer) → IsUnkept v.ring → whole.ring_step_as b false a v x ≡ steps.ring_step b a v x
moves_plainly true a v x none =
    ap (λ (r : View). record v { ring = r; bus = followed_as a v.ring.stage false r.stage (is_unoccupied v.ring) v.bus x }) (steps_plainly v.ring x none)
    ∙ ap (λ (w : FrontView). record v { ring = step_of v.ring x; bus = w }) (follows_plainly a v.ring.stage (step_of v.ring x).stage (is_unoccupied v.ring) v.bus x)
moves_plainly false a v x none = refl

step_plainly : (k : KeepingView) (x : FrontAnswer) → IsPlain k → whole.step_as k x ≡ record k { ends = steps.step_of k.ends x }
step_plainly k x plain =
    let v : front.View = k.ends in
    let a : FrontBusAsk = bus_ask_of v in
    ap (λ (b : Bool). record k { ends = whole.step_as_at b a v x }) plain.never
    ∙ ap (λ (w : front.View). record k { ends = if speaks a then steps.spoken v x else w }) (moves_plainly (ring_moves a v.ring.stage) a v x plain.ring)

stepped_none : (v : front.View) (x : FrontAnswer) → IsUnkept v.ring → IsUnkept (steps.step_of v x).ring
stepped_none v x none = by_speaker (speaks (bus_ask_of v)) (ring_moves (bus_ask_of v) v.ring.stage)
  where
    by_speaker : (b m : Bool) → IsUnkept (if b then steps.spoken v x else steps.ring_step m (bus_ask_of v) v x).ring
    by_speaker true m = entered_none (offers_of (bus_after v x)) (news_of v x) (bus_asks.ask_of (bus_after v x) (is_unoccupied v.ring)) (ring_order (bus_after v x)) v.ring refl none
    by_speaker false true = step_none v.ring x none
    by_speaker false false = none

-- one that wasn't to keep grants came to what it would without, and isn't to keep them still
pub record CamePlainly (new : KeepingView) (wanted : front.View) : Type 0 where
  pub is : new.ends ≡ wanted
  pub plain : IsPlain new

pub stepped : (k new : KeepingView) (x : FrontAnswer) → IsPlain k → new ≡ whole.step_as k x → CamePlainly new (steps.step_of k.ends x)
stepped k new x plain e =
    let is : new ≡ record k { ends = steps.step_of k.ends x } = e ∙ step_plainly k x plain in
    record { is = ap (λ (l : KeepingView). l.ends) is; plain = rw is (record { never = plain.never; ring = stepped_none k.ends x plain.ring }) }

pub closed_none : (k : KeepingView) → IsPlain k → IsPlain (whole.closes_as k)
closed_none k plain = record { never = plain.never; ring = enter_none state.Closing k.ends.ring tt plain.ring }

pub suspended_none : (k : KeepingView) → IsPlain k → IsPlain (whole.suspended_as k)
suspended_none k plain = record { never = plain.never; ring = by_open (is_open k.ends.ring.stage) }
  where
    by_open : (b : Bool) → IsUnkept (if b then record { ring = suspended k.ends.ring; bus = bus_suspended k.ends.bus; news = k.ends.news } else k.ends).ring
    by_open true = suspend_none k.ends.ring plain.ring
    by_open false = plain.ring

pub handed_none : (k : KeepingView) (job : Submission) → IsPlain k → IsPlain (with_ring k (submit_of k.ends.ring job).1)
handed_none k job plain = record { never = plain.never; ring = submit_none k.ends.ring job plain.ring }

-- after many answers, one after another
pub many_stepped : (xs : List FrontAnswer) (k new : KeepingView) → IsPlain k → new ≡ whole.steps_as k xs → CamePlainly new (steps_of k.ends xs)
many_stepped [] k new plain e = record { is = ap (λ (l : KeepingView). l.ends) e; plain = rw e plain }
many_stepped (x ∷ rest) k new plain e =
    let first = stepped k (whole.step_as k x) x plain refl in
    let all = many_stepped rest (whole.step_as k x) new first.plain e in
    record { is = all.is ∙ ap (λ (v : front.View). steps_of v rest) first.is; plain = all.plain }

told_at : (xs : List FrontAnswer) (k : KeepingView) (n : Option FrontNews) → IsPlain k
    → AllInTurn (λ l x. IsTellableAs l x × (l.ends.news ≡ n)) whole.step_as k xs → AllInTurn (λ w x. IsTellable w x × (w.news ≡ n)) steps.step_of k.ends xs
told_at [] k n plain each = tt
told_at (x ∷ rest) k n plain each =
    let first = stepped k (whole.step_as k x) x plain refl in (
      ((subst (λ (a : FrontAsk). asks.IsAnswer a x) (asks_as_plain k plain) each.0.0.0, each.0.0.1), each.0.1),
      subst (λ (v : front.View). AllInTurn (λ w y. IsTellable w y × (w.news ≡ n)) steps.step_of v rest) first.is (told_at rest (whole.step_as k x) n first.plain each.1),
    )

pub many_told : (xs : List FrontAnswer) (k : KeepingView) → IsPlain k → AreTellableAs k xs → AreTellable k.ends xs
many_told xs k plain each = told_at xs k k.ends.news plain each

later_plainly : (xs : List FrontAnswer) (k : KeepingView) → IsPlain k → asks.ask_of (steps_of k.ends xs) ≡ whole.ask_as (whole.steps_as k xs)
later_plainly xs k plain = let all = many_stepped xs k (whole.steps_as k xs) plain refl in ap asks.ask_of (sym all.is) ∙ sym (asks_as_plain (whole.steps_as k xs) all.plain)

words_plainly : (k : KeepingView) (part : SectorPart) (value : Option ℕ) → IsPlain k → AsksWords whole.ask_as whole.step_as k part value → AsksWords asks.ask_of steps.step_of k.ends part value
words_plainly k part (Some value) plain each = λ n less. later_plainly (all_written n) k plain ∙ each n less
words_plainly k part None plain each = λ words less. later_plainly (all_read words) k plain ∙ each words less

pub parts_plainly : (k : KeepingView) (part : Option SectorPart) → IsPlain k → IfSome part (AsksEach whole.ask_as whole.step_as k) → IfSome part (AsksEach asks.ask_of steps.step_of k.ends)
parts_plainly k None plain each = tt
parts_plainly k (Some part) plain each = words_plainly k part part.value plain each

pub entries_plainly : (k : KeepingView) (words : List ℕ) (part : Option EntryPart) → IsPlain k → IfSome part (AsksEntry whole.ask_as whole.step_as k words) → IfSome part (AsksEntry asks.ask_of steps.step_of k.ends words)
entries_plainly k words None plain each = tt
entries_plainly k words (Some part) plain each = λ n less. later_plainly (all_written n) k plain ∙ each n less
