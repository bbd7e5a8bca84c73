-- What a step, a state that it enters and a submission leave of the front: its disk, the first index of its ring, and that it makes its port once in an epoch.
use Rattle.std.proofs.Common.{◌≡◌, ℕ, ◌+◌, ◌*◌, ◌/◌, ◌%◌, ◌^◌, ◌&&◌, Bool, true, false, not, if◌then◌else◌, List, [], ◌∷◌, length, refl, arith}
use Rattle.std.specs.Prelude.{Option, Some, None, Result, Ok, Err, nat_lt, nat_le, ◌==◌, slice_set}
use Rattle.blk_base.specs.Distance.{distance_of}
use Rattle.blk_base.specs.declared.config.Submission.{Submission}
use Rattle.blk_base.specs.declared.ask.FrontAnswer.{FrontAnswer}
use Rattle.blk_base.specs.declared.ask.FrontAnswer.TheVariants as answer
use Rattle.ring_words.specs.Ring.{responses_of, notifies}
use Rattle.ring_words.specs.Shape.{entries_of, entry_words_of}
use Rattle.blk_layout.specs.declared.response.Response.{Response}
use Rattle.blk_layout.specs.Response.{response_of}
use Rattle.event_channel.specs.Channels.{ChannelState, fresh_channels}
use Rattle.hypervisor.specs.Hypervisor.{Hypervisor}
use Rattle.hypervisor.specs.Act.{FrontAct, front_act}
use Rattle.blk_front.specs.declared.stage.FrontStage.{FrontStage}
use Rattle.blk_front.specs.declared.stage.FrontStage.TheVariants as stage
use Rattle.blk_front.specs.declared.stage.Ending.{Ending}
use Rattle.blk_front.specs.declared.request.Request.{Request}
use Rattle.blk_front.specs.declared.request.Transfer.{Transfer}
use Rattle.blk_front.specs.declared.request.Transfer.TheVariants as transfer
use Rattle.blk_front.specs.declared.state.FrontState.{FrontState}
use Rattle.blk_front.specs.declared.state.FrontState.TheVariants as state
use Rattle.blk_base.specs.declared.refusal.Refusal.{Refusal}
use Rattle.blk_base.specs.declared.refusal.Refusal.TheVariants as refusal
use Rattle.blk_front.specs.declared.request.Wish.{Wish}
use Rattle.blk_front.specs.declared.told.Told.TheVariants as told
use Rattle.blk_front.specs.Pool.{taking}
use Rattle.blk_front.specs.Request.{is_write, named_of, has_data, words_in, frames_for, is_indirect, naming_words}
use Rattle.blk_front.specs.View.{View, next_request}
use Rattle.blk_front.specs.Ask.{ask_at, read_ask}
use Rattle.blk_front.specs.Step.{at, broken, looked, begun, after_data, data_stage, page_stage, granted, loop_step, issued, response_at, is_mapped, ring_left, ended, revoked, sector_told, data_step, left_step, step_at, step_of}
use Rattle.blk_front.specs.State.{in_state, enters}
use Rattle.blk_front.specs.Submit.{is_ready, unfinished, wish_of, most_segments, frames_taken, submit_with, submit_one, submit_of}
use Rattle.split_model.specs.Safe.{HasNoPort, IsPorted}
use Rattle.split_model.proofs.SafeActs.{of_front, front_wait}
use Rattle.split_model.proofs.States.{enters_cases}

-- there is no port yet, but where one is being made or was
abbrev pub IsUnported : FrontStage → ChannelState → Type 0
IsUnported stage.NewPort c = Unit {0}
IsUnported s c = IsPorted s c

-- the data that are in hand after a suspend are read, which leaves the ports
left_channels : (e : Option Ending) (n : ℕ) (h : Hypervisor) (a : FrontAct) → front_act h (read_ask e n) ≡ Some a → HasNoPort h.channels → HasNoPort a.under.channels
left_channels None n h a e none = front_wait (λ (x : FrontAct). HasNoPort x.under.channels) h a none (λ path. none) e
left_channels (Some ending) n h a e none = of_front (λ (x : FrontAct). HasNoPort x.under.channels) _ a none e

-- before it makes its port the front leaves the ports as they are
pub channels_front : (s : FrontStage) (v : View) (h : Hypervisor) (a : FrontAct) → front_act h (ask_at s v) ≡ Some a → IsPorted s h.channels → IsUnported s a.under.channels
channels_front (stage.RingWord k) v h a e ported = of_front (λ (x : FrontAct). IsPorted stage.NewPort x.under.channels) _ a ported e
channels_front (stage.RingFrame page) v h a e ported = of_front (λ (x : FrontAct). IsPorted stage.NewPort x.under.channels) _ a ported e
channels_front (stage.RingFence page) v h a e ported = of_front (λ (x : FrontAct). IsPorted stage.NewPort x.under.channels) _ a ported e
channels_front (stage.RingFlags page) v h a e ported = of_front (λ (x : FrontAct). IsPorted stage.NewPort x.under.channels) _ a ported e
channels_front (stage.LeftData n) v h a e ported = left_channels v.ending n h a e ported
channels_front s v h a e ported = tt

-- a front of the same first index, whose stage fits the channels
abbrev pub Fits : View → ChannelState → View → Type 0
Fits v c x = IsPorted x.stage c × (x.start ≡ v.start)

either : (b : Bool) (x y v : View) (c : ChannelState) → Fits v c x → Fits v c y → Fits v c (if b then x else y)
either true x y v c p q = p
either false x y v c p q = q

either_stage : (b : Bool) (x y : FrontStage) (c : ChannelState) → IsPorted x c → IsPorted y c → IsPorted (if b then x else y) c
either_stage true x y c p q = p
either_stage false x y c p q = q

stays : (s : FrontStage) (v : View) (c : ChannelState) → v.stage ≡ s → IsPorted s c → Fits v c v
stays s v c here ported = (rw here ported, refl)

looked_fits : (v : View) (word : ℕ) (otherwise : View) (c : ChannelState) → Fits v c otherwise → Fits v c (looked v word otherwise)
looked_fits v word otherwise c h =
    either (nat_lt (distance_of v.ring.indices.cons v.ring.indices.prod) (distance_of v.ring.indices.cons word)) (broken word v) (if word == v.ring.indices.cons then otherwise else record v { ring = record v.ring { seen = word }; stage = stage.Loop }) v c (tt, refl)
    (either (word == v.ring.indices.cons) otherwise (record v { ring = record v.ring { seen = word }; stage = stage.Loop }) v c h (tt, refl))

begun_fits : (v : View) (r : Request) (way : Transfer) (c : ChannelState) → Fits v c (begun v r way)
begun_fits v r transfer.Read c = (either_stage (is_indirect r.count) (stage.Pages 1) (stage.GrantFence 0) c tt tt, refl)
begun_fits v r (transfer.Write tag) c = (tt, refl)
begun_fits v r (transfer.Barrier tag) c = (tt, refl)
begun_fits v r transfer.Flush c = (tt, refl)
begun_fits v r (transfer.Discard sectors) c = (tt, refl)

data_stage_fits : (r : Option Request) (n : ℕ) (c : ChannelState) → IsPorted (data_stage r n) c
data_stage_fits None n c = tt
data_stage_fits (Some r) n c = either_stage (nat_lt (n + 1) (words_in r)) (stage.Data (n + 1)) (after_data r) c tt (either_stage (is_indirect r.count) (stage.Pages 0) (stage.GrantFrame 0) c tt tt)

page_stage_fits : (r : Option Request) (n : ℕ) (c : ChannelState) → IsPorted (page_stage r n) c
page_stage_fits None n c = tt
page_stage_fits (Some r) n c = either_stage (nat_lt (n + 1) (naming_words r)) (stage.Pages (n + 1)) (stage.GrantFrame 0) c tt tt

granted_fits : (v : View) (r : Option Request) (place : ℕ) (c : ChannelState) → v.stage ≡ stage.GrantFlags place → Fits v c (granted r place v)
granted_fits v None place c here = stays (stage.GrantFlags place) v c here tt
granted_fits v (Some r) place c here = either (nat_lt (place + 1) (length r.frames.items)) _ _ v c (tt, refl) (tt, refl)

loop_fits : (v : View) (r : Option Request) (x : FrontAnswer) (c : ChannelState) → v.stage ≡ stage.Loop → Fits v c (loop_step v r x)
loop_fits v (Some r) x c here = begun_fits v r r.transfer c
loop_fits v None (answer.Word word) c here =
    either (responses_of v.ring.indices v.ring.seen == 0) (looked v word (record v { ring = record v.ring { seen = word }; stage = stage.StoreEvent })) (at (stage.ResponseHigh word) v) v c
    (looked_fits v word (record v { ring = record v.ring { seen = word }; stage = stage.StoreEvent }) c (tt, refl)) (tt, refl)
loop_fits v None answer.Event c here = stays stage.Loop (record v { ring = record v.ring { asleep = false } }) c here tt
loop_fits v None x c here = stays stage.Loop v c here tt

response_fits : (v : View) (response : Result Response ℕ) (low : ℕ) (found : Option (ℕ × Request)) (c : ChannelState) → Fits v c (response_at v response low found)
response_fits v response low None c = (tt, refl)
response_fits v (Err word) low (Some found) c = (tt, refl)
response_fits v (Ok response) low (Some found) c = either (length found.1.frames.items == 0) _ _ v c (tt, refl) (tt, refl)

ended_fits : (v : View) (e : Ending) (c : ChannelState) → Fits v c (ended e v)
ended_fits v e c = either (has_data e.request.transfer e.status) _ _ v c (tt, refl) (tt, refl)

revoked_fits : (v : View) (e : Option Ending) (place before : ℕ) (c : ChannelState) → v.stage ≡ stage.GrantEnd place before → Fits v c (revoked e place v)
revoked_fits v None place before c here = stays (stage.GrantEnd place before) v c here tt
revoked_fits v (Some e) place before c here = either (nat_lt (place + 1) (length e.request.frames.items)) _ _ v c (tt, refl) (ended_fits v e c)

-- what is told of a sector leaves the first index
told_leaves : (v : View) (e : Ending) (n : ℕ) (words : List ℕ) → (sector_told e n words v).start ≡ v.start
told_leaves v e n words = by_last (n % 128 == 127)
  where
    by_last : (b : Bool) → (if b then record v { words = words; told = Some (told.Sector e.request.number (n / 128) words) } else record v { words = words }).start ≡ v.start
    by_last true = refl
    by_last false = refl

data_fits : (v : View) (e : Option Ending) (n word : ℕ) (c : ChannelState) → v.stage ≡ stage.ReadData n → Fits v c (data_step e n word v)
data_fits v None n word c here = stays (stage.ReadData n) v c here tt
data_fits v (Some e) n word c here =
    let same = told_leaves v e n (slice_set v.words (n % 128) word) in
    either (nat_lt (n + 1) (words_in e.request)) _ _ v c (tt, same) (tt, same)

left_fits : (v : View) (e : Option Ending) (n word : ℕ) (c : ChannelState) → v.stage ≡ stage.LeftData n → HasNoPort c → Fits v c (left_step e n word v)
left_fits v None n word c here none = stays (stage.LeftData n) v c here none
left_fits v (Some e) n word c here none =
    let same = told_leaves v e n (slice_set v.words (n % 128) word) in
    either (nat_lt (n + 1) (words_in e.request)) _ _ v c (none, same) (none, same)

step_fits_at : (s : FrontStage) (v : View) (x : FrontAnswer) (c : ChannelState) → v.stage ≡ s → IsUnported s c → Fits v c (step_at s v x)
step_fits_at (stage.RingWord k) v x c here p = (either_stage (k == 15) (stage.RingFrame 0) (stage.RingWord (k + 1)) c p p, refl)
step_fits_at (stage.RingFrame page) v x c here p = (p, refl)
step_fits_at (stage.RingFence page) v x c here p = (p, refl)
step_fits_at (stage.RingFlags page) v x c here p = (either_stage (nat_lt (page + 1) (2 ^ v.shape.order)) (stage.RingFrame (page + 1)) stage.NewPort c p p, refl)
step_fits_at stage.NewPort v x c here p = (tt, refl)
step_fits_at stage.Loop v x c here p = loop_fits v (next_request v) x c here
step_fits_at (stage.Data n) v x c here p = (data_stage_fits (next_request v) n c, refl)
step_fits_at (stage.Pages n) v x c here p = (page_stage_fits (next_request v) n c, refl)
step_fits_at (stage.GrantFrame place) v x c here p = (tt, refl)
step_fits_at (stage.GrantFence place) v x c here p = (tt, refl)
step_fits_at (stage.GrantFlags place) v x c here p = granted_fits v (next_request v) place c here
step_fits_at (stage.Slot k) v x c here p = (either_stage (k + 1 == entry_words_of v.shape.abi) stage.Producer (stage.Slot (k + 1)) c tt tt, refl)
step_fits_at stage.Producer v x c here p = (tt, refl)
step_fits_at (stage.ProducerFence old) v x c here p = (tt, refl)
step_fits_at (stage.RequestEvent old) v (answer.Word event) c here p = (either_stage (notifies old v.ring.indices.prod event) stage.Send stage.Loop c tt tt, refl)
step_fits_at stage.Send v x c here p = (tt, refl)
step_fits_at (stage.ResponseHigh low) v (answer.Word high) c here p = (tt, refl)
step_fits_at (stage.ResponseLast low high) v (answer.Word last) c here p = response_fits v (response_of (low ∷ high ∷ last ∷ [])) low (issued v (low + high * 2 ^ 32)) c
step_fits_at (stage.GrantRead place) v (answer.Word word) c here p = either (is_mapped word) (broken word v) (at (stage.GrantEnd place word) v) v c (tt, refl) (tt, refl)
step_fits_at (stage.GrantEnd place before) v (answer.Word word) c here p = either (word == before) (revoked v.ending place v) (broken word v) v c (revoked_fits v v.ending place before c here) (tt, refl)
step_fits_at (stage.ReadData n) v (answer.Word word) c here p = data_fits v v.ending n word c here
step_fits_at (stage.LeftData n) v (answer.Word word) c here p = left_fits v v.ending n word c here p
step_fits_at (stage.LeftData n) v x c here p = stays (stage.LeftData n) v c here p
step_fits_at stage.StoreEvent v x c here p = (tt, refl)
step_fits_at stage.EventFence v x c here p = (tt, refl)
step_fits_at stage.LookAgain v (answer.Word word) c here p = looked_fits v word (record v { ring = record v.ring { seen = word; asleep = true }; stage = stage.Loop }) c (tt, refl)
step_fits_at (stage.RingRead page) v (answer.Word word) c here p = either (is_mapped word) (broken word v) (at (stage.RingEnd page word) v) v c (tt, refl) (tt, refl)
step_fits_at (stage.RingEnd page before) v (answer.Word word) c here p = either (word == before) (at (ring_left v page) v) (broken word v) v c (either_stage (nat_lt (page + 1) (2 ^ v.shape.order)) (stage.RingRead (page + 1)) stage.ClosePort c tt tt, refl) (tt, refl)
step_fits_at stage.ClosePort v x c here p = (tt, refl)
step_fits_at s v x c here p = stays s v c here tt

-- a step of the front from a stage that fits the channels
pub step_fits : (v : View) (x : FrontAnswer) (c : ChannelState) → IsUnported v.stage c → Fits v c (step_of v x)
step_fits v x c p = step_fits_at v.stage v x c refl p

-- the first index of its ring stays, whatever it is told
left_front : (v : View) (x : FrontAnswer) → Fits v fresh_channels (step_of v x)
left_front v x = step_fits v x fresh_channels (unported v.stage)
  where
    none : HasNoPort fresh_channels
    none = (omega arith, refl)

    unported : (s : FrontStage) → IsUnported s fresh_channels
    unported (stage.LeftData n) = none
    unported (stage.RingWord k) = none
    unported (stage.RingFrame page) = none
    unported (stage.RingFence page) = none
    unported (stage.RingFlags page) = none
    unported s = tt

pub start_front : (v : View) (x : FrontAnswer) → (step_of v x).start ≡ v.start
start_front v x = (left_front v x).1

-- a state that it enters leaves its first index and what it is to tell, and fits the channels where the stage before did
pub record IsEntered (v x : View) : Type 0 where
  pub ported : (c : ChannelState) → IsPorted v.stage c → IsPorted x.stage c
  pub start : x.start ≡ v.start
  pub told : x.told ≡ v.told

in_state_kept : (s : FrontState) (v : View) → IsEntered v (in_state s v)
in_state_kept (state.Agreed order) v = record { ported = λ c p. p; start = refl; told = refl }
in_state_kept (state.Connected offers) v = record { ported = λ c p. tt; start = refl; told = refl }
in_state_kept state.Closing v = record { ported = λ c p. p; start = refl; told = refl }
in_state_kept state.Leaving v = record { ported = λ c p. tt; start = refl; told = refl }
in_state_kept state.Closed v = record { ported = λ c p. tt; start = refl; told = refl }
in_state_kept (state.Broken word) v = record { ported = λ c p. tt; start = refl; told = refl }

pub entered_kept : (s : FrontState) (v : View) → IsEntered v (enters s v)
entered_kept s v = enters_cases (λ x shown. IsEntered v x) s v (λ may. in_state_kept s v) (record { ported = λ c p. p; start = refl; told = refl })

-- a submission changes neither what the front does, nor its first index, nor what it is to tell
pub record IsUndisturbed (v x : View) : Type 0 where
  pub stage : x.stage ≡ v.stage
  pub start : x.start ≡ v.start
  pub told : x.told ≡ v.told

undisturbed : (v : View) → IsUndisturbed v v
undisturbed v = record { stage = refl; start = refl; told = refl }

either_submit : (b : Bool) (v : View) (x y : Result ℕ Refusal × View) → IsUndisturbed v x.1 → IsUndisturbed v y.1 → IsUndisturbed v (if b then x else y).1
either_submit true v x y p q = p
either_submit false v x y p q = q

submit_with_frames : (v : View) (wish : Wish) (taken : Option (List ℕ × List Bool)) → IsUndisturbed v (submit_with v wish taken).1
submit_with_frames v wish None = undisturbed v
submit_with_frames v wish (Some taken) = record { stage = refl; start = refl; told = refl }

submit_wish : (v : View) (wish : Option Wish) → IsUndisturbed v (submit_one v wish).1
submit_wish v None = undisturbed v
submit_wish v (Some wish) =
    let frames = taking (frames_taken wish.count) v.pool [] in
    let unless_full = if nat_le (entries_of v.shape.order) (unfinished v) then (Err refusal.Full, v) else submit_with v wish frames in
    let unless_long = if nat_lt (most_segments v.offers wish.transfer) (frames_for wish.count) then (Err refusal.Long, v) else unless_full in
    either_submit (is_write wish.transfer && v.offers.read_only) v (Err refusal.ReadOnly, v) (if nat_lt v.offers.sectors (wish.sector + named_of wish.transfer wish.count) then (Err refusal.Range, v) else unless_long) (undisturbed v)
    (either_submit (nat_lt v.offers.sectors (wish.sector + named_of wish.transfer wish.count)) v (Err refusal.Range, v) unless_long (undisturbed v)
    (either_submit (nat_lt (most_segments v.offers wish.transfer) (frames_for wish.count)) v (Err refusal.Long, v) unless_full (undisturbed v)
    (either_submit (nat_le (entries_of v.shape.order) (unfinished v)) v (Err refusal.Full, v) (submit_with v wish frames) (undisturbed v) (submit_with_frames v wish frames))))

pub submit_kept : (v : View) (job : Submission) → IsUndisturbed v (submit_of v job).1
submit_kept v job =
    let unless_unready = if not (is_ready v.stage) then (Err refusal.NotReady, v) else submit_one v (wish_of v.offers job) in
    either_submit (v.last == 4294967295) v (Err refusal.Spent, v) (if v.closing then (Err refusal.Closing, v) else unless_unready) (undisturbed v)
    (either_submit v.closing v (Err refusal.Closing, v) unless_unready (undisturbed v)
    (either_submit (not (is_ready v.stage)) v (Err refusal.NotReady, v) (submit_one v (wish_of v.offers job)) (undisturbed v) (submit_wish v (wish_of v.offers job))))
