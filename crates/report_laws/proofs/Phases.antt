-- The part of its life that the front is in: a move leaves it there, but for the one that makes its port, and one that breaks it and says so.
use Rattle.std.proofs.Common.{◌≡◌, ◌⊎◌, inl, inr, ℕ, ◌+◌, ◌*◌, ◌/◌, ◌%◌, ◌^◌, ◌==◌, ◌&&◌, Bool, true, false, true≢false, not, if◌then◌else◌, List, [], ◌∷◌, length, refl, ap, sym, ◌∙◌}
use Rattle.std.specs.Prelude.{Option, Some, None, Result, Ok, Err, nat_lt, nat_le, slice_set}
use Rattle.std.specs.List.{list_any}
use Rattle.blk_base.specs.Distance.{distance_of}
use Rattle.blk_base.specs.declared.ask.FrontAnswer.{FrontAnswer}
use Rattle.blk_base.specs.declared.ask.FrontAnswer.TheVariants as answer
use Rattle.ring_words.specs.Ring.{responses_of, notifies}
use Rattle.ring_words.specs.Shape.{entries_of, entry_words_of}
use Rattle.blk_layout.specs.declared.response.Response.{Response}
use Rattle.blk_layout.specs.Response.{response_of}
use Rattle.blk_front.specs.declared.request.Request.{Request}
use Rattle.blk_front.specs.declared.request.Transfer.{Transfer}
use Rattle.blk_front.specs.declared.request.Transfer.TheVariants as transfer
use Rattle.blk_front.specs.declared.stage.Ending.{Ending}
use Rattle.blk_front.specs.declared.stage.FrontStage.{FrontStage}
use Rattle.blk_front.specs.declared.stage.FrontStage.TheVariants as stage
use Rattle.blk_front.specs.declared.state.FrontState.{FrontState}
use Rattle.blk_front.specs.declared.state.FrontState.TheVariants as state
use Rattle.blk_front.specs.declared.told.Told.TheVariants as told
use Rattle.blk_front.specs.Request.{has_data, words_in, is_indirect, naming_words}
use Rattle.blk_front.specs.View.{View, next_request}
use Rattle.blk_front.specs.Ask.{is_through}
use Rattle.blk_front.specs.Step.{at, broken, looked, entered, begun, answered, freed, revokes, after_data, data_stage, page_stage, granted, loop_step, issued, response_at, is_mapped, ring_granted, ring_left, finished, ended, revoked, sector_told, data_step, left_step, step_at}
use Rattle.blk_front.specs.State.{is_open, is_made, is_bare, is_unmade, may_enter}
use Rattle.blk_front.specs.Submit.{is_ready, is_initialised}
use Rattle.blk_front.specs.Suspend.{stage_after}
use Rattle.split_model.specs.Shown.{front_lines}
use Rattle.report_laws.specs.Ready.{says_over}

-- it makes its ring and its port, waits to be connected, is connected, leaves, or is closed or broken
abbrev pub phase : FrontStage → ℕ
phase (stage.LeftData n) = 0
phase (stage.RingWord k) = 0
phase (stage.RingFrame page) = 0
phase (stage.RingFence page) = 0
phase (stage.RingFlags page) = 0
phase stage.NewPort = 0
phase stage.Initialised = 1
phase (stage.RingRead page) = 3
phase (stage.RingEnd page seen) = 3
phase stage.ClosePort = 3
phase (stage.KeptRead frame) = 3
phase (stage.KeptEnd frame seen) = 3
phase stage.Left = 3
phase stage.Closed = 4
phase (stage.Broken word) = 4
phase s = 2

pub open_phase : (s : FrontStage) → is_open s ≡ not (phase s == 4)
open_phase stage.Closed = refl
open_phase s = refl

pub ready_phase : (s : FrontStage) → is_ready s ≡ (phase s == 2)
ready_phase (stage.RingWord k) = refl
ready_phase s = refl

pub initialised_phase : (s : FrontStage) → is_initialised s ≡ (phase s == 1)
initialised_phase stage.Initialised = refl
initialised_phase s = refl

-- so in one part of it all of these are the same
pub same_open : (s s' : FrontStage) → phase s ≡ phase s' → is_open s ≡ is_open s'
same_open s s' same = open_phase s ∙ (ap (λ (n : ℕ). not (n == 4)) same ∙ sym (open_phase s'))

pub same_ready : (s s' : FrontStage) → phase s ≡ phase s' → is_ready s ≡ is_ready s'
same_ready s s' same = ready_phase s ∙ (ap (λ (n : ℕ). n == 2) same ∙ sym (ready_phase s'))

pub same_initialised : (s s' : FrontStage) → phase s ≡ phase s' → is_initialised s ≡ is_initialised s'
same_initialised s s' same = initialised_phase s ∙ (ap (λ (n : ℕ). n == 1) same ∙ sym (initialised_phase s'))

-- one that is over is neither connected nor waits to be, and makes no port
pub over_unready : (s : FrontStage) → is_open s ≡ false → is_ready s ≡ false
over_unready stage.Closed e = refl
over_unready (stage.Broken word) e = refl
over_unready s e = absurd (true≢false e)

pub over_unwaiting : (s : FrontStage) → is_open s ≡ false → is_initialised s ≡ false
over_unwaiting stage.Closed e = refl
over_unwaiting (stage.Broken word) e = refl
over_unwaiting s e = absurd (true≢false e)

-- nor does it enter any state
over_unmade : (s : FrontStage) → is_open s ≡ false → is_unmade s ≡ false
over_unmade stage.Closed e = refl
over_unmade (stage.Broken word) e = refl
over_unmade s e = absurd (true≢false e)

over_at_rest : (s : FrontStage) → is_open s ≡ false → (is_made s ≡ false) × (is_bare s ≡ false)
over_at_rest stage.Closed e = (refl, refl)
over_at_rest (stage.Broken word) e = (refl, refl)
over_at_rest s e = absurd (true≢false e)

first_of_three : (a b c : Bool) → a ≡ false → (a && b && c) ≡ true → ⊥
first_of_three false b c e t = true≢false (sym t)
first_of_three true b c e t = true≢false e

last_false : (a b : Bool) → b ≡ false → (a && b) ≡ true → ⊥
last_false a false e t = by_test a t
  where
    by_test : (x : Bool) → (x && false) ≡ true → ⊥
    by_test true h = true≢false (sym h)
    by_test false h = true≢false (sym h)
last_false a true e t = true≢false e

over_enters : (s : FrontState) (v : View) → is_open v.stage ≡ false → may_enter s v ≡ true → ⊥
over_enters (state.Agreed order) v over may = first_of_three (is_unmade v.stage) (nat_le order v.shape.order) (nat_le (length v.requests) (entries_of order)) (over_unmade v.stage over) may
over_enters (state.Connected offers) v over may = true≢false (sym may ∙ over_unwaiting v.stage over)
over_enters state.Closing v over may = last_false (not v.closing) (is_open v.stage) over may
over_enters state.Leaving v over may = last_false (is_through v) (is_made v.stage) (over_at_rest v.stage over).0 may
over_enters state.Closed v over may = last_false (is_through v) (is_bare v.stage) (over_at_rest v.stage over).1 may
over_enters (state.Broken word) v over may = true≢false (sym may ∙ over)

-- so it enters one only where it is open
pub enters_open : (s : FrontState) (v : View) → may_enter s v ≡ true → is_open v.stage ≡ true
enters_open s v may = by_test (is_open v.stage) refl
  where
    by_test : (b : Bool) → is_open v.stage ≡ b → b ≡ true
    by_test true e = refl
    by_test false e = absurd (over_enters s v e may)

-- a suspend of an open front has it begin anew
pub anew_phase : (s : FrontStage) → phase (stage_after s) ≡ 0
anew_phase (stage.ReadData n) = refl
anew_phase s = refl

-- what the front then tells doesn't say that it is over
abbrev pub IsSilent : View → Type 0
IsSilent x = list_any says_over (front_lines x.told) ≡ false

pub record Stays (s : FrontStage) (x : View) : Type 0 where
  pub same : phase x.stage ≡ phase s
  pub silent : IsSilent x

pub record Makes (s : FrontStage) (x : View) : Type 0 where
  pub was : s ≡ stage.NewPort
  pub is : x.stage ≡ stage.Initialised
  pub silent : IsSilent x

pub record Breaks (x : View) : Type 0 where
  pub over : is_open x.stage ≡ false
  pub said : list_any says_over (front_lines x.told) ≡ true

abbrev pub Steps : FrontStage → View → Type 0
Steps s x = Stays s x ⊎ (Makes s x ⊎ Breaks x)

silent_of : (x : View) → x.told ≡ None → IsSilent x
silent_of x none = ap (λ t. list_any says_over (front_lines t)) none

stays : (s : FrontStage) (x : View) → phase x.stage ≡ phase s → x.told ≡ None → Steps s x
stays s x same none = inl (record { same = same; silent = silent_of x none })

speaks : (s : FrontStage) (x : View) → phase x.stage ≡ phase s → IsSilent x → Steps s x
speaks s x same silent = inl (record { same = same; silent = silent })

breaks : (s : FrontStage) (word : ℕ) (v : View) → Steps s (broken word v)
breaks s word v = inr (inr (record { over = refl; said = refl }))

either : (s : FrontStage) (b : Bool) (x y : View) → Steps s x → Steps s y → Steps s (if b then x else y)
either s true x y p q = p
either s false x y p q = q

either_phase : (b : Bool) (s s' : FrontStage) (n : ℕ) → phase s ≡ n → phase s' ≡ n → phase (if b then s else s') ≡ n
either_phase true s s' n p q = p
either_phase false s s' n p q = q

looked_steps : (s : FrontStage) (v : View) (word : ℕ) (otherwise : View) → phase s ≡ 2 → v.told ≡ None → Steps s otherwise → Steps s (looked v word otherwise)
looked_steps s v word otherwise on e p =
    either s (nat_lt (distance_of v.ring.indices.cons v.ring.indices.prod) (distance_of v.ring.indices.cons word)) (broken word v) (if word == v.ring.indices.cons then otherwise else record v { ring = record v.ring { seen = word }; stage = stage.Loop }) (breaks s word v)
    (either s (word == v.ring.indices.cons) otherwise (record v { ring = record v.ring { seen = word }; stage = stage.Loop }) p (stays s (record v { ring = record v.ring { seen = word }; stage = stage.Loop }) (sym on) e))

begun_steps : (v : View) (r : Request) (way : Transfer) → v.told ≡ None → Steps stage.Loop (begun v r way)
begun_steps v r transfer.Read e =
    stays stage.Loop (at (if is_indirect r.count then stage.Pages 1 else stage.GrantFence 0) v) (either_phase (is_indirect r.count) (stage.Pages 1) (stage.GrantFence 0) 2 refl refl) e
begun_steps v r transfer.Flush e = stays stage.Loop (entered v r (stage.Slot 1)) refl e
begun_steps v r (transfer.Discard sectors) e = stays stage.Loop (entered v r (stage.Slot 1)) refl e
begun_steps v r other e = stays stage.Loop (at (stage.Data 1) v) refl e

loop_steps : (v : View) (next : Option Request) (a : FrontAnswer) → v.told ≡ None → v.stage ≡ stage.Loop → Steps stage.Loop (loop_step v next a)
loop_steps v (Some r) a e here = begun_steps v r r.transfer e
loop_steps v None (answer.Word word) e here =
    either stage.Loop (responses_of v.ring.indices v.ring.seen == 0) (looked v word (record v { ring = record v.ring { seen = word }; stage = stage.StoreEvent })) (at (stage.ResponseHigh word) v)
    (looked_steps stage.Loop v word (record v { ring = record v.ring { seen = word }; stage = stage.StoreEvent }) refl e (stays stage.Loop (record v { ring = record v.ring { seen = word }; stage = stage.StoreEvent }) refl e))
    (stays stage.Loop (at (stage.ResponseHigh word) v) refl e)
loop_steps v None answer.Event e here = stays stage.Loop (record v { ring = record v.ring { asleep = false } }) (ap phase here) e
loop_steps v None a e here = stays stage.Loop v (ap phase here) e

data_phase : (next : Option Request) (n : ℕ) → phase (data_stage next n) ≡ 2
data_phase None n = refl
data_phase (Some r) n = either_phase (nat_lt (n + 1) (words_in r)) (stage.Data (n + 1)) (after_data r) 2 refl (either_phase (is_indirect r.count) (stage.Pages 0) (stage.GrantFrame 0) 2 refl refl)

page_phase : (next : Option Request) (n : ℕ) → phase (page_stage next n) ≡ 2
page_phase None n = refl
page_phase (Some r) n = either_phase (nat_lt (n + 1) (naming_words r)) (stage.Pages (n + 1)) (stage.GrantFrame 0) 2 refl refl

granted_steps : (v : View) (next : Option Request) (place : ℕ) → v.told ≡ None → v.stage ≡ stage.GrantFlags place → Steps (stage.GrantFlags place) (granted next place v)
granted_steps v None place e here = stays (stage.GrantFlags place) v (ap phase here) e
granted_steps v (Some r) place e here =
    either (stage.GrantFlags place) (nat_lt (place + 1) (length r.frames.items)) (at (stage.GrantFrame (place + 1)) v) (entered v r (stage.Slot 0))
    (stays (stage.GrantFlags place) (at (stage.GrantFrame (place + 1)) v) refl e) (stays (stage.GrantFlags place) (entered v r (stage.Slot 0)) refl e)

response_steps : (s : FrontStage) (v : View) (response : Result Response ℕ) (low : ℕ) (found : Option (ℕ × Request)) → phase s ≡ 2 → v.told ≡ None → Steps s (response_at v response low found)
response_steps s v response low None on e = breaks s low v
response_steps s v (Err word) low (Some found) on e = breaks s word v
response_steps s v (Ok response) low (Some found) on e =
    either s (length found.1.frames.items == 0) (answered (freed v found.0) found.1 response.status) (revokes (freed v found.0) found.1 response.status)
    (speaks s (answered (freed v found.0) found.1 response.status) (sym on) refl) (stays s (revokes (freed v found.0) found.1 response.status) (sym on) e)

revoked_steps : (s : FrontStage) (v : View) (ending : Option Ending) (place : ℕ) → phase s ≡ 2 → v.told ≡ None → v.stage ≡ s → Steps s (revoked ending place v)
revoked_steps s v None place on e here = stays s v (ap phase here) e
revoked_steps s v (Some x) place on e here =
    either s (nat_lt (place + 1) (length x.request.frames.items)) (at (stage.GrantRead (place + 1)) v) (ended x v) (stays s (at (stage.GrantRead (place + 1)) v) (sym on) e)
    (either s (has_data x.request.transfer x.status) (record v { stage = stage.ReadData 0; told = Some (told.Answer x.request.number x.status) }) (record (finished x v) { told = Some (told.Answer x.request.number x.status) })
    (speaks s (record v { stage = stage.ReadData 0; told = Some (told.Answer x.request.number x.status) }) (sym on) refl)
    (speaks s (record (finished x v) { told = Some (told.Answer x.request.number x.status) }) (sym on) refl))

-- a sector that is told doesn't say it either
sector_silent : (v : View) (x : Ending) (n : ℕ) (words : List ℕ) → v.told ≡ None → IsSilent (sector_told x n words v)
sector_silent v x n words e = by_last (n % 128 == 127)
  where
    by_last : (b : Bool) → (let y : View = (if b then record v { words = words; told = Some (told.Sector x.request.number (n / 128) words) } else record v { words = words }) in IsSilent y)
    by_last true = refl
    by_last false = silent_of v e

data_steps : (v : View) (ending : Option Ending) (n word : ℕ) → v.told ≡ None → v.stage ≡ stage.ReadData n → Steps (stage.ReadData n) (data_step ending n word v)
data_steps v None n word e here = stays (stage.ReadData n) v (ap phase here) e
data_steps v (Some x) n word e here =
    let words = slice_set v.words (n % 128) word in
    let y : View = sector_told x n words v in
    either (stage.ReadData n) (nat_lt (n + 1) (words_in x.request)) (at (stage.ReadData (n + 1)) y) (finished x y)
    (speaks (stage.ReadData n) (at (stage.ReadData (n + 1)) y) refl (sector_silent v x n words e)) (speaks (stage.ReadData n) (finished x y) refl (sector_silent v x n words e))

left_steps : (v : View) (ending : Option Ending) (n word : ℕ) → v.told ≡ None → v.stage ≡ stage.LeftData n → Steps (stage.LeftData n) (left_step ending n word v)
left_steps v None n word e here = stays (stage.LeftData n) v (ap phase here) e
left_steps v (Some x) n word e here =
    let words = slice_set v.words (n % 128) word in
    let y : View = sector_told x n words v in
    either (stage.LeftData n) (nat_lt (n + 1) (words_in x.request)) (at (stage.LeftData (n + 1)) y) (at (stage.RingWord 0) (finished x y))
    (speaks (stage.LeftData n) (at (stage.LeftData (n + 1)) y) refl (sector_silent v x n words e)) (speaks (stage.LeftData n) (at (stage.RingWord 0) (finished x y)) refl (sector_silent v x n words e))

pub front_steps : (s : FrontStage) (v : View) (a : FrontAnswer) → v.told ≡ None → v.stage ≡ s → Steps s (step_at s v a)
front_steps (stage.RingWord k) v a e here =
    stays (stage.RingWord k) (at (if k == 15 then stage.RingFrame 0 else stage.RingWord (k + 1)) v) (either_phase (k == 15) (stage.RingFrame 0) (stage.RingWord (k + 1)) 0 refl refl) e
front_steps (stage.RingFrame page) v a e here = stays (stage.RingFrame page) (at (stage.RingFence page) v) refl e
front_steps (stage.RingFence page) v a e here = stays (stage.RingFence page) (at (stage.RingFlags page) v) refl e
front_steps (stage.RingFlags page) v a e here =
    stays (stage.RingFlags page) (at (ring_granted v page) v) (either_phase (nat_lt (page + 1) (2 ^ v.shape.order)) (stage.RingFrame (page + 1)) stage.NewPort 0 refl refl) e
front_steps stage.NewPort v a e here = inr (inl (record { was = refl; is = refl; silent = silent_of v e }))
front_steps stage.Loop v a e here = loop_steps v (next_request v) a e here
front_steps (stage.Data n) v a e here = stays (stage.Data n) (at (data_stage (next_request v) n) v) (data_phase (next_request v) n) e
front_steps (stage.Pages n) v a e here = stays (stage.Pages n) (at (page_stage (next_request v) n) v) (page_phase (next_request v) n) e
front_steps (stage.GrantFrame place) v a e here = stays (stage.GrantFrame place) (at (stage.GrantFence place) v) refl e
front_steps (stage.GrantFence place) v a e here = stays (stage.GrantFence place) (at (stage.GrantFlags place) v) refl e
front_steps (stage.GrantFlags place) v a e here = granted_steps v (next_request v) place e here
front_steps (stage.Slot k) v a e here =
    stays (stage.Slot k) (at (if k + 1 == entry_words_of v.shape.abi then stage.Producer else stage.Slot (k + 1)) v) (either_phase (k + 1 == entry_words_of v.shape.abi) stage.Producer (stage.Slot (k + 1)) 2 refl refl) e
front_steps stage.Producer v a e here = speaks stage.Producer (step_at stage.Producer v a) refl (silent_of v e)
front_steps (stage.ProducerFence old) v a e here = stays (stage.ProducerFence old) (at (stage.RequestEvent old) v) refl e
front_steps (stage.RequestEvent old) v (answer.Word event) e here =
    stays (stage.RequestEvent old) (at (if notifies old v.ring.indices.prod event then stage.Send else stage.Loop) v) (either_phase (notifies old v.ring.indices.prod event) stage.Send stage.Loop 2 refl refl) e
front_steps stage.Send v a e here = stays stage.Send (at stage.Loop v) refl e
front_steps (stage.ResponseHigh low) v (answer.Word high) e here = stays (stage.ResponseHigh low) (at (stage.ResponseLast low high) v) refl e
front_steps (stage.ResponseLast low high) v (answer.Word last) e here = response_steps (stage.ResponseLast low high) v (response_of (low ∷ high ∷ last ∷ [])) low (issued v (low + high * 2 ^ 32)) refl e
front_steps (stage.GrantRead place) v (answer.Word word) e here =
    either (stage.GrantRead place) (is_mapped word) (broken word v) (at (stage.GrantEnd place word) v) (breaks (stage.GrantRead place) word v) (stays (stage.GrantRead place) (at (stage.GrantEnd place word) v) refl e)
front_steps (stage.GrantEnd place before) v (answer.Word word) e here =
    either (stage.GrantEnd place before) (word == before) (revoked v.ending place v) (broken word v) (revoked_steps (stage.GrantEnd place before) v v.ending place refl e here) (breaks (stage.GrantEnd place before) word v)
front_steps (stage.ReadData n) v (answer.Word word) e here = data_steps v v.ending n word e here
front_steps (stage.LeftData n) v (answer.Word word) e here = left_steps v v.ending n word e here
front_steps stage.StoreEvent v a e here = stays stage.StoreEvent (at stage.EventFence v) refl e
front_steps stage.EventFence v a e here = stays stage.EventFence (at stage.LookAgain v) refl e
front_steps stage.LookAgain v (answer.Word word) e here =
    let x : View = record v { ring = record v.ring { seen = word; asleep = true }; stage = stage.Loop } in
    looked_steps stage.LookAgain v word x refl e (stays stage.LookAgain x refl e)
front_steps (stage.RingRead page) v (answer.Word word) e here =
    either (stage.RingRead page) (is_mapped word) (broken word v) (at (stage.RingEnd page word) v) (breaks (stage.RingRead page) word v) (stays (stage.RingRead page) (at (stage.RingEnd page word) v) refl e)
front_steps (stage.RingEnd page before) v (answer.Word word) e here =
    either (stage.RingEnd page before) (word == before) (at (ring_left v page) v) (broken word v)
    (stays (stage.RingEnd page before) (at (ring_left v page) v) (either_phase (nat_lt (page + 1) (2 ^ v.shape.order)) (stage.RingRead (page + 1)) stage.ClosePort 3 refl refl) e) (breaks (stage.RingEnd page before) word v)
front_steps stage.ClosePort v a e here = stays stage.ClosePort (at stage.Left v) refl e
front_steps s v a e here = stays s v (ap phase here) e
