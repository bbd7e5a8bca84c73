-- Most moves of the front leave what it saw of the back's producer and its own producer, and owe no event that it didn't owe.
use Rattle.std.proofs.Common.{◌≡◌, ℕ, ◌+◌, ◌*◌, ◌/◌, ◌%◌, ◌^◌, ◌≤◌, ◌==◌, Bool, true, false, if◌then◌else◌, List, [], ◌∷◌, length, refl, sym, ap, ◌∙◌, arith}
use Rattle.std.specs.Prelude.{Option, Some, None, Result, Ok, Err, slice_set, nat_lt}
use Rattle.blk_base.specs.declared.operation.Status.{Status}
use Rattle.blk_base.specs.declared.ask.FrontAnswer.{FrontAnswer}
use Rattle.blk_base.specs.declared.ask.FrontAnswer.TheVariants as answer
use Rattle.ring_words.specs.Ring.{notifies}
use Rattle.ring_words.specs.Shape.{entry_words_of}
use Rattle.blk_layout.specs.declared.response.Response.{Response}
use Rattle.blk_layout.specs.Response.{response_of}
use Rattle.blk_front.specs.declared.request.Request.{Request}
use Rattle.blk_front.specs.declared.request.Transfer.{Transfer}
use Rattle.blk_front.specs.declared.request.Transfer.TheVariants as transfer
use Rattle.blk_front.specs.declared.stage.FrontStage.{FrontStage}
use Rattle.blk_front.specs.declared.stage.FrontStage.TheVariants as stage
use Rattle.blk_front.specs.declared.stage.Ending.{Ending}
use Rattle.blk_front.specs.declared.told.Told.TheVariants as told
use Rattle.blk_front.specs.Request.{words_in, naming_words, is_indirect, has_data}
use Rattle.blk_front.specs.View.{View, RingInfo, next_request}
use Rattle.blk_front.specs.Step.{at, begun, data_stage, page_stage, granted, issued, response_at, taken, is_mapped, revoked, finished, sector_told, data_step, left_step, step_at}
use Rattle.ring_settle_laws.specs.Left.{front_sends, front_saw}

pub record Calm (s : FrontStage) (v x : View) : Type 0 where
  pub sends : front_sends x.stage ≤ front_sends s
  pub saw : front_saw x.stage x ≡ front_saw s v
  pub prod : x.ring.indices.prod ≡ v.ring.indices.prod

pub still : {s : FrontStage} {v x : View} → front_sends x.stage ≡ 0 → front_saw x.stage x ≡ front_saw s v → x.ring.indices.prod ≡ v.ring.indices.prod → Calm s v x
still none saw prod = record { sends = omega (arith, none); saw = saw; prod = prod }

pub unmoved : (s : FrontStage) (v : View) → v.stage ≡ s → Calm s v v
unmoved s v here = record { sends = rw here (omega arith); saw = rw here refl; prod = refl }

pub calm_if : {s : FrontStage} {v x y : View} (b : Bool) → Calm s v x → Calm s v y → Calm s v (if b then x else y)
calm_if true p q = p
calm_if false p q = q

pub calm_at : {s t u : FrontStage} {v : View} (x : View) (b : Bool) → Calm s v (at t x) → Calm s v (at u x) → Calm s v (at (if b then t else u) x)
calm_at x true p q = p
calm_at x false p q = q

-- a request is begun, its data and its pages are written, its frames granted
pub begun_calm : (way : Transfer) (v : View) (r : Request) → Calm stage.Loop v (begun v r way)
begun_calm transfer.Read v r = calm_at v (is_indirect r.count) (still refl refl refl) (still refl refl refl)
begun_calm other v r = still refl refl refl

data_calm : (o : Option Request) (n : ℕ) (v : View) → Calm (stage.Data n) v (at (data_stage o n) v)
data_calm None n v = still refl refl refl
data_calm (Some r) n v = calm_at v (nat_lt (n + 1) (words_in r)) (still refl refl refl) (calm_at v (is_indirect r.count) (still refl refl refl) (still refl refl refl))

page_calm : (o : Option Request) (n : ℕ) (v : View) → Calm (stage.Pages n) v (at (page_stage o n) v)
page_calm None n v = still refl refl refl
page_calm (Some r) n v = calm_at v (nat_lt (n + 1) (naming_words r)) (still refl refl refl) (still refl refl refl)

grant_calm : (o : Option Request) (place : ℕ) (v : View) → v.stage ≡ stage.GrantFlags place → Calm (stage.GrantFlags place) v (granted o place v)
grant_calm None place v here = unmoved (stage.GrantFlags place) v here
grant_calm (Some r) place v here = calm_if (nat_lt (place + 1) (length r.frames.items)) (still refl refl refl) (still refl refl refl)

-- a response is taken
taken_calm : (low high : ℕ) (v : View) (place : ℕ) (r : Request) (status : Status) → Calm (stage.ResponseLast low high) v (taken v place r status)
taken_calm low high v place r status = calm_if (length r.frames.items == 0) (still refl refl refl) (still refl refl refl)

response_calm : (low high : ℕ) (v : View) (response : Result Response ℕ) (word : ℕ) (found : Option (ℕ × Request)) → Calm (stage.ResponseLast low high) v (response_at v response word found)
response_calm low high v response word None = still refl refl refl
response_calm low high v (Err status) word (Some found) = still refl refl refl
response_calm low high v (Ok response) word (Some found) = taken_calm low high v found.0 found.1 response.status

-- its request's grants are ended
revoked_calm : (o : Option Ending) (place before : ℕ) (v : View) → v.stage ≡ stage.GrantEnd place before → Calm (stage.GrantEnd place before) v (revoked o place v)
revoked_calm None place before v here = unmoved (stage.GrantEnd place before) v here
revoked_calm (Some e) place before v here =
    calm_if (nat_lt (place + 1) (length e.request.frames.items)) (still refl refl refl)
    (calm_if (has_data e.request.transfer e.status) (still refl refl refl) (still refl refl refl))

-- and its data read: the ring is as it was
told_ring : (e : Ending) (n : ℕ) (words : List ℕ) (v : View) → (let x : View = sector_told e n words v in x.ring) ≡ v.ring
told_ring e n words v = by_last (n % 128 == 127)
  where
    by_last : (b : Bool) → (let x : View = (if b then record v { words = words; told = Some (told.Sector e.request.number (n / 128) words) } else record v { words = words }) in x.ring) ≡ v.ring
    by_last true = refl
    by_last false = refl

told_calm : (s t : FrontStage) (v : View) (e : Ending) (n : ℕ) (words : List ℕ) (more : Bool) → front_saw s v ≡ v.ring.seen
    → ((x : View) → front_saw (stage.ReadData 0) x ≡ front_saw t x) → front_sends t ≡ 0
    → (u : FrontStage) → ((x : View) → front_saw (stage.ReadData 0) x ≡ front_saw u x) → front_sends u ≡ 0
    → Calm s v (if more then at t (sector_told e n words v) else at u (finished e (sector_told e n words v)))
told_calm s t v e n words more saw seen none u seen_too none_too =
    let same = told_ring e n words v in
    let saw_then = ap (λ (r : RingInfo). r.seen) same in
    calm_if more
    (still none (sym (seen (at t (sector_told e n words v))) ∙ (saw_then ∙ sym saw)) (ap (λ (r : RingInfo). r.indices.prod) same))
    (still none_too (sym (seen_too (at u (finished e (sector_told e n words v)))) ∙ (saw_then ∙ sym saw)) (ap (λ (r : RingInfo). r.indices.prod) same))

data_read_calm : (o : Option Ending) (n word : ℕ) (v : View) → v.stage ≡ stage.ReadData n → Calm (stage.ReadData n) v (data_step o n word v)
data_read_calm None n word v here = unmoved (stage.ReadData n) v here
data_read_calm (Some e) n word v here = told_calm (stage.ReadData n) (stage.ReadData (n + 1)) v e n (slice_set v.words (n % 128) word) (nat_lt (n + 1) (words_in e.request)) refl (λ x. refl) refl stage.Loop (λ x. refl) refl

data_left_calm : (o : Option Ending) (n word : ℕ) (v : View) → v.stage ≡ stage.LeftData n → Calm (stage.LeftData n) v (left_step o n word v)
data_left_calm None n word v here = unmoved (stage.LeftData n) v here
data_left_calm (Some e) n word v here = told_calm (stage.LeftData n) (stage.LeftData (n + 1)) v e n (slice_set v.words (n % 128) word) (nat_lt (n + 1) (words_in e.request)) refl (λ x. refl) refl (stage.RingWord 0) (λ x. refl) refl

-- all moves but those of the loop, a push, and a last look
abbrev pub IsCalm : FrontStage → Type 0
IsCalm stage.Loop = ⊥
IsCalm stage.Producer = ⊥
IsCalm stage.LookAgain = ⊥
IsCalm s = Unit {0}

pub calm_step : (s : FrontStage) (v : View) (a : FrontAnswer) → v.stage ≡ s → IsCalm s → Calm s v (step_at s v a)
calm_step (stage.RingWord k) v a here is = calm_at v (k == 15) (still refl refl refl) (still refl refl refl)
calm_step (stage.RingFrame page) v a here is = still refl refl refl
calm_step (stage.RingFence page) v a here is = still refl refl refl
calm_step (stage.RingFlags page) v a here is = calm_at v (nat_lt (page + 1) (2 ^ v.shape.order)) (still refl refl refl) (still refl refl refl)
calm_step stage.NewPort v a here is = still refl refl refl
calm_step (stage.Data n) v a here is = data_calm (next_request v) n v
calm_step (stage.Pages n) v a here is = page_calm (next_request v) n v
calm_step (stage.GrantFrame place) v a here is = still refl refl refl
calm_step (stage.GrantFence place) v a here is = still refl refl refl
calm_step (stage.GrantFlags place) v a here is = grant_calm (next_request v) place v here
calm_step (stage.Slot k) v a here is = calm_at v (k + 1 == entry_words_of v.shape.abi) (still refl refl refl) (still refl refl refl)
calm_step (stage.ProducerFence old) v a here is = record { sends = omega arith; saw = refl; prod = refl }
calm_step (stage.RequestEvent old) v (answer.Word event) here is =
    calm_at v (notifies old v.ring.indices.prod event) (record { sends = omega arith; saw = refl; prod = refl }) (still refl refl refl)
calm_step stage.Send v a here is = still refl refl refl
calm_step (stage.ResponseHigh low) v (answer.Word high) here is = still refl refl refl
calm_step (stage.ResponseLast low high) v (answer.Word last) here is =
    response_calm low high v (response_of (low ∷ high ∷ last ∷ [])) low (issued v (low + high * 2 ^ 32))
calm_step (stage.GrantRead place) v (answer.Word word) here is = calm_if (is_mapped word) (still refl refl refl) (still refl refl refl)
calm_step (stage.GrantEnd place before) v (answer.Word word) here is = calm_if (word == before) (revoked_calm v.ending place before v here) (still refl refl refl)
calm_step (stage.ReadData n) v (answer.Word word) here is = data_read_calm v.ending n word v here
calm_step (stage.LeftData n) v (answer.Word word) here is = data_left_calm v.ending n word v here
calm_step stage.StoreEvent v a here is = still refl refl refl
calm_step stage.EventFence v a here is = still refl refl refl
calm_step (stage.RingRead page) v (answer.Word word) here is = calm_if (is_mapped word) (still refl refl refl) (still refl refl refl)
calm_step (stage.RingEnd page before) v (answer.Word word) here is =
    calm_if (word == before) (calm_at v (nat_lt (page + 1) (2 ^ v.shape.order)) (still refl refl refl) (still refl refl refl)) (still refl refl refl)
calm_step stage.ClosePort v a here is = still refl refl refl
calm_step stage.Loop v a here is = absurd is
calm_step stage.Producer v a here is = absurd is
calm_step stage.LookAgain v a here is = absurd is
calm_step s v a here is = unmoved s v here
