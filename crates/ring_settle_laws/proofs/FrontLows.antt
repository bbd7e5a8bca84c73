-- At each stage but those of a look and a push a move of the front lowers what is left to its end, where the word, the page or the frame that it is at is one that it goes through.
use Rattle.std.proofs.Common.{◌≡◌, ℕ, ◌+◌, ◌*◌, ◌^◌, ◌<◌, ◌≤◌, ◌==◌, ◌⊎◌, Bool, true, false, if◌then◌else◌, [], ◌∷◌, length, refl, subst, arith}
use Rattle.std.specs.Prelude.{Option, Some, None, Result, Ok, Err}
use Rattle.blk_base.specs.Distance.{distance_of}
use Rattle.blk_base.specs.declared.operation.Status.{Status}
use Rattle.blk_base.specs.declared.ask.FrontAsk.TheVariants.{Wait}
use Rattle.blk_base.specs.declared.ask.FrontAnswer.{FrontAnswer}
use Rattle.blk_base.specs.declared.ask.FrontAnswer.TheVariants as answer
use Rattle.ring_words.specs.Shape.{entry_words_of}
use Rattle.blk_layout.specs.declared.response.Response.{Response}
use Rattle.blk_layout.specs.Response.{response_of}
use Rattle.blk_front.specs.declared.request.Request.{Request}
use Rattle.blk_front.specs.declared.stage.FrontStage.{FrontStage}
use Rattle.blk_front.specs.declared.stage.FrontStage.TheVariants as stage
use Rattle.blk_front.specs.declared.stage.Ending.{Ending}
use Rattle.blk_front.specs.Request.{words_in, naming_words}
use Rattle.blk_front.specs.Sound.{IsSound}
use Rattle.blk_front.specs.View.{View, next_request}
use Rattle.blk_front.specs.Ask.{ask_at, is_through, revoke_ask, end_ask, read_ask, IsAnswer}
use Rattle.blk_front.specs.Step.{response_at, taken, answered, freed, revokes, issued, step_at}
use Rattle.front_laws.specs.Left.{left_at, left_of, frames_in, IsAtWord, IsAtEnding}
use Rattle.front_laws.proofs.Issued.{data_lowers, page_lowers, grant_lowers, slot_lowers, read_entry_lowers, revoked_lowers}
use Rattle.front_laws.proofs.Lowers.{last_lowers}
use Rattle.front_laws.proofs.Falls.{word_lowers, frame_lowers, leave_lowers, end_lowers, event_lowers, name_lowers, fence_lowers, read_lowers, left_lowers}
use Rattle.ring_settle_laws.proofs.FrontCalm.{IsCalm}
use Rattle.ring_settle_laws.proofs.FrontEnd.{given}
use Rattle.ring_settle_laws.proofs.FrontLoop.{IsLooked, IsLooping}

-- a front with no request whose grants are being ended
abbrev pub unending : View → View
unending v = record v { ending = None }

-- a response is read of a front that is sound, and that has seen one
pub record IsTakingOne (v : View) : Type 0 where
  pub sound : IsSound (unending v)
  pub some : 0 < distance_of v.ring.indices.cons v.ring.seen

-- where the front's move lowers its end
abbrev pub IsReady : (shown : ℕ) → FrontStage → View → FrontAnswer → Type 0
IsReady shown (stage.RingWord k) v a = k < 16
IsReady shown (stage.RingFrame page) v a = page < 2 ^ v.shape.order
IsReady shown (stage.RingFence page) v a = page < 2 ^ v.shape.order
IsReady shown (stage.RingFlags page) v a = page < 2 ^ v.shape.order
IsReady shown stage.Loop v a = ((next_request v ≡ None) × (is_through v ≡ true)) ⊎ IsLooping shown v a
IsReady shown (stage.Data n) v a = IsAtWord (next_request v) words_in n
IsReady shown (stage.Pages n) v a = IsAtWord (next_request v) naming_words n
IsReady shown (stage.GrantFrame place) v a = IsAtWord (next_request v) frames_in place
IsReady shown (stage.GrantFence place) v a = IsAtWord (next_request v) frames_in place
IsReady shown (stage.GrantFlags place) v a = IsAtWord (next_request v) frames_in place
IsReady shown (stage.Slot k) v a = k < entry_words_of v.shape.abi
IsReady shown stage.Producer v a = (0 < v.waiting) × (v.waiting ≤ length v.requests)
IsReady shown (stage.ResponseLast low high) v a = IsTakingOne v
IsReady shown (stage.GrantRead place) v a = IsAtEnding v.ending frames_in place
IsReady shown (stage.GrantEnd place before) v a = IsAtEnding v.ending frames_in place
IsReady shown (stage.ReadData n) v a = IsAtEnding v.ending words_in n
IsReady shown (stage.LeftData n) v a = IsAtEnding v.ending words_in n
IsReady shown stage.LookAgain v a = (v.ring.indices.cons < 2 ^ 32) × IsLooked shown v a
IsReady shown (stage.RingRead page) v a = page < 2 ^ v.shape.order
IsReady shown (stage.RingEnd page seen) v a = page < 2 ^ v.shape.order
IsReady shown s v a = Unit {0}

-- a response is taken: what is left doesn't depend on a request that ended before
taken_same : (v : View) (place : ℕ) (r : Request) (status : Status) → left_of (taken v place r status) ≡ left_of (taken (unending v) place r status)
taken_same v place r status = by_frames (length r.frames.items == 0)
  where
    by_frames : (b : Bool) → left_of (if b then answered (freed v place) r status else revokes (freed v place) r status) ≡ left_of (if b then answered (freed (unending v) place) r status else revokes (freed (unending v) place) r status)
    by_frames true = refl
    by_frames false = refl

response_same : (v : View) (response : Result Response ℕ) (low : ℕ) (found : Option (ℕ × Request)) → left_of (response_at v response low found) ≡ left_of (response_at (unending v) response low found)
response_same v response low None = refl
response_same v (Err word) low (Some found) = refl
response_same v (Ok response) low (Some found) = taken_same v found.0 found.1 response.status

take_lowers : (v : View) (low high last : ℕ) → IsTakingOne v → left_of (step_at (stage.ResponseLast low high) v (answer.Word last)) < left_at (stage.ResponseLast low high) v
take_lowers v low high last is =
    let falls = last_lowers (unending v) is.sound is.some low high last in
    let same = response_same v (response_of (low ∷ high ∷ last ∷ [])) low (issued v (low + high * 2 ^ 32)) in
    omega (arith, falls, same)

-- a front that waits
still_lowers : (s : FrontStage) (v : View) (a : FrontAnswer) → v.stage ≡ s → IsAnswer Wait a → left_of v < left_at s v + given s a
still_lowers s v answer.Event here ok = rw here (omega arith)
still_lowers s v (answer.Watched path) here ok = rw here (omega arith)
still_lowers s v a here ok = absurd ok

-- what each stage's move does
pub low_step : (shown : ℕ) (s : FrontStage) (v : View) (a : FrontAnswer) → v.stage ≡ s → IsCalm s → IsReady shown s v a → IsAnswer (ask_at s v) a → left_of (step_at s v a) < left_at s v + given s a
low_step shown (stage.RingWord k) v a here is i ok = omega (arith, word_lowers v k i)
low_step shown (stage.RingFrame page) v a here is i ok = let few : page < 2 ^ v.shape.order = i in omega (arith, few)
low_step shown (stage.RingFence page) v a here is i ok = let few : page < 2 ^ v.shape.order = i in omega (arith, few)
low_step shown (stage.RingFlags page) v a here is i ok = omega (arith, frame_lowers v page i)
low_step shown stage.NewPort v a here is i ok = omega arith
low_step shown stage.Initialised v a here is i ok = still_lowers stage.Initialised v a here ok
low_step shown (stage.Data n) v a here is i ok = omega (arith, data_lowers v n i.request a i.next_is i.within)
low_step shown (stage.Pages n) v a here is i ok = omega (arith, page_lowers v n i.request a i.next_is i.within)
low_step shown (stage.GrantFrame place) v a here is i ok = omega (arith, name_lowers v place i)
low_step shown (stage.GrantFence place) v a here is i ok = omega (arith, fence_lowers v place i)
low_step shown (stage.GrantFlags place) v a here is i ok = omega (arith, grant_lowers v place i.request a i.next_is i.within)
low_step shown (stage.Slot k) v a here is i ok = omega (arith, slot_lowers v k a i)
low_step shown (stage.ProducerFence old) v a here is i ok = omega arith
low_step shown (stage.RequestEvent old) v (answer.Word event) here is i ok = omega (arith, event_lowers v old event)
low_step shown stage.Send v a here is i ok = omega arith
low_step shown (stage.ResponseHigh low_word) v (answer.Word high) here is i ok = omega arith
low_step shown (stage.ResponseLast first high) v (answer.Word last) here is i ok = omega (arith, take_lowers v first high last i)
low_step shown (stage.GrantRead place) v (answer.Word word) here is i ok = omega (arith, read_entry_lowers v place word i.e i.ending_is i.within)
low_step shown (stage.GrantEnd place before) v (answer.Word word) here is i ok = omega (arith, revoked_lowers v place before word i.e i.ending_is i.within)
low_step shown (stage.ReadData n) v (answer.Word word) here is i ok = omega (arith, read_lowers v n word i)
low_step shown (stage.LeftData n) v (answer.Word word) here is i ok = omega (arith, left_lowers v n word i)
low_step shown stage.StoreEvent v a here is i ok = omega arith
low_step shown stage.EventFence v a here is i ok = omega arith
low_step shown (stage.RingRead page) v (answer.Word word) here is i ok = omega (arith, leave_lowers v page word i)
low_step shown (stage.RingEnd page before) v (answer.Word word) here is i ok = omega (arith, end_lowers v page before word i)
low_step shown stage.ClosePort v a here is i ok = omega arith
low_step shown (stage.KeptRead frame) v a here is i ok = still_lowers (stage.KeptRead frame) v a here ok
low_step shown (stage.KeptEnd frame seen) v a here is i ok = still_lowers (stage.KeptEnd frame seen) v a here ok
low_step shown stage.Left v a here is i ok = still_lowers stage.Left v a here ok
low_step shown stage.Closed v a here is i ok = still_lowers stage.Closed v a here ok
low_step shown (stage.Broken word) v a here is i ok = still_lowers (stage.Broken word) v a here ok
low_step shown (stage.GrantRead place) v a here is i ok = absurd (subst (λ (o : Option Ending). IsAnswer (revoke_ask o place) a) i.ending_is ok)
low_step shown (stage.GrantEnd place before) v a here is i ok = absurd (subst (λ (o : Option Ending). IsAnswer (end_ask o place before) a) i.ending_is ok)
low_step shown (stage.ReadData n) v a here is i ok = absurd (subst (λ (o : Option Ending). IsAnswer (read_ask o n) a) i.ending_is ok)
low_step shown (stage.LeftData n) v a here is i ok = absurd (subst (λ (o : Option Ending). IsAnswer (read_ask o n) a) i.ending_is ok)
low_step shown stage.Loop v a here is i ok = absurd is
low_step shown stage.Producer v a here is i ok = absurd is
low_step shown stage.LookAgain v a here is i ok = absurd is
low_step shown s v a here is i ok = absurd ok
