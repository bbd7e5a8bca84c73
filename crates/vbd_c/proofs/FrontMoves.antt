-- A submission that is refused changes nothing; and what is to be told is one thing: of the ring, or of the negotiation.
use Rattle.std.proofs.Common.{◌≡◌, ◌∙◌, refl, ℕ, Bool, true, false, true≢false, not, ◌+◌, ◌&&◌, ◌||◌, List, [], ◌∷◌, Option, Some, None, is_some, Result, Ok, Err, if◌then◌else◌, nat_lt, ◌==◌, inl, inr, IfErr}
use Rattle.blk_base.specs.declared.ask.FrontAnswer.{FrontAnswer}
use Rattle.blk_base.specs.declared.config.Submission.{Submission}
use Rattle.blk_base.specs.declared.refusal.Refusal.{Refusal}
use Rattle.blk_base.specs.declared.refusal.Refusal.TheVariants as refusal
use Rattle.blk_front.specs.declared.request.Wish.{Wish}
use Rattle.blk_front.specs.declared.state.FrontState.{FrontState}
use Rattle.blk_front.specs.declared.state.FrontState.TheVariants as state
use Rattle.blk_front.specs.View as ring
use Rattle.blk_front.specs.State.{may_enter, in_state, enters, is_open}
use Rattle.blk_front.specs.Suspend.{suspended as ring_suspended, resumed}
use Rattle.blk_front.specs.Pool.{taking}
use Rattle.blk_front.specs.Request.{is_write, named_of, frames_for}
use Rattle.blk_front.specs.Submit.{is_ready, wish_of, most_segments, frames_taken, accepted, submit_with, submit_one, submit_of}
use Rattle.xenbus_state.specs.FrontView.{suspended as bus_suspended}
use Rattle.vbd_front.specs.View.{View}
use Rattle.vbd_front.specs.Ask.{bus_ask_of, speaks, ring_moves}
use Rattle.vbd_front.specs.Step.{all_entered}
use Rattle.vbd_front.specs.Keep.{KeepingView, with_ring, states_after_as, spoken_as, ring_step_as, step_as, closes_as, suspended_as}
use Rattle.vbd_c.specs.FrontMove.{TellsOne, has_told, submitted}

-- a submission is refused, and the front stays as it was, or accepted
module _ (P : Result ℕ Refusal × ring.View → Type 0) (v : ring.View) (s : Submission) (refused : (why : Refusal) → P (Err why, v)) (accepts : (wish : Wish) (taken : List ℕ × List Bool) → P (Ok (v.last + 1), accepted v wish taken)) where
  either : (b : Bool) (why : Refusal) (y : Result ℕ Refusal × ring.View) → P y → P (if b then (Err why, v) else y)
  either true why y p = refused why
  either false why y p = p

  with_frames : (wish : Wish) (o : Option (List ℕ × List Bool)) → P (submit_with v wish o)
  with_frames wish None = refused refusal.Buffers
  with_frames wish (Some taken) = accepts wish taken

  with_wish : (o : Option Wish) → P (submit_one v o)
  with_wish None = refused refusal.Unsupported
  with_wish (Some wish) =
      either (is_write wish.transfer && v.offers.read_only) refusal.ReadOnly _
      (either (nat_lt v.offers.sectors (wish.sector + named_of wish.transfer wish.count)) refusal.Range _
      (either (nat_lt (most_segments v.offers wish.transfer) (frames_for wish.count)) refusal.Long _
      (either _ refusal.Full _
      (with_frames wish (taking (frames_taken wish.count) v.pool [])))))

  submit_parts : P (submit_of v s)
  submit_parts =
      either (v.last == 4294967295) refusal.Spent _
      (either v.closing refusal.Closing _
      (either (not (is_ready v.stage)) refusal.NotReady _ (with_wish (wish_of v.offers s))))

abbrev IsKept : KeepingView → Result ℕ Refusal × ring.View → Type 0
IsKept v y = IfErr y.0 (λ (why : Refusal). with_ring v y.1 ≡ v)

pub refused_keeps : (v : KeepingView) (s : Submission) → IfErr (submit_of v.ends.ring s).0 (λ (why : Refusal). submitted v s ≡ v)
refused_keeps v s = submit_parts (IsKept v) v.ends.ring s (λ why. refl) (λ wish taken. tt)

-- neither end has anything to tell
pub both_quiet : (v : KeepingView) → has_told v ≡ false → (v.ends.ring.told ≡ None) × (v.ends.news ≡ None)
both_quiet v quiet = by_options v.ends.ring.told v.ends.news quiet
  where
    by_options : {A B : Type 0} (a : Option A) (b : Option B) → (is_some a || is_some b) ≡ false → (a ≡ None) × (b ≡ None)
    by_options None None e = (refl, refl)
    by_options None (Some y) e = absurd (true≢false e)
    by_options (Some x) b e = absurd (true≢false e)

entering : (s : FrontState) (r : ring.View) → (enters s r).told ≡ r.told
entering s r = by_test (may_enter s r)
  where
    by_state : (s : FrontState) → (in_state s r).told ≡ r.told
    by_state (state.Agreed order) = refl
    by_state (state.Connected offers) = refl
    by_state state.Closing = refl
    by_state state.Leaving = refl
    by_state state.Closed = refl
    by_state (state.Broken word) = refl

    by_test : (b : Bool) → (if b then in_state s r else r).told ≡ r.told
    by_test true = by_state s
    by_test false = refl

entering_all : (states : List FrontState) (r : ring.View) → (all_entered states r).told ≡ r.told
entering_all [] r = refl
entering_all (s ∷ rest) r = entering_all rest (enters s r) ∙ entering s r

pub one_after_a_move : (k : KeepingView) (a : FrontAnswer) → has_told k ≡ false → TellsOne (step_as k a)
one_after_a_move k a quiet = by_speaker (speaks (bus_ask_of v))
  where
    v : View
    v = k.ends

    by_mover : (b : Bool) → TellsOne (record k { ends = ring_step_as b k.keeps (bus_ask_of v) v a })
    by_mover true = inr (both_quiet k quiet).1
    by_mover false = inr (both_quiet k quiet).1

    by_speaker : (b : Bool) → TellsOne (record k { ends = if b then spoken_as k.keeps v a else ring_step_as (ring_moves (bus_ask_of v) v.ring.stage) k.keeps (bus_ask_of v) v a })
    by_speaker true = inl (entering_all (states_after_as k.keeps v a) v.ring ∙ (both_quiet k quiet).0)
    by_speaker false = by_mover (ring_moves (bus_ask_of v) v.ring.stage)

pub one_as_it_closes : (v : KeepingView) → has_told v ≡ false → TellsOne (closes_as v)
one_as_it_closes v quiet = inl (entering state.Closing v.ends.ring ∙ (both_quiet v quiet).0)

pub one_after_a_submission : (v : KeepingView) (s : Submission) → TellsOne v → TellsOne (submitted v s)
one_after_a_submission v s one = submit_parts (λ y. TellsOne (with_ring v y.1)) v.ends.ring s (λ why. one) (λ wish taken. one)

suspending : (r : ring.View) → (ring_suspended r).told ≡ r.told
suspending r = by_test (is_open r.stage)
  where
    by_test : (b : Bool) → (if b then resumed r else r).told ≡ r.told
    by_test true = refl
    by_test false = refl

pub one_after_a_suspend : (k : KeepingView) → TellsOne k → TellsOne (suspended_as k)
one_after_a_suspend k one = by_test (is_open v.ring.stage)
  where
    v : View
    v = k.ends

    renewed : View
    renewed = record { ring = ring_suspended v.ring; bus = bus_suspended v.bus; news = v.news }

    by_told : TellsOne k → TellsOne (record k { ends = renewed })
    by_told (inl e) = inl (suspending v.ring ∙ e)
    by_told (inr e) = inr e

    by_test : (b : Bool) → TellsOne (record k { ends = if b then renewed else v })
    by_test true = by_told one
    by_test false = one
