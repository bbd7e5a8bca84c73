-- At each stage the answer lowers what is left to the front.
use Rattle.std.proofs.Common.{◌≡◌, ℕ, ◌+◌, ◌-◌, ◌*◌, ◌^◌, ◌<◌, ◌==◌, Bool, true, false, if◌then◌else◌, length, refl, ap, subst, arith}
use Rattle.std.specs.Prelude.{Option, Some, nat_lt}
use Rattle.std.proofs.lemmas.Bool.Decides.{nat_tests}
use Rattle.blk_base.specs.Distance.{distance_of}
use Rattle.blk_base.specs.declared.ask.FrontAnswer.{FrontAnswer}
use Rattle.blk_base.specs.declared.ask.FrontAnswer.TheVariants as answer
use Rattle.ring_words.specs.Ring.{notifies}
use Rattle.blk_front.specs.declared.stage.FrontStage.{FrontStage}
use Rattle.blk_front.specs.declared.stage.FrontStage.TheVariants as stage
use Rattle.blk_front.specs.declared.stage.Ending.{Ending}
use Rattle.blk_front.specs.Request.{words_in}
use Rattle.blk_front.specs.Sound.{IsPlaced, IsIssuing, IsReading, IsSound}
use Rattle.blk_front.specs.View.{View, next_request}
use Rattle.blk_front.specs.Ask.{ask_at, revoke_ask, end_ask, read_ask, IsAnswer}
use Rattle.blk_front.specs.Step.{at, broken, ring_read, ring_ended, ring_left, ring_granted, is_mapped, data_step, left_step}
use Rattle.front_laws.specs.Left.{rest_after, of_ending, left_at, left_of, IsOfWord, IsAtWord, IsAtEnding, IsWithin, EachAnswerLowersWhatIsLeft}
use Rattle.front_laws.proofs.Issued.{data_lowers, page_lowers, grant_lowers, slot_lowers, push_lowers, read_entry_lowers, revoked_lowers}
use Rattle.front_laws.proofs.Lowers.{Lowers, no_distance, looked_left, still_lowers, loop_lowers, last_lowers, data_left, left_left}

-- the ring is made
pub word_lowers : (v : View) (k : ℕ) → k < 16 → left_of (at (if k == 15 then stage.RingFrame 0 else stage.RingWord (k + 1)) v) < left_at (stage.RingWord k) v
word_lowers v k few = by_last (k == 15) refl
  where
    by_last : (b : Bool) → (k == 15) ≡ b → left_of (at (if b then stage.RingFrame 0 else stage.RingWord (k + 1)) v) < left_at (stage.RingWord k) v
    by_last true e = omega (arith, few)
    by_last false e = omega (arith, few)

pub frame_lowers : (v : View) (page : ℕ) → page < 2 ^ v.shape.order → left_of (at (ring_granted v page) v) < left_at (stage.RingFlags page) v
frame_lowers v page few = by_last (nat_lt (page + 1) (2 ^ v.shape.order)) refl
  where
    by_last : (b : Bool) → nat_lt (page + 1) (2 ^ v.shape.order) ≡ b → left_of (at (if b then stage.RingFrame (page + 1) else stage.NewPort) v) < left_at (stage.RingFlags page) v
    by_last true e = let more : page + 1 < 2 ^ v.shape.order = grind (arith, nat_tests) in omega (arith, more)
    by_last false e = omega (arith, few)

-- it is left
pub leave_lowers : (v : View) (page word : ℕ) → page < 2 ^ v.shape.order → left_of (ring_read v page word) < left_at (stage.RingRead page) v
leave_lowers v page word few = by_mapped (is_mapped word)
  where
    by_mapped : (b : Bool) → left_of (if b then broken word v else at (stage.RingEnd page word) v) < left_at (stage.RingRead page) v
    by_mapped true = omega (arith, few)
    by_mapped false = omega (arith, few)

pub end_lowers : (v : View) (page before word : ℕ) → page < 2 ^ v.shape.order → left_of (ring_ended v page before word) < left_at (stage.RingEnd page before) v
end_lowers v page before word few = by_same (word == before)
  where
    by_last : (b : Bool) → nat_lt (page + 1) (2 ^ v.shape.order) ≡ b → left_of (at (if b then stage.RingRead (page + 1) else stage.ClosePort) v) < left_at (stage.RingEnd page before) v
    by_last true e = let more : page + 1 < 2 ^ v.shape.order = grind (arith, nat_tests) in omega (arith, more)
    by_last false e = omega (arith, few)

    by_same : (b : Bool) → left_of (if b then at (ring_left v page) v else broken word v) < left_at (stage.RingEnd page before) v
    by_same true = by_last (nat_lt (page + 1) (2 ^ v.shape.order)) refl
    by_same false = omega (arith, few)

pub event_lowers : (v : View) (old event : ℕ) → left_of (at (if notifies old v.ring.indices.prod event then stage.Send else stage.Loop) v) < left_at (stage.RequestEvent old) v
event_lowers v old event = by_test (notifies old v.ring.indices.prod event)
  where
    by_test : (b : Bool) → left_of (at (if b then stage.Send else stage.Loop) v) < left_at (stage.RequestEvent old) v
    by_test true = omega arith
    by_test false = omega arith

-- the frame of this place is named, and the fence is past
pub name_lowers : (v : View) (place : ℕ) (i : IsAtWord (next_request v) (λ r. length r.frames.items) place) → left_of (at (stage.GrantFence place) v) < left_at (stage.GrantFrame place) v
name_lowers v place i = rw i.next_is (omega (arith, i.within))

pub fence_lowers : (v : View) (place : ℕ) (i : IsAtWord (next_request v) (λ r. length r.frames.items) place) → left_of (at (stage.GrantFlags place) v) < left_at (stage.GrantFence place) v
fence_lowers v place i = rw i.next_is (omega (arith, i.within))

pub read_lowers : (v : View) (n word : ℕ) (i : IsAtEnding v.ending words_in n) → left_of (data_step v.ending n word v) < left_at (stage.ReadData n) v
read_lowers v n word i =
    let price : left_at (stage.ReadData n) v ≡ (words_in i.e.request - n) + rest_after 0 v = ap (λ (o : Option Ending). of_ending o (λ r. words_in r - n) + rest_after 0 v) i.ending_is in
    let same : left_of (data_step v.ending n word v) ≡ left_of (data_step (Some i.e) n word v) = ap (λ (o : Option Ending). left_of (data_step o n word v)) i.ending_is in
    omega (arith, price, same, data_left v i.e n word i.ending_is i.within)

pub left_lowers : (v : View) (n word : ℕ) (i : IsAtEnding v.ending words_in n) → left_of (left_step v.ending n word v) < left_at (stage.LeftData n) v
left_lowers v n word i =
    let price : left_at (stage.LeftData n) v ≡ (words_in i.e.request - n) + 16 + 3 * 2 ^ v.shape.order + 1 + rest_after 0 v = ap (λ (o : Option Ending). of_ending o (λ r. words_in r - n) + 16 + 3 * 2 ^ v.shape.order + 1 + rest_after 0 v) i.ending_is in
    let same : left_of (left_step v.ending n word v) ≡ left_of (left_step (Some i.e) n word v) = ap (λ (o : Option Ending). left_of (left_step o n word v)) i.ending_is in
    omega (arith, price, same, left_left v i.e n word i.ending_is i.within)

-- what is true of the front at this stage
module _ (v : View) (sound : IsSound v) where
  placed : (s : FrontStage) → v.stage ≡ s → IsPlaced s v.shape
  placed s here = subst (λ (t : FrontStage). IsPlaced t v.shape) here sound.placed

  lowers : (s : FrontStage) (a : FrontAnswer) → v.stage ≡ s → IsWithin s v → IsOfWord a → IsAnswer (ask_at s v) a → Lowers s v a
  lowers (stage.RingWord k) a here i low ok = omega (arith, word_lowers v k (placed (stage.RingWord k) here))
  lowers (stage.RingFrame page) a here i low ok = let few : page < 2 ^ v.shape.order = placed (stage.RingFrame page) here in omega (arith, few)
  lowers (stage.RingFence page) a here i low ok = let few : page < 2 ^ v.shape.order = placed (stage.RingFence page) here in omega (arith, few)
  lowers (stage.RingFlags page) a here i low ok = omega (arith, frame_lowers v page (placed (stage.RingFlags page) here))
  lowers stage.NewPort a here i low ok = omega arith
  lowers stage.Initialised a here i low ok = still_lowers stage.Initialised v a here ok
  lowers stage.Loop a here i low ok = loop_lowers (next_request v) v a refl here sound low ok
  lowers (stage.Data n) a here i low ok = omega (arith, data_lowers v n i.request a i.next_is i.within)
  lowers (stage.Pages n) a here i low ok = omega (arith, page_lowers v n i.request a i.next_is i.within)
  lowers (stage.GrantFrame place) a here i low ok = omega (arith, name_lowers v place i)
  lowers (stage.GrantFence place) a here i low ok = omega (arith, fence_lowers v place i)
  lowers (stage.GrantFlags place) a here i low ok = omega (arith, grant_lowers v place i.request a i.next_is i.within)
  lowers (stage.Slot k) a here i low ok = omega (arith, slot_lowers v k a (placed (stage.Slot k) here))
  lowers stage.Producer a here i low ok = omega (arith, push_lowers v a (subst (λ (t : FrontStage). IsIssuing t v.waiting) here sound.issuing) (let counted = sound.counted in omega arith))
  lowers (stage.ProducerFence old) a here i low ok = omega arith
  lowers (stage.RequestEvent old) (answer.Word event) here i low ok = omega (arith, event_lowers v old event)
  lowers stage.Send a here i low ok = omega arith
  lowers (stage.ResponseHigh low_word) (answer.Word high) here i low ok = omega arith
  lowers (stage.ResponseLast first high) (answer.Word last) here i low ok = omega (arith, last_lowers v sound (subst (λ (t : FrontStage). IsReading t (distance_of v.ring.indices.cons v.ring.seen)) here sound.reading) first high last)
  lowers (stage.GrantRead place) (answer.Word word) here i low ok = omega (arith, read_entry_lowers v place word i.e i.ending_is i.within)
  lowers (stage.GrantEnd place before) (answer.Word word) here i low ok = omega (arith, revoked_lowers v place before word i.e i.ending_is i.within)
  lowers (stage.ReadData n) (answer.Word word) here i low ok = omega (arith, read_lowers v n word i)
  lowers (stage.LeftData n) (answer.Word word) here i low ok = omega (arith, left_lowers v n word i)
  lowers stage.StoreEvent a here i low ok = omega arith
  lowers stage.EventFence a here i low ok = omega arith
  lowers stage.LookAgain (answer.Word word) here i low ok =
      let none : View = record v { ring = record v.ring { seen = word; asleep = true }; stage = stage.Loop } in
      looked_left v word (left_at stage.LookAgain v) none sound.cons low (omega arith) (λ same. let at_none : distance_of v.ring.indices.cons word ≡ 0 = rw same (no_distance v.ring.indices.cons sound.cons) in omega (arith, at_none))
  lowers (stage.RingRead page) (answer.Word word) here i low ok = omega (arith, leave_lowers v page word (placed (stage.RingRead page) here))
  lowers (stage.RingEnd page before) (answer.Word word) here i low ok = omega (arith, end_lowers v page before word (placed (stage.RingEnd page before) here))
  lowers stage.ClosePort a here i low ok = omega arith
  lowers (stage.KeptRead frame) a here i low ok = still_lowers (stage.KeptRead frame) v a here ok
  lowers (stage.KeptEnd frame seen) a here i low ok = still_lowers (stage.KeptEnd frame seen) v a here ok
  lowers stage.Left a here i low ok = still_lowers stage.Left v a here ok
  lowers stage.Closed a here i low ok = still_lowers stage.Closed v a here ok
  lowers (stage.Broken word) a here i low ok = still_lowers (stage.Broken word) v a here ok
  lowers (stage.GrantRead place) a here i low ok = absurd (subst (λ (o : Option Ending). IsAnswer (revoke_ask o place) a) i.ending_is ok)
  lowers (stage.GrantEnd place before) a here i low ok = absurd (subst (λ (o : Option Ending). IsAnswer (end_ask o place before) a) i.ending_is ok)
  lowers (stage.ReadData n) a here i low ok = absurd (subst (λ (o : Option Ending). IsAnswer (read_ask o n) a) i.ending_is ok)
  lowers (stage.LeftData n) a here i low ok = absurd (subst (λ (o : Option Ending). IsAnswer (read_ask o n) a) i.ending_is ok)
  lowers s a here i low ok = absurd ok

pub each_lowers : EachAnswerLowersWhatIsLeft
each_lowers v a sound i low ok = lowers v sound v.stage a refl i low ok
