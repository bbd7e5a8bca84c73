-- At each stage: whatever the ask is answered, what was due is told, and the lines still tell what the front has.
use Rattle.std.proofs.Common.{◌≡◌, ℕ, ◌+◌, ◌/◌, ◌%◌, ◌^◌, ◌<◌, ◌==◌, ◌||◌, Bool, true, false, if◌then◌else◌, refl, sym, ◌∙◌, subst, arith}
use Rattle.std.specs.Prelude.{All, Option, Some, None, nat_lt}
use Rattle.std.proofs.lemmas.Option.{none-some, same_Some}
use Rattle.std.proofs.lemmas.Bool.Decides.{nat_tests}
use Rattle.blk_base.specs.declared.ask.FrontAsk.{FrontAsk}
use Rattle.blk_base.specs.declared.ask.FrontAsk.TheVariants.{Wait, Fence, Read, Write}
use Rattle.blk_base.specs.declared.ask.FrontAnswer.{FrontAnswer}
use Rattle.blk_base.specs.declared.ask.FrontAnswer.TheVariants as answer
use Rattle.ring_words.specs.Ring.{responses_of, notifies}
use Rattle.blk_front.specs.declared.request.Request.{Request}
use Rattle.blk_front.specs.declared.stage.FrontStage.{FrontStage}
use Rattle.blk_front.specs.declared.stage.FrontStage.TheVariants as stage
use Rattle.blk_front.specs.declared.stage.Ending.{Ending}
use Rattle.blk_front.specs.Request.{frame_at}
use Rattle.blk_front.specs.View.{View, next_request, ring_page_frame, entry_frame, entry_word}
use Rattle.blk_front.specs.Ask.{ask_at, is_through, response_ask, loop_ask, data_ask, page_ask, name_ask, grant_ask, revoke_ask, end_ask, read_ask, IsAnswer}
use Rattle.blk_front.specs.Step.{at, looked, data_stage, page_stage, granted, loop_step, ring_left, revoked, data_step, left_step, step_at}
use Rattle.blk_front.proofs.Shapes.{few_pages}
use Rattle.front_laws.specs.Sight.{Sight, grant_ended}
use Rattle.front_laws.specs.Told.{told_of_end}
use Rattle.front_laws.proofs.Places.{IsPooled, pooled_at}
use Rattle.front_laws.proofs.Known.{core_of, share_of, hand_of, parts_of, Agree, IsSized, Idle, IsEnding, IsTelling, At, IsKnown, Known, Goes, calm}
use Rattle.front_laws.proofs.Simple.{Steps, either_at, wrote_grant, stays, word_goes, data_goes, page_goes, name_goes, granted_goes, begun_goes}
use Rattle.front_laws.proofs.Issuing.{slot_goes, pushed_goes}
use Rattle.front_laws.proofs.Looking.{looks, first_goes, second_goes, last_goes}
use Rattle.front_laws.proofs.Ending.{entry_goes, exchange_goes, ring_ends, revokes_next}
use Rattle.front_laws.proofs.Telling.{data_goes as sector_goes, left_goes}

module _ (s : Sight) (v : View) (quiet : v.told ≡ None) where
  -- it waits, and stays
  waits : (t : FrontStage) (a : FrontAnswer) → v.stage ≡ t → Known t s v → Steps s Wait a v
  waits t a here known = calm s v quiet (subst (λ (u : FrontStage). Known u s v) (sym here) known)

  module _ (agree : Agree (core_of s) (share_of v)) (sized : IsSized v.pool v.words) where
    abbrev Is : FrontStage → Type 0
    Is t = At t (hand_of s) (parts_of v)

    to : (t : FrontStage) → Is t → IsKnown t (core_of s) (share_of v) v.pool (hand_of s) (parts_of v)
    to t is = record { agree = agree; sized = sized; at = is }

    page_few : (page : ℕ) → page < 2 ^ v.shape.order → ring_page_frame page < 1018
    page_few page lt = let few = few_pages v.shape.order agree.few in omega arith

    -- in the loop
    abbrev asked : Bool → Bool → FrontAsk
    asked b c = if b then Wait else (if c then Read 2 2 else response_ask v 0)

    loop_goes : (o : Option Request) (a : FrontAnswer) → next_request v ≡ o → v.stage ≡ stage.Loop → Idle (hand_of s) → IsAnswer (loop_ask v o) a → Steps s (loop_ask v o) a (loop_step v o a)
    loop_goes (Some r) a next here idle is = begun_goes s v quiet agree sized r next idle r.transfer a
    loop_goes None a next here idle is = by_test (v.ring.asleep || is_through v) (responses_of v.ring.indices v.ring.seen == 0) refl a is
      where
        by_test : (b c : Bool) → (responses_of v.ring.indices v.ring.seen == 0) ≡ c → (x : FrontAnswer) → IsAnswer (asked b c) x → Steps s (asked b c) x (loop_step v None x)
        by_test true c e answer.Event is = calm s (record v { ring = record v.ring { asleep = false } }) quiet (subst (λ (u : FrontStage). Known u s (record v { ring = record v.ring { asleep = false } })) (sym here) (to stage.Loop idle))
        by_test true c e (answer.Watched path) is = waits stage.Loop (answer.Watched path) here (to stage.Loop idle)
        by_test true c e x is = absurd is
        by_test false true e (answer.Word word) is =
            subst (λ (c : Bool). Steps s (Read 2 2) (answer.Word word) (if c then looked v word (record v { ring = record v.ring { seen = word }; stage = stage.StoreEvent }) else at (stage.ResponseHigh word) v)) (sym e)
            (looks s v quiet agree sized word (record v { ring = record v.ring { seen = word }; stage = stage.StoreEvent }) quiet (to stage.StoreEvent idle) (to stage.Loop idle))
        by_test false true e x is = absurd is
        by_test false false e (answer.Word word) is =
            subst (λ (c : Bool). Steps s (response_ask v 0) (answer.Word word) (if c then looked v word (record v { ring = record v.ring { seen = word }; stage = stage.StoreEvent }) else at (stage.ResponseHigh word) v)) (sym e)
            (first_goes s v quiet agree sized word idle)
        by_test false false e x is = absurd is

    -- a grant of the request that is answered is looked at, and ended
    read_goes : (o : Option Ending) (place : ℕ) (a : FrontAnswer) → v.ending ≡ o → IsEnding (hand_of s) v.requests v.last v.ending place → IsAnswer (revoke_ask o place) a → Steps s (revoke_ask o place) a (step_at (stage.GrantRead place) v a)
    read_goes None place a is k allowed = absurd (none-some k.e (sym is ∙ k.ending_is))
    read_goes (Some e) place (answer.Word word) is k allowed = entry_goes s v quiet agree sized (frame_at e.request place) word (stage.GrantEnd place word) (pooled_at e.request (subst (λ (x : Ending). All IsPooled x.request.frames.items) (same_Some k.e e (sym k.ending_is ∙ is)) k.fine.pooled) place).1 (to (stage.GrantEnd place word) k)
    read_goes (Some e) place a is k allowed = absurd allowed

    end_goes : (o : Option Ending) (place before : ℕ) (a : FrontAnswer) → v.ending ≡ o → IsEnding (hand_of s) v.requests v.last v.ending place → IsAnswer (end_ask o place before) a → Steps s (end_ask o place before) a (step_at (stage.GrantEnd place before) v a)
    end_goes None place before a is k allowed = absurd (none-some k.e (sym is ∙ k.ending_is))
    end_goes (Some e) place before (answer.Word word) is k allowed = exchange_goes s v quiet agree sized (entry_frame (frame_at e.request place)) (entry_word (frame_at e.request place)) before word (revoked v.ending place v) (subst (λ (o : Option Ending). Goes (record s { taken = grant_ended s.taken }) (told_of_end s.taken) (revoked o place v)) (sym k.ending_is) (revokes_next s v quiet agree sized place k))
    end_goes (Some e) place before a is k allowed = absurd allowed

    -- words of a request's data are read
    sector_read : (o : Option Ending) (n : ℕ) (a : FrontAnswer) → v.ending ≡ o → IsTelling (hand_of s) v.words v.ending n → IsAnswer (read_ask o n) a → Steps s (read_ask o n) a (step_at (stage.ReadData n) v a)
    sector_read None n a is k allowed = absurd (none-some k.e (sym is ∙ k.ending_is))
    sector_read (Some e) n (answer.Word word) is k allowed =
        let same : k.e ≡ e = same_Some k.e e (sym k.ending_is ∙ is) in
        subst (λ (x : Ending). Steps s (Read (frame_at x.request (n / 1024)) (n % 1024)) (answer.Word word) (data_step v.ending n word v)) same
        (subst (λ (o : Option Ending). Steps s (Read (frame_at k.e.request (n / 1024)) (n % 1024)) (answer.Word word) (data_step o n word v)) (sym k.ending_is) (sector_goes s v quiet agree sized n word k))
    sector_read (Some e) n a is k allowed = absurd allowed

    left_read : (o : Option Ending) (n : ℕ) (a : FrontAnswer) → v.ending ≡ o → Is (stage.LeftData n) → IsAnswer (read_ask o n) a → Steps s (read_ask o n) a (step_at (stage.LeftData n) v a)
    left_read None n a is k allowed = absurd (none-some k.1.e (sym is ∙ k.1.ending_is))
    left_read (Some e) n (answer.Word word) is k allowed =
        let same : k.1.e ≡ e = same_Some k.1.e e (sym k.1.ending_is ∙ is) in
        subst (λ (x : Ending). Steps s (Read (frame_at x.request (n / 1024)) (n % 1024)) (answer.Word word) (left_step v.ending n word v)) same
        (subst (λ (o : Option Ending). Steps s (Read (frame_at k.1.e.request (n / 1024)) (n % 1024)) (answer.Word word) (left_step o n word v)) (sym k.1.ending_is) (left_goes s v quiet agree sized n word k.1 k.0))
    left_read (Some e) n a is k allowed = absurd allowed

    -- a request is issued
    module _ (r : Request) (next : next_request v ≡ Some r) (idle : Idle (hand_of s)) (a : FrontAnswer) where
      data_written : (n : ℕ) → Steps s (data_ask (next_request v) n) a (at (data_stage (next_request v) n) v)
      data_written n = subst (λ (o : Option Request). Steps s (data_ask o n) a (at (data_stage o n) v)) (sym next) (data_goes s v quiet agree sized r next idle n _ a)

      page_written : (n : ℕ) → Steps s (page_ask (next_request v) n) a (at (page_stage (next_request v) n) v)
      page_written n = subst (λ (o : Option Request). Steps s (page_ask o n) a (at (page_stage o n) v)) (sym next) (page_goes s v quiet agree sized r next idle n _ a)

      frame_named : (place : ℕ) → Steps s (name_ask (next_request v) place) a (at (stage.GrantFence place) v)
      frame_named place = subst (λ (o : Option Request). Steps s (name_ask o place) a (at (stage.GrantFence place) v)) (sym next) (name_goes s v quiet agree sized r next idle place _ a)

      frame_granted : (place : ℕ) → Steps s (grant_ask (next_request v) place) a (granted (next_request v) place v)
      frame_granted place = subst (λ (o : Option Request). Steps s (grant_ask o place) a (granted o place v)) (sym next) (granted_goes s v quiet agree sized r next idle place _ a)

    fences : (t : FrontStage) (a : FrontAnswer) → Known t s (at t v) → Steps s Fence a (at t v)
    fences t a known = calm s (at t v) quiet known

    page_writes : (page w value : ℕ) (t : FrontStage) (a : FrontAnswer) → page < 2 ^ v.shape.order → Known t s (at t v) → Steps s (Write (entry_frame (ring_page_frame page)) w value) a (at t v)
    page_writes page w value t a lt known = stays s v quiet agree sized (Write (entry_frame (ring_page_frame page)) w value) a t refl (wrote_grant s (ring_page_frame page) w value (page_few page lt)) known

  pub stage_goes : (t : FrontStage) (a : FrontAnswer) → v.stage ≡ t → Known t s v → IsAnswer (ask_at t v) a → Steps s (ask_at t v) a (step_at t v a)
  stage_goes (stage.RingWord k) a here i is = word_goes s v quiet i.agree i.sized k a i.at
  stage_goes (stage.RingFrame page) a here i is = page_writes i.agree i.sized page _ _ (stage.RingFence page) a i.at.0 (to i.agree i.sized (stage.RingFence page) i.at)
  stage_goes (stage.RingFence page) a here i is = fences i.agree i.sized (stage.RingFlags page) a (to i.agree i.sized (stage.RingFlags page) i.at)
  stage_goes (stage.RingFlags page) a here i is = by_more (nat_lt (page + 1) (2 ^ v.shape.order)) refl
    where
      by_more : (b : Bool) → nat_lt (page + 1) (2 ^ v.shape.order) ≡ b → Steps s (ask_at (stage.RingFlags page) v) a (at (if b then stage.RingFrame (page + 1) else stage.NewPort) v)
      by_more true e = page_writes i.agree i.sized page _ _ (stage.RingFrame (page + 1)) a i.at.0 (to i.agree i.sized (stage.RingFrame (page + 1)) (grind (arith, nat_tests), i.at.1))
      by_more false e = page_writes i.agree i.sized page _ _ stage.NewPort a i.at.0 (to i.agree i.sized stage.NewPort i.at.1)
  stage_goes stage.NewPort a here i is = calm s (at stage.Initialised v) quiet (to i.agree i.sized stage.Initialised i.at)
  stage_goes stage.Loop a here i is = loop_goes i.agree i.sized (next_request v) a refl here i.at is
  stage_goes (stage.Data n) a here i is = data_written i.agree i.sized i.at.0.0 i.at.0.1 i.at.1 a n
  stage_goes (stage.Pages n) a here i is = page_written i.agree i.sized i.at.0.0 i.at.0.1 i.at.1 a n
  stage_goes (stage.GrantFrame place) a here i is = frame_named i.agree i.sized i.at.0.0 i.at.0.1 i.at.1 a place
  stage_goes (stage.GrantFence place) a here i is = fences i.agree i.sized (stage.GrantFlags place) a (to i.agree i.sized (stage.GrantFlags place) i.at)
  stage_goes (stage.GrantFlags place) a here i is = frame_granted i.agree i.sized i.at.0.0 i.at.0.1 i.at.1 a place
  stage_goes (stage.Slot k) a here i is = slot_goes s v quiet i.agree i.sized k a i.at
  stage_goes stage.Producer a here i is = pushed_goes s v quiet i.agree i.sized a i.at
  stage_goes (stage.ProducerFence old) a here i is = fences i.agree i.sized (stage.RequestEvent old) a (to i.agree i.sized (stage.RequestEvent old) i.at)
  stage_goes (stage.RequestEvent old) (answer.Word event) here i is =
      either_at (notifies old v.ring.indices.prod event) s (Read 2 1) (answer.Word event) stage.Send stage.Loop v
      (calm s (at stage.Send v) quiet (to i.agree i.sized stage.Send i.at)) (calm s (at stage.Loop v) quiet (to i.agree i.sized stage.Loop i.at))
  stage_goes (stage.RequestEvent old) a here i is = absurd is
  stage_goes stage.Send a here i is = calm s (at stage.Loop v) quiet (to i.agree i.sized stage.Loop i.at)
  stage_goes (stage.ResponseHigh low) (answer.Word high) here i is = second_goes s v quiet i.agree i.sized low high i.at
  stage_goes (stage.ResponseHigh low) a here i is = absurd is
  stage_goes (stage.ResponseLast low high) (answer.Word last) here i is = last_goes s v quiet i.agree i.sized low high last i.at
  stage_goes (stage.ResponseLast low high) a here i is = absurd is
  stage_goes (stage.GrantRead place) a here i is = read_goes i.agree i.sized v.ending place a refl i.at is
  stage_goes (stage.GrantEnd place before) a here i is = end_goes i.agree i.sized v.ending place before a refl i.at is
  stage_goes (stage.ReadData n) a here i is = sector_read i.agree i.sized v.ending n a refl i.at is
  stage_goes (stage.LeftData n) a here i is = left_read i.agree i.sized v.ending n a refl i.at is
  stage_goes stage.StoreEvent a here i is = calm s (at stage.EventFence v) quiet (to i.agree i.sized stage.EventFence i.at)
  stage_goes stage.EventFence a here i is = fences i.agree i.sized stage.LookAgain a (to i.agree i.sized stage.LookAgain i.at)
  stage_goes stage.LookAgain (answer.Word word) here i is = looks s v quiet i.agree i.sized word (record v { ring = record v.ring { seen = word; asleep = true }; stage = stage.Loop }) quiet (to i.agree i.sized stage.Loop i.at) (to i.agree i.sized stage.Loop i.at)
  stage_goes stage.LookAgain a here i is = absurd is
  stage_goes (stage.RingRead page) (answer.Word word) here i is = entry_goes s v quiet i.agree i.sized (ring_page_frame page) word (stage.RingEnd page word) (page_few i.agree i.sized page i.at.0) (to i.agree i.sized (stage.RingEnd page word) i.at)
  stage_goes (stage.RingRead page) a here i is = absurd is
  stage_goes (stage.RingEnd page before) (answer.Word word) here i is = exchange_goes s v quiet i.agree i.sized (entry_frame (ring_page_frame page)) (entry_word (ring_page_frame page)) before word (at (ring_left v page) v) (by_more (nat_lt (page + 1) (2 ^ v.shape.order)) refl)
    where
      by_more : (b : Bool) → nat_lt (page + 1) (2 ^ v.shape.order) ≡ b → Goes (record s { taken = grant_ended s.taken }) (told_of_end s.taken) (at (if b then stage.RingRead (page + 1) else stage.ClosePort) v)
      by_more true e = ring_ends s v quiet i.agree i.sized (stage.RingRead (page + 1)) i.at.1.taken (to i.agree i.sized (stage.RingRead (page + 1)) (grind (arith, nat_tests), i.at.1))
      by_more false e = ring_ends s v quiet i.agree i.sized stage.ClosePort i.at.1.taken (to i.agree i.sized stage.ClosePort i.at.1)
  stage_goes (stage.RingEnd page before) a here i is = absurd is
  stage_goes stage.ClosePort a here i is = calm s (at stage.Left v) quiet (to i.agree i.sized stage.Left i.at)
  stage_goes stage.Initialised a here i is = waits stage.Initialised a here i
  stage_goes (stage.KeptRead frame) a here i is = waits (stage.KeptRead frame) a here i
  stage_goes (stage.KeptEnd frame seen) a here i is = waits (stage.KeptEnd frame seen) a here i
  stage_goes stage.Left a here i is = waits stage.Left a here i
  stage_goes stage.Closed a here i is = waits stage.Closed a here i
  stage_goes (stage.Broken word) a here i is = waits (stage.Broken word) a here i
