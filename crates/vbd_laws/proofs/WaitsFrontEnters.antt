-- A state that the front's end of the ring enters, and a submission, leave it asleep or awake.
use Rattle.std.proofs.Common.{◌≡◌, ◌∙◌, sym, refl, ℕ, ◌+◌, ◌-◌, ◌<◌, ◌&&◌, not, Bool, true, false, true≢false, if◌then◌else◌, List, [], ◌∷◌, ◌++◌, length, length-append, arith}
use Rattle.std.specs.Prelude.{Option, Some, None, IsSome, Result, nat_lt, nat_le, slice_get, ◌==◌}
use Rattle.std.proofs.lemmas.Option.{slice_get_within}
use Rattle.std.proofs.lemmas.Bool.Decides.{nat_tests}
use Rattle.std.proofs.lemmas.Bool.{not-false}
use Rattle.machine_pipeline.proofs.Lists.{get_within}
use Rattle.blk_base.specs.declared.config.Submission.{Submission}
use Rattle.ring_words.specs.Shape.{entries_of}
use Rattle.blk_front.specs.declared.stage.FrontStage.{FrontStage}
use Rattle.blk_front.specs.declared.stage.FrontStage.TheVariants as stage
use Rattle.blk_front.specs.declared.request.Request.{Request}
use Rattle.blk_front.specs.declared.request.Wish.{Wish}
use Rattle.blk_front.specs.declared.state.FrontState.{FrontState}
use Rattle.blk_front.specs.declared.state.FrontState.TheVariants as enter
use Rattle.blk_base.specs.declared.refusal.Refusal.{Refusal}
use Rattle.blk_front.specs.Pool.{taking}
use Rattle.blk_front.specs.Request.{is_write, named_of, frames_for}
use Rattle.blk_front.specs.View.{View, next_request}
use Rattle.blk_front.specs.State.{is_unmade, may_enter, in_state, enters}
use Rattle.blk_front.specs.Submit.{is_ready, is_initialised, unfinished, wish_of, most_segments, frames_taken, request_with, accepted, submit_with, submit_one, submit_of}
use Rattle.line_text.proofs.Both.{both_true}
use Rattle.split_model.proofs.States.{enters_cases}
use Rattle.vbd_laws.specs.Waits.{Check}
use Rattle.vbd_laws.proofs.WaitsChecks.{IsTold, is_fenced}
use Rattle.vbd_laws.proofs.WaitsFrontRing.{Stands, StandsAt}

-- a state that it enters
agrees_at : (s : FrontStage) (v : View) (u : View) (c : Check) → is_unmade s ≡ true → u.ring.asleep ≡ v.ring.asleep → StandsAt s v c → StandsAt s u c
agrees_at (stage.RingWord k) v u c may asleep is = let known = is.0 in ((asleep ∙ known.0, known.1), tt)
agrees_at s v u c may asleep is = absurd (true≢false (sym may))

connects_at : (s : FrontStage) (v : View) (c : Check) → is_initialised s ≡ true → StandsAt s v c → (IsTold c v.ring.asleep) × (is_fenced c ≡ false)
connects_at stage.Initialised v c may is = let known = is.0 in (known.1 ∙ sym known.0, known.2)
connects_at s v c may is = absurd (true≢false (sym may))

closing_at : (s : FrontStage) (v : View) (c : Check) → StandsAt s v c → StandsAt s (record v { closing = true }) c
closing_at (stage.Data n) v c is = is
closing_at s v c is = is

pub stands_enters : (s : FrontState) (v : View) (c : Check) → Stands v c → Stands (enters s v) c
stands_enters s v c is = enters_cases (λ (x : View) shown. Stands x c) s v (by_state s) is
  where
    by_state : (s : FrontState) → may_enter s v ≡ true → Stands (in_state s v) c
    by_state (enter.Agreed order) may = agrees_at v.stage v (in_state (enter.Agreed order) v) c (both_true (is_unmade v.stage) (nat_le order v.shape.order) (both_true _ _ may).0).0 refl is
    by_state (enter.Connected offers) may = (connects_at v.stage v c may is, tt)
    by_state enter.Closing may = closing_at v.stage v c is
    by_state other may = (tt, tt)

-- a submission
next_kept : (v : View) (wish : Wish) (frames : List ℕ × List Bool) → IsSome (next_request v) → IsSome (next_request (accepted v wish frames))
next_kept v wish frames some = by_waiting v.waiting refl some
  where
    more : List Request
    more = v.requests ++ request_with v wish frames.0 ∷ []

    longer : length more ≡ length v.requests + 1
    longer = length-append v.requests (request_with v wish frames.0 ∷ [])

    found : (n : ℕ) → IsSome (slice_get v.requests (length v.requests - n)) → IsSome (slice_get more (length more - (n + 1)))
    found n is = by_old (slice_get v.requests (length v.requests - n)) refl is
      where
        by_old : (o : Option Request) → slice_get v.requests (length v.requests - n) ≡ o → IsSome o → IsSome (slice_get more (length more - (n + 1)))
        by_old None e is = absurd (true≢false (sym is))
        by_old (Some r) e is =
            let within : length v.requests - n < length v.requests = slice_get_within v.requests (length v.requests - n) r e in
            let low : length more - (n + 1) < length more = omega (arith, longer) in
            let there = get_within more (length more - (n + 1)) low in
            rw there.1 refl

    by_waiting : (n : ℕ) → v.waiting ≡ n → IsSome (if n == 0 then None else slice_get v.requests (length v.requests - n)) → IsSome (if n + 1 == 0 then None else slice_get more (length more - (n + 1)))
    by_waiting n e is = by_zero (n == 0) (n + 1 == 0) refl (grind (arith, nat_tests)) is
      where
        by_zero : (none some : Bool) → (n == 0) ≡ none → some ≡ false → IsSome (if none then None else slice_get v.requests (length v.requests - n)) → IsSome (if some then None else slice_get more (length more - (n + 1)))
        by_zero true some z nz is = absurd (true≢false (sym is))
        by_zero false true z nz is = absurd (true≢false nz)
        by_zero false false z nz is = found n is

accepts_at : (s : FrontStage) (v : View) (wish : Wish) (frames : List ℕ × List Bool) (c : Check) → is_ready s ≡ true → StandsAt s v c → StandsAt s (accepted v wish frames) c
accepts_at (stage.RingWord k) v wish frames c ready is = absurd (true≢false (sym ready))
accepts_at (stage.RingFrame page) v wish frames c ready is = absurd (true≢false (sym ready))
accepts_at (stage.RingFence page) v wish frames c ready is = absurd (true≢false (sym ready))
accepts_at (stage.RingFlags page) v wish frames c ready is = absurd (true≢false (sym ready))
accepts_at stage.NewPort v wish frames c ready is = absurd (true≢false (sym ready))
accepts_at stage.Initialised v wish frames c ready is = absurd (true≢false (sym ready))
accepts_at (stage.Data n) v wish frames c ready is = (is.0, next_kept v wish frames is.1)
accepts_at (stage.Pages n) v wish frames c ready is = (is.0, next_kept v wish frames is.1)
accepts_at (stage.GrantFrame place) v wish frames c ready is = (is.0, next_kept v wish frames is.1)
accepts_at (stage.GrantFence place) v wish frames c ready is = (is.0, next_kept v wish frames is.1)
accepts_at (stage.GrantFlags place) v wish frames c ready is = (is.0, next_kept v wish frames is.1)
accepts_at s v wish frames c ready is = is

either_submit : (b : Bool) (c : Check) (x y : Result ℕ Refusal × View) → Stands x.1 c → ((b ≡ false) → Stands y.1 c) → Stands (if b then x else y).1 c
either_submit true c x y p q = p
either_submit false c x y p q = q refl

submit_frames : (v : View) (wish : Wish) (frames : Option (List ℕ × List Bool)) (c : Check) → is_ready v.stage ≡ true → Stands v c → Stands (submit_with v wish frames).1 c
submit_frames v wish None c ready is = is
submit_frames v wish (Some frames) c ready is = accepts_at v.stage v wish frames c ready is

submit_wish : (v : View) (wish : Option Wish) (c : Check) → is_ready v.stage ≡ true → Stands v c → Stands (submit_one v wish).1 c
submit_wish v None c ready is = is
submit_wish v (Some wish) c ready is =
    either_submit (is_write wish.transfer && v.offers.read_only) c _ _ is
    (λ t. either_submit (nat_lt v.offers.sectors (wish.sector + named_of wish.transfer wish.count)) c _ _ is
    (λ t. either_submit (nat_lt (most_segments v.offers wish.transfer) (frames_for wish.count)) c _ _ is
    (λ t. either_submit (nat_le (entries_of v.shape.order) (unfinished v)) c _ _ is (λ t. submit_frames v wish (taking (frames_taken wish.count) v.pool []) c ready is))))

pub stands_submit : (v : View) (job : Submission) (c : Check) → Stands v c → Stands (submit_of v job).1 c
stands_submit v job c is =
    either_submit (v.last == 4294967295) c _ _ is
    (λ t. either_submit v.closing c _ _ is (λ t. either_submit (not (is_ready v.stage)) c _ _ is (λ ready. submit_wish v (wish_of v.offers job) c (not-false (is_ready v.stage) ready) is)))
