-- After a move of the front's end of the ring, or a watch, its negotiation goes with it.
use Rattle.std.proofs.Common.{◌≡◌, ℕ, ◌+◌, Bool, true, false, true≢false, if◌then◌else◌, inl, inr, refl, sym, ap, ◌∙◌}
use Rattle.std.specs.Prelude.{Option, Some, None, ◌%◌, ◌⊎◌, nat_lt, slice_set}
use Rattle.blk_base.specs.declared.ask.FrontAnswer.{FrontAnswer}
use Rattle.blk_base.specs.declared.ask.FrontAnswer.TheVariants as answer
use Rattle.blk_front.specs.declared.stage.Ending.{Ending}
use Rattle.blk_front.specs.Request.{words_in}
use Rattle.blk_front.specs.declared.stage.FrontStage.{FrontStage}
use Rattle.blk_front.specs.declared.stage.FrontStage.TheVariants as ring
use Rattle.blk_front.specs.View as ends
use Rattle.blk_front.specs.Ask.{ask_at as ring_ask_at, IsAnswer}
use Rattle.blk_front.specs.Step.{at as ring_at, sector_told, finished, left_step, step_at as ring_step_at, step_of as ring_step_of}
use Rattle.blk_front.specs.Submit.{is_connected}
use Rattle.blk_front.specs.Suspend.{is_left}
use Rattle.xenbus_state.specs.declared.state.BusState.TheVariants as state
use Rattle.xenbus_state.specs.declared.stage.FrontBusStage.{FrontBusStage}
use Rattle.xenbus_state.specs.declared.stage.FrontBusStage.TheVariants as stage
use Rattle.xenbus_state.specs.declared.front.FrontBusAsk.TheVariants as ask
use Rattle.xenbus_state.specs.FrontView.{FrontView}
use Rattle.xenbus_state.specs.FrontAsk.{leaving, due, ask_at, ask_of}
use Rattle.vbd_front.specs.View.{is_unoccupied, is_broken}
use Rattle.vbd_front.specs.Ask.{speaks, ring_moves}
use Rattle.vbd_front.specs.Step.{woken, followed, waited}
use Rattle.vbd_model.specs.Fit.{IsEndingPage, FrontRests, IsUnbegun, FrontGoesWith}
use Rattle.vbd_laws.proofs.FitFrontBus.{FrontFits, unoccupied, due_cases, closing_cases}
use Rattle.vbd_laws.proofs.FitFrontSpoken.{fits_at, whole_rests, whole_ordered}
use Rattle.vbd_laws.proofs.FitFrontMoves.{Follows, begun_follows, connected_moves, connected_still, end_follows, follows_fit, left_starts, none_left, over_follows, rest_follows, woken_follows}

-- a move of the ring's end, which its negotiation leaves it
pub ring_fits : (v : FrontView) (f : ends.View) (x : FrontAnswer) → FrontFits v f → speaks (ask_of v (is_unoccupied f)) ≡ false → ring_moves (ask_of v (is_unoccupied f)) f.stage ≡ true
    → IsAnswer (ring_ask_at f.stage f) x → FrontFits (followed (ask_of v (is_unoccupied f)) (ring_step_of f x).stage (is_unoccupied f) v x) (ring_step_of f x)
ring_fits v f x h quiet moves allowed =
    follows_fit v _ f x h
    (due_cases (λ (d : FrontBusStage). due v idle ≡ d → Moves d) v idle
    (λ e quiet moves. begun_follows v.stage f.stage v idle f x refl refl e h.ordered h.goes (λ here. rest_follows v f x here (e ∙ here) h (rests here moves) allowed) quiet moves allowed)
    (λ here closing is_idle.
    let is = unoccupied f is_idle in
    closing_cases (λ (d : FrontBusStage). due v idle ≡ d → Moves d) v f.stage is.still (whole_rests v f here is.whole h) (λ first e quiet. absurd (true≢false quiet))
    (λ own ending. leaves here own is.whole v.gone v.port refl refl ending)) refl quiet moves)
  where
    idle : Bool
    idle = is_unoccupied f

    Moves : FrontBusStage → Type 0
    Moves d = speaks (ask_at d v) ≡ false → ring_moves (ask_at d v) f.stage ≡ true → Follows v (followed (ask_at d v) (ring_step_of f x).stage idle v x) (ring_step_of f x).stage f.shape.order

    none : v.stage ≡ stage.Rest → is_left f.stage ≡ false
    none here = none_left v.stage v f.stage h.goes (λ begins. let same : stage.Rest ≡ stage.Start = sym here ∙ begins in cc)

    rests : v.stage ≡ stage.Rest → ring_moves (ask_at v.stage v) f.stage ≡ true → is_connected f.stage ≡ true
    rests here moves = connected_moves f.stage (none here) (rw here at moves)

    leaves : v.stage ≡ stage.Rest → v.state ≡ state.Closing → is_broken f.stage ≡ false → (gone : Bool) (port : Option ℕ) → v.gone ≡ gone → v.port ≡ port → FrontRests state.Closing gone port f.stage
        → due v idle ≡ leaving gone port → Moves (leaving gone port)
    leaves here own whole false port g p ending e quiet moves = rest_follows v f x here e h (connected_moves f.stage (none here) moves) allowed
    leaves here own whole true None g p ending e quiet moves = absurd ending
    leaves here own whole true (Some n) g p ending e quiet moves =
        let agreed = whole_ordered v f here h in end_follows 0 f.stage v idle f x n e own p (rw p at agreed) h.ordered rested ending allowed
      where
        rested : (r : FrontStage) → IsEndingPage 0 r ⊎ (is_broken r ≡ true) → FrontGoesWith v.stage v r
        rested r (inl is) = rw here (inl (rw (own, g, p) is))
        rested r (inr is) = rw here (inr is)

-- the negotiation waits where the ring's end has no move
pub wait_fits : (v : FrontView) (f : ends.View) (x : FrontAnswer) → FrontFits v f → speaks (ask_of v (is_unoccupied f)) ≡ false → ring_moves (ask_of v (is_unoccupied f)) f.stage ≡ false
    → FrontFits (waited (ask_of v (is_unoccupied f)) (is_unoccupied f) v x) f
wait_fits v f x h quiet still =
    kept
    (due_cases (λ (d : FrontBusStage). due v idle ≡ d → Waits d) v idle (λ e. begun v.stage refl e h.goes)
    (λ here closing is_idle.
    let is = unoccupied f is_idle in
    closing_cases (λ (d : FrontBusStage). due v idle ≡ d → Waits d) v f.stage is.still (whole_rests v f here is.whole h) (λ first e quiet. absurd (true≢false quiet)) (λ own ending. leaves here v.gone v.port)) refl quiet still)
  where
    idle : Bool
    idle = is_unoccupied f

    Waits : FrontBusStage → Type 0
    Waits d = speaks (ask_at d v) ≡ false → ring_moves (ask_at d v) f.stage ≡ false → Follows v (waited (ask_at d v) idle v x) f.stage f.shape.order

    kept : Follows v (waited (ask_of v idle) idle v x) f.stage f.shape.order → FrontFits (waited (ask_of v idle) idle v x) f
    kept follows = fits_at v _ f follows.goes follows.closing follows.own follows.ordered h

    unmoved : Follows v v f.stage f.shape.order
    unmoved = record { goes = h.goes; closing = refl; own = refl; ordered = h.ordered }

    whole : (r : FrontStage) → is_connected r ≡ false → is_broken r ≡ false
    whole (ring.Broken word) still = absurd (true≢false still)
    whole r still = refl

    rests : v.stage ≡ stage.Rest → due v idle ≡ stage.Rest → is_connected f.stage ≡ false → Follows v (woken false idle v x) f.stage f.shape.order
    rests here e still = let is = whole f.stage still in woken_follows false v idle x f.stage f.shape.order here e (rw here at h.ordered) (inl (whole_rests v f here is h)) (λ none. is)

    begun : (b : FrontBusStage) → v.stage ≡ b → due v idle ≡ b → FrontGoesWith b v f.stage → Waits b
    begun stage.Rest here e goes quiet still = rests here e (connected_still f.stage still)
    begun stage.Closed here e goes quiet still = over_follows stage.Closed false v idle x f.stage f.shape.order here e (λ path. refl) unmoved
    begun (stage.Broken word) here e goes quiet still = over_follows (stage.Broken word) false v idle x f.stage f.shape.order here e (λ path. refl) unmoved
    begun b here e goes quiet still = unmoved

    leaves : v.stage ≡ stage.Rest → (gone : Bool) (port : Option ℕ) → due v idle ≡ leaving gone port → Waits (leaving gone port)
    leaves here false port e quiet still = rests here e (connected_still f.stage still)
    leaves here true None e quiet still = unmoved
    leaves here true (Some n) e quiet still = unmoved

-- data that are left are told while the negotiation waits
left_goes : (r : FrontStage) (f : ends.View) (x : FrontAnswer) → f.stage ≡ r → is_left r ≡ true → IsUnbegun (ring_step_at r f x).stage
left_goes (ring.LeftData n) f (answer.Word word) here left = by_ending f.ending
  where
    by_ending : (o : Option Ending) → IsUnbegun (left_step o n word f).stage
    by_ending None = inr (ap is_left here)
    by_ending (Some e) = by_more (nat_lt (n + 1) (words_in e.request))
      where
        by_more : (more : Bool) → IsUnbegun (if more then ring_at (ring.LeftData (n + 1)) (sector_told e n (slice_set f.words (n % 128) word) f) else ring_at (ring.RingWord 0) (finished e (sector_told e n (slice_set f.words (n % 128) word) f))).stage
        by_more true = inr refl
        by_more false = inl refl
left_goes (ring.LeftData n) f x here left = inr (ap is_left here)
left_goes r f x here left = absurd (true≢false (sym left))

pub left_fits : (v : FrontView) (f : ends.View) (x : FrontAnswer) → FrontFits v f → is_left f.stage ≡ true
    → FrontFits (followed ask.Wait (ring_step_of f x).stage (is_unoccupied f) v x) (ring_step_of f x)
left_fits v f x h left =
    follows_fit v _ f x h (over_follows stage.Start (is_broken (ring_step_of f x).stage) v (is_unoccupied f) x (ring_step_of f x).stage f.shape.order here (rw here refl) (λ path. refl) unmoved)
  where
    here : v.stage ≡ stage.Start
    here = left_starts v.stage v f.stage h.goes left

    goes : FrontGoesWith stage.Start v f.stage
    goes = rw here at h.goes

    unmoved : Follows v v (ring_step_of f x).stage f.shape.order
    unmoved = record { goes = rw here (goes.0, left_goes f.stage f x refl left, goes.2); closing = refl; own = refl; ordered = h.ordered }
