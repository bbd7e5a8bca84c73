-- Where the front's negotiation asks for nothing, and a front that closes where it has no request left.
use Rattle.std.proofs.Common.{◌⊎◌, inl, inr, ◌≡◌, ◌∙◌, ap, sym, subst, ℕ, ◌+◌, Bool, true, false, true≢false, ◌&&◌, if◌then◌else◌, refl, arith}
use Rattle.std.specs.Prelude.{Option, Some, None, ◌==◌, length}
use Rattle.std.proofs.lemmas.Bool.Decides.{nat_tests}
use Rattle.blk_front.specs.declared.stage.FrontStage.{FrontStage}
use Rattle.blk_front.specs.declared.stage.FrontStage.TheVariants as ring_stage
use Rattle.xenbus_state.specs.declared.state.BusState.{BusState}
use Rattle.xenbus_state.specs.declared.state.BusState.TheVariants as state
use Rattle.xenbus_state.specs.declared.stage.FrontBusStage.{FrontBusStage}
use Rattle.xenbus_state.specs.declared.stage.FrontBusStage.TheVariants as stage
use Rattle.xenbus_state.specs.declared.front.FrontBusAsk.{FrontBusAsk}
use Rattle.xenbus_state.specs.declared.front.FrontBusAsk.TheVariants as bus_ask
use Rattle.xenbus_state.specs.FrontView.{FrontView}
use Rattle.xenbus_state.specs.FrontAsk.{ask_at, leaving, closing_stage, due_at}
use Rattle.blk_front.specs.Submit.{ending_of}
use Rattle.blk_front.specs.State.{is_made, is_bare}
use Rattle.vbd_model.specs.World.{World}
use Rattle.vbd_model.specs.Fit.{IsEndingPage, FrontRests, IsGranting, FrontGoesWith, IsFit}
use Rattle.vbd_front.specs.View.{is_broken, is_still, is_unoccupied}
use Rattle.vbd_front.specs.Ask.{speaks, ring_moves}

-- where the negotiation says nothing and its end of the ring has no move, it waits; and it has no other grants to end
pub record Quiet (b : FrontBusAsk) (r : FrontStage) : Type 0 where
  pub waits : speaks b ≡ false → ring_moves b r ≡ false → b ≡ bus_ask.Wait
  pub keeps : b ≡ bus_ask.EndOtherGrants → ⊥

says_quiet : (b : FrontBusAsk) (r : FrontStage) → speaks b ≡ true → Quiet b r
says_quiet b r says = record { waits = λ quiet. absurd (true≢false (sym says ∙ quiet)); keeps = λ e. absurd (true≢false (sym says ∙ ap speaks e)) }

wait_quiet : (r : FrontStage) → Quiet bus_ask.Wait r
wait_quiet r = record { waits = λ quiet still. refl; keeps = λ e. cc }

moves_quiet : (b : FrontBusAsk) (r : FrontStage) → ring_moves b r ≡ true → (b ≡ bus_ask.EndOtherGrants → ⊥) → Quiet b r
moves_quiet b r moves keeps = record { waits = λ quiet still. absurd (true≢false (sym moves ∙ still)); keeps = keeps }

ending_moves : (page : ℕ) (r : FrontStage) → IsEndingPage page r → ring_moves (bus_ask.EndGrant page) r ≡ true
ending_moves page (ring_stage.RingRead k) is = refl
ending_moves page (ring_stage.RingEnd k seen) is = refl
ending_moves page r is = absurd is

ends_whole : (page : ℕ) (r : FrontStage) → IsEndingPage page r ⊎ (is_broken r ≡ true) → is_broken r ≡ false → IsEndingPage page r
ends_whole page r (inl is) whole = is
ends_whole page r (inr broken) whole = absurd (true≢false (sym broken ∙ whole))

leaving_quiet : (gone : Bool) (port : Option ℕ) (v : FrontView) (r : FrontStage) → FrontRests state.Closing gone port r → Quiet (ask_at (leaving gone port) v) r
leaving_quiet false None v r fits = wait_quiet r
leaving_quiet false (Some p) v r fits = wait_quiet r
leaving_quiet true None v r fits = absurd fits
leaving_quiet true (Some p) v r fits = moves_quiet (bus_ask.EndGrant 0) r (ending_moves 0 r fits) (λ e. cc)

closing_quiet : (own : BusState) (v : FrontView) (r : FrontStage) → FrontRests own v.gone v.port r → Quiet (ask_at (closing_stage own v) v) r
closing_quiet state.Closing v r fits = leaving_quiet v.gone v.port v r fits
closing_quiet own v r fits = says_quiet (ask_at (closing_stage own v) v) r refl

due_quiet : (c : Bool) (v : FrontView) (r : FrontStage) → (c ≡ true → FrontRests v.state v.gone v.port r) → Quiet (ask_at (if c then closing_stage v.state v else stage.Rest) v) r
due_quiet true v r fits = closing_quiet v.state v r (fits refl)
due_quiet false v r fits = wait_quiet r

rests_whole : (v : FrontView) (r : FrontStage) → FrontRests v.state v.gone v.port r ⊎ (is_broken r ≡ true) → is_broken r ≡ false → FrontRests v.state v.gone v.port r
rests_whole v r (inl fits) whole = fits
rests_whole v r (inr broken) whole = absurd (true≢false (sym broken ∙ whole))

granting_moves : (page : ℕ) (r : FrontStage) → IsGranting page r → ring_moves (bus_ask.Grant page) r ≡ true
granting_moves page (ring_stage.RingFrame k) is = refl
granting_moves page (ring_stage.RingFence k) is = refl
granting_moves page (ring_stage.RingFlags k) is = refl
granting_moves page r is = absurd is

pub quiet_at : (s : FrontBusStage) (v : FrontView) (r : FrontStage) (idle : Bool) → FrontGoesWith s v r → is_broken r ≡ false → Quiet (ask_at (due_at s v idle) v) r
quiet_at stage.Rest v r idle fits whole = due_quiet (v.closing && idle) v r (λ e. rests_whole v r fits whole)
quiet_at stage.Start v r idle fits whole = says_quiet bus_ask.Watch r refl
quiet_at stage.ReadState v r idle fits whole = says_quiet bus_ask.GetState r refl
quiet_at (stage.ReadFeature key) v r idle fits whole = says_quiet (bus_ask.GetKey key) r refl
quiet_at (stage.ReadFact key) v r idle fits whole = says_quiet (bus_ask.GetKey key) r refl
quiet_at (stage.Publish key) v r idle fits whole = says_quiet (ask_at (stage.Publish key) v) r refl
quiet_at (stage.WriteState own) v r idle fits whole = says_quiet (bus_ask.SetState own) r refl
quiet_at (stage.RingWord word) v r idle fits whole = moves_quiet (bus_ask.WriteRingWord word) r (rw fits.2 refl) (λ e. cc)
quiet_at (stage.Grant page) v r idle fits whole = moves_quiet (bus_ask.Grant page) r (granting_moves page r fits.1) (λ e. cc)
quiet_at (stage.EndGrant page) v r idle fits whole = moves_quiet (bus_ask.EndGrant page) r (ending_moves page r (ends_whole page r fits.1 whole)) (λ e. cc)
quiet_at stage.NewPort v r idle fits whole = moves_quiet bus_ask.NewPort r (rw fits.1 refl) (λ e. cc)
quiet_at stage.ClosePort v r idle fits whole = moves_quiet bus_ask.ClosePort r (rw fits.1 refl) (λ e. cc)
quiet_at stage.Closed v r idle fits whole = wait_quiet r
quiet_at (stage.Broken word) v r idle fits whole = wait_quiet r
quiet_at s v r idle fits whole = absurd fits

-- a front that wrote Closing is unoccupied: no request is left, and its end of the ring is at nothing
record IsIdleRing (r : FrontStage) : Type 0 where
  still : is_still r ≡ true
  ended : ending_of r ≡ 0

early_not : {A : Type 0} (own : BusState) → own ≡ state.Initialising → own ≡ state.Closing → A
early_not own e f = absurd (cc)

later_not : {A : Type 0} (own : BusState) → own ≡ state.Initialised → own ≡ state.Closing → A
later_not own e f = absurd (cc)

last_not : {A : Type 0} (own : BusState) → own ≡ state.Closed → own ≡ state.Closing → A
last_not own e f = absurd (cc)

made_idle : (r : FrontStage) → is_made r ≡ true → IsIdleRing r
made_idle ring_stage.Initialised is = record { still = refl; ended = refl }
made_idle ring_stage.Loop is = record { still = refl; ended = refl }
made_idle r is = absurd (true≢false (sym is))

ending_idle : (page : ℕ) (r : FrontStage) → IsEndingPage page r → IsIdleRing r
ending_idle page (ring_stage.RingRead k) is = record { still = refl; ended = refl }
ending_idle page (ring_stage.RingEnd k seen) is = record { still = refl; ended = refl }
ending_idle page r is = absurd is

bare_idle : (r : FrontStage) → is_bare r ≡ true → IsIdleRing r
bare_idle (ring_stage.RingWord k) is = record { still = refl; ended = refl }
bare_idle ring_stage.Left is = record { still = refl; ended = refl }
bare_idle r is = absurd (true≢false (sym is))

rests_idle : (gone : Bool) (port : Option ℕ) (r : FrontStage) → FrontRests state.Closing gone port r → IsIdleRing r
rests_idle false None r fits = rw fits (record { still = refl; ended = refl })
rests_idle false (Some p) r fits = made_idle r fits
rests_idle true (Some p) r fits = ending_idle 0 r fits
rests_idle true None r fits = absurd fits

closing_rests : (v : FrontView) (r : FrontStage) → v.state ≡ state.Closing → FrontRests v.state v.gone v.port r → IsIdleRing r
closing_rests v r e fits = rests_idle v.gone v.port r (subst (λ (own : BusState). FrontRests own v.gone v.port r) e fits)

closing_idle : (s : FrontBusStage) (v : FrontView) (r : FrontStage) → FrontGoesWith s v r → v.state ≡ state.Closing → is_broken r ≡ false → IsIdleRing r
closing_idle stage.Rest v r fits e whole = closing_rests v r e (rests_whole v r fits whole)
closing_idle stage.ReadState v r fits e whole = closing_rests v r e fits
closing_idle stage.Start v r fits e whole = early_not v.state fits.0 e
closing_idle (stage.ReadFeature key) v r fits e whole = early_not v.state fits.0 e
closing_idle (stage.RingWord word) v r fits e whole = early_not v.state fits.0 e
closing_idle (stage.Grant page) v r fits e whole = early_not v.state fits.0 e
closing_idle stage.NewPort v r fits e whole = early_not v.state fits.0 e
closing_idle (stage.Publish key) v r fits e whole = early_not v.state fits.0 e
closing_idle (stage.ReadFact key) v r fits e whole = later_not v.state fits.0 e
closing_idle (stage.WriteState state.Initialised) v r fits e whole = early_not v.state fits.0 e
closing_idle (stage.WriteState state.Connected) v r fits e whole = later_not v.state fits.0 e
closing_idle (stage.WriteState state.Closed) v r fits e whole = bare_idle r fits.1
closing_idle (stage.WriteState own) v r fits e whole = absurd fits
closing_idle (stage.EndGrant page) v r fits e whole = ending_idle page r (ends_whole page r fits.1 whole)
closing_idle stage.ClosePort v r fits e whole = rw fits.1 (record { still = refl; ended = refl })
closing_idle stage.Closed v r fits e whole = last_not v.state fits.0 e
closing_idle (stage.Broken word) v r fits e whole = absurd (true≢false (sym fits ∙ whole))
closing_idle s v r fits e whole = absurd fits

none_left : (closing : Bool) (requests ending : ℕ) (still : Bool) → (closing && requests == 0) ≡ true → ending ≡ 0 → still ≡ true → (requests + ending == 0 && still) ≡ true
none_left true requests ending still through none is =
    let no_request : requests ≡ 0 = grind (arith, nat_tests) in
    rw (no_request, none, is) refl
none_left false requests ending still through none is = absurd (true≢false (sym through))

pub closing_unoccupied : (w : World) → IsFit w → is_broken w.rings.front.stage ≡ false → w.front.state ≡ state.Closing → is_unoccupied w.rings.front ≡ true
closing_unoccupied w fit whole e =
    let idle = closing_idle w.front.stage w.front w.rings.front.stage fit.front e whole in
    none_left w.rings.front.closing (length w.rings.front.requests) (ending_of w.rings.front.stage) (is_still w.rings.front.stage) (fit.through e whole) idle.ended idle.still
