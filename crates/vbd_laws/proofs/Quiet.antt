-- Where all is quiet, before a hostile hand first overwrites a word or a key, both ends have written the same state last, and Closed only as the front closes, and the directory of keys says so.
use Rattle.std.proofs.Common.{◌⊎◌, inl, inr, ◌≡◌, ◌∙◌, ap, sym, subst, ◌+◌, ◌==◌, ◌&&◌, ℕ, Bool, true, false, true≢false, List, [], ◌∷◌, ◌++◌, map, length, refl, if◌then◌else◌}
use Rattle.std.specs.Prelude.{Option, Some}
use Rattle.std.specs.Fmt.{digits}
use Rattle.blk_base.specs.Options.{Options}
use Rattle.blk_base.specs.declared.parts.End.{End}
use Rattle.blk_base.specs.declared.parts.End.TheVariants as end
use Rattle.blk_front.specs.declared.request.Request.{Request}
use Rattle.blk_front.specs.declared.stage.FrontStage.{FrontStage}
use Rattle.blk_front.specs.declared.stage.FrontStage.TheVariants as front_ring
use Rattle.blk_front.specs.Submit as front_submit
use Rattle.xenbus_state.specs.declared.state.BusState.{BusState}
use Rattle.xenbus_state.specs.declared.state.BusState.TheVariants as state
use Rattle.xenbus_state.specs.declared.stage.FrontBusStage.{FrontBusStage}
use Rattle.xenbus_state.specs.declared.stage.FrontBusStage.TheVariants as stage
use Rattle.xenbus_state.specs.FrontView.{FrontView}
use Rattle.split_model.specs.World as rings
use Rattle.split_model.specs.Keys.{KeyMove}
use Rattle.split_model.specs.Honest.{honest_history}
use Rattle.split_model.specs.Happening as ring
use Rattle.machine_pipeline.proofs.AtRest.{IsIdleRing, quiet_rests}
use Rattle.negotiation_laws.specs.Negotiation.{Negotiation, state_text}
use Rattle.negotiation_laws.specs.Laws.{AreStatesSaid, IsAtRest, AreBoth, WaitsForRequests}
use Rattle.negotiation_laws.proofs.Found.{states_said}
use Rattle.report_laws.specs.Agreed.{HasBoth, AreAlike, IsAgreed, AreAgreed}
use Rattle.vbd_front.specs.View as front_view
use Rattle.vbd_front.specs.Ask as front
use Rattle.vbd_back.specs.Ask as back
use Rattle.vbd_model.specs.World.{World, start_of, is_quiet}
use Rattle.vbd_model.specs.Happening.{Happening, FrontMoves, BackMoves, Closes, Looks, Settles, front_turn, back_turn, entered_at, halted_at, front_key, back_key, closes_does, is_fronts_ring, is_backs_ring, attaches, back_negotiates, does, after}
use Rattle.vbd_model.specs.Fit.{FrontRests, FrontGoesWith, IsFit}
use Rattle.vbd_model.specs.Possible.{IsPossible}
use Rattle.vbd_laws.specs.Quiet.{IsUntouched, HaveBoth, StatesAgree, StatesAgreeAtQuiet, RingsAgreed}
use Rattle.vbd_laws.proofs.MovesTurns.{front_asks, back_asks, back_learns}
use Rattle.vbd_laws.proofs.NegotiatedRun.{Reached, negotiation_of}
use Rattle.vbd_laws.proofs.AtRest.{agrees_at, at_rest}
use Rattle.vbd_laws.proofs.ServedGone.{gone_agrees}
use Rattle.vbd_laws.proofs.ServedHonest.{Going, Honest, whole_now}
use Rattle.vbd_laws.proofs.ServedRun.{waiting, going_quiet, honest_start, honest_after, all_of}
use Rattle.vbd_laws.proofs.WaitsChecks.{is_closed}

-- the directory says both states
pub said_at : (n : Negotiation) → Reached n → AreStatesSaid n
said_at n j = subst AreStatesSaid j.stands (states_said j.run)

-- a front without requests, in its loop or closed, is unoccupied
still_at : (requests : List Request) (s : FrontStage) → requests ≡ [] → (s ≡ front_ring.Loop) ⊎ (s ≡ front_ring.Closed) → (length requests + front_submit.ending_of s == 0 && front_view.is_still s) ≡ true
still_at requests s none (inl e) = rw (none, e) refl
still_at requests s none (inr e) = rw (none, e) refl

whole_at : (s : FrontStage) → (s ≡ front_ring.Loop) ⊎ (s ≡ front_ring.Closed) → front_view.is_broken s ≡ false
whole_at s (inl e) = ap front_view.is_broken e
whole_at s (inr e) = ap front_view.is_broken e

-- it isn't another state
differs : {A : Type 0} (b c : BusState) → b ≡ state.Closed → b ≡ c → is_closed c ≡ false → A
differs b c own is other = absurd (true≢false (sym (ap is_closed own) ∙ ap is_closed is ∙ other))

rests_unclosed : {A : Type 0} (s : BusState) (gone : Bool) (port : Option ℕ) (r : FrontStage) → FrontRests s gone port r → s ≡ state.Closed → A
rests_unclosed state.Closed gone port r rests own = absurd rests
rests_unclosed s gone port r rests own = absurd (true≢false (sym (ap is_closed own)))

-- a front that wrote Closed closes, where its end of the ring isn't broken
closed_closes : (b : FrontBusStage) (v : FrontView) (r : FrontStage) → FrontGoesWith b v r → v.state ≡ state.Closed → front_view.is_broken r ≡ false → v.closing ≡ true
closed_closes stage.Start v r goes own whole = differs v.state state.Initialising own goes.0 refl
closed_closes stage.Rest v r goes own whole = elim goes [ inl rests ↦ rests_unclosed v.state v.gone v.port r rests own | inr is ↦ absurd (true≢false (sym is ∙ whole)) ]
closed_closes stage.ReadState v r goes own whole = rests_unclosed v.state v.gone v.port r goes own
closed_closes (stage.ReadFeature key) v r goes own whole = differs v.state state.Initialising own goes.0 refl
closed_closes (stage.RingWord word) v r goes own whole = differs v.state state.Initialising own goes.0 refl
closed_closes (stage.Grant page) v r goes own whole = differs v.state state.Initialising own goes.0 refl
closed_closes stage.NewPort v r goes own whole = differs v.state state.Initialising own goes.0 refl
closed_closes (stage.Publish key) v r goes own whole = differs v.state state.Initialising own goes.0 refl
closed_closes (stage.ReadFact key) v r goes own whole = differs v.state state.Initialised own goes.0 refl
closed_closes (stage.WriteState state.Initialised) v r goes own whole = differs v.state state.Initialising own goes.0 refl
closed_closes (stage.WriteState state.Connected) v r goes own whole = differs v.state state.Initialised own goes.0 refl
closed_closes (stage.WriteState state.Closed) v r goes own whole = differs v.state state.Closing own goes.0 refl
closed_closes (stage.WriteState s) v r goes own whole = absurd goes
closed_closes (stage.EndGrant page) v r goes own whole = differs v.state state.Closing own goes.0 refl
closed_closes stage.ClosePort v r goes own whole = differs v.state state.Closing own goes.0 refl
closed_closes stage.Closed v r goes own whole = goes.2
closed_closes (stage.Broken word) v r goes own whole = absurd (true≢false (sym goes ∙ whole))
closed_closes b v r goes own whole = absurd goes

module _ (config : Options) (w : World) (honest : Honest config w) (going : Going w) (quiet : is_quiet w ≡ true) where
  abbrev idle : Bool
  idle = front_view.is_unoccupied w.rings.front

  rest : IsIdleRing w.rings
  rest = quiet_rests config w.rings (going_quiet config w honest going quiet) honest.standing

  is_idle : idle ≡ true
  is_idle = still_at w.rings.front.requests w.rings.front.stage rest.no_request rest.front_at

  resting : IsAtRest idle (negotiation_of w)
  resting = at_rest w honest.front_checks.0 honest.back_checks.0 honest.front_checks.1 honest.back_checks.1 going.joined going.heard (whole_now config w.rings honest.standing) (waiting config w honest going quiet)

  have_both : (s : BusState) → AreBoth (negotiation_of w) s → HaveBoth w s
  have_both s both =
      let said = said_at (negotiation_of w) going.joined in
      record {
        front = both.0;
        back = both.1;
        front_said = said.front ∙ ap (λ (own : BusState). Some (state_text own)) both.0;
        back_said = said.back ∙ ap (λ (own : BusState). Some (state_text own)) both.1;
      }

  -- its end of the ring isn't broken, and closes with it
  closes : w.front.state ≡ state.Closed → w.rings.front.closing ≡ true
  closes own =
      let fit : IsFit w = honest.stands.fit in
      let whole : front_view.is_broken w.rings.front.stage ≡ false = whole_at w.rings.front.stage rest.front_at in
      fit.closing whole ∙ closed_closes w.front.stage w.front w.rings.front.stage fit.front own whole

  going_agrees : StatesAgree w
  going_agrees = by_state (agrees_at (negotiation_of w) idle going.joined (λ closing. is_idle) resting)
    where
      by_state : AreBoth (negotiation_of w) state.Connected ⊎ AreBoth (negotiation_of w) state.Closed ⊎ WaitsForRequests idle (negotiation_of w) → StatesAgree w
      by_state (inl both) = inl (have_both state.Connected both)
      by_state (inr (inl both)) = inr (have_both state.Closed both, closes both.0)
      by_state (inr (inr waits)) = absurd (true≢false (sym is_idle ∙ waits.busy))

-- and so they have where the front was closed before the epoch
quiet_agrees : (config : Options) (w : World) → Honest config w → is_quiet w ≡ true → StatesAgree w
quiet_agrees config w honest quiet = elim honest.going [ inl going ↦ going_agrees config w honest going quiet | inr gone ↦ gone_agrees w honest.stands.fit gone ]

pub states_agree_at_quiet : StatesAgreeAtQuiet
states_agree_at_quiet config hs carried options are untouched quiet =
    quiet_agrees config (after hs (start_of config)) (honest_after config hs (start_of config) untouched (honest_start config carried options) are) quiet

-- what the directory says of both states, in the words of a report's rules
have_said : (w : World) (s : BusState) → HaveBoth w s → HasBoth (state_text s) w.rings.under.keys
have_said w s both = record { front = both.front_said; back = both.back_said }

alike : (w : World) → StatesAgree w → AreAlike w.rings
unfolding digits
alike w (inl both) = inl (have_said w state.Connected both)
alike w (inr closed) = inr (have_said w state.Closed closed.0, closed.1)

-- a move of an end is no look, nor is what it brings about
told_agreed : {S : Type 0} (tell : S → ring.Happening) (told : List S) (v : rings.World) → ((s : S) (u : rings.World) → IsAgreed u (tell s)) → AreAgreed (map tell told) v
told_agreed tell [] v agreed = tt
told_agreed tell (s ∷ told) v agreed = (agreed s v, told_agreed tell told (ring.happens v (tell s)) agreed)

move_agreed : {S : Type 0} (moves speaks : Bool) (move : ring.Happening) (at : End) (key : KeyMove) (tell : S → ring.Happening) (told : List S) (v : rings.World)
    → IsAgreed v move → ((s : S) (u : rings.World) → IsAgreed u (tell s)) → AreAgreed (if moves then move ∷ [] else ring.Negotiates at key ∷ (if speaks then map tell told else [])) v
move_agreed true speaks move at key tell told v is agreed = (is, tt)
move_agreed false true move at key tell told v is agreed = (tt, told_agreed tell told (ring.happens v (ring.Negotiates at key)) agreed)
move_agreed false false move at key tell told v is agreed = (tt, tt)

back_agreed : (w : World) (moves takes : Bool) → AreAgreed (if moves then ring.BackMoves ∷ [] else back_negotiates takes w (back_learns w)) w.rings
back_agreed w true takes = (tt, tt)
back_agreed w false true = (tt, tt)
back_agreed w false false =
    move_agreed false (back.bus_moves (back_asks w) w.rings.back.stage) ring.BackMoves end.Back (back_key (back_asks w)) ring.BackHalts (halted_at w (back_turn w)) w.rings tt (λ s u. tt)

closes_agreed : (at : End) (v : rings.World) → AreAgreed (closes_does at) v
closes_agreed end.Front v = (tt, tt)
closes_agreed end.Back v = tt

agreed_at : (config : Options) (w : World) (h : Happening) → IsUntouched h → Honest config w → IsPossible w h → AreAgreed (does w h) w.rings
agreed_at config w FrontMoves untouched honest is =
    move_agreed (is_fronts_ring w) (front.speaks (front_asks w)) ring.FrontMoves end.Front (front_key (front_asks w)) ring.FrontEnters (entered_at w (front_turn w)) w.rings tt (λ s u. tt)
agreed_at config w BackMoves untouched honest is = back_agreed w (is_backs_ring w) (attaches w (back_learns w))
agreed_at config w (Closes at) untouched honest is = closes_agreed at w.rings
agreed_at config w (Looks quiet) untouched honest is = (λ e. alike w (quiet_agrees config w honest (is e)), tt)
agreed_at config w (Settles quiet) untouched honest is = (λ e. alike w (quiet_agrees config w honest (is e)), tt)
agreed_at config w h untouched honest is = (tt, tt)

-- all of it, up to the first word or key that is overwritten
agreed_then : (hs rest : List ring.Happening) (w : rings.World) → AreAgreed hs w → AreAgreed (honest_history rest) (ring.after hs w) → AreAgreed (honest_history (hs ++ rest)) w
agreed_then [] rest w are later = later
agreed_then (ring.Pokes frame word value ∷ hs) rest w are later = tt
agreed_then (ring.OverwritesKey name text ∷ hs) rest w are later = tt
agreed_then (h ∷ hs) rest w are later = (are.0, agreed_then hs rest (ring.happens w h) are.1 later)

pub rings_agreed : RingsAgreed
rings_agreed config hs carried options are = all_of config AreAgreed (λ w. tt) agreed_then (agreed_at config) hs (start_of config) (honest_start config carried options) are
