-- The front's negotiation goes on with its end of the ring, as the other end's keys are read and its own are set, and the end of the ring enters the states that it comes to.
use Rattle.std.proofs.Common.{◌≡◌, ℕ, ◌≤◌, Bool, true, false, true≢false, ◌&&◌, if◌then◌else◌, List, [], inl, inr, refl, sym, ap, ◌∙◌, subst, arith}
use Rattle.std.specs.Prelude.{Option, Some, None, IsSome, length, min, nat_le, ◌==◌}
use Rattle.std.proofs.lemmas.Bool.Decides.{nat_tests}
use Rattle.line_text.proofs.Both.{both_true}
use Rattle.blk_base.specs.declared.ask.FrontAnswer.TheVariants as answer
use Rattle.blk_front.specs.declared.stage.FrontStage.{FrontStage}
use Rattle.blk_front.specs.declared.stage.FrontStage.TheVariants as ring
use Rattle.blk_front.specs.declared.state.FrontState.{FrontState}
use Rattle.blk_front.specs.declared.state.FrontState.TheVariants as enter
use Rattle.ring_words.specs.Shape.{entries_of}
use Rattle.blk_front.specs.View as ends
use Rattle.blk_front.specs.Ask.{is_through}
use Rattle.blk_front.specs.Submit.{is_ready}
use Rattle.blk_front.specs.State.{is_open, is_made, in_state, enters}
use Rattle.xenbus_state.specs.declared.state.BusState.{BusState}
use Rattle.xenbus_state.specs.declared.state.BusState.TheVariants as state
use Rattle.xenbus_state.specs.declared.stage.FrontBusStage.{FrontBusStage}
use Rattle.xenbus_state.specs.declared.stage.FrontBusStage.TheVariants as stage
use Rattle.xenbus_state.specs.declared.front.FrontBusAsk.{FrontBusAsk}
use Rattle.xenbus_state.specs.declared.front.FrontBusAsk.TheVariants as ask
use Rattle.xenbus_state.specs.FrontView.{FrontView, ring_order}
use Rattle.xenbus_state.specs.FrontAsk.{leaving, closing_stage, due_at, due, ask_at, ask_of}
use Rattle.xenbus_state.specs.FrontStep.{at, after_grants, step_at}
use Rattle.split_model.proofs.States.{enters_cases}
use Rattle.vbd_front.specs.View.{is_still, is_unoccupied, is_broken}
use Rattle.vbd_front.specs.Step.{settled_at, settled, states_due, all_entered}
use Rattle.vbd_model.specs.Fit.{IsEndingPage, FrontRests, FrontGoesWith, IsWished, PortOrdered, FrontOrdered}

-- the negotiation goes with the end of the ring, closes with it, wrote Closing only with no request left, and knows the order of the ring
pub record FrontFits (v : FrontView) (f : ends.View) : Type 0 where
  pub goes : FrontGoesWith v.stage v f.stage
  pub closing : is_broken f.stage ≡ false → f.closing ≡ v.closing
  pub through : v.state ≡ state.Closing → is_broken f.stage ≡ false → is_through f ≡ true
  pub ordered : FrontOrdered v.stage v f.shape.order

-- where nothing of a request is left, a front that closes is through, and its end of the ring is at nothing
still_whole : (s : FrontStage) → is_still s ≡ true → is_broken s ≡ false
still_whole (ring.Broken word) still = absurd (true≢false (sym still))
still_whole s still = refl

pub record IsUnoccupied (f : ends.View) : Type 0 where
  pub none : (length f.requests == 0) ≡ true
  pub still : is_still f.stage ≡ true
  pub whole : is_broken f.stage ≡ false

pub unoccupied : (f : ends.View) → is_unoccupied f ≡ true → IsUnoccupied f
unoccupied f is =
    let both = both_true _ (is_still f.stage) is in
    let zero = both.0 in
    record { none = grind (arith, nat_tests); still = both.1; whole = still_whole f.stage both.1 }

-- what is due: what is begun, or, where nothing is and the front closes, its next step to its end
pub due_cases : (P : FrontBusStage → Type 0) (v : FrontView) (idle : Bool) → P v.stage → (v.stage ≡ stage.Rest → v.closing ≡ true → idle ≡ true → P (closing_stage v.state v)) → P (due v idle)
due_cases P v idle begun closes = by_stage v.stage refl
  where
    by_test : (c : Bool) → v.stage ≡ stage.Rest → (v.closing && idle) ≡ c → P (if c then closing_stage v.state v else stage.Rest)
    by_test true here e = let both = both_true v.closing idle e in closes here both.0 both.1
    by_test false here e = subst P here begun

    by_stage : (b : FrontBusStage) → v.stage ≡ b → P (due_at b v idle)
    by_stage stage.Rest here = by_test (v.closing && idle) here refl
    by_stage b here = subst P here begun

-- that is: to say that it closes, to end the grants of its ring, or where it has none to end those that are left
pub due_ways : (P : FrontBusStage → Type 0) (v : FrontView) (idle : Bool) → P v.stage
    → (v.stage ≡ stage.Rest → v.closing ≡ true → P (stage.WriteState state.Closing))
    → (v.stage ≡ stage.Rest → v.gone ≡ true → P (stage.EndGrant 0))
    → (v.stage ≡ stage.Rest → v.gone ≡ true → P stage.EndOtherGrants)
    → P (due v idle)
due_ways P v idle begun says ends leaves = due_cases P v idle begun (λ here closing is_idle. by_state v.state here closing)
  where
    by_gone : (gone : Bool) (port : Option ℕ) → v.stage ≡ stage.Rest → v.gone ≡ gone → P (leaving gone port)
    by_gone false port here g = subst P here begun
    by_gone true None here g = leaves here g
    by_gone true (Some p) here g = ends here g

    by_state : (own : BusState) → v.stage ≡ stage.Rest → v.closing ≡ true → P (closing_stage own v)
    by_state state.Closing here closing = by_gone v.gone v.port here refl
    by_state own here closing = says here closing

-- a front that rests made nothing, or all, and ended nothing yet
made_rests : (port : Option ℕ) (r : FrontStage) → IsSome port → is_made r ≡ true → FrontRests state.Closing false port r
made_rests None r port made = absurd (true≢false (sym port))
made_rests (Some p) r port made = made

ready_made : (r : FrontStage) → is_ready r ≡ true → is_still r ≡ true → is_made r ≡ true
ready_made ring.Loop ready still = refl
ready_made (ring.RingWord k) ready still = absurd (true≢false (sym ready))
ready_made ring.Initialised ready still = absurd (true≢false (sym ready))
ready_made (ring.RingRead page) ready still = absurd (true≢false (sym ready))
ready_made (ring.RingEnd page seen) ready still = absurd (true≢false (sym ready))
ready_made ring.ClosePort ready still = absurd (true≢false (sym ready))
ready_made (ring.KeptRead frame) ready still = absurd (true≢false (sym ready))
ready_made (ring.KeptEnd frame seen) ready still = absurd (true≢false (sym ready))
ready_made ring.Left ready still = absurd (true≢false (sym ready))
ready_made ring.Closed ready still = absurd (true≢false (sym ready))
ready_made r ready still = absurd (true≢false (sym still))

-- so where it closes it may write that, or it did and leaves where the back is gone
pub closing_cases : (P : FrontBusStage → Type 0) (v : FrontView) (r : FrontStage) → is_still r ≡ true → FrontRests v.state v.gone v.port r
    → (FrontRests state.Closing false v.port r → P (stage.WriteState state.Closing)) → (v.state ≡ state.Closing → FrontRests state.Closing v.gone v.port r → P (leaving v.gone v.port)) → P (closing_stage v.state v)
closing_cases P v r still rests writes leaves = by_state v.state refl rests
  where
    by_state : (own : BusState) → v.state ≡ own → FrontRests own v.gone v.port r → P (closing_stage own v)
    by_state state.Initialising is rests = writes (rw rests.1 rests.0)
    by_state state.Initialised is rests = writes (made_rests v.port r rests.1 (ap is_made rests.0))
    by_state state.Connected is rests = writes (made_rests v.port r rests.1 (ready_made r rests.0 still))
    by_state state.Closing is rests = leaves is rests
    by_state own is rests = absurd rests

pub rests_open : (own : BusState) (gone : Bool) (port : Option ℕ) (r : FrontStage) → FrontRests own gone port r → is_open r ≡ true
rests_open state.Initialising gone port r rests = ap is_open rests.0
rests_open state.Initialised gone port r rests = ap is_open rests.0
rests_open state.Connected gone port r rests = ready_open r rests.0
  where
    ready_open : (r : FrontStage) → is_ready r ≡ true → is_open r ≡ true
    ready_open ring.Closed ready = absurd (true≢false (sym ready))
    ready_open (ring.Broken word) ready = absurd (true≢false (sym ready))
    ready_open r ready = refl
rests_open state.Closing false None r rests = ap is_open rests
rests_open state.Closing false (Some p) r rests = made_open r rests
  where
    made_open : (r : FrontStage) → is_made r ≡ true → is_open r ≡ true
    made_open ring.Initialised made = refl
    made_open ring.Loop made = refl
    made_open r made = absurd (true≢false (sym made))
rests_open state.Closing true (Some p) r rests = ending_open r rests
  where
    ending_open : (r : FrontStage) → IsEndingPage 0 r → is_open r ≡ true
    ending_open (ring.RingRead page) ending = refl
    ending_open (ring.RingEnd page seen) ending = refl
    ending_open r ending = absurd ending
rests_open own gone port r rests = absurd rests

pub open_whole : (r : FrontStage) → is_open r ≡ true → is_broken r ≡ false
open_whole (ring.Broken word) is = absurd (true≢false (sym is))
open_whole r is = refl

-- once its negotiation is settled they fit, where the order of the ring was agreed if the ring is begun, and its end left if that is due
abbrev pub Settles : Bool → FrontView → ends.View → Type 0
Settles idle u f = FrontFits (settled idle u) (all_entered (states_due (ask_of (settled idle u) idle) (ring_order (settled idle u))) f)

abbrev leads : FrontBusAsk → Bool
leads (ask.WriteRingWord word) = true
leads (ask.EndGrant page) = true
leads ask.EndOtherGrants = true
leads a = false

settled_plain : (a : FrontBusAsk) (idle : Bool) (u : FrontView) → leads a ≡ false → settled_at a idle u ≡ u
settled_plain ask.EndOtherGrants idle u plain = absurd (true≢false plain)
settled_plain a idle u plain = refl

due_plain : (a : FrontBusAsk) (order : ℕ) → leads a ≡ false → states_due a order ≡ []
due_plain (ask.WriteRingWord word) order plain = absurd (true≢false plain)
due_plain (ask.EndGrant page) order plain = absurd (true≢false plain)
due_plain a order plain = refl

-- nothing of the ring is begun or ended next
settles_plain : (idle : Bool) (u : FrontView) (f : ends.View) → leads (ask_of u idle) ≡ false → FrontFits u f → Settles idle u f
settles_plain idle u f plain fits =
    subst (λ (t : FrontView). FrontFits t (all_entered (states_due (ask_of t idle) (ring_order t)) f)) (sym (settled_plain (ask_of u idle) idle u plain))
    (subst (λ (states : List FrontState). FrontFits u (all_entered states f)) (sym (due_plain (ask_of u idle) (ring_order u) plain)) fits)

-- its first grant is ended
settles_ending : (idle : Bool) (u : FrontView) (f : ends.View) → ask_of u idle ≡ ask.EndGrant 0 → FrontFits u (enters enter.Leaving f) → Settles idle u f
settles_ending idle u f e fits =
    let same : settled idle u ≡ u = ap (λ (a : FrontBusAsk). settled_at a idle u) e in
    subst (λ (t : FrontView). FrontFits t (all_entered (states_due (ask_of t idle) (ring_order t)) f)) (sym same)
    (subst (λ (a : FrontBusAsk). FrontFits u (all_entered (states_due a (ring_order u)) f)) (sym e) fits)

-- the ring is begun: its order is agreed, which is no greater than that of the front's end, with an entry for each request
no_greater : (wished offered order : ℕ) → IsWished wished offered order → nat_le (min wished offered) order ≡ true
no_greater wished offered order (inl is) = let least : min wished offered ≤ order = omega arith in grind (arith, nat_tests)
no_greater wished offered order (inr is) = let same = is.0 in let least : min wished offered ≤ order = omega arith in grind (arith, nat_tests)

fits_all : (count entries : ℕ) → count ≤ entries → nat_le count entries ≡ true
fits_all count entries few = grind (arith, nat_tests)

enough : (wished offered count : ℕ) → offered ≡ 4 → count ≤ entries_of (min wished 4) → nat_le count (entries_of (min wished offered)) ≡ true
enough wished offered count four few = subst (λ (n : ℕ). nat_le count (entries_of (min wished n)) ≡ true) (sym four) (fits_all count (entries_of (min wished 4)) few)

pub settles_begun : (u : FrontView) (f : ends.View) → u.stage ≡ stage.RingWord 0 → u.state ≡ state.Initialising → u.port ≡ None → f.stage ≡ ring.RingWord 0 → u.features.order ≡ 4 → IsWished u.order u.features.order f.shape.order
    → length f.requests ≤ entries_of (min u.order 4) → (is_broken f.stage ≡ false → f.closing ≡ u.closing) → FrontFits u (enters (enter.Agreed (ring_order u)) f)
settles_begun u f here own port at_stage four wished few closing =
    let agreed : enters (enter.Agreed (ring_order u)) f ≡ in_state (enter.Agreed (ring_order u)) f =
    rw (at_stage, no_greater u.order u.features.order f.shape.order wished, enough u.order u.features.order (length f.requests) four few) refl in
    subst (λ (x : ends.View). FrontFits u x) (sym agreed) (record {
      goes = rw here (own, omega arith, at_stage, port);
      closing = closing;
      through = λ e. let none : state.Initialising ≡ state.Closing = sym own ∙ e in absurd (cc);
      ordered = rw here (refl, four);
    })

pub rests_due : (u : FrontView) (idle c : Bool) → u.stage ≡ stage.Rest → (u.closing && idle) ≡ c → due u idle ≡ (if c then closing_stage u.state u else stage.Rest)
rests_due u idle c here e = rw (here, e) refl

unmade : (r : FrontStage) → IsEndingPage 0 r → is_made r ≡ false
unmade (ring.RingRead page) ending = refl
unmade (ring.RingEnd page seen) ending = refl
unmade r ending = absurd ending

-- a front that rests
pub settles_rest : (idle : Bool) (u : FrontView) (f : ends.View) → u.stage ≡ stage.Rest → (idle ≡ true → is_still f.stage ≡ true) → FrontRests u.state u.gone u.port f.stage → FrontFits u f → Settles idle u f
settles_rest idle u f here still rests fits = by_test (u.closing && idle) refl
  where
    leaves : (gone : Bool) (port : Option ℕ) → due u idle ≡ leaving gone port → FrontRests state.Closing gone port f.stage → Settles idle u f
    leaves false port e rests = settles_plain idle u f (ap (λ (d : FrontBusStage). leads (ask_at d u)) e) fits
    leaves true None e rests = absurd rests
    leaves true (Some p) e rests =
        settles_ending idle u f (ap (λ (d : FrontBusStage). ask_at d u) e)
        (enters_cases (λ (x : ends.View) shown. FrontFits u x) enter.Leaving f (λ may. absurd (true≢false (sym (both_true (is_through f) (is_made f.stage) may).1 ∙ unmade f.stage rests))) fits)

    by_test : (c : Bool) → (u.closing && idle) ≡ c → Settles idle u f
    by_test false e = settles_plain idle u f (ap (λ (d : FrontBusStage). leads (ask_at d u)) (rests_due u idle false here e)) fits
    by_test true e =
        closing_cases (λ (d : FrontBusStage). due u idle ≡ d → Settles idle u f) u f.stage (still (both_true u.closing idle e).1) rests
        (λ first due_is. settles_plain idle u f (ap (λ (d : FrontBusStage). leads (ask_at d u)) due_is) fits)
        (λ is ending due_is. leaves u.gone u.port due_is ending) (rests_due u idle true here e)

-- a front that wrote Closing, and reads now that the back is gone or read it before
pub settles_closing : (idle : Bool) (u : FrontView) (f : ends.View) → u.stage ≡ stage.Rest → u.state ≡ state.Closing → u.closing ≡ true → idle ≡ true → IsUnoccupied f → f.closing ≡ true
    → PortOrdered u.port u.order u.features.order f.shape.order → FrontRests state.Closing false u.port f.stage → Settles idle u f
settles_closing idle u f here own closing is_idle free closes ordered rests = by_gone u.gone u.port refl refl rests
  where
    through : is_through f ≡ true
    through = rw (closes, free.none) refl

    asks : (gone : Bool) (port : Option ℕ) → u.gone ≡ gone → u.port ≡ port → due u idle ≡ leaving gone port
    asks gone port g p = rests_due u idle true here (rw (closing, is_idle) refl) ∙ rw (own, g, p) refl

    fits : (t : FrontView) (x : ends.View) → FrontGoesWith t.stage t x.stage → t.closing ≡ true → x.closing ≡ true → is_through x ≡ true → FrontOrdered t.stage t x.shape.order → FrontFits t x
    fits t x goes t_closing x_closing x_through t_ordered = record { goes = goes; closing = λ whole. x_closing ∙ sym t_closing; through = λ e whole. x_through; ordered = t_ordered }

    rest_ordered : FrontOrdered u.stage u f.shape.order
    rest_ordered = rw here ordered

    by_gone : (gone : Bool) (port : Option ℕ) → u.gone ≡ gone → u.port ≡ port → FrontRests state.Closing false port f.stage → Settles idle u f
    by_gone false port g p rests = settles_plain idle u f (ap (λ (d : FrontBusStage). leads (ask_at d u)) (asks false port g p)) (fits u f (rw here (inl (rw (own, g, p) rests))) closing closes through rest_ordered)
    by_gone true None g p rests =
        let last = asks true None g p in
        let ended : settled idle u ≡ record u { stage = stage.WriteState state.Closed } =
        ap (λ (d : FrontBusStage). settled_at (ask_at d u) idle u) last ∙ (ap (λ (d : FrontBusStage). step_at d (at d u) idle answer.Done) last ∙ ap (λ (o : Option ℕ). record u { stage = after_grants o }) p)
        in
        subst (λ (t : FrontView). FrontFits t (all_entered (states_due (ask_of t idle) (ring_order t)) f)) (sym ended)
        (fits (record u { stage = stage.WriteState state.Closed }) f (own, rw rests refl, p) closing closes through ordered)
    by_gone true (Some port) g p rests =
        let left : enters enter.Leaving f ≡ record f { stage = ring.RingRead 0 } = rw (closes, free.none, rests) refl in
        settles_ending idle u f (ap (λ (d : FrontBusStage). ask_at d u) (asks true (Some port) g p))
        (subst (λ (x : ends.View). FrontFits u x) (sym left) (fits u (record f { stage = ring.RingRead 0 }) (rw here (inl (rw (own, g, p) refl))) closing closes through rest_ordered))
