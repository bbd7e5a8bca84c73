-- A front that is asked to close begins to, with its end of the ring.
use Rattle.std.proofs.Common.{◌≡◌, ℕ, Bool, true, false, true≢false, not, ◌&&◌, ◌||◌, if◌then◌else◌, inl, inr, refl, sym, ap, ◌∙◌, subst}
use Rattle.blk_front.specs.declared.stage.FrontStage.{FrontStage}
use Rattle.blk_front.specs.declared.stage.FrontStage.TheVariants as ring
use Rattle.blk_front.specs.declared.state.FrontState.TheVariants as enter
use Rattle.blk_front.specs.View as ends
use Rattle.blk_front.specs.State.{is_open, is_bare, may_enter, enters}
use Rattle.blk_front.specs.Suspend.{is_left}
use Rattle.xenbus_state.specs.declared.state.BusState.TheVariants as state
use Rattle.xenbus_state.specs.declared.stage.FrontBusStage.{FrontBusStage}
use Rattle.xenbus_state.specs.declared.stage.FrontBusStage.TheVariants as stage
use Rattle.xenbus_state.specs.FrontView.{FrontView, closed, is_broken as is_broken_bus}
use Rattle.vbd_front.specs.View.{is_broken}
use Rattle.vbd_model.specs.Fit.{IsEndingPage, IsGranting, FrontGoesWith, FrontOrdered}
use Rattle.vbd_laws.proofs.FitFrontBus.{FrontFits, rests_open}
use Rattle.vbd_laws.proofs.FitFrontSpoken.{begun_fits}

-- an end of the ring that isn't broken is open, until it is closed
granting_open : (page : ℕ) (r : FrontStage) → IsGranting page r → is_open r ≡ true
granting_open page (ring.RingFrame k) is = refl
granting_open page (ring.RingFence k) is = refl
granting_open page (ring.RingFlags k) is = refl
granting_open page r is = absurd is

ending_open : (page : ℕ) (r : FrontStage) → IsEndingPage page r → is_open r ≡ true
ending_open page (ring.RingRead k) is = refl
ending_open page (ring.RingEnd k seen) is = refl
ending_open page r is = absurd is

pub bare_open : (r : FrontStage) → is_bare r ≡ true → is_open r ≡ true
bare_open (ring.RingWord k) bare = refl
bare_open ring.Left bare = refl
bare_open r bare = absurd (true≢false (sym bare))

left_open : (r : FrontStage) → is_left r ≡ true → is_open r ≡ true
left_open (ring.LeftData n) is = refl
left_open r is = absurd (true≢false (sym is))

goes_open : (b : FrontBusStage) (v : FrontView) (r : FrontStage) → FrontGoesWith b v r → v.closing ≡ false → is_broken r ≡ false → is_open r ≡ true
goes_open stage.Start v r goes closing whole = elim goes.1 [ inl is ↦ ap is_open is | inr is ↦ left_open r is ]
goes_open stage.Rest v r goes closing whole = elim goes [ inl rests ↦ rests_open v.state v.gone v.port r rests | inr is ↦ absurd (true≢false (sym is ∙ whole)) ]
goes_open stage.ReadState v r goes closing whole = rests_open v.state v.gone v.port r goes
goes_open (stage.ReadFeature key) v r goes closing whole = ap is_open goes.1
goes_open (stage.RingWord word) v r goes closing whole = ap is_open goes.2
goes_open (stage.Grant page) v r goes closing whole = granting_open page r goes.1
goes_open (stage.EndGrant page) v r goes closing whole = elim goes.1 [ inl is ↦ ending_open page r is | inr is ↦ absurd (true≢false (sym is ∙ whole)) ]
goes_open stage.NewPort v r goes closing whole = ap is_open goes.1
goes_open (stage.Publish key) v r goes closing whole = ap is_open goes.1
goes_open (stage.ReadFact key) v r goes closing whole = ap is_open goes.1
goes_open (stage.WriteState state.Initialised) v r goes closing whole = ap is_open goes.1
goes_open (stage.WriteState state.Connected) v r goes closing whole = ap is_open goes.1
goes_open (stage.WriteState state.Closed) v r goes closing whole = bare_open r goes.1
goes_open (stage.WriteState own) v r goes closing whole = absurd goes
goes_open stage.ClosePort v r goes closing whole = ap is_open goes.1
goes_open stage.Closed v r goes closing whole = absurd (true≢false (sym goes.2 ∙ closing))
goes_open (stage.Broken word) v r goes closing whole = absurd (true≢false (sym goes ∙ whole))
goes_open b v r goes closing whole = absurd goes

-- whether it closes is said of a closed front alone
goes_closing : (b : FrontBusStage) (v : FrontView) (r : FrontStage) → FrontGoesWith b v r → FrontGoesWith b (record v { closing = true }) r
goes_closing stage.Closed v r goes = (goes.0, goes.1, refl)
goes_closing (stage.WriteState state.Initialised) v r goes = goes
goes_closing (stage.WriteState state.Connected) v r goes = goes
goes_closing (stage.WriteState state.Closed) v r goes = goes
goes_closing (stage.WriteState own) v r goes = absurd goes
goes_closing b v r goes = goes

ordered_closing : (b : FrontBusStage) (v : FrontView) (n : ℕ) → FrontOrdered b v n → FrontOrdered b (record v { closing = true }) n
ordered_closing (stage.RingWord word) v n ordered = ordered
ordered_closing b v n ordered = ordered

unopened : (r : FrontStage) → is_broken r ≡ true → is_open r ≡ false
unopened (ring.Broken word) is = refl
unopened r is = absurd (true≢false (sym is))

-- an end of the ring that is broken, or closes, doesn't begin to close
begins_no_more : (f : ends.View) (broken : Bool) → is_broken f.stage ≡ broken → (broken ≡ false → f.closing ≡ true) → may_enter enter.Closing f ≡ false
begins_no_more f false is closing = rw (closing refl) refl
begins_no_more f true is closing = by_test f.closing (unopened f.stage is)
  where
    by_test : (c : Bool) → is_open f.stage ≡ false → (not c && is_open f.stage) ≡ false
    by_test true opened = refl
    by_test false opened = opened

broken_bus : (b : FrontBusStage) (v : FrontView) (r : FrontStage) → FrontGoesWith b v r → is_broken_bus b ≡ true → is_broken r ≡ true
broken_bus (stage.Broken word) v r goes is = goes
broken_bus b v r goes is = absurd (true≢false (sym is))

-- where the negotiation closes or is broken, so is the end of the ring
closes_once : (v : FrontView) (f : ends.View) → FrontFits v f → (v.closing || is_broken_bus v.stage) ≡ true → may_enter enter.Closing f ≡ false
closes_once v f h no_more = by_closing v.closing refl no_more
  where
    by_closing : (c : Bool) → v.closing ≡ c → (c || is_broken_bus v.stage) ≡ true → may_enter enter.Closing f ≡ false
    by_closing true closing no_more = begins_no_more f (is_broken f.stage) refl (λ whole. h.closing whole ∙ closing)
    by_closing false closing no_more = begins_no_more f true (broken_bus v.stage v f.stage h.goes no_more) (λ e. absurd (true≢false e))

pub close_fits : (v : FrontView) (f : ends.View) → FrontFits v f → FrontFits (closed v) (enters enter.Closing f)
close_fits v f h = by_test (v.closing || is_broken_bus v.stage) refl
  where
    same : (b : Bool) → may_enter enter.Closing f ≡ b → b ≡ false → FrontFits v (enters enter.Closing f)
    same b may no_more = let stays : enters enter.Closing f ≡ f = rw (may ∙ no_more) refl in subst (λ (x : ends.View). FrontFits v x) (sym stays) h

    begins : v.closing ≡ false → (broken : Bool) → is_broken f.stage ≡ broken → FrontFits (record v { closing = true }) (enters enter.Closing f)
    begins closing true is =
        let stays : enters enter.Closing f ≡ f = rw (begins_no_more f true is (λ e. absurd (true≢false e))) refl in
        subst (λ (x : ends.View). FrontFits (record v { closing = true }) x) (sym stays)
        (record { goes = goes_closing v.stage v f.stage h.goes; closing = λ whole. absurd (true≢false (sym is ∙ whole)); through = λ e whole. absurd (true≢false (sym is ∙ whole)); ordered = ordered_closing v.stage v f.shape.order h.ordered })
    begins closing false whole =
        let opened = goes_open v.stage v f.stage h.goes closing whole in
        let begun : enters enter.Closing f ≡ record f { closing = true } = rw (h.closing whole ∙ closing, opened) refl in
        subst (λ (x : ends.View). FrontFits (record v { closing = true }) x) (sym begun) (begun_fits v (record v { closing = true }) f opened (goes_closing v.stage v f.stage h.goes) refl refl (ordered_closing v.stage v f.shape.order h.ordered) h)

    by_test : (c : Bool) → (v.closing || is_broken_bus v.stage) ≡ c → FrontFits (if c then v else record v { closing = true }) (enters enter.Closing f)
    by_test true e = same (may_enter enter.Closing f) refl (closes_once v f h e)
    by_test false e = begins (by_closing v.closing e) (is_broken f.stage) refl
      where
        by_closing : (c : Bool) → (c || is_broken_bus v.stage) ≡ false → c ≡ false
        by_closing true e = e
        by_closing false e = refl
