-- The back's negotiation goes on with its end of the ring, as that moves, and halts with it.
use Rattle.std.proofs.Common.{◌≡◌, ℕ, ◌+◌, ◌^◌, ◌<◌, Bool, true, false, true≢false, if◌then◌else◌, List, [], ◌∷◌, ◌++◌, inl, inr, refl, sym, ap, ◌∙◌, subst, arith, length-append}
use Rattle.std.specs.Prelude.{Option, Some, None, nat_lt, length, is_some}
use Rattle.std.proofs.lemmas.Nat.{pow_pos}
use Rattle.std.proofs.lemmas.Bool.Decides.{nat_tests}
use Rattle.line_text.proofs.Both.{both_true}
use Rattle.blk_base.specs.declared.parts.Mapping.{Mapping}
use Rattle.blk_base.specs.declared.ask.BackAnswer.{BackAnswer}
use Rattle.blk_base.specs.declared.ask.BackAnswer.TheVariants as answer
use Rattle.back_jobs.specs.Jobs.{first_mapping}
use Rattle.blk_back.specs.declared.stage.BackStage.{BackStage}
use Rattle.blk_back.specs.declared.stage.BackStage.TheVariants as ring
use Rattle.blk_base.specs.declared.halt.Halt.{Halt}
use Rattle.blk_back.specs.View as ends
use Rattle.blk_back.specs.Ask.{ask_at as ring_ask_at, IsAnswer}
use Rattle.blk_back.specs.Step.{at as ring_at, bound, unbound, other_pages as ring_other_pages, step_at as ring_step_at, step_of as ring_step_of}
use Rattle.xenbus_state.specs.declared.state.BusState.{BusState}
use Rattle.xenbus_state.specs.declared.state.BusState.TheVariants as state
use Rattle.xenbus_state.specs.declared.stage.BackBusStage.{BackBusStage}
use Rattle.xenbus_state.specs.declared.stage.BackBusStage.TheVariants as stage
use Rattle.xenbus_state.specs.declared.back.BackBusAsk.TheVariants as bus_ask
use Rattle.xenbus_state.specs.BackView.{BackView, is_halting, halted, stopped}
use Rattle.xenbus_state.specs.BackAsk.{says_closing_at, says_closing, unmap_ask, ask_at, ask_of}
use Rattle.xenbus_state.specs.BackStep.{at, last_state, unmapping_next, other_pages, step_at, step_of}
use Rattle.xenbus_state.specs.BackSound.{IsPlaced}
use Rattle.split_model.proofs.States.{is_unbound}
use Rattle.vbd_back.specs.Ask.{is_between, bus_moves, ring_moves}
use Rattle.vbd_back.specs.Step.{bus_halted, settled_at, settled, caught_up, woken, followed, waited}
use Rattle.vbd_model.specs.Fit.{is_serving, BackRests, BackReads, IsAborting, IsUnmapping, BackGoesWith, BackHolds, has_terms, HaveTerms}
use Rattle.vbd_laws.proofs.FitBackRing.{Serves, aborts, serves_step, given, watched_step}
use Rattle.vbd_laws.proofs.FitBackBus.{BackFits, BackShares, told_at, is_ended, last_goes, last_halts, ends_fit, unbound_fits, waits_reading}

-- an end of the ring that serves holds its pages and its port, and leaves the move to no one
serving_holds : (s : BackStage) (order pages : ℕ) (binds : Bool) → is_serving s ≡ true → pages ≡ 2 ^ order → binds ≡ true → BackHolds s order pages binds
serving_holds ring.InitWait order pages binds is all bound = absurd (true≢false (sym is))
serving_holds ring.MapRing order pages binds is all bound = absurd (true≢false (sym is))
serving_holds ring.Bind order pages binds is all bound = absurd (true≢false (sym is))
serving_holds ring.UnmapRing order pages binds is all bound = absurd (true≢false (sym is))
serving_holds ring.UnmapUnbound order pages binds is all bound = absurd (true≢false (sym is))
serving_holds ring.ClosePort order pages binds is all bound = absurd (true≢false (sym is))
serving_holds ring.Halted order pages binds is all bound = absurd (true≢false (sym is))
serving_holds s order pages binds is all bound = (all, bound)

holds_serving : (s : BackStage) (order pages : ℕ) (binds : Bool) → is_serving s ≡ true → BackHolds s order pages binds → (pages ≡ 2 ^ order) × (binds ≡ true)
holds_serving ring.InitWait order pages binds is held = absurd (true≢false (sym is))
holds_serving ring.MapRing order pages binds is held = absurd (true≢false (sym is))
holds_serving ring.Bind order pages binds is held = absurd (true≢false (sym is))
holds_serving ring.UnmapRing order pages binds is held = absurd (true≢false (sym is))
holds_serving ring.UnmapUnbound order pages binds is held = absurd (true≢false (sym is))
holds_serving ring.ClosePort order pages binds is held = absurd (true≢false (sym is))
holds_serving ring.Halted order pages binds is held = absurd (true≢false (sym is))
holds_serving s order pages binds is held = held

serving_moves : (s : BackStage) → is_serving s ≡ true → ring_moves bus_ask.Wait s ≡ true
serving_moves ring.InitWait is = absurd (true≢false (sym is))
serving_moves ring.MapRing is = absurd (true≢false (sym is))
serving_moves ring.Bind is = absurd (true≢false (sym is))
serving_moves s is = refl

some_pages : (pages order : ℕ) → pages ≡ 2 ^ order → 0 < pages
some_pages pages order all = let some = pow_pos order in omega arith

gives_holds : (s : BackStage) (order pages : ℕ) (binds : Bool) → aborts s ≡ true → pages ≡ 2 ^ order → binds ≡ true → BackHolds s order pages binds
gives_holds (ring.Abort m) order pages binds is all bound = (all, bound)
gives_holds ring.UnmapRing order pages binds is all bound = (some_pages pages order all, bound)
gives_holds s order pages binds is all bound = absurd (true≢false (sym is))

gives_ended : (s : BackStage) → aborts s ≡ true → is_ended s ≡ true
gives_ended (ring.Abort m) is = refl
gives_ended ring.UnmapRing is = refl
gives_ended s is = absurd (true≢false (sym is))

-- the end of the ring halted: so does the negotiation, unless it has
catches_up : (r : ends.View) (u : BackView) → is_some r.halted ≡ true → caught_up r u ≡ settled r.stage (stopped u)
catches_up r u some = by_halt r.halted some
  where
    by_halt : (h : Option Halt) → is_some h ≡ true → settled r.stage (bus_halted h u) ≡ settled r.stage (stopped u)
    by_halt None some = absurd (true≢false (sym some))
    by_halt (Some why) some = refl

goes_on : (r : ends.View) (u : BackView) → is_some r.halted ≡ false → is_halting u.stage ≡ false → caught_up r u ≡ u
goes_on r u none on = by_halt r.halted none
  where
    unsettled : (b : BackBusStage) → is_halting b ≡ false → settled_at b r.stage u ≡ u
    unsettled stage.UnmapOthers on = absurd (true≢false on)
    unsettled b on = refl

    by_halt : (h : Option Halt) → is_some h ≡ false → settled r.stage (bus_halted h u) ≡ u
    by_halt None none = unsettled u.stage on
    by_halt (Some why) none = absurd (true≢false none)

stops : (r : ends.View) (u : BackView) → is_some r.halted ≡ true → is_halting u.stage ≡ false → is_ended r.stage ≡ true → BackHolds r.stage u.terms.order (length u.pages) u.bound → BackFits (caught_up r u) r
stops r u some on ended held =
    let stopped_is : stopped u ≡ halted u = rw on refl in
    subst (λ (v : BackView). BackFits v r) (sym (catches_up r u some ∙ ap (λ (v : BackView). settled r.stage v) stopped_is)) (ends_fit r.stage (halted u) r refl ended refl some held)

-- a negotiation that has halted goes on
halting_on : (r : ends.View) (u : BackView) → is_some r.halted ≡ true → is_halting u.stage ≡ true → BackFits (settled r.stage u) r → BackFits (caught_up r u) r
halting_on r u some on fits =
    let stopped_is : stopped u ≡ u = rw on refl in
    subst (λ (v : BackView). BackFits v r) (sym (catches_up r u some ∙ ap (λ (v : BackView). settled r.stage v) stopped_is)) fits

-- the end of the ring serves on, or halts
serves_fit : (u : BackView) (r x : ends.View) → is_some r.halted ≡ false → is_halting u.stage ≡ false → (length u.pages ≡ 2 ^ u.terms.order) × (u.bound ≡ true) → Serves r x
    → (is_serving x.stage ≡ true → BackGoesWith u.stage u.state x.stage) → BackFits (caught_up x u) x
serves_fit u r x none on holds (inl serves) goes =
    let still : is_some x.halted ≡ false = ap (λ (h : Option Halt). is_some h) serves.1 ∙ none in
    subst (λ (v : BackView). BackFits v x) (sym (goes_on x u still on))
    (record { goes = goes serves.0; held = serving_holds x.stage u.terms.order (length u.pages) u.bound serves.0 holds.0 holds.1; halted = still ∙ sym on })
serves_fit u r x none on holds (inr ends) goes = stops x u ends.1 on (gives_ended x.stage ends.0) (gives_holds x.stage u.terms.order (length u.pages) u.bound ends.0 holds.0 holds.1)

-- while the negotiation rests: a watch that is taken has it read the front's state
pub rests_serving : (own : BusState) (s : BackStage) → BackRests own s → ring_moves bus_ask.Wait s ≡ true → is_serving s ≡ true
rests_serving state.InitWait s rests moves = absurd (true≢false (sym moves ∙ ap (ring_moves bus_ask.Wait) rests))
rests_serving state.Connected s rests moves = rests
rests_serving state.Closing s rests moves = rests
rests_serving own s rests moves = absurd rests

serving_rests : (own : BusState) (s t : BackStage) → BackRests own s → is_serving s ≡ true → is_serving t ≡ true → BackRests own t
serving_rests state.InitWait s t rests was is = absurd (true≢false (sym was ∙ ap is_serving rests))
serving_rests state.Connected s t rests was is = is
serving_rests state.Closing s t rests was is = is
serving_rests own s t rests was is = absurd rests

loop_reads : (own : BusState) (s t : BackStage) → BackRests own s → is_serving s ≡ true → t ≡ ring.Loop → BackReads own t
loop_reads state.InitWait s t rests was here = absurd (true≢false (sym was ∙ ap is_serving rests))
loop_reads state.Connected s t rests was here = here
loop_reads state.Closing s t rests was here = here
loop_reads own s t rests was here = absurd rests

rest_fits : (v : BackView) (r : ends.View) (x : BackAnswer) → v.stage ≡ stage.Rest → says_closing v ≡ false → BackFits v r → BackRests v.state r.stage → ring_moves bus_ask.Wait r.stage ≡ true → IsAnswer (ring_ask_at r.stage r) x
    → BackFits (caught_up (ring_step_of r x) (woken v x)) (ring_step_of r x)
rest_fits v r x here on h rests moves allowed = by_answer x allowed
  where
    serving : is_serving r.stage ≡ true
    serving = rests_serving v.state r.stage rests moves

    none : is_some r.halted ≡ false
    none = h.halted ∙ ap is_halting here

    still : (x : BackAnswer) → BackFits (caught_up (ring_step_of r x) v) (ring_step_of r x)
    still x = serves_fit v r (ring_step_of r x) none (ap is_halting here) (holds_serving r.stage v.terms.order (length v.pages) v.bound serving h.held) (serves_step r x serving) (λ is. rw here (serving_rests v.state r.stage _ rests serving is))

    by_answer : (x : BackAnswer) → IsAnswer (ring_ask_at r.stage r) x → BackFits (caught_up (ring_step_of r x) (woken v x)) (ring_step_of r x)
    by_answer (answer.Watched path) allowed =
        let reads : step_of v (answer.Watched path) ≡ at stage.ReadState v = told_at v (answer.Watched path) on ∙ ap (λ (b : BackBusStage). step_at b v (answer.Watched path)) here in
        subst (λ (u : BackView). BackFits (caught_up (ring_step_of r (answer.Watched path)) u) (ring_step_of r (answer.Watched path))) (sym reads)
        (serves_fit (at stage.ReadState v) r (ring_step_of r (answer.Watched path)) none refl (holds_serving r.stage v.terms.order (length v.pages) v.bound serving h.held) (serves_step r (answer.Watched path) serving)
        (λ is. loop_reads v.state r.stage _ rests serving (watched_step r path serving allowed)))
    by_answer x allowed = still x

-- a page of the ring was mapped, or refused
more_left : (pages : List Mapping) (m : Mapping) (grefs order : ℕ) → nat_lt (length pages + 1) grefs ≡ true → grefs ≡ 2 ^ order → length (pages ++ m ∷ []) < 2 ^ order
more_left pages m grefs order more many = let longer = length-append pages (m ∷ []) in grind (arith, nat_tests)

none_left : (pages : List Mapping) (m : Mapping) (grefs order : ℕ) → nat_lt (length pages + 1) grefs ≡ false → grefs ≡ 2 ^ order → length pages < 2 ^ order → length (pages ++ m ∷ []) ≡ 2 ^ order
none_left pages m grefs order more many few = let longer = length-append pages (m ∷ []) in grind (arith, nat_tests)

map_fits : (v : BackView) (r : ends.View) (x : BackAnswer) → v.stage ≡ stage.MapPage → says_closing v ≡ false → v.state ≡ state.InitWait → BackHolds ring.MapRing v.terms.order (length v.pages) v.bound → is_some r.halted ≡ false
    → r.pages ≡ v.pages → HaveTerms r v → length v.grefs ≡ 2 ^ v.terms.order
    → IsAnswer (ring_ask_at ring.MapRing r) x → BackFits (caught_up (ring_step_at ring.MapRing r x) (step_of v x)) (ring_step_at ring.MapRing r x)
map_fits v r (answer.Mapped m) here on own held none shared have many allowed =
    let u : BackView = step_at stage.MapPage v (answer.Mapped m) in
    let told : step_of v (answer.Mapped m) ≡ u = told_at v (answer.Mapped m) on ∙ ap (λ (b : BackBusStage). step_at b v (answer.Mapped m)) here in
    let same : nat_lt (length r.pages + 1) (length r.grefs) ≡ nat_lt (length v.pages + 1) (length v.grefs) =
    ap (λ (pages : List Mapping). nat_lt (length pages + 1) (length r.grefs)) shared ∙ ap (λ (grefs : List ℕ). nat_lt (length v.pages + 1) (length grefs)) have.grefs in
    subst (λ (t : BackView). BackFits (caught_up (ring_step_at ring.MapRing r (answer.Mapped m)) t) (ring_step_at ring.MapRing r (answer.Mapped m))) (sym told)
    (subst (λ (more : Bool). let y : ends.View = mapped_ring more in BackFits (caught_up y u) y) (sym same) (by_test (nat_lt (length v.pages + 1) (length v.grefs)) refl))
  where
    mapped_ring : Bool → ends.View
    mapped_ring more = record r { pages = r.pages ++ m ∷ []; stage = if more then ring.MapRing else ring.Bind }

    by_test : (more : Bool) → nat_lt (length v.pages + 1) (length v.grefs) ≡ more
        → let u : BackView = record v { pages = v.pages ++ m ∷ []; stage = if more then stage.MapPage else stage.Bind } in let y : ends.View = mapped_ring more in BackFits (caught_up y u) y
    by_test true e =
        subst (λ (u : BackView). BackFits u (mapped_ring true)) (sym (goes_on (mapped_ring true) _ none refl))
        (record { goes = (own, refl); held = (more_left v.pages m (length v.grefs) v.terms.order e many, held.1); halted = none })
    by_test false e =
        subst (λ (u : BackView). BackFits u (mapped_ring false)) (sym (goes_on (mapped_ring false) _ none refl))
        (record { goes = (own, refl); held = (none_left v.pages m (length v.grefs) v.terms.order e many held.0, held.1); halted = none })
map_fits v r (answer.MapRefused status) here on own held none shared have many allowed =
    let told : step_of v (answer.MapRefused status) ≡ halted v = told_at v (answer.MapRefused status) on ∙ ap (λ (b : BackBusStage). step_at b v (answer.MapRefused status)) here in
    let x : ends.View = ring_step_at ring.MapRing r (answer.MapRefused status) in
    subst (λ (t : BackView). BackFits (caught_up x t) x) (sym told) (halting_on x (halted v) refl refl (unbound_fits (halted v) x refl shared refl refl held.1))
map_fits v r x here on own held none shared have many allowed = absurd allowed

-- the port was bound, or refused
bind_fits : (v : BackView) (r : ends.View) (x : BackAnswer) → v.stage ≡ stage.Bind → says_closing v ≡ false → v.state ≡ state.InitWait → BackHolds ring.Bind v.terms.order (length v.pages) v.bound → is_some r.halted ≡ false → r.pages ≡ v.pages
    → IsAnswer (ring_ask_at ring.Bind r) x → BackFits (caught_up (ring_step_at ring.Bind r x) (step_of v x)) (ring_step_at ring.Bind r x)
bind_fits v r answer.Done here on own held none shared allowed =
    let told = told_at v answer.Done on ∙ ap (λ (b : BackBusStage). step_at b v answer.Done) here in
    let x : ends.View = ring_step_at ring.Bind r answer.Done in
    subst (λ (t : BackView). BackFits (caught_up x t) x) (sym told) (subst (λ (u : BackView). BackFits u x) (sym (goes_on x _ none refl)) (record { goes = (own, refl, tt); held = (held.0, refl); halted = none }))
bind_fits v r answer.BindRefused here on own held none shared allowed =
    let told : step_of v answer.BindRefused ≡ halted v = told_at v answer.BindRefused on ∙ ap (λ (b : BackBusStage). step_at b v answer.BindRefused) here in
    let x : ends.View = ring_step_at ring.Bind r answer.BindRefused in
    subst (λ (t : BackView). BackFits (caught_up x t) x) (sym told) (halting_on x (halted v) refl refl (unbound_fits (halted v) x refl shared refl refl held.1))
bind_fits v r x here on own held none shared allowed = absurd allowed

-- a page of the ring was unmapped, of a ring with a port or without: the next one is, or none is left
unmapping_holds : (s : BackStage) (order pages : ℕ) (binds : Bool) → IsUnmapping s → BackHolds s order pages binds → 0 < pages
unmapping_holds ring.UnmapRing order pages binds unmaps held = held.0
unmapping_holds ring.UnmapUnbound order pages binds unmaps held = held.0
unmapping_holds s order pages binds unmaps held = absurd unmaps

gives_fit : (v : BackView) (y : ends.View) (pages : List Mapping) (b : BackBusStage) → step_of v answer.Done ≡ record v { pages = pages; stage = b } → is_some y.halted ≡ true → is_halting b ≡ true
    → settled_at b y.stage (record v { pages = pages; stage = b }) ≡ record v { pages = pages; stage = b } → BackFits (record v { pages = pages; stage = b }) y → BackFits (caught_up y (step_of v answer.Done)) y
gives_fit v y pages b told some halts settles fits =
    subst (λ (u : BackView). BackFits (caught_up y u) y) (sym told)
    (halting_on y (record v { pages = pages; stage = b }) some halts (subst (λ (u : BackView). BackFits u y) (sym settles) fits))

longer : (page : Mapping) (pages : List Mapping) → 0 < length (page ∷ pages)
longer page pages = omega arith

abbrev Gave : BackView → List Mapping → Type 0
Gave v pages = step_of v answer.Done ≡ record v { pages = pages; stage = unmapping_next pages v.bound v.state }

unmaps_bound : (v : BackView) (r : ends.View) (pages : List Mapping) → Gave v pages → is_some r.halted ≡ true → v.bound ≡ true
    → let y : ends.View = record r { pages = pages; stage = bound pages } in BackFits (caught_up y (step_of v answer.Done)) y
unmaps_bound v r [] gave some binds =
    gives_fit v _ [] stage.ClosePort (gave ∙ ap (λ (b : Bool). record v { pages = []; stage = unmapping_next [] b v.state }) binds) some refl refl (record { goes = refl; held = (refl, binds); halted = some })
unmaps_bound v r (page ∷ pages) gave some binds = gives_fit v _ (page ∷ pages) stage.UnmapPage gave some refl refl (record { goes = tt; held = (longer page pages, binds); halted = some })

unmaps_unbound : (v : BackView) (r : ends.View) (pages : List Mapping) → Gave v pages → is_some r.halted ≡ true → v.bound ≡ false
    → let y : ends.View = record r { pages = pages; stage = unbound pages } in BackFits (caught_up y (step_of v answer.Done)) y
unmaps_unbound v r [] gave some free =
    gives_fit v _ [] (stage.WriteState (last_state v.state)) (gave ∙ ap (λ (b : Bool). record v { pages = []; stage = unmapping_next [] b v.state }) free) some (last_halts v.state) refl
    (record { goes = last_goes v.state ring.Halted refl; held = (refl, free); halted = some ∙ sym (last_halts v.state) })
unmaps_unbound v r (page ∷ pages) gave some free = gives_fit v _ (page ∷ pages) stage.UnmapPage gave some refl refl (record { goes = tt; held = (longer page pages, free); halted = some })

unmap_fits : (v : BackView) (r : ends.View) (pages : List Mapping) (x : BackAnswer) → v.stage ≡ stage.UnmapPage → says_closing v ≡ false → v.pages ≡ pages → r.pages ≡ v.pages → is_some r.halted ≡ true → IsUnmapping r.stage
    → BackHolds r.stage v.terms.order (length pages) v.bound → BackFits (caught_up (ring_step_of r x) (followed (unmap_ask pages) v x)) (ring_step_of r x)
unmap_fits v r [] x here on same shared some unmaps held = let more = unmapping_holds r.stage v.terms.order 0 v.bound unmaps held in absurd (omega arith)
unmap_fits v r (page ∷ pages) x here on same shared some unmaps held = by_stage r.stage unmaps held
  where
    gave : Gave v pages
    gave = told_at v answer.Done on ∙ (ap (λ (b : BackBusStage). step_at b v answer.Done) here ∙ ap (λ (ps : List Mapping). record v { pages = other_pages ps; stage = unmapping_next (other_pages ps) v.bound v.state }) same)

    left : ring_other_pages r.pages ≡ pages
    left = ap ring_other_pages (shared ∙ same)

    by_stage : (s : BackStage) → IsUnmapping s → BackHolds s v.terms.order (length (page ∷ pages)) v.bound → BackFits (caught_up (ring_step_at s r x) (step_of v answer.Done)) (ring_step_at s r x)
    by_stage ring.UnmapRing unmaps held =
        subst (λ (rest : List Mapping). let y : ends.View = record r { pages = rest; stage = bound rest } in BackFits (caught_up y (step_of v answer.Done)) y) (sym left) (unmaps_bound v r pages gave some held.1)
    by_stage ring.UnmapUnbound unmaps held =
        subst (λ (rest : List Mapping). let y : ends.View = record r { pages = rest; stage = unbound rest } in BackFits (caught_up y (step_of v answer.Done)) y) (sym left) (unmaps_unbound v r pages gave some held.1)
    by_stage s unmaps held = absurd unmaps

-- the port was closed
close_fits : (v : BackView) (r : ends.View) (x : BackAnswer) → v.stage ≡ stage.ClosePort → says_closing v ≡ false → is_some r.halted ≡ true → BackHolds ring.ClosePort v.terms.order (length v.pages) v.bound → IsAnswer (ring_ask_at ring.ClosePort r) x
    → BackFits (caught_up (ring_at ring.Halted r) (step_of v x)) (ring_at ring.Halted r)
close_fits v r answer.Done here on some held allowed =
    let u : BackView = record v { bound = false; stage = stage.WriteState (last_state v.state) } in
    let told : step_of v answer.Done ≡ u = told_at v answer.Done on ∙ ap (λ (b : BackBusStage). step_at b v answer.Done) here in
    let x : ends.View = ring_at ring.Halted r in
    subst (λ (t : BackView). BackFits (caught_up x t) x) (sym told)
    (halting_on x u some (last_halts v.state) (record { goes = last_goes v.state ring.Halted refl; held = (held.0, refl); halted = some ∙ sym (last_halts v.state) }))
close_fits v r x here on some held allowed = absurd allowed

-- a mapping of a job was unmapped
abort_fits : (v : BackView) (r : ends.View) (x : BackAnswer) (s : BackStage) → v.stage ≡ stage.UnmapOthers → r.stage ≡ s → is_some r.halted ≡ true → IsAborting s → BackHolds s v.terms.order (length v.pages) v.bound
    → BackFits (caught_up (ring_step_at s r x) v) (ring_step_at s r x)
abort_fits v r x (ring.Abort m) here e some gives held =
    let y : ends.View = ring_step_at (ring.Abort m) r x in
    let more = given (first_mapping r.jobs.works) in
    halting_on y v some (ap is_halting here) (ends_fit y.stage v y refl (gives_ended y.stage more) here some (gives_holds y.stage v.terms.order (length v.pages) v.bound more held.0 held.1))
abort_fits v r x s here e some gives held = absurd gives

-- one that has halted hears of no watch
over_woken : (v : BackView) (x : BackAnswer) → v.stage ≡ stage.Halted → says_closing v ≡ false → woken v x ≡ v
over_woken v (answer.Watched path) here on = told_at v (answer.Watched path) on ∙ ap (λ (b : BackBusStage). step_at b v (answer.Watched path)) here
over_woken v x here on = refl

reads_between : (own : BusState) (s : BackStage) → BackReads own s → is_between s ≡ true
reads_between state.InitWait s reads = ap is_between reads
reads_between state.Connected s reads = ap is_between reads
reads_between state.Closing s reads = ap is_between reads
reads_between own s reads = absurd reads

unbound_between : (s : BackStage) → is_unbound s ≡ true → is_between s ≡ true
unbound_between ring.InitWait is = refl
unbound_between ring.MapRing is = refl
unbound_between s is = absurd (true≢false (sym is))

-- a move of the ring's end, which its negotiation leaves it
begun_fits : (b : BackBusStage) (s : BackStage) (v : BackView) (r : ends.View) (x : BackAnswer) → v.stage ≡ b → r.stage ≡ s → says_closing v ≡ false → BackGoesWith b v.state s → BackFits v r → BackShares v r
    → bus_moves (ask_at b v) s ≡ false → ring_moves (ask_at b v) s ≡ true → IsAnswer (ring_ask_at s r) x → BackFits (caught_up (ring_step_at s r x) (followed (ask_at b v) v x)) (ring_step_at s r x)
begun_fits stage.Rest s v r x here e on goes h shares quiet moves allowed =
    subst (λ (t : BackStage). BackFits (caught_up (ring_step_at t r x) (woken v x)) (ring_step_at t r x)) e
    (rest_fits v r x here on h (rw e goes) (rw e moves) (subst (λ (t : BackStage). IsAnswer (ring_ask_at t r) x) (sym e) allowed))
begun_fits stage.MapPage s v r x here e on goes h shares quiet moves allowed =
    rw goes.1 (map_fits v r x here on goes.0 (subst (λ (t : BackStage). BackHolds t v.terms.order (length v.pages) v.bound) (e ∙ goes.1) h.held) (h.halted ∙ ap is_halting here) shares.pages
    (shares.terms (ap has_terms (e ∙ goes.1)) (ap is_halting here)) (subst (λ (b : BackBusStage). IsPlaced b v) here shares.sound.placed).2 (rw goes.1 at allowed))
begun_fits stage.Bind s v r x here e on goes h shares quiet moves allowed =
    rw goes.1 (bind_fits v r x here on goes.0 (subst (λ (t : BackStage). BackHolds t v.terms.order (length v.pages) v.bound) (e ∙ goes.1) h.held) (h.halted ∙ ap is_halting here) shares.pages (rw goes.1 at allowed))
begun_fits stage.UnmapOthers s v r x here e on goes h shares quiet moves allowed =
    abort_fits v r x s here e (h.halted ∙ ap is_halting here) goes (subst (λ (t : BackStage). BackHolds t v.terms.order (length v.pages) v.bound) e h.held)
begun_fits stage.UnmapPage s v r x here e on goes h shares quiet moves allowed =
    subst (λ (t : BackStage). BackFits (caught_up (ring_step_at t r x) (followed (unmap_ask v.pages) v x)) (ring_step_at t r x)) e
    (unmap_fits v r v.pages x here on refl shares.pages (h.halted ∙ ap is_halting here) (rw e goes) h.held)
begun_fits stage.ClosePort s v r x here e on goes h shares quiet moves allowed =
    rw goes (close_fits v r x here on (h.halted ∙ ap is_halting here) (subst (λ (t : BackStage). BackHolds t v.terms.order (length v.pages) v.bound) (e ∙ goes) h.held) (rw goes at allowed))
begun_fits stage.Halted s v r x here e on goes h shares quiet moves allowed =
    let same : ring_step_at s r x ≡ r = ap (λ (t : BackStage). ring_step_at t r x) goes.1 in
    subst (λ (y : ends.View). BackFits (caught_up y (woken v x)) y) (sym same) (subst (λ (u : BackView). BackFits (caught_up r u) r) (sym (over_woken v x here on))
    (halting_on r v (h.halted ∙ ap is_halting here) (ap is_halting here) (subst (λ (b : BackBusStage). BackFits (settled_at b r.stage v) r) (sym here) h)))
begun_fits (stage.WriteState state.InitWait) s v r x here e on goes h shares quiet moves allowed = absurd (true≢false (sym (ap is_between goes.1) ∙ quiet))
begun_fits (stage.WriteState state.Connected) s v r x here e on goes h shares quiet moves allowed = absurd (true≢false (sym (ap is_between goes.1) ∙ quiet))
begun_fits (stage.WriteState state.Closing) s v r x here e on goes h shares quiet moves allowed = absurd (true≢false (sym (ap is_between goes) ∙ quiet))
begun_fits (stage.WriteState state.Closed) s v r x here e on goes h shares quiet moves allowed = absurd (true≢false (sym (ap is_between goes.1) ∙ quiet))
begun_fits (stage.WriteState own) s v r x here e on goes h shares quiet moves allowed = absurd goes
begun_fits stage.ReadState s v r x here e on goes h shares quiet moves allowed = absurd (true≢false (sym (reads_between v.state s goes) ∙ quiet))
begun_fits (stage.ReadKey k) s v r x here e on goes h shares quiet moves allowed = absurd (true≢false (sym (unbound_between s (waits_reading k v.state s goes).1) ∙ quiet))
begun_fits other s v r x here e on goes h shares quiet moves allowed = absurd (true≢false (sym (ap is_between goes.1) ∙ quiet))

pub ring_fits : (v : BackView) (r : ends.View) (x : BackAnswer) → BackFits v r → BackShares v r → bus_moves (ask_of v) r.stage ≡ false → ring_moves (ask_of v) r.stage ≡ true → IsAnswer (ring_ask_at r.stage r) x
    → BackFits (caught_up (ring_step_of r x) (followed (ask_of v) v x)) (ring_step_of r x)
ring_fits v r x h shares quiet moves allowed = by_test (says_closing v) refl
  where
    closing : (b : BackBusStage) (own : BusState) → says_closing_at b own ≡ true → v.stage ≡ b → v.state ≡ own → BackGoesWith b own r.stage → is_between r.stage ≡ false → BackFits (caught_up (ring_step_of r x) v) (ring_step_of r x)
    closing stage.Rest state.Connected is here own goes mid =
        serves_fit v r (ring_step_of r x) (h.halted ∙ ap is_halting here) (ap is_halting here) (holds_serving r.stage v.terms.order (length v.pages) v.bound goes h.held) (serves_step r x goes) (λ serves. rw (here, own) serves)
    closing stage.ReadState state.Connected is here own goes mid = absurd (true≢false (sym (ap is_between goes) ∙ mid))
    closing b own is here e goes mid = absurd (true≢false (sym is))

    by_test : (c : Bool) → says_closing v ≡ c → BackFits (caught_up (ring_step_of r x) (followed (ask_of v) v x)) (ring_step_of r x)
    by_test true is = rw is (closing v.stage v.state (both_true v.unplugged (says_closing_at v.stage v.state) is).1 refl refl h.goes (rw is at quiet))
    by_test false on = rw on (begun_fits v.stage r.stage v r x refl refl on h.goes h shares (rw on at quiet) (rw on at moves) allowed)

-- the negotiation waits where the ring's end has no move
pub wait_fits : (v : BackView) (r : ends.View) (x : BackAnswer) → BackFits v r → ring_moves (ask_of v) r.stage ≡ false → BackFits (waited (ask_of v) v x) r
wait_fits v r x h still = by_test (says_closing v) refl
  where
    reads : (own : BusState) → BackRests own r.stage → ring_moves bus_ask.Wait r.stage ≡ false → BackReads own r.stage
    reads state.InitWait rests still = rests
    reads state.Connected rests still = absurd (true≢false (sym (serving_moves r.stage rests) ∙ still))
    reads state.Closing rests still = absurd (true≢false (sym (serving_moves r.stage rests) ∙ still))
    reads own rests still = absurd rests

    rests : (x : BackAnswer) → v.stage ≡ stage.Rest → says_closing v ≡ false → BackRests v.state r.stage → ring_moves bus_ask.Wait r.stage ≡ false → BackFits (woken v x) r
    rests (answer.Watched path) here on goes still =
        let told : step_of v (answer.Watched path) ≡ at stage.ReadState v = told_at v (answer.Watched path) on ∙ ap (λ (b : BackBusStage). step_at b v (answer.Watched path)) here in
        subst (λ (u : BackView). BackFits u r) (sym told) (record { goes = reads v.state goes still; held = h.held; halted = h.halted ∙ ap is_halting here })
    rests x here on goes still = h

    unmaps : (pages : List Mapping) → 0 < length pages → BackFits (waited (unmap_ask pages) v x) r
    unmaps (page ∷ pages) some = h
    unmaps [] some = absurd (omega arith)

    begun : (b : BackBusStage) → v.stage ≡ b → says_closing v ≡ false → BackGoesWith b v.state r.stage → ring_moves (ask_at b v) r.stage ≡ false → BackFits (waited (ask_at b v) v x) r
    begun stage.Rest here on goes still = rests x here on goes still
    begun stage.Halted here on goes still = subst (λ (u : BackView). BackFits u r) (sym (over_woken v x here on)) h
    begun stage.UnmapPage here on goes still = unmaps v.pages (unmapping_holds r.stage v.terms.order (length v.pages) v.bound goes h.held)
    begun b here on goes still = h

    by_test : (c : Bool) → says_closing v ≡ c → BackFits (waited (ask_of v) v x) r
    by_test true is = rw is h
    by_test false on = rw on (begun v.stage refl on h.goes (rw on at still))
