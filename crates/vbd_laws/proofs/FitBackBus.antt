-- The back's negotiation goes on with its end of the ring, as the other end's keys are read and its own are set, and halts with it.
use Rattle.std.proofs.Common.{◌≡◌, ℕ, ◌==◌, Bool, true, false, true≢false, ◌+◌, ◌^◌, ◌<◌, ◌≤◌, if◌then◌else◌, List, [], ◌∷◌, inl, inr, refl, sym, ap, ◌∙◌, subst, arith}
use Rattle.std.specs.Prelude.{Option, Some, None, ◌⊎◌, is_some, length, nat_lt, nat_le}
use Rattle.std.proofs.lemmas.Nat.{pow_pos}
use Rattle.std.proofs.lemmas.Bool.Decides.{nat_tests}
use Rattle.std.specs.Option.{option_map}
use Rattle.std.proofs.Math.Bool.{and-false}
use Rattle.line_text.proofs.Both.{both_true}
use Rattle.blk_base.specs.declared.operation.Abi.{Abi}
use Rattle.blk_base.specs.declared.parts.Mapping.{Mapping}
use Rattle.blk_base.specs.declared.ask.BackAnswer.{BackAnswer}
use Rattle.blk_base.specs.declared.ask.BackAnswer.TheVariants as answer
use Rattle.blk_back.specs.declared.stage.BackStage.{BackStage}
use Rattle.blk_back.specs.declared.stage.BackStage.TheVariants as ring
use Rattle.blk_back.specs.View as ends
use Rattle.blk_back.specs.Step.{abort, unmapping_next as ring_aborting, unbound, halts_at as ring_halts_at, may_halt, halts, may_attach, attached, attaches}
use Rattle.back_jobs.specs.Jobs.{first_mapping}
use Rattle.xenbus_state.specs.declared.keys.BackKey.{BackKey}
use Rattle.xenbus_state.specs.declared.keys.BackKey.TheVariants as back_key
use Rattle.xenbus_state.specs.declared.keys.FrontKey.{FrontKey}
use Rattle.xenbus_state.specs.declared.keys.FrontKey.TheVariants as key
use Rattle.xenbus_state.specs.declared.state.BusState.{BusState}
use Rattle.xenbus_state.specs.declared.state.BusState.TheVariants as state
use Rattle.xenbus_state.specs.declared.stage.BackBusStage.{BackBusStage}
use Rattle.xenbus_state.specs.declared.stage.BackBusStage.TheVariants as stage
use Rattle.xenbus_state.specs.declared.table.BackAction.{BackAction}
use Rattle.xenbus_state.specs.declared.table.BackAction.TheVariants as action
use Rattle.xenbus_state.specs.declared.table.BackHalt.{BackHalt}
use Rattle.xenbus_state.specs.declared.table.BackHalt.TheVariants as bus_halt
use Rattle.xenbus_state.specs.States.{state_read}
use Rattle.xenbus_state.specs.Numbers.{number_of}
use Rattle.xenbus_state.specs.Tables.{back_action, is_connected, SuitsBack}
use Rattle.xenbus_state.specs.Programs.{next_feature, next_fact, after_page}
use Rattle.xenbus_state.specs.Reading.{count_read}
use Rattle.xenbus_state.specs.BackReading.{order_of, layout_read, with_order, with_gref, with_port, with_layout, with_persistent, key_read}
use Rattle.xenbus_state.specs.BackView.{BackView, is_halting, halted}
use Rattle.xenbus_state.specs.BackAsk.{says_closing_at, says_closing, unmap_ask, ask_at, ask_of, IsAnswer}
use Rattle.xenbus_state.specs.BackStep.{at, acted, action_halt, key_halt, last_state, unmapping_next, after_feature, after_fact, kept_or_halted, step_at, step_of, halt_at, halt_of}
use Rattle.xenbus_state.specs.declared.back.BackBusAsk.TheVariants as bus_ask
use Rattle.xenbus_state.specs.BackSound.{IsSound, IsPlaced}
use Rattle.xenbus_state.proofs.BackKeeps.{action_suits}
use Rattle.vbd_back.specs.Ask.{speaks}
use Rattle.vbd_back.specs.Step.{ring_halt, reads_layout, shape_read, ring_led, settled_at, settled}
use Rattle.split_model.proofs.States.{is_unbound}
use Rattle.vbd_model.specs.Fit.{is_serving, BackRests, BackReads, BackGoesWith, BackHolds, has_terms, HaveTerms}

-- the negotiation goes with the end of the ring, counts what that holds, and halts with it
pub record BackFits (v : BackView) (r : ends.View) : Type 0 where
  pub goes : BackGoesWith v.stage v.state r.stage
  pub held : BackHolds r.stage v.terms.order (length v.pages) v.bound
  pub halted : is_some r.halted ≡ is_halting v.stage

-- both count the same pages, and until a halt the end of the ring has the terms that the negotiation read
pub record BackShares (v : BackView) (r : ends.View) : Type 0 where
  pub pages : r.pages ≡ v.pages
  pub sound : IsSound v
  pub terms : has_terms r.stage ≡ true → is_halting v.stage ≡ false → HaveTerms r v

-- a back that doesn't say that it closes does what it has begun
pub told_at : (v : BackView) (x : BackAnswer) → says_closing v ≡ false → step_of v x ≡ step_at v.stage v x
told_at v x goes_on = rw goes_on refl

-- a back that has halted unmaps a mapping next, or has none left
abbrev pub is_ended : BackStage → Bool
is_ended (ring.Abort m) = true
is_ended ring.UnmapRing = true
is_ended ring.UnmapUnbound = true
is_ended ring.Halted = true
is_ended r = false

unmapping : (pages : List Mapping) (bound : Bool) (own : BusState) → 0 < length pages → unmapping_next pages bound own ≡ stage.UnmapPage
unmapping [] bound own some = absurd (omega arith)
unmapping (page ∷ pages) bound own some = refl

pub writing : (pages : List Mapping) (bound : Bool) (own : BusState) → length pages ≡ 0 → bound ≡ false → unmapping_next pages bound own ≡ stage.WriteState (last_state own)
writing [] bound own none free = rw free refl
writing (page ∷ pages) bound own none free = absurd (omega arith)

pub last_goes : (own : BusState) (r : BackStage) → r ≡ ring.Halted → BackGoesWith (stage.WriteState (last_state own)) own r
last_goes state.Closing r over = (refl, over)
last_goes own r over = over

pub last_halts : (own : BusState) → is_halting (stage.WriteState (last_state own)) ≡ true
last_halts state.Closing = refl
last_halts own = refl

-- once the negotiation is settled they fit
pub ends_fit : (s : BackStage) (v : BackView) (r : ends.View) → r.stage ≡ s → is_ended s ≡ true → v.stage ≡ stage.UnmapOthers → is_some r.halted ≡ true → BackHolds s v.terms.order (length v.pages) v.bound → BackFits (settled s v) r
ends_fit s v r at_stage ended here halts held = by_stage s at_stage ended held
  where
    goes_on : says_closing v ≡ false
    goes_on = rw here (and-false v.unplugged)

    Ended : BackBusStage → Type 0
    Ended b = BackFits (at b v) r

    has_unmapped : step_of v answer.Done ≡ at (unmapping_next v.pages v.bound v.state) v
    has_unmapped = told_at v answer.Done goes_on ∙ ap (λ (b : BackBusStage). step_at b v answer.Done) here

    settles : (s : BackStage) → settled_at stage.UnmapOthers s v ≡ step_of v answer.Done → (b : BackBusStage) → unmapping_next v.pages v.bound v.state ≡ b → Ended b → BackFits (settled s v) r
    settles s last b next fits = subst (λ (u : BackView). BackFits u r) (sym (ap (λ (b : BackBusStage). settled_at b s v) here ∙ (last ∙ (has_unmapped ∙ ap (λ (b : BackBusStage). at b v) next)))) fits

    by_stage : (s : BackStage) → r.stage ≡ s → is_ended s ≡ true → BackHolds s v.terms.order (length v.pages) v.bound → BackFits (settled s v) r
    by_stage (ring.Abort m) e ended held =
        let same : settled (ring.Abort m) v ≡ v = ap (λ (b : BackBusStage). settled_at b (ring.Abort m) v) here in
        subst (λ (u : BackView). BackFits u r) (sym same) (record { goes = rw (here, e) tt; held = rw e held; halted = rw here halts })
    by_stage ring.UnmapRing e ended held =
        settles ring.UnmapRing refl stage.UnmapPage (unmapping v.pages v.bound v.state held.0) (record { goes = rw e tt; held = rw e held; halted = halts })
    by_stage ring.UnmapUnbound e ended held =
        settles ring.UnmapUnbound refl stage.UnmapPage (unmapping v.pages v.bound v.state held.0) (record { goes = rw e tt; held = rw e held; halted = halts })
    by_stage ring.Halted e ended held =
        settles ring.Halted refl (stage.WriteState (last_state v.state)) (writing v.pages v.bound v.state held.0 held.1)
        (record { goes = last_goes v.state r.stage e; held = rw e held; halted = halts ∙ sym (last_halts v.state) })
    by_stage s e ended held = absurd (true≢false (sym ended))

-- the negotiation has the end of the ring halt
pub halts_ring : (reason : BackHalt) (r : ends.View) (s : BackStage) → r.stage ≡ s → halts (ring_halt reason) r ≡ ring_halts_at s (ring_halt reason) r
halts_ring reason r s here = rw (may reason, here) refl
  where
    may : (reason : BackHalt) → may_halt (ring_halt reason) ≡ true
    may (bus_halt.Gone own) = refl
    may other = refl

-- a back whose port isn't bound unmaps the pages that it has mapped
unbound_holds : (pages : List Mapping) (order : ℕ) (binds : Bool) → binds ≡ false → BackHolds (unbound pages) order (length pages) binds
unbound_holds [] order binds free = (refl, free)
unbound_holds (page ∷ pages) order binds free = (omega arith, free)

unbound_ended : (pages : List Mapping) → is_ended (unbound pages) ≡ true
unbound_ended [] = refl
unbound_ended (page ∷ pages) = refl

pub unbound_fits : (v : BackView) (r : ends.View) → r.stage ≡ unbound r.pages → r.pages ≡ v.pages → v.stage ≡ stage.UnmapOthers → is_some r.halted ≡ true → v.bound ≡ false → BackFits (settled r.stage v) r
unbound_fits v r here same over halts free =
    let held : BackHolds (unbound r.pages) v.terms.order (length v.pages) v.bound = subst (λ (pages : List Mapping). BackHolds (unbound r.pages) v.terms.order (length pages) v.bound) same (unbound_holds r.pages v.terms.order v.bound free) in
    subst (λ (s : BackStage). BackFits (settled s v) r) (sym here) (ends_fit (unbound r.pages) v r here (unbound_ended r.pages) over halts held)

free_unbound : (s : BackStage) (order pages : ℕ) (binds : Bool) → is_unbound s ≡ true → BackHolds s order pages binds → binds ≡ false
free_unbound ring.InitWait order pages binds is held = held.1
free_unbound ring.MapRing order pages binds is held = held.1
free_unbound s order pages binds is held = absurd (true≢false (sym is))

halt_fits : (reason : BackHalt) (v : BackView) (r : ends.View) → (is_unbound r.stage ≡ true) ⊎ (r.stage ≡ ring.Loop) → r.pages ≡ v.pages → BackHolds r.stage v.terms.order (length v.pages) v.bound
    → let x : ends.View = halts (ring_halt reason) r in BackFits (settled x.stage (halted v)) x
halt_fits reason v r (inl here) same held =
    subst (λ (x : ends.View). BackFits (settled x.stage (halted v)) x) (sym (by_stage r.stage refl here))
    (unbound_fits (halted v) (record r { halted = Some (ring_halt reason); stage = unbound r.pages }) refl same refl refl (free_unbound r.stage v.terms.order (length v.pages) v.bound here held))
  where
    by_stage : (s : BackStage) → r.stage ≡ s → is_unbound s ≡ true → halts (ring_halt reason) r ≡ record r { halted = Some (ring_halt reason); stage = unbound r.pages }
    by_stage ring.InitWait e is = halts_ring reason r ring.InitWait e
    by_stage ring.MapRing e is = halts_ring reason r ring.MapRing e
    by_stage s e is = absurd (true≢false (sym is))
halt_fits reason v r (inr here) same held =
    subst (λ (x : ends.View). BackFits (settled x.stage (halted v)) x) (sym (halts_ring reason r ring.Loop here)) (by_mapping (first_mapping r.jobs.works) (rw here at held))
  where
    some_pages : (pages order : ℕ) → pages ≡ 2 ^ order → 0 < pages
    some_pages pages order all = let some = pow_pos order in omega arith

    by_mapping : (m : Option Mapping) → BackHolds ring.Loop v.terms.order (length v.pages) v.bound
        → BackFits (settled (ring_aborting m) (halted v)) (record (abort (record r { halted = Some (ring_halt reason) })) { stage = ring_aborting m })
    by_mapping None held = ends_fit ring.UnmapRing (halted v) _ refl refl refl refl (some_pages (length v.pages) v.terms.order held.0, held.1)
    by_mapping (Some m) held = ends_fit (ring.Abort m) (halted v) _ refl refl refl refl held

-- a back that rests connects once
connects_once : (own : BusState) (r : BackStage) → is_connected own ≡ false → BackReads own r → (own ≡ state.InitWait) × (r ≡ ring.InitWait)
connects_once state.InitWait r suits reads = (refl, reads)
connects_once state.Connected r suits reads = absurd (true≢false suits)
connects_once state.Closing r suits reads = absurd (true≢false suits)
connects_once own r suits reads = absurd reads

reads_rests : (own : BusState) (r : BackStage) → BackReads own r → BackRests own r
reads_rests state.InitWait r reads = reads
reads_rests state.Connected r reads = ap is_serving reads
reads_rests state.Closing r reads = ap is_serving reads
reads_rests own r reads = absurd reads

pub reads_between : (own : BusState) (r : BackStage) → BackReads own r → (is_unbound r ≡ true) ⊎ (r ≡ ring.Loop)
reads_between state.InitWait r reads = inl (ap is_unbound reads)
reads_between state.Connected r reads = inr reads
reads_between state.Closing r reads = inr reads
reads_between own r reads = absurd reads

-- what an answer makes of both
abbrev Heard : BackBusStage → BackView → ends.View → BackAnswer → Type 0
Heard b v r x = let led : ends.View = ring_led (halt_at b v x) (reads_layout (ask_at b v)) (step_at b v x) r in BackFits (settled led.stage (step_at b v x)) led

acted_fits : (act : BackAction) (v : BackView) (r : ends.View) → SuitsBack v.state act → v.stage ≡ stage.ReadState → BackReads v.state r.stage → BackFits v r → r.pages ≡ v.pages
    → let x : ends.View = ring_led (action_halt act) false (acted act v) r in BackFits (settled x.stage (acted act v)) x
acted_fits action.Nothing v r suits here reads h same = record { goes = reads_rests v.state r.stage reads; held = h.held; halted = h.halted ∙ ap is_halting here }
acted_fits action.Connect v r suits here reads h same = record { goes = connects_once v.state r.stage suits reads; held = h.held; halted = h.halted ∙ ap is_halting here }
acted_fits (action.Halt reason) v r suits here reads h same = halt_fits reason v r (reads_between v.state r.stage reads) same h.held

-- a key before the last one is read
abbrev pub IsEarly : BackBusStage → Type 0
IsEarly (stage.ReadKey key.FeaturePersistent) = ⊥
IsEarly (stage.ReadKey k) = Unit {0}
IsEarly b = ⊥

-- what is read after this key: after the layout the terms are known, and after the last one the first page is mapped
abbrev pub Follows : FrontKey → BackView → BackView → Type 0
Follows key.Protocol v u = (u.stage ≡ stage.ReadKey key.FeaturePersistent) × (u.grefs ≡ v.grefs) × (u.terms.order ≡ v.terms.order)
Follows key.FeaturePersistent v u = (u.stage ≡ stage.MapPage) × (shape_read u ≡ shape_read v) × (u.grefs ≡ v.grefs) × (u.terms.port ≡ v.terms.port)
Follows k v u = IsEarly u.stage

-- a key of the front was read: what is offered, written and held stays
pub record Reads (k : FrontKey) (v u : BackView) : Type 0 where
  pub own : u.state ≡ v.state
  pub features : u.features ≡ v.features
  pub disk : u.disk ≡ v.disk
  pub pages : u.pages ≡ v.pages
  pub bound : u.bound ≡ v.bound
  pub next : Follows k v u

early_page : (order page : ℕ) → IsEarly (stage.ReadKey (after_page order page))
early_page order page = by_test (nat_lt (page + 1) (2 ^ order))
  where
    by_test : (more : Bool) → IsEarly (stage.ReadKey (if more then key.RingRefOf (page + 1) else key.EventChannel))
    by_test true = tt
    by_test false = tt

reads_number : (P : Option BackView → Type 0) (with : ℕ → BackView) (n : Option ℕ) → ((m : ℕ) → P (Some (with m))) → P None → P (option_map with n)
reads_number P with None all halts = halts
reads_number P with (Some n) all halts = all n

reads_abi : (P : Option BackView → Type 0) (with : Abi → BackView) (a : Option Abi) → ((m : Abi) → P (Some (with m))) → P None → P (option_map with a)
reads_abi P with None all halts = halts
reads_abi P with (Some a) all halts = all a

pub reads_key : (P : Option BackView → Type 0) (k : FrontKey) (text : Option (List ℕ)) (v : BackView) → ((u : BackView) → Reads k v u → P (Some u)) → P None → P (key_read k text v)
reads_key P key.RingPageOrder None v all halts = all _ (record { own = refl; features = refl; disk = refl; pages = refl; bound = refl; next = tt })
reads_key P key.RingPageOrder (Some text) v all halts =
    reads_number P (with_order v (key.RingRefOf 0)) (order_of (number_of text)) (λ n. all _ (record { own = refl; features = refl; disk = refl; pages = refl; bound = refl; next = tt })) halts
reads_key P (key.RingRefOf page) None v all halts = by_order (v.terms.order == 0)
  where
    by_order : (one : Bool) → P (if one then Some (record v { stage = stage.ReadKey key.RingRef }) else None)
    by_order true = all _ (record { own = refl; features = refl; disk = refl; pages = refl; bound = refl; next = tt })
    by_order false = halts
reads_key P (key.RingRefOf page) (Some text) v all halts =
    reads_number P (with_gref v (after_page v.terms.order page)) (number_of text) (λ n. all _ (record { own = refl; features = refl; disk = refl; pages = refl; bound = refl; next = early_page v.terms.order page })) halts
reads_key P key.RingRef (Some text) v all halts =
    reads_number P (with_gref v key.EventChannel) (number_of text) (λ n. all _ (record { own = refl; features = refl; disk = refl; pages = refl; bound = refl; next = tt })) halts
reads_key P key.EventChannel (Some text) v all halts =
    reads_number P (with_port v) (number_of text) (λ n. all _ (record { own = refl; features = refl; disk = refl; pages = refl; bound = refl; next = tt })) halts
reads_key P key.Protocol text v all halts =
    reads_abi P (with_layout v) (layout_read text) (λ a. all _ (record { own = refl; features = refl; disk = refl; pages = refl; bound = refl; next = (refl, refl, refl) })) halts
reads_key P key.FeaturePersistent text v all halts =
    reads_number P (with_persistent v) (count_read text) (λ n. all _ (record { own = refl; features = refl; disk = refl; pages = refl; bound = refl; next = (refl, refl, refl, refl) })) halts
reads_key P other None v all halts = halts

-- where the end of the ring stands as this is read or mapped next
abbrev NextAt : BackBusStage → BackStage → Type 0
NextAt (stage.ReadKey key.FeaturePersistent) t = t ≡ ring.MapRing
NextAt (stage.ReadKey k) t = t ≡ ring.InitWait
NextAt stage.MapPage t = t ≡ ring.MapRing
NextAt b t = ⊥

early_next : (b : BackBusStage) (t : BackStage) → IsEarly b → t ≡ ring.InitWait → NextAt b t
early_next (stage.ReadKey key.FeaturePersistent) t early waits = absurd early
early_next (stage.ReadKey key.RingPageOrder) t early waits = waits
early_next (stage.ReadKey (key.RingRefOf page)) t early waits = waits
early_next (stage.ReadKey key.RingRef) t early waits = waits
early_next (stage.ReadKey key.EventChannel) t early waits = waits
early_next (stage.ReadKey key.Protocol) t early waits = waits
early_next b t early waits = absurd early

-- the key that is read next says where the end of the ring stands
goes_reading : (b : BackBusStage) (own : BusState) (t : BackStage) → own ≡ state.InitWait → NextAt b t → BackGoesWith b own t
goes_reading (stage.ReadKey key.FeaturePersistent) own t is next = (is, next)
goes_reading (stage.ReadKey key.RingPageOrder) own t is next = (is, next)
goes_reading (stage.ReadKey (key.RingRefOf page)) own t is next = (is, next)
goes_reading (stage.ReadKey key.RingRef) own t is next = (is, next)
goes_reading (stage.ReadKey key.EventChannel) own t is next = (is, next)
goes_reading (stage.ReadKey key.Protocol) own t is next = (is, next)
goes_reading stage.MapPage own t is next = (is, next)
goes_reading b own t is next = absurd next

pub waits_reading : (k : FrontKey) (own : BusState) (t : BackStage) → BackGoesWith (stage.ReadKey k) own t → (own ≡ state.InitWait) × (is_unbound t ≡ true)
waits_reading key.FeaturePersistent own t goes = (goes.0, ap is_unbound goes.1)
waits_reading other own t goes = (goes.0, ap is_unbound goes.1)

reading_on : (b : BackBusStage) (t : BackStage) → NextAt b t → is_halting b ≡ false
reading_on (stage.ReadKey k) t next = refl
reading_on stage.MapPage t next = refl
reading_on b t next = absurd next

reading_still : (b : BackBusStage) (t : BackStage) (u : BackView) → NextAt b t → settled_at b t u ≡ u
reading_still (stage.ReadKey k) t u next = refl
reading_still stage.MapPage t u next = refl
reading_still b t u next = absurd next

-- a key was read that doesn't halt: the end of the ring waits on, or takes its terms and maps
reading_fits : (k : FrontKey) (v u : BackView) (y : ends.View) → Reads k v u → v.state ≡ state.InitWait → NextAt u.stage y.stage → BackHolds y.stage u.terms.order (length v.pages) v.bound → is_some y.halted ≡ false → BackFits (settled y.stage u) y
reading_fits k v u y reads own next held served =
    subst (λ (t : BackView). BackFits t y) (sym (reading_still u.stage y.stage u next))
    (record {
      goes = goes_reading u.stage u.state y.stage (reads.own ∙ own) next;
      held = subst (λ (pages : List Mapping). BackHolds y.stage u.terms.order (length pages) u.bound) (sym reads.pages) (subst (λ (bound : Bool). BackHolds y.stage u.terms.order (length v.pages) bound) (sym reads.bound) held);
      halted = served ∙ sym (reading_on u.stage y.stage next);
    })

-- nothing is mapped yet, whatever the order
none_holds : (t : BackStage) (order other pages : ℕ) (binds : Bool) → is_unbound t ≡ true → pages ≡ 0 → BackHolds t order pages binds → BackHolds t other pages binds
none_holds ring.InitWait order other pages binds is none held = held
none_holds ring.MapRing order other pages binds is none held = let some = pow_pos other in (omega arith, held.1)
none_holds t order other pages binds is none held = absurd (true≢false (sym is))

maps_none : (pages order : ℕ) → pages ≡ 0 → pages < 2 ^ order
maps_none pages order none = let some = pow_pos order in omega arith

-- the terms are taken where they fit the ring
taken : (u : BackView) (r : ends.View) → may_attach (shape_read u) u.grefs r ≡ true → attaches (shape_read u) u.grefs u.terms.port r ≡ attached (shape_read u) u.grefs u.terms.port r
taken u r may = rw may refl

may_take : (u : BackView) (r : ends.View) → r.stage ≡ ring.InitWait → u.terms.order ≤ 4 → length u.grefs ≡ 2 ^ u.terms.order → may_attach (shape_read u) u.grefs r ≡ true
may_take u r here low many = rw (here, low_is, many_is) refl
  where
    low_is : nat_le u.terms.order 4 ≡ true
    low_is = grind (arith, nat_tests)

    many_is : (length u.grefs == 2 ^ u.terms.order) ≡ true
    many_is = grind (arith, nat_tests)

key_fits : (k : FrontKey) (text : Option (List ℕ)) (v : BackView) (r : ends.View) → BackGoesWith (stage.ReadKey k) v.state r.stage → BackFits v r → BackShares v r → IsPlaced (stage.ReadKey k) v → is_some r.halted ≡ false
    → let u : BackView = kept_or_halted (key_read k text v) v in
    let x : ends.View = ring_led (key_halt k (key_read k text v)) (reads_layout (bus_ask.GetKey k)) u r in BackFits (settled x.stage u) x
key_fits k text v r goes h shares placed served =
    reads_key
    (λ (o : Option BackView). let x : ends.View = ring_led (key_halt k o) (reads_layout (bus_ask.GetKey k)) (kept_or_halted o v) r in BackFits (settled x.stage (kept_or_halted o v)) x) k text v
    (λ u reads. by_key k goes placed u reads) (halt_fits (bus_halt.BadKey k) v r (inr_left (waits_reading k v.state r.stage goes).1) shares.pages h.held)
  where
    inr_left : is_unbound r.stage ≡ true → (is_unbound r.stage ≡ true) ⊎ (r.stage ≡ ring.Loop)
    inr_left is = inl is

    on : (k : FrontKey) (u : BackView) → Reads k v u → BackGoesWith (stage.ReadKey k) v.state r.stage → length v.pages ≡ 0 → NextAt u.stage r.stage → BackFits (settled r.stage u) r
    on k u reads goes none next =
        let waits = waits_reading k v.state r.stage goes in
        reading_fits k v u r reads waits.0 next (none_holds r.stage v.terms.order u.terms.order (length v.pages) v.bound waits.1 none h.held) served

    by_key : (k : FrontKey) → BackGoesWith (stage.ReadKey k) v.state r.stage → IsPlaced (stage.ReadKey k) v → (u : BackView) → Reads k v u → let x : ends.View = ring_led None (reads_layout (bus_ask.GetKey k)) u r in BackFits (settled x.stage u) x
    by_key key.Protocol goes placed u reads =
        let grefs = reads.next.1 in let order = reads.next.2 in
        let many : length u.grefs ≡ 2 ^ u.terms.order = rw (grefs, order) placed.2 in
        let may = may_take u r goes.1 (rw order shares.sound.order) many in
        let free = free_unbound r.stage v.terms.order (length v.pages) v.bound (ap is_unbound goes.1) h.held in
        subst (λ (x : ends.View). BackFits (settled x.stage u) x) (sym (taken u r may))
        (reading_fits key.Protocol v u (attached (shape_read u) u.grefs u.terms.port r) reads goes.0 (rw reads.next.0 refl) (maps_none (length v.pages) u.terms.order placed.1.pages, free) served)
    by_key key.FeaturePersistent goes placed u reads = on key.FeaturePersistent u reads goes placed.1.pages (rw reads.next.0 goes.1)
    by_key (key.RingRefOf page) goes placed u reads = on (key.RingRefOf page) u reads goes placed.1.pages (early_next u.stage r.stage reads.next goes.1)
    by_key other goes placed u reads = on other u reads goes placed.1.pages (early_next u.stage r.stage reads.next goes.1)

offered_fits : (next : Option BackKey) (v : BackView) (r : ends.View) → v.state ≡ state.Initialising → r.stage ≡ ring.InitWait → BackFits v r → is_some r.halted ≡ false → BackFits (settled r.stage (at (after_feature next) v)) r
offered_fits (Some k) v r is here h served = record { goes = (is, here); held = h.held; halted = served }
offered_fits None v r is here h served = record { goes = (is, here); held = h.held; halted = served }

fact_fits : (k : BackKey) (v : BackView) (r : ends.View) → v.state ≡ state.InitWait → r.stage ≡ ring.Loop → BackFits v r → is_some r.halted ≡ false → BackFits (settled r.stage (at (after_fact (next_fact k)) v)) r
fact_fits back_key.Sectors v r is here h served = record { goes = (is, here, tt); held = h.held; halted = served }
fact_fits back_key.SectorSize v r is here h served = record { goes = (is, here, tt); held = h.held; halted = served }
fact_fits k v r is here h served = record { goes = (is, here); held = h.held; halted = served }

-- the other end's key was read, or its own was set
heard_fits : (b : BackBusStage) (v : BackView) (r : ends.View) (x : BackAnswer) → v.stage ≡ b → BackGoesWith b v.state r.stage → BackFits v r → BackShares v r → speaks (ask_at b v) ≡ true → IsAnswer (ask_at b v) x → Heard b v r x
heard_fits (stage.Publish k) v r answer.Done here goes h shares says allowed = offered_fits (next_feature k) v r goes.0 goes.1 h (h.halted ∙ ap is_halting here)
heard_fits (stage.WriteState state.InitWait) v r answer.Done here goes h shares says allowed = record { goes = (refl, goes.1); held = h.held; halted = h.halted ∙ ap is_halting here }
heard_fits (stage.WriteState state.Connected) v r answer.Done here goes h shares says allowed = record { goes = ap is_serving goes.1; held = h.held; halted = h.halted ∙ ap is_halting here }
heard_fits (stage.WriteState state.Closing) v r answer.Done here goes h shares says allowed = record { goes = (refl, goes); held = h.held; halted = h.halted ∙ ap is_halting here }
heard_fits (stage.WriteState state.Closed) v r answer.Done here goes h shares says allowed = record { goes = (refl, goes.1); held = h.held; halted = h.halted ∙ ap is_halting here }
heard_fits (stage.WriteState own) v r answer.Done here goes h shares says allowed = absurd goes
heard_fits stage.Watch v r answer.Done here goes h shares says allowed = record { goes = rw goes.0 goes.1; held = h.held; halted = h.halted ∙ ap is_halting here }
heard_fits stage.ReadState v r (answer.Key text) here goes h shares says allowed =
    acted_fits (back_action v.state v.unplugged (state_read text)) v r (action_suits v.state v.unplugged (state_read text)) here goes h shares.pages
heard_fits (stage.ReadKey k) v r (answer.Key text) here goes h shares says allowed = key_fits k text v r goes h shares (subst (λ (b : BackBusStage). IsPlaced b v) here shares.sound.placed) (h.halted ∙ ap is_halting here)
heard_fits (stage.PublishFact k) v r answer.Done here goes h shares says allowed = fact_fits k v r goes.0 goes.1 h (h.halted ∙ ap is_halting here)
heard_fits (stage.Publish k) v r x here goes h shares says allowed = absurd allowed
heard_fits (stage.WriteState own) v r x here goes h shares says allowed = absurd allowed
heard_fits stage.Watch v r x here goes h shares says allowed = absurd allowed
heard_fits stage.ReadState v r x here goes h shares says allowed = absurd allowed
heard_fits (stage.ReadKey k) v r x here goes h shares says allowed = absurd allowed
heard_fits (stage.PublishFact k) v r x here goes h shares says allowed = absurd allowed
heard_fits stage.UnmapPage v r x here goes h shares says allowed = absurd (unmap_says v.pages says)
  where
    unmap_says : (pages : List Mapping) → speaks (unmap_ask pages) ≡ true → ⊥
    unmap_says [] says = true≢false (sym says)
    unmap_says (page ∷ pages) says = true≢false (sym says)
heard_fits b v r x here goes h shares says allowed = absurd (true≢false (sym says))

-- the negotiation was answered
pub spoken_fits : (v : BackView) (r : ends.View) (x : BackAnswer) → BackFits v r → BackShares v r → speaks (ask_of v) ≡ true → IsAnswer (ask_of v) x
    → let y : ends.View = ring_led (halt_of v x) (reads_layout (ask_of v)) (step_of v x) r in BackFits (settled y.stage (step_of v x)) y
spoken_fits v r x h shares says allowed = by_test (says_closing v) refl
  where
    closing : (b : BackBusStage) (own : BusState) → says_closing_at b own ≡ true → v.stage ≡ b → BackGoesWith b own r.stage → BackFits (settled_at b r.stage (record v { state = state.Closing })) r
    closing stage.Rest state.Connected is here goes = record { goes = rw here goes; held = h.held; halted = h.halted }
    closing stage.ReadState state.Connected is here goes = record { goes = rw here goes; held = h.held; halted = h.halted }
    closing b own is here goes = absurd (true≢false (sym is))

    by_test : (c : Bool) → says_closing v ≡ c → let y : ends.View = ring_led (halt_of v x) (reads_layout (ask_of v)) (step_of v x) r in BackFits (settled y.stage (step_of v x)) y
    by_test true is = rw is (closing v.stage v.state (both_true v.unplugged (says_closing_at v.stage v.state) is).1 refl h.goes)
    by_test false goes_on = rw goes_on (heard_fits v.stage v r x refl h.goes h shares (rw goes_on at says) (rw goes_on at allowed))
