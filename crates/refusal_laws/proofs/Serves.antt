-- Whatever happens, the front is connected knowing what the options have its back serve.
use Rattle.std.proofs.Common.{◌≡◌, ℕ, ◌&&◌, Bool, true, false, true≢false, if◌then◌else◌, List, [], ◌∷◌, ◌++◌, map, refl, ap, sym, ◌∙◌, subst}
use Rattle.std.specs.Prelude.{Option, Some, None}
use Rattle.std.specs.List.{AllByRecursion}
use Rattle.std.proofs.lemmas.Option.{none-some}
use Rattle.blk_base.specs.Options.{Options}
use Rattle.blk_base.specs.declared.ask.FrontAnswer.{FrontAnswer}
use Rattle.blk_base.specs.declared.ask.FrontAnswer.TheVariants as answer
use Rattle.blk_base.specs.declared.parts.End.TheVariants as end
use Rattle.schedule_text.specs.Range.{AreOptions}
use Rattle.hypervisor.specs.Act.{FrontAct, BackAct}
use Rattle.blk_front.specs.declared.state.FrontState.{FrontState}
use Rattle.blk_front.specs.declared.state.FrontState.TheVariants as enter
use Rattle.blk_front.specs.declared.state.Offers.{Offers}
use Rattle.blk_front.specs.State.{is_open}
use Rattle.blk_base.specs.declared.halt.Halt.{Halt}
use Rattle.xenbus_state.specs.declared.offer.Features.{Features}
use Rattle.xenbus_state.specs.declared.offer.DiskFacts.{DiskFacts}
use Rattle.xenbus_state.specs.Offer.{facts_of}
use Rattle.xenbus_state.specs.declared.state.BusState.{BusState}
use Rattle.xenbus_state.specs.declared.state.BusState.TheVariants as state
use Rattle.xenbus_state.specs.declared.stage.FrontBusStage.{FrontBusStage}
use Rattle.xenbus_state.specs.declared.stage.FrontBusStage.TheVariants as stage
use Rattle.xenbus_state.specs.declared.front.FrontBusAsk.{FrontBusAsk}
use Rattle.xenbus_state.specs.declared.front.FrontBusAsk.TheVariants as front_ask
use Rattle.xenbus_state.specs.declared.front.FrontNews.{FrontNews}
use Rattle.xenbus_state.specs.declared.front.FrontNews.TheVariants as news
use Rattle.xenbus_state.specs.FrontView.{FrontView, ring_order, suspended}
use Rattle.xenbus_state.specs.FrontAsk.{leaving, closing_stage, due, ask_of}
use Rattle.xenbus_state.specs.FrontStep.{at, news_at, news_of}
use Rattle.xenbus_state.specs.BackView.{BackView}
use Rattle.split_model.specs.World as rings
use Rattle.split_model.specs.Happening as ring
use Rattle.machine_pipeline.proofs.Holds.{AreOffered}
use Rattle.vbd_front.specs.View as front_view
use Rattle.vbd_front.specs.Step as front_step
use Rattle.vbd_back.specs.View.{offer}
use Rattle.vbd_model.specs.World.{World, start_of, frontend_of, backend_of}
use Rattle.vbd_model.specs.Happening.{Happening, FrontMoves, BackMoves, Closes, Suspends, front_turn, back_turn, entered_at, halted_at, back_bus_after, renewed_bus, front_bus, back_bus, does, happens, all_does}
use Rattle.vbd_model.specs.Fit.{FrontGoesWith, IsFit}
use Rattle.vbd_laws.proofs.FitBackKept.{Facts, facts_in, facts_stepped, facts_closed}
use Rattle.vbd_laws.proofs.FitFrontTerms.{Found, found, found_told}
use Rattle.vbd_laws.proofs.ServedFront.{IsNewsAt, news_is}
use Rattle.vbd_laws.proofs.ServedPossible.{Stands, stands_start, stands_on}
use Rattle.vbd_laws.proofs.MovesTurns.{front_cases, back_cases}
use Rattle.refusal_laws.proofs.DiskKeys.{IsDiskSaid}
use Rattle.refusal_laws.proofs.DiskSaid.{IsLate, Goes}
use Rattle.refusal_laws.proofs.DiskTold.{Then, then_on, IsSuspend, goes_start, suspends_goes}
use Rattle.refusal_laws.proofs.DiskLearning.{IsDiskKnown, DiskAt, known_on, due_knows as due_knows_disk, closed_knows as closed_knows_disk, suspended_knows as suspended_knows_disk, over_knows as over_knows_disk, Knows as KnownBy}
use Rattle.refusal_laws.proofs.DiskKnown.{Late, Said, KnowsDisk, front_knows as front_knows_disk}
use Rattle.refusal_laws.proofs.Learning.{AreKnown, KnowsAt, Knows, due_knows, closed_knows, suspended_knows, front_knows}
use Rattle.vbd_laws.proofs.NegotiatedAgreed.{connecting}

-- a state that the front enters, where it is connected, says what the options have the back serve
abbrev IsKnowing : Options → FrontState → Type 0
IsKnowing config (enter.Connected offers) = AreOffered config offers
IsKnowing config s = Unit {0}

abbrev pub IsServing : Options → ring.Happening → Type 0
IsServing config (ring.FrontEnters s) = IsKnowing config s
IsServing config h = Unit {0}

abbrev pub AreServing : Options → List ring.Happening → Type 0
AreServing config hs = AllByRecursion (IsServing config) hs

-- the machine is fit, its back offers what the options say on the disk that they say, as its keys say, and its front has read so much of that
pub record Serves (config : Options) (w : World) : Type 0 where
  pub stands : Stands w
  pub features : w.back.features ≡ offer config.read_only config.indirect
  pub disk : w.back.disk ≡ facts_of config
  pub goes : Goes w
  pub knows : Knows w.back.features w.front
  pub disk_known : KnowsDisk w w.front

-- a front that is connected has a port, and was told that its state was written
ready_done : (v : FrontView) (idle : Bool) (x : FrontAnswer) → news_at (stage.WriteState state.Connected) v idle x ≡ Some news.Ready → x ≡ answer.Done
ready_done v idle answer.Done e = refl
ready_done v idle x e = absurd (none-some news.Ready e)

module _ (config : Options) (w : World) (h : Serves config w) where
  abbrev idle : Bool
  idle = front_view.is_unoccupied w.rings.front

  fit : IsFit w
  fit = let stands = h.stands in stands.fit

  ready_knows : (a : FrontAct) → news_of w.front idle a.answer ≡ Some news.Ready → AreOffered config (front_step.offers_of (front_step.bus_after (frontend_of w) a.answer))
  ready_knows a e = record {
    sectors = ap (λ (t : Found). t.1.sectors) same ∙ (disk.0 ∙ ap (λ (r : DiskFacts). r.sectors) h.disk);
    read_only = ap (λ (t : Found). t.1.read_only) same ∙ (disk.1 ∙ ap (λ (r : DiskFacts). r.read_only) h.disk);
    barrier = ap (λ (t : Found). t.0.barrier) same ∙ (known.barrier ∙ ap (λ (r : Features). r.barrier) h.features);
    flush = ap (λ (t : Found). t.0.flush) same ∙ (known.flush ∙ ap (λ (r : Features). r.flush) h.features);
    discard = ap (λ (t : Found). t.0.discard) same ∙ (known.discard ∙ ap (λ (r : Features). r.discard) h.features);
    indirect = ap (λ (t : Found). t.0.indirect) same ∙ (known.indirect ∙ ap (λ (r : Features). r.indirect) h.features);
  }
    where
      here : due w.front idle ≡ stage.WriteState state.Connected
      here = subst (IsNewsAt (due w.front idle)) e (news_is w.front idle a.answer)

      done : a.answer ≡ answer.Done
      done = ready_done (at (due w.front idle) w.front) idle a.answer (subst (λ (d : FrontBusStage). news_at d (at (due w.front idle) w.front) idle a.answer ≡ Some news.Ready) here e)

      same : found (front_step.bus_after (frontend_of w) a.answer) ≡ found w.front
      same = ap (λ (x : FrontAnswer). found (front_step.bus_after (frontend_of w) x)) done ∙ found_told w.front idle

      disk : IsDiskKnown w.front.disk w.back.disk
      disk = subst (λ (d : FrontBusStage). DiskAt (Late w) (Said w) w.back.disk d w.front.disk) here (due_knows_disk (Late w) (Said w) w.back.disk w.front idle h.disk_known)

      goes : FrontGoesWith (stage.WriteState state.Connected) w.front w.rings.front.stage
      goes = subst (λ (d : FrontBusStage). FrontGoesWith d w.front w.rings.front.stage) (connecting w.front idle here) fit.front

      known : AreKnown w.front.features w.back.features
      known = subst (λ (d : FrontBusStage). KnowsAt w.back.features d w.front.features w.front.port) here (due_knows w.back.features w.front idle h.knows) goes.2

  due_know : (b : FrontBusAsk) (order : ℕ) → AllByRecursion (IsKnowing config) (front_step.states_due b order)
  due_know (front_ask.WriteRingWord word) order = (tt, tt)
  due_know (front_ask.EndGrant page) order = (tt, tt)
  due_know b order = tt

  news_know : (offers : Offers) (n : Option FrontNews) (b : FrontBusAsk) (order : ℕ) → (n ≡ Some news.Ready → AreOffered config offers) → AllByRecursion (IsKnowing config) (front_step.states_entered offers n b order)
  news_know offers None b order ready = due_know b order
  news_know offers (Some news.Ready) b order ready = (ready refl, due_know b order)
  news_know offers (Some other) b order ready = (tt, due_know b order)

  entered_know : (act : Option FrontAct) → AllByRecursion (IsKnowing config) (entered_at w act)
  entered_know None = tt
  entered_know (Some a) =
      news_know (front_step.offers_of (front_step.bus_after (frontend_of w) a.answer)) (news_of w.front idle a.answer) (ask_of (front_step.bus_after (frontend_of w) a.answer) idle) (ring_order (front_step.bus_after (frontend_of w) a.answer)) (ready_knows a)

  states_serve : (states : List FrontState) → AllByRecursion (IsKnowing config) states → AreServing config (map ring.FrontEnters states)
  states_serve [] all = tt
  states_serve (s ∷ states) all = (all.0, states_serve states all.1)

  halts_serve : (reasons : List Halt) → AreServing config (map ring.BackHalts reasons)
  halts_serve [] = tt
  halts_serve (why ∷ reasons) = (tt, halts_serve reasons)

  does_serve : (h : Happening) → AreServing config (does w h)
  does_serve FrontMoves = front_cases (λ does asked step. AreServing config does) w (λ says. (tt, states_serve (entered_at w (front_turn w)) (entered_know (front_turn w)))) (λ quiet moves. (tt, tt)) (λ quiet still. (tt, tt))
  does_serve BackMoves = back_cases (λ does asked step. AreServing config does) w (λ says untaken. (tt, halts_serve (halted_at w (back_turn w)))) (λ says takes. (tt, tt)) (λ quiet moves. (tt, tt)) (λ quiet still. (tt, tt))
  does_serve (Closes end.Front) = (tt, tt)
  does_serve (Closes end.Back) = tt
  does_serve h = (tt, tt)

  -- what the back offers stays, and so does its disk
  moved_facts : (act : Option BackAct) → facts_in (back_bus_after w act) ≡ facts_in w.back
  moved_facts None = refl
  moved_facts (Some a) = facts_stepped (backend_of w) a.answer

  renewed_facts : (may opened : Bool) → facts_in (if may then renewed_bus opened w.back else w.back) ≡ facts_in w.back
  renewed_facts true true = refl
  renewed_facts true false = refl
  renewed_facts false opened = refl

  facts_kept : (h : Happening) → facts_in (back_bus w h) ≡ facts_in w.back
  facts_kept BackMoves = moved_facts (back_turn w)
  facts_kept (Closes end.Front) = refl
  facts_kept (Closes end.Back) = facts_closed w.back
  facts_kept Suspends = renewed_facts (rings.may_suspend w.rings) (is_open w.rings.front.stage)
  facts_kept h = refl

  features_kept : (h : Happening) → (let v : BackView = back_bus w h in v.features) ≡ w.back.features
  features_kept h = ap (λ (t : Facts). t.0) (facts_kept h)

  disk_kept : (h : Happening) → (let v : BackView = back_bus w h in v.disk) ≡ w.back.disk
  disk_kept h = ap (λ (t : Facts). t.1) (facts_kept h)

  -- and what the front has read of it
  suspends_knows : (b : Bool) → Knows w.back.features (if b then suspended w.front else w.front)
  suspends_knows true = suspended_knows w.back.features w.front h.knows
  suspends_knows false = h.knows

  knows_kept : (g : Happening) → Knows w.back.features (front_bus w g)
  knows_kept FrontMoves = front_knows w (front_turn w) fit h.knows refl
  knows_kept (Closes end.Front) = closed_knows w.back.features w.front h.knows
  knows_kept (Closes end.Back) = h.knows
  knows_kept Suspends = suspends_knows (rings.may_suspend w.rings && is_open w.rings.front.stage)
  knows_kept g = h.knows

  -- so is what it has read of the disk
  disk_on : (g : Happening) → (IsSuspend g → ⊥) → KnowsDisk w (front_bus w g)
  disk_on FrontMoves other = front_knows_disk w (front_turn w) fit h.goes h.stands.back.sectors h.disk_known refl
  disk_on (Closes end.Front) other = closed_knows_disk (Late w) (Said w) w.back.disk w.front h.disk_known
  disk_on (Closes end.Back) other = h.disk_known
  disk_on Suspends other = absurd (other tt)
  disk_on g other = h.disk_known

  -- after a suspend nothing is read
  abbrev KnownIn : rings.World → BackView → FrontView → Type 0
  KnownIn r b u = KnownBy (IsLate b.state) (IsDiskSaid b.features b.disk r.under.keys) b.disk u

  suspended_known : KnowsDisk (happens w Suspends) (front_bus w Suspends)
  suspended_known = by_may (rings.may_suspend w.rings)
    where
      by_open : (r : rings.World) (b : BackView) (o : Bool) → is_open w.rings.front.stage ≡ o → KnownIn r b (if o then suspended w.front else w.front)
      by_open r b true opened = suspended_knows_disk (IsLate b.state) (IsDiskSaid b.features b.disk r.under.keys) b.disk w.front
      by_open r b false over = over_knows_disk (IsLate b.state) (IsDiskSaid b.features b.disk r.under.keys) b.disk w.front.stage w.front w.rings.front.stage fit.front over

      by_may : (may : Bool) → KnownIn (if may then rings.suspended w.rings else w.rings) (if may then renewed_bus (is_open w.rings.front.stage) w.back else w.back) (if may && is_open w.rings.front.stage then suspended w.front else w.front)
      by_may true = by_open (rings.suspended w.rings) (renewed_bus (is_open w.rings.front.stage) w.back) (is_open w.rings.front.stage) refl
      by_may false = h.disk_known

  then_known : (g : Happening) → (IsSuspend g → ⊥) → Then w (happens w g) → KnowsDisk (happens w g) (front_bus w g)
  then_known g other next =
      let v : World = happens w g in
      subst (λ (e : DiskFacts). DiskAt (Late v) (Said v) e (front_bus w g).stage (front_bus w g).disk) (sym (disk_kept g))
      (known_on (Late w) (Said w) (Late v) (Said v) w.back.disk next.later next.said (front_bus w g).stage (front_bus w g).disk (disk_on g other))

  serves_with : (g : Happening) → Goes (happens w g) → KnowsDisk (happens w g) (front_bus w g) → Serves config (happens w g)
  serves_with g goes known = record {
    stands = stands_on w g h.stands;
    features = features_kept g ∙ h.features;
    disk = disk_kept g ∙ h.disk;
    goes = goes;
    knows = subst (λ (f : Features). Knows f (front_bus w g)) (sym (features_kept g)) (knows_kept g);
    disk_known = known;
  }

  other_on : (g : Happening) → (IsSuspend g → ⊥) → Serves config (happens w g)
  other_on g other = let next = then_on w g other fit h.goes in serves_with g next.goes (then_known g other next)

  serves_on : (g : Happening) → Serves config (happens w g)
  serves_on Suspends = serves_with Suspends (suspends_goes w h.goes) suspended_known
  serves_on g = other_on g (λ is. is)

serves_start : (config : Options) → AreOptions config → Serves config (start_of config)
serves_start config are = record { stands = stands_start config are; features = refl; disk = refl; goes = goes_start config; knows = λ some. absurd (true≢false (sym some)); disk_known = tt }

both_serve : (config : Options) (a b : List ring.Happening) → AreServing config a → AreServing config b → AreServing config (a ++ b)
both_serve config [] b p q = q
both_serve config (h ∷ a) b p q = (p.0, both_serve config a b p.1 q)

all_serve : (config : Options) (hs : List Happening) (w : World) → Serves config w → AreServing config (all_does hs w)
all_serve config [] w h = tt
all_serve config (g ∷ hs) w h = both_serve config (does w g) (all_does hs (happens w g)) (does_serve config w h g) (all_serve config hs (happens w g) (serves_on config w h g))

pub machine_serves : (config : Options) (hs : List Happening) → AreOptions config → AreServing config (all_does hs (start_of config))
machine_serves config hs are = all_serve config hs (start_of config) (serves_start config are)
