-- A front that was closed as the domain was suspended: the new back has halted, the directory says that both are closed, and nothing follows.
use Rattle.std.proofs.Common.{◌⊎◌, inl, inr, ◌≡◌, ◌∙◌, ap, sym, subst, refl, ℕ, ◌&&◌, ◌||◌, Bool, true, false, true≢false, if◌then◌else◌, List, [], arith, ◌∷◌}
use Rattle.std.specs.Prelude.{Option, Some, None, is_some, codes}
use Rattle.std.proofs.lemmas.Fmt.{decimal_digit}
use Rattle.std.proofs.Math.Bool.{and-false}
use Rattle.blk_base.specs.declared.parts.End.{End}
use Rattle.blk_base.specs.declared.parts.End.TheVariants as end
use Rattle.blk_base.specs.declared.moves.BackMover.TheVariants as back_mover
use Rattle.blk_base.specs.declared.ask.FrontAsk.TheVariants as front_ask
use Rattle.blk_base.specs.declared.ask.BackAsk.{BackAsk}
use Rattle.blk_base.specs.declared.ask.BackAsk.TheVariants as back_ask
use Rattle.event_channel.specs.Channels.{ChannelState, sent, reset}
use Rattle.key_directory.specs.Watches.{next_watch, has_pending}
use Rattle.key_directory.specs.Directory.{Directory, fresh_directory, key_of}
use Rattle.hypervisor.specs.Hypervisor.{Hypervisor}
use Rattle.hypervisor.specs.Act.{BackAct, Outcome, Took, front_act, back_act, front_watched, back_watched, watch_next, has_to_take}
use Rattle.hypervisor.specs.Suspend.{suspended as under_suspended}
use Rattle.back_jobs.specs.Jobs.{ask_job}
use Rattle.blk_front.specs.declared.stage.FrontStage.{FrontStage}
use Rattle.blk_front.specs.declared.stage.FrontStage.TheVariants as front_ring
use Rattle.blk_front.specs.Ask as front_ring_ask
use Rattle.blk_front.specs.State.{is_open, is_made, is_bare}
use Rattle.blk_front.specs.Submit as front_submit
use Rattle.blk_front.specs.Submit.{is_ready, is_connected}
use Rattle.blk_front.specs.Suspend.{is_left, resumed}
use Rattle.blk_back.specs.declared.stage.BackStage.{BackStage}
use Rattle.blk_back.specs.declared.stage.BackStage.TheVariants as ring
use Rattle.blk_back.specs.Ask as ring_ask
use Rattle.xenbus_state.specs.declared.state.BusState.{BusState}
use Rattle.xenbus_state.specs.declared.state.BusState.TheVariants as state
use Rattle.xenbus_state.specs.declared.stage.FrontBusStage.{FrontBusStage}
use Rattle.xenbus_state.specs.declared.stage.FrontBusStage.TheVariants as bus
use Rattle.xenbus_state.specs.declared.stage.BackBusStage.{BackBusStage}
use Rattle.xenbus_state.specs.declared.stage.BackBusStage.TheVariants as back_bus
use Rattle.xenbus_state.specs.declared.front.FrontBusAsk.{FrontBusAsk}
use Rattle.xenbus_state.specs.declared.front.FrontBusAsk.TheVariants as front_bus_ask
use Rattle.xenbus_state.specs.declared.back.BackBusAsk.{BackBusAsk}
use Rattle.xenbus_state.specs.declared.back.BackBusAsk.TheVariants as back_bus_ask
use Rattle.xenbus_state.specs.FrontView.{FrontView, is_broken, closed, suspended as front_suspended}
use Rattle.xenbus_state.specs.FrontAsk as front_bus
use Rattle.xenbus_state.specs.BackView.{BackView, is_halting, unplugged}
use Rattle.xenbus_state.specs.BackAsk as back_buses
use Rattle.split_model.specs.World as rings
use Rattle.split_model.specs.Happening as ring_happening
use Rattle.split_model.proofs.Suspending.{begun_back}
use Rattle.split_model.proofs.Outside.{IsOutside, AreSent, LeavesEnds, leaves_ends}
use Rattle.blk_back.specs.View.{View as RingView}
use Rattle.split_model.proofs.SafeActs.{front_event, back_event}
use Rattle.machine_pipeline.specs.Allowed as ring_allowed
use Rattle.negotiation_laws.specs.Negotiation.{front_state, back_state, state_text}
use Rattle.vbd_front.specs.View as front_view
use Rattle.vbd_front.specs.Ask as front
use Rattle.vbd_back.specs.Ask as back
use Rattle.vbd_model.specs.World.{World, frontend_of, backend_of}
use Rattle.vbd_model.specs.Happening.{Happening, FrontMoves, BackMoves, JobMoves, Closes, Submits, Pokes, OverwritesKey, Suspends, front_turn, back_turn, front_does, back_does, renewed_bus, does, front_bus, back_bus, happens}
use Rattle.vbd_model.specs.Possible.{IsPossible}
use Rattle.vbd_model.specs.Fit.{IsEndingPage, FrontRests, IsGranting, IsUnbegun, FrontGoesWith, BackGoesWith, IsFit}
use Rattle.vbd_laws.specs.Moves.{IsNoMove}
use Rattle.vbd_laws.specs.Quiet.{IsUntouched, StatesAgree}
use Rattle.vbd_laws.proofs.MovesTurns.{front_asks, back_asks, front_cases, back_cases}
use Rattle.vbd_laws.proofs.MovesFront.{front_move_none}
use Rattle.vbd_laws.proofs.MovesBack.{back_move_none}
use Rattle.vbd_laws.proofs.ServedPossible.{served_by}

-- the front is closed, and the back has halted and holds no job; the directory has their states alone, no port is there, and no event is pending
pub record IsGone (w : World) : Type 0 where
  pub front : w.front.stage ≡ bus.Closed
  pub back : w.back.stage ≡ back_bus.Halted
  pub no_job : w.rings.back.jobs.works ≡ []
  pub keys : w.rings.under.keys ≡ fresh_directory (codes "6")
  pub channels : w.rings.under.channels ≡ reset w.rings.under.channels

-- a front whose end of the ring isn't broken is open, or its negotiation is closed
open_by : (is_such : FrontStage → Bool) → is_such front_ring.Closed ≡ false → ((word : ℕ) → is_such (front_ring.Broken word) ≡ false) → (r : FrontStage) → is_such r ≡ true → is_open r ≡ true
open_by is_such closed broken front_ring.Closed is = absurd (true≢false (sym is ∙ closed))
open_by is_such closed broken (front_ring.Broken word) is = absurd (true≢false (sym is ∙ broken word))
open_by is_such closed broken r is = refl

ending_open : (page : ℕ) (r : FrontStage) → IsEndingPage page r → is_open r ≡ true
ending_open page (front_ring.RingRead k) fits = refl
ending_open page (front_ring.RingEnd k seen) fits = refl
ending_open page r fits = absurd fits

granting_open : (page : ℕ) (r : FrontStage) → IsGranting page r → is_open r ≡ true
granting_open page (front_ring.RingFrame k) fits = refl
granting_open page (front_ring.RingFence k) fits = refl
granting_open page (front_ring.RingFlags k) fits = refl
granting_open page r fits = absurd fits

rests_open : (own : BusState) (gone : Bool) (port : Option ℕ) (r : FrontStage) → FrontRests own gone port r → is_open r ≡ true
rests_open state.Initialising gone port r fits = ap is_open fits.0
rests_open state.Initialised gone port r fits = ap is_open fits.0
rests_open state.Connected gone port r fits = open_by is_ready refl (λ word. refl) r fits.0
rests_open state.Closing false None r fits = ap is_open fits
rests_open state.Closing false (Some p) r fits = open_by is_made refl (λ word. refl) r fits
rests_open state.Closing true (Some p) r fits = ending_open 0 r fits
rests_open state.Closing true None r fits = absurd fits
rests_open own gone port r fits = absurd fits

unbegun_open : (r : FrontStage) → IsUnbegun r → is_open r ≡ true
unbegun_open r (inl begins) = ap is_open begins
unbegun_open r (inr left) = open_by is_left refl (λ word. refl) r left

open_at : (s : FrontBusStage) (v : FrontView) (r : FrontStage) → FrontGoesWith s v r → front_view.is_broken r ≡ false → (s ≡ bus.Closed) ⊎ (is_open r ≡ true)
open_at bus.Start v r fits whole = inr (unbegun_open r fits.1)
open_at bus.Rest v r (inl fits) whole = inr (rests_open v.state v.gone v.port r fits)
open_at bus.Rest v r (inr broken) whole = absurd (true≢false (sym broken ∙ whole))
open_at bus.ReadState v r fits whole = inr (rests_open v.state v.gone v.port r fits)
open_at (bus.ReadFeature key) v r fits whole = inr (ap is_open fits.1)
open_at (bus.RingWord word) v r fits whole = inr (ap is_open fits.2)
open_at (bus.Grant page) v r fits whole = inr (granting_open page r fits.1)
open_at bus.NewPort v r fits whole = inr (ap is_open fits.1)
open_at (bus.Publish key) v r fits whole = inr (ap is_open fits.1)
open_at (bus.ReadFact key) v r fits whole = inr (ap is_open fits.1)
open_at (bus.WriteState state.Initialised) v r fits whole = inr (ap is_open fits.1)
open_at (bus.WriteState state.Connected) v r fits whole = inr (ap is_open fits.1)
open_at (bus.WriteState state.Closed) v r fits whole = inr (open_by is_bare refl (λ word. refl) r fits.1)
open_at (bus.WriteState own) v r fits whole = absurd fits
open_at (bus.EndGrant page) v r fits whole = elim fits.1 [ inl ending ↦ inr (ending_open page r ending) | inr broken ↦ absurd (true≢false (sym broken ∙ whole)) ]
open_at bus.ClosePort v r fits whole = inr (ap is_open fits.1)
open_at bus.Closed v r fits whole = inl refl
open_at (bus.Broken word) v r fits whole = absurd (true≢false (sym fits ∙ whole))
open_at s v r fits whole = absurd fits

closed_at : (w : World) → IsFit w → is_open w.rings.front.stage ≡ false → front_view.is_broken w.rings.front.stage ≡ false → w.front.stage ≡ bus.Closed
closed_at w fit over whole = elim (open_at w.front.stage w.front w.rings.front.stage fit.front whole) [ inl is ↦ is | inr opened ↦ absurd (true≢false (sym opened ∙ over)) ]

-- so it is as the domain is suspended
pub gone_begins : (w : World) → IsFit w → rings.may_suspend w.rings ≡ true → is_open w.rings.front.stage ≡ false → front_view.is_broken w.rings.front.stage ≡ false → IsGone (happens w Suspends)
gone_begins w fit may over whole = by_may (rings.may_suspend w.rings) may
  where
    by_open : (o : Bool) → is_open w.rings.front.stage ≡ o → IsGone (record {
      rings = record {
        front = if o then resumed w.rings.front else w.rings.front;
        back = rings.back_for o (begun_back w.rings);
        under = under_suspended (rings.state_after o) w.rings.under;
      };
      front = if o then front_suspended w.front else w.front;
      back = renewed_bus o w.back;
    })
    by_open true e = absurd (true≢false (sym e ∙ over))
    by_open false e = record { front = closed_at w fit over whole; back = refl; no_job = refl; keys = refl; channels = refl }

    by_may : (m : Bool) → m ≡ true → IsGone (record {
      rings = if m then rings.suspended w.rings else w.rings;
      front = if m && is_open w.rings.front.stage then front_suspended w.front else w.front;
      back = if m then renewed_bus (is_open w.rings.front.stage) w.back else w.back;
    })
    by_may true is = by_open (is_open w.rings.front.stage) refl
    by_may false is = absurd (true≢false (sym is))

module _ (w : World) (fit : IsFit w) (gone : IsGone w) where
  -- the ends of the ring, and both states
  goes : (w.front.state ≡ state.Closed) × (w.rings.front.stage ≡ front_ring.Closed) × (w.front.closing ≡ true)
  goes = subst (λ (s : FrontBusStage). FrontGoesWith s w.front w.rings.front.stage) gone.front fit.front

  halts : (w.back.state ≡ state.Closed) × (w.rings.back.stage ≡ ring.Halted)
  halts = subst (λ (s : BackBusStage). BackGoesWith s w.back.state w.rings.back.stage) gone.back fit.back

  halted : is_some w.rings.back.halted ≡ true
  halted = fit.halted ∙ ap is_halting gone.back

  -- nothing is pending
  front_pending : w.rings.under.channels.front_pending ≡ false
  front_pending = ap (λ (c : ChannelState). c.front_pending) gone.channels

  back_pending : w.rings.under.channels.back_pending ≡ false
  back_pending = ap (λ (c : ChannelState). c.back_pending) gone.channels

  front_taken : has_to_take w.rings.under end.Front ≡ false
  front_taken = ap (λ (b : Bool). b || has_pending w.rings.under.keys.front) front_pending ∙ ap (λ (d : Directory). has_pending d.front) gone.keys

  back_taken : has_to_take w.rings.under end.Back ≡ false
  back_taken = ap (λ (b : Bool). b || has_pending w.rings.under.keys.back) back_pending ∙ ap (λ (d : Directory). has_pending d.back) gone.keys

  -- both negotiations wait, and so do the ends of the ring
  front_rests : front_asks w ≡ front_bus_ask.Wait
  front_rests =
      let idle : Bool = front_view.is_unoccupied w.rings.front in
      ap (λ (left : Bool). if left then front_bus_ask.Wait else front_bus.ask_of w.front idle) (ap is_left goes.1)
      ∙ ap (λ (s : FrontBusStage). front_bus.ask_at (front_bus.due_at s w.front idle) w.front) gone.front

  back_rests : back_asks w ≡ back_bus_ask.Wait
  back_rests =
      ap (λ (b : Bool). if b then back_bus_ask.SetState state.Closing else back_buses.ask_at w.back.stage w.back)
      (ap (λ (s : BackBusStage). w.back.unplugged && back_buses.says_closing_at s w.back.state) gone.back ∙ and-false w.back.unplugged)
      ∙ ap (λ (s : BackBusStage). back_buses.ask_at s w.back) gone.back

  front_moves : front.ring_moves (front_asks w) w.rings.front.stage ≡ true
  front_moves = ap (λ (b : FrontBusAsk). front.ring_moves b w.rings.front.stage) front_rests ∙ ap (λ (s : FrontStage). front.ring_moves front_bus_ask.Wait s) goes.1

  back_moves : back.ring_moves (back_asks w) w.rings.back.stage ≡ true
  back_moves = ap (λ (b : BackBusAsk). back.ring_moves b w.rings.back.stage) back_rests ∙ ap (λ (s : BackStage). back.ring_moves back_bus_ask.Wait s) halts.1

  front_waits : front.ask_of (frontend_of w) ≡ front_ask.Wait
  front_waits =
      ap (λ (b : FrontBusAsk). front.ask_at b (frontend_of w)) front_rests
      ∙ (ap (λ (s : FrontStage). front.ring_ask (front.ring_moves front_bus_ask.Wait s) (frontend_of w)) goes.1 ∙ ap (λ (s : FrontStage). front_ring_ask.ask_at s w.rings.front) goes.1)

  back_waits : back.ask_of (backend_of w) ≡ back_ask.Wait
  back_waits =
      ap (λ (b : BackBusAsk). back.ask_at b (backend_of w)) back_rests
      ∙ (ap (λ (s : BackStage). back.ring_ask (back.ring_moves back_bus_ask.Wait s) (backend_of w)) halts.1 ∙ ap (λ (s : BackStage). ring_ask.ask_at s w.rings.back) halts.1)

  -- so neither moves
  front_still : front_turn w ≡ None
  front_still =
      let h : Hypervisor = w.rings.under in
      ap (front_act h) front_waits
      ∙ (ap (λ (b : Bool). if b then Some (front_event h) else front_watched h (watch_next h end.Front)) front_pending ∙ ap (λ (d : Directory). front_watched h (next_watch d.front)) gone.keys)

  back_still : back_turn w ≡ None
  back_still =
      let h : Hypervisor = w.rings.under in
      ap (λ (a : BackAsk). back_act h back_mover.Back a Took) back_waits
      ∙ (ap (λ (b : Bool). if b then Some (back_event h) else back_watched h (watch_next h end.Back)) back_pending ∙ ap (λ (d : Directory). back_watched h (next_watch d.back)) gone.keys)

  job_still : (number : ℕ) (o : Outcome) → ring_happening.job_turn w.rings number o ≡ None
  job_still number o = ap (λ (b : Bool). back_act w.rings.under (back_mover.Job number) (if b then back_ask.Wait else ask_job w.rings.back.jobs number) o) halted

  -- an event that is sent comes at no port
  sent_still : (now : ChannelState) → AreSent w.rings.under.channels now → now ≡ reset now
  sent_still now (inl same) = rw same gone.channels
  sent_still now (inr (from, same)) = rw same (subst (λ (c : ChannelState). sent c from ≡ reset (sent c from)) (sym gone.channels) (by_end from))
    where
      by_end : (e : End) → (let c : ChannelState = reset w.rings.under.channels in sent c e ≡ reset (sent c e))
      by_end end.Front = refl
      by_end end.Back = refl

  -- so is it with what happens outside the ends
  gone_beside : (h : Happening) (x : ring_happening.Happening) → does w h ≡ x ∷ [] → front_bus w h ≡ w.front → back_bus w h ≡ w.back → IsOutside x
      → (let r : rings.World = ring_happening.happens w.rings x in r.under.keys) ≡ w.rings.under.keys → IsGone (happens w h)
  gone_beside h x one front back outside keys =
      let left : LeavesEnds w.rings (ring_happening.happens w.rings x) = leaves_ends w.rings x outside in
      record {
        front = rw front gone.front;
        back = rw back gone.back;
        no_job = rw one (ap (λ (b : RingView). b.jobs.works) left.back ∙ gone.no_job);
        keys = rw one (keys ∙ gone.keys);
        channels = rw one (sent_still _ left.channels);
      }

  closed_still : (closed w.front).stage ≡ bus.Closed
  closed_still = by_test (w.front.closing || is_broken w.front.stage)
    where
      by_test : (b : Bool) → (let v : FrontView = if b then w.front else record w.front { closing = true } in v.stage ≡ bus.Closed)
      by_test true = gone.front
      by_test false = gone.front

  unplugged_still : (unplugged w.back).stage ≡ back_bus.Halted
  unplugged_still = by_test (is_halting w.back.stage)
    where
      by_test : (b : Bool) → (let v : BackView = if b then w.back else record w.back { unplugged = true } in v.stage ≡ back_bus.Halted)
      by_test true = gone.back
      by_test false = gone.back

  suspends : IsGone (happens w Suspends)
  suspends = by_may (rings.may_suspend w.rings) refl
    where
      over : is_open w.rings.front.stage ≡ false
      over = ap is_open goes.1

      by_may : (may : Bool) → rings.may_suspend w.rings ≡ may → IsGone (happens w Suspends)
      by_may true may = gone_begins w fit may over (ap front_view.is_broken goes.1)
      by_may false may =
          subst (λ (m : Bool). IsGone (record {
            rings = if m then rings.suspended w.rings else w.rings;
            front = if m && is_open w.rings.front.stage then front_suspended w.front else w.front;
            back = if m then renewed_bus (is_open w.rings.front.stage) w.back else w.back;
          })) (sym may) gone

  -- and so it stays
  pub gone_on : (h : Happening) → IsUntouched h → IsGone (happens w h)
  gone_on FrontMoves untouched = let still : IsNoMove w FrontMoves = front_move_none w fit front_still in subst IsGone (sym still.world) gone
  gone_on BackMoves untouched = let still : IsNoMove w BackMoves = back_move_none w fit back_still in subst IsGone (sym still.world) gone
  gone_on (JobMoves number outcome) untouched =
      subst (λ (act : Option BackAct). IsGone (record { rings = ring_happening.job_after w.rings number act; front = w.front; back = w.back })) (sym (job_still number outcome)) gone
  gone_on (Closes end.Front) untouched = record { front = closed_still; back = gone.back; no_job = gone.no_job; keys = gone.keys; channels = gone.channels }
  gone_on (Closes end.Back) untouched = record { front = gone.front; back = unplugged_still; no_job = gone.no_job; keys = gone.keys; channels = gone.channels }
  gone_on (Submits job) untouched = record { front = gone.front; back = gone.back; no_job = gone.no_job; keys = gone.keys; channels = gone.channels }
  gone_on (Pokes frame word value) untouched = absurd untouched
  gone_on (OverwritesKey name text) untouched = absurd untouched
  gone_on Suspends untouched = suspends
  gone_on h untouched = gone_beside h _ refl refl refl tt refl

  -- all is quiet
  pub gone_quiet : rings.is_quiet w.rings ≡ true
  gone_quiet =
      let front_idle : front_submit.is_idle w.rings.front ≡ true = rw goes.1 refl in
      let back_idle : ring_ask.is_idle w.rings.back ≡ true = rw (halts.1, gone.no_job) refl in
      rw (front_idle, back_idle, front_taken, back_taken) refl

  -- what happens is served
  front_served : ring_allowed.AreServed (front_does w) w.rings
  front_served =
      front_cases (λ does asked step. ring_allowed.AreServed does w.rings) w (λ says. absurd (true≢false (sym says ∙ ap front.speaks front_rests))) (λ quiet moves. (λ e. ap is_connected goes.1, tt))
      (λ quiet still. absurd (true≢false (sym front_moves ∙ still)))

  back_quiet : back.bus_moves (back_asks w) w.rings.back.stage ≡ false
  back_quiet = ap (λ (b : BackBusAsk). back.bus_moves b w.rings.back.stage) back_rests

  back_served : ring_allowed.AreServed (back_does w) w.rings
  back_served =
      back_cases (λ does asked step. ring_allowed.AreServed does w.rings) w (λ says untaken. absurd (true≢false (sym says ∙ back_quiet))) (λ says takes. absurd (true≢false (sym says ∙ back_quiet)))
      (λ quiet moves. (λ e. absurd (true≢false (sym halted ∙ e)), tt)) (λ quiet still. absurd (true≢false (sym back_moves ∙ still)))

  pub gone_served : (h : Happening) → IsUntouched h → IsPossible w h → ring_allowed.AreServed (does w h) w.rings
  gone_served h untouched is = served_by w front_served back_served (λ rests. gone_quiet) h untouched is

  -- and both ends are closed, which the directory says
  six : Some (codes "6") ≡ Some (state_text state.Closed)
  six = ap (λ (text : List ℕ). Some text) (sym (decimal_digit 6 (omega arith)))

  pub gone_agrees : StatesAgree w
  gone_agrees = inr (
    record {
      front = goes.0;
      back = halts.0;
      front_said = ap (λ (d : Directory). key_of d.keys front_state) gone.keys ∙ six;
      back_said = ap (λ (d : Directory). key_of d.keys back_state) gone.keys ∙ six;
    },
    fit.closing (ap front_view.is_broken goes.1) ∙ goes.2,
  )
