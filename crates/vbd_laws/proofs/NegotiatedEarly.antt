-- Until the back has mapped the ring and has its terms the negotiation is a run of its own, in each epoch, and from then on the front's ring and port are made, or the back has halted: so it stays as the front moves, and as an end is asked to close.
use Rattle.std.proofs.Common.{◌⊎◌, inl, inr, ◌≡◌, ◌∙◌, ap, sym, subst, ℕ, ◌+◌, ◌%◌, ◌==◌, ◌^◌, Bool, true, false, true≢false, List, [], ◌∷◌, refl, if◌then◌else◌}
use Rattle.std.specs.Prelude.{Option, Some, None, is_some, nat_lt, slice_set}
use Rattle.std.specs.List.{AllByRecursion}
use Rattle.blk_base.specs.declared.parts.End.{End}
use Rattle.blk_base.specs.declared.parts.End.TheVariants as end
use Rattle.blk_base.specs.declared.ask.FrontAnswer.{FrontAnswer}
use Rattle.blk_base.specs.declared.ask.FrontAnswer.TheVariants as front_answer
use Rattle.schedule_text.specs.declared.line.Line.{Line}
use Rattle.hypervisor.specs.Act.{FrontAct, front_act}
use Rattle.blk_front.specs.declared.stage.FrontStage.{FrontStage}
use Rattle.blk_front.specs.declared.stage.FrontStage.TheVariants as front_ring
use Rattle.blk_front.specs.declared.stage.Ending.{Ending}
use Rattle.blk_front.specs.Request.{words_in}
use Rattle.blk_front.specs.declared.state.FrontState.{FrontState}
use Rattle.blk_front.specs.declared.state.FrontState.TheVariants as entered
use Rattle.blk_front.specs.State.{in_state, enters}
use Rattle.blk_front.specs.Submit.{is_connected}
use Rattle.blk_front.specs.View as front_ends
use Rattle.blk_front.specs.Step as front_ring_step
use Rattle.blk_back.specs.declared.stage.BackStage.{BackStage}
use Rattle.blk_back.specs.declared.stage.BackStage.TheVariants as ring
use Rattle.blk_back.specs.View as ring_view
use Rattle.xenbus_state.specs.declared.state.BusState.{BusState}
use Rattle.xenbus_state.specs.declared.state.BusState.TheVariants as state
use Rattle.xenbus_state.specs.declared.stage.BackBusStage.{BackBusStage}
use Rattle.xenbus_state.specs.declared.stage.BackBusStage.TheVariants as bus
use Rattle.xenbus_state.specs.declared.keys.FrontKey.TheVariants as key
use Rattle.xenbus_state.specs.Tables.{is_connected as bus_connected}
use Rattle.xenbus_state.specs.BackView.{BackView, unplugged}
use Rattle.event_channel.specs.Channels.{ChannelState, with_port, fresh_channels}
use Rattle.split_model.specs.Safe.{IsPorted}
use Rattle.split_model.proofs.SafeFront.{IsUnported, step_fits, entered_kept}
use Rattle.split_model.proofs.States.{is_unbound, enters_cases}
use Rattle.negotiation_laws.specs.Negotiation.{Negotiation}
use Rattle.negotiation_laws.specs.Laws.{IsHalted}
use Rattle.vbd_front.specs.View as front_view
use Rattle.vbd_front.specs.Step as front_step
use Rattle.vbd_model.specs.World.{World, frontend_of}
use Rattle.vbd_model.specs.Happening.{FrontMoves, Closes, front_turn, happens}
use Rattle.vbd_model.specs.Fit.{BackGoesWith, BackRests, BackReads, IsAborting, IsUnmapping, is_serving, IsFit}
use Rattle.negotiation_laws.proofs.Choices.{either, unplugged_cases}
use Rattle.vbd_laws.proofs.FitBackRing.{is_past}
use Rattle.vbd_laws.proofs.MovesTurns.{front_cases}
use Rattle.vbd_laws.proofs.NegotiatedRun.{Joined, negotiation_of, reached_as}
use Rattle.vbd_laws.proofs.NegotiatedFront.{HasInHand, front_goes}
use Rattle.vbd_laws.proofs.NegotiatedRests.{Rests, closes_joined}
use Rattle.vbd_laws.proofs.NegotiatedKept.{IsTimely, states_timely}
use Rattle.vbd_laws.proofs.MovesFront.{after_front_move, front_to}

-- the front's end of the ring before it is connected, and after a close of one that has no ring
abbrev pub is_early : FrontStage → Bool
is_early (front_ring.RingWord k) = true
is_early (front_ring.RingFrame page) = true
is_early (front_ring.RingFence page) = true
is_early (front_ring.RingFlags page) = true
is_early front_ring.NewPort = true
is_early front_ring.Initialised = true
is_early (front_ring.LeftData n) = true
is_early front_ring.Closed = true
is_early s = false

pub early_whole : (s : FrontStage) → is_early s ≡ true → front_view.is_broken s ≡ false
early_whole (front_ring.Broken word) is = absurd (true≢false (sym is))
early_whole s is = refl

-- before the back has mapped the ring
pub record Before (w : World) : Type 0 where
  pub joined : Joined w
  pub ring : is_unbound w.rings.back.stage ≡ true
  pub early : is_early w.rings.front.stage ≡ true

-- then it has mapped the ring and binds the port; or it has halted; or it is past that, and the front's ring and port are made
pub record Bound (r : ring_view.View) (v : BackView) (connected : Bool) : Type 0 where
  pub ring : r.stage ≡ ring.Bind
  pub stage : v.stage ≡ bus.Bind
  pub made : connected ≡ true

pub record Halted (r : ring_view.View) : Type 0 where
  pub ring : r.stage ≡ ring.Halted
  pub halted : is_some r.halted ≡ true

pub record Past (r : ring_view.View) (connected : Bool) : Type 0 where
  pub past : is_past r.stage ≡ true
  pub made : connected ≡ true

abbrev pub After : ring_view.View → BackView → Bool → Type 0
After r v connected = Bound r v connected ⊎ Halted r ⊎ Past r connected

abbrev pub IsOnItsWay : World → Type 0
IsOnItsWay w = Before w ⊎ After w.rings.back w.back (is_connected w.rings.front.stage)

pub after_at : (r s : ring_view.View) (u v : BackView) (c d : Bool) → s.stage ≡ r.stage → s.halted ≡ r.halted → v.stage ≡ u.stage → (c ≡ true → d ≡ true) → After r u c → After s v d
after_at r s u v c d at halt stage made (inl b) = inl (record { ring = at ∙ b.ring; stage = stage ∙ b.stage; made = made b.made })
after_at r s u v c d at halt stage made (inr (inl h)) = inr (inl (record { ring = at ∙ h.ring; halted = ap is_some halt ∙ h.halted }))
after_at r s u v c d at halt stage made (inr (inr p)) = inr (inr (record { past = ap is_past at ∙ p.past; made = made p.made }))

pub rests_way : (v w : World) → Rests v w → IsOnItsWay w → IsOnItsWay v
rests_way v w same (inl b) = inl (record { joined = reached_as (negotiation_of w) (negotiation_of v) same.bus b.joined; ring = ap is_unbound same.back ∙ b.ring; early = ap is_early same.front ∙ b.early })
rests_way v w same (inr a) =
    inr (after_at w.rings.back v.rings.back w.back v.back (is_connected w.rings.front.stage) (is_connected v.rings.front.stage) same.back same.halted (ap (λ (n : Negotiation). n.back.stage) same.bus)
    (λ made. ap is_connected same.front ∙ made) a)

-- while the back hasn't mapped the ring its front enters no state but that it closes, and that it is closed
elsewhere : {A : Type 0} (r s : BackStage) → is_unbound r ≡ true → is_unbound s ≡ false → r ≡ s → A
elsewhere r s early none e = absurd (true≢false (sym early ∙ (ap is_unbound e ∙ none)))

not_served : {A : Type 0} (r : BackStage) → is_unbound r ≡ true → is_serving r ≡ true → A
not_served ring.InitWait early is = absurd (true≢false (sym is))
not_served ring.MapRing early is = absurd (true≢false (sym is))
not_served r early is = absurd (true≢false (sym early))

not_aborting : {A : Type 0} (r : BackStage) → is_unbound r ≡ true → IsAborting r → A
not_aborting (ring.Abort m) early is = absurd (true≢false (sym early))
not_aborting r early is = absurd is

not_unmapped : {A : Type 0} (r : BackStage) → is_unbound r ≡ true → IsUnmapping r → A
not_unmapped ring.UnmapRing early is = absurd (true≢false (sym early))
not_unmapped ring.UnmapUnbound early is = absurd (true≢false (sym early))
not_unmapped r early is = absurd is

unconnected_rests : (own : BusState) (r : BackStage) → is_unbound r ≡ true → BackRests own r → bus_connected own ≡ true → ⊥
unconnected_rests state.Connected r early fits is = not_served r early fits
unconnected_rests state.Closing r early fits is = not_served r early fits
unconnected_rests own r early fits is = true≢false (sym is)

unconnected_reads : (own : BusState) (r : BackStage) → is_unbound r ≡ true → BackReads own r → bus_connected own ≡ true → ⊥
unconnected_reads state.Connected r early fits is = elsewhere r ring.Loop early refl fits
unconnected_reads state.Closing r early fits is = elsewhere r ring.Loop early refl fits
unconnected_reads own r early fits is = true≢false (sym is)

unlike : (own s : BusState) → own ≡ s → bus_connected s ≡ false → bus_connected own ≡ true → ⊥
unlike own s e none is = true≢false (sym is ∙ (ap bus_connected e ∙ none))

unconnected : (s : BackBusStage) (own : BusState) (r : BackStage) → is_unbound r ≡ true → BackGoesWith s own r → bus_connected own ≡ true → ⊥
unconnected (bus.Publish k) own r early fits is = unlike own state.Initialising fits.0 refl is
unconnected (bus.WriteState state.InitWait) own r early fits is = unlike own state.Initialising fits.0 refl is
unconnected (bus.WriteState state.Connected) own r early fits is = unlike own state.InitWait fits.0 refl is
unconnected (bus.WriteState state.Closing) own r early fits is = elsewhere r ring.Halted early refl fits
unconnected (bus.WriteState state.Closed) own r early fits is = elsewhere r ring.Halted early refl fits.1
unconnected (bus.WriteState s) own r early fits is = absurd fits
unconnected bus.Watch own r early fits is = unlike own state.InitWait fits.0 refl is
unconnected bus.Rest own r early fits is = unconnected_rests own r early fits is
unconnected bus.ReadState own r early fits is = unconnected_reads own r early fits is
unconnected (bus.ReadKey key.FeaturePersistent) own r early fits is = unlike own state.InitWait fits.0 refl is
unconnected (bus.ReadKey k) own r early fits is = unlike own state.InitWait fits.0 refl is
unconnected bus.MapPage own r early fits is = unlike own state.InitWait fits.0 refl is
unconnected bus.Bind own r early fits is = unlike own state.InitWait fits.0 refl is
unconnected (bus.PublishFact k) own r early fits is = unlike own state.InitWait fits.0 refl is
unconnected bus.UnmapOthers own r early fits is = not_aborting r early fits
unconnected bus.UnmapPage own r early fits is = not_unmapped r early fits
unconnected bus.ClosePort own r early fits is = elsewhere r ring.ClosePort early refl fits
unconnected bus.Halted own r early fits is = unlike own state.Closed fits.0 refl is

not_halted : (v : BackView) (r : BackStage) → is_unbound r ≡ true → BackGoesWith v.stage v.state r → IsHalted v → ⊥
not_halted v r early fits h = elsewhere r ring.Halted early refl (subst (λ (s : BackBusStage). BackGoesWith s v.state r) h.stage fits).1

enter_early : (w : World) → BackGoesWith w.back.stage w.back.state w.rings.back.stage → is_unbound w.rings.back.stage ≡ true → (states : List FrontState) (r : front_ends.View) → AllByRecursion (IsTimely w) states
    → is_early r.stage ≡ true → is_early (front_step.all_entered states r).stage ≡ true
enter_early w fits unbound [] r timely early = early
enter_early w fits unbound (s ∷ states) r timely early =
    enter_early w fits unbound states (enters s r) timely.1
    (enters_cases (λ (v : front_ends.View) (shown : List Line). is_early v.stage ≡ true) s r (λ may. by_state s timely.0) early)
  where
    by_state : (s : FrontState) → IsTimely w s → is_early (in_state s r).stage ≡ true
    by_state (entered.Connected offers) now = absurd (unconnected w.back.stage w.back.state w.rings.back.stage unbound fits now.0)
    by_state entered.Leaving now = absurd (not_halted w.back w.rings.back.stage unbound fits now)
    by_state entered.Closed now = refl
    by_state (entered.Broken word) now = absurd now
    by_state other now = early

left_early : (ending : Option Ending) (n word : ℕ) (r : front_ends.View) → r.stage ≡ front_ring.LeftData n → is_early (front_ring_step.left_step ending n word r).stage ≡ true
left_early None n word r here = ap is_early here
left_early (Some e) n word r here = by_more (nat_lt (n + 1) (words_in e.request))
  where
    told : front_ends.View
    told = front_ring_step.sector_told e n (slice_set r.words (n % 128) word) r

    by_more : (more : Bool) → (let v : front_ends.View = (if more then front_ring_step.at (front_ring.LeftData (n + 1)) told else front_ring_step.at (front_ring.RingWord 0) (front_ring_step.finished e told)) in is_early v.stage ≡ true)
    by_more true = refl
    by_more false = refl

step_early : (s : FrontStage) (r : front_ends.View) (x : FrontAnswer) → r.stage ≡ s → is_early s ≡ true → is_early (front_ring_step.step_at s r x).stage ≡ true
step_early (front_ring.RingWord k) r x here early = either (λ (one : FrontStage). is_early one ≡ true) (k == 15) (front_ring.RingFrame 0) (front_ring.RingWord (k + 1)) refl refl
step_early (front_ring.RingFrame page) r x here early = refl
step_early (front_ring.RingFence page) r x here early = refl
step_early (front_ring.RingFlags page) r x here early = either (λ (one : FrontStage). is_early one ≡ true) (nat_lt (page + 1) (2 ^ r.shape.order)) (front_ring.RingFrame (page + 1)) front_ring.NewPort refl refl
step_early front_ring.NewPort r x here early = refl
step_early (front_ring.LeftData n) r (front_answer.Word word) here early = left_early r.ending n word r here
step_early (front_ring.LeftData n) r x here early = ap is_early here
step_early front_ring.Initialised r x here early = ap is_early here
step_early front_ring.Closed r x here early = ap is_early here
step_early s r x here early = absurd (true≢false (sym early))

before_front : (w : World) (a : FrontAct) → IsFit w → HasInHand w.rings.front.stage w.rings.front.ending → front_turn w ≡ Some a → Before w → Before (front_to w a (front_step.step_of (frontend_of w) a.answer))
before_front w a fit hand turn b =
    let whole = early_whole w.rings.front.stage b.early in
    record {
      joined = front_goes w a fit whole hand b.joined turn;
      ring = b.ring;
      early =
          front_cases (λ does asked step. front_act w.rings.under asked ≡ Some a → is_early (step a.answer).ring.stage ≡ true) w
          (λ says e. enter_early w fit.back b.ring (front_step.states_after (frontend_of w) a.answer) w.rings.front (states_timely w a fit whole b.joined turn says) b.early)
          (λ quiet moves e. step_early w.rings.front.stage w.rings.front a.answer refl b.early) (λ quiet still e. b.early) turn;
    }

-- a connected front stays connected: its stage fits an epoch in which a port was made
abbrev one_port : ChannelState
one_port = with_port fresh_channels

some_port : one_port.ports ≡ [] → ⊥
some_port none = absurd (cc)

ported_connected : (s : FrontStage) → IsPorted s one_port → is_connected s ≡ true
ported_connected (front_ring.LeftData n) none = absurd (some_port none.1)
ported_connected (front_ring.RingWord k) none = absurd (some_port none.1)
ported_connected (front_ring.RingFrame page) none = absurd (some_port none.1)
ported_connected (front_ring.RingFence page) none = absurd (some_port none.1)
ported_connected (front_ring.RingFlags page) none = absurd (some_port none.1)
ported_connected front_ring.NewPort none = absurd (some_port none.1)
ported_connected s none = refl

connected_ported : (s : FrontStage) → is_connected s ≡ true → IsPorted s one_port × IsUnported s one_port
connected_ported (front_ring.LeftData n) is = absurd (true≢false (sym is))
connected_ported (front_ring.RingWord k) is = absurd (true≢false (sym is))
connected_ported (front_ring.RingFrame page) is = absurd (true≢false (sym is))
connected_ported (front_ring.RingFence page) is = absurd (true≢false (sym is))
connected_ported (front_ring.RingFlags page) is = absurd (true≢false (sym is))
connected_ported front_ring.NewPort is = absurd (true≢false (sym is))
connected_ported s is = (tt, tt)

step_connected : (r : front_ends.View) (x : FrontAnswer) → is_connected r.stage ≡ true → is_connected (front_ring_step.step_of r x).stage ≡ true
step_connected r x is = ported_connected _ (step_fits r x one_port (connected_ported r.stage is).1).0

enters_connected : (s : FrontState) (r : front_ends.View) → is_connected r.stage ≡ true → is_connected (enters s r).stage ≡ true
enters_connected s r is = ported_connected _ ((entered_kept s r).ported one_port (connected_ported r.stage is).0)

all_connected : (states : List FrontState) (r : front_ends.View) → is_connected r.stage ≡ true → is_connected (front_step.all_entered states r).stage ≡ true
all_connected [] r is = is
all_connected (s ∷ states) r is = all_connected states (enters s r) (enters_connected s r is)

front_connected : (w : World) (a : FrontAct) → is_connected w.rings.front.stage ≡ true → is_connected (front_step.step_of (frontend_of w) a.answer).ring.stage ≡ true
front_connected w a is =
    front_cases (λ does asked step. is_connected (step a.answer).ring.stage ≡ true) w (λ says. all_connected (front_step.states_after (frontend_of w) a.answer) w.rings.front is)
    (λ quiet moves. step_connected w.rings.front a.answer is) (λ quiet still. is)

pub front_way : (w : World) → IsFit w → HasInHand w.rings.front.stage w.rings.front.ending → IsOnItsWay w → IsOnItsWay (happens w FrontMoves)
front_way w fit hand way = after_front_move (λ act u. IsOnItsWay u) w fit way (λ a e. by_way a e way)
  where
    by_way : (a : FrontAct) → front_turn w ≡ Some a → IsOnItsWay w → IsOnItsWay (front_to w a (front_step.step_of (frontend_of w) a.answer))
    by_way a e (inl b) = inl (before_front w a fit hand e b)
    by_way a e (inr x) = inr (after_at w.rings.back w.rings.back w.back w.back (is_connected w.rings.front.stage) _ refl refl refl (front_connected w a) x)

-- an end is asked to close
unplugged_same : (v : BackView) → (unplugged v).stage ≡ v.stage
unplugged_same v = unplugged_cases (λ (u : BackView). u.stage ≡ v.stage) v refl refl

pub close_way : (w : World) (at : End) → IsOnItsWay w → IsOnItsWay (happens w (Closes at))
close_way w end.Front (inl b) =
    inl (record {
      joined = closes_joined w end.Front b.joined;
      ring = b.ring;
      early = enters_cases (λ (v : front_ends.View) (shown : List Line). is_early v.stage ≡ true) entered.Closing w.rings.front (λ may. b.early) b.early;
    })
close_way w end.Back (inl b) = inl (record { joined = closes_joined w end.Back b.joined; ring = b.ring; early = b.early })
close_way w end.Front (inr x) = inr (after_at w.rings.back w.rings.back w.back w.back (is_connected w.rings.front.stage) _ refl refl refl (enters_connected entered.Closing w.rings.front) x)
close_way w end.Back (inr x) = inr (after_at w.rings.back w.rings.back w.back (unplugged w.back) (is_connected w.rings.front.stage) _ refl refl (unplugged_same w.back) (λ made. made) x)
