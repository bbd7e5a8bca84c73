-- What an answer makes of the front's negotiation goes with what that hears.
use Rattle.std.proofs.Common.{inl, inr, ◌≡◌, ◌∙◌, ap, sym, subst, refl, ℕ, ◌+◌, Bool, true, false, true≢false, List}
use Rattle.std.specs.Prelude.{nat_lt, ◌==◌}
use Rattle.blk_base.specs.declared.ask.FrontAnswer.{FrontAnswer}
use Rattle.blk_base.specs.declared.ask.FrontAnswer.TheVariants as answer
use Rattle.blk_front.specs.declared.stage.FrontStage.{FrontStage}
use Rattle.blk_front.specs.declared.stage.FrontStage.TheVariants as ring_stage
use Rattle.xenbus_state.specs.declared.state.BusState.TheVariants as state
use Rattle.xenbus_state.specs.declared.stage.FrontBusStage.{FrontBusStage}
use Rattle.xenbus_state.specs.declared.stage.FrontBusStage.TheVariants as stage
use Rattle.xenbus_state.specs.declared.front.FrontBusAsk.TheVariants as bus_ask
use Rattle.xenbus_state.specs.FrontView.{FrontView, pages_of}
use Rattle.xenbus_state.specs.FrontAsk as bus
use Rattle.xenbus_state.specs.FrontStep.{at, step_at, step_of}
use Rattle.vbd_front.specs.View as front_view
use Rattle.vbd_front.specs.Ask as front
use Rattle.vbd_front.specs.Step as front_step
use Rattle.vbd_front.specs.Step.{settled_at, settled}
use Rattle.vbd_model.specs.Fit.{FrontGoesWith}
use Rattle.negotiation_laws.proofs.Choices.{either}
use Rattle.vbd_laws.specs.Waits.{Heard, Fired, front_hears}
use Rattle.vbd_laws.proofs.FitFrontBus.{due_ways}
use Rattle.vbd_laws.proofs.WaitsFront.{bus_asks_on, BusWaits, bus_waits}
use Rattle.vbd_laws.proofs.WaitsFrontHeard.{IsGone, HearsAt, Hears, says_at, dealt_closing, dealt_gone, settled_hears}

-- a stage whose moves its end of the ring makes
abbrev makes : FrontBusStage → Bool
makes (stage.RingWord word) = true
makes (stage.Grant page) = true
makes stage.NewPort = true
makes (stage.EndGrant page) = true
makes stage.ClosePort = true
makes s = false

-- while it waits it takes its watch
abbrev pub heard_waiting : FrontAnswer → Heard → Heard
heard_waiting (answer.Watched path) h = Fired
heard_waiting a h = h

module _ (free : Type 0) where
  -- told what it asked for
  pub told_hears : (v : FrontView) (idle : Bool) (r : FrontStage) (h : Heard) (a : FrontAnswer) → (idle ≡ true → free) → FrontGoesWith v.stage v r → Hears free v h → front.speaks (bus.ask_of v idle) ≡ true → bus.IsAnswer (bus.ask_of v idle) a
      → Hears free (step_of v idle a) (front_hears (front.key_ask (bus.ask_of v idle)) a h)
  told_hears v idle r h a may goes is =
      due_ways Told v idle (λ says allowed. says_at free v.stage v idle r h a may goes is says allowed) (λ here closing says allowed. writes here closing a allowed)
      (λ here gone says allowed. absurd (true≢false (sym says))) (λ here gone says allowed. absurd (true≢false (sym says)))
    where
      Told : FrontBusStage → Type 0
      Told d = front.speaks (bus.ask_at d v) ≡ true → bus.IsAnswer (bus.ask_at d v) a → Hears free (step_at d (at d v) idle a) (front_hears (front.key_ask (bus.ask_at d v)) a h)

      writes : v.stage ≡ stage.Rest → v.closing ≡ true → (x : FrontAnswer) → bus.IsAnswer (bus_ask.SetState state.Closing) x
          → Hears free (step_at (stage.WriteState state.Closing) (at (stage.WriteState state.Closing) v) idle x) (front_hears (front.key_ask (bus_ask.SetState state.Closing)) x h)
      writes here closing answer.Done allowed = dealt_closing free v.state v.closing v.gone h (subst (λ (s : FrontBusStage). HearsAt free s v.state v.closing v.gone h) here is) closing
      writes here closing x allowed = absurd allowed

  makes_hears : (s : FrontBusStage) (v : FrontView) (idle : Bool) (h : Heard) (a : FrontAnswer) → makes s ≡ true → HearsAt free s v.state v.closing v.gone h → Hears free (step_at s (at s v) idle a) h
  makes_hears (stage.RingWord word) v idle h answer.Done is there = either (λ (one : FrontBusStage). HearsAt free one v.state v.closing v.gone h) (word == 15) (stage.Grant 0) (stage.RingWord (word + 1)) there there
  makes_hears (stage.RingWord word) v idle h a is there = there
  makes_hears (stage.Grant page) v idle h answer.Done is there = either (λ (one : FrontBusStage). HearsAt free one v.state v.closing v.gone h) (nat_lt (page + 1) (pages_of v)) (stage.Grant (page + 1)) stage.NewPort there there
  makes_hears (stage.Grant page) v idle h a is there = there
  makes_hears stage.NewPort v idle h (answer.Port port) is there = there
  makes_hears stage.NewPort v idle h answer.Done is there = there
  makes_hears stage.NewPort v idle h a is there = there
  makes_hears (stage.EndGrant page) v idle h answer.Done is there = either (λ (one : FrontBusStage). HearsAt free one v.state v.closing v.gone h) (nat_lt (page + 1) (pages_of v)) (stage.EndGrant (page + 1)) stage.EndOtherGrants there there
  makes_hears (stage.EndGrant page) v idle h a is there = there
  makes_hears stage.ClosePort v idle h answer.Done is there = there
  makes_hears stage.ClosePort v idle h a is there = there
  makes_hears s v idle h a is there = absurd (true≢false (sym is))

  -- what its negotiation learns of a move of the ring's end, where that asks for more than a wait
  abbrev Follows : (later : FrontStage) (idle : Bool) (v : FrontView) (a : FrontAnswer) (h : Heard) → FrontBusStage → Type 0
  Follows later idle v a h d = bus.due v idle ≡ d → front.speaks (bus.ask_at d v) ≡ false → front_view.rests (bus.ask_at d v) ≡ false → Hears free (front_step.followed (bus.ask_at d v) later idle v a) h

  pub follows_hears : (v : FrontView) (idle : Bool) (later : FrontStage) (h : Heard) (a : FrontAnswer) → Hears free v h → front.speaks (bus.ask_of v idle) ≡ false → front_view.rests (bus.ask_of v idle) ≡ false
      → Hears free (front_step.followed (bus.ask_of v idle) later idle v a) h
  follows_hears v idle later h a is quiet on =
      due_ways (Follows later idle v a h) v idle (begun v.stage is) (λ here closing e quiet on. absurd (true≢false quiet))
      (λ here gone e quiet on. ended 0 later (dealt_gone free v.state v.closing v.gone h (subst (λ (s : FrontBusStage). HearsAt free s v.state v.closing v.gone h) here is) gone) e) (λ here gone e quiet on. is) refl quiet on
    where
      told : (d : FrontBusStage) (x : FrontAnswer) → makes d ≡ true → HearsAt free d v.state v.closing v.gone h → bus.due v idle ≡ d → Hears free (front_step.bus_told idle v x) h
      told d x moves there e = settled_hears free idle (step_of v idle x) h (subst (λ (s : FrontBusStage). Hears free (step_at s (at s v) idle x) h) (sym e) (makes_hears d v idle h x moves there))

      granted : (page : ℕ) (s : FrontStage) → HearsAt free (stage.Grant page) v.state v.closing v.gone h → bus.due v idle ≡ stage.Grant page → Hears free (front_step.followed (bus_ask.Grant page) s idle v a) h
      granted page (ring_stage.RingFrame k) there e = told (stage.Grant page) a refl there e
      granted page ring_stage.NewPort there e = told (stage.Grant page) a refl there e
      granted page s there e = is

      ended : (page : ℕ) (s : FrontStage) → IsGone h → bus.due v idle ≡ stage.EndGrant page → Hears free (front_step.followed (bus_ask.EndGrant page) s idle v a) h
      ended page (ring_stage.RingRead k) there e = told (stage.EndGrant page) answer.Done refl there e
      ended page ring_stage.ClosePort there e = told (stage.EndGrant page) answer.Done refl there e
      ended page s there e = is

      begun : (s : FrontBusStage) → HearsAt free s v.state v.closing v.gone h → Follows later idle v a h s
      begun (stage.RingWord word) there e quiet on = told (stage.RingWord word) a refl there e
      begun (stage.Grant page) there e quiet on = granted page later there e
      begun stage.NewPort there e quiet on = told stage.NewPort a refl there e
      begun (stage.EndGrant page) there e quiet on = ended page later there e
      begun stage.ClosePort there e quiet on = told stage.ClosePort a refl there e
      begun stage.EndOtherGrants there e quiet on = is
      begun stage.Rest there e quiet on = absurd (true≢false on)
      begun stage.Closed there e quiet on = absurd (true≢false on)
      begun (stage.Broken word) there e quiet on = absurd (true≢false on)
      begun other there e quiet on = absurd (true≢false quiet)

  waits_at : (d : FrontBusStage) (v : FrontView) (idle : Bool) (path : List ℕ) → bus.ask_at d v ≡ bus_ask.Wait → v.gone ≡ false → Hears free (step_at d (at d v) idle (answer.Watched path)) Fired
  waits_at stage.Rest v idle path e gone = (refl, gone)
  waits_at stage.Start v idle path e gone = bus_asks_on bus_ask.Watch refl e
  waits_at stage.ReadState v idle path e gone = bus_asks_on bus_ask.GetState refl e
  waits_at (stage.ReadFeature key) v idle path e gone = bus_asks_on (bus_ask.GetKey key) refl e
  waits_at (stage.RingWord word) v idle path e gone = bus_asks_on (bus_ask.WriteRingWord word) refl e
  waits_at (stage.Grant page) v idle path e gone = bus_asks_on (bus_ask.Grant page) refl e
  waits_at stage.NewPort v idle path e gone = bus_asks_on bus_ask.NewPort refl e
  waits_at (stage.Publish key) v idle path e gone = bus_asks_on (bus.ask_at (stage.Publish key) v) refl e
  waits_at (stage.ReadFact key) v idle path e gone = bus_asks_on (bus_ask.GetKey key) refl e
  waits_at (stage.WriteState s) v idle path e gone = bus_asks_on (bus_ask.SetState s) refl e
  waits_at (stage.EndGrant page) v idle path e gone = bus_asks_on (bus_ask.EndGrant page) refl e
  waits_at stage.EndOtherGrants v idle path e gone = bus_asks_on bus_ask.EndOtherGrants refl e
  waits_at stage.ClosePort v idle path e gone = bus_asks_on bus_ask.ClosePort refl e
  waits_at other v idle path e gone = tt

  pub woken_hears : (broken idle : Bool) (v : FrontView) (h : Heard) (a : FrontAnswer) → broken ≡ false → Hears free v h → bus.ask_of v idle ≡ bus_ask.Wait → (v.stage ≡ stage.Rest → v.gone ≡ false) → Hears free (front_step.woken broken idle v a) (heard_waiting a h)
  woken_hears true idle v h a whole is e gone = absurd (true≢false whole)
  woken_hears false idle v h (answer.Watched path) whole is e gone = settled_hears free idle (step_of v idle (answer.Watched path)) Fired (by_bus (bus_waits v idle e))
    where
      over : (s : FrontBusStage) → v.stage ≡ s → bus.due_at s v idle ≡ s → Hears free (step_at s (at s v) idle (answer.Watched path)) Fired → Hears free (step_of v idle (answer.Watched path)) Fired
      over s here same there = subst (λ (d : FrontBusStage). Hears free (step_at d (at d v) idle (answer.Watched path)) Fired) (sym (ap (λ (t : FrontBusStage). bus.due_at t v idle) here ∙ same)) there

      by_bus : BusWaits v idle → Hears free (step_of v idle (answer.Watched path)) Fired
      by_bus (inl at_rest) = waits_at (bus.due v idle) v idle path e (gone at_rest.0)
      by_bus (inr (inl here)) = over stage.Closed here refl tt
      by_bus (inr (inr found)) = over (stage.Broken found.0) found.1 refl tt
  woken_hears false idle v h answer.Event whole is e gone = is
  woken_hears false idle v h other whole is e gone = is

-- and it leaves what the negotiation wrote, whether it closes and whether the back is gone
abbrev pub IsKept : FrontView → FrontView → Type 0
IsKept v u = (u.gone ≡ v.gone) × (u.state ≡ v.state) × (u.closing ≡ v.closing)

kept_after : (v u x : FrontView) → IsKept v u → IsKept u x → IsKept v x
kept_after v u x p q = (q.0 ∙ p.0, q.1 ∙ p.1, q.2 ∙ p.2)

pub settled_kept : (idle : Bool) (u : FrontView) → IsKept u (settled idle u)
settled_kept idle u = due_ways (λ (d : FrontBusStage). bus.due u idle ≡ d → IsKept u (settled_at (bus.ask_at d u) idle u)) u idle (begun u.stage) (λ here closing e. (refl, refl, refl)) (λ here gone e. (refl, refl, refl)) (λ here gone e. ends e) refl
  where
    ends : bus.due u idle ≡ stage.EndOtherGrants → IsKept u (step_of u idle answer.Done)
    ends e = subst (λ (d : FrontBusStage). IsKept u (step_at d (at d u) idle answer.Done)) (sym e) (refl, refl, refl)

    begun : (s : FrontBusStage) → bus.due u idle ≡ s → IsKept u (settled_at (bus.ask_at s u) idle u)
    begun stage.EndOtherGrants e = ends e
    begun s e = (refl, refl, refl)

makes_kept : (s : FrontBusStage) (v : FrontView) (idle : Bool) (a : FrontAnswer) → makes s ≡ true → IsKept v (step_at s (at s v) idle a)
makes_kept stage.NewPort v idle (answer.Port port) is = (refl, refl, refl)
makes_kept stage.NewPort v idle answer.Done is = (refl, refl, refl)
makes_kept stage.NewPort v idle a is = (refl, refl, refl)
makes_kept stage.ClosePort v idle answer.Done is = (refl, refl, refl)
makes_kept stage.ClosePort v idle a is = (refl, refl, refl)
makes_kept (stage.RingWord word) v idle answer.Done is = (refl, refl, refl)
makes_kept (stage.RingWord word) v idle a is = (refl, refl, refl)
makes_kept (stage.Grant page) v idle answer.Done is = (refl, refl, refl)
makes_kept (stage.Grant page) v idle a is = (refl, refl, refl)
makes_kept (stage.EndGrant page) v idle answer.Done is = (refl, refl, refl)
makes_kept (stage.EndGrant page) v idle a is = (refl, refl, refl)
makes_kept s v idle a is = absurd (true≢false (sym is))

abbrev Keeps : (later : FrontStage) (idle : Bool) (v : FrontView) (a : FrontAnswer) → FrontBusStage → Type 0
Keeps later idle v a d = bus.due v idle ≡ d → front_view.rests (bus.ask_at d v) ≡ false → IsKept v (front_step.followed (bus.ask_at d v) later idle v a)

pub follows_kept : (v : FrontView) (idle : Bool) (later : FrontStage) (a : FrontAnswer) → front_view.rests (bus.ask_of v idle) ≡ false → IsKept v (front_step.followed (bus.ask_of v idle) later idle v a)
follows_kept v idle later a on =
    due_ways (Keeps later idle v a) v idle (begun v.stage) (λ here closing e on. (refl, refl, refl)) (λ here gone e on. ended 0 later e) (λ here gone e on. (refl, refl, refl)) refl on
  where
    told : (d : FrontBusStage) (x : FrontAnswer) → makes d ≡ true → bus.due v idle ≡ d → IsKept v (front_step.bus_told idle v x)
    told d x moves e =
        kept_after v (step_of v idle x) (front_step.bus_told idle v x) (subst (λ (s : FrontBusStage). IsKept v (step_at s (at s v) idle x)) (sym e) (makes_kept d v idle x moves)) (settled_kept idle (step_of v idle x))

    granted : (page : ℕ) (s : FrontStage) → bus.due v idle ≡ stage.Grant page → IsKept v (front_step.followed (bus_ask.Grant page) s idle v a)
    granted page (ring_stage.RingFrame k) e = told (stage.Grant page) a refl e
    granted page ring_stage.NewPort e = told (stage.Grant page) a refl e
    granted page s e = (refl, refl, refl)

    ended : (page : ℕ) (s : FrontStage) → bus.due v idle ≡ stage.EndGrant page → IsKept v (front_step.followed (bus_ask.EndGrant page) s idle v a)
    ended page (ring_stage.RingRead k) e = told (stage.EndGrant page) answer.Done refl e
    ended page ring_stage.ClosePort e = told (stage.EndGrant page) answer.Done refl e
    ended page s e = (refl, refl, refl)

    begun : (s : FrontBusStage) → Keeps later idle v a s
    begun (stage.RingWord word) e on = told (stage.RingWord word) a refl e
    begun (stage.Grant page) e on = granted page later e
    begun stage.NewPort e on = told stage.NewPort a refl e
    begun (stage.EndGrant page) e on = ended page later e
    begun stage.ClosePort e on = told stage.ClosePort a refl e
    begun stage.Rest e on = absurd (true≢false on)
    begun stage.Closed e on = absurd (true≢false on)
    begun (stage.Broken word) e on = absurd (true≢false on)
    begun s e on = (refl, refl, refl)

pub woken_kept : (broken idle : Bool) (v : FrontView) (a : FrontAnswer) → bus.ask_of v idle ≡ bus_ask.Wait → IsKept v (front_step.woken broken idle v a)
woken_kept true idle v a e = (refl, refl, refl)
woken_kept false idle v (answer.Watched path) e = kept_after v (step_of v idle (answer.Watched path)) (front_step.bus_told idle v (answer.Watched path)) (by_due (bus.due v idle) e) (settled_kept idle (step_of v idle (answer.Watched path)))
  where
    by_due : (d : FrontBusStage) → bus.ask_at d v ≡ bus_ask.Wait → IsKept v (step_at d (at d v) idle (answer.Watched path))
    by_due stage.Rest e = (refl, refl, refl)
    by_due s e = (refl, refl, refl)
woken_kept false idle v answer.Event e = (refl, refl, refl)
woken_kept false idle v other e = (refl, refl, refl)
