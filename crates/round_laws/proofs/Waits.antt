-- An end that waits makes no move where neither an event nor a watch is pending there; and one that moves a word makes that move alone.
use Rattle.std.proofs.Common.{◌≡◌, Bool, true, false, true≢false, not, ◌||◌, ◌&&◌, if◌then◌else◌, List, [], ◌∷◌, ◌++◌, refl, sym, ap, ◌∙◌, subst, ℕ}
use Rattle.std.specs.Prelude.{Option, Some, None}
use Rattle.std.specs.List.{AllByRecursion}
use Rattle.blk_base.specs.declared.parts.End.{End}
use Rattle.blk_base.specs.declared.parts.End.TheVariants as end
use Rattle.blk_base.specs.declared.ask.FrontAsk.{FrontAsk}
use Rattle.blk_base.specs.declared.ask.FrontAsk.TheVariants as front_ask
use Rattle.blk_base.specs.declared.ask.FrontAnswer.{FrontAnswer}
use Rattle.blk_base.specs.declared.ask.BackAsk.{BackAsk}
use Rattle.blk_base.specs.declared.ask.BackAsk.TheVariants as back_ask
use Rattle.blk_base.specs.declared.ask.BackAnswer.{BackAnswer}
use Rattle.blk_base.specs.declared.moves.BackMover.TheVariants as back_mover
use Rattle.blk_io.specs.Disk.{DiskSeen}
use Rattle.schedule_text.specs.declared.line.Line.TheVariants.{Move}
use Rattle.key_directory.specs.Watches.{has_pending, is_empty_list, first_of, taken}
use Rattle.key_directory.specs.Directory.{Directory, watches_of, with_watches}
use Rattle.event_channel.specs.Channels.{is_pending}
use Rattle.hypervisor.specs.Hypervisor.{Hypervisor}
use Rattle.hypervisor.specs.Act.{FrontAct, BackAct, Took, front_act, back_act, front_watched, back_watched, watch_next, has_to_take, with_keys}
use Rattle.blk_front.specs.Ask as front_ring
use Rattle.blk_front.specs.Step as step_ring
use Rattle.blk_front.specs.declared.told.Told.{Told}
use Rattle.blk_back.specs.Ask as back_ring
use Rattle.blk_front.specs.Submit.{is_wait as is_front_wait}
use Rattle.blk_back.specs.Ask.{is_wait as is_back_wait}
use Rattle.xenbus_state.specs.declared.front.FrontBusAsk.{FrontBusAsk}
use Rattle.xenbus_state.specs.declared.front.FrontBusAsk.TheVariants as front_bus
use Rattle.xenbus_state.specs.declared.back.BackBusAsk.{BackBusAsk}
use Rattle.xenbus_state.specs.declared.back.BackBusAsk.TheVariants as back_bus
use Rattle.xenbus_state.specs.FrontView.{FrontView}
use Rattle.xenbus_state.specs.BackView.{BackView}
use Rattle.split_model.specs.World as rings
use Rattle.split_model.specs.Keys.{KeyMove, TakesWatch, may_negotiate, watched_lines}
use Rattle.split_model.specs.Happening as ring
use Rattle.split_model.specs.Shown.{front_lines}
use Rattle.split_model.proofs.SafeActs.{front_event, back_event}
use Rattle.vbd_front.specs.View as front_view
use Rattle.vbd_front.specs.Ask as front
use Rattle.vbd_front.specs.Step as front_step
use Rattle.vbd_back.specs.View as back_view
use Rattle.vbd_back.specs.Ask as back
use Rattle.vbd_back.specs.Step as back_step
use Rattle.vbd_model.specs.World.{World, frontend_of, backend_of}
use Rattle.vbd_model.specs.Happening.{FrontMoves, BackMoves, front_turn, back_turn, front_does, back_does, front_bus_after, back_bus_after}
use Rattle.vbd_laws.proofs.MovesTurns.{front_asks, back_asks, front_cases, back_cases, quiet_front, quiet_back, waits_quiet}
use Rattle.vbd_laws.proofs.MovesFront.{still_taken}
use Rattle.round_laws.specs.AtOnce.{Passes, IsMoveLine}
use Rattle.round_laws.proofs.Passing.{passes_one}

-- neither is pending
neither : (a b : Bool) → (a || b) ≡ false → (a ≡ false) × (b ≡ false)
neither true b none = absurd (true≢false none)
neither false b none = (refl, none)

none_next : (pending : List (List ℕ)) → not (is_empty_list pending) ≡ false → first_of pending ≡ None
none_next [] none = refl
none_next (path ∷ later) none = absurd (true≢false none)

module _ (h : Hypervisor) (at : End) (none : has_to_take h at ≡ false) where
  no_event : is_pending h.channels at ≡ false
  no_event = (neither (is_pending h.channels at) (has_pending (watches_of h.keys at)) none).0

  pub no_watch : watch_next h at ≡ None
  no_watch = none_next _ (neither (is_pending h.channels at) (has_pending (watches_of h.keys at)) none).1

front_idle : (h : Hypervisor) (ask : FrontAsk) → is_front_wait ask ≡ true → has_to_take h end.Front ≡ false → front_act h ask ≡ None
front_idle h front_ask.Wait waits none =
    ap (λ (b : Bool). if b then Some (front_event h) else front_watched h (watch_next h end.Front)) (no_event h end.Front none)
    ∙ ap (front_watched h) (no_watch h end.Front none)
front_idle h ask waits none = absurd (true≢false (sym waits))

back_idle : (h : Hypervisor) (ask : BackAsk) → is_back_wait ask ≡ true → has_to_take h end.Back ≡ false → back_act h back_mover.Back ask Took ≡ None
back_idle h back_ask.Wait waits none =
    ap (λ (b : Bool). if b then Some (back_event h) else back_watched h (watch_next h end.Back)) (no_event h end.Back none)
    ∙ ap (back_watched h) (no_watch h end.Back none)
back_idle h ask waits none = absurd (true≢false (sym waits))

-- a negotiation that speaks doesn't wait, and moves no word
abbrev pub IsWord : FrontAsk → Type 0
IsWord (front_ask.Read frame word) = Unit {0}
IsWord (front_ask.Write frame word value) = Unit {0}
IsWord ask = ⊥

speaking_front : (a : FrontBusAsk) → front.speaks a ≡ true → is_front_wait (front.key_ask a) ≡ false
speaking_front front_bus.Watch says = refl
speaking_front front_bus.GetState says = refl
speaking_front (front_bus.GetKey key) says = refl
speaking_front (front_bus.SetState s) says = refl
speaking_front (front_bus.SetKey key value) says = refl
speaking_front a says = absurd (true≢false (sym says))

speaking_back : (a : BackBusAsk) (between : Bool) → (back.speaks a && between) ≡ true → is_back_wait (back.key_ask a) ≡ false
speaking_back back_bus.Watch between says = refl
speaking_back back_bus.GetState between says = refl
speaking_back (back_bus.GetKey key) between says = refl
speaking_back (back_bus.SetState s) between says = refl
speaking_back (back_bus.SetKey key value) between says = refl
speaking_back a between says = absurd (true≢false (sym says))

no_word : (a : FrontBusAsk) → IsWord (front.key_ask a) → ⊥
no_word front_bus.Watch is = is
no_word front_bus.GetState is = is
no_word (front_bus.GetKey key) is = is
no_word (front_bus.SetState s) is = is
no_word (front_bus.SetKey key value) is = is
no_word a is = is

-- nothing happens to the rings, and none of it is shown
abbrev IsNothing : World → List ring.Happening → Type 0
IsNothing w does = (ring.after does w.rings ≡ w.rings) × (ring.lines_of does w.rings ≡ []) × ((d : DiskSeen) → ring.DiskRuns does w.rings d d)

abbrev over : World → Hypervisor → rings.World
over w h = record { front = w.rings.front; back = w.rings.back; under = h }

module _ (w : World) where
  front_takes_none : watch_next w.rings.under end.Front ≡ None → IsNothing w (ring.Negotiates end.Front TakesWatch ∷ [])
  front_takes_none none = (
    ap (λ (d : Directory). over w (with_keys w.rings.under d)) (still_taken w.rings.under.keys end.Front none),
    ap (λ (n : Option (List ℕ)). watched_lines end.Front n ++ []) none,
    λ d. (d, refl, refl),
  )

  back_takes_none : watch_next w.rings.under end.Back ≡ None → IsNothing w (ring.Negotiates end.Back TakesWatch ∷ [])
  back_takes_none none = by_turn (may_negotiate w.rings.back.stage end.Back TakesWatch)
    where
      keys : Directory
      keys = w.rings.under.keys

      by_turn : (b : Bool) → (over w (with_keys w.rings.under (if b then with_watches w.rings.under.keys end.Back (taken (watches_of w.rings.under.keys end.Back)) else w.rings.under.keys)) ≡ w.rings)
          × ((if b then watched_lines end.Back (watch_next w.rings.under end.Back) else []) ++ [] ≡ []) × ((d : DiskSeen) → ring.DiskRuns (ring.Negotiates end.Back TakesWatch ∷ []) w.rings d d)
      by_turn true = (
        ap (λ (d : Directory). over w (with_keys w.rings.under d)) (still_taken w.rings.under.keys end.Back none),
        ap (λ (n : Option (List ℕ)). watched_lines end.Back n ++ []) none,
        λ d. (d, refl, refl),
      )
      by_turn false = (refl, refl, λ d. (d, refl, refl))

  -- the front waits
  abbrev FrontStill : List ring.Happening → FrontAsk → (FrontAnswer → front_view.View) → Type 0
  FrontStill does ask step = is_front_wait ask ≡ true → IsNothing w does

  front_still : has_to_take w.rings.under end.Front ≡ false → FrontStill (front_does w) (front.ask_of (frontend_of w)) (λ x. front_step.step_of (frontend_of w) x)
  front_still none =
      front_cases FrontStill w
      (λ says waits. absurd (true≢false (sym waits ∙ speaking_front (front_asks w) says)))
      (λ quiet does waits.
      let e = front_idle w.rings.under (front_ring.ask_of w.rings.front) waits none in
      (ap (λ (act : Option FrontAct). ring.front_after w.rings act) e, ap (λ (act : Option FrontAct). ring.front_shows w.rings act ++ []) e, λ d. (d, refl, refl)))
      (λ quiet still waits. subst (λ (move : KeyMove). IsNothing w (ring.Negotiates end.Front move ∷ [])) (sym (quiet_front (front_asks w) quiet)) (front_takes_none (no_watch w.rings.under end.Front none)))

  pub front_waits : front.is_waiting (frontend_of w) ≡ true → has_to_take w.rings.under end.Front ≡ false → Passes (FrontMoves ∷ []) w w
  front_waits waits none =
      let is = front_still none waits in
      let idle : front_turn w ≡ None = front_idle w.rings.under (front.ask_of (frontend_of w)) waits none in
      passes_one w w FrontMoves
      (ap (λ (r : rings.World). with_front r (front_bus_after w (front_turn w))) is.0 ∙ ap (λ (act : Option FrontAct). with_front w.rings (front_bus_after w act)) idle)
      (subst (AllByRecursion IsMoveLine) (sym is.1) tt)
      is.2
    where
      with_front : rings.World → FrontView → World
      with_front r f = record { rings = r; front = f; back = w.back }

  -- the back waits
  abbrev BackStill : List ring.Happening → BackAsk → (BackAnswer → back_view.View) → Type 0
  BackStill does ask step = is_back_wait ask ≡ true → IsNothing w does

  back_still : has_to_take w.rings.under end.Back ≡ false → BackStill (back_does w) (back.ask_of (backend_of w)) (λ x. back_step.step_of (backend_of w) x)
  back_still none =
      back_cases BackStill w
      (λ says untaken waits. absurd (true≢false (sym waits ∙ speaking_back (back_asks w) _ says)))
      (λ says takes waits. absurd (true≢false (sym waits ∙ speaking_back (back_asks w) _ says)))
      (λ quiet does waits.
      let e = back_idle w.rings.under (back_ring.ask_of w.rings.back) waits none in
      (ap (λ (act : Option BackAct). ring.back_after w.rings act) e, ap (λ (act : Option BackAct). ring.back_shows w.rings act ++ []) e, λ d. (d, refl, refl)))
      (λ quiet still waits. subst (λ (move : KeyMove). IsNothing w (ring.Negotiates end.Back move ∷ [])) (sym (quiet_back (back_asks w) (waits_quiet (back_asks w) w.rings.back.stage quiet still)))
      (back_takes_none (no_watch w.rings.under end.Back none)))

  pub back_waits : back.is_waiting (backend_of w) ≡ true → has_to_take w.rings.under end.Back ≡ false → Passes (BackMoves ∷ []) w w
  back_waits waits none =
      let is = back_still none waits in
      let idle : back_turn w ≡ None = back_idle w.rings.under (back.ask_of (backend_of w)) waits none in
      passes_one w w BackMoves
      (ap (λ (r : rings.World). with_back r (back_bus_after w (back_turn w))) is.0 ∙ ap (λ (act : Option BackAct). with_back w.rings (back_bus_after w act)) idle)
      (subst (AllByRecursion IsMoveLine) (sym is.1) tt)
      is.2
    where
      with_back : rings.World → BackView → World
      with_back r b = record { rings = r; front = w.front; back = b }

  -- the front moves a word, and tells nothing of it
  abbrev pub front_there : FrontAct → front_view.View → World
  front_there a v = record { rings = record { front = v.ring; back = w.rings.back; under = a.under }; front = v.bus; back = w.back }

  module _ (a : FrontAct) where
    abbrev Moves : List ring.Happening → FrontAsk → (FrontAnswer → front_view.View) → Type 0
    Moves does ask step =
        let v : front_view.View = step a.answer in
        IsWord ask → front_act w.rings.under ask ≡ Some a → v.ring.told ≡ None
        → (ring.after does w.rings ≡ record { front = v.ring; back = w.rings.back; under = a.under }) × (ring.lines_of does w.rings ≡ Move a.shown ∷ []) × ((d : DiskSeen) → ring.DiskRuns does w.rings d d)

    moves : Moves (front_does w) (front.ask_of (frontend_of w)) (λ x. front_step.step_of (frontend_of w) x)
    moves =
        front_cases Moves w
        (λ says word e told. absurd (no_word (front_asks w) word))
        (λ quiet does word e told. (
          ap (λ (act : Option FrontAct). ring.front_after w.rings act) e ∙ ap (λ (t : Option Told). record { front = record (step_ring.step_of w.rings.front a.answer) { told = t }; back = w.rings.back; under = a.under }) (sym told),
          ap (λ (act : Option FrontAct). ring.front_shows w.rings act ++ []) e ∙ ap (λ (t : Option Told). Move a.shown ∷ (front_lines t ++ [])) told,
          λ d. (d, refl, refl),
        ))
        (λ quiet still word e told. absurd word)

    pub front_moves : IsWord (front.ask_of (frontend_of w)) → front_turn w ≡ Some a → (let v : front_view.View = front_step.step_of (frontend_of w) a.answer in v.ring.told ≡ None) → Passes (FrontMoves ∷ []) w (front_there a (front_step.step_of (frontend_of w) a.answer))
    front_moves word e told =
        let is = moves word e told in
        passes_one w (front_there a (front_step.step_of (frontend_of w) a.answer)) FrontMoves
        (ap (λ (r : rings.World). with_front r (front_bus_after w (front_turn w))) is.0 ∙ ap (λ (act : Option FrontAct). with_front (record { front = (front_step.step_of (frontend_of w) a.answer).ring; back = w.rings.back; under = a.under }) (front_bus_after w act)) e)
        (subst (AllByRecursion IsMoveLine) (sym is.1) (tt, tt))
        is.2
      where
        with_front : rings.World → FrontView → World
        with_front r f = record { rings = r; front = f; back = w.back }
