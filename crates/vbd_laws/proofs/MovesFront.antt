-- A move of the front is what the frontend asks: its act is done, it is told the answer, and the move is shown with what it made happen. And an end that is asked to close begins to.
use Rattle.std.proofs.Common.{◌≡◌, ℕ, Bool, true, false, true≢false, if◌then◌else◌, List, [], ◌∷◌, ◌++◌, map, refl, sym, ap, ◌∙◌, subst, append-nil, decimal}
use Rattle.std.specs.Prelude.{Option, Some, None}
use Rattle.std.proofs.lemmas.Option.{none-some}
use Rattle.blk_base.specs.declared.parts.End.{End}
use Rattle.blk_base.specs.declared.parts.End.TheVariants as end
use Rattle.blk_base.specs.declared.ask.FrontAsk.{FrontAsk}
use Rattle.blk_base.specs.declared.ask.FrontAsk.TheVariants as front_ask
use Rattle.blk_base.specs.declared.ask.FrontAnswer.{FrontAnswer}
use Rattle.blk_base.specs.declared.moves.Move.TheVariants as moves
use Rattle.blk_base.specs.declared.moves.Mover.TheVariants as mover
use Rattle.schedule_text.specs.declared.line.Line.{Line}
use Rattle.schedule_text.specs.declared.line.Line.TheVariants as lines
use Rattle.blk_io.specs.Disk.{DiskSeen}
use Rattle.key_directory.specs.Watches.{Watches, next_watch, first_of, taken, taken_from}
use Rattle.key_directory.specs.Directory.{Directory, written, watches_of, with_watches}
use Rattle.hypervisor.specs.Hypervisor.{Hypervisor}
use Rattle.hypervisor.specs.Act.{FrontAct, front_act, front_watched, watch_next, with_keys}
use Rattle.grant_table.specs.Table.{GrantTable}
use Rattle.blk_front.specs.View as front_ends
use Rattle.blk_front.specs.Ask as front_ring
use Rattle.blk_front.specs.declared.state.FrontState.{FrontState}
use Rattle.blk_front.specs.declared.state.FrontState.TheVariants as enter
use Rattle.blk_front.specs.declared.state.Offers.{Offers}
use Rattle.blk_front.specs.State.{may_enter, enters}
use Rattle.xenbus_state.specs.declared.front.FrontNews.{FrontNews}
use Rattle.xenbus_state.specs.declared.front.FrontNews.TheVariants as news
use Rattle.xenbus_state.specs.declared.front.FrontBusAsk.{FrontBusAsk}
use Rattle.xenbus_state.specs.declared.front.FrontBusAsk.TheVariants as front_bus
use Rattle.xenbus_state.specs.States.{state_number}
use Rattle.xenbus_state.specs.Keys.{front_name, path_under}
use Rattle.xenbus_state.specs.Values.{text_of}
use Rattle.xenbus_state.specs.FrontView.{FrontView, ring_order, closed}
use Rattle.xenbus_state.specs.FrontAsk as bus_asks
use Rattle.split_model.specs.World as rings
use Rattle.split_model.specs.Keys.{KeyMove, Sets, TakesWatch, may_set, watched_lines}
use Rattle.split_model.specs.Happening as ring
use Rattle.split_model.specs.Shown.{front_lines, state_lines}
use Rattle.split_model.proofs.SafeActs.{of_front, front_event, front_watch, made_front}
use Rattle.split_model.proofs.SafeFront.{entered_kept}
use Rattle.vbd_front.specs.View as front_view
use Rattle.vbd_front.specs.Ask as front
use Rattle.vbd_front.specs.Step as front_step
use Rattle.vbd_model.specs.World.{World, frontend_of}
use Rattle.vbd_model.specs.Happening.{happens, FrontMoves, front_key, entered_at, front_does, front_turn, front_bus_after, DiskGoes}
use Rattle.vbd_model.specs.News.{news_line, news_lines}
use Rattle.vbd_model.specs.Fit.{IsFit}
use Rattle.vbd_laws.specs.Moves.{IsFrontMove, IsClose, IsNoMove}
use Rattle.vbd_laws.proofs.FitFrontMoves.{left_moves}
use Rattle.vbd_laws.proofs.FitFront.{asks_cases, front_fits, all_enter}
use Rattle.vbd_laws.proofs.KeysSet.{FrontMaySet, front_state_set, front_sets, front_unpending}
use Rattle.vbd_laws.proofs.MovesTurns.{front_asks, front_says, front_cases, quiet_front, front_speaks}

-- where no watch fired none is taken
none_taken : (w : Watches) → next_watch w ≡ None → taken w ≡ w
none_taken w none = by_pending w.pending refl none
  where
    by_pending : (pending : List (List ℕ)) → w.pending ≡ pending → first_of pending ≡ None → taken_from pending w.idle ≡ w
    by_pending [] same e = let as_was : w ≡ record { pending = []; idle = w.idle } = ap (λ (p : List (List ℕ)). record { pending = p; idle = w.idle }) same in sym as_was
    by_pending (path ∷ later) same e = absurd (none-some path (sym e))

pub still_taken : (d : Directory) (at : End) → next_watch (watches_of d at) ≡ None → with_watches d at (taken (watches_of d at)) ≡ d
still_taken d end.Front none = ap (λ (w : Watches). with_watches d end.Front w) (none_taken d.front none)
still_taken d end.Back none = ap (λ (w : Watches). with_watches d end.Back w) (none_taken d.back none)

-- the rings after this, and its lines, are as the answer makes them
abbrev Moved : World → FrontAct → List ring.Happening → front_view.View → Type 0
Moved w a does v =
    (ring.after does w.rings ≡ record { front = (front_view.heard v).ring; back = w.rings.back; under = a.under })
    × (ring.lines_of does w.rings ≡ lines.Move a.shown ∷ (front_lines v.ring.told ++ news_lines v.news))

abbrev Moves : World → FrontAct → List ring.Happening → FrontAsk → (FrontAnswer → front_view.View) → Type 0
Moves w a does ask step = front_act w.rings.under ask ≡ Some a → Moved w a does (step a.answer)

-- a front that has nothing to tell is as it was once it was heard
quiet_ring : (f : front_ends.View) → f.told ≡ None → f ≡ record f { told = None }
quiet_ring f told = ap (λ t. record f { told = t }) told

-- the rings over these
abbrev over : World → Hypervisor → rings.World
over w h = record { front = w.rings.front; back = w.rings.back; under = h }

-- the move alone is shown, and changes keys alone
abbrev Keyed : World → KeyMove → FrontAct → Type 0
Keyed w move a = (ring.happens w.rings (ring.Negotiates end.Front move) ≡ over w a.under) × (ring.lines_at w.rings (ring.Negotiates end.Front move) ≡ lines.Move a.shown ∷ [])

-- a key that may be set is
front_set : (w : World) (path text : List ℕ) → may_set end.Front path text ≡ true
    → (ring.happens w.rings (ring.Negotiates end.Front (Sets path text)) ≡ over w (with_keys w.rings.under (written w.rings.under.keys path text)))
    × (ring.lines_at w.rings (ring.Negotiates end.Front (Sets path text)) ≡ lines.Move (moves.SetKey mover.Front path text) ∷ [])
front_set w path text may = (rw may refl, rw may refl)

keyed : (ask : FrontBusAsk) (w : World) (a : FrontAct) → FrontMaySet ask → front.speaks ask ≡ true → front_act w.rings.under (front.key_ask ask) ≡ Some a → Keyed w (front_key ask) a
keyed front_bus.Watch w a may is e = of_front (λ (x : FrontAct). Keyed w (front_key front_bus.Watch) x) _ a (refl, refl) e
keyed front_bus.GetState w a may is e = of_front (λ (x : FrontAct). Keyed w (front_key front_bus.GetState) x) _ a (refl, refl) e
keyed (front_bus.GetKey key) w a may is e = of_front (λ (x : FrontAct). Keyed w (front_key (front_bus.GetKey key)) x) _ a (refl, refl) e
keyed (front_bus.SetKey key value) w a may is e =
    of_front (λ (x : FrontAct). Keyed w (front_key (front_bus.SetKey key value)) x) _ a (front_set w (path_under end.Front (front_name key)) (text_of value) may) e
keyed (front_bus.SetState s) w a may is e =
    of_front (λ (x : FrontAct). Keyed w (front_key (front_bus.SetState s)) x) _ a (front_set w front.own_state (decimal (state_number s)) (front_state_set (decimal (state_number s)))) e
keyed ask w a may is e = absurd (true≢false (sym is))

-- the states that the end of the ring enters tell nothing, and show what the negotiation made happen
pub entered_told : (states : List FrontState) (f : front_ends.View) → (front_step.all_entered states f).told ≡ f.told
entered_told [] f = refl
entered_told (s ∷ states) f = entered_told states (enters s f) ∙ (entered_kept s f).told

due_lines : (due : FrontBusAsk) (order : ℕ) (r : rings.World) → ring.lines_of (map ring.FrontEnters (front_step.states_due due order)) r ≡ []
due_lines (front_bus.WriteRingWord word) order r = by_test (may_enter (enter.Agreed order) r.front)
  where
    by_test : (b : Bool) → (if b then state_lines (enter.Agreed order) else []) ++ [] ≡ []
    by_test true = refl
    by_test false = refl
due_lines (front_bus.EndGrant page) order r = by_test (may_enter enter.Leaving r.front)
  where
    by_test : (b : Bool) → (if b then state_lines enter.Leaving else []) ++ [] ≡ []
    by_test true = refl
    by_test false = refl
due_lines due order r = refl

stated_line : (offers : Offers) (n : FrontNews) → state_lines (front_step.state_of_news offers n) ≡ news_line n ∷ []
stated_line offers news.Ready = refl
stated_line offers other = refl

entered_lines : (offers : Offers) (news : Option FrontNews) (due : FrontBusAsk) (order : ℕ) (r : rings.World)
    → ring.lines_of (map ring.FrontEnters (front_step.states_entered offers news due order)) r ≡ news_lines (front_step.news_told offers news r.front)
entered_lines offers None due order r = due_lines due order r
entered_lines offers (Some n) due order r =
    let s : FrontState = front_step.state_of_news offers n in
    ap (λ (ls : List Line). ring.enter_lines s r.front ++ ls) (due_lines due order (ring.happens r (ring.FrontEnters s))) ∙ (append-nil (ring.enter_lines s r.front) ∙ by_test (may_enter s r.front))
  where
    by_test : (b : Bool) → (if b then state_lines (front_step.state_of_news offers n) else []) ≡ news_lines (if b then Some n else None)
    by_test true = stated_line offers n
    by_test false = refl

-- the negotiation speaks
says : (w : World) (a : FrontAct) → w.rings.front.told ≡ None → Keyed w (front_key (front_asks w)) a
    → Moved w a (front_says w (front_step.states_after (frontend_of w) a.answer)) (front_step.spoken (frontend_of w) a.answer)
says w a told is =
    let states : List FrontState = front_step.states_after (frontend_of w) a.answer in
    let quiet : (front_step.all_entered states w.rings.front).told ≡ None = entered_told states w.rings.front ∙ told in
    let u : FrontView = front_step.bus_after (frontend_of w) a.answer in
    let offers : Offers = front_step.offers_of u in
    let due : FrontBusAsk = bus_asks.ask_of u (front_view.is_unoccupied w.rings.front) in (
      ap (λ (r : rings.World). ring.after (map ring.FrontEnters states) r) is.0
          ∙ (all_enter states (over w a.under) ∙ ap (λ (f : front_ends.View). record (over w a.under) { front = f }) (quiet_ring (front_step.all_entered states w.rings.front) quiet)),
      ap (λ (ls : List Line). ls ++ ring.lines_of (map ring.FrontEnters states) (ring.happens w.rings (ring.Negotiates end.Front (front_key (front_asks w))))) is.1
          ∙ ap (λ (ls : List Line). lines.Move a.shown ∷ ls) (entered_lines offers (front_step.news_of (frontend_of w) a.answer) due (ring_order u) _
          ∙ sym (ap (λ t. front_lines t ++ news_lines (front_step.news_told offers (front_step.news_of (frontend_of w) a.answer) w.rings.front)) quiet)),
    )

-- its end of the ring moves
moved : (w : World) (a : FrontAct) → Moves w a (ring.FrontMoves ∷ []) (front_ring.ask_of w.rings.front) (λ x. front_step.ring_step true (front_asks w) (frontend_of w) x)
moved w a e = (ap (λ (act : Option FrontAct). ring.front_after w.rings act) e, ap (λ (act : Option FrontAct). ring.front_shows w.rings act ++ []) e)

-- both wait, and a watch is taken
takes : (w : World) (a : FrontAct) (next : Option (List ℕ)) → w.rings.front.told ≡ None → watch_next w.rings.under end.Front ≡ next → front_watched w.rings.under next ≡ Some a
    → Moved w a (ring.Negotiates end.Front TakesWatch ∷ []) (front_step.ring_step false (front_asks w) (frontend_of w) a.answer)
takes w a None told first e = absurd (none-some a e)
takes w a (Some path) told first e =
    of_front (λ (x : FrontAct). Moved w x (ring.Negotiates end.Front TakesWatch ∷ []) (front_step.ring_step false (front_asks w) (frontend_of w) x.answer)) (front_watch w.rings.under path) a (
      ap (λ (f : front_ends.View). record (over w (front_watch w.rings.under path).under) { front = f }) (quiet_ring w.rings.front told),
      ap (λ (n : Option (List ℕ)). watched_lines end.Front n ++ []) first ∙ ap (λ t. lines.Move (moves.Watched mover.Front path) ∷ (front_lines t ++ [])) (sym told),
    ) e

-- no event is pending there
pub front_waits : (w : World) → IsFit w → front.speaks (front_asks w) ≡ false → front.ring_moves (front_asks w) w.rings.front.stage ≡ false → w.rings.under.channels.front_pending ≡ false
front_waits w fit =
    asks_cases (λ (b : FrontBusAsk). front.speaks b ≡ false → front.ring_moves b w.rings.front.stage ≡ false → w.rings.under.channels.front_pending ≡ false) w
    (λ left quiet still. absurd (true≢false (sym (left_moves w.rings.front.stage left) ∙ still)))
    (λ none quiet still. front_unpending w.front w.rings.front w.rings.under.channels (front_fits w fit) fit.safe.ported fit.unported quiet still)

waits_watched : (h : Hypervisor) (act : Option FrontAct) → h.channels.front_pending ≡ false → front_act h front_ask.Wait ≡ act → front_watched h (watch_next h end.Front) ≡ act
waits_watched h act none e = subst (λ (b : Bool). (if b then Some (front_event h) else front_watched h (watch_next h end.Front)) ≡ act) none e

waited : (w : World) (a : FrontAct) → IsFit w → front.speaks (front_asks w) ≡ false → front.ring_moves (front_asks w) w.rings.front.stage ≡ false
    → Moves w a (front_says w []) front_ask.Wait (λ x. front_step.ring_step false (front_asks w) (frontend_of w) x)
waited w a fit quiet still e =
    let watched = takes w a (watch_next w.rings.under end.Front) fit.safe.front_told refl (waits_watched w.rings.under (Some a) (front_waits w fit quiet still) e) in
    subst (λ (move : KeyMove). Moved w a (ring.Negotiates end.Front move ∷ []) (front_step.ring_step false (front_asks w) (frontend_of w) a.answer)) (sym (quiet_front (front_asks w) quiet)) watched

-- each key that the negotiation sets it may set
pub front_sets_asked : (w : World) → IsFit w → FrontMaySet (front_asks w)
front_sets_asked w fit = asks_cases FrontMaySet w (λ left. tt) (λ none. front_sets w.front (front_view.is_unoccupied w.rings.front))

goes : (w : World) (a : FrontAct) → IsFit w → front_turn w ≡ Some a → Moved w a (front_does w) (front_step.step_of (frontend_of w) a.answer)
goes w a fit turn =
    front_cases (Moves w a) w
    (λ is e.
    subst (λ (act : Option FrontAct). Moved w a (front_says w (entered_at w act)) (front_step.spoken (frontend_of w) a.answer)) (sym turn)
    (says w a fit.safe.front_told (keyed (front_asks w) w a (front_sets_asked w fit) is e)))
    (λ quiet does. moved w a) (waited w a fit) turn

-- no disk is called
enters_disk : (states : List FrontState) (r : rings.World) (d : DiskSeen) → ring.DiskRuns (map ring.FrontEnters states) r d d
enters_disk [] r d = refl
enters_disk (s ∷ states) r d = (d, refl, enters_disk states (ring.happens r (ring.FrontEnters s)) d)

abbrev CallsNone : World → DiskSeen → List ring.Happening → FrontAsk → (FrontAnswer → front_view.View) → Type 0
CallsNone w d does ask step = ring.DiskRuns does w.rings d d

calls_none : (w : World) (d : DiskSeen) → DiskGoes w FrontMoves d d
calls_none w d = front_cases (CallsNone w d) w (λ is. (d, refl, enters_disk (entered_at w (front_turn w)) _ d)) (λ quiet does. (d, refl, refl)) (λ quiet still. (d, refl, refl))

pub front_move_is : (w : World) (a : FrontAct) → IsFit w → front_turn w ≡ Some a → IsFrontMove w a
front_move_is w a fit e =
    let is = goes w a fit e in
    let v : front_view.View = front_step.step_of (frontend_of w) a.answer in
    record {
      world = ap (λ (act : Option FrontAct). with_bus (ring.after (front_does w) w.rings) (front_bus_after w act)) e ∙ ap (λ (r : rings.World). with_bus r v.bus) is.0;
      lines = is.1;
      disk = calls_none w;
      made = ap (λ (t : GrantTable). t.made) (made_front w.rings.under (front.ask_of (frontend_of w)) a e);
    }
  where
    with_bus : rings.World → FrontView → World
    with_bus r u = record { rings = r; front = u; back = w.back }

-- where the front has no act nothing happens
abbrev Still : World → List ring.Happening → FrontAsk → (FrontAnswer → front_view.View) → Type 0
Still w does ask step = front_act w.rings.under ask ≡ None → (ring.after does w.rings ≡ w.rings) × (ring.lines_of does w.rings ≡ [])

unwatched : (h : Hypervisor) (next : Option (List ℕ)) → front_watched h next ≡ None → next ≡ None
unwatched h None e = refl
unwatched h (Some path) e = absurd (none-some _ (sym e))

takes_none : (w : World) → watch_next w.rings.under end.Front ≡ None
    → (ring.after (ring.Negotiates end.Front TakesWatch ∷ []) w.rings ≡ w.rings) × (ring.lines_of (ring.Negotiates end.Front TakesWatch ∷ []) w.rings ≡ [])
takes_none w none =
    (ap (λ (d : Directory). over w (with_keys w.rings.under d)) (still_taken w.rings.under.keys end.Front none), ap (λ (n : Option (List ℕ)). watched_lines end.Front n ++ []) none)

waits_still : (w : World) → IsFit w → front.speaks (front_asks w) ≡ false → front.ring_moves (front_asks w) w.rings.front.stage ≡ false
    → Still w (front_says w []) front_ask.Wait (λ x. front_step.ring_step false (front_asks w) (frontend_of w) x)
waits_still w fit quiet still e =
    let next = unwatched w.rings.under _ (waits_watched w.rings.under None (front_waits w fit quiet still) e) in
    subst (λ (move : KeyMove). (ring.after (ring.Negotiates end.Front move ∷ []) w.rings ≡ w.rings) × (ring.lines_of (ring.Negotiates end.Front move ∷ []) w.rings ≡ [])) (sym (quiet_front (front_asks w) quiet)) (takes_none w next)

still : (w : World) → IsFit w → Still w (front_does w) (front.ask_of (frontend_of w)) (λ x. front_step.step_of (frontend_of w) x)
still w fit =
    front_cases (Still w) w (λ is e. absurd (front_speaks w.rings.under (front_asks w) is e))
    (λ quiet does e. (ap (λ (act : Option FrontAct). ring.front_after w.rings act) e, ap (λ (act : Option FrontAct). ring.front_shows w.rings act ++ []) e))
    (waits_still w fit)

pub front_move_none : (w : World) → IsFit w → front_turn w ≡ None → IsNoMove w FrontMoves
front_move_none w fit e =
    let is = still w fit e in
    record {
      world = ap (λ (act : Option FrontAct). with_bus (ring.after (front_does w) w.rings) (front_bus_after w act)) e ∙ ap (λ (r : rings.World). with_bus r w.front) is.0;
      lines = is.1;
      disk = calls_none w;
    }
  where
    with_bus : rings.World → FrontView → World
    with_bus r u = record { rings = r; front = u; back = w.back }

-- the machine after a move of the front that made this of it
abbrev pub front_to : World → FrontAct → front_view.View → World
front_to w a x = record { rings = record { front = (front_view.heard x).ring; back = w.rings.back; under = a.under }; front = x.bus; back = w.back }

-- what is true after each act of the front, and where it has none, is true after its move
pub after_front_move : (P : Option FrontAct → World → Type 0) (w : World) → IsFit w → P None w → ((a : FrontAct) → front_turn w ≡ Some a → P (Some a) (front_to w a (front_step.step_of (frontend_of w) a.answer))) → P (front_turn w) (happens w FrontMoves)
after_front_move P w fit none some = by_act (front_turn w) refl
  where
    by_act : (act : Option FrontAct) → front_turn w ≡ act → P act (happens w FrontMoves)
    by_act None e = let still : IsNoMove w FrontMoves = front_move_none w fit e in subst (P None) (sym still.world) none
    by_act (Some a) e = let moved : IsFrontMove w a = front_move_is w a fit e in subst (P (Some a)) (sym moved.world) (some a e)

-- the front is asked to close
close_shows : (may : Bool) → (if may then state_lines enter.Closing else []) ≡ news_lines (if may then Some news.Closing else None)
close_shows true = refl
close_shows false = refl

front_close_is : (w : World) → IsFit w → IsClose w end.Front
front_close_is w fit = record {
  world = ap (λ (f : front_ends.View). record { rings = record { front = f; back = w.rings.back; under = w.rings.under }; front = closed w.front; back = w.back }) (quiet_ring (enters enter.Closing w.rings.front) ((entered_kept enter.Closing w.rings.front).told ∙ fit.safe.front_told));
  lines = append-nil (ring.enter_lines enter.Closing w.rings.front) ∙ close_shows (may_enter enter.Closing w.rings.front);
  disk = λ d. (d, refl, refl);
}

-- and either end is
pub close_is : (w : World) (at : End) → IsFit w → IsClose w at
close_is w end.Front fit = front_close_is w fit
close_is w end.Back fit = record { world = refl; lines = refl; disk = λ d. refl }
