-- A move of the back is what the backend asks: its act is done, it is told the answer, and the move is shown with what it made happen.
use Rattle.std.proofs.Common.{◌≡◌, ℕ, Bool, true, false, true≢false, if◌then◌else◌, List, [], ◌∷◌, ◌++◌, map, refl, sym, ap, ◌∙◌, subst, append-nil, decimal}
use Rattle.std.specs.Prelude.{Option, Some, None}
use Rattle.std.proofs.lemmas.Option.{none-some}
use Rattle.blk_base.specs.declared.parts.End.TheVariants as end
use Rattle.blk_base.specs.declared.parts.Mapping.{Mapping}
use Rattle.blk_base.specs.declared.ask.BackAsk.{BackAsk}
use Rattle.blk_base.specs.declared.ask.BackAsk.TheVariants as back_ask
use Rattle.blk_base.specs.declared.ask.BackAnswer.{BackAnswer}
use Rattle.blk_base.specs.declared.ask.BackAnswer.TheVariants as answer
use Rattle.blk_base.specs.declared.moves.BackMover.TheVariants as back_mover
use Rattle.blk_base.specs.declared.moves.Move.TheVariants as moves
use Rattle.blk_base.specs.declared.moves.Mover.TheVariants as mover
use Rattle.schedule_text.specs.declared.line.Line.{Line}
use Rattle.schedule_text.specs.declared.line.Line.TheVariants as lines
use Rattle.blk_io.specs.Disk.{DiskSeen}
use Rattle.key_directory.specs.Directory.{Directory, written}
use Rattle.hypervisor.specs.Hypervisor.{Hypervisor}
use Rattle.hypervisor.specs.Act.{BackAct, Took, back_act, back_watched, watch_next, with_keys}
use Rattle.blk_back.specs.declared.stage.BackStage.{BackStage}
use Rattle.blk_base.specs.declared.halt.Halt.{Halt}
use Rattle.blk_back.specs.View as back_ends
use Rattle.blk_back.specs.Ask as back_ring
use Rattle.line_text.proofs.Both.{both_true}
use Rattle.xenbus_state.specs.declared.table.BackHalt.{BackHalt}
use Rattle.xenbus_state.specs.States.{state_number}
use Rattle.xenbus_state.specs.Keys.{back_name, path_under}
use Rattle.xenbus_state.specs.declared.keys.FrontKey.{FrontKey}
use Rattle.xenbus_state.specs.declared.keys.FrontKey.TheVariants as key
use Rattle.xenbus_state.specs.declared.keys.BackKey.{BackKey}
use Rattle.xenbus_state.specs.declared.keys.BackKey.TheVariants as own_key
use Rattle.xenbus_state.specs.declared.values.KeyValue.{KeyValue}
use Rattle.xenbus_state.specs.declared.state.BusState.{BusState}
use Rattle.xenbus_state.specs.declared.state.BusState.TheVariants as state
use Rattle.xenbus_state.specs.Programs.{IsFact}
use Rattle.xenbus_state.specs.BackAsk.{says_closing, unmap_ask, ask_at}
use Rattle.xenbus_state.specs.declared.stage.BackBusStage.{BackBusStage}
use Rattle.xenbus_state.specs.declared.stage.BackBusStage.TheVariants as bus_stage
use Rattle.xenbus_state.specs.BackStep.{step_of}
use Rattle.blk_back.specs.Ask.{is_led}
use Rattle.blk_base.specs.declared.moves.Move.{Move as Shown}
use Rattle.xenbus_state.specs.Values.{text_of, back_value}
use Rattle.xenbus_state.specs.declared.back.BackBusAsk.{BackBusAsk}
use Rattle.xenbus_state.specs.declared.back.BackBusAsk.TheVariants as back_bus
use Rattle.xenbus_state.specs.BackView.{BackView}
use Rattle.split_model.specs.World as rings
use Rattle.split_model.specs.Keys.{KeyMove, Sets, TakesWatch, may_set, is_between, is_early, may_negotiate, watched_lines, key_lines, keys_after, negotiated, negotiated_lines}
use Rattle.split_model.specs.Happening as ring
use Rattle.split_model.specs.Shown.{back_lines, halt_lines}
use Rattle.split_model.proofs.SafeActs.{of_back, back_event, back_watch, made_back}
use Rattle.split_model.proofs.States.{halts_cases}
use Rattle.vbd_back.specs.View as back_view
use Rattle.vbd_back.specs.Ask as back
use Rattle.vbd_back.specs.Step as back_step
use Rattle.vbd_model.specs.World.{World, backend_of}
use Rattle.vbd_model.specs.Happening.{happens, BackMoves, back_key, halted_at, reasons_of, attaches, back_does, back_turn, back_bus_after, DiskGoes}
use Rattle.vbd_model.specs.Fit.{BackGoesWith, IsFit}
use Rattle.vbd_laws.specs.Moves.{IsBackMove, IsNoMove}
use Rattle.vbd_laws.proofs.MovesAttached.{halted_only, all_halt, IsSaid, layout_asked, not_led, taken}
use Rattle.vbd_laws.proofs.KeysSet.{BackMaySet, back_state_set, back_sets, back_unpending, may_turn, back_turns}
use Rattle.vbd_laws.proofs.MovesTurns.{back_asks, back_says, back_learns, back_takes, back_cases, quiet_back, waits_quiet, back_speaks}
use Rattle.vbd_laws.proofs.MovesFront.{still_taken}

-- the rings after this, and its lines, are as the answer makes them
abbrev Moved : World → BackAct → List ring.Happening → back_view.View → Type 0
Moved w a does v =
    (ring.after does w.rings ≡ record { front = w.rings.front; back = (back_view.heard v).ring; under = a.under })
    × (ring.lines_of does w.rings ≡ lines.Move a.shown ∷ (back_lines v.ring.told a.answer ++ halt_lines w.rings.back.halted v.ring.halted))

abbrev Moves : World → BackAct → List ring.Happening → BackAsk → (BackAnswer → back_view.View) → Type 0
Moves w a does ask step = back_act w.rings.under back_mover.Back ask Took ≡ Some a → Moved w a does (step a.answer)

-- a back that has nothing to tell is as it was once it was heard, and one that halts does so once
quiet_ring : (b : back_ends.View) → b.told ≡ None → b ≡ record b { told = None }
quiet_ring b told = ap (λ t. record b { told = t }) told

halts_no_more : (halted : Option Halt) → halt_lines halted halted ≡ []
halts_no_more None = refl
halts_no_more (Some h) = refl

-- the rings over these
abbrev over : World → Hypervisor → rings.World
over w h = record { front = w.rings.front; back = w.rings.back; under = h }

-- the move alone is shown, and changes keys alone
abbrev Keyed : World → KeyMove → BackAct → Type 0
Keyed w move a = (ring.happens w.rings (ring.Negotiates end.Back move) ≡ over w a.under) × (ring.lines_at w.rings (ring.Negotiates end.Back move) ≡ lines.Move a.shown ∷ [])

-- between two entries and two replies the back may turn to its keys
turns : (s : BackStage) (move : KeyMove) (d : Directory) → may_negotiate s end.Back move ≡ true
    → (negotiated s end.Back move d ≡ keys_after end.Back move d) × (negotiated_lines s end.Back move d ≡ key_lines end.Back move d)
turns s move d may = (rw may refl, rw may refl)

-- a key that may be set is
sets : (path text : List ℕ) (d : Directory) → may_set end.Back path text ≡ true
    → (keys_after end.Back (Sets path text) d ≡ written d path text) × (key_lines end.Back (Sets path text) d ≡ lines.Move (moves.SetKey mover.Back path text) ∷ [])
sets path text d may = (rw may refl, rw may refl)

turned : (w : World) (move : KeyMove) (d : Directory) (ls : List Line) → may_negotiate w.rings.back.stage end.Back move ≡ true → keys_after end.Back move w.rings.under.keys ≡ d → key_lines end.Back move w.rings.under.keys ≡ ls
    → (ring.happens w.rings (ring.Negotiates end.Back move) ≡ over w (with_keys w.rings.under d)) × (ring.lines_at w.rings (ring.Negotiates end.Back move) ≡ ls)
turned w move d ls turn keys shown =
    let may = turns w.rings.back.stage move w.rings.under.keys turn in (ap (λ (k : Directory). over w (with_keys w.rings.under k)) (may.0 ∙ keys), may.1 ∙ shown)

back_set : (w : World) (path text : List ℕ) → may_negotiate w.rings.back.stage end.Back (Sets path text) ≡ true → may_set end.Back path text ≡ true
    → (ring.happens w.rings (ring.Negotiates end.Back (Sets path text)) ≡ over w (with_keys w.rings.under (written w.rings.under.keys path text)))
    × (ring.lines_at w.rings (ring.Negotiates end.Back (Sets path text)) ≡ lines.Move (moves.SetKey mover.Back path text) ∷ [])
back_set w path text turn may = let set = sets path text w.rings.under.keys may in turned w (Sets path text) _ _ turn set.0 set.1

-- what the negotiation asks of the keys is done
keyed : (ask : BackBusAsk) (w : World) (a : BackAct) → is_between w.rings.back.stage ≡ true → (is_early (back_key ask) ≡ true → is_led w.rings.back.stage ≡ true) → BackMaySet ask → back.speaks ask ≡ true
    → back_act w.rings.under back_mover.Back (back.key_ask ask) Took ≡ Some a → Keyed w (back_key ask) a
keyed back_bus.Watch w a between led may is e = of_back (λ (x : BackAct). Keyed w (back_key back_bus.Watch) x) _ a (turned w (back_key back_bus.Watch) _ _ (may_turn (back_key back_bus.Watch) w.rings.back.stage between led) refl refl) e
keyed back_bus.GetState w a between led may is e = of_back (λ (x : BackAct). Keyed w (back_key back_bus.GetState) x) _ a (turned w (back_key back_bus.GetState) _ _ (may_turn (back_key back_bus.GetState) w.rings.back.stage between led) refl refl) e
keyed (back_bus.GetKey k) w a between led may is e =
    of_back (λ (x : BackAct). Keyed w (back_key (back_bus.GetKey k)) x) _ a (turned w (back_key (back_bus.GetKey k)) _ _ (may_turn (back_key (back_bus.GetKey k)) w.rings.back.stage between led) refl refl) e
keyed (back_bus.SetKey k value) w a between led may is e =
    of_back (λ (x : BackAct). Keyed w (back_key (back_bus.SetKey k value)) x) _ a (back_set w (path_under end.Back (back_name k)) (text_of value) (may_turn (back_key (back_bus.SetKey k value)) w.rings.back.stage between led) may) e
keyed (back_bus.SetState s) w a between led may is e =
    of_back (λ (x : BackAct). Keyed w (back_key (back_bus.SetState s)) x) _ a (back_set w back.own_state (decimal (state_number s)) (may_turn (back_key (back_bus.SetState s)) w.rings.back.stage between led) (back_state_set (decimal (state_number s)))) e
keyed ask w a between led may is e = absurd (true≢false (sym is))

-- a halt tells nothing, and shows its line
halted_told : (reason : Option BackHalt) (b : back_ends.View) → (halted_only reason b).told ≡ b.told
halted_told None b = refl
halted_told (Some why) b = halts_cases (λ (x : back_ends.View). x.told ≡ b.told) (back_step.ring_halt why) b (λ here. refl) (λ here. refl) refl

halted_lines : (reason : Option BackHalt) (r : rings.World) → ring.lines_of (map ring.BackHalts (reasons_of reason)) r ≡ halt_lines r.back.halted (let b : back_ends.View = halted_only reason r.back in b.halted)
halted_lines None r = sym (halts_no_more r.back.halted)
halted_lines (Some why) r = append-nil _

-- the negotiation speaks
says : (w : World) (a : BackAct) → IsFit w → IsSaid w a → attaches w (back_learns w) ≡ false → Keyed w (back_key (back_asks w)) a
    → Moved w a (back_says w (reasons_of (back_step.halt_of (backend_of w) a.answer))) (back_step.spoken (backend_of w) a.answer)
says w a fit said untaken is =
    let reason : Option BackHalt = back_step.halt_of (backend_of w) a.answer in
    let halted : back_ends.View = halted_only reason w.rings.back in
    let quiet : halted.told ≡ None = halted_told reason w.rings.back ∙ fit.safe.back_told in
    subst (λ (y : back_ends.View). Moved w a (back_says w (reasons_of reason)) (back_step.heard_by y (backend_of w) a.answer)) (sym (not_led w a fit said untaken)) (
      ap (λ (r : rings.World). ring.after (map ring.BackHalts (reasons_of reason)) r) is.0 ∙ (all_halt reason (over w a.under) ∙ ap (λ (b : back_ends.View). record (over w a.under) { back = b }) (quiet_ring halted quiet)),
      ap (λ (ls : List Line). ls ++ ring.lines_of (map ring.BackHalts (reasons_of reason)) (ring.happens w.rings (ring.Negotiates end.Back (back_key (back_asks w))))) is.1
          ∙ ap (λ (ls : List Line). lines.Move a.shown ∷ ls) (halted_lines reason _ ∙ sym (ap (λ t. back_lines t a.answer ++ halt_lines w.rings.back.halted halted.halted) quiet)),
    )

-- the layout is read, and its end of the ring takes the terms
attached : (w : World) (a : BackAct) → w.rings.back.told ≡ None → back_turn w ≡ Some a → back.bus_moves (back_asks w) w.rings.back.stage ≡ true → attaches w (back_learns w) ≡ true
    → Moves w a (back_takes (back_learns w)) (back.key_ask (back_asks w)) (λ x. back_step.spoken (backend_of w) x)
attached w a told turn does takes e =
    let took = taken w a (record { turn = turn; moves = does }) takes in
    let acts : back_act w.rings.under back_mover.Back (back.key_ask (back_bus.GetKey key.Protocol)) Took ≡ Some a =
    ap (λ (ask : BackBusAsk). back_act w.rings.under back_mover.Back (back.key_ask ask) Took) (sym (layout_asked w.back took.reads)) ∙ e in
    let same : (a.under ≡ w.rings.under) × (a.shown ≡ ring.layout_read w.rings) = of_back (λ (x : BackAct). (x.under ≡ w.rings.under) × (x.shown ≡ ring.layout_read w.rings)) _ a (refl, refl) acts in
    let y : back_ends.View = back_step.ring_led (back_step.halt_of (backend_of w) a.answer) (back_step.reads_layout (back_asks w)) (step_of w.back a.answer) w.rings.back in
    let quiet : y.told ≡ None = ap (λ (b : back_ends.View). b.told) took.led ∙ told in
    let running : y.halted ≡ w.rings.back.halted = ap (λ (b : back_ends.View). b.halted) took.led in (
      took.after ∙ (ap (λ (b : back_ends.View). record w.rings { back = b }) (quiet_ring y quiet) ∙ ap (λ (h : Hypervisor). record (over w h) { back = record y { told = None } }) (sym same.0)),
      ap (λ (yes : Bool). (if yes then lines.Move (ring.layout_read w.rings) ∷ [] else []) ++ []) took.goes
          ∙ (ap (λ (m : Shown). lines.Move m ∷ []) (sym same.1)
          ∙ ap (λ (ls : List Line). lines.Move a.shown ∷ ls) (sym (ap (λ t. back_lines t a.answer ++ halt_lines w.rings.back.halted y.halted) quiet ∙ (ap (λ (h : Option Halt). halt_lines w.rings.back.halted h) running ∙ halts_no_more w.rings.back.halted)))),
    )

-- its end of the ring moves
moved : (w : World) (a : BackAct) → Moves w a (ring.BackMoves ∷ []) (back_ring.ask_of w.rings.back) (λ x. back_step.ring_step true (back_asks w) (backend_of w) x)
moved w a e = (ap (λ (act : Option BackAct). ring.back_after w.rings act) e, ap (λ (act : Option BackAct). ring.back_shows w.rings act ++ []) e ∙ append-nil _)

-- both wait, and a watch is taken
takes : (w : World) (a : BackAct) (next : Option (List ℕ)) → w.rings.back.told ≡ None → is_between w.rings.back.stage ≡ true → watch_next w.rings.under end.Back ≡ next
    → back_watched w.rings.under next ≡ Some a → Moved w a (ring.Negotiates end.Back TakesWatch ∷ []) (back_step.ring_step false (back_asks w) (backend_of w) a.answer)
takes w a None told between first e = absurd (none-some a e)
takes w a (Some path) told between first e =
    let is = turned w TakesWatch _ _ (may_turn TakesWatch w.rings.back.stage between (λ early. absurd (true≢false (sym early)))) refl (ap (λ (n : Option (List ℕ)). watched_lines end.Back n) first) in
    of_back (λ (x : BackAct). Moved w x (ring.Negotiates end.Back TakesWatch ∷ []) (back_step.ring_step false (back_asks w) (backend_of w) x.answer)) (back_watch w.rings.under path) a (
      is.0 ∙ ap (λ (b : back_ends.View). record (over w (back_watch w.rings.under path).under) { back = b }) (quiet_ring w.rings.back told),
      ap (λ (ls : List Line). ls ++ []) is.1
          ∙ ap (λ (ls : List Line). lines.Move (moves.Watched mover.Back path) ∷ ls)
          (sym (ap (λ t. back_lines t (answer.Watched path) ++ halt_lines w.rings.back.halted w.rings.back.halted) told ∙ halts_no_more w.rings.back.halted)),
    ) e

-- no event is pending there, and the back may turn to its keys
pub back_waits : (w : World) → IsFit w → back.bus_moves (back_asks w) w.rings.back.stage ≡ false → back.ring_moves (back_asks w) w.rings.back.stage ≡ false
    → (w.rings.under.channels.back_pending ≡ false) × (is_between w.rings.back.stage ≡ true)
back_waits w fit quiet still = back_unpending w.back w.rings.back.stage w.rings.under.channels fit.back fit.unbound (waits_quiet (back_asks w) w.rings.back.stage quiet still) still

waits_watched : (h : Hypervisor) (act : Option BackAct) → h.channels.back_pending ≡ false → back_act h back_mover.Back back_ask.Wait Took ≡ act → back_watched h (watch_next h end.Back) ≡ act
waits_watched h act none e = subst (λ (b : Bool). (if b then Some (back_event h) else back_watched h (watch_next h end.Back)) ≡ act) none e

waited : (w : World) (a : BackAct) → IsFit w → back.bus_moves (back_asks w) w.rings.back.stage ≡ false → back.ring_moves (back_asks w) w.rings.back.stage ≡ false
    → Moves w a (back_says w []) back_ask.Wait (λ x. back_step.ring_step false (back_asks w) (backend_of w) x)
waited w a fit quiet still e =
    let waits = back_waits w fit quiet still in
    let watched = takes w a (watch_next w.rings.under end.Back) fit.safe.back_told waits.1 refl (waits_watched w.rings.under (Some a) waits.0 e) in
    subst (λ (move : KeyMove). Moved w a (ring.Negotiates end.Back move ∷ []) (back_step.ring_step false (back_asks w) (backend_of w) a.answer))
    (sym (quiet_back (back_asks w) (waits_quiet (back_asks w) w.rings.back.stage quiet still))) watched

-- each key that the negotiation sets it may set
pub back_sets_asked : (w : World) → IsFit w → BackMaySet (back_asks w)
back_sets_asked w fit = back_sets w.back fit.offers

-- its features are published, and the layout is read, while the end of the ring waits for the terms of its front
unmap_late : (pages : List Mapping) → is_early (back_key (unmap_ask pages)) ≡ false
unmap_late [] = refl
unmap_late (page ∷ pages) = refl

fact_late : (k : BackKey) (value : KeyValue) → IsFact k → is_early (back_key (back_bus.SetKey k value)) ≡ false
fact_late own_key.Sectors value is = refl
fact_late own_key.SectorSize value is = refl
fact_late own_key.Info value is = refl
fact_late k value is = absurd is

read_led : (k : FrontKey) (own : BusState) (r : BackStage) → BackGoesWith (bus_stage.ReadKey k) own r → is_early (back_key (back_bus.GetKey k)) ≡ true → is_led r ≡ true
read_led key.Protocol own r goes early = ap is_led goes.1
read_led other own r goes early = absurd (true≢false (sym early))

led_at : (b : BackBusStage) (v : BackView) (r : BackStage) → BackGoesWith b v.state r → is_early (back_key (ask_at b v)) ≡ true → is_led r ≡ true
led_at (bus_stage.Publish k) v r goes early = ap is_led goes.1
led_at (bus_stage.ReadKey k) v r goes early = read_led k v.state r goes early
led_at (bus_stage.PublishFact k) v r goes early = absurd (true≢false (sym early ∙ fact_late k (back_value v.features v.disk k) goes.2))
led_at bus_stage.UnmapPage v r goes early = absurd (true≢false (sym early ∙ unmap_late v.pages))
led_at b v r goes early = absurd (true≢false (sym early))

waits_early : (w : World) → IsFit w → is_early (back_key (back_asks w)) ≡ true → is_led w.rings.back.stage ≡ true
waits_early w fit = by_test (says_closing w.back)
  where
    by_test : (c : Bool) → is_early (back_key (if c then back_bus.SetState state.Closing else ask_at w.back.stage w.back)) ≡ true → is_led w.rings.back.stage ≡ true
    by_test true early = absurd (true≢false (sym early))
    by_test false early = led_at w.back.stage w.back w.rings.back.stage fit.back early

goes : (w : World) (a : BackAct) → IsFit w → back_turn w ≡ Some a → Moved w a (back_does w) (back_step.step_of (backend_of w) a.answer)
goes w a fit turn =
    back_cases (Moves w a) w
    (λ does untaken e.
    subst (λ (act : Option BackAct). Moved w a (back_says w (halted_at w act)) (back_step.spoken (backend_of w) a.answer)) (sym turn)
    (says w a fit (record { turn = turn; moves = does }) untaken
    (keyed (back_asks w) w a (back_turns (back_asks w) w.rings.back.stage does) (waits_early w fit) (back_sets_asked w fit) (both_true (back.speaks (back_asks w)) (back.is_between w.rings.back.stage) does).0 e)))
    (attached w a fit.safe.back_told turn) (λ quiet does. moved w a) (waited w a fit) turn

-- no disk is called
abbrev CallsNone : World → DiskSeen → List ring.Happening → BackAsk → (BackAnswer → back_view.View) → Type 0
CallsNone w d does ask step = ring.DiskRuns does w.rings d d

halts_disk : (reasons : List Halt) (r : rings.World) (d : DiskSeen) → ring.DiskRuns (map ring.BackHalts reasons) r d d
halts_disk [] r d = refl
halts_disk (why ∷ reasons) r d = (d, refl, halts_disk reasons (ring.happens r (ring.BackHalts why)) d)

calls_none : (w : World) (d : DiskSeen) → DiskGoes w BackMoves d d
calls_none w d = back_cases (CallsNone w d) w (λ does untaken. (d, refl, halts_disk (halted_at w (back_turn w)) _ d)) (λ does takes. (d, refl, refl)) (λ quiet does. (d, refl, refl)) (λ quiet still. (d, refl, refl))

-- the machine with this of the rings, and of the back's negotiation
abbrev with_back : World → rings.World → BackView → World
with_back w r u = record { rings = r; front = w.front; back = u }

pub back_move_is : (w : World) (a : BackAct) → IsFit w → back_turn w ≡ Some a → IsBackMove w a
back_move_is w a fit e =
    let is = goes w a fit e in
    let v : back_view.View = back_step.step_of (backend_of w) a.answer in
    record {
      world = ap (λ (act : Option BackAct). with_back w (ring.after (back_does w) w.rings) (back_bus_after w act)) e ∙ ap (λ (r : rings.World). with_back w r v.bus) is.0;
      lines = is.1;
      disk = calls_none w;
      made = made_back w.rings.under back_mover.Back (back.ask_of (backend_of w)) Took a e;
    }

-- where the back has no act nothing happens
abbrev Still : World → List ring.Happening → BackAsk → (BackAnswer → back_view.View) → Type 0
Still w does ask step = back_act w.rings.under back_mover.Back ask Took ≡ None → (ring.after does w.rings ≡ w.rings) × (ring.lines_of does w.rings ≡ [])

unwatched : (h : Hypervisor) (next : Option (List ℕ)) → back_watched h next ≡ None → next ≡ None
unwatched h None e = refl
unwatched h (Some path) e = absurd (none-some _ (sym e))

takes_none : (w : World) → is_between w.rings.back.stage ≡ true → watch_next w.rings.under end.Back ≡ None
    → (ring.after (ring.Negotiates end.Back TakesWatch ∷ []) w.rings ≡ w.rings) × (ring.lines_of (ring.Negotiates end.Back TakesWatch ∷ []) w.rings ≡ [])
takes_none w between none =
    let may = turns w.rings.back.stage TakesWatch w.rings.under.keys (may_turn TakesWatch w.rings.back.stage between (λ early. absurd (true≢false (sym early)))) in (
      ap (λ (d : Directory). over w (with_keys w.rings.under d)) (may.0 ∙ still_taken w.rings.under.keys end.Back none),
      ap (λ (ls : List Line). ls ++ []) (may.1 ∙ ap (λ (n : Option (List ℕ)). watched_lines end.Back n) none),
    )

waits_still : (w : World) → IsFit w → back.bus_moves (back_asks w) w.rings.back.stage ≡ false → back.ring_moves (back_asks w) w.rings.back.stage ≡ false
    → Still w (back_says w []) back_ask.Wait (λ x. back_step.ring_step false (back_asks w) (backend_of w) x)
waits_still w fit quiet still e =
    let waits = back_waits w fit quiet still in
    let next = unwatched w.rings.under _ (waits_watched w.rings.under None waits.0 e) in
    subst (λ (move : KeyMove). (ring.after (ring.Negotiates end.Back move ∷ []) w.rings ≡ w.rings) × (ring.lines_of (ring.Negotiates end.Back move ∷ []) w.rings ≡ []))
    (sym (quiet_back (back_asks w) (waits_quiet (back_asks w) w.rings.back.stage quiet still))) (takes_none w waits.1 next)

still : (w : World) → IsFit w → Still w (back_does w) (back.ask_of (backend_of w)) (λ x. back_step.step_of (backend_of w) x)
still w fit =
    back_cases (Still w) w (λ does untaken e. absurd (back_speaks w.rings.under (back_asks w) (both_true (back.speaks (back_asks w)) (back.is_between w.rings.back.stage) does).0 e))
    (λ does takes e. absurd (back_speaks w.rings.under (back_asks w) (both_true (back.speaks (back_asks w)) (back.is_between w.rings.back.stage) does).0 e))
    (λ quiet does e. (ap (λ (act : Option BackAct). ring.back_after w.rings act) e, ap (λ (act : Option BackAct). ring.back_shows w.rings act ++ []) e))
    (waits_still w fit)

pub back_move_none : (w : World) → IsFit w → back_turn w ≡ None → IsNoMove w BackMoves
back_move_none w fit e =
    let is = still w fit e in
    record {
      world = ap (λ (act : Option BackAct). with_back w (ring.after (back_does w) w.rings) (back_bus_after w act)) e ∙ ap (λ (r : rings.World). with_back w r w.back) is.0;
      lines = is.1;
      disk = calls_none w;
    }

-- the machine after a move of the back that made this of it
abbrev pub back_to : World → BackAct → back_view.View → World
back_to w a x = record { rings = record { front = w.rings.front; back = (back_view.heard x).ring; under = a.under }; front = w.front; back = x.bus }

-- what is true after each act of the back, and where it has none, is true after its move
pub after_back_move : (P : Option BackAct → World → Type 0) (w : World) → IsFit w → P None w → ((a : BackAct) → back_turn w ≡ Some a → P (Some a) (back_to w a (back_step.step_of (backend_of w) a.answer))) → P (back_turn w) (happens w BackMoves)
after_back_move P w fit none some = by_act (back_turn w) refl
  where
    by_act : (act : Option BackAct) → back_turn w ≡ act → P act (happens w BackMoves)
    by_act None e = let still : IsNoMove w BackMoves = back_move_none w fit e in subst (P None) (sym still.world) none
    by_act (Some a) e = let moved : IsBackMove w a = back_move_is w a fit e in subst (P (Some a)) (sym moved.world) (some a e)
