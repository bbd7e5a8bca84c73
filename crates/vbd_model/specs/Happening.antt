-- What may happen to the machine, and what that is to the ends of its ring and to each end's negotiation.
use Rattle.std.specs.Prelude.{◌≡◌, ℕ, Bool, true, false, ◌&&◌, List, [], ◌∷◌, ◌++◌, map, Option, Some, None, if◌then◌else◌, decimal}
use Rattle.blk_base.specs.declared.config.Submission.{Submission}
use Rattle.blk_io.specs.Disk.{DiskSeen}
use Rattle.blk_base.specs.declared.parts.End.{End}
use Rattle.blk_base.specs.declared.parts.End.TheVariants as end
use Rattle.blk_base.specs.declared.moves.BackMover.TheVariants as back_mover
use Rattle.schedule_text.specs.declared.line.Line.{Line}
use Rattle.hypervisor.specs.Act.{FrontAct, BackAct, Outcome, Took, front_act, back_act}
use Rattle.blk_front.specs.State.{is_open}
use Rattle.blk_front.specs.declared.state.FrontState.{FrontState}
use Rattle.blk_front.specs.declared.state.FrontState.TheVariants as front_state
use Rattle.blk_base.specs.declared.halt.Halt.{Halt}
use Rattle.xenbus_state.specs.declared.table.BackHalt.{BackHalt}
use Rattle.xenbus_state.specs.declared.front.FrontBusAsk.{FrontBusAsk}
use Rattle.xenbus_state.specs.declared.front.FrontBusAsk.TheVariants as front_ask
use Rattle.xenbus_state.specs.declared.back.BackBusAsk.{BackBusAsk}
use Rattle.xenbus_state.specs.declared.back.BackBusAsk.TheVariants as back_ask
use Rattle.xenbus_state.specs.States.{state_number}
use Rattle.xenbus_state.specs.Keys.{front_name, back_name, path_under}
use Rattle.xenbus_state.specs.Values.{text_of}
use Rattle.xenbus_state.specs.FrontView.{FrontView, closed, suspended}
use Rattle.xenbus_state.specs.BackView.{BackView, unplugged, start_of, halted_of}
use Rattle.split_model.specs.Keys.{KeyMove, Gets, Sets, Watches, TakesWatch}
use Rattle.split_model.specs.Happening as ring
use Rattle.split_model.specs.World as ring_world
use Rattle.vbd_front.specs.Ask as front
use Rattle.vbd_front.specs.Step as front_step
use Rattle.vbd_back.specs.Ask as back
use Rattle.vbd_back.specs.Step as back_step
use Rattle.vbd_model.specs.World.{World, frontend_of, backend_of}

-- a move of the front, of the back, or of the job of a number with what the disk answers it; an end that is asked to close; a submission; a spurious event at an end's bound port; a word of the guest's memory, or a key of the front, overwritten by a hostile hand; the domain suspended and resumed; a look at the words of the ring, at whether all is quiet, with what was found, and one when the rounds are over
pub data Happening : Type 0 where
  FrontMoves : Happening
  BackMoves : Happening
  JobMoves : (number : ℕ) (outcome : Outcome) → Happening
  Closes : (at : End) → Happening
  Submits : (job : Submission) → Happening
  Notifies : (at : End) → Happening
  Pokes : (frame word value : ℕ) → Happening
  OverwritesKey : (name text : List ℕ) → Happening
  Suspends : Happening
  Dumps : Happening
  Looks : (quiet : Bool) → Happening
  Settles : (quiet : Bool) → Happening

-- what a negotiation that asks for this does with the keys; one that has nothing to ask for takes its watch, where one fired
abbrev pub front_key : FrontBusAsk → KeyMove
front_key front_ask.Watch = Watches front.other_state
front_key front_ask.GetState = Gets front.other_state
front_key (front_ask.GetKey key) = Gets (path_under end.Back (back_name key))
front_key (front_ask.SetState s) = Sets front.own_state (decimal (state_number s))
front_key (front_ask.SetKey key value) = Sets (path_under end.Front (front_name key)) (text_of value)
front_key a = TakesWatch

abbrev pub back_key : BackBusAsk → KeyMove
back_key back_ask.Watch = Watches back.other_state
back_key back_ask.GetState = Gets back.other_state
back_key (back_ask.GetKey key) = Gets (path_under end.Front (front_name key))
back_key (back_ask.SetState s) = Sets back.own_state (decimal (state_number s))
back_key (back_ask.SetKey key value) = Sets (path_under end.Back (back_name key)) (text_of value)
back_key a = TakesWatch

-- the end of the ring has the move, which its negotiation leaves it
abbrev pub is_fronts_ring : World → Bool
is_fronts_ring w =
    let a : FrontBusAsk = front.bus_ask_of (frontend_of w) in
    if front.speaks a then false else front.ring_moves a w.rings.front.stage

abbrev pub is_backs_ring : World → Bool
is_backs_ring w =
    let a : BackBusAsk = back.bus_ask_of (backend_of w) in
    if back.bus_moves a w.rings.back.stage then false else back.ring_moves a w.rings.back.stage

-- the acts of both ends as the machine stands, by what each asks
abbrev pub front_turn : World → Option FrontAct
front_turn w = front_act w.rings.under (front.ask_of (frontend_of w))

abbrev pub back_turn : World → Option BackAct
back_turn w = back_act w.rings.under back_mover.Back (back.ask_of (backend_of w)) Took

-- what comes of an answer to the front's negotiation for its end of the ring, which enters states, and to the back's, whose end may halt
abbrev pub entered_at : World → Option FrontAct → List FrontState
entered_at w None = []
entered_at w (Some a) = front_step.states_after (frontend_of w) a.answer

abbrev pub reasons_of : Option BackHalt → List Halt
reasons_of None = []
reasons_of (Some why) = back_step.ring_halt why ∷ []

abbrev pub halted_at : World → Option BackAct → List Halt
halted_at w None = []
halted_at w (Some a) = reasons_of (back_step.halt_of (backend_of w) a.answer)

abbrev pub front_enters : (speaks : Bool) → World → List ring.Happening
front_enters speaks w = if speaks then map ring.FrontEnters (entered_at w (front_turn w)) else []

abbrev pub back_halts : (speaks : Bool) → World → List ring.Happening
back_halts speaks w = if speaks then map ring.BackHalts (halted_at w (back_turn w)) else []

-- what a move of an end is to the ring's machine: a move of its end of the ring; of its negotiation with the keys, and what comes of it for its end of the ring; or of both, where the back reads the layout
abbrev pub front_does : World → List ring.Happening
front_does w =
    let a : FrontBusAsk = front.bus_ask_of (frontend_of w) in
    if is_fronts_ring w then ring.FrontMoves ∷ [] else ring.Negotiates end.Front (front_key a) ∷ front_enters (front.speaks a) w

-- what the back's negotiation knows after its act
abbrev pub back_bus_after : World → Option BackAct → BackView
back_bus_after w None = w.back
back_bus_after w (Some a) = (back_step.step_of (backend_of w) a.answer).bus

-- it reads the layout of its front, which its end of the ring can take with the other terms
abbrev pub is_none : List Halt → Bool
is_none [] = true
is_none reasons = false

abbrev pub attaches : World → BackView → Bool
attaches w b =
    let a : BackBusAsk = back.bus_ask_of (backend_of w) in
    back.bus_moves a w.rings.back.stage && back_step.reads_layout a && is_none (halted_at w (back_turn w)) && ring.attaches_at w.rings (back_step.shape_read b) b.grefs

abbrev pub back_negotiates : (attached : Bool) → World → BackView → List ring.Happening
back_negotiates true w b = ring.BackAttaches (back_step.shape_read b) b.grefs b.terms.port ∷ []
back_negotiates false w b =
    let a : BackBusAsk = back.bus_ask_of (backend_of w) in
    ring.Negotiates end.Back (back_key a) ∷ back_halts (back.bus_moves a w.rings.back.stage) w

abbrev pub back_does : World → List ring.Happening
back_does w =
    let b : BackView = back_bus_after w (back_turn w) in
    if is_backs_ring w then ring.BackMoves ∷ [] else back_negotiates (attaches w b) w b

-- a front that is asked to close begins to close; a back writes Closing in its next move
abbrev pub closes_does : End → List ring.Happening
closes_does end.Front = ring.FrontEnters front_state.Closing ∷ []
closes_does end.Back = []

-- what something that happens is to the ring's machine
abbrev pub does : World → Happening → List ring.Happening
does w FrontMoves = front_does w
does w BackMoves = back_does w
does w (JobMoves number outcome) = ring.JobMoves number outcome ∷ []
does w (Closes at) = closes_does at
does w (Submits job) = ring.Submits job ∷ []
does w (Notifies at) = ring.Notifies at ∷ []
does w (Pokes frame word value) = ring.Pokes frame word value ∷ []
does w (OverwritesKey name text) = ring.OverwritesKey name text ∷ []
does w Suspends = ring.Suspends ∷ []
does w Dumps = ring.Dumps ∷ []
does w (Looks quiet) = ring.Looks quiet ∷ []
does w (Settles quiet) = ring.Settles quiet ∷ []

-- each end's negotiation after its act
abbrev pub front_bus_after : World → Option FrontAct → FrontView
front_bus_after w None = w.front
front_bus_after w (Some a) = (front_step.step_of (frontend_of w) a.answer).bus

-- a new back's negotiation, which has halted where its front is closed or broken
abbrev pub renewed_bus : (going : Bool) → BackView → BackView
renewed_bus true v = start_of v.features v.disk
renewed_bus false v = halted_of v.features v.disk

-- what something that happens makes of each end's negotiation
abbrev pub front_bus : World → Happening → FrontView
front_bus w FrontMoves = front_bus_after w (front_turn w)
front_bus w (Closes end.Front) = closed w.front
front_bus w Suspends = if ring_world.may_suspend w.rings && is_open w.rings.front.stage then suspended w.front else w.front
front_bus w h = w.front

abbrev pub back_bus : World → Happening → BackView
back_bus w BackMoves = back_bus_after w (back_turn w)
back_bus w (Closes end.Back) = unplugged w.back
back_bus w Suspends = if ring_world.may_suspend w.rings then renewed_bus (is_open w.rings.front.stage) w.back else w.back
back_bus w h = w.back

abbrev pub happens : World → Happening → World
happens w h = record { rings = ring.after (does w h) w.rings; front = front_bus w h; back = back_bus w h }

abbrev pub lines_at : World → Happening → List Line
lines_at w h = ring.lines_of (does w h) w.rings

abbrev pub DiskGoes : World → Happening → DiskSeen → DiskSeen → Type 0
DiskGoes w h before after = ring.DiskRuns (does w h) w.rings before after

-- the machine after all this
abbrev pub after : List Happening → World → World
after [] w = w
after (h ∷ hs) w = after hs (happens w h)

-- the report of all this
abbrev pub lines_of : List Happening → World → List Line
lines_of [] w = []
lines_of (h ∷ hs) w = lines_at w h ++ lines_of hs (happens w h)

-- what all this makes of the disk
abbrev pub DiskRuns : List Happening → World → DiskSeen → DiskSeen → Type 0
DiskRuns [] w before after = after ≡ before
DiskRuns (h ∷ hs) w before after = (between : DiskSeen) × DiskGoes w h before between × DiskRuns hs (happens w h) between after

-- what all this is to the ring's machine
abbrev pub all_does : List Happening → World → List ring.Happening
all_does [] w = []
all_does (h ∷ hs) w = does w h ++ all_does hs (happens w h)
