-- What each end read last of the other's state, told from its asks.
use Rattle.std.specs.Prelude.{Bool, true, false, List, [], ◌∷◌, Option}
use Rattle.xenbus_state.specs.States.{state_read}
use Rattle.xenbus_state.specs.declared.state.BusState.{BusState}
use Rattle.xenbus_state.specs.declared.state.BusState.TheVariants as state
use Rattle.xenbus_state.specs.declared.stage.FrontBusStage.{FrontBusStage}
use Rattle.xenbus_state.specs.declared.stage.FrontBusStage.TheVariants as front
use Rattle.xenbus_state.specs.declared.stage.BackBusStage.{BackBusStage}
use Rattle.xenbus_state.specs.declared.stage.BackBusStage.TheVariants as back
use Rattle.xenbus_state.specs.declared.front.FrontBusAsk.{FrontBusAsk}
use Rattle.xenbus_state.specs.declared.front.FrontBusAsk.TheVariants as front_ask
use Rattle.xenbus_state.specs.declared.back.BackBusAsk.{BackBusAsk}
use Rattle.xenbus_state.specs.declared.back.BackBusAsk.TheVariants as back_ask
use Rattle.xenbus_state.specs.FrontAsk as front_asks
use Rattle.xenbus_state.specs.BackAsk as back_asks
use Rattle.negotiation_laws.specs.Negotiation.{Negotiation, front_state, back_state, key_read}
use Rattle.negotiation_laws.specs.Happening.{Happening, FrontMoves, BackMoves, happened}

-- an end that listens has set its watch, is not about to read the other's state, and hasn't ended
abbrev pub front_listens : FrontBusStage → Bool
front_listens front.Start = false
front_listens front.ReadState = false
front_listens front.Closed = false
front_listens (front.Broken word) = false
front_listens s = true

-- so a back
abbrev pub back_listens : BackBusStage → Bool
back_listens (back.Publish key) = false
back_listens (back.WriteState state.InitWait) = false
back_listens back.Watch = false
back_listens back.ReadState = false
back_listens back.Halted = false
back_listens s = true

-- what the front read last, after its ask
abbrev pub front_heard_by : FrontBusAsk → Negotiation → Option BusState → Option BusState
front_heard_by front_ask.GetState n last = state_read (key_read n.keys back_state)
front_heard_by a n last = last

-- after a happening
abbrev pub front_heard_in : Happening → Negotiation → Option BusState → Option BusState
front_heard_in (FrontMoves idle port) n last = front_heard_by (front_asks.ask_of n.front idle) n last
front_heard_in h n last = last

-- after these happenings, where it had read this before
abbrev pub front_heard : List Happening → Negotiation → Option BusState → Option BusState
front_heard [] n last = last
front_heard (h ∷ happenings) n last = front_heard happenings (happened h n) (front_heard_in h n last)

-- what the back read last
abbrev pub back_heard_by : BackBusAsk → Negotiation → Option BusState → Option BusState
back_heard_by back_ask.GetState n last = state_read (key_read n.keys front_state)
back_heard_by a n last = last

-- after a happening
abbrev pub back_heard_in : Happening → Negotiation → Option BusState → Option BusState
back_heard_in (BackMoves page) n last = back_heard_by (back_asks.ask_of n.back) n last
back_heard_in h n last = last

-- after these happenings, where it had read this before
abbrev pub back_heard : List Happening → Negotiation → Option BusState → Option BusState
back_heard [] n last = last
back_heard (h ∷ happenings) n last = back_heard happenings (happened h n) (back_heard_in h n last)
