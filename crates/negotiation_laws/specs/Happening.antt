-- What may happen to a negotiation, in any order: a move of an end, or that an end is asked to close.
use Rattle.std.specs.Prelude.{ℕ, ◌≡◌, Bool, true, List, [], ◌∷◌}
use Rattle.blk_base.specs.declared.parts.Mapping.{Mapping}
use Rattle.xenbus_state.specs.declared.state.BusState.TheVariants as state
use Rattle.xenbus_state.specs.FrontView as front
use Rattle.xenbus_state.specs.BackView as back
use Rattle.negotiation_laws.specs.Negotiation.{Negotiation, front_moved, back_moved}

-- A move of the front while it is idle or not, with the port that it is given if it asks for one; of the back, with the mapping that it is given.
pub data Happening : Type 0 where
  FrontMoves : (idle : Bool) (port : ℕ) → Happening
  BackMoves : (page : Mapping) → Happening
  FrontCloses : Happening
  BackCloses : Happening

-- what a happening makes of the negotiation
abbrev pub happened : Happening → Negotiation → Negotiation
happened (FrontMoves idle port) n = front_moved idle port n
happened (BackMoves page) n = back_moved page n
happened FrontCloses n = record n { front = front.closed n.front }
happened BackCloses n = record n { back = back.unplugged n.back }

-- the negotiation after them
abbrev pub after : List Happening → Negotiation → Negotiation
after [] n = n
after (h ∷ happenings) n = after happenings (happened h n)

-- a front that has written Closing has no unfinished request
abbrev pub IsServed : Happening → Negotiation → Type 0
IsServed (FrontMoves idle port) n = n.front.state ≡ state.Closing → idle ≡ true
IsServed h n = Unit {0}

-- at each of these happenings
abbrev pub AreServed : List Happening → Negotiation → Type 0
AreServed [] n = Unit {0}
AreServed (h ∷ happenings) n = IsServed h n × AreServed happenings (happened h n)
