-- Which pages of the ring the front has granted and whose grant it hasn't ended, told from its asks.
use Rattle.std.specs.Prelude.{ℕ, ◌==◌, not, List, [], ◌∷◌, ◌++◌}
use Rattle.std.specs.List.{filter}
use Rattle.xenbus_state.specs.declared.front.FrontBusAsk.{FrontBusAsk}
use Rattle.xenbus_state.specs.declared.front.FrontBusAsk.TheVariants as ask
use Rattle.xenbus_state.specs.FrontAsk.{ask_of}
use Rattle.negotiation_laws.specs.Negotiation.{Negotiation}
use Rattle.negotiation_laws.specs.Happening.{Happening, FrontMoves, happened}

-- an ask of the front grants a page, ends a grant, or leaves them
abbrev pub granted_by : FrontBusAsk → List ℕ → List ℕ
granted_by (ask.Grant page) held = held ++ page ∷ []
granted_by (ask.EndGrant page) held = filter (λ p. not (p == page)) held
granted_by a held = held

-- a happening
abbrev pub granted_in : Happening → Negotiation → List ℕ → List ℕ
granted_in (FrontMoves idle port) n held = granted_by (ask_of n.front idle) held
granted_in h n held = held

-- after these happenings, where these were granted before
abbrev pub granted : List Happening → Negotiation → List ℕ → List ℕ
granted [] n held = held
granted (h ∷ happenings) n held = granted happenings (happened h n) (granted_in h n held)
