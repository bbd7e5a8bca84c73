-- A run of a negotiation in one epoch: what it begins with, and what happened.
use Rattle.std.specs.Prelude.{List}
use Rattle.xenbus_state.specs.FrontView.{FrontView}
use Rattle.xenbus_state.specs.declared.offer.Features.{Features}
use Rattle.xenbus_state.specs.declared.offer.DiskFacts.{DiskFacts}
use Rattle.negotiation_laws.specs.Negotiation.{Negotiation, start_of}
use Rattle.negotiation_laws.specs.Happening.{Happening, after, AreServed}
use Rattle.negotiation_laws.specs.Within.{IsWithin, HavePorts}

-- a front at the beginning of any epoch, any offer and any disk within their ranges, and any happenings
pub record NegotiationRun : Type 0 where
  pub front : FrontView
  pub offer : Features
  pub facts : DiskFacts
  pub happenings : List Happening
  pub within : IsWithin front offer facts
  pub ports : HavePorts happenings

-- where it begins
abbrev pub begins : NegotiationRun → Negotiation
begins r = start_of r.front r.offer r.facts

-- where it stands
abbrev pub now : NegotiationRun → Negotiation
now r = after r.happenings (begins r)

-- no move found a front that had written Closing with unfinished requests
abbrev pub IsServedRun : NegotiationRun → Type 0
IsServedRun r = AreServed r.happenings (begins r)
