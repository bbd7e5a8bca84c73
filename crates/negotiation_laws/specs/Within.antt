-- The ranges of what a negotiation begins with, and of the ports that it is given.
use Rattle.std.specs.Prelude.{◌^◌, ◌<◌, ◌≤◌, List, [], ◌∷◌}
use Rattle.xenbus_state.specs.declared.offer.Features.{Features}
use Rattle.xenbus_state.specs.declared.offer.DiskFacts.{DiskFacts}
use Rattle.xenbus_state.specs.FrontView.{FrontView}
use Rattle.negotiation_laws.specs.Happening.{Happening, FrontMoves}

-- numbers of 32 bits, and sectors of 64
pub record IsWithin (front : FrontView) (features : Features) (disk : DiskFacts) : Type 0 where
  pub order : front.order ≤ 4
  pub indirect : features.indirect < 2 ^ 32
  pub offered : features.order < 2 ^ 32
  pub sectors : disk.sectors < 2 ^ 64

-- a port that the front is given
abbrev pub HasPort : Happening → Type 0
HasPort (FrontMoves idle port) = port < 2 ^ 32
HasPort h = Unit {0}

-- in each of these happenings
abbrev pub HavePorts : List Happening → Type 0
HavePorts [] = Unit {0}
HavePorts (h ∷ happenings) = HasPort h × HavePorts happenings
