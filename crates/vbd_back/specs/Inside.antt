-- How the fields of a backend stand for what contracts see of them, and what is true of them at every moment.
use Rattle.std.specs.Prelude.{◌≡◌}
use Rattle.vbd_back.specs.declared.keeping.KeepingBackend.TheInside.{Inside}
use Rattle.vbd_back.specs.View.{View, both}
use Rattle.vbd_back.specs.Keeping.{KeepingView}
use Rattle.vbd_back.specs.Ask.{bus_ask_of, key_ask}
use Rattle.vbd_back.specs.Turn.{turn_of, lent_ask}

abbrev pub ends_of : Inside → View
ends_of b = both b.ring b.bus

abbrev pub view_of : Inside → KeepingView
view_of b = record { ends = ends_of b; most = b.most }

-- it knows whose turn it is, and has the path and the text of what the negotiation asks
pub record IsSound (b : Inside) : Type 0 where
  pub turn : b.turn ≡ turn_of (ends_of b)
  pub lent : lent_ask (bus_ask_of (ends_of b)) b.key.path b.key.text ≡ key_ask (bus_ask_of (ends_of b))
