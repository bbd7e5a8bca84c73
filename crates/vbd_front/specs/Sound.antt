-- What is true of a frontend at every moment.
use Rattle.std.specs.Prelude.{◌≡◌}
use Rattle.vbd_front.specs.declared.keeping.KeepingFrontend.TheInside.{Inside}
use Rattle.vbd_front.specs.Ask.{bus_ask_of, key_ask}
use Rattle.vbd_front.specs.Turn.{turn_of, lent_ask}

-- it knows whose turn it is, and has the path and the text of what the negotiation asks
pub record IsSound (f : Inside) : Type 0 where
  pub turn : f.turn ≡ turn_of f.ends.ends
  pub lent : lent_ask (bus_ask_of f.ends.ends) f.key.path f.key.text ≡ key_ask (bus_ask_of f.ends.ends)
