-- How the fields of a held back stand for what contracts see of it.
use Rattle.std.specs.Prelude.{◌≡◌, None}
use Rattle.vbd_c.specs.declared.held.HeldBack.TheInside.{Inside}
use Rattle.vbd_c.specs.View.{View}

abbrev pub view_of : Inside → View
view_of h = record { back = h.back; told = h.told }

abbrev pub IsQuiet : Inside → Type 0
IsQuiet h = h.back.ends.ring.told ≡ None
