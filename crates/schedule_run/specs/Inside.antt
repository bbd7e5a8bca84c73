-- What contracts see of both ends and what lies under them.
use Rattle.std.specs.Prelude.{◌≡◌, None}
use Rattle.hypervisor.specs.Hypervisor.{Hypervisor}
use Rattle.vbd_front.specs.View as front
use Rattle.vbd_back.specs.View as back
use Rattle.vbd_model.specs.World.{World}

abbrev pub world_of : front.View → back.View → Hypervisor → World
world_of f b under = record { rings = record { front = f.ring; back = b.ring; under = under }; front = f.bus; back = b.bus }

-- what the frontend's negotiation made happen was taken
abbrev pub HasHeard : front.View → Type 0
HasHeard f = f.news ≡ None
