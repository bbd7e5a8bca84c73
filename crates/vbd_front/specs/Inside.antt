-- How the fields of both ends stand for what contracts see of them.
use Rattle.vbd_front.specs.declared.ends.Ends.TheInside.{Inside}
use Rattle.vbd_front.specs.Keep.{KeepingView}

abbrev pub view_of : Inside → KeepingView
view_of e = record { ends = record { ring = e.ring; bus = e.bus; news = e.news }; keeps = e.keeps }
