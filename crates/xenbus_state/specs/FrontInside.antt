-- How the fields of a front's end stand for what contracts see of it.
use Rattle.xenbus_state.specs.declared.front.FrontBus.TheInside.{Inside}
use Rattle.xenbus_state.specs.FrontView.{FrontView}

abbrev pub view_of : Inside → FrontView
view_of f = record {
  abi = f.abi;
  order = f.order;
  persistent = f.persistent;
  stage = f.stage;
  state = f.state;
  closing = f.closing;
  gone = f.gone;
  port = f.port;
  features = f.features;
  disk = f.disk;
}
