-- How the fields of a back's end stand for what contracts see of it.
use Rattle.xenbus_state.specs.declared.back.BackBus.TheInside.{Inside}
use Rattle.xenbus_state.specs.BackView.{BackView}

abbrev pub view_of : Inside → BackView
view_of b = record {
  features = b.features;
  disk = b.disk;
  stage = b.stage;
  state = b.state;
  unplugged = b.unplugged;
  terms = b.terms;
  grefs = b.grefs.items;
  pages = b.pages.items;
  bound = b.bound;
}
