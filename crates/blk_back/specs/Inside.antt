-- How the fields of a back stand for what contracts see of it.
use Rattle.blk_back.specs.declared.back.Back.TheInside.{Inside}
use Rattle.blk_back.specs.View.{View}

abbrev pub view_of : Inside → View
view_of b = record {
  ring = record { indices = b.ring.indices; asleep = b.ring.asleep; seen = b.ring.seen; port = b.ring.port; entry = b.ring.entry.items };
  stage = b.stage;
  shape = record { abi = b.abi; order = b.order };
  grefs = b.grefs.items;
  pages = b.pages.items;
  fetched = b.fetched;
  jobs = b.jobs;
  told = b.told;
  halted = b.halted;
}
