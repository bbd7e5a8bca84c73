-- How the fields of a front stand for what contracts see of it.
use Rattle.std.specs.Prelude.{ℕ, ◌+◌, ◌<◌, ◌≤◌, length, Option, Some, None}
use Rattle.ring_words.specs.Shape.{entries_of}
use Rattle.blk_front.specs.declared.stage.Ending.{Ending}
use Rattle.blk_front.specs.declared.front.Front.TheInside.{Inside}
use Rattle.blk_front.specs.View.{View}

abbrev pub view_of : Inside → View
view_of f = record {
  start = f.start;
  offers = f.offers;
  shape = record { abi = f.abi; order = f.order };
  ring = record { indices = f.ring.indices; asleep = f.ring.asleep; seen = f.ring.seen; entry = f.ring.entry.items };
  stage = f.stage;
  closing = f.closing;
  last = f.last;
  waiting = f.waiting;
  requests = f.requests.held;
  ending = f.ending;
  pool = f.pool;
  kept = f.kept;
  words = f.words;
  told = f.told;
}

-- A list of frames is spare, or it is the list of a request: those are more than the ring's entries, and there is room for all when they are spare.
abbrev pub held : Option Ending → ℕ
held None = 0
held (Some e) = 1

abbrev pub lists : Inside → ℕ
lists f = f.spare + length f.requests.held + held f.ending

pub record IsStocked (f : Inside) : Type 0 where
  pub enough : entries_of f.order < lists f
  pub room : lists f ≤ 513
