use Rattle.ring_words.proofs.Sizes.{ring_size, entries_whole}
use Rattle.ring_words.proofs.shape.RingShape.entries.Goals as goal

pub returns-clause-greatest : goal.returns-clause-greatest
returns-clause-greatest c = rw (entries_whole c.self.inside.order c.self.invariant, ← c.self.view_is) (ring_size c.self.inside.abi c.self.inside.order)
