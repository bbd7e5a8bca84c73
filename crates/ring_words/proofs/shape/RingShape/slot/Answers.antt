use Rattle.ring_words.proofs.Sizes.{and_entries}
use Rattle.ring_words.proofs.shape.RingShape.slot.Goals as goal

pub returns-clause-value : goal.returns-clause-value
returns-clause-value c = rw c.entries.ensures.value (and_entries c.args.self.now.order c.args.k)
