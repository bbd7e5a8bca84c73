use Rattle.std.proofs.Common.{arith}
use Rattle.segment_list.proofs.Packed.{cut_of-step}
use Rattle.segment_list.proofs.packing.Cut.advance.Goals as goal

pub returns-clause-first : goal.returns-clause-first
returns-clause-first c = rw (← c.self.view_is) (cut_of-step c.self.inside.left c.min-sectors.result (omega arith) c.min-sectors.ensures)
