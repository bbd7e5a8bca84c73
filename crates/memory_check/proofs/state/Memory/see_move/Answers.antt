use Rattle.memory_check.proofs.state.Memory.see_move.Goals as goal

pub returns-in-Map : goal.returns-in-Map
returns-in-Map c = record { seen = rw c.in-Map.is c.map.ensures.mapped }
