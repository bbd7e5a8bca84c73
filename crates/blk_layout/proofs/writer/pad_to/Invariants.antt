use Rattle.std.proofs.Common.{◌≡◌, ◌-◌, ◌++◌, length, replicate}
use Rattle.blk_layout.proofs.writer.pad_to.Given as goal

-- zeros so far
abbrev pub invariant-loop : goal.invariant-loop
invariant-loop l = l.words.items ≡ l.fn.words.items ++ replicate (l.counter - length l.fn.words.items) 0
