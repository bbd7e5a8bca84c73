use Rattle.std.proofs.Common.{◌≡◌, length}
use Rattle.ring_inspect.specs.Ring.{words_from}
use Rattle.ring_inspect.proofs.print.words.Given as goal

-- the words so far
abbrev pub invariant-loop-i : goal.invariant-loop-i
invariant-loop-i l = record {
  items : l.words.items ≡ words_from l.bytes l.at l.i;
  size : length l.words.items ≡ l.i;
}
