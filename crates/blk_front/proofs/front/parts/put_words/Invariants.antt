use Rattle.std.proofs.Common.{◌≡◌, ◌+◌, drop}
use Rattle.blk_front.specs.Part.{with_words}
use Rattle.blk_front.proofs.front.parts.put_words.Given as goal

-- what is left to put is put in the sector as it is now
abbrev pub invariant-loop-i : goal.invariant-loop-i
invariant-loop-i l = with_words l.sector (l.place + l.i) (drop l.i l.words) ≡ with_words l.initial.sector l.place l.words
