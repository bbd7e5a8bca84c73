use Rattle.std.proofs.Common.{◌≡◌, ◌*◌, ◌++◌, take, drop, length}
use Rattle.line_text.specs.Sector.{words_of_digits}
use Rattle.line_text.proofs.sectors.from_digits.Given as goal

abbrev pub invariant-loop-at : goal.invariant-loop-at
invariant-loop-at l = record {
  len : length l.words ≡ 128;
  so_far : take l.at l.words ++ words_of_digits (drop (l.at * 8) l.word) ≡ words_of_digits l.word;
}
