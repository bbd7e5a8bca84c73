use Rattle.std.proofs.Common.{◌≡◌, ◌+◌, ◌*◌, ◌++◌, ◌∷◌, take}
use Rattle.arrayvec.specs.ArrayString.{array_string_len}
use Rattle.line_text.specs.Sector.{byte_digits}
use Rattle.line_text.proofs.sectors.put_digits.Given as goal

abbrev pub invariant-loop-word : goal.invariant-loop-word
invariant-loop-word l = record {
  bytes : l.text.bytes ≡ l.fn.text.bytes ++ 32 ∷ byte_digits (take l.word-index l.words);
  len : array_string_len l.text ≡ array_string_len l.fn.text + 1 + 8 * l.word-index;
}
