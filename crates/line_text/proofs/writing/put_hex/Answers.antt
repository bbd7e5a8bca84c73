use Rattle.std.proofs.Common.{ℕ, List, [], ◌∷◌, arith}
use Rattle.std.specs.Prelude.{map, slice_index}
use Rattle.std.proofs.lemmas.Str.{IsUtf8-from_ascii}
use Rattle.std.proofs.lemmas.Str.Ascii.{IsAscii-cons}
use Rattle.line_text.proofs.Spaced.{picked}
use Rattle.line_text.proofs.writing.put_hex.Goals as goal

pub from_utf8_unchecked-requires : goal.from_utf8_unchecked-requires
from_utf8_unchecked-requires c =
    let d = c.eight-d.result in
    let places : List ℕ = 0 ∷ 1 ∷ 2 ∷ 3 ∷ 4 ∷ 5 ∷ 6 ∷ 7 ∷ [] in
    IsUtf8-from_ascii (32 ∷ map (slice_index d) places) (IsAscii-cons 32 (map (slice_index d) places) (omega arith) (picked d c.eight-d.ensures.ascii places))
