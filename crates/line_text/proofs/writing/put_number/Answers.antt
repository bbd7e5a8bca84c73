use Rattle.std.proofs.Common.{ℕ, ◌<◌, ◌≤◌, ◌^◌, List, ◌++◌, length, replicate, refl, ap, ◌∙◌, arith, rules}
use Rattle.std.proofs.lemmas.Fmt.{length-decimal-le, IsAscii-decimal}
use Rattle.std.proofs.lemmas.Str.{IsUtf8-from_ascii}
use Rattle.std.proofs.lemmas.Str.Ascii.{IsAscii-cons}
use Rattle.std.specs.Fmt.{decimal}
use Rattle.line_text.proofs.Spaced.{spaced}
use Rattle.line_text.proofs.writing.put_number.Goals as goal

short : (n : ℕ) → n < 2 ^ 64 → length (decimal n) ≤ 20
short n fits = length-decimal-le 20 n (omega arith) (omega arith) fits

pub write_digits-space-requires : goal.write_digits-space-requires
write_digits-space-requires c = (omega (arith, short c.args.number c.ranges.number.fits), omega arith)

pub overflow_sub-space : goal.overflow_sub-space
overflow_sub-space c = omega (arith, short c.args.number c.ranges.number.fits)

pub from_utf8_unchecked-requires : goal.from_utf8_unchecked-requires
from_utf8_unchecked-requires c =
    let w = c.write_digits-space in
    let some : 1 ≤ w.result = omega (arith, short c.args.number c.ranges.number.fits) in
    IsUtf8-from_ascii _ (rw (spaced (replicate 21 0) w.new.buf (decimal c.args.number) w.result 21 refl (search rules) some w.ensures.start w.ensures.written) (IsAscii-cons 32 _ (omega arith) (IsAscii-decimal c.args.number c.ranges.number.fits)))

pub returns-clause-bytes : goal.returns-clause-bytes
returns-clause-bytes c =
    let w = c.write_digits-space in
    let some : 1 ≤ w.result = omega (arith, short c.args.number c.ranges.number.fits) in
    c.push_str.ensures.bytes
    ∙ ap (λ (l : List ℕ). c.args.text.now.bytes ++ l) (c.from_utf8_unchecked.ensures ∙ spaced (replicate 21 0) w.new.buf (decimal c.args.number) w.result 21 refl (search rules) some w.ensures.start w.ensures.written)
