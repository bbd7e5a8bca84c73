use Rattle.std.proofs.Common.{ℕ, ◌<◌, ◌≤◌, ◌^◌, length, drop, decimal, arith}
use Rattle.std.proofs.lemmas.Fmt.{length-decimal-le}
use Rattle.line_text.proofs.Spaced.{space_before}
use Rattle.line_text.proofs.prepending.prepend_number.Goals as goal

short : (n : ℕ) → n < 2 ^ 64 → length (decimal n) ≤ 20
short n fits = length-decimal-le 20 n (omega arith) (omega arith) fits

pub write_digits-space-requires : goal.write_digits-space-requires
write_digits-space-requires c = (omega (arith, short c.args.number c.ranges.number.fits, c.requires.before), c.requires.within)

pub overflow_sub-space : goal.overflow_sub-space
overflow_sub-space c = omega (arith, short c.args.number c.ranges.number.fits, c.requires.before, c.write_digits-space.ensures.start)

pub returns-clause-written : goal.returns-clause-written
returns-clause-written c =
    let w = c.write_digits-space in
    let some : 1 ≤ w.result = omega (arith, short c.args.number c.ranges.number.fits, c.requires.before, w.ensures.start) in
    space_before w.new.buf (drop c.args.end c.args.room.now) (decimal c.args.number) w.result some (omega (arith, w.auto.buf, c.requires.within, w.ensures.start)) w.ensures.written

pub returns-clause-start : goal.returns-clause-start
returns-clause-start c =
    let few = short c.args.number c.ranges.number.fits in
    (omega (arith, few, c.write_digits-space.ensures.start), omega (arith, few, c.write_digits-space.ensures.start))
