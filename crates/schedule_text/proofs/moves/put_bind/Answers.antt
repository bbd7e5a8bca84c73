use Rattle.std.proofs.Common.{append_assoc, arith}
use Rattle.std.proofs.lemmas.List.{append-nil}
use Rattle.schedule_text.proofs.moves.put_bind.Goals as goal

pub returns : goal.returns
returns c = record {
  bytes = rw (c.put-3.ensures.bytes, c.put_number.ensures.bytes, c.put-2.ensures.bytes, c.put.ensures.bytes, c.from.ensures) (simp (append_assoc, append-nil));
  len = omega (arith, c.requires, c.put-3.ensures.len, c.put_number.ensures.len, c.put-2.ensures.len, c.put.ensures.len);
}
