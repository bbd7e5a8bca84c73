use Rattle.std.proofs.Common.{append_assoc, arith}
use Rattle.std.proofs.lemmas.List.{append-nil}
use Rattle.schedule_text.proofs.Joining.{spaced-append}
use Rattle.schedule_text.proofs.moves.put_move.Goals as goal

pub returns-in-SetKey : goal.returns-in-SetKey
returns-in-SetKey c = record {
  bytes = rw (c.in-SetKey.is, c.put_value.ensures.bytes, c.put_path-in-SetKey.ensures.bytes) (simp (append_assoc, spaced-append, append-nil));
  len = omega (arith, c.put_value.ensures.len);
}
