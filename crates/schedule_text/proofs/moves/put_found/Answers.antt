use Rattle.std.proofs.Common.{append_assoc, arith}
use Rattle.std.proofs.lemmas.List.{append-nil}
use Rattle.schedule_text.proofs.Joining.{spaced-append}
use Rattle.schedule_text.proofs.moves.put_found.Goals as goal

pub returns-in-Some : goal.returns-in-Some
returns-in-Some c = record {
  bytes = rw (c.in-Some.is, c.put_value.ensures.bytes, c.put_path.ensures.bytes) (simp (append_assoc, spaced-append, append-nil));
  len = omega (arith, c.put_value.ensures.len);
}
