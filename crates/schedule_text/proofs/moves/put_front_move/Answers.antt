use Rattle.std.proofs.Common.{append_assoc, arith}
use Rattle.std.proofs.lemmas.List.{append-nil}
use Rattle.schedule_text.proofs.moves.put_front_move.Goals as goal

pub returns-in-FrontCas : goal.returns-in-FrontCas
returns-in-FrontCas c = record {
  bytes = rw (c.in-FrontCas.is, c.put_hex-in-FrontCas.ensures.bytes, c.put_hex.ensures.bytes, c.put_place.ensures.bytes, c.put.ensures.bytes) (simp (append_assoc, append-nil));
  len = omega (arith, c.put_hex-in-FrontCas.ensures.len, c.put_hex.ensures.len, c.put_place.ensures.len);
}
