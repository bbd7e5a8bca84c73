use Rattle.std.proofs.Common.{append_assoc, arith, w32}
use Rattle.std.proofs.lemmas.Int.{to_z-of_z}
use Rattle.std.proofs.lemmas.List.{append-nil}
use Rattle.schedule_text.proofs.Joining.{spaced-append}
use Rattle.schedule_text.proofs.moves.put_refused.Goals as goal

pub returns : goal.returns
returns c = record {
  bytes = rw (c.put_signed.ensures.bytes, c.put.ensures.bytes, c.put_map.ensures.bytes) (simp (append_assoc, spaced-append, append-nil, to_z-of_z w32 c.args.status c.ranges.status));
  len = omega (arith, c.put_signed.ensures.len, c.put.ensures.len, c.put_map.ensures.len);
}
