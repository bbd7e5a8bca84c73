use Rattle.std.proofs.Common.{sym, append_assoc, refl}
use Rattle.line_text.proofs.SectorLemmas.{spaced_fill, spaced_digits}
use Rattle.line_text.proofs.sectors.put_sector.Goals as goal

pub returns-then-are_all-clause-bytes : goal.returns-then-are_all-clause-bytes
returns-then-are_all-clause-bytes c = rw (c.put_hex.ensures.bytes, c.put.ensures.bytes, spaced_fill c.args.words.now (sym c.if-are_all.ensures)) (append_assoc c.args.text.now.bytes _ _)

pub returns-else-are_all-clause-bytes : goal.returns-else-are_all-clause-bytes
returns-else-are_all-clause-bytes c = rw (c.put_digits.ensures.bytes, spaced_digits c.args.words.now (sym c.if-are_all.ensures)) refl
