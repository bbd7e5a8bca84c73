use Rattle.std.proofs.lemmas.List.{get_or_default}
use Rattle.std.proofs.Common.{arith}
use Rattle.line_text.proofs.sectors.every_word.Goals as goal

pub returns : goal.returns
returns c = λ k d lt. rw (get_or_default c.args.words.now k d 0 lt) (omega (arith, c.type_inv.words k))
