use Rattle.std.proofs.Common.{arith, refl, sym, ◌∙◌}
use Rattle.ring_inspect.proofs.Pieces.{words_from-more, words_from-zero}
use Rattle.ring_inspect.proofs.print.words.Goals as goal

pub loop-i-init : goal.loop-i-init
loop-i-init c = record {
  items = c.new-words.ensures ∙ sym (words_from-zero c.args.bytes.now c.args.at);
  size = rw c.new-words.ensures refl;
}

pub loop-i-preserved : goal.loop-i-preserved
loop-i-preserved c = record {
  items = c.push.ensures.items ∙ (rw (c.loop-i.invariant.items, c.word.ensures) (sym (words_from-more c.args.bytes.now c.args.at c.loop-i.i)));
  size = let size = c.loop-i.invariant.size in let more = c.push.ensures.len in omega arith;
}
