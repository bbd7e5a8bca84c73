use Rattle.std.proofs.Common.{◌≡◌, ◌<◌, length, arith}
use Rattle.std.proofs.lemmas.List.{length-set}
use Rattle.line_text.proofs.SectorLemmas.{from_digits_more, from_digits_all}
use Rattle.line_text.proofs.sectors.from_digits.Goals as goal

pub loop-at-preserved : goal.loop-at-preserved
loop-at-preserved c =
    let len : length c.loop-at.words ≡ 128 = c.loop-at.invariant.len in
    let lt : c.loop-at.at < length c.loop-at.words = omega arith in
    record {
      len = omega (arith, length-set c.loop-at.words c.loop-at.at c.word_in.result);
      so_far = from_digits_more c.args.word.now c.loop-at.words c.loop-at.at c.word_in.result lt (omega arith) c.word_in.ensures c.loop-at.invariant.so_far;
    }

pub returns : goal.returns
returns c =
    let at : c.loop-at.at ≡ 128 = omega arith in
    from_digits_all c.args.word.now c.loop-at.words c.loop-at.at at c.loop-at.invariant.len c.if-word-ne1024.false c.loop-at.invariant.so_far
