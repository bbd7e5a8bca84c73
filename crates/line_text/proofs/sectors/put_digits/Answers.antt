use Rattle.std.proofs.Common.{◌<◌, ◌≤◌, length, ◌∷◌, ◌++◌, take, ap, ◌∙◌, append_assoc, arith, refl, List, ℕ}
use Rattle.std.proofs.lemmas.List.{take_all}
use Rattle.line_text.specs.Sector.{byte_digits}
use Rattle.line_text.proofs.SectorLemmas.{byte_digits_more, byte_digits_none}
use Rattle.line_text.proofs.sectors.put_digits.Goals as goal

pub loop-word-init : goal.loop-word-init
loop-word-init c = record {
  bytes = c.push_str.ensures.bytes ∙ rw byte_digits_none refl;
  len = omega (arith, c.push_str.ensures.len);
}

pub loop-word-preserved : goal.loop-word-preserved
loop-word-preserved c =
    let lt : c.loop-word.word-index < length c.args.words.now = omega arith in
    let more = byte_digits_more c.args.words.now c.loop-word.word-index lt in
    record {
      bytes = rw (c.add_digits.ensures.bytes, c.loop-word.invariant.bytes, more) (append_assoc c.args.text.now.bytes (32 ∷ byte_digits (take c.loop-word.word-index c.args.words.now)) _);
      len = omega (arith, c.add_digits.ensures.len, c.loop-word.invariant.len);
    }

pub returns-clause-bytes : goal.returns-clause-bytes
returns-clause-bytes c =
    let le : length c.args.words.now ≤ c.loop-word.word-index = omega arith in
    c.loop-word.invariant.bytes ∙ ap (λ (ws : List ℕ). c.args.text.now.bytes ++ 32 ∷ byte_digits ws) (take_all c.loop-word.word-index c.args.words.now le)
