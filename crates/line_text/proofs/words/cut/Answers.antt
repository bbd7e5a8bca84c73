use Rattle.std.proofs.Common.{◌≡◌, rules, arith, refl}
use Rattle.std.specs.List.{position_or_len}
use Rattle.std.proofs.lemmas.List.Sums.{position_or_len_is}
use Rattle.std.proofs.lemmas.Grind.{common_steps}
use Rattle.line_text.specs.Words.{is_space}
use Rattle.line_text.proofs.words.cut.Goals as goal

pub returns : goal.returns
returns c =
    let at : position_or_len is_space c.args.bytes.now ≡ c.loop-at.at = position_or_len_is is_space c.args.bytes.now c.loop-at.at 0 c.loop-at.auto.at-end c.loop-at.invariant (λ lt. absurd (omega arith)) in
    rw at (record { before = grind (arith, common_steps); after = grind (arith, common_steps) })

pub returns-then-byte-eq32 : goal.returns-then-byte-eq32
returns-then-byte-eq32 c =
    let at : position_or_len is_space c.args.bytes.now ≡ c.loop-at.at = position_or_len_is is_space c.args.bytes.now c.loop-at.at 0 (omega arith) c.loop-at.invariant (λ lt. search rules) in
    rw at (record { before = refl; after = grind (arith, common_steps) })
