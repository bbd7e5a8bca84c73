use Rattle.std.proofs.Common.{◌≡◌, ℕ, List, [], ◌∷◌, ◌++◌, drop, refl, ◌∙◌}
use Rattle.std.specs.Prelude.{map, slice_index}
use Rattle.line_text.specs.Numbers.{hex8}
use Rattle.line_text.proofs.prepending.prepend_hex.Goals as goal

nine : (d rest : List ℕ) (w : ℕ) → d ≡ hex8 w → 32 ∷ (map (slice_index d) (0 ∷ 1 ∷ 2 ∷ 3 ∷ 4 ∷ 5 ∷ 6 ∷ 7 ∷ []) ++ rest) ≡ 32 ∷ (hex8 w ++ rest)
unfolding hex8
nine d rest w is = rw is refl

pub returns-clause-written : goal.returns-clause-written
returns-clause-written c = c.prepend_bytes.ensures.written ∙ nine c.eight-d.result (drop c.args.end c.args.room.now) c.args.word c.eight-d.ensures.digits
