-- Words of 0, piece by piece.
use Rattle.std.proofs.Common.{◌≡◌, ℕ, zero, suc, ◌*◌, ◌++◌, ap, ◌∙◌, arith}
use Rattle.std.specs.Prelude.{replicate}
use Rattle.std.specs.List.{repeat}
use Rattle.std.proofs.lemmas.List.{replicate-append-replicate}

-- so many pieces of one word are that many times as many of it
pub pieces : (n size : ℕ) (word : ℕ) → repeat n (replicate size word) ≡ replicate (n * size) word
pieces zero size word = ap (λ count. replicate count word) (none size)
  where
    none : (m : ℕ) → 0 ≡ 0 * m
    none m = omega arith
pieces (suc n) size word =
    ap (λ rest. replicate size word ++ rest) (pieces n size word)
    ∙ (replicate-append-replicate size (n * size) word ∙ ap (λ count. replicate count word) (omega arith))
