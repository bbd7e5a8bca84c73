-- One more sector of zeros.
use Rattle.std.proofs.Common.{◌≡◌, ℕ, zero, suc, ◌+◌, List, [], ◌∷◌, ◌++◌, replicate, refl, sym, ap, ◌∙◌, arith}
use Rattle.blk_io.specs.Disk.{zero_sector}

pushed : (n : ℕ) → replicate n zero_sector ++ zero_sector ∷ [] ≡ replicate (suc n) zero_sector
pushed zero = refl
pushed (suc n) = ap (λ (r : List (List ℕ)). zero_sector ∷ r) (pushed n)

pub one_more : (n : ℕ) (sectors : List (List ℕ)) → sectors ≡ replicate n zero_sector → sectors ++ zero_sector ∷ [] ≡ replicate (n + 1) zero_sector
one_more n sectors e =
    let next : n + 1 ≡ suc n = omega arith in
    ap (λ (s : List (List ℕ)). s ++ zero_sector ∷ []) e ∙ pushed n ∙ ap (λ (k : ℕ). replicate k zero_sector) (sym next)
