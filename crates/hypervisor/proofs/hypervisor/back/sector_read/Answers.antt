use Rattle.std.proofs.Common.{◌≡◌, ℕ, ◌^◌, ◌<◌, List, length, get_or, sym, subst}
use Rattle.std.proofs.lemmas.List.{get_or_default}
use Rattle.hypervisor.specs.Act.{IsGiven, Gave}
use Rattle.hypervisor.proofs.hypervisor.back.sector_read.Goals as goal

-- 128 words of 32 bits
given : (words : List ℕ) → length words ≡ 128 → ((i : ℕ) → get_or words i 0 < 2 ^ 32) → IsGiven (Gave words)
given words size fits = (size, λ i d within. subst (λ (n : ℕ). n < 2 ^ 32) (get_or_default words i 0 d within) (fits i))

pub returns-clause-given : goal.returns-clause-given
returns-clause-given c = subst (λ (ws : List ℕ). IsGiven (Gave ws)) (sym c.at.ensures) (given c.args.words.now c.told-words c.fits-words)
