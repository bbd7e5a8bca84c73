-- A word of the generator has 32 bits.
use Rattle.std.proofs.Common.{ℕ, ◌*◌, ◌/◌, ◌%◌, ◌-◌, ◌<◌, ◌^◌, arith}
use Rattle.std.proofs.lemmas.Nat.{or_lt}
use Rattle.std.proofs.Math.Nat.{div-le_self}
use Rattle.std.specs.Int.{w32, rotate_right}
use Rattle.rand_pcg.specs.Lcg.{Lcg}
use Rattle.bench_load.specs.Generated.{words_of}

rotated : (n by : ℕ) → n < 2 ^ 32 → rotate_right w32 n by < 2 ^ 32
rotated n by fits =
    let less = div-le_self n (2 ^ (by % 32)) in
    or_lt 32 (n / 2 ^ (by % 32)) (n * 2 ^ ((32 - by % 32) % 32) % 2 ^ 32) (omega arith) (omega arith)

pub kind_fits : (g : Lcg) → (words_of g).kind < 2 ^ 32
kind_fits g = rotated _ _ (omega arith)
