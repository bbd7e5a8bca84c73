-- What masks of word 0 give.
use Rattle.std.proofs.Common.{◌≡◌, ℕ, ◌+◌, ◌*◌, ◌/◌, ◌%◌, ◌^◌, ◌<◌, ◌==◌, not, bit_and, bit_or, arith}
use Rattle.std.specs.Int.Bits.{or_add_and}
use Rattle.std.proofs.lemmas.Nat.{and_comm, and-not}
use Rattle.std.proofs.lemmas.Nat.Bits.{and_pow, and_high}
use Rattle.std.proofs.lemmas.Bool.Decides.{nat_tests}
use Rattle.grant_table.specs.Entry.{is_readonly, other_flags_of, with_reading, with_writing, without_reading, without_writing}

pub and_readonly : (n : ℕ) → not (bit_and n 4 == 0) ≡ is_readonly n
and_readonly n =
    let bit : bit_and n 4 ≡ n / 4 % 2 * 4 = and_pow n 2 in
    grind (arith, nat_tests)

pub and_other_flags : (n : ℕ) → bit_and n 65504 / 32 ≡ other_flags_of n
and_other_flags n =
    let bits : bit_and n 65504 ≡ n / 32 % 2048 * 32 = and_high n 11 5 in
    omega arith

pub or_reading : (n : ℕ) → bit_or n 8 ≡ with_reading n
or_reading n =
    let bit : bit_and n 8 ≡ n / 8 % 2 * 8 = and_pow n 3 in
    let both = or_add_and n 8 in
    grind (arith, nat_tests)

pub or_writing : (n : ℕ) → bit_or n 16 ≡ with_writing n
or_writing n =
    let bit : bit_and n 16 ≡ n / 16 % 2 * 16 = and_pow n 4 in
    let both = or_add_and n 16 in
    grind (arith, nat_tests)

pub and_not_reading : (n : ℕ) → n < 2 ^ 32 → bit_and n 4294967287 ≡ without_reading n
and_not_reading n fits =
    let bit : bit_and n 8 ≡ n / 8 % 2 * 8 = and_pow n 3 in
    let both : bit_and 4294967287 n + bit_and 8 n ≡ n = and-not 32 8 n (omega arith) fits in
    let turned = and_comm n 4294967287 in
    let turned_flag = and_comm n 8 in
    grind (arith, nat_tests)

pub and_not_writing : (n : ℕ) → n < 2 ^ 32 → bit_and n 4294967279 ≡ without_writing n
and_not_writing n fits =
    let bit : bit_and n 16 ≡ n / 16 % 2 * 16 = and_pow n 4 in
    let both : bit_and 4294967279 n + bit_and 16 n ≡ n = and-not 32 16 n (omega arith) fits in
    let turned = and_comm n 4294967279 in
    let turned_flag = and_comm n 16 in
    grind (arith, nat_tests)
