-- Numbers in keys (`io/blkif.h` prints them with %u and %llu): decimal digits, leading zeros allowed.
use Rattle.std.specs.Prelude.{ℕ, ◌+◌, ◌-◌, ◌*◌, Bool, ◌&&◌, nat_lt, nat_le, if◌then◌else◌, List, [], ◌∷◌, length, Option, Some, None}

-- a byte from `0` to `9`
abbrev pub is_digit : ℕ → Bool
is_digit c = nat_le 48 c && nat_le c 57

-- the number that digits say after those that said n; none where a byte is no digit or the number passes the limit
unfoldable pub number_after : (limit n : ℕ) → List ℕ → Option ℕ
number_after limit n [] = Some n
number_after limit n (c ∷ digits) =
    if is_digit c && nat_le (n * 10 + (c - 48)) limit
    then number_after limit (n * 10 + (c - 48)) digits
    else None

-- the number that 1 to `most` digits say, up to the limit
unfoldable pub number_in : (most limit : ℕ) → List ℕ → Option ℕ
number_in most limit text = if nat_lt 0 (length text) && nat_le (length text) most then number_after limit 0 text else None

-- a number of 32 bits, 1 to 10 digits
abbrev pub number_of : List ℕ → Option ℕ
number_of text = number_in 10 4294967295 text

-- a number of 64 bits, 1 to 20 digits: the number of sectors
abbrev pub long_of : List ℕ → Option ℕ
long_of text = number_in 20 18446744073709551615 text
