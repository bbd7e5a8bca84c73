-- The names, paths and texts of keys.
use Rattle.std.specs.Prelude.{ℕ, Bool, ◌&&◌, ◌||◌, ◌==◌, nat_lt, nat_le, List, [], length, slice_index, if◌then◌else◌}
use Rattle.std.specs.List.{list_all}

-- a byte from `!` to `~`
abbrev pub is_graphic : ℕ → Bool
is_graphic b = nat_le 33 b && nat_le b 126

-- a byte from `a` to `z`, from `0` to `9`, or `-`
abbrev pub is_name_byte : ℕ → Bool
is_name_byte b = (nat_le 97 b && nat_le b 122) || (nat_le 48 b && nat_le b 57) || (b == 45)

-- a text of 1 to n bytes, each of which passes
abbrev pub is_text_of : (ℕ → Bool) → ℕ → List ℕ → Bool
is_text_of passes most bytes = nat_lt 0 (length bytes) && nat_le (length bytes) most && list_all passes bytes

-- the name of a key
unfoldable pub is_key_name : List ℕ → Bool
is_key_name bytes = is_text_of is_name_byte 32 bytes

-- the text of a key
unfoldable pub is_key_text : List ℕ → Bool
is_key_text bytes = is_text_of is_graphic 64 bytes

-- a path, which begins with `/`
unfoldable pub is_key_path : List ℕ → Bool
is_key_path bytes = is_text_of is_graphic 80 bytes && (slice_index bytes 0 == 47)

-- the text of a word, or an empty one where it has no such text or a longer one
unfoldable pub text_in : ℕ → List ℕ → List ℕ
text_in most word = if nat_le (length word) most && list_all is_graphic word then word else []
