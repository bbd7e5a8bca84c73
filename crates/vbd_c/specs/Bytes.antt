-- Texts and words that are copied out and in.
use Rattle.std.specs.Prelude.{ℕ, ◌<◌, Bool, false, List, ◌++◌, length, drop, Option, Some, None, if◌then◌else◌, ◌==◌, nat_le, IsUtf8, ◌⊎◌}

-- a text is copied to the front where there is room for all of it
abbrev pub copied : List ℕ → List ℕ → List ℕ
copied text bytes = if nat_le (length text) (length bytes) then text ++ drop (length text) bytes else bytes

abbrev pub copied_count : List ℕ → List ℕ → ℕ
copied_count text bytes = if nat_le (length text) (length bytes) then length text else 0

-- no text of at most n bytes
abbrev pub IsNoText : ℕ → List ℕ → Type 0
IsNoText n bytes = (n < length bytes) ⊎ ¬ (IsUtf8 bytes)

-- the words of a sector are 128
abbrev pub sector_of : List ℕ → Option (List ℕ)
sector_of words = if length words == 128 then Some words else None

-- those of the sector that is to be written, where one is and there is room for just that many
abbrev pub sector_copied : Option (List ℕ) → List ℕ → List ℕ
sector_copied None words = words
sector_copied (Some sector) words = if length words == 128 then sector else words

abbrev pub is_sector_copied : Option (List ℕ) → List ℕ → Bool
is_sector_copied None words = false
is_sector_copied (Some sector) words = length words == 128
