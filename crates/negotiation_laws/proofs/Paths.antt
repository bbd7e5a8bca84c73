-- What a write leaves of the other keys.
use Rattle.std.proofs.Common.{◌≡◌, ◌≢◌, ◌∙◌, ℕ, false, true≢false, List, sym}
use Rattle.std.specs.Str.{bytes_eq}
use Rattle.std.proofs.lemmas.Slice.Eq.{bytes_eq-Decides}
use Rattle.key_directory.specs.Directory.{key_of, with_key}
use Rattle.key_directory.proofs.Entries.{key_of-with_key_other}

-- functions that are equal everywhere are equal
pub equal_everywhere : {A B : Type 0} (f g : A → B) → ((x : A) → f x ≡ g x) → f ≡ g
equal_everywhere f g e = λ i x. e x i

-- lists that a comparison finds different
pub apart : (a b : List ℕ) → bytes_eq a b ≡ false → a ≢ b
apart a b differ e = true≢false (sym ((bytes_eq-Decides a b).1 e) ∙ differ)

-- another key has the text that it had
pub key_kept : (keys : List (List ℕ × List ℕ)) (path text other : List ℕ) → bytes_eq other path ≡ false → key_of (with_key keys path text) other ≡ key_of keys other
key_kept keys path text other differ = key_of-with_key_other keys path text other (apart other path differ)
