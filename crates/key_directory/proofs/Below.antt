-- A path is below another where it begins with it and goes on with a '/'.
use Rattle.std.proofs.Common.{◌≡◌, ℕ, ◌==◌, ◌&&◌, Bool, true, false, List, [], ◌∷◌, length, take, nat_eq, slice_get, Option, Some, None, refl}
use Rattle.std.specs.List.{starts_with}
use Rattle.std.specs.Cmp.Lexicographic.{pointwise}
use Rattle.key_directory.specs.Paths.{is_at_or_under, is_under}

-- what follows the beginning
abbrev pub ends_or_slash : Option ℕ → Bool
ends_or_slash None = true
ends_or_slash (Some byte) = byte == 47

abbrev pub is_slash : Option ℕ → Bool
is_slash None = false
is_slash (Some byte) = byte == 47

and_in : (a b c d : Bool) → d ≡ (b && c) → (a && d) ≡ ((a && b) && c)
and_in true b c d e = e
and_in false b c d e = refl

pub is_at_or_under-is : (watch path : List ℕ) → is_at_or_under watch path ≡ (pointwise nat_eq watch (take (length watch) path) && ends_or_slash (slice_get path (length watch)))
is_at_or_under-is [] [] = refl
is_at_or_under-is [] (b ∷ rest) = refl
is_at_or_under-is (a ∷ watch) [] = refl
is_at_or_under-is (a ∷ watch) (b ∷ path) = and_in (a == b) _ _ _ (is_at_or_under-is watch path)

pub is_under-is : (directory path : List ℕ) → is_under directory path ≡ (pointwise nat_eq directory (take (length directory) path) && is_slash (slice_get path (length directory)))
is_under-is [] [] = refl
is_under-is [] (b ∷ rest) = refl
is_under-is (a ∷ directory) [] = refl
is_under-is (a ∷ directory) (b ∷ path) = and_in (a == b) _ _ _ (is_under-is directory path)

-- by whether the path begins so, and what follows
pub not_at_or_under : (watch path : List ℕ) → starts_with nat_eq path watch ≡ false → is_at_or_under watch path ≡ false
not_at_or_under watch path e = rw (is_at_or_under-is watch path, e) refl

pub at_or_under : (watch path : List ℕ) (next : Option ℕ) → starts_with nat_eq path watch ≡ true → slice_get path (length watch) ≡ next → is_at_or_under watch path ≡ ends_or_slash next
at_or_under watch path next e after = rw (is_at_or_under-is watch path, e, after) refl

pub not_under : (directory path : List ℕ) → starts_with nat_eq path directory ≡ false → is_under directory path ≡ false
not_under directory path e = rw (is_under-is directory path, e) refl

pub under : (directory path : List ℕ) (next : Option ℕ) → starts_with nat_eq path directory ≡ true → slice_get path (length directory) ≡ next → is_under directory path ≡ is_slash next
under directory path next e after = rw (is_under-is directory path, e, after) refl
