-- Which paths a watch sees, and which an end may write. A path is a list of bytes.
use Rattle.std.specs.Prelude.{ℕ, Bool, true, false, ◌&&◌, ◌==◌, List, [], ◌∷◌, codes}
use Rattle.blk_base.specs.declared.parts.End.{End}
use Rattle.blk_base.specs.declared.parts.End.TheVariants.{Front, Back}

-- the path is the watch's path, or goes on after it with a '/'
abbrev pub is_at_or_under : List ℕ → List ℕ → Bool
is_at_or_under [] [] = true
is_at_or_under [] (b ∷ rest) = b == 47
is_at_or_under (a ∷ watch) [] = false
is_at_or_under (a ∷ watch) (b ∷ path) = (a == b) && is_at_or_under watch path

-- the path goes on after the directory with a '/'
abbrev pub is_under : List ℕ → List ℕ → Bool
is_under [] [] = false
is_under [] (b ∷ rest) = b == 47
is_under (a ∷ directory) [] = false
is_under (a ∷ directory) (b ∷ path) = (a == b) && is_under directory path

-- the directory of the front, domain 1, and of the back, domain 0
abbrev pub directory_of : End → List ℕ
directory_of Front = codes "/local/domain/1/device/vbd/51712"
directory_of Back = codes "/local/domain/0/backend/vbd/1/51712"
