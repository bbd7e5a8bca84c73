-- The words of a line.
use Rattle.std.specs.Prelude.{◌≡◌, ℕ, Bool, false, All, List, [], ◌∷◌, ◌++◌, ◌==◌}
use Rattle.std.specs.List.{slice_split}

-- the byte between two words
abbrev pub is_space : ℕ → Bool
is_space b = b == 32

-- the words of a text: what stands between its spaces
unfoldable pub words_in : List ℕ → List (List ℕ)
words_in bytes = slice_split is_space bytes

abbrev pub HasNoSpace : List ℕ → Type 0
HasNoSpace word = All (λ b. is_space b ≡ false) word

-- the first word
abbrev pub first_of : List (List ℕ) → List ℕ
first_of [] = []
first_of (w ∷ ws) = w

-- the words after the first; after the last one only empty words are left
abbrev pub later : List (List ℕ) → List (List ℕ)
later [] = [] ∷ []
later (w ∷ []) = [] ∷ []
later (w ∷ v ∷ ws) = v ∷ ws

-- words, each with a space before it
abbrev pub spaced : List (List ℕ) → List ℕ
spaced [] = []
spaced (w ∷ ws) = 32 ∷ (w ++ spaced ws)

-- words with single spaces between them
abbrev pub joined : List (List ℕ) → List ℕ
joined [] = []
joined (w ∷ ws) = w ++ spaced ws
