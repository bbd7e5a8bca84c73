-- The words of an entry as the writer lays them, one after another.
use Rattle.std.specs.Prelude.{ℕ, ◌+◌, ◌-◌, ◌*◌, ◌/◌, ◌%◌, ◌^◌, List, [], ◌∷◌, ◌++◌, replicate}
use Rattle.blk_layout.specs.declared.segment.Segment.{Segment}
use Rattle.blk_layout.specs.declared.places.Places.{Places}

abbrev pub head_of : ℕ → ℕ → ℕ → ℕ
head_of op second third = op + second * 2 ^ 8 + third * 2 ^ 16

abbrev pub double_of : ℕ → List ℕ
double_of value = value % 2 ^ 32 ∷ value / 2 ^ 32 ∷ []

abbrev pub segment_words_of : Segment → List ℕ
segment_words_of s = s.gref ∷ (s.first + s.last * 2 ^ 8) ∷ []

abbrev pub segments_words : List Segment → List ℕ
segments_words [] = []
segments_words (s ∷ segments) = s.gref ∷ (s.first + s.last * 2 ^ 8) ∷ segments_words segments

-- zeros lie between the first word and the id
abbrev pub begun_of : Places → ℕ → ℕ → ℕ → List ℕ
begun_of at head id sector = (head ∷ []) ++ replicate (at.id - 1) 0 ++ double_of id ++ double_of sector
