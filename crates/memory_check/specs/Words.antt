-- The words of memory that were written, each with its value; a word that was never written is 0. Frames have 1024 words, and the guest has 1024 frames (`grant_table.h` numbers frames and words so).
use Rattle.std.specs.Prelude.{ℕ, ◌+◌, ◌-◌, ◌*◌, Bool, ◌&&◌, nat_lt, if◌then◌else◌, List, [], ◌++◌, length, replicate, slice_index, slice_set, unwrap_or}
use Rattle.std.specs.declared.cmp.Ordering.{Ordering}
use Rattle.std.specs.Map.{lookup}
use Rattle.std.specs.BTreeMap.{is_at, insert_entry}
use Rattle.std.specs.Ordering.{nat_cmp, ordering_then}

-- the words of the guest's frames in a list, frame after frame, as far as one was written; and each other word that was written, by its frame and place
pub record WordValues : Type 0 where
  pub dense : List ℕ
  pub sparse : List ((ℕ × ℕ) × ℕ)

abbrev pub no_words : WordValues
no_words = record { dense = []; sparse = [] }

-- by frames, then by places
abbrev pub cell_cmp : ℕ × ℕ → ℕ × ℕ → Ordering
cell_cmp x y = ordering_then (nat_cmp x.0 y.0) (nat_cmp x.1 y.1)

-- a word of one of the guest's frames
abbrev pub is_dense : ℕ → ℕ → Bool
is_dense frame word = nat_lt frame 1024 && nat_lt word 1024

-- its place in the list
abbrev pub place_of : ℕ → ℕ → ℕ
place_of frame word = frame * 1024 + word

-- the list with a word written, which may be past its end
abbrev pub put_at : List ℕ → ℕ → ℕ → List ℕ
put_at words place value = if nat_lt place (length words) then slice_set words place value else slice_set (words ++ replicate (place + 1 - length words) 0) place value

-- the value of a word
abbrev pub word_in : WordValues → ℕ → ℕ → ℕ
word_in words frame word = if is_dense frame word then slice_index words.dense (place_of frame word) else unwrap_or (lookup (is_at (cell_cmp (frame, word))) words.sparse) 0

-- with a word written
abbrev pub with_word_in : WordValues → ℕ → ℕ → ℕ → WordValues
with_word_in words frame word value =
    if is_dense frame word
    then record words { dense = put_at words.dense (place_of frame word) value }
    else record words { sparse = insert_entry cell_cmp words.sparse (frame, word) value }
