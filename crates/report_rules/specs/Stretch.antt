-- How the back fetches entries (`io/ring.h`, RING_GET_REQUEST and RING_COPY_REQUEST): each entry in one stretch, in which each of its words is read once, in ascending order. The guest may change an entry at any time, so that what is read twice need not be the same.
use Rattle.std.specs.Prelude.{◌≡◌, ℕ, ◌+◌, ◌%◌, ◌^◌, ◌<◌, Bool, true, false, ◌==◌, nat_lt, if◌then◌else◌, List, [], ◌∷◌, ◌++◌, reverse, length, Option, Some, None, is_some, option_map, IfSome, IsSomeAnd, IsTrue}
use Rattle.ring_words.specs.Shape.{Shape, entries_of, entry_words_of, ring_word_of}
use Rattle.ring_words.specs.Ring.{requests_of}
use Rattle.blk_base.specs.declared.operation.Abi.{Abi}
use Rattle.blk_base.specs.declared.moves.BackMover.{BackMover}
use Rattle.blk_base.specs.declared.moves.BackMover.TheVariants as back
use Rattle.blk_base.specs.declared.moves.Mover.{Mover}
use Rattle.blk_base.specs.declared.moves.Mover.TheVariants as mover
use Rattle.blk_base.specs.declared.moves.Move.TheVariants as moves
use Rattle.blk_layout.specs.declared.request.RawRequest.{RawRequest}
use Rattle.blk_layout.specs.Entry.{request_of}
use Rattle.schedule_text.specs.declared.line.Line.{Line}
use Rattle.schedule_text.specs.declared.line.Line.TheVariants as lines
use Rattle.report_rules.specs.declared.job.Fetched.{Fetched}
use Rattle.report_rules.specs.Obeys.{Obeys}
use Rattle.report_rules.specs.Standing.{is_epoch}
use Rattle.report_rules.specs.Ring.{is_page, ring_word, ring_abi, ring_shape, start_of, produced_before, replied_before}
use Rattle.report_rules.specs.Published.{disk_of, is_persistent}

-- words of the ring from 16 on belong to its entries
abbrev pub of_entries : Option ℕ → Option ℕ
of_entries None = None
of_entries (Some word) = if nat_lt word 16 then None else Some word

-- the word of an entry that the back reads in a line, as a word of the ring
abbrev pub entry_word_read : List Line → Line → Option ℕ
entry_word_read before (lines.Move (moves.Read back.Back number frame word value)) = of_entries (ring_word before number word)
entry_word_read before line = None

abbrev pub when : Bool → ℕ → Option ℕ
when true value = Some value
when false value = None

-- what a line shows of an entry's word that the back read
abbrev pub entry_value : List Line → Line → Option ℕ
entry_value before (lines.Move (moves.Read back.Back number frame word value)) = when (is_some (of_entries (ring_word before number word))) value
entry_value before line = None

-- what the back fetched in this epoch: what there is for each entry that it read whole, in order, and the words so far of the one that it is reading, none between two stretches
pub record Fetching : Type 0 where
  pub jobs : List Fetched
  pub words : List ℕ

abbrev pub none_fetched : Fetching
none_fetched = record { jobs = []; words = [] }

-- the request that words are, where they are a whole entry of this layout
abbrev pub entry_of : Option Abi → List ℕ → Option RawRequest
entry_of None words = None
entry_of (Some abi) words = if length words == entry_words_of abi then Some (request_of abi words) else None

-- a request, with the disk, and with what both ends published of grants by these lines
abbrev pub fetched_with : List Line → RawRequest → Fetched
fetched_with before request = record { request = request; disk = disk_of before; persistent = is_persistent before }

abbrev pub with_words : Fetching → List ℕ → Option Fetched → Fetching
with_words f words None = record { jobs = f.jobs; words = words }
with_words f words (Some fetched) = record { jobs = f.jobs ++ fetched ∷ []; words = [] }

-- one word more, which may be the last of an entry by the layout that was read last: no key is read within a stretch, so that this is the one that was read before it
abbrev pub with_value : List Line → Fetching → Option ℕ → Fetching
with_value before f None = f
with_value before f (Some value) = with_words f (f.words ++ value ∷ []) (option_map (fetched_with before) (entry_of (ring_abi before) (f.words ++ value ∷ [])))

-- an entry that was read whole stays, whatever layout is read later; an epoch ends all
abbrev pub fetching_after : Fetching → List Line → Line → Fetching
fetching_after f before line = if is_epoch line then none_fetched else with_value before f (entry_value before line)

-- the same of lines of which the last comes first
abbrev pub fetching_back : List Line → Fetching
fetching_back [] = none_fetched
fetching_back (line ∷ earlier) = fetching_after (fetching_back earlier) (reverse earlier) line

abbrev pub fetching_of : List Line → Fetching
fetching_of before = fetching_back (reverse before)

-- how many entries were read whole
abbrev pub entries_read : List Line → ℕ
entries_read before = length (fetching_of before).jobs

-- how many words of the next one were read: 0 between two stretches
abbrev pub words_within : List Line → ℕ
words_within before = length (fetching_of before).words

-- the index whose entry is fetched next, or is being fetched: rings begin at the start
abbrev pub next_index : List Line → ℕ
next_index before = (start_of before + entries_read before) % 2 ^ 32

abbrev pub is_back : BackMover → Bool
is_back back.Back = true
is_back (back.Job k) = false

abbrev pub is_mover_back : Mover → Bool
is_mover_back mover.Back = true
is_mover_back who = false

-- a move of the back's own
abbrev pub is_back_move : Line → Bool
is_back_move (lines.Move (moves.Read who number frame word value)) = is_back who
is_back_move (lines.Move (moves.Write who number frame word value)) = is_back who
is_back_move (lines.Move (moves.Map who gref mode number frame)) = is_back who
is_back_move (lines.Move (moves.MapRefused who gref mode status)) = is_back who
is_back_move (lines.Move (moves.Unmap who number)) = is_back who
is_back_move (lines.Move (moves.Bind port)) = true
is_back_move (lines.Move (moves.BindRefused port)) = true
is_back_move (lines.Move (moves.Fence who)) = is_mover_back who
is_back_move (lines.Move (moves.Send who)) = is_mover_back who
is_back_move (lines.Move (moves.ClosePort who)) = is_mover_back who
is_back_move (lines.Move (moves.Event who)) = is_mover_back who
is_back_move (lines.Move (moves.Watch who path)) = is_mover_back who
is_back_move (lines.Move (moves.Watched who path)) = is_mover_back who
is_back_move (lines.Move (moves.GetKey who path text)) = is_mover_back who
is_back_move (lines.Move (moves.SetKey who path text)) = is_mover_back who
is_back_move line = false

-- a word of the ring is the next word of the next entry; a stretch begins only where a request is unconsumed, by the producers of both ends as the back knows them (RING_HAS_UNCONSUMED_REQUESTS)
pub record IsNextWord (before : List Line) (word : ℕ) (s : Shape) : Type 0 where
  pub place : word ≡ ring_word_of s (next_index before) (words_within before)
  pub unconsumed : words_within before ≡ 0 → 0 < requests_of (record { entries = entries_of s.order; prod = replied_before before; cons = next_index before }) (produced_before before)

-- the word of a page of the ring that the back reads or writes in a line
abbrev pub word_touched : List Line → Line → Option ℕ
word_touched before (lines.Move (moves.Read back.Back number frame word value)) = if is_page before number then Some word else None
word_touched before (lines.Move (moves.Write back.Back number frame word value)) = if is_page before number then Some word else None
word_touched before line = None

-- a word of an entry is read only as the next one, from a ring that has a shape; between the words of an entry there is no other move of the back's; and a page of the ring has 1024 words
pub record IsStretchAt (before : List Line) (line : Line) : Type 0 where
  pub next : IfSome (entry_word_read before line) (λ word. IsSomeAnd (ring_shape before) (IsNextWord before word))
  pub whole : IsTrue (is_back_move line) → entry_word_read before line ≡ None → words_within before ≡ 0
  pub inside : IfSome (word_touched before line) (λ word. word < 1024)

abbrev pub AreStretches : List Line → Type 0
AreStretches report = Obeys IsStretchAt report
