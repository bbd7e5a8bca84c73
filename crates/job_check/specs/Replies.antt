-- The reply that the back writes (`io/ring.h`, RING_GET_RESPONSE and RING_PUSH_RESPONSES), as a state that takes one step a word: a row of three words in the slot of its producer, and then the producer.
use Rattle.std.specs.Prelude.{ℕ, ◌+◌, ◌%◌, ◌^◌, Bool, false, ◌&&◌, ◌==◌, nat_lt, if◌then◌else◌, List, [], ◌∷◌, ◌++◌, length, find, Option, Some, None, option_map}
use Rattle.std.specs.List.{list_any}
use Rattle.ring_words.specs.Shape.{Shape, ring_word_of}
use Rattle.report_rules.specs.Reply.{row_of}
use Rattle.job_check.specs.Kept.{Kept, has_unmapped}
use Rattle.job_check.specs.Open.{Open, may_answer}

-- how many rows had begun in this epoch; the words so far of the one under way; and the row that the last line pushed
pub record Replies : Type 0 where
  pub rows : ℕ
  pub row : List ℕ
  pub pushed : Option (List ℕ)

abbrev pub no_replies : Replies
no_replies = record { rows = 0; row = []; pushed = None }

-- how many rows have begun with the word that is written next, or that was written last where a row was pushed: a job that it answers came to its end before
abbrev pub rows_with : Replies → ℕ
rows_with r = if length r.row == 0 then r.rows + 1 else r.rows

-- what is written next: a word of a response that is due, or the next producer
abbrev pub is_next_value : Replies → List Open → ℕ → ℕ → Bool
is_next_value r jobs replied value =
    if nat_lt (length r.row) 3 then list_any (may_answer (rows_with r) (length r.row) (row_of (r.row ++ value ∷ []) 0)) jobs
    else value == (replied + 1) % 2 ^ 32

-- the word of the ring that is written next: one of the slot's, or rsp_prod
abbrev pub next_place : Replies → ℕ → Shape → ℕ
next_place r replied s = if nat_lt (length r.row) 3 then ring_word_of s replied (length r.row) else 2

abbrev pub is_place : ℕ → Option ℕ → Bool
is_place place None = false
is_place place (Some word) = word == place

-- the back may write this word of the ring
abbrev pub may_write : Replies → List Open → ℕ → Option ℕ → ℕ → Option Shape → Bool
may_write r jobs replied word value None = false
may_write r jobs replied word value (Some s) = is_place (next_place r replied s) word && is_next_value r jobs replied value

-- a word was written: the first one of a row, a later one, or the producer, which pushes it
abbrev pub after_value : Replies → ℕ → Replies
after_value r value =
    if length r.row == 0 then record { rows = r.rows + 1; row = value ∷ []; pushed = None }
    else (if nat_lt (length r.row) 3 then record r { row = r.row ++ value ∷ []; pushed = None }
    else record r { row = []; pushed = Some r.row })

-- another line came
abbrev pub after_other : Replies → Replies
after_other r = record r { pushed = None }

-- a row answers a job that unmapped what it mapped
abbrev pub answers : Kept → Bool → ℕ → List ℕ → Open → Bool
answers kept persistent rows row o = may_answer rows 2 row o && has_unmapped kept persistent o.number

-- the first of these jobs that a row that was pushed answers
abbrev pub answered_by : Kept → Bool → ℕ → List Open → Option (List ℕ) → Option ℕ
answered_by kept persistent rows jobs None = None
answered_by kept persistent rows jobs (Some row) = option_map (λ (o : Open). o.number) (find (answers kept persistent rows row) jobs)
