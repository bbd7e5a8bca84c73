-- What the command `bench` says of a run: a line for each count, and the last word of `quiet` and `unsettled`.
use Rattle.std.specs.Prelude.{ℕ, List, [], ◌∷◌, ◌++◌, codes, decimal, Option, Some, None}
use Rattle.schedule_text.specs.declared.recorder.Tally.{Tally}
use Rattle.schedule_text.specs.declared.recorder.RoundsEnd.{RoundsEnd}
use Rattle.schedule_text.specs.declared.recorder.RoundsEnd.TheVariants as verdict

-- a name, a space, a count and a line feed
abbrev pub count_line : List ℕ → ℕ → List ℕ
count_line name count = name ++ 32 ∷ (decimal count ++ 10 ∷ [])

-- the last word; no line where there was none
abbrev pub word_line : Option RoundsEnd → List ℕ
word_line None = []
word_line (Some verdict.Quiet) = codes "quiet\n"
word_line (Some verdict.Unsettled) = codes "unsettled\n"

-- the lines of a summary
abbrev pub summary_of : Tally → List ℕ
summary_of t =
    count_line (codes "submitted") t.submitted
    ++ (count_line (codes "refused") t.refused
    ++ (count_line (codes "effects") t.effects
    ++ (count_line (codes "answered") t.answered
    ++ word_line t.last)))
