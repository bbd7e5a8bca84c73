-- The words that the back itself reads, of the ring: by their number those of the jobs are few.
use Rattle.std.proofs.Common.{◌≡◌, ℕ, ◌+◌, ◌≤◌, List, [], ◌∷◌, ◌++◌, length, length-append, ap, ◌∙◌, subst, arith}
use Rattle.std.specs.Prelude.{Bool, true, false, if◌then◌else◌, is_some, reverse, sum_by}
use Rattle.std.specs.Option.{option_to_list}
use Rattle.std.proofs.lemmas.List.{reverse-append, reverse-reverse}
use Rattle.std.proofs.lemmas.List.Sums.{sum_by-cons, sum_by-append}
use Rattle.blk_base.specs.declared.moves.BackMover.TheVariants as back_mover
use Rattle.blk_base.specs.declared.moves.Move.TheVariants as moves
use Rattle.schedule_text.specs.declared.line.Line.{Line}
use Rattle.schedule_text.specs.declared.line.Line.TheVariants as lines
use Rattle.report_rules.specs.Standing.{is_epoch}
use Rattle.report_rules.specs.Ring.{ring_word}
use Rattle.report_rules.specs.Stretch.{of_entries, entry_value, when}
use Rattle.ring_laws.proofs.EntryWords.{values_back, entry_values}

-- the back reads a word there
abbrev pub reads_at : Line → ℕ
reads_at (lines.Move (moves.Read back_mover.Back number frame word value)) = 1
reads_at line = 0

abbrev pub reads_of : List Line → ℕ
reads_of ls = sum_by reads_at ls

pub reads_append : (xs ys : List Line) → reads_of (xs ++ ys) ≡ reads_of xs + reads_of ys
reads_append xs ys = sum_by-append reads_at xs ys

-- no more than there are lines
one_read : (line : Line) → reads_at line ≤ 1
one_read (lines.Move (moves.Read back_mover.Back number frame word value)) = omega arith
one_read line = omega arith

pub reads_short : (ls : List Line) → reads_of ls ≤ length ls
reads_short [] = omega arith
reads_short (line ∷ ls) =
    let one = one_read line in
    let rest = reads_short ls in
    let both = sum_by-cons reads_at line ls in
    omega arith

-- the words of entries are among them
one_value : (before : List Line) (line : Line) → length (option_to_list (entry_value before line)) ≤ reads_at line
one_value before (lines.Move (moves.Read back_mover.Back number frame word value)) = by_test (is_some (of_entries (ring_word before number word)))
  where
    by_test : (b : Bool) → length (option_to_list (when b value)) ≤ 1
    by_test true = omega arith
    by_test false = omega arith
one_value before line = omega arith

values_among : (xs : List Line) → length (values_back xs) ≤ reads_of (reverse xs)
values_among [] = omega arith
values_among (line ∷ earlier) = by_epoch (is_epoch line) (values_among earlier)
  where
    all : reads_of (reverse (line ∷ earlier)) ≡ reads_of (reverse earlier) + reads_of (line ∷ [])
    all = ap reads_of (reverse-append (line ∷ []) earlier) ∙ reads_append (reverse earlier) (line ∷ [])

    by_epoch : (b : Bool) → length (values_back earlier) ≤ reads_of (reverse earlier) → length (if b then [] else values_back earlier ++ option_to_list (entry_value (reverse earlier) line)) ≤ reads_of (reverse (line ∷ earlier))
    by_epoch true rest = omega arith
    by_epoch false rest =
        let one = one_value (reverse earlier) line in
        let here = sum_by-cons reads_at line [] in
        let whole = all in
        let both = length-append (values_back earlier) (option_to_list (entry_value (reverse earlier) line)) in
        omega arith

pub values_few : (ls : List Line) → length (entry_values ls) ≤ reads_of ls
values_few ls = subst (λ (xs : List Line). length (entry_values ls) ≤ reads_of xs) (reverse-reverse ls) (values_among (reverse ls))
