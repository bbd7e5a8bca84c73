-- The state tells the numbers that mappings had, whatever the lines are.
use Rattle.std.proofs.Common.{◌≡◌, ℕ, ◌==◌, ◌||◌, Bool, true, false, if◌then◌else◌, List, [], ◌∷◌, ◌++◌, refl, ap, sym, ◌∙◌, subst, append_assoc}
use Rattle.std.specs.Prelude.{Option, Some, None}
use Rattle.blk_base.specs.declared.moves.Move.TheVariants as moves
use Rattle.schedule_text.specs.declared.line.Line.{Line}
use Rattle.schedule_text.specs.declared.line.Line.TheVariants as lines
use Rattle.report_rules.specs.declared.standing.Standing.{Standing}
use Rattle.report_rules.specs.Mapped.{was_made}
use Rattle.report_rules.specs.Standing.{mapping_made, has_number}
use Rattle.memory_check.specs.Numbers.{NumberSet, has}
use Rattle.memory_check.specs.State.{State, seen, state_after, with_word, standing_at, after_unmap}
use Rattle.memory_check.proofs.Written.{keeps_numbers}
use Rattle.memory_check.proofs.Numbered.{number_more}
use Rattle.memory_check.proofs.Sees.{none_had, made_more, or_false}
use Rattle.memory_check.proofs.Told.{after_more, none_more}

same_numbers : (state state' : State) (n : ℕ) → state'.numbers ≡ state.numbers → has state'.numbers n ≡ (has state.numbers n || false)
same_numbers state state' n e = ap (λ (ns : NumberSet). has ns n) e ∙ sym (or_false (has state.numbers n))

exchanged : (state : State) (frame word new : ℕ) (b : Bool) → (if b then with_word state frame word new else state).numbers ≡ state.numbers
exchanged state frame word new true = keeps_numbers state frame word new
exchanged state frame word new false = refl

unmapped : (state : State) (o : Option Standing) → (after_unmap state o).numbers ≡ state.numbers
unmapped state None = refl
unmapped state (Some s) = keeps_numbers state _ _ _

number_seen : (state : State) (line : Line) (n : ℕ) → has (seen state line).numbers n ≡ (has state.numbers n || has_number n (mapping_made line))
number_seen state (lines.Move (moves.FrontWrite frame word value)) n = same_numbers state (with_word state frame word value) n (keeps_numbers state frame word value)
number_seen state (lines.Move (moves.FrontCas frame word old new found)) n = same_numbers state (if found == old then with_word state frame word new else state) n (exchanged state frame word new (found == old))
number_seen state (lines.Move (moves.Write who number frame word value)) n = same_numbers state (with_word state frame word value) n (keeps_numbers state frame word value)
number_seen state (lines.Move (moves.Map who gref mode number frame)) n = number_more state.numbers number n
number_seen state (lines.Move (moves.Unmap who number)) n = same_numbers state (after_unmap state (standing_at state.standing number)) n (unmapped state (standing_at state.standing number))
number_seen state (lines.Poke frame word value) n = same_numbers state (with_word state frame word value) n (keeps_numbers state frame word value)
number_seen state line n = sym (or_false (has state.numbers n))

numbers_more : (before : List Line) (line : Line) → ((n : ℕ) → has (state_after before).numbers n ≡ was_made before n) → (n : ℕ) → has (state_after (before ++ line ∷ [])).numbers n ≡ was_made (before ++ line ∷ []) n
numbers_more before line told n =
    ap (λ (s : State). has s.numbers n) (after_more before line)
    ∙ (number_seen (state_after before) line n
    ∙ (ap (λ (b : Bool). b || has_number n (mapping_made line)) (told n)
    ∙ sym (made_more before line n)))

numbers_from : (done rest : List Line) → ((n : ℕ) → has (state_after done).numbers n ≡ was_made done n) → (n : ℕ) → has (state_after (done ++ rest)).numbers n ≡ was_made (done ++ rest) n
numbers_from done [] told n = subst (λ (xs : List Line). has (state_after xs).numbers n ≡ was_made xs n) (sym (none_more done)) (told n)
numbers_from done (line ∷ rest) told n =
    subst (λ (xs : List Line). has (state_after xs).numbers n ≡ was_made xs n) (append_assoc done (line ∷ []) rest) (numbers_from (done ++ line ∷ []) rest (numbers_more done line told) n)

pub numbers_all : (before : List Line) (n : ℕ) → has (state_after before).numbers n ≡ was_made before n
numbers_all before n = numbers_from [] before none_had n
