-- The state sees an unmap as the definitions do.
use Rattle.std.proofs.Common.{◌≡◌, ℕ, ◌==◌, ◌&&◌, not, Bool, true, false, cond, if◌then◌else◌, List, [], ◌∷◌, ◌++◌, filter, count_by, refl, ap, sym, ◌∙◌}
use Rattle.std.specs.Prelude.{Option, Some, None}
use Rattle.std.specs.Map.{values_of}
use Rattle.blk_base.specs.declared.moves.Move.TheVariants as moves
use Rattle.blk_base.specs.declared.moves.BackMover.{BackMover}
use Rattle.grant_table.specs.Entry.{unmapped_entry, is_for_writing}
use Rattle.schedule_text.specs.declared.line.Line.{Line}
use Rattle.schedule_text.specs.declared.line.Line.TheVariants as lines
use Rattle.report_rules.specs.declared.standing.Standing.{Standing}
use Rattle.report_rules.specs.Mapped.{was_made}
use Rattle.report_rules.specs.Standing.{standing_after, numbered, others_of, other_writers_of}
use Rattle.report_rules.specs.Value.{value_before, is_flags_of, after_unmap as value_after_unmap}
use Rattle.report_rules.proofs.Back.{value_more, standing_more}
use Rattle.memory_check.specs.Numbers.{has}
use Rattle.memory_check.specs.State.{State, word_at, standing_at, after_unmap}
use Rattle.memory_check.proofs.Written.{flags_written, keeps_numbers}
use Rattle.memory_check.proofs.Counts.{apart_removed, found_after_removal, count_removed, count_filter, number_of_found, numbered_filter, filter_absent}
use Rattle.memory_check.proofs.Sees.{Sees, made_more, or_false, append_none}

cond_none : {X : Type 0} (b : Bool) → ◌≡◌ {A = Option X} (cond b None None) None
cond_none true = refl
cond_none false = refl

left_by_unmap : (before : List Line) (who : BackMover) (number : ℕ) → standing_after (before ++ lines.Move (moves.Unmap who number) ∷ []) ≡ filter (λ (s : Standing). not (number == s.number)) (standing_after before)
left_by_unmap before who number =
    standing_more before (lines.Move (moves.Unmap who number)) ∙ append_none (filter (λ (s : Standing). not (number == s.number)) (standing_after before))

given_after : (before : List Line) (who : BackMover) (number n : ℕ) → was_made (before ++ lines.Move (moves.Unmap who number) ∷ []) n ≡ was_made before n
given_after before who number n = made_more before (lines.Move (moves.Unmap who number)) n ∙ or_false (was_made before n)

-- a number that doesn't stand
unmapped_none : (before : List Line) (who : BackMover) (number : ℕ) (state : State) → Sees before state → standing_at state.standing number ≡ None → Sees (before ++ lines.Move (moves.Unmap who number) ∷ []) state
unmapped_none before who number state sees none =
    let absent : numbered number (standing_after before) ≡ None = sym (sees.mapped number) ∙ none in
    let standing : standing_after (before ++ lines.Move (moves.Unmap who number) ∷ []) ≡ standing_after before = left_by_unmap before who number ∙ filter_absent number (standing_after before) absent in
    record {
      values = λ frame word.
          sees.values frame word
          ∙ (sym (ap (λ (o : Option Standing). value_after_unmap (record { frame = frame; word = word }) (value_before before frame word) (standing_after before) o) absent)
          ∙ sym (value_more before (lines.Move (moves.Unmap who number)) frame word));
      apart = sees.apart;
      mapped = λ n. sees.mapped n ∙ ap (numbered n) (sym standing);
      counted = λ p. sees.counted p ∙ ap (λ (ss : List Standing). count_by p ss) (sym standing);
      made = λ n. sees.made n ∙ sym (given_after before who number n);
      fresh = λ n new. ap (numbered n) standing ∙ sees.fresh n (sym (given_after before who number n) ∙ new);
    }

-- the flags of the entry after a mapping ended
flags_after : (before : List Line) (state : State) (s : Standing) → Sees before state → (frame word : ℕ) → word_at (after_unmap state (Some s)) frame word
    ≡ value_after_unmap (record { frame = frame; word = word }) (value_before before frame word) (standing_after before) (Some s)
flags_after before state s sees frame word =
    let others = sees.counted (λ (x : Standing). (x.gref == s.gref) && not (x.number == s.number)) in
    let writers = sees.counted (λ (x : Standing). (x.gref == s.gref) && is_for_writing x.mode && not (x.number == s.number)) in
    flags_written state s.gref frame word (λ v. unmapped_entry v (others_of s.gref s.number (values_of state.standing)) (other_writers_of s.gref s.number (values_of state.standing)))
    ∙ (ap (λ (v : ℕ). if is_flags_of (record { frame = frame; word = word }) s.gref then unmapped_entry v (others_of s.gref s.number (values_of state.standing)) (other_writers_of s.gref s.number (values_of state.standing)) else v) (sees.values frame word)
    ∙ (ap (λ (n : ℕ). if is_flags_of (record { frame = frame; word = word }) s.gref then unmapped_entry (value_before before frame word) n (other_writers_of s.gref s.number (values_of state.standing)) else value_before before frame word) others
    ∙ ap (λ (n : ℕ). if is_flags_of (record { frame = frame; word = word }) s.gref then unmapped_entry (value_before before frame word) (others_of s.gref s.number (standing_after before)) n else value_before before frame word) writers))

-- a number that stands
unmapped_some : (before : List Line) (who : BackMover) (number : ℕ) (state : State) (s : Standing) → Sees before state → standing_at state.standing number ≡ Some s → Sees (before ++ lines.Move (moves.Unmap who number) ∷ []) (after_unmap state (Some s))
unmapped_some before who number state s sees is =
    let found : numbered number (standing_after before) ≡ Some s = sym (sees.mapped number) ∙ is in
    let same : s.number ≡ number = number_of_found number (standing_after before) s found in
    let standing : standing_after (before ++ lines.Move (moves.Unmap who number) ∷ []) ≡ filter (λ (x : Standing). not (s.number == x.number)) (standing_after before) =
    left_by_unmap before who number ∙ ap (λ (k : ℕ). filter (λ (x : Standing). not (k == x.number)) (standing_after before)) (sym same) in
    let left : (n : ℕ) → numbered n (standing_after (before ++ lines.Move (moves.Unmap who number) ∷ [])) ≡ cond (s.number == n) None (numbered n (standing_after before)) =
    λ n. ap (numbered n) standing ∙ numbered_filter s.number n (standing_after before) in
    record {
      values = λ frame word.
          flags_after before state s sees frame word
          ∙ (sym (ap (λ (o : Option Standing). value_after_unmap (record { frame = frame; word = word }) (value_before before frame word) (standing_after before) o) found)
          ∙ sym (value_more before (lines.Move (moves.Unmap who number)) frame word));
      apart = apart_removed s.number state.standing sees.apart;
      mapped = λ n.
          found_after_removal s.number n state.standing sees.apart
          ∙ (ap (λ (o : Option Standing). cond (s.number == n) None o) (sees.mapped n)
          ∙ sym (left n));
      counted = λ p.
          count_removed p s.number state.standing sees.apart
          ∙ (sees.counted (λ (x : Standing). p x && not (s.number == x.number))
          ∙ (count_filter p (λ (x : Standing). not (s.number == x.number)) (standing_after before)
          ∙ ap (λ (ss : List Standing). count_by p ss) (sym standing)));
      made = λ n. ap (λ ns. has ns n) (keeps_numbers state _ _ _) ∙ (sees.made n ∙ sym (given_after before who number n));
      fresh = λ n new.
          left n
          ∙ (ap (λ (o : Option Standing). cond (s.number == n) None o) (sees.fresh n (sym (given_after before who number n) ∙ new))
          ∙ cond_none (s.number == n));
    }

pub sees_unmap : (before : List Line) (who : BackMover) (number : ℕ) (state : State) → Sees before state → Sees (before ++ lines.Move (moves.Unmap who number) ∷ []) (after_unmap state (standing_at state.standing number))
sees_unmap before who number state sees = by_found (standing_at state.standing number) refl
  where
    by_found : (o : Option Standing) → standing_at state.standing number ≡ o → Sees (before ++ lines.Move (moves.Unmap who number) ∷ []) (after_unmap state o)
    by_found None is = unmapped_none before who number state sees is
    by_found (Some s) is = unmapped_some before who number state s sees is
