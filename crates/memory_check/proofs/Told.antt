-- The state after lines that obey the rule on maps tells what the definitions say of them.
use Rattle.std.proofs.Common.{◌≡◌, ℕ, ◌==◌, Bool, true, false, if◌then◌else◌, List, [], ◌∷◌, ◌++◌, refl, ap, sym, ◌∙◌, subst, append_assoc}
use Rattle.std.proofs.lemmas.List.Sums.{fold-append}
use Rattle.blk_base.specs.declared.moves.Move.TheVariants as moves
use Rattle.schedule_text.specs.declared.line.Line.{Line}
use Rattle.schedule_text.specs.declared.line.Line.TheVariants as lines
use Rattle.report_rules.specs.Obeys.{Obeys}
use Rattle.report_rules.specs.Mapped.{IsMapAnswerAt}
use Rattle.memory_check.specs.State.{State, start, seen, state_after, with_word}
use Rattle.memory_check.proofs.Written.{word_written}
use Rattle.memory_check.proofs.Sees.{Sees, sees_start, sees_still, sees_written, sees_epoch, sees_map}
use Rattle.memory_check.proofs.Unmapped.{sees_unmap}

sees_exchange : (before : List Line) (state : State) (frame word old new found : ℕ) → Sees before state → Sees (before ++ lines.Move (moves.FrontCas frame word old new found) ∷ []) (if found == old then with_word state frame word new else state)
sees_exchange before state frame word old new found sees = by_test (found == old) refl
  where
    by_test : (b : Bool) → (found == old) ≡ b → Sees (before ++ lines.Move (moves.FrontCas frame word old new found) ∷ []) (if b then with_word state frame word new else state)
    by_test true t =
        sees_written before (lines.Move (moves.FrontCas frame word old new found)) state frame word new sees refl (λ n. refl) refl
        (λ f w. word_written state frame word new f w ∙ rw t refl)
    by_test false t =
        sees_still before (lines.Move (moves.FrontCas frame word old new found)) state state sees refl (λ n. refl) refl refl refl
        (λ f w. rw t refl)

-- one line more
pub sees_more : (before : List Line) (line : Line) (state : State) → Sees before state → IsMapAnswerAt before line → Sees (before ++ line ∷ []) (seen state line)
sees_more before (lines.Move (moves.FrontWrite frame word value)) state sees answered = sees_written before (lines.Move (moves.FrontWrite frame word value)) state frame word value sees refl (λ n. refl) refl (word_written state frame word value)
sees_more before (lines.Move (moves.FrontCas frame word old new found)) state sees answered = sees_exchange before state frame word old new found sees
sees_more before (lines.Move (moves.Write who number frame word value)) state sees answered = sees_written before (lines.Move (moves.Write who number frame word value)) state frame word value sees refl (λ n. refl) refl (word_written state frame word value)
sees_more before (lines.Move (moves.Map who gref mode number frame)) state sees answered =
    sees_map before (lines.Move (moves.Map who gref mode number frame)) state (record { number = number; gref = gref; mode = mode; frame = frame }) sees answered.1 refl (λ n. refl) refl (λ f w v. refl)
sees_more before (lines.Move (moves.Unmap who number)) state sees answered = sees_unmap before who number state sees
sees_more before (lines.Poke frame word value) state sees answered = sees_written before (lines.Poke frame word value) state frame word value sees refl (λ n. refl) refl (word_written state frame word value)
sees_more before lines.Epoch state sees answered = sees_epoch before state sees
sees_more before line state sees answered = sees_still before line state state sees refl (λ n. refl) refl refl refl (λ f w. refl)

pub after_more : (before : List Line) (line : Line) → state_after (before ++ line ∷ []) ≡ seen (state_after before) line
after_more before line = fold-append seen start before (line ∷ [])

pub none_more : (xs : List Line) → xs ++ [] ≡ xs
none_more [] = refl
none_more (x ∷ xs) = ap (λ (ys : List Line). x ∷ ys) (none_more xs)

-- all lines, of which the first were seen
sees_from : (done rest : List Line) → Obeys IsMapAnswerAt (done ++ rest) → Sees done (state_after done) → Sees (done ++ rest) (state_after (done ++ rest))
sees_from done [] obeys sees = subst (λ (xs : List Line). Sees xs (state_after xs)) (sym (none_more done)) sees
sees_from done (line ∷ rest) obeys sees =
    let next : Sees (done ++ line ∷ []) (seen (state_after done) line) = sees_more done line (state_after done) sees (obeys done rest line refl) in
    let seen_next : Sees (done ++ line ∷ []) (state_after (done ++ line ∷ [])) = subst (λ (s : State). Sees (done ++ line ∷ []) s) (sym (after_more done line)) next in
    let split : (done ++ line ∷ []) ++ rest ≡ done ++ line ∷ rest = append_assoc done (line ∷ []) rest in
    subst (λ (xs : List Line). Sees xs (state_after xs)) split
    (sees_from (done ++ line ∷ []) rest (subst (λ (xs : List Line). Obeys IsMapAnswerAt xs) (sym split) obeys) seen_next)

pub sees_all : (before : List Line) → Obeys IsMapAnswerAt before → Sees before (state_after before)
sees_all before obeys = sees_from [] before obeys sees_start
