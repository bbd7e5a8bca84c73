-- A number that the back touched stood, and was made before: so a map that gives a new number gives none that the back touched in this epoch.
use Rattle.std.proofs.Common.{◌≡◌, ℕ, ◌==◌, ◌||◌, not, Bool, true, false, cond, if◌then◌else◌, List, [], ◌∷◌, ◌++◌, refl, ap, sym, ◌∙◌, subst, arith}
use Rattle.std.specs.Prelude.{find, filter, Option, Some, None, is_some, IsSomeAnd}
use Rattle.std.specs.List.{list_any}
use Rattle.std.specs.Option.{option_to_list, option_or}
use Rattle.std.proofs.lemmas.List.Folds.{list_any-append, find-append}
use Rattle.std.proofs.lemmas.Bool.Decides.{nat_tests}
use Rattle.blk_base.specs.declared.parts.Mode.TheVariants.{ReadWrite}
use Rattle.blk_base.specs.declared.moves.BackMover.TheVariants as back
use Rattle.blk_base.specs.declared.moves.Move.TheVariants as moves
use Rattle.schedule_text.specs.declared.line.Line.{Line}
use Rattle.schedule_text.specs.declared.line.Line.TheVariants as lines
use Rattle.report_rules.specs.declared.standing.Standing.{Standing}
use Rattle.report_rules.specs.Standing.{is_epoch, this_epoch, has_number, is_unmap_of, mapping_made, standing_after, numbered}
use Rattle.report_rules.specs.Ring.{page_made}
use Rattle.report_rules.specs.Touch.{IsTouchAt}
use Rattle.report_rules.specs.Mapped.{was_made, IsMapAnswerAt}
use Rattle.report_rules.proofs.Back.{epoch_more, standing_more}
use Rattle.ring_check.proofs.Telling.{touches, IsNew}

-- each number that stands or that the back touched in this epoch was made
pub record AreMade (before : List Line) : Type 0 where
  pub stood : (m : ℕ) → is_some (numbered m (standing_after before)) ≡ true → was_made before m ≡ true
  pub touched : (m : ℕ) → list_any (touches m) (this_epoch before) ≡ true → was_made before m ≡ true

pub none_made : AreMade []
none_made = record { stood = λ m e. absurd (cc); touched = λ m e. absurd (cc) }

data Either (a b : Bool) : Type 0 where
  first : a ≡ true → Either a b
  second : b ≡ true → Either a b

either : (a b : Bool) → (a || b) ≡ true → Either a b
either true b e = first refl
either false b e = second e

or_left : (a b : Bool) → a ≡ true → (a || b) ≡ true
or_left a b e = rw e refl

or_right : (a b : Bool) → b ≡ true → (a || b) ≡ true
or_right true b e = refl
or_right false b e = e

or_false : (b : Bool) → (b || false) ≡ b
or_false true = refl
or_false false = refl

made_more : (before : List Line) (line : Line) (m : ℕ) → was_made (before ++ line ∷ []) m ≡ (was_made before m || has_number m (mapping_made line))
made_more before line m =
    list_any-append (λ (x : Line). has_number m (mapping_made x)) before (line ∷ [])
    ∙ ap (λ (b : Bool). was_made before m || b) (or_false (has_number m (mapping_made line)))

still_made : (before : List Line) (line : Line) (m : ℕ) → was_made before m ≡ true → was_made (before ++ line ∷ []) m ≡ true
still_made before line m e = made_more before line m ∙ or_left (was_made before m) (has_number m (mapping_made line)) e

now_made : (before : List Line) (line : Line) (m : ℕ) → has_number m (mapping_made line) ≡ true → was_made (before ++ line ∷ []) m ≡ true
now_made before line m e = made_more before line m ∙ or_right (was_made before m) (has_number m (mapping_made line)) e

-- what is found in a part is found in the whole
part_by : (p q : Standing → Bool) (s : Standing) (xs : List Standing) (kept is : Bool) → q s ≡ kept → p s ≡ is → (is_some (find p (filter q xs)) ≡ true → is_some (find p xs) ≡ true)
    → is_some (find p (if kept then s ∷ filter q xs else filter q xs)) ≡ true → is_some (cond is (Some s) (find p xs)) ≡ true
part_by p q s xs kept true k i rest e = refl
part_by p q s xs true false k i rest e = rest (ap (λ (b : Bool). is_some (cond b (Some s) (find p (filter q xs)))) (sym i) ∙ e)
part_by p q s xs false false k i rest e = rest e

in_whole : (p q : Standing → Bool) (xs : List Standing) → is_some (find p (filter q xs)) ≡ true → is_some (find p xs) ≡ true
in_whole p q [] e = e
in_whole p q (s ∷ xs) e = part_by p q s xs (q s) (p s) refl refl (in_whole p q xs) e

or_some : (a b : Option Standing) → is_some (option_or a b) ≡ (is_some a || is_some b)
or_some None b = refl
or_some (Some s) b = refl

one_found : (m : ℕ) (made : Option Standing) → is_some (numbered m (option_to_list made)) ≡ has_number m made
one_found m None = refl
one_found m (Some s) = one_by (s.number == m)
  where
    one_by : (b : Bool) → is_some (cond b (Some s) None) ≡ b
    one_by true = refl
    one_by false = refl

found_in : (m : ℕ) (line : Line) (xs : List Standing) → is_some (numbered m (filter (λ (s : Standing). not (is_unmap_of s.number line)) xs ++ option_to_list (mapping_made line))) ≡ true → Either (is_some (numbered m xs)) (has_number m (mapping_made line))
found_in m line xs e =
    let left = filter (λ (s : Standing). not (is_unmap_of s.number line)) xs in
    let split : (is_some (numbered m left) || has_number m (mapping_made line)) ≡ true =
    ap (λ (b : Bool). is_some (numbered m left) || b) (sym (one_found m (mapping_made line)))
    ∙ (sym (or_some (numbered m left) (numbered m (option_to_list (mapping_made line))))
    ∙ (ap (λ (o : Option Standing). is_some o) (sym (find-append (λ (s : Standing). s.number == m) left (option_to_list (mapping_made line)))) ∙ e)) in
    elim (either (is_some (numbered m left)) (has_number m (mapping_made line)) split) [
      | first here ↦ first (in_whole (λ (s : Standing). s.number == m) (λ (s : Standing). not (is_unmap_of s.number line)) xs here)
      | second made ↦ second made
    ]

stood_by : (before : List Line) (line : Line) (m : ℕ) (epoch : Bool) → AreMade before → is_epoch line ≡ epoch
    → is_some (numbered m (if epoch then [] else filter (λ (s : Standing). not (is_unmap_of s.number line)) (standing_after before) ++ option_to_list (mapping_made line))) ≡ true → was_made (before ++ line ∷ []) m ≡ true
stood_by before line m true made is e = absurd (cc)
stood_by before line m false made is e =
    elim (found_in m line (standing_after before) e) [
      | first here ↦ still_made before line m (made.stood m here)
      | second now ↦ now_made before line m now
    ]

some_of : (o : Option Standing) (P : Standing → Type 0) → IsSomeAnd o P → is_some o ≡ true
some_of None P e = absurd e
some_of (Some s) P e = refl

same_number : (m number : ℕ) → (m == number) ≡ true → m ≡ number
same_number m number e = grind (arith, nat_tests)

-- a number that the back touches in a line stands before
stands : (before : List Line) (line : Line) (m : ℕ) → IsTouchAt before line → touches m line ≡ true → is_some (numbered m (standing_after before)) ≡ true
stands before (lines.Move (moves.Read back.Back number frame word value)) m touch e =
    subst (λ (n : ℕ). is_some (numbered n (standing_after before)) ≡ true) (sym (same_number m number e)) (some_of (numbered number (standing_after before)) (λ s. s.frame ≡ frame) touch)
stands before (lines.Move (moves.Write back.Back number frame word value)) m touch e =
    subst (λ (n : ℕ). is_some (numbered n (standing_after before)) ≡ true) (sym (same_number m number e)) (some_of (numbered number (standing_after before)) (λ s. (s.frame ≡ frame) × (s.mode ≡ ReadWrite)) touch)
stands before line m touch e = absurd (cc)

touched_by : (before : List Line) (line : Line) (m : ℕ) (epoch : Bool) → AreMade before → IsTouchAt before line → is_epoch line ≡ epoch
    → list_any (touches m) (if epoch then [] else this_epoch before ++ line ∷ []) ≡ true → was_made (before ++ line ∷ []) m ≡ true
touched_by before line m true made touch is e = absurd (cc)
touched_by before line m false made touch is e =
    elim (either (list_any (touches m) (this_epoch before)) (touches m line || false) (sym (list_any-append (touches m) (this_epoch before) (line ∷ [])) ∙ e)) [
      | first here ↦ still_made before line m (made.touched m here)
      | second now ↦ still_made before line m (made.stood m (stands before line m touch (sym (or_false (touches m line)) ∙ now)))
    ]

pub made_next : (before : List Line) (line : Line) → AreMade before → IsTouchAt before line → AreMade (before ++ line ∷ [])
made_next before line made touch = record {
  stood = λ m e. stood_by before line m (is_epoch line) made refl (ap (λ (ss : List Standing). is_some (numbered m ss)) (sym (standing_more before line)) ∙ e);
  touched = λ m e. touched_by before line m (is_epoch line) made touch refl (ap (λ (xs : List Line). list_any (touches m) xs) (sym (epoch_more before line)) ∙ e);
}

not_touched : (b : Bool) (before : List Line) (m : ℕ) → (b ≡ true → was_made before m ≡ true) → was_made before m ≡ false → b ≡ false
not_touched true before m made new = let old = made refl in absurd (cc)
not_touched false before m made new = refl

-- a page that a line makes is none that the back touched
pub new_page : (before : List Line) (line : Line) → AreMade before → IsMapAnswerAt before line → IsNew (page_made line) (this_epoch before)
new_page before (lines.Move (moves.Map back.Back gref mode number frame)) made answer = not_touched (list_any (touches number) (this_epoch before)) before number (made.touched number) answer.1
new_page before line made answer = tt
