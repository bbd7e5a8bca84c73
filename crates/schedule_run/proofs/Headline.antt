-- A lawful report keeps the headline: a mapping that stands was made by a line that the grant's entry allowed.
use Rattle.std.proofs.Common.{◌≡◌, ℕ, ◌==◌, Bool, true, false, ◌||◌, List, [], ◌∷◌, ◌++◌, Option, Some, None, refl, ap, sym, ◌∙◌, subst, append_assoc}
use Rattle.std.specs.Prelude.{find, if◌then◌else◌, IsSomeAnd}
use Rattle.std.specs.List.{AllByRecursion, list_any, cons_option}
use Rattle.std.proofs.lemmas.List.{append-nil}
use Rattle.std.proofs.lemmas.List.Elements.{All-from_recursion}
use Rattle.std.proofs.lemmas.Bool.{eqb-true}
use Rattle.blk_base.specs.Options.{Options}
use Rattle.blk_base.specs.declared.parts.Mode.{Mode}
use Rattle.blk_base.specs.declared.parts.Mode.TheVariants.{ReadWrite}
use Rattle.blk_base.specs.declared.moves.BackMover.{BackMover}
use Rattle.blk_base.specs.declared.moves.Move.TheVariants as moves
use Rattle.grant_table.specs.Entry.{is_for_writing}
use Rattle.schedule_text.specs.declared.line.Detail.{Detail}
use Rattle.schedule_text.specs.declared.line.Detail.TheVariants.{Lines, Moves}
use Rattle.schedule_text.specs.declared.line.Line.{Line}
use Rattle.schedule_text.specs.declared.line.Line.TheVariants as lines
use Rattle.report_rules.specs.declared.standing.Standing.{Standing}
use Rattle.report_rules.specs.Obeys.{Obeys}
use Rattle.report_rules.specs.Standing.{is_epoch, is_unmap_of, this_epoch, left_of, standing_after, numbered}
use Rattle.report_rules.specs.Mapped.{IsMapAnswerAt, AreMapAnswers}
use Rattle.report_rules.specs.Touch.{IsTouchAt, AreTouches}
use Rattle.report_rules.specs.Overrun.{IsOverrunRule}
use Rattle.report_rules.proofs.Obeys.{obeys_before}
use Rattle.report_rules.proofs.Back.{epoch_more}
use Rattle.checked_rules.specs.Rules.{move_rules, ObeysEach}
use Rattle.checked_rules.specs.Shown.{OfShown}
use Rattle.checked_rules.proofs.Shown as shown
use Rattle.report_laws.specs.Begun.{IsBegun}
use Rattle.schedule_run.specs.Headline.{WasGranted, IsGrantedAt, LawfulKeepsTheHeadline}

abbrev IsWithin : Line → Type 0
IsWithin line = is_epoch line ≡ false

-- ---- the lines of an epoch are the last ones

record IsEnd (before : List Line) : Type 0 where
  first : List Line
  split : before ≡ first ++ this_epoch before
  within : AllByRecursion IsWithin (this_epoch before)

both_within : (a b : List Line) → AllByRecursion IsWithin a → AllByRecursion IsWithin b → AllByRecursion IsWithin (a ++ b)
both_within [] b p q = q
both_within (line ∷ a) b p q = (p.0, both_within a b p.1 q)

end_more : (before : List Line) (line : Line) → IsEnd before → IsEnd (before ++ line ∷ [])
end_more before line e = by_test (is_epoch line) refl
  where
    by_test : (b : Bool) → is_epoch line ≡ b → IsEnd (before ++ line ∷ [])
    by_test true is =
        let none : this_epoch (before ++ line ∷ []) ≡ [] = epoch_more before line ∙ ap (λ (b : Bool). if b then [] else this_epoch before ++ line ∷ []) is in
        record {
          first = before ++ line ∷ [];
          split = sym (append-nil (before ++ line ∷ [])) ∙ ap (λ (l : List Line). (before ++ line ∷ []) ++ l) (sym none);
          within = subst (AllByRecursion IsWithin) (sym none) tt;
        }
    by_test false is =
        let more : this_epoch (before ++ line ∷ []) ≡ this_epoch before ++ line ∷ [] = epoch_more before line ∙ ap (λ (b : Bool). if b then [] else this_epoch before ++ line ∷ []) is in
        record {
          first = e.first;
          split = ap (λ (l : List Line). l ++ line ∷ []) e.split ∙ (append_assoc e.first (this_epoch before) (line ∷ []) ∙ ap (λ (l : List Line). e.first ++ l) (sym more));
          within = subst (AllByRecursion IsWithin) (sym more) (both_within (this_epoch before) (line ∷ []) e.within (is, tt));
        }

ends_on : (before more : List Line) → IsEnd before → IsEnd (before ++ more)
ends_on before [] e = subst IsEnd (sym (append-nil before)) e
ends_on before (line ∷ more) e = subst IsEnd (append_assoc before (line ∷ []) more) (ends_on (before ++ line ∷ []) more (end_more before line e))

is_end : (before : List Line) → IsEnd before
is_end before = ends_on [] before (record { first = []; split = refl; within = tt })

-- ---- a mapping that stands

record WasMade (ls : List Line) (number : ℕ) (s : Standing) : Type 0 where
  first : List Line
  who : BackMover
  rest : List Line
  made : ls ≡ first ++ lines.Move (moves.Map who s.gref s.mode s.number s.frame) ∷ rest
  kept : list_any (is_unmap_of s.number) rest ≡ false
  same : s.number ≡ number

later_made : (line : Line) (ls : List Line) (number : ℕ) (s : Standing) → WasMade ls number s → WasMade (line ∷ ls) number s
later_made line ls number s m = record { first = line ∷ m.first; who = m.who; rest = m.rest; made = ap (λ (l : List Line). line ∷ l) m.made; kept = m.kept; same = m.same }

made_here : (who : BackMover) (gref : ℕ) (mode : Mode) (n frame : ℕ) (ls : List Line) (number : ℕ) (s : Standing)
    → (find (λ (x : Standing). x.number == number) (left_of ls) ≡ Some s → WasMade ls number s)
    → find (λ (x : Standing). x.number == number) (left_of (lines.Move (moves.Map who gref mode n frame) ∷ ls)) ≡ Some s
    → WasMade (lines.Move (moves.Map who gref mode n frame) ∷ ls) number s
made_here who gref mode n frame ls number s later = by_kept (list_any (is_unmap_of n) ls) refl
  where
    line : Line
    line = lines.Move (moves.Map who gref mode n frame)

    here : Standing
    here = record { number = n; gref = gref; mode = mode; frame = frame }

    by_number : (b : Bool) → (n == number) ≡ b → list_any (is_unmap_of n) ls ≡ false → (if b then Some here else find (λ (x : Standing). x.number == number) (left_of ls)) ≡ Some s → WasMade (line ∷ ls) number s
    by_number true is kept found =
        let same : here ≡ s = cc in
        subst (λ (x : Standing). WasMade (line ∷ ls) number x) same (record { first = []; who = who; rest = ls; made = refl; kept = kept; same = eqb-true n number is })
    by_number false is kept found = later_made line ls number s (later found)

    by_kept : (b : Bool) → list_any (is_unmap_of n) ls ≡ b → find (λ (x : Standing). x.number == number) (cons_option (if b then None else Some here) (left_of ls)) ≡ Some s → WasMade (line ∷ ls) number s
    by_kept true is found = later_made line ls number s (later found)
    by_kept false is found = by_number (n == number) refl is found

was_made : (ls : List Line) (number : ℕ) (s : Standing) → find (λ (x : Standing). x.number == number) (left_of ls) ≡ Some s → WasMade ls number s
was_made [] number s found = absurd (cc)
was_made (lines.Move (moves.Map who gref mode n frame) ∷ ls) number s found = made_here who gref mode n frame ls number s (was_made ls number s) found
was_made (line ∷ ls) number s found = later_made line ls number s (was_made ls number s found)

-- ---- a touch

abbrev Stands : ℕ → Line → Type 0
Stands number line = (is_epoch line ≡ false) × (is_unmap_of number line ≡ false)

neither : (a b : Bool) → (a || b) ≡ false → (a ≡ false) × (b ≡ false)
neither true b e = absurd (cc)
neither false b e = (refl, e)

all_stand : (number : ℕ) (first ls : List Line) → AllByRecursion IsWithin (first ++ ls) → list_any (is_unmap_of number) ls ≡ false → AllByRecursion (Stands number) ls
all_stand number (line ∷ first) ls within kept = all_stand number first ls within.1 kept
all_stand number [] [] within kept = tt
all_stand number [] (line ∷ ls) within kept = let both = neither (is_unmap_of number line) (list_any (is_unmap_of number) ls) kept in ((within.0, both.0), all_stand number [] ls within.1 both.1)

granted_by : (before : List Line) (number : ℕ) (s : Standing) (writes : Bool) → AreMapAnswers before → numbered number (standing_after before) ≡ Some s → (writes ≡ true → is_for_writing s.mode ≡ true) → WasGranted before number s.frame writes
granted_by before number s writes answers found may =
    let e = is_end before in
    let m = was_made (this_epoch before) number s found in
    let line = lines.Move (moves.Map m.who s.gref s.mode s.number s.frame) in
    let split : before ≡ (e.first ++ m.first) ++ line ∷ m.rest = e.split ∙ (ap (λ (l : List Line). e.first ++ l) m.made ∙ sym (append_assoc e.first m.first (line ∷ m.rest))) in
    let answer : IsMapAnswerAt (e.first ++ m.first) line = answers (e.first ++ m.first) m.rest line split in
    let within : AllByRecursion IsWithin ((m.first ++ line ∷ []) ++ m.rest) = subst (AllByRecursion IsWithin) (m.made ∙ sym (append_assoc m.first (line ∷ []) m.rest)) e.within in
    record {
      earlier = e.first ++ m.first;
      who = m.who;
      gref = s.gref;
      mode = s.mode;
      later = m.rest;
      mapped = split ∙ ap (λ (n : ℕ). (e.first ++ m.first) ++ lines.Move (moves.Map m.who s.gref s.mode n s.frame) ∷ m.rest) m.same;
      stands = All-from_recursion (Stands number) m.rest (subst (λ (n : ℕ). AllByRecursion (Stands n) m.rest) m.same (all_stand s.number (m.first ++ line ∷ []) m.rest within m.kept));
      granted = answer.0;
      for_writing = may;
    }

some_read : (before : List Line) (number frame : ℕ) (o : Option Standing) → AreMapAnswers before → numbered number (standing_after before) ≡ o → IsSomeAnd o (λ (s : Standing). s.frame ≡ frame) → WasGranted before number frame false
some_read before number frame None answers found touch = absurd touch
some_read before number frame (Some s) answers found touch = subst (λ (f : ℕ). WasGranted before number f false) touch (granted_by before number s false answers found (λ e. absurd (cc)))

some_write : (before : List Line) (number frame : ℕ) (o : Option Standing) → AreMapAnswers before → numbered number (standing_after before) ≡ o → IsSomeAnd o (λ (s : Standing). (s.frame ≡ frame) × (s.mode ≡ ReadWrite)) → WasGranted before number frame true
some_write before number frame None answers found touch = absurd touch
some_write before number frame (Some s) answers found touch =
    subst (λ (f : ℕ). WasGranted before number f true) touch.0 (granted_by before number s true answers found (λ e. ap is_for_writing touch.1))

granted_at : (before : List Line) (line : Line) → AreMapAnswers before → IsTouchAt before line → IsGrantedAt before line
granted_at before (lines.Move (moves.Read who number frame word value)) answers touch = some_read before number frame (numbered number (standing_after before)) answers refl touch
granted_at before (lines.Move (moves.Write who number frame word value)) answers touch = some_write before number frame (numbered number (standing_after before)) answers refl touch
granted_at before line answers touch = tt

are_granted : (report : List Line) → AreTouches report → AreMapAnswers report → Obeys IsGrantedAt report
are_granted report touches answers before after line split =
    granted_at before line (obeys_before IsMapAnswerAt before (line ∷ after) (subst AreMapAnswers split answers)) (touches before after line split)

-- what the rules on moves say, where they are shown
where_shown : (Claim : List Line → Type 0) → OfShown Claim → (config : Options) (detail : Detail) (report : List Line) → IsBegun config detail report → ObeysEach move_rules report → detail ≡ Moves → Claim report
where_shown Claim of config Moves report begun rules same = subst Claim (sym begun.first) (of config begun.rest (subst (ObeysEach move_rules) begun.first rules))
where_shown Claim of config Lines report begun rules same = absurd (cc)

pub lawful_keeps : LawfulKeepsTheHeadline
lawful_keeps config detail jobs before now report lawful = record {
  granted = λ moves.
      are_granted report (where_shown AreTouches shown.touches config detail report lawful.begun lawful.so_far.rules moves) (where_shown AreMapAnswers shown.answers config detail report lawful.begun lawful.so_far.rules moves);
  overruns = λ moves. where_shown IsOverrunRule shown.overruns config detail report lawful.begun lawful.so_far.rules moves;
  disk = λ honest of. let s = lawful.requests honest of in s.disk;
  once = λ honest of. let s = lawful.requests honest of in s.once;
  quiet = λ honest of. let s = lawful.requests honest of in s.quiet;
  settled = lawful.so_far.settled;
}
