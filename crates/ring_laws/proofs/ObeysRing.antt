-- The rules of the ring hold of the lines so far, and of one line more.
use Rattle.std.proofs.Common.{◌≡◌, ℕ, ◌^◌, ◌<◌, ◌||◌, Bool, true, false, if◌then◌else◌, List, [], ◌∷◌, ◌++◌, refl, ap, sym, ◌∙◌, subst, append_assoc}
use Rattle.std.specs.Prelude.{Option, Some, None, is_some, IfSome}
use Rattle.std.proofs.lemmas.List.{reverse-append, reverse-reverse}
use Rattle.blk_base.specs.declared.operation.Abi.{Abi}
use Rattle.blk_base.specs.declared.moves.BackMover.TheVariants as back
use Rattle.blk_base.specs.declared.moves.Move.TheVariants as moves
use Rattle.blk_base.specs.declared.halt.Halt.TheVariants as halts
use Rattle.schedule_text.specs.declared.line.Line.{Line}
use Rattle.schedule_text.specs.declared.line.Line.TheVariants as lines
use Rattle.report_rules.specs.Obeys.{Obeys}
use Rattle.report_rules.specs.Standing.{is_epoch}
use Rattle.report_rules.specs.Ring.{is_page, produced_shown, ring_order, ring_abi, replied_before}
use Rattle.report_rules.specs.Overrun.{overrun_of, overrun_by, overrun_shown, overran_after, has_overrun, is_service, IsOverrunAt}
use Rattle.report_rules.specs.Stretch.{entry_word_read, entries_read, words_within, is_back_move, word_touched, IsStretchAt}
use Rattle.report_rules.proofs.Obeys.{obeys_none, obeys_more}
use Rattle.ring_laws.specs.Layout.{IsNamedFirstAt}
use Rattle.ring_laws.proofs.Lists.{or_false}
use Rattle.ring_laws.proofs.Sight.{is_touch, is_of_back}
use Rattle.ring_laws.proofs.EntryWords.{words_read, AreWhole, whole_within}
use Rattle.ring_laws.proofs.Shows.{Sight, Shows, unnamed_first}

-- the line of an overrun
abbrev pub is_overrun : Line → Bool
is_overrun (lines.Halt (halts.Overrun produced replied)) = true
is_overrun line = false

pub record ObeysRing (before : List Line) (start : ℕ) (over : Bool) : Type 0 where
  pub overruns : Obeys IsOverrunAt before
  pub stretches : start < 2 ^ 32 → Obeys IsStretchAt before
  pub named : Obeys IsNamedFirstAt before
  pub last : overrun_shown before ≡ None
  pub halted : has_overrun before ≡ true → over ≡ true

pub ring_none : (start : ℕ) → ObeysRing [] start false
ring_none start = record { overruns = obeys_none IsOverrunAt; stretches = λ small. obeys_none IsStretchAt; named = obeys_none IsNamedFirstAt; last = refl; halted = λ e. e }

shown_more : (before : List Line) (line : Line) → overrun_shown (before ++ line ∷ []) ≡ overrun_by before line
shown_more before line = rw (reverse-append before (line ∷ []), reverse-reverse before) refl

overran_more : (before : List Line) (line : Line) → has_overrun (before ++ line ∷ []) ≡ overran_after (has_overrun before) before line
overran_more before line = rw (reverse-append before (line ∷ []), reverse-reverse before) refl

overran_by : (before : List Line) (line : Line) → is_epoch line ≡ false → overrun_by before line ≡ None → has_overrun (before ++ line ∷ []) ≡ has_overrun before
overran_by before line same e =
    let none : is_some (overrun_by before line) ≡ false = ap (λ o. is_some o) e in
    overran_more before line ∙ (ap (λ (b : Bool). if b then false else has_overrun before || is_some (overrun_by before line)) same
    ∙ (ap (λ (b : Bool). has_overrun before || b) none ∙ or_false (has_overrun before)))

-- a line that shows no producer shows no overrun
pub shows_none : (before : List Line) (line : Line) → produced_shown before line ≡ None → overrun_by before line ≡ None
shows_none before line none = ap (λ (produced : Option ℕ). overrun_of (ring_order before) (replied_before before) produced) none ∙ by_order (ring_order before) (replied_before before)
  where
    by_order : (order : Option ℕ) (replied : ℕ) → overrun_of order replied None ≡ None
    by_order None replied = refl
    by_order (Some order) replied = refl

no_overrun : (line : Line) (produced replied : ℕ) → is_overrun line ≡ false → line ≡ lines.Halt (halts.Overrun produced replied) → ⊥
no_overrun line produced replied none e = let is : is_overrun line ≡ true = ap is_overrun e in cc

-- no overrun was shown last, and the line is no halt for one
allowed : (before : List Line) (line : Line) (start : ℕ) (over : Bool) → ObeysRing before start over → (over ≡ true → is_service line ≡ false) → is_overrun line ≡ false → IsOverrunAt before line
allowed before line start over s idle none = record {
  halted = rw s.last tt;
  only = λ produced replied e. absurd (no_overrun line produced replied none e);
  serves_nothing = λ overran. idle (s.halted overran);
}

pub ring_more : (before : List Line) (line : Line) (start : ℕ) (over : Bool) → ObeysRing before start over → is_epoch line ≡ false → overrun_by before line ≡ None → (over ≡ true → is_service line ≡ false) → is_overrun line ≡ false → IsNamedFirstAt before line → (start < 2 ^ 32 → IsStretchAt before line) → ObeysRing (before ++ line ∷ []) start over
ring_more before line start over s same shown idle none first stretch = record {
  overruns = obeys_more IsOverrunAt before line s.overruns (allowed before line start over s idle none);
  stretches = λ small. obeys_more IsStretchAt before line (s.stretches small) (stretch small);
  named = obeys_more IsNamedFirstAt before line s.named first;
  last = shown_more before line ∙ shown;
  halted = λ overran. s.halted (sym (overran_by before line same shown) ∙ overran);
}

-- an epoch: no producer overran in it, whatever back begins
pub ring_epoch : (before : List Line) (start : ℕ) (over now : Bool) → ObeysRing before start over → ObeysRing (before ++ lines.Epoch ∷ []) start now
ring_epoch before start over now s = record {
  overruns = obeys_more IsOverrunAt before lines.Epoch s.overruns (allowed before lines.Epoch start over s (λ e. refl) refl);
  stretches = λ small. obeys_more IsStretchAt before lines.Epoch (s.stretches small) (record { next = tt; whole = λ own. absurd (cc); inside = tt });
  named = obeys_more IsNamedFirstAt before lines.Epoch s.named (unnamed_first before lines.Epoch refl);
  last = shown_more before lines.Epoch ∙ shows_none before lines.Epoch refl;
  halted = λ overran. let none : has_overrun (before ++ lines.Epoch ∷ []) ≡ false = overran_more before lines.Epoch in absurd (cc);
}

-- a read that overran, and the halt after it
pub ring_overrun : (before : List Line) (line : Line) (start produced replied : ℕ) → ObeysRing before start false → is_epoch line ≡ false → overrun_by before line ≡ Some (record { produced = produced; replied = replied }) → is_overrun line ≡ false → IsNamedFirstAt before line
    → (start < 2 ^ 32 → IsStretchAt before line) → (start < 2 ^ 32 → IsStretchAt (before ++ line ∷ []) (lines.Halt (halts.Overrun produced replied)))
    → ObeysRing (before ++ line ∷ lines.Halt (halts.Overrun produced replied) ∷ []) start true
ring_overrun before line start produced replied s same shown none first stretch beyond =
    let halt : Line = lines.Halt (halts.Overrun produced replied) in
    let longer : List Line = before ++ line ∷ [] in
    let told : overrun_shown (before ++ line ∷ []) ≡ Some (record { produced = produced; replied = replied }) = shown_more before line ∙ shown in
    let one : Obeys IsOverrunAt (before ++ line ∷ []) = obeys_more IsOverrunAt before line s.overruns (allowed before line start false s (λ e. absurd (cc)) none) in
    let allowed_halt : IsOverrunAt (before ++ line ∷ []) (lines.Halt (halts.Overrun produced replied)) = record {
      halted = rw told refl;
      only = λ p r e. only_this p r e;
      serves_nothing = λ overran. refl;
    } in
    subst (λ (ls : List Line). ObeysRing ls start true) (append_assoc before (line ∷ []) (lines.Halt (halts.Overrun produced replied) ∷ []))
    (record {
      overruns = obeys_more IsOverrunAt longer halt one allowed_halt;
      stretches = λ small. obeys_more IsStretchAt longer halt (obeys_more IsStretchAt before line (s.stretches small) (stretch small)) (beyond small);
      named = obeys_more IsNamedFirstAt longer halt (obeys_more IsNamedFirstAt before line s.named first) (λ read. absurd (cc));
      last = shown_more longer halt ∙ shows_none longer halt refl;
      halted = λ overran. refl;
    })
  where
    only_this : (p r : ℕ) → lines.Halt (halts.Overrun produced replied) ≡ lines.Halt (halts.Overrun p r) → overrun_shown (before ++ line ∷ []) ≡ Some (record { produced = p; replied = r })
    only_this p r e =
        let same_p : produced ≡ p = cc in
        let same_r : replied ≡ r = cc in
        rw (← same_p, ← same_r) (shown_more before line ∙ shown)

-- the back touches no word past the end of a page of the ring
abbrev pub IsInside : List Line → Line → Type 0
IsInside before line = IfSome (word_touched before line) (λ word. word < 1024)

pub word_inside : (before : List Line) (number word : ℕ) → word < 1024 → IfSome (if is_page before number then Some word else None) (λ w. w < 1024)
word_inside before number word low = by_page (is_page before number)
  where
    by_page : (b : Bool) → IfSome (if b then Some word else None) (λ w. w < 1024)
    by_page true = low
    by_page false = tt

pub untouched_inside : (before : List Line) (line : Line) → is_touch line ≡ false → IsInside before line
untouched_inside before (lines.Move (moves.Read back.Back number frame word value)) e = absurd (cc)
untouched_inside before (lines.Move (moves.Write back.Back number frame word value)) e = absurd (cc)
untouched_inside before line e = tt

foreign_inside : (before : List Line) (line : Line) → is_back_move line ≡ false → IsInside before line
foreign_inside before (lines.Move (moves.Read back.Back number frame word value)) e = absurd (cc)
foreign_inside before (lines.Move (moves.Write back.Back number frame word value)) e = absurd (cc)
foreign_inside before line e = tt

foreign_move : (line : Line) → is_of_back line ≡ false → is_back_move line ≡ false
foreign_move (lines.Halt halt) e = refl
foreign_move line e = e

-- a line of someone else's that reads no entry
pub foreign_stretch : (before : List Line) (line : Line) → is_of_back line ≡ false → entry_word_read before line ≡ None → IsStretchAt before line
foreign_stretch before line foreign none = let other : is_back_move line ≡ false = foreign_move line foreign in record { next = rw none tt; whole = λ own. absurd (cc); inside = foreign_inside before line other }

-- the words of whole entries were read
abbrev pub IsWhole : Sight → Type 0
IsWhole x = AreWhole x.abi x.words

-- a line of the back's own between two stretches
pub own_stretch : (before : List Line) (line : Line) (x : Sight) → Shows before x → IsWhole x → entry_word_read before line ≡ None → IsInside before line → IsStretchAt before line
own_stretch before line x shows whole none within = record {
  inside = within;
  next = rw none tt;
  whole = λ own read. whole_within (ring_abi before) (words_read before) (entries_read before) (words_within before) shows.counted.counts
      (subst (λ (abi : Option Abi). AreWhole abi (words_read before)) (sym shows.abi) (subst (λ (n : ℕ). AreWhole x.abi n) (sym shows.words) whole));
}
