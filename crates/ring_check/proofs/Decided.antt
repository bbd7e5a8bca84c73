-- What is kept decides the two rules.
use Rattle.std.proofs.Common.{◌≡◌, ℕ, ◌<◌, ◌==◌, ◌&&◌, ◌||◌, not, Bool, true, false, List, nat_lt, refl, ap, sym, ◌∙◌, arith}
use Rattle.std.specs.Prelude.{Option, Some, None, is_some, IfSome, IsSomeAnd, IsTrue}
use Rattle.std.specs.Bool.{Decides}
use Rattle.std.proofs.lemmas.Bool.Decides.{nat_tests, Decides-and, Decides-at, Decides-like}
use Rattle.blk_base.specs.declared.moves.BackMover.TheVariants as back
use Rattle.blk_base.specs.declared.moves.Move.TheVariants as moves
use Rattle.ring_words.specs.Shape.{Shape, entries_of, ring_word_of}
use Rattle.ring_words.specs.Ring.{requests_of}
use Rattle.blk_base.specs.declared.halt.Halt.TheVariants as halts
use Rattle.schedule_text.specs.declared.line.Line.{Line}
use Rattle.schedule_text.specs.declared.line.Line.TheVariants as lines
use Rattle.report_rules.specs.declared.standing.Standing.{Standing}
use Rattle.report_rules.specs.declared.overrun.Overrun.{Overrun}
use Rattle.report_rules.specs.Ring.{ring_pages, ring_shape, replied_before, produced_before}
use Rattle.report_rules.specs.Stretch.{entry_word_read, next_index, words_within, word_touched, is_back_move, IsNextWord, IsStretchAt}
use Rattle.report_rules.specs.Overrun.{overrun_shown, has_overrun, is_service, IsOverrunAt}
use Rattle.ring_check.specs.State.{RingState, shape_seen, index_seen, entry_word_on}
use Rattle.ring_check.specs.Verdict.{is_next, is_next_read, is_between, touched_on, is_in_page, allows_stretch, is_halt_of, allows_overrun}
use Rattle.ring_check.specs.Kept.{IsKept}
use Rattle.ring_check.proofs.Telling.{entry_is}

index_same : (before : List Line) (s : RingState) → IsKept before s → index_seen s ≡ next_index before
index_same before s k = rw (k.start, k.fetched) refl

shape_same : (before : List Line) (s : RingState) → IsKept before s → shape_seen s ≡ ring_shape before
shape_same before s k = rw (k.abi, k.pages) refl

word_same : (before : List Line) (s : RingState) (line : Line) → IsKept before s → entry_word_on s.pages line ≡ entry_word_read before line
word_same before s line k = ap (λ (ps : List Standing). entry_word_on ps line) k.pages ∙ sym (entry_is before line)

touched_is : (before : List Line) (line : Line) → word_touched before line ≡ touched_on (ring_pages before) line
touched_is before (lines.Move (moves.Read back.Back number frame word value)) = refl
touched_is before (lines.Move (moves.Write back.Back number frame word value)) = refl
touched_is before line = refl

touched_same : (before : List Line) (s : RingState) (line : Line) → IsKept before s → touched_on s.pages line ≡ word_touched before line
touched_same before s line k = ap (λ (ps : List Standing). touched_on ps line) k.pages ∙ sym (touched_is before line)

next_by : (word place v u : ℕ) → Decides ((word == place) && (not (v == 0) || nat_lt 0 u)) ((word ≡ place) × (v ≡ 0 → 0 < u))
next_by word place v u = grind (arith, nat_tests)

next_decides : (before : List Line) (s : RingState) (word : ℕ) (shape : Shape) → IsKept before s → Decides (is_next s word shape) (IsNextWord before word shape)
next_decides before s word shape k =
    let index = next_index before in
    let v = words_within before in
    let u = requests_of (record { entries = entries_of shape.order; prod = replied_before before; cons = index }) (produced_before before) in
    let test : is_next s word shape ≡ ((word == ring_word_of shape index v) && (not (v == 0) || nat_lt 0 u)) =
    rw (index_same before s k, k.within, k.replied, k.produced) refl in
    Decides-at (is_next s word shape) ((word == ring_word_of shape index v) && (not (v == 0) || nat_lt 0 u)) test
    (Decides-like ((word == ring_word_of shape index v) && (not (v == 0) || nat_lt 0 u)) (λ both. record { place = both.0; unconsumed = both.1 }) (λ is. (is.place, is.unconsumed)) (next_by word (ring_word_of shape index v) v u))

read_decides : (before : List Line) (s : RingState) (word : Option ℕ) (shape : Option Shape) → IsKept before s → Decides (is_next_read s word shape) (IfSome word (λ w. IsSomeAnd shape (IsNextWord before w)))
read_decides before s None shape k = (λ e. tt, λ p. refl)
read_decides before s (Some word) None k = (λ e. absurd (cc), λ p. absurd p)
read_decides before s (Some word) (Some shape) k = next_decides before s word shape k

between_decides : (before : List Line) (s : RingState) → IsKept before s → Decides (is_between s) (words_within before ≡ 0)
between_decides before s k = Decides-at (s.within == 0) (words_within before == 0) (ap (λ (n : ℕ). n == 0) k.within) (zero_by (words_within before))
  where
    zero_by : (n : ℕ) → Decides (n == 0) (n ≡ 0)
    zero_by n = grind (arith, nat_tests)

page_decides : (word : Option ℕ) → Decides (is_in_page word) (IfSome word (λ w. w < 1024))
page_decides None = (λ e. tt, λ p. refl)
page_decides (Some word) = grind (arith, nat_tests)

whole_decides : (moved : Bool) (word : Option ℕ) (between : Bool) (P : Type 0) → Decides between P → Decides (not moved || is_some word || between) (IsTrue moved → word ≡ None → P)
whole_decides false word between P d = (λ e is none. absurd (cc), λ p. refl)
whole_decides true None between P d = (λ e is none. d.0 e, λ p. d.1 (p refl refl))
whole_decides true (Some w) between P d = (λ e is none. absurd (cc), λ p. refl)

pub stretch_decides : (before : List Line) (s : RingState) (line : Line) → IsKept before s → Decides (allows_stretch s line) (IsStretchAt before line)
stretch_decides before s line k =
    let word = entry_word_read before line in
    let shape = ring_shape before in
    let moved = is_back_move line in
    let next = is_next_read s word shape in
    let whole = not moved || is_some word || is_between s in
    let inside = is_in_page (word_touched before line) in
    let test : allows_stretch s line ≡ (next && (whole && inside)) = rw (word_same before s line k, shape_same before s k, touched_same before s line k) refl in
    Decides-at (allows_stretch s line) (next && (whole && inside)) test
    (Decides-like (next && (whole && inside)) (λ all. record { next = all.0; whole = all.1.0; inside = all.1.1 }) (λ is. (is.next, (is.whole, is.inside)))
    (Decides-and next (whole && inside) (read_decides before s word shape k)
    (Decides-and whole inside (whole_decides moved word (is_between s) (words_within before ≡ 0) (between_decides before s k)) (page_decides (word_touched before line)))))

-- what the two parts of the rule on halts say of a line, where this overrun was shown
abbrev IsHaltOf : Option Overrun → Line → Type 0
IsHaltOf shown line = IfSome shown (λ o. line ≡ lines.Halt (halts.Overrun o.produced o.replied)) × ((produced replied : ℕ) → line ≡ lines.Halt (halts.Overrun produced replied) → shown ≡ Some (record { produced = produced; replied = replied }))

same_both : (a b c d : ℕ) → Decides ((a == c) && (b == d)) ((a ≡ c) × (b ≡ d))
same_both a b c d = grind (arith, nat_tests)

abbrev overrun_at : ℕ → ℕ → Option Overrun
overrun_at produced replied = Some (record { produced = produced; replied = replied })

same_overrun : (o : Overrun) (produced replied : ℕ) → o.produced ≡ produced → o.replied ≡ replied → Some o ≡ Some (record { produced = produced; replied = replied })
same_overrun o produced replied p r = unfolded (ap (λ (n : ℕ). overrun_at n o.replied) p ∙ ap (λ (n : ℕ). overrun_at produced n) r)
  where
    unfolded : overrun_at o.produced o.replied ≡ overrun_at produced replied → Some o ≡ Some (record { produced = produced; replied = replied })
    unfolded e = e

halt_decides : (shown : Option Overrun) (line : Line) → Decides (is_halt_of shown line) (IsHaltOf shown line)
halt_decides (Some o) (lines.Halt (halts.Overrun produced replied)) =
    let d = same_both produced replied o.produced o.replied in
    (λ e. let same = d.0 e in (let p = same.0 in let r = same.1 in cc, λ p' r' is. let p = same.0 in let r = same.1 in same_overrun o p' r' (cc) (cc)), λ h. let is = h.0 in d.1 (cc, cc))
halt_decides None (lines.Halt (halts.Overrun produced replied)) = (λ e. absurd (cc), λ h. let never = h.1 produced replied refl in absurd (cc))
halt_decides (Some o) line = (λ e. absurd (cc), λ h. let is = h.0 in absurd (cc))
halt_decides None line = (λ e. (tt, λ p r is. absurd (cc)), λ h. refl)

serves_decides : (service overran : Bool) → Decides (not service || not overran) (IsTrue overran → service ≡ false)
serves_decides false overran = (λ e is. refl, λ h. refl)
serves_decides true true = (λ e is. absurd (cc), λ h. let no = h refl in absurd (cc))
serves_decides true false = (λ e is. absurd (cc), λ h. refl)

pub overrun_decides : (before : List Line) (s : RingState) (line : Line) → IsKept before s → Decides (allows_overrun s line) (IsOverrunAt before line)
overrun_decides before s line k =
    let halt = is_halt_of (overrun_shown before) line in
    let serves = not (is_service line) || not (has_overrun before) in
    let test : allows_overrun s line ≡ (halt && serves) = rw (k.overrun, k.overran) refl in
    Decides-at (allows_overrun s line) (halt && serves) test
    (Decides-like (halt && serves) (λ all. record { halted = all.0.0; only = all.0.1; serves_nothing = all.1 }) (λ is. ((is.halted, is.only), is.serves_nothing))
    (Decides-and halt serves (halt_decides (overrun_shown before) line) (serves_decides (is_service line) (has_overrun before))))
