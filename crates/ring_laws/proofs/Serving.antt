-- One move of a back that serves, or that has halted, at which it tells nothing.
use Rattle.std.proofs.Common.{◌≡◌, ℕ, ◌+◌, ◌*◌, ◌^◌, ◌<◌, ◌≤◌, ◌==◌, true, false, Bool, List, [], ◌∷◌, ◌++◌, refl, ap, sym, subst, arith}
use Rattle.std.specs.Prelude.{Option, None, is_some}
use Rattle.std.proofs.lemmas.List.{append-nil}
use Rattle.std.proofs.lemmas.Bool.Decides.{nat_tests}
use Rattle.blk_base.specs.declared.parts.Mapping.{Mapping}
use Rattle.blk_base.specs.declared.ask.BackAnswer.{BackAnswer}
use Rattle.blk_base.specs.declared.moves.BackMover.TheVariants as back
use Rattle.blk_base.specs.declared.moves.Move.{Move}
use Rattle.blk_base.specs.declared.moves.Move.TheVariants as moves
use Rattle.ring_words.specs.Ring.{requests_of}
use Rattle.ring_words.specs.Shape.{slot_word_of}
use Rattle.schedule_text.specs.declared.line.Line.{Line}
use Rattle.schedule_text.specs.declared.line.Line.TheVariants as lines
use Rattle.report_rules.specs.Overrun.{overrun_by, is_service}
use Rattle.report_rules.specs.Stretch.{entry_word_read, IsStretchAt}
use Rattle.blk_base.specs.declared.halt.Halt.{Halt}
use Rattle.blk_back.specs.View.{View, page_of, slot_page, slot_word}
use Rattle.blk_back.proofs.Slots.{response_fits}
use Rattle.ring_laws.specs.Layout.{reads_protocol}
use Rattle.ring_laws.proofs.Sight.{is_other, other_touch, untouched_produced, untouched_word}
use Rattle.ring_laws.proofs.Shows.{Sight, Shows, shows_other, unnamed_first}
use Rattle.ring_laws.proofs.Touches.{IsPage, shows_index, shows_entry, shows_write, low_word, produced_not}
use Rattle.ring_laws.proofs.ObeysRing.{ObeysRing, IsInside, IsWhole, ring_more, shows_none, own_stretch, word_inside, untouched_inside}
use Rattle.ring_laws.proofs.Entry.{entry_stretch, first_is, slot_is, high_slot, low_slot}
use Rattle.ring_laws.proofs.Knows.{served_whole, Serves, IsOver, Knows, BackGoes, quiet}

pub not_over : (halted : Option Halt) (service : Bool) → halted ≡ None → is_some halted ≡ true → service ≡ false
not_over halted service running over = let none : is_some halted ≡ false = ap (λ (h : Option Halt). is_some h) running in absurd (cc)

-- the lines of a back that serves, one further
pub served_line : (before : List Line) (x : Sight) (halted : Option Halt) (shown : Move) → halted ≡ None → ObeysRing before x.start (is_some halted) → overrun_by before (lines.Move shown) ≡ None → reads_protocol (lines.Move shown) ≡ false → (x.start < 2 ^ 32 → IsStretchAt before (lines.Move shown)) → ObeysRing (before ++ lines.Move shown ∷ []) x.start (is_some halted)
served_line before x halted shown running stands none unnamed stretch =
    ring_more before (lines.Move shown) x.start (is_some halted) stands refl none (λ over. not_over halted (is_service (lines.Move shown)) running over) refl (unnamed_first before (lines.Move shown) unnamed) stretch

-- a move at which nothing is told and the back does not halt
pub go_on : (before : List Line) (old new : View) (answer : BackAnswer) (shown : Move) (x y : Sight) (more : List ℕ) → new.told ≡ None → new.halted ≡ old.halted → y.start ≡ x.start → y.values ≡ x.values ++ more → Shows (before ++ lines.Move shown ∷ []) y → Knows y new → ObeysRing (before ++ lines.Move shown ∷ []) x.start (is_some old.halted) → BackGoes x.start x.values before old new answer shown
go_on before old new answer shown x y more told halted start grown shows knows stands =
    quiet x.start x.values before old new answer shown told halted
    (record {
      sight = y;
      begun = start;
      more = more;
      grown = grown;
      shows = shows;
      knows = knows;
      stands = subst (λ (n : ℕ). ObeysRing (before ++ lines.Move shown ∷ []) n (is_some new.halted)) (sym start) (subst (λ (h : Option Halt). ObeysRing (before ++ lines.Move shown ∷ []) x.start (is_some h)) (sym halted) stands);
    })

pub between : (before : List Line) (shown : Move) (x : Sight) (v : View) → Serves 0 x v → Shows before x → entry_word_read before (lines.Move shown) ≡ None → IsInside before (lines.Move shown) → IsStretchAt before (lines.Move shown)
between before shown x v s shows none inside = own_stretch before (lines.Move shown) x shows (served_whole x v s) none inside

-- a move between two entries that touches no word, makes no page and reads of no layout
pub rest_other : (before : List Line) (old new : View) (answer : BackAnswer) (shown : Move) (x : Sight) → IsWhole x → (is_some old.halted ≡ true → is_service (lines.Move shown) ≡ false) → Shows before x → ObeysRing before x.start (is_some old.halted) → is_other (lines.Move shown) ≡ true → reads_protocol (lines.Move shown) ≡ false
    → new.told ≡ None → new.halted ≡ old.halted → Knows x new → BackGoes x.start x.values before old new answer shown
rest_other before old new answer shown x whole idle shows stands other unnamed told halted knows =
    let still = other_touch (lines.Move shown) other in
    go_on before old new answer shown x x [] told halted refl (sym (append-nil x.values)) (shows_other before (lines.Move shown) x other unnamed shows) knows
    (ring_more before (lines.Move shown) x.start (is_some old.halted) stands refl (shows_none before (lines.Move shown) (untouched_produced before (lines.Move shown) still)) idle refl (unnamed_first before (lines.Move shown) unnamed)
    (λ small. own_stretch before (lines.Move shown) x shows whole (untouched_word before (lines.Move shown) still) (untouched_inside before (lines.Move shown) still)))

-- of a back that serves
pub serve_other : (before : List Line) (old new : View) (answer : BackAnswer) (shown : Move) (x : Sight) → Serves 0 x old → Shows before x → ObeysRing before x.start (is_some old.halted) → is_other (lines.Move shown) ≡ true → reads_protocol (lines.Move shown) ≡ false
    → new.told ≡ None → new.halted ≡ old.halted → Knows x new → BackGoes x.start x.values before old new answer shown
serve_other before old new answer shown x s shows stands other unnamed told halted knows =
    rest_other before old new answer shown x (served_whole x old s) (not_over old.halted (is_service (lines.Move shown)) s.running) shows stands other unnamed told halted knows

-- and of one that has halted
pub over_other : (before : List Line) (old new : View) (answer : BackAnswer) (shown : Move) (x : Sight) → IsOver x old.halted → Shows before x → ObeysRing before x.start (is_some old.halted) → is_other (lines.Move shown) ≡ true → reads_protocol (lines.Move shown) ≡ false → is_service (lines.Move shown) ≡ false
    → new.told ≡ None → new.halted ≡ old.halted → Knows x new → BackGoes x.start x.values before old new answer shown
over_other before old new answer shown x o shows stands other unnamed idle told halted knows = rest_other before old new answer shown x o.whole (λ over. idle) shows stands other unnamed told halted knows

-- a word is written that is not the producer
pub serve_write : (before : List Line) (old new : View) (answer : BackAnswer) (number place frame word value : ℕ) (x : Sight) → IsPage number place x → Serves 0 x old → Shows before x → ObeysRing before x.start (is_some old.halted) → (1024 * place + word == 2) ≡ false → word < 1024
    → new.told ≡ None → new.halted ≡ old.halted → Knows x new → BackGoes x.start x.values before old new answer (moves.Write back.Back number frame word value)
serve_write before old new answer number place frame word value x is s shows stands other low told halted knows =
    let shown : Move = moves.Write back.Back number frame word value in
    go_on before old new answer shown x x [] told halted refl (sym (append-nil x.values)) (shows_write before x number place frame word value other is shows) knows
    (served_line before x old.halted shown s.running stands (shows_none before (lines.Move shown) refl) refl
    (λ small. between before shown x old s shows refl (word_inside before number word low)))

-- a word of a response's slot
pub serve_slot : (before : List Line) (old new : View) (answer : BackAnswer) (frame index k value : ℕ) (x : Sight) → Serves 0 x old → Shows before x → ObeysRing before x.start (is_some old.halted) → k < 3
    → new.told ≡ None → new.halted ≡ old.halted → Knows x new → (let page : Mapping = slot_page old index k in BackGoes x.start x.values before old new answer (moves.Write back.Back page.number frame (slot_word old.shape index k) value))
serve_slot before old new answer frame index k value x s shows stands within told halted knows =
    let page : Mapping = slot_page old index k in
    serve_write before old new answer page.number (slot_word_of old.shape index k).0 frame (slot_word old.shape index k) value x (slot_is 0 index k x old s (response_fits old.shape.abi k within)) s shows stands
    (not_two _ (high_slot old.shape index k)) (low_slot old.shape index k) told halted knows
  where
    not_two : (word : ℕ) → 16 ≤ word → (word == 2) ≡ false
    not_two word high = grind (arith, nat_tests)

-- one of the ring's own words is read, but not the requests' producer
pub serve_index : (before : List Line) (old new : View) (answer : BackAnswer) (frame word value : ℕ) (x : Sight) → Serves 0 x old → Shows before x → ObeysRing before x.start (is_some old.halted) → (1024 * 0 + word == 0) ≡ false → 1024 * 0 + word < 16
    → new.told ≡ None → new.halted ≡ old.halted → Knows x new → (let page : Mapping = page_of old 0 in BackGoes x.start x.values before old new answer (moves.Read back.Back page.number frame word value))
serve_index before old new answer frame word value x s shows stands other low told halted knows =
    let page : Mapping = page_of old 0 in
    let is : IsPage page.number 0 x = first_is 0 x old s in
    let shown : Move = moves.Read back.Back page.number frame word value in
    go_on before old new answer shown x x [] told halted refl (sym (append-nil x.values)) (shows_index before x page.number frame word value other low is shows) knows
    (served_line before x old.halted shown s.running stands (shows_none before (lines.Move shown) (produced_not before x page.number 0 frame word value other shows is)) refl
    (λ small. between before shown x old s shows (low_word before x page.number 0 frame word value low shows is) (word_inside before page.number word (omega arith))))

-- a word of an entry is read
pub serve_entry : (before : List Line) (old new : View) (answer : BackAnswer) (frame k value : ℕ) (x : Sight) → Serves k x old → Shows before x → ObeysRing before x.start (is_some old.halted) → (k ≡ 0 → 0 < requests_of old.ring.indices old.ring.seen)
    → new.told ≡ None → new.halted ≡ old.halted → Knows (record x { words = x.words + 1; values = x.values ++ value ∷ [] }) new
    → (let page : Mapping = slot_page old old.ring.indices.cons k in BackGoes x.start x.values before old new answer (moves.Read back.Back page.number frame (slot_word old.shape old.ring.indices.cons k) value))
serve_entry before old new answer frame k value x s shows stands more told halted knows =
    let page : Mapping = slot_page old old.ring.indices.cons k in
    let place : ℕ = (slot_word_of old.shape old.ring.indices.cons k).0 in
    let word : ℕ = slot_word old.shape old.ring.indices.cons k in
    let high : 16 ≤ 1024 * place + word = high_slot old.shape old.ring.indices.cons k in
    let is : IsPage page.number place x = slot_is k old.ring.indices.cons k x old s s.within in
    let shown : Move = moves.Read back.Back page.number frame (slot_word old.shape old.ring.indices.cons k) value in
    go_on before old new answer shown x (record x { words = x.words + 1; values = x.values ++ value ∷ [] }) (value ∷ []) told halted refl refl (shows_entry before x page.number place frame word value high is shows) knows
    (served_line before x old.halted shown s.running stands (shows_none before (lines.Move shown) (produced_not before x page.number place frame word value (not_zero (1024 * place + word) high) shows is)) refl
    (λ small. entry_stretch before frame k value x old s shows more small))
  where
    not_zero : (n : ℕ) → 16 ≤ n → (n == 0) ≡ false
    not_zero n high = grind (arith, nat_tests)
