-- Words of an entry that are written one after another: what the front is after them, and what it asks meanwhile.
use Rattle.std.proofs.Common.{◌≡◌, ℕ, zero, suc, ◌+◌, ◌-◌, ◌/◌, ◌%◌, ◌<◌, ◌≤◌, Bool, true, false, if◌then◌else◌, length, refl, sym, ap, ◌∙◌, subst, arith}
use Rattle.std.specs.Prelude.{Option, Some, None, IfSome, IsSomeAnd, slice_index, drop}
use Rattle.std.proofs.Math.Nat.{min-le_left, min-le_right}
use Rattle.std.proofs.lemmas.Bool.{ne_eqb, eqb-true, ltb-true, and_parts}
use Rattle.std.proofs.lemmas.List.{get_or-drop}
use Rattle.blk_base.specs.declared.ask.FrontAsk.TheVariants.{Write}
use Rattle.blk_base.specs.declared.ask.FrontAnswer.{FrontAnswer}
use Rattle.blk_base.specs.declared.ask.FrontAnswer.TheVariants.{Done}
use Rattle.ring_words.specs.Shape.{Shape, entry_words_of, ring_word_of}
use Rattle.blk_front.specs.declared.entry_part.EntryPart.{EntryPart}
use Rattle.blk_front.specs.declared.stage.FrontStage.{FrontStage}
use Rattle.blk_front.specs.declared.stage.FrontStage.TheVariants as stage
use Rattle.blk_front.specs.View.{View, ring_page_frame, slot_frame, slot_word}
use Rattle.blk_front.specs.Step.{at, step_at}
use Rattle.blk_front.specs.Keep.{ask_as, step_as}
use Rattle.blk_front.specs.Part.{entry_from, has_word, entry_part_at, entry_part, entry_words_at, entry_words, HasEntered, AsksEntry, all_written, AllInTurn, IsTellable, AreTellable, steps_as}
use Rattle.blk_front.proofs.PartSteps.{itself}

-- a word of the entry was written, and another of it comes
one_entered : (v : View) (k : ℕ) → k + 1 < entry_words_of v.shape.abi → step_as (at (stage.Slot k) v) Done ≡ at (stage.Slot (k + 1)) v
one_entered v k more = ap (λ (b : Bool). at (if b then stage.Producer else stage.Slot (k + 1)) v) (ne_eqb (k + 1) (entry_words_of v.shape.abi) (omega arith))

some_entered : (m : ℕ) (v : View) (k : ℕ) → k + m < entry_words_of v.shape.abi → steps_as (at (stage.Slot k) v) (all_written m) ≡ at (stage.Slot (k + m)) v
some_entered zero v k more = ap (λ n. at (stage.Slot n) v) (omega arith)
some_entered (suc m) v k more =
    ap (λ (w : View). steps_as w (all_written m)) (one_entered v k (omega arith))
    ∙ (some_entered m v (k + 1) (omega arith) ∙ ap (λ n. at (stage.Slot n) v) (omega arith))

-- after the last of them the front is as after that one alone
last_entered : (m : ℕ) (v : View) (k : ℕ) → k + m < entry_words_of v.shape.abi → steps_as (at (stage.Slot k) v) (all_written (suc m)) ≡ step_at (stage.Slot (k + m)) v Done
last_entered zero v k more = ap (λ n. step_at (stage.Slot n) v Done) (omega arith)
last_entered (suc m) v k more =
    ap (λ (w : View). steps_as w (all_written (suc m))) (one_entered v k (omega arith))
    ∙ (last_entered m v (k + 1) (omega arith) ∙ ap (λ n. step_at (stage.Slot n) v Done) (omega arith))

-- the words of an entry that lie in one page lie one after another
same_page : (s : Shape) (i k m : ℕ) → ring_word_of s i k % 1024 + m < 1024 → ring_word_of s i (k + m) / 1024 ≡ ring_word_of s i k / 1024
same_page s i k m few = omega arith

next_place : (s : Shape) (i k m : ℕ) → ring_word_of s i k % 1024 + m < 1024 → ring_word_of s i (k + m) % 1024 ≡ ring_word_of s i k % 1024 + m
next_place s i k m few = omega arith

-- what a part of the entry in hand says of the front
pub record IsEntering (v : View) (k : ℕ) : Type 0 where
  pub stage : v.stage ≡ stage.Slot k
  pub whole : length v.ring.entry ≡ entry_words_of v.shape.abi
  pub within : k < length v.ring.entry

is_entering : (v : View) (k : ℕ) → v.stage ≡ stage.Slot k → has_word v k ≡ true → IsEntering v k
is_entering v k is has =
    let both = and_parts _ _ has in
    record { stage = is; whole = eqb-true (length v.ring.entry) (entry_words_of v.shape.abi) both.0; within = ltb-true k (length v.ring.entry) both.1 }

pub entering : (v : View) (P : EntryPart → Type 0) → IsSomeAnd (entry_part v) P → (k : ℕ) × (IsEntering v k × P (entry_from v k))
entering v P h = by_stage v.stage refl h
  where
    by_word : (k : ℕ) (b : Bool) → has_word v k ≡ b → v.stage ≡ stage.Slot k → IsSomeAnd (if b then Some (entry_from v k) else None) P → (k : ℕ) × (IsEntering v k × P (entry_from v k))
    by_word k true has is h = (k, (is_entering v k is has, h))
    by_word k false has is h = absurd h

    by_stage : (s : FrontStage) → v.stage ≡ s → IsSomeAnd (entry_part_at s v) P → (k : ℕ) × (IsEntering v k × P (entry_from v k))
    by_stage (stage.Slot k) is h = by_word k (has_word v k) refl is h
    by_stage s is h = absurd h

-- so many words lie in the entry, and in its frame
in_entry : (v : View) (k count : ℕ) → IsEntering v k → count ≤ (entry_from v k).count → k + count ≤ entry_words_of v.shape.abi
in_entry v k count e few =
    let left = min-le_left (length v.ring.entry - k) (1024 - slot_word v.shape v.ring.indices.prod k) in
    let whole = e.whole in let within = e.within in omega (arith, left, few, whole, within)

-- so many words were written: the front is as after the last of them alone
pub told_entered : (v w after : View) (k count : ℕ) → w ≡ v → w.stage ≡ stage.Slot k → HasEntered (entry_part v) count → (count ≡ 0 → ⊥) → after ≡ step_at (stage.Slot (k + (count - 1))) w Done → after ≡ steps_as v (all_written count)
told_entered v w after k zero same is has some told = absurd (some refl)
told_entered v w after k (suc m) same is has some told =
    let found = entering w (λ (p : EntryPart). suc m ≤ p.count) (subst (λ (x : View). HasEntered (entry_part x) (suc m)) (sym same) has) in
    let more = in_entry w found.0 (suc m) found.1.0 found.1.1 in
    let slot : stage.Slot found.0 ≡ stage.Slot k = sym found.1.0.stage ∙ is in
    let here : found.0 ≡ k = cc in
    told ∙ (ap (λ n. step_at (stage.Slot n) w Done) (omega arith)
    ∙ (sym (last_entered m w k (omega (arith, more, here)))
    ∙ (ap (λ (x : View). steps_as x (all_written (suc m))) (itself w (stage.Slot k) is)
    ∙ ap (λ (x : View). steps_as x (all_written (suc m))) same)))

-- what holds of the front at each word of its entry holds in turn
turns_from : (P : View → FrontAnswer → Type 0) (v : View) → ((m : ℕ) → P (at (stage.Slot m) v) Done) → (count k : ℕ) → k + count ≤ entry_words_of v.shape.abi → AllInTurn P step_as (at (stage.Slot k) v) (all_written count)
turns_from P v holds zero k few = tt
turns_from P v holds (suc zero) k few = (holds k, tt)
turns_from P v holds (suc (suc m)) k few =
    (holds k, subst (λ (w : View). AllInTurn P step_as w (all_written (suc m))) (sym (one_entered v k (omega arith))) (turns_from P v holds (suc m) (k + 1) (omega arith)))

pub entered_in_turn : (P : View → FrontAnswer → Type 0) (v : View) (count : ℕ) → HasEntered (entry_part v) count → ((m : ℕ) → P (at (stage.Slot m) v) Done) → AllInTurn P step_as v (all_written count)
entered_in_turn P v count has holds =
    let found = entering v (λ (p : EntryPart). count ≤ p.count) has in
    subst (λ (w : View). AllInTurn P step_as w (all_written count)) (itself v (stage.Slot found.0) found.1.0.stage)
    (turns_from P v holds count found.0 (in_entry v found.0 count found.1.0 found.1.1))

pub entered_each : (v : View) (count : ℕ) → HasEntered (entry_part v) count → v.told ≡ None → AreTellable v (all_written count)
entered_each v count has quiet = entered_in_turn IsTellable v count has (λ m. (tt, quiet))

-- what a part says of what is asked is so
asks_word : (v : View) (k m : ℕ) → IsEntering v k → m < (entry_from v k).count → ask_as (steps_as v (all_written m)) ≡ Write (entry_from v k).frame ((entry_from v k).word + m) (slice_index (drop k v.ring.entry) m)
asks_word v k m e few =
    let s : Shape = v.shape in
    let i : ℕ = v.ring.indices.prod in
    let more = in_entry v k (suc m) e (omega arith) in
    let in_page = min-le_right (length v.ring.entry - k) (1024 - slot_word s i k) in
    let page = same_page s i k m (omega (arith, in_page, few)) in
    let place = next_place s i k m (omega (arith, in_page, few)) in
    ap (λ (w : View). ask_as (steps_as w (all_written m))) (sym (itself v (stage.Slot k) e.stage))
    ∙ (ap ask_as (some_entered m v k (omega (arith, more)))
    ∙ (ap (λ p. Write (ring_page_frame p) (slot_word s i (k + m)) (slice_index v.ring.entry (k + m))) page
    ∙ (ap (λ p. Write (slot_frame s i k) p (slice_index v.ring.entry (k + m))) place
    ∙ ap (λ x. Write (slot_frame s i k) (slot_word s i k + m) x) (sym (get_or-drop k v.ring.entry m 0)))))

pub entry_asks : (v : View) (part : Option EntryPart) → part ≡ entry_part v → IfSome part (AsksEntry ask_as step_as v (entry_words v))
entry_asks v part is_part = subst (λ (o : Option EntryPart). IfSome o (AsksEntry ask_as step_as v (entry_words v))) (sym is_part) (by_stage v.stage refl)
  where
    by_word : (k : ℕ) (b : Bool) → has_word v k ≡ b → v.stage ≡ stage.Slot k → IfSome (if b then Some (entry_from v k) else None) (AsksEntry ask_as step_as v (drop k v.ring.entry))
    by_word k true has is = λ m few. asks_word v k m (is_entering v k is has) few
    by_word k false has is = tt

    by_stage : (s : FrontStage) → v.stage ≡ s → IfSome (entry_part_at s v) (AsksEntry ask_as step_as v (entry_words v))
    by_stage (stage.Slot k) is =
        subst (λ (s : FrontStage). IfSome (entry_part_at (stage.Slot k) v) (AsksEntry ask_as step_as v (entry_words_at s v))) (sym is) (by_word k (has_word v k) refl is)
    by_stage s is = tt
