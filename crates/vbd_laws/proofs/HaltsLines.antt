-- Lines that may follow others by the rule on halts, and those that the back's move shows.
use Rattle.std.proofs.Common.{◌≡◌, Bool, true, false, true≢false, ◌⊎◌, inl, inr, List, [], ◌∷◌, ◌++◌, refl, sym, ap, ◌∙◌, subst, append_assoc, append-nil}
use Rattle.std.specs.Prelude.{Option, Some, None, is_some}
use Rattle.std.specs.List.{AllByRecursion}
use Rattle.std.proofs.lemmas.Option.{none-some}
use Rattle.blk_base.specs.declared.ask.BackAnswer.{BackAnswer}
use Rattle.blk_base.specs.declared.moves.BackMover.TheVariants as back_mover
use Rattle.blk_base.specs.declared.moves.Move.TheVariants as moves
use Rattle.blk_base.specs.declared.moves.Mover.TheVariants as mover
use Rattle.schedule_text.specs.declared.line.Line.{Line}
use Rattle.schedule_text.specs.declared.line.Line.TheVariants as lines
use Rattle.blk_back.specs.declared.told.BackTold.{BackTold}
use Rattle.blk_base.specs.declared.halt.Halt.{Halt}
use Rattle.report_rules.proofs.Obeys.{obeys_more}
use Rattle.split_model.specs.Shown.{back_lines, halt_lines}
use Rattle.split_model.proofs.Showing.{IsTold, IsOfBack, back_told_is}
use Rattle.vbd_laws.specs.Halts.{BackSight, new_back, due_after, told, after, from, said_by, halt_shown, is_work, HaltsHere, IsHaltAt, HaltsByCauses, IsWorded}
use Rattle.vbd_laws.proofs.HaltsRing.{ring_shown, IsWordedHalt}

-- each of these lines may follow those before it, and has its word
abbrev pub AllFollow : (asked : Bool) → BackSight → List Line → Type 0
AllFollow asked k [] = Unit {0}
AllFollow asked k (line ∷ ls) = HaltsHere k line × IsWorded asked line × AllFollow asked (after k line) ls

pub from-append : (k : BackSight) (a b : List Line) → from k (a ++ b) ≡ from (from k a) b
from-append k [] b = refl
from-append k (line ∷ a) b = from-append (after k line) a b

pub follows_on : (asked : Bool) (before ls : List Line) → HaltsByCauses before → AllFollow asked (said_by before) ls → HaltsByCauses (before ++ ls)
follows_on asked before [] obeys all = subst (λ (l : List Line). HaltsByCauses l) (sym (append-nil before)) obeys
follows_on asked before (line ∷ ls) obeys all =
    subst (λ (l : List Line). HaltsByCauses l) (append_assoc before (line ∷ []) ls)
    (follows_on asked (before ++ line ∷ []) ls (obeys_more IsHaltAt before line obeys all.0) (subst (λ (k : BackSight). AllFollow asked k ls) (sym (from-append new_back before (line ∷ []))) all.2))

pub all_worded : (asked : Bool) (k : BackSight) (ls : List Line) → AllFollow asked k ls → AllByRecursion (λ (line : Line). IsWorded asked line) ls
all_worded asked k [] all = tt
all_worded asked k (line ∷ ls) all = (all.1, all_worded asked (after k line) ls all.2)

-- a line that asks for no halt and is none, and of which the back learns nothing
abbrev pub is_idle : Line → Bool
is_idle (lines.Halt why) = false
is_idle lines.Epoch = false
is_idle (lines.Move (moves.GetKey mover.Back path text)) = false
is_idle (lines.Move (moves.SetKey mover.Back path text)) = false
is_idle (lines.Move (moves.MapRefused back_mover.Back gref mode status)) = false
is_idle (lines.Move (moves.BindRefused port)) = false
is_idle line = true

pub record IsIdle (halted : Bool) (line : Line) : Type 0 where
  pub idle : is_idle line ≡ true
  pub rests : halted ≡ true → is_work line ≡ false

-- but that the front is closed or broken
pub record Same (k x : BackSight) : Type 0 where
  pub over : Bool
  pub same : x ≡ record k { over = over }

same_over : (k : BackSight) (over : Bool) → k.due ≡ None → record k { over = over; due = None } ≡ record k { over = over }
same_over k over none = ap (λ (d : Option _). record k { over = over; due = d }) (sym none)

record After (asked : Bool) (k : BackSight) (line : Line) : Type 0 where
  same : Same k (after k line)
  shown : halt_shown line ≡ None
  word : IsWorded asked line

idle_after : (asked : Bool) (k : BackSight) (line : Line) → is_idle line ≡ true → k.due ≡ None → After asked k line
idle_after asked k (lines.Halt why) idle none = absurd (true≢false (sym idle))
idle_after asked k lines.Epoch idle none = absurd (true≢false (sym idle))
idle_after asked k (lines.Move (moves.GetKey mover.Back path text)) idle none = absurd (true≢false (sym idle))
idle_after asked k (lines.Move (moves.SetKey mover.Back path text)) idle none = absurd (true≢false (sym idle))
idle_after asked k (lines.Move (moves.MapRefused back_mover.Back gref mode status)) idle none = absurd (true≢false (sym idle))
idle_after asked k (lines.Move (moves.BindRefused port)) idle none = absurd (true≢false (sym idle))
idle_after asked k lines.Closed idle none = record { same = record { over = true; same = same_over k true none }; shown = refl; word = tt }
idle_after asked k (lines.Broken word) idle none = record { same = record { over = true; same = same_over k true none }; shown = refl; word = tt }
idle_after asked k line idle none = record { same = record { over = k.over; same = same_over k k.over none }; shown = refl; word = tt }

pub idle_follow : (asked : Bool) (k : BackSight) (ls : List Line) → k.due ≡ None → AllByRecursion (IsIdle k.halted) ls → AllFollow asked k ls × Same k (from k ls)
idle_follow asked k [] none all = (tt, record { over = k.over; same = refl })
idle_follow asked k (line ∷ ls) none all =
    let is : After asked k line = idle_after asked k line all.0.idle none in
    let next : BackSight = record k { over = is.same.over } in
    let rest = idle_follow asked next ls none all.1 in
    let later : Same k (from next ls) = record { over = rest.1.over; same = rest.1.same } in (
      (record { halts = is.shown ∙ sym none; rests = all.0.rests }, is.word, subst (λ (x : BackSight). AllFollow asked x ls) (sym is.same.same) rest.0),
      subst (λ (x : BackSight). Same k (from x ls)) (sym is.same.same) later,
    )

-- of the back: the lines after its move
told_idle : (k : BackSight) (t : Option BackTold) (x : BackAnswer) → (k.halted ≡ true → t ≡ None) → AllByRecursion (IsIdle k.halted) (back_lines t x)
told_idle k None x quiet = tt
told_idle k (Some t) x quiet = back_told_is (IsIdle k.halted) (λ line told shows. record { idle = one line told shows; rests = λ halted. absurd (none-some t (sym (quiet halted))) }) (Some t) x
  where
    one : (line : Line) → IsTold line → IsOfBack line → is_idle line ≡ true
    one (lines.Move shown) told shows = absurd told
    one (lines.Halt why) told shows = absurd told
    one lines.Epoch told shows = absurd shows
    one line told shows = refl

-- a line more of a halt
abbrev pub halted_by : BackSight → Option Halt → Option Halt → BackSight
halted_by k None (Some x) = record k { halted = true; due = None }
halted_by k old new = k

pub record Ends (asked : Bool) (k : BackSight) (old new : Option Halt) (ls : List Line) : Type 0 where
  pub follows : AllFollow asked k ls
  pub over : Bool
  pub known : from k ls ≡ record (halted_by k old new) { over = over; due = None }

pub ends : (asked : Bool) (k : BackSight) (t : Option BackTold) (x : BackAnswer) (old new : Option Halt) → (old ≡ None → (ring_shown new ≡ k.due) × IsWordedHalt asked new × (is_some new ≡ true → t ≡ None))
    → (k.halted ≡ true → (is_some new ≡ true) ⊎ (is_some old ≡ true)) → (is_some old ≡ true → (k.due ≡ None) × (t ≡ None)) → Ends asked k old new (back_lines t x ++ halt_lines old new)
ends asked k t x None None runs halts over =
    let is = runs refl in
    let none : k.due ≡ None = sym is.0 in
    let all = idle_follow asked k (back_lines t x) none (told_idle k t x (λ halted. elim (halts halted) [ inl new ↦ absurd (true≢false (sym new)) | inr old ↦ absurd (true≢false (sym old)) ])) in
    record {
      follows = subst (λ (ls : List Line). AllFollow asked k ls) (sym (append-nil (back_lines t x))) all.0;
      over = all.1.over;
      known = ap (λ (ls : List Line). from k ls) (append-nil (back_lines t x)) ∙ (all.1.same ∙ sym (same_over k all.1.over none));
    }
ends asked k t x None (Some y) runs halts over =
    let is = runs refl in
    subst (λ (u : Option BackTold). Ends asked k None (Some y) (back_lines u x ++ lines.Halt y ∷ [])) (sym (is.2 refl))
    (record { follows = (record { halts = is.0; rests = λ halted. refl }, is.1, tt); over = k.over; known = refl })
ends asked k t x (Some g) new runs halts over =
    let is = over refl in
    subst (λ (u : Option BackTold). Ends asked k (Some g) new (back_lines u x ++ [])) (sym is.1) (record { follows = tt; over = k.over; known = sym (same_over k k.over is.0) })

-- a move that a back which has halted may make asks for no halt
pub rests_due : (k : BackSight) (line : Line) → is_work line ≡ false → due_after k line ≡ None
rests_due k (lines.Move (moves.GetKey mover.Back path text)) rests = absurd (true≢false rests)
rests_due k (lines.Move (moves.MapRefused back_mover.Back gref mode status)) rests = absurd (true≢false rests)
rests_due k (lines.Move (moves.BindRefused port)) rests = absurd (true≢false rests)
rests_due k line rests = refl
