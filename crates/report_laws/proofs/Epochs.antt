-- The lines of the present epoch, as lines come.
use Rattle.std.proofs.Common.{◌≡◌, Bool, true, false, true≢false, if◌then◌else◌, List, [], ◌∷◌, ◌++◌, refl, ap, sym, ◌∙◌, append_assoc}
use Rattle.std.specs.Prelude.{Option, Some, None}
use Rattle.std.specs.List.{AllByRecursion}
use Rattle.std.proofs.lemmas.List.{append-nil}
use Rattle.schedule_text.specs.declared.line.Detail.{Detail}
use Rattle.schedule_text.specs.declared.line.Detail.TheVariants.{Lines, Moves}
use Rattle.schedule_text.specs.declared.line.Line.{Line}
use Rattle.schedule_text.specs.declared.line.Line.TheVariants as lines
use Rattle.schedule_text.specs.Recorder.{recorded, kept_of}
use Rattle.hypervisor.specs.Act.{FrontAct}
use Rattle.blk_front.specs.declared.told.Told.{Told}
use Rattle.blk_front.specs.declared.told.Told.TheVariants as told
use Rattle.blk_front.specs.View.{View}
use Rattle.blk_front.specs.Step.{step_of}
use Rattle.report_rules.specs.Standing.{is_epoch, this_epoch}
use Rattle.report_rules.proofs.Back.{epoch_more}
use Rattle.split_model.specs.World.{World}
use Rattle.split_model.specs.Shown.{front_lines}
use Rattle.split_model.specs.Happening.{front_shows}
use Rattle.split_model.proofs.Running.{kept_of-append}

-- lines of which none begins an epoch
abbrev pub AreWithin : List Line → Type 0
AreWithin ls = AllByRecursion (λ (line : Line). is_epoch line ≡ false) ls

-- stand in the present one
one_on : (before : List Line) (line : Line) → is_epoch line ≡ false → this_epoch (before ++ line ∷ []) ≡ this_epoch before ++ line ∷ []
one_on before line none = epoch_more before line ∙ by_epoch (is_epoch line) none
  where
    by_epoch : (b : Bool) → b ≡ false → (if b then [] else this_epoch before ++ line ∷ []) ≡ this_epoch before ++ line ∷ []
    by_epoch false e = refl
    by_epoch true e = absurd (true≢false e)

pub epoch_on : (ls before : List Line) → AreWithin ls → this_epoch (before ++ ls) ≡ this_epoch before ++ ls
epoch_on [] before all = ap this_epoch (append-nil before) ∙ sym (append-nil (this_epoch before))
epoch_on (line ∷ ls) before all =
    ap this_epoch (sym (append_assoc before (line ∷ []) ls))
    ∙ (epoch_on ls (before ++ line ∷ []) all.1
    ∙ (ap (λ (xs : List Line). xs ++ ls) (one_on before line all.0) ∙ append_assoc (this_epoch before) (line ∷ []) ls))

-- and an `epoch` line begins one
pub epoch_begins : (before : List Line) → this_epoch (before ++ lines.Epoch ∷ []) ≡ []
epoch_begins before = epoch_more before lines.Epoch

-- a move of the front begins none
front_within : (t : Option Told) → AreWithin (front_lines t)
front_within None = tt
front_within (Some (told.Answer id status)) = (refl, tt)
front_within (Some (told.Sector id index words)) = (refl, tt)
front_within (Some (told.Broken word)) = (refl, tt)

pub shows_within : (w : World) (act : Option FrontAct) → AreWithin (front_shows w act)
shows_within w None = tt
shows_within w (Some a) = (refl, front_within (let x : View = step_of w.front a.answer in x.told))

-- what a recorder keeps of these lines stands in the same epoch
kept_on : (detail : Detail) (kept before : List Line) (line : Line) → this_epoch kept ≡ kept_of detail (this_epoch before) → is_epoch line ≡ false → AreWithin (recorded detail line) → this_epoch (kept ++ recorded detail line) ≡ kept_of detail (this_epoch (before ++ line ∷ []))
kept_on detail kept before line same none all =
    epoch_on (recorded detail line) kept all
    ∙ (ap (λ (xs : List Line). xs ++ recorded detail line) same
    ∙ (ap (λ (xs : List Line). kept_of detail (this_epoch before) ++ xs) (sym (append-nil (recorded detail line)))
    ∙ (sym (kept_of-append detail (this_epoch before) (line ∷ [])) ∙ ap (kept_of detail) (sym (one_on before line none)))))

one_kept : (detail : Detail) (kept before : List Line) (line : Line) → this_epoch kept ≡ kept_of detail (this_epoch before) → this_epoch (kept ++ recorded detail line) ≡ kept_of detail (this_epoch (before ++ line ∷ []))
one_kept detail kept before lines.Epoch same = epoch_begins kept ∙ sym (ap (kept_of detail) (epoch_begins before))
one_kept detail kept before (lines.Begin config other) same = kept_on detail kept before (lines.Begin config other) same refl (refl, tt)
one_kept Lines kept before (lines.Move move) same = kept_on Lines kept before (lines.Move move) same refl tt
one_kept Moves kept before (lines.Move move) same = kept_on Moves kept before (lines.Move move) same refl (refl, tt)
one_kept detail kept before line same = kept_on detail kept before line same refl (refl, tt)

all_kept : (detail : Detail) (ls kept before : List Line) → this_epoch kept ≡ kept_of detail (this_epoch before) → this_epoch (kept ++ kept_of detail ls) ≡ kept_of detail (this_epoch (before ++ ls))
all_kept detail [] kept before same = ap this_epoch (append-nil kept) ∙ (same ∙ ap (λ (xs : List Line). kept_of detail (this_epoch xs)) (sym (append-nil before)))
all_kept detail (line ∷ ls) kept before same =
    ap this_epoch (sym (append_assoc kept (recorded detail line) (kept_of detail ls)))
    ∙ (all_kept detail ls (kept ++ recorded detail line) (before ++ line ∷ []) (one_kept detail kept before line same)
    ∙ ap (λ (xs : List Line). kept_of detail (this_epoch xs)) (append_assoc before (line ∷ []) ls))

pub kept_epoch : (detail : Detail) (ls : List Line) → this_epoch (kept_of detail ls) ≡ kept_of detail (this_epoch ls)
kept_epoch detail ls = all_kept detail ls [] [] refl
