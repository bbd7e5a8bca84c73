-- Words that are moved many at once: as many single answers.
use Rattle.std.proofs.Common.{◌≡◌, ◌∙◌, refl, ap, Bool, false, ◌||◌, List, [], ◌∷◌, None, is_some, if◌then◌else◌}
use Rattle.std.specs.List.{fold}
use Rattle.blk_base.specs.declared.ask.FrontAnswer.{FrontAnswer}
use Rattle.blk_front.specs.Part.{AllInTurn}
use Rattle.vbd_front.specs.Keep.{KeepingView, ask_as, step_as, steps_as, IsTellableAs, AreTellableAs}
use Rattle.vbd_c.specs.Allowed.{front_allows}
use Rattle.vbd_c.specs.FrontMove.{has_told, answered}
use Rattle.vbd_c.proofs.Decided.{front_means}
use Rattle.vbd_c.proofs.FrontMoves.{both_quiet}

-- one answer that the front may be told is taken
one_taken : (v : KeepingView) (a : FrontAnswer) → IsTellableAs v a → v.ends.news ≡ None → answered v a ≡ step_as v a
one_taken v a may quiet =
    ap (λ (b : Bool). if b then v else (if front_allows (ask_as v) a then step_as v a else v)) untold
    ∙ ap (λ (b : Bool). if b then step_as v a else v) ((front_means (ask_as v) a).1 may.0)
  where
    untold : has_told v ≡ false
    untold = ap (λ o. is_some o || is_some v.ends.news) may.1 ∙ ap is_some quiet

pub all_taken : (answers : List FrontAnswer) (v : KeepingView) → has_told v ≡ false → AreTellableAs v answers → fold answered v answers ≡ steps_as v answers
all_taken answers v quiet each = by_list answers v each
  where
    none : v.ends.news ≡ None
    none = (both_quiet v quiet).1

    by_list : (l : List FrontAnswer) (w : KeepingView) → AllInTurn (λ u a. IsTellableAs u a × (u.ends.news ≡ v.ends.news)) step_as w l → fold answered w l ≡ fold step_as w l
    by_list [] w each = refl
    by_list (a ∷ rest) w each =
        ap (λ (u : KeepingView). fold answered u rest) (one_taken w a each.0.0 (each.0.1 ∙ none)) ∙ by_list rest (step_as w a) each.1
