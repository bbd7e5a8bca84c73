-- The rule on the lines of the front's state refuses what no machine gives.
use Rattle.std.proofs.Common.{◌≡◌, ℕ, true, false, true≢false, List, [], ◌∷◌, ◌++◌, ◌⊎◌, inl, inr, refl, sym, subst, codes}
use Rattle.std.specs.Prelude.{Option, Some}
use Rattle.blk_base.specs.Options.{Options}
use Rattle.blk_base.specs.declared.moves.Mover.TheVariants.{Front}
use Rattle.blk_base.specs.declared.moves.Move.TheVariants as moves
use Rattle.schedule_text.specs.declared.line.Detail.TheVariants.{Moves}
use Rattle.schedule_text.specs.declared.line.Line.{Line}
use Rattle.schedule_text.specs.declared.line.Line.TheVariants as lines
use Rattle.xenbus_state.specs.Numbers.{number_in, number_after}
use Rattle.negotiation_laws.specs.Negotiation.{front_state, back_state}
use Rattle.vbd_laws.specs.Halts.{state_said}
use Rattle.vbd_laws.specs.StateLines.{ClosingDue, LeavingDue, state_due, is_broken_line, said_by, Stands, StandsHere, StandAsSaid}
use Rattle.vbd_laws.specs.WrongStates.{ready_unsaid, closed_unsaid, connected_in_silence, closed_in_silence, on_at_closing, on_at_closed, closing_again, closing_though_broken, closed_at_once}

five_said : ◌≡◌ {A = Option ℕ} (state_said (Some (codes "5"))) (Some 5)
unfolding number_in number_after
five_said = refl

six_said : ◌≡◌ {A = Option ℕ} (state_said (Some (codes "6"))) (Some 6)
unfolding number_in number_after
six_said = refl

-- the line that is due stands there
due_at : (before rest : List Line) (line : Line) → StandAsSaid (before ++ line ∷ rest) → Stands (said_by before).due line
due_at before rest line stand = let is : StandsHere (said_by before) line = stand before rest line refl in is.due

pub ready : (config : Options) → StandAsSaid (ready_unsaid config) → ⊥
ready config h = true≢false (due_at (lines.Begin config Moves ∷ []) [] lines.Ready h)

pub closed : (config : Options) → StandAsSaid (closed_unsaid config) → ⊥
closed config h = true≢false (due_at (lines.Begin config Moves ∷ lines.Move (moves.SetKey Front front_state (codes "5")) ∷ []) [] lines.Closed h)

pub connected : (config : Options) → StandAsSaid (connected_in_silence config) → ⊥
connected config h = let is : lines.End ≡ lines.Ready = due_at (lines.Begin config Moves ∷ lines.Move (moves.SetKey Front front_state (codes "4")) ∷ []) [] lines.End h in absurd (cc)

pub silent : (config : Options) → StandAsSaid (closed_in_silence config) → ⊥
silent config h = let is : lines.End ≡ lines.Closed = due_at (lines.Begin config Moves ∷ lines.Move (moves.SetKey Front front_state (codes "6")) ∷ []) [] lines.End h in absurd (cc)

pub closes : (config : Options) → StandAsSaid (on_at_closing config) → ⊥
closes config h =
    let is = due_at (lines.Begin config Moves ∷ lines.Move (moves.GetKey Front back_state (Some (codes "5"))) ∷ []) [] lines.End h in
    let due : Stands ClosingDue lines.End = subst (λ (s : Option ℕ). Stands (state_due false s) lines.End) five_said is in
    let same : lines.End ≡ lines.Closing = due in absurd (cc)

pub leaves : (config : Options) → StandAsSaid (on_at_closed config) → ⊥
leaves config h =
    let is = due_at (lines.Begin config Moves ∷ lines.Move (moves.GetKey Front back_state (Some (codes "6"))) ∷ []) [] lines.End h in
    let due : Stands LeavingDue lines.End = subst (λ (s : Option ℕ). Stands (state_due false s) lines.End) six_said is in
    by_line due
  where
    by_line : (lines.End ≡ lines.Closing) ⊎ (is_broken_line lines.End ≡ true) → ⊥
    by_line (inl same) = absurd (cc)
    by_line (inr breaks) = true≢false (sym breaks)

pub again : (config : Options) → StandAsSaid (closing_again config) → ⊥
again config h =
    let before : List Line = lines.Begin config Moves ∷ lines.Closing ∷ lines.Epoch ∷ [] in
    let is : StandsHere (said_by before) lines.Closing = h before [] lines.Closing refl in
    true≢false (is.once refl)

pub broken : (config : Options) → StandAsSaid (closing_though_broken config) → ⊥
broken config h =
    let before : List Line = lines.Begin config Moves ∷ lines.Broken 9 ∷ [] in
    let is : StandsHere (said_by before) lines.Closing = h before [] lines.Closing refl in
    true≢false (is.last refl)

pub early : (config : Options) → StandAsSaid (closed_at_once config) → ⊥
early config h =
    let before : List Line = lines.Begin config Moves ∷ lines.Move (moves.SetKey Front front_state (codes "6")) ∷ [] in
    let is : StandsHere (said_by before) lines.Closed = h before [] lines.Closed refl in
    true≢false (sym (is.later refl))
