-- The verdicts of the state decide the rules.
use Rattle.std.proofs.Common.{◌≡◌, ℕ, ◌+◌, ◌*◌, ◌/◌, ◌%◌, ◌==◌, not, Bool, true, false, List, refl, ap, sym, ◌∙◌, subst}
use Rattle.std.specs.Prelude.{Option, Some, None, IsSomeAnd, Result, Ok, Err, ℤ}
use Rattle.std.specs.Bool.{Decides}
use Rattle.std.specs.Ordering.{int_eq}
use Rattle.std.proofs.lemmas.Bool.Decides.{Decides-eqb, Decides-int_eq, Decides-and, Decides-like}
use Rattle.blk_base.specs.declared.parts.Mode.{Mode}
use Rattle.blk_base.specs.declared.parts.Mode.TheVariants.{ReadOnly, ReadWrite}
use Rattle.blk_base.specs.declared.moves.Move.TheVariants as moves
use Rattle.grant_table.specs.declared.entry.MapRefusal.{MapRefusal}
use Rattle.grant_table.specs.Entry.{verdict_of, status_of, is_for_writing}
use Rattle.schedule_text.specs.declared.line.Line.{Line}
use Rattle.schedule_text.specs.declared.line.Line.TheVariants as lines
use Rattle.report_rules.specs.declared.standing.Standing.{Standing}
use Rattle.report_rules.specs.Value.{value_before}
use Rattle.report_rules.specs.Coherent.{IsCoherentAt}
use Rattle.report_rules.specs.Mapped.{IsMapAnswerAt, was_made, map_verdict as verdict_before}
use Rattle.report_rules.specs.Touch.{IsTouchAt}
use Rattle.memory_check.specs.Numbers.{has}
use Rattle.memory_check.specs.State.{State, word_at, standing_at}
use Rattle.memory_check.specs.Verdicts.{shows_what_is_there, map_verdict, is_granted, is_refused, answers_map, is_of_frame, is_to_write, touches_a_mapping}
use Rattle.memory_check.proofs.Sees.{Sees}

always : Decides true (Unit {0})
always = (λ e. tt, λ u. refl)

-- ---- coherence
value_decided : (before : List Line) (state : State) (frame word value : ℕ) → Sees before state → Decides (value == word_at state frame word) (value ≡ value_before before frame word)
value_decided before state frame word value sees =
    subst (λ (n : ℕ). Decides (value == word_at state frame word) (value ≡ n)) (sees.values frame word) (Decides-eqb value (word_at state frame word))

pub coherence_decided : (before : List Line) (line : Line) (state : State) → Sees before state → Decides (shows_what_is_there state line) (IsCoherentAt before line)
coherence_decided before (lines.Move (moves.FrontRead frame word value)) state sees = value_decided before state frame word value sees
coherence_decided before (lines.Move (moves.FrontCas frame word old new found)) state sees = value_decided before state frame word found sees
coherence_decided before (lines.Move (moves.Read who number frame word value)) state sees = value_decided before state frame word value sees
coherence_decided before (lines.Word frame word value) state sees = value_decided before state frame word value sees
coherence_decided before line state sees = always

-- ---- map answers
same_verdict : (before : List Line) (state : State) (gref : ℕ) (mode : Mode) → Sees before state → map_verdict state gref mode ≡ verdict_before before gref mode
same_verdict before state gref mode sees =
    ap (λ (n : ℕ). verdict_of gref n (word_at state (gref / 512) (2 * (gref % 512) + 1)) mode) (sees.values (gref / 512) (2 * (gref % 512)))
    ∙ ap (λ (n : ℕ). verdict_of gref (value_before before (gref / 512) (2 * (gref % 512))) n mode) (sees.values (gref / 512) (2 * (gref % 512) + 1))

granted_decided : (frame : ℕ) (r : Result ℕ MapRefusal) → Decides (is_granted frame r) (r ≡ Ok frame)
granted_decided frame (Ok granted) = Decides-like (granted == frame) (λ e. ap (λ (n : ℕ). Ok n) e) (λ e. cc) (Decides-eqb granted frame)
granted_decided frame (Err refusal) = (λ e. absurd (cc), λ e. absurd (cc))

refused_decided : (status : ℤ) (r : Result ℕ MapRefusal) → Decides (is_refused status r) ((refusal : MapRefusal) × (r ≡ Err refusal) × (status ≡ status_of refusal))
refused_decided status (Ok granted) = (λ e. absurd (cc), λ h. absurd (let e = h.1 in cc))
refused_decided status (Err refusal) =
    Decides-like (int_eq status (status_of refusal)) (λ e. (refusal, refl, e)) (λ h. let other : refusal ≡ h.0 = (let e = h.1 in cc) in h.2 ∙ ap status_of (sym other)) (Decides-int_eq status (status_of refusal))

new_by : (b : Bool) → Decides (not b) (b ≡ false)
new_by true = (λ e. absurd (cc), λ e. absurd (cc))
new_by false = (λ e. refl, λ e. refl)

new_decided : (before : List Line) (state : State) (number : ℕ) → Sees before state → Decides (not (has state.numbers number)) (was_made before number ≡ false)
new_decided before state number sees = subst (λ (b : Bool). Decides (not (has state.numbers number)) (b ≡ false)) (sees.made number) (new_by (has state.numbers number))

pub map_answers_decided : (before : List Line) (line : Line) (state : State) → Sees before state → Decides (answers_map state line) (IsMapAnswerAt before line)
map_answers_decided before (lines.Move (moves.Map who gref mode number frame)) state sees =
    Decides-and (is_granted frame (map_verdict state gref mode)) (not (has state.numbers number))
    (subst (λ (r : Result ℕ MapRefusal). Decides (is_granted frame (map_verdict state gref mode)) (r ≡ Ok frame)) (same_verdict before state gref mode sees) (granted_decided frame (map_verdict state gref mode)))
    (new_decided before state number sees)
map_answers_decided before (lines.Move (moves.MapRefused who gref mode status)) state sees =
    subst (λ (r : Result ℕ MapRefusal). Decides (is_refused status (map_verdict state gref mode)) ((refusal : MapRefusal) × (r ≡ Err refusal) × (status ≡ status_of refusal))) (same_verdict before state gref mode sees) (refused_decided status (map_verdict state gref mode))
map_answers_decided before line state sees = always

-- ---- touches
of_frame_decided : (frame : ℕ) (o : Option Standing) → Decides (is_of_frame frame o) (IsSomeAnd o (λ (s : Standing). s.frame ≡ frame))
of_frame_decided frame None = (λ e. absurd (cc), λ h. absurd h)
of_frame_decided frame (Some s) = Decides-eqb s.frame frame

writing_decided : (mode : Mode) → Decides (is_for_writing mode) (mode ≡ ReadWrite)
writing_decided ReadOnly = (λ e. absurd (cc), λ e. absurd (cc))
writing_decided ReadWrite = (λ e. refl, λ e. refl)

to_write_decided : (frame : ℕ) (o : Option Standing) → Decides (is_to_write frame o) (IsSomeAnd o (λ (s : Standing). (s.frame ≡ frame) × (s.mode ≡ ReadWrite)))
to_write_decided frame None = (λ e. absurd (cc), λ h. absurd h)
to_write_decided frame (Some s) = Decides-and (s.frame == frame) (is_for_writing s.mode) (Decides-eqb s.frame frame) (writing_decided s.mode)

pub touches_decided : (before : List Line) (line : Line) (state : State) → Sees before state → Decides (touches_a_mapping state line) (IsTouchAt before line)
touches_decided before (lines.Move (moves.Read who number frame word value)) state sees =
    subst (λ (o : Option Standing). Decides (is_of_frame frame (standing_at state.standing number)) (IsSomeAnd o (λ (s : Standing). s.frame ≡ frame))) (sees.mapped number) (of_frame_decided frame (standing_at state.standing number))
touches_decided before (lines.Move (moves.Write who number frame word value)) state sees =
    subst (λ (o : Option Standing). Decides (is_to_write frame (standing_at state.standing number)) (IsSomeAnd o (λ (s : Standing). (s.frame ≡ frame) × (s.mode ≡ ReadWrite)))) (sees.mapped number) (to_write_decided frame (standing_at state.standing number))
touches_decided before line state sees = always
