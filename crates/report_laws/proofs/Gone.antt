-- A `closed` or a `broken` line stands in a report where the front is closed or broken, and nowhere else.
use Rattle.std.proofs.Common.{◌≡◌, inl, inr, ◌||◌, Bool, true, false, not, List, [], ◌∷◌, ◌++◌, refl, ap, sym, ◌∙◌}
use Rattle.std.specs.Prelude.{Option, Some, None, map}
use Rattle.std.specs.List.{list_any}
use Rattle.std.proofs.lemmas.List.{append-nil}
use Rattle.std.proofs.lemmas.List.Folds.{list_any-append}
use Rattle.std.proofs.Math.Bool.{or-true}
use Rattle.blk_base.specs.Options.{Options}
use Rattle.schedule_text.specs.declared.line.Detail.{Detail}
use Rattle.schedule_text.specs.declared.line.Line.{Line}
use Rattle.schedule_text.specs.declared.line.Line.TheVariants as lines
use Rattle.hypervisor.specs.Act.{FrontAct}
use Rattle.blk_front.specs.declared.stage.FrontStage.{FrontStage}
use Rattle.blk_front.specs.declared.stage.FrontStage.TheVariants as stage
use Rattle.blk_front.specs.declared.state.FrontState.{FrontState}
use Rattle.blk_front.specs.declared.state.FrontState.TheVariants as state
use Rattle.blk_front.specs.View.{View}
use Rattle.blk_front.specs.Step.{step_of}
use Rattle.blk_front.specs.State.{is_open, in_state}
use Rattle.blk_front.specs.Suspend.{stage_after, suspended}
use Rattle.split_model.specs.World.{World, start_of}
use Rattle.split_model.specs.Shown.{front_lines, state_lines}
use Rattle.split_model.specs.Happening.{Happening, FrontMoves, FrontEnters, Suspends, enter_lines, happens, after, front_after, front_shows, front_turn}
use Rattle.split_model.specs.Kept.{KeepingHappening, Plainly, happens_keeping, shows_keeping, after_keeping, IsSafeKeeping}
use Rattle.split_model.specs.Report.{report_of}
use Rattle.split_model.proofs.States.{enters_cases}
use Rattle.split_model.proofs.Suspending.{suspend_cases, front_cases}
use Rattle.move_laws.specs.Kept.{report_keeping}
use Rattle.report_laws.specs.Ready.{says_over}
use Rattle.report_laws.proofs.KeptReports.{report_always, plain_up}
use Rattle.report_laws.proofs.Aside.{LeavesFront, leaves_front, aside_silent}
use Rattle.report_laws.proofs.Phases.{Steps, front_steps, same_open, anew_phase, enters_open}

abbrev pub IsToldOver : List Line → World → Type 0
IsToldOver before w = list_any says_over before ≡ not (is_open w.front.stage)

-- one of these lines says it, or one of those after them
more : (before ls : List Line) (a b : Bool) → list_any says_over before ≡ a → list_any says_over ls ≡ b → list_any says_over (before ++ ls) ≡ (a || b)
more before ls a b p q = list_any-append says_over before ls ∙ (ap (λ (x : Bool). x || list_any says_over ls) p ∙ ap (λ (x : Bool). a || x) q)

or_none : (b : Bool) → (b || false) ≡ b
or_none true = refl
or_none false = refl

no_more : (before : List Line) (w : World) → IsToldOver before w → IsToldOver (before ++ []) w
no_more before w was = ap (λ (ls : List Line). list_any says_over ls) (append-nil before) ∙ was

-- a move of the front
front_over : (w : World) (before : List Line) (act : Option FrontAct) → IsSafeKeeping w → IsToldOver before w → IsToldOver (before ++ front_shows w act) (front_after w act)
front_over w before None safe was = no_more before w was
front_over w before (Some a) safe was = by_step (front_steps w.front.stage w.front a.answer safe.front_told refl)
  where
    x : View
    x = step_of w.front a.answer

    by_step : Steps w.front.stage x → list_any says_over (before ++ lines.Move a.shown ∷ front_lines x.told) ≡ not (is_open x.stage)
    by_step (inl stays) = more before (lines.Move a.shown ∷ front_lines x.told) (not (is_open w.front.stage)) false was stays.silent ∙ (or_none (not (is_open w.front.stage)) ∙ ap not (sym (same_open x.stage w.front.stage stays.same)))
    by_step (inr (inl makes)) =
        let was_open : not (is_open w.front.stage) ≡ false = ap (λ (s : FrontStage). not (is_open s)) makes.was in
        let is_so : not (is_open x.stage) ≡ false = ap (λ (s : FrontStage). not (is_open s)) makes.is in
        more before (lines.Move a.shown ∷ front_lines x.told) false false (was ∙ was_open) makes.silent ∙ sym is_so
    by_step (inr (inr breaks)) = more before (lines.Move a.shown ∷ front_lines x.told) (not (is_open w.front.stage)) true was breaks.said ∙ (or-true (not (is_open w.front.stage)) ∙ sym (ap not breaks.over))

-- a state that it enters, which it does only where it is open
entered_over : (s : FrontState) (v : View) (before : List Line) → list_any says_over before ≡ false → is_open v.stage ≡ true → list_any says_over (before ++ state_lines s) ≡ not (let x : View = in_state s v in is_open x.stage)
entered_over (state.Agreed order) v before none on = more before [] false false none refl ∙ sym (ap not on)
entered_over (state.Connected offers) v before none on = more before (lines.Ready ∷ []) false false none refl
entered_over state.Closing v before none on = more before (lines.Closing ∷ []) false false none refl ∙ sym (ap not on)
entered_over state.Leaving v before none on = more before [] false false none refl
entered_over state.Closed v before none on = more before (lines.Closed ∷ []) false true none refl
entered_over (state.Broken word) v before none on = more before (lines.Broken word ∷ []) false true none refl

enters_over : (w : World) (before : List Line) (s : FrontState) → IsToldOver before w → IsToldOver (before ++ enter_lines s w.front) (happens w (FrontEnters s))
enters_over w before s was =
    enters_cases (λ v shown. list_any says_over (before ++ shown) ≡ not (is_open v.stage)) s w.front
    (λ may. (let on = enters_open s w.front may in entered_over s w.front before (was ∙ ap not on) on)) (no_more before w was)

-- a suspend leaves whether it is open
pub suspended_open : (v : View) → (let x : View = suspended v in is_open x.stage) ≡ is_open v.stage
suspended_open v = front_cases (λ (x : View). is_open x.stage ≡ is_open v.stage) v (λ on. same_open (stage_after v.stage) (stage.RingWord 0) (anew_phase v.stage) ∙ sym on) (λ over. refl)

pub one_over : (before : List Line) (w : World) (h : KeepingHappening) → IsSafeKeeping w → IsToldOver before w → IsToldOver (before ++ shows_keeping w h) (happens_keeping w h)
one_over before w (Plainly FrontMoves) safe was = front_over w before (front_turn w) safe was
one_over before w (Plainly (FrontEnters s)) safe was = enters_over w before s was
one_over before w (Plainly Suspends) safe was =
    suspend_cases (λ v shown. IsToldOver (before ++ shown) v) w
    (λ may. more before (lines.Epoch ∷ []) (not (is_open w.front.stage)) false was refl ∙ (or_none (not (is_open w.front.stage)) ∙ ap not (sym (suspended_open w.front))))
    (no_more before w was)
one_over before w h safe was =
    let is : LeavesFront w (happens_keeping w h) (shows_keeping w h) = leaves_front w h tt in
    more before (shows_keeping w h) (not (is_open w.front.stage)) false was (aside_silent (shows_keeping w h) is.lines)
    ∙ (or_none (not (is_open w.front.stage)) ∙ ap (λ (s : FrontStage). not (is_open s)) (sym is.front.stage))

report_over_keeping : (config : Options) (detail : Detail) (history : List KeepingHappening) → IsToldOver (report_keeping config detail history) (after_keeping history (start_of config))
report_over_keeping config detail history = report_always IsToldOver (λ before w h safe any was. one_over before w h safe was) config detail history refl

pub report_over : (config : Options) (detail : Detail) (history : List Happening) → IsToldOver (report_of config detail history) (after history (start_of config))
report_over config detail history = plain_up IsToldOver config detail history (report_over_keeping config detail (map Plainly history))
