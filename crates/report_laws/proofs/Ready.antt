-- A front that is idle was connected in this epoch, or is closed or broken, and its report has the line of it.
use Rattle.std.proofs.Common.{◌≡◌, ◌⊎◌, inl, inr, ℕ, ◌||◌, Bool, true, false, not, ◌&&◌, List, [], ◌∷◌, ◌++◌, refl, ap, sym, ◌∙◌, true≢false}
use Rattle.std.specs.Prelude.{Option, Some, None, map}
use Rattle.std.specs.List.{list_any}
use Rattle.blk_base.specs.Options.{Options}
use Rattle.schedule_text.specs.declared.line.Detail.{Detail}
use Rattle.schedule_text.specs.declared.line.Line.{Line}
use Rattle.schedule_text.specs.declared.line.Line.TheVariants as lines
use Rattle.schedule_text.specs.Recorder.{recorded}
use Rattle.hypervisor.specs.Act.{FrontAct}
use Rattle.blk_front.specs.declared.stage.Ending.{Ending}
use Rattle.blk_front.specs.declared.stage.FrontStage.{FrontStage}
use Rattle.blk_front.specs.declared.stage.FrontStage.TheVariants as stage
use Rattle.blk_front.specs.declared.state.FrontState.{FrontState}
use Rattle.blk_front.specs.declared.state.FrontState.TheVariants as state
use Rattle.blk_front.specs.View.{View}
use Rattle.blk_front.specs.Ask as ask
use Rattle.blk_front.specs.Step.{step_of}
use Rattle.blk_front.specs.State.{is_open, in_state}
use Rattle.blk_front.specs.Submit.{is_ready, is_led, is_wait}
use Rattle.blk_front.specs.Suspend.{stage_after, suspended}
use Rattle.report_rules.specs.Standing.{this_epoch}
use Rattle.split_model.specs.World.{World, start_of, is_quiet}
use Rattle.split_model.specs.Shown.{state_lines}
use Rattle.split_model.specs.Happening.{Happening, FrontMoves, FrontEnters, Suspends, Looks, Settles, front_after, front_shows, front_turn}
use Rattle.split_model.specs.Kept.{KeepingHappening, Plainly, happens_keeping, shows_keeping, after_keeping, IsSafeKeeping}
use Rattle.schedule_text.specs.Recorder.{kept_of}
use Rattle.split_model.specs.Report.{report_of, ended_report_of}
use Rattle.split_model.proofs.States.{enters_cases}
use Rattle.split_model.proofs.Suspending.{suspend_cases, front_cases}
use Rattle.machine_pipeline.specs.Allowed.{IsServed, AreServed}
use Rattle.move_laws.specs.Kept.{report_keeping, ended_report_keeping}
use Rattle.report_rules.specs.Obeys.{Obeys}
use Rattle.report_laws.specs.Kept.{AreEach, IsFoundQuiet}
use Rattle.report_laws.specs.Ready.{says_ready, says_over, IsReadyAt, IsReadyFirst}
use Rattle.report_laws.proofs.Announced.{Has, has_first, has_later}
use Rattle.report_laws.proofs.Aside.{LeavesFront, leaves_front, aside_within}
use Rattle.report_laws.proofs.Epochs.{AreWithin, epoch_on, shows_within, kept_epoch}
use Rattle.report_laws.proofs.Gone.{IsToldOver, one_over}
use Rattle.report_laws.proofs.Held.{lacks, IsHeld, one_held}
use Rattle.report_laws.proofs.KeptReports.{as_plain, report_up, plain_all, plain_report, plain_ended}
use Rattle.report_laws.proofs.Looks.{SpeaksOfQuiet, finds_quiet, keeping_obeys, begun_obeys, over_obeys, kept_obeys}
use Rattle.report_laws.proofs.Phases.{Steps, front_steps, same_ready, over_unready, anew_phase}

-- of a front that is connected, and hasn't left since, the epoch has the line
abbrev IsSaidReady : List Line → World → Type 0
IsSaidReady before w = is_ready w.front.stage ≡ true → Has says_ready (this_epoch before)

-- the lines of what is no suspend stand in the same epoch
earlier : (before ls : List Line) → AreWithin ls → Has says_ready (this_epoch before) → Has says_ready (this_epoch (before ++ ls))
earlier before ls all has = ap (list_any says_ready) (epoch_on ls before all) ∙ has_first says_ready (this_epoch before) ls has

said_still : (before ls : List Line) (w w' : World) → AreWithin ls → is_ready w'.front.stage ≡ is_ready w.front.stage → IsSaidReady before w → IsSaidReady (before ++ ls) w'
said_still before ls w w' all same was = λ t. earlier before ls all (was (sym same ∙ t))

-- no move of the front connects it
front_ready : (w : World) (before : List Line) (act : Option FrontAct) → IsSafeKeeping w → IsSaidReady before w → IsSaidReady (before ++ front_shows w act) (front_after w act)
front_ready w before None safe was = said_still before [] w w tt refl was
front_ready w before (Some a) safe was = λ t. earlier before (front_shows w (Some a)) (shows_within w (Some a)) (was (by_step t (front_steps w.front.stage w.front a.answer safe.front_told refl)))
  where
    x : View
    x = step_of w.front a.answer

    by_step : is_ready x.stage ≡ true → Steps w.front.stage x → is_ready w.front.stage ≡ true
    by_step t (inl stays) = sym (same_ready x.stage w.front.stage stays.same) ∙ t
    by_step t (inr (inl makes)) = absurd (true≢false (sym t ∙ ap is_ready makes.is))
    by_step t (inr (inr breaks)) = absurd (true≢false (sym t ∙ over_unready x.stage breaks.over))

-- a state that connects it has the line
entered_ready : (s : FrontState) (v : View) (before : List Line) → (is_ready v.stage ≡ true → Has says_ready (this_epoch before)) → (let x : View = in_state s v in is_ready x.stage) ≡ true → Has says_ready (this_epoch (before ++ state_lines s))
entered_ready (state.Connected offers) v before was t = ap (list_any says_ready) (epoch_on (lines.Ready ∷ []) before (refl, tt)) ∙ has_later says_ready (this_epoch before) (lines.Ready ∷ []) refl
entered_ready state.Closing v before was t = earlier before (lines.Closing ∷ []) (refl, tt) (was t)
entered_ready (state.Agreed order) v before was t = earlier before [] tt (was t)
entered_ready other v before was t = absurd (true≢false (sym t))

-- a suspended front isn't connected
suspended_unready : (v : View) → (let x : View = suspended v in is_ready x.stage) ≡ false
suspended_unready v = front_cases (λ (x : View). is_ready x.stage ≡ false) v (λ on. same_ready (stage_after v.stage) (stage.RingWord 0) (anew_phase v.stage)) (λ over. over_unready v.stage over)

one_ready : (before : List Line) (w : World) (h : KeepingHappening) → IsSafeKeeping w → IsSaidReady before w → IsSaidReady (before ++ shows_keeping w h) (happens_keeping w h)
one_ready before w (Plainly FrontMoves) safe was = front_ready w before (front_turn w) safe was
one_ready before w (Plainly (FrontEnters s)) safe was =
    enters_cases (λ v shown. is_ready v.stage ≡ true → Has says_ready (this_epoch (before ++ shown))) s w.front (λ may. entered_ready s w.front before was) (said_still before [] w w tt refl was)
one_ready before w (Plainly Suspends) safe was =
    suspend_cases (λ v shown. IsSaidReady (before ++ shown) v) w (λ may t. absurd (true≢false (sym t ∙ suspended_unready w.front))) (said_still before [] w w tt refl was)
one_ready before w h safe was =
    let is : LeavesFront w (happens_keeping w h) (shows_keeping w h) = leaves_front w h tt in
    said_still before (shows_keeping w h) w (happens_keeping w h) (aside_within (shows_keeping w h) is.lines) (ap is_ready is.front.stage) was

-- a front that is idle is connected, closed or broken, where it holds the request whose data it reads
reads_on : (ending : Option Ending) (n : ℕ) → lacks (stage.LeftData n) ending ≡ false → is_wait (ask.read_ask ending n) ≡ true → ⊥
reads_on None n held waits = true≢false held
reads_on (Some e) n held waits = true≢false (sym waits)

idle_settled : (s : FrontStage) (v : View) → lacks s v.ending ≡ false → (not (is_led s) && is_wait (ask.ask_at s v)) ≡ true → (is_ready s ≡ true) ⊎ (is_open s ≡ false)
idle_settled (stage.RingWord k) v held t = absurd (true≢false (sym t))
idle_settled (stage.RingFrame page) v held t = absurd (true≢false (sym t))
idle_settled (stage.RingFence page) v held t = absurd (true≢false (sym t))
idle_settled (stage.RingFlags page) v held t = absurd (true≢false (sym t))
idle_settled stage.NewPort v held t = absurd (true≢false (sym t))
idle_settled stage.Initialised v held t = absurd (true≢false (sym t))
idle_settled (stage.RingRead page) v held t = absurd (true≢false (sym t))
idle_settled (stage.RingEnd page seen) v held t = absurd (true≢false (sym t))
idle_settled stage.ClosePort v held t = absurd (true≢false (sym t))
idle_settled (stage.KeptRead frame) v held t = absurd (true≢false held)
idle_settled (stage.KeptEnd frame seen) v held t = absurd (true≢false held)
idle_settled stage.Left v held t = absurd (true≢false (sym t))
idle_settled (stage.LeftData n) v held t = absurd (reads_on v.ending n held t)
idle_settled stage.Closed v held t = inr refl
idle_settled (stage.Broken word) v held t = inr refl
idle_settled s v held t = inl refl

first_holds : (a b c d : Bool) → (a && b && not c && not d) ≡ true → a ≡ true
first_holds true b c d t = refl
first_holds false b c d t = absurd (true≢false (sym t))

quiet_settled : (w : World) → lacks w.front.stage w.front.ending ≡ false → is_quiet w ≡ true → (is_ready w.front.stage ≡ true) ⊎ (is_open w.front.stage ≡ false)
quiet_settled w held quiet = idle_settled w.front.stage w.front held (first_holds _ _ _ _ quiet)

ready_free : SpeaksOfQuiet IsReadyAt
ready_free before lines.Quiet e = absurd (true≢false e)
ready_free before line e = tt

-- so a report says `quiet` only of such a front
record IsReadySoFar (before : List Line) (w : World) : Type 0 where
  ready : IsSaidReady before w
  over : IsToldOver before w
  held : IsHeld w
  obeys : Obeys IsReadyAt before

ready_where_quiet : (before : List Line) (w : World) → IsReadySoFar before w → is_quiet w ≡ true → IsReadyAt before lines.Quiet
ready_where_quiet before w is quiet = by_stage (quiet_settled w is.held quiet)
  where
    by_stage : (is_ready w.front.stage ≡ true) ⊎ (is_open w.front.stage ≡ false) → IsReadyAt before lines.Quiet
    by_stage (inl ready) = inl (is.ready ready)
    by_stage (inr over) = inr (is.over ∙ ap not over)

quiet_where_found : (w : World) (h : KeepingHappening) → IsFoundQuiet w h → finds_quiet (as_plain h) ≡ true → is_quiet w ≡ true
quiet_where_found w (Plainly (Looks quiet)) may found = may found
quiet_where_found w (Plainly (Settles quiet)) may found = may found
quiet_where_found w h may found = absurd (true≢false (sym found))

one_so_far : (before : List Line) (w : World) (h : KeepingHappening) → IsSafeKeeping w → IsFoundQuiet w h → IsReadySoFar before w → IsReadySoFar (before ++ shows_keeping w h) (happens_keeping w h)
one_so_far before w h safe may is = record {
  ready = one_ready before w h safe is.ready;
  over = one_over before w h safe is.over;
  held = one_held w h is.held;
  obeys = keeping_obeys IsReadyAt ready_free before w h (λ found. ready_where_quiet before w is (quiet_where_found w h may found)) is.obeys;
}

report_so_far : (config : Options) (detail : Detail) (history : List KeepingHappening) → AreEach IsFoundQuiet history (start_of config) → IsReadySoFar (report_keeping config detail history) (after_keeping history (start_of config))
report_so_far config detail history may =
    report_up IsFoundQuiet IsReadySoFar one_so_far config detail history may
    (record { ready = λ t. absurd (true≢false (sym t)); over = refl; held = refl; obeys = begun_obeys IsReadyAt ready_free config detail })

-- a recorder keeps both lines
all_kept : (says : Line → Bool) (detail : Detail) → ((line : Line) → says line ≡ true → Has says (recorded detail line)) → (ls : List Line) → Has says ls → Has says (kept_of detail ls)
all_kept says detail one [] h = absurd (true≢false (sym h))
all_kept says detail one (line ∷ ls) h = by_line (says line) refl (all_kept says detail one ls) h
  where
    by_line : (here : Bool) → says line ≡ here → (Has says ls → Has says (kept_of detail ls)) → (here || list_any says ls) ≡ true → Has says (recorded detail line ++ kept_of detail ls)
    by_line true e rest h = has_first says (recorded detail line) (kept_of detail ls) (one line e)
    by_line false e rest h = has_later says (recorded detail line) (kept_of detail ls) (rest h)

one_ready_kept : (detail : Detail) (line : Line) → says_ready line ≡ true → Has says_ready (recorded detail line)
one_ready_kept detail lines.Ready e = refl
one_ready_kept detail line e = absurd (true≢false (sym e))

one_over_kept : (detail : Detail) (line : Line) → says_over line ≡ true → Has says_over (recorded detail line)
one_over_kept detail lines.Closed e = refl
one_over_kept detail (lines.Broken word) e = refl
one_over_kept detail line e = absurd (true≢false (sym e))

outcome_kept : (detail : Detail) (before : List Line) → IsReadyAt before lines.Quiet → IsReadyAt (kept_of detail before) lines.Quiet
outcome_kept detail before (inl ready) = inl (ap (list_any says_ready) (kept_epoch detail before) ∙ all_kept says_ready detail (one_ready_kept detail) (this_epoch before) ready)
outcome_kept detail before (inr over) = inr (all_kept says_over detail (one_over_kept detail) before over)

pub report_ready_keeping : (config : Options) (detail : Detail) (history : List KeepingHappening) → AreEach IsFoundQuiet history (start_of config) → IsReadyFirst (kept_of detail (report_keeping config detail history))
report_ready_keeping config detail history may = kept_obeys IsReadyAt ready_free detail (outcome_kept detail) (report_keeping config detail history) (report_so_far config detail history may).obeys

pub ended_ready_keeping : (config : Options) (detail : Detail) (history : List KeepingHappening) → AreEach IsFoundQuiet history (start_of config) → IsReadyFirst (kept_of detail (ended_report_keeping config detail history))
ended_ready_keeping config detail history may =
    kept_obeys IsReadyAt ready_free detail (outcome_kept detail) (ended_report_keeping config detail history)
    (over_obeys IsReadyAt ready_free (report_keeping config detail history) (report_so_far config detail history may).obeys)

-- where none are kept
served_found : (w : World) (h : Happening) → IsServed w h → IsFoundQuiet w (Plainly h)
served_found w (Looks quiet) may = may
served_found w (Settles quiet) may = may
served_found w h may = tt

all_found : (config : Options) (history : List Happening) → AreServed history (start_of config) → AreEach IsFoundQuiet (map Plainly history) (start_of config)
all_found config history may = plain_all AreServed IsFoundQuiet (λ h hs w are. (served_found w h are.0, are.1)) config history may

pub report_ready : (config : Options) (detail : Detail) (history : List Happening) → AreServed history (start_of config) → IsReadyFirst (kept_of detail (report_of config detail history))
report_ready config detail history may = plain_report (λ ls. IsReadyFirst (kept_of detail ls)) config detail history (report_ready_keeping config detail (map Plainly history) (all_found config history may))

pub ended_ready : (config : Options) (detail : Detail) (history : List Happening) → AreServed history (start_of config) → IsReadyFirst (kept_of detail (ended_report_of config detail history))
ended_ready config detail history may = plain_ended (λ ls. IsReadyFirst (kept_of detail ls)) config detail history (ended_ready_keeping config detail (map Plainly history) (all_found config history may))
