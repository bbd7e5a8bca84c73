-- Where a report says `ready` the front made its port in this epoch.
use Rattle.std.proofs.Common.{◌≡◌, ◌≢◌, inl, inr, ℕ, ◌+◌, ◌≤◌, ◌||◌, Bool, true, false, if◌then◌else◌, List, [], ◌∷◌, ◌++◌, length, refl, ap, sym, ◌∙◌, subst, length-append, arith, true≢false}
use Rattle.std.specs.Prelude.{Option, Some, None, map}
use Rattle.std.specs.List.{list_any}
use Rattle.std.proofs.lemmas.List.Folds.{list_any-append}
use Rattle.blk_base.specs.Options.{Options}
use Rattle.blk_base.specs.declared.ask.FrontAsk.TheVariants as front_ask
use Rattle.schedule_text.specs.declared.line.Detail.{Detail}
use Rattle.schedule_text.specs.declared.line.Line.{Line}
use Rattle.schedule_text.specs.declared.line.Line.TheVariants as lines
use Rattle.event_channel.specs.declared.channels.PortState.{PortState}
use Rattle.event_channel.specs.declared.channels.PortState.TheVariants.{Unbound}
use Rattle.hypervisor.specs.Hypervisor.{Hypervisor}
use Rattle.hypervisor.specs.Act.{FrontAct, front_act}
use Rattle.blk_front.specs.declared.stage.FrontStage.{FrontStage}
use Rattle.blk_front.specs.declared.stage.FrontStage.TheVariants as stage
use Rattle.blk_front.specs.declared.state.FrontState.{FrontState}
use Rattle.blk_front.specs.declared.state.FrontState.TheVariants as state
use Rattle.blk_front.specs.Ask as ask
use Rattle.blk_front.specs.State.{may_enter, in_state}
use Rattle.blk_front.specs.Step.{step_of}
use Rattle.blk_front.specs.Submit.{is_initialised}
use Rattle.blk_front.specs.Suspend.{stage_after, suspended}
use Rattle.blk_front.specs.View.{View}
use Rattle.report_rules.specs.Standing.{is_epoch, this_epoch}
use Rattle.split_model.specs.World.{World, start_of}
use Rattle.split_model.specs.Shown.{state_lines}
use Rattle.split_model.specs.Happening.{Happening, FrontMoves, FrontEnters, Suspends, after, front_after, front_shows, front_turn}
use Rattle.split_model.specs.Kept.{KeepingHappening, Plainly, happens_keeping, shows_keeping, IsSafeKeeping}
use Rattle.split_model.specs.Report.{report_of}
use Rattle.split_model.proofs.SafeActs.{of_front}
use Rattle.split_model.proofs.States.{enters_cases}
use Rattle.split_model.proofs.Suspending.{suspend_cases, front_cases}
use Rattle.report_laws.specs.Ports.{makes_port}
use Rattle.report_laws.specs.Ready.{says_ready}
use Rattle.report_laws.proofs.KeptReports.{report_always, plain_up}
use Rattle.report_laws.proofs.Aside.{LeavesFront, leaves_front, aside_unready, aside_within, shows_unready}
use Rattle.report_laws.proofs.Epochs.{AreWithin, epoch_on, epoch_begins, shows_within}
use Rattle.report_laws.proofs.FewPorts.{ports_of, next_count, count_after, IsCounted, one_counted}
use Rattle.report_laws.proofs.Phases.{Steps, front_steps, same_initialised, over_unwaiting, anew_phase}

-- lines of one epoch leave as many ports as there are, or more
count_grows : (n : ℕ) (ls : List Line) → AreWithin ls → n ≤ count_after n ls
count_grows n [] all = omega arith
count_grows n (line ∷ ls) all =
    let one : n ≤ next_count n line = by_tests (is_epoch line) (makes_port line) all.0 in
    let rest = count_grows (next_count n line) ls all.1 in
    omega arith
  where
    by_tests : (e p : Bool) → e ≡ false → n ≤ (if e then 0 else (if p then n + 1 else n))
    by_tests false true none = omega arith
    by_tests false false none = omega arith
    by_tests true p none = absurd (true≢false none)

ports_grow : (w : World) (h : KeepingHappening) → IsSafeKeeping w → AreWithin (shows_keeping w h) → ports_of w.under ≤ ports_of (let x : World = happens_keeping w h in x.under)
ports_grow w h safe all =
    let is : IsCounted w.under (shows_keeping w h) (let x : World = happens_keeping w h in x.under) = one_counted w h safe in
    subst (λ (n : ℕ). ports_of w.under ≤ n) is.told (count_grows (ports_of w.under) (shows_keeping w h) all)

-- a front that waits to be connected, and one of which this epoch says that it is, made its port
record HasPort (before : List Line) (w : World) : Type 0 where
  waiting : is_initialised w.front.stage ≡ true → 1 ≤ ports_of w.under
  ready : list_any says_ready (this_epoch before) ≡ true → 1 ≤ ports_of w.under

-- it stands before lines that don't say it
earlier : (before ls : List Line) → AreWithin ls → list_any says_ready ls ≡ false → list_any says_ready (this_epoch (before ++ ls)) ≡ true → list_any says_ready (this_epoch before) ≡ true
earlier before ls all none t =
    first (list_any says_ready (this_epoch before)) (list_any says_ready ls) none (sym (list_any-append says_ready (this_epoch before) ls) ∙ (sym (ap (list_any says_ready) (epoch_on ls before all)) ∙ t))
  where
    first : (a b : Bool) → b ≡ false → (a || b) ≡ true → a ≡ true
    first true b f t = refl
    first false b f t = absurd (true≢false (sym t ∙ f))

-- what connects no front and has none wait to be
still : (before ls : List Line) (w w' : World) → AreWithin ls → list_any says_ready ls ≡ false → ports_of w.under ≤ ports_of w'.under → (is_initialised w'.front.stage ≡ true → is_initialised w.front.stage ≡ true) → HasPort before w → HasPort (before ++ ls) w'
still before ls w w' all none grown waits was = record {
  waiting = λ t. (let made = was.waiting (waits t) in omega arith);
  ready = λ t. (let made = was.ready (earlier before ls all none t) in omega arith);
}

-- the move that makes the port
makes_one : (h : Hypervisor) (a : FrontAct) → front_act h front_ask.NewPort ≡ Some a → 1 ≤ ports_of a.under
makes_one h a e = of_front (λ (x : FrontAct). 1 ≤ ports_of x.under) _ a (let one = length-append h.channels.ports (Unbound ∷ []) in omega arith) e

front_port : (w : World) (before : List Line) (act : Option FrontAct) → front_turn w ≡ act → IsSafeKeeping w → ports_of w.under ≤ ports_of (let x : World = front_after w act in x.under) → HasPort before w → HasPort (before ++ front_shows w act) (front_after w act)
front_port w before None e safe grown was = still before [] w w tt refl grown (λ t. t) was
front_port w before (Some a) e safe grown was = by_step (front_steps w.front.stage w.front a.answer safe.front_told refl)
  where
    x : View
    x = step_of w.front a.answer

    stays_so : (is_initialised x.stage ≡ true → is_initialised w.front.stage ≡ true) → HasPort (before ++ front_shows w (Some a)) (front_after w (Some a))
    stays_so waits = still before (front_shows w (Some a)) w (front_after w (Some a)) (shows_within w (Some a)) (shows_unready w (Some a)) grown waits was

    by_step : Steps w.front.stage x → HasPort (before ++ front_shows w (Some a)) (front_after w (Some a))
    by_step (inl stays) = stays_so (λ t. sym (same_initialised x.stage w.front.stage stays.same) ∙ t)
    by_step (inr (inl makes)) =
        let made : 1 ≤ ports_of a.under = makes_one w.under a (subst (λ (s : FrontStage). front_act w.under (ask.ask_at s w.front) ≡ Some a) makes.was e) in
        record { waiting = λ t. made; ready = λ t. made }
    by_step (inr (inr breaks)) = stays_so (λ t. absurd (true≢false (sym t ∙ over_unwaiting x.stage breaks.over)))

-- a state that the front enters: it is connected where it waited for it
abbrev entered : World → View → World
entered w v = record { front = v; back = w.back; under = w.under }

entered_port : (w : World) (before : List Line) (s : FrontState) → HasPort before w → may_enter s w.front ≡ true → HasPort (before ++ state_lines s) (entered w (in_state s w.front))
entered_port w before (state.Connected offers) was may = let made = was.waiting may in record { waiting = λ t. made; ready = λ t. made }
entered_port w before state.Closing was may = still before (lines.Closing ∷ []) w (entered w (in_state state.Closing w.front)) (refl, tt) refl (omega arith) (λ t. t) was
entered_port w before (state.Agreed order) was may = still before [] w (entered w (in_state (state.Agreed order) w.front)) tt refl (omega arith) (λ t. t) was
entered_port w before state.Leaving was may = still before [] w (entered w (in_state state.Leaving w.front)) tt refl (omega arith) (λ t. absurd (true≢false (sym t))) was
entered_port w before state.Closed was may = still before (lines.Closed ∷ []) w (entered w (in_state state.Closed w.front)) (refl, tt) refl (omega arith) (λ t. absurd (true≢false (sym t))) was
entered_port w before (state.Broken word) was may = still before (lines.Broken word ∷ []) w (entered w (in_state (state.Broken word) w.front)) (refl, tt) refl (omega arith) (λ t. absurd (true≢false (sym t))) was

-- a suspended front doesn't wait to be connected
suspended_unwaiting : (v : View) → (let x : View = suspended v in is_initialised x.stage) ≡ false
suspended_unwaiting v = front_cases (λ (x : View). is_initialised x.stage ≡ false) v (λ on. same_initialised (stage_after v.stage) (stage.RingWord 0) (anew_phase v.stage)) (λ over. over_unwaiting v.stage over)

one_port : (before : List Line) (w : World) (h : KeepingHappening) → IsSafeKeeping w → HasPort before w → HasPort (before ++ shows_keeping w h) (happens_keeping w h)
one_port before w (Plainly FrontMoves) safe was = front_port w before (front_turn w) refl safe (ports_grow w (Plainly FrontMoves) safe (shows_within w (front_turn w))) was
one_port before w (Plainly (FrontEnters s)) safe was =
    enters_cases (λ v shown. HasPort (before ++ shown) (entered w v)) s w.front (λ may. entered_port w before s was may) (still before [] w w tt refl (omega arith) (λ t. t) was)
one_port before w (Plainly Suspends) safe was =
    suspend_cases (λ v shown. HasPort (before ++ shown) v) w
    (λ may. record { waiting = λ t. absurd (true≢false (sym t ∙ suspended_unwaiting w.front)); ready = λ t. absurd (true≢false (sym t ∙ ap (list_any says_ready) (epoch_begins before))) })
    (still before [] w w tt refl (omega arith) (λ t. t) was)
one_port before w h safe was =
    let is : LeavesFront w (happens_keeping w h) (shows_keeping w h) = leaves_front w h tt in
    still before (shows_keeping w h) w (happens_keeping w h) (aside_within (shows_keeping w h) is.lines) (aside_unready (shows_keeping w h) is.lines) (ports_grow w h safe (aside_within (shows_keeping w h) is.lines))
    (λ t. ap is_initialised (sym is.front.stage) ∙ t) was

some_port : (ports : List PortState) → 1 ≤ length ports → ports ≢ []
some_port ports some none = let empty = ap (λ (ps : List PortState). length ps) none in omega arith

pub report_port : (config : Options) (detail : Detail) (history : List Happening) → list_any says_ready (this_epoch (report_of config detail history)) ≡ true → (let w : World = after history (start_of config) in w.under.channels.ports) ≢ []
report_port config detail history ready =
    let has : HasPort (report_of config detail history) (after history (start_of config)) =
    plain_up HasPort config detail history
    (report_always HasPort (λ before w h safe any was. one_port before w h safe was) config detail (map Plainly history)
    (record { waiting = λ t. absurd (true≢false (sym t)); ready = λ t. absurd (true≢false (sym t)) })) in
    some_port (let w : World = after history (start_of config) in w.under.channels.ports) (has.ready ready)
