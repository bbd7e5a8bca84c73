-- Whatever happens, the consumer of responses is as far ahead of the first index as answers were told in this epoch, where it says `ready`.
use Rattle.std.proofs.Common.{◌≡◌, ◌⊎◌, inl, inr, ℕ, ◌<◌, ◌^◌, ◌&&◌, ◌||◌, Bool, true, false, true≢false, cond, List, [], ◌∷◌, ◌++◌, length, refl, sym, ap, ◌∙◌, subst, arith}
use Rattle.std.specs.Prelude.{Option, Some, None, nat_le, count_by, map}
use Rattle.std.specs.List.{AllByRecursion, list_any}
use Rattle.std.proofs.lemmas.List.{append-nil}
use Rattle.std.proofs.lemmas.List.Folds.{list_any-append}
use Rattle.std.proofs.lemmas.List.Sums.{sum_by-cons, sum_by-append}
use Rattle.blk_base.specs.Options.{Options}
use Rattle.blk_base.specs.declared.moves.Move.{Move}
use Rattle.ring_words.specs.Shape.{entries_of}
use Rattle.schedule_text.specs.declared.line.Detail.{Detail}
use Rattle.schedule_text.specs.declared.line.Line.{Line}
use Rattle.schedule_text.specs.declared.line.Line.TheVariants as lines
use Rattle.hypervisor.specs.Act.{FrontAct}
use Rattle.blk_front.specs.declared.told.Told.{Told}
use Rattle.blk_front.specs.declared.told.Told.TheVariants as told
use Rattle.blk_front.specs.declared.stage.FrontStage.{FrontStage}
use Rattle.blk_front.specs.declared.stage.FrontStage.TheVariants as stage
use Rattle.blk_front.specs.declared.state.FrontState.{FrontState}
use Rattle.blk_front.specs.declared.state.FrontState.TheVariants as state
use Rattle.blk_front.specs.View.{View}
use Rattle.blk_front.specs.Step.{step_of}
use Rattle.blk_front.specs.Ask.{is_through}
use Rattle.blk_front.specs.State.{is_open, is_made, is_bare, is_unmade, may_enter, in_state, enters}
use Rattle.blk_front.specs.Submit.{is_initialised}
use Rattle.blk_front.specs.Suspend.{stage_after, suspended}
use Rattle.report_rules.specs.Standing.{is_epoch, this_epoch}
use Rattle.split_model.specs.World.{World, start_of}
use Rattle.split_model.specs.Shown.{front_lines, state_lines}
use Rattle.split_model.specs.Happening.{Happening, FrontMoves, FrontEnters, Suspends, enter_lines, after, front_after, front_shows, front_turn}
use Rattle.split_model.specs.Kept.{KeepingHappening, Plainly, happens_keeping, shows_keeping, IsSafeKeeping}
use Rattle.split_model.specs.Report.{report_of}
use Rattle.split_model.proofs.SafeFront.{start_front}
use Rattle.split_model.proofs.States.{enters_cases, state_lines_are}
use Rattle.split_model.proofs.Suspending.{suspend_cases, front_cases}
use Rattle.machine_pipeline.specs.Plain.{IsPlain}
use Rattle.machine_pipeline.proofs.Flow.{wrapped}
use Rattle.report_laws.specs.Ready.{says_ready}
use Rattle.report_laws.specs.QuietRing.{says_answer, answers_told}
use Rattle.report_laws.proofs.KeptReports.{report_always, plain_up}
use Rattle.report_laws.proofs.Aside.{AreAside, IsUnmoved, LeavesFront, leaves_front, aside_unready, aside_unanswered, aside_within, shows_unready}
use Rattle.report_laws.proofs.Counts.{CountsAt, with_told, front_counts}
use Rattle.report_laws.proofs.Epochs.{AreWithin, epoch_on, epoch_begins, shows_within}
use Rattle.report_laws.proofs.Phases.{Steps, front_steps, same_open, enters_open}

-- how many answers these lines tell
abbrev told_in : List Line → ℕ
told_in ls = count_by says_answer ls

abbrev AreUnanswered : List Line → Type 0
AreUnanswered ls = AllByRecursion (λ (line : Line). says_answer line ≡ false) ls

none_answered : (ls : List Line) → AreUnanswered ls → told_in ls ≡ 0
none_answered [] all = refl
none_answered (line ∷ ls) all =
    let one = sum_by-cons (λ (x : Line). cond (says_answer x) 1 0) line ls in
    let here : ◌≡◌ {A = ℕ} (cond (says_answer line) 1 0) 0 = ap (λ (b : Bool). cond b 1 0) all.0 in
    let rest = none_answered ls all.1 in
    omega arith

answers_more : (before ls : List Line) → AreUnanswered ls → told_in (before ++ ls) ≡ told_in before
answers_more before ls all =
    let both = sum_by-append (λ (x : Line). cond (says_answer x) 1 0) before ls in
    let none = none_answered ls all in
    omega arith

-- the front's lines
told_counted : (before : List Line) (shown : Move) (t : Option Told) → told_in (before ++ lines.Move shown ∷ front_lines t) ≡ with_told (told_in before) t
told_counted before shown None = answers_more before (lines.Move shown ∷ []) (refl, tt)
told_counted before shown (Some (told.Sector id index words)) = answers_more before (lines.Move shown ∷ lines.Data id index words ∷ []) (refl, (refl, tt))
told_counted before shown (Some (told.Broken word)) = answers_more before (lines.Move shown ∷ lines.Broken word ∷ []) (refl, (refl, tt))
told_counted before shown (Some (told.Answer id status)) = sum_by-append (λ (x : Line). cond (says_answer x) 1 0) before (lines.Move shown ∷ lines.Answer id status ∷ [])

-- what the lines of an epoch tell of the front
abbrev CountsIn : ℕ → List Line → View → Type 0
CountsIn start ls v = CountsAt start (told_in ls) v.start v.ring.indices.cons v.stage

front_counts_on : (start : ℕ) (w : World) (ls : List Line) (a : FrontAct) → IsSafeKeeping w → CountsIn start ls w.front → CountsIn start (ls ++ front_shows w (Some a)) (let x : World = front_after w (Some a) in x.front)
front_counts_on start w ls a safe h =
    let v : View = step_of w.front a.answer in
    subst (λ (n : ℕ). CountsAt start n v.start v.ring.indices.cons v.stage) (sym (told_counted ls a.shown v.told))
    (front_counts start (told_in ls) w.front.stage w.front a.answer safe.front_told refl h)

-- what leaves the front where it was, and tells no answer
same_counts : (start : ℕ) (v v' : View) (before ls : List Line) → AreUnanswered ls → IsUnmoved v v' → CountsIn start before v → CountsIn start (before ++ ls) v'
same_counts start v v' before ls none same h =
    subst (λ (n : ℕ). CountsAt start n v'.start v'.ring.indices.cons v'.stage) (sym (answers_more before ls none))
    (subst (λ (b : ℕ). CountsAt start (told_in before) b v'.ring.indices.cons v'.stage) (sym same.start)
    (subst (λ (c : ℕ). CountsAt start (told_in before) v.start c v'.stage) (sym same.cons) (subst (CountsAt start (told_in before) v.start v.ring.indices.cons) (sym same.stage) h)))

-- a front that is led into a state took no response either: it ends no grant of a request's, and isn't broken
whole_counts : (start n begins cons : ℕ) (s : FrontStage) → (is_made s || is_bare s) ≡ true → CountsAt start n begins cons s → cons ≡ wrapped start n
whole_counts start n begins cons (stage.RingWord k) at_rest h = h.0
whole_counts start n begins cons (stage.LeftData k) at_rest h = h.0
whole_counts start n begins cons (stage.GrantRead place) at_rest h = absurd (cc)
whole_counts start n begins cons (stage.GrantEnd place seen) at_rest h = absurd (cc)
whole_counts start n begins cons (stage.Broken word) at_rest h = absurd (cc)
whole_counts start n begins cons s at_rest h = h

-- the states that change the stage, but for a broken one, are entered from such a stage, and an order is agreed before the ring is begun
abbrev LedFrom : FrontState → FrontStage → Type 0
LedFrom (state.Agreed order) s = is_unmade s ≡ true
LedFrom state.Closing s = Unit {0}
LedFrom (state.Broken word) s = Unit {0}
LedFrom state s = (is_made s || is_bare s) ≡ true

led_from : (s : FrontState) (v : View) → may_enter s v ≡ true → LedFrom s v.stage
led_from (state.Agreed order) v may = unmade (is_unmade v.stage) (nat_le order v.shape.order) (nat_le (length v.requests) (entries_of order)) may
  where
    unmade : (a b c : Bool) → (a && b && c) ≡ true → a ≡ true
    unmade true b c e = refl
    unmade false b c e = e
led_from (state.Connected offers) v may = waiting v.stage may
  where
    waiting : (s : FrontStage) → is_initialised s ≡ true → (is_made s || is_bare s) ≡ true
    waiting stage.Initialised may = refl
    waiting s may = absurd (cc)
led_from state.Closing v may = tt
led_from state.Leaving v may = made (is_through v) (is_made v.stage) (is_bare v.stage) may
  where
    made : (a b c : Bool) → (a && b) ≡ true → (b || c) ≡ true
    made true true c e = refl
    made true false c e = absurd (cc)
    made false b c e = absurd (cc)
led_from state.Closed v may = bare (is_through v) (is_made v.stage) (is_bare v.stage) may
  where
    bare : (a b c : Bool) → (a && c) ≡ true → (b || c) ≡ true
    bare true true c e = refl
    bare true false c e = e
    bare false b c e = absurd (cc)
led_from (state.Broken word) v may = tt

-- there the ring begins anew at its first index
begun_anew : (start n begins cons : ℕ) (s : FrontStage) → is_unmade s ≡ true → CountsAt start n begins cons s → CountsAt start n begins begins s
begun_anew start n begins cons (stage.RingWord k) unmade h = (h.1 ∙ h.0, refl)
begun_anew start n begins cons s unmade h = absurd (cc)

entered_count : (start n : ℕ) (s : FrontState) (v : View) → LedFrom s v.stage → CountsAt start n v.start v.ring.indices.cons v.stage → (let x : View = in_state s v in CountsAt start n x.start x.ring.indices.cons x.stage)
entered_count start n (state.Agreed order) v from h = begun_anew start n v.start v.ring.indices.cons v.stage from h
entered_count start n state.Closing v from h = h
entered_count start n (state.Broken word) v from h = tt
entered_count start n other v from h = whole_counts start n v.start v.ring.indices.cons v.stage from h

-- a front that was closed or broken before this epoch: no line of it says `ready`
record WasOver (before : List Line) (s : FrontStage) : Type 0 where
  over : is_open s ≡ false
  unready : list_any says_ready (this_epoch before) ≡ false

-- what all lines tell of the front
record IsCountedFor (start : ℕ) (before : List Line) (v : View) : Type 0 where
  begins : v.start ≡ start
  counts : CountsIn start (this_epoch before) v ⊎ WasOver before v.stage

abbrev CountsTo : ℕ → List Line → World → Type 0
CountsTo start before w = IsCountedFor start before w.front

-- lines of the same epoch
counts_on : (start : ℕ) (before ls : List Line) (v : View) → AreWithin ls → CountsIn start (this_epoch before ++ ls) v → CountsIn start (this_epoch (before ++ ls)) v
counts_on start before ls v all h = subst (λ (xs : List Line). CountsIn start xs v) (sym (epoch_on ls before all)) h

past_on : (before ls : List Line) (s s' : FrontStage) → AreWithin ls → list_any says_ready ls ≡ false → is_open s' ≡ false → WasOver before s → WasOver (before ++ ls) s'
past_on before ls s s' all none over past = record {
  over = over;
  unready =
      ap (list_any says_ready) (epoch_on ls before all)
      ∙ (list_any-append says_ready (this_epoch before) ls ∙ (ap (λ (b : Bool). b || list_any says_ready ls) past.unready ∙ none));
}

-- nothing happened
none_counts : (start : ℕ) (before : List Line) (v : View) → IsCountedFor start before v → IsCountedFor start (before ++ []) v
none_counts start before v was = subst (λ (ls : List Line). IsCountedFor start ls v) (sym (append-nil before)) was

-- a move of the front
front_counts_to : (start : ℕ) (w : World) (before : List Line) (act : Option FrontAct) → IsSafeKeeping w → CountsTo start before w → CountsTo start (before ++ front_shows w act) (front_after w act)
front_counts_to start w before None safe was = none_counts start before w.front was
front_counts_to start w before (Some a) safe was = record { begins = start_front w.front a.answer ∙ was.begins; counts = by_counts was.counts }
  where
    x : View
    x = step_of w.front a.answer

    stays_over : is_open w.front.stage ≡ false → Steps w.front.stage x → is_open x.stage ≡ false
    stays_over over (inl stays) = same_open x.stage w.front.stage stays.same ∙ over
    stays_over over (inr (inl makes)) = absurd (true≢false (sym (ap is_open makes.was) ∙ over))
    stays_over over (inr (inr breaks)) = breaks.over

    by_counts : CountsIn start (this_epoch before) w.front ⊎ WasOver before w.front.stage → CountsIn start (this_epoch (before ++ front_shows w (Some a))) (record x { told = None }) ⊎ WasOver (before ++ front_shows w (Some a)) x.stage
    by_counts (inl h) = inl (counts_on start before (front_shows w (Some a)) (record x { told = None }) (shows_within w (Some a)) (front_counts_on start w (this_epoch before) a safe h))
    by_counts (inr past) =
        inr (past_on before (front_shows w (Some a)) w.front.stage x.stage (shows_within w (Some a)) (shows_unready w (Some a)) (stays_over past.over (front_steps w.front.stage w.front a.answer safe.front_told refl)) past)

-- a state that it enters, which it does only where it is open
state_unanswered : (s : FrontState) → AreUnanswered (state_lines s)
state_unanswered s = state_lines_are (λ (line : Line). says_answer line ≡ false) s refl refl refl (λ word. refl)

state_within : (s : FrontState) → AreWithin (state_lines s)
state_within s = state_lines_are (λ (line : Line). is_epoch line ≡ false) s refl refl refl (λ word. refl)

entered_start : (s : FrontState) (v : View) → (let x : View = in_state s v in x.start) ≡ v.start
entered_start (state.Agreed order) v = refl
entered_start other v = refl

enters_counts : (start : ℕ) (s : FrontState) (v : View) (before : List Line) → IsCountedFor start before v → IsCountedFor start (before ++ enter_lines s v) (enters s v)
enters_counts start s v before was =
    enters_cases (λ x shown. IsCountedFor start (before ++ shown) x) s v
    (λ may. record { begins = entered_start s v ∙ was.begins; counts = by_counts may was.counts }) (none_counts start before v was)
  where
    x : View
    x = in_state s v

    by_counts : may_enter s v ≡ true → CountsIn start (this_epoch before) v ⊎ WasOver before v.stage → CountsIn start (this_epoch (before ++ state_lines s)) x ⊎ WasOver (before ++ state_lines s) x.stage
    by_counts may (inl h) =
        inl (counts_on start before (state_lines s) x (state_within s)
        (subst (λ (n : ℕ). CountsAt start n x.start x.ring.indices.cons x.stage) (sym (answers_more (this_epoch before) (state_lines s) (state_unanswered s))) (entered_count start (told_in (this_epoch before)) s v (led_from s v may) h)))
    by_counts may (inr past) = absurd (true≢false (sym (enters_open s v may) ∙ past.over))

-- a suspend: an open front begins its ring anew, and has told nothing in this epoch
anew_counts : (start begins : ℕ) (s : FrontStage) → start < 2 ^ 32 → begins ≡ start → CountsAt start 0 begins begins (stage_after s)
anew_counts start begins (stage.ReadData n) fits same = (omega arith, refl)
anew_counts start begins s fits same = (omega arith, refl)

suspended_counts : (start : ℕ) (v : View) (before : List Line) → start < 2 ^ 32 → v.start ≡ start → IsCountedFor start (before ++ lines.Epoch ∷ []) (suspended v)
suspended_counts start v before fits same =
    front_cases (IsCountedFor start (before ++ lines.Epoch ∷ [])) v
    (λ on. record { begins = same; counts = inl (subst (λ (ls : List Line). CountsAt start (told_in ls) v.start v.start (stage_after v.stage)) (sym (epoch_begins before)) (anew_counts start v.start v.stage fits same)) })
    (λ over. record { begins = same; counts = inr (record { over = over; unready = ap (list_any says_ready) (epoch_begins before) }) })

-- and whatever else happens
aside_counts : (start : ℕ) (v v' : View) (before ls : List Line) → IsUnmoved v v' → AreAside ls → IsCountedFor start before v → IsCountedFor start (before ++ ls) v'
aside_counts start v v' before ls same all was = record { begins = same.start ∙ was.begins; counts = by_counts was.counts }
  where
    by_counts : CountsIn start (this_epoch before) v ⊎ WasOver before v.stage → CountsIn start (this_epoch (before ++ ls)) v' ⊎ WasOver (before ++ ls) v'.stage
    by_counts (inl h) = inl (counts_on start before ls v' (aside_within ls all) (same_counts start v v' (this_epoch before) ls (aside_unanswered ls all) same h))
    by_counts (inr past) = inr (past_on before ls v.stage v'.stage (aside_within ls all) (aside_unready ls all) (ap is_open same.stage ∙ past.over) past)

one_counts : (start : ℕ) (before : List Line) (w : World) (h : KeepingHappening) → start < 2 ^ 32 → IsSafeKeeping w → CountsTo start before w → CountsTo start (before ++ shows_keeping w h) (happens_keeping w h)
one_counts start before w (Plainly FrontMoves) fits safe was = front_counts_to start w before (front_turn w) safe was
one_counts start before w (Plainly (FrontEnters s)) fits safe was = enters_counts start s w.front before was
one_counts start before w (Plainly Suspends) fits safe was =
    suspend_cases (λ v shown. CountsTo start (before ++ shown) v) w (λ may. suspended_counts start w.front before fits was.begins) (none_counts start before w.front was)
one_counts start before w h fits safe was =
    let is : LeavesFront w (happens_keeping w h) (shows_keeping w h) = leaves_front w h tt in
    aside_counts start w.front (let x : World = happens_keeping w h in x.front) before (shows_keeping w h) is.front is.lines was

-- so where this epoch says `ready` the front took as many responses as it told answers, but for one whose grants are being ended
pub report_counts : (config : Options) (detail : Detail) (history : List Happening) → IsPlain config → list_any says_ready (this_epoch (report_of config detail history)) ≡ true
    → (let w : World = after history (start_of config) in CountsAt config.start (answers_told (report_of config detail history)) w.front.start w.front.ring.indices.cons w.front.stage)
report_counts config detail history plain ready = by_counts is.counts
  where
    w : World
    w = after history (start_of config)

    is : CountsTo config.start (report_of config detail history) w
    is =
        let first = plain.start in
        plain_up (CountsTo config.start) config detail history
        (report_always (CountsTo config.start) (λ before v h safe any was. one_counts config.start before v h first safe was) config detail (map Plainly history)
        (record { begins = refl; counts = inl (omega arith, refl) }))

    by_counts : CountsIn config.start (this_epoch (report_of config detail history)) w.front ⊎ WasOver (report_of config detail history) w.front.stage → CountsIn config.start (this_epoch (report_of config detail history)) w.front
    by_counts (inl h) = h
    by_counts (inr past) = absurd (true≢false (sym ready ∙ past.unready))
