-- What is true of the machine at every moment stays true, and then each ask may be carried out.
use Rattle.std.proofs.Common.{◌≡◌, ℕ, true, ◌+◌, ◌<◌, ◌≤◌, ◌^◌, List, [], ◌∷◌, length, refl, sym, ap, subst, ◌∙◌, arith}
use Rattle.std.specs.Prelude.{Option, Some, None}
use Rattle.std.proofs.lemmas.Option.{none-some}
use Rattle.std.proofs.lemmas.List.Elements.{All-nil, All-contains}
use Rattle.blk_base.specs.Options.{Options}
use Rattle.blk_base.specs.declared.config.Submission.{Submission}
use Rattle.blk_base.specs.declared.parts.Mapping.{Mapping}
use Rattle.blk_base.specs.declared.ask.FrontAsk.{FrontAsk}
use Rattle.blk_base.specs.declared.ask.FrontAsk.TheVariants as front_ask
use Rattle.blk_base.specs.declared.ask.BackAsk.{BackAsk}
use Rattle.blk_base.specs.declared.ask.BackAsk.TheVariants as back_ask
use Rattle.blk_base.specs.declared.moves.BackMover.{BackMover}
use Rattle.blk_base.specs.declared.moves.BackMover.TheVariants as back_mover
use Rattle.grant_table.specs.declared.held.Held.{Held}
use Rattle.grant_table.specs.Table.{GrantTable, IsLive}
use Rattle.event_channel.specs.Channels.{ChannelState, reset}
use Rattle.hypervisor.specs.Hypervisor.{Hypervisor}
use Rattle.hypervisor.specs.Act.{FrontAct, BackAct, Outcome, Took, front_act, back_act}
use Rattle.hypervisor.specs.May.{FrontMay, BackMay, HasMappingLeft}
use Rattle.blk_front.specs.declared.stage.FrontStage.{FrontStage}
use Rattle.blk_front.specs.declared.stage.FrontStage.TheVariants as front_stage
use Rattle.blk_front.specs.declared.state.FrontState.{FrontState}
use Rattle.blk_front.specs.View as front
use Rattle.blk_front.specs.Ask as front_ends
use Rattle.blk_front.specs.Suspend.{suspended as front_suspended}
use Rattle.back_jobs.specs.Hands.{Names}
use Rattle.back_jobs.specs.Sound.{StaysInPageAndDisk}
use Rattle.blk_back.specs.declared.stage.BackStage.{BackStage}
use Rattle.blk_base.specs.declared.halt.Halt.{Halt}
use Rattle.blk_back.specs.View as back
use Rattle.blk_back.specs.Ask as back_ends
use Rattle.ring_words.specs.Shape.{Shape}
use Rattle.blk_back.specs.Step.{attached, halts, step_of, job_step, job_ask_of}
use Rattle.blk_back.specs.Hands.{hands_at, hands_of, most_held, most_with_kept}
use Rattle.blk_back.proofs.Hands.{hands_after, halted_hands, job_hands_after}
use Rattle.split_model.specs.World.{World, start_of, may_suspend, suspended}
use Rattle.split_model.proofs.Outside.{LeavesEnds, leaves_ends, KeepsPorts, sent_keeps}
use Rattle.split_model.specs.Happening.{Happening, FrontMoves, BackMoves, JobMoves, FrontEnters, BackAttaches, BackHalts, Submits, Suspends, happens, after, front_after, back_after, job_after, front_turn, back_turn, job_turn}
use Rattle.split_model.specs.Safe.{AreHeld, HasNoPort, IsPorted, IsSafe}
use Rattle.split_model.proofs.Acting.{BackBind, BackClose, back_acts}
use Rattle.split_model.proofs.SafeActs.{held_after, made_front}
use Rattle.split_model.proofs.SafeAnswers.{IsFronts, IsBacks, IsJobs, fronts_at, backs_of, jobs_of, back_answered, job_answered}
use Rattle.split_model.proofs.States.{halts_cases}
use Rattle.split_model.proofs.Shapes.{attaches_waiting}
use Rattle.split_model.proofs.Attaching.{attach_cases}
use Rattle.split_model.proofs.SafeFront.{channels_front, step_fits, entered_kept, submit_kept}
use Rattle.split_model.proofs.Suspending.{suspend_cases, ports_left_then, front_kept, suspended_hands, suspended_told}

-- where nothing is mapped, whatever was, nothing is held
pub none_live : (made : ℕ) → AreHeld (record { made = made; live = [] }) []
none_live made = record {
  live = All-nil (IsLive (record { made = made; live = [] }));
  counted = λ number. refl;
  as_many = refl;
  ascending = tt;
  made_before = All-nil (λ (h : Held). h.mapping.number ≤ made);
}

pub safe_start : (o : Options) → IsSafe (start_of o)
safe_start o = record { ported = (omega arith, refl); held = none_live 0; front_told = refl; back_told = refl }

-- where no port is there that fits any stage before the port, and so does what is like it
pub ported_as : (s : FrontStage) (c c' : ChannelState) → (HasNoPort c → HasNoPort c') → IsPorted s c → IsPorted s c'
ported_as (front_stage.LeftData n) c c' into p = into p
ported_as (front_stage.RingWord k) c c' into p = into p
ported_as (front_stage.RingFrame page) c c' into p = into p
ported_as (front_stage.RingFence page) c c' into p = into p
ported_as (front_stage.RingFlags page) c c' into p = into p
ported_as front_stage.NewPort c c' into p = into p
ported_as s c c' into p = tt

pub ported_none : (s : FrontStage) (c : ChannelState) → HasNoPort c → IsPorted s c
ported_none (front_stage.LeftData n) c none = none
ported_none (front_stage.RingWord k) c none = none
ported_none (front_stage.RingFrame page) c none = none
ported_none (front_stage.RingFence page) c none = none
ported_none (front_stage.RingFlags page) c none = none
ported_none front_stage.NewPort c none = none
ported_none s c none = tt

-- the back makes no port
abbrev pub MakesNoPort : Hypervisor → BackAct → Type 0
MakesNoPort h a = (a.under.channels.made ≡ h.channels.made) × (h.channels.ports ≡ [] → a.under.channels.ports ≡ [])

pub ports_back : (h : Hypervisor) (who : BackMover) (ask : BackAsk) (o : Outcome) (a : BackAct) → back_act h who ask o ≡ Some a → MakesNoPort h a
ports_back h who ask o a e = elim (back_acts h who ask o a e) as (λ mover asked outcome x acts. MakesNoPort h x) [
  | BackBind p unbound ↦ (refl, λ none. rw none refl)
  | BackClose ↦ (refl, λ none. rw none refl)
  | acts ↦ (refl, λ none. none)
]

-- so where none is there none is
pub no_port : (h : Hypervisor) (a : BackAct) → MakesNoPort h a → HasNoPort h.channels → HasNoPort a.under.channels
no_port h a makes none = (let few = none.0 in let same = makes.0 in omega arith, makes.1 none.1)

-- a move of the front
pub safe_front : (w : World) (a : FrontAct) → IsSafe w → front_act w.under (front_ends.ask_of w.front) ≡ Some a → IsSafe (front_after w (Some a))
safe_front w a safe e =
    let fits = step_fits w.front a.answer a.under.channels (channels_front w.front.stage w.front w.under a e safe.ported) in
    record {
      ported = fits.0;
      held = rw (made_front w.under (front_ends.ask_of w.front) a e) safe.held;
      front_told = refl;
      back_told = safe.back_told;
    }

-- a move of the back
pub safe_back : (w : World) (o : Outcome) (a : BackAct) → IsSafe w → back_turn w o ≡ Some a → IsSafe (back_after w (Some a))
safe_back w o a safe e =
    let answered = back_answered w.under w.back o a e in
    record {
      ported = ported_as w.front.stage w.under.channels a.under.channels (no_port w.under a (ports_back w.under back_mover.Back (back_ends.ask_of w.back) o a e)) safe.ported;
      held = held_after w.under back_mover.Back (back_ends.ask_of w.back) o a (hands_of w.back) (hands_of (step_of w.back a.answer)) safe.held e (hands_after w.back a.answer answered);
      front_told = safe.front_told;
      back_told = refl;
    }

-- a move of a job
pub safe_job : (w : World) (k : ℕ) (o : Outcome) (a : BackAct) → IsSafe w → job_turn w k o ≡ Some a → IsSafe (job_after w k (Some a))
safe_job w k o a safe e =
    let answered = job_answered w.under w.back k o a e in
    record {
      ported = ported_as w.front.stage w.under.channels a.under.channels (no_port w.under a (ports_back w.under (back_mover.Job k) (job_ask_of w.back k) o a e)) safe.ported;
      held = held_after w.under (back_mover.Job k) (job_ask_of w.back k) o a (hands_of w.back) (hands_of (job_step w.back k a.answer)) safe.held e (job_hands_after w.back k a.answer answered);
      front_told = safe.front_told;
      back_told = refl;
    }

-- a state that the front enters
safe_enter : (w : World) (s : FrontState) → IsSafe w → IsSafe (happens w (FrontEnters s))
safe_enter w s safe =
    let kept = entered_kept s w.front in
    record {
      ported = kept.ported w.under.channels safe.ported;
      held = safe.held;
      front_told = kept.told ∙ safe.front_told;
      back_told = safe.back_told;
    }

-- a halt of the back, and terms that it takes
safe_back_as : (w : World) (b : back.View) → IsSafe w → hands_of b ≡ hands_of w.back → b.jobs.info ≡ w.back.jobs.info → b.told ≡ w.back.told → IsSafe (record { front = w.front; back = b; under = w.under })
safe_back_as w b safe hands info told = record {
  ported = safe.ported;
  held = rw hands safe.held;
  front_told = safe.front_told;
  back_told = told ∙ safe.back_told;
}

safe_halt : (w : World) (why : Halt) → IsSafe w → IsSafe (happens w (BackHalts why))
safe_halt w why safe = safe_back_as w (halts why w.back) safe (halted_hands why w.back) info told
  where
    info : (halts why w.back).jobs.info ≡ w.back.jobs.info
    info = halts_cases (λ b. b.jobs.info ≡ w.back.jobs.info) why w.back (λ here. refl) (λ here. refl) refl

    told : (halts why w.back).told ≡ w.back.told
    told = halts_cases (λ b. b.told ≡ w.back.told) why w.back (λ here. refl) (λ here. refl) refl

safe_attach : (w : World) (shape : Shape) (grefs : List ℕ) (port : ℕ) → IsSafe w → IsSafe (happens w (BackAttaches shape grefs port))
safe_attach w shape grefs port safe =
    attach_cases (λ b shown. IsSafe (record { front = w.front; back = b; under = w.under })) w shape grefs port
    (λ may layout says. safe_back_as w (attached shape grefs port w.back) safe (ap (λ (s : BackStage). hands_at s w.back) (sym (attaches_waiting shape grefs w.back may))) refl refl)
    (safe_back_as w w.back safe refl refl refl)

-- a submission
pub safe_submit : (w : World) (job : Submission) → IsSafe w → IsSafe (happens w (Submits job))
safe_submit w job safe =
    let kept = submit_kept w.front job in
    record {
      ported = rw kept.stage safe.ported;
      held = safe.held;
      front_told = kept.told ∙ safe.front_told;
      back_told = safe.back_told;
    }

-- what happens outside the ends leaves all that is safe
safe_outside : (w : World) (v : World) → LeavesEnds w v → IsSafe w → IsSafe v
safe_outside w v left safe =
    let kept : KeepsPorts w.under.channels v.under.channels = sent_keeps w.under.channels v.under.channels left.channels in
    record {
      ported = ported_as v.front.stage w.under.channels v.under.channels (λ none. (subst (λ (n : ℕ). n < 4294967295) (sym kept.made) none.0, kept.ports ∙ none.1)) (subst (λ (f : front.View). IsPorted f.stage w.under.channels) (sym left.front) safe.ported);
      held = rw (left.grants, left.back) safe.held;
      front_told = ap (λ (f : front.View). f.told) left.front ∙ safe.front_told;
      back_told = ap (λ (b : back.View). b.told) left.back ∙ safe.back_told;
    }

-- after a suspend nothing is mapped, and no port is there, but one may be made
safe_suspended : (w : World) → may_suspend w ≡ true → IsSafe w → IsSafe (suspended w)
safe_suspended w may safe = record {
  ported = ported_none (let f : front.View = front_suspended w.front in f.stage) (reset w.under.channels) (let left = ports_left_then w may in omega arith, refl);
  held = rw (suspended_hands w) (none_live w.under.grants.made);
  front_told = (front_kept w.front).told ∙ safe.front_told;
  back_told = suspended_told w;
}

safe_suspend : (w : World) → IsSafe w → IsSafe (happens w Suspends)
safe_suspend w safe = suspend_cases (λ v shown. IsSafe v) w (λ may. safe_suspended w may safe) safe

-- what the front asks may be carried out
front_may_at : (h : Hypervisor) (ask : FrontAsk) → IsFronts h.channels ask → front_ends.StaysInMemory ask → FrontMay h ask
front_may_at h (front_ask.Read frame word) own within = within
front_may_at h (front_ask.Write frame word value) own within = within
front_may_at h (front_ask.Cas frame word old new) own within = within
front_may_at h front_ask.NewPort own within = (own.0, rw own.1 (omega arith))
front_may_at h ask own within = tt

pub front_may : (w : World) → IsSafe w → front_ends.StaysInMemory (front_ends.ask_of w.front) → FrontMay w.under (front_ends.ask_of w.front)
front_may w safe within = front_may_at w.under (front_ends.ask_of w.front) (fronts_at w.under.channels w.front.stage w.front safe.ported) within

has_left : (table : GrantTable) (hands : List Mapping) → AreHeld table hands → table.made + 1 < 2 ^ 64 → length hands ≤ most_with_kept → HasMappingLeft table
has_left table hands held made few = (made, let many = held.as_many in omega arith)

-- what the back asks may be carried out
pub back_may_at : (h : Hypervisor) (attached : Option ℕ) (hands : List Mapping) (ask : BackAsk) → IsBacks ask → AreHeld h.grants hands → Names hands ask → h.grants.made + 1 < 2 ^ 64 → length hands ≤ most_with_kept → BackMay h attached ask
back_may_at h attached hands (back_ask.Read m word) own held names made few = (All-contains (IsLive h.grants) hands m held.live names.0, names.1)
back_may_at h attached hands (back_ask.Write m word value) own held names made few = (All-contains (IsLive h.grants) hands m held.live names.0, names.1, names.2)
back_may_at h attached hands (back_ask.Map gref mode) own held names made few = has_left h.grants hands held made few
back_may_at h attached hands (back_ask.Unmap m) own held names made few = All-contains (IsLive h.grants) hands m held.live names
back_may_at h attached hands (back_ask.GetKey path) own held names made few = absurd own
back_may_at h attached hands (back_ask.SetKey path text) own held names made few = absurd own
back_may_at h attached hands (back_ask.Watch path) own held names made few = absurd own
back_may_at h attached hands (back_ask.DiskRead sector) own held names made few = absurd own
back_may_at h attached hands (back_ask.DiskWrite sector words) own held names made few = absurd own
back_may_at h attached hands back_ask.Flush own held names made few = absurd own
back_may_at h attached hands (back_ask.Trim sector count) own held names made few = absurd own
back_may_at h attached hands ask own held names made few = tt

pub back_may : (h : Hypervisor) (attached : Option ℕ) (hands : List Mapping) (v : back.View) → AreHeld h.grants hands → Names hands (back_ends.ask_of v) → h.grants.made + 1 < 2 ^ 64 → length hands ≤ most_held → BackMay h attached (back_ends.ask_of v)
back_may h attached hands v held names made few = back_may_at h attached hands (back_ends.ask_of v) (backs_of v) held names made (omega (arith, few))

-- what a job asks may be carried out, with a disk of as many sectors as it knows
pub job_may_at : (h : Hypervisor) (attached : Option ℕ) (sectors : ℕ) (hands : List Mapping) (ask : BackAsk) → IsJobs ask → AreHeld h.grants hands → Names hands ask → StaysInPageAndDisk sectors ask → attached ≡ Some sectors → h.grants.made + 1 < 2 ^ 64 → length hands ≤ most_with_kept → BackMay h attached ask
job_may_at h attached sectors hands back_ask.Wait own held names within disk made few = tt
job_may_at h attached sectors hands back_ask.Fence own held names within disk made few = absurd own
job_may_at h attached sectors hands (back_ask.Read m word) own held names within disk made few = (All-contains (IsLive h.grants) hands m held.live names.0, names.1)
job_may_at h attached sectors hands (back_ask.Write m word value) own held names within disk made few = (All-contains (IsLive h.grants) hands m held.live names.0, names.1, names.2)
job_may_at h attached sectors hands (back_ask.Map gref mode) own held names within disk made few = has_left h.grants hands held made few
job_may_at h attached sectors hands (back_ask.Unmap m) own held names within disk made few = All-contains (IsLive h.grants) hands m held.live names
job_may_at h attached sectors hands (back_ask.Bind p) own held names within disk made few = absurd own
job_may_at h attached sectors hands back_ask.Send own held names within disk made few = absurd own
job_may_at h attached sectors hands back_ask.ClosePort own held names within disk made few = absurd own
job_may_at h attached sectors hands (back_ask.GetKey path) own held names within disk made few = absurd own
job_may_at h attached sectors hands (back_ask.SetKey path text) own held names within disk made few = absurd own
job_may_at h attached sectors hands (back_ask.Watch path) own held names within disk made few = absurd own
job_may_at h attached sectors hands (back_ask.DiskRead sector) own held names within disk made few = rw disk within
job_may_at h attached sectors hands (back_ask.DiskWrite sector words) own held names within disk made few = rw disk within
job_may_at h attached sectors hands back_ask.Flush own held names within disk made few = λ none. none-some sectors (sym none ∙ disk)
job_may_at h attached sectors hands (back_ask.Trim sector count) own held names within disk made few = rw disk within

pub job_may : (h : Hypervisor) (attached : Option ℕ) (sectors : ℕ) (hands : List Mapping) (v : back.View) (k : ℕ) → AreHeld h.grants hands → Names hands (job_ask_of v k) → StaysInPageAndDisk sectors (job_ask_of v k) → attached ≡ Some sectors → h.grants.made + 1 < 2 ^ 64 → length hands ≤ most_held → BackMay h attached (job_ask_of v k)
job_may h attached sectors hands v k held names within disk made few = job_may_at h attached sectors hands (job_ask_of v k) (jobs_of v k) held names within disk made (omega (arith, few))

safe_front_turn : (w : World) (act : Option FrontAct) → IsSafe w → front_turn w ≡ act → IsSafe (front_after w act)
safe_front_turn w None safe e = safe
safe_front_turn w (Some a) safe e = safe_front w a safe e

safe_back_turn : (w : World) (o : Outcome) (act : Option BackAct) → IsSafe w → back_turn w o ≡ act → IsSafe (back_after w act)
safe_back_turn w o None safe e = safe
safe_back_turn w o (Some a) safe e = safe_back w o a safe e

safe_job_turn : (w : World) (k : ℕ) (o : Outcome) (act : Option BackAct) → IsSafe w → job_turn w k o ≡ act → IsSafe (job_after w k act)
safe_job_turn w k o None safe e = safe
safe_job_turn w k o (Some a) safe e = safe_job w k o a safe e

-- whatever happens
pub safe_happens : (w : World) (h : Happening) → IsSafe w → IsSafe (happens w h)
safe_happens w FrontMoves safe = safe_front_turn w (front_turn w) safe refl
safe_happens w BackMoves safe = safe_back_turn w Took (back_turn w Took) safe refl
safe_happens w (JobMoves number outcome) safe = safe_job_turn w number outcome (job_turn w number outcome) safe refl
safe_happens w (FrontEnters state) safe = safe_enter w state safe
safe_happens w (BackAttaches shape grefs port) safe = safe_attach w shape grefs port safe
safe_happens w (BackHalts why) safe = safe_halt w why safe
safe_happens w (Submits job) safe = safe_submit w job safe
safe_happens w Suspends safe = safe_suspend w safe
safe_happens w h safe = safe_outside w (happens w h) (leaves_ends w h tt) safe

-- whatever has happened
pub safe_after : (hs : List Happening) (w : World) → IsSafe w → IsSafe (after hs w)
safe_after [] w safe = safe
safe_after (h ∷ hs) w safe = safe_after hs (happens w h) (safe_happens w h safe)
