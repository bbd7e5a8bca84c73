-- Each epoch makes one port at most: the ports that were made, with the one that the front is still to make, are no more after a happening, but for a suspend, which allows one more.
use Rattle.std.proofs.Common.{◌≡◌, ℕ, ◌+◌, ◌≤◌, List, [], ◌∷◌, refl, sym, subst, ap, arith}
use Rattle.std.specs.Prelude.{Option, Some, None, sum_by}
use Rattle.std.proofs.lemmas.List.Sums.{sum_by-cons}
use Rattle.blk_base.specs.declared.ask.FrontAsk.{FrontAsk}
use Rattle.blk_base.specs.declared.ask.FrontAsk.TheVariants as ask
use Rattle.blk_base.specs.declared.ask.FrontAnswer.{FrontAnswer}
use Rattle.event_channel.specs.Channels.{ChannelState, with_port, fresh_channels}
use Rattle.hypervisor.specs.Hypervisor.{Hypervisor}
use Rattle.hypervisor.specs.Act.{FrontAct, BackAct, Outcome, Took, front_act}
use Rattle.blk_base.specs.declared.moves.BackMover.TheVariants as back_mover
use Rattle.blk_front.specs.declared.stage.FrontStage.{FrontStage}
use Rattle.blk_front.specs.declared.stage.FrontStage.TheVariants as stage
use Rattle.blk_front.specs.declared.state.FrontState.{FrontState}
use Rattle.blk_front.specs.declared.stage.Ending.{Ending}
use Rattle.blk_front.specs.Ask.{ask_at, read_ask}
use Rattle.blk_front.specs.Step.{step_of}
use Rattle.blk_front.specs.View.{View}
use Rattle.blk_front.specs.State.{enters}
use Rattle.blk_back.specs.Ask as back_ends
use Rattle.blk_back.specs.Step.{job_ask_of}
use Rattle.split_model.specs.World.{World, suspended}
use Rattle.split_model.specs.Happening.{Happening, FrontMoves, BackMoves, JobMoves, FrontEnters, BackAttaches, BackHalts, Submits, Suspends, happens, after, front_after, back_after, job_after, front_turn, back_turn, job_turn}
use Rattle.split_model.specs.Safe.{IsPorted, due_at, ports_due}
use Rattle.split_model.proofs.Outside.{LeavesEnds, leaves_ends, sent_keeps}
use Rattle.split_model.proofs.Safe.{ports_back}
use Rattle.split_model.proofs.Acting.{FrontPort, front_acts}
use Rattle.split_model.proofs.SafeAnswers.{IsFronts, fronts_at}
use Rattle.split_model.proofs.Suspending.{suspend_cases}
use Rattle.split_model.proofs.SafeFront.{IsUnported, step_fits, entered_kept, submit_kept}

-- an epoch in which a port was made
abbrev one_port : ChannelState
one_port = with_port fresh_channels

some_port : one_port.ports ≡ [] → ⊥
some_port none = absurd (cc)

-- in such an epoch none is to be made, if the stage fits it
none_due : (s : FrontStage) → IsPorted s one_port → due_at s ≡ 0
none_due (stage.LeftData n) none = absurd (some_port none.1)
none_due (stage.RingWord k) none = absurd (some_port none.1)
none_due (stage.RingFrame page) none = absurd (some_port none.1)
none_due (stage.RingFence page) none = absurd (some_port none.1)
none_due (stage.RingFlags page) none = absurd (some_port none.1)
none_due stage.NewPort none = absurd (some_port none.1)
none_due s none = refl

one_due : (s : FrontStage) → due_at s ≤ 1
one_due (stage.LeftData n) = omega arith
one_due s = omega arith

-- so many ports are made at an ask
abbrev asks_port : FrontAsk → ℕ
asks_port ask.NewPort = 1
asks_port a = 0

no_port_asked : (a : FrontAsk) → IsFronts one_port a → asks_port a ≡ 0
no_port_asked ask.NewPort own = absurd (some_port own.1)
no_port_asked a own = refl

reads_ask_none : (e : Option Ending) (n : ℕ) → asks_port (read_ask e n) ≡ 0
reads_ask_none None n = refl
reads_ask_none (Some e) n = refl

ports_front : (h : Hypervisor) (a : FrontAsk) (x : FrontAct) → front_act h a ≡ Some x → x.under.channels.made ≡ h.channels.made + asks_port a
ports_front h a x e = elim (front_acts h a x e) as (λ asked y acts. y.under.channels.made ≡ h.channels.made + asks_port asked) [ FrontPort ↦ omega arith | acts ↦ omega arith ]

-- a step makes the port that is to be made, and no other
step_due : (s : FrontStage) (v : View) (x : FrontAnswer) → v.stage ≡ s → asks_port (ask_at s v) + due_at (let f : View = step_of v x in f.stage) ≤ due_at s
step_due s v x here = by_stage s here (one_due _)
  where
    next : FrontStage
    next = let f : View = step_of v x in f.stage

    settled : (u : FrontStage) → v.stage ≡ u → IsUnported u one_port → due_at next ≡ 0
    settled u at none = none_due next (step_fits v x one_port (subst (λ (t : FrontStage). IsUnported t one_port) (sym at) none)).0

    left : (u : FrontStage) → v.stage ≡ u → IsPorted u one_port → IsUnported u one_port → due_at u ≡ 0 → asks_port (ask_at u v) + due_at next ≤ due_at u
    left u at ported unported zero = let asked = no_port_asked (ask_at u v) (fronts_at one_port u v ported) in let later = settled u at unported in omega arith

    by_stage : (u : FrontStage) → v.stage ≡ u → due_at next ≤ 1 → asks_port (ask_at u v) + due_at next ≤ due_at u
    by_stage (stage.LeftData n) at few = let asked = reads_ask_none v.ending n in omega arith
    by_stage (stage.RingWord k) at few = omega arith
    by_stage (stage.RingFrame page) at few = omega arith
    by_stage (stage.RingFence page) at few = omega arith
    by_stage (stage.RingFlags page) at few = omega arith
    by_stage stage.NewPort at few = let later = settled stage.NewPort at tt in omega arith
    by_stage u at few = left u at tt tt refl

-- a state that is entered leaves none to be made where none was
entered_due : (s : FrontState) (v : View) → due_at (let f : View = enters s v in f.stage) ≤ due_at v.stage
entered_due s v = by_stage v.stage refl (one_due _)
  where
    next : FrontStage
    next = let f : View = enters s v in f.stage

    settled : (u : FrontStage) → v.stage ≡ u → IsPorted u one_port → due_at next ≡ 0
    settled u at none = none_due next ((entered_kept s v).ported one_port (subst (λ (t : FrontStage). IsPorted t one_port) (sym at) none))

    by_stage : (u : FrontStage) → v.stage ≡ u → due_at next ≤ 1 → due_at next ≤ due_at u
    by_stage (stage.LeftData n) at few = few
    by_stage (stage.RingWord k) at few = few
    by_stage (stage.RingFrame page) at few = few
    by_stage (stage.RingFence page) at few = few
    by_stage (stage.RingFlags page) at few = few
    by_stage stage.NewPort at few = few
    by_stage u at few = let none = settled u at tt in omega arith

-- a suspend allows one port more
abbrev pub allows : Happening → ℕ
allows Suspends = 1
allows h = 0

-- the ports that were made, and the one that is still to be made
abbrev pub ports_of : World → ℕ
ports_of w = w.under.channels.made + ports_due w

front_left : (w : World) (act : Option FrontAct) → front_turn w ≡ act → ports_of (front_after w act) ≤ ports_of w
front_left w None e = omega arith
front_left w (Some a) e =
    let made = ports_front w.under (ask_at w.front.stage w.front) a e in
    let due = step_due w.front.stage w.front a.answer refl in
    omega arith

back_left : (w : World) (act : Option BackAct) → back_turn w Took ≡ act → ports_of (back_after w act) ≤ ports_of w
back_left w None e = omega arith
back_left w (Some a) e = let made = (ports_back w.under back_mover.Back (back_ends.ask_of w.back) Took a e).0 in omega arith

job_left : (w : World) (number : ℕ) (o : Outcome) (act : Option BackAct) → job_turn w number o ≡ act → ports_of (job_after w number act) ≤ ports_of w
job_left w number o None e = omega arith
job_left w number o (Some a) e = let made = (ports_back w.under (back_mover.Job number) (job_ask_of w.back number) o a e).0 in omega arith

ports_as : (w v : World) → LeavesEnds w v → ports_of v ≡ ports_of w
ports_as w v left = let kept = sent_keeps w.under.channels v.under.channels left.channels in cc (left.front, kept.made)

pub ports_left : (w : World) (h : Happening) → ports_of (happens w h) ≤ ports_of w + allows h
ports_left w FrontMoves = let one = front_left w (front_turn w) refl in omega arith
ports_left w BackMoves = let one = back_left w (back_turn w Took) refl in omega arith
ports_left w (JobMoves number outcome) = let one = job_left w number outcome (job_turn w number outcome) refl in omega arith
ports_left w (FrontEnters state) = let due = entered_due state w.front in omega arith
ports_left w (Submits job) = let same = ap due_at (submit_kept w.front job).stage in omega arith
ports_left w Suspends = suspend_cases (λ v shown. ports_of v ≤ ports_of w + 1) w (λ may. let due = one_due (let v : World = suspended w in v.front.stage) in omega arith) (omega arith)
ports_left w (BackAttaches shape grefs port) = omega arith
ports_left w (BackHalts why) = omega arith
ports_left w h = let same = ports_as w (happens w h) (leaves_ends w h tt) in omega arith

-- over all this there is one more for each suspend
pub ports_left_after : (hs : List Happening) (w : World) → ports_of (after hs w) ≤ ports_of w + sum_by allows hs
ports_left_after [] w = omega arith
ports_left_after (h ∷ hs) w =
    let one = ports_left w h in
    let rest = ports_left_after hs (happens w h) in
    let all = sum_by-cons allows h hs in
    omega (arith, one, rest, all)
