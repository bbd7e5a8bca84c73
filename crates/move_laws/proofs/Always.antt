-- Whatever happens from the start, each ask keeps to what its end may touch.
use Rattle.std.proofs.Common.{◌≡◌, ℕ, ◌≤◌, Bool, true, false, List, [], ◌∷◌, refl, subst}
use Rattle.std.specs.Prelude.{Option, Some, None, map, ◌&&◌}
use Rattle.blk_base.specs.Options.{Options}
use Rattle.blk_base.specs.declared.ask.BackAsk.{BackAsk}
use Rattle.hypervisor.specs.Act.{FrontAct, BackAct, Outcome, Took}
use Rattle.back_jobs.specs.Hands.{Names}
use Rattle.blk_front.proofs.Shapes.{few_pages}
use Rattle.blk_base.specs.declared.halt.Halt.TheVariants as halt
use Rattle.blk_back.specs.View as back
use Rattle.blk_back.specs.Hands.{hands_of}
use Rattle.blk_back.specs.Keeping.{may_keep_most, step_keeping, job_ask_keeping, job_step_keeping, KeepsNone}
use Rattle.blk_back.proofs.Plain.{plain_job_ask}
use Rattle.split_model.specs.World.{World, start_of}
use Rattle.split_model.specs.Happening.{Happening, FrontMoves, BackMoves, JobMoves, FrontEnters, BackAttaches, BackHalts, Submits, Suspends, Dumps, happens, front_after, front_turn, back_turn}
use Rattle.split_model.specs.Kept.{KeepingHappening, Plainly, BackOffers, BackKeeps, back_offers, reads_keeping, cap_read, kept_so, offered, back_after_keeping, job_turn_keeping, job_after_keeping, plainly_after, happens_keeping, IsSafeKeeping}
use Rattle.split_model.proofs.Attaching.{attach_cases}
use Rattle.split_model.proofs.Kept.{kept_start, kept_happens}
use Rattle.split_model.proofs.Suspending.{suspend_cases, begun_back, back_cases}
use Rattle.split_model.proofs.SafeAnswers.{back_answered, job_answered_as, jobs_keeping}
use Rattle.split_model.proofs.Without.{goes_as_without}
use Rattle.blk_back.specs.Ask.{is_led}
use Rattle.move_laws.specs.Permitted.{IsPermitted, ArePermitted}
use Rattle.move_laws.specs.Kept.{IsPermittedKeeping, ArePermittedKeeping}
use Rattle.move_laws.proofs.KeptLines.{either_world}
use Rattle.move_laws.proofs.Front.{IsFront, front_start, front_step, front_entered, front_submit, front_suspended, front_within}
use Rattle.back_laws.proofs.Held.{IsBack, back_new, back_start, back_step, untold, back_attached, back_halted, back_keeps, job_step_kept, back_names, job_names_own}

-- both ends are as they should be
pub record IsOrderlyKeeping (w : World) : Type 0 where
  pub front : IsFront w.front
  pub back : IsBack w.back

orderly_start_keeping : (o : Options) → o.order ≤ 4 → IsOrderlyKeeping (start_of o)
orderly_start_keeping o narrow = record { front = front_start o narrow; back = back_start o }

front_after_move : (w : World) (act : Option FrontAct) → IsFront w.front → (let x : World = front_after w act in IsFront x.front)
front_after_move w None is = is
front_after_move w (Some a) is = front_step w.front a.answer is

beside_front : (w : World) (act : Option FrontAct) → IsBack w.back → (let x : World = front_after w act in IsBack x.back)
beside_front w None is = is
beside_front w (Some a) is = is

back_after_move : (w : World) (o : Outcome) (act : Option BackAct) → IsBack w.back → back_turn w o ≡ act → (let x : World = back_after_keeping w act in IsBack x.back)
back_after_move w o None is e = is
back_after_move w o (Some a) is e = untold (step_keeping w.back a.answer) (back_step w.back a.answer (back_answered w.under w.back o a e) is)

beside_back : (w : World) (act : Option BackAct) → IsFront w.front → (let x : World = back_after_keeping w act in IsFront x.front)
beside_back w None is = is
beside_back w (Some a) is = is

back_after_job : (w : World) (k : ℕ) (o : Outcome) (act : Option BackAct) → IsBack w.back → job_turn_keeping w k o ≡ act → (let x : World = job_after_keeping w k act in IsBack x.back)
back_after_job w k o None is e = is
back_after_job w k o (Some a) is e = untold (job_step_keeping w.back k a.answer) (job_step_kept w.back k a.answer (job_answered_as w.under k (job_ask_keeping w.back k) o a (jobs_keeping w.back k) e) is)

beside_job : (w : World) (k : ℕ) (act : Option BackAct) → IsFront w.front → (let x : World = job_after_keeping w k act in IsFront x.front)
beside_job w k None is = is
beside_job w k (Some a) is = is

front_happens : (w : World) (h : Happening) → IsFront w.front → (let x : World = plainly_after w h in IsFront x.front)
front_happens w FrontMoves is = front_after_move w (front_turn w) is
front_happens w BackMoves is = beside_back w (back_turn w Took) is
front_happens w (JobMoves number outcome) is = beside_job w number (job_turn_keeping w number outcome) is
front_happens w (FrontEnters state) is = front_entered state w.front is
front_happens w (Submits job) is = front_submit w.front job is
front_happens w Suspends is = suspend_cases (λ v shown. IsFront v.front) w (λ may. front_suspended w.front is) is
front_happens w h is = is

back_happens : (w : World) (h : Happening) → IsBack w.back → (let x : World = plainly_after w h in IsBack x.back)
back_happens w FrontMoves is = beside_front w (front_turn w) is
back_happens w BackMoves is = back_after_move w Took (back_turn w Took) is refl
back_happens w (JobMoves number outcome) is = back_after_job w number outcome (job_turn_keeping w number outcome) is refl
back_happens w (BackAttaches shape grefs port) is = attach_cases (λ v shown. IsBack v) w shape grefs port (λ may named says. back_attached shape grefs port w.back may is) is
back_happens w (BackHalts why) is = back_halted why w.back is
back_happens w Suspends is =
    let new : IsBack (begun_back w) = back_new w.front.start (let b : back.View = w.back in b.jobs.info) in
    suspend_cases (λ v shown. IsBack v.back) w (λ may. back_cases IsBack w new (back_halted (halt.Gone 6) (begun_back w) new)) is
back_happens w h is = is

orderly_plainly : (w : World) (h : Happening) → IsOrderlyKeeping w → IsOrderlyKeeping (plainly_after w h)
orderly_plainly w h is = record { front = front_happens w h is.front; back = back_happens w h is.back }

second_of : (a b c : Bool) → (a && b && c) ≡ true → b ≡ true
second_of true true c h = refl
second_of true false c h = absurd (cc)
second_of false b c h = absurd (cc)

front_keeping : (w : World) (h : KeepingHappening) → IsFront w.front → (let x : World = happens_keeping w h in IsFront x.front)
front_keeping w (Plainly h) is = front_happens w h is
front_keeping w BackOffers is = either_world (λ (v : World). IsFront v.front) (is_led w.back.stage) (offered w) w (λ led. is) is
front_keeping w (BackKeeps cap) is = either_world (λ (v : World). IsFront v.front) (reads_keeping w cap) (kept_so w cap) w (λ reads. is) is

pub back_keeping : (w : World) (h : KeepingHappening) → IsSafeKeeping w → IsBack w.back → (let x : World = happens_keeping w h in IsBack x.back)
back_keeping w (Plainly h) safe is = back_happens w h is
back_keeping w BackOffers safe is = either_world (λ (v : World). IsBack v.back) (is_led w.back.stage) (offered w) w (λ led. is) is
back_keeping w (BackKeeps cap) safe is =
    either_world (λ (v : World). IsBack v.back) (reads_keeping w cap) (kept_so w cap) w (λ reads. back_keeps cap (cap_read w cap) w.back (second_of (back_offers w) (may_keep_most cap w.back) _ reads) safe.tidy is) is

pub orderly_happens_keeping : (w : World) (h : KeepingHappening) → IsSafeKeeping w → IsOrderlyKeeping w → IsOrderlyKeeping (happens_keeping w h)
orderly_happens_keeping w h safe is = record { front = front_keeping w h is.front; back = back_keeping w h safe is.back }

within_plainly : (w : World) (h : Happening) → IsOrderlyKeeping w → IsPermittedKeeping w (Plainly h)
within_plainly w FrontMoves is = front_within w.front is.front
within_plainly w BackMoves is = back_names w.back is.back
within_plainly w (JobMoves number outcome) is = job_names_own w.back number is.back
within_plainly w Dumps is = let front = is.front in few_pages w.front.shape.order front.order
within_plainly w h is = tt

pub within_keeping : (w : World) (h : KeepingHappening) → IsOrderlyKeeping w → IsPermittedKeeping w h
within_keeping w (Plainly h) is = within_plainly w h is
within_keeping w BackOffers is = tt
within_keeping w (BackKeeps cap) is = tt

within_all_keeping : (hs : List KeepingHappening) (w : World) → IsSafeKeeping w → IsOrderlyKeeping w → ArePermittedKeeping hs w
within_all_keeping [] w safe is = tt
within_all_keeping (h ∷ hs) w safe is = (within_keeping w h is, within_all_keeping hs (happens_keeping w h) (kept_happens w h safe) (orderly_happens_keeping w h safe is))

pub always_within_keeping : (config : Options) (hs : List KeepingHappening) → config.order ≤ 4 → ArePermittedKeeping hs (start_of config)
always_within_keeping config hs narrow = within_all_keeping hs (start_of config) (kept_start config) (orderly_start_keeping config narrow)

-- a machine that keeps no mapping, and doesn't say that it keeps any, goes as this one
pub record IsOrderly (w : World) : Type 0 where
  pub ends : IsOrderlyKeeping w
  pub none : KeepsNone w.back
  pub silent : back_offers w ≡ false

pub orderly_start : (o : Options) → o.order ≤ 4 → IsOrderly (start_of o)
orderly_start o narrow = record { ends = orderly_start_keeping o narrow; none = refl; silent = refl }

pub orderly_happens : (w : World) (h : Happening) → IsOrderly w → IsOrderly (happens w h)
orderly_happens w h is =
    let goes = goes_as_without w h is.none is.silent in
    record { ends = subst IsOrderlyKeeping goes.world (orderly_plainly w h is.ends); none = goes.keeps_none; silent = goes.silent }

pub within_as : (w : World) (h : Happening) → KeepsNone w.back → IsPermittedKeeping w (Plainly h) → IsPermitted w h
within_as w (JobMoves number outcome) none within = subst (λ (ask : BackAsk). Names (hands_of w.back) ask) (plain_job_ask w.back number none) within
within_as w h none within = within

pub within_here : (w : World) (h : Happening) → IsOrderly w → IsPermitted w h
within_here w h is = within_as w h is.none (within_plainly w h is.ends)

within_all_as : (hs : List Happening) (w : World) → KeepsNone w.back → back_offers w ≡ false → ArePermittedKeeping (map Plainly hs) w → ArePermitted hs w
within_all_as [] w none silent within = tt
within_all_as (h ∷ hs) w none silent within =
    let goes = goes_as_without w h none silent in
    (within_as w h none within.0, within_all_as hs (happens w h) goes.keeps_none goes.silent (subst (ArePermittedKeeping (map Plainly hs)) goes.world within.1))

pub always_within : (config : Options) (hs : List Happening) → config.order ≤ 4 → ArePermitted hs (start_of config)
always_within config hs narrow = within_all_as hs (start_of config) refl refl (always_within_keeping config (map Plainly hs) narrow)
