-- A move of a job lowers what is left to the machine of the ring.
use Rattle.std.proofs.Common.{◌≡◌, ℕ, ◌+◌, ◌-◌, ◌*◌, ◌<◌, ◌≤◌, ◌==◌, ◌&&◌, inl, inr, List, length, take, refl, ap, sym, subst, arith, length-set}
use Rattle.std.specs.Prelude.{Option, Some, None, slice_get}
use Rattle.std.proofs.lemmas.Bool.{cases_Bool}
use Rattle.blk_base.specs.Options.{Options}
use Rattle.blk_base.specs.Distance.{distance_of}
use Rattle.blk_base.specs.declared.ask.BackAsk.{BackAsk}
use Rattle.blk_base.specs.declared.ask.BackAsk.TheVariants as ask
use Rattle.blk_base.specs.declared.ask.BackAnswer.{BackAnswer}
use Rattle.blk_base.specs.declared.moves.BackMover.TheVariants as back_mover
use Rattle.hypervisor.specs.Hypervisor.{Hypervisor}
use Rattle.hypervisor.specs.Act.{BackAct, Outcome}
use Rattle.back_jobs.specs.Work as task
use Rattle.back_jobs.specs.Work.{Work}
use Rattle.back_jobs.specs.Jobs.{place_of, told_at, work_of, is_fresh_at, is_held_by}
use Rattle.blk_back.specs.declared.stage.BackStage.{BackStage}
use Rattle.blk_back.specs.declared.stage.BackStage.TheVariants as stage
use Rattle.blk_back.specs.declared.told.BackTold.{BackTold}
use Rattle.blk_back.specs.View as back
use Rattle.blk_back.specs.Step.{job_ask_of}
use Rattle.split_model.specs.World.{World}
use Rattle.split_model.specs.Safe.{IsSafe}
use Rattle.split_model.specs.Happening.{JobMoves, job_turn, job_after}
use Rattle.split_model.proofs.Acting.{BackActs, BackBind, BackBindRefused, BackFence, BackSend, BackClose, back_acts}
use Rattle.split_model.proofs.SafeAnswers.{IsJobs, jobs_of, job_answered}
use Rattle.pipeline_laws.specs.Pipeline.{Pipeline, after_steps}
use Rattle.machine_pipeline.specs.Plain.{IsPlain}
use Rattle.machine_pipeline.proofs.Lists.{all_at, found_at, sum_set}
use Rattle.machine_pipeline.proofs.Flow.{Flow}
use Rattle.machine_pipeline.proofs.Holds.{Holds}
use Rattle.machine_pipeline.proofs.HoldsWorks.{IsWork}
use Rattle.machine_pipeline.proofs.Over.{IsKept}
use Rattle.back_laws.specs.BackLeft as back_left
use Rattle.back_laws.specs.JobLeft.{left_of, all_left}
use Rattle.ring_settle_laws.specs.Stations.{requests_left}
use Rattle.ring_settle_laws.specs.Left.{back_part, back_sends, back_saw, front_part, front_saw, marks_left, ring_left}
use Rattle.ring_settle_laws.proofs.Gone.{Gone, left_after}
use Rattle.ring_settle_laws.proofs.Stations.{gone_lowers, requests_fall}
use Rattle.ring_settle_laws.proofs.JobFalls.{job_lowers}

-- the back, with other jobs
abbrev with_works : back.View → List Work → Option BackTold → back.View
with_works v works told = record v { jobs = record v.jobs { works = works }; told = told }

same_left : (b : BackStage) (v : back.View) (works : List Work) (told : Option BackTold) → length works ≡ length v.jobs.works → back_left.left_at b (with_works v works told) ≡ back_left.left_at b v
same_left stage.InitWait v works told e = refl
same_left b v works told e = omega (arith, e)

same_saw : (b : BackStage) (v : back.View) (works : List Work) (told : Option BackTold) → back_saw b (with_works v works told) ≡ back_saw b v
same_saw stage.StoreEvent v works told = refl
same_saw b v works told = refl

-- the machine falls with its jobs, where the back and the channels stay
sum_falls : (f b b' j j' u u' m m' q q' : ℕ) → b' ≡ b → j' + 1 ≤ j → u' ≡ u → m' ≡ m → q' ≤ q → f + b' + j' + u' + m' + q' + 1 ≤ f + b + j + u + m + q
sum_falls f b b' j j' u u' m m' q q' backs jobs unseen marks requests = omega arith

jobs_fall : (w : World) (d p : Pipeline) (works : List Work) (told : Option BackTold) (under : Hypervisor) → length works ≡ (let v : back.View = w.back in length v.jobs.works) → all_left works + 1 ≤ (let v : back.View = w.back in all_left v.jobs.works) → under.channels ≡ w.under.channels → requests_left p.requests ≤ requests_left d.requests
    → ring_left (record { front = w.front; back = with_works w.back works told; under = under }) p + 1 ≤ ring_left w d
jobs_fall w d p works told under long falls channels requests =
    let v : back.View = w.back in
    let shown : ℕ = 7 * distance_of (front_saw w.front.stage w.front) v.ring.indices.prod in
    sum_falls (front_part w.front) (back_part v) (back_part (with_works v works told)) (all_left v.jobs.works) (all_left works)
    (shown + 39 * distance_of (back_saw v.stage v) w.front.ring.indices.prod) (shown + 39 * distance_of (back_saw v.stage (with_works v works told)) w.front.ring.indices.prod)
    (marks_left w.under.channels) (marks_left under.channels) (requests_left d.requests) (requests_left p.requests)
    (ap (λ (n : ℕ). n + back_sends v.stage) (same_left v.stage v works told long)) falls
    (ap (λ (n : ℕ). shown + 39 * distance_of n w.front.ring.indices.prod) (same_saw v.stage v works told)) (ap marks_left channels) requests

-- no ask of a job is on the channels
job_channels : (h : Hypervisor) (k : ℕ) (ask : BackAsk) (o : Outcome) (a : BackAct) → IsJobs ask → BackActs h (back_mover.Job k) ask o a → a.under.channels ≡ h.channels
job_channels h k ask o a own BackFence = absurd own
job_channels h k ask o a own (BackBind p unbound) = absurd own
job_channels h k ask o a own (BackBindRefused p) = absurd own
job_channels h k ask o a own BackSend = absurd own
job_channels h k ask o a own BackClose = absurd own
job_channels h k ask o a own acts = refl

-- a job that makes a move is held, and asks for what its stage asks
record IsAsking (v : back.View) (number : ℕ) : Type 0 where
  place : ℕ
  t : Work
  placed : place_of v.jobs.works number ≡ Some place
  here : slice_get v.jobs.works place ≡ Some t
  asks : job_ask_of v number ≡ task.ask_of t

asking : (v : back.View) (number : ℕ) (a : BackAnswer) → v.halted ≡ None → task.IsAnswer (job_ask_of v number) a → IsAsking v number
asking v number a unhalted ok = by_place (place_of v.jobs.works number) refl
  where
    idle : job_ask_of v number ≡ ask.Wait → ⊥
    idle e = subst (λ (x : BackAsk). task.IsAnswer x a) e ok

    by_place : (place : Option ℕ) → place_of v.jobs.works number ≡ place → IsAsking v number
    by_place None e = absurd (idle (rw (unhalted, e) refl))
    by_place (Some p) e =
        let found = found_at (λ (t : Work). t.number == number) v.jobs.works p e in
        let t : Work = found.0 in
        elim (cases_Bool (is_fresh_at t.stage t.moved && is_held_by (take p v.jobs.works) t)) [
          | inl waits ↦ absurd (idle (rw (unhalted, e, found.1, waits) refl))
          | inr free ↦ record { place = p; t = t; placed = e; here = found.1; asks = rw (unhalted, e, found.1, free) refl }
        ]

-- what the jobs have left falls by one at least
told_falls : (v : back.View) (number : ℕ) (a : BackAnswer) (x : IsAsking v number) → left_of (task.step_of x.t a) < left_of x.t
    → (length (told_at v.jobs.works (place_of v.jobs.works number) (work_of v.jobs.works number) a) ≡ length v.jobs.works) × (all_left (told_at v.jobs.works (place_of v.jobs.works number) (work_of v.jobs.works number) a) + 1 ≤ all_left v.jobs.works)
told_falls v number a x falls = rw (x.placed, x.here) (length-set v.jobs.works x.place (task.step_of x.t a), omega (arith, sum_set left_of v.jobs.works x.place x.t (task.step_of x.t a) x.here, falls))

holding_falls : (config : Options) (w : World) (g : Flow) (d p : Pipeline) (number : ℕ) (outcome : Outcome) (a : BackAct) → Holds config w g d w.front.stage w.back.stage → job_turn w number outcome ≡ Some a → requests_left p.requests ≤ requests_left d.requests
    → ring_left (job_after w number (Some a)) p + 1 ≤ ring_left w d
holding_falls config w g d p number outcome a h e requests =
    let v : back.View = w.back in
    let ok = job_answered w.under v number outcome a e in
    let x = asking v number a.answer h.unhalted ok in
    let t : Work = x.t in
    let work = all_at (IsWork g.submitted g.series g.fetched) v.jobs.works x.place t h.works.each x.here in
    let shaped = h.submitted.each (t.id - 1) work.r work.known in
    let falls : left_of (task.step_of t a.answer) < left_of t = job_lowers work.r t.stage t a.answer shaped.shaped work.at (subst (λ (y : BackAsk). task.IsAnswer y a.answer) x.asks ok) in
    let told = told_falls v number a.answer x falls in
    jobs_fall w d p _ None a.under told.0 told.1
    (job_channels w.under number (job_ask_of v number) outcome a (jobs_of v number) (back_acts w.under (back_mover.Job number) (job_ask_of v number) outcome a e)) requests

-- each move of a job lowers what is left
pub job_falls : (config : Options) (w : World) (d : Pipeline) (number : ℕ) (outcome : Outcome) (a : BackAct) → IsPlain config → IsSafe w → IsKept config w d → job_turn w number outcome ≡ Some a → (gone : Gone config w d (JobMoves number outcome))
    → left_after config w d (JobMoves number outcome) gone + 1 ≤ ring_left w d
job_falls config w d number outcome a plain safe (inl held) e gone =
    let p : Pipeline = after_steps gone.steps d in
    let requests = requests_fall d.requests p.requests (gone_lowers config w d (JobMoves number outcome) tt gone) in
    subst (λ (act : Option BackAct). ring_left (job_after w number act) p + 1 ≤ ring_left w d) (sym e) (holding_falls config w held.0 d p number outcome a held.1 e requests)
job_falls config w d number outcome a plain safe (inr over) e gone =
    let asked : job_ask_of w.back number ≡ ask.Wait = rw over.halted refl in
    absurd (subst (λ (x : BackAsk). task.IsAnswer x a.answer) asked (job_answered w.under w.back number outcome a e))
