-- In every history: once the back has halted, the front has seen no response that it didn't take.
use Rattle.std.proofs.Common.{◌≡◌, ℕ, ◌^◌, ◌<◌, ◌==◌, if◌then◌else◌, inl, inr, Bool, true, false, List, [], ◌∷◌, length, refl, ap, sym, ◌∙◌, arith}
use Rattle.std.specs.Prelude.{Option, Some, None, is_some}
use Rattle.std.proofs.lemmas.Bool.{cond_both, true≢false}
use Rattle.blk_base.specs.Distance.{distance_of}
use Rattle.blk_base.specs.Options.{Options}
use Rattle.blk_base.specs.declared.config.Submission.{Submission}
use Rattle.blk_front.specs.declared.request.Request.{Request}
use Rattle.blk_front.specs.declared.stage.Ending.{Ending}
use Rattle.blk_front.specs.declared.stage.FrontStage.{FrontStage}
use Rattle.blk_front.specs.declared.stage.FrontStage.TheVariants as stage
use Rattle.blk_front.specs.declared.state.FrontState.{FrontState}
use Rattle.blk_front.specs.declared.state.FrontState.TheVariants as state
use Rattle.blk_front.specs.State.{is_open, in_state}
use Rattle.blk_front.specs.Submit.{submit_of}
use Rattle.blk_front.specs.Suspend.{resumed}
use Rattle.blk_front.specs.View.{View, next_request}
use Rattle.blk_back.specs.View as back
use Rattle.blk_back.specs.Step as back_step
use Rattle.hypervisor.specs.Act.{BackAct}
use Rattle.pipeline_laws.specs.Pipeline.{Pipeline, after_steps}
use Rattle.split_model.specs.World.{World, start_of, may_suspend, suspended, back_for, new_back, state_after}
use Rattle.hypervisor.specs.Suspend.{suspended as under_suspended}
use Rattle.ring_words.specs.Shape.{Shape}
use Rattle.blk_back.specs.declared.stage.Reply.{Reply}
use Rattle.split_model.specs.Safe.{IsSafe}
use Rattle.split_model.specs.Happening.{Happening, FrontMoves, BackMoves, JobMoves, FrontEnters, BackAttaches, BackHalts, Submits, Suspends, front_turn, back_turn, job_turn, front_after, back_after, job_after, attaches_at, happens, after as world_after}
use Rattle.split_model.proofs.Safe.{safe_happens}
use Rattle.split_model.proofs.States.{enters_cases}
use Rattle.machine_pipeline.specs.Plain.{IsPlain}
use Rattle.machine_pipeline.specs.Allowed.{IsServed, AreServed}
use Rattle.machine_pipeline.proofs.Flow.{Flow}
use Rattle.machine_pipeline.proofs.Holds.{Holds, FrontAt}
use Rattle.machine_pipeline.proofs.Over.{Over, IsKept}
use Rattle.machine_pipeline.proofs.Leaving.{through_is}
use Rattle.machine_pipeline.proofs.BackMoves.{back_moves}
use Rattle.machine_pipeline.proofs.Wrapped.{distance_at}
use Rattle.machine_pipeline.proofs.Together.{IsStanding, step_kept}
use Rattle.ring_words.specs.Ring.{Ring}
use Rattle.ring_settle_laws.proofs.CalmMoves.{front_keeps}

-- it has seen no response that it didn't take
abbrev pub AreTaken : Ring → ℕ → Type 0
AreTaken indices seen = distance_of indices.cons seen ≡ 0

abbrev pub HasTaken : View → Type 0
HasTaken v = AreTaken v.ring.indices v.ring.seen

abbrev pub IsCalm : World → Type 0
IsCalm w = is_some w.back.halted ≡ true → HasTaken w.front

-- an index is at no distance from itself
no_distance : (a : ℕ) → a < 2 ^ 32 → distance_of a a ≡ 0
no_distance a few = omega arith

-- a back that serves hasn't halted
serves : (w : World) → w.back.halted ≡ None → IsCalm w
serves w none halted = absurd (true≢false (sym halted ∙ ap is_some none))

-- a submission leaves a front that closes as it is
submit_taken : (v : View) (job : Submission) → v.closing ≡ true → HasTaken v → HasTaken (submit_of v job).1
submit_taken v job closes taken = rw closes (cond_both (v.last == 4294967295) _ _ (λ (y : _ × View). HasTaken y.1) (λ t. taken) (λ t. taken))

-- a suspend begins the ring anew, or leaves a closed front as it is
suspend_taken : (w : World) → w.front.start < 2 ^ 32 → HasTaken w.front → HasTaken (let x : World = (if may_suspend w then suspended w else w) in x.front)
suspend_taken w few taken = cond_both (may_suspend w) (suspended w) w (λ (x : World). HasTaken x.front)
    (λ t. cond_both (is_open w.front.stage) (resumed w.front) w.front HasTaken (λ o. no_distance w.front.start few) (λ c. taken)) (λ t. taken)

-- a state that it enters
enters_taken : (w : World) (s : FrontState) → w.front.start < 2 ^ 32 → HasTaken w.front → HasTaken (let x : World = happens w (FrontEnters s) in x.front)
enters_taken w s few taken = enters_cases (λ v shown. HasTaken v) s w.front (λ may. entered s) taken
  where
    entered : (s : FrontState) → HasTaken (in_state s w.front)
    entered (state.Agreed order) = no_distance w.front.start few
    entered other = taken

-- once the back has halted
over_calm : (config : Options) (w : World) (d : Pipeline) (h : Happening) → IsPlain config → Over config w d w.front.stage w.back.stage → IsServed w h → HasTaken w.front → HasTaken (let x : World = happens w h in x.front)
over_calm config w d FrontMoves plain o may taken = front_keeps AreTaken config w d (may o.halted) o taken
over_calm config w d BackMoves plain o may taken = by_act (back_turn w _)
  where
    by_act : (x : Option BackAct) → HasTaken (let y : World = back_after w x in y.front)
    by_act None = taken
    by_act (Some a) = taken
over_calm config w d (JobMoves number outcome) plain o may taken = by_act (job_turn w number outcome)
  where
    by_act : (x : Option BackAct) → HasTaken (let y : World = job_after w number x in y.front)
    by_act None = taken
    by_act (Some a) = taken
over_calm config w d (FrontEnters s) plain o may taken = enters_taken w s (omega (arith, o.begins.started, plain.start)) taken
over_calm config w d (Submits job) plain o may taken = submit_taken w.front job o.closes taken
over_calm config w d Suspends plain o may taken = suspend_taken w (omega (arith, o.begins.started, plain.start)) taken
over_calm config w d h plain o may taken = taken

-- a front without requests took each response that it saw
no_more : (config : Options) (w : World) (g : Flow) (d : Pipeline) → Holds config w g d w.front.stage w.back.stage → length w.front.requests ≡ 0 → HasTaken w.front
no_more config w g d h none =
    let i = h.indices in
    omega (arith, distance_at g.start g.taken g.front_seen w.front.ring.indices.cons w.front.ring.seen i.taken i.front_saw i.front_from (omega (arith, i)), i, none)

-- while it serves it is neither closed nor broken, so a suspend begins its ring anew
open_at : (shape : Shape) (start pushed taken front_seen : ℕ) (submitted : List Request) (replies : List Reply) (next : Option Request) (entry : List ℕ) (ending : Option Ending) (s : FrontStage) → FrontAt shape start pushed taken front_seen submitted replies next entry ending s → is_open s ≡ true
open_at shape start pushed taken front_seen submitted replies next entry ending stage.Closed at = absurd at
open_at shape start pushed taken front_seen submitted replies next entry ending (stage.Broken word) at = absurd at
open_at shape start pushed taken front_seen submitted replies next entry ending s at = refl

suspend_calm : (w : World) → w.front.start < 2 ^ 32 → is_open w.front.stage ≡ true → IsCalm (suspended w)
suspend_calm w few going = by_open (is_open w.front.stage) refl
  where
    by_open : (b : Bool) → is_open w.front.stage ≡ b → IsCalm (record {
      front = if b then resumed w.front else w.front;
      back = let v : back.View = w.back in back_for b (new_back w.front.start v.jobs.info);
      under = under_suspended (state_after b) w.under;
    })
    by_open true e = λ halted. no_distance w.front.start few
    by_open false e = absurd (true≢false (sym going ∙ e))

-- while the ends serve
holding_calm : (config : Options) (w : World) (g : Flow) (d : Pipeline) (h : Happening) → IsPlain config → IsSafe w → Holds config w g d w.front.stage w.back.stage → IsServed w h → IsCalm (happens w h)
holding_calm config w g d FrontMoves plain safe h may = by_act (front_turn w)
  where
    by_act : (x : Option _) → IsCalm (front_after w x)
    by_act None = serves w h.unhalted
    by_act (Some a) = serves (front_after w (Some a)) h.unhalted
holding_calm config w g d BackMoves plain safe h may =
    let goes = back_moves config w g d plain (may (ap is_some h.unhalted)) (record { safe = safe; holds = h }) in
    serves (happens w BackMoves) goes.holds.unhalted
holding_calm config w g d (JobMoves number outcome) plain safe h may = by_act (job_turn w number outcome)
  where
    by_act : (x : Option BackAct) → IsCalm (job_after w number x)
    by_act None = serves w h.unhalted
    by_act (Some a) = serves (job_after w number (Some a)) h.unhalted
holding_calm config w g d (BackAttaches shape grefs port) plain safe h may =
    cond_both (attaches_at w shape grefs) (back_step.attached shape grefs port w.back) w.back (λ (b : back.View). IsCalm (record { front = w.front; back = b; under = w.under }))
    (λ t. serves (record { front = w.front; back = back_step.attached shape grefs port w.back; under = w.under }) h.unhalted) (λ t. serves w h.unhalted)
holding_calm config w g d (BackHalts why) plain safe h may = λ halted. no_more config w g d h (through_is w.front.closing (length w.front.requests) may.through).none
holding_calm config w g d Suspends plain safe h may =
    cond_both (may_suspend w) (suspended w) w IsCalm
    (λ t. suspend_calm w (omega (arith, h.started.known, plain.start))
    (open_at g.shape g.start g.pushed g.taken g.front_seen g.submitted g.replies (next_request w.front) w.front.ring.entry w.front.ending w.front.stage h.front_at))
    (λ t. serves w h.unhalted)
holding_calm config w g d happening plain safe h may = serves (happens w happening) h.unhalted

-- whatever happens
pub calm_kept : (config : Options) (w : World) (d : Pipeline) (h : Happening) → IsPlain config → IsSafe w → IsKept config w d → IsServed w h → IsCalm w → IsCalm (happens w h)
calm_kept config w d h plain safe (inl held) may calm = holding_calm config w held.0 d h plain safe held.1 may
calm_kept config w d h plain safe (inr over) may calm = λ halted. over_calm config w d h plain over may (calm over.halted)

pub calm_start : (config : Options) → IsCalm (start_of config)
calm_start config = serves (start_of config) refl

pub run_calm : (config : Options) (hs : List Happening) (w : World) → IsPlain config → IsStanding config w → AreServed hs w → IsCalm w → IsCalm (world_after hs w)
run_calm config [] w plain stands may calm = calm
run_calm config (h ∷ hs) w plain stands may calm =
    let one = step_kept config w stands.pipeline h plain stands.safe stands.kept may.0 in
    run_calm config hs (happens w h) plain (record { pipeline = after_steps one.steps stands.pipeline; safe = safe_happens w h stands.safe; kept = one.kept }) may.1
    (calm_kept config w stands.pipeline h plain stands.safe stands.kept may.0 calm)
