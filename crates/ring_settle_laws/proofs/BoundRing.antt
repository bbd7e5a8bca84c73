-- What is left to the machine of the ring is within what the front's unfinished requests tell, but for what isn't seen once the back has halted.
use Rattle.std.proofs.Common.{◌≡◌, ℕ, ◌+◌, ◌*◌, ◌≤◌, inl, inr, Bool, cond, List, length, refl, ap, arith}
use Rattle.std.specs.Prelude.{is_some, sum_by}
use Rattle.blk_base.specs.Options.{Options}
use Rattle.blk_base.specs.declared.parts.Mapping.{Mapping}
use Rattle.blk_front.specs.declared.stage.FrontStage.{FrontStage}
use Rattle.blk_front.specs.declared.stage.FrontStage.TheVariants as front_stage
use Rattle.blk_front.specs.Submit.{ending_of, unfinished, sectors_owed}
use Rattle.blk_front.specs.View as front
use Rattle.blk_back.specs.declared.stage.BackStage.{BackStage}
use Rattle.blk_back.specs.declared.stage.BackStage.TheVariants as back_stage
use Rattle.blk_back.specs.View as back
use Rattle.front_laws.specs.Left as front_left
use Rattle.back_laws.specs.BackLeft as back_left
use Rattle.back_laws.specs.JobLeft.{all_left}
use Rattle.pipeline_laws.specs.Pipeline.{Pipeline}
use Rattle.split_model.specs.World.{World}
use Rattle.split_model.specs.Safe.{IsSafe}
use Rattle.machine_pipeline.specs.Plain.{IsPlain}
use Rattle.machine_pipeline.proofs.Lists.{sum_none}
use Rattle.machine_pipeline.proofs.Over.{Over, IsKept, IsAborting, IsLeaving}
use Rattle.ring_settle_laws.specs.Stations.{request_left, requests_left}
use Rattle.ring_settle_laws.specs.Left.{front_part, back_part, unseen_left, marks_left, ring_left}
use Rattle.ring_settle_laws.proofs.BoundPrices.{finished_free}
use Rattle.ring_settle_laws.proofs.BoundFront as fronts
use Rattle.ring_settle_laws.proofs.BoundBack as backs
use Rattle.ring_settle_laws.proofs.BoundServing.{serving_bounded, marks_few}
use Rattle.ring_settle_laws.proofs.Calm.{IsCalm, HasTaken}

-- a front that leaves ends no request
ends_none : (connected : Bool) (made order : ℕ) (pages : List ℕ) (held : List Mapping) (b : BackStage) (s : FrontStage) → IsLeaving connected made order pages held b s → ending_of s ≡ 0
ends_none connected made order pages held b (front_stage.GrantRead place) at = absurd at
ends_none connected made order pages held b (front_stage.GrantEnd place before) at = absurd at
ends_none connected made order pages held b (front_stage.ReadData n) at = absurd at
ends_none connected made order pages held b (front_stage.LeftData n) at = absurd at
ends_none connected made order pages held b s at = refl

-- a back that has halted unmaps its pages and closes its port
aborting_few : (b : BackStage) (v : back.View) → IsAborting v.pages b → length v.pages ≤ 24 → back_left.left_at b v ≤ 25
aborting_few back_stage.UnmapRing v at few = omega arith
aborting_few back_stage.UnmapUnbound v at few = omega arith
aborting_few back_stage.ClosePort v at few = omega arith
aborting_few back_stage.Halted v at few = omega arith
aborting_few b v at few = absurd at

over_front : (config : Options) (w : World) (d : Pipeline) → Over config w d w.front.stage w.back.stage → HasTaken w.front → front_part w.front ≤ 74
over_front config w d o taken =
    let v : front.View = w.front in
    let ends : sum_by front_left.end_left v.requests ≡ 0 = ap (sum_by front_left.end_left) o.no_request in
    let issues : sum_by front_left.issue_left v.requests ≡ 0 = ap (sum_by front_left.issue_left) o.no_request in
    let none = ends_none d.front.connected (length w.under.channels.ports) v.shape.order w.under.pages w.back.pages w.back.stage v.stage o.front_at in
    let left = fronts.left_few v.stage v 4 0 (omega (arith, ends, issues, taken)) (λ one. absurd (omega (arith, one, none))) o.narrow in
    omega (arith, left, issues, fronts.sends_few v.stage)

over_back : (config : Options) (w : World) (d : Pipeline) → Over config w d w.front.stage w.back.stage → back_part w.back ≤ 30
over_back config w d o =
    let v : back.View = w.back in
    omega (arith, aborting_few v.stage v o.back_at (backs.own_few v.pages o.own.grefs o.own.distinct), backs.sends_few v.stage)

over_requests : (config : Options) (w : World) (d : Pipeline) → Over config w d w.front.stage w.back.stage → requests_left d.requests ≡ 0
over_requests config w d o = sum_none request_left d.requests (λ k q e. finished_free q.submission q.station (o.finished k q e))

over_bounded : (config : Options) (w : World) (d : Pipeline) → Over config w d w.front.stage w.back.stage → HasTaken w.front → ring_left w d ≤ 200 + unseen_left w
over_bounded config w d o taken =
    let jobs : (let b : back.View = w.back in all_left b.jobs.works) ≡ 0 = ap all_left o.no_job in
    total (front_part w.front) (back_part w.back) (let b : back.View = w.back in all_left b.jobs.works) (unseen_left w) (marks_left w.under.channels) (requests_left d.requests)
    (over_front config w d o taken) (over_back config w d o) jobs (marks_few w.under.channels) (over_requests config w d o)
  where
    total : (front back jobs unseen marks requests : ℕ) → front ≤ 74 → back ≤ 30 → jobs ≡ 0 → marks ≤ 10 → requests ≡ 0 → front + back + jobs + unseen + marks + requests ≤ 200 + unseen
    total front back jobs unseen marks requests f b j m r = omega arith

-- what isn't seen is no end's to see once the back has halted
abbrev pub late_left : World → ℕ
late_left w = cond (is_some w.back.halted) (unseen_left w) 0

pub ring_bounded : (config : Options) (w : World) (d : Pipeline) → IsPlain config → IsSafe w → IsKept config w d → IsCalm w → ring_left w d ≤ 200 + 1300 * unfinished w.front + 1600 * sectors_owed w.front + late_left w
ring_bounded config w d plain safe (inl held) calm = omega (arith, serving_bounded config w held.0 d held.1)
ring_bounded config w d plain safe (inr over) calm =
    let late : late_left w ≡ unseen_left w = rw over.halted refl in
    omega (arith, over_bounded config w d over (calm over.halted), late)
