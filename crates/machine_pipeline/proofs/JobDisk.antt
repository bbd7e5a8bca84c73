-- A job writes its next sector to the disk, or reads it, or the disk fails at it.
use Rattle.std.proofs.Common.{◌≡◌, ℕ, ◌+◌, ◌%◌, ◌^◌, ◌≤◌, ◌==◌, Bool, ap, [], ◌∷◌, refl, sym, ◌∙◌, subst, arith}
use Rattle.std.specs.Prelude.{None}
use Rattle.blk_base.specs.Options.{Options}
use Rattle.blk_base.specs.declared.ask.BackAnswer.TheVariants as answer
use Rattle.blk_base.specs.declared.moves.Move.TheVariants as moves
use Rattle.blk_base.specs.declared.parts.Mapping.{Mapping}
use Rattle.schedule_text.specs.declared.line.Line.TheVariants as lines
use Rattle.hypervisor.specs.Act.{Outcome, Gave, Took, Failed}
use Rattle.blk_front.specs.declared.request.Request.{Request}
use Rattle.blk_front.specs.Request.{is_write}
use Rattle.pipeline_laws.specs.Station.{Working}
use Rattle.back_jobs.specs.declared.stage.JobStage.TheVariants as job
use Rattle.back_jobs.specs.Work.{Work, ask_at, step_at, counted}
use Rattle.split_model.specs.World.{World}
use Rattle.hypervisor.specs.Act.{IsGiven}
use Rattle.pipeline_laws.specs.Pipeline.{Pipeline}
use Rattle.machine_pipeline.proofs.Flow.{Flow}
use Rattle.machine_pipeline.proofs.HoldsWorks.{IsReturning, last_in}
use Rattle.machine_pipeline.proofs.Turns.{GoesBy}
use Rattle.machine_pipeline.proofs.Jobs.{with_job, hands_then}
use Rattle.machine_pipeline.proofs.JobMoves.{JobGoesAt, stays, hands_step, sectors_left, further, next_sector_is, worked_further, at_further, IsDoing, placed_on, steps_on}
use Rattle.machine_pipeline.proofs.JobSteps.{fills, fails, gives, fails_to_give}
use Rattle.machine_pipeline.specs.Step.{CallOf}
use Rattle.schedule_text.specs.declared.line.Line.TheVariants.{Move}

module _ {config : Options} {w : World} {g : Flow} {d : Pipeline} {p : ℕ} {t : Work} {r : Request} {m : Mapping} where
  -- the disk took the sector
  took_goes : (doing : IsDoing config w g d p t r (job.DiskWrite m)) (number : ℕ) → JobGoesAt config w d number p t (job.DiskWrite m) Took
  took_goes doing number =
      subst (λ (x : Work). GoesBy None (CallOf (ask_at (job.DiskWrite m) t) Took) config (Move (moves.DiskWrite number t.disk) ∷ lines.Effect t.id t.moved ∷ []) (with_job w p x w.under) d)
      (sym stepped)
      (steps_on doing then (moves.DiskWrite number t.disk) refl refl refl
      (fills doing then refl (worked_further last (is_write r.transfer) m ((t.moved + 1) % 2 ^ 32) ∙ ap (λ (n : ℕ). Working n) one_more)) (at_further (counted t) r m last moved doing.at.1 refl)
      (ap (hands_then w p) (sym stepped) ∙ hands_step w p t (job.DiskWrite m) answer.Done doing.is.place doing.stage tt))
    where
      left : (t.moved + 1 ≤ r.count) × (t.within ≤ 7) × (r.count ≤ 7680)
      left = sectors_left t r 1 doing.own.shaped doing.at.0

      one_more : (t.moved + 1) % 2 ^ 32 ≡ t.moved + 1
      one_more = omega (arith, left.0, left.2)

      moved : IsReturning (counted t) r
      moved = placed_on _ _ _ _ 0 doing.at.0 doing.at.0.within (omega (arith, one_more, doing.at.0.moved)) (omega (arith, one_more, doing.at.0.disk)) doing.at.0.words

      last : Bool
      last = t.within == last_in r moved.place

      then : Work
      then = further (counted t) r m last

      stepped : step_at (job.DiskWrite m) t answer.Done ≡ then
      stepped = next_sector_is (counted t) r m doing.own.shaped moved

  pub disk_goes : IsDoing config w g d p t r (job.DiskWrite m) → (number : ℕ) (o : Outcome) → JobGoesAt config w d number p t (job.DiskWrite m) o
  disk_goes doing number (Gave words) = stays (CallOf (ask_at (job.DiskWrite m) t) (Gave words)) config w g d (λ a b call. absurd call) doing.holds
  disk_goes doing number Took = took_goes doing number
  -- the disk failed at it
  disk_goes doing number Failed =
      steps_on doing (record t { stage = job.Abort m }) (moves.DiskWrite number t.disk) refl refl refl (fails doing (record t { stage = job.Abort m }) refl refl)
      (doing.at.0.place, doing.at.0.here, doing.at.1) (hands_step w p t (job.DiskWrite m) answer.DiskFailed doing.is.place doing.stage tt)

  -- the disk gave the sector, or failed to give it
  pub disk_gives : IsDoing config w g d p t r (job.DiskRead m) → (number : ℕ) (o : Outcome) → IsGiven o → JobGoesAt config w d number p t (job.DiskRead m) o
  disk_gives doing number (Gave words) given =
      let left = sectors_left t r 1 doing.own.shaped doing.at.0 in
      let one_more : (t.moved + 1) % 2 ^ 32 ≡ t.moved + 1 = omega (arith, left.0, left.2) in
      let now : IsReturning (record (counted t) { words = words; stage = job.WriteWord m 0 }) r = placed_on _ _ _ _ 0 doing.at.0 doing.at.0.within (omega (arith, one_more, doing.at.0.moved))
      (omega (arith, one_more, doing.at.0.disk)) given.0 in
      steps_on doing (record (counted t) { words = words; stage = job.WriteWord m 0 }) (moves.DiskRead number t.disk) refl refl refl (gives doing words given.0)
      (now, doing.at.1, omega arith, doing.at.2) (hands_step w p t (job.DiskRead m) (answer.Sector words) doing.is.place doing.stage tt)
  disk_gives doing number Took given = stays (CallOf (ask_at (job.DiskRead m) t) Took) config w g d (λ a b call. absurd call.0) doing.holds
  disk_gives doing number Failed given =
      steps_on doing (record t { stage = job.Abort m }) (moves.DiskRead number t.disk) refl refl refl (fails_to_give doing)
      (doing.at.0.place, doing.at.0.here, doing.at.1) (hands_step w p t (job.DiskRead m) answer.DiskFailed doing.is.place doing.stage tt)
