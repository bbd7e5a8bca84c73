-- While the back waits no job that it holds is done: it would reply to it.
use Rattle.std.proofs.Common.{◌≡◌, ◌∙◌, ◌⊎◌, ap, sym, subst, inl, inr, ℕ, ◌≤◌, Bool, true, false, true≢false, List, ◌∷◌, length, refl, arith}
use Rattle.std.specs.Prelude.{Option, Some, None, is_some, position, All}
use Rattle.std.proofs.lemmas.List.Elements.{All-head}
use Rattle.blk_base.specs.Options.{Options}
use Rattle.blk_front.specs.declared.stage.FrontStage.{FrontStage}
use Rattle.back_jobs.specs.declared.stage.JobStage.{JobStage}
use Rattle.back_jobs.specs.declared.stage.JobStage.TheVariants as job
use Rattle.back_jobs.specs.Work.{Work}
use Rattle.back_jobs.specs.Jobs.{is_done, is_done_at, response_at, work_at, done_of}
use Rattle.blk_back.specs.declared.stage.Reply.{Reply}
use Rattle.blk_back.specs.declared.stage.BackStage.{BackStage}
use Rattle.blk_back.specs.declared.stage.BackStage.TheVariants as back
use Rattle.blk_back.specs.View as ends
use Rattle.blk_back.specs.Ask.{is_wait, is_led, ask_at, loop_ask, next_reply, reply_of}
use Rattle.split_model.specs.World.{World}
use Rattle.pipeline_laws.specs.Pipeline.{Pipeline}
use Rattle.machine_pipeline.proofs.Flow.{Flow}
use Rattle.machine_pipeline.proofs.Holds.{Holds}
use Rattle.machine_pipeline.proofs.HoldsWorks.{IsWork}
use Rattle.settle_laws.proofs.Working.{passes_first}

-- one that is done has a response
responds : (s : JobStage) (t : Work) → is_done_at s ≡ true → is_some (reply_of (response_at s t)) ≡ true
responds (job.Done status) t done = refl
responds s t done = absurd (true≢false (sym done))

-- so a reply is next where the first job is done
replied : (v : ends.View) (t : Work) (rest : List Work) → v.jobs.works ≡ t ∷ rest → is_done t ≡ true → is_some (next_reply v) ≡ true
replied v t rest held done =
    let first : done_of v.jobs ≡ Some t =
    ap (λ (works : List Work). work_at works (position (λ (u : Work). is_done u) works)) held ∙ ap (work_at (t ∷ rest)) (passes_first (λ (u : Work). is_done u) t rest done) in
    rw first (responds t.stage t done)

undone_in_loop : (v : ends.View) (t : Work) (rest : List Work) → v.jobs.works ≡ t ∷ rest → is_wait (loop_ask v (next_reply v)) ≡ true → is_done t ≡ false
undone_in_loop v t rest held waits = by_done (is_done t) refl
  where
    by_reply : (r : Option Reply) → is_some r ≡ true → is_wait (loop_ask v r) ≡ true → is_done t ≡ false
    by_reply None some is = absurd (true≢false (sym some))
    by_reply (Some r) some is = absurd (true≢false (sym is))

    by_done : (b : Bool) → is_done t ≡ b → is_done t ≡ false
    by_done true e = by_reply (next_reply v) (replied v t rest held e) waits
    by_done false e = e

module _ (config : Options) (w : World) (g : Flow) (d : Pipeline) (t : Work) (rest : List Work) (held : w.back.jobs.works ≡ t ∷ rest) where
  -- before an entry is fetched no job is held
  none_fetched : {A : Type 0} (s : FrontStage) (b : BackStage) → Holds config w g d s b → g.fetched ≡ 0 → A
  none_fetched s b h none =
      let some : ◌≡◌ {A = ℕ} (length w.back.jobs.works) (length (t ∷ rest)) = ap length held in
      let counted = h.counted in
      absurd (omega (arith, some, counted, none))

  pub undone : (s : FrontStage) (b : BackStage) → Holds config w g d s b → (is_led b ≡ true) ⊎ (is_wait (ask_at b w.back) ≡ true) → is_done t ≡ false
  undone s back.InitWait h either = none_fetched s back.InitWait h h.back_at
  undone s back.MapRing h either = none_fetched s back.MapRing h h.back_at
  undone s back.Bind h either = none_fetched s back.Bind h h.back_at
  undone s back.Loop h (inl led) = absurd (true≢false (sym led))
  undone s back.Loop h (inr waits) = undone_in_loop w.back t rest held waits
  undone s (back.Abort m) h either = absurd h.back_at
  undone s back.UnmapRing h either = absurd h.back_at
  undone s back.ClosePort h either = absurd h.back_at
  undone s back.UnmapUnbound h either = absurd h.back_at
  undone s back.Halted h either = absurd h.back_at
  undone s b h (inl led) = absurd (true≢false (sym led))
  undone s b h (inr waits) = absurd (true≢false (sym waits))

  -- its number counts the entries of this epoch
  pub numbered : (s : FrontStage) (b : BackStage) → Holds config w g d s b → 1 ≤ t.number
  numbered s b h = let first : IsWork g.submitted g.series g.fetched t = All-head (IsWork g.submitted g.series g.fetched) t rest (subst (λ (works : List Work). All (IsWork g.submitted g.series g.fetched) works) held h.works.each) in first.counted
