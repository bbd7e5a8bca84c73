-- Whatever move a job makes, all that holds goes on holding.
use Rattle.std.proofs.Common.{◌≡◌, ℕ, ◌+◌, ◌<◌, ◌==◌, ◌&&◌, Bool, false, List, [], ◌∷◌, take, drop, refl, ap, sym, ◌∙◌, subst, arith, inl, inr, ◌*◌}
use Rattle.std.specs.List.{list_any}
use Rattle.std.specs.Prelude.{Option, Some, None, slice_get}
use Rattle.std.proofs.lemmas.Option.{same_Some}
use Rattle.blk_base.specs.Options.{Options}
use Rattle.blk_base.specs.declared.ask.BackAsk.{BackAsk}
use Rattle.blk_base.specs.declared.ask.BackAsk.TheVariants as ask
use Rattle.back_jobs.specs.Hands.{HasOneMore}
use Rattle.blk_base.specs.declared.ask.BackAnswer.TheVariants as answer
use Rattle.blk_base.specs.declared.moves.BackMover.TheVariants as back_mover
use Rattle.blk_base.specs.declared.parts.Mapping.{Mapping}
use Rattle.blk_base.specs.declared.operation.Status.TheVariants.{Okay, Error}
use Rattle.pipeline_laws.specs.Pipeline.{Pipeline}
use Rattle.hypervisor.specs.Act.{BackAct, Outcome, back_act}
use Rattle.blk_front.specs.declared.request.Request.{Request}
use Rattle.blk_front.specs.Request.{frames_for}
use Rattle.back_jobs.specs.declared.stage.JobStage.{JobStage}
use Rattle.back_jobs.specs.declared.stage.JobStage.TheVariants as job
use Rattle.back_jobs.specs.Work.{Work, ask_at, step_at, rest_of, next_segment}
use Rattle.back_jobs.specs.Jobs.{place_of, is_done, is_done_at, is_fresh_at, is_held_by, holds_barriers, holds_all}
use Rattle.blk_back.specs.Hands.{hands_of}
use Rattle.blk_back.specs.Step.{job_ask_of}
use Rattle.split_model.specs.World.{World}
use Rattle.split_model.specs.Safe.{AreHeld}
use Rattle.hypervisor.specs.Act.{IsGiven}
use Rattle.split_model.specs.Happening.{job_after, job_shows}
use Rattle.machine_pipeline.proofs.Flow.{Flow, own_segments, frames_of}
use Rattle.machine_pipeline.proofs.Segments.{data_frames, own_here, own_end, moves_sectors}
use Rattle.machine_pipeline.proofs.Holds.{Holds}
use Rattle.machine_pipeline.proofs.HoldsWorks.{IsMoving, IsWork, IsUnhindered, AreWorks, IsReturning}
use Rattle.machine_pipeline.proofs.Removals.{taken_has}
use Rattle.machine_pipeline.proofs.Turns.{GoesBy, nothing, does_step, JobGoes}
use Rattle.machine_pipeline.proofs.Lists.{all_at, pair_at, found_at, any_at}
use Rattle.machine_pipeline.proofs.JobMoves.{JobGoesAt, act_at, job_says, job_next, stays, hands_step, read_goes, doing_at, IsDoing, read_now, stays_at}
use Rattle.machine_pipeline.proofs.Jobs.{MayMove, held_less, hands_then}
use Rattle.machine_pipeline.proofs.JobSteps.{ends_well, ends_badly}
use Rattle.machine_pipeline.proofs.JobDisk.{disk_goes, disk_gives}
use Rattle.machine_pipeline.proofs.JobCalls.{flush_goes, trim_goes}
use Rattle.machine_pipeline.proofs.JobWrites.{write_goes}
use Rattle.machine_pipeline.proofs.JobMaps.{map_goes, map_page_goes, unmaps}
use Rattle.machine_pipeline.proofs.JobPages.{reference_goes, sectors_goes, unmap_page_goes}
use Rattle.machine_pipeline.specs.Step.{CallOf}
use Rattle.std.proofs.lemmas.Bool.{cases_lt, cases_Bool}
use Rattle.blk_layout.specs.declared.segment.Segment.{Segment}

-- a segment is done: the next one's frame is mapped, or the job is at its end
unmap_goes : {config : Options} {w : World} {g : Flow} {d : Pipeline} {p : ℕ} {t : Work} {r : Request} {m : Mapping} → IsDoing config w g d p t r (job.Unmap m) → (number : ℕ) (o : Outcome)
    → JobGoesAt config w d number p t (job.Unmap m) o
unmap_goes {config} {w} {g} {d} {p} {t} {r} {m} doing number o = elim (cases_lt (x.place + 1) (frames_for r.count)) [
  | inl more ↦
      let moved : t.moved ≡ 8 * (x.place + 1) = omega (arith, doing.at.2, x.moved) in
      let rest = own_here r (x.place + 1) doing.own.shaped more in
      let next : IsMoving (record t { rest = drop (x.place + 1) (own_segments r); within = 0; stage = job.Map }) r =
      record {
        place = x.place + 1;
        here = more;
        writes = x.writes;
        rest = refl;
        within = omega arith;
        moved = omega arith;
        disk = x.disk;
        words = x.words;
      } in
      let then : Work = record t { rest = drop (x.place + 1) (own_segments r); within = 0; stage = job.Map } in
      unmaps doing x.place in_r m then refl doing.at.1 (ap (next_segment t) (ends ∙ rest) ∙ ap (λ (l : List Segment). record t { rest = l; within = 0; stage = job.Map }) (sym rest)) refl
      refl refl refl
      (nothing (CallOf (ask_at (job.Unmap m) t) o) _ d (λ a b call. same_Some b a call.1)) (stays_at doing then refl refl (λ q was reads. read_now doing q was reads)) (next, refl) goes
  | inr past ↦
      let over : x.place + 1 ≡ frames_for r.count = let here = x.here in omega arith in
      let s = ends_well o [] doing (moves_sectors r x.place doing.own.shaped x.here) (omega (arith, doing.at.2, x.moved)) in
      unmaps doing x.place in_r {steps = s.step ∷ []} m (record t { rest = []; stage = job.Done Okay }) refl doing.at.1 (ap (next_segment t) (ends ∙ own_end r (x.place + 1) over)) refl refl refl refl
      (does_step _ [] refl s) s.now tt goes
]
  where
    x : IsReturning t r
    x = doing.at.0

    in_r : x.place < frames_of r
    in_r = data_frames r x.place doing.own.shaped x.here

    ends : rest_of t.rest ≡ drop (x.place + 1) (own_segments r)
    ends = ap rest_of (x.rest ∙ own_here r x.place doing.own.shaped x.here)

    goes : HasOneMore m (hands_then w p (step_at (job.Unmap m) t answer.Done)) (hands_of w.back)
    goes = hands_step w p t (job.Unmap m) answer.Done doing.is.place doing.stage tt

abort_goes : {config : Options} {w : World} {g : Flow} {d : Pipeline} {p : ℕ} {t : Work} {r : Request} {m : Mapping} → IsDoing config w g d p t r (job.Abort m) → (number : ℕ) (o : Outcome)
    → JobGoesAt config w d number p t (job.Abort m) o
abort_goes {w = w} {p = p} {t = t} {r = r} {m = m} doing number o =
    let s = ends_badly o doing in
    unmaps doing doing.at.0 (data_frames r doing.at.0 doing.own.shaped doing.at.1) {steps = s.step ∷ []} m (record t { stage = job.Done Error }) refl doing.at.2 refl refl refl refl refl
    (does_step _ [] refl s) s.now tt
    (hands_step w p t (job.Abort m) answer.Done doing.is.place doing.stage tt)

by_stage : (config : Options) (w : World) (g : Flow) (d : Pipeline) (number p : ℕ) (t : Work) (r : Request) (o : Outcome) (j : JobStage)
    → Holds config w g d w.front.stage w.back.stage
    → (is_done_at j ≡ false → IsDoing config w g d p t r j)
    → IsGiven o
    → JobGoesAt config w d number p t j o
by_stage config w g d number p t r o job.MapPage h doing given = map_page_goes (doing refl) number o
by_stage config w g d number p t r o (job.PageReference m) h doing given = reference_goes (doing refl) number o
by_stage config w g d number p t r o (job.PageSectors m gref) h doing given = sectors_goes (doing refl) number o
by_stage config w g d number p t r o (job.UnmapPage m) h doing given = unmap_page_goes (doing refl) number o
by_stage config w g d number p t r o job.Map h doing given = map_goes (doing refl) number o
by_stage config w g d number p t r o (job.ReadWord m k) h doing given = read_goes config w g d number p t r m k o (doing refl)
by_stage config w g d number p t r o (job.DiskWrite m) h doing given = disk_goes (doing refl) number o
by_stage config w g d number p t r o (job.DiskRead m) h doing given = disk_gives (doing refl) number o given
by_stage config w g d number p t r o (job.WriteWord m k) h doing given = write_goes (doing refl) number o
by_stage config w g d number p t r o (job.Unmap m) h doing given = unmap_goes (doing refl) number o
by_stage config w g d number p t r o (job.Abort m) h doing given = abort_goes (doing refl) number o
by_stage config w g d number p t r o (job.Done status) h doing given = stays (CallOf (ask_at (job.Done status) t) o) config w g d (λ a b call. same_Some b a call.1) h
by_stage config w g d number p t r o job.Flush h doing given = flush_goes (doing refl) number o
by_stage config w g d number p t r o (job.Trim count) h doing given = trim_goes (doing refl) number o

-- the move of the job at a place is that of its number
at_place : (config : Options) (w : World) (d : Pipeline) (number p : ℕ) (t : Work) (o : Outcome)
    → w.back.halted ≡ None
    → place_of w.back.jobs.works number ≡ Some p
    → slice_get w.back.jobs.works p ≡ Some t
    → (is_fresh_at t.stage t.moved && is_held_by (take p w.back.jobs.works) t) ≡ false
    → JobGoesAt config w d number p t t.stage o
    → JobGoes config w d number o
at_place config w d number p t o unhalted place here free goes =
    subst (λ (a : BackAsk). GoesBy None (CallOf a o) config (job_shows w number (back_act w.under (back_mover.Job number) a o)) (job_after w number (back_act w.under (back_mover.Job number) a o)) d) (sym asked) (by_act (act_at w number t t.stage o) goes)
  where
    asked : job_ask_of w.back number ≡ ask_at t.stage t
    asked = rw (unhalted, place, here, free) refl

    by_act : (x : Option BackAct) → GoesBy None (CallOf (ask_at t.stage t) o) config (job_says t t.stage x) (job_next w p t t.stage x) d → GoesBy None (CallOf (ask_at t.stage t) o) config (job_shows w number x) (job_after w number x) d
    by_act None goes = goes
    by_act (Some a) goes = rw (place, here) goes

-- a job that asks nothing stays
waits_goes : (config : Options) (w : World) (g : Flow) (d : Pipeline) (number : ℕ) (o : Outcome) → Holds config w g d w.front.stage w.back.stage → job_ask_of w.back number ≡ ask.Wait → JobGoes config w d number o
waits_goes config w g d number o h asked =
    subst (λ (a : BackAsk). GoesBy None (CallOf a o) config (job_shows w number (back_act w.under (back_mover.Job number) a o)) (job_after w number (back_act w.under (back_mover.Job number) a o)) d) (sym asked) (stays (CallOf ask.Wait o) config w g d (λ a b call. same_Some b a call.1) h)

-- one that asks something waits for none: neither at its beginning, nor once it has begun
may_move : {series : List Request} (submitted : List Request) (fetched : ℕ) (works : List Work) (p : ℕ) (t : Work) → AreWorks submitted series fetched works → slice_get works p ≡ Some t
    → (is_fresh_at t.stage t.moved && is_held_by (take p works) t) ≡ false
    → is_done t ≡ false
    → MayMove works p t
may_move submitted fetched works p t h here free undone = record {
  here = here;
  undone = undone;
  clear = λ i u before at. elim (cases_Bool (is_fresh_at t.stage t.moved)) [
    | inl fresh ↦
        let earlier = taken_has p works i u at before in
        let none : is_held_by (take p works) t ≡ false = sym (ap (λ (b : Bool). b && is_held_by (take p works) t) fresh) ∙ free in
        held_less t (holds_barriers u) (holds_all u) (list_any holds_barriers (take p works)) (list_any holds_all (take p works))
        (any_at holds_barriers (take p works) i u earlier) (any_at holds_all (take p works) i u earlier) none
    | inr begun ↦ pair_at IsUnhindered works i p u t h.clear before at here undone begun
  ];
}

pub job_kept : (config : Options) (w : World) (g : Flow) (d : Pipeline) (number : ℕ) (o : Outcome)
    → Holds config w g d w.front.stage w.back.stage
    → AreHeld w.under.grants (hands_of w.back)
    → IsGiven o
    → JobGoes config w d number o
job_kept config w g d number o h held given = by_place (place_of w.back.jobs.works number) refl
  where
    by_place : (place : Option ℕ) → place_of w.back.jobs.works number ≡ place → JobGoes config w d number o
    by_place None e = waits_goes config w g d number o h (rw (h.unhalted, e) refl)
    by_place (Some p) e =
        let found = found_at (λ (t : Work). t.number == number) w.back.jobs.works p e in
        let t : Work = found.0 in
        elim (cases_Bool (is_fresh_at t.stage t.moved && is_held_by (take p w.back.jobs.works) t)) [
          | inl waits ↦ waits_goes config w g d number o h (rw (h.unhalted, e, found.1, waits) refl)
          | inr free ↦
              let work = all_at (IsWork g.submitted g.series g.fetched) w.back.jobs.works p t h.works.each found.1 in
              at_place config w d number p t o h.unhalted e found.1 free (by_stage config w g d number p t work.r o t.stage h (λ undone.
              let free_now = may_move g.submitted g.fetched w.back.jobs.works p t h.works found.1 free undone in
              doing_at config w g d p t work.r t.stage h held (record {
                place = found.1;
                free = free_now;
                known = work.known;
                positive = work.positive;
                issued = work.issued;
                counted = work.counted;
                reached = work.reached;
                op = work.op;
              }) refl work.at) given)
        ]
