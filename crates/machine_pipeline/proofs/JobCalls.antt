-- A job flushes the disk or discards its sectors, or the disk fails at it: in the same move the job is at its end.
use Rattle.std.proofs.Common.{◌≡◌, ℕ, ◌-◌, true, false, List, [], ◌∷◌, refl, ap, sym, ◌∙◌, inl, inr, subst, arith, None}
use Rattle.std.specs.Prelude.{Some, slice_get, slice_set}
use Rattle.std.proofs.lemmas.Option.{same_Some}
use Rattle.std.proofs.lemmas.Bool.{false≢true}
use Rattle.blk_base.specs.Options.{Options}
use Rattle.blk_base.specs.declared.ask.BackAnswer.TheVariants as answer
use Rattle.blk_base.specs.declared.moves.Move.{Move as Shown}
use Rattle.blk_base.specs.declared.moves.Move.TheVariants as moves
use Rattle.blk_base.specs.declared.operation.Status.{Status}
use Rattle.blk_base.specs.declared.operation.Status.TheVariants.{Okay, Error}
use Rattle.blk_io.specs.Disk.{zeroed}
use Rattle.schedule_text.specs.declared.line.Line.{Line}
use Rattle.schedule_text.specs.declared.line.Line.TheVariants as lines
use Rattle.plain_disk.specs.Request.{places_of}
use Rattle.plain_disk.specs.Step.{is_okay}
use Rattle.hypervisor.specs.Act.{Outcome, Gave, Took, Failed as DiskFailed}
use Rattle.blk_front.specs.declared.request.Request.{Request}
use Rattle.blk_front.specs.declared.request.Transfer.{Transfer}
use Rattle.blk_front.specs.declared.request.Transfer.TheVariants as transfer
use Rattle.blk_front.specs.Request.{is_write, is_moving}
use Rattle.back_jobs.specs.declared.stage.JobStage.{JobStage}
use Rattle.back_jobs.specs.declared.stage.JobStage.TheVariants as job
use Rattle.back_jobs.specs.Work.{Work, ask_at}
use Rattle.blk_back.specs.View.{no_page}
use Rattle.blk_back.specs.Hands.{hands_of}
use Rattle.split_model.specs.World.{World}
use Rattle.pipeline_laws.specs.Station.{Working, PipelineRequest}
use Rattle.pipeline_laws.specs.Move.{Flushes, Trims, Fails, Ends, station_before}
use Rattle.pipeline_laws.specs.Pipeline.{Pipeline, next}
use Rattle.pipeline_laws.specs.Allowed.{May}
use Rattle.pipeline_laws.specs.Disk.{DiskDoes}
use Rattle.machine_pipeline.specs.Step.{IsSame, CallOf}
use Rattle.machine_pipeline.proofs.Flow.{Flow, worked, submitted_job}
use Rattle.machine_pipeline.proofs.ReadBack.{IsReadBack, ReadAt}
use Rattle.machine_pipeline.proofs.Lists.{get_set_here, set_again, set_was}
use Rattle.machine_pipeline.proofs.Turns.{GoesBy, Stepped, does_then, goes_by}
use Rattle.machine_pipeline.proofs.Jobs.{StationsWith, ascending_after, job_rests, with_job, hands_then}
use Rattle.machine_pipeline.proofs.JobMoves.{JobGoesAt, stays, work_of, hands_step, IsDoing, read_now, StepsTo}
use Rattle.machine_pipeline.proofs.JobSteps.{AreOrdered, jobs_ordered, job_moves, job_stepped, clear, lines_of}

-- a flush or a discard has one place
one_place : (way : Transfer) (sector count : ℕ) → is_moving way ≡ false → places_of (submitted_job way sector count) ≡ 1
one_place transfer.Flush sector count bare = refl
one_place (transfer.Discard sectors) sector count bare = refl
one_place way sector count bare = absurd (false≢true (sym bare))

-- jobs of which one was changed, of the same request
ordered_with : (g : Flow) (works : List Work) (p : ℕ) (t t' : Work) (r : Request) → t'.id ≡ t.id → AreOrdered g works p t r → AreOrdered g (slice_set works p t') p t' r
ordered_with g works p t t' r number are = record {
  here = get_set_here works p t t' are.here;
  known = ap (λ (n : ℕ). slice_get g.submitted (n - 1)) number ∙ are.known;
  ascending = ascending_after works p t t' are.here number are.ascending;
  positive = λ i u at. elim (set_was works p i t t' u are.here at) [
    | inl it ↦ let first = are.positive p t are.here in let same : u.id ≡ t.id = ap (λ (v : Work). v.id) it.1 ∙ number in omega arith
    | inr other ↦ are.positive i u other.1
  ];
}

module _ {config : Options} {w : World} {g : Flow} {d : Pipeline} {p : ℕ} {t : Work} {r : Request} {j : JobStage} (doing : IsDoing config w g d p t r j) where
  -- a call of the disk for no frame, after which the job is this, and then its end with that status
  called : {call : (before after : List (List ℕ)) → Type 0} {line : Line} (mid : Work) (status : Status) (shown : Shown) → mid.id ≡ t.id
      → hands_then w p (record t { stage = job.Done status }) ≡ hands_of w.back
      → (s : StepsTo call config w g d p mid (line ∷ []))
      → ((q : PipelineRequest) → q.submission ≡ submitted_job r.transfer r.sector r.count → (station_before q.submission (Ends status) ≡ worked mid.stage mid.moved) × May (next d s.step) (mid.id - 1) q (Ends status))
      → (is_okay status ≡ true → (q : PipelineRequest) → slice_get (next d s.step).requests (mid.id - 1) ≡ Some q → is_write r.transfer ≡ false → IsReadBack w.under.pages r r.count q.words)
      → GoesBy None call config (lines.Move shown ∷ line ∷ []) (with_job w p (record t { stage = job.Done status }) w.under) d
  called {call} {line} mid status shown number hands s before back =
      goes_by (does_then shown (line ∷ []) refl s end)
      (job_rests doing.holds doing.is.free refl (work_of doing.is refl refl refl tt) end.now hands)
    where
      then : Work
      then = record t { stage = job.Done status }

      are : AreOrdered g (slice_set w.back.jobs.works p mid) p mid r
      are = ordered_with g w.back.jobs.works p t mid r number (jobs_ordered config w g d p t r doing.holds doing.is)

      end : StepsTo IsSame config w g (next d s.step) p then []
      end =
          subst (λ (works : List Work). Stepped None IsSame (next d s.step) [] (λ x. StationsWith config w g x works w.under.pages)) (set_again w.back.jobs.works p mid then)
          (job_moves w then (Ends status) (sym number) refl
          (λ q was reads. (tt, λ ok. back ok q was reads)) (λ q asked. record { before = (before q asked).0; after = refl; may = (before q asked).1; disk = λ a b same. same }) s.now are)

  -- the disk did it: the one place of the request is done, and the job ends well
  does_well : {call : (before after : List (List ℕ)) → Type 0} {line : Line} (shown : Shown) → is_moving r.transfer ≡ false → worked j 1 ≡ Working 1
      → ((noted : List (List ℕ)) → ReadAt w.under.pages r 1 t.words noted j → IsReadBack w.under.pages r 0 noted)
      → hands_then w p (record t { stage = job.Done Okay }) ≡ hands_of w.back
      → StepsTo call config w g d p (record t { moved = 1; stage = j }) (line ∷ [])
      → GoesBy None call config (lines.Move shown ∷ line ∷ []) (with_job w p (record t { stage = job.Done Okay }) w.under) d
  does_well shown bare works unread hands s =
      let none = doing.own.shaped.counted.none bare in
      called (record t { moved = 1; stage = j }) Okay shown refl hands s (λ q asked. (rw works (ap (λ (n : ℕ). Working n) (ap places_of asked ∙ one_place r.transfer r.sector r.count bare)), tt))
      (λ ok q was reads. subst (λ (n : ℕ). IsReadBack w.under.pages r n q.words) (sym none)
      (unread q.words (s.now.reads.working p (record t { moved = 1; stage = j }) r q (get_set_here w.back.jobs.works p t _ doing.is.place) doing.is.known was reads)))

  -- the disk failed: between both steps the job is as one that unmaps a frame
  fails_so : {call : (before after : List (List ℕ)) → Type 0} (shown : Shown) → is_moving r.transfer ≡ false → t.moved ≡ 0 → worked j t.moved ≡ Working t.moved
      → hands_then w p (record t { stage = job.Done Error }) ≡ hands_of w.back
      → ((q : PipelineRequest) → q.submission ≡ submitted_job r.transfer r.sector r.count → (a b : List (List ℕ)) → call a b → DiskDoes q.submission (Fails t.moved) a b)
      → GoesBy None call config (lines.Move shown ∷ lines.Fault t.id t.moved ∷ []) (with_job w p (record t { stage = job.Done Error }) w.under) d
  fails_so {call} shown bare unmoved works hands disk =
      called mid Error shown refl hands (job_stepped w mid (Fails t.moved) refl (lines_of w g d p t r lines.Fault doing.is)
      (λ q was reads. (tt, λ t. absurd (false≢true t))) (λ q asked. record {
        before = sym works ∙ sym (ap (λ (s : JobStage). worked s t.moved) doing.stage);
        after = refl;
        may = (omega (arith, (ap places_of asked ∙ one_place r.transfer r.sector r.count bare), unmoved), clear config w g d p t r q doing.holds doing.is asked);
        disk = disk q asked;
      }) doing.holds doing.is) (λ q asked. (refl, tt)) (λ ok. absurd (false≢true ok))
    where
      mid : Work
      mid = record t { stage = job.Abort no_page }

-- the job of a request, by its way
job_of : {way : Transfer} (r : Request) → r.transfer ≡ way → (q : PipelineRequest) → q.submission ≡ submitted_job r.transfer r.sector r.count → q.submission ≡ submitted_job way r.sector r.count
job_of r is q asked = asked ∙ ap (λ (way : Transfer). submitted_job way r.sector r.count) is

pub flush_goes : {config : Options} {w : World} {g : Flow} {d : Pipeline} {p : ℕ} {t : Work} {r : Request} → IsDoing config w g d p t r job.Flush → (number : ℕ) (o : Outcome)
    → JobGoesAt config w d number p t job.Flush o
flush_goes {config} {w} {g} {d} {t = t} doing number (Gave words) = stays (CallOf (ask_at job.Flush t) (Gave words)) config w g d (λ a b call. same_Some b a call.1) doing.holds
flush_goes {w = w} {g = g} {d = d} {p = p} {t = t} {r = r} doing number Took =
    does_well doing (moves.DiskFlush number) (ap is_moving doing.at.0) refl (λ noted none. none) (hands_step w p t job.Flush answer.Done doing.is.place doing.stage tt)
    (job_stepped w (record t { moved = 1; stage = job.Flush }) Flushes refl (lines_of w g d p t r (λ n i. lines.Flushed n) doing.is)
    (λ q was reads. (read_now doing q was reads, λ t. absurd (false≢true t)))
    (λ q asked. record { before = rw (doing.stage, doing.at.1) refl; after = refl; may = rw (job_of r doing.at.0 q asked) refl; disk = λ a b call. same_Some b a call.1 }) doing.holds doing.is)
flush_goes {w = w} {p = p} {t = t} {r = r} doing number DiskFailed =
    fails_so doing (moves.DiskFlush number) (ap is_moving doing.at.0) doing.at.1 refl (hands_step w p t job.Flush answer.DiskFailed doing.is.place doing.stage tt)
    (λ q asked a b call. rw (job_of r doing.at.0 q asked, same_Some b a call.1) (refl, λ i out. refl))

pub trim_goes : {config : Options} {w : World} {g : Flow} {d : Pipeline} {p : ℕ} {t : Work} {r : Request} {count : ℕ} → IsDoing config w g d p t r (job.Trim count) → (number : ℕ) (o : Outcome)
    → JobGoesAt config w d number p t (job.Trim count) o
trim_goes {config} {w} {g} {d} {t = t} {count = count} doing number (Gave words) = stays (CallOf (ask_at (job.Trim count) t) (Gave words)) config w g d (λ a b call. absurd call) doing.holds
trim_goes {w = w} {g = g} {d = d} {p = p} {t = t} {r = r} {count = count} doing number Took =
    does_well doing (moves.DiskTrim number t.disk count) (ap is_moving doing.at.0) refl (λ noted none. none) (hands_step w p t (job.Trim count) answer.Done doing.is.place doing.stage tt)
    (job_stepped w (record t { moved = 1; stage = job.Trim count }) Trims refl (lines_of w g d p t r (λ n i. lines.Trimmed n) doing.is)
    (λ q was reads. (read_now doing q was reads, λ t. absurd (false≢true t)))
    (λ q asked.
    let so = job_of r doing.at.0 q asked in
    record {
      before = rw (doing.stage, doing.at.1) refl;
      after = refl;
      may = (rw so refl, clear _ w g d p t r q doing.holds doing.is asked (rw so refl));
      disk = λ a b call. rw so (same_Some b (zeroed a t.disk count) call ∙ ap (λ (sector : ℕ). zeroed a sector count) doing.at.2);
    }) doing.holds doing.is)
trim_goes {w = w} {p = p} {t = t} {r = r} {count = count} doing number DiskFailed =
    fails_so doing (moves.DiskTrim number t.disk count) (ap is_moving doing.at.0) doing.at.1 refl (hands_step w p t (job.Trim count) answer.DiskFailed doing.is.place doing.stage tt)
    (λ q asked a b call. rw (job_of r doing.at.0 q asked, sym doing.at.2) call)
