-- In the loop the lowest job that is done is taken, and its response begun.
use Rattle.std.proofs.Common.{◌≡◌, ◌≢◌, ℕ, ◌-◌, ◌<◌, List, [], ◌∷◌, ◌++◌, length, refl, ap, sym, subst, ◌∙◌, arith, false}
use Rattle.std.specs.Prelude.{All, AllPairs, Option, Some, None, slice_get, option_and_then, position}
use Rattle.std.specs.List.{remove}
use Rattle.std.proofs.lemmas.Option.{none-some, same_Some, slice_get_within, get_or_from_slice_get}
use Rattle.std.proofs.lemmas.List.Quantifiers.{all_pairs_remove}
use Rattle.blk_base.specs.Options.{Options}
use Rattle.blk_base.specs.declared.parts.Mapping.{Mapping}
use Rattle.blk_base.specs.declared.ask.BackAnswer.{BackAnswer}
use Rattle.blk_base.specs.declared.moves.Move.{Move as Shown}
use Rattle.schedule_text.specs.declared.line.Line.TheVariants.{Move}
use Rattle.pipeline_laws.specs.Pipeline.{Pipeline}
use Rattle.xen_pages.specs.Pages.{with_word}
use Rattle.hypervisor.specs.Act.{with_pages}
use Rattle.back_jobs.specs.Work.{Work}
use Rattle.back_jobs.specs.Jobs.{HeldJobs}
use Rattle.blk_front.specs.declared.request.Request.{Request}
use Rattle.blk_front.specs.View.{slot_frame, slot_word}
use Rattle.blk_back.specs.declared.stage.Reply.{Reply}
use Rattle.blk_back.specs.declared.stage.BackStage.TheVariants as stage
use Rattle.blk_back.specs.Ask.{response_word, next_reply, reply_of}
use Rattle.blk_back.specs.Step.{fetched}
use Rattle.split_model.specs.World.{World}
use Rattle.split_model.specs.Shown.{back_lines, halt_lines}
use Rattle.machine_pipeline.proofs.Flow.{Flow, worked}
use Rattle.machine_pipeline.proofs.Holds.{Holds, AreSubmitted, IsReplying}
use Rattle.machine_pipeline.proofs.HoldsWorks.{IsUnhindered, AreWorks, IsWork}
use Rattle.machine_pipeline.specs.Step.{IsSame}
use Rattle.machine_pipeline.proofs.Turns.{Goes, Stepped, does_step}
use Rattle.machine_pipeline.proofs.Lists.{all_at, all_from}
use Rattle.machine_pipeline.proofs.StationsBack.{begins_response, other_id}
use Rattle.machine_pipeline.proofs.BackStill.{BackStands, StationsOf}
use Rattle.std.proofs.lemmas.List.Edits.{length-remove}
use Rattle.back_jobs.specs.declared.stage.JobStage.{JobStage}
use Rattle.back_jobs.specs.declared.stage.JobStage.TheVariants as job
use Rattle.back_jobs.specs.Jobs.{is_done, work_at, response_of, response_at, removed_at, without_done}
use Rattle.back_jobs.proofs.Hands.{done_hands}
use Rattle.machine_pipeline.proofs.BackBegins.{small_operation}
use Rattle.machine_pipeline.proofs.BackReplies.{goes_word}
use Rattle.machine_pipeline.proofs.Removals.{removed_was}

-- what holds of each element holds of those but one
all_remove : {X : Type 0} → (P : X → Type 0) (xs : List X) (n : ℕ) → All P xs → All P (remove xs n)
all_remove P xs n all = all_from P (remove xs n) (λ i y e. let was = removed_was xs n i y e in all_at P xs was.0 y all was.2)

-- in an ascending list each other number is another one
others_apart : (works : List Work) (n : ℕ) (t : Work) → slice_get works n ≡ Some t → AllPairs (λ (a b : Work). a.id < b.id) works → All (λ (u : Work). u.id ≢ t.id) (remove works n)
others_apart works n t at up = all_from (λ (u : Work). u.id ≢ t.id) (remove works n) (λ i u e. let was = removed_was works n i u e in other_id works n was.0 t u up was.1 at was.2)

-- the lowest job that is done, whose response this is
pub record IsLowestDone (works : List Work) (rep : Reply) : Type 0 where
  pub place : ℕ
  pub t : Work
  pub found : position (λ (u : Work). is_done u) works ≡ Some place
  pub at : slice_get works place ≡ Some t
  pub stage : t.stage ≡ job.Done rep.status
  pub id : rep.id ≡ t.id
  pub op : rep.op ≡ t.op

pub lowest_done : (works : List Work) (rep : Reply) (place : Option ℕ) → position (λ (u : Work). is_done u) works ≡ place → reply_of (option_and_then response_of (work_at works place)) ≡ Some rep → IsLowestDone works rep
lowest_done works rep None found e = absurd (none-some rep e)
lowest_done works rep (Some place) found e = by_work (slice_get works place) refl e
  where
    by_stage : (t : Work) (s : JobStage) → slice_get works place ≡ Some t → t.stage ≡ s → reply_of (response_at s t) ≡ Some rep → IsLowestDone works rep
    by_stage t (job.Done status) at is e =
        let same : (let r : Reply = record { id = t.id; op = t.op; status = status } in r ≡ rep) = same_Some (record { id = t.id; op = t.op; status = status }) rep e in
        record {
          place = place;
          t = t;
          found = found;
          at = at;
          stage = is ∙ ap (λ (r : Reply). job.Done r.status) same;
          id = ap (λ (r : Reply). r.id) (sym same);
          op = ap (λ (r : Reply). r.op) (sym same);
        }
    by_stage t s at is e = absurd (none-some rep e)

    by_work : (found : Option Work) → slice_get works place ≡ found → reply_of (option_and_then response_of found) ≡ Some rep → IsLowestDone works rep
    by_work None at e = absurd (none-some rep e)
    by_work (Some t) at e = by_stage t t.stage at refl e

-- the job's result is taken: what is known of its response
pub replying : {series : List Request} (submitted : List Request) (sectors last fetched : ℕ) (works : List Work) (rep : Reply) (l : IsLowestDone works rep) → AreSubmitted submitted sectors last → AreWorks submitted series fetched works → IsReplying series fetched (remove works l.place) rep
replying {series} submitted sectors last fetched works rep l all h =
    let t : Work = l.t in
    let within : l.place < length works = slice_get_within works l.place t l.at in
    let is : IsWork submitted series fetched t = subst (λ (u : Work). IsWork submitted series fetched u) (get_or_from_slice_get works l.place t t l.at) (h.each l.place t within) in
    let numbered = all.each (t.id - 1) is.r is.known in
    record {
      positive = omega (arith, is.positive);
      reached = record { r = is.r; among = record { index = t.number - 1; early = omega (arith, is.reached, is.counted); at = is.issued }; same = omega (arith, numbered.number, is.positive, l.id) };
      op = omega (arith, is.op, l.op, small_operation is.r.transfer);
      alone = subst (λ (k : ℕ). All (λ (u : Work). u.id ≢ k) (remove works l.place)) (sym l.id) (others_apart works l.place t l.at h.ascending);
    }

pub goes_reply : (config : Options) (w : World) (g : Flow) (d : Pipeline) (rep : Reply) (frame : ℕ) (shown : Shown) (given : BackAnswer)
    → BackStands config w g d stage.Loop
    → frame ≡ slot_frame g.shape w.back.ring.indices.prod 0
    → next_reply w.back ≡ Some rep
    → Goes config (Move shown ∷ back_lines w.back.told given ++ halt_lines w.back.halted w.back.halted) (record { front = w.front; back = record w.back { jobs = without_done w.back.jobs; stage = stage.ReplyHigh rep; told = None }; under = with_pages w.under (with_word w.under.pages frame (slot_word w.back.shape w.back.ring.indices.prod 0) (response_word rep 0)) }) d
goes_reply config w g d rep frame shown given p placed e =
    goes_word config w g d (s.step ∷ []) stage.Loop (stage.ReplyHigh rep) rep 0 (without_done w.back.jobs) frame shown given (does_step shown (back_lines w.back.told given ++ halt_lines w.back.halted w.back.halted) (rw (p.untold, h.unhalted) refl) s) p
    (record { few = omega arith; here = refl; upto = refl; bound = refl; bound_still = refl; unarmed = refl; sleeps = refl })
    placed (λ s. s) (λ j lt. absurd (omega arith))
    (rw gone s.now)
    (rw gone (record {
      each = all_remove (IsWork g.submitted g.series g.fetched) works l.place h.works.each;
      ascending = all_pairs_remove (λ (a b : Work). a.id < b.id) works l.place within h.works.ascending;
      clear = all_pairs_remove IsUnhindered works l.place within h.works.clear;
    }))
    (rw gone (omega (arith, length-remove works l.place within, h.counted)))
    refl
    (rw gone (replying g.submitted config.sectors w.front.last g.fetched works rep l h.submitted h.works))
    (ap (λ (m : List Mapping). m ++ w.back.pages) (done_hands w.back.jobs))
  where
    h : Holds config w g d w.front.stage stage.Loop
    h = p.holds

    works : List Work
    works = w.back.jobs.works

    l : IsLowestDone works rep
    l = lowest_done works rep (position (λ (u : Work). is_done u) works) refl e

    within : l.place < length works
    within = slice_get_within works l.place l.t l.at

    gone : (let j : HeldJobs = without_done w.back.jobs in j.works) ≡ remove works l.place
    gone = ap (λ (place : Option ℕ). removed_at works place) l.found

    is : IsWork g.submitted g.series g.fetched l.t
    is = all_at (IsWork g.submitted g.series g.fetched) works l.place l.t h.works.each l.at

    s : Stepped None IsSame d [] (λ x. StationsOf config w g x false (Some rep) (remove works l.place) w.under.pages)
    s = begins_response l.place l.t rep l.at (ap (λ (j : JobStage). worked j l.t.moved) l.stage) l.id h.works.ascending
        (λ i u at. (all_at (IsWork g.submitted g.series g.fetched) works i u h.works.each at).positive) h.stations
