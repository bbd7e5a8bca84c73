-- The back takes the terms of its front, or halts: by how much each raises what is left.
use Rattle.std.proofs.Common.{◌≡◌, ℕ, ◌+◌, ◌-◌, ◌*◌, ◌^◌, ◌≤◌, inl, inr, Bool, true, false, if◌then◌else◌, List, [], ◌∷◌, length, refl, ap, sym, subst, arith, true≢false}
use Rattle.std.specs.Prelude.{Some}
use Rattle.blk_base.specs.Options.{Options}
use Rattle.blk_base.specs.Distance.{distance_of}
use Rattle.blk_base.specs.declared.halt.Halt.{Halt}
use Rattle.blk_base.specs.declared.parts.Mapping.{Mapping}
use Rattle.schedule_text.specs.declared.line.Line.{Line}
use Rattle.ring_words.specs.Shape.{Shape}
use Rattle.blk_front.specs.Submit.{is_ready}
use Rattle.back_jobs.specs.Work.{Work}
use Rattle.back_jobs.specs.Jobs.{first_mapping, after_mapping}
use Rattle.blk_back.specs.declared.stage.BackStage.{BackStage}
use Rattle.blk_back.specs.declared.stage.BackStage.TheVariants as stage
use Rattle.blk_back.specs.View as back
use Rattle.blk_back.specs.Ask.{is_led}
use Rattle.blk_back.specs.Step.{attached, unbound, halts, unmapping_next}
use Rattle.back_laws.specs.BackLeft.{left_of, awake_left}
use Rattle.back_laws.specs.JobLeft.{all_left}
use Rattle.pipeline_laws.specs.Pipeline.{Pipeline, after_steps}
use Rattle.split_model.specs.World.{World}
use Rattle.split_model.specs.Safe.{IsSafe}
use Rattle.split_model.specs.Happening.{BackAttaches, BackHalts, attaches_at}
use Rattle.split_model.proofs.Attaching.{attach_cases}
use Rattle.split_model.proofs.Shapes.{attaches_waiting, attaches_order, attaches_grefs}
use Rattle.split_model.proofs.States.{is_unbound, halts_cases}
use Rattle.machine_pipeline.specs.Plain.{IsPlain}
use Rattle.machine_pipeline.specs.Allowed.{AreTerms, IsFarewell}
use Rattle.machine_pipeline.proofs.Drained.{no_job_left}
use Rattle.machine_pipeline.proofs.Flow.{Flow}
use Rattle.machine_pipeline.proofs.Holds.{Holds, IsOffered}
use Rattle.machine_pipeline.proofs.Leaving.{through_is}
use Rattle.machine_pipeline.proofs.Over.{IsAborting, IsKept}
use Rattle.machine_pipeline.proofs.Slots.{few_pages}
use Rattle.ring_settle_laws.specs.Left.{back_sends, back_saw, front_part, ring_left, marks_left}
use Rattle.ring_settle_laws.specs.Stations.{requests_left}
use Rattle.ring_settle_laws.proofs.Gone.{Gone, left_after}
use Rattle.ring_settle_laws.proofs.Stations.{gone_lowers, requests_fall}
use Rattle.ring_settle_laws.proofs.BackSums.{unseen_of, same}
use Rattle.ring_settle_laws.proofs.BackServing.{few_mapped}

-- the machine with that back
abbrev backed : World → back.View → World
backed w v = record { front = w.front; back = v; under = w.under }

raised : (f l l' s s' j j' u u' m r r' n : ℕ) → l' + s' ≤ n → j' ≤ j → u' ≤ u → r' ≤ r → f + (l' + s') + j' + u' + m + r' ≤ f + (l + s) + j + u + m + r + n
raised f l l' s s' j j' u u' m r r' n left jobs unseen requests = omega arith

-- another back, with so much left to itself
raises : (w : World) (v : back.View) (d e : Pipeline) (n : ℕ) → left_of v + back_sends v.stage ≤ n → all_left v.jobs.works ≤ all_left w.back.jobs.works → unseen_of w.front v.stage v ≤ unseen_of w.front w.back.stage w.back
    → requests_left e.requests ≤ requests_left d.requests → ring_left (backed w v) e ≤ ring_left w d + n
raises w v d e n left jobs unseen requests =
    raised (front_part w.front) (left_of w.back) (left_of v) (back_sends w.back.stage) (back_sends v.stage) (all_left w.back.jobs.works) (all_left v.jobs.works) (unseen_of w.front w.back.stage w.back) (unseen_of w.front v.stage v)
    (marks_left w.under.channels) (requests_left d.requests) (requests_left e.requests) n left jobs unseen requests

stays : (w : World) (d e : Pipeline) (n : ℕ) → requests_left e.requests ≤ requests_left d.requests → ring_left w e ≤ ring_left w d + n
stays w d e n requests = omega (arith, requests)

waking : (b : Bool) → awake_left b ≤ 4
waking true = omega arith
waking false = omega arith

attached_left : (awake grefs pages dist jobs : ℕ) → awake ≤ 4 → grefs ≤ 16 → dist ≡ 0 → jobs ≡ 0 → (grefs - pages) + 17 + (awake + (35 * dist + 7 * jobs)) + 0 ≤ 37
attached_left awake grefs pages dist jobs up few none no_job = omega arith

module _ (config : Options) (w : World) (d e : Pipeline) (shape : Shape) (grefs : List ℕ) (port : ℕ) (requests : requests_left e.requests ≤ requests_left d.requests) where
  -- a back that waits for the terms has seen no request, before the front is connected
  takes_left : (g : Flow) → shape.order ≤ 4 → length grefs ≡ 2 ^ shape.order → is_ready w.front.stage ≡ false → w.back.stage ≡ stage.InitWait → Holds config w g d w.front.stage stage.InitWait → ring_left (backed w (attached shape grefs port w.back)) e ≤ ring_left w d + 37
  takes_left g narrow all unready at h =
      let x = h.indices in
      let none : g.pushed ≡ 0 = subst (λ (b : Bool). IsOffered b config w.front.offers g.pushed) unready h.offered in
      let fetched : g.fetched ≡ 0 = h.back_at in
      let v : back.View = attached shape grefs port w.back in
      let no_distance : distance_of w.back.ring.indices.prod w.back.ring.seen ≡ 0 = omega (arith, x.replied, x.back_saw, x.replied_fetched, x.back_to) in
      let no_job : length w.back.jobs.works ≡ 0 = omega (arith, h.counted) in
      raises w v d e 37
      (attached_left (awake_left w.back.ring.asleep) (length grefs) (length w.back.pages) (distance_of w.back.ring.indices.prod w.back.ring.seen) (length w.back.jobs.works) (waking w.back.ring.asleep) (omega (arith, all, few_pages shape.order narrow)) no_distance no_job)
      (same _) (rw at (same _)) requests

  attached_raises : AreTerms w shape grefs port → (is_led w.back.stage ≡ true → is_ready w.front.stage ≡ false) → IsKept config w d
      → ring_left (record { front = w.front; back = if attaches_at w shape grefs then attached shape grefs port w.back else w.back; under = w.under }) e ≤ ring_left w d + 37
  attached_raises terms unready kept = attach_cases (λ (v : back.View) (said : List Line). ring_left (backed w v) e ≤ ring_left w d + 37) w shape grefs port
      (λ may layout says.
      let at : w.back.stage ≡ stage.InitWait = attaches_waiting shape grefs w.back may in
      elim kept [
        | inl held ↦ takes_left held.0 (attaches_order shape grefs w.back may) (attaches_grefs shape grefs w.back may) (unready (ap is_led at)) at (subst (Holds config w held.0 d w.front.stage) at held.1)
        | inr over ↦ absurd (subst (IsAborting w.back.pages) at over.back_at)
      ])
      (stays w d e 37 requests)

-- it takes the terms of its front, which hasn't connected before its back has: it will map the ring's pages, bind its port and look
pub attaches_left : (config : Options) (w : World) (d : Pipeline) (shape : Shape) (grefs : List ℕ) (port : ℕ) → IsPlain config → IsSafe w → IsKept config w d → AreTerms w shape grefs port → (is_led w.back.stage ≡ true → is_ready w.front.stage ≡ false)
    → (gone : Gone config w d (BackAttaches shape grefs port)) → left_after config w d (BackAttaches shape grefs port) gone ≤ ring_left w d + 37
attaches_left config w d shape grefs port plain safe kept terms unready gone =
    let e : Pipeline = after_steps gone.steps d in
    attached_raises config w d e shape grefs port (requests_fall d.requests e.requests (gone_lowers config w d (BackAttaches shape grefs port) tt gone)) terms unready kept

module _ (config : Options) (w : World) (d e : Pipeline) (why : Halt) (requests : requests_left e.requests ≤ requests_left d.requests) where
  abbrev Raises : back.View → Type 0
  Raises v = ring_left (backed w v) e ≤ ring_left w d + 19

  -- a back that isn't bound unmaps what it mapped
  unbound_saw : (b : BackStage) → is_unbound b ≡ true → back_saw b w.back ≡ w.back.ring.seen
  unbound_saw stage.InitWait un = refl
  unbound_saw stage.MapRing un = refl
  unbound_saw b un = absurd (true≢false (sym un))

  unbound_raises : is_unbound w.back.stage ≡ true → length w.back.pages ≤ 16 → Raises (record w.back { halted = Some why; stage = unbound w.back.pages })
  unbound_raises un few = by_pages w.back.pages
    where
      saw : back_saw w.back.stage w.back ≡ w.back.ring.seen
      saw = unbound_saw w.back.stage un

      by_pages : (pages : List Mapping) → Raises (record w.back { halted = Some why; stage = unbound pages })
      by_pages [] = raises w (record w.back { halted = Some why; stage = stage.Halted }) d e 19 (omega arith) (same _) (rw saw (same _)) requests
      by_pages (m ∷ pages) = raises w (record w.back { halted = Some why; stage = stage.UnmapUnbound }) d e 19 (omega (arith, few)) (same _) (rw saw (same _)) requests

  -- one that is bound closes its port too
  bound_raises : (works : List Work) → works ≡ [] → w.back.stage ≡ stage.Loop → length w.back.pages ≤ 16 → Raises (let v : back.View = w.back in record v { halted = Some why; stage = unmapping_next (first_mapping works); jobs = record v.jobs { works = after_mapping works } })
  bound_raises works none at few = subst (λ (works : List Work). Raises (let v : back.View = w.back in record v { halted = Some why; stage = unmapping_next (first_mapping works); jobs = record v.jobs { works = after_mapping works } })) (sym none)
      (raises w (let v : back.View = w.back in record v { halted = Some why; stage = stage.UnmapRing; jobs = record v.jobs { works = [] } }) d e 19 (omega (arith, few)) (omega arith) (rw at (same _)) requests)

  halts_raises : IsFarewell w why → IsKept config w d → Raises (halts why w.back)
  halts_raises farewell kept = elim kept [
    | inl held ↦
        let h : Holds config w held.0 d w.front.stage w.back.stage = held.1 in
        let few : length w.back.pages ≤ 16 = few_mapped w.back.stage held.0.shape.order (length w.back.pages) h.shaped.narrow h.paged.mapped in
        let no_job : w.back.jobs.works ≡ [] = no_job_left config w held.0 d w.front.stage w.back.stage h (through_is w.front.closing (length w.front.requests) farewell.through).none in
        halts_cases Raises why w.back (λ un. unbound_raises un few) (λ at. bound_raises w.back.jobs.works no_job at few) (stays w d e 19 requests)
    | inr over ↦ halts_cases Raises why w.back (λ un. absurd (still_bound w.back.stage un over.back_at)) (λ at. absurd (subst (IsAborting w.back.pages) at over.back_at)) (stays w d e 19 requests)
  ]
    where
      still_bound : (b : BackStage) → is_unbound b ≡ true → IsAborting w.back.pages b → ⊥
      still_bound stage.InitWait un at = at
      still_bound stage.MapRing un at = at
      still_bound b un at = true≢false (sym un)

-- it halts: it unmaps the ring's pages, 16 at most, and closes its port, and no job is left
pub halts_left : (config : Options) (w : World) (d : Pipeline) (why : Halt) → IsPlain config → IsSafe w → IsKept config w d → IsFarewell w why → (gone : Gone config w d (BackHalts why)) → left_after config w d (BackHalts why) gone ≤ ring_left w d + 19
halts_left config w d why plain safe kept farewell gone =
    let e : Pipeline = after_steps gone.steps d in
    halts_raises config w d e why (requests_fall d.requests e.requests (gone_lowers config w d (BackHalts why) tt gone)) farewell kept
