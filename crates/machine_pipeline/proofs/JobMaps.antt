-- A job maps a frame of its request, and unmaps it: what that makes of all that holds.
use Rattle.std.proofs.Common.{◌≡◌, ◌≢◌, ℕ, ◌+◌, ◌*◌, ◌/◌, ◌%◌, ◌<◌, ◌==◌, ◌&&◌, inl, inr, Bool, true, false, cond, List, [], ◌∷◌, ◌++◌, refl, ap, sym, ◌∙◌, subst, arith, length-set, ◌-◌}
use Rattle.std.specs.Prelude.{Option, Some, None, slice_get, slice_set, count_by, nat_lt, Result, Ok}
use Rattle.std.proofs.lemmas.Option.{none-some, same_Some, slice_get-get_or}
use Rattle.std.proofs.lemmas.List.Sums.{sum_by-cons, sum_by-append}
use Rattle.std.proofs.lemmas.Bool.Decides.{nat_tests}
use Rattle.blk_base.specs.Options.{Options}
use Rattle.blk_base.specs.declared.ask.BackAsk.{BackAsk}
use Rattle.blk_base.specs.declared.ask.BackAsk.TheVariants as ask
use Rattle.blk_base.specs.declared.ask.BackAnswer.TheVariants as answer
use Rattle.blk_base.specs.declared.moves.BackMover.TheVariants as back_mover
use Rattle.blk_base.specs.declared.parts.Mapping.{Mapping}
use Rattle.grant_table.specs.declared.held.Held.{Held}
use Rattle.grant_table.specs.declared.entry.MapRefusal.{MapRefusal}
use Rattle.blk_base.specs.declared.moves.Move.TheVariants as moves
use Rattle.grant_table.specs.Entry.{verdict_of, mapped_entry, unmapped_entry, is_for_writing}
use Rattle.grant_table.specs.Table.{GrantTable, entry_word0, entry_word1, with_entry_word0, mappings_of, writers_of, without, next_mapping, verdict_at, unmap_pages, unmap_table}
use Rattle.pipeline_laws.specs.Station.{PipelineRequest}
use Rattle.pipeline_laws.specs.Pipeline.{Pipeline, Step, after_steps}
use Rattle.hypervisor.specs.Hypervisor.{Hypervisor}
use Rattle.hypervisor.specs.Act.{BackAct, Outcome, back_act, map_act}
use Rattle.blk_front.specs.declared.request.Request.{Request}
use Rattle.blk_front.specs.Request.{is_write, flags_at, frames_for, reference_in, frame_at}
use Rattle.blk_layout.specs.declared.segment.Segment.{Segment}
use Rattle.back_jobs.specs.declared.stage.JobStage.{JobStage}
use Rattle.back_jobs.specs.declared.stage.JobStage.TheVariants as job
use Rattle.back_jobs.specs.Work.{Work, mode_of, map_ask, page_ask, sector_stage, ask_at, step_at, IsAnswer}
use Rattle.back_jobs.specs.Jobs.{mapping_at, effect_at}
use Rattle.back_jobs.specs.Hands.{HandsAfter, HasOneMore}
use Rattle.blk_back.specs.Hands.{hands_of}
use Rattle.split_model.specs.World.{World}
use Rattle.machine_pipeline.proofs.Flow.{Flow, frames_of, worked}
use Rattle.machine_pipeline.proofs.Segments.{data_frames, own_here, few_pages_for, page_here}
use Rattle.machine_pipeline.proofs.Data.{pooled_at}
use Rattle.machine_pipeline.proofs.Holds.{Holds, IsPooled, IsGranted, AreMapped, mapped_at, flags_with}
use Rattle.machine_pipeline.proofs.HoldsWorks.{IsHand, IsCopying, is_only_read, AtWork, IsWork, IsMoving}
use Rattle.machine_pipeline.proofs.ReadBack.{ReadAt}
use Rattle.machine_pipeline.proofs.Turns.{GoesBy, nothing, goes_by}
use Rattle.machine_pipeline.proofs.Lists.{all_at, set_was}
use Rattle.machine_pipeline.proofs.Hands.{frames_apart, own_apart, ending_apart}
use Rattle.machine_pipeline.proofs.Frames.{is_submitted, unmapped, none_in_hands}
use Rattle.machine_pipeline.proofs.Mapped.{mapped_more, mapped_less, hands_more, mapped_beside}
use Rattle.machine_pipeline.proofs.Kept.{other_frame, other_entry}
use Rattle.machine_pipeline.proofs.BackStill.{revoking_ends, ending_submitted}
use Rattle.machine_pipeline.proofs.JobGrants.{may_map, set_flags, cleared_flags, entries_marked}
use Rattle.machine_pipeline.proofs.Jobs.{StationsWith, job_holds, with_job, hands_then}
use Rattle.machine_pipeline.proofs.StationsBack.{other_id}
use Rattle.machine_pipeline.proofs.JobMoves.{IsOwn, JobGoesAt, job_says, job_next, work_of, live_hand, hands_step, IsDoing, read_now, stays_at, worked_further}
use Rattle.machine_pipeline.specs.Step.{CallOf, Does}
use Rattle.std.proofs.lemmas.Bool.{cases_eq}
use Rattle.schedule_text.specs.declared.line.Line.{Line}

-- how many mappings a reference has beside one more
more_mappings : (gref : ℕ) (live : List Held) (x : Held) → mappings_of gref (live ++ x ∷ []) ≡ mappings_of gref live + cond (x.mapping.gref == gref) 1 0
more_mappings gref live x =
    let all = sum_by-append (λ (y : Held). cond (y.mapping.gref == gref) 1 0) live (x ∷ []) in
    omega (arith, sum_by-cons (λ (y : Held). cond (y.mapping.gref == gref) 1 0) x [])

-- a frame of data is only read where it is a write's; an indirect page is
pub only_data : (r : Request) (place : ℕ) → place < frames_for r.count → is_only_read r place ≡ is_write r.transfer
only_data r place lt = let in_data : nat_lt place (frames_for r.count) ≡ true = grind (arith, nat_tests) in rw in_data refl

pub only_page : (r : Request) (page : ℕ) → is_only_read r (frames_for r.count + page) ≡ true
only_page r page = let beyond : nat_lt (frames_for r.count + page) (frames_for r.count) ≡ false = grind (arith, nat_tests) in rw beyond refl

-- a job's request, and one of its frames
module _ {config : Options} {w : World} {g : Flow} {d : Pipeline} {p : ℕ} {t : Work} {r : Request} {j : JobStage} (doing : IsDoing config w g d p t r j) (place : ℕ) (here : place < frames_of r) where
  abbrev frame : ℕ
  frame = frame_at r place

  abbrev marked : ℕ → List ℕ
  marked flags = with_entry_word0 w.under.pages (frame + 6) flags

  pooled : IsPooled frame
  pooled = pooled_at r doing.own.frames place

  granted : IsGranted g.series g.pushed w.under.pages w.under.grants.live w.front.stage r
  granted = all_at (IsGranted g.series g.pushed w.under.pages w.under.grants.live w.front.stage) w.front.requests doing.own.place r doing.holds.entries.each doing.own.at

  -- what holds goes on holding as the flags of its entry are made anew, by its mappings then
  marks : (d' : Pipeline) (t' : Work) (flags : ℕ) (grants' : GrantTable) → t'.id ≡ t.id
      → StationsWith config w g d' (slice_set w.back.jobs.works p t') w.under.pages
      → IsWork g.submitted g.series g.fetched t'
      → flags ≡ flags_with r place (mappings_of (frame + 6) grants'.live)
      → ((f : ℕ) → f ≢ frame → mappings_of (f + 6) grants'.live ≡ mappings_of (f + 6) w.under.grants.live)
      → AreMapped grants'.live (hands_then w p t')
      → Holds config (with_job w p t' (record w.under { pages = marked flags; grants = grants' })) g d' w.front.stage w.back.stage
  marks d' t' flags grants' number stations now same others mapped =
      job_holds doing.holds doing.is.free number now (marked flags) grants' stations
      (length-set w.under.pages ((frame + 6) / 512 * 1024 + 2 * ((frame + 6) % 512)) flags ∙ doing.holds.memory)
      (λ f low high. other_frame w.under.pages ((frame + 6) / 512) (2 * ((frame + 6) % 512)) flags f (omega arith) (omega (arith, pooled.1)))
      (λ page lt. other_entry w.under.pages (frame + 6) (8 + page) flags (omega (arith, pooled.1)) (omega arith) (omega (arith, pooled.0)))
      (λ f low high. other_frame w.under.pages ((frame + 6) / 512) (2 * ((frame + 6) % 512)) flags f (omega arith) (omega (arith, pooled.1)))
      (entries_marked g.pushed w.under.pages w.under.grants.live grants'.live w.front.stage w.front.ending w.front.requests own.place r place flags doing.holds.memory own.at own.reached own.begun
      pooled.1 same others
      (λ k x e b. (pooled_at x (is_submitted config w g d w.front.stage w.back.stage doing.holds k x e).frames b).1)
      (λ b off in_b. own_apart _ _ _ own.place r doing.holds.pool own.at b place off in_b here (pooled_at r own.frames b))
      (λ k x off e b in_x. frames_apart _ _ _ k own.place x r doing.holds.pool off e own.at b place in_x here
      (pooled_at x (is_submitted config w g d w.front.stage w.back.stage doing.holds k x e).frames b))
      (λ e revoked b in_e.
      let ends = revoking_ends w.front.stage w.front.ending e revoked in
      let apart = ending_apart w.front.pool w.front.requests e own.place r (rw ends at doing.holds.pool) own.at place b here in_e pooled in
      ((pooled_at e.request (ending_submitted config w g d w.front.stage w.back.stage e doing.holds ends).frames b).1, λ t. apart (sym t)))
      doing.holds.entries)
      mapped
    where
      own : IsOwn w g t r
      own = doing.own

  -- the mapping that a map of the frame makes, and what lies under both ends then
  abbrev made : Mapping
  made = next_mapping w.under.grants (frame + 6) (mode_of (is_only_read r place))

  abbrev held : Held
  held = record { mapping = made; frame = frame }

  abbrev mapped : Hypervisor
  mapped = record w.under { pages = marked (mapped_at r place); grants = record { made = w.under.grants.made + 1; live = w.under.grants.live ++ held ∷ [] } }

  abbrev act_with : ℕ → BackAct
  act_with number = record { answer = answer.Mapped made; under = mapped; shown = moves.Map (back_mover.Job number) (frame + 6) (mode_of (is_only_read r place)) (w.under.grants.made + 1) frame }

  -- where the job has nothing in its hand no job has a mapping of the frame
  no_mapping : mapping_at t.stage ≡ None → mappings_of (frame + 6) w.under.grants.live ≡ 0
  no_mapping bare =
      unmapped config w g d w.front.stage w.back.stage doing.holds doing.own.place r doing.own.at place here alone (λ (y : Mapping). y.gref == frame + 6) (λ y apart. grind (arith, nat_tests))
    where
      alone : (i : ℕ) (u : Work) → slice_get w.back.jobs.works i ≡ Some u → u.id ≡ r.number → mapping_at u.stage ≡ None
      alone i u f same = elim (cases_eq i p) [
        | inl at ↦ rw (same_Some u t (sym f ∙ (ap (slice_get w.back.jobs.works) at ∙ doing.is.place))) bare
        | inr other ↦ absurd (other_id w.back.jobs.works p i t u doing.holds.works.ascending other doing.is.place f (same ∙ doing.own.number))
      ]

  -- so it is granted, and may be mapped
  acted_so : (number : ℕ) (o : Outcome) → mapping_at t.stage ≡ None → back_act w.under (back_mover.Job number) (ask.Map (frame + 6) (mode_of (is_only_read r place))) o ≡ Some (act_with number)
  acted_so number o bare =
      ap (λ (y : Result ℕ MapRefusal). Some (map_act w.under (back_mover.Job number) (frame + 6) (mode_of (is_only_read r place)) y)) verdict
      ∙ ap (λ (n : ℕ). Some (record (act_with number) { under = record mapped { pages = marked n } })) (ap (λ (n : ℕ). mapped_entry n (mode_of (is_only_read r place))) flags ∙ set_flags r place)
    where
      flags : entry_word0 w.under.pages (frame + 6) ≡ flags_at r place
      flags = granted.flags doing.own.reached place here ∙ ap (λ (n : ℕ). flags_with r place n) (no_mapping bare)

      verdict : verdict_at w.under.pages (frame + 6) (mode_of (is_only_read r place)) ≡ Ok frame
      verdict =
          ap (λ (n : ℕ). verdict_of (frame + 6) n (entry_word1 w.under.pages (frame + 6)) (mode_of (is_only_read r place))) flags
          ∙ (ap (λ (n : ℕ). verdict_of (frame + 6) (flags_at r place) n (mode_of (is_only_read r place))) (granted.named doing.own.reached place here)
          ∙ may_map r place frame (omega (arith, pooled.0)) pooled.1)

  -- the job maps the frame and is at its next stage, of the same station
  maps : (number : ℕ) (o : Outcome) (later : Work) → mapping_at j ≡ None
      → ask_at j t ≡ ask.Map (frame + 6) (mode_of (is_only_read r place))
      → step_at j t (answer.Mapped made) ≡ later → effect_at j t (answer.Mapped made) ≡ None
      → later.number ≡ t.number → later.id ≡ t.id → later.op ≡ t.op
      → worked later.stage later.moved ≡ worked j t.moved
      → ((q : PipelineRequest) → slice_get d.requests (t.id - 1) ≡ Some q → is_write r.transfer ≡ false → ReadAt w.under.pages r later.moved later.words q.words later.stage)
      → AtWork r later later.stage
      → JobGoesAt config w d number p t j o
  maps number o later none asked stepped silent numbered kept op same reads at =
      subst (λ (x : Option BackAct). GoesBy None (CallOf (ask_at j t) o) config (job_says t j x) (job_next w p t j x) d) (sym acted)
      (rw silent (goes_by (nothing (CallOf (ask_at j t) o) _ d (λ a b call. same_Some b a (subst (λ (x : BackAsk). CallOf x o a b) asked call).1))
      (subst (λ (x : Work). Holds config (with_job w p x mapped) g d w.front.stage w.back.stage) (sym stepped)
      (marks d later (mapped_at r place) mapped.grants kept (stays_at doing later kept same reads) (work_of doing.is numbered kept op at) counted others
      (mapped_more w.under.grants.live (hands_of w.back) (hands_then w p later) made frame refl comes doing.holds.mapped)))))
    where
      bare : mapping_at t.stage ≡ None
      bare = ap mapping_at doing.stage ∙ none

      acted : back_act w.under (back_mover.Job number) (ask_at j t) o ≡ Some (act_with number)
      acted = ap (λ (a : BackAsk). back_act w.under (back_mover.Job number) a o) asked ∙ acted_so number o bare

      counted : mapped_at r place ≡ flags_with r place (mappings_of (frame + 6) mapped.grants.live)
      counted =
          let same : (frame + 6 == frame + 6) ≡ true = grind (arith, nat_tests) in
          let one : ◌≡◌ {A = ℕ} (cond (frame + 6 == frame + 6) 1 0) 1 = rw same refl in
          let free = no_mapping bare in
          let all : mappings_of (frame + 6) mapped.grants.live ≡ 1 = more_mappings (frame + 6) w.under.grants.live held ∙ omega arith in
          sym (ap (λ (n : ℕ). flags_with r place n) all)

      others : (f : ℕ) → f ≢ frame → mappings_of (f + 6) mapped.grants.live ≡ mappings_of (f + 6) w.under.grants.live
      others f apart = mapped_beside w.under.grants.live held (f + 6) (omega arith)

      comes : HasOneMore made (hands_of w.back) (hands_then w p later)
      comes =
          subst (λ (x : Work). HasOneMore made (hands_of w.back) (hands_then w p x)) stepped
          (subst (λ (a : BackAsk). HandsAfter a (answer.Mapped made) (hands_of w.back) (hands_then w p (step_at j t (answer.Mapped made)))) asked
          (hands_step w p t j (answer.Mapped made) doing.is.place doing.stage (subst (λ (a : BackAsk). IsAnswer a (answer.Mapped made)) (sym asked) (refl, refl))))

  -- the job unmaps what it mapped and is at its next stage: a step of the pipeline, or nothing to it
  pub unmaps : {call : (before after : List (List ℕ)) → Type 0} {said : List Line} {steps : List Step} (m : Mapping) (t' : Work) → mapping_at j ≡ Some m → IsHand m r place
      → step_at j t answer.Done ≡ t'
      → mapping_at t'.stage ≡ None
      → t'.number ≡ t.number → t'.id ≡ t.id → t'.op ≡ t.op
      → Does None call said d steps
      → StationsWith config w g (after_steps steps d) (slice_set w.back.jobs.works p t') w.under.pages
      → AtWork r t' t'.stage
      → HasOneMore m (hands_then w p (step_at j t answer.Done)) (hands_of w.back)
      → GoesBy None call config said (with_job w p (step_at j t answer.Done) (record w.under { pages = unmap_pages w.under.grants w.under.pages m; grants = unmap_table w.under.grants m })) d
  unmaps {call} {said} {steps} m t' has hand stepped none numbered number op does stations at goes =
      subst (λ (x : Work). GoesBy None call config said (with_job w p x (record w.under { pages = unmap_pages w.under.grants w.under.pages m; grants = unmap_table w.under.grants m })) d)
      (sym stepped) (goes_by does
      (subst (λ (pages : List ℕ). Holds config (with_job w p t' (record w.under { pages = pages; grants = unmap_table w.under.grants m })) g (after_steps steps d) w.front.stage w.back.stage)
      (sym written_so)
      (marks (after_steps steps d) t' (flags_at r place) (unmap_table w.under.grants m) number stations (work_of doing.is numbered number op at)
      (sym (ap (λ (n : ℕ). flags_with r place n) gone)) others fewer)))
    where
      left : List Held
      left = without m.number w.under.grants.live

      more : HasOneMore m (hands_then w p t') (hands_of w.back)
      more = subst (λ (x : Work). HasOneMore m (hands_then w p x) (hands_of w.back)) stepped goes

      fewer : AreMapped left (hands_then w p t')
      fewer = mapped_less w.under.grants (hands_of w.back) (hands_then w p t') m doing.held (live_hand w p t m doing.is.place (ap mapping_at doing.stage ∙ has) doing.held) more doing.holds.mapped

      -- once it is unmapped no hand has a mapping of it
      none_left : (test : Mapping → Bool) → ((x : Mapping) → x.gref ≢ frame + 6 → test x ≡ false) → count_by test (hands_then w p t') ≡ 0
      none_left test apart =
          none_in_hands config w g d w.front.stage w.back.stage doing.holds doing.own.place r doing.own.at place here (slice_set w.back.jobs.works p t')
          (λ i u x e f. elim (set_was w.back.jobs.works p i t t' u doing.is.place e) [
            | inl at ↦ absurd (none-some x (sym none ∙ (ap (λ (v : Work). mapping_at v.stage) (sym at.1) ∙ f)))
            | inr other ↦ (i, other.1, λ same. other_id w.back.jobs.works p i t u doing.holds.works.ascending other.0 doing.is.place other.1 (same ∙ doing.own.number))
          ]) test apart

      gone : mappings_of (frame + 6) left ≡ 0
      gone = fewer.counted (λ (x : Mapping). x.gref == frame + 6) ∙ none_left (λ (x : Mapping). x.gref == frame + 6) (λ x apart. grind (arith, nat_tests))

      none_writes : writers_of (frame + 6) left ≡ 0
      none_writes = fewer.counted (λ (x : Mapping). x.gref == frame + 6 && is_for_writing x.mode)
          ∙ none_left (λ (x : Mapping). x.gref == frame + 6 && is_for_writing x.mode) (λ x apart. let differs : (x.gref == frame + 6) ≡ false = grind (arith, nat_tests) in rw differs refl)

      counts : (f : ℕ) → mappings_of (f + 6) w.under.grants.live ≡ mappings_of (f + 6) left + cond (m.gref == f + 6) 1 0
      counts f =
          let one = hands_more (λ (x : Mapping). x.gref == f + 6) m (hands_then w p t') (hands_of w.back) more in
          omega (arith, fewer.counted (λ (x : Mapping). x.gref == f + 6), doing.holds.mapped.counted (λ (x : Mapping). x.gref == f + 6))

      one_mapping : mappings_of (frame + 6) w.under.grants.live ≡ 1
      one_mapping =
          let same : (m.gref == frame + 6) ≡ true = grind (arith, nat_tests, hand.gref) in
          let one : ◌≡◌ {A = ℕ} (cond (m.gref == frame + 6) 1 0) 1 = rw same refl in
          omega (arith, counts frame, gone, hand.gref)

      others : (f : ℕ) → f ≢ frame → mappings_of (f + 6) left ≡ mappings_of (f + 6) w.under.grants.live
      others f apart =
          let differs : (m.gref == f + 6) ≡ false = grind (arith, nat_tests, hand.gref) in
          let none_more : ◌≡◌ {A = ℕ} (cond (m.gref == f + 6) 1 0) 0 = rw differs refl in
          omega (arith, counts f, hand.gref)

      flags : entry_word0 w.under.pages (frame + 6) ≡ mapped_at r place
      flags = granted.flags doing.own.reached place here ∙ ap (λ (n : ℕ). flags_with r place n) one_mapping

      written_so : unmap_pages w.under.grants w.under.pages m ≡ marked (flags_at r place)
      written_so =
          ap (λ (n : ℕ). with_entry_word0 w.under.pages n (unmapped_entry (entry_word0 w.under.pages n) (mappings_of n left) (writers_of n left))) hand.gref
          ∙ ap marked (ap (λ (n : ℕ). unmapped_entry n (mappings_of (frame + 6) left) (writers_of (frame + 6) left)) flags
          ∙ (ap (λ (n : ℕ). unmapped_entry (mapped_at r place) n (writers_of (frame + 6) left)) gone ∙ (ap (λ (n : ℕ). unmapped_entry (mapped_at r place) 0 n) none_writes ∙ cleared_flags r place)))

-- the job maps the frame of its present segment
pub map_goes : {config : Options} {w : World} {g : Flow} {d : Pipeline} {p : ℕ} {t : Work} {r : Request} → IsDoing config w g d p t r job.Map → (number : ℕ) (o : Outcome)
    → JobGoesAt config w d number p t job.Map o
map_goes {w = w} {t = t} {r = r} doing number o =
    maps doing place in_it number o (record t { stage = sector_stage (is_write r.transfer) m }) refl asked (ap (λ (b : Bool). record t { stage = sector_stage b m }) x.writes) refl refl refl refl
    (worked_further false (is_write r.transfer) m t.moved)
    (λ q was reads. rw reads (read_now doing q was reads)) (begun (is_write r.transfer) refl)
  where
    x : IsMoving t r
    x = doing.at.0

    place : ℕ
    place = x.place

    in_it : place < frames_of r
    in_it = data_frames r place doing.own.shaped x.here

    m : Mapping
    m = made doing place in_it

    asked : ask_at job.Map t ≡ ask.Map (frame_at r place + 6) (mode_of (is_only_read r place))
    asked = ap (λ (rest : List Segment). map_ask rest t.writes) (x.rest ∙ own_here r place doing.own.shaped x.here)
        ∙ ap (λ (b : Bool). ask.Map (frame_at r place + 6) (mode_of b)) (x.writes ∙ sym (only_data r place x.here))

    begun : (b : Bool) → is_write r.transfer ≡ b → AtWork r (record t { stage = sector_stage (is_write r.transfer) m }) (sector_stage b m)
    begun true writes = (x, record { gref = refl; mode = refl }, omega arith, writes, λ i lt. absurd (omega arith))
    begun false reads = (x, record { gref = refl; mode = refl }, reads)

-- the job maps the indirect page that it comes to
pub map_page_goes : {config : Options} {w : World} {g : Flow} {d : Pipeline} {p : ℕ} {t : Work} {r : Request} → IsDoing config w g d p t r job.MapPage → (number : ℕ) (o : Outcome)
    → JobGoesAt config w d number p t job.MapPage o
map_page_goes {w = w} {t = t} {r = r} doing number o =
    maps doing place in_it number o (record t { stage = job.PageReference m }) refl asked refl refl refl refl refl refl (λ q was reads. read_now doing q was reads) now
  where
    copies : IsCopying t r doing.at.0
    copies = doing.at.1

    place : ℕ
    place = frames_for r.count + doing.at.0

    in_it : place < frames_of r
    in_it = let frames = doing.own.shaped.frames in let here = copies.here in omega arith

    m : Mapping
    m = made doing place in_it

    asked : ask_at job.MapPage t ≡ ask.Map (frame_at r place + 6) (mode_of (is_only_read r place))
    asked = ap page_ask (copies.pages ∙ page_here r doing.at.0 (let few = few_pages_for r.count doing.own.shaped.counted.few in let here = copies.here in omega arith))
        ∙ (ap (λ (f : Option ℕ). ask.Map (reference_in f) (mode_of true)) (slice_get-get_or r.frames.items place 18 in_it)
        ∙ ap (λ (b : Bool). ask.Map (frame_at r place + 6) (mode_of b)) (sym (only_page r doing.at.0)))

    now : AtWork r (record t { stage = job.PageReference m }) (job.PageReference m)
    now = let count = doing.at.2 in record {
      page = doing.at.0;
      copies = copies;
      hand = record { gref = refl; mode = refl };
      from = omega arith;
      to = omega arith;
      left = doing.at.3;
    }
