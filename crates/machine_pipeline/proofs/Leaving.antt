-- The back halts, since its front closes and has no request left: nothing is served from then on.
use Rattle.std.proofs.Common.{◌≡◌, ◌≢◌, ℕ, ◌+◌, ◌^◌, ◌<◌, ◌≤◌, ◌==◌, ◌&&◌, inl, inr, Bool, true, false, List, [], ◌∷◌, length, refl, ap, sym, ◌∙◌, subst, arith, true≢false}
use Rattle.std.specs.Prelude.{Option, Some, None, is_some, slice_get}
use Rattle.std.proofs.lemmas.Option.{slice_get_within, get_or_from_slice_get}
use Rattle.std.proofs.lemmas.Bool.{cases_lt}
use Rattle.std.proofs.lemmas.Bool.Decides.{nat_tests}
use Rattle.blk_base.specs.Options.{Options}
use Rattle.blk_base.specs.declared.parts.Mapping.{Mapping}
use Rattle.ring_words.specs.Shape.{Shape}
use Rattle.event_channel.specs.declared.channels.PortState.{PortState}
use Rattle.pipeline_laws.specs.Pipeline.{Pipeline, Front, Leaves}
use Rattle.blk_front.specs.declared.request.Request.{Request}
use Rattle.blk_front.specs.declared.stage.Ending.{Ending}
use Rattle.blk_front.specs.declared.stage.FrontStage.{FrontStage}
use Rattle.blk_front.specs.declared.stage.FrontStage.TheVariants as front
use Rattle.blk_front.specs.Step.{is_mapped}
use Rattle.back_jobs.specs.Jobs.{first_mapping, after_mapping}
use Rattle.back_jobs.specs.Work.{Work}
use Rattle.blk_back.specs.declared.stage.BackStage.{BackStage}
use Rattle.blk_back.specs.declared.stage.BackStage.TheVariants as back
use Rattle.blk_base.specs.declared.halt.Halt.{Halt}
use Rattle.blk_back.specs.View.{View, no_page}
use Rattle.blk_back.specs.Hands.{aborted}
use Rattle.blk_back.specs.Step.{unbound, unmapping_next}
use Rattle.split_model.specs.World.{World}
use Rattle.split_model.specs.Shown.{halt_lines}
use Rattle.split_model.specs.Happening.{BackHalts, happens, lines_at}
use Rattle.split_model.proofs.States.{halts_cases}
use Rattle.machine_pipeline.specs.Allowed.{is_free, IsFarewell}
use Rattle.machine_pipeline.specs.Step.{IsSame}
use Rattle.machine_pipeline.proofs.Flow.{Flow, granted_pages, is_bound_back, ending_at, count_of}
use Rattle.machine_pipeline.proofs.Holds.{PagesAt, AreMapped, ArePooled, Holds, PortsAt}
use Rattle.machine_pipeline.proofs.Lists.{all_from, pairs_from}
use Rattle.machine_pipeline.proofs.Slots.{few_pages, some_pages}
use Rattle.machine_pipeline.proofs.Hands.{mapped_few, nothing_aborted}
use Rattle.machine_pipeline.proofs.Turns.{no_move}
use Rattle.machine_pipeline.proofs.Over.{may_begin, IsDrained, IsAborting, AreOwn, AreUnmapped, IsLeaving, Over, HasGone, unclosed, gone_by}
use Rattle.line_text.proofs.Both.{both_true}
use Rattle.machine_pipeline.proofs.Drained.{drained_at, no_job_left, finished_at}
use Rattle.std.proofs.lemmas.List.{nil_from_length}
use Rattle.pipeline_laws.specs.Allowed.{AreFinished}

-- a front that closes, with no request left
pub record IsThrough (closing : Bool) (requests : ℕ) : Type 0 where
  pub closes : closing ≡ true
  pub none : requests ≡ 0

pub through_is : (closing : Bool) (requests : ℕ) → (closing && requests == 0) ≡ true → IsThrough closing requests
through_is closing requests t = let parts = both_true closing (requests == 0) t in let zero = parts.1 in record { closes = parts.0; none = grind (arith, nat_tests) }

-- a front that is at nothing ends no request
none_ends : (s : FrontStage) (ending : Option Ending) → is_free s ≡ true → count_of (ending_at s ending) ≡ 0
none_ends front.Loop ending free = refl
none_ends s ending free = cc

-- the front made one port, at the end of all that it makes
pub one_port : (before : ℕ) (bound : Bool) (made : ℕ) (ports : List PortState) → PortsAt before true bound made ports → length ports ≡ 1
one_port before true made ports p = ap length p.1
one_port before false made ports p = ap length p.1

-- frames of the ring that the back didn't map are granted, and no flag of theirs says that they are mapped
unmapped_yet : (config : Options) (w : World) (g : Flow) (d : Pipeline) (s : FrontStage) (b : BackStage) → Holds config w g d s b → granted_pages s (2 ^ g.shape.order) ≡ 2 ^ g.shape.order → AreUnmapped w.front.shape.order w.under.pages w.back.pages
unmapped_yet config w g d s b h all page within other =
    let known : w.front.shape.order ≡ g.shape.order = ap (λ (x : Shape). x.order) h.shaped.known in
    elim (cases_lt page (length w.back.pages)) [
      | inl mapped ↦ absurd (other page no_page mapped (h.paged.gref page mapped))
      | inr left ↦ ap is_mapped (h.ring.granted page (subst (λ (n : ℕ). page < n) (sym all) (subst (λ (order : ℕ). page < 2 ^ order) known within)) (omega arith))
    ]

-- the pages that it mapped have references of their own
own_pages : (config : Options) (w : World) (g : Flow) (d : Pipeline) (s : FrontStage) (b : BackStage) → Holds config w g d s b → AreOwn w.back.pages
own_pages config w g d s b h = record {
  grefs = all_from (λ (m : Mapping). (8 ≤ m.gref) × (m.gref < 24)) w.back.pages (λ i m e.
      let within = slice_get_within w.back.pages i m e in
      let at = gref i m e in
      let few = few_pages g.shape.order h.shaped.narrow in
      let many = mapped_few b g.shape.order (length w.back.pages) h.paged.mapped in
      (omega arith, omega arith));
  distinct = pairs_from (λ (m n : Mapping). m.gref ≢ n.gref) w.back.pages (λ i j m n lt e f.
      λ same. omega (arith, gref j n f, gref i m e));
}
  where
    gref : (i : ℕ) (m : Mapping) → slice_get w.back.pages i ≡ Some m → m.gref ≡ 8 + i
    gref i m e = subst (λ (x : Mapping). x.gref ≡ 8 + i) (get_or_from_slice_get w.back.pages i m no_page e) (h.paged.gref i (slice_get_within w.back.pages i m e))

-- they alone are mapped
left_mapped : (config : Options) (w : World) (g : Flow) (d : Pipeline) (s : FrontStage) (b : BackStage) → Holds config w g d s b → w.back.jobs.works ≡ [] → AreMapped w.under.grants.live w.back.pages
left_mapped config w g d s b h no_job =
    let given : aborted b ≡ [] = nothing_aborted g.shape b g.start g.fetched g.back_seen g.replied g.series w.back.jobs.works w.back.ring.entry h.back_at in
    rw (given, no_job) at h.mapped

leaving_at : (config : Options) (w : World) (g : Flow) (d : Pipeline) (s : FrontStage) (b b' : BackStage) → is_free s ≡ true → Holds config w g d s b
    → IsLeaving d.front.connected (length w.under.channels.ports) w.front.shape.order w.under.pages w.back.pages b' s
leaving_at config w g d (front.RingWord k) b b' free h = (ap (λ (f : Front). f.connected) h.stations.front, ap length h.ports.1)
leaving_at config w g d front.Initialised b b' free h = (ap (λ (f : Front). f.connected) h.stations.front, one_port g.before (is_bound_back b) w.under.channels.made w.under.channels.ports h.ports, unmapped_yet config w g d front.Initialised b h refl)
leaving_at config w g d front.Loop b b' free h = unmapped_yet config w g d front.Loop b h refl
leaving_at config w g d s b b' free h = absurd (true≢false (sym free))

ring_left : (config : Options) (w : World) (g : Flow) (d : Pipeline) (s : FrontStage) (b : BackStage) → Holds config w g d s b → length w.front.requests ≡ 0 → length w.under.channels.ports ≢ 0 → IsDrained w.under.pages w.front.ring.indices.cons w.back.ring.indices.cons
ring_left config w g d (front.RingWord k) b h none made = absurd (made (ap length h.ports.1))
ring_left config w g d (front.LeftData n) b h none made = absurd (made (ap length h.ports.1))
ring_left config w g d s b h none made = drained_at config w g d s b h refl none

-- the machine with that back
abbrev backed : World → View → World
backed w v = record { front = w.front; back = v; under = w.under }

-- no frame is in use
unpooled : {pool : List Bool} (requests : List Request) → length requests ≡ 0 → (ending : Option Ending) → count_of ending ≡ 0 → ArePooled pool requests ending → ArePooled pool [] None
unpooled [] none None ended h = h
unpooled requests none (Some e) ended h = absurd (omega arith)
unpooled (r ∷ requests) none ending ended h = absurd (omega arith)

-- what stands then
over_begins : (config : Options) (w : World) (g : Flow) (d : Pipeline) (why : Halt) (v : View)
    → Holds config w g d w.front.stage w.back.stage → IsFarewell w why
    → v.halted ≡ Some why → v.jobs.works ≡ [] → v.jobs.info ≡ w.back.jobs.info → v.ring.indices.cons ≡ w.back.ring.indices.cons → v.pages ≡ w.back.pages
    → IsAborting w.back.pages v.stage
    → Over config (backed w v) d w.front.stage v.stage
over_begins config w g d why v h farewell halted no_job info cons same_pages held =
    let through = through_is w.front.closing (length w.front.requests) farewell.through in
    let none : w.back.jobs.works ≡ [] = no_job_left config w g d w.front.stage w.back.stage h through.none in
    record {
      spent = record {
        options = h.stations.options;
        leaves = ap (λ (f : Front). f.closing) h.stations.front ∙ (h.started.closing ∙ through.closes);
        finished = let all = finished_at config w g d w.front.stage w.back.stage h through.none (none_ends w.front.stage w.front.ending farewell.free) in all.each;
        counted = h.stations.known.as_many ∙ h.submitted.counted;
        submitted = g.submitted;
        begins = rw info (may_begin config w g d w.front.stage w.back.stage h);
        pooled = unpooled w.front.requests through.none (ending_at w.front.stage w.front.ending) (none_ends w.front.stage w.front.ending farewell.free) h.pool;
        closes = through.closes;
        no_request = nil_from_length w.front.requests through.none;
        narrow = subst (λ (x : Shape). x.order ≤ 4) (sym h.shaped.known) h.shaped.narrow;
        halted = ap is_some halted;
        no_job = no_job;
      };
      shut = ap (λ (f : Front). f.closed) h.stations.front ∙ sym (unclosed is_free refl w.front.stage farewell.free);
      memory = h.memory;
      back_at = subst (λ (ms : List Mapping). IsAborting ms v.stage) (sym same_pages) held;
      own = subst AreOwn (sym same_pages) (own_pages config w g d w.front.stage w.back.stage h);
      mapped = subst (AreMapped w.under.grants.live) (sym same_pages) (left_mapped config w g d w.front.stage w.back.stage h none);
      front_at = subst (λ (ms : List Mapping). IsLeaving d.front.connected (length w.under.channels.ports) w.front.shape.order w.under.pages ms v.stage w.front.stage) (sym same_pages)
          (leaving_at config w g d w.front.stage w.back.stage v.stage farewell.free h);
      ring = λ made. subst (IsDrained w.under.pages w.front.ring.indices.cons) (sym cons) (ring_left config w g d w.front.stage w.back.stage h through.none made);
    }

-- the pipeline leaves
abbrev Leaving : Options → World → Pipeline → View → Type 0
Leaving config w d v = HasGone None IsSame config (halt_lines w.back.halted v.halted) (backed w v) d

leaves : (config : Options) (w : World) (g : Flow) (d : Pipeline) (why : Halt) (v : View) → Holds config w g d w.front.stage w.back.stage → IsFarewell w why → v.halted ≡ Some why → Over config (backed w v) d w.front.stage v.stage → Leaving config w d v
leaves config w g d why v h farewell halted over =
    let finished : AreFinished d = record { each = over.finished } in
    gone_by {steps = Leaves why ∷ []} (record { asides = []; aside = refl; shows = rw (h.unhalted, halted) refl; asks = refl; allowed = ((over.leaves, farewell.gone, finished), tt); disk = λ a b e. (b, e, refl) })
    (inr over)

-- a back that isn't bound holds pages that it mapped, or none
pub giving_unbound : (held : List Mapping) → IsAborting held (unbound held)
giving_unbound [] = refl
giving_unbound (m ∷ held) = λ none. cc

some_held : (held : List Mapping) → 0 < length held → held ≢ []
some_held [] some = absurd (omega arith)
some_held (m ∷ held) some = λ none. cc

-- the back halts, or goes on with what it is at
pub halts_goes : (config : Options) (w : World) (g : Flow) (d : Pipeline) (why : Halt) → Holds config w g d w.front.stage w.back.stage → IsFarewell w why → HasGone None IsSame config (lines_at w (BackHalts why)) (happens w (BackHalts why)) d
halts_goes config w g d why h farewell = halts_cases (Leaving config w d) why w.back
    (λ e. leaves config w g d why unmapped h farewell refl (over_begins config w g d why unmapped h farewell refl no_job refl refl refl (giving_unbound w.back.pages)))
    (λ e. subst (λ (works : List Work). Leaving config w d (aborted_jobs works)) (sym no_job)
    (leaves config w g d why (aborted_jobs []) h farewell refl (over_begins config w g d why (aborted_jobs []) h farewell refl refl refl refl refl
    (some_held w.back.pages (let mapped : PagesAt back.Loop g.shape.order (length w.back.pages) = subst
    (λ (b : BackStage). PagesAt b g.shape.order (length w.back.pages)) e h.paged.mapped in omega (arith, mapped, some_pages g.shape.order))))))
    (record { steps = []; does = rw h.unhalted (no_move IsSame d (λ a b same. same)); kept = inl (g, h) })
  where
    no_job : w.back.jobs.works ≡ []
    no_job = no_job_left config w g d w.front.stage w.back.stage h (through_is w.front.closing (length w.front.requests) farewell.through).none

    unmapped : View
    unmapped = let v : View = w.back in record v { halted = Some why; stage = unbound v.pages }

    -- with these jobs before
    aborted_jobs : List Work → View
    aborted_jobs works = let v : View = w.back in record v { halted = Some why; stage = unmapping_next (first_mapping works); jobs = record v.jobs { works = after_mapping works } }
