-- A machine at the start of an epoch, all of whose requests wait, and the pipeline; and the machine at the start, and the pipeline of which nothing was asked.
use Rattle.std.proofs.Common.{◌≡◌, ℕ, ◌+◌, ◌-◌, ◌<◌, ◌≤◌, ◌^◌, Bool, false, cond, List, [], length, refl, ap, sym, ◌∙◌, arith, true≢false, length-take}
use Rattle.std.specs.Prelude.{Some, None, slice_get, All}
use Rattle.std.proofs.Math.ListN.{length-replicate}
use Rattle.std.proofs.lemmas.Option.{none-some}
use Rattle.std.proofs.lemmas.List.Folds.{sum_by-replicate}
use Rattle.xen_pages.specs.Pages.{fresh_pages}
use Rattle.xen_pages.proofs.Words.{length-zero_words}
use Rattle.blk_base.specs.Options.{Options}
use Rattle.pipeline_laws.specs.Pipeline.{Pipeline, pipeline_of}
use Rattle.blk_front.specs.Pool.{empty_pool}
use Rattle.blk_front.specs.declared.request.Request.{Request}
use Rattle.blk_front.specs.declared.stage.FrontStage.{FrontStage}
use Rattle.blk_front.specs.declared.stage.FrontStage.TheVariants as front
use Rattle.blk_front.specs.Submit.{ending_of}
use Rattle.blk_front.specs.View.{next_request}
use Rattle.blk_back.specs.declared.stage.BackStage.TheVariants as back
use Rattle.blk_back.specs.View.{info_of}
use Rattle.split_model.specs.World.{World, start_of}
use Rattle.split_model.proofs.Safe.{safe_start}
use Rattle.machine_pipeline.specs.Plain.{IsPlain}
use Rattle.machine_pipeline.proofs.Flow.{Flow, start_flow, epoch_flow, ending_at, telling_at}
use Rattle.ring_words.specs.Shape.{Shape, entries_of}
use Rattle.machine_pipeline.proofs.Series.{IsSeries, series_few}
use Rattle.machine_pipeline.proofs.Lists.{all_from}
use Rattle.machine_pipeline.proofs.Left.{IsUnbegun, first_word, ring_unbegun}
use Rattle.machine_pipeline.proofs.Holds.{AreSubmitted, IsOfTheDisk, FrontAt, AreDataWords, IsFilled, ArePooled, Holds, Stands, AreEntries}
use Rattle.machine_pipeline.proofs.Stations.{AreStations}
use Rattle.machine_pipeline.proofs.Indices.{AreFirst, indices_epoch}
use Rattle.machine_pipeline.proofs.Resting.{unpushed}
use Rattle.machine_pipeline.proofs.Kept.{sleep_awake}
use Rattle.std.proofs.lemmas.List.{get_or-replicate}

-- in the first pool no frame is in use
pub empty_pooled : ArePooled empty_pool [] None
empty_pooled = record {
  size = length-replicate 1000 false;
  each = λ f lt. sym (ap (λ (b : Bool). cond b 1 0) (get_or-replicate 1000 f false false lt));
  used = (omega (arith, sum_by-replicate (λ (b : Bool). cond b 1 0) 1000 false));
}

-- the ring's shape is the option's
abbrev pub shape_of : Options → Shape
shape_of config = record { abi = config.abi; order = config.order }

-- nothing was asked of the pipeline
start_stations : (config : Options) → AreStations config (start_flow (shape_of config) config.start) (pipeline_of config) false false false None None None [] [] fresh_pages
start_stations config = grind (arith, none-some, true≢false)

-- at the start of an epoch nothing of the ring is made; the back waits, and has nothing
pub record BeginsEpoch (config : Options) (w : World) : Type 0 where
  pub start : w.front.start ≡ config.start
  pub shape : w.front.shape ≡ shape_of config
  pub indices : AreFirst config w.front.ring.indices w.back.ring.indices w.front.ring.seen w.back.ring.seen
  pub front_awake : w.front.ring.asleep ≡ false
  pub fetched : w.back.fetched ≡ 0
  pub back_awake : w.back.ring.asleep ≡ false
  pub works : w.back.jobs.works ≡ []
  pub info : w.back.jobs.info ≡ info_of config
  pub unmapped : w.back.pages ≡ []
  pub unhalted : w.back.halted ≡ None
  pub memory : length w.under.pages ≡ 1114112
  pub live : w.under.grants.live ≡ []
  pub ports : w.under.channels.ports ≡ []

-- what passes through its ring
abbrev pub begun_flow : Options → World → (submitted : List Request) → Flow
begun_flow config w submitted = epoch_flow (shape_of config) config.start w.under.channels.made submitted w.front.requests w.front.closing

-- and its requests wait, in frames of their own, but the read whose data the front has in hand
pub record AreAllWaiting (config : Options) (w : World) (submitted : List Request) (d : Pipeline) (s : FrontStage) : Type 0 where
  pub sized : IsOfTheDisk config submitted
  pub each : AreSubmitted submitted config.sectors w.front.last
  pub series : IsSeries submitted w.front.requests
  pub few : w.front.last < 2 ^ 32
  pub room : length w.front.requests + ending_of s ≤ entries_of config.order
  pub waiting : w.front.waiting ≡ length w.front.requests
  pub pool : ArePooled w.front.pool w.front.requests (ending_at s w.front.ending)
  pub front_at : FrontAt (shape_of config) config.start 0 0 0 submitted [] (next_request w.front) w.front.ring.entry w.front.ending s
  pub telling : AreDataWords w.under.pages w.front.words w.front.ending s
  pub stations : AreStations config (begun_flow config w submitted) d false false false (ending_at s w.front.ending) (telling_at s) None w.front.requests [] w.under.pages

pub epoch_holds : (config : Options) (w : World) (submitted : List Request) (d : Pipeline) (s : FrontStage) → IsPlain config → IsUnbegun s → BeginsEpoch config w → AreAllWaiting config w submitted d s
    → Holds config w (begun_flow config w submitted) d s back.InitWait
epoch_holds config w submitted d s plain i b h = record {
  settled = assumption;
  indices = rw (b.fetched, h.waiting) (indices_epoch config w.front.ring.indices w.back.ring.indices w.under.channels.made w.front.ring.seen w.back.ring.seen w.front.last (ending_of s) submitted w.front.requests w.front.closing plain b.indices (let all = h.each in let counted = all.counted in let few = series_few submitted w.front.requests h.series in omega arith) h.few h.room);
  queue = record {
    ordered = h.series;
    known = all_from (λ (r : Request). slice_get submitted (r.number - 1) ≡ Some r) w.front.requests h.series.known;
    ascending = h.series.ascending;
    issued = λ k x lt. absurd (let none = h.waiting in omega (arith, length-take (length w.front.requests - w.front.waiting) w.front.requests));
    next = λ j r lt e. ap (slice_get w.front.requests) (let all = h.waiting in omega arith) ∙ e;
  };
  pool = h.pool;
  stations = rw (i.unready, i.unissued, b.works) h.stations;
  works = rw b.works (grind arith);
  counted = rw b.works refl;
  replies = grind arith;
  front_at = h.front_at;
  offered = rw i.unready refl;
  back_at = refl;
  memory = b.memory;
  ring = ring_unbegun config.order config.start 0 0 w.under.pages s (length w.back.pages) i;
  slots = grind (arith, none-some, i.entered_none);
  frames = nothing.0;
  telling = h.telling;
  entries = nothing.1;
  mapped = record { counted = λ test. rw (b.live, b.works, b.unmapped) refl; framed = rw b.live (λ k x lt. absurd (omega arith)) };
  paged = rw b.unmapped (grind (arith, true≢false));
  front_sleep = sleep_awake b.front_awake i.unarmed;
  back_sleep = sleep_awake b.back_awake refl;
  ports = rw i.unconnected (refl, b.ports, refl);
}
  where
    nothing : All (IsFilled w.front.requests 0 w.under.pages s) w.front.requests × AreEntries w.front.requests 0 w.under.pages w.under.grants.live s w.front.ending w.front.requests
    nothing = unpushed 0 w.under.pages w.under.grants.live s w.front.ending w.front.requests refl i.unfilled i.unnamed i.ungranted (λ e same. none-some e (sym (i.unrevoked w.front.ending) ∙ same))

-- so it is at the first start, with no request
start_waiting : (config : Options) → IsPlain config → AreAllWaiting config (start_of config) [] (pipeline_of config) (front.RingWord 0)
start_waiting config plain = record {
  sized = grind (arith, none-some);
  each = grind (arith, none-some, plain.sectors);
  series = grind (arith, none-some);
  few = omega arith;
  room = omega arith;
  waiting = refl;
  pool = empty_pooled;
  front_at = omega arith;
  telling = record { size = length-replicate {A = ℕ} 128 0; so_far = tt };
  stations = start_stations config;
}

start_begins : (config : Options) → BeginsEpoch config (start_of config)
start_begins config = assumption (length-zero_words 1114112)

pub start_holds : (config : Options) → IsPlain config → Stands config (start_of config) (start_flow (shape_of config) config.start) (pipeline_of config)
start_holds config plain = record {
  safe = safe_start config;
  holds = epoch_holds config (start_of config) [] (pipeline_of config) (front.RingWord 0) plain first_word (start_begins config) (start_waiting config plain);
}
