-- The guest is suspended: all that holds begins anew, with the requests that the front had, or goes on being over.
use Rattle.std.proofs.Common.{◌≡◌, ◌≢◌, ℕ, suc, ◌+◌, ◌-◌, ◌/◌, ◌<◌, ◌≤◌, inl, inr, not, Bool, true, false, true≢false, List, [], ◌∷◌, length, refl, ap, sym, ◌∙◌, subst, arith, map}
use Rattle.std.specs.Prelude.{All, AllPairs, Option, Some, None, slice_get, nat_lt}
use Rattle.std.proofs.lemmas.Bool.Decides.{nat_tests}
use Rattle.std.proofs.lemmas.Option.{none-some}
use Rattle.std.proofs.lemmas.List.{length-map}
use Rattle.std.proofs.lemmas.List.Elements.{All-head, All-tail, All-cons, All-weaker}
use Rattle.std.proofs.lemmas.List.Kept.{AllPairs-cons}
use Rattle.blk_base.specs.Options.{Options}
use Rattle.ring_words.specs.Shape.{Shape, entries_of}
use Rattle.schedule_text.specs.declared.line.Line.TheVariants as lines
use Rattle.hypervisor.specs.Suspend.{tables_cleared, suspended as under_suspended}
use Rattle.hypervisor.proofs.Cleared.{kept_word, length-tables_cleared}
use Rattle.blk_front.specs.declared.request.Request.{Request}
use Rattle.blk_front.specs.declared.stage.FrontStage.{FrontStage}
use Rattle.blk_front.specs.declared.stage.FrontStage.TheVariants as front
use Rattle.blk_front.specs.declared.stage.Ending.{Ending}
use Rattle.blk_front.specs.State.{is_open}
use Rattle.blk_front.specs.Submit.{ending_of}
use Rattle.blk_front.specs.Suspend.{by_number, with_ending, requests_after, ending_after, stage_after, resumed}
use Rattle.blk_front.specs.View.{View, next_request}
use Rattle.blk_back.specs.declared.stage.BackStage.{BackStage}
use Rattle.blk_back.specs.declared.stage.BackStage.TheVariants as back
use Rattle.split_model.specs.World.{World, state_after}
use Rattle.split_model.specs.Happening.{Suspends, happens, lines_at}
use Rattle.split_model.proofs.Suspending.{begun_back, gone_world, suspend_cases, suspended_cases}
use Rattle.pipeline_laws.specs.Station.{Taking, Telling, PipelineRequest, is_finished}
use Rattle.pipeline_laws.specs.Pipeline.{Pipeline, Front, Resumes, next, again}
use Rattle.machine_pipeline.specs.Plain.{IsPlain}
use Rattle.machine_pipeline.specs.Step.{IsSame}
use Rattle.machine_pipeline.proofs.Flow.{Flow, ending_at, telling_at}
use Rattle.machine_pipeline.proofs.Series.{IsSeries}
use Rattle.machine_pipeline.proofs.Lists.{all_at, all_from, count_none, pairs_head, pairs_tail}
use Rattle.machine_pipeline.proofs.Holds.{FrontAt, IsToldAt, AreSubmitted, ArePooled, AreDataWords, IsReadSoFar, IsEnding, Holds}
use Rattle.machine_pipeline.proofs.Kept.{data_same, data_kept}
use Rattle.machine_pipeline.proofs.Frames.{ending_is, told_few}
use Rattle.machine_pipeline.proofs.ReadsKept.{stations_elsewhere}
use Rattle.machine_pipeline.proofs.Turns.{Stepped, no_move, does_alone}
use Rattle.machine_pipeline.proofs.Stations.{StandsAt, AreOpen, finishing, AreStations, apart}
use Rattle.machine_pipeline.proofs.Left.{IsUnbegun, left_data, first_word}
use Rattle.machine_pipeline.proofs.Over.{Over, IsLeaving, MayBegin, may_begin, lasting_of, HasGone, gone_by, unclosed}
use Rattle.machine_pipeline.proofs.StartingHolds.{shape_of, begun_flow, epoch_holds}
use Rattle.machine_pipeline.proofs.Resumed.{AreAgain, MayResume, resumes, known_again, finished_again, finished_no_data, unfinished, all_again, IsPutBack, back_was, back_many, back_pooled, put_back_again, told_again_beside}
use Rattle.std.proofs.lemmas.Bool.{cond_both}
use Rattle.pipeline_laws.specs.Allowed.{AreFinished}

abbrev Ascends : Request → Request → Type 0
Ascends r s = r.number < s.number

-- submitted requests in order of number are a series
series_of : {submitted requests : List Request} {sectors last : ℕ} → AreSubmitted submitted sectors last
    → ((i : ℕ) (r : Request) → slice_get requests i ≡ Some r → slice_get submitted (r.number - 1) ≡ Some r) → AllPairs Ascends requests → IsSeries submitted requests
series_of all known ascending = record { known = known; positive = λ i r e. let its = all.each (r.number - 1) r (known i r e) in omega (arith, its.number); ascending = ascending }

-- a request is put in its place among others that are in order of number
pub placed : (r : Request) (requests : List Request) → IsPutBack requests (by_number r requests) r
placed r [] = record { place = 0; at = refl; were = refl }
placed r (s ∷ rest) = let among = placed r rest in cond_both (nat_lt r.number s.number) _ _ (λ (after : List Request). IsPutBack (s ∷ rest) after r)
    (λ t. record { place = 0; at = refl; were = refl })
    (λ t. record { place = suc among.place; at = among.at; were = ap (λ (l : List Request). s ∷ l) among.were })

-- what all of them and it are
placed_all : (P : Request → Type 0) (r : Request) (requests : List Request) → P r → All P requests → All P (by_number r requests)
placed_all P r [] p all = All-cons P r [] p all
placed_all P r (s ∷ rest) p all = cond_both (nat_lt r.number s.number) _ _ (All P)
    (λ t. All-cons P r (s ∷ rest) p all)
    (λ t. All-cons P s (by_number r rest) (All-head P s rest all) (placed_all P r rest p (All-tail P s rest all)))

placed_ascending : (r : Request) (requests : List Request) → AllPairs Ascends requests → All (λ (s : Request). s.number ≢ r.number) requests → AllPairs Ascends (by_number r requests)
placed_ascending r [] pairs others = λ i j x lt within. absurd (omega arith)
placed_ascending r (s ∷ rest) pairs others =
    let above = pairs_head Ascends s rest pairs in
    let other : s.number ≢ r.number = All-head (λ (x : Request). x.number ≢ r.number) s rest others in
    cond_both (nat_lt r.number s.number) _ _ (AllPairs Ascends)
    (λ t.
    let less : r.number < s.number = grind (arith, nat_tests) in
    AllPairs-cons Ascends r (s ∷ rest) (All-cons (Ascends r) s rest less (All-weaker (Ascends s) (Ascends r) (λ x more. omega arith) rest above)) pairs)
    (λ t.
    let more : s.number < r.number = grind (arith, nat_tests) in
    AllPairs-cons Ascends s (by_number r rest) (placed_all (Ascends s) r rest more above)
    (placed_ascending r rest (pairs_tail Ascends s rest pairs) (All-tail (λ (x : Request). x.number ≢ r.number) s rest others)))

-- the machine in a new epoch, with its front at that stage, with these requests, and with that one whose data are told
abbrev anew : World → FrontStage → List Request → Option Ending → World
anew w s after ending = record {
  front = let v : View = resumed w.front in record v { stage = s; waiting = length after; requests = after; ending = ending };
  back = begun_back w;
  under = under_suspended (state_after true) w.under;
}

abbrev Begins : Options → World → Pipeline → FrontStage → List Request → Option Ending → Type 0
Begins config w d s after ending = Stepped None IsSame d (lines.Epoch ∷ []) (λ p. (g : Flow) × Holds config (anew w s after ending) g p s back.InitWait)

-- so all begins anew
begins_anew : {submitted : List Request} (config : Options) (w : World) (d : Pipeline) (s : FrontStage) (after : List Request) (ending : Option Ending)
    → IsPlain config → IsUnbegun s → MayBegin config submitted d.requests (lasting_of w) → length w.under.pages ≡ 1114112
    → MayResume config d submitted w.front.closing w.under.pages after (ending_at s ending) (telling_at s)
    → ArePooled w.front.pool after (ending_at s ending)
    → length after + ending_of s ≤ entries_of config.order
    → ((next : Option Request) (entry : List ℕ) → FrontAt (shape_of config) config.start 0 0 0 submitted [] next entry ending s)
    → AreDataWords (tables_cleared w.under.pages) w.front.words ending s
    → Begins config w d s after ending
begins_anew {submitted} config w d s after ending plain i lasts memory resuming pool room front_at telling =
    let now : World = anew w s after ending in
    let r = resumes config d (shape_of config) config.start w.under.channels.made submitted w.front.closing w.under.pages after (ending_at s ending) (telling_at s) resuming in
    let flow : Flow = begun_flow config now submitted in
    let entries : entries_of w.front.shape.order ≡ entries_of config.order = ap (λ (x : Shape). entries_of x.order) lasts.shaped in
    let stations : AreStations config flow (next d r.step) false false false (ending_at s ending) (telling_at s) None after [] (tables_cleared w.under.pages) =
    stations_elsewhere config flow (next d r.step) false false false (ending_at s ending) (telling_at s) None after [] w.under.pages (tables_cleared w.under.pages) config.sectors w.front.last
    lasts.each (λ f low high x lt. kept_word w.under.pages f x (omega arith)) r.now in
    let holds = epoch_holds config now submitted (next d r.step) s plain i
    (assumption (entries, length-tables_cleared w.under.pages ∙ memory)) (assumption (stations, front_at (next_request now.front) now.front.ring.entry)) in
    record { step = r.step; allowed = r.allowed; shows = r.shows; asks = r.asks; disk = r.disk; now = (flow, holds) }

-- no data are told: all these requests wait
wait_anew : {submitted : List Request} (config : Options) (w : World) (d : Pipeline) (after : List Request) (ending : Option Ending)
    → IsPlain config → MayBegin config submitted d.requests (lasting_of w) → length w.under.pages ≡ 1114112
    → MayResume config d submitted w.front.closing w.under.pages after None None → ArePooled w.front.pool after None → length after ≤ entries_of config.order
    → Begins config w d (front.RingWord 0) after ending
wait_anew config w d after ending plain lasts memory resuming pool few =
    begins_anew config w d (front.RingWord 0) after ending plain first_word lasts memory resuming pool (omega arith) (λ next entry. omega arith) (record { size = lasts.words; so_far = tt })

-- what the pipeline is, from what holds
resuming : {config : Options} {w : World} {g : Flow} {d : Pipeline} {s : FrontStage} {b : BackStage} (after : List Request) (ending : Option Ending) (telling : Option ℕ) → Holds config w g d s b
    → IsSeries g.submitted after → AreAgain d.requests after → AreOpen d.requests after ending
    → ((e : Ending) → ending ≡ Some e → (next : ℕ) × (telling ≡ Some next) × StandsAt d.requests (e.request.number - 1) (Telling next))
    → MayResume config d g.submitted w.front.closing w.under.pages after ending telling
resuming {config = config} {w = w} {g = g} {d = d} after ending telling h series waits opened goes_on =
    let closing : d.front.closing ≡ w.front.closing = ap (λ (f : Front). f.closing) h.stations.front ∙ h.started.closing in
    let unclosed : d.front.closed ≡ false = ap (λ (f : Front). f.closed) h.stations.front in
    assumption (closing, unclosed)

module _ (config : Options) (w : World) (g : Flow) (d : Pipeline) (s : FrontStage) (b : BackStage) (h : Holds config w g d s b) where
  own : IsSeries g.submitted w.front.requests
  own = series_of h.submitted (λ i r e. all_at (λ (x : Request). slice_get g.submitted (x.number - 1) ≡ Some x) w.front.requests i r h.queue.known e) h.queue.ascending

  room : length w.front.requests + ending_of s ≤ entries_of config.order
  room = omega (arith, h.indices.room, ap (λ (x : Shape). entries_of x.order) h.shaped.whole)

  -- no request's grants are being ended, and no data told: its requests wait again
  all_wait : IsPlain config → ending_at s w.front.ending ≡ None → Begins config w d (front.RingWord 0) w.front.requests w.front.ending
  all_wait plain none =
      let opened : AreOpen d.requests w.front.requests None = subst (AreOpen d.requests w.front.requests) none h.stations.opened in
      wait_anew config w d w.front.requests w.front.ending plain (may_begin config w g d s b h) h.memory
      (resuming w.front.requests None None h own (all_again d.requests w.front.requests opened h.stations.going) opened (λ e same. absurd (none-some e same)))
      (subst (ArePooled w.front.pool w.front.requests) none h.pool) (omega (arith, room))

  -- the grants of one are being ended: it is put back among them, in order of number
  put_waits : IsPlain config → (e : Ending) → w.front.ending ≡ Some e → ending_at s w.front.ending ≡ w.front.ending → telling_at s ≡ None → ending_of s ≡ 1 → IsEnding g.submitted g.replies e
      → Begins config w d (front.RingWord 0) (with_ending w.front.ending w.front.requests) None
  put_waits plain e some whole untold one is =
      subst (λ (x : Option Ending). Begins config w d (front.RingWord 0) (with_ending x w.front.requests) None) (sym some)
      (wait_anew config w d after None plain (may_begin config w g d s b h) h.memory
      (resuming after None None h (series_of h.submitted known (placed_ascending e.request w.front.requests h.queue.ascending others)) waits.0 waits.1 (λ x same. absurd (none-some x same)))
      (back_pooled w.front.pool w.front.requests after e put (subst (ArePooled w.front.pool w.front.requests) (whole ∙ some) h.pool))
      (omega (arith, room, back_many w.front.requests after e.request put)))
    where
      after : List Request
      after = by_number e.request w.front.requests

      put : IsPutBack w.front.requests after e.request
      put = placed e.request w.front.requests

      known : (i : ℕ) (r : Request) → slice_get after i ≡ Some r → slice_get g.submitted (r.number - 1) ≡ Some r
      known i r at = elim (back_was w.front.requests after e.request put i r at) [
        | inl same ↦ subst (λ (x : Request). slice_get g.submitted (x.number - 1) ≡ Some x) (sym same) is.known
        | inr was ↦ own.known was.0 r was.1
      ]

      taking : StandsAt d.requests (e.request.number - 1) (Taking e.status)
      taking = subst (λ (t : Option ℕ). StandsAt d.requests (e.request.number - 1) (finishing t e.status)) untold (h.stations.taking e (whole ∙ some))

      waits : AreAgain d.requests after × AreOpen d.requests after None
      waits = put_back_again d.requests w.front.requests after e put (subst (AreOpen d.requests w.front.requests) (whole ∙ some) h.stations.opened) h.stations.going taking

      -- it is none of them, whose responses weren't taken
      others : All (λ (r : Request). r.number ≢ e.request.number) w.front.requests
      others = all_from (λ (r : Request). r.number ≢ e.request.number) w.front.requests (λ i r at same.
          let going = h.stations.going i r at in
          apart d.requests (r.number - 1) (e.request.number - 1) (let q : PipelineRequest = going.q in q.station) (Taking e.status) (record { q = going.q; at = going.at; there = refl })
          taking (omega (arith, going.early)) (ap (λ (n : ℕ). n - 1) same))

  -- its words stand where they stood
  words_stay : AreDataWords (tables_cleared w.under.pages) w.front.words w.front.ending s
  words_stay =
      data_kept w.under.pages (tables_cleared w.under.pages) w.front.words w.front.ending s
      (λ e same.
      let is = ending_is g.shape g.start g.pushed g.taken g.front_seen g.submitted g.replies _ w.front.ring.entry w.front.ending s e h.front_at same in
      let its = h.submitted.each (e.request.number - 1) e.request is.known in
      data_same w.under.pages (tables_cleared w.under.pages) e.request its.frames (λ f low high x lt. kept_word w.under.pages f x (omega arith)))
      (told_few g.shape g.start g.pushed g.taken g.front_seen g.submitted g.replies _ w.front.ring.entry w.front.ending s h.front_at) h.telling

  -- the data of one are told: they are told on, and the others wait again
  told_on : IsPlain config → (n : ℕ) → IsToldAt g.submitted g.replies w.front.ending n → ending_at s w.front.ending ≡ w.front.ending → telling_at s ≡ Some (n / 128) → ending_of s ≡ 1
      → (IsReadSoFar (tables_cleared w.under.pages) w.front.words w.front.ending s → IsReadSoFar (tables_cleared w.under.pages) w.front.words w.front.ending (front.LeftData n))
      → Begins config w d (front.LeftData n) w.front.requests w.front.ending
  told_on plain n at some told one so_far =
      let is = at.2 in
      begins_anew config w d (front.LeftData n) w.front.requests w.front.ending plain (left_data n) (may_begin config w g d s b h) h.memory
      (resuming w.front.requests w.front.ending (Some (n / 128)) h own
      (told_again_beside d.requests w.front.requests at.0 (n / 128) (subst (AreOpen d.requests w.front.requests) at.1 opened) h.stations.going is.positive (telling at.0 at.1)) opened
      (λ e same. (n / 128, refl, telling e same)))
      (subst (ArePooled w.front.pool w.front.requests) some h.pool) (omega (arith, room)) (λ next entry. (at.0, at.1, record { known = is.known; positive = is.positive; alone = grind arith }, at.3))
      (record { size = h.telling.size; so_far = so_far words_stay.so_far })
    where
      opened : AreOpen d.requests w.front.requests w.front.ending
      opened = subst (AreOpen d.requests w.front.requests) some h.stations.opened

      telling : (e : Ending) → w.front.ending ≡ Some e → StandsAt d.requests (e.request.number - 1) (Telling (n / 128))
      telling e same = subst (λ (t : Option ℕ). StandsAt d.requests (e.request.number - 1) (finishing t e.status)) told (h.stations.taking e (some ∙ same))

-- so at each stage
begins_at : (config : Options) (w : World) (g : Flow) (d : Pipeline) (s : FrontStage) → IsPlain config → Holds config w g d s w.back.stage → Begins config w d (stage_after s) (requests_after s w.front.ending w.front.requests) (ending_after s w.front.ending)
begins_at config w g d (front.GrantRead place) plain h = put_waits config w g d (front.GrantRead place) w.back.stage h plain h.front_at.0 h.front_at.1 refl refl refl h.front_at.2
begins_at config w g d (front.GrantEnd place seen) plain h = put_waits config w g d (front.GrantEnd place seen) w.back.stage h plain h.front_at.0 h.front_at.1 refl refl refl h.front_at.2
begins_at config w g d (front.ReadData n) plain h = told_on config w g d (front.ReadData n) w.back.stage h plain n h.front_at refl refl refl (λ so_far. so_far)
begins_at config w g d (front.LeftData n) plain h = told_on config w g d (front.LeftData n) w.back.stage h plain n h.front_at refl refl refl (λ so_far. so_far)
begins_at config w g d s plain h = all_wait config w g d s w.back.stage h plain refl

-- the step of the pipeline, and what stands after it
resumes_then : (config : Options) (w : World) (d : Pipeline) (s : FrontStage) (after : List Request) (ending : Option Ending) → Begins config w d s after ending → HasGone None IsSame config (lines.Epoch ∷ []) (anew w s after ending) d
resumes_then config w d s after ending b = record { steps = b.step ∷ []; does = does_alone b; kept = inl b.now }

-- a front that serves is neither closed nor broken
open_yet : (config : Options) (w : World) (g : Flow) (d : Pipeline) (s : FrontStage) (b : BackStage) → Holds config w g d s b → is_open s ≡ true
open_yet config w g d front.Closed b h = absurd h.front_at
open_yet config w g d (front.Broken word) b h = absurd h.front_at
open_yet config w g d s b h = refl

-- the guest is suspended while the ends serve
pub suspends_goes : (config : Options) (w : World) (g : Flow) (d : Pipeline) → IsPlain config → Holds config w g d w.front.stage w.back.stage → HasGone None IsSame config (lines_at w Suspends) (happens w Suspends) d
suspends_goes config w g d plain h =
    suspend_cases (λ v shown. HasGone None IsSame config shown v d) w
    (λ may. suspended_cases (λ v. HasGone None IsSame config (lines.Epoch ∷ []) v d) w
    (λ on. resumes_then config w d _ _ _ (begins_at config w g d w.front.stage plain h))
    (λ closed. absurd (true≢false (sym (open_yet config w g d w.front.stage w.back.stage h) ∙ closed))))
    (record { steps = []; does = no_move IsSame d (λ a b same. same); kept = inl (g, h) })

-- a front that isn't open is closed
gone_at : (connected : Bool) (made order : ℕ) (pages : List ℕ) (held : _) (b : BackStage) (s : FrontStage) → IsLeaving connected made order pages held b s → is_open s ≡ false
    → IsLeaving false 0 order (tables_cleared pages) [] back.Halted s
gone_at connected made order pages held b front.Closed p closed = tt
gone_at connected made order pages held b (front.Broken word) p closed = absurd p
gone_at connected made order pages held b s p closed = absurd (true≢false closed)

module _ (config : Options) (w : World) (d : Pipeline) (o : Over config w d w.front.stage w.back.stage) where
  -- a front that is open makes its ring anew, and has no request
  none_waits : IsPlain config → is_open w.front.stage ≡ true → (ending : Option Ending) → Begins config w d (front.RingWord 0) w.front.requests ending
  none_waits plain on ending = subst (λ (rs : List Request). Begins config w d (front.RingWord 0) rs ending) (sym o.no_request)
      (wait_anew config w d [] ending plain o.begins o.memory resumes o.pooled (omega arith))
    where
      none_open : (k : ℕ) (q : PipelineRequest) → slice_get d.requests k ≡ Some q → is_finished q.station ≡ false → ⊥
      none_open k q e going = true≢false (sym (o.finished k q e) ∙ going)

      resumes : MayResume config d o.submitted w.front.closing w.under.pages [] None None
      resumes = record {
        options = o.options;
        closing_is = o.leaves ∙ sym o.closes;
        unclosed = o.shut ∙ unclosed is_open refl w.front.stage on;
        known = o.begins.known;
        reads = λ k r q its at reads there. absurd (true≢false (sym there ∙ finished_no_data q.station (o.finished k q at)));
        series = grind (arith, none-some);
        waits = record { waits = λ i r e. absurd cc; all = λ k q e waits. absurd (none_open k q e (unfinished q waits)) };
        opened = record { unfinished = count_none (λ (q : PipelineRequest). not (is_finished q.station)) d.requests (λ k q e. ap not (o.finished k q e)); held = λ k q e going. absurd (none_open k q e going) };
        goes_on = λ e same. absurd cc;
      }

  begins_late : IsPlain config → is_open w.front.stage ≡ true → (s : FrontStage)
      → IsLeaving d.front.connected (length w.under.channels.ports) w.front.shape.order w.under.pages w.back.pages w.back.stage s
      → Begins config w d (stage_after s) (requests_after s w.front.ending w.front.requests) (ending_after s w.front.ending)
  begins_late plain on (front.GrantRead place) p = absurd p
  begins_late plain on (front.GrantEnd place seen) p = absurd p
  begins_late plain on (front.ReadData n) p = absurd p
  begins_late plain on (front.LeftData n) p = absurd p
  begins_late plain on s p = none_waits plain on w.front.ending

  gone_goes : is_open w.front.stage ≡ false → HasGone None IsSame config (lines.Epoch ∷ []) (gone_world w) d
  gone_goes closed = gone_by {steps = Resumes ∷ []} (record { asides = []; aside = refl; shows = refl; asks = refl; allowed = (tt, tt); disk = λ a b e. (b, e, refl) })
      (inr (record {
        spent = search (all.each, length-map d.requests again ∙ o.counted, begins);
        shut = o.shut;
        memory = length-tables_cleared w.under.pages ∙ o.memory;
        back_at = refl;
        own = grind arith;
        mapped = grind arith;
        front_at = gone_at _ _ _ _ _ _ w.front.stage o.front_at closed;
        ring = λ some. absurd (some refl);
      }))
    where
      all : AreFinished (next d Resumes)
      all = finished_again d (record { each = o.finished })

      begins : MayBegin config o.submitted (map again d.requests) (lasting_of w)
      begins = assumption (known_again o.submitted d.requests o.begins.known)

-- and once the back has halted
pub suspends_ends : (config : Options) (w : World) (d : Pipeline) → IsPlain config → Over config w d w.front.stage w.back.stage → HasGone None IsSame config (lines_at w Suspends) (happens w Suspends) d
suspends_ends config w d plain o =
    suspend_cases (λ v shown. HasGone None IsSame config shown v d) w
    (λ may. suspended_cases (λ v. HasGone None IsSame config (lines.Epoch ∷ []) v d) w (λ on. resumes_then config w d _ _ _ (begins_late config w d o plain on w.front.stage o.front_at))
    (gone_goes config w d o))
    (record { steps = []; does = no_move IsSame d (λ a b same. same); kept = inr o })
