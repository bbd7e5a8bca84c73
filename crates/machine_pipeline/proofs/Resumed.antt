-- The guest is suspended and resumed: each request that isn't finished and isn't being told waits again, in order of number, and a new epoch begins.
use Rattle.std.proofs.Common.{◌≡◌, ◌≢◌, ℕ, zero, suc, ◌+◌, ◌-◌, ◌≤◌, ◌==◌, ◌⊎◌, inl, inr, not, cond, Bool, true, false, List, [], ◌∷◌, length, refl, ap, sym, ◌∙◌, subst, arith}
use Rattle.std.specs.Prelude.{Option, Some, None, map, slice_get, count_by, sum_by, option_map, remove}
use Rattle.std.specs.List.{list_any}
use Rattle.std.proofs.lemmas.Option.{none-some, same_Some, slice_get-map, slice_get_within, get_or_from_slice_get}
use Rattle.std.proofs.lemmas.Bool.{false≢true, true≢false, cases_eq}
use Rattle.std.proofs.lemmas.Bool.Decides.{nat_tests}
use Rattle.std.proofs.lemmas.List.Sums.{sum_by-cons, sum_by-remove}
use Rattle.blk_base.specs.Options.{Options}
use Rattle.schedule_text.specs.declared.line.Line.TheVariants as lines
use Rattle.ring_words.specs.Shape.{Shape}
use Rattle.blk_front.specs.declared.request.Request.{Request}
use Rattle.blk_front.specs.Request.{is_write}
use Rattle.blk_front.specs.declared.stage.Ending.{Ending}
use Rattle.pipeline_laws.specs.Station.{Station, Waiting, Taking, Telling, Finished, PipelineRequest, is_finished}
use Rattle.pipeline_laws.specs.Pipeline.{Pipeline, Resumes, next, again, station_again}
use Rattle.pipeline_laws.specs.Allowed.{is_unissued, is_unfetched, AreFinished}
use Rattle.machine_pipeline.specs.Step.{IsSame}
use Rattle.machine_pipeline.proofs.Flow.{epoch_flow, uses, frames_of, submitted_job}
use Rattle.machine_pipeline.proofs.Series.{IsSeries, numbered, IsLeft}
use Rattle.machine_pipeline.proofs.Holds.{ArePooled}
use Rattle.machine_pipeline.proofs.ReadBack.{IsReadBack, has_data_at}
use Rattle.machine_pipeline.proofs.Lists.{any_at}
use Rattle.machine_pipeline.proofs.Turns.{Stepped}
use Rattle.machine_pipeline.proofs.Stations.{StandsAt, AreKnown, AreStations, AreOpen, AreGoing, AreUnfetched, unissued_unfetched, kind_of, finishing}
use Rattle.std.proofs.lemmas.List.{length-map}
use Rattle.std.proofs.lemmas.List.Edits.{length-remove}
use Rattle.machine_pipeline.proofs.Removals.{removed_was, removed_has}

-- a request waits again
abbrev pub WaitsAgain : List PipelineRequest → Request → Type 0
WaitsAgain asked r = (q : PipelineRequest) × (slice_get asked (r.number - 1) ≡ Some q) × (station_again q.station ≡ Waiting)

-- the front's requests in the new epoch are those that wait again
pub record AreAgain (asked : List PipelineRequest) (after : List Request) : Type 0 where
  pub waits : (i : ℕ) (r : Request) → slice_get after i ≡ Some r → WaitsAgain asked r
  pub all : (k : ℕ) (q : PipelineRequest) → slice_get asked k ≡ Some q → station_again q.station ≡ Waiting → (i : ℕ) × (r : Request) × (slice_get after i ≡ Some r) × (r.number ≡ k + 1)

-- what holds of each as it stands then holds of all
again_all : (P : ℕ → PipelineRequest → Type 0) (asked : List PipelineRequest) → ((k : ℕ) (p : PipelineRequest) → slice_get asked k ≡ Some p → P k (again p)) → (k : ℕ) (q : PipelineRequest) → slice_get (map again asked) k ≡ Some q → P k q
again_all P [] each k q e = absurd cc
again_all P (p ∷ asked) each zero q e = subst (P zero) (same_Some (again p) q e) (each zero p refl)
again_all P (p ∷ asked) each (suc k) q e = again_all (λ (j : ℕ). P (suc j)) asked (λ j r at. each (suc j) r at) k q e

again_stands : (asked : List PipelineRequest) (k : ℕ) (p : PipelineRequest) (s : Station) → slice_get asked k ≡ Some p → station_again p.station ≡ s → StandsAt (map again asked) k s
again_stands asked k p s e there = record { q = again p; at = slice_get-map again asked k ∙ ap (option_map again) e; there = there }

-- a request that is told, or finished, stays where it stands, and each other waits again
goes_again : (s : Station) → ((station_again s ≡ s) × (is_unfetched s ≡ false) × (7 ≤ kind_of s)) ⊎ ((station_again s ≡ Waiting) × (is_finished s ≡ false))
goes_again (Telling n) = inl (refl, refl, omega arith)
goes_again (Finished status) = inl (refl, refl, omega arith)
goes_again s = inr (refl, refl)

station_finished : (s : Station) → is_finished (station_again s) ≡ is_finished s
station_finished s = elim (goes_again s) [ inl stays ↦ ap is_finished stays.0 | inr waits ↦ ap is_finished waits.0 ∙ sym waits.1 ]

unfetched_again : (s : Station) → is_unfetched (station_again s) ≡ true → station_again s ≡ Waiting
unfetched_again s t = elim (goes_again s) [ inl stays ↦ absurd (false≢true (sym stays.1 ∙ (sym (ap is_unfetched stays.0) ∙ t))) | inr waits ↦ waits.0 ]

data_again : (s : Station) → has_data_at (station_again s) ≡ true → has_data_at s ≡ true
data_again s t = elim (goes_again s) [ inl stays ↦ sym (ap has_data_at stays.0) ∙ t | inr waits ↦ absurd (false≢true (sym (ap has_data_at waits.0) ∙ t)) ]

none_works : (s : Station) → kind_of (station_again s) ≢ 4
none_works s works = elim (goes_again s) [ inl stays ↦ omega (arith, ap kind_of stays.0, stays.2) | inr waits ↦ omega (arith, ap kind_of waits.0) ]

unfinished_again : (asked : List PipelineRequest) → count_by (λ (q : PipelineRequest). not (is_finished q.station)) (map again asked) ≡ count_by (λ (q : PipelineRequest). not (is_finished q.station)) asked
unfinished_again [] = refl
unfinished_again (p ∷ asked) =
    let now = sum_by-cons (λ (q : PipelineRequest). cond (not (is_finished q.station)) 1 0) (again p) (map again asked) in
    let here : ◌≡◌ {A = ℕ} (cond (not (is_finished (station_again p.station))) 1 0) (cond (not (is_finished p.station)) 1 0) = ap (λ (b : Bool). cond (not b) 1 0) (station_finished p.station) in
    omega (arith, unfinished_again asked, sum_by-cons (λ (q : PipelineRequest). cond (not (is_finished q.station)) 1 0) p asked)

-- each is known as it was
pub known_again : (submitted : List Request) (asked : List PipelineRequest) → AreKnown submitted asked → AreKnown submitted (map again asked)
known_again submitted asked h = record {
  as_many = length-map asked again ∙ h.as_many;
  each = λ k r q e f. again_all (λ k q. slice_get submitted k ≡ Some r → q.submission ≡ submitted_job r.transfer r.sector r.count) asked (λ j p at its. h.each j r p its at) k q f e;
}

-- a request that waits again stands at Waiting
waiting_again : (asked : List PipelineRequest) (after : List Request) → AreAgain asked after → (i : ℕ) (r : Request) → slice_get after i ≡ Some r → StandsAt (map again asked) (r.number - 1) Waiting
waiting_again asked after h i r e = let was = h.waits i r e in again_stands asked (r.number - 1) was.0 Waiting was.1 was.2

-- the data of each read that went well stand in its frames
abbrev pub HaveReadBack : (submitted : List Request) (asked : List PipelineRequest) (pages : List ℕ) → Type 0
HaveReadBack submitted asked pages =
    (k : ℕ) (r : Request) (q : PipelineRequest) → slice_get submitted k ≡ Some r → slice_get asked k ≡ Some q → is_write r.transfer ≡ false → has_data_at q.station ≡ true → IsReadBack pages r r.count q.words

-- what the pipeline has to be as the guest is suspended, where these requests wait next, and the data of one are told on (`ending`, `telling`)
pub record MayResume (config : Options) (d : Pipeline) (submitted : List Request) (closing : Bool) (pages : List ℕ) (after : List Request) (ending : Option Ending) (telling : Option ℕ) : Type 0 where
  pub options : d.options ≡ config
  pub closing_is : d.front.closing ≡ closing
  pub unclosed : d.front.closed ≡ false
  pub known : AreKnown submitted d.requests
  pub reads : HaveReadBack submitted d.requests pages
  pub series : IsSeries submitted after
  pub waits : AreAgain d.requests after
  pub opened : AreOpen d.requests after ending
  pub goes_on : (e : Ending) → ending ≡ Some e → (next : ℕ) × (telling ≡ Some next) × StandsAt d.requests (e.request.number - 1) (Telling next)

-- the stations of the new epoch: nothing was pushed, no job is held, and a read that was being told goes on
pub resumes : (config : Options) (d : Pipeline) (shape : Shape) (start before : ℕ) (submitted : List Request) (closing : Bool) (pages : List ℕ) (after : List Request) (ending : Option Ending) (telling : Option ℕ)
    → MayResume config d submitted closing pages after ending telling
    → Stepped None IsSame d (lines.Epoch ∷ []) (λ p. AreStations config (epoch_flow shape start before submitted after closing) p false false false ending telling None after [] pages)
resumes config d shape start before submitted closing pages after ending telling h = record {
  step = Resumes;
  allowed = tt;
  shows = refl;
  asks = refl;
  disk = λ a b e. e;
  now = record {
    options = h.options;
    front = rw (h.closing_is, h.unclosed) refl;
    stand = record {
      known = known_again submitted d.requests h.known;
      opened = record {
        unfinished = unfinished_again d.requests ∙ h.opened.unfinished;
        held = again_all (λ k q. is_finished q.station ≡ false → _) d.requests (λ k p at going. h.opened.held k p at (sym (station_finished p.station) ∙ going));
      };
      issued = λ k q at some. left k q at (unissued_unfetched q.station some);
      unfetched = left;
      waiting = record { issued = λ t. absurd cc; rest = λ i r le at other. waiting_again d.requests after h.waits i r at };
      pushed = grind (arith, true≢false);
      works = λ i t e. absurd cc;
      held = again_all (λ k q. kind_of q.station ≡ 4 → _) d.requests (λ k p at kind. absurd (none_works p.station kind));
      going = λ i r at. let stands = waiting_again d.requests after h.waits i r at in record { q = stands.q; at = stands.at; early = omega (arith, ap kind_of stands.there) };
      replying = λ rep e. absurd cc;
      replied = λ i rep e. absurd cc;
      taking = λ e same.
          let still = h.goes_on e same in
          let its = still.2 in
          subst (λ (t : Option ℕ). StandsAt (map again d.requests) (e.request.number - 1) (finishing t e.status)) (sym still.1)
          (again_stands d.requests (e.request.number - 1) its.q (Telling still.0) its.at (ap station_again its.there));
    };
    reads = record {
      working = λ i t r q at. absurd cc;
      after = λ k r q its at reads there.
          again_all (λ k q. slice_get submitted k ≡ Some r → has_data_at q.station ≡ true → IsReadBack pages r r.count q.words) d.requests
          (λ j p was is some. h.reads j r p is was reads (data_again p.station some)) k q at its there;
    };
  };
}
  where
    left : AreUnfetched after 0 (map again d.requests)
    left = again_all (λ k q. is_unfetched q.station ≡ true → IsLeft after 0 k) d.requests (λ k p at some.
        let waits = h.waits.all k p at (unfetched_again p.station some) in
        record { index = waits.0; late = omega arith; r = waits.1; at = waits.2; number = waits.3 })

-- those of a front that takes no response wait again
again_waiting : (s : Station) → kind_of s ≤ 6 → station_again s ≡ Waiting
again_waiting s le = elim (goes_again s) [ inl stays ↦ absurd (omega (arith, stays.2)) | inr waits ↦ waits.0 ]

-- all that are finished stay so
pub finished_again : (d : Pipeline) → AreFinished d → AreFinished (next d Resumes)
finished_again d h = record { each = again_all (λ k q. is_finished q.station ≡ true) d.requests (λ k p at. station_finished p.station ∙ h.each k p at) }

pub finished_no_data : (s : Station) → is_finished s ≡ true → has_data_at s ≡ false
finished_no_data (Finished status) e = refl
finished_no_data s e = absurd (false≢true e)

pub unfinished : (q : PipelineRequest) → station_again q.station ≡ Waiting → is_finished q.station ≡ false
unfinished q waits = sym (station_finished q.station) ∙ ap is_finished waits

-- the front's requests wait again
waits_again : (asked : List PipelineRequest) (requests : List Request) → AreGoing requests asked → (i : ℕ) (r : Request) → slice_get requests i ≡ Some r → WaitsAgain asked r
waits_again asked requests going i r e = let was = going i r e in (was.q, was.at, again_waiting (let x : PipelineRequest = was.q in x.station) was.early)

pub all_again : (asked : List PipelineRequest) (requests : List Request) → AreOpen asked requests None → AreGoing requests asked → AreAgain asked requests
all_again asked requests opened going = record {
  waits = waits_again asked requests going;
  all = λ k q e waits. elim (opened.held k q e (unfinished q waits)) [ inl any ↦ numbered requests (k + 1) any | inr other ↦ absurd (none-some other.0 other.1) ];
}

-- a request whose grants were being ended is among the front's requests once more
pub record IsPutBack (requests after : List Request) (x : Request) : Type 0 where
  pub place : ℕ
  pub at : slice_get after place ≡ Some x
  pub were : requests ≡ remove after place

-- what stands there now stood there, or is that one
pub back_was : (requests after : List Request) (x : Request) → IsPutBack requests after x → (i : ℕ) (r : Request) → slice_get after i ≡ Some r → (r ≡ x) ⊎ ((j : ℕ) × (slice_get requests j ≡ Some r))
back_was requests after x put i r e = elim (cases_eq i put.place) [
  | inl same ↦ inl (same_Some r x (sym e ∙ (ap (slice_get after) same ∙ put.at)))
  | inr apart ↦ inr (rw put.were (removed_has after put.place i r e apart))
]

back_has : (requests after : List Request) (x : Request) → IsPutBack requests after x → (j : ℕ) (r : Request) → slice_get requests j ≡ Some r → (i : ℕ) × (slice_get after i ≡ Some r)
back_has requests after x put j r e = let was = removed_was after put.place j r (rw put.were at e) in (was.0, was.2)

-- a sum over them has one summand more
pub back_sum : (f : Request → ℕ) (requests after : List Request) (x : Request) → IsPutBack requests after x → sum_by f after ≡ sum_by f requests + f x
back_sum f requests after x put = rw put.were (omega (arith, sum_by-remove f after put.place x (slice_get_within after put.place x put.at), ap f (get_or_from_slice_get after put.place x x put.at)))

pub back_many : (requests after : List Request) (x : Request) → IsPutBack requests after x → length after ≡ length requests + 1
back_many requests after x put = let within = slice_get_within after put.place x put.at in rw put.were (omega (arith, length-remove after put.place within))

-- its frames are its own still
pub back_pooled : (pool : List Bool) (requests after : List Request) (e : Ending) → IsPutBack requests after e.request → ArePooled pool requests (Some e) → ArePooled pool after None
back_pooled pool requests after e put h = record {
  size = h.size;
  each = λ f lt. omega (arith, h.each f lt, back_sum (uses (18 + f)) requests after e.request put);
  used = omega (arith, h.used, back_sum frames_of requests after e.request put);
}

-- all of them wait again
pub put_back_again : (asked : List PipelineRequest) (requests after : List Request) (e : Ending)
    → IsPutBack requests after e.request
    → AreOpen asked requests (Some e)
    → AreGoing requests asked
    → StandsAt asked (e.request.number - 1) (Taking e.status)
    → AreAgain asked after × AreOpen asked after None
put_back_again asked requests after e put opened going taking = (
  record {
    waits = λ i r at. elim (back_was requests after e.request put i r at) [
      | inl same ↦ subst (WaitsAgain asked) (sym same) (taking.q, taking.at, ap station_again taking.there)
      | inr one ↦ waits_again asked requests going one.0 r one.1
    ];
    all = λ k q at waits. among k (opened.held k q at (unfinished q waits));
  },
  record {
    unfinished = omega (arith, opened.unfinished, back_many requests after e.request put);
    held = λ k q at left. let found = among k (opened.held k q at left) in inl (any_at (λ (r : Request). r.number == k + 1) after found.0 found.1 found.2 (grind (arith, nat_tests, found.3)));
  },
)
  where
    among : (k : ℕ) → (list_any (λ (r : Request). r.number == k + 1) requests ≡ true) ⊎ ((f : Ending) × (Some e ≡ Some f) × (f.request.number ≡ k + 1)) → (i : ℕ) × (r : Request) × (slice_get after i ≡ Some r) × (r.number ≡ k + 1)
    among k (inl any) =
        let found = numbered requests (k + 1) any in
        let has = back_has requests after e.request put found.0 found.1 found.2 in
        (has.0, found.1, has.1, found.3)
    among k (inr last) = (put.place, e.request, put.at, ap (λ (f : Ending). f.request.number) (same_Some e last.0 last.1) ∙ last.2)

-- a read whose data were being told goes on, and the others wait again
pub told_again_beside : (asked : List PipelineRequest) (requests : List Request) (e : Ending) (next : ℕ)
    → AreOpen asked requests (Some e)
    → AreGoing requests asked
    → 1 ≤ e.request.number
    → StandsAt asked (e.request.number - 1) (Telling next)
    → AreAgain asked requests
told_again_beside asked requests e next opened going positive telling = record {
  waits = waits_again asked requests going;
  all = λ k q at waits. elim (opened.held k q at (unfinished q waits)) [
    | inl any ↦ numbered requests (k + 1) any
    | inr last ↦
        let number : e.request.number ≡ k + 1 = ap (λ (f : Ending). f.request.number) (same_Some e last.0 last.1) ∙ last.2 in
        let one : telling.q ≡ q = same_Some telling.q q (sym telling.at ∙ (ap (slice_get asked) (omega arith) ∙ at)) in
        absurd (no_wait (sym (ap station_again (ap (λ (x : PipelineRequest). x.station) (sym one) ∙ telling.there)) ∙ waits))
  ];
}
  where
    no_wait : Telling next ≡ Waiting → ⊥
    no_wait same = false≢true (ap is_unissued same)
