-- What the frames of reads hold goes on holding: a request moves on, a job is another, memory changes elsewhere.
use Rattle.std.proofs.Common.{◌≡◌, ◌≢◌, ℕ, ◌+◌, ◌-◌, ◌*◌, ◌<◌, ◌≤◌, inl, inr, Bool, true, false, List, [], ◌∷◌, ◌++◌, length, ap, sym, ◌∙◌, subst, arith}
use Rattle.std.specs.Prelude.{Option, Some, slice_get, slice_set}
use Rattle.std.proofs.lemmas.Option.{same_Some, slice_get_within}
use Rattle.std.proofs.lemmas.Bool.{false≢true, cases_eq}
use Rattle.blk_base.specs.Options.{Options}
use Rattle.pipeline_laws.specs.Station.{Station, Ended, Replying, Replied, Taking, Telling, PipelineRequest}
use Rattle.pipeline_laws.specs.Pipeline.{Pipeline}
use Rattle.blk_front.specs.declared.request.Request.{Request}
use Rattle.blk_front.specs.declared.stage.Ending.{Ending}
use Rattle.blk_front.specs.Request.{is_write}
use Rattle.back_jobs.specs.declared.stage.JobStage.{JobStage}
use Rattle.back_jobs.specs.declared.stage.JobStage.TheVariants as job
use Rattle.back_jobs.specs.Work.{Work}
use Rattle.blk_back.specs.declared.stage.Reply.{Reply}
use Rattle.machine_pipeline.proofs.Flow.{Flow, worked, data_word}
use Rattle.machine_pipeline.proofs.ReadBack.{IsReadBack, IsReturned, ReadAt, AreReadBack, has_data_at, returned_on}
use Rattle.machine_pipeline.proofs.Lists.{set_was}
use Rattle.machine_pipeline.proofs.Growing.{push_was}
use Rattle.machine_pipeline.proofs.Kept.{SameFrame, data_same}
use Rattle.machine_pipeline.proofs.Data.{SameData}
use Rattle.machine_pipeline.proofs.Holds.{AreSubmitted}
use Rattle.machine_pipeline.proofs.Stations.{StandsAt, AreStations, AreWorking, IsMoved, kind_of, worked_kind}

-- fewer jobs
pub reads_fewer : {submitted : List Request} {asked : List PipelineRequest} {works fewer : List Work} {pages : List ℕ}
    → ((i : ℕ) (t : Work) → slice_get fewer i ≡ Some t → (j : ℕ) × (slice_get works j ≡ Some t))
    → AreReadBack submitted asked works pages → AreReadBack submitted asked fewer pages
reads_fewer were h = record { working = λ i t r q here its at reads. let was = were i t here in h.working was.0 t r q was.1 its at reads; after = h.after }

-- a job is another, of the same request
pub reads_set : {submitted : List Request} {asked : List PipelineRequest} {works : List Work} {pages : List ℕ} (place : ℕ) (t t' : Work)
    → slice_get works place ≡ Some t
    → ((r : Request) (q : PipelineRequest) → slice_get submitted (t'.id - 1) ≡ Some r → slice_get asked (t'.id - 1) ≡ Some q → is_write r.transfer ≡ false → ReadAt pages r t'.moved t'.words q.words t'.stage)
    → AreReadBack submitted asked works pages
    → AreReadBack submitted asked (slice_set works place t') pages
reads_set {submitted} {asked} {works} {pages} place t t' here now h = record {
  working = λ i u r q at its was reads. elim (set_was works place i t t' u here at) [
    | inl it ↦
        subst (λ (v : Work). slice_get submitted (v.id - 1) ≡ Some r → slice_get asked (v.id - 1) ≡ Some q → ReadAt pages r v.moved v.words q.words v.stage) (sym it.1)
        (λ e f. now r q e f reads) its was
    | inr other ↦ h.working i u r q other.1 its was reads
  ];
  after = h.after;
}

-- the request that moved, as it is now
now_is : {asked moved : List PipelineRequest} {k : ℕ} {from to : Station} (m : IsMoved asked moved k from to) (j : ℕ) (q : PipelineRequest) → j ≡ k → slice_get moved j ≡ Some q → m.now ≡ q
now_is {moved = moved} m j q same at = same_Some m.now q (sym m.here ∙ ap (slice_get moved) (sym same) ∙ at)

module _ {submitted : List Request} {asked moved : List PipelineRequest} {works : List Work} {pages : List ℕ} {k : ℕ} {from to : Station} (m : IsMoved asked moved k from to) where
  -- what has its data was read before, where what moved isn't one of them, or has them
  after_moved : ((r : Request) → slice_get submitted k ≡ Some r → is_write r.transfer ≡ false → has_data_at to ≡ true → IsReadBack pages r r.count m.now.words)
      → AreReadBack submitted asked works pages
      → (j : ℕ) (r : Request) (q : PipelineRequest) → slice_get submitted j ≡ Some r → slice_get moved j ≡ Some q → is_write r.transfer ≡ false → has_data_at q.station ≡ true
      → IsReadBack pages r r.count q.words
  after_moved now h j r q its at reads there = elim (cases_eq j k) [
    | inl same ↦
        let one = now_is m j q same at in
        subst (λ (x : PipelineRequest). IsReadBack pages r r.count x.words) one
        (now r (ap (slice_get submitted) (sym same) ∙ its) reads (sym (ap has_data_at m.there) ∙ (ap (λ (x : PipelineRequest). has_data_at x.station) one ∙ there)))
    | inr other ↦ h.after j r q its (sym (m.others j other) ∙ at) reads there
  ]

  -- a request moves on, with what it read
  pub reads_moved : m.now.words ≡ m.was.q.words → (has_data_at to ≡ true → has_data_at from ≡ true) → AreReadBack submitted asked works pages → AreReadBack submitted moved works pages
  reads_moved words has h = record {
    working = λ i t r q here its at reads. elim (cases_eq (t.id - 1) k) [
      | inl same ↦
          subst (λ (ws : List (List ℕ)). ReadAt pages r t.moved t.words ws t.stage) (sym words ∙ ap (λ (x : PipelineRequest). x.words) (now_is m (t.id - 1) q same at))
          (h.working i t r m.was.q here its (ap (slice_get asked) same ∙ m.was.at) reads)
      | inr other ↦ h.working i t r q here its (sym (m.others (t.id - 1) other) ∙ at) reads
    ];
    after = after_moved (λ r its reads there. rw words (h.after k r m.was.q its m.was.at reads (ap has_data_at m.was.there ∙ has there))) h;
  }

  -- a job moves its request on
  pub reads_step : (place : ℕ) (t t' : Work) → slice_get works place ≡ Some t → t'.id - 1 ≡ k
      → ((i : ℕ) (u : Work) → i ≢ place → slice_get works i ≡ Some u → u.id - 1 ≢ k)
      → ((r : Request) → slice_get submitted k ≡ Some r → is_write r.transfer ≡ false
      → ReadAt pages r t'.moved t'.words m.now.words t'.stage × (has_data_at to ≡ true → IsReadBack pages r r.count m.now.words))
      → AreReadBack submitted asked works pages
      → AreReadBack submitted moved (slice_set works place t') pages
  reads_step place t t' here number apart now h = record {
    working = λ i u r q at its was reads. elim (set_was works place i t t' u here at) [
      | inl it ↦
          let same : u.id - 1 ≡ k = ap (λ (v : Work). v.id - 1) it.1 ∙ number in
          rw it.1 (subst (λ (x : PipelineRequest). ReadAt pages r t'.moved t'.words x.words t'.stage) (now_is m (u.id - 1) q same was) (now r (ap (slice_get submitted) (sym same) ∙ its) reads).0)
      | inr other ↦ h.working i u r q other.1 its (sym (m.others (u.id - 1) (apart i u other.0 other.1)) ∙ was) reads
    ];
    after = after_moved (λ r its reads. (now r its reads).1) h;
  }

  -- an entry was fetched: the new job has read nothing
  pub reads_fetched : (t : Work) → ((i : ℕ) (u : Work) → slice_get works i ≡ Some u → u.id - 1 ≢ k) → t.id - 1 ≡ k → m.now.words ≡ [] → has_data_at to ≡ false
      → ((r : Request) → ReadAt pages r t.moved t.words [] t.stage)
      → AreReadBack submitted asked works pages
      → AreReadBack submitted moved (works ++ t ∷ []) pages
  reads_fetched t apart number none empty now h = record {
    working = λ i u r q at its was reads. elim (push_was works t i u at) [
      | inl old ↦ h.working i u r q old its (sym (m.others (u.id - 1) (apart i u old)) ∙ was) reads
      | inr last ↦
          let one = now_is m (u.id - 1) q (ap (λ (v : Work). v.id - 1) last.1 ∙ number) was in
          rw last.1 (subst (λ (ws : List (List ℕ)). ReadAt pages r t.moved t.words ws t.stage) (sym none ∙ ap (λ (x : PipelineRequest). x.words) one) (now r))
    ];
    after = after_moved (λ r its reads there. absurd (false≢true (sym empty ∙ there))) h;
  }

-- a request more was submitted
pub reads_more : (submitted : List Request) (asked : List PipelineRequest) (works : List Work) (pages : List ℕ) (x : Request) (y : PipelineRequest)
    → length asked ≡ length submitted
    → has_data_at y.station ≡ false
    → ((i : ℕ) (t : Work) → slice_get works i ≡ Some t → (q : PipelineRequest) × (slice_get asked (t.id - 1) ≡ Some q))
    → AreReadBack submitted asked works pages
    → AreReadBack (submitted ++ x ∷ []) (asked ++ y ∷ []) works pages
reads_more submitted asked works pages x y as_many empty known h = record {
  working = λ i t r q here its at reads.
      let within = (let was = known i t here in slice_get_within asked (t.id - 1) was.0 was.1) in
      h.working i t r q here (earlier submitted x (t.id - 1) r (omega (arith, as_many)) its) (earlier asked y (t.id - 1) q within at) reads;
  after = λ j r q its at reads there. elim (push_was asked y j q at) [
    | inl was ↦ h.after j r q (earlier submitted x j r (let within = slice_get_within asked j q was in omega (arith, as_many)) its) was reads there
    | inr last ↦ absurd (false≢true (sym empty ∙ (ap (λ (z : PipelineRequest). has_data_at z.station) (sym last.1) ∙ there)))
  ];
}
  where
    earlier : {X : Type 0} (xs : List X) (z : X) (j : ℕ) (v : X) → j < length xs → slice_get (xs ++ z ∷ []) j ≡ Some v → slice_get xs j ≡ Some v
    earlier xs z j v lt e = elim (push_was xs z j v e) [ inl was ↦ was | inr last ↦ absurd (let at = last.0 in omega arith) ]

-- memory changes, but no word of these sectors
pub back_on : {old new : List ℕ} {r : Request} {moved : ℕ} {noted : List (List ℕ)} → ((n : ℕ) → n < 128 * moved → data_word new r n ≡ data_word old r n) → IsReadBack old r moved noted
    → IsReadBack new r moved noted
back_on {noted = noted} same h = record {
  counted = h.counted;
  few = h.few;
  sectors = λ i words at.
      let was = h.sectors i words at in
      record { size = was.size; held = λ k few. same (128 * i + k) (omega (arith, h.counted, slice_get_within noted i words at)) ∙ was.held k few };
}

-- so it is where no word of the request's data changes
pub back_kept : {old new : List ℕ} {r : Request} {moved : ℕ} {noted : List (List ℕ)} → SameData old new r → IsReadBack old r moved noted → IsReadBack new r moved noted
back_kept same h = back_on (λ n lt. same n (omega (arith, h.few))) h

returned_kept : {old new : List ℕ} {r : Request} {moved : ℕ} {hand : List ℕ} {noted : List (List ℕ)} {j : ℕ} → SameData old new r → IsReturned old r moved hand noted j
    → IsReturned new r moved hand noted j
returned_kept {new = new} {j = j} same h =
    returned_on new j h (back_kept same h.back) (λ k lt few. same (128 * length h.earlier + k) (omega (arith, h.counted, h.few)) ∙ h.so_far k lt few)

pub read_at_kept : (old new : List ℕ) (r : Request) (moved : ℕ) (hand : List ℕ) (noted : List (List ℕ)) (s : JobStage) → SameData old new r → ReadAt old r moved hand noted s → ReadAt new r moved hand noted s
read_at_kept old new r moved hand noted (job.WriteWord m j) same h = returned_kept same h
read_at_kept old new r moved hand noted s same h = search back_kept

data_kind : (s : Station) → has_data_at s ≡ true → (4 ≤ kind_of s) × (kind_of s ≤ 7)
data_kind (Ended status) t = (omega arith, omega arith)
data_kind (Replying status) t = (omega arith, omega arith)
data_kind (Replied status) t = (omega arith, omega arith)
data_kind (Taking status) t = (omega arith, omega arith)
data_kind (Telling next) t = (omega arith, omega arith)
data_kind s t = absurd (false≢true t)

-- memory changes in no frame of a request that was fetched and isn't finished
pub reads_kept : (submitted : List Request) (asked : List PipelineRequest) (works : List Work) (old new : List ℕ)
    → ((k : ℕ) (r : Request) (q : PipelineRequest) → slice_get submitted k ≡ Some r → slice_get asked k ≡ Some q → 4 ≤ kind_of q.station → kind_of q.station ≤ 7 → SameData old new r)
    → AreWorking works asked
    → AreReadBack submitted asked works old
    → AreReadBack submitted asked works new
reads_kept submitted asked works old new same stands h = record {
  working = λ i t r q here its at reads.
      let x : StandsAt asked (t.id - 1) (worked t.stage t.moved) = stands i t here in
      let one : x.q ≡ q = same_Some x.q q (sym x.at ∙ at) in
      let kind : kind_of q.station ≡ 4 = ap (λ (y : PipelineRequest). kind_of y.station) (sym one) ∙ (ap kind_of x.there ∙ worked_kind t.stage t.moved) in
      read_at_kept old new r t.moved t.words q.words t.stage (same (t.id - 1) r q its at (omega (arith, kind)) (omega (arith, kind))) (h.working i t r q here its at reads);
  after = λ j r q its at reads there.
      let kind = data_kind q.station there in
      back_kept (same j r q its at kind.0 kind.1) (h.after j r q its at reads there);
}

-- so all stations stay
pub stations_kept : (config : Options) (g : Flow) (d : Pipeline) (connected issuing fetching : Bool) (ending : Option Ending) (telling : Option ℕ) (replying : Option Reply) (requests : List Request) (works : List Work) (old new : List ℕ)
    → ((k : ℕ) (r : Request) (q : PipelineRequest) → slice_get g.submitted k ≡ Some r → slice_get d.requests k ≡ Some q → 4 ≤ kind_of q.station → kind_of q.station ≤ 7 → SameData old new r)
    → AreStations config g d connected issuing fetching ending telling replying requests works old
    → AreStations config g d connected issuing fetching ending telling replying requests works new
stations_kept config g d connected issuing fetching ending telling replying requests works old new same h =
    record { options = h.options; front = h.front; stand = h.stand; reads = reads_kept g.submitted d.requests works old new same h.works h.reads }

-- memory changes in no frame of the pool
pub stations_elsewhere : (config : Options) (g : Flow) (d : Pipeline) (connected issuing fetching : Bool) (ending : Option Ending) (telling : Option ℕ) (replying : Option Reply) (requests : List Request) (works : List Work) (old new : List ℕ) (sectors last : ℕ)
    → AreSubmitted g.submitted sectors last
    → ((f : ℕ) → 18 ≤ f → f < 1018 → SameFrame old new f)
    → AreStations config g d connected issuing fetching ending telling replying requests works old
    → AreStations config g d connected issuing fetching ending telling replying requests works new
stations_elsewhere config g d connected issuing fetching ending telling replying requests works old new sectors last known same h =
    stations_kept config g d connected issuing fetching ending telling replying requests works old new (λ k r q its at low high. let is = known.each k r its in data_same old new r is.frames same) h
