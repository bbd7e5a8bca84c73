-- The steps of the pipeline that the back and its jobs make: an entry is begun and fetched, a job moves its sectors and ends, its response is begun and pushed.
use Rattle.std.proofs.Common.{◌≡◌, ◌≢◌, ℕ, ◌+◌, ◌-◌, ◌<◌, ◌≤◌, inl, inr, Bool, true, false, List, [], ◌∷◌, ◌++◌, length, refl, ap, sym, ◌∙◌, subst, arith}
use Rattle.std.specs.Prelude.{AllPairs, Option, Some, None, slice_get, slice_set}
use Rattle.std.specs.List.{remove}
use Rattle.std.proofs.lemmas.Option.{none-some, same_Some}
use Rattle.std.proofs.lemmas.Bool.{false≢true, cases_eq, cases_lt}
use Rattle.blk_base.specs.Options.{Options}
use Rattle.schedule_text.specs.declared.line.Line.TheVariants as lines
use Rattle.blk_front.specs.declared.request.Request.{Request}
use Rattle.blk_front.specs.Request.{is_write}
use Rattle.blk_front.specs.declared.stage.Ending.{Ending}
use Rattle.back_jobs.specs.Work.{Work}
use Rattle.blk_back.specs.declared.stage.Reply.{Reply}
use Rattle.pipeline_laws.specs.Allowed.{is_unissued, is_unfetched}
use Rattle.pipeline_laws.specs.Station.{Waiting, Issuing, Station, Fetching, Working, Ended, PipelineRequest}
use Rattle.pipeline_laws.specs.Move.{Move, BeginsFetch, Fetches, BeginsResponse, Replies, moved, station_after, words_after}
use Rattle.pipeline_laws.specs.Pipeline.{Pipeline}
use Rattle.machine_pipeline.specs.Step.{IsSame}
use Rattle.machine_pipeline.proofs.Flow.{Flow, worked}
use Rattle.machine_pipeline.proofs.Series.{IsSeries, left_more, other_place}
use Rattle.machine_pipeline.proofs.ReadBack.{AreReadBack, IsReadBack, ReadAt, has_data_at}
use Rattle.machine_pipeline.proofs.ReadsKept.{reads_moved, reads_fetched, reads_step, reads_fewer}
use Rattle.machine_pipeline.proofs.Lists.{pair_at, set_was, get_set_here, get_set_other, get_append, get_last}
use Rattle.machine_pipeline.proofs.Growing.{push_was}
use Rattle.machine_pipeline.proofs.Removals.{removed_was, removed_has}
use Rattle.machine_pipeline.proofs.Turns.{Stepped}
use Rattle.machine_pipeline.proofs.StationsFront.{moves_on}
use Rattle.machine_pipeline.proofs.Stations.{StandsAt, apart as stands_apart, AreStations, AllStand, ArePushed, HaveJobs, IsResponding, AreReplied, early_open, AreWorking, AreUnfetched, IsMoved, is_moved, stands_now, other_was, other_stays, kind_of, worked_kind, worked_fetched, known_moved, open_moved, issued_moved, unfetched_moved, waiting_moved, pushed_moved, works_moved, held_moved, going_moved, replying_moved, replied_moved, taking_moved}

-- where the back or one of its jobs moves a request on, nothing changes at the front
stand_on : {submitted series : List Request} {sent got got' : ℕ} {replies replies' : List Reply} {asked moved : List PipelineRequest}
    {issuing fetching fetching' : Bool} {ending : Option Ending} {telling : Option ℕ}
    {replying replying' : Option Reply} {requests : List Request} {works works' : List Work} {k : ℕ} {from to : Station} (m : IsMoved asked moved k from to)
    → (2 ≤ kind_of from) × (kind_of from < 7) × (2 ≤ kind_of to) × (kind_of to < 7)
    → AllStand submitted series sent got replies asked issuing fetching ending telling replying requests works
    → AreUnfetched series got' moved → ArePushed series got' sent fetching' moved → AreWorking works' moved → HaveJobs works' moved → IsResponding replying' moved → AreReplied replies' moved
    → AllStand submitted series sent got' replies' moved issuing fetching' ending telling replying' requests works'
stand_on {telling = telling} {requests = requests} {from = from} {to = to} m (from_low, from_high, to_low, to_high) h unfetched pushed works held replying replied =
    assumption (
      known_moved m h.known,
      open_moved m (early_open from (omega arith)) (early_open to (omega arith)) h.opened,
      issued_moved m (late_issued to to_low) h.issued,
      unfetched,
      waiting_moved m from_low h.waiting,
      going_moved requests m (λ le. omega arith) h.going,
      taking_moved telling m (omega arith) h.taking,
    )
  where
    late_issued : (s : Station) → 2 ≤ kind_of s → is_unissued s ≡ false
    late_issued Waiting late = absurd (omega arith)
    late_issued Issuing late = absurd (omega arith)
    late_issued s late = refl

-- a job whose stage is another, of the same station
works_at : {asked : List PipelineRequest} (works : List Work) (place : ℕ) (t t' : Work) → slice_get works place ≡ Some t → t'.id ≡ t.id → worked t'.stage t'.moved ≡ worked t.stage t.moved
    → AreWorking works asked → AreWorking (slice_set works place t') asked
works_at works place t t' here number same h i u e = elim (set_was works place i t t' u here e) [
  | inl it ↦ rw (it.1, number, same) (h place t here)
  | inr other ↦ h i u other.1
]

-- it is among the jobs as before
set_has : (works : List Work) (place n : ℕ) (t t' : Work) → slice_get works place ≡ Some t → t'.id ≡ t.id → (i : ℕ) × (u : Work) × (slice_get works i ≡ Some u) × (u.id ≡ n)
    → (i : ℕ) × (u : Work) × (slice_get (slice_set works place t') i ≡ Some u) × (u.id ≡ n)
set_has works place n t t' here number was = elim (cases_eq was.0 place) [
  | inl same ↦
      let one : was.1 ≡ t = same_Some was.1 t (sym was.2 ∙ (ap (slice_get works) same ∙ here)) in
      (place, t', get_set_here works place t t' here, number ∙ (ap (λ (v : Work). v.id) (sym one) ∙ was.3))
  | inr other ↦ (was.0, was.1, get_set_other works place was.0 t' (λ e. other (sym e)) ∙ was.2, was.3)
]

-- another job has another id, and so another request
pub other_id : (works : List Work) (place i : ℕ) (t u : Work) → AllPairs (λ (a b : Work). a.id < b.id) works → i ≢ place → slice_get works place ≡ Some t → slice_get works i ≡ Some u → u.id ≢ t.id
other_id works place i t u up other here at = elim (cases_lt i place) [
  | inl before ↦ (let less = pair_at (λ (a b : Work). a.id < b.id) works i place u t up before at here in omega arith)
  | inr later ↦ (let less = pair_at (λ (a b : Work). a.id < b.id) works place i t u up (omega arith) here at in omega arith)
]

other_number : (works : List Work) (place i : ℕ) (t u : Work) → AllPairs (λ (a b : Work). a.id < b.id) works → ((j : ℕ) (v : Work) → slice_get works j ≡ Some v → 1 ≤ v.id)
    → slice_get works place ≡ Some t → i ≢ place → slice_get works i ≡ Some u → u.id - 1 ≢ t.id - 1
other_number works place i t u ascending positive here other at = omega (arith, other_id works place i t u ascending other here at, positive place t here, positive i u at)

module _ {config : Options} {g : Flow} {d : Pipeline} {connected issuing : Bool} {ending : Option Ending} {telling : Option ℕ} {requests : List Request} {pages : List ℕ} where
  -- the next entry is begun to be copied
  pub begins_fetch : {replying : Option Reply} {works : List Work} (r : Request)
      → IsSeries g.submitted g.series
      → slice_get g.series g.fetched ≡ Some r
      → g.fetched < g.pushed
      → AreStations config g d connected issuing false ending telling replying requests works pages
      → Stepped None IsSame d [] (λ p. AreStations config g p connected issuing true ending telling replying requests works pages)
  begins_fetch {works = works} r series next more h =
      let x = h.pushed.rest g.fetched r (omega arith) more next (λ t. absurd (false≢true t)) in
      moves_on x BeginsFetch h refl refl tt refl (λ a b e. e) refl
      (λ m. stand_on m (omega arith, omega arith, omega arith, omega arith) h.stand (unfetched_moved m (λ t. refl) h.unfetched)
      (record {
        copied = λ t y at. rw (same_Some y r (sym at ∙ next)) (stands_now m);
        rest = λ j y le lt at other. other_stays m (other_place g.submitted g.series j g.fetched y r series at next (other refl)) (h.pushed.rest j y le lt at (λ t. absurd (false≢true t)));
      })
      (works_moved works m (omega arith) h.works) (held_moved works m (omega arith) h.held) (replying_moved m (omega arith) h.replying) (replied_moved g.replies m (omega arith) h.replied))
      (reads_moved (is_moved x (moved x.q BeginsFetch) refl refl) refl (λ t. absurd (false≢true t)) h.reads)

  -- it is copied, and a job made of it
  pub fetches : {replying : Option Reply} {works : List Work} (t : Work) (r : Request)
      → IsSeries g.submitted g.series
      → slice_get g.series g.fetched ≡ Some r
      → g.fetched < g.pushed
      → t.id ≡ r.number
      → worked t.stage t.moved ≡ Working 0
      → ((r : Request) → ReadAt pages r t.moved t.words [] t.stage)
      → AreStations config g d connected issuing true ending telling replying requests works pages
      → Stepped None IsSame d [] (λ p. AreStations config (record g { fetched = g.fetched + 1 }) p connected issuing false ending telling replying requests (works ++ t ∷ []) pages)
  fetches {works = works} t r series next more number begun unread h =
      let x = h.pushed.copied refl r next in
      moves_on x Fetches h refl refl tt refl (λ a b e. e) refl
      (λ m. stand_on {works' = works ++ t ∷ []} m (omega arith, omega arith, omega arith, omega arith) h.stand
      (λ j q e left.
      let was = other_was (λ (s : Station). is_unfetched s ≡ true) j m (λ t. false≢true t) e left in
      left_more g.series g.fetched (r.number - 1) j r next (let positive = series.positive g.fetched r next in omega arith) was.0 (h.unfetched j q was.1 left))
      (record {
        copied = λ t. absurd (false≢true t);
        rest = λ j y le lt at other. other_stays m (other_place g.submitted g.series j g.fetched y r series at next (omega arith)) (h.pushed.rest j y (omega arith) lt at (λ u. omega arith));
      })
      (λ i u e. elim (push_was works t i u e) [
        | inl was ↦ works_moved works m (omega arith) h.works i u was
        | inr last ↦ rw (last.1, begun, number) (stands_now m)
      ])
      (λ j q at kind. elim (cases_eq j (r.number - 1)) [
        | inl same ↦ (length works, t, get_last works t, (let positive = series.positive g.fetched r next in omega (arith, number, same)))
        | inr other ↦ (let was = h.held j q (sym (m.others j other) ∙ at) kind in (was.0, was.1, get_append works (t ∷ []) was.0 was.1 was.2, was.3))
      ])
      (replying_moved m (omega arith) h.replying) (replied_moved g.replies m (omega arith) h.replied))
      (reads_fetched (is_moved x (moved x.q Fetches) refl refl) t
      (λ i u at. stands_apart d.requests (u.id - 1) (r.number - 1) (worked u.stage u.moved) Fetching (h.works i u at) x (omega (arith, worked_kind u.stage u.moved)))
      (omega (arith, number)) refl refl unread h.reads)

  -- a job's stage is another, of the same station, and so may memory be
  pub job_stays : {fetching : Bool} {replying : Option Reply} {works : List Work} {pages' : List ℕ} (place : ℕ) (t t' : Work)
      → slice_get works place ≡ Some t → t'.id ≡ t.id → worked t'.stage t'.moved ≡ worked t.stage t.moved
      → AreReadBack g.submitted d.requests (slice_set works place t') pages'
      → AreStations config g d connected issuing fetching ending telling replying requests works pages
      → AreStations config g d connected issuing fetching ending telling replying requests (slice_set works place t') pages'
  job_stays {works = works} place t t' here number same reads h =
      assumption (
        reads,
        works_at works place t t' here number same h.works,
        λ (k : ℕ) (q : PipelineRequest) (at : slice_get d.requests k ≡ Some q) (kind : kind_of q.station ≡ 4). set_has works place (k + 1) t t' here number (h.held k q at kind),
      )

  -- a job makes a move of its request
  pub job_steps : {fetching : Bool} {replying : Option Reply} {works : List Work} (place : ℕ) (t t' : Work) (x : StandsAt d.requests (t.id - 1) (worked t.stage t.moved)) (move : Move)
      → slice_get works place ≡ Some t
      → AllPairs (λ (a b : Work). a.id < b.id) works
      → ((i : ℕ) (u : Work) → slice_get works i ≡ Some u → 1 ≤ u.id)
      → t'.id ≡ t.id
      → (let q : PipelineRequest = x.q in station_after q.submission move) ≡ worked t'.stage t'.moved
      → ((r : Request) → slice_get g.submitted (t.id - 1) ≡ Some r → is_write r.transfer ≡ false → (let q : PipelineRequest = x.q in ReadAt pages r t'.moved t'.words (words_after move q.words) t'.stage × (has_data_at (worked t'.stage t'.moved) ≡ true → IsReadBack pages r r.count (words_after move q.words))))
      → AreStations config g d connected issuing fetching ending telling replying requests works pages
      → AreStations config g (record d { requests = slice_set d.requests (t.id - 1) (moved x.q move) }) connected issuing fetching ending telling replying requests (slice_set works place t') pages
  job_steps {works = works} place t t' x move here ascending positive number after now h = record {
    options = h.options;
    front = h.front;
    stand = stand_on m (omega (arith, kind), omega (arith, kind), omega (arith, kind'), omega (arith, kind')) h.stand (unfetched_moved m (λ t. absurd (false≢true (sym (worked_fetched t'.stage t'.moved) ∙ t))) h.unfetched) (pushed_moved m (omega (arith, kind)) (omega (arith, kind)) h.pushed)
        (λ i u e. elim (set_was works place i t t' u here e) [
          | inl it ↦ rw (it.1, number) (stands_now m)
          | inr other ↦ other_stays m (apart i u other.0 other.1) (h.works i u other.1)
        ])
        (λ j q at at_work. elim (cases_eq j (t.id - 1)) [
          | inl same ↦ (place, t', get_set_here works place t t' here, let first = positive place t here in omega (arith, number, same))
          | inr other ↦ set_has works place (j + 1) t t' here number (h.held j q (sym (m.others j other) ∙ at) at_work)
        ])
        (replying_moved m (omega (arith, kind)) h.replying) (replied_moved g.replies m (omega (arith, kind)) h.replied);
    reads = reads_step m place t t' here (ap (λ (n : ℕ). n - 1) number) apart now h.reads;
  }
    where
      kind : kind_of (worked t.stage t.moved) ≡ 4
      kind = worked_kind t.stage t.moved

      kind' : kind_of (worked t'.stage t'.moved) ≡ 4
      kind' = worked_kind t'.stage t'.moved

      m : IsMoved d.requests (slice_set d.requests (t.id - 1) (moved x.q move)) (t.id - 1) (worked t.stage t.moved) (worked t'.stage t'.moved)
      m = is_moved x (moved x.q move) after refl

      apart : (i : ℕ) (u : Work) → i ≢ place → slice_get works i ≡ Some u → u.id - 1 ≢ t.id - 1
      apart i u other at = other_number works place i t u ascending positive here other at

  -- the result of a job that is done is taken, and its response begun
  pub begins_response : {fetching : Bool} {works : List Work} (place : ℕ) (t : Work) (rep : Reply)
      → slice_get works place ≡ Some t
      → worked t.stage t.moved ≡ Ended rep.status
      → rep.id ≡ t.id
      → AllPairs (λ (a b : Work). a.id < b.id) works
      → ((i : ℕ) (u : Work) → slice_get works i ≡ Some u → 1 ≤ u.id)
      → AreStations config g d connected issuing fetching ending telling None requests works pages
      → Stepped None IsSame d [] (λ p. AreStations config g p connected issuing fetching ending telling (Some rep) requests (remove works place) pages)
  begins_response {works = works} place t rep here done number ascending positive h =
      let x : StandsAt d.requests (t.id - 1) (Ended rep.status) = subst (λ (s : Station). StandsAt d.requests (t.id - 1) s) done (h.works place t here) in
      moves_on x (BeginsResponse rep.status) h refl refl tt refl (λ a b e. e) refl
      (λ m. stand_on m (omega arith, omega arith, omega arith, omega arith) h.stand (unfetched_moved m (λ t. absurd (false≢true t)) h.unfetched) (pushed_moved m (omega arith) (omega arith) h.pushed)
      (λ i u e.
      let was = removed_was works place i u e in
      other_stays m (other_number works place was.0 t u ascending positive here was.1 was.2) (h.works was.0 u was.2))
      (λ j q at kind.
      let was = other_was (λ (s : Station). kind_of s ≡ 4) j m (λ e. omega arith) at kind in
      let its = h.held j q was.1 kind in
      let left = removed_has works place its.0 its.1 its.2 (λ same.
      let numbered = ap (λ (u : Work). u.id) (same_Some its.1 t (sym its.2 ∙ (ap (slice_get works) same ∙ here))) in
      was.0 (omega (arith, numbered, its.3))) in
      (left.0, its.1, left.1, its.3))
      (λ r same. rw (same_Some r rep (sym same), number) (stands_now m))
      (replied_moved g.replies m (omega arith) h.replied))
      (reads_fewer (λ i u e. let was = removed_was works place i u e in (was.0, was.2)) (reads_moved (is_moved x (moved x.q (BeginsResponse rep.status)) refl refl) refl (λ t. t) h.reads))

  -- the response is pushed
  pub replies : {fetching : Bool} {works : List Work} (rep : Reply)
      → 1 ≤ rep.id
      → length g.replies + g.taken ≡ g.replied
      → AreStations config g d connected issuing fetching ending telling (Some rep) requests works pages
      → Stepped None IsSame d (lines.Reply rep.id rep.status ∷ []) (λ p. AreStations config (record g { replied = g.replied + 1; replies = g.replies ++ rep ∷ [] }) p connected issuing fetching ending telling None requests works pages)
  replies {works = works} rep positive counted h =
      let x = h.replying rep refl in
      moves_on x (Replies rep.status) h refl refl tt (ap (λ (n : ℕ). lines.Reply n rep.status ∷ []) (omega arith)) (λ a b e. e) refl
      (λ m. stand_on {replies' = g.replies ++ rep ∷ []} m (omega arith, omega arith, omega arith, omega arith) h.stand (unfetched_moved m (λ t. absurd (false≢true t)) h.unfetched) (pushed_moved m (omega arith) (omega arith) h.pushed)
      (works_moved works m (omega arith) h.works) (held_moved works m (omega arith) h.held) (λ r none. absurd (none-some r none))
      (λ i other e. elim (push_was g.replies rep i other e) [
        | inl was ↦ replied_moved g.replies m (omega arith) h.replied i other was
        | inr last ↦ rw last.1 (stands_now m)
      ]))
      (reads_moved (is_moved x (moved x.q (Replies rep.status)) refl refl) refl (λ t. t) h.reads)
