-- Where the machine has each request: at the front, on the ring, at the back or one of its jobs. A request is named by its place among all, from 0; its number, which is its id on the ring, is one more.
use Rattle.std.proofs.Common.{◌≡◌, ◌≢◌, ℕ, ◌+◌, ◌-◌, ◌<◌, ◌≤◌, ◌==◌, ◌⊎◌, inl, inr, Bool, true, false, not, cond, List, length, refl, ap, sym, ◌∙◌, subst, arith, length-set}
use Rattle.std.specs.Prelude.{Option, Some, None, slice_get, slice_set, count_by}
use Rattle.std.specs.List.{list_any}
use Rattle.std.proofs.lemmas.Option.{same_Some}
use Rattle.std.proofs.lemmas.Bool.{cases_eq, true≢false}
use Rattle.blk_base.specs.Options.{Options}
use Rattle.blk_base.specs.declared.operation.Status.{Status}
use Rattle.blk_front.specs.declared.request.Request.{Request}
use Rattle.blk_front.specs.declared.stage.Ending.{Ending}
use Rattle.back_jobs.specs.declared.stage.JobStage.{JobStage}
use Rattle.back_jobs.specs.declared.stage.JobStage.TheVariants as job
use Rattle.back_jobs.specs.Work.{Work}
use Rattle.blk_back.specs.declared.stage.Reply.{Reply}
use Rattle.pipeline_laws.specs.Station.{Station, Waiting, Issuing, Pushed, Fetching, Working, Failed, Ended, Replying, Replied, Taking, Telling, Finished, PipelineRequest, is_finished}
use Rattle.pipeline_laws.specs.Pipeline.{Pipeline, Front}
use Rattle.pipeline_laws.specs.Allowed.{is_unissued, is_unfetched}
use Rattle.machine_pipeline.proofs.Flow.{Flow, count_of, worked, submitted_job}
use Rattle.machine_pipeline.proofs.Series.{IsLeft}
use Rattle.machine_pipeline.proofs.ReadBack.{AreReadBack}
use Rattle.machine_pipeline.proofs.Lists.{get_set_here, get_set_other, count_set}

-- the request at this place is at that station
pub record StandsAt (asked : List PipelineRequest) (k : ℕ) (station : Station) : Type 0 where
  pub q : PipelineRequest
  pub at : slice_get asked k ≡ Some q
  pub there : q.station ≡ station

-- the pipeline has each submitted request, as it was asked
pub record AreKnown (submitted : List Request) (asked : List PipelineRequest) : Type 0 where
  pub as_many : length asked ≡ length submitted
  pub each : (k : ℕ) (r : Request) (q : PipelineRequest) → slice_get submitted k ≡ Some r → slice_get asked k ≡ Some q → q.submission ≡ submitted_job r.transfer r.sector r.count

-- it has as many unfinished requests as the front, and each of those is one of the front's
pub record AreOpen (asked : List PipelineRequest) (requests : List Request) (ending : Option Ending) : Type 0 where
  pub unfinished : count_by (λ (q : PipelineRequest). not (is_finished q.station)) asked ≡ length requests + count_of ending
  pub held : (k : ℕ) (q : PipelineRequest) → slice_get asked k ≡ Some q → is_finished q.station ≡ false → (list_any (λ (r : Request). r.number == k + 1) requests ≡ true) ⊎ ((e : Ending) × (ending ≡ Some e) × (e.request.number ≡ k + 1))

-- of the series, what wasn't pushed waits at the front, but the request that is being issued
pub record AreWaiting (series : List Request) (pushed : ℕ) (issuing : Bool) (asked : List PipelineRequest) : Type 0 where
  pub issued : issuing ≡ true → (r : Request) → slice_get series pushed ≡ Some r → StandsAt asked (r.number - 1) Issuing
  pub rest : (i : ℕ) (r : Request) → pushed ≤ i → slice_get series i ≡ Some r → (issuing ≡ true → i ≢ pushed) → StandsAt asked (r.number - 1) Waiting

-- what was pushed and not fetched waits on the ring, but the request whose entry is being copied
pub record ArePushed (series : List Request) (fetched pushed : ℕ) (fetching : Bool) (asked : List PipelineRequest) : Type 0 where
  pub copied : fetching ≡ true → (r : Request) → slice_get series fetched ≡ Some r → StandsAt asked (r.number - 1) Fetching
  pub rest : (i : ℕ) (r : Request) → fetched ≤ i → i < pushed → slice_get series i ≡ Some r → (fetching ≡ true → i ≢ fetched) → StandsAt asked (r.number - 1) Pushed

-- what isn't issued is in the series, and wasn't pushed
abbrev pub AreIssued : List Request → ℕ → List PipelineRequest → Type 0
AreIssued series pushed asked = (k : ℕ) (q : PipelineRequest) → slice_get asked k ≡ Some q → is_unissued q.station ≡ true → IsLeft series pushed k

-- what isn't issued isn't fetched
pub unissued_unfetched : (s : Station) → is_unissued s ≡ true → is_unfetched s ≡ true
unissued_unfetched Pushed t = refl
unissued_unfetched Fetching t = refl
unissued_unfetched s t = t

-- what isn't fetched is in the series, and wasn't fetched: entries are copied in the order in which they are pushed
abbrev pub AreUnfetched : List Request → ℕ → List PipelineRequest → Type 0
AreUnfetched series fetched asked = (k : ℕ) (q : PipelineRequest) → slice_get asked k ≡ Some q → is_unfetched q.station ≡ true → IsLeft series fetched k

-- a job's id is its request's number
abbrev pub AreWorking : List Work → List PipelineRequest → Type 0
AreWorking works asked = (i : ℕ) (t : Work) → slice_get works i ≡ Some t → StandsAt asked (t.id - 1) (worked t.stage t.moved)

-- stations of one kind have one number
abbrev pub kind_of : Station → ℕ
kind_of Waiting = 0
kind_of Issuing = 1
kind_of Pushed = 2
kind_of Fetching = 3
kind_of (Working moved) = 4
kind_of Failed = 4
kind_of (Ended status) = 4
kind_of (Replying status) = 5
kind_of (Replied status) = 6
kind_of (Taking status) = 7
kind_of (Telling next) = 7
kind_of (Finished status) = 9

-- and each request at work has its job among these
abbrev pub HaveJobs : List Work → List PipelineRequest → Type 0
HaveJobs works asked = (k : ℕ) (q : PipelineRequest) → slice_get asked k ≡ Some q → kind_of q.station ≡ 4 → (i : ℕ) × (t : Work) × (slice_get works i ≡ Some t) × (t.id ≡ k + 1)

-- a request on its way, whose response wasn't taken
pub record IsGoing (asked : List PipelineRequest) (k : ℕ) : Type 0 where
  pub q : PipelineRequest
  pub at : slice_get asked k ≡ Some q
  pub early : kind_of q.station ≤ 6

-- each of the front's requests is
abbrev pub AreGoing : List Request → List PipelineRequest → Type 0
AreGoing requests asked = (i : ℕ) (r : Request) → slice_get requests i ≡ Some r → IsGoing asked (r.number - 1)

abbrev pub IsResponding : Option Reply → List PipelineRequest → Type 0
IsResponding replying asked = (rep : Reply) → replying ≡ Some rep → StandsAt asked (rep.id - 1) (Replying rep.status)

abbrev pub AreReplied : List Reply → List PipelineRequest → Type 0
AreReplied replies asked = (i : ℕ) (rep : Reply) → slice_get replies i ≡ Some rep → StandsAt asked (rep.id - 1) (Replied rep.status)

-- a request whose response was taken: its grants are being ended, or its data are told
abbrev pub finishing : Option ℕ → Status → Station
finishing None status = Taking status
finishing (Some next) status = Telling next

abbrev pub IsTaking : Option Ending → Option ℕ → List PipelineRequest → Type 0
IsTaking ending telling asked = (e : Ending) → ending ≡ Some e → StandsAt asked (e.request.number - 1) (finishing telling e.status)

-- the front of the pipeline: connected or not, closing or not, and not closed
abbrev pub open_front : (connected closing : Bool) → Front
open_front connected closing = record { connected = connected; closing = closing; closed = false }

-- where each request stands: the front issues one or not, and ends the grants of one, the back copies an entry or not, and writes a response, with these requests and jobs
pub record AllStand (submitted series : List Request) (sent got : ℕ) (replies : List Reply) (asked : List PipelineRequest) (issuing fetching : Bool) (ending : Option Ending) (telling : Option ℕ) (response : Option Reply) (requests : List Request) (jobs : List Work) : Type 0 where
  pub known : AreKnown submitted asked
  pub opened : AreOpen asked requests ending
  pub issued : AreIssued series sent asked
  pub unfetched : AreUnfetched series got asked
  pub waiting : AreWaiting series sent issuing asked
  pub pushed : ArePushed series got sent fetching asked
  pub works : AreWorking jobs asked
  pub held : HaveJobs jobs asked
  pub going : AreGoing requests asked
  pub replying : IsResponding response asked
  pub replied : AreReplied replies asked
  pub taking : IsTaking ending telling asked

-- the pipeline, with the front connected or not
pub record AreStations (config : Options) (g : Flow) (d : Pipeline) (connected issuing fetching : Bool) (ending : Option Ending) (telling : Option ℕ) (response : Option Reply) (requests : List Request) (jobs : List Work) (pages : List ℕ) : Type 0 where
  pub options : d.options ≡ config
  pub front : d.front ≡ open_front connected g.closing
  pub stand : AllStand g.submitted g.series g.pushed g.fetched g.replies d.requests issuing fetching ending telling response requests jobs
  pub open stand use *
  pub reads : AreReadBack g.submitted d.requests jobs pages

-- a job's request
pub worked_kind : (s : JobStage) (moved : ℕ) → kind_of (worked s moved) ≡ 4
worked_kind (job.Abort m) moved = refl
worked_kind (job.Done status) moved = refl
worked_kind s moved = refl

pub worked_fetched : (s : JobStage) (moved : ℕ) → is_unfetched (worked s moved) ≡ false
worked_fetched (job.Abort m) moved = refl
worked_fetched (job.Done status) moved = refl
worked_fetched s moved = refl

-- requests at stations of two kinds are two
pub apart : (asked : List PipelineRequest) (j k : ℕ) (a b : Station) → StandsAt asked j a → StandsAt asked k b → kind_of a ≢ kind_of b → j ≢ k
apart asked j k a b x y differ same =
    differ (ap kind_of (sym x.there ∙ (ap (λ (q : PipelineRequest). q.station) (same_Some x.q y.q (sym x.at ∙ (ap (slice_get asked) same ∙ y.at))) ∙ y.there)))

-- the request at this place went from one station to another, and all others are as they were
pub record IsMoved (asked moved : List PipelineRequest) (k : ℕ) (from to : Station) : Type 0 where
  pub was : StandsAt asked k from
  pub now : PipelineRequest
  pub here : slice_get moved k ≡ Some now
  pub there : now.station ≡ to
  pub submission : now.submission ≡ (let q : PipelineRequest = was.q in q.submission)
  pub others : (j : ℕ) → j ≢ k → slice_get moved j ≡ slice_get asked j
  pub as_many : length moved ≡ length asked
  pub counted : count_by (λ (q : PipelineRequest). not (is_finished q.station)) moved + cond (not (is_finished from)) 1 0 ≡ count_by (λ (q : PipelineRequest). not (is_finished q.station)) asked + cond (not (is_finished to)) 1 0

abbrev pub is_moved : {asked : List PipelineRequest} {k : ℕ} {from to : Station} (x : StandsAt asked k from) (now : PipelineRequest) → now.station ≡ to → now.submission ≡ (let q : PipelineRequest = x.q in q.submission) → IsMoved asked (slice_set asked k now) k from to
is_moved {asked} {k} {from} {to} x now after job =
    let first : ◌≡◌ {A = ℕ} (cond (not (is_finished (let q : PipelineRequest = x.q in q.station))) 1 0) (cond (not (is_finished from)) 1 0) = ap (λ (s : Station). cond (not (is_finished s)) 1 0) x.there in
    let second : ◌≡◌ {A = ℕ} (cond (not (is_finished now.station)) 1 0) (cond (not (is_finished to)) 1 0) = ap (λ (s : Station). cond (not (is_finished s)) 1 0) after in
    record {
      was = x;
      now = now;
      here = get_set_here asked k x.q now x.at;
      there = after;
      submission = job;
      others = λ j other. get_set_other asked k j now (λ same. other (sym same));
      as_many = length-set asked k now;
      counted = omega (arith, (count_set (λ (y : PipelineRequest). not (is_finished y.station)) asked k x.q now x.at), first, second);
    }

pub stands_now : {asked moved : List PipelineRequest} {k : ℕ} {from to : Station} → IsMoved asked moved k from to → StandsAt moved k to
stands_now m = record { q = m.now; at = m.here; there = m.there }

-- of the same thing the same is said
pub stands_too : {A : Type 0} {asked : List PipelineRequest} (place : A → ℕ) (station : A → Station) {a b : A} → a ≡ b → StandsAt asked (place a) (station a) → StandsAt asked (place b) (station b)
stands_too {A = A} {asked = asked} place station same x = subst (λ (z : A). StandsAt asked (place z) (station z)) same x

-- one at a station of which something holds that doesn't hold of where the other came is another, and was there before
pub other_was : (P : Station → Type 0) (j : ℕ) {asked moved : List PipelineRequest} {k : ℕ} {from to : Station} {q : PipelineRequest} → IsMoved asked moved k from to → (P to → ⊥) → slice_get moved j ≡ Some q → P q.station → (j ≢ k) × (slice_get asked j ≡ Some q)
other_was P j {moved = moved} {k = k} {q = q} m none at holds = elim (cases_eq j k) [
  | inl same ↦
      absurd (none (subst P m.there (subst (λ (x : PipelineRequest). P x.station) (sym (same_Some m.now q (sym m.here ∙ (ap (slice_get moved) (sym same) ∙ at)))) holds)))
  | inr apart ↦ (apart, sym (m.others j apart) ∙ at)
]

-- another request stays, as one of another kind is
pub other_stays : {asked moved : List PipelineRequest} {k : ℕ} {from to : Station} {j : ℕ} {a : Station} → IsMoved asked moved k from to → j ≢ k → StandsAt asked j a → StandsAt moved j a
other_stays {j = j} m other x = record { q = x.q; at = m.others j other ∙ x.at; there = x.there }

kind_stays : {asked moved : List PipelineRequest} {k : ℕ} {from to : Station} {j : ℕ} {a : Station} → IsMoved asked moved k from to → kind_of a ≢ kind_of from → StandsAt asked j a → StandsAt moved j a
kind_stays {asked = asked} {k = k} {from = from} {j = j} {a = a} m differ x = other_stays m (apart asked j k a from x m.was differ) x

pub known_moved : {submitted : List Request} {asked moved : List PipelineRequest} {k : ℕ} {from to : Station} → IsMoved asked moved k from to → AreKnown submitted asked → AreKnown submitted moved
known_moved {asked = asked} {moved = moved} {k = k} m h = record {
  as_many = m.as_many ∙ h.as_many;
  each = λ j r q e f. elim (cases_eq j k) [
    | inl same ↦
        let one : m.now ≡ q = same_Some m.now q (sym m.here ∙ ap (slice_get moved) (sym same) ∙ f) in
        ap (λ (x : PipelineRequest). x.submission) (sym one) ∙ (m.submission ∙ h.each j r m.was.q e (ap (slice_get asked) same ∙ m.was.at))
    | inr other ↦ h.each j r q e (sym (m.others j other) ∙ f)
  ];
}

pub open_moved : {asked moved : List PipelineRequest} {k : ℕ} {from to : Station} {requests : List Request} {ending : Option Ending} → IsMoved asked moved k from to → is_finished from ≡ false → is_finished to ≡ false → AreOpen asked requests ending → AreOpen moved requests ending
open_moved {asked = asked} {k = k} {from = from} {to = to} m before after h =
    let first : ◌≡◌ {A = ℕ} (cond (not (is_finished from)) 1 0) 1 = rw before refl in
    let second : ◌≡◌ {A = ℕ} (cond (not (is_finished to)) 1 0) 1 = rw after refl in
    record {
      unfinished = omega (arith, m.counted, h.unfinished, first, second);
      held = λ j q e going. elim (cases_eq j k) [
        | inl same ↦ h.held j m.was.q (ap (slice_get asked) same ∙ m.was.at) (ap is_finished m.was.there ∙ before)
        | inr other ↦ h.held j q (sym (m.others j other) ∙ e) going
      ];
    }

pub issued_moved : {series : List Request} {sent : ℕ} {asked moved : List PipelineRequest} {k : ℕ} {from to : Station} → IsMoved asked moved k from to → is_unissued to ≡ false → AreIssued series sent asked → AreIssued series sent moved
issued_moved m later h j q e left = let was = other_was (λ (s : Station). is_unissued s ≡ true) j m (λ t. true≢false (sym t ∙ later)) e left in h j q was.1 left

pub unfetched_moved : {series : List Request} {got : ℕ} {asked moved : List PipelineRequest} {k : ℕ} {from to : Station} → IsMoved asked moved k from to → (is_unfetched to ≡ true → is_unfetched from ≡ true) → AreUnfetched series got asked → AreUnfetched series got moved
unfetched_moved {asked = asked} {moved = moved} {k = k} m early h j q e left = elim (cases_eq j k) [
  | inl same ↦
      let one : m.now ≡ q = same_Some m.now q (sym m.here ∙ (ap (slice_get moved) (sym same) ∙ e)) in
      h j m.was.q (ap (slice_get asked) same ∙ m.was.at) (ap is_unfetched m.was.there ∙ early (sym (ap is_unfetched m.there) ∙ (ap (λ (x : PipelineRequest). is_unfetched x.station) one ∙ left)))
  | inr other ↦ h j q (sym (m.others j other) ∙ e) left
]

pub waiting_moved : {series : List Request} {sent : ℕ} {issuing : Bool} {asked moved : List PipelineRequest} {k : ℕ} {from to : Station} → IsMoved asked moved k from to → 2 ≤ kind_of from → AreWaiting series sent issuing asked → AreWaiting series sent issuing moved
waiting_moved m later h = record {
  issued = λ t r at. kind_stays m (omega arith) (h.issued t r at);
  rest = λ j r le at other. kind_stays m (omega arith) (h.rest j r le at other);
}

pub pushed_moved : {series : List Request} {got sent : ℕ} {fetching : Bool} {asked moved : List PipelineRequest} {k : ℕ} {from to : Station} → IsMoved asked moved k from to → (kind_of from ≢ 2) → (kind_of from ≢ 3) → ArePushed series got sent fetching asked → ArePushed series got sent fetching moved
pushed_moved m one two h = record {
  copied = λ t r at. kind_stays m (omega (arith, two)) (h.copied t r at);
  rest = λ j r le lt at other. kind_stays m (omega (arith, one)) (h.rest j r le lt at other);
}

pub works_moved : (works : List Work) {asked moved : List PipelineRequest} {k : ℕ} {from to : Station} → IsMoved asked moved k from to → kind_of from ≢ 4 → AreWorking works asked → AreWorking works moved
works_moved works m other h i t e = kind_stays m (omega (arith, worked_kind t.stage t.moved, other)) (h i t e)

pub held_moved : (works : List Work) {asked moved : List PipelineRequest} {k : ℕ} {from to : Station} → IsMoved asked moved k from to → kind_of to ≢ 4 → HaveJobs works asked → HaveJobs works moved
held_moved works m other h j q at kind = let was = other_was (λ (s : Station). kind_of s ≡ 4) j m other at kind in h j q was.1 kind

pub going_moved : (requests : List Request) {asked moved : List PipelineRequest} {k : ℕ} {from to : Station} → IsMoved asked moved k from to → (kind_of from ≤ 6 → kind_of to ≤ 6) → AreGoing requests asked → AreGoing requests moved
going_moved requests {asked} {moved} {k} {from} {to} m later h i r e =
    let was = h i r e in
    elim (cases_eq (r.number - 1) k) [
      | inl same ↦
          let one : was.q ≡ m.was.q = same_Some was.q m.was.q (sym was.at ∙ (ap (slice_get asked) same ∙ m.was.at)) in
          let before : kind_of (let x : PipelineRequest = was.q in x.station) ≡ kind_of from = ap (λ (x : PipelineRequest). kind_of x.station) one ∙ ap kind_of m.was.there in
          let after : kind_of (let x : PipelineRequest = m.now in x.station) ≡ kind_of to = ap kind_of m.there in
          record { q = m.now; at = ap (slice_get moved) same ∙ m.here; early = omega (arith, after, (later (omega (arith, before, was.early)))) }
      | inr other ↦ record { q = was.q; at = m.others (r.number - 1) other ∙ was.at; early = was.early }
    ]

pub replying_moved : {replying : Option Reply} {asked moved : List PipelineRequest} {k : ℕ} {from to : Station} → IsMoved asked moved k from to → kind_of from ≢ 5 → IsResponding replying asked → IsResponding replying moved
replying_moved m other h rep e = kind_stays m (omega (arith, other)) (h rep e)

pub replied_moved : (replies : List Reply) {asked moved : List PipelineRequest} {k : ℕ} {from to : Station} → IsMoved asked moved k from to → kind_of from ≢ 6 → AreReplied replies asked → AreReplied replies moved
replied_moved replies m other h i rep e = kind_stays m (omega (arith, other)) (h i rep e)

pub finishing_kind : (telling : Option ℕ) (status : Status) → kind_of (finishing telling status) ≡ 7
finishing_kind None status = refl
finishing_kind (Some next) status = refl

pub taking_moved : (telling : Option ℕ) {ending : Option Ending} {asked moved : List PipelineRequest} {k : ℕ} {from to : Station} → IsMoved asked moved k from to → kind_of from ≢ 7 → IsTaking ending telling asked → IsTaking ending telling moved
taking_moved telling m other h e same = kind_stays m (omega (arith, finishing_kind telling e.status, other)) (h e same)

-- before it is answered, or its data told, a request is unfinished
pub early_open : (s : Station) → kind_of s < 9 → is_finished s ≡ false
early_open (Finished status) early = absurd (omega arith)
early_open s early = refl

-- a job's request is unfinished, and was pushed
pub worked_open : (s : JobStage) (moved : ℕ) → is_finished (worked s moved) ≡ false
worked_open s moved = early_open (worked s moved) (omega (arith, worked_kind s moved))

-- what an end saw of the other's producer is nothing to the pipeline
pub saw_more : (config : Options) (g : Flow) (front_seen back_seen : ℕ) (d : Pipeline) (connected issuing fetching : Bool) (ending : Option Ending) (telling : Option ℕ) (replying : Option Reply) (requests : List Request) (works : List Work) (pages : List ℕ)
    → AreStations config g d connected issuing fetching ending telling replying requests works pages
    → AreStations config (record g { front_seen = front_seen; back_seen = back_seen }) d connected issuing fetching ending telling replying requests works pages
saw_more config g front_seen back_seen d connected issuing fetching ending telling replying requests works pages h = record { options = h.options; front = h.front; stand = h.stand; reads = h.reads }

-- the front at another stage that is as far
pub turned : (config : Options) (g : Flow) (d : Pipeline) (connected connected' issuing issuing' fetching : Bool) (ending ending' : Option Ending) (telling telling' : Option ℕ) (replying : Option Reply) (requests : List Request) (works : List Work) (pages : List ℕ)
    → connected' ≡ connected → issuing' ≡ issuing → ending' ≡ ending → telling' ≡ telling
    → AreStations config g d connected issuing fetching ending telling replying requests works pages
    → AreStations config g d connected' issuing' fetching ending' telling' replying requests works pages
turned config g d connected connected' issuing issuing' fetching ending ending' telling telling' replying requests works pages c i e t h = rw (c, i, e, t) h
