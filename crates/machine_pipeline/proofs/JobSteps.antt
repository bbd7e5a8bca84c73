-- The steps of the pipeline that a job makes: its next sector is filled or read, or the disk fails at it, and the job ends.
use Rattle.std.proofs.Common.{◌≡◌, ℕ, ◌+◌, ◌-◌, ◌%◌, ◌^◌, ◌<◌, ◌≤◌, ◌==◌, ◌&&◌, ◌||◌, ◌⊎◌, inl, inr, not, Bool, true, false, List, [], ◌∷◌, length, refl, ap, sym, ◌∙◌, subst, arith, None}
use Rattle.std.specs.Prelude.{AllPairs, Some, slice_get, slice_set, replicate}
use Rattle.std.proofs.lemmas.Option.{same_Some}
use Rattle.std.proofs.lemmas.Bool.{false≢true, true≢false, cases_eq, cases_lt, cases_Bool}
use Rattle.blk_base.specs.Options.{Options}
use Rattle.blk_base.specs.declared.config.Submission.{Submission}
use Rattle.blk_base.specs.declared.config.Submission.TheVariants.{Read}
use Rattle.blk_base.specs.declared.operation.Status.TheVariants.{Okay, Error}
use Rattle.schedule_text.specs.declared.line.Line.{Line}
use Rattle.schedule_text.specs.declared.line.Line.TheVariants as lines
use Rattle.plain_disk.specs.Request.{places_of, is_write as fills_sectors, is_barrier, is_ordered, sector_of, filling}
use Rattle.hypervisor.specs.Act.{Outcome, Gave, Took, Failed as DiskFailed}
use Rattle.blk_layout.specs.declared.segment.Segment.{Segment}
use Rattle.blk_front.specs.declared.request.Request.{Request}
use Rattle.blk_front.specs.declared.request.Transfer.{Transfer}
use Rattle.blk_front.specs.declared.request.Transfer.TheVariants as transfer
use Rattle.blk_front.specs.Request.{is_write, is_moving, tag_of, operation_of}
use Rattle.back_jobs.specs.declared.stage.JobStage.{JobStage}
use Rattle.back_jobs.specs.declared.stage.JobStage.TheVariants as job
use Rattle.back_jobs.specs.Work.{Work, ask_at, counted}
use Rattle.back_jobs.specs.Jobs.{is_done, is_done_at, is_ordered as orders, is_barrier as bars, is_held, holds_barriers, holds_all}
use Rattle.blk_base.specs.declared.parts.Mapping.{Mapping}
use Rattle.split_model.specs.World.{World}
use Rattle.pipeline_laws.specs.Station.{Station, Working, Failed, PipelineRequest}
use Rattle.pipeline_laws.specs.Move.{Move, Fills, Reads, Fails, Ends, station_before, station_after, words_after, move_lines}
use Rattle.pipeline_laws.specs.Pipeline.{Pipeline, Moves}
use Rattle.pipeline_laws.specs.Allowed.{May, IsClear, is_unfetched, has_places, is_in_way}
use Rattle.pipeline_laws.specs.Disk.{DiskDoes}
use Rattle.machine_pipeline.proofs.Flow.{Flow, worked, submitted_job}
use Rattle.machine_pipeline.proofs.ReadBack.{IsReadBack, ReadAt, has_data_at}
use Rattle.machine_pipeline.proofs.Holds.{Holds}
use Rattle.machine_pipeline.proofs.HoldsWorks.{IsWork, IsMoving}
use Rattle.machine_pipeline.proofs.Segments.{moves_sectors}
use Rattle.machine_pipeline.proofs.Series.{before as index_before}
use Rattle.machine_pipeline.proofs.Lists.{all_at, pair_at}
use Rattle.machine_pipeline.proofs.Stations.{kind_of}
use Rattle.machine_pipeline.proofs.StationsBack.{job_steps}
use Rattle.machine_pipeline.proofs.Turns.{Stepped}
use Rattle.machine_pipeline.proofs.Jobs.{StationsWith}
use Rattle.machine_pipeline.proofs.JobMoves.{IsAt, sectors_left, IsDoing, read_now, StepsTo}
use Rattle.machine_pipeline.specs.Step.{CallOf}

-- a write or a barrier, as the pipeline has it
record IsFilling (x : Submission) (sector count tag : ℕ) : Type 0 where
  pub writes : fills_sectors x ≡ true
  pub places : places_of x ≡ count
  pub first : sector_of x ≡ sector
  pub words : (i : ℕ) → filling x i ≡ replicate 128 ((tag + i) % 2 ^ 32)

filling_job : (way : Transfer) (sector count : ℕ) → is_write way ≡ true → IsFilling (submitted_job way sector count) sector count (tag_of way)
filling_job (transfer.Write tag) sector count writes = record { writes = refl; places = refl; first = refl; words = λ i. refl }
filling_job (transfer.Barrier tag) sector count writes = record { writes = refl; places = refl; first = refl; words = λ i. refl }
filling_job way sector count writes = absurd (false≢true writes)

read_job : (way : Transfer) (sector count : ℕ) → is_moving way ≡ true → is_write way ≡ false → submitted_job way sector count ≡ Read sector count
read_job transfer.Read sector count moves reads = refl
read_job way sector count moves reads = absurd (cc)

all_places : (way : Transfer) (sector count : ℕ) → is_moving way ≡ true → places_of (submitted_job way sector count) ≡ count
all_places transfer.Flush sector count moves = absurd (false≢true moves)
all_places (transfer.Discard sectors) sector count moves = absurd (false≢true moves)
all_places way sector count moves = refl

-- what a barrier orders is what the operation of the job says
same_order : (op : ℕ) (x : Submission) (way : Transfer) (sector count : ℕ) → op ≡ operation_of way → x ≡ submitted_job way sector count → ((op == 1 || op == 2 || op == 5) ≡ is_ordered x) × ((op == 2) ≡ is_barrier x)
same_order op x transfer.Read sector count this that = rw (this, that) (refl, refl)
same_order op x way sector count this that = rw (this, that) (refl, refl)

-- a job that doesn't hold up an ordered one isn't in its way
not_in_way : (t u : Work) (x : Submission) (y : PipelineRequest) → (orders t ≡ is_ordered x) × (bars t ≡ is_barrier x) → (orders u ≡ is_ordered y.submission) × (bars u ≡ is_barrier y.submission)
    → is_done u ≡ false
    → is_ordered x ≡ true
    → is_held t (holds_barriers u) (holds_all u) ≡ false
    → is_in_way (is_barrier x) y ≡ false
not_in_way t u x y this that undone ordered none =
    rw (sym this.1, sym that.0, sym that.1) (by_order (bars t) (orders u) (bars u) (has_places y.submission y.station)
    (sym (same (bars t) (orders t) (orders u) (bars u) (is_done u) (this.0 ∙ ordered) undone) ∙ none))
  where
    same : (b o c e f : Bool) → o ≡ true → f ≡ false → ((b && (c && not f)) || (o && (e && not f))) ≡ ((b && (c && true)) || (true && (e && true)))
    same b o c e f first second = rw (first, second) refl

    by_order : (b c e w : Bool) → ((b && (c && true)) || (true && (e && true))) ≡ false → (c && (b || e) && w) ≡ false
    by_order b false e w none = refl
    by_order true true e w none = absurd (true≢false none)
    by_order false true true w none = absurd (true≢false none)
    by_order false true false w none = refl

-- a request with places left isn't fetched, or is at work, and its job isn't done
with_places : (x : Submission) (s : Station) → has_places x s ≡ true → (kind_of s ≡ 4) ⊎ (is_unfetched s ≡ true)
with_places x (Working moved) t = inl refl
with_places x s t = inr t

places_undone : (x : Submission) (s : JobStage) (moved : ℕ) → has_places x (worked s moved) ≡ true → is_done_at s ≡ false
places_undone x (job.Done status) moved t = absurd (false≢true t)
places_undone x s moved t = refl

-- a move of a job's request from one station to the next, with its call of the disk
pub record IsJobMove (call : (before after : List (List ℕ)) → Type 0) (d : Pipeline) (k : ℕ) (q : PipelineRequest) (from to : Station) (move : Move) : Type 0 where
  pub before : station_before q.submission move ≡ from
  pub after : station_after q.submission move ≡ to
  pub may : May d k q move
  pub disk : (a b : List (List ℕ)) → call a b → DiskDoes q.submission move a b

-- what a read has once its job made the move
abbrev pub HasRead : World → Pipeline → Work → Work → Request → Move → Type 0
HasRead w d t t' r move = (q : PipelineRequest) → slice_get d.requests (t.id - 1) ≡ Some q → is_write r.transfer ≡ false → ReadAt w.under.pages r t'.moved t'.words (words_after move q.words) t'.stage × (has_data_at (worked t'.stage t'.moved) ≡ true → IsReadBack w.under.pages r r.count (words_after move q.words))

-- jobs that stand in order, one of them at this place
pub record AreOrdered (g : Flow) (works : List Work) (p : ℕ) (t : Work) (r : Request) : Type 0 where
  pub here : slice_get works p ≡ Some t
  pub known : slice_get g.submitted (t.id - 1) ≡ Some r
  pub ascending : AllPairs (λ (x y : Work). x.id < y.id) works
  pub positive : (i : ℕ) (u : Work) → slice_get works i ≡ Some u → 1 ≤ u.id

pub jobs_ordered : (config : Options) (w : World) (g : Flow) (d : Pipeline) (p : ℕ) (t : Work) (r : Request) → Holds config w g d w.front.stage w.back.stage → IsAt w g d p t r → AreOrdered g w.back.jobs.works p t r
jobs_ordered config w g d p t r h is =
    record { here = is.place; known = is.known; ascending = h.works.ascending; positive = λ i u at. (all_at (IsWork g.submitted g.series g.fetched) w.back.jobs.works i u h.works.each at).positive }

module _ {call : (before after : List (List ℕ)) → Type 0} {config : Options} {g : Flow} {d : Pipeline} {t : Work} {r : Request} {said : List Line} (w : World) (t' : Work) (move : Move)
    (number : t'.id ≡ t.id)
    (shows : move_lines (t.id - 1) move ≡ said) (now : HasRead w d t t' r move)
    (makes : (q : PipelineRequest) → q.submission ≡ submitted_job r.transfer r.sector r.count → IsJobMove call d (t.id - 1) q (worked t.stage t.moved) (worked t'.stage t'.moved) move) where
  -- the job at this place makes it
  pub job_moves : {works : List Work} {p : ℕ} → StationsWith config w g d works w.under.pages → AreOrdered g works p t r
      → Stepped None call d said (λ x. StationsWith config w g x (slice_set works p t') w.under.pages)
  job_moves {p = p} stations are =
      let x = stations.works p t are.here in
      let it = makes x.q (stations.known.each (t.id - 1) r x.q are.known x.at) in
      record {
        step = Moves (t.id - 1) x.q move;
        allowed = (record { here = x.at; there = x.there ∙ sym it.before }, it.may);
        shows = shows;
        asks = refl;
        disk = it.disk;
        now = job_steps p t t' x move are.here are.ascending are.positive number it.after (λ y its. rw (same_Some y r (sym its ∙ are.known)) (now x.q x.at)) stations;
      }

  pub job_stepped : {p : ℕ} → Holds config w g d w.front.stage w.back.stage → IsAt w g d p t r → StepsTo call config w g d p t' said
  job_stepped {p = p} h is = job_moves h.stations (jobs_ordered config w g d p t r h is)

-- of jobs whose ids ascend one of a lower id stands before another
stands_before : (works : List Work) (p i : ℕ) (t u : Work) → AllPairs (λ (x y : Work). x.id < y.id) works → slice_get works p ≡ Some t → slice_get works i ≡ Some u → u.id < t.id → i < p
stands_before works p i t u up here at lower = elim (cases_lt i p) [
  | inl before ↦ before
  | inr past ↦ elim (cases_eq i p) [
    | inl same ↦ absurd (omega (arith, (ap (λ (x : Work). x.id) (same_Some u t (sym at ∙ (ap (slice_get works) same ∙ here))))))
    | inr apart ↦ absurd (omega (arith, pair_at (λ (x y : Work). x.id < y.id) works p i t u up (omega arith) here at))
  ]
]

-- no request of a lower number is in its way: it was fetched before
pub clear : (config : Options) (w : World) (g : Flow) (d : Pipeline) (p : ℕ) (t : Work) (r : Request) (q : PipelineRequest)
    → Holds config w g d w.front.stage w.back.stage
    → IsAt w g d p t r
    → q.submission ≡ submitted_job r.transfer r.sector r.count
    → is_ordered q.submission ≡ true
    → IsClear d (t.id - 1) q
clear config w g d p t r q h is asked ordered = record {
  clear = λ i y before here. elim (cases_Bool (has_places y.submission y.station)) [
    | inl left ↦ elim (with_places y.submission y.station left) [
      | inl kind ↦ at_work i y before here left kind
      | inr unfetched ↦
          let late = h.stations.unfetched i y here unfetched in
          let earlier = index_before g.series late.index (t.number - 1) late.r r h.queue.ordered.ascending late.at is.issued (omega (arith, late.number, before, named)) in
          absurd (omega (arith, late.late, earlier, is.reached))
    ]
    | inr none ↦ rw none (idle (is_ordered y.submission) (is_barrier q.submission || is_barrier y.submission))
  ];
}
  where
    named : r.number ≡ t.id
    named = let number = h.submitted.each (t.id - 1) r is.known in omega (arith, number.number, is.positive)

    idle : (b c : Bool) → (b && c && false) ≡ false
    idle true true = refl
    idle true false = refl
    idle false c = refl

    at_work : (i : ℕ) (y : PipelineRequest) → i < t.id - 1 → slice_get d.requests i ≡ Some y → has_places y.submission y.station ≡ true → kind_of y.station ≡ 4 → is_in_way (is_barrier q.submission) y ≡ false
    at_work i y before here left kind =
        let its = h.stations.held i y here kind in
        let u : Work = its.1 in
        let work = all_at (IsWork g.submitted g.series g.fetched) w.back.jobs.works its.0 u h.works.each its.2 in
        let place : u.id - 1 ≡ i = omega (arith, its.3) in
        let x = h.stations.works its.0 u its.2 in
        let one : x.q ≡ y = same_Some x.q y (sym x.at ∙ (ap (slice_get d.requests) place ∙ here)) in
        let known = h.stations.known.each i work.r y (ap (slice_get g.submitted) (sym place) ∙ work.known) here in
        not_in_way t u q.submission y (same_order t.op q.submission r.transfer r.sector r.count is.op asked) (same_order u.op y.submission work.r.transfer work.r.sector work.r.count work.op known)
        (places_undone y.submission u.stage u.moved (ap (has_places y.submission) (sym (ap (λ (z : PipelineRequest). z.station) (sym one) ∙ x.there)) ∙ left)) ordered
        (is.free.clear its.0 u (stands_before w.back.jobs.works p its.0 t u h.works.ascending is.place its.2 (omega (arith, its.3, before))) its.2)

-- the lines of a move at its next sector
pub lines_of : (w : World) (g : Flow) (d : Pipeline) (p : ℕ) (t : Work) (r : Request) (line : ℕ → ℕ → Line) → IsAt w g d p t r → line (t.id - 1 + 1) t.moved ∷ [] ≡ line t.id t.moved ∷ []
lines_of w g d p t r line is = ap (λ (n : ℕ). line n t.moved ∷ []) (omega (arith, is.positive))

-- the sector that a job moves next is one of its request's, which moves sectors
sector_left : (config : Options) (w : World) (g : Flow) (d : Pipeline) (p : ℕ) (t : Work) (r : Request) → Holds config w g d w.front.stage w.back.stage → IsAt w g d p t r → IsMoving t r
    → (t.moved < r.count) × (r.count ≤ 7680) × (is_moving r.transfer ≡ true)
sector_left config w g d p t r h is moving =
    let shaped = (h.submitted.each (t.id - 1) r is.known).shaped in
    let left = sectors_left t r 1 shaped moving in
    (omega (arith, left.0), left.2, moves_sectors r moving.place shaped moving.here)

module _ {config : Options} {w : World} {g : Flow} {d : Pipeline} {p : ℕ} {t : Work} {r : Request} {m : Mapping} (doing : IsDoing config w g d p t r (job.DiskWrite m)) (t' : Work) where
  filled_job : (q : PipelineRequest) → q.submission ≡ submitted_job r.transfer r.sector r.count → IsFilling q.submission r.sector r.count (tag_of r.transfer)
  filled_job q asked = rw asked (filling_job r.transfer r.sector r.count doing.at.2)

  -- the disk takes the sector; a write reads nothing
  pub fills : t'.id ≡ t.id → worked t'.stage t'.moved ≡ Working (t.moved + 1) → StepsTo (CallOf (ask_at (job.DiskWrite m) t) Took) config w g d p t' (lines.Effect t.id t.moved ∷ [])
  fills number next =
      job_stepped w t' (Fills t.moved) number (lines_of w g d p t r lines.Effect doing.is) (λ q was reads. absurd (false≢true (sym reads ∙ doing.at.2))) (λ q asked.
      let so = filled_job q asked in
      record {
        before = rw doing.stage refl;
        after = sym next;
        may = (so.writes, omega (arith, so.places, (sector_left config w g d p t r doing.holds doing.is doing.at.0).0), clear config w g d p t r q doing.holds doing.is asked (rw so.writes refl));
        disk = λ a b call. rw (so.first, so.words t.moved) (same_Some b (slice_set a t.disk t.words) call
            ∙ (ap (λ (s : ℕ). slice_set a s t.words) doing.at.0.disk ∙ ap (slice_set a (r.sector + t.moved)) doing.at.3));
      }) doing.holds doing.is

  -- or fails at it
  pub fails : t'.id ≡ t.id → worked t'.stage t'.moved ≡ Failed → StepsTo (CallOf (ask_at (job.DiskWrite m) t) DiskFailed) config w g d p t' (lines.Fault t.id t.moved ∷ [])
  fails number next =
      job_stepped w t' (Fails t.moved) number (lines_of w g d p t r lines.Fault doing.is) (λ q was reads. absurd (false≢true (sym reads ∙ doing.at.2))) (λ q asked.
      let so = filled_job q asked in
      record {
        before = rw doing.stage refl;
        after = sym next;
        may = (omega (arith, so.places, (sector_left config w g d p t r doing.holds doing.is doing.at.0).0), clear config w g d p t r q doing.holds doing.is asked);
        disk = λ a b call. rw (so.writes, so.first, sym doing.at.0.disk) call;
      }) doing.holds doing.is

module _ {config : Options} {w : World} {g : Flow} {d : Pipeline} {p : ℕ} {t : Work} {r : Request} {m : Mapping} (doing : IsDoing config w g d p t r (job.DiskRead m)) where
  left : (t.moved < r.count) × (r.count ≤ 7680) × (is_moving r.transfer ≡ true)
  left = sector_left config w g d p t r doing.holds doing.is doing.at.0

  read_so : (q : PipelineRequest) → q.submission ≡ submitted_job r.transfer r.sector r.count → q.submission ≡ Read r.sector r.count
  read_so q asked = asked ∙ read_job r.transfer r.sector r.count left.2 doing.at.2

  -- the disk gives the sector
  pub gives : (words : List ℕ) → length words ≡ 128
      → StepsTo (CallOf (ask_at (job.DiskRead m) t) (Gave words)) config w g d p (record (counted t) { words = words; stage = job.WriteWord m 0 }) (lines.EffectRead t.id t.moved words ∷ [])
  gives words sized =
      job_stepped w then (Reads t.moved words) refl (lines_of w g d p t r (λ n i. lines.EffectRead n i words) doing.is) has (λ q asked. record {
        before = rw doing.stage refl;
        after = ap (λ (n : ℕ). Working n) (sym one_more);
        may = rw (read_so q asked) (refl, left.0);
        disk = λ a b call. rw (read_so q asked) (ap (slice_get a) (sym doing.at.0.disk) ∙ call.0, same_Some b a call.1);
      }) doing.holds doing.is
    where
      then : Work
      then = record (counted t) { words = words; stage = job.WriteWord m 0 }

      one_more : (t.moved + 1) % 2 ^ 32 ≡ t.moved + 1
      one_more = omega (arith, left.0, left.1)

      has : HasRead w d t then r (Reads t.moved words)
      has q was reads =
          let old = read_now doing q was reads in
          let long = old.counted in (
            record {
              earlier = q.words;
              with_hand = refl;
              counted = omega (arith, one_more);
              few = omega (arith, one_more, left.0);
              back = record { counted = refl; few = omega (arith, left.0); sectors = old.sectors };
              size = sized;
              so_far = λ k lt few. absurd (omega arith);
            },
            λ t. absurd (false≢true t),
          )

  -- or fails at it
  pub fails_to_give : StepsTo (CallOf (ask_at (job.DiskRead m) t) DiskFailed) config w g d p (record t { stage = job.Abort m }) (lines.Fault t.id t.moved ∷ [])
  fails_to_give =
      job_stepped w (record t { stage = job.Abort m }) (Fails t.moved) refl (lines_of w g d p t r lines.Fault doing.is) (λ q was reads. (tt, λ t. absurd (false≢true t))) (λ q asked. record {
        before = rw doing.stage refl;
        after = refl;
        may = (rw (read_so q asked) left.0, clear config w g d p t r q doing.holds doing.is asked);
        disk = λ a b call. rw (read_so q asked, same_Some b a call.1) (refl, λ i out. refl);
      }) doing.holds doing.is

-- its last mapping is unmapped: the job ends, as it went
pub ends_well : {config : Options} {w : World} {g : Flow} {d : Pipeline} {p : ℕ} {t : Work} {r : Request} {m : Mapping} (o : Outcome) (rest : List Segment) → IsDoing config w g d p t r (job.Unmap m)
    → is_moving r.transfer ≡ true
    → t.moved ≡ r.count
    → StepsTo (CallOf (ask_at (job.Unmap m) t) o) config w g d p (record t { rest = rest; stage = job.Done Okay }) []
ends_well {config} {w} {g} {d} {p} {t} {r} {m} o rest doing moves all =
    job_stepped w (record t { rest = rest; stage = job.Done Okay }) (Ends Okay) refl refl
    (λ q was reads. (tt, λ ok. subst (λ (n : ℕ). IsReadBack w.under.pages r n q.words) all (read_now doing q was reads)))
    (λ q asked. record {
      before = rw (asked, doing.stage, all) (ap (λ (n : ℕ). Working n) (all_places r.transfer r.sector r.count moves));
      after = refl;
      may = tt;
      disk = λ a b call. same_Some b a call.1;
    }) doing.holds doing.is

pub ends_badly : {config : Options} {w : World} {g : Flow} {d : Pipeline} {p : ℕ} {t : Work} {r : Request} {m : Mapping} (o : Outcome) → IsDoing config w g d p t r (job.Abort m)
    → StepsTo (CallOf (ask_at (job.Abort m) t) o) config w g d p (record t { stage = job.Done Error }) []
ends_badly {config} {w} {g} {d} {p} {t} {r} {m} o doing =
    job_stepped w (record t { stage = job.Done Error }) (Ends Error) refl refl (λ q was reads. (tt, λ t. absurd (false≢true t)))
    (λ q asked. record {
      before = rw doing.stage refl;
      after = refl;
      may = tt;
      disk = λ a b call. same_Some b a call.1;
    }) doing.holds doing.is
