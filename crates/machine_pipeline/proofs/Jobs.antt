-- What a move of a job leaves of all that holds, by what it changes.
use Rattle.std.proofs.Common.{◌≡◌, ◌≢◌, ℕ, ◌+◌, ◌-◌, ◌<◌, ◌≤◌, ◌==◌, ◌&&◌, ◌||◌, inl, inr, not, Bool, true, false, List, length, refl, ap, sym, ◌∙◌, subst, arith, length-set}
use Rattle.std.specs.Prelude.{All, AllPairs, Some, None, slice_get, slice_set}
use Rattle.std.proofs.lemmas.Option.{same_Some}
use Rattle.std.proofs.lemmas.Bool.{true≢false, or_parts}
use Rattle.blk_base.specs.Options.{Options}
use Rattle.ring_words.specs.Shape.{Shape}
use Rattle.grant_table.specs.Table.{GrantTable}
use Rattle.pipeline_laws.specs.Station.{PipelineRequest}
use Rattle.pipeline_laws.specs.Pipeline.{Pipeline}
use Rattle.blk_front.specs.Request.{is_write, operation_of}
use Rattle.blk_front.specs.declared.request.Request.{Request}
use Rattle.back_jobs.specs.Work.{Work}
use Rattle.back_jobs.specs.Jobs.{is_done, is_ordered, is_barrier, is_held, holds_barriers, holds_all}
use Rattle.blk_back.specs.declared.stage.Reply.{Reply}
use Rattle.blk_back.specs.declared.stage.BackStage.{BackStage}
use Rattle.blk_back.specs.declared.stage.BackStage.TheVariants as back
use Rattle.blk_back.specs.Hands.{hands_at, hands_of}
use Rattle.split_model.specs.World.{World}
use Rattle.blk_front.specs.Submit.{is_ready}
use Rattle.machine_pipeline.proofs.Flow.{Flow, ending_at, reply_at, is_issuing, is_fetching, worked, telling_at, reply_count}
use Rattle.machine_pipeline.proofs.Stations.{AreStations}
use Rattle.machine_pipeline.proofs.StationsBack.{job_stays}
use Rattle.machine_pipeline.proofs.Holds.{Holds, BackAt, IsFilled, AreDataWords, AreEntries, AreMapped}
use Rattle.machine_pipeline.proofs.HoldsWorks.{IsUnhindered, IsWork, AreWorks}
use Rattle.machine_pipeline.proofs.Lists.{all_at, all_from, pair_at, pairs_from, set_was}
use Rattle.machine_pipeline.proofs.Frames.{few_words, named_at}
use Rattle.machine_pipeline.proofs.Slots.{same_slots}
use Rattle.machine_pipeline.proofs.Kept.{SameFrame, SameEntry, ring_kept, slots_kept, sleep_kept}
use Rattle.machine_pipeline.proofs.ReadBack.{ReadAt}
use Rattle.machine_pipeline.proofs.ReadsKept.{reads_set, stations_elsewhere}
use Rattle.machine_pipeline.proofs.BackStill.{frames_elsewhere, told_elsewhere}
use Rattle.hypervisor.specs.Hypervisor.{Hypervisor}
use Rattle.blk_base.specs.declared.parts.Mapping.{Mapping}

-- the ids of jobs stay in order
id_was : (works : List Work) (p i : ℕ) (t t' x : Work) → slice_get works p ≡ Some t → t'.id ≡ t.id → slice_get (slice_set works p t') i ≡ Some x → (y : Work) × (slice_get works i ≡ Some y) × (x.id ≡ y.id)
id_was works p i t t' x here same e = elim (set_was works p i t t' x here e) [
  | inl at ↦ (t, ap (slice_get works) at.0 ∙ here, ap (λ (z : Work). z.id) at.1 ∙ same)
  | inr other ↦ (x, other.1, refl)
]

pub ascending_after : (works : List Work) (p : ℕ) (t t' : Work) → slice_get works p ≡ Some t → t'.id ≡ t.id → AllPairs (λ (x y : Work). x.id < y.id) works → AllPairs (λ (x y : Work). x.id < y.id) (slice_set works p t')
ascending_after works p t t' here same pairs = pairs_from (λ (x y : Work). x.id < y.id) (slice_set works p t') (λ i j x y lt first second.
    let one = id_was works p i t t' x here same first in
    let two = id_was works p j t t' y here same second in
    omega (arith, two.2, one.2, pair_at (λ (a b : Work). a.id < b.id) works i j one.0 two.0 pairs lt one.1 two.1))

-- the job at a place isn't done, and waits for none before it
pub record MayMove (works : List Work) (p : ℕ) (t : Work) : Type 0 where
  pub here : slice_get works p ≡ Some t
  pub undone : is_done t ≡ false
  pub clear : (i : ℕ) (u : Work) → i < p → slice_get works i ≡ Some u → is_held t (holds_barriers u) (holds_all u) ≡ false

-- a job is held up by no more than it was, where fewer hold it up
pub held_less : (t : Work) (a b c d : Bool) → (a ≡ true → c ≡ true) → (b ≡ true → d ≡ true) → is_held t c d ≡ false → is_held t a b ≡ false
held_less t a b c d one two none =
    let parts = or_parts (is_barrier t && c) (is_ordered t && d) none in
    rw (both_less (is_barrier t) a c one parts.0, both_less (is_ordered t) b d two parts.1) refl
  where
    both_less : (p a c : Bool) → (a ≡ true → c ≡ true) → (p && c) ≡ false → (p && a) ≡ false
    both_less false a c more none = refl
    both_less true false c more none = refl
    both_less true true c more none = absurd (true≢false (sym (more refl) ∙ none))

-- an answer to a job lets others go on: it may be done now, and is of the operation that it was
after_holds : (t t' y : Work) → is_done t ≡ false → t'.op ≡ t.op → is_held y (holds_barriers t) (holds_all t) ≡ false → is_held y (holds_barriers t') (holds_all t') ≡ false
after_holds t t' y undone same none =
    held_less y (holds_barriers t') (holds_all t') (holds_barriers t) (holds_all t)
    (still (is_ordered t') (is_ordered t) (is_done t') (is_done t) (ap (λ (op : ℕ). op == 1 || op == 2 || op == 5) same) undone)
    (still (is_barrier t') (is_barrier t) (is_done t') (is_done t) (ap (λ (op : ℕ). op == 2) same) undone) none
  where
    still : (a b c d : Bool) → a ≡ b → d ≡ false → (a && not c) ≡ true → (b && not d) ≡ true
    still true b c d same undone holds = rw (sym same, undone) refl
    still false b c d same undone holds = absurd (true≢false (sym holds))

clear_after : (works : List Work) (p : ℕ) (t t' : Work) → MayMove works p t → t'.op ≡ t.op → AllPairs IsUnhindered works → AllPairs IsUnhindered (slice_set works p t')
clear_after works p t t' free same pairs = pairs_from IsUnhindered (slice_set works p t') (λ i j x y lt first second undone begun. elim (set_was works p i t t' x free.here first) [
  | inl one ↦ elim (set_was works p j t t' y free.here second) [
    | inl two ↦ absurd (omega (arith, one.0, two.0))
    | inr two ↦
        let was = pair_at IsUnhindered works i j t y pairs lt (ap (slice_get works) one.0 ∙ free.here) two.1 undone begun in
        subst (λ (u : Work). is_held y (holds_barriers u) (holds_all u) ≡ false) (sym one.1) (after_holds t t' y free.undone same was)
  ]
  | inr one ↦ elim (set_was works p j t t' y free.here second) [
    | inl two ↦
        let clear : is_held t (holds_barriers x) (holds_all x) ≡ false = free.clear i x (omega (arith, two.0)) one.1 in
        ap (λ (n : ℕ). (n == 2 && holds_barriers x) || ((n == 1 || n == 2 || n == 5) && holds_all x)) (ap (λ (u : Work). u.op) two.1 ∙ same) ∙ clear
    | inr two ↦ pair_at IsUnhindered works i j x y pairs lt one.1 two.1 undone begun
  ]
])

works_after : {series : List Request} (submitted : List Request) (fetched : ℕ) (works : List Work) (p : ℕ) (t t' : Work)
    → MayMove works p t
    → t'.id ≡ t.id
    → IsWork submitted series fetched t'
    → AreWorks submitted series fetched works
    → AreWorks submitted series fetched (slice_set works p t')
works_after {series} submitted fetched works p t t' free same now h = record {
  each = all_from (IsWork submitted series fetched) (slice_set works p t') (λ i x e. elim (set_was works p i t t' x free.here e) [
    | inl at ↦ subst (IsWork submitted series fetched) (sym at.1) now
    | inr other ↦ all_at (IsWork submitted series fetched) works i x h.each other.1
  ]);
  ascending = ascending_after works p t t' free.here same h.ascending;
  clear = clear_after works p t t' free (now.op ∙ (ap (λ (r : Request). operation_of r.transfer) one ∙ sym was.op)) h.clear;
}
  where
    was : IsWork submitted series fetched t
    was = all_at (IsWork submitted series fetched) works p t h.each free.here

    one : now.r ≡ was.r
    one = same_Some now.r was.r (sym now.known ∙ (ap (λ (n : ℕ). slice_get submitted (n - 1)) same ∙ was.known))

-- the response that is being written is no job's
back_works : (shape : Shape) (start fetched back_seen replied : ℕ) (series : List Request) (works works' : List Work) (entry : List ℕ) (b : BackStage)
    → ((rep : Reply) → All (λ (x : Work). x.id ≢ rep.id) works → All (λ (x : Work). x.id ≢ rep.id) works')
    → BackAt shape start fetched back_seen replied series works entry b
    → BackAt shape start fetched back_seen replied series works' entry b
back_works shape start fetched back_seen replied series works works' entry (back.ReplyHigh rep) alone h = assumption (alone rep h.alone)
back_works shape start fetched back_seen replied series works works' entry (back.ReplyLast rep) alone h = assumption (alone rep h.alone)
back_works shape start fetched back_seen replied series works works' entry (back.Producer rep) alone h = assumption (alone rep h.alone)
back_works shape start fetched back_seen replied series works works' entry b alone h = h

alone_after : (works : List Work) (p : ℕ) (t t' : Work) (id : ℕ) → slice_get works p ≡ Some t → t'.id ≡ t.id → All (λ (x : Work). x.id ≢ id) works → All (λ (x : Work). x.id ≢ id) (slice_set works p t')
alone_after works p t t' id here same alone = all_from (λ (x : Work). x.id ≢ id) (slice_set works p t') (λ i x e.
    let was = id_was works p i t t' x here same e in
    λ it. (all_at (λ (y : Work). y.id ≢ id) works i was.0 alone was.1) (sym was.2 ∙ it))

-- the stations with these jobs
abbrev pub StationsWith : Options → World → Flow → Pipeline → List Work → List ℕ → Type 0
StationsWith config w g d works pages = AreStations config g d (is_ready w.front.stage) (is_issuing w.front.stage) (is_fetching w.back.stage) (ending_at w.front.stage w.front.ending) (telling_at w.front.stage) (reply_at w.back.stage) w.front.requests works pages

-- they stay where the job's stage is another of the same station, and a read's job has what its stage says
pub stations_stay : (config : Options) (w : World) (g : Flow) (d : Pipeline) (p : ℕ) (t t' : Work) (r : Request) (pages : List ℕ)
    → StationsWith config w g d w.back.jobs.works pages
    → slice_get w.back.jobs.works p ≡ Some t
    → slice_get g.submitted (t.id - 1) ≡ Some r
    → t'.id ≡ t.id
    → worked t'.stage t'.moved ≡ worked t.stage t.moved
    → ((q : PipelineRequest) → slice_get d.requests (t.id - 1) ≡ Some q → is_write r.transfer ≡ false → ReadAt pages r t'.moved t'.words q.words t'.stage)
    → StationsWith config w g d (slice_set w.back.jobs.works p t') pages
stations_stay config w g d p t t' r pages h here known number same now =
    job_stays p t t' here number same (reads_set p t t' here (λ x q its at reads.
    let one : r ≡ x = same_Some r x (sym known ∙ (ap (λ (n : ℕ). slice_get g.submitted (n - 1)) (sym number) ∙ its)) in
    let was : slice_get d.requests (t.id - 1) ≡ Some q = ap (λ (n : ℕ). slice_get d.requests (n - 1)) (sym number) ∙ at in
    subst (λ (y : Request). is_write y.transfer ≡ false → ReadAt pages y t'.moved t'.words q.words t'.stage) one (now q was) reads) h.reads) h

-- the machine once the job at this place is another, over this memory
abbrev pub with_job : World → ℕ → Work → Hypervisor → World
with_job w p t under = record { front = w.front; back = record w.back { jobs = record w.back.jobs { works = slice_set w.back.jobs.works p t }; told = None }; under = under }

-- the hands of the back then
abbrev pub hands_then : World → ℕ → Work → List Mapping
hands_then w p t = hands_at w.back.stage (record w.back { jobs = record w.back.jobs { works = slice_set w.back.jobs.works p t } })

module _ {config : Options} {w : World} {g : Flow} {d d' : Pipeline} {p : ℕ} {t t' : Work} (h : Holds config w g d w.front.stage w.back.stage) (free : MayMove w.back.jobs.works p t)
    (number : t'.id ≡ t.id) (now : IsWork g.submitted g.series g.fetched t') where
  -- all of it: the job at place p is this now, the pipeline and memory are these
  pub job_makes : (pages' : List ℕ) (grants' : GrantTable) → StationsWith config w g d' (slice_set w.back.jobs.works p t') pages'
      → length pages' ≡ 1114112
      → ((f : ℕ) → 2 ≤ f → f < 18 → SameFrame w.under.pages pages' f)
      → ((page : ℕ) → page < 16 → SameEntry w.under.pages pages' (8 + page))
      → All (IsFilled g.series g.pushed pages' w.front.stage) w.front.requests
      → AreDataWords pages' w.front.words w.front.ending w.front.stage
      → AreEntries g.series g.pushed pages' grants'.live w.front.stage w.front.ending w.front.requests
      → AreMapped grants'.live (hands_then w p t')
      → Holds config (with_job w p t' (record w.under { pages = pages'; grants = grants' })) g d' w.front.stage w.back.stage
  job_makes pages' grants' stations sized ring entry frames told entries mapped =
      let works' : List Work = slice_set w.back.jobs.works p t' in
      let as_many : length works' + reply_count (reply_at w.back.stage) + g.replied ≡ g.fetched = let long = length-set w.back.jobs.works p t' in let was = h.counted in omega arith in
      let few = few_words g.shape _ _ _ _ _ _ _ _ _ w.front.stage h.front_at in
      let all_named = named_at g.shape _ _ _ _ _ _ _ _ _ w.front.stage h.shaped.narrow h.front_at in
      assumption (
        as_many,
        works_after g.submitted g.fetched w.back.jobs.works p t t' free number now h.works,
        back_works g.shape g.start g.fetched g.back_seen g.replied g.series w.back.jobs.works works' w.back.ring.entry w.back.stage
            (λ rep alone. alone_after w.back.jobs.works p t t' rep.id free.here number alone) h.back_at,
        ring_kept _ _ _ _ _ pages' _ _ (λ v lt. ring 2 (omega arith) (omega arith) v (omega arith)) few (λ page lt. entry page (omega arith)) h.ring,
        slots_kept _ _ _ _ _ _ _ _ _ pages' _ _ h.shaped.narrow (same_slots w.under.pages pages' (λ f v from to within. ring f from to v within)) h.slots,
        sleep_kept (ring 2 (omega arith) (omega arith) 3 (omega arith)) h.front_sleep,
        sleep_kept (ring 2 (omega arith) (omega arith) 1 (omega arith)) h.back_sleep,
      )

  -- where memory changes in no frame of the pool
  pub job_holds : (pages' : List ℕ) (grants' : GrantTable) → StationsWith config w g d' (slice_set w.back.jobs.works p t') w.under.pages
      → length pages' ≡ 1114112
      → ((f : ℕ) → 2 ≤ f → f < 18 → SameFrame w.under.pages pages' f)
      → ((page : ℕ) → page < 16 → SameEntry w.under.pages pages' (8 + page))
      → ((f : ℕ) → 18 ≤ f → f < 1018 → SameFrame w.under.pages pages' f)
      → AreEntries g.series g.pushed pages' grants'.live w.front.stage w.front.ending w.front.requests
      → AreMapped grants'.live (hands_then w p t')
      → Holds config (with_job w p t' (record w.under { pages = pages'; grants = grants' })) g d' w.front.stage w.back.stage
  job_holds pages' grants' stations sized ring entry frames entries mapped =
      job_makes pages' grants' (stations_elsewhere _ _ _ _ _ _ _ _ _ _ _ _ pages' _ _ h.submitted frames stations) sized ring entry
      (frames_elsewhere config w g d w.front.stage w.back.stage pages' h frames) (told_elsewhere config w g d w.front.stage w.back.stage pages' h frames) entries mapped

  -- where memory and the mappings stay
  pub job_rests : StationsWith config w g d' (slice_set w.back.jobs.works p t') w.under.pages → hands_then w p t' ≡ hands_of w.back
      → Holds config (with_job w p t' w.under) g d' w.front.stage w.back.stage
  job_rests stations hands =
      job_holds w.under.pages w.under.grants stations h.memory (λ f low high v lt. refl) (λ page lt. record { flags = refl; frame = refl }) (λ f low high v lt. refl) h.entries
      (subst (AreMapped w.under.grants.live) (sym hands) h.mapped)
