-- Each move of a job, by its stage.
use Rattle.std.proofs.Common.{◌≡◌, ◌≢◌, ℕ, zero, ◌+◌, ◌-◌, ◌*◌, ◌%◌, ◌^◌, ◌<◌, ◌≤◌, ◌==◌, if◌then◌else◌, Bool, true, false, List, [], ◌∷◌, refl, ap, sym, ◌∙◌, subst, arith, length-set, get_or-set_other, take, inl, inr}
use Rattle.std.proofs.lemmas.Grind.{get_or-set_at}
use Rattle.std.specs.Prelude.{All, Option, Some, None, slice_get, slice_set, slice_index, nat_lt, length, drop}
use Rattle.std.proofs.lemmas.Option.{same_Some}
use Rattle.std.proofs.lemmas.Bool.{false≢true, cases_eq}
use Rattle.std.proofs.lemmas.List.Elements.{All-contains}
use Rattle.std.proofs.lemmas.Bool.Decides.{nat_tests}
use Rattle.blk_base.specs.Options.{Options}
use Rattle.blk_base.specs.declared.parts.Mapping.{Mapping}
use Rattle.blk_base.specs.declared.ask.BackAsk.TheVariants as ask
use Rattle.blk_base.specs.declared.ask.BackAnswer.{BackAnswer}
use Rattle.blk_base.specs.declared.ask.BackAnswer.TheVariants as answer
use Rattle.blk_base.specs.declared.moves.BackMover.TheVariants as back_mover
use Rattle.schedule_text.specs.declared.line.Line.{Line}
use Rattle.schedule_text.specs.declared.line.Line.TheVariants.{Move}
use Rattle.xen_pages.specs.Pages.{word_of}
use Rattle.grant_table.specs.Table.{IsLive, frame_of}
use Rattle.pipeline_laws.specs.Station.{Working, PipelineRequest}
use Rattle.pipeline_laws.specs.Pipeline.{Pipeline}
use Rattle.hypervisor.specs.Act.{BackAct, Outcome, back_act}
use Rattle.blk_front.specs.declared.request.Request.{Request}
use Rattle.blk_front.specs.Request.{is_write, tag_of, operation_of, frames_for, words_in, frame_at, filling_at, IsShaped, pages_for, page_references}
use Rattle.back_jobs.specs.declared.stage.JobStage.{JobStage}
use Rattle.back_jobs.specs.declared.stage.JobStage.TheVariants as job
use Rattle.back_jobs.specs.Work.{Work, ask_at, step_at, word_at, last_of, sector_stage, next_sector, IsAnswer}
use Rattle.back_jobs.specs.Jobs.{effect_at, mapping_at}
use Rattle.back_jobs.specs.Hands.{hand_of, hands_in, Names, HandsAfter}
use Rattle.back_jobs.proofs.Hands.{named_in, told_hands, framed as between}
use Rattle.blk_back.proofs.Hands.{job_names}
use Rattle.blk_back.specs.Hands.{hands_of, hands_at, aborted}
use Rattle.blk_back.specs.Step.{told_effect}
use Rattle.split_model.specs.World.{World}
use Rattle.split_model.specs.Shown.{back_lines}
use Rattle.split_model.specs.Safe.{AreHeld}
use Rattle.machine_pipeline.proofs.Flow.{Flow, data_word, is_own, worked, own_segments}
use Rattle.blk_layout.specs.declared.segment.Segment.{Segment}
use Rattle.machine_pipeline.proofs.Data.{own_among, data_value}
use Rattle.machine_pipeline.proofs.Segments.{own_here, word_place, data_place}
use Rattle.machine_pipeline.proofs.ReadBack.{ReadAt}
use Rattle.machine_pipeline.proofs.Series.{IsAmong, among_apart}
use Rattle.machine_pipeline.proofs.Holds.{Holds, IsPooled, IsFilled}
use Rattle.machine_pipeline.proofs.HoldsWorks.{IsWork, IsHand, IsInSegment, IsMoving, IsReturning, AtWork, last_in, sector_word, IsPlaced, AreCopied}
use Rattle.machine_pipeline.proofs.Turns.{GoesBy, nothing, no_move, goes_by, Stepped, does_step}
use Rattle.machine_pipeline.proofs.Lists.{all_at, all_same}
use Rattle.machine_pipeline.proofs.Mapped.{frame_live}
use Rattle.machine_pipeline.proofs.Frames.{work_queued}
use Rattle.machine_pipeline.proofs.Jobs.{MayMove, stations_stay, job_rests, StationsWith, with_job, hands_then}
use Rattle.machine_pipeline.specs.Step.{CallOf}
use Rattle.blk_base.specs.declared.moves.Move.{Move as Shown}

-- the act of the job at a place, and what it makes of the machine
abbrev pub act_at : World → ℕ → Work → JobStage → Outcome → Option BackAct
act_at w number t j o = back_act w.under (back_mover.Job number) (ask_at j t) o

abbrev pub job_next : World → ℕ → Work → JobStage → Option BackAct → World
job_next w p t j None = w
job_next w p t j (Some a) = record { front = w.front; back = record w.back { jobs = record w.back.jobs { works = slice_set w.back.jobs.works p (step_at j t a.answer) }; told = None }; under = a.under }

abbrev pub job_says : Work → JobStage → Option BackAct → List Line
job_says t j None = []
job_says t j (Some a) = Move a.shown ∷ back_lines (told_effect (effect_at j t a.answer)) a.answer

abbrev pub JobGoesAt : Options → World → Pipeline → ℕ → ℕ → Work → JobStage → Outcome → Type 0
JobGoesAt config w d number p t j o = GoesBy None (CallOf (ask_at j t) o) config (job_says t j (act_at w number t j o)) (job_next w p t j (act_at w number t j o)) d

-- nothing happens
pub stays : (call : (before after : List (List ℕ)) → Type 0) (config : Options) (w : World) (g : Flow) (d : Pipeline) → ((a b : List (List ℕ)) → call a b → b ≡ a) → Holds config w g d w.front.stage w.back.stage → GoesBy None call config [] w d
stays call config w g d same h = record { flow = g; steps = []; does = no_move call d same; holds = h }

-- what is known of the job at a place
pub record IsAt (w : World) (g : Flow) (d : Pipeline) (p : ℕ) (t : Work) (r : Request) : Type 0 where
  pub place : slice_get w.back.jobs.works p ≡ Some t
  pub free : MayMove w.back.jobs.works p t
  pub known : slice_get g.submitted (t.id - 1) ≡ Some r
  pub positive : 1 ≤ t.id
  pub issued : slice_get g.series (t.number - 1) ≡ Some r
  pub counted : 1 ≤ t.number
  pub reached : t.number ≤ g.fetched
  pub op : t.op ≡ operation_of r.transfer

pub work_of : {w : World} {g : Flow} {d : Pipeline} {p : ℕ} {t t' : Work} {r : Request} → IsAt w g d p t r → t'.number ≡ t.number → t'.id ≡ t.id → t'.op ≡ t.op → AtWork r t' t'.stage
    → IsWork g.submitted g.series g.fetched t'
work_of {g = g} {r = r} is number id op at = record {
  r = r;
  known = ap (λ (n : ℕ). slice_get g.submitted (n - 1)) id ∙ is.known;
  positive = omega (arith, is.positive);
  issued = ap (λ (n : ℕ). slice_get g.series (n - 1)) number ∙ is.issued;
  counted = omega (arith, is.counted);
  reached = omega (arith, is.reached);
  op = op ∙ is.op;
  at = at;
}

-- a job holds its mapping
pub live_hand : (w : World) (p : ℕ) (t : Work) (m : Mapping) → slice_get w.back.jobs.works p ≡ Some t → mapping_at t.stage ≡ Some m → AreHeld w.under.grants (hands_of w.back) → IsLive w.under.grants m
live_hand w p t m place e held =
    let own : Names (hand_of t) (ask.Unmap m) = rw e (zero, omega arith, refl) in
    All-contains (IsLive w.under.grants) (hands_of w.back) m held.live (job_names w.back (ask.Unmap m) (named_in w.back.jobs.works p t (ask.Unmap m) place own))

-- what a move makes of the mappings in hands
pub hands_step : (w : World) (p : ℕ) (t : Work) (j : JobStage) (x : BackAnswer) → slice_get w.back.jobs.works p ≡ Some t → t.stage ≡ j → IsAnswer (ask_at j t) x → HandsAfter (ask_at j t) x (hands_of w.back) (hands_at w.back.stage (record w.back { jobs = record w.back.jobs { works = slice_set w.back.jobs.works p (step_at j t x) } }))
hands_step w p t j x place e =
    subst (λ (s : JobStage). IsAnswer (ask_at s t) x → HandsAfter (ask_at s t) x (hands_of w.back) (hands_at w.back.stage (record w.back { jobs = record w.back.jobs { works = slice_set w.back.jobs.works p (step_at s t x) } }))) e
    (λ own. between (ask_at t.stage t) x (aborted w.back.stage) w.back.pages (hands_in w.back.jobs.works) (hands_in (slice_set w.back.jobs.works p (step_at t.stage t x))) (told_hands w.back.jobs.works (Some p) false (Some t) x place own))

-- the job's request among the front's
pub record IsOwn (w : World) (g : Flow) (t : Work) (r : Request) : Type 0 where
  pub place : ℕ
  pub at : slice_get w.front.requests place ≡ Some r
  pub number : r.number ≡ t.id
  pub reached : IsAmong g.series g.pushed r
  pub begun : slice_get g.series g.pushed ≡ Some r → ⊥
  pub shaped : IsShaped r
  pub frames : All IsPooled r.frames.items

pub own_at : (config : Options) (w : World) (g : Flow) (d : Pipeline) (p : ℕ) (t : Work) (r : Request) → Holds config w g d w.front.stage w.back.stage → IsAt w g d p t r → IsWork g.submitted g.series g.fetched t → IsOwn w g t r
own_at config w g d p t r h is work =
    let same : work.r ≡ r = same_Some work.r r (sym work.known ∙ is.known) in
    let its = work_queued config w g d w.front.stage w.back.stage h p t is.place work in
    let sub = h.submitted.each (t.id - 1) r is.known in
    let among : IsAmong g.series g.pushed r = record { index = t.number - 1; early = omega (arith, is.counted, is.reached, h.indices.fetched_pushed); at = is.issued } in
    record {
      place = its.place;
      at = its.at ∙ ap Some same;
      number = omega (arith, sub.number, is.positive);
      reached = among;
      begun = λ at. among_apart g.submitted g.series g.pushed g.pushed r r h.queue.ordered among at (omega arith) refl;
      shaped = sub.shaped;
      frames = sub.frames;
    }

-- a job at this stage, of a machine that holds
pub record IsDoing (config : Options) (w : World) (g : Flow) (d : Pipeline) (p : ℕ) (t : Work) (r : Request) (j : JobStage) : Type 0 where
  pub holds : Holds config w g d w.front.stage w.back.stage
  pub held : AreHeld w.under.grants (hands_of w.back)
  pub is : IsAt w g d p t r
  pub stage : t.stage ≡ j
  pub at : AtWork r t j
  pub work : IsWork g.submitted g.series g.fetched t
  pub own : IsOwn w g t r

-- so it is where the stage says this of it
pub doing_at : (config : Options) (w : World) (g : Flow) (d : Pipeline) (p : ℕ) (t : Work) (r : Request) (j : JobStage) → Holds config w g d w.front.stage w.back.stage → AreHeld w.under.grants (hands_of w.back) → IsAt w g d p t r → t.stage ≡ j → AtWork r t j → IsDoing config w g d p t r j
doing_at config w g d p t r j h held is e at =
    let work = work_of is refl refl refl (subst (AtWork r t) (sym e) at) in
    record { holds = h; held = held; is = is; stage = e; at = at; work = work; own = own_at config w g d p t r h is work }

-- what a read's job has in hand, and its frames hold
pub read_now : {config : Options} {w : World} {g : Flow} {d : Pipeline} {p : ℕ} {t : Work} {r : Request} {j : JobStage} → IsDoing config w g d p t r j → (q : PipelineRequest) → slice_get d.requests (t.id - 1) ≡ Some q → is_write r.transfer ≡ false → ReadAt w.under.pages r t.moved t.words q.words j
read_now {w = w} {p = p} {t = t} {r = r} doing q was reads = subst (ReadAt w.under.pages r t.moved t.words q.words) doing.stage (doing.holds.stations.reads.working p t r q doing.is.place doing.is.known was reads)

-- the words of a write lie in its frames
filled_at : (config : Options) (w : World) (g : Flow) (d : Pipeline) (p : ℕ) (t : Work) (r : Request) (j : JobStage)
    → IsDoing config w g d p t r j
    → is_write r.transfer ≡ true
    → (n : ℕ) → n < words_in r → data_word w.under.pages r n ≡ filling_at r.transfer n
filled_at config w g d p t r j doing writes =
    let filled = all_at (IsFilled g.series g.pushed w.under.pages w.front.stage) w.front.requests doing.own.place r doing.holds.frames doing.own.at in
    λ n lt.
    let in_data : nat_lt n (1024 * frames_for r.count) ≡ true = grind (arith, nat_tests) in
    let in_words : nat_lt n (words_in r) ≡ true = grind (arith, nat_tests) in
    let it : is_own r n ≡ true = rw (in_data, writes, in_words) refl in
    filled.whole doing.own.reached n (own_among r n doing.own.shaped it) it ∙ data_value r n lt

-- the sector that a job is at is one of its request's
pub sectors_left : (t : Work) (r : Request) (ahead : ℕ) → IsShaped r → IsInSegment t r ahead → (t.moved + ahead ≤ r.count) × (t.within ≤ 7) × (r.count ≤ 7680)
sectors_left t r ahead shaped x = (
  omega (arith, x.here, x.within, x.moved),
  (let within = x.within in omega arith),
  shaped.counted.few,
)

-- the job goes on at the same segment
abbrev pub placed_on : {writing : Bool} {left : List Segment} {inner count sector : ℕ} {read : List ℕ} {r : Request} {ahead : ℕ} (inner' count' sector' : ℕ) (read' : List ℕ) (ahead' : ℕ) (x : IsPlaced writing left inner count sector read r ahead)
    → inner' ≤ last_in r x.place → count' + ahead' ≡ 8 * x.place + inner' + 1 → sector' ≡ r.sector + count' → length read' ≡ 128
    → IsPlaced writing left inner' count' sector' read' r ahead'
placed_on inner' count' sector' read' ahead' x within moved disk words = record { place = x.place; here = x.here; writes = x.writes; rest = x.rest; within = within; moved = moved; disk = disk; words = words }

-- the job goes on copying, with more segments or fewer pages
abbrev pub copied_on : {writing : Bool} {count : ℕ} {copied : List Segment} {references : List ℕ} {done sector size : ℕ} {read : List ℕ} {r : Request} {page : ℕ} (copied' : List Segment) (references' : List ℕ) (page' : ℕ) → AreCopied writing count copied references done sector size read r page
    → page' < pages_for r.count → copied' ≡ take (length copied') (own_segments r) → length copied' ≤ frames_for r.count → references' ≡ drop page' (page_references r)
    → AreCopied writing count copied' references' done sector size read r page'
copied_on copied' references' page' x here rest few pages = record { here = here; large = x.large; writes = x.writes; named = x.named; rest = rest; few = few; pages = pages; moved = x.moved; disk = x.disk; fits = x.fits; words = x.words }

-- a sector was moved: the job is at the next one of its segment, or unmaps the frame where that was the last one
abbrev pub further : Work → Request → Mapping → Bool → Work
further t r m last = record t { within = if last then t.within else t.within + 1; stage = if last then job.Unmap m else sector_stage (is_write r.transfer) m }

pub next_sector_is : (t : Work) (r : Request) (m : Mapping)
    → IsShaped r
    → (x : IsReturning t r)
    → next_sector t m ≡ further t r m (t.within == last_in r x.place)
next_sector_is t r m shaped x =
    ap (λ (n : ℕ). if t.within == n then record t { stage = job.Unmap m } else record t { within = t.within + 1; stage = sector_stage t.writes m })
    (ap last_of (x.rest ∙ own_here r x.place shaped x.here))
    ∙ (ap (λ (b : Bool). if t.within == last_in r x.place then record t { stage = job.Unmap m } else record t { within = t.within + 1; stage = sector_stage b m }) x.writes
    ∙ elim (t.within == last_in r x.place) as (λ b. (if b then record t { stage = job.Unmap m } else record t { within = t.within + 1; stage = sector_stage (is_write r.transfer) m }) ≡
    further t r m b) [ true ↦ refl | false ↦ refl ])

pub worked_further : (last writes : Bool) (m : Mapping) (moved : ℕ) → worked (if last then job.Unmap m else sector_stage writes m) moved ≡ Working moved
worked_further true writes m moved = refl
worked_further false true m moved = refl
worked_further false false m moved = refl

pub at_further : (t : Work) (r : Request) (m : Mapping) (last : Bool)
    → (x : IsReturning t r)
    → IsHand m r x.place
    → (t.within == last_in r x.place) ≡ last
    → AtWork r (further t r m last) (if last then job.Unmap m else sector_stage (is_write r.transfer) m)
at_further t r m true x hand tested = (x, hand, grind (arith, nat_tests))
at_further t r m false x hand tested = by_way (is_write r.transfer) refl
  where
    next : IsMoving (further t r m false) r
    next = let apart : t.within ≢ last_in r x.place = grind (arith, nat_tests) in placed_on _ _ _ _ 1 x (omega (arith, x.within)) (omega (arith, x.moved)) x.disk x.words

    by_way : (b : Bool) → is_write r.transfer ≡ b → AtWork r (further t r m false) (sector_stage b m)
    by_way true writes = (next, hand, omega arith, writes, λ i lt. absurd (omega arith))
    by_way false reads = (next, hand, reads)

-- a step of the pipeline after which the job is this
abbrev pub StepsTo : ((before after : List (List ℕ)) → Type 0) → Options → World → Flow → Pipeline → ℕ → Work → List Line → Type 0
StepsTo call config w g d p t said = Stepped None call d said (λ x. StationsWith config w g x (slice_set w.back.jobs.works p t) w.under.pages)

module _ {config : Options} {w : World} {g : Flow} {d : Pipeline} {p : ℕ} {t : Work} {r : Request} {j : JobStage} (doing : IsDoing config w g d p t r j) where
  -- its station stays where it is of the same kind
  pub stays_at : (t' : Work) → t'.id ≡ t.id → worked t'.stage t'.moved ≡ worked j t.moved
      → ((q : PipelineRequest) → slice_get d.requests (t.id - 1) ≡ Some q → is_write r.transfer ≡ false → ReadAt w.under.pages r t'.moved t'.words q.words t'.stage)
      → StationsWith config w g d (slice_set w.back.jobs.works p t') w.under.pages
  stays_at t' number same reads =
      stations_stay config w g d p t t' r w.under.pages doing.holds.stations doing.is.place doing.is.known number (same ∙ sym (ap (λ (s : JobStage). worked s t.moved) doing.stage)) reads

  -- a move after which memory and all hands are as they were: a step of the pipeline, or nothing to it
  pub steps_on : {call : (before after : List (List ℕ)) → Type 0} {said : List Line} (t' : Work) (shown : Shown) → t'.number ≡ t.number → t'.id ≡ t.id → t'.op ≡ t.op
      → StepsTo call config w g d p t' said → AtWork r t' t'.stage → hands_then w p t' ≡ hands_of w.back
      → GoesBy None call config (Move shown ∷ said) (with_job w p t' w.under) d
  steps_on {said = said} t' shown number id op s at hands =
      goes_by (does_step shown said refl s)
      (job_rests doing.holds doing.is.free id (work_of doing.is number id op at) s.now hands)

  pub rests_on : {call : (before after : List (List ℕ)) → Type 0} (t' : Work) (shown : Shown) → ((a b : List (List ℕ)) → call a b → b ≡ a)
      → t'.number ≡ t.number → t'.id ≡ t.id → t'.op ≡ t.op → worked t'.stage t'.moved ≡ worked j t.moved
      → ((q : PipelineRequest) → slice_get d.requests (t.id - 1) ≡ Some q → is_write r.transfer ≡ false → ReadAt w.under.pages r t'.moved t'.words q.words t'.stage)
      → AtWork r t' t'.stage
      → hands_then w p t' ≡ hands_of w.back
      → GoesBy None call config (Move shown ∷ []) (with_job w p t' w.under) d
  rests_on {call = call} t' shown still number id op same reads at hands =
      goes_by (nothing call shown d still)
      (job_rests doing.holds doing.is.free id (work_of doing.is number id op at) (stays_at t' id same reads) hands)

-- a word of data is read
pub read_goes : (config : Options) (w : World) (g : Flow) (d : Pipeline) (number p : ℕ) (t : Work) (r : Request) (m : Mapping) (k : ℕ) (o : Outcome)
    → IsDoing config w g d p t r (job.ReadWord m k)
    → JobGoesAt config w d number p t (job.ReadWord m k) o
read_goes config w g d number p t r m k o doing =
    rests_on doing (step_at (job.ReadWord m k) t (answer.Word value)) _ (λ a b same. same_Some b a same.1) refl refl refl (read_station (k == 127))
    (λ q was reads. absurd (false≢true (sym reads ∙ doing.at.3)))
    (by_test (k == 127) refl) (hands_step w p t (job.ReadWord m k) (answer.Word value) doing.is.place doing.stage tt)
  where
    value : ℕ
    value = word_of w.under.pages (frame_of w.under.grants m) (word_at t k)

    is_word : value ≡ sector_word r t
    is_word =
        let hand = doing.at.1 in
        let frame = frame_live w.under.grants m (frame_at r doing.at.0.place) (live_hand w p t m doing.is.place (rw doing.stage refl) doing.held) doing.holds.mapped.framed hand.gref in
        let left = sectors_left t r 1 doing.own.shaped doing.at.0 in
        let moved = doing.at.0.moved in
        ap (λ (f : ℕ). word_of w.under.pages f (word_at t k)) frame
        ∙ (sym (data_place w.under.pages r doing.at.0.place t.within t.moved k left.1 (omega arith) doing.at.2)
        ∙ (filled_at config w g d p t r (job.ReadWord m k) doing doing.at.3 (128 * t.moved + k) (omega (arith, left.0, doing.at.2))
        ∙ ap (λ (i : ℕ). (tag_of r.transfer + i) % 2 ^ 32) (word_place doing.at.0.place t.within t.moved k left.1 (omega arith) doing.at.2).2))

    words : List ℕ
    words = slice_set t.words k value

    filled : (i : ℕ) → i < k + 1 → slice_index words i ≡ sector_word r t
    filled i lt = elim (cases_eq i k) [
      | inl it ↦ get_or-set_at t.words k i value 0 (omega (arith, doing.at.2, doing.at.0.words)) (omega arith) ∙ is_word
      | inr apart ↦ get_or-set_other t.words k i value 0 (omega arith) ∙ doing.at.4 i (omega arith)
    ]

    moved_so : IsMoving (step_at (job.ReadWord m k) t (answer.Word value)) r
    moved_so = placed_on _ _ _ _ 1 doing.at.0 doing.at.0.within doing.at.0.moved doing.at.0.disk (length-set t.words k value ∙ doing.at.0.words)

    by_test : (b : Bool) → (k == 127) ≡ b → AtWork r (step_at (job.ReadWord m k) t (answer.Word value)) (if b then job.DiskWrite m else job.ReadWord m (k + 1))
    by_test true last = (moved_so, doing.at.1, doing.at.3, all_same 128 words (sector_word r t) moved_so.words (λ i lt. filled i (let top : k ≡ 127 = grind (arith, nat_tests) in omega arith)))
    by_test false last = (moved_so, doing.at.1, (let apart : k ≢ 127 = grind (arith, nat_tests) in omega (arith, doing.at.2)), doing.at.3, filled)

    read_station : (b : Bool) → worked (if b then job.DiskWrite m else job.ReadWord m (k + 1)) t.moved ≡ Working t.moved
    read_station true = refl
    read_station false = refl
