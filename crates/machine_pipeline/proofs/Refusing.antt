-- The front refuses a submission exactly where the pipeline does, by the rule of the plain disk.
use Rattle.machine_pipeline.proofs.Growing.{free_at, taken_next, taken_none, same_place}
use Rattle.std.proofs.Common.{◌≡◌, ℕ, zero, suc, ◌+◌, ◌-◌, ◌/◌, ◌<◌, ◌≤◌, Bool, true, false, true≢false, not, cond, List, [], ◌∷◌, ◌++◌, length, refl, ap, sym, subst, ◌∙◌, arith, length-set, ◌⊎◌, inl, inr}
use Rattle.std.specs.Prelude.{◌&&◌, ◌||◌, slice_get, Option, Some, None, Result, Ok, Err, count_by, nat_lt, min, max, if◌then◌else◌, map}
use Rattle.std.specs.List.{sum_by, position_or_len}
use Rattle.std.proofs.lemmas.Bool.Decides.{nat_tests}
use Rattle.std.proofs.lemmas.List.Sums.{sum_by-cons, count_by-le-length}
use Rattle.blk_base.specs.Options.{Options}
use Rattle.blk_base.specs.declared.config.Submission.{Submission}
use Rattle.blk_base.specs.declared.config.Submission.TheVariants.{Read, Write, Barrier, Flush, Discard}
use Rattle.blk_base.specs.declared.refusal.Refusal.{Refusal}
use Rattle.plain_disk.specs.declared.request.DiskRequest.{DiskRequest}
use Rattle.plain_disk.specs.Request.{is_finished}
use Rattle.pipeline_laws.specs.Station.{PipelineRequest, asked, stage_at, is_finished as is_ended}
use Rattle.pipeline_laws.specs.Allowed.{refusal_now}
use Rattle.plain_disk.specs.Refusal.{frames_held, refusal_by}
use Rattle.pipeline_laws.specs.Pipeline.{Pipeline}
use Rattle.blk_front.specs.declared.request.Request.{Request}
use Rattle.blk_front.specs.declared.request.Transfer.TheVariants as transfer
use Rattle.blk_front.specs.declared.request.Wish.{Wish}
use Rattle.blk_front.specs.Request.{frames_for}
use Rattle.blk_front.specs.declared.stage.Ending.{Ending}
use Rattle.blk_front.specs.declared.stage.FrontStage.{FrontStage}
use Rattle.blk_front.specs.declared.stage.FrontStage.TheVariants as front
use Rattle.blk_front.specs.declared.state.Offers.{Offers}
use Rattle.blk_base.specs.declared.refusal.Refusal.TheVariants as refusal
use Rattle.blk_front.specs.Pool.{with_taken, taking}
use Rattle.blk_front.specs.View.{View, next_request}
use Rattle.blk_front.specs.Submit.{is_ready, ending_of, unfinished, wished, frames_taken, submit_with, submit_one, submit_of}
use Rattle.blk_back.specs.declared.stage.Reply.{Reply}
use Rattle.split_model.specs.World.{World}
use Rattle.machine_pipeline.specs.Allowed.{IsServable}
use Rattle.machine_pipeline.specs.Plain.{IsPlain}
use Rattle.machine_pipeline.proofs.Flow.{Flow, ending_at, count_of}
use Rattle.machine_pipeline.proofs.Holds.{FrontAt, AreOffered, IsOffered, Holds}
use Rattle.ring_words.specs.Shape.{Shape}
use Rattle.std.proofs.lemmas.Bool.{cases_lt}
use Rattle.machine_pipeline.proofs.Lists.{count_set}
use Rattle.std.proofs.lemmas.List.{length-map}
use Rattle.machine_pipeline.proofs.Holding.{ruled_frames, frames_alike, same_stage}

-- an answer, as the rule gives it: none where the submission is accepted
abbrev pub answer_of : Result ℕ Refusal → Option Refusal
answer_of (Ok number) = None
answer_of (Err r) = Some r

-- what a ready front knows of its back
pub offered_is : (ready : Bool) (config : Options) (offers : Offers) (pushed : ℕ) → ready ≡ true → IsOffered ready config offers pushed → AreOffered config offers
offered_is true config offers pushed is h = h
offered_is false config offers pushed is h = absurd (true≢false (sym is))

-- as many requests end as the front's stage says
pub same_ending : (shape : Shape) (start pushed taken front_seen : ℕ) (submitted : List Request) (replies : List Reply) (next : Option Request) (entry : List ℕ)
    (ending : Option Ending) (s : FrontStage)
    → FrontAt shape start pushed taken front_seen submitted replies next entry ending s → count_of (ending_at s ending) ≡ ending_of s
same_ending shape start pushed taken front_seen submitted replies next entry ending front.Loop at = refl
same_ending shape start pushed taken front_seen submitted replies next entry ending s at = first_of (assumption, cc)

-- a frame is free where fewer are in use than there are
free_place : (pool : List Bool) → count_by (λ (b : Bool). b) pool < length pool → position_or_len not pool < length pool
free_place [] few = few
free_place (false ∷ pool) few = omega arith
free_place (true ∷ pool) few = omega (arith, free_place pool, sum_by-cons (λ (b : Bool). cond b 1 0) true pool)

-- as many are unfinished for the plain disk as for the pipeline
as_unfinished : (carried : List PipelineRequest) → count_by (λ (q : DiskRequest). not (is_finished q.stage)) (map asked carried) ≡ count_by (λ (x : PipelineRequest). not (is_ended x.station)) carried
as_unfinished [] = refl
as_unfinished (x ∷ carried) =
    let one = sum_by-cons (λ (q : DiskRequest). cond (not (is_finished q.stage)) 1 0) (asked x) (map asked carried) in
    let same : ◌≡◌ {A = ℕ} (cond (not (is_finished (stage_at x.station))) 1 0) (cond (not (is_ended x.station)) 1 0) = ap (λ (b : Bool). cond (not b) 1 0) (same_stage x.station) in
    omega (arith, as_unfinished carried, sum_by-cons (λ (y : PipelineRequest). cond (not (is_ended y.station)) 1 0) x carried)

-- so many frames more are taken, or too few are free
abbrev IsLacking : (lacks : Bool) → Option (List ℕ × List Bool) → Type 0
IsLacking lacks taken = ((lacks ≡ false) × ((t : List ℕ × List Bool) × (taken ≡ Some t))) ⊎ ((lacks ≡ true) × (taken ≡ None))

frames_fit : (n : ℕ) (pool : List Bool) (frames : List ℕ) → IsLacking (nat_lt (length pool) (count_by (λ (b : Bool). b) pool + n)) (taking n pool frames)
frames_fit zero pool frames = inl (grind (arith, nat_tests, count_by-le-length (λ (b : Bool). b) pool), ((frames, pool), refl))
frames_fit (suc n) pool frames =
    let place : ℕ = position_or_len not pool in
    elim (cases_lt place (length pool)) [
      | inl lt ↦
          let free : slice_get pool (18 + place - 18) ≡ Some false = rw (same_place place) (free_at pool lt) in
          let more : count_by (λ (b : Bool). b) pool + suc n ≡ count_by (λ (b : Bool). b) (with_taken pool (18 + place)) + n = omega
          (arith, count_set (λ (b : Bool). b) pool (18 + place - 18) false true free) in
          rw (taken_next n pool frames lt, more, ← length-set pool (18 + place - 18) true) (frames_fit n (with_taken pool (18 + place)) (frames ++ (18 + place) ∷ []))
      | inr none ↦ inr (grind (arith, nat_tests, free_place pool), taken_none n pool frames none)
    ]

-- the last tests of a submission, by the rule and by the front
abbrev ruled_last : (refuses past long full lacks : Bool) → Option Refusal
ruled_last refuses past long full lacks = if refuses then Some refusal.ReadOnly else (if past then Some refusal.Range else (if long then Some refusal.Long else (if full then Some refusal.Full else (if lacks then Some refusal.Buffers else None))))

abbrev tested_last : View → Wish → (refuses past long full : Bool) → Option (List ℕ × List Bool) → Result ℕ Refusal × View
tested_last v wish refuses past long full taken = if refuses then (Err refusal.ReadOnly, v) else (if past then (Err refusal.Range, v) else (if long then (Err refusal.Long, v) else (if full then (Err refusal.Full, v) else submit_with v wish taken)))

-- one answer by both, as the same tests come out
same_last : (v : View) (wish : Wish) (refuses past long full lacks : Bool) (taken : Option (List ℕ × List Bool))
    → (long ≡ false → full ≡ false → IsLacking lacks taken)
    → ruled_last refuses past long full lacks ≡ answer_of (tested_last v wish refuses past long full taken).0
same_last v wish false false false false lacks taken fits = elim (fits refl refl) [ inl fit ↦ rw (fit.0, fit.1.1) refl | inr lack ↦ rw (lack.0, lack.1) refl ]
same_last v wish refuses past long full lacks taken fits = refl

same_answer : (v : View) (wish : Wish) (one : Option Wish → Result ℕ Refusal × View) (spent closing connected unsupported offered refuses past long full lacks : Bool) (taken : Option (List ℕ × List Bool))
    → one None ≡ (Err refusal.Unsupported, v)
    → (connected ≡ true → unsupported ≡ false → one (Some wish) ≡ tested_last v wish refuses past long full taken)
    → (connected ≡ true → offered ≡ not unsupported)
    → (long ≡ false → full ≡ false → IsLacking lacks taken)
    → (if spent then Some refusal.Spent else (if not closing && (not connected || false) then Some refusal.NotReady else (if closing then Some refusal.Closing else (if unsupported then Some refusal.Unsupported else ruled_last refuses past long full lacks))))
    ≡ answer_of (if spent then (Err refusal.Spent, v) else (if closing then (Err refusal.Closing, v) else (if not connected then (Err refusal.NotReady, v) else one (wished offered wish)))).0
same_answer v wish one false false true unsupported offered refuses past long full lacks taken none some serves fits = by_offer unsupported offered (some refl) (serves refl)
  where
    by_offer : (u o : Bool) → (u ≡ false → one (Some wish) ≡ tested_last v wish refuses past long full taken) → o ≡ not u → (if u then Some refusal.Unsupported else ruled_last refuses past long full lacks) ≡ answer_of (one (wished o wish)).0
    by_offer false true some e = same_last v wish refuses past long full lacks taken fits ∙ sym (ap (λ (y : Result ℕ Refusal × View). answer_of y.0) (some refl))
    by_offer true false some e = sym (ap (λ (y : Result ℕ Refusal × View). answer_of y.0) none)
    by_offer u o some e = cc
same_answer v wish one spent closing connected unsupported offered refuses past long full lacks taken none some serves fits = refl

-- what the rule looks at, of a list of requests, is what the front looks at
pub record AreAlike (config : Options) (v : View) (requests : List DiskRequest) : Type 0 where
  pub spent : length requests ≡ v.last
  pub opened : count_by (λ (q : DiskRequest). not (is_finished q.stage)) requests ≡ unfinished v
  pub held : sum_by frames_held requests ≡ count_by (λ (b : Bool). b) v.pool
  pub size : length v.pool ≡ 1000
  pub order : config.order ≡ v.shape.order
  pub offers : is_ready v.stage ≡ true → AreOffered config v.offers

-- so the rule's answer is the front's
pub ruled_alike : (config : Options) (v : View) (requests : List DiskRequest) (job : Submission) → config.indirect ≤ 960 → AreAlike config v requests → refusal_by (record { config = Some config; connected = is_ready v.stage; closing = v.closing; broken = false }) config requests job ≡ answer_of (submit_of v job).0
ruled_alike config v requests job narrow alike = by_job job
  where
    -- the front's limit is the rule's
    most : is_ready v.stage ≡ true → max 11 (min 960 v.offers.indirect) ≡ max 11 config.indirect
    most ready = let limit = (alike.offers ready).indirect in omega arith

    free : (count : ℕ) → IsLacking (nat_lt 1000 (sum_by frames_held requests + frames_taken count)) (taking (frames_taken count) v.pool [])
    free count = rw alike.held (subst (λ (n : ℕ). IsLacking (nat_lt n (count_by (λ (b : Bool). b) v.pool + frames_taken count)) (taking (frames_taken count) v.pool [])) alike.size
        (frames_fit (frames_taken count) v.pool []))

    fits : (count : ℕ) → IsLacking (nat_lt 1000 (sum_by frames_held requests + (if nat_lt 11 ((count + 7) / 8) then (count + 7) / 8 + ((count + 7) / 8 + 511) / 512 else (count + 7) / 8))) (taking (frames_taken count) v.pool [])
    fits count = rw (ruled_frames count) (free count)

    bare : (count : ℕ) → nat_lt 11 (frames_for count) ≡ false → IsLacking (nat_lt 1000 (sum_by frames_held requests + (count + 7) / 8)) (taking (frames_taken count) v.pool [])
    bare count short =
        subst (λ (n : ℕ). IsLacking (nat_lt 1000 (sum_by frames_held requests + n)) (taking (frames_taken count) v.pool [])) (rw short (omega arith)) (free count)

    by_job : (x : Submission) → refusal_by (record { config = Some config; connected = is_ready v.stage; closing = v.closing; broken = false }) config requests x ≡ answer_of (submit_of v x).0
    by_job (Read sector count) = rw (alike.spent, alike.order, alike.opened)
        (same_answer v (record { sector = sector; count = count; transfer = transfer.Read }) (submit_one v) _ _ _ false true false _ _ _ _ _ refl (λ ready served. rw ((alike.offers ready).sectors, most ready) refl) (λ ready. refl) (λ short full. fits count))
    by_job (Write sector count tag) = rw (alike.spent, alike.order, alike.opened)
        (same_answer v (record { sector = sector; count = count; transfer = transfer.Write tag }) (submit_one v) _ _ _ false true _ _ _ _ _ _ refl (λ ready served. rw ((alike.offers ready).read_only, (alike.offers ready).sectors, most ready) refl) (λ ready. refl) (λ short full. fits count))
    by_job (Barrier sector count tag) = rw (alike.spent, alike.order, alike.opened)
        (same_answer v (record { sector = sector; count = count; transfer = transfer.Barrier tag }) (submit_one v) _ _ _ config.read_only v.offers.barrier false _ _ _ _ _ refl (λ ready served. rw ((alike.offers ready).read_only ∙ served, (alike.offers ready).sectors) refl) (λ ready. (alike.offers ready).barrier) (λ short full. bare count short))
    by_job Flush = rw (alike.spent, alike.order, alike.opened)
        (same_answer v (record { sector = 0; count = 0; transfer = transfer.Flush }) (submit_one v) _ _ _ config.read_only v.offers.flush false _ false _ _ _ refl (λ ready served. rw (alike.offers ready).sectors refl) (λ ready. (alike.offers ready).flush) (λ short full. fits 0))
    by_job (Discard sector count) = rw (alike.spent, alike.order, alike.opened)
        (same_answer v (record { sector = sector; count = 0; transfer = transfer.Discard count }) (submit_one v) _ _ _ config.read_only v.offers.discard false _ false _ _ _ refl (λ ready served. rw (alike.offers ready).sectors refl) (λ ready. (alike.offers ready).discard) (λ short full. fits 0))

-- of a machine that stands for a pipeline
ruled : (config : Options) (w : World) (g : Flow) (d : Pipeline) (job : Submission) → IsPlain config → Holds config w g d w.front.stage w.back.stage → refusal_by (record { config = Some config; connected = is_ready w.front.stage; closing = w.front.closing; broken = false }) config (map asked d.requests) job ≡ answer_of (submit_of w.front job).0
ruled config w g d job plain h =
    ruled_alike config w.front (map asked d.requests) job plain.indirect (record {
      spent = length-map d.requests asked ∙ h.stations.known.as_many ∙ (let all = h.submitted in all.counted);
      opened = as_unfinished d.requests ∙ h.stations.opened.unfinished ∙ ap (λ (n : ℕ). length w.front.requests + n)
          (same_ending g.shape g.start g.pushed g.taken g.front_seen g.submitted g.replies (next_request w.front) w.front.ring.entry w.front.ending w.front.stage h.front_at);
      held = frames_alike config w g d h;
      size = h.pool.size;
      order = sym (ap (λ (x : Shape). x.order) (h.shaped.known ∙ h.shaped.whole));
      offers = λ ready. offered_is (is_ready w.front.stage) config w.front.offers g.pushed ready h.offered;
    })

-- so is the pipeline's
pub refused_rightly : (config : Options) (w : World) (g : Flow) (d : Pipeline) (job : Submission) → IsPlain config → Holds config w g d w.front.stage w.back.stage → IsServable job → refusal_now d job ≡ answer_of (submit_of w.front job).0
refused_rightly config w g d job plain h one = rw (h.stations.options, h.stations.front, h.started.closing) (ruled config w g d job plain h)
