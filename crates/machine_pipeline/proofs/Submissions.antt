-- A submission is refused, and changes nothing, or accepted, and then the pipeline has its request.
use Rattle.machine_pipeline.proofs.Issuing.{fetching_pushed}
use Rattle.std.proofs.Common.{◌≡◌, ◌≢◌, ℕ, ◌+◌, ◌<◌, ◌≤◌, ◌==◌, ◌&&◌, Bool, true, false, true≢false, not, List, [], ◌∷◌, ◌++◌, length, refl, ap, sym, ◌∙◌, subst, inl, inr, arith}
use Rattle.std.specs.Prelude.{All, Option, Some, None, Result, Err, slice_get, nat_lt, nat_le, if◌then◌else◌}
use Rattle.std.proofs.lemmas.Bool.{not-false, eqb-false, leb-false, ltb-false, cases_lt}
use Rattle.std.proofs.lemmas.Bool.Decides.{nat_tests}
use Rattle.blk_base.specs.Options.{Options}
use Rattle.blk_base.specs.declared.config.Submission.{Submission}
use Rattle.blk_base.specs.declared.config.Submission.TheVariants.{Read, Write, Barrier, Flush, Discard}
use Rattle.schedule_text.specs.declared.line.Line.TheVariants as lines
use Rattle.pipeline_laws.specs.Pipeline.{Pipeline, Refuses, next}
use Rattle.blk_front.specs.declared.request.Request.{Request}
use Rattle.blk_front.specs.declared.request.Transfer.{Transfer}
use Rattle.blk_front.specs.declared.request.Transfer.TheVariants as transfer
use Rattle.blk_front.specs.declared.request.Wish.{Wish}
use Rattle.blk_front.specs.Request.{is_write, is_moving, is_indirect, named_of, frames_for, IsCounted}
use Rattle.blk_front.specs.declared.state.Offers.{Offers}
use Rattle.blk_front.specs.Pool.{taking}
use Rattle.blk_base.specs.declared.refusal.Refusal.{Refusal}
use Rattle.blk_base.specs.declared.refusal.Refusal.TheVariants as refusal
use Rattle.blk_front.specs.View.{View, next_request}
use Rattle.blk_front.specs.Submit.{ending_of, is_ready, unfinished, most_segments, frames_taken, request_with, accepted, wished, wish_of, submit_one, submit_of, submit_with}
use Rattle.split_model.specs.World.{World}
use Rattle.split_model.specs.Happening.{Submits, submit_line, lines_at, happens}
use Rattle.machine_pipeline.specs.Allowed.{IsServable}
use Rattle.machine_pipeline.proofs.Flow.{Flow, submitted_job, ending_at, telling_at, is_issuing, is_fetching, reply_at}
use Rattle.machine_pipeline.proofs.Holds.{AreOffered, IsPooled, AreNumbers, ArePooled, Holds}
use Rattle.machine_pipeline.proofs.Turns.{Stepped, does_alone, GoesBy, goes_by}
use Rattle.machine_pipeline.proofs.Next.{waiting_few}
use Rattle.machine_pipeline.proofs.Growing.{longer, submitted_more, disk_more, queue_more, pooled_more}
use Rattle.machine_pipeline.proofs.Submitting.{submitted_flow, indices_more, next_more, front_at_grown, unissued, slots_more, frames_more, entries_more, absent, works_more, replies_grown, back_at_grown}
use Rattle.machine_pipeline.proofs.Refusing.{answer_of, offered_is, refused_rightly}
use Rattle.machine_pipeline.proofs.Stations.{AreStations}
use Rattle.machine_pipeline.proofs.StationsFront.{submits}
use Rattle.ring_words.specs.Shape.{entries_of, Shape}
use Rattle.machine_pipeline.specs.Step.{IsSame}
use Rattle.machine_pipeline.specs.Plain.{IsPlain}
use Rattle.pipeline_laws.specs.Allowed.{refusal_now}

-- the machine with one request more
abbrev accepting : World → Wish → (List ℕ × List Bool) → World
accepting w wish taken = record { front = accepted w.front wish taken; back = w.back; under = w.under }

-- where none waits none is issued
unissued_now : (config : Options) (w : World) (g : Flow) (d : Pipeline) → Holds config w g d w.front.stage w.back.stage → g.pushed ≡ length g.series → is_issuing w.front.stage ≡ false
unissued_now config w g d h same = unissued g.shape g.start g.pushed g.taken g.front_seen g.submitted g.replies
    (next_request w.front) w.front.ring.entry w.front.ending w.front.stage none_waits h.front_at
  where
    none_waits : next_request w.front ≡ None
    none_waits = let none : w.front.waiting ≡ 0 = omega (arith, h.indices.all) in rw none refl

-- so one that is being issued waits
issuing_waits : (config : Options) (w : World) (g : Flow) (d : Pipeline) → Holds config w g d w.front.stage w.back.stage → is_issuing w.front.stage ≡ true → g.pushed < length g.series
issuing_waits config w g d h issues = elim (cases_lt g.pushed (length g.series)) [
  | inl lt ↦ lt
  | inr le ↦ absurd (true≢false (sym issues ∙ unissued_now config w g d h (omega (arith, h.indices.all))))
]

accepted_on : (config : Options) (w : World) (g : Flow) (d d' : Pipeline) (wish : Wish) (taken : List ℕ × List Bool)
    → Holds config w g d w.front.stage w.back.stage
    → is_ready w.front.stage ≡ true → w.front.last ≢ 4294967295 → unfinished w.front < entries_of g.shape.order
    → (is_write wish.transfer && config.read_only) ≡ false → (is_moving wish.transfer ≡ false → config.read_only ≡ false) → (is_indirect wish.count ≡ true → frames_for wish.count ≤ config.indirect)
    → wish.sector + named_of wish.transfer wish.count ≤ config.sectors → AreNumbers wish.transfer wish.sector → IsCounted wish.transfer wish.count
    → taking (frames_taken wish.count) w.front.pool [] ≡ Some taken
    → AreStations config (submitted_flow g (request_with w.front wish taken.0)) d' (is_ready w.front.stage) (is_issuing w.front.stage) (is_fetching w.back.stage) (ending_at w.front.stage w.front.ending) (telling_at w.front.stage) (reply_at w.back.stage) (w.front.requests ++ request_with w.front wish taken.0 ∷ []) w.back.jobs.works w.under.pages
    → Holds config (accepting w wish taken) (submitted_flow g (request_with w.front wish taken.0)) d' w.front.stage w.back.stage
accepted_on config w g d d' wish taken h ready unspent free may serves limit on_disk numbers counted frames stations =
    assumption (
      disk_more config g.submitted x may serves limit h.sized,
      submitted_more g.submitted config.sectors w.front.last x refl on_disk numbers (record { counted = counted; frames = pooled.2 }) pooled.1 h.submitted,
      indices_more g x w.front.ring.indices w.back.ring.indices w.front.ring.seen w.back.ring.seen w.back.fetched w.front.last w.front.waiting (length w.front.requests) (length (w.front.requests ++ x ∷ []))
          (ending_of w.front.stage) (longer w.front.requests x) unspent free h.indices,
      queue_more g.submitted g.series g.pushed config.sectors w.front.last w.front.requests w.front.waiting x refl h.indices.all (waiting_few h.indices) h.submitted h.queue,
      pooled.0,
      works_more g.submitted g.fetched w.back.jobs.works x h.works,
      replies_grown g.fetched g.taken g.replied g.replies x h.replies,
      front_at_grown g.shape g.start g.pushed g.taken g.front_seen g.submitted g.replies (next_request w.front)
          (next_request (accepted w.front wish taken)) w.front.ring.entry w.front.ending x w.front.stage
          (next_more w.front.requests w.front.waiting x) h.front_at,
      back_at_grown g.shape g.start g.fetched g.back_seen g.replied g.series w.back.jobs.works w.back.ring.entry x w.back.stage h.back_at,
      slots_more g.series g.pushed w.under.pages w.front.stage x few none h.slots,
      frames_more g.series g.pushed w.under.pages w.front.stage x few none w.front.requests new h.frames,
      entries_more g.series g.pushed w.under.pages w.front.stage x few none w.front.requests new h.entries,
    )
  where
    x : Request
    x = request_with w.front wish taken.0

    pooled : ArePooled taken.1 (w.front.requests ++ x ∷ []) (ending_at w.front.stage w.front.ending) × All IsPooled x.frames.items
        × (length x.frames.items ≡ frames_taken wish.count)
    pooled = pooled_more w.front.pool taken.1 w.front.requests (ending_at w.front.stage w.front.ending) (frames_taken wish.count) x frames h.pool

    new : (i : ℕ) → slice_get g.series i ≡ Some x → ⊥
    new = absent g.submitted g.series config.sectors w.front.last x refl h.submitted (let queue = h.queue in queue.ordered)

    few : g.pushed ≤ length g.series
    few = omega (arith, h.indices.all)

    none : g.pushed ≡ length g.series → is_issuing w.front.stage ≡ false
    none = unissued_now config w g d h

-- where a request goes through indirect pages the back takes as many segments
short_enough : (offers : Offers) (way : Transfer) (count limit : ℕ) → nat_lt (most_segments offers way) (frames_for count) ≡ false → offers.indirect ≡ limit → is_indirect count ≡ true → frames_for count ≤ limit
short_enough offers way count limit short published large = grind (arith, nat_tests)

-- what a submission with this answer makes of all, where the pipeline answers so too
abbrev SubmitGoes : Options → World → Pipeline → Submission → Result ℕ Refusal × View → Type 0
SubmitGoes config w d job y = refusal_now d job ≡ answer_of y.0 → GoesBy (Some job) IsSame config (submit_line job y.0 ∷ []) (record { front = y.1; back = w.back; under = w.under }) d

either : (config : Options) (w : World) (d : Pipeline) (job : Submission) (b : Bool) (y z : Result ℕ Refusal × View) → (b ≡ true → SubmitGoes config w d job y) → (b ≡ false → SubmitGoes config w d job z) → SubmitGoes config w d job (if b then y else z)
either config w d job true y z p q = p refl
either config w d job false y z p q = q refl

refused : (config : Options) (w : World) (g : Flow) (d : Pipeline) (job : Submission) (r : Refusal) → Holds config w g d w.front.stage w.back.stage → SubmitGoes config w d job (Err r, w.front)
refused config w g d job r h same =
    goes_by {steps = Refuses job r ∷ []} (record { asides = []; aside = refl; shows = refl; asks = refl; allowed = (same, tt); disk = λ a b e. (b, e, refl) }) h

-- a request of the front's, where its back serves it (`offered`)
submit_wish : (config : Options) (w : World) (g : Flow) (d : Pipeline) (wish : Wish) (offered : Bool) → (let job : Submission = submitted_job wish.transfer wish.sector wish.count in
    wish_of w.front.offers job ≡ wished offered wish
    → (is_ready w.front.stage ≡ true → offered ≡ true → is_moving wish.transfer ≡ false → config.read_only ≡ false)
    → (nat_lt (most_segments w.front.offers wish.transfer) (frames_for wish.count) ≡ false → IsCounted wish.transfer wish.count)
    → AreNumbers wish.transfer wish.sector → Holds config w g d w.front.stage w.back.stage → SubmitGoes config w d job (submit_of w.front job))
submit_wish config w g d wish offered asks serves counted numbers h =
    subst (λ (o : Option Wish). SubmitGoes config w d job (if w.front.last == 4294967295 then (Err refusal.Spent, w.front) else (if w.front.closing then (Err refusal.Closing, w.front) else (if not (is_ready w.front.stage) then (Err refusal.NotReady, w.front) else submit_one w.front o)))) (sym asks) (
    either config w d job (w.front.last == 4294967295) (Err refusal.Spent, w.front) _ (λ t. refused config w g d job refusal.Spent h) (λ unspent.
    either config w d job w.front.closing (Err refusal.Closing, w.front) _ (λ t. refused config w g d job refusal.Closing h) (λ stays_open.
    either config w d job (not (is_ready w.front.stage)) (Err refusal.NotReady, w.front) _ (λ t. refused config w g d job refusal.NotReady h) (λ unready.
    by_offer offered (serves (not-false (is_ready w.front.stage) unready)) (not-false (is_ready w.front.stage) unready) unspent))))
  where
    job : Submission
    job = submitted_job wish.transfer wish.sector wish.count

    stepped : (taken : List ℕ × List Bool) → refusal_now d job ≡ None → Stepped (Some job) IsSame d (lines.Submit (w.front.last + 1) job ∷ []) (λ p. AreStations config (submitted_flow g (request_with w.front wish taken.0)) p (is_ready w.front.stage) (is_issuing w.front.stage) (is_fetching w.back.stage) (ending_at w.front.stage w.front.ending) (telling_at w.front.stage) (reply_at w.back.stage) (w.front.requests ++ request_with w.front wish taken.0 ∷ []) w.back.jobs.works w.under.pages)
    stepped taken same =
        let known : length d.requests ≡ w.front.last = h.stations.known.as_many ∙ h.submitted.counted in
        submits config g d (is_ready w.front.stage) (is_issuing w.front.stage) (is_fetching w.back.stage) (ending_at w.front.stage w.front.ending) (telling_at w.front.stage) (reply_at w.back.stage) w.front.requests w.back.jobs.works w.under.pages (request_with w.front wish taken.0) (ap (λ (n : ℕ). n + 1) (sym known)) (omega (arith, h.indices.all)) h.indices.fetched_pushed (issuing_waits config w g d h) (fetching_pushed g.shape g.start g.fetched g.back_seen g.replied g.pushed g.series w.back.jobs.works w.back.ring.entry w.back.stage h.indices.back_to h.back_at) same h.stations

    by_frames : (is_moving wish.transfer ≡ false → config.read_only ≡ false) → is_ready w.front.stage ≡ true → (w.front.last == 4294967295) ≡ false
        → (is_write wish.transfer && w.front.offers.read_only) ≡ false → nat_lt w.front.offers.sectors (wish.sector + named_of wish.transfer wish.count) ≡ false → nat_lt (most_segments w.front.offers wish.transfer) (frames_for wish.count) ≡ false
        → nat_le (entries_of w.front.shape.order) (unfinished w.front) ≡ false
        → (o : Option (List ℕ × List Bool)) → taking (frames_taken wish.count) w.front.pool [] ≡ o → SubmitGoes config w d job (submit_with w.front wish o)
    by_frames serves ready unspent may on_disk short free None none = refused config w g d job refusal.Buffers h
    by_frames serves ready unspent may on_disk short free (Some taken) some_taken = λ same.
        let s = stepped taken same in
        let knows = offered_is (is_ready w.front.stage) config w.front.offers g.pushed ready h.offered in
        goes_by {g = submitted_flow g (request_with w.front wish taken.0)} (does_alone s)
        (accepted_on config w g d (next d s.step) wish taken h ready (eqb-false w.front.last 4294967295 unspent)
        (subst (λ (x : Shape). unfinished w.front < entries_of x.order) h.shaped.known (leb-false (entries_of w.front.shape.order) (unfinished w.front) free))
        (subst (λ (b : Bool). (is_write wish.transfer && b) ≡ false) knows.read_only may) serves (short_enough w.front.offers wish.transfer wish.count config.indirect short knows.indirect)
        (subst (λ (n : ℕ). wish.sector + named_of wish.transfer wish.count ≤ n) knows.sectors (ltb-false w.front.offers.sectors (wish.sector + named_of wish.transfer wish.count) on_disk)) numbers (counted short) some_taken s.now)

    by_offer : (b : Bool) → (b ≡ true → is_moving wish.transfer ≡ false → config.read_only ≡ false) → is_ready w.front.stage ≡ true → (w.front.last == 4294967295) ≡ false → SubmitGoes config w d job (submit_one w.front (wished b wish))
    by_offer false serves ready unspent = refused config w g d job refusal.Unsupported h
    by_offer true serves ready unspent =
        either config w d job (is_write wish.transfer && w.front.offers.read_only) (Err refusal.ReadOnly, w.front) _ (λ t. refused config w g d job refusal.ReadOnly h) (λ may.
        either config w d job (nat_lt w.front.offers.sectors (wish.sector + named_of wish.transfer wish.count)) (Err refusal.Range, w.front) _ (λ t. refused config w g d job refusal.Range h) (λ on_disk.
        either config w d job (nat_lt (most_segments w.front.offers wish.transfer) (frames_for wish.count)) (Err refusal.Long, w.front) _ (λ t. refused config w g d job refusal.Long h) (λ short.
        either config w d job (nat_le (entries_of w.front.shape.order) (unfinished w.front)) (Err refusal.Full, w.front) _ (λ t. refused config w g d job refusal.Full h) (λ free.
        by_frames (serves refl) ready unspent may on_disk short free (taking (frames_taken wish.count) w.front.pool []) refl))))

-- a read, a write or a barrier moves a sector, and has no more segments than it may; another request moves none
pub moves_some : (offers : Offers) (way : Transfer) (count : ℕ) → is_moving way ≡ true → 1 ≤ count → nat_lt (most_segments offers way) (frames_for count) ≡ false → IsCounted way count
moves_some offers way count moving some short = record { some = λ t. some; none = λ t. cc; few = grind (arith, nat_tests); direct = λ t. grind (arith, nat_tests) }

pub moves_none : (way : Transfer) → is_moving way ≡ false → IsCounted way 0
moves_none way still = record { some = λ t. cc; none = λ t. refl; few = omega arith; direct = λ t. omega arith }

-- a flush or a discard is offered where the disk may be written alone
may_write : (offered fixed : Bool) → offered ≡ not fixed → offered ≡ true → fixed ≡ false
may_write offered fixed e t = grind (arith, nat_tests)

pub submit_kept : (config : Options) (w : World) (g : Flow) (d : Pipeline) (job : Submission) → IsPlain config → Holds config w g d w.front.stage w.back.stage → IsServable job → GoesBy (Some job) IsSame config (lines_at w (Submits job)) (happens w (Submits job)) d
submit_kept config w g d job plain h one = by_job job one (refused_rightly config w g d job plain h one)
  where
    offers : is_ready w.front.stage ≡ true → AreOffered config w.front.offers
    offers ready = offered_is (is_ready w.front.stage) config w.front.offers g.pushed ready h.offered

    by_job : (x : Submission) → IsServable x → SubmitGoes config w d x (submit_of w.front x)
    by_job (Write sector count tag) some = submit_wish config w g d (record { sector = sector; count = count; transfer = transfer.Write tag }) true refl (λ ready t still. absurd (true≢false still)) (moves_some w.front.offers (transfer.Write tag) count refl some.0) some.1 h
    by_job (Read sector count) some = submit_wish config w g d (record { sector = sector; count = count; transfer = transfer.Read }) true refl (λ ready t still. absurd (true≢false still)) (moves_some w.front.offers transfer.Read count refl some) (omega arith) h
    by_job (Barrier sector count tag) some = submit_wish config w g d (record { sector = sector; count = count; transfer = transfer.Barrier tag }) w.front.offers.barrier refl (λ ready t still. absurd (true≢false still)) (moves_some w.front.offers (transfer.Barrier tag) count refl some.0) some.1 h
    by_job Flush some = submit_wish config w g d (record { sector = 0; count = 0; transfer = transfer.Flush }) w.front.offers.flush refl (λ ready t still. may_write w.front.offers.flush config.read_only (offers ready).flush t) (λ short. moves_none transfer.Flush refl) (omega arith) h
    by_job (Discard sector count) some = submit_wish config w g d (record { sector = sector; count = 0; transfer = transfer.Discard count }) w.front.offers.discard refl (λ ready t still. may_write w.front.offers.discard config.read_only (offers ready).discard t) (λ short. moves_none (transfer.Discard count) refl) some h
