-- The front takes a response: what all that holds becomes.
use Rattle.std.proofs.lemmas.List.Sums.{count_by-le-length}
use Rattle.std.proofs.Common.{◌≡◌, ◌≢◌, ℕ, suc, ◌+◌, ◌-◌, ◌*◌, ◌^◌, ◌<◌, ◌≤◌, ◌==◌, inl, inr, if◌then◌else◌, Bool, List, [], ◌∷◌, length, take, drop, refl, ap, sym, ◌∙◌, subst, arith, true≢false, true, false}
use Rattle.std.specs.Prelude.{Option, Some, None, slice_get, remove, Result, Ok}
use Rattle.std.proofs.lemmas.Option.{none-some, same_Some, slice_get_within}
use Rattle.std.proofs.lemmas.List.Edits.{length-remove}
use Rattle.std.proofs.lemmas.Bool.{eqb-false, eqb-true, cases_Bool, cases_lt}
use Rattle.std.proofs.lemmas.Bool.Decides.{nat_tests}
use Rattle.blk_base.specs.Options.{Options}
use Rattle.blk_base.specs.declared.ask.FrontAnswer.TheVariants as answer
use Rattle.blk_base.specs.declared.moves.Move.TheVariants as moves
use Rattle.blk_base.specs.declared.parts.Mapping.{Mapping}
use Rattle.schedule_text.specs.declared.line.Line.TheVariants as lines
use Rattle.grant_table.specs.Table.{entry_word0}
use Rattle.pipeline_laws.specs.Pipeline.{Pipeline, next}
use Rattle.xen_pages.specs.Pages.{word_of}
use Rattle.blk_layout.specs.declared.response.Response.{Response}
use Rattle.blk_layout.specs.Response.{response_of}
use Rattle.blk_front.specs.declared.request.Request.{Request}
use Rattle.blk_base.specs.declared.moves.Move.{Move as Shown}
use Rattle.blk_base.specs.declared.operation.Status.{Status}
use Rattle.blk_front.specs.declared.request.Transfer.{Transfer}
use Rattle.blk_front.specs.declared.request.Transfer.TheVariants as transfer
use Rattle.blk_front.specs.Request.{is_moving, has_data, flags_at, frame_at, IsShaped}
use Rattle.blk_front.specs.declared.stage.Ending.{Ending}
use Rattle.blk_front.specs.declared.stage.FrontStage.{FrontStage}
use Rattle.blk_front.specs.declared.stage.FrontStage.TheVariants as front
use Rattle.blk_front.specs.View.{View, slot_frame, slot_word, next_request}
use Rattle.blk_front.specs.Step.{freed, revokes, answered, taken, step_at, response_at, issued}
use Rattle.back_jobs.specs.Work.{Work}
use Rattle.back_jobs.specs.Jobs.{mapping_at}
use Rattle.blk_back.specs.declared.stage.Reply.{Reply}
use Rattle.blk_back.specs.Ask.{response_word}
use Rattle.split_model.specs.World.{World}
use Rattle.split_model.specs.Shown.{front_lines}
use Rattle.machine_pipeline.proofs.Flow.{uses, Flow, wrapped, ending_at, telling_at, is_issuing, is_fetching, is_front_arming, is_bound_back, reply_at, worked, frames_of}
use Rattle.machine_pipeline.proofs.Holds.{Holds, FrontAt, IsOffered, ArePooled, IsSubmitted, IsEnding, IsReply, IsTaken, IsFilled, IsGranted, AreRevoked, PortsAt, flags_with, AreIndices, slot_of}
use Rattle.machine_pipeline.proofs.HoldsWorks.{IsWork}
use Rattle.machine_pipeline.proofs.Kept.{as_connected, awake_front}
use Rattle.pipeline_laws.specs.Station.{Replied}
use Rattle.machine_pipeline.proofs.Turns.{Goes, FrontGoes, Stepped, does_step, does_after, goes_by}
use Rattle.machine_pipeline.proofs.Lists.{all_at, all_from, pair_at}
use Rattle.machine_pipeline.proofs.Removals.{taken_has}
use Rattle.machine_pipeline.proofs.Series.{IsAmong}
use Rattle.machine_pipeline.proofs.Wrapped.{next_wrapped}
use Rattle.machine_pipeline.proofs.Frames.{is_submitted, unmapped}
use Rattle.machine_pipeline.proofs.Resting.{is_resting, resting, data_rests}
use Rattle.machine_pipeline.proofs.Issuing.{ring_turned, idle_turned, back_sleep_turned}
use Rattle.machine_pipeline.proofs.Resuming.{response_read}
use Rattle.machine_pipeline.proofs.Finding.{IsFound, finds, read_back, first_two, response_for}
use Rattle.machine_pipeline.proofs.Taking.{sum_removed, all_without, queued_without, pooled_without, replies_without, dropped}
use Rattle.machine_pipeline.proofs.Stations.{AreStations, apart, worked_kind}
use Rattle.machine_pipeline.proofs.StationsFront.{takes, answers, unread}
use Rattle.machine_pipeline.specs.Step.{IsSame}
use Rattle.blk_front.specs.Submit.{is_ready, ending_of}

-- the machine once the oldest response was taken, with the front at that stage and with that ending request
abbrev freed_at : World → (place : ℕ) → FrontStage → Option Ending → World
freed_at w place s ending = record { front = (let v : View = freed w.front place in record v { stage = s; ending = ending; told = None }); back = w.back; under = w.under }

-- and what passes through the ring
abbrev taken_flow : Flow → Flow
taken_flow g = record g { taken = g.taken + 1; replies = drop 1 g.replies }

-- what holds goes on holding
freed_holds : (config : Options) (w : World) (g : Flow) (d d' : Pipeline) (low high : ℕ) (rep : Reply) (s : FrontStage) (ending : Option Ending)
    → is_resting s ≡ true → telling_at s ≡ None → is_front_arming s ≡ false → ending_of s ≤ 1
    → Holds config w g d (front.ResponseLast low high) w.back.stage
    → slice_get g.replies 0 ≡ Some rep
    → g.taken < g.front_seen
    → (f : IsFound w g rep.id)
    → ArePooled w.front.pool (remove w.front.requests f.place) (ending_at s ending)
    → AreStations config (taken_flow g) d' (is_ready s) (is_issuing s) (is_fetching w.back.stage) (ending_at s ending) (telling_at s) (reply_at w.back.stage) (remove w.front.requests f.place) w.back.jobs.works w.under.pages
    → (let v : View = freed w.front f.place in FrontAt g.shape g.start g.pushed (g.taken + 1) g.front_seen g.submitted (drop 1 g.replies) (next_request v) w.front.ring.entry ending s)
    → AreRevoked w.under.pages s ending
    → Holds config (freed_at w f.place s ending) (taken_flow g) d' s w.back.stage
freed_holds config w g d d' low high rep s ending t untold unarmed few h oldest seen f pooled stations at revoked =
    let i = resting s t in
    let kept = idle_turned h w.under.pages s ending i.unissued (λ n x from to in_it after. refl) (λ n x lt k l. refl) (λ n x lt a in_it. record { flags = refl; frame = refl }) revoked in
    assumption (
      indices_taken,
      queued_without g.submitted w.front.requests g.pushed w.front.waiting f.place f.r f.here f.early h.queue,
      replies_without g.fetched g.taken g.replied g.replies rep oldest h.replies,
      subst (λ (b : Bool). IsOffered b config w.front.offers g.pushed) (sym i.ready) h.offered,
      ring_turned h w.under.pages s refl i.ready (λ x other lt. refl) (λ page lt. record { flags = refl; frame = refl }),
      responses_left,
      kept.0,
      all_without (IsFilled g.series g.pushed w.under.pages s) w.front.requests f.place kept.1,
      data_rests w.under.pages w.under.pages w.front.words w.front.ending ending (front.ResponseLast low high) s untold h.telling,
      all_without (IsGranted g.series g.pushed w.under.pages w.under.grants.live s) w.front.requests f.place (let entries = kept.2 in entries.each),
      awake_front g.start (g.taken + 1) g.replied w.under.pages w.front.ring.asleep w.under.channels.front_pending s w.back.stage (h.front_sleep.may refl) unarmed,
      back_sleep_turned h w.under.pages s w.under.channels.back_pending refl refl (λ asleep sends. absurd sends),
      subst (λ (b : Bool). PortsAt g.before b (is_bound_back w.back.stage) w.under.channels.made w.under.channels.ports) (as_connected (front.ResponseLast low high) s refl i.ready) h.ports,
    )
  where
    within : f.place < length w.front.requests
    within = slice_get_within w.front.requests f.place f.r f.here

    responses_left : (k : ℕ) (x : Reply) → slice_get (drop 1 g.replies) k ≡ Some x → (j : ℕ) → j < 3 → slot_of w.under.pages g.shape (wrapped g.start (g.taken + 1 + k)) j ≡ response_word x j
    responses_left k x at j lt = ap (λ (n : ℕ). slot_of w.under.pages g.shape (wrapped g.start n) j) (omega arith) ∙ h.slots.responses (suc k) x (sym (dropped g.replies k) ∙ at) j lt

    indices_taken : (let x : View = freed w.front f.place in AreIndices (taken_flow g) x.ring.indices w.back.ring.indices x.ring.seen w.back.ring.seen w.back.fetched x.last x.waiting (length x.requests) (ending_of s))
    indices_taken = let less = length-remove w.front.requests f.place within in let taken = next_wrapped g.start g.taken w.front.ring.indices.cons h.indices.taken in omega (arith, h.indices, seen)

-- the request of the response is a submitted one, and no response that is left names it
ending_taken : (config : Options) (w : World) (g : Flow) (d : Pipeline) (s : FrontStage) (rep : Reply) → Holds config w g d s w.back.stage → slice_get g.replies 0 ≡ Some rep → (f : IsFound w g rep.id)
    → IsEnding g.submitted (drop 1 g.replies) (record { request = f.r; status = rep.status })
ending_taken config w g d s rep h oldest f = record {
  known = all_at (λ (x : Request). slice_get g.submitted (x.number - 1) ≡ Some x) w.front.requests f.place f.r h.queue.known f.here;
  positive = (let number = f.number in let positive = (all_at (IsReply g.series g.fetched) g.replies 0 rep h.replies.each oldest).positive in omega arith);
  alone = all_from (λ (x : Reply). x.id ≢ f.r.number) (drop 1 g.replies) (λ i x at.
      let apart = pair_at (λ (a b : Reply). a.id ≢ b.id) g.replies 0 (suc i) rep x h.replies.distinct (omega arith) oldest (sym (dropped g.replies i) ∙ at) in
      λ same. apart (sym (same ∙ f.number)));
}

-- and none of its frames is mapped any more
flags_left : (config : Options) (w : World) (g : Flow) (d : Pipeline) (s : FrontStage) (rep : Reply) → Holds config w g d s w.back.stage → slice_get g.replies 0 ≡ Some rep → (f : IsFound w g rep.id)
    → (place : ℕ) → place < frames_of f.r → entry_word0 w.under.pages (frame_at f.r place + 6) ≡ flags_at f.r place
flags_left config w g d s rep h oldest f place lt =
    let none = unmapped config w g d s w.back.stage h f.place f.r f.here place lt no_job
    (λ (m : Mapping). m.gref == frame_at f.r place + 6) (λ m apart. grind (arith, nat_tests)) in
    granted.flags reached place lt ∙ ap (flags_with f.r place) none
  where
    granted : IsGranted g.series g.pushed w.under.pages w.under.grants.live s f.r
    granted = let entries = h.entries in all_at (IsGranted g.series g.pushed w.under.pages w.under.grants.live s) w.front.requests f.place f.r entries.each f.here

    no_job : (i : ℕ) (t : Work) → slice_get w.back.jobs.works i ≡ Some t → t.id ≡ f.r.number → mapping_at t.stage ≡ None
    no_job i t at same =
        let work = all_at (IsWork g.submitted g.series g.fetched) w.back.jobs.works i t h.works.each at in
        absurd (apart d.requests (t.id - 1) (rep.id - 1) (worked t.stage t.moved) (Replied rep.status) (h.stations.works i t at) (h.stations.replied 0 rep oldest) (omega (arith, worked_kind t.stage t.moved)) (omega (arith, f.number, same, work.positive)))

    reached : IsAmong g.series g.pushed f.r
    reached =
        let queue = h.queue in
        all_at (IsAmong g.series g.pushed) (take (length w.front.requests - w.front.waiting) w.front.requests) f.place f.r queue.issued (taken_has (length w.front.requests - w.front.waiting) w.front.requests f.place f.r f.here f.early)

-- a request without frames moves no sector
still_of : (r : Request) → IsShaped r → frames_of r ≡ 0 → is_moving r.transfer ≡ false
still_of r shaped bare = elim (cases_Bool (is_moving r.transfer)) [ inl t ↦ absurd (omega (arith, shaped.counted.some t, shaped.frames)) | inr f ↦ f ]

-- and has no data that are told
dataless : (way : Transfer) (status : Status) → is_moving way ≡ false → has_data way status ≡ false
dataless transfer.Read status still = absurd (true≢false still)
dataless way status still = refl

-- the pool has nothing of it
pooled_bare : (pool : List Bool) (requests : List Request) (place : ℕ) (r : Request) → slice_get requests place ≡ Some r → frames_of r ≡ 0
    → ArePooled pool requests None → ArePooled pool (remove requests place) None
pooled_bare pool requests place r here bare h = record {
  size = h.size;
  each = λ f lt. omega (arith, h.each f lt, sum_removed (uses (18 + f)) requests place r here, count_by-le-length (λ (x : ℕ). x == 18 + f) r.frames.items, bare);
  used = omega (arith, h.used, sum_removed frames_of requests place r here, bare);
}

-- the last word of the oldest response is read, and the response taken: its grants are ended next, or it has none and is answered
pub last_goes : (config : Options) (w : World) (g : Flow) (d : Pipeline) (low high : ℕ)
    → w.front.told ≡ None
    → Holds config w g d (front.ResponseLast low high) w.back.stage
    → FrontGoes config w d (front.ResponseLast low high)
last_goes config w g d low high told h =
    subst Becomes (sym stepped) (by_frames (frames_of found.r == 0) refl)
  where
    place : (t : IsTaken g.taken g.front_seen g.replies) × (low ≡ response_word t.rep 0) × (high ≡ response_word t.rep 1)
    place = h.front_at

    rep : Reply
    rep = place.0.rep

    last : ℕ
    last = word_of w.under.pages (slot_frame w.front.shape w.front.ring.indices.cons 2) (slot_word w.front.shape w.front.ring.indices.cons 2)

    shown : Shown
    shown = moves.FrontRead (slot_frame w.front.shape w.front.ring.indices.cons 2) (slot_word w.front.shape w.front.ring.indices.cons 2) last

    Becomes : View → Type 0
    Becomes x = Goes config (lines.Move shown ∷ front_lines x.told) (record { front = record x { told = None }; back = w.back; under = w.under }) d

    is : IsReply g.series g.fetched rep
    is = let replies = h.replies in all_at (IsReply g.series g.fetched) g.replies 0 rep replies.each place.0.oldest

    found : IsFound w g rep.id
    found = finds config w g d (front.ResponseLast low high) rep h refl is (h.stations.replied 0 rep place.0.oldest)

    e : Ending
    e = record { request = found.r; status = rep.status }

    -- no other one of the front's requests has its number
    others_apart : (i : ℕ) (y : Request) → i ≢ found.place → slice_get w.front.requests i ≡ Some y → y.number - 1 ≢ rep.id - 1
    others_apart i y other at same =
        let queue = h.queue in
        let its = is_submitted config w g d (front.ResponseLast low high) w.back.stage h i y at in
        elim (cases_lt i found.place) [
          | inl before ↦ (let up = pair_at (λ (a b : Request). a.number < b.number) w.front.requests i found.place y found.r queue.ascending before at found.here in omega (arith, up, found.number, its.number, is.positive))
          | inr after ↦ (let up = pair_at (λ (a b : Request). a.number < b.number) w.front.requests found.place i found.r y queue.ascending (omega arith) found.here at in omega (arith, up, found.number, its.number, is.positive))
        ]

    s : Stepped None IsSame d [] (λ p. AreStations config (taken_flow g) p true false (is_fetching w.back.stage) (Some e) None (reply_at w.back.stage) (remove w.front.requests found.place) w.back.jobs.works w.under.pages)
    s = takes config g d true false (is_fetching w.back.stage) (reply_at w.back.stage) w.front.requests w.back.jobs.works w.under.pages found.place found.r rep e place.0.oldest found.here (sym found.number) refl others_apart h.replies h.stations

    read : response_of (low ∷ high ∷ last ∷ []) ≡ Ok (response_for rep)
    read = read_back rep low high last is.op place.1 place.2 (response_read config w g d (front.ResponseLast low high) rep 2 h place.0.oldest (omega arith))

    looked_up : issued w.front (low + high * 2 ^ 32) ≡ Some (found.place, found.r)
    looked_up = ap (issued w.front) (first_two low high last (response_for rep) read) ∙ found.found

    stepped : step_at (front.ResponseLast low high) w.front (answer.Word last) ≡ taken w.front found.place found.r rep.status
    stepped = ap (λ (x : Result Response ℕ). response_at w.front x low (issued w.front (low + high * 2 ^ 32))) read ∙ ap (response_at w.front (Ok (response_for rep)) low) looked_up

    ends : IsEnding g.submitted (drop 1 g.replies) e
    ends = ending_taken config w g d (front.ResponseLast low high) rep h place.0.oldest found

    its : IsSubmitted config.sectors (found.r.number - 1) found.r
    its = let submitted = h.submitted in submitted.each (found.r.number - 1) found.r ends.known

    by_frames : (b : Bool) → (frames_of found.r == 0) ≡ b → Becomes (if b then answered (freed w.front found.place) found.r rep.status else revokes (freed w.front found.place) found.r rep.status)
    by_frames true t = goes_by {g = taken_flow g} (does_after shown (lines.Answer found.r.number rep.status ∷ []) refl s tells)
        (freed_holds config w g d (next (next d s.step) tells.step) low high rep front.Loop w.front.ending refl refl refl (omega arith) h place.0.oldest place.0.seen found
        (pooled_bare w.front.pool w.front.requests found.place found.r found.here (eqb-true (frames_of found.r) 0 t) h.pool) tells.now tt (λ x same. absurd (none-some x same)))
      where
        tells : Stepped None IsSame (next d s.step) (lines.Answer found.r.number rep.status ∷ []) (λ p. AreStations config (taken_flow g) p true false (is_fetching w.back.stage) None None (reply_at w.back.stage) (remove w.front.requests found.place) w.back.jobs.works w.under.pages)
        tells = answers config (taken_flow g) (next d s.step) true false (is_fetching w.back.stage) (reply_at w.back.stage) (remove w.front.requests found.place) w.back.jobs.works w.under.pages e None ends.known ends.positive
            (unread found.r.transfer found.r.sector found.r.count rep.status (dataless found.r.transfer rep.status (still_of found.r its.shaped (eqb-true (frames_of found.r) 0 t)))) (λ x. cc) s.now
    by_frames false t = goes_by {g = taken_flow g} (does_step shown (front_lines w.front.told) (rw told refl) s)
        (freed_holds config w g d (next d s.step) low high rep (front.GrantRead 0) (Some e) refl refl refl (omega arith) h place.0.oldest place.0.seen found
        (pooled_without w.front.pool w.front.requests found.place found.r e found.here refl h.pool) s.now (e, refl, ends, (let other = eqb-false (frames_of found.r) 0 t in omega arith))
        (λ x same. subst (λ (y : Ending). (place : ℕ) → 0 ≤ place → place < frames_of y.request
        → entry_word0 w.under.pages (frame_at y.request place + 6) ≡ flags_at y.request place) (same_Some e x same)
        (λ at le lt. flags_left config w g d (front.ResponseLast low high) rep h place.0.oldest found at lt)))
