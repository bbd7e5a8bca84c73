-- What an end, a job or a negotiation does takes no request to an earlier station, so the price of no request rises; and a reply lowers that of its request.
use Rattle.std.proofs.Common.{◌≡◌, ℕ, zero, suc, ◌+◌, ◌≤◌, inl, inr, Bool, true, false, List, [], ◌∷◌, ◌++◌, length, refl, ap, sym, ◌∙◌, subst, arith, length-set}
use Rattle.std.specs.Prelude.{◌||◌, ◌&&◌, nat_lt, if◌then◌else◌, Option, Some, None, slice_get, slice_set}
use Rattle.std.specs.List.{list_any}
use Rattle.std.specs.Option.{option_to_list}
use Rattle.std.proofs.lemmas.Option.{none-some, same_Some, slice_get_within}
use Rattle.std.proofs.lemmas.Bool.{or_parts, true≢false}
use Rattle.std.proofs.lemmas.List.Folds.{list_any-append}
use Rattle.std.proofs.lemmas.List.Sums.{sum_by-cons}
use Rattle.blk_base.specs.declared.config.Submission.{Submission}
use Rattle.blk_base.specs.declared.operation.Status.{Status}
use Rattle.blk_base.specs.declared.operation.Status.TheVariants.{Okay, Error, Unsupported}
use Rattle.schedule_text.specs.declared.line.Line.{Line}
use Rattle.plain_disk.specs.Request.{places_of, is_read}
use Rattle.plain_disk.specs.Step.{is_okay}
use Rattle.pipeline_laws.specs.Station.{Station, Finished, Telling, PipelineRequest}
use Rattle.pipeline_laws.specs.Move.{Move, BeginsEntry, Pushes, BeginsFetch, Fetches, Fills, Reads, Flushes, Trims, Fails, Ends, BeginsResponse, Replies, Takes, Answers, Tells, station_before, station_after, moved, move_lines}
use Rattle.pipeline_laws.specs.Pipeline.{Pipeline, Step, Submits, Refuses, Moves, Connects, StartsToClose, Closes, Leaves, Resumes, Rests, Shows, next, lines_of, after_steps}
use Rattle.pipeline_laws.specs.Allowed.{IsAllowed, AreAllowed}
use Rattle.pipeline_laws.specs.Submissions.{submitted_of}
use Rattle.machine_pipeline.specs.Step.{Does}
use Rattle.machine_pipeline.proofs.Stations.{StandsAt}
use Rattle.machine_pipeline.proofs.Lists.{get_within, set_was, get_set_here}
use Rattle.blk_base.specs.Options.{Options}
use Rattle.split_model.specs.World.{World}
use Rattle.split_model.specs.Happening.{Happening, BackMoves, lines_at}
use Rattle.ring_settle_laws.proofs.Gone.{Gone}
use Rattle.ring_settle_laws.specs.Stations.{station_left, request_left, requests_left, reply_price, is_anew}
use Rattle.ring_settle_laws.proofs.PricesShown.{is_epoch, HasNoEpoch, shown_of_epoch, asks_nothing, asides_no_reply, aside_no_reply}
pub use Rattle.ring_settle_laws.proofs.PricesShown.{IsEndsMove, is_reply}

-- as many requests as before, which ask the same, and none of them costs more
pub record Lowers (before after : List PipelineRequest) : Type 0 where
  pub as_many : length after ≡ length before
  pub each : (k : ℕ) (q r : PipelineRequest) → slice_get before k ≡ Some q → slice_get after k ≡ Some r → request_left r ≤ request_left q
  pub same : (k : ℕ) (q r : PipelineRequest) → slice_get before k ≡ Some q → slice_get after k ≡ Some r → r.submission ≡ q.submission

-- so the sum of prices doesn't rise
pub requests_fall : (xs ys : List PipelineRequest) → Lowers xs ys → requests_left ys ≤ requests_left xs
requests_fall [] [] l = omega arith
requests_fall [] (y ∷ ys) l = absurd (omega (arith, l.as_many))
requests_fall (x ∷ xs) [] l = absurd (omega (arith, l.as_many))
requests_fall (x ∷ xs) (y ∷ ys) l =
    let rest = requests_fall xs ys (record { as_many = omega (arith, l.as_many); each = λ k q r e f. l.each (suc k) q r e f; same = λ k q r e f. l.same (suc k) q r e f }) in
    omega (arith, rest, l.each 0 x y refl refl, sum_by-cons request_left x xs, sum_by-cons request_left y ys)

-- and it falls by what one of them falls
pub request_falls : (k n : ℕ) (xs ys : List PipelineRequest) (q r : PipelineRequest) → Lowers xs ys → slice_get xs k ≡ Some q → slice_get ys k ≡ Some r → request_left r + n ≤ request_left q
    → requests_left ys + n ≤ requests_left xs
request_falls k n [] ys q r l e f falls = absurd (none-some q e)
request_falls k n xs [] q r l e f falls = absurd (none-some r f)
request_falls zero n (x ∷ xs) (y ∷ ys) q r l e f falls =
    let rest = requests_fall xs ys (record { as_many = omega (arith, l.as_many); each = λ k q r e f. l.each (suc k) q r e f; same = λ k q r e f. l.same (suc k) q r e f }) in
    omega (arith, rest, ap request_left (same_Some x q e), ap request_left (same_Some y r f), falls, sum_by-cons request_left x xs, sum_by-cons request_left y ys)
request_falls (suc k) n (x ∷ xs) (y ∷ ys) q r l e f falls =
    let rest = request_falls k n xs ys q r (record { as_many = omega (arith, l.as_many); each = λ k q r e f. l.each (suc k) q r e f; same = λ k q r e f. l.same (suc k) q r e f }) e f falls in
    omega (arith, rest, l.each 0 x y refl refl, sum_by-cons request_left x xs, sum_by-cons request_left y ys)

-- so it does where one of them stood at one station, and stands at another
pub station_falls : (k n : ℕ) (xs ys : List PipelineRequest) (from to : Station) (job : Submission) (x : StandsAt xs k from) → StandsAt ys k to → (let q : PipelineRequest = x.q in q.submission) ≡ job → Lowers xs ys
    → station_left job to + n ≤ station_left job from → requests_left ys + n ≤ requests_left xs
station_falls k n xs ys from to job x y asks l falls =
    let same : (let r : PipelineRequest = y.q in r.submission) ≡ job = l.same k x.q y.q x.at y.at ∙ asks in
    request_falls k n xs ys x.q y.q l x.at y.at (rw (same, asks, x.there, y.there) falls)

none_fall : (xs : List PipelineRequest) → Lowers xs xs
none_fall xs = record { as_many = refl; each = λ k q r e f. omega (arith, ap request_left (same_Some r q (sym f ∙ e))); same = λ k q r e f. ap (λ (x : PipelineRequest). x.submission) (same_Some r q (sym f ∙ e)) }

fall_on : (xs ys zs : List PipelineRequest) → Lowers xs ys → Lowers ys zs → Lowers xs zs
fall_on xs ys zs first second = record {
  as_many = second.as_many ∙ first.as_many;
  each = λ k q r e f.
      let between = get_within ys k (omega (arith, slice_get_within xs k q e, first.as_many)) in
      omega (arith, first.each k q between.0 e between.1, second.each k between.0 r between.1 f);
  same = λ k q r e f.
      let between = get_within ys k (omega (arith, slice_get_within xs k q e, first.as_many)) in
      second.same k between.0 r between.1 f ∙ first.same k q between.0 e between.1;
}

-- a move takes its request to a station that costs no more
answered_left : (b : Bool) (submission : Submission) (status : Status) → station_left submission (if◌then◌else◌ b (Telling 0) (Finished status)) ≡ 0
answered_left true submission status = refl
answered_left false submission status = refl

told_left : (b : Bool) (submission : Submission) (index : ℕ) → station_left submission (if◌then◌else◌ b (Telling index) (Finished Okay)) ≡ 0
told_left true submission index = refl
told_left false submission index = refl

move_lowers : (submission : Submission) (move : Move) → station_left submission (station_after submission move) ≤ station_left submission (station_before submission move)
move_lowers submission (Ends Okay) = omega arith
move_lowers submission (Ends Error) = omega arith
move_lowers submission (Ends Unsupported) = omega arith
move_lowers submission (Answers status) = omega (arith, answered_left (is_read submission && is_okay status) submission status)
move_lowers submission (Tells index words) = omega (arith, told_left (nat_lt (index + 1) (places_of submission)) submission (index + 1))
move_lowers submission other = omega arith

move_falls : (d : Pipeline) (k : ℕ) (x : PipelineRequest) (move : Move) → IsAllowed d (Moves k x move) → Lowers d.requests (slice_set d.requests k (moved x move))
move_falls d k x move allowed = record {
  as_many = length-set d.requests k (moved x move);
  each = λ j q r e f. elim (set_was d.requests k j x (moved x move) r allowed.0.here f) [
    | inl here ↦
        let was : x ≡ q = same_Some x q (sym allowed.0.here ∙ (ap (slice_get d.requests) (sym here.0) ∙ e)) in
        omega (arith, ap request_left here.1, ap request_left was, ap (station_left x.submission) allowed.0.there, move_lowers x.submission move)
    | inr other ↦ omega (arith, ap request_left (same_Some r q (sym other.1 ∙ e)))
  ];
  same = λ j q r e f. elim (set_was d.requests k j x (moved x move) r allowed.0.here f) [
    | inl here ↦
        let was : x ≡ q = same_Some x q (sym allowed.0.here ∙ (ap (slice_get d.requests) (sym here.0) ∙ e)) in
        ap (λ (y : PipelineRequest). y.submission) here.1 ∙ ap (λ (y : PipelineRequest). y.submission) was
    | inr other ↦ ap (λ (y : PipelineRequest). y.submission) (same_Some r q (sym other.1 ∙ e))
  ];
}

step_falls : (s : Step) (d : Pipeline) → is_anew s ≡ false → IsAllowed d s → Lowers d.requests (let p : Pipeline = next d s in p.requests)
step_falls (Submits submission) d old allowed = absurd (true≢false old)
step_falls (Moves k x move) d old allowed = move_falls d k x move allowed
step_falls Resumes d old allowed = absurd (true≢false old)
step_falls other d old allowed = none_fall d.requests

pub never_earlier : (steps : List Step) (d : Pipeline) → list_any is_anew steps ≡ false → AreAllowed steps d → Lowers d.requests (let p : Pipeline = after_steps steps d in p.requests)
never_earlier [] d old allowed = none_fall d.requests
never_earlier (s ∷ steps) d old allowed =
    let both = or_parts (is_anew s) (list_any is_anew steps) old in
    let p : Pipeline = next d s in
    let z : Pipeline = after_steps steps p in
    fall_on d.requests p.requests z.requests (step_falls s d both.0 allowed.0) (never_earlier steps p both.1 allowed.1)

submitted_none : (steps : List Step) (submission : Submission) → (submission ∷ submitted_of steps) ≡ [] → ⊥
submitted_none steps submission e = absurd (omega (arith, ap (λ (jobs : List Submission). length jobs) e))

epoch_later : (first rest : List Line) → list_any is_epoch (first ++ rest) ≡ false → list_any is_epoch rest ≡ false
epoch_later first rest e = (or_parts (list_any is_epoch first) (list_any is_epoch rest) (sym (list_any-append is_epoch first rest) ∙ e)).1

-- so steps that submit nothing and show no new epoch have no request wait anew
not_anew : (steps : List Step) (d : Pipeline) → submitted_of steps ≡ [] → list_any is_epoch (lines_of steps d) ≡ false → list_any is_anew steps ≡ false
not_anew [] d asks shows = refl
not_anew (Submits submission ∷ steps) d asks shows = absurd (submitted_none steps submission asks)
not_anew (Refuses submission refusal ∷ steps) d asks shows = absurd (submitted_none steps submission asks)
not_anew (Moves k x move ∷ steps) d asks shows = not_anew steps (next d (Moves k x move)) asks (epoch_later (move_lines k move) (lines_of steps (next d (Moves k x move))) shows)
not_anew (Connects ∷ steps) d asks shows = not_anew steps (next d Connects) asks shows
not_anew (StartsToClose ∷ steps) d asks shows = not_anew steps (next d StartsToClose) asks shows
not_anew (Closes ∷ steps) d asks shows = not_anew steps (next d Closes) asks shows
not_anew (Leaves why ∷ steps) d asks shows = not_anew steps d asks shows
not_anew (Resumes ∷ steps) d asks shows = absurd (true≢false shows)
not_anew (Rests ∷ steps) d asks shows = not_anew steps d asks shows
not_anew (Shows line ∷ steps) d asks shows = not_anew steps d asks (epoch_later (line ∷ []) (lines_of steps d) shows)

none_anew : {asked : Option Submission} {call : (before after : List (List ℕ)) → Type 0} {shown : List Line} {d : Pipeline} {steps : List Step} → asked ≡ None → HasNoEpoch shown → Does asked call shown d steps → list_any is_anew steps ≡ false
none_anew {d = d} {steps = steps} asks shows does =
    not_anew steps d (does.asks ∙ ap option_to_list asks) (epoch_later does.asides (lines_of steps d) (sym (ap (list_any is_epoch) does.shows) ∙ shows))

-- so none of them raises the price of a request
pub gone_lowers : (config : Options) (w : World) (d : Pipeline) (h : Happening) → IsEndsMove h → (gone : Gone config w d h) → Lowers d.requests (let p : Pipeline = after_steps gone.steps d in p.requests)
gone_lowers config w d h ends gone = never_earlier gone.steps d (none_anew (asks_nothing h ends) (shown_of_epoch w h ends) gone.does) gone.does.allowed

reply_falls : (d : Pipeline) (k : ℕ) (x : PipelineRequest) (status : Status) → IsAllowed d (Moves k x (Replies status)) → requests_left (slice_set d.requests k (moved x (Replies status))) + reply_price ≤ requests_left d.requests
reply_falls d k x status allowed =
    request_falls k reply_price d.requests (slice_set d.requests k (moved x (Replies status))) x (moved x (Replies status)) (move_falls d k x (Replies status) allowed) allowed.0.here
    (get_set_here d.requests k x (moved x (Replies status)) allowed.0.here) (omega (arith, ap (station_left x.submission) allowed.0.there))

-- steps that show a reply lower the sum of prices by that of a reply
replies_fall : (steps : List Step) (d : Pipeline) → list_any is_anew steps ≡ false → AreAllowed steps d → list_any is_reply (lines_of steps d) ≡ true → requests_left (let p : Pipeline = after_steps steps d in p.requests) + reply_price ≤ requests_left d.requests
replies_fall [] d old allowed shows = absurd (true≢false (sym shows))
replies_fall (Submits submission ∷ steps) d old allowed shows = absurd (true≢false old)
replies_fall (Refuses submission refusal ∷ steps) d old allowed shows = replies_fall steps d old allowed.1 shows
replies_fall (Moves k x (Replies status) ∷ steps) d old allowed shows =
    let p : Pipeline = next d (Moves k x (Replies status)) in
    let z : Pipeline = after_steps steps p in
    omega (arith, reply_falls d k x status allowed.0, requests_fall p.requests z.requests (never_earlier steps p old allowed.1))
replies_fall (Moves k x move ∷ steps) d old allowed shows =
    let p : Pipeline = next d (Moves k x move) in
    omega (arith, requests_fall d.requests p.requests (move_falls d k x move allowed.0), replies_fall steps p old allowed.1 shows)
replies_fall (Connects ∷ steps) d old allowed shows = replies_fall steps (next d Connects) old allowed.1 shows
replies_fall (StartsToClose ∷ steps) d old allowed shows = replies_fall steps (next d StartsToClose) old allowed.1 shows
replies_fall (Closes ∷ steps) d old allowed shows = replies_fall steps (next d Closes) old allowed.1 shows
replies_fall (Leaves why ∷ steps) d old allowed shows = replies_fall steps d old allowed.1 shows
replies_fall (Resumes ∷ steps) d old allowed shows = absurd (true≢false old)
replies_fall (Rests ∷ steps) d old allowed shows = replies_fall steps d old allowed.1 shows
replies_fall (Shows line ∷ steps) d old allowed shows =
    replies_fall steps d old allowed.1 (subst (λ (b : Bool). (b || list_any is_reply (lines_of steps d)) ≡ true) (aside_no_reply line allowed.0) shows)

-- what the back does that shows a reply
pub reply_lowers : (config : Options) (w : World) (d : Pipeline) (gone : Gone config w d BackMoves) → list_any is_reply (lines_at w BackMoves) ≡ true → requests_left (let p : Pipeline = after_steps gone.steps d in p.requests) + reply_price ≤ requests_left d.requests
reply_lowers config w d gone shows =
    let does = gone.does in
    replies_fall gone.steps d (none_anew refl (shown_of_epoch w BackMoves tt) does) does.allowed
    (subst (λ (b : Bool). (b || list_any is_reply (lines_of gone.steps d)) ≡ true) (asides_no_reply does.asides does.aside)
    (sym (list_any-append is_reply does.asides (lines_of gone.steps d)) ∙ (sym (ap (list_any is_reply) does.shows) ∙ shows)))

-- so what is left to the requests doesn't rise
pub requests_never_rise : (steps : List Step) (d : Pipeline) → list_any is_anew steps ≡ false → AreAllowed steps d → (let p : Pipeline = after_steps steps d in requests_left p.requests ≤ requests_left d.requests)
requests_never_rise steps d old allowed =
    let p : Pipeline = after_steps steps d in
    requests_fall d.requests p.requests (never_earlier steps d old allowed)
