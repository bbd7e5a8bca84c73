-- A front closes only after a `closing` line.
use Rattle.std.proofs.Common.{◌≡◌, ◌⊎◌, inl, inr, ◌+◌, ◌*◌, ◌/◌, ◌%◌, ◌^◌, ℕ, Bool, true, false, if◌then◌else◌, List, [], ◌∷◌, length, refl, sym, ◌∙◌}
use Rattle.std.specs.Prelude.{Option, Some, None, Result, Ok, Err, slice_set, nat_lt, ◌==◌}
use Rattle.blk_base.specs.Distance.{distance_of}
use Rattle.blk_base.specs.declared.config.Submission.{Submission}
use Rattle.blk_base.specs.declared.ask.FrontAnswer.{FrontAnswer}
use Rattle.blk_base.specs.declared.ask.FrontAnswer.TheVariants as answer
use Rattle.ring_words.specs.Ring.{responses_of}
use Rattle.blk_layout.specs.declared.response.Response.{Response}
use Rattle.blk_layout.specs.Response.{response_of}
use Rattle.blk_front.specs.declared.stage.FrontStage.{FrontStage}
use Rattle.blk_front.specs.declared.stage.FrontStage.TheVariants as stage
use Rattle.blk_front.specs.declared.stage.Ending.{Ending}
use Rattle.blk_front.specs.declared.request.Request.{Request}
use Rattle.blk_front.specs.declared.request.Transfer.{Transfer}
use Rattle.blk_front.specs.declared.request.Transfer.TheVariants as transfer
use Rattle.blk_front.specs.declared.state.FrontState.{FrontState}
use Rattle.blk_front.specs.declared.state.FrontState.TheVariants as state
use Rattle.blk_front.specs.declared.told.Told.TheVariants as told
use Rattle.blk_front.specs.Request.{has_data, words_in}
use Rattle.blk_front.specs.View.{View, next_request}
use Rattle.blk_front.specs.Step.{at, broken, looked, begun, answered, freed, revokes, granted, loop_step, issued, response_at, is_mapped, ring_left, ended, revoked, sector_told, data_step, left_step, step_at}
use Rattle.blk_front.specs.State.{in_state}
use Rattle.blk_front.specs.Submit.{submit_of}
use Rattle.split_model.specs.Shown.{state_lines}
use Rattle.split_model.proofs.Suspending.{front_kept}
use Rattle.report_laws.specs.States.{says_closing}
use Rattle.report_laws.proofs.Announced.{Has, IsAnnounced}
use Rattle.report_laws.proofs.Submitted.{submit_cases}

-- it closes if and only if the front did before
abbrev Keeps : View → View → Type 0
Keeps v x = x.closing ≡ v.closing

either : (b : Bool) (v x y : View) → Keeps v x → Keeps v y → Keeps v (if b then x else y)
either true v x y p q = p
either false v x y p q = q

looked_keeps : (v : View) (word : ℕ) (otherwise : View) → Keeps v otherwise → Keeps v (looked v word otherwise)
looked_keeps v word otherwise p =
    either (nat_lt (distance_of v.ring.indices.cons v.ring.indices.prod) (distance_of v.ring.indices.cons word)) v (broken word v) (if word == v.ring.indices.cons then otherwise else record v { ring = record v.ring { seen = word }; stage = stage.Loop }) refl
    (either (word == v.ring.indices.cons) v otherwise (record v { ring = record v.ring { seen = word }; stage = stage.Loop }) p refl)

granted_keeps : (v : View) (r : Option Request) (place : ℕ) → Keeps v (granted r place v)
granted_keeps v None place = refl
granted_keeps v (Some r) place = either (nat_lt (place + 1) (length r.frames.items)) v _ _ refl refl

begun_keeps : (v : View) (r : Request) (way : Transfer) → Keeps v (begun v r way)
begun_keeps v r transfer.Read = refl
begun_keeps v r other = refl

loop_keeps : (v : View) (r : Option Request) (a : FrontAnswer) → Keeps v (loop_step v r a)
loop_keeps v (Some r) a = begun_keeps v r r.transfer
loop_keeps v None (answer.Word word) =
    either (responses_of v.ring.indices v.ring.seen == 0) v (looked v word (record v { ring = record v.ring { seen = word }; stage = stage.StoreEvent })) (at (stage.ResponseHigh word) v)
    (looked_keeps v word (record v { ring = record v.ring { seen = word }; stage = stage.StoreEvent }) refl) refl
loop_keeps v None answer.Event = refl
loop_keeps v None a = refl

response_keeps : (v : View) (response : Result Response ℕ) (low : ℕ) (found : Option (ℕ × Request)) → Keeps v (response_at v response low found)
response_keeps v response low None = refl
response_keeps v (Err word) low (Some found) = refl
response_keeps v (Ok response) low (Some found) = either (length found.1.frames.items == 0) v (answered (freed v found.0) found.1 response.status) (revokes (freed v found.0) found.1 response.status) refl refl

revoked_keeps : (v : View) (e : Option Ending) (place : ℕ) → Keeps v (revoked e place v)
revoked_keeps v None place = refl
revoked_keeps v (Some e) place =
    either (nat_lt (place + 1) (length e.request.frames.items)) v (at (stage.GrantRead (place + 1)) v) (ended e v) refl
    (either (has_data e.request.transfer e.status) v _ _ refl refl)

told_keeps : (v : View) (e : Ending) (n : ℕ) (words : List ℕ) → Keeps v (sector_told e n words v)
told_keeps v e n words = either (n % 128 == 127) v (record v { words = words; told = Some (told.Sector e.request.number (n / 128) words) }) (record v { words = words }) refl refl

data_keeps : (v : View) (e : Option Ending) (n word : ℕ) → Keeps v (data_step e n word v)
data_keeps v None n word = refl
data_keeps v (Some e) n word =
    let told : Keeps v (sector_told e n (slice_set v.words (n % 128) word) v) = told_keeps v e n (slice_set v.words (n % 128) word) in
    either (nat_lt (n + 1) (words_in e.request)) v _ _ told told

left_keeps : (v : View) (e : Option Ending) (n word : ℕ) → Keeps v (left_step e n word v)
left_keeps v None n word = refl
left_keeps v (Some e) n word =
    let told : Keeps v (sector_told e n (slice_set v.words (n % 128) word) v) = told_keeps v e n (slice_set v.words (n % 128) word) in
    either (nat_lt (n + 1) (words_in e.request)) v _ _ told told

-- a step of the front leaves whether it closes
pub step_keeps : (s : FrontStage) (v : View) (a : FrontAnswer) → Keeps v (step_at s v a)
step_keeps stage.Loop v a = loop_keeps v (next_request v) a
step_keeps (stage.GrantFlags place) v a = granted_keeps v (next_request v) place
step_keeps (stage.ResponseLast low high) v (answer.Word last) = response_keeps v (response_of (low ∷ high ∷ last ∷ [])) low (issued v (low + high * 2 ^ 32))
step_keeps (stage.GrantRead place) v (answer.Word word) = either (is_mapped word) v (broken word v) (at (stage.GrantEnd place word) v) refl refl
step_keeps (stage.GrantEnd place before) v (answer.Word word) = either (word == before) v (revoked v.ending place v) (broken word v) (revoked_keeps v v.ending place) refl
step_keeps (stage.ReadData n) v (answer.Word word) = data_keeps v v.ending n word
step_keeps (stage.LeftData n) v (answer.Word word) = left_keeps v v.ending n word
step_keeps stage.LookAgain v (answer.Word word) = looked_keeps v word (record v { ring = record v.ring { seen = word; asleep = true }; stage = stage.Loop }) refl
step_keeps (stage.RingRead page) v (answer.Word word) = either (is_mapped word) v (broken word v) (at (stage.RingEnd page word) v) refl refl
step_keeps (stage.RingEnd page before) v (answer.Word word) = either (word == before) v (at (ring_left v page) v) (broken word v) refl refl
step_keeps (stage.RequestEvent old) v (answer.Word event) = refl
step_keeps (stage.ResponseHigh low) v (answer.Word high) = refl
step_keeps s v a = refl

-- and so does a submission
pub submit_keeps : (v : View) (job : Submission) → Keeps v (submit_of v job).1
submit_keeps v job = submit_cases (Keeps v) v refl (λ wish taken. refl) job

-- it begins to close with that line
entered_closing : (s : FrontState) (v : View) → (let x : View = in_state s v in x.closing) ≡ true → v.closing ≡ true ⊎ Has says_closing (state_lines s)
entered_closing state.Closing v t = inr refl
entered_closing other v t = inl t

pub closing_announced : IsAnnounced (λ (v : View). v.closing) says_closing
closing_announced = record {
  step = λ v a t. inl (sym (step_keeps v.stage v a) ∙ t);
  enters = entered_closing;
  submit = λ v job t. sym (submit_keeps v job) ∙ t;
  suspend = λ v t. sym (front_kept v).closing ∙ t;
}
