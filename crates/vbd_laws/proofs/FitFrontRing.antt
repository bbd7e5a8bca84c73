-- What a move leaves of the front's end of the ring: a connected one stays so or breaks, and none begins to close or has more requests, the unfinished ones counted too.
use Rattle.std.proofs.Common.{◌≡◌, ℕ, ◌+◌, ◌*◌, ◌/◌, ◌%◌, ◌^◌, ◌<◌, ◌≤◌, ◌||◌, Bool, true, false, true≢false, if◌then◌else◌, List, [], ◌∷◌, length, refl, sym, ap, ◌∙◌, subst, arith}
use Rattle.std.proofs.lemmas.Option.{none-some, same_Some, slice_get_within}
use Rattle.std.proofs.lemmas.Bool.Decides.{nat_tests}
use Rattle.std.specs.Prelude.{Option, Some, None, Result, Ok, Err, nat_lt, slice_get, ◌==◌}
use Rattle.std.specs.Option.{option_map}
use Rattle.std.proofs.lemmas.List.Edits.{length-remove}
use Rattle.blk_base.specs.Distance.{distance_of}
use Rattle.blk_base.specs.declared.ask.FrontAnswer.{FrontAnswer}
use Rattle.blk_base.specs.declared.ask.FrontAnswer.TheVariants as answer
use Rattle.ring_words.specs.Ring.{responses_of, notifies}
use Rattle.ring_words.specs.Shape.{entry_words_of}
use Rattle.blk_layout.specs.declared.response.Response.{Response}
use Rattle.blk_layout.specs.Response.{response_of}
use Rattle.blk_front.specs.declared.stage.FrontStage.{FrontStage}
use Rattle.blk_front.specs.declared.stage.FrontStage.TheVariants as stage
use Rattle.blk_front.specs.declared.stage.Ending.{Ending}
use Rattle.blk_front.specs.declared.request.Request.{Request}
use Rattle.blk_front.specs.declared.request.Transfer.{Transfer}
use Rattle.blk_front.specs.declared.request.Transfer.TheVariants as transfer
use Rattle.blk_front.specs.Request.{has_data, words_in, is_indirect, naming_words}
use Rattle.blk_front.specs.View.{View, next_request}
use Rattle.blk_front.specs.Step.{at, broken, looked, begun, after_data, data_stage, page_stage, granted, loop_step, found_at, issued, response_at, is_mapped, ended, revoked, ring_granted, ring_left, sector_told, data_step, left_step, step_at, step_of}
use Rattle.blk_front.specs.declared.told.Told.TheVariants as told
use Rattle.blk_front.specs.Ask.{is_through}
use Rattle.blk_front.specs.Submit.{is_ready, ending_of, unfinished}
use Rattle.vbd_front.specs.View.{is_broken as is_broken_ring}
use Rattle.line_text.proofs.Both.{both_true}

-- it is connected, or broken
abbrev pub is_up : FrontStage → Bool
is_up s = is_ready s || is_broken_ring s

-- what a move from a stage leaves
abbrev Steps : FrontStage → View → View → Type 0
Steps s v x =
    (x.closing ≡ v.closing) × (length v.requests ≡ 0 → length x.requests ≡ 0) × (is_up s ≡ true → is_up x.stage ≡ true)
    × (length x.requests + ending_of x.stage ≤ length v.requests + ending_of s)

either : (b : Bool) (s : FrontStage) (v x y : View) → Steps s v x → Steps s v y → Steps s v (if b then x else y)
either true s v x y p q = p
either false s v x y p q = q

-- a stage of a connected front at which no request is ending
abbrev IsOn : FrontStage → Type 0
IsOn s = (is_up s ≡ true) × (ending_of s ≡ 0)

either_on : (b : Bool) (x y : FrontStage) → IsOn x → IsOn y → IsOn (if b then x else y)
either_on true x y p q = p
either_on false x y p q = q

-- one at which none is ending
either_none : (b : Bool) (x y : FrontStage) → ending_of x ≡ 0 → ending_of y ≡ 0 → ending_of (if b then x else y) ≡ 0
either_none true x y p q = p
either_none false x y p q = q

stays : (s : FrontStage) (v : View) → v.stage ≡ s → Steps s v v
stays s v here = (refl, λ none. none, λ up. ap is_up here ∙ up, let same = ap ending_of here in omega arith)

-- it goes to a stage of a connected front
goes_to : (s : FrontStage) (v : View) (next : FrontStage) → IsOn next → Steps s v (at next v)
goes_to s v next on = (refl, λ none. none, λ was. on.0, let none = on.1 in omega arith)

broken_steps : (s : FrontStage) (v : View) (word : ℕ) → Steps s v (broken word v)
broken_steps s v word = (refl, λ none. none, λ up. refl, omega arith)

-- it goes on to be made, or to be left
makes : (s : FrontStage) (v : View) (next : FrontStage) → is_up s ≡ false → ending_of next ≡ 0 → Steps s v (at next v)
makes s v next before ends = (refl, λ none. none, λ up. absurd (true≢false (sym up ∙ before)), omega arith)

looked_steps : (s : FrontStage) (v : View) (word : ℕ) (otherwise : View) → Steps s v otherwise → Steps s v (looked v word otherwise)
looked_steps s v word otherwise h =
    either (nat_lt (distance_of v.ring.indices.cons v.ring.indices.prod) (distance_of v.ring.indices.cons word)) s v (broken word v) (if word == v.ring.indices.cons then otherwise else record v { ring = record v.ring { seen = word }; stage = stage.Loop }) (broken_steps s v word)
    (either (word == v.ring.indices.cons) s v otherwise (record v { ring = record v.ring { seen = word }; stage = stage.Loop }) h (refl, λ none. none, λ up. refl, omega arith))

begun_steps : (v : View) (r : Request) (way : Transfer) → Steps stage.Loop v (begun v r way)
begun_steps v r transfer.Read = goes_to stage.Loop v (if is_indirect r.count then stage.Pages 1 else stage.GrantFence 0) (either_on (is_indirect r.count) (stage.Pages 1) (stage.GrantFence 0) (refl, refl) (refl, refl))
begun_steps v r other = (refl, λ none. none, λ up. refl, omega arith)

data_stage_on : (r : Option Request) (n : ℕ) → IsOn (data_stage r n)
data_stage_on None n = (refl, refl)
data_stage_on (Some r) n =
    either_on (nat_lt (n + 1) (words_in r)) (stage.Data (n + 1)) (after_data r) (refl, refl) (either_on (is_indirect r.count) (stage.Pages 0) (stage.GrantFrame 0) (refl, refl) (refl, refl))

page_stage_on : (r : Option Request) (n : ℕ) → IsOn (page_stage r n)
page_stage_on None n = (refl, refl)
page_stage_on (Some r) n = either_on (nat_lt (n + 1) (naming_words r)) (stage.Pages (n + 1)) (stage.GrantFrame 0) (refl, refl) (refl, refl)

granted_steps : (v : View) (r : Option Request) (place : ℕ) → v.stage ≡ stage.GrantFlags place → Steps (stage.GrantFlags place) v (granted r place v)
granted_steps v None place here = stays (stage.GrantFlags place) v here
granted_steps v (Some r) place here =
    either (nat_lt (place + 1) (length r.frames.items)) (stage.GrantFlags place) v _ _ (refl, λ none. none, λ up. refl, omega arith) (refl, λ none. none, λ up. refl, omega arith)

loop_steps : (v : View) (r : Option Request) (x : FrontAnswer) → v.stage ≡ stage.Loop → Steps stage.Loop v (loop_step v r x)
loop_steps v (Some r) x here = begun_steps v r r.transfer
loop_steps v None (answer.Word word) here =
    either (responses_of v.ring.indices v.ring.seen == 0) stage.Loop v (looked v word (record v { ring = record v.ring { seen = word }; stage = stage.StoreEvent })) (at (stage.ResponseHigh word) v)
    (looked_steps stage.Loop v word (record v { ring = record v.ring { seen = word }; stage = stage.StoreEvent }) (refl, λ none. none, λ up. refl, omega arith)) (refl, λ none. none, λ up. refl, omega arith)
loop_steps v None answer.Event here = (refl, λ none. none, λ up. ap is_up here, let same = ap ending_of here in omega arith)
loop_steps v None x here = stays stage.Loop v here

-- a request is taken out of those that there are
found_within : (requests : List Request) (place : Option ℕ) (found : ℕ × Request) → found_at requests place ≡ Some found → found.0 < length requests
found_within requests None found e = absurd (none-some found e)
found_within requests (Some place) found e = by_place (slice_get requests place) refl e
  where
    by_place : (x : Option Request) → slice_get requests place ≡ x → option_map (λ r. (place, r)) x ≡ Some found → found.0 < length requests
    by_place None s same = absurd (none-some found same)
    by_place (Some r) s same =
        let whole : (place, r) ≡ found = same_Some (place, r) found same in
        subst (λ (f : ℕ × Request). f.0 < length requests) whole (slice_get_within requests place r s)

response_steps : (s : FrontStage) (v : View) (response : Result Response ℕ) (low : ℕ) (found : Option (ℕ × Request)) → ((f : ℕ × Request) → found ≡ Some f → f.0 < length v.requests) → Steps s v (response_at v response low found)
response_steps s v response low None within = broken_steps s v low
response_steps s v (Err word) low (Some found) within = broken_steps s v word
response_steps s v (Ok response) low (Some found) within =
    let less : found.0 < length v.requests = within found refl in
    let shorter = length-remove v.requests found.0 less in
    either (length found.1.frames.items == 0) s v _ _ (refl, λ none. absurd (omega arith), λ up. refl, omega arith) (refl, λ none. absurd (omega arith), λ up. refl, omega arith)

ended_steps : (place before : ℕ) (v : View) (e : Ending) → Steps (stage.GrantEnd place before) v (ended e v)
ended_steps place before v e =
    either (has_data e.request.transfer e.status) (stage.GrantEnd place before) v _ _ (refl, λ none. none, λ up. refl, omega arith) (refl, λ none. none, λ up. refl, omega arith)

revoked_steps : (v : View) (e : Option Ending) (place before : ℕ) → v.stage ≡ stage.GrantEnd place before → Steps (stage.GrantEnd place before) v (revoked e place v)
revoked_steps v None place before here = stays (stage.GrantEnd place before) v here
revoked_steps v (Some e) place before here =
    either (nat_lt (place + 1) (length e.request.frames.items)) (stage.GrantEnd place before) v _ _ (refl, λ none. none, λ up. refl, omega arith) (ended_steps place before v e)

-- what is told of a sector leaves the rest
told_steps : (s next : FrontStage) (v : View) (e : Ending) (n : ℕ) (words : List ℕ) → (is_up s ≡ true → is_up next ≡ true) → ending_of next ≤ ending_of s → Steps s v (at next (sector_told e n words v))
told_steps s next v e n words up ends = by_last (n % 128 == 127)
  where
    by_last : (b : Bool) → Steps s v (at next (if b then record v { words = words; told = Some (told.Sector e.request.number (n / 128) words) } else record v { words = words }))
    by_last true = (refl, λ none. none, up, omega arith)
    by_last false = (refl, λ none. none, up, omega arith)

data_steps : (v : View) (e : Option Ending) (n word : ℕ) → v.stage ≡ stage.ReadData n → Steps (stage.ReadData n) v (data_step e n word v)
data_steps v None n word here = stays (stage.ReadData n) v here
data_steps v (Some e) n word here =
    either (nat_lt (n + 1) (words_in e.request)) (stage.ReadData n) v _ _ (told_steps (stage.ReadData n) (stage.ReadData (n + 1)) v e n _ (λ up. refl) (omega arith))
    (told_steps (stage.ReadData n) stage.Loop v e n _ (λ up. refl) (omega arith))

-- data that were left after a suspend
left_steps : (v : View) (e : Option Ending) (n word : ℕ) → v.stage ≡ stage.LeftData n → Steps (stage.LeftData n) v (left_step e n word v)
left_steps v None n word here = stays (stage.LeftData n) v here
left_steps v (Some e) n word here =
    either (nat_lt (n + 1) (words_in e.request)) (stage.LeftData n) v _ _ (told_steps (stage.LeftData n) (stage.LeftData (n + 1)) v e n _ (λ up. up) (omega arith))
    (told_steps (stage.LeftData n) (stage.RingWord 0) v e n _ (λ up. up) (omega arith))

steps_at : (s : FrontStage) (v : View) (x : FrontAnswer) → v.stage ≡ s → Steps s v (step_at s v x)
steps_at (stage.RingWord k) v x here =
    makes (stage.RingWord k) v (if k == 15 then stage.RingFrame 0 else stage.RingWord (k + 1)) refl (either_none (k == 15) (stage.RingFrame 0) (stage.RingWord (k + 1)) refl refl)
steps_at (stage.RingFrame page) v x here = makes (stage.RingFrame page) v (stage.RingFence page) refl refl
steps_at (stage.RingFence page) v x here = makes (stage.RingFence page) v (stage.RingFlags page) refl refl
steps_at (stage.RingFlags page) v x here =
    makes (stage.RingFlags page) v (ring_granted v page) refl (either_none (nat_lt (page + 1) (2 ^ v.shape.order)) (stage.RingFrame (page + 1)) stage.NewPort refl refl)
steps_at stage.NewPort v x here = makes stage.NewPort v stage.Initialised refl refl
steps_at stage.Loop v x here = loop_steps v (next_request v) x here
steps_at (stage.Data n) v x here = goes_to (stage.Data n) v (data_stage (next_request v) n) (data_stage_on (next_request v) n)
steps_at (stage.Pages n) v x here = goes_to (stage.Pages n) v (page_stage (next_request v) n) (page_stage_on (next_request v) n)
steps_at (stage.GrantFrame place) v x here = (refl, λ none. none, λ up. refl, omega arith)
steps_at (stage.GrantFence place) v x here = (refl, λ none. none, λ up. refl, omega arith)
steps_at (stage.GrantFlags place) v x here = granted_steps v (next_request v) place here
steps_at (stage.Slot k) v x here =
    let last = k + 1 == entry_words_of v.shape.abi in
    goes_to (stage.Slot k) v (if last then stage.Producer else stage.Slot (k + 1)) (either_on last stage.Producer (stage.Slot (k + 1)) (refl, refl) (refl, refl))
steps_at stage.Producer v x here = (refl, λ none. none, λ up. refl, omega arith)
steps_at (stage.ProducerFence old) v x here = (refl, λ none. none, λ up. refl, omega arith)
steps_at (stage.RequestEvent old) v (answer.Word event) here =
    goes_to (stage.RequestEvent old) v (if notifies old v.ring.indices.prod event then stage.Send else stage.Loop) (either_on (notifies old v.ring.indices.prod event) stage.Send stage.Loop (refl, refl) (refl, refl))
steps_at stage.Send v x here = (refl, λ none. none, λ up. refl, omega arith)
steps_at (stage.ResponseHigh low) v (answer.Word high) here = (refl, λ none. none, λ up. refl, omega arith)
steps_at (stage.ResponseLast low high) v (answer.Word last) here =
    response_steps (stage.ResponseLast low high) v (response_of (low ∷ high ∷ last ∷ [])) low (issued v (low + high * 2 ^ 32)) (λ f e. found_within v.requests _ f e)
steps_at (stage.GrantRead place) v (answer.Word word) here =
    either (is_mapped word) (stage.GrantRead place) v (broken word v) (at (stage.GrantEnd place word) v) (broken_steps (stage.GrantRead place) v word) (refl, λ none. none, λ up. refl, omega arith)
steps_at (stage.GrantEnd place before) v (answer.Word word) here =
    either (word == before) (stage.GrantEnd place before) v (revoked v.ending place v) (broken word v) (revoked_steps v v.ending place before here) (broken_steps (stage.GrantEnd place before) v word)
steps_at (stage.ReadData n) v (answer.Word word) here = data_steps v v.ending n word here
steps_at (stage.LeftData n) v (answer.Word word) here = left_steps v v.ending n word here
steps_at stage.StoreEvent v x here = (refl, λ none. none, λ up. refl, omega arith)
steps_at stage.EventFence v x here = (refl, λ none. none, λ up. refl, omega arith)
steps_at stage.LookAgain v (answer.Word word) here = looked_steps stage.LookAgain v word (record v { ring = record v.ring { seen = word; asleep = true }; stage = stage.Loop }) (refl, λ none. none, λ up. refl, omega arith)
steps_at (stage.RingRead page) v (answer.Word word) here =
    either (is_mapped word) (stage.RingRead page) v (broken word v) (at (stage.RingEnd page word) v) (broken_steps (stage.RingRead page) v word) (makes (stage.RingRead page) v (stage.RingEnd page word) refl refl)
steps_at (stage.RingEnd page before) v (answer.Word word) here =
    either (word == before) (stage.RingEnd page before) v (at (ring_left v page) v) (broken word v)
    (makes (stage.RingEnd page before) v (ring_left v page) refl (either_none (nat_lt (page + 1) (2 ^ v.shape.order)) (stage.RingRead (page + 1)) stage.ClosePort refl refl))
    (broken_steps (stage.RingEnd page before) v word)
steps_at stage.ClosePort v x here = makes stage.ClosePort v stage.Left refl refl
steps_at s v x here = stays s v here

-- a connected front stays so or breaks, whatever it is told
pub up_step : (v : View) (x : FrontAnswer) → is_up v.stage ≡ true → is_up (step_of v x).stage ≡ true
up_step v x up = (steps_at v.stage v x refl).2 up

pub closing_step : (v : View) (x : FrontAnswer) → (step_of v x).closing ≡ v.closing
closing_step v x = (steps_at v.stage v x refl).0

-- no more requests are unfinished
pub unfinished_step : (v : View) (x : FrontAnswer) → unfinished (step_of v x) ≤ unfinished v
unfinished_step v x = (steps_at v.stage v x refl).3

-- a front without requests has none after a move either
pub none_step : (v : View) (x : FrontAnswer) → length v.requests ≡ 0 → length (step_of v x).requests ≡ 0
none_step v x = (steps_at v.stage v x refl).1

-- so a closing one
pub through_step : (v : View) (x : FrontAnswer) → is_through v ≡ true → is_through (step_of v x) ≡ true
through_step v x is =
    let steps = steps_at v.stage v x refl in
    let both = both_true v.closing (length v.requests == 0) is in
    let none = steps.1 (let zero = both.1 in grind (arith, nat_tests)) in
    rw (steps.0, none, both.0) refl

-- and one that is broken stays so
pub broken_step : (v : View) (x : FrontAnswer) → is_broken_ring v.stage ≡ true → is_broken_ring (step_of v x).stage ≡ true
broken_step v x is = by_stage v.stage refl is
  where
    by_stage : (s : FrontStage) → v.stage ≡ s → is_broken_ring s ≡ true → is_broken_ring (step_at s v x).stage ≡ true
    by_stage (stage.Broken word) here is = ap is_broken_ring here
    by_stage s here is = absurd (true≢false (sym is))
