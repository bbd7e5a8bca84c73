-- The front owes no more requests than its ring has entries, and no more sectors than the frames of its pool hold, whatever it is told.
use Rattle.std.proofs.Common.{◌≡◌, ℕ, zero, suc, ◌+◌, ◌-◌, ◌*◌, ◌/◌, ◌%◌, ◌^◌, ◌<◌, ◌≤◌, ◌&&◌, Bool, true, false, not, if◌then◌else◌, cond, List, [], ◌∷◌, ◌++◌, length, refl, sym, ap, ◌∙◌, subst, arith, length-append, length-set}
use Rattle.std.specs.Prelude.{All, IfSome, Option, Some, None, Result, Ok, Err, nat_lt, nat_le, ◌==◌, slice_get, slice_set, drop, take, position, count_by, sum_by, option_and_then, option_map}
use Rattle.std.proofs.lemmas.Bool.Decides.{nat_tests}
use Rattle.std.proofs.lemmas.List.Edits.{length-remove}
use Rattle.std.proofs.lemmas.List.Elements.{All-append, All-take, All-drop, All-get_or, All-push}
use Rattle.std.proofs.lemmas.List.Quantifiers.{position-Some}
use Rattle.std.proofs.lemmas.List.Sums.{sum_by-cons, sum_by-remove, sum_by_push, count_by-le-length}
use Rattle.std.proofs.lemmas.Option.{none-some, same_Some, slice_get_within, get_or_from_slice_get, slice_get-get_or}
use Rattle.blk_base.specs.Distance.{distance_of}
use Rattle.blk_base.specs.declared.config.Submission.{Submission}
use Rattle.blk_base.specs.declared.operation.Status.{Status}
use Rattle.blk_base.specs.declared.ask.FrontAnswer.{FrontAnswer}
use Rattle.blk_base.specs.declared.ask.FrontAnswer.TheVariants as answer
use Rattle.ring_words.specs.Ring.{responses_of, notifies}
use Rattle.ring_words.specs.Shape.{entries_of, entry_words_of}
use Rattle.blk_layout.specs.declared.response.Response.{Response}
use Rattle.blk_layout.specs.Response.{response_of}
use Rattle.blk_front.specs.declared.stage.FrontStage.{FrontStage}
use Rattle.blk_front.specs.declared.stage.FrontStage.TheVariants as stage
use Rattle.blk_front.specs.declared.stage.Ending.{Ending}
use Rattle.blk_front.specs.declared.request.Request.{Request}
use Rattle.blk_front.specs.declared.request.Transfer.{Transfer}
use Rattle.blk_front.specs.declared.request.Transfer.TheVariants as transfer
use Rattle.blk_front.specs.declared.request.Wish.{Wish}
use Rattle.blk_front.specs.declared.state.FrontState.{FrontState}
use Rattle.blk_front.specs.declared.state.FrontState.TheVariants as state
use Rattle.blk_base.specs.declared.refusal.Refusal.{Refusal}
use Rattle.blk_base.specs.declared.refusal.Refusal.TheVariants as refusal
use Rattle.blk_front.specs.declared.told.Told.TheVariants as told
use Rattle.blk_front.specs.Pool.{taking, with_taken, with_free, with_all_free}
use Rattle.blk_front.specs.Request.{is_write, named_of, has_data, words_in, frames_for, pages_for, is_indirect, naming_words}
use Rattle.blk_front.specs.View.{View, next_request}
use Rattle.blk_front.specs.Step.{at, broken, ring_granted, ring_left, looked, begun, after_data, data_stage, page_stage, granted, loop_step, found_at, issued, taken, response_at, is_mapped, finished, ended, revoked, sector_told, data_step, left_step, step_at, step_of}
use Rattle.blk_front.specs.State.{in_state, enters}
use Rattle.blk_front.specs.Suspend.{by_number, with_ending, requests_after, ending_after, suspended}
use Rattle.blk_front.proofs.Order.{after_fits, after_all, after_ending}
use Rattle.blk_front.specs.Submit.{is_ready, ending_of, ending_sectors, sectors_owed, unfinished, wish_of, request_with, most_segments, frames_taken, submit_with, submit_one, submit_of}
use Rattle.split_model.proofs.States.{enters_cases}
use Rattle.split_model.proofs.Suspending.{front_cases}
use Rattle.split_model.proofs.Shapes.{front_shape, entered_order, few_entries}

-- a request has at most eight sectors in each of its frames
abbrev pub frames_of : Request → ℕ
frames_of r = length r.frames.items

abbrev pub ending_frames : Option Ending → ℕ
ending_frames None = 0
ending_frames (Some e) = frames_of e.request

abbrev pub IsShort : Request → Type 0
IsShort r = r.count ≤ 8 * frames_of r

abbrev pub IsShortEnding : Option Ending → Type 0
IsShortEnding ending = IfSome ending (λ (e : Ending). IsShort e.request)

-- so many frames of the pool are in use
abbrev pub in_use : List Bool → ℕ
in_use pool = count_by (λ (b : Bool). b) pool

-- with the one that is ending there are at most 512, as many as a ring of 16 pages has entries; and their frames are in use, of the 1000 that there are
pub record IsModest (v : View) : Type 0 where
  pub order : v.shape.order ≤ 4
  pub room : length v.requests + ending_of v.stage ≤ 512
  pub short : All IsShort v.requests
  pub ending : IsShortEnding v.ending
  pub size : length v.pool ≡ 1000
  pub used : sum_by frames_of v.requests + ending_frames v.ending ≤ in_use v.pool

-- a step leaves the requests, no more than n are ending, and of the frames only those of an ending one are given back
abbrev Owed : ℕ → View → View → Type 0
Owed n v x =
    (x.requests ≡ v.requests) × (IsShortEnding v.ending → IsShortEnding x.ending) × (ending_of x.stage ≤ n) × (length x.pool ≡ length v.pool)
    × (in_use v.pool + ending_frames x.ending ≤ in_use x.pool + ending_frames v.ending)

-- frames that are given back: each is one at most
one_free : (pool : List Bool) (i : ℕ) → in_use pool ≤ in_use (slice_set pool i false) + 1
one_free [] i = omega arith
one_free (true ∷ pool) zero =
    let was = sum_by-cons (λ (b : Bool). cond b 1 0) true pool in
    let now = sum_by-cons (λ (b : Bool). cond b 1 0) false pool in
    omega arith
one_free (false ∷ pool) zero =
    let was = sum_by-cons (λ (b : Bool). cond b 1 0) false pool in
    omega arith
one_free (b ∷ pool) (suc i) =
    let was = sum_by-cons (λ (b : Bool). cond b 1 0) b pool in
    let now = sum_by-cons (λ (b : Bool). cond b 1 0) b (slice_set pool i false) in
    let rest = one_free pool i in
    omega arith

all_free : (frames : List ℕ) (pool : List Bool) → (length (with_all_free pool frames) ≡ length pool) × (in_use pool ≤ in_use (with_all_free pool frames) + length frames)
all_free [] pool = (refl, omega arith)
all_free (frame ∷ frames) pool =
    let rest = all_free frames (with_free pool frame) in
    let one = one_free pool (frame - 18) in
    let size = length-set pool (frame - 18) false in
    (rest.0 ∙ size, let few = rest.1 in omega arith)

-- frames that are taken: each was free
one_taken : (pool : List Bool) (i : ℕ) → slice_get pool i ≡ Some false → in_use (slice_set pool i true) ≡ in_use pool + 1
one_taken [] i e = absurd (none-some false e)
one_taken (b ∷ pool) zero e =
    let was = sum_by-cons (λ (c : Bool). cond c 1 0) b pool in
    let now = sum_by-cons (λ (c : Bool). cond c 1 0) true pool in
    let free : ◌≡◌ {A = ℕ} (cond b 1 0) 0 = rw (same_Some b false e) refl in
    omega arith
one_taken (b ∷ pool) (suc i) e =
    let was = sum_by-cons (λ (c : Bool). cond c 1 0) b pool in
    let now = sum_by-cons (λ (c : Bool). cond c 1 0) b (slice_set pool i true) in
    let rest = one_taken pool i e in
    omega arith

free_at : (pool : List Bool) (i : ℕ) → position not pool ≡ Some i → slice_get pool i ≡ Some false
free_at [] i e = absurd (none-some i e)
free_at (b ∷ pool) i e =
    let found = position-Some not (b ∷ pool) i true e in
    slice_get-get_or (b ∷ pool) i true found.0 ∙ ap Some (is_false _ found.1)
  where
    is_false : (c : Bool) → not c ≡ true → c ≡ false
    is_false true t = cc
    is_false false t = refl

-- so many more are in use then
record AreTaken (n : ℕ) (pool : List Bool) (frames : List ℕ) (taken : List ℕ × List Bool) : Type 0 where
  counted : length taken.0 ≡ length frames + n
  size : length taken.1 ≡ length pool
  used : in_use taken.1 ≡ in_use pool + n

are_taken : (n : ℕ) (pool : List Bool) (frames : List ℕ) (taken : List ℕ × List Bool) → taking n pool frames ≡ Some taken → AreTaken n pool frames taken
are_taken zero pool frames taken e =
    subst (AreTaken 0 pool frames) (same_Some (frames, pool) taken e) (record { counted = omega arith; size = refl; used = omega arith })
are_taken (suc n) pool frames taken e = by_place (position not pool) refl e (λ place f. are_taken n (with_taken pool (18 + place)) (frames ++ (18 + place) ∷ []) taken f)
  where
    back_to : (n : ℕ) → 18 + n - 18 ≡ n
    back_to n = omega arith

    by_place : (o : Option ℕ) → position not pool ≡ o
        → option_and_then (λ (frame : ℕ). taking n (with_taken pool frame) (frames ++ frame ∷ [])) (option_map (λ (place : ℕ). 18 + place) o) ≡ Some taken
        → ((place : ℕ) → taking n (with_taken pool (18 + place)) (frames ++ (18 + place) ∷ []) ≡ Some taken → AreTaken n (with_taken pool (18 + place)) (frames ++ (18 + place) ∷ []) taken)
        → AreTaken (suc n) pool frames taken
    by_place None at f next = absurd (none-some taken f)
    by_place (Some place) at f next =
        let rest = next place f in
        let counted = rest.counted in
        let size = rest.size in
        let used = rest.used in
        let one = one_taken pool (18 + place - 18) (ap (slice_get pool) (back_to place) ∙ free_at pool place at) in
        let same = length-set pool (18 + place - 18) true in
        let longer = length-append frames ((18 + place) ∷ []) in
        record { counted = omega (arith, longer); size = size ∙ same; used = omega (arith, one) }

either : (b : Bool) (n : ℕ) (v x y : View) → Owed n v x → Owed n v y → Owed n v (if b then x else y)
either true n v x y p q = p
either false n v x y p q = q

either_stage : (b : Bool) (x y : FrontStage) (n : ℕ) → ending_of x ≤ n → ending_of y ≤ n → ending_of (if b then x else y) ≤ n
either_stage true x y n p q = p
either_stage false x y n p q = q

-- only its stage is another one
goes_to : (n : ℕ) (v : View) (s : FrontStage) → ending_of s ≤ n → Owed n v (at s v)
goes_to n v s le = (refl, λ short. short, le, refl, omega arith)

stays : (s : FrontStage) (v : View) → v.stage ≡ s → Owed (ending_of s) v v
stays s v here = (refl, λ short. short, rw here (omega arith), refl, omega arith)

looked_owed : (n : ℕ) (v : View) (word : ℕ) (otherwise : View) → Owed n v otherwise → Owed n v (looked v word otherwise)
looked_owed n v word otherwise h =
    either (nat_lt (distance_of v.ring.indices.cons v.ring.indices.prod) (distance_of v.ring.indices.cons word)) n v (broken word v) (if word == v.ring.indices.cons then otherwise else record v { ring = record v.ring { seen = word }; stage = stage.Loop })
    (refl, λ short. short, omega arith, refl, omega arith)
    (either (word == v.ring.indices.cons) n v otherwise (record v { ring = record v.ring { seen = word }; stage = stage.Loop }) h (refl, λ short. short, omega arith, refl, omega arith))

begun_owed : (v : View) (r : Request) (way : Transfer) → Owed 0 v (begun v r way)
begun_owed v r transfer.Read = goes_to 0 v (if is_indirect r.count then stage.Pages 1 else stage.GrantFence 0) (either_stage (is_indirect r.count) (stage.Pages 1) (stage.GrantFence 0) 0 (omega arith) (omega arith))
begun_owed v r (transfer.Write tag) = goes_to 0 v (stage.Data 1) (omega arith)
begun_owed v r (transfer.Barrier tag) = goes_to 0 v (stage.Data 1) (omega arith)
begun_owed v r transfer.Flush = (refl, λ short. short, omega arith, refl, omega arith)
begun_owed v r (transfer.Discard sectors) = (refl, λ short. short, omega arith, refl, omega arith)

data_stage_owed : (r : Option Request) (n : ℕ) → ending_of (data_stage r n) ≤ 0
data_stage_owed None n = omega arith
data_stage_owed (Some r) n =
    either_stage (nat_lt (n + 1) (words_in r)) (stage.Data (n + 1)) (after_data r) 0 (omega arith) (either_stage (is_indirect r.count) (stage.Pages 0) (stage.GrantFrame 0) 0 (omega arith) (omega arith))

page_stage_owed : (r : Option Request) (n : ℕ) → ending_of (page_stage r n) ≤ 0
page_stage_owed None n = omega arith
page_stage_owed (Some r) n = either_stage (nat_lt (n + 1) (naming_words r)) (stage.Pages (n + 1)) (stage.GrantFrame 0) 0 (omega arith) (omega arith)

granted_owed : (v : View) (r : Option Request) (place : ℕ) → v.stage ≡ stage.GrantFlags place → Owed 0 v (granted r place v)
granted_owed v None place here = stays (stage.GrantFlags place) v here
granted_owed v (Some r) place here = either (nat_lt (place + 1) (length r.frames.items)) 0 v _ _ (refl, λ short. short, omega arith, refl, omega arith) (refl, λ short. short, omega arith, refl, omega arith)

loop_owed : (v : View) (r : Option Request) (x : FrontAnswer) → v.stage ≡ stage.Loop → Owed 0 v (loop_step v r x)
loop_owed v (Some r) x here = begun_owed v r r.transfer
loop_owed v None (answer.Word word) here =
    either (responses_of v.ring.indices v.ring.seen == 0) 0 v (looked v word (record v { ring = record v.ring { seen = word }; stage = stage.StoreEvent })) (at (stage.ResponseHigh word) v)
    (looked_owed 0 v word (record v { ring = record v.ring { seen = word }; stage = stage.StoreEvent }) (refl, λ short. short, omega arith, refl, omega arith)) (goes_to 0 v (stage.ResponseHigh word) (omega arith))
loop_owed v None answer.Event here = (refl, λ short. short, rw here (omega arith), refl, omega arith)
loop_owed v None x here = stays stage.Loop v here

-- a request is finished, and its frames are given back
finished_owed : (v : View) (e : Ending) → v.ending ≡ Some e → Owed 1 v (record (finished e v) { told = Some (told.Answer e.request.number e.status) })
finished_owed v e same =
    let free = all_free e.request.frames.items v.pool in
    let its = ap ending_frames same in
    let few = free.1 in
    (refl, λ short. tt, omega arith, free.0, omega arith)

ended_owed : (v : View) (e : Ending) → v.ending ≡ Some e → Owed 1 v (ended e v)
ended_owed v e same = either (has_data e.request.transfer e.status) 1 v _ _ (refl, λ short. short, omega arith, refl, omega arith) (finished_owed v e same)

revoked_owed : (v : View) (e : Option Ending) (place before : ℕ) → v.stage ≡ stage.GrantEnd place before → v.ending ≡ e → Owed 1 v (revoked e place v)
revoked_owed v None place before here same = stays (stage.GrantEnd place before) v here
revoked_owed v (Some e) place before here same =
    either (nat_lt (place + 1) (length e.request.frames.items)) 1 v _ _ (goes_to 1 v (stage.GrantRead (place + 1)) (omega arith)) (ended_owed v e same)

-- what is told of a sector leaves the rest
told_requests : (v : View) (e : Ending) (n : ℕ) (words : List ℕ) → (sector_told e n words v).requests ≡ v.requests
told_requests v e n words = by_last (n % 128 == 127)
  where
    by_last : (b : Bool) → (if b then record v { words = words; told = Some (told.Sector e.request.number (n / 128) words) } else record v { words = words }).requests ≡ v.requests
    by_last true = refl
    by_last false = refl

told_ending : (v : View) (e : Ending) (n : ℕ) (words : List ℕ) → (sector_told e n words v).ending ≡ v.ending
told_ending v e n words = by_last (n % 128 == 127)
  where
    by_last : (b : Bool) → (if b then record v { words = words; told = Some (told.Sector e.request.number (n / 128) words) } else record v { words = words }).ending ≡ v.ending
    by_last true = refl
    by_last false = refl

told_pool : (v : View) (e : Ending) (n : ℕ) (words : List ℕ) → (sector_told e n words v).pool ≡ v.pool
told_pool v e n words = by_last (n % 128 == 127)
  where
    by_last : (b : Bool) → (if b then record v { words = words; told = Some (told.Sector e.request.number (n / 128) words) } else record v { words = words }).pool ≡ v.pool
    by_last true = refl
    by_last false = refl

-- a word of its data was read: the next one is, or its frames are given back
told_on : (v : View) (e : Ending) (n word : ℕ) (to : FrontStage) → ending_of to ≤ 1 → Owed 1 v (at to (sector_told e n (slice_set v.words (n % 128) word) v))
told_on v e n word to le =
    let words = slice_set v.words (n % 128) word in
    let requests = told_requests v e n words in
    let ending = told_ending v e n words in
    let pool = told_pool v e n words in
    let used = ap in_use pool in
    let still = ap ending_frames ending in
    (requests, λ short. subst IsShortEnding (sym ending) short, le, ap length pool, omega arith)

told_whole : (v : View) (e : Ending) (n word : ℕ) (to : FrontStage) → ending_of to ≤ 1 → v.ending ≡ Some e → Owed 1 v (at to (finished e (sector_told e n (slice_set v.words (n % 128) word) v)))
told_whole v e n word to le same =
    let words = slice_set v.words (n % 128) word in
    let x = sector_told e n words v in
    let pool = told_pool v e n words in
    let used = ap in_use pool in
    let its = ap ending_frames same in
    let free = all_free e.request.frames.items x.pool in
    let few = free.1 in
    (told_requests v e n words, λ short. tt, le, free.0 ∙ ap length pool, omega arith)

data_owed : (v : View) (e : Option Ending) (n word : ℕ) → v.stage ≡ stage.ReadData n → v.ending ≡ e → Owed 1 v (data_step e n word v)
data_owed v None n word here same = stays (stage.ReadData n) v here
data_owed v (Some e) n word here same =
    let x = sector_told e n (slice_set v.words (n % 128) word) v in
    either (nat_lt (n + 1) (words_in e.request)) 1 v (at (stage.ReadData (n + 1)) x) (finished e x)
    (told_on v e n word (stage.ReadData (n + 1)) (omega arith)) (told_whole v e n word stage.Loop (omega arith) same)

-- so are data that are in hand after a suspend
left_owed : (v : View) (e : Option Ending) (n word : ℕ) → v.stage ≡ stage.LeftData n → v.ending ≡ e → Owed 1 v (left_step e n word v)
left_owed v None n word here same = stays (stage.LeftData n) v here
left_owed v (Some e) n word here same =
    let x = sector_told e n (slice_set v.words (n % 128) word) v in
    either (nat_lt (n + 1) (words_in e.request)) 1 v (at (stage.LeftData (n + 1)) x) (at (stage.RingWord 0) (finished e x))
    (told_on v e n word (stage.LeftData (n + 1)) (omega arith)) (told_whole v e n word (stage.RingWord 0) (omega arith) same)

-- the next page of the ring is granted, or its grant ended
granted_ring_owed : (v : View) (page : ℕ) → ending_of (ring_granted v page) ≤ 0
granted_ring_owed v page = either_stage (nat_lt (page + 1) (2 ^ v.shape.order)) (stage.RingFrame (page + 1)) stage.NewPort 0 (omega arith) (omega arith)

left_ring_owed : (v : View) (page : ℕ) → ending_of (ring_left v page) ≤ 0
left_ring_owed v page = either_stage (nat_lt (page + 1) (2 ^ v.shape.order)) (stage.RingRead (page + 1)) stage.ClosePort 0 (omega arith) (omega arith)

-- a step that takes no response
step_owed : (s : FrontStage) (v : View) (x : FrontAnswer) → v.stage ≡ s → ((low high last : ℕ) → s ≡ stage.ResponseLast low high → x ≡ answer.Word last → ⊥) → Owed (ending_of s) v (step_at s v x)
step_owed (stage.RingWord k) v x here takes = (refl, λ short. short, either_stage (k == 15) (stage.RingFrame 0) (stage.RingWord (k + 1)) 0 (omega arith) (omega arith), refl, omega arith)
step_owed (stage.RingFrame page) v x here takes = goes_to 0 v (stage.RingFence page) (omega arith)
step_owed (stage.RingFence page) v x here takes = goes_to 0 v (stage.RingFlags page) (omega arith)
step_owed (stage.RingFlags page) v x here takes = goes_to 0 v (ring_granted v page) (granted_ring_owed v page)
step_owed stage.NewPort v x here takes = (refl, λ short. short, omega arith, refl, omega arith)
step_owed stage.Loop v x here takes = loop_owed v (next_request v) x here
step_owed (stage.Data n) v x here takes = goes_to 0 v (data_stage (next_request v) n) (data_stage_owed (next_request v) n)
step_owed (stage.Pages n) v x here takes = goes_to 0 v (page_stage (next_request v) n) (page_stage_owed (next_request v) n)
step_owed (stage.GrantFrame place) v x here takes = goes_to 0 v (stage.GrantFence place) (omega arith)
step_owed (stage.GrantFence place) v x here takes = goes_to 0 v (stage.GrantFlags place) (omega arith)
step_owed (stage.GrantFlags place) v x here takes = granted_owed v (next_request v) place here
step_owed (stage.Slot k) v x here takes = (refl, λ short. short, either_stage (k + 1 == entry_words_of v.shape.abi) stage.Producer (stage.Slot (k + 1)) 0 (omega arith) (omega arith), refl, omega arith)
step_owed stage.Producer v x here takes = (refl, λ short. short, omega arith, refl, omega arith)
step_owed (stage.ProducerFence old) v x here takes = goes_to 0 v (stage.RequestEvent old) (omega arith)
step_owed (stage.RequestEvent old) v (answer.Word event) here takes = (refl, λ short. short, either_stage (notifies old v.ring.indices.prod event) stage.Send stage.Loop 0 (omega arith) (omega arith), refl, omega arith)
step_owed stage.Send v x here takes = goes_to 0 v stage.Loop (omega arith)
step_owed (stage.ResponseHigh low) v (answer.Word high) here takes = goes_to 0 v (stage.ResponseLast low high) (omega arith)
step_owed (stage.ResponseLast low high) v (answer.Word last) here takes = absurd (takes low high last refl refl)
step_owed (stage.GrantRead place) v (answer.Word word) here takes =
    either (is_mapped word) 1 v (broken word v) (at (stage.GrantEnd place word) v) (refl, λ short. short, omega arith, refl, omega arith) (goes_to 1 v (stage.GrantEnd place word) (omega arith))
step_owed (stage.GrantEnd place before) v (answer.Word word) here takes =
    either (word == before) 1 v (revoked v.ending place v) (broken word v) (revoked_owed v v.ending place before here refl) (refl, λ short. short, omega arith, refl, omega arith)
step_owed (stage.ReadData n) v (answer.Word word) here takes = data_owed v v.ending n word here refl
step_owed (stage.LeftData n) v (answer.Word word) here takes = left_owed v v.ending n word here refl
step_owed stage.StoreEvent v x here takes = goes_to 0 v stage.EventFence (omega arith)
step_owed stage.EventFence v x here takes = goes_to 0 v stage.LookAgain (omega arith)
step_owed stage.LookAgain v (answer.Word word) here takes = looked_owed 0 v word (record v { ring = record v.ring { seen = word; asleep = true }; stage = stage.Loop }) (refl, λ short. short, omega arith, refl, omega arith)
step_owed (stage.RingRead page) v (answer.Word word) here takes =
    either (is_mapped word) 0 v (broken word v) (at (stage.RingEnd page word) v) (refl, λ short. short, omega arith, refl, omega arith) (goes_to 0 v (stage.RingEnd page word) (omega arith))
step_owed (stage.RingEnd page before) v (answer.Word word) here takes =
    either (word == before) 0 v (at (ring_left v page) v) (broken word v) (goes_to 0 v (ring_left v page) (left_ring_owed v page)) (refl, λ short. short, omega arith, refl, omega arith)
step_owed stage.ClosePort v x here takes = goes_to 0 v stage.Left (omega arith)
step_owed s v x here takes = stays s v here

owed_modest : (n : ℕ) (v x : View) → n ≤ ending_of v.stage → x.shape.order ≤ v.shape.order → Owed n v x → IsModest v → IsModest x
owed_modest n v x le narrow o m = record {
  order = let order = m.order in omega arith;
  room = let room = m.room in let stage = o.2 in subst (λ (rs : List Request). length rs + ending_of x.stage ≤ 512) (sym o.0) (omega arith);
  short = subst (All IsShort) (sym o.0) m.short;
  ending = o.1 m.ending;
  size = o.3 ∙ m.size;
  used = let same = ap (sum_by frames_of) o.0 in let was = m.used in let now = o.4 in omega arith;
}

-- a response takes a request out of the queue, and makes it the one that is ending
found_in : (requests : List Request) (place : Option ℕ) (found : ℕ × Request) → found_at requests place ≡ Some found → slice_get requests found.0 ≡ Some found.1
found_in requests None found e = absurd (none-some found e)
found_in requests (Some place) found e = by_place (slice_get requests place) refl e
  where
    by_place : (x : Option Request) → slice_get requests place ≡ x → option_map (λ r. (place, r)) x ≡ Some found → slice_get requests found.0 ≡ Some found.1
    by_place None s same = absurd (none-some found same)
    by_place (Some r) s same = let whole : (place, r) ≡ found = same_Some (place, r) found same in subst (λ (f : ℕ × Request). slice_get requests f.0 ≡ Some f.1) whole s

either_modest : (b : Bool) (x y : View) → IsModest x → IsModest y → IsModest (if b then x else y)
either_modest true x y p q = p
either_modest false x y p q = q

taken_modest : (v : View) (place : ℕ) (r : Request) (status : Status) → slice_get v.requests place ≡ Some r → IsModest v → IsModest (taken v place r status)
taken_modest v place r status here m =
    let within : place < length v.requests = slice_get_within v.requests place r here in
    let shorter = length-remove v.requests place within in
    let room = m.room in
    let same = get_or_from_slice_get v.requests place r r here in
    let rest = All-append IsShort (take place v.requests) (drop (suc place) v.requests) (All-take IsShort place v.requests m.short) (All-drop IsShort (suc place) v.requests m.short) in
    let one = subst IsShort same (All-get_or IsShort v.requests place r within m.short) in
    let fewer = sum_by-remove frames_of v.requests place r within in
    let its = ap frames_of same in
    let used = m.used in
    either_modest (length r.frames.items == 0) _ _
    (record { order = m.order; room = omega arith; short = rest; ending = m.ending; size = m.size; used = omega arith })
    (record { order = m.order; room = omega arith; short = rest; ending = one; size = m.size; used = omega arith })

response_modest : (v : View) (response : Result Response ℕ) (low : ℕ) (found : Option (ℕ × Request)) → ((f : ℕ × Request) → found ≡ Some f → slice_get v.requests f.0 ≡ Some f.1) → IsModest v → IsModest (response_at v response low found)
response_modest v response low None is m = owed_modest 0 v (broken low v) (omega arith) (omega arith) (refl, λ short. short, omega arith, refl, omega arith) m
response_modest v (Err word) low (Some found) is m = owed_modest 0 v (broken word v) (omega arith) (omega arith) (refl, λ short. short, omega arith, refl, omega arith) m
response_modest v (Ok response) low (Some found) is m = taken_modest v found.0 found.1 response.status (is found refl) m

-- whatever the front is told
pub step_modest : (v : View) (x : FrontAnswer) → IsModest v → IsModest (step_of v x)
step_modest v x m = by_stage v.stage x refl
  where
    narrow : (s : FrontStage) (a : FrontAnswer) → v.stage ≡ s → (step_at s v a).shape.order ≤ v.shape.order
    narrow s a here = let same = front_shape s v a in rw same (omega arith)

    by_stage : (s : FrontStage) (a : FrontAnswer) → v.stage ≡ s → IsModest (step_at s v a)
    by_stage (stage.ResponseLast low high) (answer.Word last) here =
        response_modest v (response_of (low ∷ high ∷ last ∷ [])) low (issued v (low + high * 2 ^ 32)) (λ f e. found_in v.requests _ f e) m
    by_stage s a here = owed_modest (ending_of s) v (step_at s v a) (rw here (omega arith)) (narrow s a here) (step_owed s v a here (λ low high last e f. absurd (cc))) m

-- whatever state it enters
in_state_owed : (s : FrontState) (v : View) → Owed (ending_of v.stage) v (in_state s v)
in_state_owed (state.Agreed order) v = (refl, λ short. short, omega arith, refl, omega arith)
in_state_owed (state.Connected offers) v = (refl, λ short. short, omega arith, refl, omega arith)
in_state_owed state.Closing v = (refl, λ short. short, omega arith, refl, omega arith)
in_state_owed state.Leaving v = (refl, λ short. short, omega arith, refl, omega arith)
in_state_owed state.Closed v = (refl, λ short. short, omega arith, refl, omega arith)
in_state_owed (state.Broken word) v = (refl, λ short. short, omega arith, refl, omega arith)

pub entered_modest : (s : FrontState) (v : View) → IsModest v → IsModest (enters s v)
entered_modest s v m = enters_cases (λ x shown. IsModest x) s v (λ may. owed_modest (ending_of v.stage) v (in_state s v) (omega arith) (entered_order s v may) (in_state_owed s v) m) m

-- and after a suspend: the request that was ending is one of the others again, or its data are in hand
sum_by_number : (f : Request → ℕ) (r : Request) (l : List Request) → sum_by f (by_number r l) ≡ f r + sum_by f l
sum_by_number f r [] = sum_by-cons f r []
sum_by_number f r (s ∷ rest) = by_test (nat_lt r.number s.number) (sum_by_number f r rest)
  where
    by_test : (b : Bool) → sum_by f (by_number r rest) ≡ f r + sum_by f rest → sum_by f (if b then r ∷ s ∷ rest else s ∷ by_number r rest) ≡ f r + sum_by f (s ∷ rest)
    by_test true more = sum_by-cons f r (s ∷ rest)
    by_test false more =
        let first = sum_by-cons f s (by_number r rest) in
        let all = sum_by-cons f s rest in
        omega arith

with_ending_sum : (f : Request → ℕ) (of : Option Ending → ℕ) (ending : Option Ending) (l : List Request) → of None ≡ 0 → ((e : Ending) → of (Some e) ≡ f e.request) → sum_by f (with_ending ending l) + of None ≡ sum_by f l + of ending
with_ending_sum f of None l none some = refl
with_ending_sum f of (Some e) l none some = let more = sum_by_number f e.request l in let its = some e in omega arith

pub after_sum : (f : Request → ℕ) (of : Option Ending → ℕ) (s : FrontStage) (ending : Option Ending) (l : List Request) → of None ≡ 0 → ((e : Ending) → of (Some e) ≡ f e.request)
    → sum_by f (requests_after s ending l) + of (ending_after s ending) ≡ sum_by f l + of ending
after_sum f of (stage.GrantRead place) ending l none some = with_ending_sum f of ending l none some
after_sum f of (stage.GrantEnd place before) ending l none some = with_ending_sum f of ending l none some
after_sum f of s ending l none some = refl

pub suspended_modest : (v : View) → IsModest v → IsModest (suspended v)
suspended_modest v m =
    let same = after_sum frames_of ending_frames v.stage v.ending v.requests refl (λ e. refl) in
    let used = m.used in
    front_cases IsModest v
    (λ on. record {
      order = m.order;
      room = after_fits v.stage v.ending v.requests 512 m.room;
      short = after_all IsShort v.stage v.ending v.requests m.ending m.short;
      ending = after_ending (λ (e : Ending). IsShort e.request) v.stage v.ending m.ending;
      size = m.size;
      used = omega arith;
    })
    (λ closed. m)

-- and whatever is submitted
either_submit : (b : Bool) (x y : Result ℕ Refusal × View) → IsModest x.1 → IsModest y.1 → IsModest (if b then x else y).1
either_submit true x y p q = p
either_submit false x y p q = q

accepted_modest : (v : View) (wish : Wish) (frames : Option (List ℕ × List Bool)) → taking (frames_taken wish.count) v.pool [] ≡ frames → unfinished v < 512 → IsModest v → IsModest (submit_with v wish frames).1
accepted_modest v wish None took room m = m
accepted_modest v wish (Some frames) took room m =
    let taken = are_taken (frames_taken wish.count) v.pool [] frames took in
    let counted = taken.counted in
    let more = sum_by_push frames_of v.requests (request_with v wish frames.0) in
    let was = m.used in
    let now = taken.used in
    record {
      order = m.order;
      room = let longer : length (v.requests ++ request_with v wish frames.0 ∷ []) ≡ length v.requests + 1 = length-append v.requests (request_with v wish frames.0 ∷ []) in omega (arith, longer, room);
      short = All-push IsShort v.requests (request_with v wish frames.0) m.short (holds wish.count (pages_for wish.count) (length frames.0) counted);
      ending = m.ending;
      size = taken.size ∙ m.size;
      used = omega (arith, counted, more, was, now);
    }
  where
    holds : (count pages frames : ℕ) → frames ≡ 0 + (frames_for count + pages) → count ≤ 8 * frames
    holds count pages frames e = omega arith

wish_modest : (v : View) (wish : Option Wish) → IsModest v → IsModest (submit_one v wish).1
wish_modest v None m = m
wish_modest v (Some wish) m = by_tests (is_write wish.transfer && v.offers.read_only) (nat_lt v.offers.sectors (wish.sector + named_of wish.transfer wish.count)) (nat_lt (most_segments v.offers wish.transfer) (frames_for wish.count)) (nat_le (entries_of v.shape.order) (unfinished v)) refl
  where
    frames : Option (List ℕ × List Bool)
    frames = taking (frames_taken wish.count) v.pool []

    by_tests : (refuses range long full : Bool) → nat_le (entries_of v.shape.order) (unfinished v) ≡ full
        → IsModest (if refuses then (Err refusal.ReadOnly, v) else (if range then (Err refusal.Range, v) else (if long then (Err refusal.Long, v) else (if full then (Err refusal.Full, v) else submit_with v wish frames)))).1
    by_tests true range long full f = m
    by_tests false true long full f = m
    by_tests false false true full f = m
    by_tests false false false true f = m
    by_tests false false false false f =
        let below : unfinished v < entries_of v.shape.order = grind (arith, nat_tests) in
        let few_pages = few_entries v.shape.order m.order in
        let room : unfinished v < 512 = omega arith in
        accepted_modest v wish frames refl room m

pub submit_modest : (v : View) (job : Submission) → IsModest v → IsModest (submit_of v job).1
submit_modest v job m =
    let unless_unready = if not (is_ready v.stage) then (Err refusal.NotReady, v) else submit_one v (wish_of v.offers job) in
    either_submit (v.last == 4294967295) (Err refusal.Spent, v) (if v.closing then (Err refusal.Closing, v) else unless_unready) m
    (either_submit v.closing (Err refusal.Closing, v) unless_unready m
    (either_submit (not (is_ready v.stage)) (Err refusal.NotReady, v) (submit_one v (wish_of v.offers job)) m (wish_modest v (wish_of v.offers job) m)))

-- the sectors of requests are no more than their frames hold
short_sum : (requests : List Request) → All IsShort requests → sum_by (λ (r : Request). r.count) requests ≤ 8 * sum_by frames_of requests
short_sum [] short = omega arith
short_sum (r ∷ requests) short =
    let one : IsShort r = short 0 r (omega arith) in
    let rest = short_sum requests (λ k d lt. short (suc k) d (omega arith)) in
    let counts = sum_by-cons (λ (x : Request). x.count) r requests in
    let frames = sum_by-cons frames_of r requests in
    omega arith

ending_few : (n : ℕ) (ending : Option Ending) → IsShortEnding ending → (if n == 0 then 0 else ending_sectors ending) ≤ 8 * ending_frames ending
ending_few n ending short = by_test (n == 0) ending short
  where
    by_test : (b : Bool) (e : Option Ending) → IsShortEnding e → (if b then 0 else ending_sectors e) ≤ 8 * ending_frames e
    by_test true e small = omega arith
    by_test false None small = omega arith
    by_test false (Some e) small = small

-- it owes no more sectors than all frames of its pool hold
pub modest_sectors : (v : View) → IsModest v → sectors_owed v ≤ 8000
modest_sectors v m =
    let all = short_sum v.requests m.short in
    let last = ending_few (ending_of v.stage) v.ending m.ending in
    let used = m.used in
    let size = m.size in
    let few = count_by-le-length (λ (b : Bool). b) v.pool in
    omega arith
