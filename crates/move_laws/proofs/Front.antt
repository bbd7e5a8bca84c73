-- The front keeps to the frames that both ends share, whatever it is told.
use Rattle.std.proofs.Common.{◌≡◌, ℕ, zero, suc, ◌+◌, ◌-◌, ◌*◌, ◌/◌, ◌%◌, ◌^◌, ◌<◌, ◌≤◌, ◌&&◌, ◌||◌, Bool, true, false, not, if◌then◌else◌, List, [], ◌∷◌, ◌++◌, length, take, refl, ◌∙◌, subst, arith, length-set}
use Rattle.std.specs.Prelude.{All, IfSome, Option, Some, None, option_map, option_and_then, Result, Ok, Err, slice_get, slice_set, position, nat_lt, nat_le, ◌==◌}
use Rattle.std.proofs.lemmas.Option.{none-some, same_Some, slice_get_within, get_or_from_slice_get}
use Rattle.std.proofs.lemmas.List.Elements.{All-nil, All-push, All-append, All-take, All-drop, All-get_or}
use Rattle.std.proofs.lemmas.List.Quantifiers.{position-Some}
use Rattle.std.proofs.lemmas.List.{length-replicate, get_or_past}
use Rattle.std.proofs.lemmas.Nat.{pow_pos}
use Rattle.std.proofs.lemmas.Bool.Decides.{nat_tests}
use Rattle.blk_base.specs.Distance.{distance_of}
use Rattle.blk_base.specs.Options.{Options}
use Rattle.blk_base.specs.declared.operation.Abi.{Abi}
use Rattle.blk_base.specs.declared.config.Submission.{Submission}
use Rattle.blk_base.specs.declared.ask.FrontAsk.{FrontAsk}
use Rattle.blk_base.specs.declared.ask.FrontAsk.TheVariants as ask
use Rattle.blk_base.specs.declared.ask.FrontAnswer.{FrontAnswer}
use Rattle.blk_base.specs.declared.ask.FrontAnswer.TheVariants as answer
use Rattle.ring_words.specs.Ring.{responses_of, notifies}
use Rattle.ring_words.specs.Shape.{Shape, entries_of, entry_words_of, slot_word_of}
use Rattle.blk_layout.specs.declared.response.Response.{Response}
use Rattle.blk_layout.specs.Response.{response_of}
use Rattle.blk_front.specs.declared.stage.FrontStage.{FrontStage}
use Rattle.blk_front.specs.declared.stage.FrontStage.TheVariants as stage
use Rattle.blk_front.specs.declared.stage.Ending.{Ending}
use Rattle.blk_front.specs.declared.request.Request.{Request}
use Rattle.blk_front.specs.declared.request.Transfer.{Transfer}
use Rattle.blk_front.specs.declared.request.Transfer.TheVariants as transfer
use Rattle.blk_front.specs.declared.state.FrontState.{FrontState}
use Rattle.blk_front.specs.declared.state.FrontState.TheVariants as state
use Rattle.blk_base.specs.declared.refusal.Refusal.{Refusal}
use Rattle.blk_base.specs.declared.refusal.Refusal.TheVariants as refusal
use Rattle.blk_front.specs.declared.request.Wish.{Wish}
use Rattle.blk_front.specs.Pool.{lowest_of, with_taken, with_free, with_all_free, taking}
use Rattle.blk_front.specs.Request.{is_write, named_of, has_data, frame_at, frames_for, words_in, is_indirect, naming_words}
use Rattle.blk_front.specs.View.{View, next_request, start_of, slot_frame, slot_word, ring_frame, ring_page_frame, entry_frame, entry_word}
use Rattle.blk_front.specs.Ask.{ask_at, ask_of, data_ask, page_ask, name_ask, grant_ask, revoke_ask, end_ask, read_ask, issue_ask, is_through, loop_ask, StaysInMemory}
use Rattle.blk_front.specs.Step.{at, broken, looked, entered, begun, answered, freed, revokes, after_data, data_stage, page_stage, granted, ring_granted, ring_left, loop_step, found_at, issued, response_at, is_mapped, finished, ended, revoked, sector_told, data_step, left_step, step_at, step_of}
use Rattle.blk_front.specs.State.{is_unmade, may_enter, in_state, enters}
use Rattle.blk_front.specs.Submit.{is_ready, unfinished, wish_of, most_segments, frames_taken, submit_with, submit_one, submit_of}
use Rattle.blk_front.specs.Suspend.{stage_after, suspended}
use Rattle.blk_front.proofs.Order.{after_all, after_ending}
use Rattle.blk_front.proofs.Shapes.{few_pages, wide_entries}
use Rattle.blk_back.proofs.Slots.{slot_within}
use Rattle.split_model.proofs.States.{enters_cases}
use Rattle.split_model.proofs.Shapes.{entered_order}
use Rattle.split_model.proofs.Suspending.{front_cases}

-- a stage is at one of the words or the pages that it goes through
abbrev pub IsPlaced : FrontStage → Shape → Type 0
IsPlaced (stage.RingWord k) shape = k < 16
IsPlaced (stage.RingFrame page) shape = page < 2 ^ shape.order
IsPlaced (stage.RingFence page) shape = page < 2 ^ shape.order
IsPlaced (stage.RingFlags page) shape = page < 2 ^ shape.order
IsPlaced (stage.Slot k) shape = k < entry_words_of shape.abi
IsPlaced (stage.RingRead page) shape = page < 2 ^ shape.order
IsPlaced (stage.RingEnd page seen) shape = page < 2 ^ shape.order
IsPlaced s shape = Unit {0}

-- a request's frames are some that both ends share
abbrev Shared : Request → Type 0
Shared r = All (λ (frame : ℕ). frame < 1018) r.frames.items

abbrev SharedEnding : Option Ending → Type 0
SharedEnding ending = IfSome ending (λ (e : Ending). Shared e.request)

-- so it is with each request, the ring has at most 16 pages, and the pool has frames 18 to 1017
pub record IsFront (v : View) : Type 0 where
  pub order : v.shape.order ≤ 4
  pub placed : IsPlaced v.stage v.shape
  pub shared : All Shared v.requests
  pub ending : SharedEnding v.ending
  pub pool : length v.pool ≡ 1000

-- whichever place is asked for
shared_frame : (r : Request) (place : ℕ) → Shared r → frame_at r place < 1018
shared_frame r place all = by_place (nat_lt place (length r.frames.items)) refl
  where
    by_place : (b : Bool) → nat_lt place (length r.frames.items) ≡ b → frame_at r place < 1018
    by_place true t = all place 18 (grind (arith, nat_tests))
    by_place false t = rw (get_or_past r.frames.items place 18 (grind (arith, nat_tests))) (omega arith)

-- the ring's pages are frames 2 to 17
in_page : (s : Shape) (page : ℕ) → s.order ≤ 4 → page < 2 ^ s.order → ring_page_frame page < 1018
in_page s page narrow below = let few = few_pages s.order narrow in omega arith

in_slot : (s : Shape) (index k : ℕ) → s.order ≤ 4 → k < entry_words_of s.abi → (slot_frame s index k < 1018) × (slot_word s index k < 1024)
in_slot s index k narrow within = (in_page s (slot_word_of s index k).0 narrow (slot_within s index k within), omega arith)

response_in : (v : View) (k : ℕ) → v.shape.order ≤ 4 → k < 3 → (slot_frame v.shape v.ring.indices.cons k < 1018) × (slot_word v.shape v.ring.indices.cons k < 1024)
response_in v k narrow few = let wide = wide_entries v.shape.abi in in_slot v.shape v.ring.indices.cons k narrow (omega arith)

loop_within : (rests new : Bool) (frame word : ℕ) → (frame < 1018) × (word < 1024) → StaysInMemory (if rests then ask.Wait else (if new then ask.Read ring_frame 2 else ask.Read frame word))
loop_within true new frame word p = tt
loop_within false true frame word p = (omega arith, omega arith)
loop_within false false frame word p = p

shared_at : (requests : List Request) (i : ℕ) (r : Request) → All Shared requests → slice_get requests i ≡ Some r → Shared r
shared_at requests i r all e =
    let within = slice_get_within requests i r e in
    let same = get_or_from_slice_get requests i r r e in
    subst Shared same (All-get_or Shared requests i r within all)

next_by : (b : Bool) (v : View) (r : Request) → All Shared v.requests → (if b then None else slice_get v.requests (length v.requests - v.waiting)) ≡ Some r → Shared r
next_by true v r all e = absurd (none-some r e)
next_by false v r all e = shared_at v.requests (length v.requests - v.waiting) r all e

next_shared : (v : View) (r : Request) → All Shared v.requests → next_request v ≡ Some r → Shared r
next_shared v r all e = next_by (v.waiting == 0) v r all e

-- a word of a grant entry of such a frame lies in frames 0 and 1
entry_within : (frame : ℕ) → frame < 1018 → (entry_frame frame < 1018) × (entry_word frame + 1 < 1024)
entry_within frame shared = (omega arith, omega arith)

data_within : (r : Request) (n : ℕ) → Shared r → StaysInMemory (data_ask (Some r) n)
data_within r n shared = (shared_frame r (n / 1024) shared, omega arith)

page_within : (r : Request) (n : ℕ) → Shared r → StaysInMemory (page_ask (Some r) n)
page_within r n shared = (shared_frame r (frames_for r.count + n / 1024) shared, omega arith)

either_within : (b : Bool) (x y : FrontAsk) → StaysInMemory x → StaysInMemory y → StaysInMemory (if b then x else y)
either_within true x y p q = p
either_within false x y p q = q

name_within : (r : Request) (place : ℕ) → Shared r → StaysInMemory (name_ask (Some r) place)
name_within r place shared = entry_within (frame_at r place) (shared_frame r place shared)

some_words : (abi : Abi) → 1 < entry_words_of abi
some_words abi = let wide = wide_entries abi in omega arith

first_word : (v : View) → v.shape.order ≤ 4 → (slot_frame v.shape v.ring.indices.prod 0 < 1018) × (slot_word v.shape v.ring.indices.prod 0 < 1024)
first_word v narrow = let some = some_words v.shape.abi in in_slot v.shape v.ring.indices.prod 0 narrow (omega arith)

issue_within : (v : View) (r : Request) (way : Transfer) → v.shape.order ≤ 4 → Shared r → StaysInMemory (issue_ask v r way)
issue_within v r transfer.Read narrow shared = either_within (is_indirect r.count) (page_ask (Some r) 0) (name_ask (Some r) 0) (page_within r 0 shared) (name_within r 0 shared)
issue_within v r transfer.Flush narrow shared = first_word v narrow
issue_within v r (transfer.Discard sectors) narrow shared = first_word v narrow
issue_within v r other narrow shared = data_within r 0 shared

-- while a request is issued
next_page_within : (v : View) (n : ℕ) (r : Option Request) → All Shared v.requests → next_request v ≡ r → StaysInMemory (page_ask r n)
next_page_within v n None all e = tt
next_page_within v n (Some r) all e = page_within r n (next_shared v r all e)

next_data_within : (v : View) (n : ℕ) (r : Option Request) → All Shared v.requests → next_request v ≡ r → StaysInMemory (data_ask r n)
next_data_within v n None all e = tt
next_data_within v n (Some r) all e = data_within r n (next_shared v r all e)

next_name_within : (v : View) (place : ℕ) (r : Option Request) → All Shared v.requests → next_request v ≡ r → StaysInMemory (name_ask r place)
next_name_within v place None all e = tt
next_name_within v place (Some r) all e = name_within r place (next_shared v r all e)

next_grant_within : (v : View) (place : ℕ) (r : Option Request) → All Shared v.requests → next_request v ≡ r → StaysInMemory (grant_ask r place)
next_grant_within v place None all e = tt
next_grant_within v place (Some r) all e = let entry = entry_within (frame_at r place) (shared_frame r place (next_shared v r all e)) in (entry.0, omega (arith, entry.1))

-- while one is ending
revoke_within : (place : ℕ) (e : Option Ending) → SharedEnding e → StaysInMemory (revoke_ask e place)
revoke_within place None shared = tt
revoke_within place (Some e) shared = let entry = entry_within (frame_at e.request place) (shared_frame e.request place shared) in (entry.0, omega (arith, entry.1))

end_within : (place before : ℕ) (e : Option Ending) → SharedEnding e → StaysInMemory (end_ask e place before)
end_within place before None shared = tt
end_within place before (Some e) shared = let entry = entry_within (frame_at e.request place) (shared_frame e.request place shared) in (entry.0, omega (arith, entry.1))

read_within : (n : ℕ) (e : Option Ending) → SharedEnding e → StaysInMemory (read_ask e n)
read_within n None shared = tt
read_within n (Some e) shared = (shared_frame e.request (n / 1024) shared, omega arith)

loop_ask_within : (v : View) (r : Option Request) → v.shape.order ≤ 4 → All Shared v.requests → next_request v ≡ r → StaysInMemory (loop_ask v r)
loop_ask_within v (Some r) narrow all e = issue_within v r r.transfer narrow (next_shared v r all e)
loop_ask_within v None narrow all e =
    loop_within (v.ring.asleep || is_through v) (responses_of v.ring.indices v.ring.seen == 0) (slot_frame v.shape v.ring.indices.cons 0) (slot_word v.shape v.ring.indices.cons 0) (response_in v 0 narrow (omega arith))

-- the entry of a page's grant
page_name : (v : View) (page : ℕ) → v.shape.order ≤ 4 → page < 2 ^ v.shape.order → (entry_frame (ring_page_frame page) < 1018) × (entry_word (ring_page_frame page) + 1 < 1024)
page_name v page narrow below = entry_within (ring_page_frame page) (in_page v.shape page narrow below)

page_flags : (v : View) (page : ℕ) → v.shape.order ≤ 4 → page < 2 ^ v.shape.order → (entry_frame (ring_page_frame page) < 1018) × (entry_word (ring_page_frame page) < 1024)
page_flags v page narrow below = let entry = page_name v page narrow below in (entry.0, omega (arith, entry.1))

within_at : (s : FrontStage) (v : View) → IsPlaced s v.shape → IsFront v → StaysInMemory (ask_at s v)
within_at (stage.RingWord k) v p f = (omega arith, omega arith)
within_at (stage.RingFrame page) v p f = page_name v page f.order p
within_at (stage.RingFlags page) v p f = page_flags v page f.order p
within_at stage.Loop v p f = loop_ask_within v (next_request v) f.order f.shared refl
within_at (stage.Data n) v p f = next_data_within v n (next_request v) f.shared refl
within_at (stage.Pages n) v p f = next_page_within v n (next_request v) f.shared refl
within_at (stage.GrantFrame place) v p f = next_name_within v place (next_request v) f.shared refl
within_at (stage.GrantFlags place) v p f = next_grant_within v place (next_request v) f.shared refl
within_at (stage.Slot k) v p f = in_slot v.shape v.ring.indices.prod k f.order p
within_at stage.Producer v p f = (omega arith, omega arith)
within_at (stage.RequestEvent old) v p f = (omega arith, omega arith)
within_at (stage.ResponseHigh low) v p f = response_in v 1 f.order (omega arith)
within_at (stage.ResponseLast low high) v p f = response_in v 2 f.order (omega arith)
within_at (stage.GrantRead place) v p f = revoke_within place v.ending f.ending
within_at (stage.GrantEnd place seen) v p f = end_within place seen v.ending f.ending
within_at (stage.ReadData n) v p f = read_within n v.ending f.ending
within_at (stage.LeftData n) v p f = read_within n v.ending f.ending
within_at stage.StoreEvent v p f = (omega arith, omega arith)
within_at stage.LookAgain v p f = (omega arith, omega arith)
within_at (stage.RingRead page) v p f = page_flags v page f.order p
within_at (stage.RingEnd page seen) v p f = page_flags v page f.order p
within_at s v p f = tt

-- each word that the front asks for is one of those frames
pub front_within : (v : View) → IsFront v → StaysInMemory (ask_of v)
front_within v f = within_at v.stage v f.placed f

pub front_start : (o : Options) → o.order ≤ 4 → IsFront (start_of o)
front_start o narrow = record { order = narrow; placed = omega arith; shared = All-nil Shared; ending = tt; pool = length-replicate 1000 false }

either : (b : Bool) (x y : View) → IsFront x → IsFront y → IsFront (if b then x else y)
either true x y p q = p
either false x y p q = q

either_stage : (b : Bool) (x y : FrontStage) (shape : Shape) → (b ≡ true → IsPlaced x shape) → (b ≡ false → IsPlaced y shape) → IsPlaced (if b then x else y) shape
either_stage true x y shape p q = p refl
either_stage false x y shape p q = q refl

-- the same requests and frames at a stage
at_stage : (s : FrontStage) (v : View) → IsPlaced s v.shape → IsFront v → IsFront (at s v)
at_stage s v p f = record { order = f.order; placed = p; shared = f.shared; ending = f.ending; pool = f.pool }

looked_kept : (v : View) (word : ℕ) (otherwise : View) → IsFront v → IsFront otherwise → IsFront (looked v word otherwise)
looked_kept v word otherwise f h =
    either (nat_lt (distance_of v.ring.indices.cons v.ring.indices.prod) (distance_of v.ring.indices.cons word)) (broken word v) (if word == v.ring.indices.cons then otherwise else record v { ring = record v.ring { seen = word }; stage = stage.Loop }) (record { order = f.order; placed = tt; shared = f.shared; ending = f.ending; pool = f.pool })
    (either (word == v.ring.indices.cons) otherwise (record v { ring = record v.ring { seen = word }; stage = stage.Loop }) h (record { order = f.order; placed = tt; shared = f.shared; ending = f.ending; pool = f.pool }))

-- and at a word of the entry of one of them
entered_kept : (v : View) (r : Request) (s : FrontStage) → IsPlaced s v.shape → IsFront v → IsFront (entered v r s)
entered_kept v r s p f = record { order = f.order; placed = p; shared = f.shared; ending = f.ending; pool = f.pool }

begun_kept : (v : View) (r : Request) (way : Transfer) → IsFront v → IsFront (begun v r way)
begun_kept v r transfer.Read f = at_stage _ v (either_stage (is_indirect r.count) (stage.Pages 1) (stage.GrantFence 0) v.shape (λ t. tt) (λ t. tt)) f
begun_kept v r transfer.Flush f = entered_kept v r (stage.Slot 1) (some_words v.shape.abi) f
begun_kept v r (transfer.Discard sectors) f = entered_kept v r (stage.Slot 1) (some_words v.shape.abi) f
begun_kept v r other f = at_stage (stage.Data 1) v tt f

loop_kept : (v : View) (r : Option Request) (x : FrontAnswer) → IsFront v → next_request v ≡ r → IsFront (loop_step v r x)
loop_kept v (Some r) x f e = begun_kept v r r.transfer f
loop_kept v None (answer.Word word) f e =
    either (responses_of v.ring.indices v.ring.seen == 0) (looked v word (record v { ring = record v.ring { seen = word }; stage = stage.StoreEvent })) (at (stage.ResponseHigh word) v)
    (looked_kept v word (record v { ring = record v.ring { seen = word }; stage = stage.StoreEvent }) f (record { order = f.order; placed = tt; shared = f.shared; ending = f.ending; pool = f.pool })) (at_stage (stage.ResponseHigh word) v tt f)
loop_kept v None answer.Event f e = record { order = f.order; placed = f.placed; shared = f.shared; ending = f.ending; pool = f.pool }
loop_kept v None x f e = f

-- a request that is found is one of them
abbrev FoundShared : Option (ℕ × Request) → Type 0
FoundShared None = Unit {0}
FoundShared (Some found) = Shared found.1

found_in : (requests : List Request) (place : ℕ) (r : Option Request) → All Shared requests → slice_get requests place ≡ r → FoundShared (option_map (λ (x : Request). (place, x)) r)
found_in requests place None all e = tt
found_in requests place (Some r) all e = shared_at requests place r all e

found_shared : (requests : List Request) (place : Option ℕ) → All Shared requests → FoundShared (found_at requests place)
found_shared requests None all = tt
found_shared requests (Some place) all = found_in requests place (slice_get requests place) all refl

response_kept : (v : View) (response : Result Response ℕ) (low : ℕ) (found : Option (ℕ × Request)) → IsFront v → FoundShared found → IsFront (response_at v response low found)
response_kept v response low None f h = record { order = f.order; placed = tt; shared = f.shared; ending = f.ending; pool = f.pool }
response_kept v (Err word) low (Some found) f h = record { order = f.order; placed = tt; shared = f.shared; ending = f.ending; pool = f.pool }
response_kept v (Ok response) low (Some found) f h =
    let rest = All-append Shared _ _ (All-take Shared found.0 v.requests f.shared) (All-drop Shared (suc found.0) v.requests f.shared) in
    either (length found.1.frames.items == 0) (answered (freed v found.0) found.1 response.status) (revokes (freed v found.0) found.1 response.status)
    (record { order = f.order; placed = tt; shared = rest; ending = f.ending; pool = f.pool }) (record { order = f.order; placed = tt; shared = rest; ending = h; pool = f.pool })

-- frames that are given back leave the pool as long as it is
freed_long : (pool : List Bool) (frames : List ℕ) → length (with_all_free pool frames) ≡ length pool
freed_long pool [] = refl
freed_long pool (frame ∷ frames) = freed_long (with_free pool frame) frames ∙ length-set pool (frame - 18) false

finished_kept : (v : View) (e : Ending) → IsFront v → IsFront (finished e v)
finished_kept v e f = record { order = f.order; placed = tt; shared = f.shared; ending = tt; pool = freed_long v.pool e.request.frames.items ∙ f.pool }

ended_kept : (v : View) (e : Ending) → IsFront v → IsFront (ended e v)
ended_kept v e f =
    let y = finished_kept v e f in
    either (has_data e.request.transfer e.status) _ _ (record { order = f.order; placed = tt; shared = f.shared; ending = f.ending; pool = f.pool }) (record { order = f.order; placed = tt; shared = y.shared; ending = tt; pool = y.pool })

revoked_kept : (v : View) (e : Option Ending) (place : ℕ) → IsFront v → IsFront (revoked e place v)
revoked_kept v None place f = f
revoked_kept v (Some e) place f = either (nat_lt (place + 1) (length e.request.frames.items)) _ _ (at_stage (stage.GrantRead (place + 1)) v tt f) (ended_kept v e f)

told_kept : (v : View) (e : Ending) (n : ℕ) (words : List ℕ) → IsFront v → IsFront (sector_told e n words v)
told_kept v e n words f = either (n % 128 == 127) _ _ (record { order = f.order; placed = f.placed; shared = f.shared; ending = f.ending; pool = f.pool }) (record { order = f.order; placed = f.placed; shared = f.shared; ending = f.ending; pool = f.pool })

data_kept : (v : View) (e : Option Ending) (n word : ℕ) → IsFront v → IsFront (data_step e n word v)
data_kept v None n word f = f
data_kept v (Some e) n word f =
    let y = told_kept v e n (slice_set v.words (n % 128) word) f in
    either (nat_lt (n + 1) (words_in e.request)) _ _ (at_stage (stage.ReadData (n + 1)) _ tt y) (finished_kept _ e y)

-- the same of data that are in hand after a suspend, and then the ring is made anew
left_kept : (v : View) (e : Option Ending) (n word : ℕ) → IsFront v → IsFront (left_step e n word v)
left_kept v None n word f = f
left_kept v (Some e) n word f =
    let y = told_kept v e n (slice_set v.words (n % 128) word) f in
    either (nat_lt (n + 1) (words_in e.request)) _ _ (at_stage (stage.LeftData (n + 1)) _ tt y) (at_stage (stage.RingWord 0) _ (omega arith) (finished_kept _ e y))

data_placed : (r : Option Request) (n : ℕ) (shape : Shape) → IsPlaced (data_stage r n) shape
data_placed None n shape = tt
data_placed (Some r) n shape =
    either_stage (nat_lt (n + 1) (words_in r)) (stage.Data (n + 1)) (after_data r) shape (λ t. tt)
    (λ t. either_stage (is_indirect r.count) (stage.Pages 0) (stage.GrantFrame 0) shape (λ u. tt) (λ u. tt))

page_placed : (r : Option Request) (n : ℕ) (shape : Shape) → IsPlaced (page_stage r n) shape
page_placed None n shape = tt
page_placed (Some r) n shape = either_stage (nat_lt (n + 1) (naming_words r)) (stage.Pages (n + 1)) (stage.GrantFrame 0) shape (λ t. tt) (λ t. tt)

granted_kept : (v : View) (r : Option Request) (place : ℕ) → IsFront v → IsFront (granted r place v)
granted_kept v None place f = f
granted_kept v (Some r) place f = either (nat_lt (place + 1) (length r.frames.items)) _ _ (at_stage (stage.GrantFrame (place + 1)) v tt f) (entered_kept v r (stage.Slot 0) (let some = some_words v.shape.abi in omega arith) f)

-- the next page of the ring is granted, or its grant ended
page_granted : (v : View) (page : ℕ) → IsPlaced (ring_granted v page) v.shape
page_granted v page = either_stage (nat_lt (page + 1) (2 ^ v.shape.order)) (stage.RingFrame (page + 1)) stage.NewPort v.shape (λ t. grind (arith, nat_tests)) (λ t. tt)

page_left : (v : View) (page : ℕ) → IsPlaced (ring_left v page) v.shape
page_left v page = either_stage (nat_lt (page + 1) (2 ^ v.shape.order)) (stage.RingRead (page + 1)) stage.ClosePort v.shape (λ t. grind (arith, nat_tests)) (λ t. tt)

step_kept : (s : FrontStage) (v : View) (x : FrontAnswer) → IsPlaced s v.shape → IsFront v → IsFront (step_at s v x)
step_kept (stage.RingWord k) v x p f = at_stage _ v (either_stage (k == 15) (stage.RingFrame 0) (stage.RingWord (k + 1)) v.shape (λ t. pow_pos v.shape.order) (λ t. grind (arith, nat_tests))) f
step_kept (stage.RingFrame page) v x p f = at_stage _ v p f
step_kept (stage.RingFence page) v x p f = at_stage _ v p f
step_kept (stage.RingFlags page) v x p f = at_stage _ v (page_granted v page) f
step_kept stage.NewPort v x p f = at_stage _ v tt f
step_kept stage.Loop v x p f = loop_kept v (next_request v) x f refl
step_kept (stage.Data n) v x p f = at_stage _ v (data_placed (next_request v) n v.shape) f
step_kept (stage.Pages n) v x p f = at_stage _ v (page_placed (next_request v) n v.shape) f
step_kept (stage.GrantFrame place) v x p f = at_stage _ v tt f
step_kept (stage.GrantFence place) v x p f = at_stage _ v tt f
step_kept (stage.GrantFlags place) v x p f = granted_kept v (next_request v) place f
step_kept (stage.Slot k) v x p f = at_stage _ v (either_stage (k + 1 == entry_words_of v.shape.abi) stage.Producer (stage.Slot (k + 1)) v.shape (λ t. tt) (further k (entry_words_of v.shape.abi) p)) f
  where
    further : (n words : ℕ) → n < words → (n + 1 == words) ≡ false → n + 1 < words
    further n words lt other = grind (arith, nat_tests)
step_kept stage.Producer v x p f = record { order = f.order; placed = tt; shared = f.shared; ending = f.ending; pool = f.pool }
step_kept (stage.ProducerFence old) v x p f = at_stage _ v tt f
step_kept (stage.RequestEvent old) v (answer.Word event) p f = at_stage _ v (either_stage (notifies old v.ring.indices.prod event) stage.Send stage.Loop v.shape (λ t. tt) (λ t. tt)) f
step_kept stage.Send v x p f = at_stage _ v tt f
step_kept (stage.ResponseHigh low) v (answer.Word high) p f = at_stage _ v tt f
step_kept (stage.ResponseLast low high) v (answer.Word last) p f =
    response_kept v (response_of (low ∷ high ∷ last ∷ [])) low (issued v (low + high * 2 ^ 32)) f
    (found_shared v.requests (position (λ (r : Request). r.number == low + high * 2 ^ 32) (take (length v.requests - v.waiting) v.requests)) f.shared)
step_kept (stage.GrantRead place) v (answer.Word word) p f = either (is_mapped word) (broken word v) (at (stage.GrantEnd place word) v) (record { order = f.order; placed = tt; shared = f.shared; ending = f.ending; pool = f.pool }) (at_stage (stage.GrantEnd place word) v tt f)
step_kept (stage.GrantEnd place before) v (answer.Word word) p f =
    either (word == before) (revoked v.ending place v) (broken word v) (revoked_kept v v.ending place f) (record { order = f.order; placed = tt; shared = f.shared; ending = f.ending; pool = f.pool })
step_kept (stage.ReadData n) v (answer.Word word) p f = data_kept v v.ending n word f
step_kept (stage.LeftData n) v (answer.Word word) p f = left_kept v v.ending n word f
step_kept stage.StoreEvent v x p f = at_stage _ v tt f
step_kept stage.EventFence v x p f = at_stage _ v tt f
step_kept stage.LookAgain v (answer.Word word) p f = looked_kept v word (record v { ring = record v.ring { seen = word; asleep = true }; stage = stage.Loop }) f (record { order = f.order; placed = tt; shared = f.shared; ending = f.ending; pool = f.pool })
step_kept (stage.RingRead page) v (answer.Word word) p f =
    either (is_mapped word) (broken word v) (at (stage.RingEnd page word) v) (record { order = f.order; placed = tt; shared = f.shared; ending = f.ending; pool = f.pool }) (at_stage (stage.RingEnd page word) v p f)
step_kept (stage.RingEnd page before) v (answer.Word word) p f =
    either (word == before) (at (ring_left v page) v) (broken word v) (at_stage _ v (page_left v page) f) (record { order = f.order; placed = tt; shared = f.shared; ending = f.ending; pool = f.pool })
step_kept stage.ClosePort v x p f = at_stage _ v tt f
step_kept s v x p f = f

pub front_step : (v : View) (x : FrontAnswer) → IsFront v → IsFront (record (step_of v x) { told = None })
front_step v x f =
    let y : IsFront (step_of v x) = step_kept v.stage v x f.placed f in
    record { order = y.order; placed = y.placed; shared = y.shared; ending = y.ending; pool = y.pool }

-- where the ring isn't begun the shape doesn't matter
unmade_placed : (s : FrontStage) (before now : Shape) → is_unmade s ≡ true → IsPlaced s before → IsPlaced s now
unmade_placed (stage.RingWord k) before now unmade p = p
unmade_placed s before now unmade p = absurd (cc)

first_of : (a b c : Bool) → (a && b && c) ≡ true → a ≡ true
first_of true b c all = refl
first_of false b c all = all

-- whatever state it enters
in_state_kept : (s : FrontState) (v : View) → may_enter s v ≡ true → IsFront v → IsFront (in_state s v)
in_state_kept (state.Agreed order) v may f = record {
  order = let narrower = entered_order (state.Agreed order) v may in let narrow = f.order in omega arith;
  placed = unmade_placed v.stage v.shape (record v.shape { order = order }) (first_of (is_unmade v.stage) (nat_le order v.shape.order) (nat_le (length v.requests) (entries_of order)) may) f.placed;
  shared = f.shared;
  ending = f.ending;
  pool = f.pool;
}
in_state_kept (state.Connected offers) v may f = record { order = f.order; placed = tt; shared = f.shared; ending = f.ending; pool = f.pool }
in_state_kept state.Closing v may f = record { order = f.order; placed = f.placed; shared = f.shared; ending = f.ending; pool = f.pool }
in_state_kept state.Leaving v may f = at_stage _ v (pow_pos v.shape.order) f
in_state_kept other v may f = at_stage _ v tt f

pub front_entered : (s : FrontState) (v : View) → IsFront v → IsFront (enters s v)
front_entered s v f = enters_cases (λ x shown. IsFront x) s v (λ may. in_state_kept s v may f) f

-- and after a suspend
suspended_placed : (s : FrontStage) (shape : Shape) → IsPlaced (stage_after s) shape
suspended_placed (stage.ReadData n) shape = tt
suspended_placed (stage.LeftData n) shape = tt
suspended_placed s shape = omega arith

pub front_suspended : (v : View) → IsFront v → IsFront (suspended v)
front_suspended v f =
    front_cases IsFront v
    (λ on. record {
      order = f.order;
      placed = suspended_placed v.stage v.shape;
      shared = after_all Shared v.stage v.ending v.requests f.ending f.shared;
      ending = after_ending (λ (e : Ending). Shared e.request) v.stage v.ending f.ending;
      pool = f.pool;
    })
    (λ closed. f)

either_submit : (b : Bool) (x y : Result ℕ Refusal × View) → IsFront x.1 → IsFront y.1 → IsFront (if b then x else y).1
either_submit true x y p q = p
either_submit false x y p q = q

lowest_in : (pool : List Bool) (place : Option ℕ) (frame : ℕ) → length pool ≡ 1000 → position not pool ≡ place → option_map (λ (n : ℕ). 18 + n) place ≡ Some frame → frame < 1018
lowest_in pool None frame long e is = absurd (none-some frame is)
lowest_in pool (Some place) frame long e is =
    let within = (position-Some not pool place false e).0 in
    let same : 18 + place ≡ frame = same_Some (18 + place) frame is in
    omega arith

-- frames that are taken into use are of the pool
taken_in : (n : ℕ) (pool : List Bool) (frames : List ℕ) (taken : List ℕ × List Bool) → length pool ≡ 1000 → All (λ (frame : ℕ). frame < 1018) frames → taking n pool frames ≡ Some taken
    → All (λ (frame : ℕ). frame < 1018) taken.0 × (length taken.1 ≡ 1000)
taken_in zero pool frames taken long all e =
    let same : (frames, pool) ≡ taken = same_Some (frames, pool) taken e in
    subst (λ (t : List ℕ × List Bool). All (λ (frame : ℕ). frame < 1018) t.0 × (length t.1 ≡ 1000)) same (all, long)
taken_in (suc n) pool frames taken long all e = by_lowest (lowest_of pool) refl (λ frame. taken_in n (with_taken pool frame) (frames ++ frame ∷ []) taken (length-set pool (frame - 18) true ∙ long)) e
  where
    by_lowest : (lowest : Option ℕ) → lowest_of pool ≡ lowest
        → ((frame : ℕ) → All (λ (x : ℕ). x < 1018) (frames ++ frame ∷ []) → taking n (with_taken pool frame) (frames ++ frame ∷ []) ≡ Some taken → All (λ (x : ℕ). x < 1018) taken.0 × (length taken.1 ≡ 1000))
        → option_and_then (λ (frame : ℕ). taking n (with_taken pool frame) (frames ++ frame ∷ [])) lowest ≡ Some taken
        → All (λ (x : ℕ). x < 1018) taken.0 × (length taken.1 ≡ 1000)
    by_lowest None is rest f = absurd (none-some taken f)
    by_lowest (Some frame) is rest f = rest frame (All-push (λ (x : ℕ). x < 1018) frames frame all (lowest_in pool (position not pool) frame long refl is)) f

submit_frames : (v : View) (wish : Wish) (n : ℕ) (taken : Option (List ℕ × List Bool)) → taking n v.pool [] ≡ taken → IsFront v → IsFront (submit_with v wish taken).1
submit_frames v wish n None e f = f
submit_frames v wish n (Some taken) e f =
    let is = taken_in n v.pool [] taken f.pool (All-nil (λ (frame : ℕ). frame < 1018)) e in
    record { order = f.order; placed = f.placed; shared = All-push Shared v.requests _ f.shared is.0; ending = f.ending; pool = is.1 }

submit_wish : (v : View) (wish : Option Wish) → IsFront v → IsFront (submit_one v wish).1
submit_wish v None f = f
submit_wish v (Some wish) f =
    let frames = taking (frames_taken wish.count) v.pool [] in
    let unless_full = if nat_le (entries_of v.shape.order) (unfinished v) then (Err refusal.Full, v) else submit_with v wish frames in
    let unless_long = if nat_lt (most_segments v.offers wish.transfer) (frames_for wish.count) then (Err refusal.Long, v) else unless_full in
    either_submit (is_write wish.transfer && v.offers.read_only) (Err refusal.ReadOnly, v) (if nat_lt v.offers.sectors (wish.sector + named_of wish.transfer wish.count) then (Err refusal.Range, v) else unless_long) f
    (either_submit (nat_lt v.offers.sectors (wish.sector + named_of wish.transfer wish.count)) (Err refusal.Range, v) unless_long f
    (either_submit (nat_lt (most_segments v.offers wish.transfer) (frames_for wish.count)) (Err refusal.Long, v) unless_full f
    (either_submit (nat_le (entries_of v.shape.order) (unfinished v)) (Err refusal.Full, v) (submit_with v wish frames) f (submit_frames v wish (frames_taken wish.count) frames refl f))))

pub front_submit : (v : View) (job : Submission) → IsFront v → IsFront (submit_of v job).1
front_submit v job f =
    let unless_unready = if not (is_ready v.stage) then (Err refusal.NotReady, v) else submit_one v (wish_of v.offers job) in
    either_submit (v.last == 4294967295) (Err refusal.Spent, v) (if v.closing then (Err refusal.Closing, v) else unless_unready) f
    (either_submit v.closing (Err refusal.Closing, v) unless_unready f
    (either_submit (not (is_ready v.stage)) (Err refusal.NotReady, v) (submit_one v (wish_of v.offers job)) f (submit_wish v (wish_of v.offers job) f)))
