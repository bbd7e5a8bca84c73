-- A front told as many answers as it took responses, but for one whose grants are being ended.
use Rattle.std.proofs.Common.{◌≡◌, ℕ, ◌+◌, ◌*◌, ◌/◌, ◌%◌, ◌^◌, ◌==◌, Bool, true, false, if◌then◌else◌, List, [], ◌∷◌, length, sym, subst}
use Rattle.std.specs.Prelude.{Option, Some, None, Result, Ok, Err, nat_lt, slice_set}
use Rattle.blk_base.specs.Distance.{distance_of}
use Rattle.blk_base.specs.declared.ask.FrontAnswer.{FrontAnswer}
use Rattle.blk_base.specs.declared.ask.FrontAnswer.TheVariants as answer
use Rattle.ring_words.specs.Ring.{responses_of, notifies, next_of}
use Rattle.ring_words.specs.Shape.{entry_words_of}
use Rattle.blk_layout.specs.declared.response.Response.{Response}
use Rattle.blk_layout.specs.Response.{response_of}
use Rattle.blk_front.specs.declared.request.Request.{Request}
use Rattle.blk_front.specs.declared.request.Transfer.{Transfer}
use Rattle.blk_front.specs.declared.request.Transfer.TheVariants as transfer
use Rattle.blk_front.specs.declared.stage.Ending.{Ending}
use Rattle.blk_front.specs.Request.{has_data, words_in, is_indirect, naming_words}
use Rattle.blk_front.specs.declared.stage.FrontStage.{FrontStage}
use Rattle.blk_front.specs.declared.stage.FrontStage.TheVariants as stage
use Rattle.blk_front.specs.declared.told.Told.{Told}
use Rattle.blk_front.specs.declared.told.Told.TheVariants as told
use Rattle.blk_front.specs.View.{View, next_request}
use Rattle.blk_front.specs.Step.{broken, looked, entered, begun, answered, freed, revokes, after_data, data_stage, page_stage, granted, loop_step, issued, response_at, is_mapped, at, ring_granted, ring_left, finished, ended, revoked, sector_told, data_step, left_step, step_at}
use Rattle.machine_pipeline.proofs.Flow.{wrapped}
use Rattle.machine_pipeline.proofs.Wrapped.{next_wrapped}

-- the consumer of responses, by how many answers were told, and the ring's first index while the ring isn't made; nothing is said of a front that broke
abbrev pub CountsAt : (start answers begins cons : ℕ) → FrontStage → Type 0
CountsAt start answers begins cons (stage.RingWord k) = (cons ≡ wrapped start answers) × (begins ≡ cons)
CountsAt start answers begins cons (stage.LeftData n) = (cons ≡ wrapped start answers) × (begins ≡ cons)
CountsAt start answers begins cons (stage.GrantRead place) = cons ≡ wrapped start (answers + 1)
CountsAt start answers begins cons (stage.GrantEnd place before) = cons ≡ wrapped start (answers + 1)
CountsAt start answers begins cons (stage.Broken word) = Unit {0}
CountsAt start answers begins cons s = cons ≡ wrapped start answers

-- how many answers were told with one more thing
abbrev pub with_told : ℕ → Option Told → ℕ
with_told answers (Some (told.Answer id status)) = answers + 1
with_told answers t = answers

abbrev pub Counts : (start answers : ℕ) → View → Type 0
Counts start answers v = CountsAt start (with_told answers v.told) v.start v.ring.indices.cons v.stage

untold : (start answers begins cons : ℕ) (t : Option Told) (s : FrontStage) → t ≡ None → CountsAt start answers begins cons s → CountsAt start (with_told answers t) begins cons s
untold start answers begins cons t s e h = subst (λ (x : Option Told). CountsAt start (with_told answers x) begins cons s) (sym e) h

either : (start answers : ℕ) (b : Bool) (x y : View) → Counts start answers x → Counts start answers y → Counts start answers (if b then x else y)
either start answers true x y p q = p
either start answers false x y p q = q

either_stage : (start answers begins cons : ℕ) (b : Bool) (s s' : FrontStage) → CountsAt start answers begins cons s → CountsAt start answers begins cons s' → CountsAt start answers begins cons (if b then s else s')
either_stage start answers begins cons true s s' p q = p
either_stage start answers begins cons false s s' p q = q

looked_counts : (start answers : ℕ) (v : View) (word : ℕ) (otherwise : View) → v.told ≡ None → v.ring.indices.cons ≡ wrapped start answers → Counts start answers otherwise → Counts start answers (looked v word otherwise)
looked_counts start answers v word otherwise e h p =
    either start answers (nat_lt (distance_of v.ring.indices.cons v.ring.indices.prod) (distance_of v.ring.indices.cons word)) (broken word v) (if word == v.ring.indices.cons then otherwise else record v { ring = record v.ring { seen = word }; stage = stage.Loop }) tt
    (either start answers (word == v.ring.indices.cons) otherwise (record v { ring = record v.ring { seen = word }; stage = stage.Loop }) p (untold start answers v.start v.ring.indices.cons v.told stage.Loop e h))

begun_counts : (start answers : ℕ) (v : View) (r : Request) (way : Transfer) → v.told ≡ None → v.ring.indices.cons ≡ wrapped start answers → Counts start answers (begun v r way)
begun_counts start answers v r transfer.Read e h =
    untold start answers v.start v.ring.indices.cons v.told (if is_indirect r.count then stage.Pages 1 else stage.GrantFence 0) e (either_stage start answers v.start v.ring.indices.cons (is_indirect r.count) (stage.Pages 1) (stage.GrantFence 0) h h)
begun_counts start answers v r transfer.Flush e h = untold start answers v.start v.ring.indices.cons v.told (stage.Slot 1) e h
begun_counts start answers v r (transfer.Discard sectors) e h = untold start answers v.start v.ring.indices.cons v.told (stage.Slot 1) e h
begun_counts start answers v r other e h = untold start answers v.start v.ring.indices.cons v.told (stage.Data 1) e h

data_counts : (start answers begins cons : ℕ) (next : Option Request) (n : ℕ) → cons ≡ wrapped start answers → CountsAt start answers begins cons (data_stage next n)
data_counts start answers begins cons None n h = h
data_counts start answers begins cons (Some r) n h =
    either_stage start answers begins cons (nat_lt (n + 1) (words_in r)) (stage.Data (n + 1)) (after_data r) h (either_stage start answers begins cons (is_indirect r.count) (stage.Pages 0) (stage.GrantFrame 0) h h)

page_counts : (start answers begins cons : ℕ) (next : Option Request) (n : ℕ) → cons ≡ wrapped start answers → CountsAt start answers begins cons (page_stage next n)
page_counts start answers begins cons None n h = h
page_counts start answers begins cons (Some r) n h = either_stage start answers begins cons (nat_lt (n + 1) (naming_words r)) (stage.Pages (n + 1)) (stage.GrantFrame 0) h h

granted_counts : (start answers : ℕ) (v : View) (next : Option Request) (place : ℕ) → v.told ≡ None → v.stage ≡ stage.GrantFlags place → v.ring.indices.cons ≡ wrapped start answers → Counts start answers (granted next place v)
granted_counts start answers v None place e s h = untold start answers v.start v.ring.indices.cons v.told v.stage e (subst (CountsAt start answers v.start v.ring.indices.cons) (sym s) h)
granted_counts start answers v (Some r) place e s h =
    either start answers (nat_lt (place + 1) (length r.frames.items)) (at (stage.GrantFrame (place + 1)) v) (entered v r (stage.Slot 0))
    (untold start answers v.start v.ring.indices.cons v.told (stage.GrantFrame (place + 1)) e h) (untold start answers v.start v.ring.indices.cons v.told (stage.Slot 0) e h)

-- a grant of the ending request was ended: the next one is, or its answer is told
ended_counts : (start answers : ℕ) (v : View) (x : Ending) → v.ring.indices.cons ≡ wrapped start (answers + 1) → Counts start answers (ended x v)
ended_counts start answers v x h =
    either start answers (has_data x.request.transfer x.status) (record v { stage = stage.ReadData 0; told = Some (told.Answer x.request.number x.status) })
    (record (finished x v) { told = Some (told.Answer x.request.number x.status) }) h h

revoked_counts : (start answers : ℕ) (v : View) (ending : Option Ending) (place before : ℕ) → v.told ≡ None → v.stage ≡ stage.GrantEnd place before → v.ring.indices.cons ≡ wrapped start (answers + 1) → Counts start answers (revoked ending place v)
revoked_counts start answers v None place before e s h = untold start answers v.start v.ring.indices.cons v.told v.stage e (subst (CountsAt start answers v.start v.ring.indices.cons) (sym s) h)
revoked_counts start answers v (Some x) place before e s h =
    either start answers (nat_lt (place + 1) (length x.request.frames.items)) (at (stage.GrantRead (place + 1)) v) (ended x v)
    (untold start answers v.start v.ring.indices.cons v.told (stage.GrantRead (place + 1)) e h) (ended_counts start answers v x h)

-- a sector that is told is no answer
told_counts : (start answers : ℕ) (v : View) (x : Ending) (n : ℕ) (words : List ℕ) (s : FrontStage) → v.told ≡ None → CountsAt start answers v.start v.ring.indices.cons s → (let y : View = sector_told x n words v in CountsAt start (with_told answers y.told) y.start y.ring.indices.cons s)
told_counts start answers v x n words s e h = by_last (n % 128 == 127)
  where
    by_last : (b : Bool) → (let y : View = (if b then record v { words = words; told = Some (told.Sector x.request.number (n / 128) words) } else record v { words = words }) in CountsAt start (with_told answers y.told) y.start y.ring.indices.cons s)
    by_last true = h
    by_last false = untold start answers v.start v.ring.indices.cons v.told s e h

read_counts : (start answers : ℕ) (v : View) (ending : Option Ending) (n word : ℕ) → v.told ≡ None → v.stage ≡ stage.ReadData n → v.ring.indices.cons ≡ wrapped start answers → Counts start answers (data_step ending n word v)
read_counts start answers v None n word e s h = untold start answers v.start v.ring.indices.cons v.told v.stage e (subst (CountsAt start answers v.start v.ring.indices.cons) (sym s) h)
read_counts start answers v (Some x) n word e s h =
    let words = slice_set v.words (n % 128) word in
    either start answers (nat_lt (n + 1) (words_in x.request)) (at (stage.ReadData (n + 1)) (sector_told x n words v)) (finished x (sector_told x n words v))
    (told_counts start answers v x n words (stage.ReadData (n + 1)) e h) (told_counts start answers v x n words stage.Loop e h)

left_counts : (start answers : ℕ) (v : View) (ending : Option Ending) (n word : ℕ) → v.told ≡ None → v.stage ≡ stage.LeftData n → (v.ring.indices.cons ≡ wrapped start answers) × (v.start ≡ v.ring.indices.cons) → Counts start answers (left_step ending n word v)
left_counts start answers v None n word e s h = untold start answers v.start v.ring.indices.cons v.told v.stage e (subst (CountsAt start answers v.start v.ring.indices.cons) (sym s) h)
left_counts start answers v (Some x) n word e s h =
    let words = slice_set v.words (n % 128) word in
    either start answers (nat_lt (n + 1) (words_in x.request)) (at (stage.LeftData (n + 1)) (sector_told x n words v)) (at (stage.RingWord 0) (finished x (sector_told x n words v)))
    (told_counts start answers v x n words (stage.LeftData (n + 1)) e h) (told_counts start answers v x n words (stage.RingWord 0) e h)

loop_counts : (start answers : ℕ) (v : View) (next : Option Request) (a : FrontAnswer) → v.told ≡ None → v.stage ≡ stage.Loop → v.ring.indices.cons ≡ wrapped start answers → Counts start answers (loop_step v next a)
loop_counts start answers v (Some r) a e s h = begun_counts start answers v r r.transfer e h
loop_counts start answers v None (answer.Word word) e s h =
    either start answers (responses_of v.ring.indices v.ring.seen == 0) (looked v word (record v { ring = record v.ring { seen = word }; stage = stage.StoreEvent })) (at (stage.ResponseHigh word) v)
    (looked_counts start answers v word (record v { ring = record v.ring { seen = word }; stage = stage.StoreEvent }) e h (untold start answers v.start v.ring.indices.cons v.told stage.StoreEvent e h))
    (untold start answers v.start v.ring.indices.cons v.told (stage.ResponseHigh word) e h)
loop_counts start answers v None a e s h = untold start answers v.start v.ring.indices.cons v.told v.stage e (subst (CountsAt start answers v.start v.ring.indices.cons) (sym s) h)

response_counts : (start answers : ℕ) (v : View) (response : Result Response ℕ) (low : ℕ) (found : Option (ℕ × Request)) → v.told ≡ None → v.ring.indices.cons ≡ wrapped start answers → Counts start answers (response_at v response low found)
response_counts start answers v response low None e h = tt
response_counts start answers v (Err word) low (Some found) e h = tt
response_counts start answers v (Ok response) low (Some found) e h =
    let next = next_wrapped start answers v.ring.indices.cons h in
    either start answers (length found.1.frames.items == 0) (answered (freed v found.0) found.1 response.status) (revokes (freed v found.0) found.1 response.status)
    next (untold start answers v.start (next_of v.ring.indices.cons) v.told (stage.GrantRead 0) e next)

pub front_counts : (start answers : ℕ) (s : FrontStage) (v : View) (a : FrontAnswer) → v.told ≡ None → v.stage ≡ s → CountsAt start answers v.start v.ring.indices.cons s → Counts start answers (step_at s v a)
front_counts start answers (stage.RingWord k) v a e same h =
    untold start answers v.start v.ring.indices.cons v.told (if k == 15 then stage.RingFrame 0 else stage.RingWord (k + 1)) e (either_stage start answers v.start v.ring.indices.cons (k == 15) (stage.RingFrame 0) (stage.RingWord (k + 1)) h.0 h)
front_counts start answers (stage.RingFrame page) v a e same h = untold start answers v.start v.ring.indices.cons v.told (stage.RingFence page) e h
front_counts start answers (stage.RingFence page) v a e same h = untold start answers v.start v.ring.indices.cons v.told (stage.RingFlags page) e h
front_counts start answers (stage.RingFlags page) v a e same h =
    untold start answers v.start v.ring.indices.cons v.told (ring_granted v page) e (either_stage start answers v.start v.ring.indices.cons (nat_lt (page + 1) (2 ^ v.shape.order)) (stage.RingFrame (page + 1)) stage.NewPort h h)
front_counts start answers stage.NewPort v a e same h = untold start answers v.start v.ring.indices.cons v.told stage.Initialised e h
front_counts start answers stage.Loop v a e same h = loop_counts start answers v (next_request v) a e same h
front_counts start answers (stage.Data n) v a e same h = untold start answers v.start v.ring.indices.cons v.told (data_stage (next_request v) n) e (data_counts start answers v.start v.ring.indices.cons (next_request v) n h)
front_counts start answers (stage.Pages n) v a e same h = untold start answers v.start v.ring.indices.cons v.told (page_stage (next_request v) n) e (page_counts start answers v.start v.ring.indices.cons (next_request v) n h)
front_counts start answers (stage.GrantFrame place) v a e same h = untold start answers v.start v.ring.indices.cons v.told (stage.GrantFence place) e h
front_counts start answers (stage.GrantFence place) v a e same h = untold start answers v.start v.ring.indices.cons v.told (stage.GrantFlags place) e h
front_counts start answers (stage.GrantFlags place) v a e same h = granted_counts start answers v (next_request v) place e same h
front_counts start answers (stage.Slot k) v a e same h =
    untold start answers v.start v.ring.indices.cons v.told (if k + 1 == entry_words_of v.shape.abi then stage.Producer else stage.Slot (k + 1)) e
    (either_stage start answers v.start v.ring.indices.cons (k + 1 == entry_words_of v.shape.abi) stage.Producer (stage.Slot (k + 1)) h h)
front_counts start answers stage.Producer v a e same h = untold start answers v.start v.ring.indices.cons v.told (stage.ProducerFence v.ring.indices.prod) e h
front_counts start answers (stage.ProducerFence old) v a e same h = untold start answers v.start v.ring.indices.cons v.told (stage.RequestEvent old) e h
front_counts start answers (stage.RequestEvent old) v (answer.Word event) e same h = untold start answers v.start v.ring.indices.cons v.told (if notifies old v.ring.indices.prod event then stage.Send else stage.Loop) e (either_stage start answers v.start v.ring.indices.cons (notifies old v.ring.indices.prod event) stage.Send stage.Loop h h)
front_counts start answers stage.Send v a e same h = untold start answers v.start v.ring.indices.cons v.told stage.Loop e h
front_counts start answers (stage.ResponseHigh low) v (answer.Word high) e same h = untold start answers v.start v.ring.indices.cons v.told (stage.ResponseLast low high) e h
front_counts start answers (stage.ResponseLast low high) v (answer.Word last) e same h = response_counts start answers v (response_of (low ∷ high ∷ last ∷ [])) low (issued v (low + high * 2 ^ 32)) e h
front_counts start answers (stage.GrantRead place) v (answer.Word word) e same h = either start answers (is_mapped word) (broken word v) (at (stage.GrantEnd place word) v) tt (untold start answers v.start v.ring.indices.cons v.told (stage.GrantEnd place word) e h)
front_counts start answers (stage.GrantEnd place before) v (answer.Word word) e same h =
    either start answers (word == before) (revoked v.ending place v) (broken word v) (revoked_counts start answers v v.ending place before e same h) tt
front_counts start answers (stage.ReadData n) v (answer.Word word) e same h = read_counts start answers v v.ending n word e same h
front_counts start answers (stage.LeftData n) v (answer.Word word) e same h = left_counts start answers v v.ending n word e same h
front_counts start answers stage.StoreEvent v a e same h = untold start answers v.start v.ring.indices.cons v.told stage.EventFence e h
front_counts start answers stage.EventFence v a e same h = untold start answers v.start v.ring.indices.cons v.told stage.LookAgain e h
front_counts start answers stage.LookAgain v (answer.Word word) e same h = looked_counts start answers v word (record v { ring = record v.ring { seen = word; asleep = true }; stage = stage.Loop }) e h (untold start answers v.start v.ring.indices.cons v.told stage.Loop e h)
front_counts start answers (stage.RingRead page) v (answer.Word word) e same h =
    either start answers (is_mapped word) (broken word v) (at (stage.RingEnd page word) v) tt (untold start answers v.start v.ring.indices.cons v.told (stage.RingEnd page word) e h)
front_counts start answers (stage.RingEnd page before) v (answer.Word word) e same h =
    either start answers (word == before) (at (ring_left v page) v) (broken word v)
    (untold start answers v.start v.ring.indices.cons v.told (ring_left v page) e (either_stage start answers v.start v.ring.indices.cons (nat_lt (page + 1) (2 ^ v.shape.order)) (stage.RingRead (page + 1)) stage.ClosePort h h)) tt
front_counts start answers stage.ClosePort v a e same h = untold start answers v.start v.ring.indices.cons v.told stage.Left e h
front_counts start answers s v a e same h = untold start answers v.start v.ring.indices.cons v.told v.stage e (subst (CountsAt start answers v.start v.ring.indices.cons) (sym same) h)
