-- The numbers that the front keeps have the widths of the grammar, and so has what it tells and answers, whatever word it reads.
use Rattle.std.proofs.Common.{◌≡◌, ℕ, suc, ◌≤◌, ◌+◌, ◌-◌, ◌*◌, ◌/◌, ◌%◌, ◌^◌, ◌<◌, Bool, true, false, if◌then◌else◌, List, [], ◌∷◌, length, take, refl, arith, length-set}
use Rattle.std.specs.Prelude.{All, Option, Some, None, IfSome, Result, Ok, Err, nat_lt, ◌==◌, slice_get, slice_set, slice_index, position}
use Rattle.std.specs.Option.{option_map}
use Rattle.std.specs.List.{AllByRecursion}
use Rattle.std.proofs.lemmas.Bool.Decides.{nat_tests}
use Rattle.std.proofs.lemmas.Option.{none-some}
use Rattle.std.proofs.lemmas.List.{length-replicate}
use Rattle.std.proofs.lemmas.List.Elements.{All-nil, All-append, All-take, All-drop, All-set, All-replicate}
use Rattle.blk_base.specs.Options.{Options}
use Rattle.blk_base.specs.Distance.{distance_of}
use Rattle.blk_base.specs.declared.operation.Status.{Status}
use Rattle.blk_base.specs.declared.ask.FrontAnswer.{FrontAnswer}
use Rattle.blk_base.specs.declared.ask.FrontAnswer.TheVariants as answer
use Rattle.ring_words.specs.Ring.{responses_of, notifies}
use Rattle.ring_words.specs.Shape.{entry_words_of}
use Rattle.line_text.specs.Sector.{IsSector}
use Rattle.blk_layout.specs.Response.{status_of, response_with, response_of}
use Rattle.blk_layout.specs.declared.response.Response.{Response}
use Rattle.schedule_text.specs.declared.line.Line.TheVariants as lines
use Rattle.schedule_text.specs.Range.{AreOptions}
use Rattle.blk_front.specs.declared.request.Request.{Request}
use Rattle.blk_front.specs.declared.request.Transfer.{Transfer}
use Rattle.blk_front.specs.declared.request.Transfer.TheVariants as transfer
use Rattle.blk_front.specs.declared.stage.FrontStage.{FrontStage}
use Rattle.blk_front.specs.declared.stage.FrontStage.TheVariants as stage
use Rattle.blk_front.specs.declared.stage.Ending.{Ending}
use Rattle.blk_front.specs.declared.told.Told.{Told}
use Rattle.blk_front.specs.declared.told.Told.TheVariants as told
use Rattle.blk_front.specs.Request.{named_of, has_data, words_in, is_indirect, naming_words}
use Rattle.blk_front.specs.View.{View, next_request, start_of}
use Rattle.blk_front.specs.Entry.{entry_of}
use Rattle.blk_front.specs.Step.{at, broken, looked, entered, begun, freed, revokes, answered, after_data, data_stage, page_stage, granted, loop_step, found_at, issued, response_at, is_mapped, ring_left, finished, ended, revoked, sector_told, data_step, left_step, step_at, step_of}
use Rattle.blk_front.specs.declared.state.FrontState.{FrontState}
use Rattle.blk_front.specs.declared.state.FrontState.TheVariants as state
use Rattle.blk_front.specs.State.{in_state, enters}
use Rattle.blk_front.specs.Suspend.{stage_after, ending_after, suspended}
use Rattle.blk_front.proofs.Order.{after_all}
use Rattle.split_model.specs.World.{World}
use Rattle.split_model.specs.Shown.{front_lines, state_lines}
use Rattle.split_model.specs.Happening.{enter_lines}
use Rattle.split_model.proofs.States.{enters_cases}
use Rattle.split_model.proofs.Suspending.{front_cases}
use Rattle.machine_pipeline.specs.Allowed.{IsStated}
use Rattle.machine_pipeline.proofs.Lists.{all_at}
use Rattle.report_laws.proofs.Told.{AreGood, good}
use Rattle.report_laws.proofs.Acts.{FrontTells}
use Rattle.report_laws.proofs.FrontWords.{entry_words}

-- a request: it moves no more sectors than 960 segments have, and its numbers have the widths of their fields
pub record IsAsked (r : Request) : Type 0 where
  pub number : r.number < 2 ^ 32
  pub sector : r.sector < 2 ^ 64
  pub few : r.count ≤ 7680
  pub named : named_of r.transfer r.count < 2 ^ 32

abbrev pub IsAskedEnding : Option Ending → Type 0
IsAskedEnding None = Unit {0}
IsAskedEnding (Some e) = IsAsked e.request

-- its frames are some that both ends share
abbrev pub AreShared : List Request → Type 0
AreShared requests = All (λ (r : Request). All (λ (frame : ℕ). frame < 1018) r.frames.items) requests

pub record AreNumbers (sectors start last : ℕ) (requests : List Request) (ending : Option Ending) (entry words : List ℕ) : Type 0 where
  pub begins : start < 2 ^ 32
  pub sized : sectors < 2 ^ 64
  pub given : last < 2 ^ 32
  pub asked : All IsAsked requests
  pub ends : IsAskedEnding ending
  pub written : AllByRecursion (λ (v : ℕ). v < 2 ^ 32) entry
  pub read : IsSector words

-- the words that a stage carries have 32 bits, and the word of data that is read is one of 7680 sectors
abbrev pub HasWords : FrontStage → Type 0
HasWords (stage.ResponseHigh low) = low < 2 ^ 32
HasWords (stage.ResponseLast low high) = low < 2 ^ 32
HasWords (stage.GrantEnd place before) = before < 2 ^ 32
HasWords (stage.RingEnd page seen) = seen < 2 ^ 32
HasWords (stage.ReadData n) = n < 983040
HasWords (stage.LeftData n) = n < 983040
HasWords s = Unit {0}

abbrev pub TellsWords : Option Told → Type 0
TellsWords None = Unit {0}
TellsWords (Some (told.Answer id status)) = id < 2 ^ 64
TellsWords (Some (told.Sector id index words)) = (id < 2 ^ 64) × (index < 2 ^ 32) × IsSector words
TellsWords (Some (told.Broken word)) = word < 2 ^ 32

abbrev pub IsFit : View → Type 0
IsFit v = AreNumbers v.offers.sectors v.start v.last v.requests v.ending v.ring.entry v.words × HasWords v.stage × TellsWords v.told

pub front_start : (config : Options) → AreOptions config → IsFit (start_of config)
front_start config options = (
  record {
    begins = options.3;
    sized = omega arith;
    given = omega arith;
    asked = All-nil IsAsked;
    ends = tt;
    written = tt;
    read = record { size = length-replicate {A = ℕ} 128 0; fits = All-replicate (λ (v : ℕ). v < 2 ^ 32) 128 0 (omega arith) };
  },
  tt,
  tt,
)

either : (b : Bool) (x y : View) → (b ≡ true → IsFit x) → (b ≡ false → IsFit y) → IsFit (if b then x else y)
either true x y p q = p refl
either false x y p q = q refl

either_stage : (b : Bool) (x y : FrontStage) → HasWords x → HasWords y → HasWords (if b then x else y)
either_stage true x y p q = p
either_stage false x y p q = q

sized_now : {sectors now start last : ℕ} {requests : List Request} {ending : Option Ending} {entry words : List ℕ} → now < 2 ^ 64
    → AreNumbers sectors start last requests ending entry words → AreNumbers now start last requests ending entry words
sized_now small k = record { begins = k.begins; sized = small; given = k.given; asked = k.asked; ends = k.ends; written = k.written; read = k.read }

ending_now : {sectors start last : ℕ} {requests : List Request} {ending : Option Ending} {entry words : List ℕ} (now : Option Ending) → IsAskedEnding now
    → AreNumbers sectors start last requests ending entry words → AreNumbers sectors start last requests now entry words
ending_now now ends k = record { begins = k.begins; sized = k.sized; given = k.given; asked = k.asked; ends = ends; written = k.written; read = k.read }

looked_fits : (v : View) (word : ℕ) (otherwise : View) → word < 2 ^ 32 → IsFit v → IsFit otherwise → IsFit (looked v word otherwise)
looked_fits v word otherwise small f h =
    either (nat_lt (distance_of v.ring.indices.cons v.ring.indices.prod) (distance_of v.ring.indices.cons word)) (broken word v) (if word == v.ring.indices.cons then otherwise else record v { ring = record v.ring { seen = word }; stage = stage.Loop })
    (λ t. (f.0, tt, small)) (λ t. either (word == v.ring.indices.cons) otherwise (record v { ring = record v.ring { seen = word }; stage = stage.Loop }) (λ u. h) (λ u. (f.0, tt, f.2)))

data_words : (r : Option Request) (n : ℕ) → HasWords (data_stage r n)
data_words None n = tt
data_words (Some r) n = either_stage (nat_lt (n + 1) (words_in r)) (stage.Data (n + 1)) (after_data r) tt (either_stage (is_indirect r.count) (stage.Pages 0) (stage.GrantFrame 0) tt tt)

naming_had : (r : Option Request) (n : ℕ) → HasWords (page_stage r n)
naming_had None n = tt
naming_had (Some r) n = either_stage (nat_lt (n + 1) (naming_words r)) (stage.Pages (n + 1)) (stage.GrantFrame 0) tt tt

-- what holds of each request holds of the one that is issued next
pub next_holds : (P : Request → Type 0) (v : View) (r : Request) → All P v.requests → next_request v ≡ Some r → P r
next_holds P v r all e = by_waiting (v.waiting == 0) e
  where
    by_waiting : (b : Bool) → (if b then None else slice_get v.requests (length v.requests - v.waiting)) ≡ Some r → P r
    by_waiting true e = absurd (none-some r e)
    by_waiting false e = all_at P v.requests (length v.requests - v.waiting) r all e

pub issued_entry : (v : View) (r : Request) → All IsAsked v.requests → AreShared v.requests → next_request v ≡ Some r → AllByRecursion (λ (n : ℕ). n < 2 ^ 32) (entry_of v.shape.abi r)
issued_entry v r asked shared e =
    let is = next_holds IsAsked v r asked e in
    let number = is.number in
    entry_words v.shape.abi r.transfer r (omega arith) is.sector is.few is.named (next_holds (λ (x : Request). All (λ (frame : ℕ). frame < 1018) x.frames.items) v r shared e)

entered_fits : (v : View) (r : Request) (s : FrontStage) → HasWords s → AllByRecursion (λ (n : ℕ). n < 2 ^ 32) (entry_of v.shape.abi r) → IsFit v → IsFit (entered v r s)
entered_fits v r s words entry f = let k = f.0 in (record { begins = k.begins; sized = k.sized; given = k.given; asked = k.asked; ends = k.ends; written = entry; read = k.read }, words, f.2)

granted_fits : (v : View) (r : Option Request) (place : ℕ) → ((x : Request) → r ≡ Some x → AllByRecursion (λ (n : ℕ). n < 2 ^ 32) (entry_of v.shape.abi x)) → IsFit v → IsFit (granted r place v)
granted_fits v None place entry f = f
granted_fits v (Some r) place entry f =
    either (nat_lt (place + 1) (length r.frames.items)) (at (stage.GrantFrame (place + 1)) v) (entered v r (stage.Slot 0)) (λ t. (f.0, tt, f.2)) (λ t. entered_fits v r (stage.Slot 0) tt (entry r refl) f)

begun_fits : (v : View) (r : Request) (way : Transfer) → AllByRecursion (λ (n : ℕ). n < 2 ^ 32) (entry_of v.shape.abi r) → IsFit v → IsFit (begun v r way)
begun_fits v r transfer.Read entry f = (f.0, either_stage (is_indirect r.count) (stage.Pages 1) (stage.GrantFence 0) tt tt, f.2)
begun_fits v r transfer.Flush entry f = entered_fits v r (stage.Slot 1) tt entry f
begun_fits v r (transfer.Discard sectors) entry f = entered_fits v r (stage.Slot 1) tt entry f
begun_fits v r other entry f = (f.0, tt, f.2)

loop_fits : (v : View) (r : Option Request) (x : FrontAnswer) → ((y : Request) → r ≡ Some y → AllByRecursion (λ (n : ℕ). n < 2 ^ 32) (entry_of v.shape.abi y)) → IsFit v → FrontTells x → IsFit (loop_step v r x)
loop_fits v (Some r) x entry f small = begun_fits v r r.transfer (entry r refl) f
loop_fits v None (answer.Word word) entry f small =
    either (responses_of v.ring.indices v.ring.seen == 0) (looked v word (record v { ring = record v.ring { seen = word }; stage = stage.StoreEvent })) (at (stage.ResponseHigh word) v)
    (λ t. looked_fits v word (record v { ring = record v.ring { seen = word }; stage = stage.StoreEvent }) small f (f.0, tt, f.2)) (λ t. (f.0, small, f.2))
loop_fits v None answer.Event entry f small = f
loop_fits v None x entry f small = f

-- a request that is found is one of them
abbrev IsAskedFound : Option (ℕ × Request) → Type 0
IsAskedFound None = Unit {0}
IsAskedFound (Some found) = IsAsked found.1

found_asked : (requests : List Request) (place : Option ℕ) → All IsAsked requests → IsAskedFound (found_at requests place)
found_asked requests None all = tt
found_asked requests (Some place) all = by_request (slice_get requests place) refl
  where
    by_request : (x : Option Request) → slice_get requests place ≡ x → IsAskedFound (option_map (λ (r : Request). (place, r)) x)
    by_request None e = tt
    by_request (Some r) e = all_at IsAsked requests place r all e

-- a response that is none is known by its last word
abbrev IsWrongWord : Result Response ℕ → Type 0
IsWrongWord (Ok response) = Unit {0}
IsWrongWord (Err word) = word < 2 ^ 32

wrong_word : (words : List ℕ) (s : Option Status) → slice_index words 2 < 2 ^ 32 → IsWrongWord (response_with words s)
wrong_word words None small = small
wrong_word words (Some status) small = tt

response_fits : (v : View) (response : Result Response ℕ) (low : ℕ) (found : Option (ℕ × Request)) → low < 2 ^ 32 → IsWrongWord response → IsAskedFound found → IsFit v → IsFit (response_at v response low found)
response_fits v response low None small wrong is f = (f.0, tt, small)
response_fits v (Err word) low (Some found) small wrong is f = (f.0, tt, wrong)
response_fits v (Ok response) low (Some found) small wrong is f =
    let k = f.0 in
    let rest = All-append IsAsked _ _ (All-take IsAsked found.0 v.requests k.asked) (All-drop IsAsked (suc found.0) v.requests k.asked) in
    let number = is.number in
    either (length found.1.frames.items == 0) (answered (freed v found.0) found.1 response.status) (revokes (freed v found.0) found.1 response.status)
    (λ t. (record { begins = k.begins; sized = k.sized; given = k.given; asked = rest; ends = k.ends; written = k.written; read = k.read }, tt, omega arith))
    (λ t. (record { begins = k.begins; sized = k.sized; given = k.given; asked = rest; ends = is; written = k.written; read = k.read }, tt, f.2))

ended_fits : (v : View) (e : Ending) → IsAsked e.request → IsFit v → IsFit (ended e v)
ended_fits v e is f =
    let number = is.number in
    either (has_data e.request.transfer e.status) (record v { stage = stage.ReadData 0; told = Some (told.Answer e.request.number e.status) }) (record (finished e v) { told = Some (told.Answer e.request.number e.status) })
    (λ t. (f.0, omega arith, omega arith)) (λ t. (ending_now None tt f.0, tt, omega arith))

revoked_fits : (v : View) (ending : Option Ending) (place : ℕ) → IsAskedEnding ending → IsFit v → IsFit (revoked ending place v)
revoked_fits v None place is f = f
revoked_fits v (Some e) place is f = either (nat_lt (place + 1) (length e.request.frames.items)) (at (stage.GrantRead (place + 1)) v) (ended e v) (λ t. (f.0, tt, f.2)) (λ t. ended_fits v e is f)

told_fits : (v : View) (e : Ending) (n : ℕ) (words : List ℕ) → IsAsked e.request → n < 983040 → IsSector words → IsFit v → IsFit (sector_told e n words v)
told_fits v e n words is below sector f =
    let number = is.number in
    let k = f.0 in
    let now : AreNumbers v.offers.sectors v.start v.last v.requests v.ending v.ring.entry words = record { begins = k.begins; sized = k.sized; given = k.given; asked = k.asked; ends = k.ends; written = k.written; read = sector } in
    either (n % 128 == 127) (record v { words = words; told = Some (told.Sector e.request.number (n / 128) words) }) (record v { words = words })
    (λ t. (now, f.1, (omega arith, omega arith, sector))) (λ t. (now, f.1, f.2))

still_below : (n count : ℕ) → count ≤ 7680 → nat_lt (n + 1) (128 * count) ≡ true → n + 1 < 983040
still_below n count few more = grind (arith, nat_tests)

-- with one more word of a sector
sector_fits : (v : View) (e : Ending) (n word : ℕ) → n < 983040 → word < 2 ^ 32 → IsAsked e.request → IsFit v → IsFit (sector_told e n (slice_set v.words (n % 128) word) v)
sector_fits v e n word below small is f =
    let read = f.0.read in
    let length_is = length-set v.words (n % 128) word in
    let size = read.size in
    told_fits v e n (slice_set v.words (n % 128) word) is below (record { size = omega arith; fits = All-set (λ (w : ℕ). w < 2 ^ 32) v.words (n % 128) word small read.fits }) f

data_fits : (v : View) (ending : Option Ending) (n word : ℕ) → n < 983040 → word < 2 ^ 32 → IsAskedEnding ending → IsFit v → IsFit (data_step ending n word v)
data_fits v None n word below small is f = f
data_fits v (Some e) n word below small is f =
    let words = slice_set v.words (n % 128) word in
    let y : IsFit (sector_told e n words v) = sector_fits v e n word below small is f in
    either (nat_lt (n + 1) (words_in e.request)) (at (stage.ReadData (n + 1)) (sector_told e n words v)) (finished e (sector_told e n words v))
    (λ more. (y.0, still_below n e.request.count is.few more, y.2)) (λ last. (ending_now None tt y.0, tt, y.2))

left_fits : (v : View) (ending : Option Ending) (n word : ℕ) → n < 983040 → word < 2 ^ 32 → IsAskedEnding ending → IsFit v → IsFit (left_step ending n word v)
left_fits v None n word below small is f = f
left_fits v (Some e) n word below small is f =
    let words = slice_set v.words (n % 128) word in
    let y : IsFit (sector_told e n words v) = sector_fits v e n word below small is f in
    either (nat_lt (n + 1) (words_in e.request)) (at (stage.LeftData (n + 1)) (sector_told e n words v)) (at (stage.RingWord 0) (finished e (sector_told e n words v)))
    (λ more. (y.0, still_below n e.request.count is.few more, y.2)) (λ last. (ending_now None tt y.0, tt, y.2))

-- an answer of the front's ask
step_fits : (s : FrontStage) (v : View) (x : FrontAnswer) → AreShared v.requests → HasWords s → IsFit v → FrontTells x → IsFit (step_at s v x)
step_fits (stage.RingWord k) v x shared h f small = (f.0, either_stage (k == 15) (stage.RingFrame 0) (stage.RingWord (k + 1)) tt tt, f.2)
step_fits (stage.RingFrame page) v x shared h f small = (f.0, tt, f.2)
step_fits (stage.RingFence page) v x shared h f small = (f.0, tt, f.2)
step_fits (stage.RingFlags page) v x shared h f small = (f.0, either_stage (nat_lt (page + 1) (2 ^ v.shape.order)) (stage.RingFrame (page + 1)) stage.NewPort tt tt, f.2)
step_fits stage.NewPort v x shared h f small = (f.0, tt, f.2)
step_fits stage.Loop v x shared h f small = loop_fits v (next_request v) x (λ r e. issued_entry v r f.0.asked shared e) f small
step_fits (stage.Data n) v x shared h f small = (f.0, data_words (next_request v) n, f.2)
step_fits (stage.Pages n) v x shared h f small = (f.0, naming_had (next_request v) n, f.2)
step_fits (stage.GrantFrame place) v x shared h f small = (f.0, tt, f.2)
step_fits (stage.GrantFence place) v x shared h f small = (f.0, tt, f.2)
step_fits (stage.GrantFlags place) v x shared h f small = granted_fits v (next_request v) place (λ r e. issued_entry v r f.0.asked shared e) f
step_fits (stage.Slot k) v x shared h f small = (f.0, either_stage (k + 1 == entry_words_of v.shape.abi) stage.Producer (stage.Slot (k + 1)) tt tt, f.2)
step_fits stage.Producer v x shared h f small = (f.0, tt, f.2)
step_fits (stage.ProducerFence old) v x shared h f small = (f.0, tt, f.2)
step_fits (stage.RequestEvent old) v (answer.Word event) shared h f small = (f.0, either_stage (notifies old v.ring.indices.prod event) stage.Send stage.Loop tt tt, f.2)
step_fits stage.Send v x shared h f small = (f.0, tt, f.2)
step_fits (stage.ResponseHigh low) v (answer.Word high) shared h f small = (f.0, h, f.2)
step_fits (stage.ResponseLast low high) v (answer.Word last) shared h f small =
    response_fits v (response_of (low ∷ high ∷ last ∷ [])) low (issued v (low + high * 2 ^ 32)) h (wrong_word (low ∷ high ∷ last ∷ []) (status_of (last / 2 ^ 16)) small)
    (found_asked v.requests (position (λ (r : Request). r.number == low + high * 2 ^ 32) (take (length v.requests - v.waiting) v.requests)) f.0.asked) f
step_fits (stage.GrantRead place) v (answer.Word word) shared h f small = either (is_mapped word) (broken word v) (at (stage.GrantEnd place word) v) (λ t. (f.0, tt, small)) (λ t. (f.0, small, f.2))
step_fits (stage.GrantEnd place before) v (answer.Word word) shared h f small =
    either (word == before) (revoked v.ending place v) (broken word v) (λ t. revoked_fits v v.ending place f.0.ends f) (λ t. (f.0, tt, small))
step_fits (stage.ReadData n) v (answer.Word word) shared h f small = data_fits v v.ending n word h small f.0.ends f
step_fits (stage.LeftData n) v (answer.Word word) shared h f small = left_fits v v.ending n word h small f.0.ends f
step_fits stage.StoreEvent v x shared h f small = (f.0, tt, f.2)
step_fits stage.EventFence v x shared h f small = (f.0, tt, f.2)
step_fits stage.LookAgain v (answer.Word word) shared h f small = looked_fits v word (record v { ring = record v.ring { seen = word; asleep = true }; stage = stage.Loop }) small f (f.0, tt, f.2)
step_fits (stage.RingRead page) v (answer.Word word) shared h f small = either (is_mapped word) (broken word v) (at (stage.RingEnd page word) v) (λ t. (f.0, tt, small)) (λ t. (f.0, small, f.2))
step_fits (stage.RingEnd page before) v (answer.Word word) shared h f small =
    either (word == before) (at (ring_left v page) v) (broken word v) (λ t. (f.0, either_stage (nat_lt (page + 1) (2 ^ v.shape.order)) (stage.RingRead (page + 1)) stage.ClosePort tt tt, f.2)) (λ t. (f.0, tt, small))
step_fits stage.ClosePort v x shared h f small = (f.0, tt, f.2)
step_fits s v x shared h f small = f

pub front_fits : (v : View) (x : FrontAnswer) → AreShared v.requests → IsFit v → FrontTells x → IsFit (step_of v x)
front_fits v x shared f small = step_fits v.stage v x shared f.1 f small

-- after a suspend the requests are those that were there, with the one whose grants were being ended
some_asked : (ending : Option Ending) → IsAskedEnding ending → IfSome ending (λ (e : Ending). IsAsked e.request)
some_asked None is = tt
some_asked (Some e) is = is

after_asked : (s : FrontStage) (ending : Option Ending) → IsAskedEnding ending → IsAskedEnding (ending_after s ending)
after_asked (stage.GrantRead place) ending is = tt
after_asked (stage.GrantEnd place before) ending is = tt
after_asked s ending is = is

after_words : (s : FrontStage) → HasWords s → HasWords (stage_after s)
after_words (stage.ReadData n) words = words
after_words (stage.LeftData n) words = words
after_words s words = tt

pub suspended_fits : (v : View) → IsFit v → IsFit (suspended v)
suspended_fits v f =
    let k = f.0 in
    front_cases IsFit v
    (λ on. (
      record {
        begins = k.begins;
        sized = omega arith;
        given = k.given;
        asked = after_all IsAsked v.stage v.ending v.requests (some_asked v.ending k.ends) k.asked;
        ends = after_asked v.stage v.ending k.ends;
        written = k.written;
        read = k.read;
      },
      after_words v.stage f.1,
      f.2,
    )) (λ closed. f)

-- a state that it enters, and its line
pub enters_fits : (w : World) (s : FrontState) (v : View) → IsStated w s → IsFit v → IsFit (enters s v) × AreGood (enter_lines s v)
enters_fits w s v small f = enters_cases (λ x shown. IsFit x × AreGood shown) s v (λ may. entered s small) (f, tt)
  where
    entered : (s : FrontState) → IsStated w s → IsFit (in_state s v) × AreGood (state_lines s)
    entered (state.Agreed order) small = (f, tt)
    entered (state.Connected offers) small = ((sized_now small f.0, tt, f.2), (good lines.Ready tt refl, tt))
    entered state.Closing small = (f, (good lines.Closing tt refl, tt))
    entered state.Leaving small = ((f.0, tt, f.2), tt)
    entered state.Closed small = ((f.0, tt, f.2), (good lines.Closed tt refl, tt))
    entered (state.Broken word) small = ((f.0, tt, f.2), (good (lines.Broken word) small refl, tt))

-- what it tells is lines of the grammar
pub front_good : (t : Option Told) → TellsWords t → AreGood (front_lines t)
front_good None h = tt
front_good (Some (told.Answer id status)) h = (good (lines.Answer id status) h refl, tt)
front_good (Some (told.Sector id index words)) h = (good (lines.Data id index words) h refl, tt)
front_good (Some (told.Broken word)) h = (good (lines.Broken word) h refl, tt)
