-- What the lines of a trace tell of the front's end of the ring (`io/ring.h`, `io/blkif.h`, `grant_table.h`).
use Rattle.std.specs.Prelude.{ℕ, ◌+◌, ◌*◌, ◌/◌, ◌^◌, Bool, ◌&&◌, ◌||◌, ◌==◌, nat_lt, List, [], ◌∷◌, ◌++◌, length, find, slice_index, Option, Some, None, if◌then◌else◌}
use Rattle.blk_base.specs.Options.{Options}
use Rattle.blk_base.specs.declared.operation.Status.{Status}
use Rattle.blk_base.specs.declared.ask.FrontAsk.{FrontAsk}
use Rattle.blk_base.specs.declared.ask.FrontAsk.TheVariants.{Read, Write, Cas}
use Rattle.blk_base.specs.declared.ask.FrontAnswer.{FrontAnswer}
use Rattle.blk_base.specs.declared.ask.FrontAnswer.TheVariants.{Word}
use Rattle.ring_words.specs.Ring.{next_of}
use Rattle.ring_words.specs.Shape.{Shape}
use Rattle.blk_layout.specs.Places.{places_of}
use Rattle.blk_layout.specs.Response.{status_of}
use Rattle.blk_front.specs.declared.request.Request.{Request}
use Rattle.blk_front.specs.declared.state.FrontState.TheVariants as state
use Rattle.blk_front.specs.declared.told.Told.{Told}
use Rattle.blk_front.specs.declared.told.Told.TheVariants as told
use Rattle.front_laws.specs.History.{Line, Asked, Submitted, Entered, Suspended}

-- A response that was taken and isn't answered yet: its three words, the request that it names and its status, and how many of the request's grants were ended since.
pub record Taken : Type 0 where
  pub words : List ℕ
  pub request : Request
  pub status : Status
  pub ended : ℕ

-- The ring's first index and its shape. Of this epoch: the requests' producer as the front wrote it last, and its consumer, one further with each response that it took;
-- the words of the entry that it writes, and those of the response that it reads, so far; the requests that it issued and whose response it hasn't taken; the response that was taken last and isn't answered.
-- Of all epochs: the requests that were submitted, and the numbers of those that were answered;
-- the request that was answered last, which of its sectors is read, and the words of that sector so far.
pub record Sight : Type 0 where
  pub start : ℕ
  pub shape : Shape
  pub prod : ℕ
  pub cons : ℕ
  pub entry : List ℕ
  pub response : List ℕ
  pub issued : List Request
  pub taken : Option Taken
  pub submitted : List Request
  pub answered : List ℕ
  pub telling : Option Request
  pub sector : ℕ
  pub words : List ℕ

abbrev pub nothing_seen : Options → Sight
nothing_seen config = record {
  start = config.start;
  shape = record { abi = config.abi; order = config.order };
  prod = config.start;
  cons = config.start;
  entry = [];
  response = [];
  issued = [];
  taken = None;
  submitted = [];
  answered = [];
  telling = None;
  sector = 0;
  words = [];
}

-- the front's frames 0 and 1 are its grant table, 2 to 17 its ring, whose first 16 words are the indices of both ends, and those from 18 on hold data
abbrev pub is_of_grants : ℕ → Bool
is_of_grants frame = nat_lt frame 2

abbrev pub is_of_data : ℕ → Bool
is_of_data frame = nat_lt 17 frame

abbrev pub is_of_indices : (frame word : ℕ) → Bool
is_of_indices frame word = (frame == 2) && nat_lt word 16

-- a number of 64 bits, as two words hold it
abbrev pub wide : (low high : ℕ) → ℕ
wide low high = low + high * 2 ^ 32

-- the request of a number
abbrev pub numbered : ℕ → List Request → Option Request
numbered number requests = find (λ (r : Request). r.number == number) requests

-- the others: the first of that number is taken out
abbrev pub without : ℕ → List Request → List Request
without number [] = []
without number (r ∷ requests) = if r.number == number then requests else r ∷ without number requests

-- the id in the words of an entry (struct blkif_request)
abbrev pub entry_id : Sight → ℕ
entry_id s = wide (slice_index s.entry (places_of s.shape.abi).id) (slice_index s.entry ((places_of s.shape.abi).id + 1))

-- a producer that goes on issues the request whose entry was written
abbrev pub issue : Option Request → Sight → Sight
issue None s = s
issue (Some r) s = record s { issued = s.issued ++ r ∷ [] }

abbrev pub pushed : ℕ → Sight → Sight
pushed produced s = if produced == s.prod then s else record (issue (numbered (entry_id s) s.submitted) s) { prod = produced; entry = [] }

-- a word of the ring's first page, or of its entries
abbrev pub wrote : (frame word value : ℕ) → Sight → Sight
wrote frame word value s =
    if is_of_grants frame || is_of_data frame then s
    else (if is_of_indices frame word then (if word == 0 then pushed value s else s)
    else record s { entry = s.entry ++ value ∷ [] })

-- The three words of a response were read: its id (struct blkif_response), and its status.
abbrev pub response_id : List ℕ → ℕ
response_id words = wide (slice_index words 0) (slice_index words 1)

abbrev pub response_status : List ℕ → Option Status
response_status words = status_of (slice_index words 2 / 2 ^ 16)

-- where the request is issued and the status is one, the response is taken
abbrev pub response_taken : List ℕ → Option Request → Option Status → Sight → Sight
response_taken words (Some r) (Some status) s = record s {
  cons = next_of s.cons;
  response = [];
  issued = without r.number s.issued;
  taken = Some (record { words = words; request = r; status = status; ended = 0 });
}
response_taken words found status s = record s { response = words }

abbrev pub response_read : List ℕ → Sight → Sight
response_read words s =
    if length words == 3 then response_taken words (numbered (response_id words) s.issued) (response_status words) s
    else record s { response = words }

abbrev pub read : (frame word value : ℕ) → Sight → Sight
read frame word value s =
    if is_of_grants frame then s
    else (if is_of_data frame then record s { words = s.words ++ value ∷ [] }
    else (if is_of_indices frame word then s
    else response_read (s.response ++ value ∷ []) s))

-- a grant of the request whose response was taken is ended
abbrev pub grant_ended : Option Taken → Option Taken
grant_ended None = None
grant_ended (Some taken) = Some (record taken { ended = taken.ended + 1 })

-- an ask was answered
abbrev pub moved : FrontAsk → FrontAnswer → Sight → Sight
moved (Read frame word) (Word value) s = read frame word value s
moved (Write frame word value) answer s = wrote frame word value s
moved (Cas frame word old new) (Word seen) s = if seen == old then record s { taken = grant_ended s.taken } else s
moved ask answer s = s

-- something was told of it
abbrev pub request_of : Option Taken → Option Request
request_of None = None
request_of (Some taken) = Some taken.request

abbrev pub told_so : Option Told → Sight → Sight
told_so (Some (told.Answer id status)) s = record s {
  taken = None;
  answered = s.answered ++ id ∷ [];
  telling = request_of s.taken;
  sector = 0;
  words = [];
}
told_so (Some (told.Sector id index words)) s = record s { sector = s.sector + 1; words = [] }
told_so told s = s

-- the ring begins anew, with this shape
abbrev pub anew : Sight → Sight
anew s = record s { prod = s.start; cons = s.start; entry = []; response = []; issued = []; taken = None }

-- after a line
abbrev pub after_line : Sight → Line → Sight
after_line s (Asked ask answer told) = told_so told (moved ask answer s)
after_line s (Submitted r) = record s { submitted = s.submitted ++ r ∷ [] }
after_line s (Entered (state.Agreed order)) = record (anew s) { shape = record s.shape { order = order } }
after_line s (Entered state) = s
after_line s Suspended = anew s

-- what each line is in sight of those before it
abbrev pub Each : (Sight → Line → Type 0) → Sight → List Line → Type 0
Each Rule s [] = Unit {0}
Each Rule s (line ∷ lines) = Rule s line × Each Rule (after_line s line) lines
