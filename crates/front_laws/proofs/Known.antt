-- What the lines so far tell of the front is what it has, at each of its stages.
use Rattle.std.proofs.Common.{◌≡◌, ◌≢◌, ℕ, ◌+◌, ◌-◌, ◌*◌, ◌^◌, ◌<◌, ◌≤◌, Bool, List, [], ◌∷◌, length, take, sym, subst}
use Rattle.std.specs.Prelude.{All, AllPairs, Option, Some, None}
use Rattle.blk_base.specs.declared.ask.FrontAsk.{FrontAsk}
use Rattle.blk_base.specs.declared.ask.FrontAnswer.{FrontAnswer}
use Rattle.ring_words.specs.Shape.{Shape, entry_words_of}
use Rattle.blk_front.specs.declared.request.Request.{Request}
use Rattle.blk_front.specs.declared.stage.FrontStage.{FrontStage}
use Rattle.blk_front.specs.declared.stage.FrontStage.TheVariants as stage
use Rattle.blk_front.specs.declared.stage.Ending.{Ending}
use Rattle.blk_front.specs.declared.told.Told.{Told}
use Rattle.blk_front.specs.Sound.{AreAscending, IsApart}
use Rattle.blk_front.specs.Entry.{entry_of}
use Rattle.blk_front.specs.View.{View, next_request}
use Rattle.front_laws.specs.Sight.{Sight, Taken, numbered, moved, told_so}
use Rattle.front_laws.specs.Told.{told_of}
use Rattle.front_laws.proofs.Places.{IsPooled}

-- what the lines tell of the ring and of the requests, and what the front has of them
pub record Core : Type 0 where
  pub start : ℕ
  pub shape : Shape
  pub prod : ℕ
  pub cons : ℕ
  pub issued : List Request
  pub submitted : List Request
  pub answered : List ℕ

abbrev pub core_of : Sight → Core
core_of s = record { start = s.start; shape = s.shape; prod = s.prod; cons = s.cons; issued = s.issued; submitted = s.submitted; answered = s.answered }

pub record Share : Type 0 where
  pub start : ℕ
  pub shape : Shape
  pub prod : ℕ
  pub cons : ℕ
  pub last : ℕ
  pub waiting : ℕ
  pub requests : List Request

abbrev pub share_of : View → Share
share_of v = record { start = v.start; shape = v.shape; prod = v.ring.indices.prod; cons = v.ring.indices.cons; last = v.last; waiting = v.waiting; requests = v.requests }

-- a request with frames of the pool, which has data where it has frames; its number was given, is its own and isn't answered yet
pub record IsFine (submitted : List Request) (answered : List ℕ) (last : ℕ) (r : Request) : Type 0 where
  pub pooled : All IsPooled r.frames.items
  pub counted : 0 < length r.frames.items → 0 < r.count
  pub given : r.number ≤ last
  pub known : numbered r.number submitted ≡ Some r
  pub unanswered : All (λ (id : ℕ). id ≢ r.number) answered

-- no number is answered twice
abbrev pub AreOnce : List ℕ → Type 0
AreOnce answered = AllPairs (λ (m n : ℕ). m ≢ n) answered

pub record Agree (c : Core) (k : Share) : Type 0 where
  pub start : c.start ≡ k.start
  pub shape : c.shape ≡ k.shape
  pub prod : c.prod ≡ k.prod
  pub cons : c.cons ≡ k.cons
  pub small : k.start < 2 ^ 32
  pub word : k.prod < 2 ^ 32
  pub few : k.shape.order ≤ 4
  pub waits : k.waiting ≤ length k.requests
  pub issued : c.issued ≡ take (length k.requests - k.waiting) k.requests
  pub fine : All (IsFine c.submitted c.answered k.last) k.requests
  pub ascending : AreAscending k.requests
  pub submitted : All (λ (r : Request). r.number ≤ k.last) c.submitted
  pub answered : All (λ (id : ℕ). id ≤ k.last) c.answered
  pub once : AreOnce c.answered

-- the pool and the words of a sector have their sizes
pub record IsSized (pool : List Bool) (words : List ℕ) : Type 0 where
  pub frames : length pool ≡ 1000
  pub sector : length words ≡ 128

-- what of a sight and of the front a stage speaks of
pub record Hand : Type 0 where
  pub entry : List ℕ
  pub response : List ℕ
  pub taken : Option Taken
  pub telling : Option Request
  pub sector : ℕ
  pub read : List ℕ
  pub submitted : List Request
  pub answered : List ℕ

abbrev pub hand_of : Sight → Hand
hand_of s = record { entry = s.entry; response = s.response; taken = s.taken; telling = s.telling; sector = s.sector; read = s.words; submitted = s.submitted; answered = s.answered }

pub record Parts : Type 0 where
  pub start : ℕ
  pub shape : Shape
  pub prod : ℕ
  pub cons : ℕ
  pub last : ℕ
  pub waiting : ℕ
  pub requests : List Request
  pub next : Option Request
  pub entry : List ℕ
  pub ending : Option Ending
  pub words : List ℕ

abbrev pub parts_of : View → Parts
parts_of v = record {
  start = v.start;
  shape = v.shape;
  prod = v.ring.indices.prod;
  cons = v.ring.indices.cons;
  last = v.last;
  waiting = v.waiting;
  requests = v.requests;
  next = next_request v;
  entry = v.ring.entry;
  ending = v.ending;
  words = v.words;
}

-- nothing is in hand
pub record IsIdle (wrote answer : List ℕ) (going : Option Taken) (sector : List ℕ) : Type 0 where
  pub entry : wrote ≡ []
  pub response : answer ≡ []
  pub taken : going ≡ None
  pub read : sector ≡ []

abbrev pub Idle : Hand → Type 0
Idle h = IsIdle h.entry h.response h.taken h.read

-- the ring begins anew, and each request waits
abbrev pub IsAnew : Parts → Type 0
IsAnew p = (p.prod ≡ p.start) × (p.cons ≡ p.start) × (p.waiting ≡ length p.requests)

-- a request is issued
abbrev pub IsIssuing : Option Request → Type 0
IsIssuing next = (r : Request) × (next ≡ Some r)

-- so many words of its entry are written
pub record IsWriting (h : Hand) (next : Option Request) (writing : List ℕ) (shape : Shape) (k : ℕ) : Type 0 where
  pub r : Request
  pub next_is : next ≡ Some r
  pub entry_is : writing ≡ entry_of shape.abi r
  pub within : k ≤ entry_words_of shape.abi
  pub words : h.entry ≡ take k (entry_of shape.abi r)
  pub response : h.response ≡ []
  pub taken : h.taken ≡ None
  pub read : h.read ≡ []

-- these words of a response are read
pub record IsReading (h : Hand) (words : List ℕ) : Type 0 where
  pub entry : h.entry ≡ []
  pub response : h.response ≡ words
  pub taken : h.taken ≡ None
  pub read : h.read ≡ []

-- so many grants of a request are ended, whose response was taken
pub record IsEnding (h : Hand) (requests : List Request) (last : ℕ) (ending : Option Ending) (place : ℕ) : Type 0 where
  pub e : Ending
  pub ending_is : ending ≡ Some e
  pub t : Taken
  pub taken_is : h.taken ≡ Some t
  pub request : t.request ≡ e.request
  pub status : t.status ≡ e.status
  pub ended : t.ended ≡ place
  pub within : place < length e.request.frames.items
  pub fine : IsFine h.submitted h.answered last e.request
  pub apart : IsApart requests last e
  pub entry : h.entry ≡ []
  pub response : h.response ≡ []
  pub read : h.read ≡ []

-- so many words of a request's data were read
pub record IsTelling (h : Hand) (sector : List ℕ) (ending : Option Ending) (n : ℕ) : Type 0 where
  pub e : Ending
  pub ending_is : ending ≡ Some e
  pub telling : h.telling ≡ Some e.request
  pub at : n ≡ 128 * h.sector + length h.read
  pub short : length h.read < 128
  pub words : take (length h.read) sector ≡ h.read
  pub within : n < 128 * e.request.count
  pub pooled : All IsPooled e.request.frames.items
  pub entry : h.entry ≡ []
  pub response : h.response ≡ []
  pub taken : h.taken ≡ None

abbrev pub At : FrontStage → Hand → Parts → Type 0
At (stage.RingWord k) h p = (k < 16) × IsAnew p × Idle h
At (stage.RingFrame page) h p = (page < 2 ^ p.shape.order) × Idle h
At (stage.RingFence page) h p = (page < 2 ^ p.shape.order) × Idle h
At (stage.RingFlags page) h p = (page < 2 ^ p.shape.order) × Idle h
At stage.NewPort h p = Idle h
At stage.Initialised h p = Idle h
At stage.Loop h p = Idle h
At (stage.Data n) h p = IsIssuing p.next × Idle h
At (stage.Pages n) h p = IsIssuing p.next × Idle h
At (stage.GrantFrame place) h p = IsIssuing p.next × Idle h
At (stage.GrantFence place) h p = IsIssuing p.next × Idle h
At (stage.GrantFlags place) h p = IsIssuing p.next × Idle h
At (stage.Slot k) h p = (k < entry_words_of p.shape.abi) × IsWriting h p.next p.entry p.shape k
At stage.Producer h p = IsWriting h p.next p.entry p.shape (entry_words_of p.shape.abi)
At (stage.ProducerFence old) h p = Idle h
At (stage.RequestEvent old) h p = Idle h
At stage.Send h p = Idle h
At (stage.ResponseHigh low) h p = IsReading h (low ∷ [])
At (stage.ResponseLast low high) h p = IsReading h (low ∷ high ∷ [])
At (stage.GrantRead place) h p = IsEnding h p.requests p.last p.ending place
At (stage.GrantEnd place before) h p = IsEnding h p.requests p.last p.ending place
At (stage.ReadData n) h p = IsTelling h p.words p.ending n
At (stage.LeftData n) h p = IsAnew p × IsTelling h p.words p.ending n
At stage.StoreEvent h p = Idle h
At stage.EventFence h p = Idle h
At stage.LookAgain h p = Idle h
At (stage.RingRead page) h p = (page < 2 ^ p.shape.order) × Idle h
At (stage.RingEnd page before) h p = (page < 2 ^ p.shape.order) × Idle h
At stage.ClosePort h p = Idle h
At (stage.KeptRead frame) h p = Idle h
At (stage.KeptEnd frame seen) h p = Idle h
At stage.Left h p = Idle h
At stage.Closed h p = Unit {0}
At (stage.Broken word) h p = Unit {0}

pub record IsKnown (t : FrontStage) (c : Core) (k : Share) (pool : List Bool) (h : Hand) (p : Parts) : Type 0 where
  pub agree : Agree c k
  pub sized : IsSized pool p.words
  pub at : At t h p

-- no more is said of a closed or broken front, which does nothing more
abbrev pub Known : FrontStage → Sight → View → Type 0
Known stage.Closed s v = AreOnce s.answered
Known (stage.Broken word) s v = AreOnce s.answered
Known t s v = IsKnown t (core_of s) (share_of v) v.pool (hand_of s) (parts_of v)

abbrev pub Knows : Sight → View → Type 0
Knows s v = Known v.stage s v

-- what was due is told, and the lines still tell what the front has
pub record Goes (m : Sight) (due : Option Told) (x : View) : Type 0 where
  pub told : x.told ≡ due
  pub knows : Knows (told_so x.told m) x

pub goes : (s m : Sight) (ask : FrontAsk) (answer : FrontAnswer) (due : Option Told) (x : View) → told_of s ask answer ≡ due → moved ask answer s ≡ m → Goes m due x → Goes (moved ask answer s) (told_of s ask answer) x
goes s m ask answer due x is so g = subst (λ (n : Sight). Goes n (told_of s ask answer) x) (sym so) (subst (λ (o : Option Told). Goes m o x) (sym is) g)

-- nothing is told
pub calm : (m : Sight) (x : View) → x.told ≡ None → Knows m x → Goes m None x
calm m x quiet knows = record { told = quiet; knows = subst (λ (t : Option Told). Knows (told_so t m) x) (sym quiet) knows }
