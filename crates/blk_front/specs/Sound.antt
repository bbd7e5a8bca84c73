-- What is true of the front at every moment.
use Rattle.std.specs.Prelude.{◌≡◌, ◌≢◌, ℕ, ◌+◌, ◌^◌, ◌<◌, ◌≤◌, Bool, true, List, length, All, Option, IfSome, IsSome}
use Rattle.blk_base.specs.Distance.{distance_of}
use Rattle.ring_words.specs.Shape.{Shape, entries_of, entry_words_of}
use Rattle.blk_front.specs.declared.request.Request.{Request}
use Rattle.blk_front.specs.declared.stage.Ending.{Ending}
use Rattle.blk_front.specs.declared.stage.FrontStage.{FrontStage}
use Rattle.blk_front.specs.declared.stage.FrontStage.TheVariants as stage
use Rattle.blk_front.specs.Request.{IsShaped}
use Rattle.blk_front.specs.Submit.{ending_of}
use Rattle.blk_front.specs.View.{View}
use Rattle.resume_shadow.specs.Unfinished.{IsAscending}

-- the word, the page or the frame that a stage is at is one of those that it goes through
abbrev pub IsPlaced : FrontStage → Shape → Type 0
IsPlaced (stage.RingWord k) shape = k < 16
IsPlaced (stage.RingFrame page) shape = page < 2 ^ shape.order
IsPlaced (stage.RingFence page) shape = page < 2 ^ shape.order
IsPlaced (stage.RingFlags page) shape = page < 2 ^ shape.order
IsPlaced (stage.Data n) shape = n < 983040
IsPlaced (stage.Pages n) shape = n < 1920
IsPlaced (stage.GrantFrame place) shape = place < 962
IsPlaced (stage.GrantFence place) shape = place < 962
IsPlaced (stage.GrantFlags place) shape = place < 962
IsPlaced (stage.Slot k) shape = k < entry_words_of shape.abi
IsPlaced (stage.GrantRead place) shape = place < 962
IsPlaced (stage.GrantEnd place before) shape = place < 962
IsPlaced (stage.ReadData n) shape = n < 983040
IsPlaced (stage.LeftData n) shape = n < 983040
IsPlaced (stage.RingRead page) shape = page < 2 ^ shape.order
IsPlaced (stage.RingEnd page seen) shape = page < 2 ^ shape.order
IsPlaced (stage.KeptRead frame) shape = (18 ≤ frame) × (frame < 1018)
IsPlaced (stage.KeptEnd frame seen) shape = (18 ≤ frame) × (frame < 1018)
IsPlaced s shape = Unit {0}

-- kept grants are ended where grants are kept
abbrev pub IsKeeping : FrontStage → (persistent : Bool) → Type 0
IsKeeping (stage.KeptRead frame) persistent = persistent ≡ true
IsKeeping (stage.KeptEnd frame seen) persistent = persistent ≡ true
IsKeeping s persistent = Unit {0}

-- before the ring is made none is issued
abbrev pub IsUnissued : FrontStage → (count waiting : ℕ) → Type 0
IsUnissued (stage.RingWord k) count waiting = count ≡ waiting
IsUnissued (stage.LeftData n) count waiting = count ≡ waiting
IsUnissued s count waiting = Unit {0}

-- while data are told, the request is there
abbrev pub IsHeld : FrontStage → Option Ending → Type 0
IsHeld (stage.ReadData n) ending = IsSome ending
IsHeld (stage.LeftData n) ending = IsSome ending
IsHeld s ending = Unit {0}

-- while a request is issued, one waits
abbrev pub IsIssuing : FrontStage → ℕ → Type 0
IsIssuing (stage.Data n) waiting = 0 < waiting
IsIssuing (stage.Pages n) waiting = 0 < waiting
IsIssuing (stage.GrantFrame place) waiting = 0 < waiting
IsIssuing (stage.GrantFence place) waiting = 0 < waiting
IsIssuing (stage.GrantFlags place) waiting = 0 < waiting
IsIssuing (stage.Slot k) waiting = 0 < waiting
IsIssuing stage.Producer waiting = 0 < waiting
IsIssuing s waiting = Unit {0}

-- while a response is read, one is there
abbrev pub IsReading : FrontStage → ℕ → Type 0
IsReading (stage.ResponseHigh low) ahead = 0 < ahead
IsReading (stage.ResponseLast low high) ahead = 0 < ahead
IsReading s ahead = Unit {0}

-- each request's number is below those of the requests after it
abbrev pub AreAscending : List Request → Type 0
AreAscending requests = IsAscending (λ (r : Request). r.number) requests

-- the request that is ending is none of the others
abbrev pub IsOther : List Request → Ending → Type 0
IsOther requests e = All (λ (r : Request). r.number ≢ e.request.number) requests

-- so it is, and its number was given
pub record IsApart (requests : List Request) (last : ℕ) (e : Ending) : Type 0 where
  pub given : e.request.number ≤ last
  pub other : IsOther requests e

pub record IsSound (v : View) : Type 0 where
  pub order : v.shape.order ≤ 4
  pub entries : v.ring.indices.entries ≡ entries_of v.shape.order
  pub cons : v.ring.indices.cons < 2 ^ 32
  -- each request between the two indices is an issued one, and all fit the ring
  pub counted : length v.requests ≡ distance_of v.ring.indices.cons v.ring.indices.prod + v.waiting
  pub room : length v.requests + ending_of v.stage ≤ entries_of v.shape.order
  -- no more responses were seen than requests were pushed
  pub seen : distance_of v.ring.indices.cons v.ring.seen ≤ distance_of v.ring.indices.cons v.ring.indices.prod
  pub placed : IsPlaced v.stage v.shape
  pub keeping : IsKeeping v.stage v.offers.persistent
  pub unissued : IsUnissued v.stage (length v.requests) v.waiting
  pub issuing : IsIssuing v.stage v.waiting
  pub reading : IsReading v.stage (distance_of v.ring.indices.cons v.ring.seen)
  -- numbers were given in order, so an id is found without a walk
  pub ascending : AreAscending v.requests
  pub given : All (λ (r : Request). r.number ≤ v.last) v.requests
  -- each has its sectors and its frames
  pub shaped : All IsShaped v.requests
  pub held : IsHeld v.stage v.ending
  pub ending : IfSome v.ending (λ (e : Ending). IsShaped e.request)
  pub apart : IfSome v.ending (IsApart v.requests v.last)
