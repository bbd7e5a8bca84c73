-- What an inspection leaves, and why it stops.
use Rattle.std.specs.Prelude.{◌≡◌, ◌≢◌, ℕ, ◌+◌, ◌*◌, ◌^◌, List, Option, Some, None, length, min}
use Rattle.blk_io.specs.Outside.{Rose, SourceSeen, SinkSeen, TakesBytes, FailsWriting}
use Rattle.ring_words.specs.Shape.{Shape}
use Rattle.ring_inspect.specs.declared.stop.InspectStop.{InspectStop}
use Rattle.ring_inspect.specs.declared.stop.InspectStop.TheVariants.{Length, Source, Sink, OutOfMemory}
use Rattle.ring_inspect.specs.Ring.{ring_text}

-- the bytes of a ring of 2 ^ order pages
abbrev pub bytes_of : ℕ → ℕ
bytes_of order = 4096 * 2 ^ order

-- these are all the bytes of a source that exposes them
abbrev pub AreAll : Option (List ℕ) → List ℕ → Type 0
AreAll None bytes = Unit {0}
AreAll (Some left) bytes = left ≡ bytes

-- how many bytes a source that exposes them had left, where more than one too many count as one too many
abbrev pub IsCount : Option (List ℕ) → ℕ → ℕ → Type 0
IsCount None size count = Unit {0}
IsCount (Some left) size count = count ≡ min (length left) (size + 1)

-- a source gave all its bytes, which are so many, and didn't fail
pub record GivesRing (size : ℕ) (bytes : List ℕ) (a b : SourceSeen) : Type 0 where
  pub long : length bytes ≡ size
  pub all : AreAll a.left bytes
  pub faults : b.faults ≡ a.faults

-- a source gave another number of bytes, and didn't fail
pub record GivesNoRing (size count : ℕ) (a b : SourceSeen) : Type 0 where
  pub other : count ≢ size
  pub count_is : IsCount a.left size count
  pub faults : b.faults ≡ a.faults

-- why a source gave no ring of that many bytes
abbrev pub IsNoRing : ℕ → SourceSeen → SourceSeen → InspectStop → Type 0
IsNoRing size a b (Length count) = GivesNoRing size count a b
IsNoRing size a b Source = Rose a.faults b.faults
IsNoRing size a b Sink = ⊥
IsNoRing size a b OutOfMemory = b.faults ≡ a.faults

-- a ring was read, and its text written
pub record IsShown (shape : Shape) (a b : SourceSeen) (before after : SinkSeen) : Type 0 where
  pub bytes : List ℕ
  pub read : GivesRing (bytes_of shape.order) bytes a b
  pub text : TakesBytes (ring_text shape bytes) before after

-- a ring was read, and the sink failed in its text
pub record IsPartlyShown (shape : Shape) (a b : SourceSeen) (before after : SinkSeen) : Type 0 where
  pub bytes : List ℕ
  pub read : GivesRing (bytes_of shape.order) bytes a b
  pub text : FailsWriting (ring_text shape bytes) before after

-- why an inspection stopped: no ring was read, or the sink failed
abbrev pub Stopped : Shape → (a b : SourceSeen) → (before after : SinkSeen) → InspectStop → Type 0
Stopped shape a b before after Sink = IsPartlyShown shape a b before after
Stopped shape a b before after stop = IsNoRing (bytes_of shape.order) a b stop
