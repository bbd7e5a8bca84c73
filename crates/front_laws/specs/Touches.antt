-- What the front touches (`io/ring.h`, `grant_table.h`), in sight of the lines before.
use Rattle.std.specs.Prelude.{◌≡◌, ◌≢◌, ℕ, ◌+◌, ◌*◌, ◌/◌, ◌%◌, ◌≤◌, true, false, All, length, Some, None}
use Rattle.blk_base.specs.declared.ask.FrontAsk.{FrontAsk}
use Rattle.blk_base.specs.declared.ask.FrontAsk.TheVariants.{Read, Write, Cas}
use Rattle.blk_front.specs.declared.request.Request.{Request}
use Rattle.blk_front.specs.Request.{frame_at}
use Rattle.ring_words.specs.Ring.{next_of}
use Rattle.blk_front.specs.Entry.{entry_of}
use Rattle.blk_front.specs.View.{slot_frame, slot_word}
use Rattle.blk_front.specs.Ask.{StaysInMemory}
use Rattle.front_laws.specs.History.{Line, Asked}
use Rattle.front_laws.specs.Sight.{Sight, is_of_grants, is_of_data, is_of_indices, numbered, entry_id}

-- the reference of a word of the grant table, whose entries have two words each
abbrev pub reference_at : (frame word : ℕ) → ℕ
reference_at frame word = 512 * frame + word / 2

-- so many words were read of the data that are told
abbrev pub words_read : Sight → ℕ
words_read s = 128 * s.sector + length s.words

-- the word that is read of the data of the request that was answered last: the next one, of its frames in order
pub record IsNextData (s : Sight) (frame word : ℕ) : Type 0 where
  pub request : Request
  pub telling : s.telling ≡ Some request
  pub frame_is : frame ≡ frame_at request (words_read s / 1024)
  pub word_is : word ≡ words_read s % 1024

-- word i of the entry of index k (RING_GET_REQUEST, RING_GET_RESPONSE)
pub record IsSlot (s : Sight) (k i frame word : ℕ) : Type 0 where
  pub frame_is : frame ≡ slot_frame s.shape k i
  pub word_is : word ≡ slot_word s.shape k i

-- a word of an entry that is read is the next one of the response at the consumer
pub record IsRightRead (s : Sight) (frame word : ℕ) : Type 0 where
  pub response :
      is_of_grants frame ≡ false → is_of_data frame ≡ false → is_of_indices frame word ≡ false
      → IsSlot s s.cons (length s.response) frame word
  pub told : is_of_data frame ≡ true → IsNextData s frame word

-- The requests' producer goes on by one entry, each word of which is written: that of a request that was submitted and isn't answered, nor issued in this epoch.
pub record IsPush (s : Sight) (produced : ℕ) : Type 0 where
  pub next : produced ≡ next_of s.prod
  pub request : Request
  pub submitted : numbered (entry_id s) s.submitted ≡ Some request
  pub entry : s.entry ≡ entry_of s.shape.abi request
  pub unanswered : All (λ (id : ℕ). id ≢ request.number) s.answered
  pub unissued : numbered request.number s.issued ≡ None

-- A word of an entry that is written is the next one of the entry at the producer.
-- A grant's entry that is written is that of a frame of its own, which has that frame's reference less 6, and names that frame.
pub record IsRightWrite (s : Sight) (frame word value : ℕ) : Type 0 where
  pub entry : is_of_grants frame ≡ false → is_of_data frame ≡ false → is_of_indices frame word ≡ false → IsSlot s s.prod (length s.entry) frame word
  pub own : is_of_grants frame ≡ true → 8 ≤ reference_at frame word
  pub named : is_of_grants frame ≡ true → word % 2 ≡ 1 → value + 6 ≡ reference_at frame word
  pub pushes : frame ≡ 2 → word ≡ 0 → value ≢ s.prod → IsPush s value

-- an exchange ends a grant of a frame of its own
pub record IsRightEnd (frame word new : ℕ) : Type 0 where
  pub grants : is_of_grants frame ≡ true
  pub own : 8 ≤ reference_at frame word
  pub ends : new ≡ 0

abbrev pub IsRight : Sight → FrontAsk → Type 0
IsRight s (Read frame word) = IsRightRead s frame word
IsRight s (Write frame word value) = IsRightWrite s frame word value
IsRight s (Cas frame word old new) = IsRightEnd frame word new
IsRight s ask = Unit {0}

-- each ask on memory is of a word of the frames 0 to 1017, and of the right one
abbrev pub IsTouch : Sight → Line → Type 0
IsTouch s (Asked ask answer told) = StaysInMemory ask × IsRight s ask
IsTouch s line = Unit {0}
