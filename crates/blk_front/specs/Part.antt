-- Words of a request's data, and of its entry, that are moved many at once: as many single moves, one after another.
use Rattle.std.specs.Prelude.{◌≡◌, ℕ, ◌+◌, ◌-◌, ◌/◌, ◌%◌, ◌<◌, ◌≤◌, List, [], ◌∷◌, length, map, replicate, slice_set, slice_index, drop, min, Option, Some, None, IsSome, IsSomeAnd, if◌then◌else◌, nat_lt, ◌==◌, ◌&&◌, Bool}
use Rattle.std.specs.List.{fold}
use Rattle.blk_base.specs.declared.ask.FrontAsk.{FrontAsk}
use Rattle.blk_base.specs.declared.ask.FrontAsk.TheVariants.{Read, Write}
use Rattle.blk_base.specs.declared.ask.FrontAnswer.{FrontAnswer}
use Rattle.blk_base.specs.declared.ask.FrontAnswer.TheVariants.{Done, Word}
use Rattle.ring_words.specs.Shape.{entry_words_of}
use Rattle.blk_front.specs.declared.entry_part.EntryPart.{EntryPart}
use Rattle.blk_front.specs.declared.sector_part.SectorPart.{SectorPart}
use Rattle.blk_front.specs.declared.stage.FrontStage.{FrontStage}
use Rattle.blk_front.specs.declared.stage.FrontStage.TheVariants as stage
use Rattle.blk_front.specs.declared.stage.Ending.{Ending}
use Rattle.blk_front.specs.declared.request.Request.{Request}
use Rattle.blk_front.specs.Request.{words_in, frame_at, filling_at, is_write}
use Rattle.blk_front.specs.View.{View, next_request, slot_frame, slot_word}
use Rattle.blk_front.specs.Ask.{IsAnswer}
use Rattle.blk_front.specs.Keep.{ask_as, step_as}

-- the words of a request's data from word n on, up to the last one of its sector
abbrev pub words_from : Request → ℕ → Option ℕ → SectorPart
words_from r n value = record { id = r.number; index = n / 128; frame = frame_at r (n / 1024); word = n % 1024; count = 128 - n % 128; value = value }

-- none past the last of its sectors
abbrev pub part_from : Request → ℕ → Option ℕ → Option SectorPart
part_from r n value = if nat_lt n (words_in r) then Some (words_from r n value) else None

-- of a write each is to be the word of its sector
abbrev pub written_part : Option Request → ℕ → Option SectorPart
written_part None n = None
written_part (Some r) n = part_from r n (Some (filling_at r.transfer n))

-- a write or a barrier begins with its data
abbrev pub first_part : Option Request → Option SectorPart
first_part None = None
first_part (Some r) = if is_write r.transfer then written_part (Some r) 0 else None

-- of a read that was answered each is read
abbrev pub read_part : Option Ending → ℕ → Option SectorPart
read_part None n = None
read_part (Some e) n = part_from e.request n None

-- the words of data that are moved next
abbrev pub part_at : FrontStage → View → Option SectorPart
part_at stage.Loop v = first_part (next_request v)
part_at (stage.Data n) v = written_part (next_request v) n
part_at (stage.ReadData n) v = read_part v.ending n
part_at (stage.LeftData n) v = read_part v.ending n
part_at s v = None

abbrev pub sector_part : View → Option SectorPart
sector_part v = part_at v.stage v

-- a part has so many words or more, and they are written, or read
abbrev pub HasWritten : Option SectorPart → ℕ → Type 0
HasWritten part count = IsSomeAnd part (λ p. IsSome p.value × (count ≤ p.count))

abbrev pub HasRead : Option SectorPart → ℕ → Type 0
HasRead part count = IsSomeAnd part (λ p. (p.value ≡ None) × (count ≤ p.count))

-- the word of a write's data that is written next: its first one where it isn't begun
abbrev pub written_word : FrontStage → ℕ
written_word (stage.Data n) = n
written_word s = 0

-- so many words were written, and these words were read: one answer for each
abbrev pub all_written : ℕ → List FrontAnswer
all_written count = replicate count Done

abbrev pub all_read : List ℕ → List FrontAnswer
all_read words = map Word words

-- each of these is allowed after those before it
abbrev pub AllInTurn : {S A : Type 0} → (S → A → Type 0) → (S → A → S) → S → List A → Type 0
AllInTurn may step s [] = Unit {0}
AllInTurn may step s (a ∷ rest) = may s a × AllInTurn may step (step s a) rest

-- a front after these answers, told one after another
abbrev pub steps_as : View → List FrontAnswer → View
steps_as v answers = fold step_as v answers

-- they may be told so: each is of the kind that is asked for then, and nothing is left to tell before it
abbrev pub IsTellable : View → FrontAnswer → Type 0
IsTellable v answer = IsAnswer (ask_as v) answer × (v.told ≡ None)

abbrev pub AreTellable : View → List FrontAnswer → Type 0
AreTellable v answers = AllInTurn IsTellable step_as v answers

-- after as many answers as are fewer than the part's words the word that far on is asked for
abbrev pub AsksWords : {S : Type 0} → (S → FrontAsk) → (S → FrontAnswer → S) → S → SectorPart → Option ℕ → Type 0
AsksWords ask step s part (Some value) =
    (k : ℕ) → k < part.count → ask (fold step s (all_written k)) ≡ Write part.frame (part.word + k) value
AsksWords ask step s part None =
    (words : List ℕ) → length words < part.count → ask (fold step s (all_read words)) ≡ Read part.frame (part.word + length words)

abbrev pub AsksEach : {S : Type 0} → (S → FrontAsk) → (S → FrontAnswer → S) → S → SectorPart → Type 0
AsksEach ask step s part = AsksWords ask step s part part.value

-- a part is 1 to 128 words of one frame of the pool
pub record IsWithin (part : SectorPart) : Type 0 where
  pub low : 18 ≤ part.frame
  pub high : part.frame < 1018
  pub some : 1 ≤ part.count
  pub few : part.count ≤ 128
  pub words : part.word + part.count ≤ 1024

-- these words stand in a sector's from a place on
abbrev pub with_words : List ℕ → (place : ℕ) → List ℕ → List ℕ
with_words sector place [] = sector
with_words sector place (word ∷ rest) = with_words (slice_set sector place word) (place + 1) rest

-- the words of the entry in hand from word k on, up to the last one of the entry, or of their frame where the entry goes on in the next
abbrev pub entry_from : View → (k : ℕ) → EntryPart
entry_from v k =
    let word : ℕ = slot_word v.shape v.ring.indices.prod k in
    record { frame = slot_frame v.shape v.ring.indices.prod k; word = word; count = min (length v.ring.entry - k) (1024 - word) }

-- the entry in hand is whole, and word k is one of its words
abbrev pub has_word : View → (k : ℕ) → Bool
has_word v k = length v.ring.entry == entry_words_of v.shape.abi && nat_lt k (length v.ring.entry)

-- the words of the entry that are written next
abbrev pub entry_part_at : FrontStage → View → Option EntryPart
entry_part_at (stage.Slot k) v = if has_word v k then Some (entry_from v k) else None
entry_part_at s v = None

abbrev pub entry_part : View → Option EntryPart
entry_part v = entry_part_at v.stage v

-- what they are to be, and those after them up to the entry's last one
abbrev pub entry_words_at : FrontStage → View → List ℕ
entry_words_at (stage.Slot k) v = drop k v.ring.entry
entry_words_at s v = []

abbrev pub entry_words : View → List ℕ
entry_words v = entry_words_at v.stage v

-- a part has so many words or more, and they are written
abbrev pub HasEntered : Option EntryPart → ℕ → Type 0
HasEntered part count = IsSomeAnd part (λ p. count ≤ p.count)

-- after as many answers as are fewer than the part's words the word that far on is asked for, to be as it is in the entry
abbrev pub AsksEntry : {S : Type 0} → (S → FrontAsk) → (S → FrontAnswer → S) → S → (words : List ℕ) → EntryPart → Type 0
AsksEntry ask step s words part =
    (m : ℕ) → m < part.count → ask (fold step s (all_written m)) ≡ Write part.frame (part.word + m) (slice_index words m)

-- a part is 1 to 28 words of one frame of the ring, and each is one of these
pub record IsEntryWithin (words : List ℕ) (part : EntryPart) : Type 0 where
  pub low : 2 ≤ part.frame
  pub high : part.frame < 18
  pub some : 1 ≤ part.count
  pub few : part.count ≤ 28
  pub place : part.word + part.count ≤ 1024
  pub there : part.count ≤ length words
