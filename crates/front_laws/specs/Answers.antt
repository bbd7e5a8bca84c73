-- Each answer is the response that was read, and each sector is the words that were read (`io/blkif.h`, struct blkif_response).
use Rattle.std.specs.Prelude.{◌≡◌, ◌≢◌, ℕ, ◌/◌, ◌^◌, List, [], ◌∷◌, ◌++◌, length, AllPairs, Option, Some}
use Rattle.blk_base.specs.declared.operation.Status.{Status}
use Rattle.blk_layout.specs.Response.{status_of}
use Rattle.blk_front.specs.declared.request.Request.{Request}
use Rattle.blk_front.specs.declared.told.Told.{Told}
use Rattle.blk_front.specs.declared.told.Told.TheVariants as told
use Rattle.front_laws.specs.History.{Line, Asked}
use Rattle.front_laws.specs.Sight.{Sight, Taken, wide, moved}

-- these three words, and no others, are a response of this id and this status
pub record IsRead (words : List ℕ) (id : ℕ) (status : Status) : Type 0 where
  pub low : ℕ
  pub high : ℕ
  pub last : ℕ
  pub words_are : words ≡ low ∷ high ∷ last ∷ []
  pub id_is : id ≡ wide low high
  pub status_is : status_of (last / 2 ^ 16) ≡ Some status

-- It is answered: its response was taken, whose words were read, and each of its grants is ended.
pub record IsAnswered (going : Option Taken) (id : ℕ) (status : Status) : Type 0 where
  pub taken : Taken
  pub taken_is : going ≡ Some taken
  pub read : IsRead taken.words id status
  pub request : taken.request.number ≡ id
  pub ended : taken.ended ≡ length taken.request.frames.items

-- A sector is told: it is the next one of the request that was answered last, and these are its 128 words, as they were read.
pub record IsSectorRead (before after : Sight) (id index : ℕ) (words : List ℕ) : Type 0 where
  pub request : Request
  pub telling : before.telling ≡ Some request
  pub id_is : id ≡ request.number
  pub index_is : index ≡ before.sector
  pub words_are : words ≡ after.words
  pub whole : length words ≡ 128

abbrev pub IsReadAs : (before after : Sight) → Option Told → Type 0
IsReadAs before after (Some (told.Answer id status)) = IsAnswered after.taken id status
IsReadAs before after (Some (told.Sector id index words)) = IsSectorRead before after id index words
IsReadAs before after told = Unit {0}

abbrev pub IsToldAsRead : Sight → Line → Type 0
IsToldAsRead s (Asked ask answer told) = IsReadAs s (moved ask answer s) told
IsToldAsRead s line = Unit {0}

-- the numbers that are answered in these lines, in order
abbrev pub number_in : Option Told → List ℕ
number_in (Some (told.Answer id status)) = id ∷ []
number_in told = []

abbrev pub numbers_answered : List Line → List ℕ
numbers_answered [] = []
numbers_answered (Asked ask answer told ∷ lines) = number_in told ++ numbers_answered lines
numbers_answered (line ∷ lines) = numbers_answered lines

-- none of them twice
abbrev pub IsAnsweredOnce : List Line → Type 0
IsAnsweredOnce lines = AllPairs (λ (m n : ℕ). m ≢ n) (numbers_answered lines)
