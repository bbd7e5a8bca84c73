-- Honest answers: what the words show is what a back leaves that obeys `io/ring.h`, `io/blkif.h` and `grant_table.h`.
use Rattle.std.specs.Prelude.{◌≡◌, ℕ, ◌+◌, ◌%◌, ◌≤◌, false, true, List, [], ◌∷◌, ◌++◌, length, Option, Some}
use Rattle.blk_base.specs.Distance.{distance_of}
use Rattle.blk_base.specs.declared.operation.Status.{Status}
use Rattle.blk_base.specs.declared.ask.FrontAsk.{FrontAsk}
use Rattle.blk_base.specs.declared.ask.FrontAsk.TheVariants.{Read, Cas}
use Rattle.blk_base.specs.declared.ask.FrontAnswer.{FrontAnswer}
use Rattle.blk_base.specs.declared.ask.FrontAnswer.TheVariants.{Word}
use Rattle.blk_front.specs.declared.request.Request.{Request}
use Rattle.blk_front.specs.declared.told.Told.{Told}
use Rattle.blk_front.specs.declared.told.Told.TheVariants as told
use Rattle.blk_front.specs.Step.{is_mapped}
use Rattle.front_laws.specs.History.{Line, Asked}
use Rattle.front_laws.specs.Sight.{Sight, Taken, is_of_grants, is_of_data, is_of_indices, numbered, response_id, response_status, moved}

-- a response is for a request that was issued in this epoch and isn't answered yet, and has a status (BLKIF_RSP_*)
pub record IsAskedFor (s : Sight) (words : List ℕ) : Type 0 where
  pub request : Request
  pub issued : numbered (response_id words) s.issued ≡ Some request
  pub status : Status
  pub is_one : response_status words ≡ Some status

-- The frame of a grant is mapped no more where its entry's first word is read (neither GTF_reading nor GTF_writing is set).
-- The responses' producer is between the front's consumer and its own producer: no more was produced than was asked for.
-- The three words of a response are one that was asked for.
pub record IsHonestWord (s : Sight) (frame word value : ℕ) : Type 0 where
  pub unmapped : is_of_grants frame ≡ true → word % 2 ≡ 0 → is_mapped value ≡ false
  pub produced : frame ≡ 2 → word ≡ 2 → distance_of s.cons value ≤ distance_of s.cons s.prod
  pub asked_for :
      is_of_grants frame ≡ false → is_of_data frame ≡ false → is_of_indices frame word ≡ false → length (s.response ++ value ∷ []) ≡ 3
      → IsAskedFor s (s.response ++ value ∷ [])

-- an exchange of a grant's entry sees what was read
abbrev pub IsHonestAnswer : Sight → FrontAsk → FrontAnswer → Type 0
IsHonestAnswer s (Read frame word) (Word value) = IsHonestWord s frame word value
IsHonestAnswer s (Cas frame word old new) (Word seen) = seen ≡ old
IsHonestAnswer s ask answer = Unit {0}

abbrev pub IsHonest : Sight → Line → Type 0
IsHonest s (Asked ask answer told) = IsHonestAnswer s ask answer
IsHonest s line = Unit {0}

-- nothing is told that breaks the front
abbrev pub Breaks : Option Told → Type 0
Breaks (Some (told.Broken word)) = Unit {0}
Breaks told = ⊥

abbrev pub IsUnbroken : Sight → Line → Type 0
IsUnbroken s (Asked ask answer told) = Breaks told → ⊥
IsUnbroken s line = Unit {0}

-- and where nothing does, the answer was honest
abbrev pub IsHonestUnbroken : Sight → Line → Type 0
IsHonestUnbroken s line = IsUnbroken s line → IsHonest s line

-- A response that was asked for is taken; its request is answered with its status, at once where it has no frames.
pub record IsTakenFor (s after : Sight) (words : List ℕ) (its : IsAskedFor s words) (said : Option Told) : Type 0 where
  pub taken : Taken
  pub taken_is : after.taken ≡ Some taken
  pub words_are : taken.words ≡ words
  pub request : taken.request ≡ its.request
  pub status : taken.status ≡ its.status
  pub at_once : length its.request.frames.items ≡ 0 → said ≡ Some (told.Answer its.request.number its.status)

-- Else the answer comes as the last of its grants is ended.
abbrev pub BringsAnswer : (s after : Sight) → FrontAsk → FrontAnswer → Option Told → Type 0
BringsAnswer s after (Read frame word) (Word value) said =
    is_of_grants frame ≡ false → is_of_data frame ≡ false → is_of_indices frame word ≡ false → length (s.response ++ value ∷ []) ≡ 3
    → (its : IsAskedFor s (s.response ++ value ∷ [])) → IsTakenFor s after (s.response ++ value ∷ []) its said
BringsAnswer s after (Cas frame word old new) (Word seen) said =
    (taken : Taken) → s.taken ≡ Some taken → taken.ended + 1 ≡ length taken.request.frames.items → seen ≡ old
    → said ≡ Some (told.Answer taken.request.number taken.status)
BringsAnswer s after ask answer said = Unit {0}

abbrev pub IsBrought : Sight → Line → Type 0
IsBrought s (Asked ask answer said) = BringsAnswer s (moved ask answer s) ask answer said
IsBrought s line = Unit {0}
