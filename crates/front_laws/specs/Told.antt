-- What the front has to tell after each of its moves (`io/ring.h`, `io/blkif.h`, `grant_table.h`), in sight of the lines before.
use Rattle.std.specs.Prelude.{◌≡◌, ℕ, ◌+◌, ◌%◌, ◌&&◌, ◌==◌, nat_lt, List, [], ◌∷◌, ◌++◌, length, slice_index, Option, Some, None, if◌then◌else◌}
use Rattle.blk_base.specs.Distance.{distance_of}
use Rattle.blk_base.specs.declared.operation.Status.{Status}
use Rattle.blk_base.specs.declared.ask.FrontAsk.{FrontAsk}
use Rattle.blk_base.specs.declared.ask.FrontAsk.TheVariants.{Read, Cas}
use Rattle.blk_base.specs.declared.ask.FrontAnswer.{FrontAnswer}
use Rattle.blk_base.specs.declared.ask.FrontAnswer.TheVariants.{Word}
use Rattle.blk_front.specs.declared.request.Request.{Request}
use Rattle.blk_front.specs.declared.told.Told.{Told}
use Rattle.blk_front.specs.declared.told.Told.TheVariants as told
use Rattle.blk_front.specs.Step.{is_mapped}
use Rattle.front_laws.specs.History.{Line, Asked}
use Rattle.front_laws.specs.Sight.{Sight, Taken, is_of_grants, is_of_data, is_of_indices, numbered, response_id, response_status}

-- The three words of a response were read. Where its id is that of no request that was issued and isn't answered, the id's low word breaks the front; else the third word does, where its status is none (BLKIF_RSP_*).
-- A request without frames is answered at once, as no grant of it has to be ended first.
abbrev pub told_of_response : List ℕ → Option Request → Option Status → Option Told
told_of_response words None status = Some (told.Broken (slice_index words 0))
told_of_response words (Some r) None = Some (told.Broken (slice_index words 2))
told_of_response words (Some r) (Some status) = if length r.frames.items == 0 then Some (told.Answer r.number status) else None

abbrev pub told_after_response : Sight → List ℕ → Option Told
told_after_response s words =
    if length words == 3 then told_of_response words (numbered (response_id words) s.issued) (response_status words)
    else None

-- the last grant of the request whose response was taken is ended: it is answered
abbrev pub told_of_end : Option Taken → Option Told
told_of_end None = None
told_of_end (Some taken) = if taken.ended + 1 == length taken.request.frames.items then Some (told.Answer taken.request.number taken.status) else None

-- the 128th word of a sector was read: the sector is told
abbrev pub told_of_data : Option Request → (sector : ℕ) → List ℕ → Option Told
told_of_data None sector words = None
told_of_data (Some r) sector words = if length words == 128 then Some (told.Sector r.number sector words) else None

-- A word was read. The first word of a grant's entry breaks the front where the frame is mapped still (GTF_reading, GTF_writing).
-- Word 2 of the ring, the responses' producer, does where it is further ahead of the front's consumer than the front's own producer is.
abbrev pub told_of_word : Sight → (frame word value : ℕ) → Option Told
told_of_word s frame word value =
    if is_of_grants frame then (if (word % 2 == 0) && is_mapped value then Some (told.Broken value) else None)
    else (if is_of_data frame then told_of_data s.telling s.sector (s.words ++ value ∷ [])
    else (if is_of_indices frame word
    then (if (word == 2) && nat_lt (distance_of s.cons s.prod) (distance_of s.cons value) then Some (told.Broken value) else None)
    else told_after_response s (s.response ++ value ∷ [])))

-- No other move has anything told but the exchange of a grant's entry, which breaks the front where it shows another word than was read.
abbrev pub told_of : Sight → FrontAsk → FrontAnswer → Option Told
told_of s (Read frame word) (Word value) = told_of_word s frame word value
told_of s (Cas frame word old new) (Word seen) = if seen == old then told_of_end s.taken else Some (told.Broken seen)
told_of s ask answer = None

-- exactly that is told
abbrev pub IsToldWhereDue : Sight → Line → Type 0
IsToldWhereDue s (Asked ask answer told) = told ≡ told_of s ask answer
IsToldWhereDue s line = Unit {0}
