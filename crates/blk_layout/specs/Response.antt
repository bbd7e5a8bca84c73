-- Responses and their words (`io/blkif.h`: struct blkif_response).
use Rattle.std.specs.Prelude.{ℕ, ◌/◌, ◌%◌, ◌-◌, ◌^◌, List, [], ◌∷◌, ◌++◌, slice_index, Option, Some, None, Result, Ok, Err, if◌then◌else◌, ◌==◌}
use Rattle.std.specs.Int.{w16, cast_unsigned}
use Rattle.blk_base.specs.declared.operation.Status.{Status}
use Rattle.blk_base.specs.declared.operation.Status.TheVariants.{Okay, Error, Unsupported}
use Rattle.blk_base.specs.Operation.{status_code}
use Rattle.blk_layout.specs.declared.response.Response.{Response}
use Rattle.blk_layout.specs.Field.{Field, bits, two_words, written_word}
use Rattle.blk_layout.specs.Entry.{double_at}

-- the 16 bits of a status
abbrev pub status_bits : Status → ℕ
status_bits status = cast_unsigned w16 (status_code status)

-- the same three words under both layouts
abbrev pub response_fields : Response → List Field
response_fields r = two_words 0 r.id ++ bits 2 0 8 r.op ∷ bits 2 16 16 (status_bits r.status) ∷ []

abbrev pub response_words_of : Response → List ℕ
response_words_of r = written_word (response_fields r) 0 ∷ written_word (response_fields r) 1 ∷ written_word (response_fields r) 2 ∷ []

-- the status of 16 bits
abbrev pub status_of : ℕ → Option Status
status_of bits = if bits == 0 then Some Okay else (if bits == 2 ^ 16 - 1 then Some Error else (if bits == 2 ^ 16 - 2 then Some Unsupported else None))

abbrev pub response_with : List ℕ → Option Status → Result Response ℕ
response_with words None = Err (slice_index words 2)
response_with words (Some status) = Ok (record { id = double_at words 0; op = slice_index words 2 % 2 ^ 8; status = status })

-- what three words are read as; word 2 where their status is none
abbrev pub response_of : List ℕ → Result Response ℕ
response_of words = response_with words (status_of (slice_index words 2 / 2 ^ 16))
