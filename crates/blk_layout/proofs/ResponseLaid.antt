-- The words of a response, and of a segment.
use Rattle.std.proofs.Common.{◌≡◌, ◌≢◌, ℕ, ◌+◌, ◌*◌, ◌/◌, ◌%◌, ◌^◌, ◌<◌, List, [], ◌∷◌, slice_index, bit_and, nat_eq, false, None, Ok, refl, ap, ◌∙◌, arith}
use Rattle.std.specs.Int.{w16, cast_unsigned, cast_signed}
use Rattle.std.proofs.lemmas.Nat.{and_mask}
use Rattle.std.proofs.lemmas.Int.{of_z-to_z}
use Rattle.std.proofs.lemmas.Bool.{ne_eqb}
use Rattle.blk_base.specs.declared.operation.Status.{Status}
use Rattle.blk_base.specs.declared.operation.Status.TheVariants.{Okay, Error, Unsupported}
use Rattle.blk_base.specs.Operation.{status_code}
use Rattle.blk_layout.specs.declared.response.Response.{Response}
use Rattle.blk_layout.specs.declared.segment.Segment.{Segment}
use Rattle.blk_layout.specs.Field.{StandFor}
use Rattle.blk_layout.specs.Entry.{double_at, segment_of, segment_fields}
use Rattle.blk_layout.specs.Written.{segment_words_of}
use Rattle.blk_layout.specs.Response.{status_bits, status_of, response_fields, response_of, response_words_of}
use Rattle.blk_layout.proofs.Standing.{bits_are, whole}

three : {a b c d e f : ℕ} → a ≡ d → b ≡ e → c ≡ f → a ∷ b ∷ c ∷ [] ≡ d ∷ e ∷ f ∷ []
three p q r = cc

-- the words that the code makes are the response's
pub response_laid : (r : Response) (ending status : ℕ) → ending ≡ r.op + status * 2 ^ 16 → status ≡ status_bits r.status → bit_and r.id 4294967295 ∷ r.id / 4294967296 ∷ ending ∷ [] ≡ response_words_of r
response_laid r ending status e s =
    rw (and_mask r.id 32, e, s) (three (omega arith) (omega arith) (omega arith))

-- the bits of no status
pub no_status : (n : ℕ) → n < 2 ^ 16 → ((status : Status) → status_code status ≢ cast_signed w16 n) → status_of n ≡ None
no_status n fits none =
    let not_okay : nat_eq n 0 ≡ false = ne_eqb _ _ (λ e. none Okay (rw e refl)) in
    let not_error : nat_eq n 65535 ≡ false = ne_eqb _ _ (λ e. none Error (rw e refl)) in
    let not_unsupported : nat_eq n 65534 ≡ false = ne_eqb _ _ (λ e. none Unsupported (rw e refl)) in
    rw (not_okay, not_error, not_unsupported) refl

-- the bits of a status, taken as a number with a sign and back
pub bits_of-bits : (status : Status) → cast_unsigned w16 (cast_signed w16 (cast_unsigned w16 (status_code status))) ≡ status_bits status
bits_of-bits Okay = refl
bits_of-bits Error = refl
bits_of-bits Unsupported = refl

-- what three words are read as stands in them, where their status is known
pub response_stands : (words : List ℕ) (id : ℕ) (status : Status) → slice_index words 0 < 2 ^ 32 → slice_index words 1 < 2 ^ 32 → slice_index words 2 < 2 ^ 32 → id ≡ double_at words 0 → status_code status ≡ cast_signed w16 (slice_index words 2 / 2 ^ 16) → StandFor words (response_fields (record { id = id; op = bit_and (slice_index words 2) 255; status = status }))
response_stands words id status low high last e is =
    let w = slice_index words 2 in
    let bits : status_bits status ≡ w / 2 ^ 16 = ap (cast_unsigned w16) is ∙ of_z-to_z w16 (w / 2 ^ 16) (omega arith) in
    (whole _ _ low (omega arith), (whole _ _ high (omega arith), (bits_are _ 0 8 _ (and_mask w 8 ∙ omega arith), (bits_are _ 16 16 _ (bits ∙ omega arith), tt))))

-- what two words are read as stands in them
pub segment_stands : (gref sectors : ℕ) → gref < 2 ^ 32 → StandFor (gref ∷ sectors ∷ []) (segment_fields 0 (record { gref = gref; first = bit_and sectors 255; last = bit_and (sectors / 256) 255 }))
segment_stands gref sectors fits =
    (whole _ _ fits refl, (bits_are _ 0 8 _ (and_mask sectors 8 ∙ omega arith), (bits_are _ 8 8 _ (and_mask (sectors / 2 ^ 8) 8), tt)))

id_again : (n : ℕ) → (n % 2 ^ 32 * 1 + 0) + (n / 2 ^ 32 * 1 + 0) * 2 ^ 32 ≡ n
id_again n = omega arith

op_again : (op status : ℕ) → op < 2 ^ 8 → (op * 1 + (status * 2 ^ 16 + 0)) % 2 ^ 8 ≡ op
op_again op status fits = omega arith

status_again : (op status : ℕ) → op < 2 ^ 8 → (op * 1 + (status * 2 ^ 16 + 0)) / 2 ^ 16 ≡ status
status_again op status fits = omega arith

-- reading the words of a response gives it back
back_with : (id op : ℕ) (status : Status) → op < 2 ^ 8 → response_of (response_words_of (record { id = id; op = op; status = status })) ≡ Ok (record { id = id; op = op; status = status })
back_with id op Okay fits = rw (status_again op 0 fits, op_again op 0 fits, id_again id) refl
back_with id op Error fits = rw (status_again op 65535 fits, op_again op 65535 fits, id_again id) refl
back_with id op Unsupported fits = rw (status_again op 65534 fits, op_again op 65534 fits, id_again id) refl

pub response_back : (r : Response) → r.op < 2 ^ 8 → response_of (response_words_of r) ≡ Ok r
response_back r fits = back_with r.id r.op r.status fits

pub segment_back : (s : Segment) → s.first < 2 ^ 8 → s.last < 2 ^ 8 → segment_of (slice_index (segment_words_of s) 0) (slice_index (segment_words_of s) 1) ≡ s
segment_back s f l =
    let a : (s.first + s.last * 2 ^ 8) % 2 ^ 8 ≡ s.first = omega arith in
    let b : (s.first + s.last * 2 ^ 8) / 2 ^ 8 % 2 ^ 8 ≡ s.last = omega arith in
    rw (a, b) refl
