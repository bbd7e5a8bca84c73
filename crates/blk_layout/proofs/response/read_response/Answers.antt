use Rattle.std.proofs.Common.{◌≡◌, ◌/◌, ◌^◌, ◌<◌, None, slice_index, arith, refl, sym, ap, ◌∙◌}
use Rattle.std.specs.Int.{w16, cast_signed, cast_unsigned}
use Rattle.std.proofs.lemmas.Int.{of_z-to_z}
use Rattle.blk_layout.specs.Response.{status_of}
use Rattle.blk_layout.proofs.ResponseLaid.{no_status, response_stands}
use Rattle.blk_layout.proofs.response.read_response.Goals as goal

pub returns-in_default-clause-value : goal.returns-in_default-clause-value
returns-in_default-clause-value c =
    let half : slice_index c.args.words 2 / 2 ^ 16 < 2 ^ 16 = let fits = c.element_fits in omega arith in
    let same : cast_signed w16 (cast_unsigned w16 c.cast_signed.result) ≡ cast_signed w16 (slice_index c.args.words 2 / 2 ^ 16) = rw c.cast_signed.ensures (ap (cast_signed w16) (of_z-to_z w16 _ half)) in
    let none : status_of (slice_index c.args.words 2 / 2 ^ 16) ≡ None = no_status _ half (λ status e. c.in_default.ensures.unknown status (e ∙ sym same)) in
    rw none refl

pub returns-clause-stands : goal.returns-clause-stands
returns-clause-stands c = response_stands c.args.words c.double.result c.in-Some.status c.double.ensures.low c.double.ensures.high (let fits = c.element_fits in omega arith) c.double.ensures.value (c.in-Some.ensures.known ∙ (rw c.cast_signed.ensures (ap (cast_signed w16) (of_z-to_z w16 _ (let fits = c.element_fits in omega arith)))))
