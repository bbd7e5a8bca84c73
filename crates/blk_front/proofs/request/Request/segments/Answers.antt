use Rattle.std.proofs.Common.{◌+◌, ◌<◌, List, [], ◌∷◌, ◌++◌, length, arith, ap, sym, refl, ◌∙◌}
use Rattle.std.proofs.lemmas.Grind.{take-set_at, common_steps}
use Rattle.std.proofs.lemmas.List.FromFn.{map-range_with_len_more}
use Rattle.blk_layout.specs.declared.segment.Segment.{Segment}
use Rattle.blk_front.specs.Request.{segment_at}
use Rattle.blk_front.proofs.request.Request.segments.Goals as goal

pub loop-place-preserved : goal.loop-place-preserved
loop-place-preserved c =
    let segments = c.loop-place.segments in
    let place = c.loop-place.place in
    let made = segment_at c.args.self.now in
    let within : place < length segments = omega arith in
    let grown = take-set_at segments place (place + 1) c.segment.result refl within in
    record {
      eleven = grind (arith, common_steps);
      made = grown ∙ ap (λ (l : List Segment). l ++ c.segment.result ∷ []) c.loop-place.invariant.made ∙ rw c.segment.ensures (sym (map-range_with_len_more made 0 place place (omega arith)));
    }
