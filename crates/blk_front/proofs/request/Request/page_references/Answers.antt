use Rattle.std.proofs.Common.{◌+◌, ◌<◌, ℕ, List, [], ◌∷◌, ◌++◌, length, arith, ap, sym, refl, ◌∙◌}
use Rattle.std.proofs.lemmas.Grind.{take-set_at, common_steps}
use Rattle.std.proofs.lemmas.List.FromFn.{map-range_with_len_more}
use Rattle.blk_front.specs.Request.{page_reference}
use Rattle.blk_front.proofs.request.Request.page_references.Goals as goal

pub loop-page-preserved : goal.loop-page-preserved
loop-page-preserved c =
    let references = c.loop-page.references in
    let page = c.loop-page.page in
    let made = page_reference c.args.self.now in
    let within : page < length references = omega arith in
    let grown = take-set_at references page (page + 1) c.page_reference.result refl within in
    record {
      eight = grind (arith, common_steps);
      made = grown ∙ ap (λ (l : List ℕ). l ++ c.page_reference.result ∷ []) c.loop-page.invariant.made ∙ rw c.page_reference.ensures (sym (map-range_with_len_more made 0 page page (omega arith)));
    }
