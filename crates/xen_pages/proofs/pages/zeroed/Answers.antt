use Rattle.std.proofs.Common.{◌∙◌}
use Rattle.std.proofs.lemmas.List.Elements.{same_from_all_zip}
use Rattle.xen_pages.specs.Pages.{zero_words}
use Rattle.xen_pages.proofs.Zeros.{pieces}
use Rattle.xen_pages.proofs.pages.zeroed.Goals as goal

-- src/pages.rt:105:1
pub returns-clause-zero : goal.returns-clause-zero
unfolding zero_words
returns-clause-zero c = same_from_all_zip _ _ _ c.in_ok-repeat.ensures.items (λ x y same. same) ∙ pieces c.args.pieces 256 0
