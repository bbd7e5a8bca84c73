use Rattle.std.proofs.Common.{rules, ◌∙◌}
use Rattle.std.proofs.lemmas.List.Sorted.{answers_always}
use Rattle.resume_shadow.proofs.Order.{searched}
use Rattle.resume_shadow.proofs.shadow.place_of.Goals as goal

-- the closure gives a request's number
pub returns-clause-value : goal.returns-clause-value
returns-clause-value g c =
    let facts = c.binary_search_by_key.ensures in
    let by_number = facts.position (λ r. g.T.Numbered.number_of r) (answers_always _ _ _ (λ f a r g called. search rules)) in
    c.ok.ensures.value ∙ searched g.T.Numbered.number_of c.args.held.now c.args.id c.requires c.binary_search_by_key.result facts.bound by_number
