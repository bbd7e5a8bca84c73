use Rattle.std.proofs.Common.{rules}
use Rattle.std.proofs.lemmas.List.Sorted.{answers_always}
use Rattle.grant_table.proofs.Place.{searched}
use Rattle.grant_table.proofs.grants.search_by_halves.Goals as goal

-- the closure gives a mapping's number
pub returns : goal.returns
returns c =
    let facts = c.binary_search_by_key.ensures in
    let by_number = facts.position (λ held. held.mapping.number) (answers_always _ _ _ (λ f a r g called. search rules)) in
    let there = searched _ c.requires c.args.number _ facts.bound by_number in
    let answer = rw (← c.ok.ensures.value) at there in
    record { found = answer.0; absent = answer.1 }
