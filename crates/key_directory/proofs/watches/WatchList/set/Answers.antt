use Rattle.std.proofs.Common.{nat_eq, not, rules, refl, sym, ◌∙◌}
use Rattle.std.specs.Cmp.Lexicographic.{pointwise}
use Rattle.std.proofs.lemmas.Fn.{filter_same}
use Rattle.key_directory.proofs.watches.WatchList.set.Goals as goal

pub returns-clause-ok : goal.returns-clause-ok
returns-clause-ok c =
    let absent = rw c.deref.ensures.value at (sym c.has.ensures ∙ c.if-has.false) in
    let pushed = rw (c.unwrap.ensures, c.reserve.ensures.items) at c.push.ensures.items in
    let kept = filter_same _ (λ watch. not (pointwise nat_eq c.args.path.now watch)) _ (λ x b f called. search rules) _ _ c.retain.ensures.filtered in
    rw (← c.self.view_is, absent, pushed, rw c.reserve-2.ensures.items at kept) refl
