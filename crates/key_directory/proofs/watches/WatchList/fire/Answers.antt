use Rattle.std.proofs.Common.{not, rules, arith, length-append}
use Rattle.std.proofs.lemmas.Fn.{filter_same}
use Rattle.std.proofs.lemmas.List.Filters.{length-filter_both}
use Rattle.std.proofs.Common.{ℕ, List, refl}
use Rattle.key_directory.specs.Paths.{is_at_or_under}
use Rattle.key_directory.proofs.watches.WatchList.fire.Goals as goal

-- each watch stays in one of the two lists
pub invariant_of-self : goal.invariant_of-self
invariant_of-self c =
    let path = c.args.path.now in
    let moved = rw c.deref.ensures.value at c.move_fired.ensures.items in
    let kept = filter_same _ (λ watch. not (is_at_or_under watch path)) _ (λ x b f called. search rules) _ _ c.retain.ensures.filtered in
    let all = length-filter_both (λ (watch : List ℕ). is_at_or_under watch path) (λ watch. not (is_at_or_under watch path)) (λ watch. refl) c.self.inside.idle.items in
    rw (moved, kept, length-append) (
      omega (arith, all, c.self.invariant.0, c.self.invariant.1, c.move_fired.ensures.capacity, c.retain.ensures.capacity),
      omega (arith, all, c.self.invariant.0, c.self.invariant.1, c.move_fired.ensures.capacity, c.retain.ensures.capacity),
    )

pub returns : goal.returns
returns c =
    let path = c.args.path.now in
    let moved = rw c.deref.ensures.value at c.move_fired.ensures.items in
    let kept = filter_same _ (λ watch. not (is_at_or_under watch path)) _ (λ x b f called. search rules) _ _ c.retain.ensures.filtered in
    rw (← c.self.view_is, moved, kept) refl
