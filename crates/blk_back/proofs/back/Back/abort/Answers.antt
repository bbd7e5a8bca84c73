use Rattle.std.proofs.Common.{◌≡◌, sym, ap, ◌∙◌}
use Rattle.blk_back.specs.Step.{unmapping_next}
use Rattle.blk_back.specs.Inside.{view_of}
use Rattle.blk_back.proofs.Sound.{abort_sound}
use Rattle.blk_back.proofs.back.Back.abort.Goals.{in-None, in-Some}
use Rattle.blk_back.proofs.back.Back.abort.Goals as goal

pub invariant_of-self : goal.invariant_of-self
invariant_of-self c =
    let next : c.match-give_up.self ≡ unmapping_next c.give_up.result = elim c.match-give_up.branch [
      | in-None w ↦ w.self-is ∙ sym (ap unmapping_next w.in-None.is)
      | in-Some w ↦ w.self-is ∙ sym (ap unmapping_next w.in-Some.is)
    ] in
    abort_sound (view_of c.self.inside) c.give_up.new.self c.match-give_up.self c.give_up.result c.give_up.ensures.rest c.give_up.ensures.mapping next (rw (← c.self.view_is) at c.requires) c.self.invariant
