use Rattle.std.proofs.Common.{◌^◌, ◌<◌, ◌≤◌, arith, rules}
use Rattle.ring_words.specs.Shape.{entries_of}
use Rattle.blk_front.proofs.Shapes.{fewer_entries}
use Rattle.blk_front.specs.Inside.{view_of}
use Rattle.blk_front.proofs.Order.{agreed_sound}
use Rattle.blk_front.proofs.front.Front.agree.Goals as goal

pub invariant_of-self : goal.invariant_of-self
invariant_of-self c =
    let within : c.args.order ≤ c.self.inside.order = search rules in
    let word : c.self.inside.start < 2 ^ 32 = search rules in
    let fewer : entries_of c.args.order ≤ entries_of c.self.inside.order = fewer_entries _ _ within in (
      rw (c.attach-self-inside.ensures, c.of.ensures) (agreed_sound (view_of c.self.inside) c.args.order (search rules) word within (search rules) c.self.invariant.0),
      c.self.invariant.1,
      record { enough = omega arith; room = c.self.invariant.2.room },
    )
