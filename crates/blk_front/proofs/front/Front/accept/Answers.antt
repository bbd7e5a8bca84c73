use Rattle.std.proofs.Common.{refl, arith, rules}
use Rattle.std.proofs.lemmas.Grind.{common_steps}
use Rattle.blk_front.proofs.Shapes.{few_pages}
use Rattle.blk_front.proofs.Numbers.{push_given}
use Rattle.blk_front.proofs.Order.{pushed_apart}
use Rattle.std.proofs.lemmas.List.Elements.{All-push}
use Rattle.blk_front.specs.Request.{IsShaped}
use Rattle.blk_front.proofs.front.Front.accept.Goals as goal

pub invariant_of-self-2 : goal.invariant_of-self-2
invariant_of-self-2 c =
    let sound = c.self.invariant.0 in
    let requests = c.add.ensures.held in (
      record {
        order = sound.order;
        entries = sound.entries;
        cons = sound.cons;
        counted = omega arith;
        room = grind (arith, few_pages);
        seen = sound.seen;
        placed = sound.placed;
        keeping = sound.keeping;
        unissued = search rules;
        issuing = search rules;
        reading = sound.reading;
        ascending = c.add.ensures.ascending;
        given = rw requests (push_given _ _ c.self.inside.last sound.given refl);
        shaped = rw requests (All-push IsShaped _ _ sound.shaped (record { counted = c.requires.counted; frames = search rules }));
        held = sound.held;
        ending = sound.ending;
        apart = rw requests (pushed_apart c.self.inside.ending _ _ c.self.inside.last sound.apart refl);
      },
      grind (arith, common_steps),
      record { enough = omega arith; room = omega arith },
    )
