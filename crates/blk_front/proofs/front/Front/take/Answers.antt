use Rattle.std.proofs.Common.{◌<◌, length, refl, sym, subst, arith, rules}
use Rattle.std.proofs.lemmas.Option.{slice_get_read}
use Rattle.std.proofs.lemmas.List.Edits.{length-remove}
use Rattle.std.proofs.lemmas.Grind.{common_steps}
use Rattle.blk_front.specs.Request.{IsShaped}
use Rattle.blk_front.specs.Step.{IsTaking}
use Rattle.blk_front.specs.View.{View}
use Rattle.blk_front.proofs.Numbers.{remove_given, remove_all, reads_some}
use Rattle.blk_front.proofs.Order.{removed_apart, still_apart}
use Rattle.blk_front.proofs.front.Front.take.Goals as goal

pub invariant_of-self-else-is_empty : goal.invariant_of-self-else-is_empty
invariant_of-self-else-is_empty c =
    let sound = c.self.invariant.0 in
    let some = reads_some _ _ (subst (λ (v : View). IsTaking v.stage) (sym c.self.view_is) c.requires.stage) sound.reading in
    let within : c.args.place < length c.self.inside.requests.held = search rules in
    let requests = c.finish-request.ensures.rest in (
      record {
        order = sound.order;
        entries = grind (arith, common_steps);
        cons = rw c.consume.ensures (omega arith);
        counted = let fewer = length-remove c.self.inside.requests.held c.args.place within in rw (c.consume.ensures, requests) (omega (arith, fewer, sound.counted, sound.seen, sound.cons, some));
        room = grind (arith, common_steps);
        seen = rw c.consume.ensures (omega (arith, sound.seen, sound.cons, some));
        placed = omega arith;
        keeping = tt;
        unissued = tt;
        issuing = tt;
        reading = tt;
        ascending = c.finish-request.ensures.ascending;
        given = rw requests (remove_given _ _ _ within sound.given);
        shaped = rw requests (remove_all IsShaped _ _ sound.shaped);
        held = tt;
        ending = rw c.replace.ensures.ending (grind (arith, common_steps));
        apart = rw (c.replace.ensures.ending, requests) (removed_apart _ _ _ _ within sound.ascending sound.given c.finish-request.ensures.value);
      },
      grind (arith, common_steps),
      record { enough = grind (arith, common_steps); room = grind (arith, common_steps) },
    )

pub invariant_of-self : goal.invariant_of-self
invariant_of-self c =
    let sound = c.self.invariant.0 in
    let some = reads_some _ _ (subst (λ (v : View). IsTaking v.stage) (sym c.self.view_is) c.requires.stage) sound.reading in
    let within : c.args.place < length c.self.inside.requests.held = search rules in
    let requests = c.finish-request.ensures.rest in (
      record {
        order = sound.order;
        entries = grind (arith, common_steps);
        cons = rw c.consume.ensures (omega arith);
        counted = let fewer = length-remove c.self.inside.requests.held c.args.place within in rw (c.consume.ensures, requests) (omega (arith, fewer, sound.counted, sound.seen, sound.cons, some));
        room = grind (arith, common_steps);
        seen = rw c.consume.ensures (omega (arith, sound.seen, sound.cons, some));
        placed = tt;
        keeping = tt;
        unissued = tt;
        issuing = tt;
        reading = tt;
        ascending = c.finish-request.ensures.ascending;
        given = rw requests (remove_given _ _ _ within sound.given);
        shaped = rw requests (remove_all IsShaped _ _ sound.shaped);
        held = tt;
        ending = sound.ending;
        apart = rw requests (still_apart c.self.inside.ending _ c.args.place _ sound.apart);
      },
      grind (arith, common_steps),
      record { enough = grind (arith, common_steps); room = grind (arith, common_steps) },
    )

pub returns-then-is_empty : goal.returns-then-is_empty
returns-then-is_empty c =
    let within : c.args.place < length c.self.inside.requests.held = search rules in
    let found = slice_get_read c.self.inside.requests.held _ c.args.place c.finish-request.result refl within c.finish-request.ensures.value in
    rw (← c.self.view_is, found) (search rules)

pub returns-else-is_empty : goal.returns-else-is_empty
returns-else-is_empty c =
    let within : c.args.place < length c.self.inside.requests.held = search rules in
    let found = slice_get_read c.self.inside.requests.held _ c.args.place c.finish-request.result refl within c.finish-request.ensures.value in
    rw (← c.self.view_is, found) (search rules)

pub consume-requires : goal.consume-requires
consume-requires c =
    let sound = c.self.invariant.0 in
    let some = reads_some _ _ (subst (λ (v : View). IsTaking v.stage) (sym c.self.view_is) c.requires.stage) sound.reading in
    λ same. absurd (omega (arith, some, sound.seen, sound.cons, same))
