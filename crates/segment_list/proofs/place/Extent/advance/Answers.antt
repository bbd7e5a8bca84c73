use Rattle.std.proofs.Common.{◌<◌, length, arith, ap}
use Rattle.segment_list.specs.Places.{placed_from}
use Rattle.segment_list.proofs.Spots.{left-on, is_within-on}
use Rattle.segment_list.proofs.place.Extent.advance.Goals as goal

pub invariant_of-self : goal.invariant_of-self
invariant_of-self c =
    let split = c.in-Some.ensures.cases.0 in
    let lt : c.self.inside.within < c.in-Some.segment.now.last = omega arith in
    let on = ap length (left-on c.self.inside.segment c.self.inside.within c.self.inside.rest.now _ _ split lt) in
    record {
      sound = c.self.invariant.sound;
      within = is_within-on c.self.inside.within c.self.inside.rest.now _ _ split lt;
      fits = omega (arith, on);
      few = c.self.invariant.few;
    }

pub returns-then-self-from-clause-first : goal.returns-then-self-from-clause-first
returns-then-self-from-clause-first c =
    let split = c.in-Some.ensures.cases.0 in
    let lt : c.self.inside.within < c.in-Some.segment.now.last = omega arith in
    rw (← c.self.view_is) (ap (placed_from c.self.inside.disk) (left-on c.self.inside.segment c.self.inside.within c.self.inside.rest.now _ _ split lt))
