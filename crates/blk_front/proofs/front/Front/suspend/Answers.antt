use Rattle.std.proofs.Common.{◌≡◌, ◌^◌, ◌<◌, length, arith, rules}
use Rattle.std.specs.Prelude.{Option, Some, None, IfSome}
use Rattle.blk_front.specs.declared.stage.Ending.{Ending}
use Rattle.blk_front.specs.Inside.{view_of}
use Rattle.blk_front.specs.Sound.{IsApart, IsOther}
use Rattle.blk_front.specs.Suspend.{requests_after}
use Rattle.ring_words.specs.Shape.{entries_of}
use Rattle.blk_front.proofs.Shapes.{few_pages}
use Rattle.blk_front.proofs.Order.{after_counted, after_fits, resumed_sound}
use Rattle.blk_front.proofs.front.Front.suspend.Goals as goal

pub invariant_of-self : goal.invariant_of-self
invariant_of-self c =
    let word : c.self.inside.start < 2 ^ 32 = search rules in
    let requests = c.put_back.ensures.requests in
    let ending = c.put_back.ensures.ending in
    let counted = after_counted c.self.inside.stage c.self.inside.ending c.self.inside.requests.held in
    let waiting : c.len.result ≡ length (requests_after c.self.inside.stage c.self.inside.ending c.self.inside.requests.held) = search rules in
    let ring = c.attach-self-inside.ensures in (
      rw (c.none-self-inside.ensures, c.new-self-inside.ensures, ring, c.of.ensures, c.stage_after-self-inside.ensures, waiting, requests, ending) (resumed_sound (view_of c.self.inside) word c.self.invariant.0),
      omega (arith, c.put_back.ensures.room, c.self.invariant.1),
      record { enough = rw (requests, ending) (omega (arith, counted, c.self.invariant.2.enough)); room = rw (requests, ending) (omega (arith, counted, c.self.invariant.2.room)) },
    )

pub put_back-requires-clause-room : goal.put_back-requires-clause-room
put_back-requires-clause-room c =
    let room = c.self.invariant.0.room in
    let few = few_pages c.self.inside.order c.self.invariant.0.order in
    omega (arith, c.self.invariant.1)

pub put_back-requires-clause-apart : goal.put_back-requires-clause-apart
put_back-requires-clause-apart c = other c.self.inside.ending c.self.invariant.0.apart
  where
    other : (ending : Option Ending) → IfSome ending (IsApart c.self.inside.requests.held c.self.inside.last) → IfSome ending (IsOther c.self.inside.requests.held)
    other None apart = tt
    other (Some e) apart = apart.other

pub overflow_cast-self : goal.overflow_cast-self
overflow_cast-self c =
    let fits = after_fits c.self.inside.stage c.self.inside.ending c.self.inside.requests.held (entries_of c.self.inside.order) c.self.invariant.0.room in
    let waiting : c.len.result ≡ length (requests_after c.self.inside.stage c.self.inside.ending c.self.inside.requests.held) = search rules in
    let few = few_pages c.self.inside.order c.self.invariant.0.order in
    let small : c.len.result < 2 ^ 32 = omega arith in
    search rules
