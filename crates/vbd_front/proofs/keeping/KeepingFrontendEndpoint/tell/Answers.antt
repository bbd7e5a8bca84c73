use Rattle.std.proofs.Common.{◌≡◌, subst}
use Rattle.xenbus_state.specs.declared.front.FrontBusAsk.{FrontBusAsk}
use Rattle.vbd_front.specs.Ask.{key_ask}
use Rattle.vbd_front.specs.Turn.{lent_ask}
use Rattle.vbd_front.proofs.Turns.{keeps_turn, keeps_ask}
use Rattle.vbd_front.proofs.keeping.KeepingFrontendEndpoint.tell.Goals as goal

pub invariant_of-self : goal.invariant_of-self
invariant_of-self c = record {
  turn = keeps_turn c.self.inside.turn c.self.inside.ends c.tell_ring.new.self c.args.answer.now c.in-Ring-Event.is-0 c.self.invariant.turn c.tell_ring.ensures;
  lent = subst (λ (a : FrontBusAsk). lent_ask a c.self.inside.key.path c.self.inside.key.text ≡ key_ask a)
      (keeps_ask c.self.inside.turn c.self.inside.ends c.tell_ring.new.self c.args.answer.now c.in-Ring-Event.is-0 c.self.invariant.turn c.tell_ring.ensures) c.self.invariant.lent;
}
