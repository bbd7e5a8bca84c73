use Rattle.std.proofs.Common.{ap, ◌∙◌}
use Rattle.blk_back.specs.View.{View as Ring}
use Rattle.vbd_back.specs.View.{both}
use Rattle.vbd_back.specs.Inside.{ends_of}
use Rattle.vbd_back.specs.Keeping.{KeepingView}
use Rattle.vbd_back.specs.Turn.{turn_of}
use Rattle.vbd_back.proofs.Open.{keeps_turn}
use Rattle.vbd_back.proofs.keeping.KeepingBackend.serve.Goals as goal

pub invariant_of-self-else-is_some : goal.invariant_of-self-else-is_some
invariant_of-self-else-is_some c = record {
  turn = keeps_turn c.self.inside.turn (ends_of c.self.inside) (both c.tell.new.self c.self.inside.bus) c.args.answer.now
      (c.self.invariant.turn ∙ (ap (λ (k : KeepingView). turn_of k.ends) c.self.view_is ∙ c.requires.turn)) c.self.invariant.turn (ap (λ (r : Ring). both r c.self.inside.bus) c.tell.ensures.completed);
  lent = c.self.invariant.lent;
}
