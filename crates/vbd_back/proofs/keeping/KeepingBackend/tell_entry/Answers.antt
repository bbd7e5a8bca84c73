use Rattle.std.proofs.Common.{◌∙◌, ap}
use Rattle.vbd_back.specs.Inside.{view_of}
use Rattle.vbd_back.specs.Keeping.{KeepingView}
use Rattle.vbd_back.specs.Turn.{turn_of}
use Rattle.vbd_back.proofs.EntryParts.{came_to, part_each}
use Rattle.vbd_back.proofs.keeping.KeepingBackend.tell_entry.Goals as goal

pub invariant_of-self : goal.invariant_of-self
invariant_of-self c = record {
  turn = c.self.invariant.turn
      ∙ (ap (λ (k : KeepingView). turn_of k.ends) c.self.view_is ∙ (came_to (view_of c.self.inside) c.args.self.now c.tell_entry.new.self c.args.words.now c.self.view_is c.requires.part c.tell_entry.ensures.stepped).turn);
  lent = c.self.invariant.lent;
}

pub returns-clause-stepped : goal.returns-clause-stepped
returns-clause-stepped c = (came_to (view_of c.self.inside) c.args.self.now c.tell_entry.new.self c.args.words.now c.self.view_is c.requires.part c.tell_entry.ensures.stepped).is

pub returns-clause-each : goal.returns-clause-each
returns-clause-each c = part_each c.args.self.now c.args.words.now c.requires.part
