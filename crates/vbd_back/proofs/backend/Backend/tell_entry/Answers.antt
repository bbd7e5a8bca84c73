use Rattle.vbd_back.proofs.EntryParts.{plainly}
use Rattle.vbd_back.proofs.backend.Backend.tell_entry.Goals as goal

pub invariant_of-self : goal.invariant_of-self
invariant_of-self c = (plainly c.self.inside.back c.tell_entry.new.self c.args.self.now c.args.words.now c.self.view_is c.self.invariant c.requires.part c.tell_entry.ensures.stepped).plain

pub returns-clause-stepped : goal.returns-clause-stepped
returns-clause-stepped c = (plainly c.self.inside.back c.tell_entry.new.self c.args.self.now c.args.words.now c.self.view_is c.self.invariant c.requires.part c.tell_entry.ensures.stepped).is

pub returns-clause-each : goal.returns-clause-each
returns-clause-each c = (plainly c.self.inside.back c.tell_entry.new.self c.args.self.now c.args.words.now c.self.view_is c.self.invariant c.requires.part c.tell_entry.ensures.stepped).moves

pub returns-clause-hands : goal.returns-clause-hands
returns-clause-hands c = (plainly c.self.inside.back c.tell_entry.new.self c.args.self.now c.args.words.now c.self.view_is c.self.invariant c.requires.part c.tell_entry.ensures.stepped).hands
