use Rattle.std.specs.Prelude.{Some, is_some}
use Rattle.back_jobs.specs.Keeping.{ask_keeping, all_hands}
use Rattle.blk_back.proofs.Keeping.{job_keep}
use Rattle.blk_back.specs.Inside.{view_of}
use Rattle.blk_back.proofs.Sound.{told_sound}
use Rattle.blk_back.proofs.back.Back.job_tell.Goals as goal

pub returns-in-Some-tell-clause-hands : goal.returns-in-Some-tell-clause-hands
returns-in-Some-tell-clause-hands c =
    let jobs = c.self.inside.jobs in
    let allowed = rw (← c.self.view_is) at c.requires.answer in
    rw (← c.self.view_is)
    (job_keep (is_some c.self.inside.halted) (ask_keeping jobs c.args.number) c.args.answer.now c.self.inside.stage c.self.inside.pages.items (all_hands jobs) (all_hands c.tell.new.self) allowed c.tell.ensures.hands)

pub returns-in_default-tell-clause-hands : goal.returns-in_default-tell-clause-hands
returns-in_default-tell-clause-hands c =
    let jobs = c.self.inside.jobs in
    let allowed = rw (← c.self.view_is) at c.requires.answer in
    rw (← c.self.view_is)
    (job_keep (is_some c.self.inside.halted) (ask_keeping jobs c.args.number) c.args.answer.now c.self.inside.stage c.self.inside.pages.items (all_hands jobs) (all_hands c.tell.new.self) allowed c.tell.ensures.hands)

pub invariant_of-self : goal.invariant_of-self
invariant_of-self c = told_sound (view_of c.self.inside) c.tell.new.self c.args.number c.args.answer.now (Some c.told_effect.result) c.tell.ensures.completed c.self.invariant

pub invariant_of-self-in_default-tell : goal.invariant_of-self-in_default-tell
invariant_of-self-in_default-tell c = told_sound (view_of c.self.inside) c.tell.new.self c.args.number c.args.answer.now c.self.inside.told c.tell.ensures.completed c.self.invariant
