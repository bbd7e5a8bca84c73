use Rattle.std.proofs.Common.{◌∙◌, ap, sym, subst}
use Rattle.blk_base.specs.declared.ask.BackAsk.{BackAsk}
use Rattle.back_jobs.specs.Work.{IsAnswer}
use Rattle.blk_back.proofs.Hands.{job_hands_after}
use Rattle.blk_back.proofs.Plain.{plain_job_ask}
use Rattle.vbd_back.specs.View.{View}
use Rattle.vbd_back.specs.Step.{job_step}
use Rattle.vbd_back.proofs.Plain.{job_came}
use Rattle.vbd_back.proofs.backend.Backend.job_tell.Goals as goal

pub job_tell-requires-clause-answer : goal.job_tell-requires-clause-answer
job_tell-requires-clause-answer c =
    subst (λ (a : BackAsk). IsAnswer a c.args.answer.now) (sym (plain_job_ask c.self.inside.back.ends.ring c.args.number c.self.invariant.ring)) (rw (← c.self.view_is) at c.requires.answer)

pub invariant_of-self : goal.invariant_of-self
invariant_of-self c = (job_came c.self.inside.back c.job_tell.new.self c.args.number c.args.answer.now c.self.invariant c.job_tell.ensures.stepped).plain

pub returns-clause-stepped : goal.returns-clause-stepped
returns-clause-stepped c =
    (job_came c.self.inside.back c.job_tell.new.self c.args.number c.args.answer.now c.self.invariant c.job_tell.ensures.stepped).is ∙ ap (λ (v : View). job_step v c.args.number c.args.answer.now) c.self.view_is

pub returns-clause-hands : goal.returns-clause-hands
returns-clause-hands c = rw (returns-clause-stepped c) (job_hands_after c.args.self.now.ring c.args.number c.args.answer.now c.requires.answer)
