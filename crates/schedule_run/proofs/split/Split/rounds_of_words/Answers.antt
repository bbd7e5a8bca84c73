use Rattle.std.proofs.Common.{subst, arith}
use Rattle.vbd_front.specs.View.{View}
use Rattle.vbd_model.specs.World.{World}
use Rattle.schedule_run.specs.Inside.{world_of}
use Rattle.schedule_run.specs.Looking.{FrontSays}
use Rattle.schedule_run.proofs.AtOnce.{heard_so}
use Rattle.schedule_run.proofs.Looking.{may_move_so}
use Rattle.schedule_run.proofs.split.Split.rounds_of_words.Goals as goal

pub words_of_back-count-requires : goal.words_of_back-count-requires
words_of_back-count-requires c = record { live = c.self.invariant.1.safe.held.live }

pub words_of_jobs-requires : goal.words_of_jobs-requires
words_of_jobs-requires c = record { live = c.self.invariant.1.safe.held.live }

pub returns-clause-words : goal.returns-clause-words
returns-clause-words c = λ some.
    let w : World = world_of c.self.inside.front c.self.inside.back c.self.inside.under in
    let n = c.words_of_jobs.result in
    let few = c.words_of_jobs.ensures.few in
    let fewer = c.words_of_back-count.ensures.few in
    rw (← c.self.view_is)
    (may_move_so n w c.words_of_front-count.new.marks c.words_of_back-count.new.marks c.self.invariant.1
    (subst (λ (f : View). FrontSays n f w.rings.under c.words_of_front-count.new.marks) (heard_so c.self.inside.front c.self.invariant.0) (c.words_of_front-count.ensures.front n some (omega (arith, few, fewer))))
    (c.words_of_back-count.ensures.back n some few)
    (c.words_of_jobs.ensures.jobs some))
