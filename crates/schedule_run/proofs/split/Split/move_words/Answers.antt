use Rattle.std.proofs.Common.{◌∙◌, sym, subst}
use Rattle.vbd_back.specs.View.{View}
use Rattle.vbd_model.specs.World.{World}
use Rattle.vbd_model.specs.Fit.{IsFit}
use Rattle.round_laws.specs.Calls.{MayMoveAtOnce, JobsMayMove}
use Rattle.round_laws.proofs.Called.{jobs_may_move}
use Rattle.schedule_run.specs.Inside.{world_of}
use Rattle.schedule_run.proofs.AtOnce.{front_few, back_few, moved_so, moved_fit}
use Rattle.schedule_run.proofs.split.Split.move_words.Goals as goal

pub move_back-requires-clause-told : goal.move_back-requires-clause-told
move_back-requires-clause-told c = c.self.invariant.1.safe.back_told

pub move_back-requires-clause-few : goal.move_back-requires-clause-few
move_back-requires-clause-few c =
    back_few c.args.count c.self.inside.front c.self.inside.back c.self.inside.under (subst (λ (x : World). MayMoveAtOnce c.args.count x) (sym c.self.view_is) c.requires)

pub move_back-requires-clause-live : goal.move_back-requires-clause-live
move_back-requires-clause-live c = c.self.invariant.1.safe.held.live

pub move_jobs-requires-clause-may : goal.move_jobs-requires-clause-may
move_jobs-requires-clause-may c =
    let w : World = world_of c.self.inside.front c.self.inside.back c.self.inside.under in
    subst (λ (b : View). JobsMayMove c.args.count c.self.inside.under b.ring) (sym c.move_back.ensures.back) (jobs_may_move c.args.count w (subst (λ (x : World). MayMoveAtOnce c.args.count x) (sym c.self.view_is) c.requires))

pub move_jobs-requires-clause-live : goal.move_jobs-requires-clause-live
move_jobs-requires-clause-live c = rw c.move_back.ensures.hands c.self.invariant.1.safe.held.live

pub move_front-requires-clause-told : goal.move_front-requires-clause-told
move_front-requires-clause-told c = c.self.invariant.1.safe.front_told

pub move_front-requires-clause-few : goal.move_front-requires-clause-few
move_front-requires-clause-few c =
    front_few c.args.count c.self.inside.front c.self.inside.back c.self.inside.under c.self.invariant.0 (subst (λ (x : World). MayMoveAtOnce c.args.count x) (sym c.self.view_is) c.requires)

pub invariant_of-self : goal.invariant_of-self
invariant_of-self c =
    let w : World = world_of c.self.inside.front c.self.inside.back c.self.inside.under in
    let may = subst (λ (x : World). MayMoveAtOnce c.args.count x) (sym c.self.view_is) c.requires in
    let there = moved_so c.args.count c.self.inside.front c.move_front.new.front c.self.inside.back c.move_back.new.back c.move_jobs.new.back c.self.inside.under c.move_jobs.new.under c.move_front.new.under c.self.invariant.0 may
    c.move_back.ensures.back c.move_jobs.ensures.back c.move_jobs.ensures.under c.move_front.ensures.front c.move_front.ensures.under in
    (c.move_front.ensures.news ∙ c.self.invariant.0, subst IsFit (sym there) (moved_fit c.args.count w may c.self.invariant.1))

pub returns : goal.returns
returns c =
    let may = subst (λ (x : World). MayMoveAtOnce c.args.count x) (sym c.self.view_is) c.requires in
    rw (← c.self.view_is) (moved_so c.args.count c.self.inside.front c.move_front.new.front c.self.inside.back c.move_back.new.back c.move_jobs.new.back c.self.inside.under c.move_jobs.new.under c.move_front.new.under c.self.invariant.0 may
    c.move_back.ensures.back c.move_jobs.ensures.back c.move_jobs.ensures.under c.move_front.ensures.front c.move_front.ensures.under)
