use Rattle.std.proofs.Common.{refl, ap, ◌∙◌}
use Rattle.split_model.specs.Happening as ring
use Rattle.split_model.proofs.Moving.{submitted, submit_goes}
use Rattle.vbd_front.specs.View.{View}
use Rattle.vbd_model.specs.World.{World}
use Rattle.vbd_model.specs.Happening.{Submits}
use Rattle.schedule_run.specs.Inside.{world_of}
use Rattle.schedule_run.proofs.Moving.{front_seen_as, front_part_fit}
use Rattle.schedule_run.proofs.split.Split.submit.Goals as goal

pub invariant_of-self : goal.invariant_of-self
invariant_of-self g c =
    let w : World = world_of c.self.inside.front c.self.inside.back c.self.inside.under in
    front_part_fit (Submits c.args.job) (ring.Submits c.args.job) w c.submit-answer.new.self refl refl refl
    (ap (λ (v : View). v.news) c.submit-answer.ensures.front ∙ c.self.invariant.0) (ap (λ (v : View). v.bus) c.submit-answer.ensures.front)
    (submitted w.rings c.args.job c.submit-answer.new.self.ring (ap (λ (v : View). v.ring) c.submit-answer.ensures.front)) c.self.invariant.1

pub returns-clause-goes : goal.returns-clause-goes
returns-clause-goes g c =
    let w : World = world_of c.self.inside.front c.self.inside.back c.self.inside.under in
    rw (← c.self.view_is) (λ disk. front_seen_as (Submits c.args.job) (ring.Submits c.args.job) w c.submit-answer.new.self disk _ _ c.add.result refl refl refl (ap (λ (v : View). v.bus) c.submit-answer.ensures.front) refl
    (submit_goes w.rings c.args.job c.submit-answer.new.self.ring c.submit-answer.result c.submit_line.result disk _ _ c.add.result (ap (λ (v : View). v.ring) c.submit-answer.ensures.front) c.submit-answer.ensures.answer c.submit_line.ensures c.add.ensures))
