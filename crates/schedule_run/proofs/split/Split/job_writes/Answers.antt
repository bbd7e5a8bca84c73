use Rattle.std.proofs.Common.{◌≡◌, ◌∷◌, [], refl, ap, sym, subst}
use Rattle.blk_base.specs.declared.ask.BackAsk.TheVariants.{Write}
use Rattle.blk_base.specs.declared.ask.BackAnswer.TheVariants.{Done}
use Rattle.blk_base.specs.declared.moves.BackMover.TheVariants.{Job}
use Rattle.schedule_text.specs.declared.line.Line.TheVariants.{Move}
use Rattle.hypervisor.specs.Hypervisor.{Hypervisor}
use Rattle.hypervisor.specs.Act.{back_shown}
use Rattle.blk_back.specs.Step.{job_ask_of}
use Rattle.split_model.proofs.Moving.{job_goes_as}
use Rattle.vbd_back.specs.View.{View}
use Rattle.vbd_model.specs.World.{World}
use Rattle.schedule_run.specs.Inside.{world_of}
use Rattle.schedule_run.proofs.Moving.{job_seen, job_bus}
use Rattle.schedule_run.proofs.split.Split.job_writes.Goals as goal

pub returns : goal.returns
returns g c =
    let w : World = world_of c.self.inside.front c.self.inside.back c.self.inside.under in
    let ask = Write c.args.mapping c.args.word c.args.value in
    let asked = subst (λ (x : World). ask ≡ job_ask_of x.rings.back c.args.number) (sym c.self.view_is) c.requires.asked in
    let u = c.write.new.self in
    let shown = back_shown u (Job c.args.number) ask Done in
    rw (← c.self.view_is) (λ disk. job_seen c.args.number 0 w c.take_told-told.new.self u disk disk _ _ c.follow_job.result (job_bus c.args.number c.self.inside.back c.job_tell.new.self c.take_told-told.new.self Done c.job_tell.ensures.stepped c.take_told-told.ensures.taken)
    (job_goes_as w.rings c.args.number ask (Done, shown) c.job_tell.new.self.ring c.take_told-told.new.self.ring u c.take_told-told.result disk _ _ c.follow_job.result
    asked tt (rw c.write.ensures refl) c.write.ensures refl (ap (λ (h : Hypervisor). h.grants) c.write.ensures)
    (ap (λ (v : View). v.ring) c.job_tell.ensures.stepped) c.take_told-told.ensures.told (ap (λ (v : View). v.ring) c.take_told-told.ensures.taken)
    (c.follow_job.ensures (Move shown ∷ []) _ c.show_back-shown.ensures)))
