use Rattle.std.proofs.Common.{◌≡◌, ◌∷◌, [], refl, ap, sym, subst}
use Rattle.blk_base.specs.declared.ask.BackAsk.TheVariants.{Read}
use Rattle.blk_base.specs.declared.ask.BackAnswer.TheVariants.{Word}
use Rattle.blk_base.specs.declared.moves.BackMover.TheVariants.{Job}
use Rattle.schedule_text.specs.declared.line.Line.TheVariants.{Move}
use Rattle.hypervisor.specs.Act.{back_shown}
use Rattle.blk_back.specs.Step.{job_ask_of}
use Rattle.split_model.proofs.Moving.{job_goes_as}
use Rattle.vbd_back.specs.View.{View}
use Rattle.vbd_model.specs.World.{World}
use Rattle.schedule_run.specs.Inside.{world_of}
use Rattle.schedule_run.proofs.Moving.{job_seen, job_bus}
use Rattle.schedule_run.proofs.split.Split.job_reads.Goals as goal

pub returns : goal.returns
returns g c =
    let w : World = world_of c.self.inside.front c.self.inside.back c.self.inside.under in
    let ask = Read c.args.mapping c.args.word in
    let asked = subst (λ (x : World). ask ≡ job_ask_of x.rings.back c.args.number) (sym c.self.view_is) c.requires.asked in
    let answer = Word c.read.result in
    let shown = back_shown w.rings.under (Job c.args.number) ask answer in
    rw (← c.self.view_is) (λ disk. job_seen c.args.number 0 w c.take_told-told.new.self w.rings.under disk disk _ _ c.follow_job.result (job_bus c.args.number c.self.inside.back c.job_tell.new.self c.take_told-told.new.self answer c.job_tell.ensures.stepped c.take_told-told.ensures.taken)
    (job_goes_as w.rings c.args.number ask (answer, shown) c.job_tell.new.self.ring c.take_told-told.new.self.ring w.rings.under c.take_told-told.result disk _ _ c.follow_job.result
    asked tt (rw c.read.ensures refl) refl refl refl (ap (λ (v : View). v.ring) c.job_tell.ensures.stepped) c.take_told-told.ensures.told (ap (λ (v : View). v.ring) c.take_told-told.ensures.taken)
    (c.follow_job.ensures (Move shown ∷ []) _ c.show_back-shown.ensures)))
